use Rattle.lt_node.proofs.ForgettingLemmas.{long_more, none_added, request_added}
use Rattle.lt_node.proofs.long_script.LongScript.add_command.Goals as goal

pub invariant_of-self : goal.invariant_of-self
invariant_of-self c =
    long_more c.add_command.result c.self.inside.past.items c.self.inside.kept c.add_command.new.self c.self.inside.gone c.args.client c.args.command c.args.self.now c.self.view_is c.add_command.ensures.added
    c.add_command.ensures.unchanged c.requires.room c.self.invariant

pub returns-clause-added : goal.returns-clause-added
returns-clause-added c =
    request_added c.add_command.result c.self.inside.past.items c.self.inside.kept c.add_command.new.self c.self.inside.gone c.args.client c.args.command c.args.self.now c.self.view_is c.add_command.ensures.added

pub returns-clause-same : goal.returns-clause-same
returns-clause-same c =
    none_added c.add_command.result c.self.inside.past.items c.self.inside.kept c.add_command.new.self c.self.inside.gone c.args.client c.args.command c.args.self.now c.self.view_is c.add_command.ensures.added
    c.add_command.ensures.unchanged
