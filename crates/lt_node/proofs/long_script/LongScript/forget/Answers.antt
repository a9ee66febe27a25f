use Rattle.lt_node.proofs.ForgettingLemmas.{all_forgotten, long_still}
use Rattle.lt_node.proofs.long_script.LongScript.forget.Goals as goal

pub invariant_of-self : goal.invariant_of-self
invariant_of-self c =
    long_still c.self.inside.past.items c.and-self-inside.result.items c.self.inside.kept c.in_ok-bare.bare c.self.inside.gone c.commands-self-inside.result c.args.self.now c.self.view_is c.and-self-inside.ensures c.in_ok-bare.ensures c.commands-self-inside.ensures
    c.self.invariant

pub returns-clause-forgotten : goal.returns-clause-forgotten
returns-clause-forgotten c =
    all_forgotten c.self.inside.past.items c.and-self-inside.result.items c.self.inside.kept c.in_ok-bare.bare c.self.inside.gone c.commands-self-inside.result c.args.self.now c.self.view_is c.and-self-inside.ensures c.in_ok-bare.ensures c.commands-self-inside.ensures
