use Rattle.std.proofs.Common.{ap, subst, sym}
use Rattle.lt_node.specs.Clients.{CommandsData, ListsFrom}
use Rattle.lt_node.proofs.CommandLemmas.{have_left}
use Rattle.lt_node.proofs.commands.Commands.take.Goals as goal

pub take_own-requires : goal.take_own-requires
take_own-requires c = subst (ListsFrom c.args.script.now c.args.node) (sym (ap (λ (d : CommandsData). d.lists) c.self.view_is)) c.requires.lists_are

pub returns-clause-left : goal.returns-clause-left
returns-clause-left c = have_left c.args.script.now c.args.node c.args.self.now _ c.requires (ap (λ (d : CommandsData). d.homes) c.self.view_is) c.take_own.ensures.left
