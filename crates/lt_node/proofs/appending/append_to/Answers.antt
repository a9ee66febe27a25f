use Rattle.std.proofs.Common.{◌++◌, ◌∙◌, List, [], ◌∷◌, ap, refl}
use Rattle.lt_modes.specs.declared.command.Command.{Command}
use Rattle.lt_node.proofs.ForgettingLemmas.{made_more, made_same, seen_more}
use Rattle.lt_node.proofs.appending.append_to.Goals as goal

pub invariant_of-list : goal.invariant_of-list
invariant_of-list c = made_same c.list.inside.past.items c.list.inside.gone c.list.inside.kept _ refl c.reserve.ensures.items c.list.invariant

pub add_command-requires-clause-room : goal.add_command-requires-clause-room
add_command-requires-clause-room c = c.requires.room

pub add_command-requires-clause-request : goal.add_command-requires-clause-request
add_command-requires-clause-request c = (c.requires.client, c.requires.targets)

pub add_command-requires-clause-modes : goal.add_command-requires-clause-modes
add_command-requires-clause-modes c = c.requires.modes

pub invariant_of-list-in_err-add_command : goal.invariant_of-list-in_err-add_command
invariant_of-list-in_err-add_command c = made_same c.list.inside.past.items c.list.inside.gone c.list.inside.kept _ refl c.reserve.ensures.items c.list.invariant

pub invariant_of-list-2 : goal.invariant_of-list-2
invariant_of-list-2 c =
    made_more c.list.inside.past.items c.list.inside.gone c.list.inside.kept _ refl c.args.command
    (c.push_reserved.ensures.items ∙ ap (λ (l : List Command). l ++ c.args.command ∷ []) c.reserve.ensures.items) c.list.invariant

pub returns-clause-list : goal.returns-clause-list
returns-clause-list c =
    seen_more c.list.inside.past.items c.list.inside.gone c.list.inside.kept c.push_reserved.new.self.items c.args.command c.args.list.now c.list.view_is
    (c.push_reserved.ensures.items ∙ ap (λ (l : List Command). l ++ c.args.command ∷ []) c.reserve.ensures.items)

pub returns-clause-script : goal.returns-clause-script
returns-clause-script c = c.in_ok-add_command.ensures.added
