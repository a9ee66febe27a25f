use Rattle.std.proofs.Common.{◌∙◌, ap, arith, sym}
use Rattle.lt_modes.specs.Modes.{locks_of}
use Rattle.lt_modes.specs.State.{SetState}
use Rattle.lt_node.specs.NodeData.{state_of}
use Rattle.lt_node.proofs.TouchedLemmas.{few_held}
use Rattle.lt_node.proofs.node.Node.with_dropped.Goals as goal

pub overflow_add-all : goal.overflow_add-all
overflow_add-all c =
    let few = few_held (state_of c.args.self.now) c.args.client c.args.set c.args.other (sym c.leaves_room_in.ensures ∙ c.if-not-leaves_room_in.false) in
    let own = ap (λ (s : SetState). locks_of s.held c.args.other) c.core.ensures in
    omega (arith, few, c.held_count.ensures, own, c.requires.few)
