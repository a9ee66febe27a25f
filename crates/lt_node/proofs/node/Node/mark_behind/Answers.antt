use Rattle.std.proofs.Common.{◌≡◌, ◌∙◌, ◌||◌, ℕ, Bool, false, ap, subst, sym}
use Rattle.std.proofs.Math.Bool.{or-false}
use Rattle.lt_modes.specs.Waiting.{stands_before, parked_behind}
use Rattle.lt_modes.specs.State.{SetState}
use Rattle.lt_node.specs.Marks.{AreAdded}
use Rattle.lt_node.proofs.AddedLemmas.{added_same, parked_none}
use Rattle.lt_node.proofs.node.Node.mark_behind.Goals as goal

pub returns-else-parks : goal.returns-else-parks
returns-else-parks c =
    let old = c.args.marks.now.items in
    let new = c.mark_queued.new.marks.items in
    let client = c.args.client in
    let none : (other : ℕ) → parked_behind c.core-core.result.now.state other client ≡ false =
    λ other. parked_none c.core-core.result.now.state client other (sym c.parks.ensures ∙ c.if-parks.false) in
    subst (λ (s : SetState). AreAdded (λ other. stands_before s other client || parked_behind s other client) old new) c.core-core.ensures
    (added_same _ _ old new (λ other inside.
    sym (ap (λ (b : Bool). stands_before c.core-core.result.now.state other client || b) (none other) ∙ or-false (stands_before c.core-core.result.now.state other client)))
    c.mark_queued.ensures)
