-- Events behind moves that are forgotten.
use Rattle.std.proofs.Common.{◌≡◌, ◌<◌, List, [], ◌∷◌, ◌++◌, length, refl, ap, arith}
use Rattle.lt_modes.specs.declared.event.Event.{Event}
use Rattle.lt_spec.specs.World.{Logged}
use Rattle.lt_merge.specs.Merging.{with_event}

-- an event more of the last move, where others stand before those that are kept
pub behind : (past kept : List Logged) (event : Event) → 0 < length kept → with_event (past ++ kept) event ≡ past ++ with_event kept event
behind [] kept event some = refl
behind (entry ∷ []) [] event some = absurd (omega (arith, some))
behind (entry ∷ []) (x ∷ kept) event some = refl
behind (entry ∷ next ∷ past) kept event some = ap (λ es. entry ∷ es) (behind (next ∷ past) kept event some)
