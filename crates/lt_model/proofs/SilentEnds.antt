-- A set that no move touched stays so at the end of a move.
use Rattle.std.proofs.Common.{◌≡◌, ◌==◌, ◌&&◌, ◌||◌, not, if◌then◌else◌, ℕ, zero, suc, ◌+◌, Bool, true, false, [], replicate, Some, None, refl}
use Rattle.lt_modes.specs.declared.stamp.Stamp.{Stamp}
use Rattle.lt_modes.specs.Freezing.{frozen_by, frozen_entry, is_target, map_from, places_from}
use Rattle.lt_modes.specs.Modes.{Modes, conflicts, no_modes}
use Rattle.lt_modes.specs.SetMove.{finish}
use Rattle.lt_modes.specs.State.{SetState, first_desk, first_entry, first_state, silent}
use Rattle.lt_model.specs.Untouched.{DropsSilently, EndsSilently}

-- a node without a record is told of no frozen modes
no_target : (me x : ℕ) (frozen : Modes) → is_target me frozen x first_entry ≡ false
no_target me x frozen = elim (x == me) as (λ t. (not t && false) ≡ false) [
  | true ↦ refl
  | false ↦ refl
]

none_told : (me k n : ℕ) (frozen : Modes) → places_from (is_target me frozen) k (replicate n first_entry) ≡ []
none_told me k zero frozen = refl
none_told me k (suc n) frozen = rw (no_target me k frozen) (none_told me (k + 1) n frozen)

-- and where no ask waits, no mode is frozen
kept : (me x : ℕ) → frozen_entry me (frozen_by []) x first_entry ≡ first_entry
unfolding conflicts
kept me x = rw (no_target me x no_modes) (elim (x == me) as (λ t. (if t || false then first_entry else first_entry) ≡ first_entry) [
  | true ↦ refl
  | false ↦ refl
])

all_kept : (me k n : ℕ) → map_from (frozen_entry me (frozen_by [])) k (replicate n first_entry) ≡ replicate n first_entry
all_kept me k zero = refl
all_kept me k (suc n) = rw (kept me k, all_kept me (k + 1) n) refl

module _ (nodes set : ℕ) (stamp : Stamp) where
  abbrev state_by : Bool → SetState
  state_by here = record (first_state nodes 0) { desk = if here then Some (first_desk nodes) else None }

  silent_by : (here : Bool) → finish set stamp (state_by here) ≡ silent (state_by here)
  unfolding conflicts
  silent_by true = rw (none_told stamp.node 0 nodes (frozen_by []), all_kept stamp.node 0 nodes) refl
  silent_by false = refl

pub silent_end : EndsSilently
silent_end nodes me set stamp = silent_by nodes set stamp (me == 0)

pub silent_drop : DropsSilently
silent_drop nodes me set client stamp = silent_by nodes set stamp (me == 0)
