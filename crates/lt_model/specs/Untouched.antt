-- Sets that no move touched.
use Rattle.std.specs.Prelude.{◌≡◌, ℕ}
use Rattle.lt_modes.specs.declared.stamp.Stamp.{Stamp}
use Rattle.lt_modes.specs.SetMove.{drop, finish}
use Rattle.lt_modes.specs.State.{first_state, silent}

-- the end of a move makes nothing of such a set
abbrev pub EndsSilently : Type 0
EndsSilently = (nodes me set : ℕ) (stamp : Stamp)
    → finish set stamp (first_state nodes me) ≡ silent (first_state nodes me)

-- neither does a drop of a client's locks
abbrev pub DropsSilently : Type 0
DropsSilently = (nodes me set client : ℕ) (stamp : Stamp)
    → drop set stamp client (first_state nodes me) ≡ silent (first_state nodes me)
