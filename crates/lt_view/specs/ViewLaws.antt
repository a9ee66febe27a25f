-- What a listing of a client's locks says.
use Rattle.std.specs.Prelude.{◌≡◌, ◌<◌, ◌≤◌, ℕ, IsTrue, IsFalse, Some, None, length}
use Rattle.lt_modes.specs.declared.mode.Mode.{Mode}
use Rattle.lt_modes.specs.Script.{ScriptData}
use Rattle.lt_spec.specs.NodeMove.{NodeState}
use Rattle.lt_view.specs.View.{first_held, holds_in, count_held}

-- the set is one of the script from this one on in which the client holds a lock, and it holds none in those between
pub record IsFirstHeld (script : ScriptData) (n : NodeState) (client from set : ℕ) : Type 0 where
  pub later : from ≤ set
  pub inside : set < length script.sets
  pub held : IsTrue (holds_in n client set)
  pub none_between : (k : ℕ) → from ≤ k → k < set → IsFalse (holds_in n client k)

-- a set that is found is the first one
abbrev pub FindsHeld : Type 0
FindsHeld = (script : ScriptData) (n : NodeState) (client from set : ℕ)
    → first_held script n client from ≡ Some set → IsFirstHeld script n client from set

-- where none is found, the client holds no lock in any from this one on
abbrev pub FindsNoneHeld : Type 0
FindsNoneHeld = (script : ScriptData) (n : NodeState) (client from : ℕ)
    → first_held script n client from ≡ None
    → (k : ℕ) → from ≤ k → k < length script.sets → IsFalse (holds_in n client k)

-- a client holds a lock in a set of the script exactly if it holds at least one of some mode there
pub record HoldsBy (script : ScriptData) (n : NodeState) (client set : ℕ) : Type 0 where
  pub some : (mode : Mode) → 0 < count_held script n client set mode → IsTrue (holds_in n client set)
  pub none : IsFalse (holds_in n client set) → (mode : Mode) → count_held script n client set mode ≡ 0

abbrev pub HoldsByLocks : Type 0
HoldsByLocks = (script : ScriptData) (n : NodeState) (client set : ℕ) → HoldsBy script n client set
