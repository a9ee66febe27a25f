-- Scripts whose clients ask for sets in order and change locks that exclude themselves.
use Rattle.std.specs.Prelude.{Bool, true, ◌&&◌, ◌||◌, ◌==◌, not, nat_lt, ℕ, List, [], ◌∷◌, ◌++◌, length, IsTrue, ◌<◌, ◌≡◌, Some, take, Contains, IsFalse, is_some, false, map, codes, fold, if◌then◌else◌}
use Rattle.std.specs.List.{list_all, list_any, range_with_len}
use Rattle.lt_modes.specs.declared.mode.Mode.{Mode}
use Rattle.lt_modes.specs.declared.command.Command.{Command}
use Rattle.lt_modes.specs.declared.command.Command.TheVariants.{Lock, Try, Change, Unlock, DropAll, Withdraw}
use Rattle.lt_modes.specs.Modes.{one, covers, excludes_itself}
use Rattle.lt_modes.specs.Script.{ScriptData}
use Rattle.lt_modes.specs.declared.ask.Ask.{Ask}
use Rattle.lt_modes.specs.declared.parts.Row.{Row}
use Rattle.lt_modes.specs.Serving.{queue_of, is_gone}
use Rattle.lt_modes.specs.declared.mode.Mode.TheVariants.{Read, Upgrade, IntentionWrite, ReadIntentionWrite, Write}
use Rattle.lt_spec.specs.NodeMove.{commands_of, IsWhole}
use Rattle.lt_spec.specs.Holdings.{Holding, holding, same_holding, without_one, holdings, lines_of}
use Rattle.lt_spec.specs.Ordered.{may_hold_after, holds_none, IsOrdered}
use Rattle.lt_spec.specs.Facts.{state_at}
use Rattle.lt_spec.specs.World.{Logged, world_after, IsRun, is_at_rest, anyone_waits}
use Rattle.lt_law_examples.specs.Worked.{declared_set, declared_client}
use Rattle.lt_law_ordered.specs.OrderedLaws.{are_ranked_below}

-- one of the locks is of the set
abbrev pub has_of_set : ℕ → List Holding → Bool
has_of_set s locks = list_any (λ (lock : Holding). lock.set == s) locks

-- each of the locks is of the set, or of one with a smaller rank
abbrev pub are_beside_or_below : (ℕ → ℕ) → ℕ → List Holding → Bool
are_beside_or_below rank s locks = list_all (λ (lock : Holding). lock.set == s || nat_lt (rank lock.set) (rank s)) locks

-- a lock is changed to a mode that the old one covers; or the old mode excludes itself, and what may be held of other sets is
-- of sets with smaller ranks
abbrev pub changes_in_order : (ℕ → ℕ) → ℕ → Mode → Mode → List Holding → Bool
changes_in_order rank s gives_up mode locks = covers (one gives_up) mode || (excludes_itself gives_up && are_beside_or_below rank s locks)

-- a client that may hold these locks asks for a set only while it may hold none of it, so it holds one lock of a set at most;
-- it waits only for a set with a greater rank than theirs, or to change a lock of the set with the greatest rank; an `unlock`,
-- a `drop` and a `withdraw` need no order
abbrev pub upgrades_in_order : (ℕ → ℕ) → ℕ → List Holding → Command → Bool
upgrades_in_order rank client locks (Lock s mode) = are_ranked_below rank s locks
upgrades_in_order rank client locks (Try s mode) = not (has_of_set s locks)
upgrades_in_order rank client locks (Change s gives_up mode) = changes_in_order rank s gives_up mode locks
upgrades_in_order rank client locks other = true

-- the command gives up what this client waits for in the set
abbrev pub gives_up_wait : ℕ → ℕ → Command → Bool
gives_up_wait client s (Withdraw other set) = other == client && set == s
gives_up_wait client s other = false

-- some command of the script does
abbrev pub has_withdraw : ScriptData → ℕ → ℕ → Bool
has_withdraw script client s = list_any (λ (request : ℕ × Command). gives_up_wait client s request.1) script.commands

-- the change may be given up, so that the old lock stays: it may wait, and a `withdraw` of the script names its client and set
abbrev pub may_stay : ScriptData → ℕ → ℕ → Mode → Mode → Bool
may_stay script client s gives_up mode = has_withdraw script client s && not (covers (one gives_up) mode)

-- the lock is one of these, or comes to them
abbrev pub with_one_lock : List Holding → Holding → List Holding
with_one_lock locks lock = if list_any (same_holding lock) locks then locks else locks ++ lock ∷ []

-- what a client that may hold these locks may hold after the command: the best answer adds what it asks for and takes away
-- what it gives up, but where the change may be given up the old lock as well as the new one may be held
abbrev pub may_still_hold_after : ScriptData → ℕ → List Holding → Command → List Holding
may_still_hold_after script client locks (Change s gives_up mode) =
    with_one_lock (if may_stay script client s gives_up mode then locks else without_one locks (holding client s gives_up)) (holding client s mode)
may_still_hold_after script client locks other = may_hold_after script client locks other

-- what the client may hold after its first commands
abbrev pub may_still_hold : ScriptData → ℕ → ℕ → List Holding
may_still_hold script client made = fold (may_still_hold_after script client) [] (take made (commands_of script client))

-- from these locks on each command upgrades in order, and after the last one none may be held
abbrev pub is_upgrading_from : ScriptData → (ℕ → ℕ) → ℕ → List Holding → List Command → Bool
is_upgrading_from script rank client locks [] = holds_none locks
is_upgrading_from script rank client locks (command ∷ rest) =
    upgrades_in_order rank client locks command && is_upgrading_from script rank client (may_still_hold_after script client locks command) rest

-- each client asks for sets in the order of their ranks, changes what excludes itself, and releases all that it may hold
abbrev pub IsUpgrading : ScriptData → (ℕ → ℕ) → Type 0
IsUpgrading script rank = (client : ℕ) → client < length script.clients
    → IsTrue (is_upgrading_from script rank client [] (commands_of script client))

-- What holds of runs of scripts whose clients upgrade in order, as statements.

-- a run that is at rest has no waiting client
abbrev pub UpgradingFinish : Type 0
UpgradingFinish = (script : ScriptData) (run : List Logged) (rank : ℕ → ℕ) → IsWhole script → IsRun script run
    → IsUpgrading script rank → (k : ℕ) → IsTrue (is_at_rest script (world_after script (take k run)))
    → IsFalse (anyone_waits script (world_after script (take k run)))

-- and by its lines nothing is held then
abbrev pub UpgradingRelease : Type 0
UpgradingRelease = (script : ScriptData) (run : List Logged) (rank : ℕ → ℕ) → IsWhole script → IsRun script run
    → IsUpgrading script rank → (k : ℕ) → IsTrue (is_at_rest script (world_after script (take k run)))
    → holdings script (lines_of (take k run)) ≡ []

-- at each moment a node that holds a mode that excludes itself has the desk of the set
abbrev pub HolderHasDesk : Type 0
HolderHasDesk = (script : ScriptData) (run : List Logged) (rank : ℕ → ℕ) → IsWhole script → IsRun script run
    → IsUpgrading script rank → (k s x : ℕ) (row : Row) → s < length script.sets → x < script.nodes
    → Contains (state_at (world_after script (take k run)) s x).held row → IsTrue (excludes_itself row.mode)
    → IsTrue (is_some (state_at (world_after script (take k run)) s x).desk)

-- at each moment an ask that gives up a mode stands first in the queue of the desk, which is at its own node
abbrev pub ChangeIsNext : Type 0
ChangeIsNext = (script : ScriptData) (run : List Logged) (rank : ℕ → ℕ) → IsWhole script → IsRun script run
    → IsUpgrading script rank → (k s x : ℕ) (ask : Ask) (gives_up : Mode) → s < length script.sets → x < script.nodes
    → Contains (state_at (world_after script (take k run)) s x).pending ask → ask.gives_up ≡ Some gives_up
    → (rest : List Ask) × (queue_of (state_at (world_after script (take k run)) s x) ≡ ask ∷ rest)

-- at each moment no ask that gives up a mode is void: one that was given up has left the queue in the same move
abbrev pub NoVoidChange : Type 0
NoVoidChange = (script : ScriptData) (run : List Logged) (rank : ℕ → ℕ) → IsWhole script → IsRun script run
    → IsUpgrading script rank → (k s x : ℕ) (ask : Ask) (gives_up : Mode) → s < length script.sets → x < script.nodes
    → Contains (state_at (world_after script (take k run)) s x).pending ask → ask.gives_up ≡ Some gives_up
    → IsFalse (is_gone (state_at (world_after script (take k run)) s x) ask.client)

-- an ordered script is upgrading, by the numbers of its sets
abbrev pub OrderedIsUpgrading : Type 0
OrderedIsUpgrading = (script : ScriptData) → IsOrdered script → IsUpgrading script (λ s. s)

-- Small scripts, and whether each client of them upgrades in order, by the numbers of the sets.

-- of each client, whether it upgrades in order, by the numbers of the sets
abbrev pub upgrading_clients : ScriptData → List Bool
upgrading_clients script = map (λ client. is_upgrading_from script (λ s. s) client [] (commands_of script client)) (range_with_len 0 (length script.clients))

-- Two clients upgrade a set in turn, and one reads it.
abbrev pub upgrade_in_turn : ScriptData
upgrade_in_turn = record {
  version = 1;
  nodes = 2;
  sets = declared_set (codes "counter") 0 ∷ [];
  clients = declared_client (codes "ann") 0 ∷ declared_client (codes "ben") 1 ∷ declared_client (codes "reader") 1 ∷ [];
  commands =
      (0, Lock 0 Upgrade) ∷
      (0, Change 0 Upgrade Write) ∷
      (0, Unlock 0 Write) ∷
      (2, Lock 0 Read) ∷
      (2, Unlock 0 Read) ∷
      (1, Lock 0 Upgrade) ∷
      (1, Change 0 Upgrade Write) ∷
      (1, Unlock 0 Write) ∷
      [];
}

abbrev pub UpgradeInTurnRow : Type 0
UpgradeInTurnRow = upgrading_clients upgrade_in_turn ≡ true ∷ true ∷ true ∷ []

-- A change to `upgrade` comes too late: the client holds `read` by then, which excludes nobody who reads.
abbrev pub read_to_upgrade : ScriptData
read_to_upgrade = record {
  version = 1;
  nodes = 4;
  sets = declared_set (codes "s") 0 ∷ [];
  clients = declared_client (codes "c0") 3 ∷ declared_client (codes "c1") 0 ∷ declared_client (codes "c2") 1 ∷ [];
  commands =
      (0, Lock 0 Read) ∷
      (2, Lock 0 Write) ∷
      (2, Unlock 0 Write) ∷
      (1, Lock 0 Read) ∷
      (0, Change 0 Read Upgrade) ∷
      (1, Change 0 Read Upgrade) ∷
      (1, Unlock 0 Upgrade) ∷
      (0, Unlock 0 Upgrade) ∷
      [];
}

abbrev pub ReadToUpgradeRow : Type 0
ReadToUpgradeRow = upgrading_clients read_to_upgrade ≡ false ∷ false ∷ true ∷ []

-- A lock of an earlier set is changed while one of a later set is held, as it may be to a mode that it covers.
abbrev pub changed_while_later : ScriptData
changed_while_later = record {
  version = 1;
  nodes = 1;
  sets = declared_set (codes "s") 0 ∷ declared_set (codes "r") 1 ∷ [];
  clients = declared_client (codes "a") 0 ∷ declared_client (codes "b") 0 ∷ [];
  commands =
      (0, Lock 0 Upgrade) ∷
      (0, Lock 1 Read) ∷
      (0, Change 0 Upgrade Write) ∷
      (0, Unlock 1 Read) ∷
      (0, Unlock 0 Write) ∷
      (1, Lock 0 Upgrade) ∷
      (1, Lock 1 Read) ∷
      (1, Change 0 Upgrade Read) ∷
      (1, Unlock 1 Read) ∷
      (1, Unlock 0 Read) ∷
      [];
}

abbrev pub ChangedWhileLaterRow : Type 0
ChangedWhileLaterRow = upgrading_clients changed_while_later ≡ false ∷ true ∷ []

-- A set is tried while a lock of it is held.
abbrev pub tried_again : ScriptData
tried_again = record {
  version = 1;
  nodes = 1;
  sets = declared_set (codes "s") 0 ∷ [];
  clients = declared_client (codes "a") 0 ∷ [];
  commands =
      (0, Lock 0 Read) ∷
      (0, Try 0 IntentionWrite) ∷
      (0, DropAll 0 0) ∷
      [];
}

abbrev pub TriedAgainRow : Type 0
TriedAgainRow = upgrading_clients tried_again ≡ false ∷ []

-- A lock that is tried, changed twice and dropped.
abbrev pub changed_twice : ScriptData
changed_twice = record {
  version = 2;
  nodes = 2;
  sets = declared_set (codes "s") 0 ∷ declared_set (codes "r") 0 ∷ [];
  clients = declared_client (codes "a") 1 ∷ [];
  commands =
      (0, Lock 0 Read) ∷
      (0, Try 1 Upgrade) ∷
      (0, Change 1 Upgrade ReadIntentionWrite) ∷
      (0, Change 1 ReadIntentionWrite Write) ∷
      (0, DropAll 0 0) ∷
      [];
}

abbrev pub ChangedTwiceRow : Type 0
ChangedTwiceRow = upgrading_clients changed_twice ≡ true ∷ []

-- A change that may be given up: the old lock and the new one have to be released. One client gives up its own change and
-- tries again, the other one's change is given up by the first client, and it releases only what it asked for last.
abbrev pub given_up_change : ScriptData
given_up_change = record {
  version = 3;
  nodes = 1;
  sets = declared_set (codes "s") 0 ∷ [];
  clients = declared_client (codes "a") 0 ∷ declared_client (codes "b") 0 ∷ declared_client (codes "c") 0 ∷ [];
  commands =
      (0, Lock 0 Upgrade) ∷
      (0, Change 0 Upgrade Write) ∷
      (0, Withdraw 0 0) ∷
      (0, Change 0 Upgrade Write) ∷
      (0, Withdraw 1 0) ∷
      (0, Unlock 0 Write) ∷
      (0, Unlock 0 Upgrade) ∷
      (1, Lock 0 Upgrade) ∷
      (1, Change 0 Upgrade Write) ∷
      (1, Unlock 0 Write) ∷
      (2, Lock 0 Upgrade) ∷
      (2, Change 0 Upgrade Write) ∷
      (2, Unlock 0 Write) ∷
      [];
}

abbrev pub GivenUpChangeRow : Type 0
GivenUpChangeRow = upgrading_clients given_up_change ≡ true ∷ false ∷ true ∷ []
