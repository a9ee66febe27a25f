-- Which client is the first whose commands don't ask for sets in order, in small scripts.
use Rattle.std.specs.Prelude.{◌≡◌, Some, None, [], ◌∷◌, codes}
use Rattle.lt_modes.specs.declared.mode.Mode.TheVariants.{Read, Upgrade, Write}
use Rattle.lt_modes.specs.declared.command.Command.TheVariants.{Lock, Try, Unlock, Change, DropAll, Withdraw}
use Rattle.lt_modes.specs.Script.{ScriptData}
use Rattle.lt_law_examples.specs.Worked.{declared_set, declared_client}
use Rattle.lt_spec.specs.Ordered.{first_bad}

-- One lock, and its unlock.
abbrev pub locked_once : ScriptData
locked_once = record {
  version = 1;
  nodes = 1;
  sets = declared_set (codes "s") 0 ∷ [];
  clients = declared_client (codes "a") 0 ∷ [];
  commands =
      (0, Lock 0 Write) ∷
      (0, Unlock 0 Write) ∷
      [];
}

abbrev pub LockThenUnlockRow : Type 0
LockThenUnlockRow = first_bad locked_once ≡ None

-- Two clients in turn.
abbrev pub two_in_turn : ScriptData
two_in_turn = record {
  version = 1;
  nodes = 1;
  sets = declared_set (codes "s") 0 ∷ [];
  clients = declared_client (codes "a") 0 ∷ declared_client (codes "b") 0 ∷ [];
  commands =
      (0, Lock 0 Write) ∷
      (0, Unlock 0 Write) ∷
      (1, Lock 0 Write) ∷
      (1, Unlock 0 Write) ∷
      [];
}

abbrev pub WriteInTurnRow : Type 0
WriteInTurnRow = first_bad two_in_turn ≡ None

-- A lock that is held at the end.
abbrev pub one_kept : ScriptData
one_kept = record {
  version = 1;
  nodes = 1;
  sets = declared_set (codes "s") 0 ∷ [];
  clients = declared_client (codes "a") 0 ∷ declared_client (codes "b") 0 ∷ [];
  commands =
      (0, Lock 0 Write) ∷
      (1, Lock 0 Write) ∷
      [];
}

abbrev pub WriteKeptRow : Type 0
WriteKeptRow = first_bad one_kept ≡ Some 0

-- A change of mode.
abbrev pub change_of_mode : ScriptData
change_of_mode = record {
  version = 1;
  nodes = 2;
  sets = declared_set (codes "s") 0 ∷ [];
  clients = declared_client (codes "a") 0 ∷ declared_client (codes "b") 1 ∷ [];
  commands =
      (0, Lock 0 Upgrade) ∷
      (0, Change 0 Upgrade Write) ∷
      (1, Lock 0 Read) ∷
      (1, Unlock 0 Read) ∷
      [];
}

abbrev pub ChangeOfModeRow : Type 0
ChangeOfModeRow = first_bad change_of_mode ≡ Some 0

-- Two sets, of which the second client asks for the later one first.
abbrev pub against_the_order : ScriptData
against_the_order = record {
  version = 1;
  nodes = 1;
  sets = declared_set (codes "s") 0 ∷ declared_set (codes "r") 1 ∷ [];
  clients = declared_client (codes "a") 0 ∷ declared_client (codes "b") 0 ∷ [];
  commands =
      (0, Lock 0 Write) ∷
      (0, Lock 1 Write) ∷
      (0, Unlock 1 Write) ∷
      (0, Unlock 0 Write) ∷
      (1, Lock 1 Write) ∷
      (1, Lock 0 Write) ∷
      (1, Unlock 0 Write) ∷
      (1, Unlock 1 Write) ∷
      [];
}

abbrev pub AgainstTheOrderRow : Type 0
AgainstTheOrderRow = first_bad against_the_order ≡ Some 1

-- A script with a node alone.
abbrev pub no_clients : ScriptData
no_clients = record {
  version = 1;
  nodes = 1;
  sets = [];
  clients = [];
  commands =
      [];
}

abbrev pub NoClientsRow : Type 0
NoClientsRow = first_bad no_clients ≡ None

-- A family is dropped at once, with a lock that was tried and one that was unlocked twice.
abbrev pub family_dropped : ScriptData
family_dropped = record {
  version = 1;
  nodes = 2;
  sets = declared_set (codes "s") 0 ∷ declared_set (codes "r") 0 ∷ [];
  clients = declared_client (codes "a") 1 ∷ [];
  commands =
      (0, Lock 0 Read) ∷
      (0, Try 1 Write) ∷
      (0, Unlock 0 Read) ∷
      (0, Unlock 0 Read) ∷
      (0, DropAll 0 0) ∷
      [];
}

abbrev pub FamilyDroppedRow : Type 0
FamilyDroppedRow = first_bad family_dropped ≡ None

-- A client drops the locks of another one.
abbrev pub drop_of_another : ScriptData
drop_of_another = record {
  version = 1;
  nodes = 1;
  sets = declared_set (codes "s") 0 ∷ [];
  clients = declared_client (codes "a") 0 ∷ declared_client (codes "b") 0 ∷ [];
  commands =
      (0, Lock 0 Read) ∷
      (0, Unlock 0 Read) ∷
      (1, DropAll 0 0) ∷
      [];
}

abbrev pub DropOfAnotherRow : Type 0
DropOfAnotherRow = first_bad drop_of_another ≡ Some 1

-- Waits are given up: a client's own, while it holds a lock, and another one's.
abbrev pub waits_given_up : ScriptData
waits_given_up = record {
  version = 3;
  nodes = 2;
  sets = declared_set (codes "s") 0 ∷ declared_set (codes "r") 1 ∷ [];
  clients = declared_client (codes "a") 1 ∷ declared_client (codes "b") 1 ∷ [];
  commands =
      (0, Lock 0 Read) ∷
      (0, Lock 1 Write) ∷
      (0, Withdraw 0 1) ∷
      (0, Unlock 1 Write) ∷
      (0, Unlock 0 Read) ∷
      (1, Withdraw 0 0) ∷
      [];
}

abbrev pub WaitsGivenUpRow : Type 0
WaitsGivenUpRow = first_bad waits_given_up ≡ None

-- What may have been got before the wait was given up is to be released.
abbrev pub given_up_and_kept : ScriptData
given_up_and_kept = record {
  version = 3;
  nodes = 1;
  sets = declared_set (codes "s") 0 ∷ [];
  clients = declared_client (codes "a") 0 ∷ [];
  commands =
      (0, Lock 0 Write) ∷
      (0, Withdraw 0 0) ∷
      [];
}

abbrev pub GivenUpAndKeptRow : Type 0
GivenUpAndKeptRow = first_bad given_up_and_kept ≡ Some 0
