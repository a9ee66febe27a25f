-- A run with a fault.
use Rattle.std.specs.Prelude.{List, [], ◌∷◌, codes, true, false, None}
use Rattle.lt_modes.specs.Script.{ScriptData}
use Rattle.lt_modes.specs.declared.mode.Mode.TheVariants.{Read, Write, IntentionRead, Upgrade, IntentionWrite}
use Rattle.lt_modes.specs.declared.command.Command.TheVariants.{Lock, Try}
use Rattle.lt_modes.specs.declared.event.Event.TheVariants.{Grant, Wait, Try as Tried, Unlock as Unlocked}
use Rattle.lt_modes.specs.declared.ask.Ask.{Ask}
use Rattle.lt_spec.specs.World.{Logged}
use Rattle.lt_spec.specs.Promised.{Promised}
use Rattle.lt_law_examples.specs.Worked.{declared_set, declared_client, act}
use Rattle.lt_law_examples.specs.Snapshot.{stamp, new_ask, holder_ask}

-- a script, and entries that are to be no promised run of it
pub record Faulty : Type 0 where
  pub script : ScriptData
  pub run : List Logged

-- not all that is promised holds of the run
abbrev pub IsExcluded : Faulty → Type 0
IsExcluded row = Promised row.script row.run → ⊥

-- Runs whose lines don't tell who waits.

-- three clients of one node, and two sets
abbrev pub three_clients : ScriptData
three_clients = record {
  version = 1;
  nodes = 1;
  sets = declared_set (codes "s") 0 ∷ declared_set (codes "t") 1 ∷ [];
  clients =
      declared_client (codes "a") 0 ∷
      declared_client (codes "b") 0 ∷
      declared_client (codes "c") 0 ∷
      [];
  commands = (0, Lock 0 Write) ∷ (1, Lock 0 Write) ∷ (2, Lock 0 Write) ∷ [];
}

-- Two clients wait, and of the second one, at the last move, it isn't told.
abbrev pub wait_untold : Faulty
wait_untold = record {
  script = three_clients;
  run =
      act 1 0 0 (Grant 0 0 Write ∷ []) ∷
      act 2 0 1 (Wait 1 0 Write ∷ []) ∷
      act 3 0 2 [] ∷
      [];
}

-- It is told of a third client, too, which doesn't wait yet; so it is told right at the end.
abbrev pub wait_told_early : Faulty
wait_told_early = record {
  script = three_clients;
  run =
      act 1 0 0 (Grant 0 0 Write ∷ []) ∷
      act 2 0 1 (Wait 1 0 Write ∷ Wait 2 0 Write ∷ []) ∷
      act 3 0 2 [] ∷
      [];
}

-- The one waiter is told to wait for another mode.
abbrev pub other_mode_told : Faulty
other_mode_told = record {
  script = three_clients;
  run = act 1 0 0 (Grant 0 0 Write ∷ []) ∷ act 2 0 1 (Wait 1 0 Read ∷ []) ∷ [];
}

-- The one waiter is told to wait in another set.
abbrev pub other_set_told : Faulty
other_set_told = record {
  script = three_clients;
  run = act 1 0 0 (Grant 0 0 Write ∷ []) ∷ act 2 0 1 (Wait 1 1 Write ∷ []) ∷ [];
}

-- The waiter is told to be answered while it waits.
abbrev pub answer_told : Faulty
answer_told = record {
  script = three_clients;
  run =
      act 1 0 0 (Grant 0 0 Write ∷ []) ∷
      act 2 0 1 (Wait 1 0 Write ∷ []) ∷
      act 3 0 2 (Wait 2 0 Write ∷ Grant 1 9 Read ∷ []) ∷
      [];
}

-- Nobody is told to wait, and one client does.
abbrev pub nobody_told : Faulty
nobody_told = record {
  script = three_clients;
  run = act 1 0 0 (Grant 0 0 Write ∷ []) ∷ act 2 0 1 [] ∷ [];
}

-- One client is told to wait, and nobody does.
abbrev pub somebody_told : Faulty
somebody_told = record {
  script = three_clients;
  run = act 1 0 0 (Grant 0 0 Write ∷ Wait 1 0 Write ∷ []) ∷ [];
}

-- Runs in which a `try` is told wrongly. A further line of the same move makes up for it, so that the lines tell what
-- is held.

-- two clients of one node that try to read, or one writes and the other one tries
abbrev pub two_readers : ScriptData
two_readers = record {
  version = 1;
  nodes = 1;
  sets = declared_set (codes "s") 0 ∷ [];
  clients = declared_client (codes "a") 0 ∷ declared_client (codes "b") 0 ∷ [];
  commands = (0, Try 0 Read) ∷ (1, Try 0 Read) ∷ [];
}

abbrev pub writer_and_reader : ScriptData
writer_and_reader = record two_readers { commands = (0, Lock 0 Write) ∷ (1, Try 0 Read) ∷ [] }

-- The first `try` could be granted, and is told not to be.
abbrev pub refused_at_first : Faulty
refused_at_first = record {
  script = two_readers;
  run = act 1 0 0 (Tried 0 0 Read false ∷ Grant 0 0 Read ∷ []) ∷ act 2 0 1 (Tried 1 0 Read true ∷ []) ∷ [];
}

-- The second one, at the last move, could be granted, and is told not to be.
abbrev pub refused_at_second : Faulty
refused_at_second = record {
  script = two_readers;
  run = act 1 0 0 (Tried 0 0 Read true ∷ []) ∷ act 2 0 1 (Tried 1 0 Read false ∷ Grant 1 0 Read ∷ []) ∷ [];
}

-- The `try` at the second move could not be granted, and is told to be.
abbrev pub given_at_second : Faulty
given_at_second = record {
  script = writer_and_reader;
  run = act 1 0 0 (Grant 0 0 Write ∷ []) ∷ act 2 0 1 (Tried 1 0 Read true ∷ Unlocked 1 0 Read ∷ []) ∷ [];
}

-- The second line of a move tells a `try` of the other client, which could be granted, not to be.
abbrev pub refused_beside : Faulty
refused_beside = record {
  script = two_readers;
  run = act 1 0 0 (Tried 0 0 Read true ∷ Tried 1 0 IntentionRead false ∷ []) ∷ [];
}

-- Runs that end where no move is left, with a first waiter in whose way nobody is. A client that the script doesn't
-- have keeps the lock for which it waits, and no line tells it.

-- two clients of one node; a third one has commands, and isn't declared
abbrev pub undeclared : ScriptData
undeclared = record {
  version = 1;
  nodes = 1;
  sets = declared_set (codes "s") 0 ∷ declared_set (codes "t") 1 ∷ [];
  clients = declared_client (codes "a") 0 ∷ declared_client (codes "b") 0 ∷ [];
  commands = (2, Lock 0 Write) ∷ (0, Lock 0 Write) ∷ [];
}

-- No lock is told at all.
abbrev pub nobody_in_way : Faulty
nobody_in_way = record {
  script = undeclared;
  run = act 1 0 2 [] ∷ act 2 0 0 (Wait 0 0 Write ∷ []) ∷ [];
}

-- The only lock that is told, and with which the ask conflicts, is the waiter's own.
abbrev pub own_lock_in_way : Faulty
own_lock_in_way = record {
  script = record undeclared { commands = (2, Lock 0 Read) ∷ (0, Lock 0 Upgrade) ∷ (0, Lock 0 Write) ∷ [] };
  run = act 1 0 2 [] ∷ act 2 0 0 (Grant 0 0 Upgrade ∷ []) ∷ act 3 0 0 (Wait 0 0 Write ∷ []) ∷ [];
}

-- The only lock that is told is in another set.
abbrev pub lock_elsewhere : Faulty
lock_elsewhere = record {
  script = record undeclared { commands = (2, Lock 0 Write) ∷ (1, Lock 1 Write) ∷ (0, Lock 0 Write) ∷ [] };
  run = act 1 0 2 [] ∷ act 2 0 1 (Grant 1 1 Write ∷ []) ∷ act 3 0 0 (Wait 0 0 Write ∷ []) ∷ [];
}

-- The only lock that is told doesn't conflict with the ask.
abbrev pub lock_beside : Faulty
lock_beside = record {
  script = record undeclared { commands = (2, Lock 0 IntentionWrite) ∷ (1, Lock 0 IntentionRead) ∷ (0, Lock 0 Read) ∷ [] };
  run = act 1 0 2 [] ∷ act 2 0 1 (Grant 1 0 IntentionRead ∷ []) ∷ act 3 0 0 (Wait 0 0 Read ∷ []) ∷ [];
}

abbrev pub first_writer : Ask
first_writer = new_ask 0 Write (stamp 2 0)

abbrev pub holding_writer : Ask
holding_writer = holder_ask 0 Write None (stamp 3 0)

abbrev pub later_writer : Ask
later_writer = new_ask 0 Write (stamp 3 0)

abbrev pub ask_of_first_reader : Ask
ask_of_first_reader = new_ask 0 Read (stamp 3 0)
