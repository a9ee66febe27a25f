-- Worked examples on one node.
use Rattle.std.specs.Prelude.{true, false, [], ◌∷◌, codes}
use Rattle.lt_modes.specs.declared.mode.Mode.TheVariants.{IntentionRead, Read, Upgrade, IntentionWrite, Write}
use Rattle.lt_modes.specs.declared.command.Command.TheVariants.{Lock, Try, Unlock, Change, DropAll}
use Rattle.lt_modes.specs.declared.event.Event.TheVariants.{Grant, Wait, Try as Tried, Unlock as Unlocked, NotHeld, Change as Changed, DropAll as Dropped, Busy}
use Rattle.lt_spec.specs.Holdings.{holding}
use Rattle.lt_law_examples.specs.Worked.{Worked, declared_set, declared_client, act, holds, owner, one_set}

-- A client locks and unlocks.
abbrev pub lock_then_unlock : Worked
lock_then_unlock = record {
  script = record (one_set 1 (codes "s")) {
    clients = declared_client (codes "a") 0 ∷ [];
    commands = (0, Lock 0 Write) ∷ (0, Unlock 0 Write) ∷ [];
  };
  run =
      act 1 0 0 (Grant 0 0 Write ∷ []) ∷
      act 2 0 0 (Unlocked 0 0 Write ∷ []) ∷
      [];
  held = [];
  waiting = [];
  owners = owner 0 0 ∷ [];
}

-- The second of two writers waits until the first unlocks.
abbrev pub write_in_turn : Worked
write_in_turn = record {
  script = record (one_set 1 (codes "s")) {
    clients = declared_client (codes "a") 0 ∷ declared_client (codes "b") 0 ∷ [];
    commands =
        (0, Lock 0 Write) ∷ (0, Unlock 0 Write) ∷
        (1, Lock 0 Write) ∷ (1, Unlock 0 Write) ∷
        [];
  };
  run =
      act 1 0 0 (Grant 0 0 Write ∷ []) ∷
      act 2 0 1 (Wait 1 0 Write ∷ []) ∷
      act 3 0 0 (Unlocked 0 0 Write ∷ Grant 1 0 Write ∷ []) ∷
      act 4 0 1 (Unlocked 1 0 Write ∷ []) ∷
      [];
  held = [];
  waiting = [];
  owners = owner 0 0 ∷ [];
}

-- The first of two writers never unlocks: the second waits at the end.
abbrev pub write_kept : Worked
write_kept = record {
  script = record (one_set 1 (codes "s")) {
    clients = declared_client (codes "a") 0 ∷ declared_client (codes "b") 0 ∷ [];
    commands =
        (0, Lock 0 Write) ∷
        (1, Lock 0 Write) ∷
        [];
  };
  run =
      act 1 0 0 (Grant 0 0 Write ∷ []) ∷
      act 2 0 1 (Wait 1 0 Write ∷ []) ∷
      [];
  held = holds 0 0 Write 1 ∷ [];
  waiting = holding 1 0 Write ∷ [];
  owners = owner 0 0 ∷ [];
}

-- One client holds several locks of two modes; another one tries a mode that goes with them and two that don't.
abbrev pub many_locks : Worked
many_locks = record {
  script = record (one_set 1 (codes "s")) {
    clients = declared_client (codes "a") 0 ∷ declared_client (codes "b") 0 ∷ [];
    commands =
        (0, Lock 0 Read) ∷ (0, Lock 0 Read) ∷ (0, Lock 0 IntentionWrite) ∷ (0, Unlock 0 Read) ∷
        (1, Try 0 IntentionRead) ∷ (1, Unlock 0 IntentionRead) ∷ (1, Try 0 Read) ∷ (1, Try 0 IntentionWrite) ∷
        [];
  };
  run =
      act 1 0 0 (Grant 0 0 Read ∷ []) ∷
      act 2 0 1 (Tried 1 0 IntentionRead true ∷ []) ∷
      act 3 0 0 (Grant 0 0 Read ∷ []) ∷
      act 4 0 1 (Unlocked 1 0 IntentionRead ∷ []) ∷
      act 5 0 0 (Grant 0 0 IntentionWrite ∷ []) ∷
      act 6 0 1 (Tried 1 0 Read false ∷ []) ∷
      act 7 0 0 (Unlocked 0 0 Read ∷ []) ∷
      act 8 0 1 (Tried 1 0 IntentionWrite false ∷ []) ∷
      [];
  held = holds 0 0 Read 1 ∷ holds 0 0 IntentionWrite 1 ∷ [];
  waiting = [];
  owners = owner 0 0 ∷ [];
}

-- An unlock and a change of a mode that the client doesn't hold.
abbrev pub never_held : Worked
never_held = record {
  script = record (one_set 1 (codes "s")) {
    clients = declared_client (codes "a") 0 ∷ [];
    commands = (0, Unlock 0 Read) ∷ (0, Change 0 Read Write) ∷ [];
  };
  run =
      act 1 0 0 (NotHeld 0 0 Read ∷ []) ∷
      act 2 0 0 (NotHeld 0 0 Read ∷ []) ∷
      [];
  held = [];
  waiting = [];
  owners = owner 0 0 ∷ [];
}

-- A drop is busy while the client waits; later it drops the locks of all sets of the family, and a waiting client is served.
abbrev pub drop_in_family : Worked
drop_in_family = record {
  script = record {
    version = 1;
    nodes = 1;
    sets = declared_set (codes "s") 0 ∷ declared_set (codes "r") 0 ∷ [];
    clients = declared_client (codes "b") 0 ∷ declared_client (codes "c") 0 ∷ declared_client (codes "a") 0 ∷ [];
    commands =
        (0, Lock 0 Write) ∷ (0, Lock 1 Read) ∷
        (1, Lock 0 Read) ∷
        (2, DropAll 1 0) ∷ (2, DropAll 0 0) ∷
        [];
  };
  run =
      act 1 0 0 (Grant 0 0 Write ∷ []) ∷
      act 2 0 1 (Wait 1 0 Read ∷ []) ∷
      act 3 0 2 (Busy 2 1 0 ∷ []) ∷
      act 4 0 0 (Grant 0 1 Read ∷ []) ∷
      act 5 0 2 (Dropped 2 0 0 2 ∷ Grant 1 0 Read ∷ []) ∷
      [];
  held = holds 1 0 Read 1 ∷ [];
  waiting = [];
  owners = owner 0 0 ∷ owner 0 0 ∷ [];
}

-- A reader gets write at once, though another client waits for write: a holder's ask would stand before that one.
abbrev pub holder_first : Worked
holder_first = record {
  script = record (one_set 1 (codes "s")) {
    clients = declared_client (codes "c") 0 ∷ declared_client (codes "d") 0 ∷ [];
    commands =
        (0, Lock 0 Read) ∷
        (1, Lock 0 Write) ∷
        (0, Lock 0 Write) ∷
        [];
  };
  run =
      act 1 0 0 (Grant 0 0 Read ∷ []) ∷
      act 2 0 1 (Wait 1 0 Write ∷ []) ∷
      act 3 0 0 (Grant 0 0 Write ∷ []) ∷
      [];
  held = holds 0 0 Read 1 ∷ holds 0 0 Write 1 ∷ [];
  waiting = holding 1 0 Write ∷ [];
  owners = owner 0 0 ∷ [];
}

-- A write becomes a write, and then a read.
abbrev pub change_down : Worked
change_down = record {
  script = record (one_set 1 (codes "s")) {
    clients = declared_client (codes "a") 0 ∷ [];
    commands = (0, Lock 0 Write) ∷ (0, Change 0 Write Write) ∷ (0, Change 0 Write Read) ∷ [];
  };
  run =
      act 1 0 0 (Grant 0 0 Write ∷ []) ∷
      act 2 0 0 (Changed 0 0 Write Write ∷ []) ∷
      act 3 0 0 (Changed 0 0 Write Read ∷ []) ∷
      [];
  held = holds 0 0 Read 1 ∷ [];
  waiting = [];
  owners = owner 0 0 ∷ [];
}

-- Two clients that share a set both want to change their mode: both wait.
abbrev pub changes_wait : Worked
changes_wait = record {
  script = record (one_set 1 (codes "s")) {
    clients = declared_client (codes "a") 0 ∷ declared_client (codes "b") 0 ∷ [];
    commands =
        (0, Try 0 Upgrade) ∷ (0, Lock 0 IntentionRead) ∷ (0, Unlock 0 Upgrade) ∷
        (1, Try 0 IntentionRead) ∷ (1, Change 0 IntentionRead Write) ∷
        (0, Change 0 IntentionRead IntentionWrite) ∷
        [];
  };
  run =
      act 1 0 1 (Tried 1 0 IntentionRead true ∷ []) ∷
      act 2 0 0 (Tried 0 0 Upgrade true ∷ []) ∷
      act 3 0 1 (Wait 1 0 Write ∷ []) ∷
      act 4 0 0 (Grant 0 0 IntentionRead ∷ []) ∷
      act 5 0 0 (Unlocked 0 0 Upgrade ∷ []) ∷
      act 6 0 0 (Wait 0 0 IntentionWrite ∷ []) ∷
      [];
  held = holds 0 0 IntentionRead 1 ∷ holds 1 0 IntentionRead 1 ∷ [];
  waiting = holding 0 0 IntentionWrite ∷ holding 1 0 Write ∷ [];
  owners = owner 0 0 ∷ [];
}
