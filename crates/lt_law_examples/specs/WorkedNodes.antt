-- Worked examples on two to four nodes, in the fixed order of moves.
use Rattle.std.specs.Prelude.{◌≡◌, true, false, [], ◌∷◌, codes}
use Rattle.lt_modes.specs.declared.mode.Mode.TheVariants.{IntentionRead, Read, Upgrade, Write}
use Rattle.lt_modes.specs.declared.command.Command.TheVariants.{Lock, Try, Unlock, Change, DropAll}
use Rattle.lt_modes.specs.declared.event.Event.TheVariants.{Grant, Wait, Try as Tried, Unlock as Unlocked, NotHeld, Change as Changed, DropAll as Dropped, Copy, Freeze, Token}
use Rattle.lt_modes.specs.Modes.{no_modes, all_modes}
use Rattle.lt_spec.specs.Holdings.{holding}
use Rattle.lt_law_examples.specs.Worked.{Worked, end_of, queued_clients, parked_clients, declared_set, declared_client, act, taken_at, holds, owner, one_set}

-- Three nodes read: the desk sends copies.
abbrev pub read_everywhere : Worked
read_everywhere = record {
  script = record (one_set 3 (codes "s")) {
    clients = declared_client (codes "a") 0 ∷ declared_client (codes "b") 1 ∷ declared_client (codes "c") 2 ∷ [];
    commands =
        (0, Lock 0 Read) ∷
        (1, Lock 0 Read) ∷
        (2, Lock 0 Read) ∷
        [];
  };
  run =
      act 1 0 0 (Grant 0 0 Read ∷ []) ∷
      act 1 1 1 (Wait 1 0 Read ∷ []) ∷
      taken_at 2 0 1 (Copy 0 1 1 Read ∷ []) ∷
      taken_at 3 1 0 (Grant 1 0 Read ∷ []) ∷
      act 1 2 2 (Wait 2 0 Read ∷ []) ∷
      taken_at 3 0 2 (Copy 0 2 2 Read ∷ []) ∷
      taken_at 4 2 0 (Grant 2 0 Read ∷ []) ∷
      [];
  held = holds 0 0 Read 1 ∷ holds 1 0 Read 1 ∷ holds 2 0 Read 1 ∷ [];
  waiting = [];
  owners = owner 0 0 ∷ [];
}

-- A read that intention_read doesn't cover draws the desk; the node left behind learns that nothing is frozen.
abbrev pub reader_draws_desk : Worked
reader_draws_desk = record {
  script = record (one_set 2 (codes "s")) {
    clients = declared_client (codes "a") 0 ∷ declared_client (codes "b") 1 ∷ [];
    commands =
        (0, Lock 0 IntentionRead) ∷
        (1, Lock 0 Read) ∷
        [];
  };
  run =
      act 1 0 0 (Grant 0 0 IntentionRead ∷ []) ∷
      act 1 1 1 (Wait 1 0 Read ∷ []) ∷
      taken_at 2 0 1 (Token 0 1 1 ∷ []) ∷
      taken_at 3 1 0 (Grant 1 0 Read ∷ Freeze 0 0 1 no_modes ∷ []) ∷
      taken_at 4 0 1 [] ∷
      [];
  held = holds 0 0 IntentionRead 1 ∷ holds 1 0 Read 1 ∷ [];
  waiting = [];
  owners = owner 1 1 ∷ [];
}

-- The token goes to the waiting writer once the lock is unlocked.
abbrev pub token_to_writer : Worked
token_to_writer = record {
  script = record (one_set 2 (codes "s")) {
    clients = declared_client (codes "a") 0 ∷ declared_client (codes "b") 1 ∷ [];
    commands =
        (0, Lock 0 Write) ∷
        (0, Unlock 0 Write) ∷
        (1, Lock 0 Write) ∷
        [];
  };
  run =
      act 1 0 0 (Grant 0 0 Write ∷ []) ∷
      act 1 1 1 (Wait 1 0 Write ∷ []) ∷
      taken_at 2 0 1 [] ∷
      act 3 0 0 (Unlocked 0 0 Write ∷ Token 0 1 1 ∷ []) ∷
      taken_at 4 1 0 (Grant 1 0 Write ∷ []) ∷
      [];
  held = holds 1 0 Write 1 ∷ [];
  waiting = [];
  owners = owner 1 1 ∷ [];
}

-- A read within the charge of its node waits, since a waiting write froze it.
abbrev pub frozen_read : Worked
frozen_read = record {
  script = record (one_set 2 (codes "s")) {
    clients =
        declared_client (codes "a") 0 ∷ declared_client (codes "c") 1 ∷ declared_client (codes "b") 0 ∷
        declared_client (codes "d") 1 ∷ [];
    commands =
        (0, Lock 0 Read) ∷
        (1, Lock 0 Read) ∷
        (2, Lock 0 Write) ∷
        (3, Lock 0 Read) ∷
        [];
  };
  run =
      act 1 0 0 (Grant 0 0 Read ∷ []) ∷
      act 1 1 1 (Wait 1 0 Read ∷ []) ∷
      taken_at 2 0 1 (Copy 0 1 1 Read ∷ []) ∷
      taken_at 3 1 0 (Grant 1 0 Read ∷ []) ∷
      act 3 0 2 (Wait 2 0 Write ∷ Freeze 0 1 1 all_modes ∷ []) ∷
      taken_at 4 1 0 [] ∷
      act 5 1 3 (Wait 3 0 Read ∷ []) ∷
      taken_at 6 0 1 [] ∷
      [];
  held = holds 0 0 Read 1 ∷ holds 1 0 Read 1 ∷ [];
  waiting = holding 2 0 Write ∷ holding 3 0 Read ∷ [];
  owners = owner 0 0 ∷ [];
}

-- A try is decided at its own node: not before a copy came, then within the charge, and not once the tell is made.
abbrev pub try_at_home : Worked
try_at_home = record {
  script = record (one_set 2 (codes "s")) {
    clients =
        declared_client (codes "d") 1 ∷ declared_client (codes "a") 0 ∷ declared_client (codes "c") 1 ∷
        declared_client (codes "b") 0 ∷ [];
    commands =
        (0, Try 0 Read) ∷ (0, Try 0 Read) ∷ (0, Unlock 0 Read) ∷ (0, Try 0 Read) ∷
        (1, Lock 0 Read) ∷
        (2, Lock 0 Read) ∷
        (3, Try 0 Write) ∷ (3, Lock 0 Write) ∷
        [];
  };
  run =
      act 1 1 0 (Tried 0 0 Read false ∷ []) ∷
      act 1 0 1 (Grant 1 0 Read ∷ []) ∷
      act 2 1 2 (Wait 2 0 Read ∷ []) ∷
      taken_at 3 0 1 (Copy 0 1 2 Read ∷ []) ∷
      taken_at 4 1 0 (Grant 2 0 Read ∷ []) ∷
      act 4 0 3 (Tried 3 0 Write false ∷ []) ∷
      act 5 1 0 (Tried 0 0 Read true ∷ []) ∷
      act 5 0 3 (Wait 3 0 Write ∷ Freeze 0 1 1 all_modes ∷ []) ∷
      taken_at 6 1 0 [] ∷
      act 7 1 0 (Unlocked 0 0 Read ∷ []) ∷
      act 8 1 0 (Tried 0 0 Read false ∷ []) ∷
      [];
  held = holds 1 0 Read 1 ∷ holds 2 0 Read 1 ∷ [];
  waiting = holding 3 0 Write ∷ [];
  owners = owner 0 0 ∷ [];
}

-- An upgrade becomes a write once the reader at the other node has unlocked.
abbrev pub change_after_reader : Worked
change_after_reader = record {
  script = record (one_set 2 (codes "s")) {
    clients = declared_client (codes "a") 0 ∷ declared_client (codes "b") 1 ∷ [];
    commands =
        (0, Lock 0 Upgrade) ∷ (0, Change 0 Upgrade Write) ∷
        (1, Lock 0 Read) ∷ (1, Unlock 0 Read) ∷
        [];
  };
  run =
      act 1 0 0 (Grant 0 0 Upgrade ∷ []) ∷
      act 1 1 1 (Wait 1 0 Read ∷ []) ∷
      taken_at 2 0 1 (Copy 0 1 1 Read ∷ []) ∷
      taken_at 3 1 0 (Grant 1 0 Read ∷ []) ∷
      act 3 0 0 (Wait 0 0 Write ∷ Freeze 0 1 1 all_modes ∷ []) ∷
      taken_at 4 1 0 [] ∷
      act 5 1 1 (Unlocked 1 0 Read ∷ []) ∷
      taken_at 6 0 1 (Changed 0 0 Upgrade Write ∷ []) ∷
      [];
  held = holds 0 0 Write 1 ∷ [];
  waiting = [];
  owners = owner 0 0 ∷ [];
}

-- Two readers at two nodes both want to write: both wait.
abbrev pub changes_from_two_nodes : Worked
changes_from_two_nodes = record {
  script = record (one_set 2 (codes "s")) {
    clients = declared_client (codes "a") 0 ∷ declared_client (codes "b") 1 ∷ [];
    commands =
        (0, Lock 0 Read) ∷ (0, Change 0 Read Write) ∷
        (1, Lock 0 Read) ∷ (1, Change 0 Read Write) ∷
        [];
  };
  run =
      act 1 0 0 (Grant 0 0 Read ∷ []) ∷
      act 1 1 1 (Wait 1 0 Read ∷ []) ∷
      taken_at 2 0 1 (Copy 0 1 1 Read ∷ []) ∷
      taken_at 3 1 0 (Grant 1 0 Read ∷ []) ∷
      act 3 0 0 (Wait 0 0 Write ∷ Freeze 0 1 1 all_modes ∷ []) ∷
      taken_at 4 1 0 [] ∷
      act 5 1 1 (Wait 1 0 Write ∷ []) ∷
      taken_at 6 0 1 [] ∷
      [];
  held = holds 0 0 Read 1 ∷ holds 1 0 Read 1 ∷ [];
  waiting = holding 0 0 Write ∷ holding 1 0 Write ∷ [];
  owners = owner 0 0 ∷ [];
}

-- Writers of four nodes: one ask waits in the queue, one is parked behind it, and one behind that.
abbrev pub asks_park_behind : Worked
asks_park_behind = record {
  script = record (one_set 4 (codes "s")) {
    clients =
        declared_client (codes "b") 1 ∷ declared_client (codes "c") 2 ∷ declared_client (codes "d") 3 ∷
        declared_client (codes "a") 0 ∷ [];
    commands =
        (0, Lock 0 Write) ∷
        (1, Lock 0 Write) ∷
        (2, Lock 0 Write) ∷
        (3, Lock 0 Write) ∷
        [];
  };
  run =
      act 1 1 0 (Wait 0 0 Write ∷ []) ∷
      taken_at 2 0 1 (Token 0 1 1 ∷ []) ∷
      taken_at 3 1 0 (Grant 0 0 Write ∷ []) ∷
      act 1 2 1 (Wait 1 0 Write ∷ []) ∷
      taken_at 3 0 2 [] ∷
      taken_at 4 1 0 [] ∷
      act 1 3 2 (Wait 2 0 Write ∷ []) ∷
      taken_at 4 0 3 [] ∷
      taken_at 5 2 0 [] ∷
      act 5 0 3 (Wait 3 0 Write ∷ []) ∷
      taken_at 6 3 0 [] ∷
      [];
  held = holds 0 0 Write 1 ∷ [];
  waiting = holding 1 0 Write ∷ holding 2 0 Write ∷ holding 3 0 Write ∷ [];
  owners = owner 1 1 ∷ [];
}

-- At its end the asks stand so: one in the queue at node 1, one parked at node 2, and one parked at node 3.
abbrev pub TwoAsksParked : Type 0
TwoAsksParked =
    (queued_clients (end_of asks_park_behind) 0 1 ≡ 1 ∷ [])
    × (parked_clients (end_of asks_park_behind) 0 2 ≡ 2 ∷ [])
    × (parked_clients (end_of asks_park_behind) 0 3 ≡ 3 ∷ [])

-- An ask that went by a hoped link is parked behind an older write of that node.
abbrev pub marked_ask_parks : Worked
marked_ask_parks = record {
  script = record (one_set 4 (codes "s")) {
    clients =
        declared_client (codes "a") 0 ∷ declared_client (codes "b") 2 ∷ declared_client (codes "c") 3 ∷
        declared_client (codes "d") 3 ∷ declared_client (codes "e") 1 ∷ [];
    commands =
        (0, Lock 0 IntentionRead) ∷
        (1, Lock 0 Read) ∷
        (2, Try 0 Upgrade) ∷
        (3, Lock 0 Write) ∷
        (4, Lock 0 Read) ∷
        (3, Unlock 0 Write) ∷
        (0, Lock 0 Read) ∷
        (2, Lock 0 Read) ∷
        (1, Unlock 0 Read) ∷
        [];
  };
  run =
      act 1 0 0 (Grant 0 0 IntentionRead ∷ []) ∷
      act 1 2 1 (Wait 1 0 Read ∷ []) ∷
      taken_at 2 0 2 (Token 0 2 1 ∷ []) ∷
      taken_at 3 2 0 (Grant 1 0 Read ∷ Freeze 0 0 1 no_modes ∷ []) ∷
      taken_at 4 0 2 [] ∷
      act 1 3 2 (Tried 2 0 Upgrade false ∷ []) ∷
      act 2 3 3 (Wait 3 0 Write ∷ []) ∷
      taken_at 5 0 3 [] ∷
      taken_at 6 2 0 (Freeze 0 0 2 all_modes ∷ []) ∷
      taken_at 7 0 2 [] ∷
      act 1 1 4 (Wait 4 0 Read ∷ []) ∷
      taken_at 8 0 1 [] ∷
      taken_at 9 2 0 [] ∷
      act 9 0 0 (Wait 0 0 Read ∷ []) ∷
      taken_at 10 3 0 [] ∷
      act 10 2 1 (Unlocked 1 0 Read ∷ []) ∷
      act 11 3 2 (Wait 2 0 Read ∷ []) ∷
      taken_at 12 2 3 [] ∷
      [];
  held = holds 0 0 IntentionRead 1 ∷ [];
  waiting = holding 0 0 Read ∷ holding 2 0 Read ∷ holding 3 0 Write ∷ holding 4 0 Read ∷ [];
  owners = owner 2 1 ∷ [];
}

-- The node of an upgrade sends a reader a copy and freezes it for a write.
abbrev pub upgrade_with_readers : Worked
upgrade_with_readers = record {
  script = record (one_set 2 (codes "s")) {
    clients =
        declared_client (codes "a") 1 ∷ declared_client (codes "b") 0 ∷ declared_client (codes "c") 1 ∷
        declared_client (codes "d") 0 ∷ [];
    commands =
        (0, Lock 0 Upgrade) ∷
        (1, Lock 0 Read) ∷
        (1, Unlock 0 Read) ∷
        (3, Try 0 IntentionRead) ∷
        (3, Unlock 0 IntentionRead) ∷
        (2, Lock 0 Write) ∷
        (0, Lock 0 Write) ∷
        (3, Try 0 IntentionRead) ∷
        (1, Try 0 Upgrade) ∷
        (3, Unlock 0 IntentionRead) ∷
        (2, Lock 0 IntentionRead) ∷
        (3, Try 0 Read) ∷
        [];
  };
  run =
      act 1 1 0 (Wait 0 0 Upgrade ∷ []) ∷
      taken_at 2 0 1 (Token 0 1 1 ∷ []) ∷
      taken_at 3 1 0 (Grant 0 0 Upgrade ∷ []) ∷
      act 3 0 1 (Wait 1 0 Read ∷ []) ∷
      taken_at 4 1 0 (Copy 0 0 1 Read ∷ Freeze 0 0 1 no_modes ∷ []) ∷
      taken_at 5 0 1 (Grant 1 0 Read ∷ []) ∷
      taken_at 6 0 1 [] ∷
      act 5 1 2 (Wait 2 0 Write ∷ Freeze 0 0 2 all_modes ∷ []) ∷
      taken_at 7 0 1 [] ∷
      act 8 0 3 (Tried 3 0 IntentionRead false ∷ []) ∷
      act 6 1 0 (Wait 0 0 Write ∷ []) ∷
      act 9 0 1 (Unlocked 1 0 Read ∷ []) ∷
      taken_at 10 1 0 (Grant 0 0 Write ∷ []) ∷
      act 10 0 3 (NotHeld 3 0 IntentionRead ∷ []) ∷
      act 11 0 1 (Tried 1 0 Upgrade false ∷ []) ∷
      act 12 0 3 (Tried 3 0 IntentionRead false ∷ []) ∷
      act 13 0 3 (NotHeld 3 0 IntentionRead ∷ []) ∷
      act 14 0 3 (Tried 3 0 Read false ∷ []) ∷
      [];
  held = holds 0 0 Upgrade 1 ∷ holds 0 0 Write 1 ∷ [];
  waiting = holding 2 0 Write ∷ [];
  owners = owner 1 1 ∷ [];
}

-- A holder changes its mode, though a write waits at its desk.
abbrev pub change_before_writer : Worked
change_before_writer = record {
  script = record (one_set 3 (codes "s")) {
    clients =
        declared_client (codes "a") 1 ∷ declared_client (codes "b") 1 ∷ declared_client (codes "c") 2 ∷
        declared_client (codes "d") 2 ∷ [];
    commands =
        (0, Lock 0 IntentionRead) ∷
        (3, Lock 0 Write) ∷
        (2, Try 0 Write) ∷
        (3, Lock 0 Write) ∷
        (2, Lock 0 Read) ∷
        (0, Change 0 IntentionRead Read) ∷
        [];
  };
  run =
      act 1 1 0 (Wait 0 0 IntentionRead ∷ []) ∷
      taken_at 2 0 1 (Token 0 1 1 ∷ []) ∷
      taken_at 3 1 0 (Grant 0 0 IntentionRead ∷ []) ∷
      act 1 2 2 (Tried 2 0 Write false ∷ []) ∷
      act 2 2 3 (Wait 3 0 Write ∷ []) ∷
      taken_at 3 0 2 [] ∷
      taken_at 4 1 0 [] ∷
      act 5 1 0 (Changed 0 0 IntentionRead Read ∷ []) ∷
      act 3 2 2 (Wait 2 0 Read ∷ []) ∷
      taken_at 4 0 2 [] ∷
      taken_at 5 2 0 [] ∷
      [];
  held = holds 0 0 Read 1 ∷ [];
  waiting = holding 2 0 Read ∷ holding 3 0 Write ∷ [];
  owners = owner 1 1 ∷ [];
}

-- The token of one set leaves; in the other set a client tries, drops and holds nothing.
abbrev pub drop_without_waiting : Worked
drop_without_waiting = record {
  script = record {
    version = 1;
    nodes = 3;
    sets = declared_set (codes "s") 0 ∷ declared_set (codes "t") 0 ∷ [];
    clients = declared_client (codes "a") 2 ∷ declared_client (codes "b") 0 ∷ [];
    commands =
        (1, Try 1 Read) ∷ (1, DropAll 1 0) ∷ (1, Unlock 1 Read) ∷
        (0, Lock 0 Read) ∷
        [];
  };
  run =
      act 1 2 0 (Wait 0 0 Read ∷ []) ∷
      taken_at 2 0 2 (Token 0 2 1 ∷ []) ∷
      taken_at 3 2 0 (Grant 0 0 Read ∷ []) ∷
      act 3 0 1 (Tried 1 1 Read true ∷ []) ∷
      act 4 0 1 (Dropped 1 1 0 1 ∷ []) ∷
      act 5 0 1 (NotHeld 1 1 Read ∷ []) ∷
      [];
  held = holds 0 0 Read 1 ∷ [];
  waiting = [];
  owners = owner 2 1 ∷ owner 0 0 ∷ [];
}

-- The desk goes to an upgrade, and both nodes still grant what it doesn't bar.
abbrev pub shared_with_upgrade : Worked
shared_with_upgrade = record {
  script = record (one_set 2 (codes "s")) {
    clients =
        declared_client (codes "a") 0 ∷ declared_client (codes "b") 1 ∷ declared_client (codes "c") 1 ∷
        declared_client (codes "d") 0 ∷ declared_client (codes "e") 1 ∷ declared_client (codes "f") 0 ∷ [];
    commands =
        (0, Try 0 Read) ∷
        (1, Lock 0 Upgrade) ∷
        (2, Lock 0 IntentionRead) ∷
        (3, Lock 0 IntentionRead) ∷
        [];
  };
  run =
      act 1 0 0 (Tried 0 0 Read true ∷ []) ∷
      act 1 1 1 (Wait 1 0 Upgrade ∷ []) ∷
      taken_at 2 0 1 (Token 0 1 1 ∷ []) ∷
      taken_at 3 1 0 (Grant 1 0 Upgrade ∷ Freeze 0 0 1 no_modes ∷ []) ∷
      taken_at 4 0 1 [] ∷
      act 4 1 2 (Grant 2 0 IntentionRead ∷ []) ∷
      act 5 0 3 (Grant 3 0 IntentionRead ∷ []) ∷
      [];
  held = holds 0 0 Read 1 ∷ holds 1 0 Upgrade 1 ∷ holds 2 0 IntentionRead 1 ∷ holds 3 0 IntentionRead 1 ∷ [];
  waiting = [];
  owners = owner 1 1 ∷ [];
}
