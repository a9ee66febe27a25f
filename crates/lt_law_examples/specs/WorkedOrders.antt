-- Worked examples on several nodes, in other orders of moves.
use Rattle.std.specs.Prelude.{false, [], ◌∷◌, codes}
use Rattle.lt_modes.specs.declared.mode.Mode.TheVariants.{IntentionRead, Read, Upgrade, IntentionWrite, ReadIntentionWrite, Write}
use Rattle.lt_modes.specs.declared.command.Command.TheVariants.{Lock, Try, Unlock, Change, DropAll}
use Rattle.lt_modes.specs.declared.event.Event.TheVariants.{Grant, Wait, Try as Tried, Unlock as Unlocked, NotHeld, Change as Changed, DropAll as Dropped, Copy, Freeze, Token}
use Rattle.lt_modes.specs.Modes.{no_modes, all_modes, modes_in}
use Rattle.lt_spec.specs.Holdings.{holding}
use Rattle.lt_law_examples.specs.Worked.{Worked, declared_set, declared_client, act, taken_at, holds, owner, one_set}

-- A copy of the first desk is taken after the token came by another way, and a write waits for it.
abbrev pub late_copy : Worked
late_copy = record {
  script = record (one_set 3 (codes "s")) {
    clients =
        declared_client (codes "a") 0 ∷ declared_client (codes "b") 1 ∷ declared_client (codes "c") 2 ∷
        declared_client (codes "d") 2 ∷ [];
    commands =
        (0, Lock 0 Read) ∷ (0, Unlock 0 Read) ∷
        (1, Lock 0 Upgrade) ∷ (1, Unlock 0 Upgrade) ∷
        (2, Lock 0 Read) ∷ (2, Unlock 0 Read) ∷
        (3, Lock 0 Write) ∷
        [];
  };
  run =
      act 1 0 0 (Grant 0 0 Read ∷ []) ∷
      act 1 2 2 (Wait 2 0 Read ∷ []) ∷
      taken_at 2 0 2 (Copy 0 2 2 Read ∷ []) ∷
      act 1 1 1 (Wait 1 0 Upgrade ∷ []) ∷
      taken_at 3 0 1 (Freeze 0 2 1 (modes_in (Upgrade ∷ IntentionWrite ∷ ReadIntentionWrite ∷ Write ∷ [])) ∷ Token 0 1 1 ∷ []) ∷
      taken_at 4 1 0 (Grant 1 0 Upgrade ∷ Freeze 0 0 2 no_modes ∷ Freeze 0 2 2 no_modes ∷ []) ∷
      act 4 0 0 (Unlocked 0 0 Read ∷ []) ∷
      taken_at 5 1 0 [] ∷
      act 6 1 1 (Unlocked 1 0 Upgrade ∷ []) ∷
      act 2 2 3 (Wait 3 0 Write ∷ []) ∷
      taken_at 5 0 2 [] ∷
      taken_at 7 1 0 (Freeze 0 2 3 all_modes ∷ Token 0 2 2 ∷ []) ∷
      taken_at 5 2 1 [] ∷
      taken_at 8 2 1 [] ∷
      taken_at 9 2 1 [] ∷
      taken_at 10 2 0 (Grant 2 0 Read ∷ []) ∷
      taken_at 11 2 0 [] ∷
      taken_at 6 0 1 [] ∷
      act 12 2 2 (Unlocked 2 0 Read ∷ Grant 3 0 Write ∷ []) ∷
      [];
  held = holds 3 0 Write 1 ∷ [];
  waiting = [];
  owners = owner 2 2 ∷ [];
}

-- Two tells of one node are taken in reverse order: the older one changes nothing.
abbrev pub overtaking_tells : Worked
overtaking_tells = record {
  script = record (one_set 3 (codes "s")) {
    clients = declared_client (codes "a") 0 ∷ declared_client (codes "b") 1 ∷ declared_client (codes "c") 2 ∷ [];
    commands =
        (0, Lock 0 Read) ∷ (0, Unlock 0 Read) ∷
        (1, Lock 0 Upgrade) ∷ (1, Change 0 Upgrade Write) ∷
        (2, Lock 0 Read) ∷ (2, Lock 0 IntentionRead) ∷ (2, Unlock 0 Read) ∷ (2, Unlock 0 IntentionRead) ∷
        [];
  };
  run =
      act 1 0 0 (Grant 0 0 Read ∷ []) ∷
      act 1 2 2 (Wait 2 0 Read ∷ []) ∷
      taken_at 2 0 2 (Copy 0 2 2 Read ∷ []) ∷
      taken_at 3 2 0 (Grant 2 0 Read ∷ []) ∷
      act 4 2 2 (Grant 2 0 IntentionRead ∷ []) ∷
      act 1 1 1 (Wait 1 0 Upgrade ∷ []) ∷
      taken_at 3 0 1 (Freeze 0 2 1 (modes_in (Upgrade ∷ IntentionWrite ∷ ReadIntentionWrite ∷ Write ∷ [])) ∷ Token 0 1 1 ∷ []) ∷
      act 5 2 2 (Unlocked 2 0 Read ∷ []) ∷
      taken_at 4 1 0 (Grant 1 0 Upgrade ∷ Freeze 0 0 2 no_modes ∷ Freeze 0 2 2 no_modes ∷ []) ∷
      taken_at 6 2 1 [] ∷
      act 7 2 2 (Unlocked 2 0 IntentionRead ∷ []) ∷
      taken_at 8 1 2 [] ∷
      taken_at 6 0 2 [] ∷
      taken_at 9 1 0 [] ∷
      act 7 0 0 (Unlocked 0 0 Read ∷ []) ∷
      taken_at 10 1 0 [] ∷
      act 11 1 1 (Changed 1 0 Upgrade Write ∷ []) ∷
      taken_at 8 2 0 [] ∷
      taken_at 8 0 1 [] ∷
      [];
  held = holds 1 0 Write 1 ∷ [];
  waiting = [];
  owners = owner 1 1 ∷ [];
}

-- A drop lets the desk move on to the waiting client of the other node.
abbrev pub drop_at_desk : Worked
drop_at_desk = record {
  script = record (one_set 2 (codes "s")) {
    clients = declared_client (codes "a") 0 ∷ declared_client (codes "b") 1 ∷ declared_client (codes "c") 1 ∷ [];
    commands =
        (0, Lock 0 IntentionWrite) ∷
        (1, Lock 0 IntentionWrite) ∷
        (2, Try 0 IntentionRead) ∷
        (2, Lock 0 IntentionWrite) ∷
        (2, Unlock 0 IntentionWrite) ∷
        (1, Lock 0 Write) ∷
        (0, Unlock 0 IntentionWrite) ∷
        (2, Unlock 0 IntentionRead) ∷
        (1, DropAll 1 0) ∷
        (0, Lock 0 IntentionWrite) ∷
        (2, Try 0 Read) ∷
        (0, Change 0 IntentionWrite Read) ∷
        [];
  };
  run =
      act 1 1 2 (Tried 2 0 IntentionRead false ∷ []) ∷
      act 2 1 2 (Wait 2 0 IntentionWrite ∷ []) ∷
      act 1 0 0 (Grant 0 0 IntentionWrite ∷ []) ∷
      taken_at 3 0 1 (Copy 0 1 2 IntentionWrite ∷ []) ∷
      taken_at 4 1 0 (Grant 2 0 IntentionWrite ∷ []) ∷
      act 5 1 1 (Grant 1 0 IntentionWrite ∷ []) ∷
      act 6 1 2 (Unlocked 2 0 IntentionWrite ∷ []) ∷
      act 7 1 1 (Wait 1 0 Write ∷ []) ∷
      act 8 1 2 (NotHeld 2 0 IntentionRead ∷ []) ∷
      taken_at 8 0 1 (Freeze 0 1 1 all_modes ∷ []) ∷
      taken_at 9 1 0 [] ∷
      act 9 0 0 (Unlocked 0 0 IntentionWrite ∷ Token 0 1 1 ∷ []) ∷
      act 10 1 2 (Tried 2 0 Read false ∷ []) ∷
      act 10 0 0 (Wait 0 0 IntentionWrite ∷ []) ∷
      taken_at 11 1 0 (Grant 1 0 Write ∷ []) ∷
      act 12 1 1 (Dropped 1 1 0 2 ∷ []) ∷
      taken_at 13 1 0 (Token 0 0 2 ∷ []) ∷
      taken_at 14 0 1 (Grant 0 0 IntentionWrite ∷ []) ∷
      act 15 0 0 (Changed 0 0 IntentionWrite Read ∷ []) ∷
      [];
  held = holds 0 0 Read 1 ∷ [];
  waiting = [];
  owners = owner 0 2 ∷ [];
}

-- Two copies of intention_read go to one node that has none.
abbrev pub several_copies : Worked
several_copies = record {
  script = record (one_set 4 (codes "s")) {
    clients = declared_client (codes "a") 2 ∷ declared_client (codes "b") 2 ∷ declared_client (codes "c") 3 ∷ [];
    commands =
        (0, Try 0 Read) ∷
        (1, Lock 0 IntentionRead) ∷
        (2, Try 0 IntentionRead) ∷
        (2, Lock 0 IntentionWrite) ∷
        (0, Lock 0 IntentionRead) ∷
        (1, Unlock 0 IntentionRead) ∷
        (0, Unlock 0 Read) ∷
        (1, Lock 0 Read) ∷
        (2, Lock 0 IntentionWrite) ∷
        [];
  };
  run =
      act 1 3 2 (Tried 2 0 IntentionRead false ∷ []) ∷
      act 2 3 2 (Wait 2 0 IntentionWrite ∷ []) ∷
      act 1 2 0 (Tried 0 0 Read false ∷ []) ∷
      taken_at 3 0 3 (Token 0 3 1 ∷ []) ∷
      taken_at 4 3 0 (Grant 2 0 IntentionWrite ∷ []) ∷
      act 2 2 1 (Wait 1 0 IntentionRead ∷ []) ∷
      act 5 3 2 (Grant 2 0 IntentionWrite ∷ []) ∷
      taken_at 4 0 2 [] ∷
      act 3 2 0 (Wait 0 0 IntentionRead ∷ []) ∷
      taken_at 5 0 2 [] ∷
      taken_at 6 3 0 (Copy 0 2 1 IntentionRead ∷ []) ∷
      taken_at 7 2 3 (Grant 1 0 IntentionRead ∷ []) ∷
      taken_at 7 3 0 (Copy 0 2 0 IntentionRead ∷ []) ∷
      act 8 2 1 (Unlocked 1 0 IntentionRead ∷ []) ∷
      taken_at 9 3 2 [] ∷
      act 9 2 1 (Wait 1 0 Read ∷ []) ∷
      taken_at 10 2 3 (Grant 0 0 IntentionRead ∷ []) ∷
      taken_at 10 3 2 (Freeze 0 2 1 (modes_in (IntentionWrite ∷ ReadIntentionWrite ∷ Write ∷ [])) ∷ []) ∷
      act 11 2 0 (NotHeld 0 0 Read ∷ []) ∷
      taken_at 12 2 3 [] ∷
      [];
  held = holds 0 0 IntentionRead 1 ∷ holds 2 0 IntentionWrite 2 ∷ [];
  waiting = holding 1 0 Read ∷ [];
  owners = owner 3 1 ∷ [];
}

-- A node with a copy of intention_write learns that a read waits.
abbrev pub copy_and_freeze : Worked
copy_and_freeze = record {
  script = record (one_set 2 (codes "s0")) {
    clients =
        declared_client (codes "c2") 1 ∷ declared_client (codes "c4") 0 ∷ declared_client (codes "c5") 0 ∷
        declared_client (codes "c7") 1 ∷ [];
    commands =
        (0, Lock 0 Read) ∷
        (1, Lock 0 IntentionWrite) ∷
        (1, Unlock 0 IntentionWrite) ∷
        (2, Lock 0 Read) ∷
        (3, Lock 0 IntentionWrite) ∷
        [];
  };
  run =
      act 1 1 3 (Wait 3 0 IntentionWrite ∷ []) ∷
      act 1 0 1 (Grant 1 0 IntentionWrite ∷ []) ∷
      taken_at 2 0 1 (Copy 0 1 3 IntentionWrite ∷ []) ∷
      act 2 1 0 (Wait 0 0 Read ∷ []) ∷
      taken_at 3 1 0 (Grant 3 0 IntentionWrite ∷ []) ∷
      act 3 0 2 (Wait 2 0 Read ∷ Freeze 0 1 1 (modes_in (IntentionWrite ∷ ReadIntentionWrite ∷ Write ∷ [])) ∷ []) ∷
      taken_at 4 1 0 [] ∷
      act 4 0 1 (Unlocked 1 0 IntentionWrite ∷ []) ∷
      taken_at 5 0 1 [] ∷
      [];
  held = holds 3 0 IntentionWrite 1 ∷ [];
  waiting = holding 0 0 Read ∷ holding 2 0 Read ∷ [];
  owners = owner 0 0 ∷ [];
}

-- The desk moves to a node whose copy is still to be taken.
abbrev pub desk_with_copy_out : Worked
desk_with_copy_out = record {
  script = record (one_set 4 (codes "s0")) {
    clients = declared_client (codes "c0") 3 ∷ declared_client (codes "c2") 2 ∷ declared_client (codes "c4") 3 ∷ [];
    commands =
        (0, Lock 0 Read) ∷
        (1, Lock 0 Read) ∷
        (1, Unlock 0 Read) ∷
        (2, Lock 0 Read) ∷
        [];
  };
  run =
      act 1 2 1 (Wait 1 0 Read ∷ []) ∷
      act 1 3 0 (Wait 0 0 Read ∷ []) ∷
      act 2 3 2 (Wait 2 0 Read ∷ []) ∷
      taken_at 2 0 2 (Token 0 2 1 ∷ []) ∷
      taken_at 3 0 3 [] ∷
      taken_at 4 0 3 [] ∷
      taken_at 3 2 0 (Grant 1 0 Read ∷ []) ∷
      taken_at 4 2 0 (Copy 0 3 0 Read ∷ []) ∷
      act 5 2 1 (Unlocked 1 0 Read ∷ []) ∷
      taken_at 6 2 0 (Freeze 0 3 1 (modes_in (IntentionWrite ∷ ReadIntentionWrite ∷ Write ∷ [])) ∷ Token 0 3 2 ∷ []) ∷
      taken_at 5 3 2 (Grant 0 0 Read ∷ []) ∷
      taken_at 7 3 2 [] ∷
      taken_at 8 3 2 (Grant 2 0 Read ∷ []) ∷
      [];
  held = holds 0 0 Read 1 ∷ holds 2 0 Read 1 ∷ [];
  waiting = [];
  owners = owner 3 2 ∷ [];
}

-- The token goes to the first of two asks of one node; the second, a write, keeps a later read waiting.
abbrev pub second_ask_bars : Worked
second_ask_bars = record {
  script = record (one_set 2 (codes "s0")) {
    clients =
        declared_client (codes "c1") 1 ∷ declared_client (codes "c2") 0 ∷ declared_client (codes "c3") 0 ∷
        declared_client (codes "c4") 0 ∷ declared_client (codes "c5") 1 ∷ [];
    commands =
        (0, Lock 0 Upgrade) ∷
        (1, Lock 0 Read) ∷
        (2, DropAll 3 0) ∷
        (3, Lock 0 Read) ∷
        (3, Lock 0 Upgrade) ∷
        (3, Unlock 0 Upgrade) ∷
        (3, Lock 0 Read) ∷
        (4, Lock 0 Write) ∷
        [];
  };
  run =
      act 1 0 3 (Grant 3 0 Read ∷ []) ∷
      act 2 0 2 (Dropped 2 3 0 1 ∷ []) ∷
      act 3 0 1 (Grant 1 0 Read ∷ []) ∷
      act 1 1 0 (Wait 0 0 Upgrade ∷ []) ∷
      act 4 0 3 (Grant 3 0 Upgrade ∷ []) ∷
      act 2 1 4 (Wait 4 0 Write ∷ []) ∷
      taken_at 5 0 1 [] ∷
      taken_at 6 0 1 [] ∷
      act 7 0 3 (Unlocked 3 0 Upgrade ∷ Token 0 1 1 ∷ []) ∷
      taken_at 8 1 0 (Grant 0 0 Upgrade ∷ []) ∷
      act 8 0 3 (Wait 3 0 Read ∷ []) ∷
      taken_at 9 1 0 [] ∷
      [];
  held = holds 0 0 Upgrade 1 ∷ holds 1 0 Read 1 ∷ [];
  waiting = holding 3 0 Read ∷ holding 4 0 Write ∷ [];
  owners = owner 1 1 ∷ [];
}

-- Asks are parked behind an older write of the node that took them, and enter the queue when the token comes.
abbrev pub token_meets_parked : Worked
token_meets_parked = record {
  script = record (one_set 3 (codes "s0")) {
    clients =
        declared_client (codes "c1") 2 ∷ declared_client (codes "c2") 1 ∷ declared_client (codes "c3") 1 ∷
        declared_client (codes "c4") 0 ∷ [];
    commands =
        (0, Lock 0 Upgrade) ∷
        (0, Unlock 0 Upgrade) ∷
        (1, Lock 0 Read) ∷
        (2, Lock 0 Write) ∷
        (2, Unlock 0 Write) ∷
        (3, Lock 0 Write) ∷
        [];
  };
  run =
      act 1 2 0 (Wait 0 0 Upgrade ∷ []) ∷
      taken_at 2 0 2 (Token 0 2 1 ∷ []) ∷
      taken_at 3 2 0 (Grant 0 0 Upgrade ∷ []) ∷
      act 1 1 2 (Wait 2 0 Write ∷ []) ∷
      taken_at 3 0 1 [] ∷
      taken_at 4 2 0 [] ∷
      act 2 1 1 (Wait 1 0 Read ∷ []) ∷
      taken_at 4 0 1 [] ∷
      taken_at 5 1 0 [] ∷
      act 5 0 3 (Wait 3 0 Write ∷ []) ∷
      taken_at 6 1 0 [] ∷
      act 5 2 0 (Unlocked 0 0 Upgrade ∷ Token 0 1 2 ∷ []) ∷
      taken_at 7 1 2 (Grant 2 0 Write ∷ []) ∷
      act 8 1 2 (Unlocked 2 0 Write ∷ Grant 1 0 Read ∷ []) ∷
      [];
  held = holds 1 0 Read 1 ∷ [];
  waiting = holding 3 0 Write ∷ [];
  owners = owner 1 2 ∷ [];
}

-- Upgrades of two nodes in turn: each stands alone.
abbrev pub upgrades_in_turn : Worked
upgrades_in_turn = record {
  script = record {
    version = 1;
    nodes = 2;
    sets = declared_set (codes "s0") 0 ∷ declared_set (codes "s1") 0 ∷ [];
    clients =
        declared_client (codes "c0") 0 ∷ declared_client (codes "c2") 1 ∷ declared_client (codes "c3") 1 ∷
        declared_client (codes "c5") 1 ∷ [];
    commands =
        (0, Lock 0 Upgrade) ∷
        (1, Lock 0 Upgrade) ∷
        (1, Unlock 0 Upgrade) ∷
        (2, Lock 0 Upgrade) ∷
        (3, Lock 0 Upgrade) ∷
        (3, Unlock 0 Upgrade) ∷
        [];
  };
  run =
      act 1 1 3 (Wait 3 0 Upgrade ∷ []) ∷
      act 2 1 1 (Wait 1 0 Upgrade ∷ []) ∷
      act 3 1 2 (Wait 2 0 Upgrade ∷ []) ∷
      taken_at 2 0 1 (Token 0 1 1 ∷ []) ∷
      taken_at 3 0 1 [] ∷
      taken_at 4 1 0 (Grant 3 0 Upgrade ∷ []) ∷
      act 4 0 0 (Wait 0 0 Upgrade ∷ []) ∷
      act 5 1 3 (Unlocked 3 0 Upgrade ∷ []) ∷
      taken_at 6 1 0 (Grant 1 0 Upgrade ∷ []) ∷
      taken_at 7 1 0 [] ∷
      act 8 1 1 (Unlocked 1 0 Upgrade ∷ Token 0 0 2 ∷ []) ∷
      taken_at 5 0 1 [] ∷
      taken_at 9 1 0 [] ∷
      taken_at 9 0 1 (Grant 0 0 Upgrade ∷ []) ∷
      taken_at 10 0 1 [] ∷
      [];
  held = holds 0 0 Upgrade 1 ∷ [];
  waiting = holding 2 0 Upgrade ∷ [];
  owners = owner 0 2 ∷ owner 0 0 ∷ [];
}

-- The desk moves to a reader, and sends a copy to a reader of another node.
abbrev pub copy_after_move : Worked
copy_after_move = record {
  script = record (one_set 4 (codes "s0")) {
    clients =
        declared_client (codes "c0") 3 ∷ declared_client (codes "c1") 2 ∷ declared_client (codes "c2") 0 ∷
        declared_client (codes "c5") 1 ∷ [];
    commands =
        (0, Lock 0 Write) ∷
        (1, Lock 0 Read) ∷
        (2, Lock 0 Read) ∷
        (2, Lock 0 Write) ∷
        (3, Lock 0 Write) ∷
        (3, Unlock 0 Write) ∷
        [];
  };
  run =
      act 1 1 3 (Wait 3 0 Write ∷ []) ∷
      taken_at 2 0 1 (Token 0 1 1 ∷ []) ∷
      act 1 2 1 (Wait 1 0 Read ∷ []) ∷
      taken_at 3 0 2 [] ∷
      act 4 0 2 (Wait 2 0 Read ∷ []) ∷
      act 1 3 0 (Wait 0 0 Write ∷ []) ∷
      taken_at 5 0 3 [] ∷
      taken_at 3 1 0 (Grant 3 0 Write ∷ []) ∷
      taken_at 4 1 0 [] ∷
      taken_at 5 1 0 [] ∷
      taken_at 6 1 0 [] ∷
      act 7 1 3 (Unlocked 3 0 Write ∷ Token 0 2 2 ∷ []) ∷
      taken_at 8 2 1 (Grant 1 0 Read ∷ Copy 0 0 2 Read ∷ []) ∷
      taken_at 9 0 2 (Grant 2 0 Read ∷ []) ∷
      act 10 0 2 (Wait 2 0 Write ∷ []) ∷
      taken_at 11 2 0 [] ∷
      [];
  held = holds 1 0 Read 1 ∷ holds 2 0 Read 1 ∷ [];
  waiting = holding 0 0 Write ∷ holding 2 0 Write ∷ [];
  owners = owner 2 2 ∷ [];
}

-- A reader changes to write before the writers in its queue.
abbrev pub change_to_write : Worked
change_to_write = record {
  script = record (one_set 2 (codes "s0")) {
    clients =
        declared_client (codes "c0") 1 ∷ declared_client (codes "c1") 0 ∷ declared_client (codes "c2") 1 ∷
        declared_client (codes "c3") 0 ∷ declared_client (codes "c4") 1 ∷ [];
    commands =
        (0, Lock 0 Write) ∷
        (0, Unlock 0 Write) ∷
        (1, Lock 0 Write) ∷
        (2, Lock 0 IntentionWrite) ∷
        (3, Lock 0 Upgrade) ∷
        (4, Lock 0 Read) ∷
        (4, Change 0 Read Write) ∷
        (4, Unlock 0 Write) ∷
        [];
  };
  run =
      act 1 1 4 (Wait 4 0 Read ∷ []) ∷
      act 2 1 0 (Wait 0 0 Write ∷ []) ∷
      act 3 1 2 (Wait 2 0 IntentionWrite ∷ []) ∷
      taken_at 2 0 1 (Token 0 1 1 ∷ []) ∷
      taken_at 3 0 1 [] ∷
      taken_at 4 1 0 (Grant 4 0 Read ∷ []) ∷
      taken_at 5 1 0 [] ∷
      act 6 1 4 (Changed 4 0 Read Write ∷ []) ∷
      act 4 0 1 (Wait 1 0 Write ∷ []) ∷
      act 7 1 4 (Unlocked 4 0 Write ∷ Grant 0 0 Write ∷ []) ∷
      act 8 1 0 (Unlocked 0 0 Write ∷ []) ∷
      taken_at 9 1 0 (Token 0 0 2 ∷ []) ∷
      act 5 0 3 (Wait 3 0 Upgrade ∷ []) ∷
      taken_at 10 1 0 [] ∷
      taken_at 6 0 1 [] ∷
      taken_at 11 1 0 [] ∷
      taken_at 10 0 1 (Grant 1 0 Write ∷ []) ∷
      taken_at 11 0 1 [] ∷
      taken_at 12 0 1 [] ∷
      [];
  held = holds 1 0 Write 1 ∷ [];
  waiting = holding 2 0 IntentionWrite ∷ holding 3 0 Upgrade ∷ [];
  owners = owner 0 2 ∷ [];
}

-- A node takes the token, and then a copy and a freeze that are older.
abbrev pub old_freeze : Worked
old_freeze = record {
  script = record (one_set 3 (codes "s0")) {
    clients =
        declared_client (codes "c0") 2 ∷ declared_client (codes "c1") 2 ∷ declared_client (codes "c3") 1 ∷
        declared_client (codes "c5") 0 ∷ [];
    commands =
        (0, Lock 0 Write) ∷
        (1, Lock 0 Read) ∷
        (2, Lock 0 Upgrade) ∷
        (2, Unlock 0 Upgrade) ∷
        (3, Lock 0 Read) ∷
        (3, Unlock 0 Read) ∷
        [];
  };
  run =
      act 1 0 3 (Grant 3 0 Read ∷ []) ∷
      act 1 2 1 (Wait 1 0 Read ∷ []) ∷
      act 1 1 2 (Wait 2 0 Upgrade ∷ []) ∷
      taken_at 2 0 2 (Copy 0 2 1 Read ∷ []) ∷
      taken_at 3 0 1 (Freeze 0 2 1 (modes_in (Upgrade ∷ IntentionWrite ∷ ReadIntentionWrite ∷ Write ∷ [])) ∷ Token 0 1 1 ∷ []) ∷
      act 4 0 3 (Unlocked 3 0 Read ∷ []) ∷
      taken_at 4 1 0 (Grant 2 0 Upgrade ∷ Freeze 0 0 2 no_modes ∷ Freeze 0 2 2 no_modes ∷ []) ∷
      taken_at 5 1 0 [] ∷
      taken_at 5 2 1 [] ∷
      act 6 1 2 (Unlocked 2 0 Upgrade ∷ []) ∷
      act 6 2 0 (Wait 0 0 Write ∷ []) ∷
      taken_at 7 1 2 (Freeze 0 2 3 all_modes ∷ Token 0 2 2 ∷ []) ∷
      taken_at 5 0 1 [] ∷
      taken_at 8 2 1 [] ∷
      taken_at 9 2 1 [] ∷
      taken_at 10 2 0 (Grant 1 0 Read ∷ []) ∷
      taken_at 11 2 0 [] ∷
      [];
  held = holds 1 0 Read 1 ∷ [];
  waiting = holding 0 0 Write ∷ [];
  owners = owner 2 2 ∷ [];
}

-- A tell that was sent on is older than the entry of its node, and changes nothing.
abbrev pub old_tell : Worked
old_tell = record {
  script = record (one_set 4 (codes "s0")) {
    clients =
        declared_client (codes "c0") 1 ∷ declared_client (codes "c1") 2 ∷ declared_client (codes "c2") 1 ∷
        declared_client (codes "c3") 1 ∷ declared_client (codes "c7") 3 ∷ [];
    commands =
        (0, Lock 0 IntentionRead) ∷
        (1, Lock 0 Read) ∷
        (1, Unlock 0 Read) ∷
        (2, Lock 0 Read) ∷
        (2, Unlock 0 Read) ∷
        (3, Lock 0 IntentionWrite) ∷
        (4, Lock 0 Upgrade) ∷
        [];
  };
  run =
      act 1 1 2 (Wait 2 0 Read ∷ []) ∷
      act 1 2 1 (Wait 1 0 Read ∷ []) ∷
      taken_at 2 0 2 (Token 0 2 1 ∷ []) ∷
      taken_at 3 2 0 (Grant 1 0 Read ∷ []) ∷
      act 1 3 4 (Wait 4 0 Upgrade ∷ []) ∷
      taken_at 3 0 1 [] ∷
      act 2 1 0 (Wait 0 0 IntentionRead ∷ []) ∷
      taken_at 4 0 1 [] ∷
      taken_at 5 0 3 [] ∷
      taken_at 4 2 0 (Copy 0 1 2 Read ∷ []) ∷
      act 5 2 1 (Unlocked 1 0 Read ∷ []) ∷
      taken_at 6 2 0 (Freeze 0 1 1 (modes_in (Write ∷ [])) ∷ Token 0 1 2 ∷ []) ∷
      taken_at 7 2 0 [] ∷
      taken_at 5 1 2 (Grant 2 0 Read ∷ []) ∷
      act 6 1 2 (Unlocked 2 0 Read ∷ []) ∷
      taken_at 7 1 2 [] ∷
      taken_at 8 1 2 (Grant 0 0 IntentionRead ∷ []) ∷
      taken_at 9 1 2 (Token 0 3 3 ∷ []) ∷
      taken_at 8 2 1 [] ∷
      taken_at 10 1 2 [] ∷
      taken_at 10 3 1 (Grant 4 0 Upgrade ∷ Freeze 0 1 2 no_modes ∷ []) ∷
      taken_at 11 1 3 [] ∷
      act 12 1 3 (Wait 3 0 IntentionWrite ∷ []) ∷
      taken_at 11 3 1 [] ∷
      taken_at 13 3 1 (Freeze 0 1 3 (modes_in (Read ∷ Upgrade ∷ ReadIntentionWrite ∷ Write ∷ [])) ∷ []) ∷
      taken_at 14 1 3 [] ∷
      [];
  held = holds 0 0 IntentionRead 1 ∷ holds 4 0 Upgrade 1 ∷ [];
  waiting = holding 3 0 IntentionWrite ∷ [];
  owners = owner 3 3 ∷ [];
}
