-- Longer worked examples, in other orders of moves.
use Rattle.std.specs.Prelude.{true, false, [], ◌∷◌, codes}
use Rattle.lt_modes.specs.declared.mode.Mode.TheVariants.{IntentionRead, Read, Upgrade, IntentionWrite, ReadIntentionWrite, Write}
use Rattle.lt_modes.specs.declared.command.Command.TheVariants.{Lock, Try, Unlock, Change, DropAll}
use Rattle.lt_modes.specs.declared.event.Event.TheVariants.{Grant, Wait, Try as Tried, Unlock as Unlocked, NotHeld, Change as Changed, DropAll as Dropped, Copy, Freeze, Token}
use Rattle.lt_modes.specs.Modes.{no_modes, all_modes, modes_in}
use Rattle.lt_spec.specs.Holdings.{holding}
use Rattle.lt_law_examples.specs.Worked.{Worked, declared_set, declared_client, act, taken_at, holds, owner, one_set}

-- Freezes of two desks are taken in reverse order: the older ones change nothing.
abbrev pub freezes_overtake : Worked
freezes_overtake = record {
  script = record (one_set 3 (codes "s0")) {
    clients =
        declared_client (codes "c1") 0 ∷ declared_client (codes "c3") 1 ∷ declared_client (codes "c4") 0 ∷
        declared_client (codes "c6") 0 ∷ declared_client (codes "c7") 2 ∷ [];
    commands =
        (0, DropAll 0 0) ∷
        (0, Lock 0 Write) ∷
        (1, Lock 0 Read) ∷
        (1, Unlock 0 Read) ∷
        (2, Lock 0 IntentionRead) ∷
        (3, Unlock 0 IntentionRead) ∷
        (3, Lock 0 IntentionRead) ∷
        (4, Lock 0 IntentionWrite) ∷
        [];
  };
  run =
      act 1 1 1 (Wait 1 0 Read ∷ []) ∷
      taken_at 2 0 1 (Token 0 1 1 ∷ []) ∷
      taken_at 3 1 0 (Grant 1 0 Read ∷ []) ∷
      act 3 0 2 (Wait 2 0 IntentionRead ∷ []) ∷
      taken_at 4 1 0 (Copy 0 0 2 IntentionRead ∷ Freeze 0 0 1 no_modes ∷ []) ∷
      act 4 0 3 (NotHeld 3 0 IntentionRead ∷ []) ∷
      act 5 0 0 (Dropped 0 0 0 0 ∷ []) ∷
      act 1 2 4 (Wait 4 0 IntentionWrite ∷ []) ∷
      taken_at 6 0 2 [] ∷
      taken_at 7 1 0 (Freeze 0 0 2 (modes_in (Read ∷ Upgrade ∷ ReadIntentionWrite ∷ Write ∷ [])) ∷ []) ∷
      act 8 1 1 (Unlocked 1 0 Read ∷ Token 0 2 2 ∷ []) ∷
      taken_at 9 2 1 (Grant 4 0 IntentionWrite ∷ Freeze 0 0 3 no_modes ∷ []) ∷
      act 7 0 0 (Wait 0 0 Write ∷ []) ∷
      taken_at 9 1 0 [] ∷
      taken_at 10 2 1 (Freeze 0 0 4 all_modes ∷ []) ∷
      taken_at 10 0 2 [] ∷
      taken_at 11 0 2 [] ∷
      taken_at 12 0 1 (Grant 2 0 IntentionRead ∷ []) ∷
      taken_at 13 0 1 [] ∷
      taken_at 14 0 1 [] ∷
      act 15 0 3 (Wait 3 0 IntentionRead ∷ []) ∷
      taken_at 16 2 0 [] ∷
      [];
  held = holds 2 0 IntentionRead 1 ∷ holds 4 0 IntentionWrite 1 ∷ [];
  waiting = holding 0 0 Write ∷ holding 3 0 IntentionRead ∷ [];
  owners = owner 2 2 ∷ [];
}

-- Two copies to one node from two desks, with a freeze for each change of the queue.
abbrev pub copies_and_freezes : Worked
copies_and_freezes = record {
  script = record (one_set 4 (codes "s0")) {
    clients = declared_client (codes "c0") 0 ∷ declared_client (codes "c1") 3 ∷ declared_client (codes "c2") 2 ∷ [];
    commands =
        (0, Lock 0 Read) ∷ (0, Unlock 0 Read) ∷ (0, Lock 0 Read) ∷
        (1, Lock 0 Read) ∷
        (2, Lock 0 Upgrade) ∷ (2, Try 0 IntentionRead) ∷ (2, Change 0 IntentionRead IntentionWrite) ∷
        [];
  };
  run =
      act 1 2 2 (Wait 2 0 Upgrade ∷ []) ∷
      act 1 3 1 (Wait 1 0 Read ∷ []) ∷
      taken_at 2 0 3 (Token 0 3 1 ∷ []) ∷
      act 3 0 0 (Wait 0 0 Read ∷ []) ∷
      taken_at 4 0 2 [] ∷
      taken_at 3 3 0 (Grant 1 0 Read ∷ []) ∷
      taken_at 4 3 0 (Copy 0 0 0 Read ∷ Freeze 0 0 1 no_modes ∷ []) ∷
      taken_at 5 3 0 (Freeze 0 0 2 (modes_in (Upgrade ∷ IntentionWrite ∷ ReadIntentionWrite ∷ Write ∷ [])) ∷ Token 0 2 2 ∷ []) ∷
      taken_at 5 0 3 (Grant 0 0 Read ∷ []) ∷
      taken_at 6 0 3 [] ∷
      taken_at 7 0 3 [] ∷
      act 8 0 0 (Unlocked 0 0 Read ∷ []) ∷
      taken_at 9 3 0 [] ∷
      act 9 0 0 (Wait 0 0 Read ∷ []) ∷
      taken_at 10 2 0 [] ∷
      taken_at 11 2 3 (Grant 2 0 Upgrade ∷ Copy 0 0 0 Read ∷ Freeze 0 0 3 no_modes ∷ Freeze 0 3 3 no_modes ∷ []) ∷
      taken_at 12 3 2 [] ∷
      taken_at 12 0 2 (Grant 0 0 Read ∷ []) ∷
      taken_at 12 2 3 [] ∷
      act 13 2 2 (Tried 2 0 IntentionRead true ∷ []) ∷
      taken_at 13 0 2 [] ∷
      act 14 2 2 (Wait 2 0 IntentionWrite ∷ Freeze 0 0 4 (modes_in (Read ∷ Upgrade ∷ ReadIntentionWrite ∷ Write ∷ [])) ∷ Freeze 0 3 4 (modes_in (Read ∷ Upgrade ∷ ReadIntentionWrite ∷ Write ∷ [])) ∷ []) ∷
      taken_at 15 3 2 [] ∷
      taken_at 15 0 2 [] ∷
      [];
  held = holds 0 0 Read 1 ∷ holds 1 0 Read 1 ∷ holds 2 0 IntentionRead 1 ∷ holds 2 0 Upgrade 1 ∷ [];
  waiting = holding 2 0 IntentionWrite ∷ [];
  owners = owner 2 2 ∷ [];
}

-- The token goes from node to node and comes back.
abbrev pub token_goes_round : Worked
token_goes_round = record {
  script = record (one_set 3 (codes "s0")) {
    clients =
        declared_client (codes "c0") 2 ∷ declared_client (codes "c1") 0 ∷ declared_client (codes "c2") 2 ∷
        declared_client (codes "c3") 0 ∷ declared_client (codes "c5") 1 ∷ [];
    commands =
        (0, Unlock 0 Read) ∷ (0, Lock 0 IntentionRead) ∷
        (1, Lock 0 Read) ∷ (1, Unlock 0 Read) ∷ (1, Try 0 Read) ∷ (1, Lock 0 Write) ∷
        (2, Lock 0 Read) ∷ (2, Unlock 0 Read) ∷
        (3, Try 0 Write) ∷ (3, Lock 0 Write) ∷
        (4, Lock 0 Write) ∷ (4, Unlock 0 Write) ∷
        [];
  };
  run =
      act 1 2 2 (Wait 2 0 Read ∷ []) ∷
      act 1 0 1 (Grant 1 0 Read ∷ []) ∷
      act 2 0 1 (Unlocked 1 0 Read ∷ []) ∷
      act 1 1 4 (Wait 4 0 Write ∷ []) ∷
      taken_at 3 0 2 (Token 0 2 1 ∷ []) ∷
      taken_at 4 2 0 (Grant 2 0 Read ∷ []) ∷
      act 4 0 3 (Tried 3 0 Write false ∷ []) ∷
      act 5 2 0 (NotHeld 0 0 Read ∷ []) ∷
      act 6 2 2 (Unlocked 2 0 Read ∷ []) ∷
      act 5 0 1 (Tried 1 0 Read false ∷ []) ∷
      taken_at 6 0 1 [] ∷
      taken_at 7 2 0 (Token 0 1 2 ∷ []) ∷
      act 8 2 0 (Wait 0 0 IntentionRead ∷ []) ∷
      taken_at 8 1 2 (Grant 4 0 Write ∷ []) ∷
      act 7 0 3 (Wait 3 0 Write ∷ []) ∷
      act 9 1 4 (Unlocked 4 0 Write ∷ []) ∷
      taken_at 10 1 2 (Token 0 2 3 ∷ []) ∷
      taken_at 11 2 1 (Grant 0 0 IntentionRead ∷ []) ∷
      act 8 0 1 (Wait 1 0 Write ∷ []) ∷
      taken_at 11 1 0 [] ∷
      taken_at 12 2 1 [] ∷
      taken_at 12 1 0 [] ∷
      taken_at 13 2 1 [] ∷
      [];
  held = holds 0 0 IntentionRead 1 ∷ [];
  waiting = holding 1 0 Write ∷ holding 3 0 Write ∷ [];
  owners = owner 2 3 ∷ [];
}

-- The token goes and comes back, and an older tell changes nothing.
abbrev pub token_comes_back : Worked
token_comes_back = record {
  script = record (one_set 2 (codes "s0")) {
    clients =
        declared_client (codes "c1") 0 ∷ declared_client (codes "c5") 1 ∷ declared_client (codes "c6") 1 ∷
        declared_client (codes "c7") 1 ∷ [];
    commands =
        (0, Lock 0 IntentionWrite) ∷ (0, Unlock 0 IntentionWrite) ∷ (0, Lock 0 IntentionWrite) ∷
        (1, Lock 0 IntentionRead) ∷
        (2, Lock 0 IntentionWrite) ∷ (2, Unlock 0 IntentionWrite) ∷
        (3, Lock 0 Write) ∷
        [];
  };
  run =
      act 1 1 2 (Wait 2 0 IntentionWrite ∷ []) ∷
      act 2 1 1 (Wait 1 0 IntentionRead ∷ []) ∷
      act 1 0 0 (Grant 0 0 IntentionWrite ∷ []) ∷
      taken_at 2 0 1 (Copy 0 1 2 IntentionWrite ∷ []) ∷
      taken_at 3 1 0 (Grant 2 0 IntentionWrite ∷ []) ∷
      act 3 0 0 (Unlocked 0 0 IntentionWrite ∷ []) ∷
      taken_at 4 0 1 (Freeze 0 1 1 (modes_in (Write ∷ [])) ∷ Token 0 1 1 ∷ []) ∷
      taken_at 5 1 0 [] ∷
      act 6 1 2 (Unlocked 2 0 IntentionWrite ∷ []) ∷
      act 5 0 0 (Wait 0 0 IntentionWrite ∷ []) ∷
      taken_at 7 1 0 (Grant 1 0 IntentionRead ∷ []) ∷
      taken_at 8 1 0 (Token 0 0 2 ∷ []) ∷
      taken_at 7 0 1 [] ∷
      taken_at 9 1 0 [] ∷
      taken_at 9 0 1 (Grant 0 0 IntentionWrite ∷ Freeze 0 1 2 no_modes ∷ []) ∷
      taken_at 10 0 1 [] ∷
      taken_at 10 1 0 [] ∷
      act 11 1 3 (Wait 3 0 Write ∷ []) ∷
      taken_at 12 0 1 (Freeze 0 1 3 all_modes ∷ []) ∷
      taken_at 13 1 0 [] ∷
      [];
  held = holds 0 0 IntentionWrite 1 ∷ holds 1 0 IntentionRead 1 ∷ [];
  waiting = holding 3 0 Write ∷ [];
  owners = owner 0 2 ∷ [];
}

-- Three sets in two families: each has its own token and its own links.
abbrev pub three_sets : Worked
three_sets = record {
  script = record {
    version = 1;
    nodes = 4;
    sets = declared_set (codes "s0") 0 ∷ declared_set (codes "s1") 0 ∷ declared_set (codes "s2") 2 ∷ [];
    clients =
        declared_client (codes "c0") 2 ∷ declared_client (codes "c1") 0 ∷ declared_client (codes "c2") 1 ∷
        declared_client (codes "c3") 3 ∷ declared_client (codes "c4") 1 ∷ [];
    commands =
        (0, Lock 2 Upgrade) ∷ (0, Unlock 2 Upgrade) ∷ (0, Lock 2 Write) ∷
        (1, Lock 0 Upgrade) ∷ (1, Unlock 0 Upgrade) ∷ (1, Lock 2 Write) ∷ (1, Unlock 2 Write) ∷
        (2, Lock 0 Write) ∷ (2, Lock 2 Read) ∷
        (3, Lock 2 Write) ∷
        (4, Lock 2 Write) ∷ (4, Unlock 2 Write) ∷
        [];
  };
  run =
      act 1 1 4 (Wait 4 2 Write ∷ []) ∷
      act 2 1 2 (Wait 2 0 Write ∷ []) ∷
      act 1 2 0 (Wait 0 2 Upgrade ∷ []) ∷
      act 1 0 1 (Grant 1 0 Upgrade ∷ []) ∷
      act 2 0 1 (Unlocked 1 0 Upgrade ∷ []) ∷
      taken_at 3 0 2 (Token 2 2 1 ∷ []) ∷
      taken_at 4 0 1 [] ∷
      taken_at 5 0 1 (Token 0 1 1 ∷ []) ∷
      act 6 0 1 (Wait 1 2 Write ∷ []) ∷
      taken_at 4 2 0 (Grant 0 2 Upgrade ∷ []) ∷
      taken_at 5 2 0 [] ∷
      act 6 2 0 (Unlocked 0 2 Upgrade ∷ Token 2 1 2 ∷ []) ∷
      act 7 2 0 (Wait 0 2 Write ∷ []) ∷
      taken_at 6 1 0 (Grant 2 0 Write ∷ []) ∷
      act 7 1 2 (Wait 2 2 Read ∷ []) ∷
      taken_at 8 1 0 [] ∷
      taken_at 9 1 2 (Grant 4 2 Write ∷ []) ∷
      act 10 1 4 (Unlocked 4 2 Write ∷ Token 2 0 3 ∷ []) ∷
      taken_at 11 1 2 [] ∷
      taken_at 8 0 1 [] ∷
      taken_at 11 0 1 (Grant 1 2 Write ∷ []) ∷
      act 12 0 1 (Unlocked 1 2 Write ∷ []) ∷
      taken_at 13 0 1 (Token 2 2 4 ∷ []) ∷
      taken_at 14 2 0 (Grant 0 2 Write ∷ []) ∷
      act 1 3 3 (Wait 3 2 Write ∷ []) ∷
      taken_at 14 0 3 [] ∷
      taken_at 12 1 0 [] ∷
      taken_at 15 2 0 [] ∷
      taken_at 15 0 1 [] ∷
      taken_at 16 3 0 [] ∷
      [];
  held = holds 0 2 Write 1 ∷ holds 2 0 Write 1 ∷ [];
  waiting = holding 2 2 Read ∷ holding 3 2 Write ∷ [];
  owners = owner 1 1 ∷ owner 0 0 ∷ owner 2 4 ∷ [];
}

-- A write becomes an upgrade, and a reader of another node gets a copy.
abbrev pub upgrade_from_write : Worked
upgrade_from_write = record {
  script = record (one_set 4 (codes "s0")) {
    clients =
        declared_client (codes "c0") 0 ∷ declared_client (codes "c1") 0 ∷ declared_client (codes "c3") 3 ∷
        declared_client (codes "c4") 1 ∷ [];
    commands =
        (0, Lock 0 Read) ∷ (0, Unlock 0 Read) ∷ (0, Unlock 0 Upgrade) ∷ (0, Lock 0 Read) ∷
        (1, Unlock 0 IntentionRead) ∷ (1, Lock 0 Upgrade) ∷ (1, Unlock 0 Upgrade) ∷ (1, Lock 0 Upgrade) ∷
        (1, Unlock 0 Upgrade) ∷
        (2, Lock 0 Upgrade) ∷ (2, Unlock 0 Upgrade) ∷ (2, Lock 0 Upgrade) ∷
        (3, Lock 0 Write) ∷ (3, Change 0 Write Upgrade) ∷ (3, Unlock 0 Upgrade) ∷
        [];
  };
  run =
      act 1 0 0 (Grant 0 0 Read ∷ []) ∷
      act 2 0 0 (Unlocked 0 0 Read ∷ []) ∷
      act 3 0 0 (NotHeld 0 0 Upgrade ∷ []) ∷
      act 1 1 3 (Wait 3 0 Write ∷ []) ∷
      act 4 0 1 (NotHeld 1 0 IntentionRead ∷ []) ∷
      act 1 3 2 (Wait 2 0 Upgrade ∷ []) ∷
      act 5 0 1 (Grant 1 0 Upgrade ∷ []) ∷
      taken_at 6 0 1 [] ∷
      taken_at 7 0 3 [] ∷
      act 8 0 0 (Wait 0 0 Read ∷ []) ∷
      act 9 0 1 (Unlocked 1 0 Upgrade ∷ Token 0 1 1 ∷ []) ∷
      act 10 0 1 (Wait 1 0 Upgrade ∷ []) ∷
      taken_at 10 1 0 (Grant 3 0 Write ∷ []) ∷
      taken_at 11 1 0 [] ∷
      act 12 1 3 (Changed 3 0 Write Upgrade ∷ Copy 0 0 0 Read ∷ Freeze 0 0 1 (modes_in (Upgrade ∷ IntentionWrite ∷ ReadIntentionWrite ∷ Write ∷ [])) ∷ []) ∷
      act 13 1 3 (Unlocked 3 0 Upgrade ∷ Token 0 3 2 ∷ []) ∷
      taken_at 14 3 1 (Grant 2 0 Upgrade ∷ []) ∷
      act 15 3 2 (Unlocked 2 0 Upgrade ∷ Token 0 0 3 ∷ []) ∷
      taken_at 16 0 3 (Grant 1 0 Upgrade ∷ []) ∷
      act 16 3 2 (Wait 2 0 Upgrade ∷ []) ∷
      taken_at 17 0 3 [] ∷
      act 18 0 1 (Unlocked 1 0 Upgrade ∷ Token 0 3 4 ∷ []) ∷
      taken_at 19 3 0 (Grant 2 0 Upgrade ∷ Freeze 0 0 2 no_modes ∷ []) ∷
      taken_at 20 0 3 [] ∷
      taken_at 21 0 1 (Grant 0 0 Read ∷ []) ∷
      taken_at 22 0 1 [] ∷
      [];
  held = holds 0 0 Read 1 ∷ holds 2 0 Upgrade 1 ∷ [];
  waiting = [];
  owners = owner 3 4 ∷ [];
}

-- Two copies go to one node; the first is answered before the second comes.
abbrev pub copies_stay_owed : Worked
copies_stay_owed = record {
  script = record (one_set 3 (codes "s0")) {
    clients =
        declared_client (codes "c0") 2 ∷ declared_client (codes "c1") 2 ∷ declared_client (codes "c2") 1 ∷
        declared_client (codes "c4") 0 ∷ declared_client (codes "c6") 0 ∷ [];
    commands =
        (0, Lock 0 Read) ∷
        (1, Lock 0 IntentionRead) ∷ (1, Unlock 0 IntentionRead) ∷ (1, Lock 0 IntentionRead) ∷
        (2, Lock 0 Upgrade) ∷ (2, Unlock 0 Upgrade) ∷
        (3, Lock 0 IntentionWrite) ∷ (3, Unlock 0 IntentionWrite) ∷ (3, Lock 0 IntentionWrite) ∷
        (4, Lock 0 Read) ∷ (4, Unlock 0 Read) ∷
        [];
  };
  run =
      act 1 0 3 (Grant 3 0 IntentionWrite ∷ []) ∷
      act 1 1 2 (Wait 2 0 Upgrade ∷ []) ∷
      act 1 2 0 (Wait 0 0 Read ∷ []) ∷
      taken_at 2 0 2 [] ∷
      act 2 2 1 (Wait 1 0 IntentionRead ∷ []) ∷
      taken_at 3 0 2 (Copy 0 2 1 IntentionRead ∷ Freeze 0 2 1 (modes_in (IntentionWrite ∷ ReadIntentionWrite ∷ Write ∷ [])) ∷ []) ∷
      taken_at 4 0 1 (Freeze 0 2 2 (modes_in (Upgrade ∷ IntentionWrite ∷ ReadIntentionWrite ∷ Write ∷ [])) ∷ []) ∷
      act 5 0 4 (Wait 4 0 Read ∷ []) ∷
      act 6 0 3 (Unlocked 3 0 IntentionWrite ∷ Grant 4 0 Read ∷ Copy 0 2 0 Read ∷ Token 0 1 1 ∷ []) ∷
      act 7 0 3 (Wait 3 0 IntentionWrite ∷ []) ∷
      act 8 0 4 (Unlocked 4 0 Read ∷ []) ∷
      taken_at 7 1 0 (Grant 2 0 Upgrade ∷ Freeze 0 0 3 no_modes ∷ Freeze 0 2 3 no_modes ∷ []) ∷
      taken_at 8 1 0 (Freeze 0 0 4 (modes_in (Read ∷ Upgrade ∷ ReadIntentionWrite ∷ Write ∷ [])) ∷ Freeze 0 2 4 (modes_in (Read ∷ Upgrade ∷ ReadIntentionWrite ∷ Write ∷ [])) ∷ []) ∷
      taken_at 9 1 0 [] ∷
      taken_at 9 0 1 [] ∷
      taken_at 8 2 1 [] ∷
      taken_at 10 0 1 [] ∷
      taken_at 9 2 1 [] ∷
      act 10 1 2 (Unlocked 2 0 Upgrade ∷ []) ∷
      taken_at 10 2 0 (Grant 1 0 IntentionRead ∷ []) ∷
      act 11 2 1 (Unlocked 1 0 IntentionRead ∷ []) ∷
      act 12 2 1 (Wait 1 0 IntentionRead ∷ []) ∷
      taken_at 12 1 2 [] ∷
      taken_at 13 1 2 (Token 0 2 2 ∷ []) ∷
      taken_at 14 2 1 (Grant 1 0 IntentionRead ∷ []) ∷
      taken_at 15 2 0 [] ∷
      taken_at 16 2 0 [] ∷
      taken_at 17 2 0 (Grant 0 0 Read ∷ []) ∷
      [];
  held = holds 0 0 Read 1 ∷ holds 1 0 IntentionRead 1 ∷ [];
  waiting = holding 3 0 IntentionWrite ∷ [];
  owners = owner 2 2 ∷ [];
}

-- Copies are owed until a tell that knows of them comes.
abbrev pub owed_until_told : Worked
owed_until_told = record {
  script = record (one_set 2 (codes "s0")) {
    clients =
        declared_client (codes "c0") 1 ∷ declared_client (codes "c1") 0 ∷ declared_client (codes "c2") 1 ∷
        declared_client (codes "c4") 1 ∷ [];
    commands =
        (0, Lock 0 Read) ∷ (0, Unlock 0 Read) ∷
        (1, Lock 0 Read) ∷ (1, Unlock 0 Read) ∷ (1, Lock 0 Write) ∷
        (2, Lock 0 Read) ∷ (2, Unlock 0 Read) ∷
        (3, Lock 0 IntentionWrite) ∷ (3, Unlock 0 IntentionWrite) ∷
        [];
  };
  run =
      act 1 1 2 (Wait 2 0 Read ∷ []) ∷
      act 2 1 0 (Wait 0 0 Read ∷ []) ∷
      act 3 1 3 (Wait 3 0 IntentionWrite ∷ []) ∷
      act 1 0 1 (Grant 1 0 Read ∷ []) ∷
      taken_at 2 0 1 (Copy 0 1 2 Read ∷ []) ∷
      taken_at 4 1 0 (Grant 2 0 Read ∷ []) ∷
      act 5 1 2 (Unlocked 2 0 Read ∷ []) ∷
      taken_at 3 0 1 (Copy 0 1 0 Read ∷ []) ∷
      taken_at 6 1 0 (Grant 0 0 Read ∷ []) ∷
      taken_at 4 0 1 (Freeze 0 1 1 (modes_in (Read ∷ Upgrade ∷ ReadIntentionWrite ∷ Write ∷ [])) ∷ []) ∷
      act 5 0 1 (Unlocked 1 0 Read ∷ Token 0 1 1 ∷ []) ∷
      act 6 0 1 (Wait 1 0 Write ∷ []) ∷
      taken_at 7 0 1 [] ∷
      taken_at 7 1 0 [] ∷
      taken_at 8 1 0 [] ∷
      taken_at 9 1 0 [] ∷
      taken_at 10 1 0 [] ∷
      act 11 1 0 (Unlocked 0 0 Read ∷ Grant 3 0 IntentionWrite ∷ []) ∷
      act 12 1 3 (Unlocked 3 0 IntentionWrite ∷ Token 0 0 2 ∷ []) ∷
      taken_at 13 0 1 (Grant 1 0 Write ∷ []) ∷
      [];
  held = holds 1 0 Write 1 ∷ [];
  waiting = [];
  owners = owner 0 2 ∷ [];
}
