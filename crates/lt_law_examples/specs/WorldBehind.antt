-- A worked world: asks that follow the token.
use Rattle.std.specs.Prelude.{true, false, [], ◌∷◌, codes}
use Rattle.lt_modes.specs.declared.mode.Mode.TheVariants.{IntentionRead, Read, Upgrade, IntentionWrite, ReadIntentionWrite, Write}
use Rattle.lt_modes.specs.declared.command.Command.TheVariants.{Lock, Unlock, Change}
use Rattle.lt_modes.specs.declared.event.Event.TheVariants.{Grant, Wait, Unlock as Unlocked, Change as Changed, Copy, Freeze, Token}
use Rattle.lt_modes.specs.declared.moves.Step.TheVariants.{Take}
use Rattle.lt_modes.specs.Modes.{no_modes, all_modes, modes_in}
use Rattle.lt_modes.specs.State.{AskBody, TokenBody}
use Rattle.lt_spec.specs.Holdings.{holding}
use Rattle.lt_law_examples.specs.Worked.{Worked, declared_client, act, taken_at, holds, owner, one_set}
use Rattle.lt_law_examples.specs.Snapshot.{Snapshot, blank, untouched_set, stamp, hoped, entry, new_ask, turn, untouched_node, mailed, untouched_desk}

-- Asks follow the token to its new node, and by a hoped link.
abbrev pub asks_behind_token : Worked
asks_behind_token = record {
  script = record (one_set 4 (codes "s0")) {
    clients =
        declared_client (codes "c0") 1 ∷ declared_client (codes "c1") 0 ∷ declared_client (codes "c2") 1 ∷
        declared_client (codes "c3") 1 ∷ declared_client (codes "c4") 2 ∷ declared_client (codes "c5") 2 ∷
        declared_client (codes "c6") 2 ∷ [];
    commands =
        (3, Lock 0 Write) ∷
        (5, Lock 0 Read) ∷
        (0, Lock 0 IntentionRead) ∷
        (6, Lock 0 Read) ∷
        (2, Lock 0 Write) ∷
        (4, Lock 0 Upgrade) ∷
        (5, Change 0 Read Read) ∷
        (1, Lock 0 Read) ∷
        (4, Unlock 0 Upgrade) ∷
        (5, Unlock 0 Read) ∷ (5, Lock 0 Upgrade) ∷
        (4, Lock 0 Read) ∷
        (3, Unlock 0 Write) ∷ (3, Lock 0 Upgrade) ∷ (3, Unlock 0 Upgrade) ∷ (3, Lock 0 Read) ∷ (3, Unlock 0 Read) ∷
        (3, Lock 0 Write) ∷ (3, Unlock 0 Write) ∷ (3, Lock 0 Read) ∷ (3, Unlock 0 Read) ∷
        [];
  };
  run =
      act 1 1 3 (Wait 3 0 Write ∷ []) ∷
      act 1 2 5 (Wait 5 0 Read ∷ []) ∷
      taken_at 2 0 2 (Token 0 2 1 ∷ []) ∷
      act 2 1 0 (Wait 0 0 IntentionRead ∷ []) ∷
      act 2 2 6 (Wait 6 0 Read ∷ []) ∷
      act 3 1 2 (Wait 2 0 Write ∷ []) ∷
      taken_at 3 0 1 [] ∷
      taken_at 3 2 0 (Grant 5 0 Read ∷ []) ∷
      act 4 2 4 (Grant 4 0 Upgrade ∷ []) ∷
      taken_at 4 0 1 [] ∷
      act 5 2 5 (Changed 5 0 Read Read ∷ []) ∷
      taken_at 6 2 0 [] ∷
      act 5 0 1 (Wait 1 0 Read ∷ []) ∷
      act 7 2 4 (Unlocked 4 0 Upgrade ∷ []) ∷
      act 8 2 5 (Unlocked 5 0 Read ∷ Token 0 1 2 ∷ []) ∷
      act 9 2 5 (Wait 5 0 Upgrade ∷ []) ∷
      act 10 2 4 (Wait 4 0 Read ∷ []) ∷
      taken_at 9 1 2 (Grant 3 0 Write ∷ []) ∷
      act 10 1 3 (Unlocked 3 0 Write ∷ []) ∷
      act 11 1 3 (Grant 3 0 Upgrade ∷ []) ∷
      act 12 1 3 (Unlocked 3 0 Upgrade ∷ []) ∷
      taken_at 6 0 1 [] ∷
      act 13 1 3 (Grant 3 0 Read ∷ []) ∷
      act 14 1 3 (Unlocked 3 0 Read ∷ []) ∷
      act 15 1 3 (Grant 3 0 Write ∷ []) ∷
      act 16 1 3 (Unlocked 3 0 Write ∷ []) ∷
      act 17 1 3 (Grant 3 0 Read ∷ []) ∷
      act 18 1 3 (Unlocked 3 0 Read ∷ []) ∷
      taken_at 19 1 2 (Token 0 2 3 ∷ []) ∷
      taken_at 20 2 1 (Grant 5 0 Upgrade ∷ []) ∷
      taken_at 20 1 2 [] ∷
      taken_at 21 2 1 (Grant 4 0 Read ∷ []) ∷
      taken_at 7 0 2 [] ∷
      taken_at 22 2 0 (Grant 6 0 Read ∷ []) ∷
      taken_at 21 1 0 [] ∷
      taken_at 23 2 1 (Copy 0 1 0 IntentionRead ∷ Freeze 0 1 1 no_modes ∷ []) ∷
      taken_at 24 1 2 (Grant 0 0 IntentionRead ∷ []) ∷
      taken_at 25 1 2 [] ∷
      taken_at 26 1 0 [] ∷
      taken_at 27 1 0 [] ∷
      taken_at 28 2 1 (Freeze 0 1 2 all_modes ∷ []) ∷
      taken_at 29 1 2 [] ∷
      [];
  held = holds 0 0 IntentionRead 1 ∷ holds 4 0 Read 1 ∷ holds 5 0 Upgrade 1 ∷ holds 6 0 Read 1 ∷ [];
  waiting = holding 1 0 Read ∷ holding 2 0 Write ∷ [];
  owners = owner 2 3 ∷ [];
}

-- The world after 17 of its moves.
abbrev pub asks_behind_token_after_17 : Snapshot
asks_behind_token_after_17 = record {
  row = asks_behind_token;
  moves = 17;
  nodes =
      record {
        clock = 5;
        made = 0 ∷ 1 ∷ 0 ∷ 0 ∷ 0 ∷ 0 ∷ 0 ∷ [];
        sets = record untouched_set {
          frozen = modes_in (IntentionWrite ∷ ReadIntentionWrite ∷ Write ∷ []);
          firm = owner 2 1;
          hoped = hoped 1 (stamp 1 1);
          pending = new_ask 1 Read (stamp 5 0) ∷ [];
        } ∷ [];
      } ∷
      record {
        clock = 3;
        made = 1 ∷ 0 ∷ 1 ∷ 1 ∷ 0 ∷ 0 ∷ 0 ∷ [];
        sets = record untouched_set {
          pending =
              new_ask 3 Write (stamp 1 1) ∷
              new_ask 0 IntentionRead (stamp 2 1) ∷
              new_ask 2 Write (stamp 3 1) ∷
              [];
        } ∷ [];
      } ∷
      record {
        clock = 10;
        made = 0 ∷ 0 ∷ 0 ∷ 0 ∷ 3 ∷ 4 ∷ 1 ∷ [];
        sets = record untouched_set {
          frozen = all_modes;
          firm = owner 1 2;
          pending = new_ask 6 Read (stamp 2 2) ∷ new_ask 5 Upgrade (stamp 9 2) ∷ new_ask 4 Read (stamp 10 2) ∷ [];
        } ∷ [];
      } ∷
      untouched_node 7 1 ∷
      [];
  mail =
      mailed 1 (stamp 4 0) 0 (owner 2 1) (AskBody (new_ask 0 IntentionRead (stamp 2 1)) true) ∷
      mailed 1 (stamp 5 0) 0 (owner 2 1) (AskBody (new_ask 1 Read (stamp 5 0)) true) ∷
      mailed 0 (stamp 3 1) 0 (owner 0 0) (AskBody (new_ask 2 Write (stamp 3 1)) false) ∷
      mailed 0 (stamp 2 2) 0 (owner 0 0) (AskBody (new_ask 6 Read (stamp 2 2)) false) ∷
      mailed 1 (stamp 8 2) 0 (owner 1 2) (TokenBody (record (untouched_desk 4) {
        epoch = 2;
        queue = new_ask 3 Write (stamp 1 1) ∷ [];
        entries =
            entry no_modes [] (stamp 2 0) [] (modes_in (IntentionWrite ∷ ReadIntentionWrite ∷ Write ∷ [])) ∷
            blank ∷
            entry no_modes [] (stamp 8 2) (stamp 2 2 ∷ []) all_modes ∷
            blank ∷
            [];
      })) ∷
      mailed 1 (stamp 9 2) 0 (owner 1 2) (AskBody (new_ask 5 Upgrade (stamp 9 2)) false) ∷
      mailed 1 (stamp 10 2) 0 (owner 1 2) (AskBody (new_ask 4 Read (stamp 10 2)) false) ∷
      [];
  went = (0 ∷ 2 ∷ 1 ∷ []) ∷ [];
  turns = turn 0 (Take 1) ∷ turn 0 (Take 2) ∷ turn 1 (Take 0) ∷ turn 1 (Take 2) ∷ [];
  waiting = 0 ∷ 1 ∷ 2 ∷ 3 ∷ 4 ∷ 5 ∷ 6 ∷ [];
  rest = false;
}
