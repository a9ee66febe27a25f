-- A worked world: hoped links.
use Rattle.std.specs.Prelude.{true, false, [], ◌∷◌, codes}
use Rattle.lt_modes.specs.declared.mode.Mode.TheVariants.{IntentionRead, Read, Upgrade, IntentionWrite, ReadIntentionWrite, Write}
use Rattle.lt_modes.specs.declared.command.Command.TheVariants.{Lock, Unlock, Change, DropAll}
use Rattle.lt_modes.specs.declared.event.Event.TheVariants.{Grant, Wait, Unlock as Unlocked, Change as Changed, DropAll as Dropped, Token}
use Rattle.lt_modes.specs.declared.moves.Step.TheVariants.{Take}
use Rattle.lt_modes.specs.Modes.{no_modes, all_modes, modes_in}
use Rattle.lt_modes.specs.State.{AskBody, TokenBody}
use Rattle.lt_spec.specs.Holdings.{holding}
use Rattle.lt_law_examples.specs.Worked.{Worked, declared_set, declared_client, act, taken_at, holds, owner}
use Rattle.lt_law_examples.specs.Snapshot.{Snapshot, untouched_set, stamp, hoped, entry, new_ask, turn, mailed, untouched_desk, untouched_at_desk}

-- Asks go by hoped links while the token of their set is on its way.
abbrev pub asks_by_hoped_links : Worked
asks_by_hoped_links = record {
  script = record {
    version = 1;
    nodes = 3;
    sets = declared_set (codes "s0") 0 ∷ declared_set (codes "s1") 0 ∷ [];
    clients =
        declared_client (codes "c0") 0 ∷ declared_client (codes "c1") 1 ∷ declared_client (codes "c2") 2 ∷
        declared_client (codes "c3") 2 ∷ declared_client (codes "c4") 0 ∷ declared_client (codes "c5") 1 ∷ [];
    commands =
        (3, Lock 0 Upgrade) ∷
        (1, Lock 0 Write) ∷
        (3, Unlock 0 Upgrade) ∷
        (3, DropAll 3 0) ∷
        (5, Lock 0 IntentionRead) ∷
        (3, Lock 0 Read) ∷
        (0, Lock 1 Write) ∷
        (1, Unlock 0 Write) ∷
        (0, Change 1 Write IntentionWrite) ∷
        (0, Change 1 IntentionWrite Upgrade) ∷
        (1, Lock 1 Read) ∷
        (0, Unlock 1 Upgrade) ∷
        (0, Lock 0 Upgrade) ∷
        (2, Lock 0 Write) ∷
        (3, Unlock 0 Read) ∷
        [];
  };
  run =
      act 1 2 3 (Wait 3 0 Upgrade ∷ []) ∷
      taken_at 2 0 2 (Token 0 2 1 ∷ []) ∷
      taken_at 3 2 0 (Grant 3 0 Upgrade ∷ []) ∷
      act 1 1 1 (Wait 1 0 Write ∷ []) ∷
      taken_at 3 0 1 [] ∷
      taken_at 4 2 0 [] ∷
      act 5 2 3 (Unlocked 3 0 Upgrade ∷ Token 0 1 2 ∷ []) ∷
      act 6 2 3 (Dropped 3 3 0 0 ∷ []) ∷
      act 2 1 5 (Wait 5 0 IntentionRead ∷ []) ∷
      act 7 2 3 (Wait 3 0 Read ∷ []) ∷
      act 4 0 0 (Grant 0 1 Write ∷ []) ∷
      taken_at 6 1 2 (Grant 1 0 Write ∷ []) ∷
      act 7 1 1 (Unlocked 1 0 Write ∷ []) ∷
      act 5 0 0 (Changed 0 1 Write IntentionWrite ∷ []) ∷
      act 6 0 0 (Changed 0 1 IntentionWrite Upgrade ∷ []) ∷
      act 8 1 1 (Wait 1 1 Read ∷ []) ∷
      act 7 0 0 (Unlocked 0 1 Upgrade ∷ []) ∷
      act 8 0 0 (Wait 0 0 Upgrade ∷ []) ∷
      taken_at 9 1 2 (Token 0 2 3 ∷ []) ∷
      act 8 2 2 (Wait 2 0 Write ∷ []) ∷
      taken_at 10 1 2 [] ∷
      taken_at 9 0 1 [] ∷
      taken_at 10 2 1 (Grant 3 0 Read ∷ []) ∷
      taken_at 11 2 1 [] ∷
      taken_at 11 1 0 [] ∷
      taken_at 12 2 1 [] ∷
      act 13 2 3 (Unlocked 3 0 Read ∷ Grant 2 0 Write ∷ []) ∷
      taken_at 12 1 0 [] ∷
      taken_at 10 0 1 (Token 1 1 1 ∷ []) ∷
      taken_at 14 2 1 [] ∷
      taken_at 13 1 0 (Grant 1 1 Read ∷ []) ∷
      [];
  held = holds 1 1 Read 1 ∷ holds 2 0 Write 1 ∷ [];
  waiting = holding 0 0 Upgrade ∷ holding 5 0 IntentionRead ∷ [];
  owners = owner 2 3 ∷ owner 1 1 ∷ [];
}

-- The world after 21 of its moves.
abbrev pub asks_by_hoped_links_after_21 : Snapshot
asks_by_hoped_links_after_21 = record {
  row = asks_by_hoped_links;
  moves = 21;
  nodes =
      record {
        clock = 8;
        made = 5 ∷ 0 ∷ 0 ∷ 0 ∷ 0 ∷ 0 ∷ [];
        sets =
            record untouched_set {
              frozen = modes_in (Upgrade ∷ IntentionWrite ∷ ReadIntentionWrite ∷ Write ∷ []);
              firm = owner 2 1;
              hoped = hoped 1 (stamp 1 1);
              pending = new_ask 0 Upgrade (stamp 8 0) ∷ [];
            } ∷
            untouched_at_desk 3 ∷
            [];
      } ∷
      record {
        clock = 10;
        made = 0 ∷ 3 ∷ 0 ∷ 0 ∷ 0 ∷ 1 ∷ [];
        sets =
            record untouched_set {
              frozen = modes_in (IntentionWrite ∷ ReadIntentionWrite ∷ Write ∷ []);
              firm = owner 2 3;
              hoped = hoped 2 (stamp 8 2);
              pending = new_ask 5 IntentionRead (stamp 2 1) ∷ [];
            } ∷
            record untouched_set { pending = new_ask 1 Read (stamp 8 1) ∷ [] } ∷
            [];
      } ∷
      record {
        clock = 8;
        made = 0 ∷ 0 ∷ 1 ∷ 4 ∷ 0 ∷ 0 ∷ [];
        sets =
            record untouched_set {
              frozen = all_modes;
              firm = owner 1 2;
              pending = new_ask 3 Read (stamp 7 2) ∷ new_ask 2 Write (stamp 8 2) ∷ [];
            } ∷
            untouched_set ∷
            [];
      } ∷
      [];
  mail =
      mailed 1 (stamp 8 0) 0 (owner 2 1) (AskBody (new_ask 0 Upgrade (stamp 8 0)) true) ∷
      mailed 0 (stamp 2 1) 0 (owner 0 0) (AskBody (new_ask 5 IntentionRead (stamp 2 1)) false) ∷
      mailed 0 (stamp 8 1) 1 (owner 0 0) (AskBody (new_ask 1 Read (stamp 8 1)) false) ∷
      mailed 2 (stamp 9 1) 0 (owner 2 3) (TokenBody (record (untouched_desk 3) {
        epoch = 3;
        queue = new_ask 3 Read (stamp 7 2) ∷ [];
        entries =
            entry no_modes [] (stamp 2 0) [] (modes_in (Upgrade ∷ IntentionWrite ∷ ReadIntentionWrite ∷ Write ∷ [])) ∷
            entry no_modes [] (stamp 9 1) (stamp 2 1 ∷ []) (modes_in (IntentionWrite ∷ ReadIntentionWrite ∷ Write ∷ [])) ∷
            entry no_modes [] (stamp 5 2) [] all_modes ∷
            [];
      })) ∷
      mailed 2 (stamp 10 1) 0 (owner 2 3) (AskBody (new_ask 2 Write (stamp 8 2)) false) ∷
      [];
  went = (0 ∷ 2 ∷ 1 ∷ 2 ∷ []) ∷ (0 ∷ []) ∷ [];
  turns = turn 0 (Take 1) ∷ turn 1 (Take 0) ∷ turn 2 (Take 1) ∷ [];
  waiting = 0 ∷ 1 ∷ 2 ∷ 3 ∷ 5 ∷ [];
  rest = false;
}
