-- A worked world: a drop of a client that waits.
use Rattle.std.specs.Prelude.{false, [], ◌∷◌, Some, codes}
use Rattle.lt_modes.specs.declared.mode.Mode.TheVariants.{IntentionRead, Read, Upgrade, IntentionWrite, ReadIntentionWrite, Write}
use Rattle.lt_modes.specs.declared.command.Command.TheVariants.{Lock, Unlock, DropAll}
use Rattle.lt_modes.specs.declared.event.Event.TheVariants.{Grant, Wait, Unlock as Unlocked, DropAll as Dropped, Busy, Copy, Freeze, Token}
use Rattle.lt_modes.specs.declared.moves.Step.TheVariants.{Act, Take}
use Rattle.lt_modes.specs.Modes.{no_modes, all_modes, modes_in}
use Rattle.lt_modes.specs.State.{AskBody, CopyBody, FreezeBody}
use Rattle.lt_spec.specs.Holdings.{holding}
use Rattle.lt_law_examples.specs.Worked.{Worked, declared_set, declared_client, act, taken_at, holds, owner}
use Rattle.lt_law_examples.specs.Snapshot.{Snapshot, blank, untouched_set, stamp, held_row, hoped, owed, entry, new_ask, turn, mailed, tell_body, untouched_desk}

-- A client that waits in another family is busy.
abbrev pub busy_in_another_set : Worked
busy_in_another_set = record {
  script = record {
    version = 1;
    nodes = 3;
    sets = declared_set (codes "s0") 0 ∷ declared_set (codes "s1") 1 ∷ declared_set (codes "s2") 2 ∷ [];
    clients =
        declared_client (codes "c0") 2 ∷ declared_client (codes "c1") 2 ∷ declared_client (codes "c2") 1 ∷
        declared_client (codes "c3") 1 ∷ declared_client (codes "c4") 0 ∷ declared_client (codes "c5") 0 ∷
        declared_client (codes "c6") 2 ∷ declared_client (codes "c7") 1 ∷ [];
    commands =
        (3, Lock 0 Upgrade) ∷
        (7, Lock 2 Write) ∷
        (1, Lock 0 IntentionRead) ∷
        (6, Lock 2 Upgrade) ∷
        (0, Lock 0 Upgrade) ∷
        (4, Lock 0 Upgrade) ∷
        (3, Lock 1 Write) ∷
        (5, Lock 2 Write) ∷
        (7, Unlock 2 Write) ∷
        (7, Lock 1 Write) ∷
        (2, Lock 2 Write) ∷
        (3, Unlock 0 Upgrade) ∷
        (3, Lock 0 Read) ∷
        (4, DropAll 4 1) ∷
        (4, Unlock 0 Upgrade) ∷
        (4, Lock 0 IntentionWrite) ∷
        (3, DropAll 3 0) ∷
        (3, Unlock 1 Write) ∷
        (3, Lock 1 Upgrade) ∷
        (7, Lock 1 IntentionRead) ∷
        (7, Lock 0 Upgrade) ∷
        (4, Unlock 0 IntentionWrite) ∷
        (4, Lock 1 Upgrade) ∷
        (2, DropAll 7 2) ∷
        (2, DropAll 2 0) ∷
        (7, Unlock 1 IntentionRead) ∷
        (7, Unlock 0 Upgrade) ∷
        [];
  };
  run =
      act 1 1 3 (Wait 3 0 Upgrade ∷ []) ∷
      act 2 1 7 (Wait 7 2 Write ∷ []) ∷
      act 1 2 1 (Wait 1 0 IntentionRead ∷ []) ∷
      taken_at 2 0 1 (Token 0 1 1 ∷ []) ∷
      act 2 2 6 (Wait 6 2 Upgrade ∷ []) ∷
      act 3 2 0 (Wait 0 0 Upgrade ∷ []) ∷
      act 3 0 4 (Wait 4 0 Upgrade ∷ []) ∷
      taken_at 3 1 0 (Grant 3 0 Upgrade ∷ []) ∷
      act 4 1 3 (Wait 3 1 Write ∷ []) ∷
      taken_at 5 1 0 [] ∷
      taken_at 4 0 1 (Token 2 1 1 ∷ []) ∷
      taken_at 5 0 1 (Token 1 1 1 ∷ []) ∷
      act 6 0 5 (Wait 5 2 Write ∷ []) ∷
      taken_at 6 1 0 (Grant 7 2 Write ∷ []) ∷
      act 7 1 7 (Unlocked 7 2 Write ∷ []) ∷
      taken_at 7 0 2 [] ∷
      act 8 1 7 (Wait 7 1 Write ∷ []) ∷
      taken_at 9 0 1 [] ∷
      act 9 1 2 (Grant 2 2 Write ∷ []) ∷
      taken_at 10 1 0 (Grant 3 1 Write ∷ []) ∷
      act 11 1 3 (Unlocked 3 0 Upgrade ∷ Token 0 0 2 ∷ []) ∷
      act 12 1 3 (Wait 3 0 Read ∷ []) ∷
      taken_at 12 0 1 (Grant 4 0 Upgrade ∷ []) ∷
      act 13 0 4 (Dropped 4 4 1 0 ∷ []) ∷
      taken_at 14 0 1 (Copy 0 1 3 Read ∷ Freeze 0 1 1 no_modes ∷ []) ∷
      act 15 0 4 (Unlocked 4 0 Upgrade ∷ []) ∷
      act 16 0 4 (Wait 4 0 IntentionWrite ∷ Freeze 0 1 2 (modes_in (Read ∷ Upgrade ∷ ReadIntentionWrite ∷ Write ∷ [])) ∷ []) ∷
      taken_at 13 1 0 [] ∷
      taken_at 14 1 0 [] ∷
      taken_at 17 0 1 (Copy 0 2 1 IntentionRead ∷ Freeze 0 2 3 (modes_in (Read ∷ Upgrade ∷ ReadIntentionWrite ∷ Write ∷ [])) ∷ []) ∷
      taken_at 18 0 2 [] ∷
      taken_at 15 1 0 [] ∷
      taken_at 16 1 0 (Grant 3 0 Read ∷ []) ∷
      act 17 1 3 (Dropped 3 3 0 1 ∷ []) ∷
      act 18 1 3 (Unlocked 3 1 Write ∷ Grant 7 1 Write ∷ []) ∷
      act 19 1 3 (Wait 3 1 Upgrade ∷ []) ∷
      act 20 1 7 (Grant 7 1 IntentionRead ∷ []) ∷
      act 21 1 7 (Wait 7 0 Upgrade ∷ []) ∷
      taken_at 22 1 0 [] ∷
      taken_at 19 0 1 (Grant 4 0 IntentionWrite ∷ Freeze 0 2 4 no_modes ∷ []) ∷
      act 20 0 4 (Unlocked 4 0 IntentionWrite ∷ []) ∷
      taken_at 22 0 1 (Freeze 0 2 5 (modes_in (Upgrade ∷ IntentionWrite ∷ ReadIntentionWrite ∷ Write ∷ [])) ∷ Token 0 1 3 ∷ []) ∷
      act 23 0 4 (Wait 4 1 Upgrade ∷ []) ∷
      taken_at 24 0 2 [] ∷
      taken_at 23 1 0 [] ∷
      act 24 1 2 (Busy 2 7 2 ∷ []) ∷
      taken_at 25 1 0 [] ∷
      act 26 1 2 (Dropped 2 2 0 0 ∷ []) ∷
      taken_at 27 1 0 (Grant 7 0 Upgrade ∷ Freeze 0 2 6 no_modes ∷ []) ∷
      taken_at 28 1 0 [] ∷
      act 29 1 7 (Unlocked 7 1 IntentionRead ∷ []) ∷
      act 30 1 7 (Unlocked 7 0 Upgrade ∷ []) ∷
      taken_at 31 1 0 (Freeze 0 2 7 (modes_in (Upgrade ∷ IntentionWrite ∷ ReadIntentionWrite ∷ Write ∷ [])) ∷ Token 0 2 4 ∷ []) ∷
      taken_at 28 2 1 [] ∷
      taken_at 32 2 1 [] ∷
      taken_at 33 2 1 (Grant 0 0 Upgrade ∷ []) ∷
      taken_at 34 2 0 (Grant 1 0 IntentionRead ∷ []) ∷
      taken_at 35 2 0 [] ∷
      taken_at 36 2 0 [] ∷
      taken_at 37 2 0 [] ∷
      [];
  held = holds 0 0 Upgrade 1 ∷ holds 1 0 IntentionRead 1 ∷ holds 2 2 Write 1 ∷ holds 7 1 Write 1 ∷ [];
  waiting = holding 3 1 Upgrade ∷ holding 4 1 Upgrade ∷ holding 5 2 Write ∷ holding 6 2 Upgrade ∷ [];
  owners = owner 2 4 ∷ owner 1 1 ∷ owner 1 1 ∷ [];
}

-- The world after 38 of its moves.
abbrev pub busy_in_another_set_after_38 : Snapshot
busy_in_another_set_after_38 = record {
  row = busy_in_another_set;
  moves = 38;
  nodes =
      record {
        clock = 18;
        made = 0 ∷ 0 ∷ 0 ∷ 0 ∷ 4 ∷ 1 ∷ 0 ∷ 0 ∷ [];
        sets =
            record untouched_set {
              frozen = modes_in (Read ∷ Upgrade ∷ ReadIntentionWrite ∷ Write ∷ []);
              number = 3;
              firm = owner 0 2;
              pending = new_ask 4 IntentionWrite (stamp 16 0) ∷ [];
              desk = Some (record (untouched_desk 3) {
                epoch = 2;
                number = 3;
                queue = new_ask 4 IntentionWrite (stamp 16 0) ∷ [];
                entries =
                    entry no_modes [] (stamp 2 0) [] (modes_in (Read ∷ Upgrade ∷ ReadIntentionWrite ∷ Write ∷ [])) ∷
                    entry no_modes (owed (stamp 12 1) Read ∷ []) (stamp 11 1) [] (modes_in (Read ∷ Upgrade ∷ ReadIntentionWrite ∷ Write ∷ [])) ∷
                    entry no_modes (owed (stamp 1 2) IntentionRead ∷ []) (stamp 0 0) [] (modes_in (Read ∷ Upgrade ∷ ReadIntentionWrite ∷ Write ∷ [])) ∷
                    [];
              });
            } ∷
            record untouched_set { frozen = all_modes; firm = owner 1 1; hoped = hoped 1 (stamp 8 1) } ∷
            record untouched_set {
              frozen = all_modes;
              firm = owner 1 1;
              hoped = hoped 2 (stamp 2 2);
              pending = new_ask 5 Write (stamp 6 0) ∷ [];
            } ∷
            [];
      } ∷
      record {
        clock = 21;
        made = 0 ∷ 0 ∷ 1 ∷ 7 ∷ 0 ∷ 0 ∷ 0 ∷ 5 ∷ [];
        sets =
            record untouched_set {
              frozen = modes_in (Upgrade ∷ IntentionWrite ∷ ReadIntentionWrite ∷ Write ∷ []);
              firm = owner 0 2;
              pending = new_ask 7 Upgrade (stamp 21 1) ∷ [];
            } ∷
            record untouched_set {
              held = held_row 7 Write 1 ∷ held_row 7 IntentionRead 1 ∷ [];
              frozen = modes_in (Upgrade ∷ IntentionWrite ∷ ReadIntentionWrite ∷ Write ∷ []);
              firm = owner 1 1;
              pending = new_ask 3 Upgrade (stamp 19 1) ∷ [];
              desk = Some (record (untouched_desk 3) {
                epoch = 1;
                queue = new_ask 3 Upgrade (stamp 19 1) ∷ [];
                entries =
                    entry no_modes [] (stamp 5 0) [] all_modes ∷
                    entry no_modes [] (stamp 0 0) [] (modes_in (Upgrade ∷ IntentionWrite ∷ ReadIntentionWrite ∷ Write ∷ [])) ∷
                    blank ∷
                    [];
              });
            } ∷
            record untouched_set {
              held = held_row 2 Write 1 ∷ [];
              frozen = all_modes;
              firm = owner 1 1;
              desk = Some (record (untouched_desk 3) {
                epoch = 1;
                queue = new_ask 5 Write (stamp 6 0) ∷ [];
                entries =
                    entry no_modes [] (stamp 4 0) [] all_modes ∷
                    entry no_modes [] (stamp 0 0) [] all_modes ∷
                    blank ∷
                    [];
              });
            } ∷
            [];
      } ∷
      record {
        clock = 3;
        made = 1 ∷ 1 ∷ 0 ∷ 0 ∷ 0 ∷ 0 ∷ 1 ∷ 0 ∷ [];
        sets =
            record untouched_set {
              pending = new_ask 1 IntentionRead (stamp 1 2) ∷ new_ask 0 Upgrade (stamp 3 2) ∷ [];
            } ∷
            untouched_set ∷
            record untouched_set { pending = new_ask 6 Upgrade (stamp 2 2) ∷ [] } ∷
            [];
      } ∷
      [];
  mail =
      mailed 1 (stamp 14 0) 0 (owner 0 2) (FreezeBody 1 no_modes) ∷
      mailed 1 (stamp 16 0) 0 (owner 0 2)
      (FreezeBody 2 (modes_in (Read ∷ Upgrade ∷ ReadIntentionWrite ∷ Write ∷ []))) ∷
      mailed 1 (stamp 18 0) 2 (owner 1 1) (AskBody (new_ask 6 Upgrade (stamp 2 2)) false) ∷
      mailed 2 (stamp 17 0) 0 (owner 0 2) (CopyBody (new_ask 1 IntentionRead (stamp 1 2))) ∷
      mailed 2 (stamp 17 0) 0 (owner 0 2)
      (FreezeBody 3 (modes_in (Read ∷ Upgrade ∷ ReadIntentionWrite ∷ Write ∷ []))) ∷
      mailed 0 (stamp 17 1) 0 (owner 0 2) (tell_body no_modes [] (stamp 17 1)) ∷
      mailed 0 (stamp 21 1) 0 (owner 0 2) (AskBody (new_ask 7 Upgrade (stamp 21 1)) false) ∷
      mailed 0 (stamp 3 2) 0 (owner 0 0) (AskBody (new_ask 0 Upgrade (stamp 3 2)) false) ∷
      [];
  went = (0 ∷ 1 ∷ 0 ∷ []) ∷ (0 ∷ 1 ∷ []) ∷ (0 ∷ 1 ∷ []) ∷ [];
  turns = turn 0 (Take 1) ∷ turn 0 (Take 2) ∷ turn 1 (Take 0) ∷ turn 2 (Take 0) ∷ turn 1 (Act 2) ∷ [];
  waiting = 0 ∷ 1 ∷ 3 ∷ 4 ∷ 5 ∷ 6 ∷ 7 ∷ [];
  rest = false;
}
