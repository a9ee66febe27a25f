-- A worked world: a drop in two sets.
use Rattle.std.specs.Prelude.{true, false, [], ◌∷◌, Some, codes}
use Rattle.lt_modes.specs.declared.mode.Mode.TheVariants.{IntentionRead, Read, Upgrade, IntentionWrite, ReadIntentionWrite, Write}
use Rattle.lt_modes.specs.declared.command.Command.TheVariants.{Lock, Try, Unlock, Change, DropAll}
use Rattle.lt_modes.specs.declared.event.Event.TheVariants.{Grant, Wait, Try as Tried, Unlock as Unlocked, Change as Changed, DropAll as Dropped, Busy, Copy, Freeze, Token}
use Rattle.lt_modes.specs.declared.moves.Step.TheVariants.{Act, Take}
use Rattle.lt_modes.specs.Modes.{no_modes, all_modes, modes_in}
use Rattle.lt_modes.specs.State.{CopyBody}
use Rattle.lt_spec.specs.Holdings.{holding}
use Rattle.lt_law_examples.specs.Worked.{Worked, declared_set, declared_client, act, taken_at, holds, owner}
use Rattle.lt_law_examples.specs.Snapshot.{Snapshot, blank, untouched_set, stamp, held_row, owed, entry, new_ask, turn, mailed, tell_body, untouched_desk, untouched_at_desk}

-- A drop goes through its sets in order.
abbrev pub drop_in_order : Worked
drop_in_order = record {
  script = record {
    version = 1;
    nodes = 3;
    sets = declared_set (codes "s0") 0 ∷ declared_set (codes "s1") 0 ∷ [];
    clients =
        declared_client (codes "c0") 2 ∷ declared_client (codes "c1") 2 ∷ declared_client (codes "c2") 0 ∷
        declared_client (codes "c3") 1 ∷ [];
    commands =
        (2, Lock 0 Upgrade) ∷
        (3, Try 0 Upgrade) ∷
        (2, Try 0 Write) ∷
        (3, DropAll 3 1) ∷
        (2, Unlock 0 Write) ∷
        (3, Lock 0 Upgrade) ∷
        (1, Lock 0 Write) ∷
        (2, Change 0 Upgrade Upgrade) ∷ (2, Lock 1 Upgrade) ∷ (2, Lock 1 Write) ∷
        (0, Lock 1 Read) ∷
        (2, Lock 0 Upgrade) ∷ (2, Unlock 1 Write) ∷ (2, DropAll 2 1) ∷
        (3, Lock 1 IntentionRead) ∷
        (2, DropAll 2 1) ∷
        (0, DropAll 1 1) ∷ (0, Unlock 1 Read) ∷
        (3, Try 0 Upgrade) ∷
        (0, DropAll 0 0) ∷
        (3, Change 1 IntentionRead Read) ∷
        (2, Lock 0 Upgrade) ∷
        (0, Lock 1 Write) ∷
        (3, Lock 1 Upgrade) ∷ (3, Unlock 0 Upgrade) ∷ (3, Lock 0 Write) ∷ (3, Try 1 Upgrade) ∷ (3, Unlock 0 Write) ∷
        (3, Unlock 1 Upgrade) ∷ (3, Unlock 1 Upgrade) ∷ (3, DropAll 3 1) ∷ (3, DropAll 3 1) ∷
        [];
  };
  run =
      act 1 0 2 (Grant 2 0 Upgrade ∷ []) ∷
      act 1 1 3 (Tried 3 0 Upgrade false ∷ []) ∷
      act 2 0 2 (Tried 2 0 Write true ∷ []) ∷
      act 2 1 3 (Dropped 3 3 1 0 ∷ []) ∷
      act 3 0 2 (Unlocked 2 0 Write ∷ []) ∷
      act 3 1 3 (Wait 3 0 Upgrade ∷ []) ∷
      act 1 2 1 (Wait 1 0 Write ∷ []) ∷
      taken_at 4 0 1 [] ∷
      taken_at 5 0 2 [] ∷
      act 6 0 2 (Changed 2 0 Upgrade Upgrade ∷ []) ∷
      act 7 0 2 (Grant 2 1 Upgrade ∷ []) ∷
      act 8 0 2 (Grant 2 1 Write ∷ []) ∷
      act 2 2 0 (Wait 0 1 Read ∷ []) ∷
      act 9 0 2 (Grant 2 0 Upgrade ∷ []) ∷
      act 10 0 2 (Unlocked 2 1 Write ∷ []) ∷
      taken_at 11 0 2 (Copy 1 2 0 Read ∷ []) ∷
      act 12 0 2 (Dropped 2 2 1 3 ∷ Token 0 1 1 ∷ []) ∷
      taken_at 13 1 0 (Grant 3 0 Upgrade ∷ []) ∷
      act 14 1 3 (Wait 3 1 IntentionRead ∷ []) ∷
      act 13 0 2 (Dropped 2 2 1 0 ∷ []) ∷
      taken_at 12 2 0 (Grant 0 1 Read ∷ []) ∷
      act 13 2 0 (Busy 0 1 1 ∷ []) ∷
      taken_at 15 0 1 (Copy 1 1 3 IntentionRead ∷ []) ∷
      act 14 2 0 (Unlocked 0 1 Read ∷ []) ∷
      taken_at 16 1 0 (Grant 3 1 IntentionRead ∷ []) ∷
      act 17 1 3 (Tried 3 0 Upgrade true ∷ []) ∷
      taken_at 16 0 2 [] ∷
      act 15 2 0 (Dropped 0 0 0 0 ∷ []) ∷
      act 18 1 3 (Wait 3 1 Read ∷ []) ∷
      taken_at 19 0 1 (Freeze 1 1 1 (modes_in (IntentionWrite ∷ ReadIntentionWrite ∷ Write ∷ [])) ∷ Token 1 1 1 ∷ []) ∷
      act 20 0 2 (Wait 2 0 Upgrade ∷ []) ∷
      taken_at 20 1 0 [] ∷
      act 16 2 0 (Wait 0 1 Write ∷ []) ∷
      taken_at 21 1 0 (Changed 3 1 IntentionRead Read ∷ []) ∷
      taken_at 21 0 2 [] ∷
      act 22 1 3 (Grant 3 1 Upgrade ∷ []) ∷
      act 23 1 3 (Unlocked 3 0 Upgrade ∷ []) ∷
      taken_at 24 1 0 [] ∷
      taken_at 25 1 0 [] ∷
      act 26 1 3 (Grant 3 0 Write ∷ []) ∷
      act 27 1 3 (Tried 3 1 Upgrade true ∷ []) ∷
      act 28 1 3 (Unlocked 3 0 Write ∷ []) ∷
      act 29 1 3 (Unlocked 3 1 Upgrade ∷ []) ∷
      act 30 1 3 (Unlocked 3 1 Upgrade ∷ []) ∷
      act 31 1 3 (Dropped 3 3 1 2 ∷ Token 0 2 2 ∷ Token 1 2 2 ∷ []) ∷
      act 32 1 3 (Dropped 3 3 1 0 ∷ []) ∷
      taken_at 32 2 1 (Grant 1 0 Write ∷ []) ∷
      taken_at 33 2 1 (Grant 0 1 Write ∷ []) ∷
      [];
  held = holds 0 1 Write 1 ∷ holds 1 0 Write 1 ∷ [];
  waiting = holding 2 0 Upgrade ∷ [];
  owners = owner 2 2 ∷ owner 2 2 ∷ [];
}

-- The world after 24 of its moves.
abbrev pub drop_in_order_after_24 : Snapshot
drop_in_order_after_24 = record {
  row = drop_in_order;
  moves = 24;
  nodes =
      record {
        clock = 15;
        made = 0 ∷ 0 ∷ 10 ∷ 0 ∷ [];
        sets =
            record untouched_set { frozen = all_modes; firm = owner 1 1 } ∷
            record (untouched_at_desk 3) {
              desk = Some (record (untouched_desk 3) {
                entries =
                    blank ∷
                    entry no_modes (owed (stamp 14 1) IntentionRead ∷ []) (stamp 0 0) [] no_modes ∷
                    entry no_modes (owed (stamp 2 2) Read ∷ []) (stamp 0 0) [] no_modes ∷
                    [];
              });
            } ∷
            [];
      } ∷
      record {
        clock = 14;
        made = 0 ∷ 0 ∷ 0 ∷ 4 ∷ [];
        sets =
            record untouched_set {
              held = held_row 3 Upgrade 1 ∷ [];
              frozen = all_modes;
              firm = owner 1 1;
              desk = Some (record (untouched_desk 3) {
                epoch = 1;
                queue = new_ask 1 Write (stamp 1 2) ∷ [];
                entries =
                    entry no_modes [] (stamp 12 0) [] all_modes ∷
                    entry no_modes [] (stamp 0 0) [] all_modes ∷
                    blank ∷
                    [];
              });
            } ∷
            record untouched_set { pending = new_ask 3 IntentionRead (stamp 14 1) ∷ [] } ∷
            [];
      } ∷
      record {
        clock = 14;
        made = 3 ∷ 1 ∷ 0 ∷ 0 ∷ [];
        sets =
            record untouched_set { pending = new_ask 1 Write (stamp 1 2) ∷ [] } ∷
            untouched_set ∷
            [];
      } ∷
      [];
  mail =
      mailed 1 (stamp 15 0) 1 (owner 0 0) (CopyBody (new_ask 3 IntentionRead (stamp 14 1))) ∷
      mailed 0 (stamp 14 2) 1 (owner 0 0) (tell_body no_modes [] (stamp 14 2)) ∷
      [];
  went = (0 ∷ 1 ∷ []) ∷ (0 ∷ []) ∷ [];
  turns = turn 0 (Take 2) ∷ turn 1 (Take 0) ∷ turn 2 (Act 0) ∷ turn 0 (Act 2) ∷ [];
  waiting = 1 ∷ 3 ∷ [];
  rest = false;
}
