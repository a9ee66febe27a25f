-- A worked world: a drop of several locks of one mode.
use Rattle.std.specs.Prelude.{false, [], ◌∷◌, Some, codes}
use Rattle.lt_modes.specs.declared.mode.Mode.TheVariants.{IntentionRead, Read, Upgrade, IntentionWrite, ReadIntentionWrite, Write}
use Rattle.lt_modes.specs.declared.command.Command.TheVariants.{Lock, Unlock, DropAll}
use Rattle.lt_modes.specs.declared.event.Event.TheVariants.{Grant, Wait, Unlock as Unlocked, NotHeld, DropAll as Dropped, Busy, Copy, Token}
use Rattle.lt_modes.specs.declared.moves.Step.TheVariants.{Act}
use Rattle.lt_modes.specs.Modes.{no_modes, modes_in}
use Rattle.lt_law_examples.specs.Worked.{Worked, declared_set, declared_client, act, taken_at, holds, owner}
use Rattle.lt_law_examples.specs.Snapshot.{Snapshot, untouched_set, stamp, held_row, entry, new_ask, turn, untouched_desk, untouched_at_desk}

-- A drop counts locks, and not rows.
abbrev pub drop_counts_locks : Worked
drop_counts_locks = record {
  script = record {
    version = 1;
    nodes = 2;
    sets = declared_set (codes "s0") 0 ∷ declared_set (codes "s1") 0 ∷ declared_set (codes "s2") 0 ∷ [];
    clients =
        declared_client (codes "c0") 1 ∷ declared_client (codes "c1") 0 ∷ declared_client (codes "c2") 1 ∷
        declared_client (codes "c3") 0 ∷ declared_client (codes "c4") 0 ∷ declared_client (codes "c5") 0 ∷
        declared_client (codes "c6") 1 ∷ declared_client (codes "c7") 0 ∷ [];
    commands =
        (4, Lock 2 Read) ∷
        (3, Lock 0 Upgrade) ∷
        (3, Lock 0 Upgrade) ∷
        (6, Lock 0 Upgrade) ∷
        (1, Lock 2 Read) ∷
        (2, Lock 0 IntentionWrite) ∷
        (4, Unlock 2 Read) ∷
        (3, Unlock 0 Upgrade) ∷
        (1, Unlock 2 Read) ∷
        (1, Unlock 1 Read) ∷
        (7, Lock 0 Upgrade) ∷
        (1, Lock 1 Read) ∷
        (5, Lock 1 Upgrade) ∷
        (3, Unlock 0 Upgrade) ∷
        (6, DropAll 6 2) ∷
        (3, DropAll 3 1) ∷
        (4, Lock 0 Read) ∷
        (3, Lock 0 Read) ∷
        (6, Lock 0 Upgrade) ∷
        (1, Lock 1 Read) ∷
        (5, Lock 1 Upgrade) ∷
        (1, Unlock 1 Read) ∷
        (1, Unlock 1 Read) ∷
        (2, DropAll 2 2) ∷
        (3, Unlock 0 Read) ∷
        (0, Lock 1 Read) ∷
        (4, Lock 0 Upgrade) ∷
        (1, DropAll 1 2) ∷
        (1, Lock 0 IntentionRead) ∷
        (5, Lock 2 IntentionWrite) ∷
        (7, Unlock 0 Upgrade) ∷
        (0, DropAll 6 1) ∷
        (2, DropAll 2 2) ∷
        (1, Unlock 0 IntentionRead) ∷
        (3, DropAll 7 2) ∷
        (7, DropAll 5 2) ∷
        (0, DropAll 0 1) ∷
        (4, DropAll 4 1) ∷
        [];
  };
  run =
      act 1 0 4 (Grant 4 2 Read ∷ []) ∷
      act 2 0 3 (Grant 3 0 Upgrade ∷ []) ∷
      act 3 0 3 (Grant 3 0 Upgrade ∷ []) ∷
      act 1 1 6 (Wait 6 0 Upgrade ∷ []) ∷
      taken_at 4 0 1 [] ∷
      act 5 0 1 (Grant 1 2 Read ∷ []) ∷
      act 2 1 2 (Wait 2 0 IntentionWrite ∷ []) ∷
      taken_at 6 0 1 [] ∷
      act 7 0 4 (Unlocked 4 2 Read ∷ []) ∷
      act 8 0 3 (Unlocked 3 0 Upgrade ∷ []) ∷
      act 9 0 1 (Unlocked 1 2 Read ∷ []) ∷
      act 10 0 1 (NotHeld 1 1 Read ∷ []) ∷
      act 11 0 7 (Wait 7 0 Upgrade ∷ []) ∷
      act 12 0 1 (Grant 1 1 Read ∷ []) ∷
      act 13 0 5 (Grant 5 1 Upgrade ∷ []) ∷
      act 14 0 3 (Unlocked 3 0 Upgrade ∷ Token 0 1 1 ∷ []) ∷
      taken_at 15 1 0 (Grant 6 0 Upgrade ∷ []) ∷
      act 16 1 6 (Dropped 6 6 2 1 ∷ Grant 2 0 IntentionWrite ∷ []) ∷
      act 15 0 3 (Dropped 3 3 1 0 ∷ []) ∷
      act 16 0 4 (Wait 4 0 Read ∷ []) ∷
      taken_at 17 1 0 [] ∷
      act 17 0 3 (Wait 3 0 Read ∷ []) ∷
      taken_at 18 1 0 [] ∷
      act 19 1 6 (Wait 6 0 Upgrade ∷ []) ∷
      act 18 0 1 (Grant 1 1 Read ∷ []) ∷
      act 19 0 5 (Grant 5 1 Upgrade ∷ []) ∷
      act 20 0 1 (Unlocked 1 1 Read ∷ []) ∷
      act 21 0 1 (Unlocked 1 1 Read ∷ []) ∷
      act 20 1 2 (Dropped 2 2 2 1 ∷ Token 0 0 2 ∷ []) ∷
      taken_at 22 0 1 (Grant 7 0 Upgrade ∷ Grant 4 0 Read ∷ Grant 3 0 Read ∷ []) ∷
      act 23 0 3 (Unlocked 3 0 Read ∷ []) ∷
      act 21 1 0 (Wait 0 1 Read ∷ []) ∷
      taken_at 24 0 1 (Copy 1 1 0 Read ∷ []) ∷
      act 25 0 4 (Wait 4 0 Upgrade ∷ []) ∷
      act 26 0 1 (Dropped 1 1 2 0 ∷ []) ∷
      taken_at 25 1 0 (Grant 0 1 Read ∷ []) ∷
      act 27 0 1 (Grant 1 0 IntentionRead ∷ []) ∷
      act 28 0 5 (Grant 5 2 IntentionWrite ∷ []) ∷
      act 29 0 7 (Unlocked 7 0 Upgrade ∷ Grant 4 0 Upgrade ∷ []) ∷
      act 26 1 0 (Busy 0 6 1 ∷ []) ∷
      act 27 1 2 (Dropped 2 2 2 0 ∷ []) ∷
      act 30 0 1 (Unlocked 1 0 IntentionRead ∷ []) ∷
      act 31 0 3 (Dropped 3 7 2 0 ∷ []) ∷
      act 32 0 7 (Dropped 7 5 2 3 ∷ []) ∷
      act 28 1 0 (Dropped 0 0 1 1 ∷ []) ∷
      taken_at 33 0 1 [] ∷
      act 34 0 4 (Dropped 4 4 1 2 ∷ Token 0 1 3 ∷ []) ∷
      taken_at 35 1 0 (Grant 6 0 Upgrade ∷ []) ∷
      [];
  held = holds 6 0 Upgrade 1 ∷ [];
  waiting = [];
  owners = owner 1 3 ∷ owner 0 0 ∷ owner 0 0 ∷ [];
}

-- The world after 24 of its moves.
abbrev pub drop_counts_locks_after_24 : Snapshot
drop_counts_locks_after_24 = record {
  row = drop_counts_locks;
  moves = 24;
  nodes =
      record {
        clock = 17;
        made = 0 ∷ 4 ∷ 0 ∷ 6 ∷ 3 ∷ 1 ∷ 0 ∷ 1 ∷ [];
        sets =
            record untouched_set {
              frozen = modes_in (Read ∷ Upgrade ∷ IntentionWrite ∷ ReadIntentionWrite ∷ Write ∷ []);
              firm = owner 1 1;
              pending =
                  new_ask 7 Upgrade (stamp 11 0) ∷
                  new_ask 4 Read (stamp 16 0) ∷
                  new_ask 3 Read (stamp 17 0) ∷
                  [];
            } ∷
            record (untouched_at_desk 2) { held = held_row 1 Read 1 ∷ held_row 5 Upgrade 1 ∷ [] } ∷
            untouched_at_desk 2 ∷
            [];
      } ∷
      record {
        clock = 19;
        made = 0 ∷ 0 ∷ 1 ∷ 0 ∷ 0 ∷ 0 ∷ 3 ∷ 0 ∷ [];
        sets =
            record untouched_set {
              held = held_row 2 IntentionWrite 1 ∷ [];
              frozen = modes_in (Upgrade ∷ IntentionWrite ∷ ReadIntentionWrite ∷ Write ∷ []);
              firm = owner 1 1;
              pending = new_ask 6 Upgrade (stamp 19 1) ∷ [];
              desk = Some (record (untouched_desk 2) {
                epoch = 1;
                queue =
                    new_ask 7 Upgrade (stamp 11 0) ∷
                    new_ask 4 Read (stamp 16 0) ∷
                    new_ask 3 Read (stamp 17 0) ∷
                    new_ask 6 Upgrade (stamp 19 1) ∷
                    [];
                entries =
                    entry no_modes [] (stamp 14 0) (stamp 11 0 ∷ []) (modes_in (Read ∷ Upgrade ∷ IntentionWrite ∷ ReadIntentionWrite ∷ Write ∷ [])) ∷
                    entry no_modes [] (stamp 0 0) [] (modes_in (Upgrade ∷ IntentionWrite ∷ ReadIntentionWrite ∷ Write ∷ [])) ∷
                    [];
              });
            } ∷
            untouched_set ∷
            untouched_set ∷
            [];
      } ∷
      [];
  mail = [];
  went = (0 ∷ 1 ∷ []) ∷ (0 ∷ []) ∷ (0 ∷ []) ∷ [];
  turns = turn 1 (Act 0) ∷ turn 1 (Act 2) ∷ turn 0 (Act 5) ∷ turn 0 (Act 1) ∷ [];
  waiting = 3 ∷ 4 ∷ 6 ∷ 7 ∷ [];
  rest = false;
}
