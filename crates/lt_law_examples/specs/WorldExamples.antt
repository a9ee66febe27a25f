-- Worked worlds in the middle of worked examples.
use Rattle.std.specs.Prelude.{false, [], ◌∷◌, Some}
use Rattle.lt_modes.specs.declared.mode.Mode.TheVariants.{IntentionRead, Read, Upgrade, IntentionWrite, ReadIntentionWrite, Write}
use Rattle.lt_modes.specs.declared.moves.Step.TheVariants.{Act, Take}
use Rattle.lt_modes.specs.Modes.{no_modes, all_modes, modes_in}
use Rattle.lt_modes.specs.State.{TokenBody, FreezeBody}
use Rattle.lt_law_examples.specs.Worked.{owner}
use Rattle.lt_law_examples.specs.WorkedLong.{copies_and_freezes, token_comes_back}
use Rattle.lt_law_examples.specs.WorkedOrders.{old_freeze}
use Rattle.lt_law_examples.specs.Snapshot.{Snapshot, blank, untouched_set, stamp, held_row, owed, entry, new_ask, turn, untouched_node, mailed, tell_body, untouched_desk}

-- The world after 19 of its moves.
abbrev pub copies_and_freezes_after_19 : Snapshot
copies_and_freezes_after_19 = record {
  row = copies_and_freezes;
  moves = 19;
  nodes =
      record {
        clock = 12;
        made = 3 ∷ 0 ∷ 0 ∷ [];
        sets = record untouched_set {
          held = held_row 0 Read 1 ∷ [];
          charge = modes_in (Read ∷ []);
          frozen = modes_in (Upgrade ∷ IntentionWrite ∷ ReadIntentionWrite ∷ Write ∷ []);
          number = 2;
          firm = owner 2 2;
        } ∷ [];
      } ∷
      untouched_node 3 1 ∷
      record {
        clock = 12;
        made = 0 ∷ 0 ∷ 1 ∷ [];
        sets = record untouched_set {
          held = held_row 2 Upgrade 1 ∷ [];
          number = 3;
          firm = owner 2 2;
          desk = Some (record (untouched_desk 4) {
            epoch = 2;
            number = 3;
            entries =
                entry no_modes (owed (stamp 9 0) Read ∷ []) (stamp 8 0) [] no_modes ∷
                blank ∷
                blank ∷
                entry (modes_in (Read ∷ [])) [] (stamp 5 3) [] no_modes ∷
                [];
          });
        } ∷ [];
      } ∷
      record {
        clock = 12;
        made = 0 ∷ 1 ∷ 0 ∷ [];
        sets = record untouched_set {
          held = held_row 1 Read 1 ∷ [];
          charge = modes_in (Read ∷ []);
          number = 3;
          firm = owner 2 2;
        } ∷ [];
      } ∷
      [];
  mail = mailed 0 (stamp 11 2) 0 (owner 2 2) (FreezeBody 3 no_modes) ∷ [];
  went = (0 ∷ 3 ∷ 2 ∷ []) ∷ [];
  turns = turn 0 (Take 2) ∷ turn 2 (Act 2) ∷ [];
  waiting = [];
  rest = false;
}

-- The world after 13 of its moves.
abbrev pub token_comes_back_after_13 : Snapshot
token_comes_back_after_13 = record {
  row = token_comes_back;
  moves = 13;
  nodes =
      record {
        clock = 7;
        made = 3 ∷ 0 ∷ 0 ∷ 0 ∷ [];
        sets = record untouched_set {
          frozen = modes_in (Write ∷ []);
          number = 1;
          firm = owner 1 1;
          pending = new_ask 0 IntentionWrite (stamp 5 0) ∷ [];
        } ∷ [];
      } ∷
      record {
        clock = 8;
        made = 0 ∷ 1 ∷ 2 ∷ 0 ∷ [];
        sets = record untouched_set {
          held = held_row 1 IntentionRead 1 ∷ [];
          charge = modes_in (IntentionRead ∷ []);
          frozen = modes_in (Read ∷ Upgrade ∷ ReadIntentionWrite ∷ Write ∷ []);
          number = 1;
          firm = owner 0 2;
        } ∷ [];
      } ∷
      [];
  mail =
      mailed 1 (stamp 7 0) 0 (owner 1 1) (tell_body no_modes (stamp 2 1 ∷ []) (stamp 6 1)) ∷
      mailed 0 (stamp 8 1) 0 (owner 0 2) (TokenBody (record (untouched_desk 2) {
        epoch = 2;
        number = 1;
        queue = new_ask 0 IntentionWrite (stamp 5 0) ∷ [];
        entries =
            entry no_modes [] (stamp 4 0) [] (modes_in (Write ∷ [])) ∷
            entry (modes_in (IntentionRead ∷ [])) [] (stamp 8 1) [] (modes_in (Read ∷ Upgrade ∷ ReadIntentionWrite ∷ Write ∷ [])) ∷
            [];
      })) ∷
      [];
  went = (0 ∷ 1 ∷ 0 ∷ []) ∷ [];
  turns = turn 0 (Take 1) ∷ turn 1 (Take 0) ∷ turn 1 (Act 3) ∷ [];
  waiting = 0 ∷ [];
  rest = false;
}

-- The world after 16 of its moves.
abbrev pub old_freeze_after_16 : Snapshot
old_freeze_after_16 = record {
  row = old_freeze;
  moves = 16;
  nodes =
      record {
        clock = 5;
        made = 0 ∷ 0 ∷ 0 ∷ 2 ∷ [];
        sets = record untouched_set { number = 2; firm = owner 1 1 } ∷ [];
      } ∷
      record {
        clock = 7;
        made = 0 ∷ 0 ∷ 2 ∷ 0 ∷ [];
        sets = record untouched_set { frozen = all_modes; number = 3; firm = owner 2 2 } ∷ [];
      } ∷
      record {
        clock = 10;
        made = 1 ∷ 1 ∷ 0 ∷ 0 ∷ [];
        sets = record untouched_set {
          held = held_row 1 Read 1 ∷ [];
          frozen = all_modes;
          number = 3;
          firm = owner 2 2;
          pending = new_ask 0 Write (stamp 6 2) ∷ [];
          desk = Some (record (untouched_desk 3) {
            epoch = 2;
            number = 3;
            queue = new_ask 0 Write (stamp 6 2) ∷ [];
            entries =
                entry no_modes [] (stamp 4 0) [] no_modes ∷
                entry no_modes [] (stamp 7 1) [] all_modes ∷
                entry no_modes (owed (stamp 1 2) Read ∷ []) (stamp 0 0) [] all_modes ∷
                [];
          });
        } ∷ [];
      } ∷
      [];
  mail = mailed 2 (stamp 3 0) 0 (owner 0 0) (FreezeBody 1 (modes_in (Upgrade ∷ IntentionWrite ∷ ReadIntentionWrite ∷ Write ∷ []))) ∷ [];
  went = (0 ∷ 1 ∷ 2 ∷ []) ∷ [];
  turns = turn 2 (Take 0) ∷ [];
  waiting = 0 ∷ [];
  rest = false;
}
