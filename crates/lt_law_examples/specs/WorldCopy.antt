-- A worked world: a copy and the token by different ways.
use Rattle.std.specs.Prelude.{false, [], ◌∷◌, Some, codes}
use Rattle.lt_modes.specs.declared.mode.Mode.TheVariants.{IntentionRead, Read, Upgrade, IntentionWrite, ReadIntentionWrite, Write}
use Rattle.lt_modes.specs.declared.command.Command.TheVariants.{Lock, Try, Unlock}
use Rattle.lt_modes.specs.declared.event.Event.TheVariants.{Grant, Wait, Try as Tried, Unlock as Unlocked, Copy, Freeze, Token}
use Rattle.lt_modes.specs.declared.moves.Step.TheVariants.{Act, Take}
use Rattle.lt_modes.specs.Modes.{no_modes, modes_in}
use Rattle.lt_modes.specs.State.{AskBody, CopyBody, FreezeBody}
use Rattle.lt_law_examples.specs.Worked.{Worked, declared_client, act, taken_at, holds, owner, one_set}
use Rattle.lt_law_examples.specs.Snapshot.{Snapshot, blank, untouched_set, stamp, owed, entry, new_ask, turn, mailed, untouched_desk}

-- A copy is out, and the token comes another way: a grant at the desk does not forget the copy.
abbrev pub copy_before_token : Worked
copy_before_token = record {
  script = record (one_set 3 (codes "s")) {
    clients =
        declared_client (codes "a") 0 ∷ declared_client (codes "b") 1 ∷ declared_client (codes "c") 2 ∷
        declared_client (codes "d") 2 ∷ declared_client (codes "e") 2 ∷ [];
    commands =
        (0, Lock 0 Read) ∷
        (0, Unlock 0 Read) ∷
        (1, Lock 0 Upgrade) ∷
        (1, Unlock 0 Upgrade) ∷
        (2, Lock 0 Read) ∷
        (3, Lock 0 IntentionRead) ∷
        (4, Try 0 IntentionWrite) ∷
        (4, Try 0 IntentionWrite) ∷
        [];
  };
  run =
      act 1 0 0 (Grant 0 0 Read ∷ []) ∷
      act 1 2 2 (Wait 2 0 Read ∷ []) ∷
      taken_at 2 0 2 (Copy 0 2 2 Read ∷ []) ∷
      act 1 1 1 (Wait 1 0 Upgrade ∷ []) ∷
      taken_at 3 0 1 (Freeze 0 2 1 (modes_in (Upgrade ∷ IntentionWrite ∷ ReadIntentionWrite ∷ Write ∷ [])) ∷ Token 0 1 1 ∷ []) ∷
      taken_at 4 1 0 (Grant 1 0 Upgrade ∷ Freeze 0 0 2 no_modes ∷ Freeze 0 2 2 no_modes ∷ []) ∷
      act 4 0 0 (Unlocked 0 0 Read ∷ []) ∷
      taken_at 5 1 0 [] ∷
      act 6 1 1 (Unlocked 1 0 Upgrade ∷ []) ∷
      act 2 2 3 (Wait 3 0 IntentionRead ∷ []) ∷
      taken_at 5 0 2 [] ∷
      taken_at 6 0 1 [] ∷
      taken_at 7 1 0 (Freeze 0 2 3 (modes_in (Write ∷ [])) ∷ Token 0 2 2 ∷ []) ∷
      taken_at 5 2 1 [] ∷
      taken_at 8 2 1 [] ∷
      taken_at 9 2 1 (Grant 3 0 IntentionRead ∷ []) ∷
      act 10 2 4 (Tried 4 0 IntentionWrite false ∷ []) ∷
      taken_at 11 2 0 (Grant 2 0 Read ∷ []) ∷
      taken_at 12 2 0 [] ∷
      act 13 2 4 (Tried 4 0 IntentionWrite false ∷ []) ∷
      [];
  held = holds 2 0 Read 1 ∷ holds 3 0 IntentionRead 1 ∷ [];
  waiting = [];
  owners = owner 2 2 ∷ [];
}

-- The world after 10 of its moves.
abbrev pub copy_before_token_after_10 : Snapshot
copy_before_token_after_10 = record {
  row = copy_before_token;
  moves = 10;
  nodes =
      record {
        clock = 4;
        made = 2 ∷ 0 ∷ 0 ∷ 0 ∷ 0 ∷ [];
        sets = record untouched_set {
          frozen = modes_in (Upgrade ∷ IntentionWrite ∷ ReadIntentionWrite ∷ Write ∷ []);
          number = 1;
          firm = owner 1 1;
        } ∷ [];
      } ∷
      record {
        clock = 6;
        made = 0 ∷ 2 ∷ 0 ∷ 0 ∷ 0 ∷ [];
        sets = record untouched_set {
          number = 2;
          firm = owner 1 1;
          desk = Some (record (untouched_desk 3) {
            epoch = 1;
            number = 2;
            entries =
                entry no_modes [] (stamp 4 0) [] no_modes ∷
                blank ∷
                entry no_modes (owed (stamp 1 2) Read ∷ []) (stamp 0 0) [] no_modes ∷
                [];
          });
        } ∷ [];
      } ∷
      record {
        clock = 2;
        made = 0 ∷ 0 ∷ 1 ∷ 1 ∷ 0 ∷ [];
        sets = record untouched_set {
          pending = new_ask 2 Read (stamp 1 2) ∷ new_ask 3 IntentionRead (stamp 2 2) ∷ [];
        } ∷ [];
      } ∷
      [];
  mail =
      mailed 2 (stamp 2 0) 0 (owner 0 0) (CopyBody (new_ask 2 Read (stamp 1 2))) ∷
      mailed 2 (stamp 3 0) 0 (owner 0 0)
      (FreezeBody 1 (modes_in (Upgrade ∷ IntentionWrite ∷ ReadIntentionWrite ∷ Write ∷ []))) ∷
      mailed 0 (stamp 4 1) 0 (owner 1 1) (FreezeBody 2 no_modes) ∷
      mailed 2 (stamp 4 1) 0 (owner 1 1) (FreezeBody 2 no_modes) ∷
      mailed 0 (stamp 2 2) 0 (owner 0 0) (AskBody (new_ask 3 IntentionRead (stamp 2 2)) false) ∷
      [];
  went = (0 ∷ 1 ∷ []) ∷ [];
  turns = turn 0 (Take 1) ∷ turn 0 (Take 2) ∷ turn 2 (Take 0) ∷ turn 2 (Take 1) ∷ turn 2 (Act 4) ∷ [];
  waiting = 2 ∷ 3 ∷ [];
  rest = false;
}
