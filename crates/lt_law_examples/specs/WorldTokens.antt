-- A worked world: two tokens on their way.
use Rattle.std.specs.Prelude.{true, false, [], ◌∷◌, codes}
use Rattle.lt_modes.specs.declared.mode.Mode.TheVariants.{Read, Upgrade, IntentionWrite, ReadIntentionWrite, Write}
use Rattle.lt_modes.specs.declared.command.Command.TheVariants.{Lock, Try, Unlock, Change, DropAll}
use Rattle.lt_modes.specs.declared.event.Event.TheVariants.{Grant, Wait, Try as Tried, Unlock as Unlocked, NotHeld, Change as Changed, DropAll as Dropped, Freeze, Token}
use Rattle.lt_modes.specs.declared.moves.Step.TheVariants.{Act, Take}
use Rattle.lt_modes.specs.Modes.{no_modes, modes_in}
use Rattle.lt_modes.specs.State.{AskBody, TokenBody}
use Rattle.lt_spec.specs.Holdings.{holding}
use Rattle.lt_law_examples.specs.Worked.{Worked, declared_set, declared_client, act, taken_at, holds, owner}
use Rattle.lt_law_examples.specs.Snapshot.{Snapshot, blank, untouched_set, stamp, entry, new_ask, turn, untouched_node, mailed, tell_body, untouched_desk, untouched_at_desk}

-- Two tokens and a tell go from one node to another, and asks are behind them.
abbrev pub tokens_on_way : Worked
tokens_on_way = record {
  script = record {
    version = 1;
    nodes = 4;
    sets = declared_set (codes "s0") 0 ∷ declared_set (codes "s1") 1 ∷ declared_set (codes "s2") 1 ∷ [];
    clients =
        declared_client (codes "c0") 1 ∷ declared_client (codes "c1") 2 ∷ declared_client (codes "c2") 0 ∷
        declared_client (codes "c3") 2 ∷ declared_client (codes "c4") 1 ∷ [];
    commands =
        (0, Try 0 Upgrade) ∷
        (4, Lock 1 Upgrade) ∷
        (0, Lock 2 Upgrade) ∷
        (3, DropAll 3 0) ∷
        (2, Lock 2 Read) ∷
        (1, Lock 1 Upgrade) ∷
        (2, Change 1 IntentionWrite IntentionWrite) ∷
        (3, Lock 2 IntentionWrite) ∷
        (2, Unlock 2 Read) ∷
        (2, DropAll 2 0) ∷
        (4, Change 1 Read IntentionWrite) ∷
        (4, DropAll 4 1) ∷
        (4, DropAll 4 1) ∷
        (4, Try 1 Upgrade) ∷
        (2, Unlock 2 Read) ∷
        (4, Lock 1 Upgrade) ∷
        (4, Change 1 Upgrade Upgrade) ∷
        (0, Unlock 2 Upgrade) ∷
        [];
  };
  run =
      act 1 1 0 (Tried 0 0 Upgrade false ∷ []) ∷
      act 2 1 4 (Wait 4 1 Upgrade ∷ []) ∷
      act 3 1 0 (Wait 0 2 Upgrade ∷ []) ∷
      act 1 2 3 (Dropped 3 3 0 0 ∷ []) ∷
      act 1 0 2 (Grant 2 2 Read ∷ []) ∷
      taken_at 3 0 1 (Token 1 1 1 ∷ []) ∷
      act 2 2 1 (Wait 1 1 Upgrade ∷ []) ∷
      taken_at 4 0 1 (Token 2 1 1 ∷ []) ∷
      act 5 0 2 (NotHeld 2 1 IntentionWrite ∷ []) ∷
      act 3 2 3 (Wait 3 2 IntentionWrite ∷ []) ∷
      act 6 0 2 (Unlocked 2 2 Read ∷ []) ∷
      act 7 0 2 (Dropped 2 2 0 0 ∷ []) ∷
      taken_at 4 1 0 (Grant 4 1 Upgrade ∷ []) ∷
      act 5 1 4 (NotHeld 4 1 Read ∷ []) ∷
      taken_at 8 0 2 [] ∷
      act 6 1 4 (Dropped 4 4 1 1 ∷ []) ∷
      act 7 1 4 (Dropped 4 4 1 0 ∷ []) ∷
      act 8 1 4 (Tried 4 1 Upgrade true ∷ []) ∷
      act 9 0 2 (NotHeld 2 2 Read ∷ []) ∷
      taken_at 10 0 2 [] ∷
      taken_at 9 1 0 (Grant 0 2 Upgrade ∷ Freeze 2 0 1 no_modes ∷ []) ∷
      taken_at 11 0 1 [] ∷
      act 10 1 4 (Grant 4 1 Upgrade ∷ []) ∷
      act 11 1 4 (Changed 4 1 Upgrade Upgrade ∷ []) ∷
      taken_at 12 1 0 [] ∷
      act 13 1 0 (Unlocked 0 2 Upgrade ∷ []) ∷
      taken_at 14 1 0 [] ∷
      taken_at 15 1 0 (Token 2 2 2 ∷ []) ∷
      taken_at 16 2 1 (Grant 3 2 IntentionWrite ∷ []) ∷
      [];
  held = holds 3 2 IntentionWrite 1 ∷ holds 4 1 Upgrade 2 ∷ [];
  waiting = holding 1 1 Upgrade ∷ [];
  owners = owner 0 0 ∷ owner 1 1 ∷ owner 2 2 ∷ [];
}

-- The world after 11 of its moves.
abbrev pub tokens_on_way_after_11 : Snapshot
tokens_on_way_after_11 = record {
  row = tokens_on_way;
  moves = 11;
  nodes =
      record {
        clock = 6;
        made = 0 ∷ 0 ∷ 3 ∷ 0 ∷ 0 ∷ [];
        sets =
            untouched_at_desk 4 ∷
            record untouched_set {
              frozen = modes_in (Upgrade ∷ IntentionWrite ∷ ReadIntentionWrite ∷ Write ∷ []);
              firm = owner 1 1;
            } ∷
            record untouched_set {
              frozen = modes_in (Upgrade ∷ IntentionWrite ∷ ReadIntentionWrite ∷ Write ∷ []);
              firm = owner 1 1;
            } ∷
            [];
      } ∷
      record {
        clock = 3;
        made = 2 ∷ 0 ∷ 0 ∷ 0 ∷ 1 ∷ [];
        sets =
            untouched_set ∷
            record untouched_set { pending = new_ask 4 Upgrade (stamp 2 1) ∷ [] } ∷
            record untouched_set { pending = new_ask 0 Upgrade (stamp 3 1) ∷ [] } ∷
            [];
      } ∷
      record {
        clock = 3;
        made = 0 ∷ 1 ∷ 0 ∷ 2 ∷ 0 ∷ [];
        sets =
            untouched_set ∷
            record untouched_set { pending = new_ask 1 Upgrade (stamp 2 2) ∷ [] } ∷
            record untouched_set { pending = new_ask 3 IntentionWrite (stamp 3 2) ∷ [] } ∷
            [];
      } ∷
      untouched_node 5 3 ∷
      [];
  mail =
      mailed 1 (stamp 3 0) 1 (owner 1 1) (TokenBody (record (untouched_desk 4) {
        epoch = 1;
        queue = new_ask 4 Upgrade (stamp 2 1) ∷ [];
        entries =
            entry no_modes [] (stamp 3 0) [] (modes_in (Upgrade ∷ IntentionWrite ∷ ReadIntentionWrite ∷ Write ∷ [])) ∷
            blank ∷
            blank ∷
            blank ∷
            [];
      })) ∷
      mailed 1 (stamp 4 0) 2 (owner 1 1) (TokenBody (record (untouched_desk 4) {
        epoch = 1;
        queue = new_ask 0 Upgrade (stamp 3 1) ∷ [];
        entries =
            entry (modes_in (Read ∷ [])) [] (stamp 4 0) [] (modes_in (Upgrade ∷ IntentionWrite ∷ ReadIntentionWrite ∷ Write ∷ [])) ∷
            blank ∷
            blank ∷
            blank ∷
            [];
      })) ∷
      mailed 1 (stamp 6 0) 2 (owner 1 1) (tell_body no_modes [] (stamp 6 0)) ∷
      mailed 0 (stamp 2 2) 1 (owner 0 0) (AskBody (new_ask 1 Upgrade (stamp 2 2)) false) ∷
      mailed 0 (stamp 3 2) 2 (owner 0 0) (AskBody (new_ask 3 IntentionWrite (stamp 3 2)) false) ∷
      [];
  went = (0 ∷ []) ∷ (0 ∷ 1 ∷ []) ∷ (0 ∷ 1 ∷ []) ∷ [];
  turns = turn 0 (Take 2) ∷ turn 1 (Take 0) ∷ turn 0 (Act 2) ∷ [];
  waiting = 0 ∷ 1 ∷ 3 ∷ 4 ∷ [];
  rest = false;
}
