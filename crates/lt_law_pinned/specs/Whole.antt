-- A script and its journal in which each form of a line, each command, each event and each mode stands.
use Rattle.std.specs.Prelude.{[], ◌∷◌, ◌++◌, ℕ, List, codes, true, false, ◌≡◌, Ok, None, Some, take}
use Rattle.lt_modes.specs.declared.mode.Mode.TheVariants.{IntentionRead, Read, Upgrade, IntentionWrite, ReadIntentionWrite, Write}
use Rattle.lt_modes.specs.declared.command.Command.TheVariants.{Lock, Try, Unlock, Change, DropAll}
use Rattle.lt_modes.specs.declared.event.Event.TheVariants.{Grant, Wait, Try as Tried, Unlock as Unlocked, NotHeld, Change as Changed, DropAll as Dropped, Busy, Copy, Freeze, Token}
use Rattle.lt_modes.specs.Modes.{no_modes, modes_in}
use Rattle.lt_spec.specs.Holdings.{holding}
use Rattle.lt_spec.specs.World.{Logged}
use Rattle.lt_script.specs.Printing.{print_of}
use Rattle.lt_script.specs.Reading.{read_of}
use Rattle.lt_gen.specs.Generator.{script_of}
use Rattle.lt_tally.specs.Summary.{summary_of}
use Rattle.lt_journal.specs.RunLines.{entry_lines, lines_text, text_of}
use Rattle.lt_law_examples.specs.Worked.{Worked, declared_set, declared_client, act, taken_at, holds, owner, IsFirstRun}
use Rattle.lt_law_pinned.specs.Worlds.{made_from_233, made_text}

-- The script, its run in the fixed order of moves, and what is held at its end.
abbrev pub whole : Worked
whole = record {
  script = record {
    version = 2;
    nodes = 2;
    sets =
        declared_set (codes "s") 0 ∷
        declared_set (codes "t") 0 ∷
        [];
    clients =
        declared_client (codes "a") 0 ∷
        declared_client (codes "b") 1 ∷
        declared_client (codes "c") 0 ∷
        declared_client (codes "d") 1 ∷
        [];
    commands =
        (1, Unlock 0 Read) ∷
        (0, Lock 0 IntentionWrite) ∷
        (1, Try 0 IntentionWrite) ∷
        (3, Unlock 0 ReadIntentionWrite) ∷
        (1, Lock 1 IntentionRead) ∷
        (3, Lock 0 IntentionRead) ∷
        (3, DropAll 1 0) ∷
        (0, Try 1 Write) ∷
        (3, Lock 0 Upgrade) ∷
        (0, Change 0 IntentionWrite Read) ∷
        (0, DropAll 2 0) ∷
        (3, Unlock 0 IntentionRead) ∷
        [];
  };
  run =
      act 1 0 0 (Grant 0 0 IntentionWrite ∷ []) ∷
      act 1 1 1 (NotHeld 1 0 Read ∷ []) ∷
      act 2 1 3 (NotHeld 3 0 ReadIntentionWrite ∷ []) ∷
      act 2 0 0 (Tried 0 1 Write true ∷ []) ∷
      act 3 1 1 (Tried 1 0 IntentionWrite false ∷ []) ∷
      act 4 1 3 (Wait 3 0 IntentionRead ∷ []) ∷
      taken_at 5 0 1 (Copy 0 1 3 IntentionRead ∷ []) ∷
      taken_at 6 1 0 (Grant 3 0 IntentionRead ∷ []) ∷
      act 6 0 0 (Changed 0 0 IntentionWrite Read ∷ []) ∷
      act 7 1 1 (Wait 1 1 IntentionRead ∷ []) ∷
      taken_at 8 0 1 [] ∷
      act 8 1 3 (Busy 3 1 0 ∷ []) ∷
      act 9 0 0 (Dropped 0 2 0 0 ∷ []) ∷
      act 9 1 3 (Wait 3 0 Upgrade ∷ []) ∷
      taken_at 10 0 1 (Freeze 0 1 1 (modes_in (Upgrade ∷ IntentionWrite ∷ ReadIntentionWrite ∷ Write ∷ [])) ∷ Token 0 1 1 ∷ []) ∷
      taken_at 11 1 0 [] ∷
      taken_at 12 1 0 (Grant 3 0 Upgrade ∷ Freeze 0 0 2 no_modes ∷ []) ∷
      taken_at 13 0 1 [] ∷
      act 13 1 3 (Unlocked 3 0 IntentionRead ∷ []) ∷
      [];
  held = holds 0 0 Read 1 ∷ holds 0 1 Write 1 ∷ holds 3 0 Upgrade 1 ∷ [];
  waiting = holding 1 1 IntentionRead ∷ [];
  owners = owner 1 1 ∷ owner 0 0 ∷ [];
}

-- what the script declares but its nodes, and all its commands but the last
abbrev pub middle_text : List ℕ
middle_text =
    codes "set s\n"
    ++ codes "set t with s\n"
    ++ codes "client a at 0\n"
    ++ codes "client b at 1\n"
    ++ codes "client c at 0\n"
    ++ codes "client d at 1\n"
    ++ codes "b unlock s read\n"
    ++ codes "a lock s intention_write\n"
    ++ codes "b try s intention_write\n"
    ++ codes "d unlock s read_intention_write\n"
    ++ codes "b lock t intention_read\n"
    ++ codes "d lock s intention_read\n"
    ++ codes "d drop b s\n"
    ++ codes "a try t write\n"
    ++ codes "d lock s upgrade\n"
    ++ codes "a change s intention_write read\n"
    ++ codes "a drop c s\n"

-- the script as it is written
abbrev pub whole_text : List ℕ
whole_text =
    codes "version 2\n"
    ++ codes "nodes 2\n"
    ++ middle_text
    ++ codes "d unlock s intention_read\n"

-- the same script with spaces, a tab, a line end of two bytes, an empty line, a comment, and without the last line end
abbrev pub spread_text : List ℕ
spread_text =
    codes "  version  2 " ++ 13 ∷ 10 ∷ []
    ++ codes "nodes" ++ 9 ∷ codes "2\n \n"
    ++ codes "# lock s read\n"
    ++ middle_text
    ++ codes "d unlock s intention_read"

-- the journal of the run
abbrev pub whole_journal : List ℕ
whole_journal =
    codes "version 2\n"
    ++ codes "move 1 0 act a\n"
    ++ codes "grant a s intention_write\n"
    ++ codes "move 1 1 act b\n"
    ++ codes "not_held b s read\n"
    ++ codes "move 2 1 act d\n"
    ++ codes "not_held d s read_intention_write\n"
    ++ codes "move 2 0 act a\n"
    ++ codes "try a t write true\n"
    ++ codes "move 3 1 act b\n"
    ++ codes "try b s intention_write false\n"
    ++ codes "move 4 1 act d\n"
    ++ codes "wait d s intention_read\n"
    ++ codes "move 5 0 take 1\n"
    ++ codes "copy s 1 d intention_read\n"
    ++ codes "move 6 1 take 0\n"
    ++ codes "grant d s intention_read\n"
    ++ codes "move 6 0 act a\n"
    ++ codes "change a s intention_write read\n"
    ++ codes "move 7 1 act b\n"
    ++ codes "wait b t intention_read\n"
    ++ codes "move 8 0 take 1\n"
    ++ codes "move 8 1 act d\n"
    ++ codes "busy d b s\n"
    ++ codes "move 9 0 act a\n"
    ++ codes "drop a c s 0\n"
    ++ codes "move 9 1 act d\n"
    ++ codes "wait d s upgrade\n"
    ++ codes "move 10 0 take 1\n"
    ++ codes "freeze s 1 1 upgrade intention_write read_intention_write write\n"
    ++ codes "token s 1 1\n"
    ++ codes "move 11 1 take 0\n"
    ++ codes "move 12 1 take 0\n"
    ++ codes "grant d s upgrade\n"
    ++ codes "freeze s 0 2 none\n"
    ++ codes "move 13 0 take 1\n"
    ++ codes "move 13 1 act d\n"
    ++ codes "unlock d s intention_read\n"
    ++ codes "held a s read 1\n"
    ++ codes "held a t write 1\n"
    ++ codes "held d s upgrade 1\n"
    ++ codes "waiting b t intention_read\n"
    ++ codes "owner s 1 1\n"
    ++ codes "owner t 0 0\n"
    ++ codes "end 19\n"

-- one of its moves
abbrev pub freezing_move : Logged
freezing_move = taken_at 10 0 1 (Freeze 0 1 1 (modes_in (Upgrade ∷ IntentionWrite ∷ ReadIntentionWrite ∷ Write ∷ [])) ∷ Token 0 1 1 ∷ [])

-- What scripts, journals and counts are in literals.

-- the script of version 2 with each form, its run and its journal
pub record WholeIs : Type 0 where
  pub printed : print_of whole.script ≡ whole_text
  pub read : read_of whole_text ≡ Ok whole.script
  pub spread : read_of spread_text ≡ Ok whole.script
  pub run : IsFirstRun whole
  pub journal : text_of whole.script whole.run None ≡ whole_journal
  -- the journal of its first move, cut after it
  pub cut : text_of whole.script (take 1 whole.run) (Some 1) ≡ codes "version 2\nmove 1 0 act a\ngrant a s intention_write\ncut 1\n"
  -- a move that freezes, as journals of version 1 show it
  pub five_modes : lines_text whole.script (entry_lines 1 freezing_move)
      ≡ codes "move 10 0 take 1\nfreeze s 1 1 upgrade intention_write write\ntoken s 1 1\n"
  -- what the run came to
  pub summary : summary_of whole.script whole.run
      ≡ record { nodes = 2; sets = 2; clients = 4; commands = 12; held = 3; waiting = 1 }
  -- after six of its moves, the last of which asks
  pub midway : summary_of whole.script (take 6 whole.run)
      ≡ record { nodes = 2; sets = 2; clients = 4; commands = 12; held = 2; waiting = 1 }

-- the script that is made from the seed 233
pub record DrawnIs : Type 0 where
  pub script : script_of 1 2 3 20 233 ≡ made_from_233
  pub text : print_of made_from_233 ≡ made_text
