-- Small journals and their answers.
use Rattle.std.specs.Prelude.{◌≡◌, ℕ, List, [], ◌∷◌, ◌++◌, codes, replicate, Result, Ok, Err}
use Rattle.lt_modes.specs.declared.command.Command.TheVariants.{Lock}
use Rattle.lt_modes.specs.declared.mode.Mode.TheVariants.{Read}
use Rattle.lt_modes.specs.declared.moves.Step.TheVariants.{Act}
use Rattle.lt_modes.specs.declared.event.Event.TheVariants.{Grant}
use Rattle.lt_modes.specs.Script.{ScriptData}
use Rattle.lt_spec.specs.World.{Logged}
use Rattle.lt_law_journals.specs.Checking.{checked, new_feed, fed_piece, ended}

-- `nodes 1`
abbrev pub empty_script : ScriptData
empty_script = record { version = 1; nodes = 1; sets = []; clients = []; commands = [] }

-- `nodes 1`, `set s`, `client a at 0`, `a lock s read`
abbrev pub short_script : ScriptData
short_script = record {
  version = 1;
  nodes = 1;
  sets = record { name = codes "s"; family = 0 } ∷ [];
  clients = record { name = codes "a"; node = 0 } ∷ [];
  commands = (0, Lock 0 Read) ∷ [];
}

-- its run
abbrev pub short_run : List Logged
short_run = record { made = record { stamp = record { clock = 1; node = 0 }; step = Act 0 }; events = Grant 0 0 Read ∷ [] } ∷ []

-- the answer of these bytes
abbrev pub answer : ScriptData → List ℕ → Result (List Logged) ℕ
answer script bytes = ended script (fed_piece script (new_feed script) bytes)

-- the answers of a script with no client
pub record EmptyRows : Type 0 where
  pub one_line : answer empty_script (codes "end 0" ++ 10 ∷ []) ≡ Ok []
  pub with_return : answer empty_script (codes "end 0" ++ 13 ∷ 10 ∷ []) ≡ Ok []
  pub return_at_end : answer empty_script (codes "end 0" ++ 13 ∷ []) ≡ Ok []
  pub no_line_end : answer empty_script (codes "end 0") ≡ Ok []
  pub return_inside : answer empty_script (codes "end 0" ++ 13 ∷ codes "x") ≡ Err 1
  pub nothing : answer empty_script [] ≡ Err 1
  pub one_line_more : answer empty_script (codes "end 0" ++ 10 ∷ 10 ∷ []) ≡ Err 2
  pub long_line : answer empty_script (replicate 300 101) ≡ Err 1

-- the answers of lines of a script with one move
pub record ShortRows : Type 0 where
  pub right : checked short_script (codes "move 1 0 act a" ∷ codes "grant a s read" ∷ codes "held a s read 1" ∷ codes "owner s 0 0" ∷ codes "end 1" ∷ []) ≡ Ok short_run
  pub wrong_clock : checked short_script (codes "move 2 0 act a" ∷ codes "grant a s read" ∷ codes "held a s read 1" ∷ codes "owner s 0 0" ∷ codes "end 1" ∷ []) ≡ Err 1
  pub wrong_mode : checked short_script (codes "move 1 0 act a" ∷ codes "grant a s write" ∷ codes "held a s read 1" ∷ codes "owner s 0 0" ∷ codes "end 1" ∷ []) ≡ Err 2
  pub closes_early : checked short_script (codes "owner s 0 0" ∷ codes "end 0" ∷ []) ≡ Err 1
  pub cut_run : checked short_script (codes "cut 0" ∷ []) ≡ Err 1
  pub move_too_many : checked short_script (codes "move 1 0 act a" ∷ codes "grant a s read" ∷ codes "move 2 0 act a" ∷ []) ≡ Err 3
  pub last_missing : checked short_script (codes "move 1 0 act a" ∷ codes "grant a s read" ∷ codes "held a s read 1" ∷ codes "owner s 0 0" ∷ []) ≡ Err 5
  pub line_more : checked short_script (codes "move 1 0 act a" ∷ codes "grant a s read" ∷ codes "held a s read 1" ∷ codes "owner s 0 0" ∷ codes "end 1" ∷ codes "end 1" ∷ []) ≡ Err 6
