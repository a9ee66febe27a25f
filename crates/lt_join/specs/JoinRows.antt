-- Small texts of two nodes, and what they are joined to.
use Rattle.std.specs.Prelude.{◌≡◌, ℕ, List, [], ◌∷◌, ◌++◌, Some, None, codes}
use Rattle.lt_modes.specs.declared.command.Command.TheVariants.{Lock}
use Rattle.lt_modes.specs.declared.event.Event.TheVariants.{Grant}
use Rattle.lt_modes.specs.declared.mode.Mode.TheVariants.{Read}
use Rattle.lt_modes.specs.declared.moves.Step.TheVariants.{Act}
use Rattle.lt_join.specs.Parts.{RunText, NodeSaid, said_in, joined_text}

-- the script with no commands, with that of client a, with that of client b, and with both
abbrev pub small_script : List ℕ
small_script = codes "nodes 2\nset s\nclient a at 0\nclient b at 1\n"

abbrev pub small_locks : List ℕ
small_locks = codes "a lock s read\n"

abbrev pub small_unlocks : List ℕ
small_unlocks = codes "b unlock s read\n"

-- the text of a node with these commands and these moves
abbrev pub small_text : List ℕ → List ℕ → RunText
small_text commands moves = record { script = small_script ++ commands; moves = moves }

-- what the two nodes write
abbrev pub text_of_first : RunText
text_of_first = small_text small_locks (codes "move 1 0 act a\ngrant a s read\ncut 0\n")

abbrev pub text_of_second : RunText
text_of_second = small_text small_unlocks (codes "move 1 1 act b\nnot_held b s read\ncut 1\n")

-- what that of the first says
abbrev pub said_by_first : NodeSaid
said_by_first = record {
  script = record {
    version = 1;
    nodes = 2;
    sets = record { name = codes "s"; family = 0 } ∷ [];
    clients = record { name = codes "a"; node = 0 } ∷ record { name = codes "b"; node = 1 } ∷ [];
    commands = (0, Lock 0 Read) ∷ [];
  };
  node = 0;
  log = record {
    made = record { stamp = record { clock = 1; node = 0 }; step = Act 0 };
    events = Grant 0 0 Read ∷ [];
  } ∷ [];
}

-- what such texts say, and of which nothing is joined
pub record JoinRows : Type 0 where
  pub first : said_in text_of_first ≡ Some said_by_first
  pub one_missing : joined_text (text_of_first ∷ []) ≡ None
  pub one_twice : joined_text (text_of_first ∷ text_of_first ∷ []) ≡ None
  pub one_more : joined_text (text_of_first ∷ text_of_second ∷ text_of_second ∷ []) ≡ None
  pub no_cut : joined_text (text_of_first ∷ small_text [] [] ∷ []) ≡ None
  pub behind_cut : joined_text (text_of_first ∷ small_text [] (codes "cut 1\ncut 1\n") ∷ []) ≡ None
  pub no_move : joined_text (text_of_first ∷ small_text [] (codes "grant a s read\ncut 1\n") ∷ []) ≡ None
  pub of_other : joined_text (text_of_first ∷ small_text small_unlocks (codes "move 1 0 act b\nnot_held b s read\ncut 1\n")
      ∷ []) ≡ None
  pub not_rising : joined_text (text_of_first
      ∷ small_text [] (codes "move 2 1 take 0\nmove 1 1 take 0\ncut 1\n") ∷ []) ≡ None
