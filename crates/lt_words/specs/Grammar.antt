-- Which words are a command. They don't have the program's name.
use Rattle.std.specs.Prelude.{◌^◌, ◌&&◌, nat_lt, if◌then◌else◌, ℕ, List, [], ◌∷◌, Option, Some, None, option_map, codes, Bool, true, false, ◌||◌, not, ◌==◌, is_some, unwrap_or, bytes_eq}
use Rattle.std.specs.Str.Parse.{digits_value}
use Rattle.std.specs.List.{list_all}
use Rattle.clap.specs.Words.{App, Row, Rule, Text, first_of, new_app, new_rule, with_rule, with_subcommand}
use Rattle.clap.specs.declared.builder.action.ArgAction.TheVariants.{Set}
use Rattle.lt_text.specs.Number.{is_numeral, number}
use Rattle.lt_gen.specs.Sizes.{can_make}
use Rattle.lt_words.specs.declared.command.Command.{Command}
use Rattle.lt_words.specs.declared.command.Command.TheVariants.{Run, SimFirst, Sim, Check, Make, Soak, Order}

-- the number below 2 ^ 64 that 1 to 20 digits write
abbrev pub seed_of : List ℕ → Option ℕ
seed_of word = if is_numeral word 20 && nat_lt (digits_value 10 word) (2 ^ 64) then Some (digits_value 10 word) else None

-- `run`, `check` and `order`
abbrev pub one_word : List ℕ → Option Command
one_word word =
    if bytes_eq word (codes "run") then Some Run
    else if bytes_eq word (codes "check") then Some Check
    else if bytes_eq word (codes "order") then Some Order
    else None

-- `sim first` and `sim SEED`
abbrev pub sim_of : List ℕ → Option Command
sim_of word = if bytes_eq word (codes "first") then Some SimFirst else option_map Sim (seed_of word)

-- `soak SEED`
abbrev pub soak_of : List ℕ → Option Command
soak_of word = option_map Soak (seed_of word)

-- one of these
abbrev pub two_words : List ℕ → List ℕ → Option Command
two_words word seed =
    if bytes_eq word (codes "sim") then sim_of seed
    else if bytes_eq word (codes "soak") then soak_of seed
    else None

-- `make` with these numbers, where each word was one
abbrev pub make_of : Option ℕ → Option ℕ → Option ℕ → Option ℕ → Option ℕ → Option Command
make_of (Some version) (Some nodes) (Some clients) (Some commands) (Some seed) =
    if can_make version nodes clients commands then Some (Make version nodes clients commands seed) else None
make_of version nodes clients commands seed = None

-- `make NODES CLIENTS COMMANDS SEED`, which has version 1
abbrev pub five_words : List ℕ → List ℕ → List ℕ → List ℕ → List ℕ → Option Command
five_words word nodes clients commands seed =
    if bytes_eq word (codes "make") then make_of (Some 1) (number nodes) (number clients) (number commands) (seed_of seed)
    else None

-- `version VERSION`
abbrev pub version_of : List ℕ → List ℕ → Option ℕ
version_of word version = if bytes_eq word (codes "version") then number version else None

-- `make NODES CLIENTS COMMANDS SEED version VERSION`
abbrev pub seven_words : List ℕ → List ℕ → List ℕ → List ℕ → List ℕ → List ℕ → List ℕ → Option Command
seven_words word nodes clients commands seed key version =
    if bytes_eq word (codes "make")
    then make_of (version_of key version) (number nodes) (number clients) (number commands) (seed_of seed)
    else None

-- the command that the words are
abbrev pub command_of : List (List ℕ) → Option Command
command_of (word ∷ []) = one_word word
command_of (word ∷ seed ∷ []) = two_words word seed
command_of (word ∷ nodes ∷ clients ∷ commands ∷ seed ∷ []) = five_words word nodes clients commands seed
command_of (word ∷ nodes ∷ clients ∷ commands ∷ seed ∷ key ∷ version ∷ []) =
    seven_words word nodes clients commands seed key version
command_of words = None

-- The commands as `clap` knows them, and what a parse finds.

-- an argument that has to be there
abbrev pub needed : List ℕ → Rule
needed id = record (new_rule id) { required = true; action = Some Set }

-- an argument that may be missing
abbrev pub optional : List ℕ → Rule
optional id = record (new_rule id) { action = Some Set }

-- a subcommand without arguments
abbrev pub plain_app : List ℕ → App
plain_app name = record (new_app name) { top = record (new_app name).top { disable_help_flag = true } }

-- a subcommand with one argument
abbrev pub one_app : List ℕ → List ℕ → App
one_app name id = with_rule (plain_app name) (needed id)

-- `sim HOW`
abbrev pub sim_app : App
sim_app = one_app (codes "sim") (codes "how")

-- `soak SEED`
abbrev pub soak_app : App
soak_app = one_app (codes "soak") (codes "seed")

-- `make NODES CLIENTS COMMANDS SEED`, and maybe `version VERSION`
abbrev pub make_app : App
make_app = with_rule (with_rule (with_rule (with_rule (with_rule (with_rule (plain_app (codes "make")) (needed (codes "nodes"))) (needed (codes "clients"))) (needed (codes "commands"))) (needed (codes "seed"))) (optional (codes "key"))) (optional (codes "version"))

-- the program without its subcommands
abbrev pub top_app : App
top_app = record (new_app (codes "lockrun")) {
  top = record (new_app (codes "lockrun")).top {
    disable_help_flag = true;
    disable_help_subcommand = true;
    no_binary_name = true;
    subcommand_required = true;
  };
}

-- the program
abbrev pub lockrun : App
lockrun = with_subcommand (with_subcommand (with_subcommand (with_subcommand (with_subcommand (with_subcommand top_app (plain_app (codes "run")).top) (plain_app (codes "check")).top) sim_app.top) soak_app.top) make_app.top) (plain_app (codes "order")).top

-- the word isn't empty and doesn't begin with a hyphen
abbrev pub is_plain : List ℕ → Bool
is_plain [] = false
is_plain (byte ∷ rest) = not (byte == 45)

-- a first word of a command, and as many words as it has
abbrev pub has_verb : List (List ℕ) → Bool
has_verb (verb ∷ []) = is_some (one_word verb)
has_verb (verb ∷ a ∷ []) = bytes_eq verb (codes "sim") || bytes_eq verb (codes "soak")
has_verb (verb ∷ a ∷ b ∷ c ∷ d ∷ []) = bytes_eq verb (codes "make")
has_verb (verb ∷ a ∷ b ∷ c ∷ d ∷ e ∷ f ∷ []) = bytes_eq verb (codes "make")
has_verb words = false

-- the words are plain and begin a command: a parse of them fails only for want of memory
abbrev pub is_form : List (List ℕ) → Bool
is_form words = has_verb words && list_all is_plain words

-- the text that a parse found for this id
abbrev pub text_at : List ℕ → List Row → List ℕ
text_at id rows = unwrap_or (first_of id rows) []

-- the version that these texts name: version 1 if there are none
abbrev pub version_in : List ℕ → List ℕ → Option ℕ
version_in [] version = Some 1
version_in (byte ∷ rest) version = version_of (byte ∷ rest) version

-- `make` with the texts that a parse found
abbrev pub make_in : List Row → Option Command
make_in rows = make_of (version_in (text_at (codes "key") rows) (text_at (codes "version") rows)) (number (text_at (codes "nodes") rows)) (number (text_at (codes "clients") rows)) (number (text_at (codes "commands") rows)) (seed_of (text_at (codes "seed") rows))

-- the command with this first word and these texts
abbrev pub command_named : List ℕ → List Row → Option Command
command_named name rows =
    if bytes_eq name (codes "sim") then sim_of (text_at (codes "how") rows)
    else if bytes_eq name (codes "soak") then soak_of (text_at (codes "seed") rows)
    else if bytes_eq name (codes "make") then make_in rows
    else one_word name

-- the command that a parse found
abbrev pub command_in : Option (Text × List Row) → Option Command
command_in None = None
command_in (Some found) = command_named found.0 found.1
