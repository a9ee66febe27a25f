-- How a script is written.
use Rattle.std.specs.Prelude.{ℕ, ◌==◌, List, [], ◌∷◌, ◌++◌, map, codes, slice_get, if◌then◌else◌, decimal, bytes_eq}
use Rattle.lt_modes.specs.declared.command.Command.{Command}
use Rattle.lt_modes.specs.declared.command.Command.TheVariants.{Lock, Try, Unlock, Change, DropAll, Withdraw}
use Rattle.lt_modes.specs.Modes.{word_of}
use Rattle.lt_modes.specs.Script.{ScriptData, SetData, ClientData, name_of_set, set_name, client_name}
use Rattle.lt_text.specs.Text.{spaced, text}

-- `version 2` for a script of version 2, `version 3` for one of version 3, and nothing for one of version 1
abbrev pub version_words : ℕ → List (List (List ℕ))
version_words version =
    if version == 1 then []
    else if version == 2 then (codes "version" ∷ codes "2" ∷ []) ∷ []
    else (codes "version" ∷ codes "3" ∷ []) ∷ []

-- `nodes N`
abbrev pub nodes_words : ℕ → List (List ℕ)
nodes_words nodes = codes "nodes" ∷ decimal nodes ∷ []

-- the name of the first set of the family
abbrev pub first_name : List SetData → SetData → List ℕ
first_name sets x = name_of_set (slice_get sets x.family)

-- `set S` for the first set of its family, `set S with T` for another one, where T is the first
abbrev pub set_words : List SetData → SetData → List (List ℕ)
set_words sets x =
    if bytes_eq (first_name sets x) x.name then codes "set" ∷ x.name ∷ []
    else codes "set" ∷ x.name ∷ codes "with" ∷ first_name sets x ∷ []

-- `client C at N`
abbrev pub client_words : ClientData → List (List ℕ)
client_words x = codes "client" ∷ x.name ∷ codes "at" ∷ decimal x.node ∷ []

-- `lock S M`, `try S M`, `unlock S M`, `change S G M`, `drop D S` and `withdraw D S`
abbrev pub asked_words : ScriptData → Command → List (List ℕ)
asked_words s (Lock set mode) = codes "lock" ∷ set_name s set ∷ word_of mode ∷ []
asked_words s (Try set mode) = codes "try" ∷ set_name s set ∷ word_of mode ∷ []
asked_words s (Unlock set mode) = codes "unlock" ∷ set_name s set ∷ word_of mode ∷ []
asked_words s (Change set gives_up mode) = codes "change" ∷ set_name s set ∷ word_of gives_up ∷ word_of mode ∷ []
asked_words s (DropAll other set) = codes "drop" ∷ client_name s other ∷ set_name s set ∷ []
asked_words s (Withdraw other set) = codes "withdraw" ∷ client_name s other ∷ set_name s set ∷ []

-- a command behind the name of its client
abbrev pub command_words : ScriptData → ℕ × Command → List (List ℕ)
command_words s request = client_name s request.0 ∷ asked_words s request.1

-- the words of each line
abbrev pub script_words : ScriptData → List (List (List ℕ))
script_words s =
    version_words s.version ++ nodes_words s.nodes ∷ (map (set_words s.sets) s.sets ++ (map client_words s.clients ++ map (command_words s) s.commands))

-- the lines, with one space between two words
unfoldable pub print_of : ScriptData → List ℕ
print_of s = text (map spaced (script_words s))

-- one line with its line end
abbrev pub ended_line : List (List ℕ) → List ℕ
ended_line words = spaced words ++ 10 ∷ []
