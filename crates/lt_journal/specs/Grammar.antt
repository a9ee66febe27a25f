-- What a line of a journal says, by its words: a line that has none of the forms is bad.
use Rattle.std.specs.Prelude.{List, [], ◌∷◌, ℕ, map, Bool, true, false, Option, Some, None, ◌≡◌, ◌≤◌, take, length, if◌then◌else◌, codes, nat_lt, option_map, bytes_eq, ◌==◌}
use Rattle.lt_modes.specs.declared.mode.Mode.{Mode}
use Rattle.lt_modes.specs.declared.moves.Step.{Step}
use Rattle.lt_modes.specs.declared.moves.Step.TheVariants.{Act, Take}
use Rattle.lt_modes.specs.declared.event.Event.TheVariants.{Grant, Wait, Try, Unlock, NotHeld, Change, DropAll, Busy, Withdraw, Withdrawn, Void, Withheld, Copy, Freeze, Token}
use Rattle.lt_modes.specs.Modes.{Modes, no_modes, with_mode, word_of, mode_of, modes_in_order}
use Rattle.lt_modes.specs.Script.{ScriptData}
use Rattle.lt_spec.specs.Script.{set_number, client_number}
use Rattle.lt_text.specs.Text.{lines, fields}
use Rattle.lt_text.specs.Number.{are_digits, exact_number}
use Rattle.std.specs.Str.Parse.{digits_value}
use denote.Ref.{Bor}
use Rattle.lt_journal.specs.declared.line.Line.{Line}
use Rattle.lt_journal.specs.declared.line.Line.TheVariants.{Version2, Version3, Move as MoveLine, Event as EventLine, Held, Waiting, Owner, End, Cut, Bad}
use Rattle.lt_spec.specs.Holdings.{Holding}

-- the number, if it is below the bound
abbrev pub below : ℕ → Option ℕ → Option ℕ
below bound None = None
below bound (Some n) = if nat_lt n bound then Some n else None

-- the node of the script that the word names
abbrev pub node_of : ScriptData → List ℕ → Option ℕ
node_of script word = below script.nodes (exact_number word)

-- what a move does: `act CLIENT` or `take FROM`
abbrev pub step_said : ScriptData → List ℕ → List ℕ → Option Step
step_said script verb word =
    if bytes_eq verb (codes "act") then option_map Act (client_number script word)
    else if bytes_eq verb (codes "take") then option_map Take (node_of script word)
    else None

-- the lock of these three, if each is known
abbrev pub lock_by : Option ℕ → Option ℕ → Option Mode → Option Holding
lock_by (Some client) (Some set) (Some mode) = Some (record { client = client; set = set; mode = mode })
lock_by _ _ _ = None

-- the lock of a client's name, a set's name and a mode's word
abbrev pub lock_of : ScriptData → List ℕ → List ℕ → List ℕ → Option Holding
lock_of script client set mode = lock_by (client_number script client) (set_number script set) (mode_of mode)

-- whether a `try` got its lock, or a `withdraw` gave something up
abbrev pub bool_of : List ℕ → Option Bool
bool_of word =
    if bytes_eq word (codes "true") then Some true
    else if bytes_eq word (codes "false") then Some false
    else None

-- the set with those of the modes whose words these are, in the order of the modes and with no word left over
abbrev pub with_words : List Mode → Modes → List (List ℕ) → Option Modes
with_words modes found [] = Some found
with_words [] found (word ∷ later) = None
with_words (mode ∷ modes) found (word ∷ later) =
    if bytes_eq word (word_of mode) then with_words modes (with_mode found mode) later else with_words modes found (word ∷ later)

-- the words that are left, if there are any
abbrev pub words_left : Option (Bor (List ℕ)) → List (List ℕ)
words_left None = []
words_left (Some rest) = fields rest.now

-- the words are the one word `none`
abbrev pub says_none : List (List ℕ) → Bool
says_none (word ∷ []) = bytes_eq word (codes "none")
says_none words = false

-- the set of modes that these words are: `none`, or the words of its modes in order
abbrev pub modes_of : List (List ℕ) → Option Modes
modes_of words = if says_none words then Some no_modes else with_words modes_in_order no_modes words

-- `end COUNT`
abbrev pub end_line : Option ℕ → Line
end_line (Some count) = End count
end_line None = Bad

-- `cut NODE`
abbrev pub cut_line : Option ℕ → Line
cut_line (Some node) = Cut node
cut_line None = Bad

-- the line in a journal of version 3, and no line of one of another version
abbrev pub of_third : ℕ → Line → Line
of_third version line = if version == 3 then line else Bad

-- `version 2`, and in a journal of version 3 also `version 3`
abbrev pub version_line : ℕ → List ℕ → Line
version_line version word =
    if bytes_eq word (codes "2") then Version2
    else if bytes_eq word (codes "3") then of_third version Version3
    else Bad

-- a line of two words: `end COUNT`, `cut NODE` or a line `version`
abbrev pub line_of_two : ScriptData → List ℕ → List ℕ → Line
line_of_two script word a =
    if bytes_eq word (codes "end") then end_line (exact_number a)
    else if bytes_eq word (codes "cut") then cut_line (node_of script a)
    else if bytes_eq word (codes "version") then version_line script.version a
    else Bad

-- `busy CLIENT CLIENT SET`
abbrev pub busy_line : Option ℕ → Option ℕ → Option ℕ → Line
busy_line (Some client) (Some other) (Some set) = EventLine (Busy client other set)
busy_line _ _ _ = Bad

-- `token SET TO EPOCH`
abbrev pub token_line : Option ℕ → Option ℕ → Option ℕ → Line
token_line (Some set) (Some to) (Some epoch) = EventLine (Token set to epoch)
token_line _ _ _ = Bad

-- `owner SET NODE EPOCH`
abbrev pub owner_line : Option ℕ → Option ℕ → Option ℕ → Line
owner_line (Some set) (Some node) (Some epoch) = Owner set node epoch
owner_line _ _ _ = Bad

-- `withdrawn`, `void` or `withheld`, and then `CLIENT SET MODE`, in a journal of version 3
abbrev pub void_line : ℕ → List ℕ → Holding → Line
void_line version word lock =
    if bytes_eq word (codes "withdrawn") then of_third version (EventLine (Withdrawn lock.client lock.set lock.mode))
    else if bytes_eq word (codes "void") then of_third version (EventLine (Void lock.client lock.set lock.mode))
    else if bytes_eq word (codes "withheld") then of_third version (EventLine (Withheld lock.client lock.set lock.mode))
    else Bad

-- `grant`, `wait`, `unlock`, `not_held` or `waiting`, and then `CLIENT SET MODE`, or one of those lines
abbrev pub lock_line : ℕ → List ℕ → Option Holding → Line
lock_line version word None = Bad
lock_line version word (Some lock) =
    if bytes_eq word (codes "grant") then EventLine (Grant lock.client lock.set lock.mode)
    else if bytes_eq word (codes "wait") then EventLine (Wait lock.client lock.set lock.mode)
    else if bytes_eq word (codes "unlock") then EventLine (Unlock lock.client lock.set lock.mode)
    else if bytes_eq word (codes "not_held") then EventLine (NotHeld lock.client lock.set lock.mode)
    else if bytes_eq word (codes "waiting") then Waiting lock.client lock.set lock.mode
    else void_line version word lock

-- a line of four words: `busy`, `token`, `owner`, or a word and a lock
abbrev pub line_of_four : ScriptData → List ℕ → List ℕ → List ℕ → List ℕ → Line
line_of_four script word a b c =
    if bytes_eq word (codes "busy") then busy_line (client_number script a) (client_number script b) (set_number script c)
    else if bytes_eq word (codes "token") then token_line (set_number script a) (node_of script b) (exact_number c)
    else if bytes_eq word (codes "owner") then owner_line (set_number script a) (node_of script b) (exact_number c)
    else lock_line script.version word (lock_of script a b c)

-- `move CLOCK NODE`, and what the move does
abbrev pub move_line : Option ℕ → Option ℕ → Option Step → Line
move_line (Some clock) (Some node) (Some step) = MoveLine clock node step
move_line _ _ _ = Bad

-- what a line says that has these words after the word `move`
abbrev pub move_told : ScriptData → List (List ℕ) → Line
move_told script (a ∷ b ∷ c ∷ d ∷ []) = move_line (exact_number a) (node_of script b) (step_said script c d)
move_told script words = Bad

-- a move with this clock and this number of a node, which does what these words say
abbrev pub step_line : ScriptData → ℕ → ℕ → List (List ℕ) → Line
step_line script clock node (c ∷ d ∷ []) =
    move_line (Some clock) (below script.nodes (Some node)) (step_said script c d)
step_line script clock node words = Bad

-- what a move does, where these are the only two words of it
abbrev pub step_told : ScriptData → List (List ℕ) → Option Step
step_told script (verb ∷ word ∷ []) = step_said script verb word
step_told script words = None

-- the node that the only word names
abbrev pub node_told : ScriptData → List (List ℕ) → Option ℕ
node_told script (word ∷ []) = node_of script word
node_told script words = None

-- the client that the only word names
abbrev pub client_told : ScriptData → List (List ℕ) → Option ℕ
client_told script (word ∷ []) = client_number script word
client_told script words = None

-- the first bytes, so many and nineteen at most, are the digits of this number
pub record AreFirstDigits (bytes : List ℕ) (count number : ℕ) : Type 0 where
  pub digits : are_digits (take count bytes) ≡ true
  pub number_is : number ≡ digits_value 10 (take count bytes)
  pub few : count ≤ 19
  pub inside : count ≤ length bytes

-- the first of these words is this number, and further ones follow, which these bytes have; or that isn't so
abbrev pub BeginsWithNumber : List (List ℕ) → Option (ℕ × Bor (List ℕ)) → Type 0
BeginsWithNumber [] found = Unit {0}
BeginsWithNumber (word ∷ []) None = Unit {0}
BeginsWithNumber (word ∷ []) (Some found) = ⊥
BeginsWithNumber (word ∷ next ∷ later) None = exact_number word ≡ None
BeginsWithNumber (word ∷ next ∷ later) (Some found) =
    (exact_number word ≡ Some found.0) × (fields found.1.now ≡ next ∷ later)

-- `drop CLIENT CLIENT SET COUNT`
abbrev pub drop_line : Option ℕ → Option ℕ → Option ℕ → Option ℕ → Line
drop_line (Some client) (Some other) (Some set) (Some count) = EventLine (DropAll client other set count)
drop_line _ _ _ _ = Bad

-- `withdraw CLIENT CLIENT SET true` or `false`
abbrev pub withdraw_line : Option ℕ → Option ℕ → Option ℕ → Option Bool → Line
withdraw_line (Some client) (Some other) (Some set) (Some got) = EventLine (Withdraw client other set got)
withdraw_line _ _ _ _ = Bad

-- a line `withdraw` with these words for the clients, the set and what came of it, in a journal of version 3
abbrev pub line_of_withdraw : ScriptData → List ℕ → List ℕ → List ℕ → List ℕ → Line
line_of_withdraw script a b c d =
    of_third script.version (withdraw_line (client_number script a) (client_number script b) (set_number script c) (bool_of d))

-- `copy SET TO CLIENT MODE`
abbrev pub copy_line : Option ℕ → Option ℕ → Option ℕ → Option Mode → Line
copy_line (Some set) (Some to) (Some client) (Some mode) = EventLine (Copy set to client mode)
copy_line _ _ _ _ = Bad

-- a line `copy` with these words for the set, the node, the client and the mode
abbrev pub line_of_copy : ScriptData → List ℕ → List ℕ → List ℕ → List ℕ → Line
line_of_copy script a b c d = copy_line (set_number script a) (node_of script b) (client_number script c) (mode_of d)

-- `try CLIENT SET MODE true` or `false`
abbrev pub try_line : Holding → Option Bool → Line
try_line lock (Some got) = EventLine (Try lock.client lock.set lock.mode got)
try_line lock None = Bad

-- `change CLIENT SET MODE MODE`
abbrev pub change_line : Holding → Option Mode → Line
change_line lock (Some mode) = EventLine (Change lock.client lock.set lock.mode mode)
change_line lock None = Bad

-- `held CLIENT SET MODE COUNT`
abbrev pub held_line : Holding → Option ℕ → Line
held_line lock (Some count) = Held lock.client lock.set lock.mode count
held_line lock None = Bad

-- `try`, `change` or `held`, then `CLIENT SET MODE`, and a last word
abbrev pub lock_and_line : List ℕ → Option Holding → List ℕ → Line
lock_and_line word None d = Bad
lock_and_line word (Some lock) d =
    if bytes_eq word (codes "try") then try_line lock (bool_of d)
    else if bytes_eq word (codes "change") then change_line lock (mode_of d)
    else if bytes_eq word (codes "held") then held_line lock (exact_number d)
    else Bad

-- a line of five words, but for a `freeze`: `move`, `drop`, `withdraw`, `copy`, or a word, a lock and a last word
abbrev pub line_of_five : ScriptData → List ℕ → List ℕ → List ℕ → List ℕ → List ℕ → Line
line_of_five script word a b c d =
    if bytes_eq word (codes "move") then move_line (exact_number a) (node_of script b) (step_said script c d)
    else if bytes_eq word (codes "drop") then drop_line (client_number script a) (client_number script b) (set_number script c) (exact_number d)
    else if bytes_eq word (codes "withdraw") then line_of_withdraw script a b c d
    else if bytes_eq word (codes "copy") then line_of_copy script a b c d
    else lock_and_line word (lock_of script a b c) d

-- `freeze SET TO NUMBER MODES`
abbrev pub freeze_line : Option ℕ → Option ℕ → Option ℕ → Option Modes → Line
freeze_line (Some set) (Some to) (Some number) (Some modes) = EventLine (Freeze set to number modes)
freeze_line _ _ _ _ = Bad

-- a line `freeze` with these words for the set, the node, the number and the modes
abbrev pub line_of_freeze : ScriptData → List ℕ → List ℕ → List ℕ → List (List ℕ) → Line
line_of_freeze script a b c modes = freeze_line (set_number script a) (node_of script b) (exact_number c) (modes_of modes)

-- a line of five words or more, the fifth of which is d
abbrev pub line_of_many : ScriptData → List ℕ → List ℕ → List ℕ → List ℕ → List ℕ → List (List ℕ) → Line
line_of_many script word a b c d [] =
    if bytes_eq word (codes "freeze") then line_of_freeze script a b c (d ∷ []) else line_of_five script word a b c d
line_of_many script word a b c d later =
    if bytes_eq word (codes "freeze") then line_of_freeze script a b c (d ∷ later) else Bad

-- what a line of these words says
abbrev pub line_of : ScriptData → List (List ℕ) → Line
line_of script (word ∷ a ∷ []) = line_of_two script word a
line_of script (word ∷ a ∷ b ∷ c ∷ []) = line_of_four script word a b c
line_of script (word ∷ a ∷ b ∷ c ∷ d ∷ later) = line_of_many script word a b c d later
line_of script words = Bad

-- what the line says, which stands here without its line end
abbrev pub read_line : ScriptData → List ℕ → Line
read_line script line = line_of script (fields line)

-- what each line of the bytes says
abbrev pub journal_of : ScriptData → List ℕ → List Line
journal_of script bytes = map (read_line script) (lines bytes)
