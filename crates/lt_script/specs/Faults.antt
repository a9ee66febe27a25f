-- Which faults a line has after the lines before it, and what a line without fault adds.
use Rattle.std.specs.Prelude.{ℕ, Bool, true, false, ◌||◌, ◌&&◌, not, List, [], ◌∷◌, ◌++◌, length, Option, Some, None, is_none, unwrap_or, ◌==◌, nat_lt, nat_le, if◌then◌else◌}
use Rattle.std.specs.List.{list_all}
use Rattle.lt_modes.specs.declared.mode.Mode.TheVariants.{IntentionRead}
use Rattle.lt_modes.specs.declared.mode.Mode.{Mode}
use Rattle.lt_modes.specs.declared.command.Command.{Command}
use Rattle.lt_modes.specs.declared.command.Command.TheVariants as commands
use Rattle.lt_modes.specs.Modes.{mode_of}
use Rattle.lt_modes.specs.FiveModes.{is_of_version}
use Rattle.lt_modes.specs.Script.{ScriptData, family_at, home_at}
use Rattle.lt_text.specs.Text.{words}
use Rattle.lt_text.specs.Number.{number}
use Rattle.lt_script.specs.declared.fault.Fault.{Fault}
use Rattle.lt_script.specs.declared.fault.Fault.TheVariants as faults
use Rattle.lt_spec.specs.declared.limits.TheConstants.{MAX_SETS, MAX_CLIENTS_OF_NODE, MAX_COMMANDS, MAX_LINE}
use Rattle.lt_spec.specs.Script.{is_name, most_nodes, most_clients, load_of, set_number, client_number, is_declared}
use Rattle.lt_script.specs.Forms.{FormData, Version2Form, Version3Form, NodesForm, SetForm, SetWithForm, ClientForm, CommandForm, CommandWordsData, LockWords, TryWords, UnlockWords, ChangeWords, DropWords, WithdrawWords, form_in}

-- a script of this version that declares nothing but the number of its nodes
abbrev pub only_nodes : ℕ → ℕ → ScriptData
only_nodes version nodes = record { version = version; nodes = nodes; sets = []; clients = []; commands = [] }

-- what the lines so far declare, where the script has this version; there is no script before the line `nodes`
abbrev pub declared : ℕ → Option ScriptData → ScriptData
declared version None = only_nodes version 0
declared version (Some s) = s

abbrev pub is_positive : Option ℕ → Bool
is_positive (Some n) = nat_lt 0 n
is_positive None = false

abbrev pub is_below : ℕ → Option ℕ → Bool
is_below bound (Some n) = nat_lt n bound
is_below bound None = false

-- a tab, or printable ASCII
abbrev pub is_plain_byte : ℕ → Bool
is_plain_byte byte = byte == 9 || nat_le 32 byte && nat_le byte 126

-- the number word is no number in range
abbrev pub has_bad_number : Option ScriptData → FormData → Bool
has_bad_number st (NodesForm n) = not (is_positive (number n))
has_bad_number None (ClientForm c n) = is_none (number n)
has_bad_number (Some s) (ClientForm c n) = not (is_below s.nodes (number n))
has_bad_number st form = false

-- the line `nodes` is not the first one, or another line is; a line `version` here is a later one
abbrev pub has_nodes_misplaced : Option ScriptData → FormData → Bool
has_nodes_misplaced None (NodesForm n) = false
has_nodes_misplaced None form = true
has_nodes_misplaced (Some s) (NodesForm n) = true
has_nodes_misplaced (Some s) Version2Form = true
has_nodes_misplaced (Some s) Version3Form = true
has_nodes_misplaced (Some s) form = false

-- a word is declared that is no name
abbrev pub declares_no_name : FormData → Bool
declares_no_name (SetForm s) = not (is_name s)
declares_no_name (SetWithForm s t) = not (is_name s)
declares_no_name (ClientForm c n) = not (is_name c)
declares_no_name form = false

-- a name is declared that was declared before
abbrev pub declares_again : ScriptData → FormData → Bool
declares_again s (SetForm name) = is_declared s name
declares_again s (SetWithForm name t) = is_declared s name
declares_again s (ClientForm name n) = is_declared s name
declares_again s form = false

-- the command names a set or a client that wasn't declared before
abbrev pub names_unknown : ScriptData → CommandWordsData → Bool
names_unknown s (LockWords set mode) = is_none (set_number s set)
names_unknown s (TryWords set mode) = is_none (set_number s set)
names_unknown s (UnlockWords set mode) = is_none (set_number s set)
names_unknown s (ChangeWords set gives_up mode) = is_none (set_number s set)
names_unknown s (DropWords other set) = is_none (client_number s other) || is_none (set_number s set)
names_unknown s (WithdrawWords other set) = is_none (client_number s other) || is_none (set_number s set)

-- a set or a client is used that wasn't declared before
abbrev pub uses_unknown : ScriptData → FormData → Bool
uses_unknown s (SetWithForm name t) = is_none (set_number s t)
uses_unknown s (CommandForm c asked) = is_none (client_number s c) || names_unknown s asked
uses_unknown s form = false

-- there are more nodes, sets, clients or commands than a script may have
abbrev pub exceeds_limit : ScriptData → FormData → Bool
exceeds_limit s Version2Form = false
exceeds_limit s Version3Form = false
exceeds_limit s (NodesForm n) = nat_lt (most_nodes s.version) (unwrap_or (number n) 0)
exceeds_limit s (SetForm name) = nat_le MAX_SETS (length s.sets)
exceeds_limit s (SetWithForm name t) = nat_le MAX_SETS (length s.sets)
exceeds_limit s (ClientForm name n) = nat_le (most_clients s.version) (length s.clients) || nat_le MAX_CLIENTS_OF_NODE (load_of s.clients (unwrap_or (number n) 0))
exceeds_limit s (CommandForm c asked) = nat_le MAX_COMMANDS (length s.commands)

-- the mode, where it is one of this version
abbrev pub of_version : ℕ → Option Mode → Option Mode
of_version version None = None
of_version version (Some mode) = if is_of_version version mode then Some mode else None

-- the mode of this version with this word
abbrev pub mode_in : ℕ → List ℕ → Option Mode
mode_in version word = of_version version (mode_of word)

-- a word in a mode's place is no mode of this version
abbrev pub names_no_mode : ℕ → CommandWordsData → Bool
names_no_mode version (LockWords set mode) = is_none (mode_in version mode)
names_no_mode version (TryWords set mode) = is_none (mode_in version mode)
names_no_mode version (UnlockWords set mode) = is_none (mode_in version mode)
names_no_mode version (ChangeWords set gives_up mode) = is_none (mode_in version gives_up) || is_none (mode_in version mode)
names_no_mode version (DropWords other set) = false
names_no_mode version (WithdrawWords other set) = false

abbrev pub uses_no_mode : ScriptData → FormData → Bool
uses_no_mode s (CommandForm c asked) = names_no_mode s.version asked
uses_no_mode s form = false

abbrev pub home_by : ScriptData → Option ℕ → ℕ
home_by s (Some client) = home_at s.clients client
home_by s None = 0

-- the node of the client with this name
abbrev pub home_of : ScriptData → List ℕ → ℕ
home_of s name = home_by s (client_number s name)

-- locks of a client of another node are dropped, or its ask is given up
abbrev pub reaches_elsewhere : ScriptData → FormData → Bool
reaches_elsewhere s (CommandForm c (DropWords other set)) = not (home_of s other == home_of s c)
reaches_elsewhere s (CommandForm c (WithdrawWords other set)) = not (home_of s other == home_of s c)
reaches_elsewhere s form = false

-- the first fault whose test is true
abbrev pub first_true : List (Bool × Fault) → Option Fault
first_true [] = None
first_true (test ∷ tests) = if test.0 then Some test.1 else first_true tests

-- the tests of a line of this form, in the order of the faults' numbers
abbrev pub tests : ℕ → Option ScriptData → FormData → List (Bool × Fault)
tests version st form =
    (has_bad_number st form, faults.Number)
    ∷ (has_nodes_misplaced st form, faults.Nodes)
    ∷ (declares_no_name form, faults.Name)
    ∷ (declares_again (declared version st) form, faults.Repeated)
    ∷ (uses_unknown (declared version st) form, faults.Unknown)
    ∷ (exceeds_limit (declared version st) form, faults.Limit)
    ∷ (uses_no_mode (declared version st) form, faults.Mode)
    ∷ (reaches_elsewhere (declared version st) form, faults.Node)
    ∷ []

-- the first fault of a line of this form
abbrev pub form_fault : ℕ → Option ScriptData → FormData → Option Fault
form_fault version st form = first_true (tests version st form)

-- the form of the line in the script so far, which has this version, or in one of this version where there is none yet
abbrev pub line_form : ℕ → Option ScriptData → List ℕ → Option FormData
line_form version st line = form_in (declared version st).version (words line)

-- the first fault of a line that may have no form
abbrev pub fault_by_form : ℕ → Option ScriptData → Option FormData → Option Fault
fault_by_form version st None = Some faults.Form
fault_by_form version st (Some form) = form_fault version st form

-- the first fault of a line that isn't skipped
abbrev pub line_fault : ℕ → Option ScriptData → List ℕ → Option Fault
line_fault version st line =
    if not (list_all is_plain_byte line) then Some faults.Bytes
    else if nat_lt MAX_LINE (length line) then Some faults.Length
    else fault_by_form version st (line_form version st line)

-- what a line without fault adds

abbrev pub set_at : ScriptData → List ℕ → ℕ
set_at s name = unwrap_or (set_number s name) 0

abbrev pub family_by : ScriptData → Option ℕ → ℕ
family_by s (Some set) = family_at s.sets set
family_by s None = 0

-- the family of the set with this name
abbrev pub family_of : ScriptData → List ℕ → ℕ
family_of s name = family_by s (set_number s name)

abbrev pub mode_at : List ℕ → Mode
mode_at word = unwrap_or (mode_of word) IntentionRead

-- the command of these words
abbrev pub named_command : ScriptData → CommandWordsData → Command
named_command s (LockWords set mode) = commands.Lock (set_at s set) (mode_at mode)
named_command s (TryWords set mode) = commands.Try (set_at s set) (mode_at mode)
named_command s (UnlockWords set mode) = commands.Unlock (set_at s set) (mode_at mode)
named_command s (ChangeWords set gives_up mode) = commands.Change (set_at s set) (mode_at gives_up) (mode_at mode)
named_command s (DropWords other set) = commands.DropAll (unwrap_or (client_number s other) 0) (set_at s set)
named_command s (WithdrawWords other set) = commands.Withdraw (unwrap_or (client_number s other) 0) (set_at s set)

abbrev pub with_set : ScriptData → List ℕ → ℕ → ScriptData
with_set s name family = record s { sets = s.sets ++ record { name = name; family = family } ∷ [] }

abbrev pub with_client : ScriptData → List ℕ → ℕ → ScriptData
with_client s name node = record s { clients = s.clients ++ record { name = name; node = node } ∷ [] }

abbrev pub command_added : ScriptData → ℕ → Command → ScriptData
command_added s client command = record s { commands = s.commands ++ (client, command) ∷ [] }

-- the script with what a line of this form adds
abbrev pub after_form : ScriptData → FormData → ScriptData
after_form s Version2Form = s
after_form s Version3Form = s
after_form s (NodesForm n) = only_nodes s.version (unwrap_or (number n) 0)
after_form s (SetForm name) = with_set s name (length s.sets)
after_form s (SetWithForm name t) = with_set s name (family_of s t)
after_form s (ClientForm name n) = with_client s name (unwrap_or (number n) 0)
after_form s (CommandForm c asked) = command_added s (unwrap_or (client_number s c) 0) (named_command s asked)
