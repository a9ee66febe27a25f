-- The script that a text denotes, or its first fault.
use Rattle.std.specs.Prelude.{◌≡◌, ℕ, ◌+◌, Bool, true, false, not, nat_lt, length, List, [], ◌∷◌, Option, Some, None, ◌==◌, slice_index, Result, Ok, Err, if◌then◌else◌, ◌<◌, ◌↔◌, ◌⊎◌, ◌++◌, is_none, codes, map, IsTrue, IsFalse, Contains}
use Rattle.std.specs.List.{list_all}
use Rattle.lt_modes.specs.Script.{ScriptData}
use Rattle.lt_spec.specs.declared.limits.TheConstants.{MAX_LINE, MAX_NODES, MAX_NODES_OF_FIRST, MAX_SETS, MAX_CLIENTS, MAX_CLIENTS_OF_FIRST, MAX_CLIENTS_OF_SECOND, MAX_CLIENTS_OF_NODE, MAX_COMMANDS, MAX_NAME}
use Rattle.lt_spec.specs.Script.{is_reserved}
use Rattle.lt_text.specs.Text.{lines, words}
use Rattle.lt_script.specs.declared.fault.Fault.{Fault}
use Rattle.lt_script.specs.declared.fault.Fault.TheVariants as faults
use Rattle.lt_script.specs.declared.fault.ScriptFault.{ScriptFault}
use Rattle.lt_script.specs.declared.fault.ReadError.{ReadError}
use Rattle.lt_script.specs.declared.fault.ReadError.TheVariants as errors
use Rattle.lt_script.specs.Forms.{FormData, Version2Form, Version3Form, form_of, form_in, NodesForm, SetForm, SetWithForm, ClientForm, CommandForm, LockWords, TryWords, UnlockWords, ChangeWords, DropWords, WithdrawWords}
use Rattle.lt_script.specs.Faults.{declared, line_form, line_fault, after_form, is_plain_byte, has_bad_number, has_nodes_misplaced, declares_no_name, declares_again, uses_unknown, exceeds_limit, uses_no_mode, reaches_elsewhere}
use Rattle.lt_script.specs.Fault.{number_of}

-- a line with no word says nothing, and so does a comment, whose first word begins with `#`
abbrev pub says_nothing : List (List ℕ) → Bool
says_nothing [] = true
says_nothing (word ∷ rest) = slice_index word 0 == 35

abbrev pub is_skipped : List ℕ → Bool
is_skipped line = says_nothing (words line)

-- the script after a line of this form
abbrev pub script_after : ℕ → Option ScriptData → Option FormData → Option ScriptData
script_after version st (Some form) = Some (after_form (declared version st) form)
script_after version st None = st

-- what is so if there is no fault
abbrev pub unless : Option Fault → Option ScriptData → Result (Option ScriptData) Fault
unless (Some fault) st = Err fault
unless None st = Ok st

-- the script after a line, or the line's first fault
unfoldable pub line_step : ℕ → Option ScriptData → List ℕ → Result (Option ScriptData) Fault
line_step version st line = if is_skipped line then Ok st else unless (line_fault version st line) (script_after version st (line_form version st line))

-- what the rest makes of the script after a line with this number, or the line's fault
abbrev pub go_on : ℕ → (Option ScriptData → Result ScriptData ScriptFault) → Result (Option ScriptData) Fault → Result ScriptData ScriptFault
go_on k rest (Ok st) = rest st
go_on k rest (Err fault) = Err (record { line = k; fault = fault })

-- the script at the end; without a line `nodes` the fault is that of one more line
abbrev pub at_end : ℕ → Option ScriptData → Result ScriptData ScriptFault
at_end k (Some s) = Ok s
at_end k None = Err (record { line = k; fault = faults.Nodes })

-- the script of this version after these lines, the first of which has this number
unfoldable pub read_from : ℕ → List (List ℕ) → ℕ → Option ScriptData → Result ScriptData ScriptFault
read_from version [] k st = at_end k st
read_from version (line ∷ rest) k st = go_on k (read_from version rest (k + 1)) (line_step version st line)

-- the version that a line of this form says, and 1 where it says none
abbrev pub version_by_form : Option FormData → ℕ
version_by_form (Some Version2Form) = 2
version_by_form (Some Version3Form) = 3
version_by_form form = 1

-- 2 if the line is `version 2`, 3 if it is `version 3`, each if it is not too long; else 1
abbrev pub version_said : List ℕ → ℕ
version_said line = if nat_lt MAX_LINE (length line) then 1 else version_by_form (form_of (words line))

-- lines of a script of this version, the first of which has this number
pub record ScriptBody : Type 0 where
  pub version : ℕ
  pub first : ℕ
  pub lines : List (List ℕ)

-- the lines behind the line `version 2` or `version 3`, where it is the first one that isn't skipped, and that version; else
-- all lines from the first one that isn't skipped, and version 1
unfoldable pub script_body : List (List ℕ) → ℕ → ScriptBody
script_body [] k = record { version = 1; first = k; lines = [] }
script_body (line ∷ rest) k =
    if is_skipped line then script_body rest (k + 1)
    else if version_said line == 1 then record { version = 1; first = k; lines = line ∷ rest }
    else record { version = version_said line; first = k + 1; lines = rest }

abbrev pub read_body : ScriptBody → Result ScriptData ScriptFault
read_body body = read_from body.version body.lines body.first None

-- the script that the bytes denote, or the first fault
abbrev pub read_of : List ℕ → Result ScriptData ScriptFault
read_of bytes = read_body (script_body (lines bytes) 1)

-- what reading a line gives: its fault, or the script after it
abbrev pub ReadsLine : Option Fault → Option ScriptData → Result (Option ScriptData) Fault → Type 0
ReadsLine (Some fault) st step = step ≡ Err fault
ReadsLine None st step = step ≡ Ok st

-- what reading gives but for want of memory: the script, or the first fault
abbrev pub Reads : Result ScriptData ReadError → Result ScriptData ScriptFault → Type 0
Reads (Ok s) found = found ≡ Ok s
Reads (Err (errors.Fault first)) found = found ≡ Err first
Reads (Err errors.Memory) found = Unit {0}

-- The faults of a line, each by a test of its own, and which of them is told; and what the literals are.

-- the line has a form that passes the test
abbrev pub has_form : (FormData → Bool) → Option FormData → Bool
has_form test None = false
has_form test (Some form) = test form

-- the line, which has this form or none, has the fault, whatever other faults it has
abbrev pub has_fault_by : ℕ → Option ScriptData → List ℕ → Option FormData → Fault → Bool
has_fault_by version st line form faults.Bytes = not (list_all is_plain_byte line)
has_fault_by version st line form faults.Length = nat_lt MAX_LINE (length line)
has_fault_by version st line form faults.Form = is_none form
has_fault_by version st line form faults.Number = has_form (has_bad_number st) form
has_fault_by version st line form faults.Nodes = has_form (has_nodes_misplaced st) form
has_fault_by version st line form faults.Name = has_form declares_no_name form
has_fault_by version st line form faults.Repeated = has_form (declares_again (declared version st)) form
has_fault_by version st line form faults.Unknown = has_form (uses_unknown (declared version st)) form
has_fault_by version st line form faults.Limit = has_form (exceeds_limit (declared version st)) form
has_fault_by version st line form faults.Mode = has_form (uses_no_mode (declared version st)) form
has_fault_by version st line form faults.Node = has_form (reaches_elsewhere (declared version st)) form

-- the line has the fault after the lines before it, in a script of this version
abbrev pub has_fault : ℕ → Option ScriptData → List ℕ → Fault → Bool
has_fault version st line fault = has_fault_by version st line (line_form version st line) fault

-- the fault is the one with the least number among those that hold; none where none holds
abbrev pub IsLeastFault : (Fault → Bool) → Option Fault → Type 0
IsLeastFault holds None = (fault : Fault) → IsFalse (holds fault)
IsLeastFault holds (Some told) = IsTrue (holds told) × ((fault : Fault) → number_of fault < number_of told → IsFalse (holds fault))

-- of the faults of a line the one with the least number is told
abbrev pub LeastIsTold : Type 0
LeastIsTold = (version : ℕ) (st : Option ScriptData) (line : List ℕ) → IsLeastFault (has_fault version st line) (line_fault version st line)

-- the limits of a script
pub record LimitsAre : Type 0 where
  pub nodes : MAX_NODES ≡ 64
  pub nodes_of_first : MAX_NODES_OF_FIRST ≡ 16
  pub sets : MAX_SETS ≡ 8
  pub clients : MAX_CLIENTS ≡ 1024
  pub clients_of_first : MAX_CLIENTS_OF_FIRST ≡ 64
  pub clients_of_second : MAX_CLIENTS_OF_SECOND ≡ 256
  pub clients_of_node : MAX_CLIENTS_OF_NODE ≡ 16
  pub commands : MAX_COMMANDS ≡ 4096
  pub name : MAX_NAME ≡ 32
  pub line : MAX_LINE ≡ 200

-- the words that are no names
abbrev pub reserved : List (List ℕ)
reserved = codes "nodes" ∷ codes "set" ∷ codes "client" ∷ codes "journal" ∷ codes "version" ∷ []

abbrev pub ReservedAre : Type 0
ReservedAre = (word : List ℕ) → IsTrue (is_reserved word) ↔ Contains reserved word

-- the faults' numbers
abbrev pub NumbersAre : Type 0
NumbersAre =
    map number_of (faults.Bytes ∷ faults.Length ∷ faults.Form ∷ faults.Number ∷ faults.Nodes ∷ faults.Name ∷ faults.Repeated ∷ faults.Unknown ∷ faults.Limit ∷ faults.Mode ∷ faults.Node ∷ [])
    ≡ (1 ∷ 2 ∷ 3 ∷ 4 ∷ 5 ∷ 6 ∷ 7 ∷ 8 ∷ 9 ∷ 10 ∷ 11 ∷ [])

-- the words of the forms, in a script of this version
pub record FormsAre (v : ℕ) : Type 0 where
  pub version : form_in v (codes "version" ∷ codes "2" ∷ []) ≡ Some Version2Form
  pub nodes : (n : List ℕ) → form_in v (codes "nodes" ∷ n ∷ []) ≡ Some (NodesForm n)
  pub set : (s : List ℕ) → form_in v (codes "set" ∷ s ∷ []) ≡ Some (SetForm s)
  pub set_with : (s t : List ℕ) → form_in v (codes "set" ∷ s ∷ codes "with" ∷ t ∷ []) ≡ Some (SetWithForm s t)
  pub client : (c n : List ℕ) → form_in v (codes "client" ∷ c ∷ codes "at" ∷ n ∷ []) ≡ Some (ClientForm c n)
  pub lock : (s m : List ℕ) → form_in v (codes "c" ∷ codes "lock" ∷ s ∷ m ∷ []) ≡ Some (CommandForm (codes "c") (LockWords s m))
  pub try : (s m : List ℕ) → form_in v (codes "c" ∷ codes "try" ∷ s ∷ m ∷ []) ≡ Some (CommandForm (codes "c") (TryWords s m))
  pub unlock : (s m : List ℕ) → form_in v (codes "c" ∷ codes "unlock" ∷ s ∷ m ∷ []) ≡ Some (CommandForm (codes "c") (UnlockWords s m))
  pub change : (s g m : List ℕ) → form_in v (codes "c" ∷ codes "change" ∷ s ∷ g ∷ m ∷ []) ≡ Some (CommandForm (codes "c") (ChangeWords s g m))
  pub drop : (d s : List ℕ) → form_in v (codes "c" ∷ codes "drop" ∷ d ∷ s ∷ []) ≡ Some (CommandForm (codes "c") (DropWords d s))

-- the words of the forms that are of version 3 alone
pub record LaterFormsAre : Type 0 where
  pub version : form_in 3 (codes "version" ∷ codes "3" ∷ []) ≡ Some Version3Form
  pub withdraw : (d s : List ℕ) → form_in 3 (codes "c" ∷ codes "withdraw" ∷ d ∷ s ∷ []) ≡ Some (CommandForm (codes "c") (WithdrawWords d s))
  pub no_version : (v : ℕ) → v < 3 → form_in v (codes "version" ∷ codes "3" ∷ []) ≡ None
  pub no_withdraw : (v : ℕ) (d s : List ℕ) → v < 3 → form_in v (codes "c" ∷ codes "withdraw" ∷ d ∷ s ∷ []) ≡ None

-- lines without a fault, each after those before it, with the script before them and the script after them
abbrev pub AreRead : ℕ → Option ScriptData → List (List ℕ) → Option ScriptData → Type 0
AreRead version st [] last = st ≡ last
AreRead version st (line ∷ rest) last = (next : Option ScriptData) × (line_step version st line ≡ Ok next) × AreRead version next rest last

-- among lines, the first of which has this number and comes after this script, the first with a fault is the told one,
-- and its least fault is told
pub record IsFirstFault (version number : ℕ) (st : Option ScriptData) (all : List (List ℕ)) (told : ScriptFault) : Type 0 where
  pub before : List (List ℕ)
  pub line : List ℕ
  pub after : List (List ℕ)
  pub so_far : Option ScriptData
  pub stands : all ≡ before ++ line ∷ after
  pub counted : told.line ≡ number + length before
  pub read : AreRead version st before so_far
  pub judged : is_skipped line ≡ false
  pub least : IsLeastFault (has_fault version so_far line) (Some told.fault)

-- no line has a fault, and none is the line `nodes`: told of one more line
pub record LacksNodes (version number : ℕ) (st : Option ScriptData) (all : List (List ℕ)) (told : ScriptFault) : Type 0 where
  pub read : AreRead version st all None
  pub counted : told.line ≡ number + length all
  pub fault : told.fault ≡ faults.Nodes

-- the first fault of these lines is told, or that the line `nodes` is not among them
abbrev pub IsToldOf : ScriptBody → ScriptFault → Type 0
IsToldOf body told = IsFirstFault body.version body.first None body.lines told ⊎ LacksNodes body.version body.first None body.lines told

-- what is told of a text is its first line with a fault, and the least fault of that line; a first line `version 2` or `version 3`
-- has none
abbrev pub FirstIsTold : Type 0
FirstIsTold = (bytes : List ℕ) (told : ScriptFault) → read_of bytes ≡ Err told → IsToldOf (script_body (lines bytes) 1) told
