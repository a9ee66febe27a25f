-- The input that a text denotes, or the first line that is refused.
use Rattle.std.specs.Prelude.{◌≡◌, ◌≤◌, ◌<◌, ℕ, ◌+◌, Bool, true, false, not, ◌||◌, ◌&&◌, nat_lt, is_some, IsSomeAnd, List, [], ◌∷◌, ◌++◌, All, Option, Some, None, Result, Ok, Err, length, position, codes, if◌then◌else◌, bytes_eq}
use Rattle.lt_modes.specs.declared.mode.Mode.{Mode}
use Rattle.lt_modes.specs.Modes.{mode_of}
use Rattle.lt_text.specs.Text.{lines, words}
use Rattle.lt_spec.specs.Script.{is_name}
use Rattle.lt_script.specs.Reading.{says_nothing}
use Rattle.lt_nest_lines.specs.declared.limits.TheConstants.{MAX_SETS, MAX_TRANSACTIONS, MAX_LINES}
use Rattle.lt_nest_lines.specs.declared.order.Order.{Order}
use Rattle.lt_nest_lines.specs.declared.order.Order.TheVariants.{Begin, BeginIn, Lock, Try, Commit, Abort}
use Rattle.lt_nest_lines.specs.declared.reading.ReadError.{ReadError}
use Rattle.lt_nest_lines.specs.declared.reading.ReadError.TheVariants as errors
use Rattle.lt_nest_lines.specs.Forms.{NestFormData, SetForm, BeginForm, BeginInForm, LockForm, TryForm, CommitForm, AbortForm, form_of_words}

-- the sets and transactions that lines declare, in order, and what the other lines order
pub record InputData : Type 0 where
  pub sets : List (List ℕ)
  pub transactions : List (List ℕ)
  pub orders : List Order

-- no line
abbrev pub no_input : InputData
no_input = record { sets = []; transactions = []; orders = [] }

-- how many lines there are
abbrev pub line_count : InputData → ℕ
line_count d = length d.sets + length d.orders

-- the name is this word
abbrev pub is_word : List ℕ → List ℕ → Bool
is_word word name = bytes_eq name word

-- the place of the word among the names
abbrev pub place_of : List (List ℕ) → List ℕ → Option ℕ
place_of names word = position (is_word word) names

-- a set or a transaction has this name
abbrev pub has_declared : InputData → List ℕ → Bool
has_declared d word = is_some (place_of d.sets word) || is_some (place_of d.transactions word)

-- the word may be declared: it is a name other than `begin`, and wasn't declared before
abbrev pub is_new : InputData → List ℕ → Bool
is_new d word = is_name word && not (bytes_eq word (codes "begin")) && not (has_declared d word)

-- with a further set
abbrev pub with_declared_set : InputData → List ℕ → InputData
with_declared_set d name = record d { sets = d.sets ++ name ∷ [] }

-- with a further order
abbrev pub with_order : InputData → Order → InputData
with_order d order = record d { orders = d.orders ++ order ∷ [] }

-- with a further transaction, and the order that begins it
abbrev pub with_declared_transaction : InputData → List ℕ → Order → InputData
with_declared_transaction d name order =
    record d { transactions = d.transactions ++ name ∷ []; orders = d.orders ++ order ∷ [] }

-- a line that declares a set
abbrev pub set_line : InputData → List ℕ → Option InputData
set_line d s = if is_new d s && nat_lt (length d.sets) MAX_SETS then Some (with_declared_set d s) else None

-- a line that declares a transaction, with the order that begins it, where that is one
abbrev pub begin_line : InputData → List ℕ → Option Order → Option InputData
begin_line d t None = None
begin_line d t (Some order) =
    if is_new d t && nat_lt (length d.transactions) MAX_TRANSACTIONS then Some (with_declared_transaction d t order) else None

-- any other line, with its order, where that is one
abbrev pub order_line : InputData → Option Order → Option InputData
order_line d None = None
order_line d (Some order) = Some (with_order d order)

-- the order to begin under the transaction with this number
abbrev pub begin_in : Option ℕ → Option Order
begin_in None = None
begin_in (Some parent) = Some (BeginIn parent)

-- the order to commit it
abbrev pub commit_order : Option ℕ → Option Order
commit_order None = None
commit_order (Some t) = Some (Commit t)

-- the order to abort it
abbrev pub abort_order : Option ℕ → Option Order
abort_order None = None
abort_order (Some t) = Some (Abort t)

-- the order to lock, of a transaction, a set and a mode
abbrev pub lock_order : Option ℕ → Option ℕ → Option Mode → Option Order
lock_order (Some t) (Some set) (Some mode) = Some (Lock t set mode)
lock_order t set mode = None

-- the order to try
abbrev pub try_order : Option ℕ → Option ℕ → Option Mode → Option Order
try_order (Some t) (Some set) (Some mode) = Some (Try t set mode)
try_order t set mode = None

-- the input after a line of this form; none where the line is refused
abbrev pub input_after_form : InputData → NestFormData → Option InputData
input_after_form d (SetForm s) = set_line d s
input_after_form d (BeginForm t) = begin_line d t (Some Begin)
input_after_form d (BeginInForm t p) = begin_line d t (begin_in (place_of d.transactions p))
input_after_form d (LockForm t s m) = order_line d (lock_order (place_of d.transactions t) (place_of d.sets s) (mode_of m))
input_after_form d (TryForm t s m) = order_line d (try_order (place_of d.transactions t) (place_of d.sets s) (mode_of m))
input_after_form d (CommitForm t) = order_line d (commit_order (place_of d.transactions t))
input_after_form d (AbortForm t) = order_line d (abort_order (place_of d.transactions t))

-- a line that has no form is refused, and so is one too many
abbrev pub input_after_words : InputData → Option NestFormData → Option InputData
input_after_words d None = None
input_after_words d (Some form) = if nat_lt (line_count d) MAX_LINES then input_after_form d form else None

-- the input after a line; none where it is refused
unfoldable pub input_after_line : InputData → List ℕ → Option InputData
input_after_line d line = if says_nothing (words line) then Some d else input_after_words d (form_of_words (words line))

-- what the rest makes of the input after the line with this number, or that number where it is refused
abbrev pub read_further : ℕ → (InputData → Result InputData ℕ) → Option InputData → Result InputData ℕ
read_further k rest (Some d) = rest d
read_further k rest None = Err k

-- the input after these lines, the first of which has this number
unfoldable pub read_lines_from : List (List ℕ) → ℕ → InputData → Result InputData ℕ
read_lines_from [] k d = Ok d
read_lines_from (line ∷ rest) k d = read_further k (read_lines_from rest (k + 1)) (input_after_line d line)

-- the input that the bytes denote, or the number of the first line that is refused
abbrev pub input_of : List ℕ → Result InputData ℕ
input_of bytes = read_lines_from (lines bytes) 1 no_input

-- what reading a line gives: that it is refused, or the input after it
abbrev pub AddsLine : Bool → InputData → Option InputData → Type 0
AddsLine true now step = step ≡ Some now
AddsLine false now step = step ≡ None

-- what reading gives but for want of memory
abbrev pub ReadsInput : Result InputData ReadError → Result InputData ℕ → Type 0
ReadsInput (Ok d) found = found ≡ Ok d
ReadsInput (Err (errors.Refused line)) found = found ≡ Err line
ReadsInput (Err errors.Memory) found = Unit {0}

-- these lines begin with good ones, one of which isn't skipped
pub record BeginsWell (all : List (List ℕ)) : Type 0 where
  pub first : List (List ℕ)
  pub later : List (List ℕ)
  pub read : InputData
  pub parts : all ≡ first ++ later
  pub good : read_lines_from first 1 no_input ≡ Ok read
  pub some : 0 < line_count read

-- the line is good, and isn't skipped
abbrev pub IsAdded : Option InputData → Type 0
IsAdded step = IsSomeAnd step (λ next. 0 < line_count next)

-- the order asks for a lock in one of so many sets, or for none
abbrev pub AsksWithin : ℕ → Order → Type 0
AsksWithin sets (Lock t set mode) = set < sets
AsksWithin sets (Try t set mode) = set < sets
AsksWithin sets other = Unit {0}

-- the data is an input: it keeps the limits, and its locks are asked for in declared sets
pub record IsInput (d : InputData) : Type 0 where
  pub few_sets : length d.sets ≤ MAX_SETS
  pub few_transactions : length d.transactions ≤ MAX_TRANSACTIONS
  pub few_lines : line_count d ≤ MAX_LINES
  pub within : All (AsksWithin (length d.sets)) d.orders
