-- The forms of lines, with their words.
use Rattle.std.specs.Prelude.{ℕ, List, [], ◌∷◌, Option, Some, None, codes, if◌then◌else◌, bytes_eq}
use Rattle.lt_nest_lines.specs.declared.form.Form.{Form}
use Rattle.lt_nest_lines.specs.declared.form.Form.TheVariants.{Set, Begin, BeginIn, Lock, Try, Commit, Abort}

-- a line by its form: words of sets, transactions and modes
pub data NestFormData : Type 0 where
  SetForm : List ℕ → NestFormData
  BeginForm : List ℕ → NestFormData
  BeginInForm : List ℕ → List ℕ → NestFormData
  LockForm : List ℕ → List ℕ → List ℕ → NestFormData
  TryForm : List ℕ → List ℕ → List ℕ → NestFormData
  CommitForm : List ℕ → NestFormData
  AbortForm : List ℕ → NestFormData

-- `set S`
abbrev pub set_line_form : List (List ℕ) → Option NestFormData
set_line_form (s ∷ []) = Some (SetForm s)
set_line_form words = None

-- `T begin`, `T commit` and `T abort`
abbrev pub short_form : List ℕ → List ℕ → Option NestFormData
short_form t verb =
    if bytes_eq verb (codes "begin") then Some (BeginForm t)
    else if bytes_eq verb (codes "commit") then Some (CommitForm t)
    else if bytes_eq verb (codes "abort") then Some (AbortForm t)
    else None

-- `T begin in P`
abbrev pub begin_in_form : List ℕ → List ℕ → List ℕ → Option NestFormData
begin_in_form t word p = if bytes_eq word (codes "in") then Some (BeginInForm t p) else None

-- this, `T lock S M` and `T try S M`
abbrev pub long_form : List ℕ → List ℕ → List ℕ → List ℕ → Option NestFormData
long_form t verb a b =
    if bytes_eq verb (codes "begin") then begin_in_form t a b
    else if bytes_eq verb (codes "lock") then Some (LockForm t a b)
    else if bytes_eq verb (codes "try") then Some (TryForm t a b)
    else None

-- a line that begins with a transaction
abbrev pub transaction_form : List ℕ → List (List ℕ) → Option NestFormData
transaction_form t (verb ∷ []) = short_form t verb
transaction_form t (verb ∷ a ∷ b ∷ []) = long_form t verb a b
transaction_form t words = None

-- the form of a line with these words: the first word decides whether it declares a set
abbrev pub form_of_words : List (List ℕ) → Option NestFormData
form_of_words [] = None
form_of_words (w ∷ ws) = if bytes_eq w (codes "set") then set_line_form ws else transaction_form w ws

-- what the code's values stand for
abbrev pub form_data : Form → NestFormData
form_data (Set set) = SetForm set.now
form_data (Begin transaction) = BeginForm transaction.now
form_data (BeginIn transaction parent) = BeginInForm transaction.now parent.now
form_data (Lock transaction set mode) = LockForm transaction.now set.now mode.now
form_data (Try transaction set mode) = TryForm transaction.now set.now mode.now
form_data (Commit transaction) = CommitForm transaction.now
form_data (Abort transaction) = AbortForm transaction.now
