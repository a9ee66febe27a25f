-- What an order does to the nest, and what is written of it.
use Rattle.std.specs.Prelude.{ℕ, Bool, true, false, ◌==◌, List, [], ◌∷◌, ◌++◌, Option, Some, None, length, position, codes, slice_index_or, unwrap_or, flat_map}
use Rattle.lt_modes.specs.Modes.{word_of}
use Rattle.lt_text.specs.Text.{spaced}
use Rattle.lt_nest.specs.declared.answers.Asked.{Asked}
use Rattle.lt_nest.specs.declared.answers.Asked.TheVariants.{Granted, Waits, False, NotOpen, Busy}
use Rattle.lt_nest.specs.declared.answers.Ended.{Ended}
use Rattle.lt_nest.specs.declared.answers.Ended.TheVariants as ended
use Rattle.lt_nest.specs.Locks.{Grant}
use Rattle.lt_nest.specs.Calls.{NestState, new_nest, has_parent, after_begin, ask_answer, after_asked, commit_answer, after_commit, abort_answer, after_abort}
use Rattle.lt_nest_lines.specs.declared.play.TheConstants.{NOBODY}
use Rattle.lt_nest_lines.specs.declared.order.Order.{Order}
use Rattle.lt_nest_lines.specs.declared.order.Order.TheVariants.{Begin, BeginIn, Lock, Try, Commit, Abort}
use Rattle.lt_nest_lines.specs.Input.{InputData}

-- a nest, and the number in it of each transaction that was declared so far, where it was begun
pub record PlayState : Type 0 where
  pub nest : NestState
  pub numbers : List (Option ℕ)

-- nothing was declared
abbrev pub first_play : ℕ → PlayState
first_play sets = record { nest = new_nest sets; numbers = [] }

-- the number in the nest of the declared transaction t; one that wasn't begun has a number that no transaction of a
-- nest has
abbrev pub nest_number_of : PlayState → ℕ → ℕ
nest_number_of p t = unwrap_or (slice_index_or p.numbers t None) NOBODY

-- begun where it may be; else it counts as not open
abbrev pub after_begin_if : Bool → PlayState → Option ℕ → PlayState
after_begin_if true p parent = record { nest = after_begin p.nest parent; numbers = p.numbers ++ Some (length p.nest.transactions) ∷ [] }
after_begin_if false p parent = record p { numbers = p.numbers ++ None ∷ [] }

-- a further transaction under this parent, or under none
abbrev pub after_begin_under : PlayState → Option ℕ → PlayState
after_begin_under p parent = after_begin_if (has_parent p.nest parent) p parent

-- another nest
abbrev pub with_nest : PlayState → NestState → PlayState
with_nest p nest = record p { nest = nest }

-- after the call of the nest that the order makes
abbrev pub after_call : PlayState → Order → PlayState
after_call p Begin = after_begin_under p None
after_call p (BeginIn parent) = after_begin_under p (Some (nest_number_of p parent))
after_call p (Lock t set mode) = with_nest p (after_asked p.nest (nest_number_of p t) set mode (ask_answer Waits p.nest (nest_number_of p t) set mode))
after_call p (Try t set mode) = with_nest p (after_asked p.nest (nest_number_of p t) set mode (ask_answer False p.nest (nest_number_of p t) set mode))
after_call p (Commit t) = with_nest p (after_commit p.nest (nest_number_of p t) (commit_answer p.nest (nest_number_of p t)))
after_call p (Abort t) = with_nest p (after_abort p.nest (nest_number_of p t) (abort_answer p.nest (nest_number_of p t)))

-- with all grants taken
abbrev pub with_grants_taken : PlayState → PlayState
with_grants_taken p = record p { nest = record p.nest { grants = [] } }

-- after the order: the grants that came of it were told
abbrev pub after_order : PlayState → Order → PlayState
after_order p order = with_grants_taken (after_call p order)

-- the text

-- a line of these words
abbrev pub line_of_words : List (List ℕ) → List ℕ
line_of_words words = spaced words ++ 10 ∷ []

-- the name at this place
abbrev pub name_at : List (List ℕ) → ℕ → List ℕ
name_at names k = slice_index_or names k []

-- the transaction that wasn't declared so far comes next
abbrev pub next_name : InputData → PlayState → List ℕ
next_name d p = name_at d.transactions (length p.numbers)

-- the words of a begin
abbrev pub begin_answer_words : Bool → List ℕ → List ℕ → List (List ℕ)
begin_answer_words true t parent = codes "begin" ∷ t ∷ []
begin_answer_words false t parent = codes "not_open" ∷ parent ∷ []

-- the words of a lock that was answered so
abbrev pub lock_answer_words : Asked → List ℕ → List ℕ → List ℕ → List (List ℕ)
lock_answer_words Granted t s m = codes "grant" ∷ t ∷ s ∷ m ∷ []
lock_answer_words NotOpen t s m = codes "not_open" ∷ t ∷ []
lock_answer_words Busy t s m = codes "busy" ∷ t ∷ []
lock_answer_words other t s m = codes "wait" ∷ t ∷ s ∷ m ∷ []

-- the words of a try that was answered so
abbrev pub try_answer_words : Asked → List ℕ → List ℕ → List ℕ → List (List ℕ)
try_answer_words Granted t s m = codes "try" ∷ t ∷ s ∷ m ∷ codes "true" ∷ []
try_answer_words NotOpen t s m = codes "not_open" ∷ t ∷ []
try_answer_words Busy t s m = codes "busy" ∷ t ∷ []
try_answer_words other t s m = codes "try" ∷ t ∷ s ∷ m ∷ codes "false" ∷ []

-- the words of a commit or an abort, of which this word tells that it is done
abbrev pub end_answer_words : List ℕ → Ended → List ℕ → List (List ℕ)
end_answer_words done ended.Done t = done ∷ t ∷ []
end_answer_words done ended.NotOpen t = codes "not_open" ∷ t ∷ []
end_answer_words done ended.Busy t = codes "busy" ∷ t ∷ []
end_answer_words done ended.HasChildren t = codes "children" ∷ t ∷ []

-- the words that answer the order
abbrev pub answer_words : InputData → PlayState → Order → List (List ℕ)
answer_words d p Begin = begin_answer_words true (next_name d p) []
answer_words d p (BeginIn parent) = begin_answer_words (has_parent p.nest (Some (nest_number_of p parent))) (next_name d p) (name_at d.transactions parent)
answer_words d p (Lock t set mode) = lock_answer_words (ask_answer Waits p.nest (nest_number_of p t) set mode) (name_at d.transactions t) (name_at d.sets set) (word_of mode)
answer_words d p (Try t set mode) = try_answer_words (ask_answer False p.nest (nest_number_of p t) set mode) (name_at d.transactions t) (name_at d.sets set) (word_of mode)
answer_words d p (Commit t) = end_answer_words (codes "commit") (commit_answer p.nest (nest_number_of p t)) (name_at d.transactions t)
answer_words d p (Abort t) = end_answer_words (codes "abort") (abort_answer p.nest (nest_number_of p t)) (name_at d.transactions t)

-- it is the number x
abbrev pub is_nest_number : ℕ → Option ℕ → Bool
is_nest_number x None = false
is_nest_number x (Some y) = y == x

-- the name at this place, where there is one
abbrev pub name_of : List (List ℕ) → Option ℕ → List ℕ
name_of names None = []
name_of names (Some k) = name_at names k

-- the name of the transaction with number x in the nest
abbrev pub owner_name : InputData → List (Option ℕ) → ℕ → List ℕ
owner_name d numbers x = name_of d.transactions (position (is_nest_number x) numbers)

-- the words of a grant
abbrev pub grant_words : InputData → List (Option ℕ) → Grant → List (List ℕ)
grant_words d numbers grant = codes "grant" ∷ owner_name d numbers grant.0 ∷ name_at d.sets grant.1 ∷ word_of grant.2 ∷ []

-- the lines of these grants
abbrev pub grants_text : InputData → List (Option ℕ) → List Grant → List ℕ
grants_text d numbers grants = flat_map (λ (grant : Grant). line_of_words (grant_words d numbers grant)) grants

-- the grants that were not told yet
abbrev pub told_text : InputData → PlayState → List ℕ
told_text d p = grants_text d p.numbers p.nest.grants

-- what is written of an order: its answer, and the grants that came of it
abbrev pub order_text : InputData → PlayState → Order → List ℕ
order_text d p order = line_of_words (answer_words d p order) ++ told_text d (after_call p order)
