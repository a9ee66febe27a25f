-- The whole text that is written of an input.
use Rattle.std.specs.Prelude.{ℕ, zero, suc, ◌==◌, List, [], ◌∷◌, ◌++◌, Option, Some, None, length, codes, if◌then◌else◌, flat_map, decimal}
use Rattle.lt_modes.specs.declared.mode.Mode.{Mode}
use Rattle.lt_modes.specs.Modes.{word_of, modes_in_order}
use Rattle.lt_nest.specs.Calls.{held, waiting}
use Rattle.lt_nest_lines.specs.declared.order.Order.{Order}
use Rattle.lt_nest_lines.specs.declared.reading.ReadError.{ReadError}
use Rattle.lt_nest_lines.specs.declared.reading.ReadError.TheVariants.{Memory, Refused}
use Rattle.lt_nest_lines.specs.Input.{InputData, line_count}
use Rattle.lt_nest_lines.specs.Play.{PlayState, first_play, nest_number_of, after_order, line_of_words, name_at, order_text}

-- what is written of each number below n, in order
abbrev pub each_below : ℕ → (ℕ → List ℕ) → List ℕ
each_below zero text = []
each_below (suc n) text = each_below n text ++ text n

-- the line of so many locks of transaction t, where there are some: `held T S MODE COUNT`
abbrev pub held_count_line : InputData → ℕ → ℕ → Mode → ℕ → List ℕ
held_count_line d t set mode n =
    if n == 0 then [] else line_of_words (codes "held" ∷ name_at d.transactions t ∷ name_at d.sets set ∷ word_of mode ∷ decimal n ∷ [])

-- the line of the locks of transaction t in a set of one mode
abbrev pub held_text_in_mode : InputData → PlayState → ℕ → ℕ → Mode → List ℕ
held_text_in_mode d p t set mode = held_count_line d t set mode (held p.nest (nest_number_of p t) set mode)

-- the lines of the locks of transaction t in a set, by mode
abbrev pub held_text_in_set : InputData → PlayState → ℕ → ℕ → List ℕ
held_text_in_set d p t set = flat_map (held_text_in_mode d p t set) modes_in_order

-- the lines of the locks of transaction t, by set
abbrev pub held_text_of : InputData → PlayState → ℕ → List ℕ
held_text_of d p t = each_below (length d.sets) (held_text_in_set d p t)

-- the line of what transaction t waits for, where it waits: `waiting T S MODE`
abbrev pub wish_line : InputData → ℕ → Option (ℕ × Mode) → List ℕ
wish_line d t None = []
wish_line d t (Some wish) = line_of_words (codes "waiting" ∷ name_at d.transactions t ∷ name_at d.sets wish.0 ∷ word_of wish.1 ∷ [])

-- the same for the transaction with this number in the nest
abbrev pub waiting_text_of : InputData → PlayState → ℕ → List ℕ
waiting_text_of d p t = wish_line d t (waiting p.nest (nest_number_of p t))

-- the last line: `end COUNT`
abbrev pub last_line : InputData → List ℕ
last_line d = line_of_words (codes "end" ∷ decimal (line_count d) ∷ [])

-- the closing lines: the locks, by transaction, the transactions that wait, and the number of lines
abbrev pub closing_text : InputData → PlayState → List ℕ
closing_text d p =
    (each_below (length d.transactions) (held_text_of d p) ++ each_below (length d.transactions) (waiting_text_of d p)) ++ last_line d

-- after these orders
unfoldable pub after_orders : PlayState → List Order → PlayState
after_orders p [] = p
after_orders p (order ∷ rest) = after_orders (after_order p order) rest

-- the text of these orders
unfoldable pub orders_text : InputData → PlayState → List Order → List ℕ
orders_text d p [] = []
orders_text d p (order ∷ rest) = order_text d p order ++ orders_text d (after_order p order) rest

-- nothing is declared yet
abbrev pub play_before : InputData → PlayState
play_before d = first_play (length d.sets)

-- what is written of an input
abbrev pub report_text : InputData → List ℕ
report_text d = orders_text d (play_before d) d.orders ++ closing_text d (after_orders (play_before d) d.orders)

-- the text of a reading error
abbrev pub read_error_text : ReadError → List ℕ
read_error_text Memory = codes "no memory"
read_error_text (Refused line) = codes "line " ++ decimal line
