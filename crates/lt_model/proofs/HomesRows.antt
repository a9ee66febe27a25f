-- How many locks rows have, and how many lines add.
use Rattle.std.proofs.Common.{◌≡◌, ℕ, ◌+◌, ◌<◌, ◌≤◌, List, [], ◌∷◌, length, Option, Some, None, Bool, true, false, refl, arith, set as set_at, ◌++◌, ◌∙◌, ◌==◌, if◌then◌else◌, filter, remove, sum_by, slice_index_or, All, position}
use Rattle.std.proofs.lemmas.List.Quantifiers.{position-Some}
use Rattle.std.proofs.lemmas.List.Sums.{sum_by-append, sum_by-cons, sum_by_push, sum_by-set, sum_by-remove}
use Rattle.std.specs.List.{AllByRecursion}
use Rattle.std.proofs.lemmas.List.Elements.{All-push, All-set}
use Rattle.lt_modes.specs.declared.mode.Mode.{Mode}
use Rattle.lt_modes.specs.declared.ask.Ask.{Ask}
use Rattle.lt_modes.specs.declared.parts.Row.{Row}
use Rattle.lt_modes.specs.Modes.{is_row_of, row_place, no_row, one_more, one_less, add_at, add_lock, take_at, take_lock, locks_in}
use Rattle.lt_modes.specs.State.{SetState, Body, AskBody, TellBody, CopyBody, TokenBody, FreezeBody, Letter, Parked, ParkedAsk, ParkedTell, Made, Post, then_do, has_stamp, without, without_at}
use Rattle.lt_modes.specs.Serving.{queue_of, give_up, answer_by, answer_event, answered}
use Rattle.lt_modes.specs.declared.stamp.Stamp.{Stamp}
use Rattle.lt_modes.specs.declared.event.Event.{Event}
use Rattle.lt_modes.specs.Script.{ScriptData}
use Rattle.lt_modes.specs.SetMove.{given}
use Rattle.lt_lists.proofs.AllLemmas.{all_front, all_back, remove_all, all_append}
use Rattle.lt_spec.specs.NodeMove.{home}
use Rattle.lt_model.specs.Homes.{adds, added_by, IsRowAtHome, IsAskOf, IsBodyAtHome, IsStateAtHome, IsLineWithin}
use Rattle.lt_model.proofs.TryEffects.{Between}

-- whether an ask is parked
abbrev pub asks_parked : Parked → ℕ
asks_parked (ParkedAsk ask) = 1
asks_parked (ParkedTell tell) = 0

-- the asks that are parked, or in the queue of the desk
abbrev pub asks_in : SetState → ℕ
asks_in t = sum_by asks_parked t.parked + length (queue_of t)

-- the asks in a letter
abbrev pub asks_said : Body → ℕ
asks_said (AskBody ask marked) = 1
asks_said (TellBody tell) = 0
asks_said (CopyBody ask) = 1
asks_said (TokenBody desk) = length desk.queue
asks_said (FreezeBody number modes) = 0

abbrev pub asks_carried : Letter → ℕ
asks_carried letter = asks_said letter.body

abbrev pub asks_sent : List Post → ℕ
asks_sent posts = sum_by (λ (post : Post). asks_carried post.letter) posts

-- each line that adds a lock takes an ask away, but for this many; and each new lock has its line
pub record Counted (more : ℕ) (t : SetState) (m : Made) : Type 0 where
  pub asks : added_by m.events + (asks_in m.state + asks_sent m.posts) ≤ asks_in t + more
  pub locks : locks_in m.state.held ≤ locks_in t.held + added_by m.events

abbrev pub counted : ℕ → Between
counted more t m = Counted more t m

pub joined_count : (more : ℕ) (t : SetState) (m : Made) (rule : SetState → Made) → Counted more t m → Counted 0 m.state (rule m.state)
    → Counted more t (then_do m rule)
joined_count more t m rule first second =
    let n = rule m.state in
    let lines = sum_by-append adds m.events n.events in
    let letters = sum_by-append (λ (post : Post). asks_carried post.letter) m.posts n.posts in
    record {
      asks = omega (arith, lines, letters, first.asks, second.asks);
      locks = omega (arith, lines, first.locks, second.locks);
    }

pub more_locks : (client : ℕ) (mode : Mode) (rows : List Row) → locks_in (add_lock rows client mode) ≤ locks_in rows + 1
more_locks client mode rows = by_place (row_place rows client mode) refl
  where
    by_place : (o : Option ℕ) → row_place rows client mode ≡ o → locks_in (add_at rows client mode o) ≤ locks_in rows + 1
    by_place None e = omega (arith, sum_by_push (λ (row : Row). row.count) rows (record { client = client; mode = mode; count = 1 }))
    by_place (Some k) e =
        omega (
          arith,
          sum_by-set (λ (row : Row). row.count) rows k (one_more (slice_index_or rows k no_row)) no_row
              (position-Some (is_row_of client mode) rows k no_row e).0,
        )

pub less_locks : (client : ℕ) (mode : Mode) (rows : List Row) → locks_in (take_lock rows client mode) ≤ locks_in rows
less_locks client mode rows = by_place (row_place rows client mode) refl
  where
    by_count : (k : ℕ) → k < length rows → (last : Bool)
        → locks_in (if last then remove rows k else set_at rows k (one_less (slice_index_or rows k no_row))) ≤ locks_in rows
    by_count k within true = omega (arith, sum_by-remove (λ (row : Row). row.count) rows k no_row within)
    by_count k within false =
        omega (arith, sum_by-set (λ (row : Row). row.count) rows k (one_less (slice_index_or rows k no_row)) no_row within)

    by_place : (o : Option ℕ) → row_place rows client mode ≡ o → locks_in (take_at rows o) ≤ locks_in rows
    by_place None e = omega arith
    by_place (Some k) e =
        by_count k (position-Some (is_row_of client mode) rows k no_row e).0 ((slice_index_or rows k no_row).count == 1)

pub give_up_locks : (client : ℕ) (gives_up : Option Mode) (rows : List Row) → locks_in (give_up rows client gives_up) ≤ locks_in rows
give_up_locks client None rows = omega arith
give_up_locks client (Some mode) rows = less_locks client mode rows

pub some_locks : (test : Row → Bool) (rows : List Row) → locks_in (filter test rows) ≤ locks_in rows
some_locks test [] = omega arith
some_locks test (row ∷ rest) = by_test (test row) (some_locks test rest)
  where
    by_test : (kept : Bool) → locks_in (filter test rest) ≤ locks_in rest
        → locks_in (if kept then row ∷ filter test rest else filter test rest) ≤ locks_in (row ∷ rest)
    by_test true h =
        omega (arith, h, sum_by-cons (λ (r : Row). r.count) row (filter test rest), sum_by-cons (λ (r : Row). r.count) row rest)
    by_test false h = omega (arith, h, sum_by-cons (λ (r : Row). r.count) row rest)

pub given_locks : (client : ℕ) (mode : Mode) (gives_up : Option Mode) (rows : List Row)
    → locks_in (add_lock (give_up rows client gives_up) client mode) ≤ locks_in rows + 1
given_locks client mode gives_up rows =
    omega (arith, more_locks client mode (give_up rows client gives_up), give_up_locks client gives_up rows)

pub answer_adds : (set : ℕ) (ask : Ask) → added_by (answer_event set ask ∷ []) ≡ 1
answer_adds set ask = by_choice ask.gives_up
  where
    by_choice : (gives_up : Option Mode) → added_by (answer_by set ask gives_up ∷ []) ≡ 1
    by_choice None = refl
    by_choice (Some mode) = refl

-- Whose rows a rule leaves, and what it says of clients and sets of the script.

-- the letter goes to a node of the script, and its number isn't above the bound
abbrev pub IsBodyWithin : ℕ → Body → Type 0
IsBodyWithin bound (AskBody ask marked) = Unit {0}
IsBodyWithin bound (TellBody tell) = Unit {0}
IsBodyWithin bound (CopyBody ask) = Unit {0}
IsBodyWithin bound (TokenBody desk) = desk.epoch ≤ bound
IsBodyWithin bound (FreezeBody number modes) = number ≤ bound

abbrev pub IsPostWithin : ScriptData → ℕ → Post → Type 0
IsPostWithin script bound post = (post.to < script.nodes) × IsBodyWithin bound post.letter.body

-- the letters are at home, and with letters within the bound the lines are so too
pub record AreAtHome (script : ScriptData) (bound : ℕ) (posts : List Post) (events : List Event) : Type 0 where
  pub bodies : AllByRecursion (λ (post : Post). IsBodyAtHome script post.to post.letter.body) posts
  pub lines : AllByRecursion (IsPostWithin script bound) posts → AllByRecursion (IsLineWithin script bound) events

pub record MadeAtHome (script : ScriptData) (bound q : ℕ) (m : Made) : Type 0 where
  pub state : IsStateAtHome script q m.state
  pub said : AreAtHome script bound m.posts m.events

abbrev pub at_home : ScriptData → ℕ → ℕ → Between
at_home script bound q t m = IsStateAtHome script q t → MadeAtHome script bound q m

pub said_both : (script : ScriptData) (bound : ℕ) (posts more : List Post) (lines later : List Event) → AreAtHome script bound posts lines
    → AreAtHome script bound more later → AreAtHome script bound (posts ++ more) (lines ++ later)
said_both script bound posts more lines later first second = record {
  bodies = all_append _ posts more first.bodies second.bodies;
  lines = λ within. all_append _ lines later (first.lines (all_front _ posts more within)) (second.lines (all_back _ posts more within));
}

pub said_nothing : (script : ScriptData) (bound : ℕ) → AreAtHome script bound [] []
said_nothing script bound = record { bodies = tt; lines = λ within. tt }

pub said_line : (script : ScriptData) (bound : ℕ) (line : Event) → IsLineWithin script bound line → AreAtHome script bound [] (line ∷ [])
said_line script bound line h = record { bodies = tt; lines = λ within. (h, tt) }

pub joined_home : (script : ScriptData) (bound q : ℕ) (t : SetState) (m : Made) (rule : SetState → Made) → at_home script bound q t m
    → at_home script bound q m.state (rule m.state) → at_home script bound q t (then_do m rule)
joined_home script bound q t m rule first second h =
    let one = first h in
    let two = second one.state in
    record { state = two.state; said = said_both script bound m.posts (rule m.state).posts m.events (rule m.state).events one.said two.said }

pub more_home : (script : ScriptData) (q client : ℕ) (mode : Mode) (rows : List Row) → client < length script.clients → home script client ≡ q
    → All (IsRowAtHome script q) rows → All (IsRowAtHome script q) (add_lock rows client mode)
more_home script q client mode rows known own h = by_place (row_place rows client mode) refl
  where
    by_place : (o : Option ℕ) → row_place rows client mode ≡ o → All (IsRowAtHome script q) (add_at rows client mode o)
    by_place None e =
        All-push (IsRowAtHome script q) rows (record { client = client; mode = mode; count = 1 }) h (record { client = known; home = own; count = omega arith })
    by_place (Some k) e =
        let within = (position-Some (is_row_of client mode) rows k no_row e).0 in
        let old = h k no_row within in
        All-set (IsRowAtHome script q) rows k (one_more (slice_index_or rows k no_row)) (record { client = old.client; home = old.home; count = omega arith }) h

pub less_home : (script : ScriptData) (q client : ℕ) (mode : Mode) (rows : List Row) → All (IsRowAtHome script q) rows
    → All (IsRowAtHome script q) (take_lock rows client mode)
less_home script q client mode rows h = by_place (row_place rows client mode) refl
  where
    by_count : (k : ℕ) → k < length rows → (last : Bool) → ((slice_index_or rows k no_row).count == 1) ≡ last
        → All (IsRowAtHome script q) (if last then remove rows k else set_at rows k (one_less (slice_index_or rows k no_row)))
    by_count k within true e = remove_all (IsRowAtHome script q) rows k h
    by_count k within false e =
        let old = h k no_row within in
        All-set (IsRowAtHome script q) rows k (one_less (slice_index_or rows k no_row))
        (record { client = old.client; home = old.home; count = grind (arith, old.count, e) }) h

    by_place : (o : Option ℕ) → row_place rows client mode ≡ o → All (IsRowAtHome script q) (take_at rows o)
    by_place None e = h
    by_place (Some k) e =
        by_count k (position-Some (is_row_of client mode) rows k no_row e).0 ((slice_index_or rows k no_row).count == 1) refl

pub give_up_home : (script : ScriptData) (q client : ℕ) (gives_up : Option Mode) (rows : List Row) → All (IsRowAtHome script q) rows
    → All (IsRowAtHome script q) (give_up rows client gives_up)
give_up_home script q client None rows h = h
give_up_home script q client (Some mode) rows h = less_home script q client mode rows h

-- the rows once an ask of the node is granted
pub answered_home : (script : ScriptData) (q : ℕ) (ask : Ask) (rows : List Row) → IsAskOf script q ask → All (IsRowAtHome script q) rows
    → All (IsRowAtHome script q) (answered rows ask)
answered_home script q ask rows own h =
    more_home script q ask.client ask.mode (give_up rows ask.client ask.gives_up) own.0.client (own.0.home ∙ own.1)
    (give_up_home script q ask.client ask.gives_up rows h)

pub given_home : (script : ScriptData) (q client : ℕ) (mode : Mode) (gives_up : Option Mode) (t : SetState) → client < length script.clients
    → home script client ≡ q → IsStateAtHome script q t → IsStateAtHome script q (given client mode gives_up t)
given_home script q client mode gives_up t known own h = record {
  rows = more_home script q client mode (give_up t.held client gives_up) known own (give_up_home script q client gives_up t.held h.rows);
  pending = h.pending;
  parked = h.parked;
  queue = h.queue;
}

pub without_home : (P : Ask → Type 0) (asks : List Ask) (stamp : Stamp) → All P asks → All P (without asks stamp)
without_home P asks stamp h = by_place (position (has_stamp stamp) asks)
  where
    by_place : (o : Option ℕ) → All P (without_at asks o)
    by_place None = h
    by_place (Some k) = remove_all P asks k h

pub answer_within : (script : ScriptData) (bound set : ℕ) (ask : Ask) → set < length script.sets → ask.client < length script.clients
    → IsLineWithin script bound (answer_event set ask)
answer_within script bound set ask in_sets known = by_choice ask.gives_up
  where
    by_choice : (gives_up : Option Mode) → IsLineWithin script bound (answer_by set ask gives_up)
    by_choice None = (known, in_sets)
    by_choice (Some mode) = (known, in_sets)
