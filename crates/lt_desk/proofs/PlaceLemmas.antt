-- One place of the queue further.
use Rattle.std.proofs.Common.{◌≡◌, ◌∙◌, ℕ, ◌+◌, ◌<◌, ◌≤◌, Bool, true, false, List, [], length, drop, drop-cons, Option, Some, None, refl, sym, ap, subst, add-one, slice_index_or, if◌then◌else◌, IfSome}
use Rattle.lt_modes.specs.declared.ask.Ask.{Ask}
use Rattle.lt_modes.specs.Modes.{Modes, with_mode}
use Rattle.lt_modes.specs.State.{no_ask, SetState, Desk}
use Rattle.lt_modes.specs.Serving.{is_served, next_from}
use Rattle.lt_modes.specs.HandingOver.{may_draw, draw_from}
use Rattle.std.proofs.lemmas.List.{drop_all}
use Rattle.lt_desk.specs.Picks.{first_of, hand_over_or_none, IsInQueue}
use Rattle.lt_desk.specs.declared.pick.Pick.TheVariants.{Local, Copy}

pub next_found : (me : ℕ) (s : SetState) (d : Desk) (before : Modes) (k : ℕ) (asks : List Ask) → k < length asks
    → is_served me s d before (slice_index_or asks k no_ask) ≡ true → next_from me s d before k (drop k asks) ≡ Some k
next_found me s d before k asks h served = rw (drop-cons asks k no_ask, served) refl

pub next_later : (me : ℕ) (s : SetState) (d : Desk) (before : Modes) (k : ℕ) (asks : List Ask) → k < length asks
    → is_served me s d before (slice_index_or asks k no_ask) ≡ false
    → next_from me s d before k (drop k asks)
    ≡ next_from me s d (with_mode before (slice_index_or asks k no_ask).mode) (k + 1) (drop (k + 1) asks)
next_later me s d before k asks h not_served = rw (drop-cons asks k no_ask, not_served, add-one) refl

pub draw_found : (me : ℕ) (s : SetState) (d : Desk) (before : Modes) (k : ℕ) (asks : List Ask) → k < length asks
    → may_draw me s d before k (slice_index_or asks k no_ask) ≡ true → draw_from me s d before k (drop k asks) ≡ Some k
draw_found me s d before k asks h drawn = rw (drop-cons asks k no_ask, drawn) refl

pub draw_later : (me : ℕ) (s : SetState) (d : Desk) (before : Modes) (k : ℕ) (asks : List Ask) → k < length asks
    → may_draw me s d before k (slice_index_or asks k no_ask) ≡ false
    → draw_from me s d before k (drop k asks)
    ≡ draw_from me s d (with_mode before (slice_index_or asks k no_ask).mode) (k + 1) (drop (k + 1) asks)
draw_later me s d before k asks h not_drawn = rw (drop-cons asks k no_ask, not_drawn, add-one) refl

-- ---- one pass for both

-- the set of modes seen so far, with the mode of this place
seen_later : (before later : Modes) (k : ℕ) (asks : List Ask) (ask : Ask) → ask ≡ slice_index_or asks k no_ask → later ≡ with_mode before ask.mode
    → later ≡ with_mode before (slice_index_or asks k no_ask).mode
seen_later before later k asks ask here seen = seen ∙ ap (λ (a : Ask). with_mode before a.mode) here

pub turn_found : (me : ℕ) (s : SetState) (d : Desk) (before : Modes) (k : ℕ) (asks : List Ask) (ask : Ask) (turn : Bool) (all : Option ℕ)
    → k < length asks → ask ≡ slice_index_or asks k no_ask → turn ≡ is_served me s d before ask → turn ≡ true
    → next_from me s d before k (drop k asks) ≡ all → all ≡ Some k
turn_found me s d before k asks ask turn all h here test holds so_far =
    sym so_far ∙ next_found me s d before k asks h (ap (λ (a : Ask). is_served me s d before a) (sym here) ∙ (sym test ∙ holds))

pub turn_later : (me : ℕ) (s : SetState) (d : Desk) (before later : Modes) (k : ℕ) (asks : List Ask) (ask : Ask) (turn : Bool) (all : Option ℕ)
    → k < length asks → ask ≡ slice_index_or asks k no_ask → later ≡ with_mode before ask.mode
    → turn ≡ is_served me s d before ask → turn ≡ false
    → next_from me s d before k (drop k asks) ≡ all → next_from me s d later (k + 1) (drop (k + 1) asks) ≡ all
turn_later me s d before later k asks ask turn all h here seen test fails so_far =
    ap (λ (m : Modes). next_from me s d m (k + 1) (drop (k + 1) asks)) (seen_later before later k asks ask here seen)
    ∙ (sym (next_later me s d before k asks h (ap (λ (a : Ask). is_served me s d before a) (sym here) ∙ (sym test ∙ fails))) ∙ so_far)

first_of_if : (draw : Option ℕ) (t : Bool) (k : ℕ) (other : Option ℕ)
    → first_of (first_of draw (if t then Some k else None)) other ≡ first_of draw (if t then Some k else other)
first_of_if (Some j) t k other = refl
first_of_if None true k other = refl
first_of_if None false k other = refl

draw_step : (me : ℕ) (s : SetState) (d : Desk) (before : Modes) (k : ℕ) (asks : List Ask) → k < length asks
    → draw_from me s d before k (drop k asks)
    ≡ (if may_draw me s d before k (slice_index_or asks k no_ask) then Some k
    else draw_from me s d (with_mode before (slice_index_or asks k no_ask).mode) (k + 1) (drop (k + 1) asks))
draw_step me s d before k asks h = rw (drop-cons asks k no_ask, add-one) refl

pub first_later : (me : ℕ) (s : SetState) (d : Desk) (before later : Modes) (k : ℕ) (asks : List Ask) (ask : Ask) (draw next all : Option ℕ)
    → k < length asks → ask ≡ slice_index_or asks k no_ask → later ≡ with_mode before ask.mode
    → next ≡ first_of draw (if may_draw me s d before k ask then Some k else None)
    → first_of draw (draw_from me s d before k (drop k asks)) ≡ all
    → first_of next (draw_from me s d later (k + 1) (drop (k + 1) asks)) ≡ all
first_later me s d before later k asks ask draw next all h here seen is so_far =
    let rest = draw_from me s d (with_mode before (slice_index_or asks k no_ask).mode) (k + 1) (drop (k + 1) asks) in
    let now = is ∙ ap (λ (a : Ask). first_of draw (if may_draw me s d before k a then Some k else None)) here in
    ap (λ (m : Modes). first_of next (draw_from me s d m (k + 1) (drop (k + 1) asks))) (seen_later before later k asks ask here seen)
    ∙ (ap (λ (o : Option ℕ). first_of o rest) now
    ∙ (first_of_if draw (may_draw me s d before k (slice_index_or asks k no_ask)) k rest
    ∙ (ap (λ (o : Option ℕ). first_of draw o) (sym (draw_step me s d before k asks h)) ∙ so_far)))

pub first_within : (draw next : Option ℕ) (t : Bool) (k n : ℕ) → k < n → next ≡ first_of draw (if t then Some k else None)
    → IfSome draw (λ j. j < n) → IfSome next (λ j. j < n)
first_within (Some j) next t k n h is before = rw is before
first_within None next true k n h is before = rw is h
first_within None next false k n h is before = rw is before

-- ---- places of the queue

pub service_within : (n k : ℕ) (b : Bool) → k < n → IsInQueue n (if b then Local k else Copy k)
service_within n k true h = h
service_within n k false h = h

pub draw_within : (n : ℕ) (draw : Option ℕ) → IfSome draw (λ j. j < n) → IsInQueue n (hand_over_or_none draw)
draw_within n None h = tt
draw_within n (Some j) h = h

pub is_place : (k n m : ℕ) → k < n → n ≡ m → k < m
is_place k n m h is = subst (λ x. k < x) is h

-- at the end no ask is left that is served, and none that may draw the desk
pub none_left : (me : ℕ) (s : SetState) (d : Desk) (before : Modes) (k n : ℕ) (asks : List Ask) (service draw all : Option ℕ) → n ≡ length asks → n ≤ k
    → next_from me s d before k (drop k asks) ≡ service → first_of draw (draw_from me s d before k (drop k asks)) ≡ all
    → (service ≡ None) × (first_of draw None ≡ all)
none_left me s d before k n asks service draw all is end served drawn =
    let gone : drop k asks ≡ [] = drop_all k asks (subst (λ m. m ≤ k) is end) in (
      sym served ∙ ap (next_from me s d before k) gone,
      sym (ap (λ (rest : List Ask). first_of draw (draw_from me s d before k rest)) gone) ∙ drawn,
    )
