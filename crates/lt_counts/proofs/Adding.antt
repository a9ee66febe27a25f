-- Lines that are added to numbers.
use Rattle.std.proofs.Common.{option_map, subst, append-nil, ◌≡◌, ◌∙◌, ◌<◌, ◌≤◌, ◌+◌, ◌-◌, ℕ, zero, suc, List, [], ◌∷◌, ◌++◌, Option, Some, None, refl, sym, ap, arith, length, take, drop, slice_get, slice_index_or, if◌then◌else◌}
use Rattle.std.proofs.lemmas.List.Sums.{sum_by-append}
use Rattle.std.proofs.lemmas.List.{take-append-drop}
use Rattle.std.proofs.Math.Seq.{take-suc}
use Rattle.std.proofs.lemmas.Grind.{flat_map-append}
use Rattle.lt_modes.specs.declared.event.Event.{Event}
use Rattle.lt_modes.specs.declared.moves.Move.{Move}
use Rattle.lt_spec.specs.Holdings.{lines_of}
use Rattle.lt_spec.specs.World.{Logged}
use Rattle.lt_merge.specs.Merging.{made_at, events_at}
use Rattle.lt_counts.specs.declared.counted.Counted.{Counted}
use Rattle.lt_counts.specs.Counting.{is_counted_as, lines_as, letters_by, letters_taken, and_more, counted_at, AddsLines, AddsMoves}
use Rattle.lt_counts.specs.CountLaws.{AreCountsOf}

-- Numbers.

and_more-none : (number : ℕ) → and_more number 0 ≡ number
and_more-none number = omega (arith)

and_more-both : (number more further : ℕ) → and_more (and_more number more) further ≡ and_more number (more + further)
and_more-both number more further = omega (arith)

-- Lists.

-- the lines of some moves, and of others behind them
lines_of-append : (moves others : List Logged) → lines_of (moves ++ others) ≡ lines_of moves ++ lines_of others
lines_of-append moves others = flat_map-append (λ (entry : Logged). entry.events) moves others

take_next : (k : ℕ) (moves : List Logged) → take (suc k) moves ≡ take k moves ++ take 1 (drop k moves)
take_next zero moves = refl
take_next (suc k) [] = refl
take_next (suc k) (entry ∷ rest) = ap (λ (list : List Logged). entry ∷ list) (take_next k rest)

drop_none : (n : ℕ) → ◌≡◌ {A = List Logged} (drop n []) []
drop_none zero = refl
drop_none (suc n) = refl

drop_both : (k from : ℕ) (moves : List Logged) → drop k (drop from moves) ≡ drop (from + k) moves
drop_both k zero moves = ap (λ (n : ℕ). drop n moves) (omega (arith))
drop_both zero (suc from) [] = sym (drop_none (suc from + 0))
drop_both (suc k) (suc from) [] = sym (drop_none (suc from + suc k))
drop_both k (suc from) (entry ∷ rest) =
    let next : suc from + k ≡ suc (from + k) = omega (arith) in
    drop_both k from rest ∙ ap (λ (n : ℕ). drop n (entry ∷ rest)) (sym next)

take_entry : (k : ℕ) (moves : List Logged) (entry : Logged) → slice_get moves k ≡ Some entry → take 1 (drop k moves) ≡ entry ∷ []
take_entry zero [] entry e = cc
take_entry (suc k) [] entry e = cc
take_entry zero (first ∷ rest) entry e = let same : first ≡ entry = cc in ap (λ (x : Logged). x ∷ []) same
take_entry (suc k) (first ∷ rest) entry e = take_entry k rest entry e

-- the moves from one place to another, and the next one
next_move : (moves : List Logged) (from place : ℕ) → from ≤ place
    → take (place + 1 - from) (drop from moves) ≡ take (place - from) (drop from moves) ++ take 1 (drop place moves)
next_move moves from place order =
    let more : place + 1 - from ≡ suc (place - from) = omega (arith, order) in
    let last : from + (place - from) ≡ place = omega (arith, order) in
    ap (λ (n : ℕ). take n (drop from moves)) more
    ∙ take_next (place - from) (drop from moves)
    ∙ ap (λ (list : List Logged). take (place - from) (drop from moves) ++ take 1 list)
    (drop_both (place - from) from moves ∙ ap (λ (n : ℕ). drop n moves) last)

-- Lines that were added, and further ones.

lines_as-append : (set : ℕ) (kind : Counted) (lines further : List Event)
    → lines_as set kind (lines ++ further) ≡ lines_as set kind lines + lines_as set kind further
lines_as-append set kind lines further = sum_by-append (λ (line : Event). if is_counted_as set kind line then 1 else 0) lines further

pub adds_none : (counts : List ℕ) → AddsLines [] counts counts
adds_none counts = record {
  places = refl;
  each = λ set kind inside. sym (and_more-none (counted_at counts set kind));
}

pub adds_both : (lines further : List Event) (a b d : List ℕ) → AddsLines lines a b → AddsLines further b d → AddsLines (lines ++ further) a d
adds_both lines further a b d first next = record {
  places = next.places ∙ first.places;
  each = λ set kind inside.
      next.each set kind (omega (arith, inside, first.places))
      ∙ ap (λ (n : ℕ). and_more n (lines_as set kind further)) (first.each set kind inside)
      ∙ and_more-both (counted_at a set kind) (lines_as set kind lines) (lines_as set kind further)
      ∙ ap (and_more (counted_at a set kind)) (sym (lines_as-append set kind lines further));
}

pub adds_next_line : (lines : List Event) (k : ℕ) (line : Event) (a b d : List ℕ) → k < length lines → line ≡ slice_index_or lines k line
    → AddsLines (take k lines) a b → AddsLines (line ∷ []) b d → AddsLines (take (k + 1) lines) a d
adds_next_line lines k line a b d inside is first next =
    subst (λ (list : List Event). AddsLines list a d) (sym more) (adds_both (take k lines) (line ∷ []) a b d first next)
  where
    count : k + 1 ≡ suc k
    count = omega (arith)

    more : take (k + 1) lines ≡ take k lines ++ line ∷ []
    more =
        ap (λ (n : ℕ). take n lines) count
        ∙ take-suc lines k line inside
        ∙ ap (λ (x : Event). take k lines ++ x ∷ []) (sym is)

pub adds_next_move : (moves : List Logged) (from place : ℕ) (a b d : List ℕ) → from ≤ place
    → AddsMoves (take (place - from) (drop from moves)) a b → AddsMoves (take 1 (drop place moves)) b d
    → AddsMoves (take (place + 1 - from) (drop from moves)) a d
adds_next_move moves from place a b d order first next =
    let before : List Logged = take (place - from) (drop from moves) in
    let last : List Logged = take 1 (drop place moves) in
    subst (λ (list : List Event). AddsLines list a d)
    (sym (ap lines_of (next_move moves from place order) ∙ lines_of-append before last))
    (adds_both (lines_of before) (lines_of last) a b d first next)

pub adds_all : (moves : List Logged) (first : ℕ) (old new : List ℕ) → AreCountsOf (take first moves) old → AddsMoves (drop first moves) old new → AreCountsOf moves new
adds_all moves first old new are adds set kind inside =
    adds.each set kind (omega (arith, inside, adds.places))
    ∙ ap (λ (n : ℕ). and_more n further) (are set kind (omega (arith, inside, adds.places)))
    ∙ and_more-both 0 before further
    ∙ ap (and_more 0) (sym count)
  where
    before : ℕ
    before = lines_as set kind (lines_of (take first moves))

    further : ℕ
    further = lines_as set kind (lines_of (drop first moves))

    count : lines_as set kind (lines_of moves) ≡ before + further
    count =
        ap (λ (list : List Logged). lines_as set kind (lines_of list)) (sym (take-append-drop first moves))
        ∙ ap (lines_as set kind) (lines_of-append (take first moves) (drop first moves))
        ∙ lines_as-append set kind (lines_of (take first moves)) (lines_of (drop first moves))

-- Letters that were taken.

pub taken_next : (moves : List Logged) (from place taken before now : ℕ) → from ≤ place
    → before ≡ and_more taken (letters_taken (take (place - from) (drop from moves)))
    → now ≡ and_more before (letters_taken (take 1 (drop place moves)))
    → now ≡ and_more taken (letters_taken (take (place + 1 - from) (drop from moves)))
taken_next moves from place taken before now order first next =
    next
    ∙ ap (λ (n : ℕ). and_more n (letters_taken (take 1 (drop place moves)))) first
    ∙ and_more-both taken _ _
    ∙ ap (and_more taken) (sym count)
  where
    count : letters_taken (take (place + 1 - from) (drop from moves))
        ≡ letters_taken (take (place - from) (drop from moves)) + letters_taken (take 1 (drop place moves))
    count =
        ap letters_taken (next_move moves from place order)
        ∙ sum_by-append (λ (entry : Logged). letters_by entry.made.step) (take (place - from) (drop from moves)) (take 1 (drop place moves))

-- The move at one place.

entry_at : (moves : List Logged) (place : ℕ) (made : Move) (lines : List Event) → made_at moves place ≡ Some made → events_at moves place ≡ Some lines
    → (entry : Logged) × (take 1 (drop place moves) ≡ entry ∷ []) × (entry.made ≡ made) × (entry.events ≡ lines)
entry_at moves place made lines is have = by_entry (slice_get moves place) refl is have
  where
    by_entry : (o : Option Logged) → slice_get moves place ≡ o → option_map (λ (entry : Logged). entry.made) o ≡ Some made
        → option_map (λ (entry : Logged). entry.events) o ≡ Some lines
        → (entry : Logged) × (take 1 (drop place moves) ≡ entry ∷ []) × (entry.made ≡ made) × (entry.events ≡ lines)
    by_entry None here is have = cc
    by_entry (Some entry) here is have = (entry, take_entry place moves entry here, cc, cc)

pub adds_move : (moves : List Logged) (place : ℕ) (made : Move) (lines : List Event) (a b : List ℕ)
    → made_at moves place ≡ Some made → events_at moves place ≡ Some lines → AddsLines lines a b → AddsMoves (take 1 (drop place moves)) a b
adds_move moves place made lines a b is have adds =
    let found = entry_at moves place made lines is have in
    subst (λ (list : List Event). AddsLines list a b)
    (sym (ap lines_of found.1 ∙ append-nil found.0.events ∙ found.3)) adds

pub taken_move : (moves : List Logged) (place : ℕ) (made : Move) (lines : List Event) → made_at moves place ≡ Some made → events_at moves place ≡ Some lines
    → letters_taken (take 1 (drop place moves)) ≡ letters_by made.step
taken_move moves place made lines is have =
    let found = entry_at moves place made lines is have in
    ap letters_taken found.1 ∙ omega (arith) ∙ ap (λ (m : Move). letters_by m.step) found.2
