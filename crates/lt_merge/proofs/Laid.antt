-- How the parts of the one list of events stand to each other, and what a push changes.
use Rattle.std.proofs.Common.{◌≡◌, ℕ, zero, suc, ◌+◌, ◌<◌, ◌≤◌, List, [], ◌∷◌, ◌++◌, length, drop, Some, refl, sym, ap, ◌∙◌, arith, slice_get, slice_range, slice_index_or, option_map, append-nil, drop_at}
use Rattle.std.proofs.lemmas.List.{take-append-le, drop-append-le}
use Rattle.std.proofs.lemmas.Slice.{between_to_end, between_is}
use Rattle.lt_modes.specs.declared.event.Event.{Event}
use Rattle.lt_spec.specs.World.{Logged}
use Rattle.lt_merge.specs.declared.run.Mark.{Mark}
use Rattle.lt_merge.specs.Merging.{just_made, with_event, made_at, events_at}
use Rattle.lt_merge.specs.Marks.{move_by, events_before, IsLaid, entries_of, events_bounds}
use Rattle.std.proofs.lemmas.Option.{some_pair_parts}

pub length-entries_of : (marks : List Mark) (events : List Event) → length (entries_of marks events) ≡ length marks
length-entries_of [] events = refl
length-entries_of (mark ∷ later) events = ap suc (length-entries_of later events)

pub events_before-within : (marks : List Mark) (count : ℕ) → IsLaid marks count → events_before marks count ≤ count
events_before-within [] count laid = omega arith
events_before-within (mark ∷ later) count laid = omega (arith, laid.0, events_before-within later count laid.1)

events_before-add : (marks : List Mark) (mark : Mark) (count all : ℕ) → mark.start ≡ count → events_before (marks ++ mark ∷ []) all ≡ events_before marks count
events_before-add [] mark count all e = e
events_before-add (first ∷ later) mark count all e = refl

-- a mark at the end of the events, and events after it
pub laid_add : (marks : List Mark) (mark : Mark) (count all : ℕ) → mark.start ≡ count → count ≤ all → IsLaid marks count → IsLaid (marks ++ mark ∷ []) all
laid_add [] mark count all e more laid = (omega (arith, e, more), tt)
laid_add (first ∷ later) mark count all e more laid =
    (omega (arith, laid.0, events_before-add later mark count all e), laid_add later mark count all e more laid.1)

events_before-grows : (marks : List Mark) (count : ℕ) → events_before marks count ≤ events_before marks (count + 1)
events_before-grows [] count = omega arith
events_before-grows (mark ∷ later) count = omega arith

pub laid_grow : (marks : List Mark) (count : ℕ) → IsLaid marks count → IsLaid marks (count + 1)
laid_grow [] count laid = tt
laid_grow (mark ∷ later) count laid = (omega (arith, laid.0, events_before-grows later count), laid_grow later count laid.1)

range_to_end-push : (events : List Event) (event : Event) (i : ℕ) → i ≤ length events → slice_range (events ++ event ∷ []) i (length (events ++ event ∷ [])) ≡ slice_range events i (length events) ++ event ∷ []
range_to_end-push events event i h =
    between_to_end (events ++ event ∷ []) i _ (omega arith)
    ∙ (drop-append-le i events (event ∷ []) h
    ∙ ap (λ (es : List Event). es ++ event ∷ []) (sym (between_to_end events i _ (omega arith))))

range-add : (events more : List Event) (i j : ℕ) → j ≤ length events → slice_range (events ++ more) i j ≡ slice_range events i j
range-add events more i j h =
    between_is (events ++ more) i j
    ∙ (ap (λ (es : List Event). drop i es) (take-append-le j events more h)
    ∙ sym (between_is events i j))

pub entries_of-event : (marks : List Mark) (events : List Event) (event : Event) → IsLaid marks (length events) → 0 < length marks → entries_of marks (events ++ event ∷ []) ≡ with_event (entries_of marks events) event
entries_of-event [] events event laid some = absurd (omega (arith, some))
entries_of-event (mark ∷ []) events event laid some =
    ap (λ (es : List Event). record { made = move_by mark; events = es } ∷ []) (range_to_end-push events event mark.start laid.0)
entries_of-event (mark ∷ next ∷ later) events event laid some =
    ap (λ (es : List Event). record { made = move_by mark; events = es } ∷ entries_of (next ∷ later) (events ++ event ∷ []))
    (range-add events (event ∷ []) mark.start next.start (events_before-within (next ∷ later) (length events) laid.1))
    ∙ ap (λ (es : List Logged). record { made = move_by mark; events = slice_range events mark.start next.start } ∷ es)
    (entries_of-event (next ∷ later) events event laid.1 (omega arith))

-- a move with its events after the others
pub entries_of-add : (marks : List Mark) (mark : Mark) (events more : List Event) → mark.start ≡ length events → IsLaid marks (length events)
    → entries_of (marks ++ mark ∷ []) (events ++ more) ≡ entries_of marks events ++ record { made = move_by mark; events = more } ∷ []
entries_of-add [] mark events more e laid =
    ap (λ (es : List Event). record { made = move_by mark; events = es } ∷ [])
    (between_to_end (events ++ more) mark.start _ (omega arith) ∙ drop_at events more mark.start (sym e))
entries_of-add (first ∷ later) mark events more e laid =
    ap (λ (n : ℕ). record { made = move_by first; events = slice_range (events ++ more) first.start n } ∷ entries_of (later ++ mark ∷ []) (events ++ more))
    (events_before-add later mark (length events) (length (events ++ more)) e)
    ∙ (ap (λ (es : List Event). record { made = move_by first; events = es } ∷ entries_of (later ++ mark ∷ []) (events ++ more))
    (range-add events more first.start (events_before later (length events)) (events_before-within later (length events) laid.1))
    ∙ ap (λ (es : List Logged). record { made = move_by first; events = slice_range events first.start (events_before later (length events)) } ∷ es)
    (entries_of-add later mark events more e laid.1))

-- a move with no events after the others
pub entries_of-push : (marks : List Mark) (mark : Mark) (events : List Event) → mark.start ≡ length events → IsLaid marks (length events)
    → entries_of (marks ++ mark ∷ []) events ≡ entries_of marks events ++ just_made (move_by mark) ∷ []
entries_of-push marks mark events e laid =
    ap (λ (es : List Event). entries_of (marks ++ mark ∷ []) es) (sym (append-nil events)) ∙ entries_of-add marks mark events [] e laid

pub made_at-entries_of : (marks : List Mark) (events : List Event) (k : ℕ) → made_at (entries_of marks events) k ≡ option_map move_by (slice_get marks k)
made_at-entries_of [] events k = refl
made_at-entries_of (mark ∷ later) events zero = refl
made_at-entries_of (mark ∷ later) events (suc k) = made_at-entries_of later events k

pub events_at-entries_of : (marks : List Mark) (events : List Event) (k a b : ℕ) → events_bounds marks (length events) k ≡ Some (a, b) → events_at (entries_of marks events) k ≡ Some (slice_range events a b)
events_at-entries_of [] events k a b e = cc
events_at-entries_of (mark ∷ later) events zero a b e =
    let parts = some_pair_parts mark.start a (events_before later (length events)) b e in
    ap (λ (i : ℕ). Some (slice_range events i (events_before later (length events)))) parts.0
    ∙ ap (λ (j : ℕ). Some (slice_range events a j)) parts.1
events_at-entries_of (mark ∷ later) events (suc k) a b e = events_at-entries_of later events k a b e

-- the part of a move is in range
pub events_bounds-within : (marks : List Mark) (count k a b : ℕ) → IsLaid marks count → events_bounds marks count k ≡ Some (a, b) → (a ≤ b) × (b ≤ count)
events_bounds-within [] count k a b laid e = cc
events_bounds-within (mark ∷ later) count zero a b laid e =
    let parts = some_pair_parts mark.start a (events_before later count) b e in
    (omega (arith, laid.0, parts.0, parts.1), omega (arith, events_before-within later count laid.1, parts.1))
events_bounds-within (mark ∷ later) count (suc k) a b laid e = events_bounds-within later count k a b laid.1 e

-- the part of a move that another follows
pub events_bounds-inner : (marks : List Mark) (count k : ℕ) (d : Mark) → k + 1 < length marks → events_bounds marks count k ≡ Some ((slice_index_or marks k d).start, (slice_index_or marks (k + 1) d).start)
events_bounds-inner [] count k d h = absurd (omega (arith, h))
events_bounds-inner (mark ∷ []) count zero d h = absurd (omega (arith, h))
events_bounds-inner (mark ∷ next ∷ later) count zero d h = refl
events_bounds-inner (mark ∷ later) count (suc k) d h =
    let one : suc k + 1 ≡ suc (k + 1) = omega arith in
    events_bounds-inner later count k d (omega (arith, h))
    ∙ ap (λ (i : ℕ). Some ((slice_index_or later k d).start, (slice_index_or (mark ∷ later) i d).start)) (sym one)

-- the part of the last move
pub events_bounds-last : (marks : List Mark) (count k : ℕ) (d : Mark) → k < length marks → length marks ≤ k + 1 → events_bounds marks count k ≡ Some ((slice_index_or marks k d).start, count)
events_bounds-last [] count k d h l = absurd (omega (arith, h))
events_bounds-last (mark ∷ []) count zero d h l = refl
events_bounds-last (mark ∷ next ∷ later) count zero d h l = absurd (omega (arith, l))
events_bounds-last (mark ∷ later) count (suc k) d h l = events_bounds-last later count k d (omega (arith, h)) (omega (arith, l))
