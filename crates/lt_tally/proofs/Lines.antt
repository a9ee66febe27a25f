-- What one turn of a loop adds to the events done so far.
use Rattle.std.proofs.Common.{◌≡◌, ◌∙◌, ℕ, zero, suc, ◌+◌, List, [], ◌∷◌, ◌++◌, Some, take, refl, sym, ap, arith, fold, append_assoc}
use Rattle.std.proofs.lemmas.List.Sums.{fold-append}
use Rattle.lt_modes.specs.declared.event.Event.{Event}
use Rattle.lt_spec.specs.World.{Logged}
use Rattle.lt_spec.specs.Holdings.{lines_of}
use Rattle.lt_merge.specs.Merging.{events_at}

append_nil : {X : Type 0} (xs : List X) → xs ++ [] ≡ xs
append_nil [] = refl
append_nil {X} (x ∷ xs) = ap (λ (ys : List X). x ∷ ys) (append_nil xs)

lines_of-take : (entries : List Logged) (k : ℕ) (events : List Event) → events_at entries k ≡ Some events
    → lines_of (take (suc k) entries) ≡ lines_of (take k entries) ++ events
lines_of-take [] k events f = cc
lines_of-take (entry ∷ later) zero events f =
    let same : entry.events ≡ events = cc in
    append_nil entry.events ∙ same
lines_of-take (entry ∷ later) (suc k) events f =
    ap (λ (es : List Event). entry.events ++ es) (lines_of-take later k events f)
    ∙ sym (append_assoc entry.events (lines_of (take k later)) events)

-- the events of the moves up to this one, and of this one
pub fold_lines-more : {B : Type 0} (f : B → Event → B) (b : B) (entries : List Logged) (k : ℕ) (events : List Event)
    → events_at entries k ≡ Some events → fold f (fold f b (lines_of (take k entries))) events ≡ fold f b (lines_of (take (k + 1) entries))
fold_lines-more {B} f b entries k events e =
    let one : suc k ≡ k + 1 = omega arith in
    sym (fold-append f b (lines_of (take k entries)) events)
    ∙ (ap (λ (es : List Event). fold f b es) (sym (lines_of-take entries k events e))
    ∙ ap (λ (n : ℕ). fold f b (lines_of (take n entries))) one)
