-- Rings in which no letter is known.
use Rattle.std.proofs.Common.{◌≡◌, ◌≢◌, ◌<◌, ◌≤◌, ℕ, inl, inr, List, [], ◌∷◌, Option, Some, None, Bool, false, sym, subst, ◌∙◌, arith, length, slice_get}
use Rattle.std.proofs.lemmas.Bool.{cases_eq}
use Rattle.std.proofs.lemmas.Option.{slice_get_cases}
use Rattle.lt_desk.specs.declared.letter.Letter.{Letter}
use Rattle.lt_mail.specs.declared.lane.InLane.{InLane}
use Rattle.lt_mail.specs.Words.{known, Both}
use Rattle.lt_mail.specs.Passing.{Saw, SawNone, LooksAt, LooksAtSome, LaneChanges, TakesKnown, FindsNoLetter}
use Rattle.lt_mail.specs.Known.{KnowsNone, NoneKnownBut, AreAlone}
use Rattle.lt_mail.proofs.LookLemmas.{look_starts, look_joins, looks_join}

-- the ring in which no letter was seen
pub saw_none : (o : Option InLane) → Saw false o → KnowsNone o
saw_none None q = absurd q
saw_none (Some lane) q = q

-- and back, where it is there
pub none_saw : (lanes : List InLane) (node : ℕ) → node < length lanes → KnowsNone (slice_get lanes node) → Saw false (slice_get lanes node)
none_saw lanes node below h = elim (slice_get_cases lanes node).1 [
  | inl there ↦ subst (λ (o : Option InLane). Saw false o) (sym there.2) (subst (λ (o : Option InLane). KnowsNone o) there.2 h)
  | inr past ↦ absurd (omega (arith, below, past.0))
]

-- no letter was seen in any ring
pub none_alone : (me : ℕ) (lanes : List InLane) (alone : Bool) → SawNone (length lanes) me lanes → AreAlone alone me me lanes
none_alone me lanes alone h said node apart other = elim (slice_get_cases lanes node).1 [
  | inl there ↦ saw_none (slice_get lanes node) (h node there.1 apart)
  | inr past ↦ subst (λ (o : Option InLane). KnowsNone o) (sym past.1) tt
]

pub alone_none : (me : ℕ) (lanes : List InLane) → NoneKnownBut me me lanes → SawNone (length lanes) me lanes
alone_none me lanes h node below apart = none_saw lanes node below (h node apart apart)

pub alone_first : (from me : ℕ) (lanes : List InLane) → from < length lanes → NoneKnownBut from me lanes → SawNone from me lanes
alone_first from me lanes within h node below apart =
    none_saw lanes node (omega (arith, below, within)) (h node (λ e. omega (arith, e, below)) apart)

-- one ring was looked at, and the others are as they were
abbrev pub OthersStay : ℕ → List InLane → List InLane → Type 0
OthersStay from xs ys = (node : ℕ) → node ≢ from → slice_get ys node ≡ slice_get xs node

-- a letter is in the ring where one may have been known
pub found_here : (at me : ℕ) (xs ys : List InLane) → NoneKnownBut at me xs → OthersStay at xs ys → NoneKnownBut at me ys
found_here at me xs ys h others node apart other =
    subst (λ (o : Option InLane). KnowsNone o) (sym (others node apart)) (h node apart other)

-- or in another one, where none was known
pub found_other : (from me : ℕ) (xs ys : List InLane) → NoneKnownBut me me xs → OthersStay from xs ys → NoneKnownBut from me ys
found_other from me xs ys h others node apart other =
    subst (λ (o : Option InLane). KnowsNone o) (sym (others node apart)) (h node other other)

-- no letter is in it
pub none_here : (at me : ℕ) (xs ys : List InLane) → NoneKnownBut at me xs → OthersStay at xs ys → (at ≢ me → KnowsNone (slice_get ys at))
    → NoneKnownBut me me ys
none_here at me xs ys h others here node apart other = elim (cases_eq node at) [
  | inl same ↦ subst (λ (n : ℕ). KnowsNone (slice_get ys n)) (sym same) (here (λ e. apart (same ∙ e)))
  | inr distinct ↦ subst (λ (o : Option InLane). KnowsNone o) (sym (others node distinct)) (h node distinct other)
]

pub none_other : (from me : ℕ) (xs ys : List InLane) → NoneKnownBut me me xs → OthersStay from xs ys → (from ≢ me → KnowsNone (slice_get ys from))
    → NoneKnownBut me me ys
none_other from me xs ys h others here node apart other = elim (cases_eq node from) [
  | inl same ↦ subst (λ (n : ℕ). KnowsNone (slice_get ys n)) (sym same) (here (λ e. apart (same ∙ e)))
  | inr distinct ↦ subst (λ (o : Option InLane). KnowsNone o) (sym (others node distinct)) (h node apart other)
]

-- a ring that isn't there knows no letter
pub past_none : (from : ℕ) (lanes : List InLane) → length lanes ≤ from → KnowsNone (slice_get lanes from)
past_none from lanes past = elim (slice_get_cases lanes from).1 [
  | inl there ↦ absurd (omega (arith, there.1, past))
  | inr gone ↦ subst (λ (o : Option InLane). KnowsNone o) (sym gone.1) tt
]

pub looked_one : (xs ys : List InLane) (from : ℕ) → LooksAt xs ys from → LooksAtSome xs ys
looked_one xs ys from h = look_joins xs xs ys from (look_starts xs) h

-- the first known letter of a ring was taken
pub alone_taken : (alone : Bool) (at own from : ℕ) (letter : Letter) (xs ys : List InLane) → LaneChanges (TakesKnown letter) xs ys from → AreAlone alone at own xs → AreAlone alone at own ys
alone_taken alone at own from letter xs ys c h said node apart other = elim (cases_eq node from) [
  | inl same ↦ subst (λ (n : ℕ). KnowsNone (slice_get ys n)) (sym same)
      (impossible (slice_get xs from) (slice_get ys from) c.here (subst (λ (n : ℕ). KnowsNone (slice_get xs n)) same (h said node apart other)))
  | inr distinct ↦ subst (λ (o : Option InLane). KnowsNone o) (sym (c.others node distinct)) (h said node apart other)
]
  where
    no_letter : (x : InLane) (rest : List Letter) → known x ≡ [] → known x ≡ letter ∷ rest → ⊥
    no_letter x rest e f = absurd (cc)

    impossible : (x y : Option InLane) → Both (TakesKnown letter) x y → KnowsNone x → KnowsNone y
    impossible None y q none = absurd q
    impossible (Some x) None q none = absurd q
    impossible (Some x) (Some y) q none = absurd (no_letter x (known y) none q.known)

-- no letter was known there
pub alone_kept : (alone : Bool) (at own from : ℕ) (xs ys : List InLane) → LaneChanges FindsNoLetter xs ys from → AreAlone alone at own xs → AreAlone alone at own ys
alone_kept alone at own from xs ys c h said node apart other = elim (cases_eq node from) [
  | inl same ↦ subst (λ (n : ℕ). KnowsNone (slice_get ys n)) (sym same)
      (as_it_was (slice_get xs from) (slice_get ys from) c.here (subst (λ (n : ℕ). KnowsNone (slice_get xs n)) same (h said node apart other)))
  | inr distinct ↦ subst (λ (o : Option InLane). KnowsNone o) (sym (c.others node distinct)) (h said node apart other)
]
  where
    as_it_was : (x y : Option InLane) → Both FindsNoLetter x y → KnowsNone x → KnowsNone y
    as_it_was None y q none = absurd q
    as_it_was (Some x) None q none = absurd q
    as_it_was (Some x) (Some y) q none = subst (λ (lane : InLane). KnowsNone (Some lane)) (sym q.same) none

-- in a ring at this place alone, and in the node's own
pub alone_still : (alone : Bool) (at own me : ℕ) (lanes : List InLane) → own ≡ me → NoneKnownBut at me lanes → AreAlone alone at own lanes
alone_still alone at own me lanes e h said = subst (λ (n : ℕ). NoneKnownBut at n lanes) (sym e) h

-- what is known of one ring that is looked at
pub ruleset looks_at_one = (look_starts, past_none, looked_one, saw_none)

-- what is known once all are looked at
pub ruleset looks_again = (alone_first, alone_none, alone_still)
