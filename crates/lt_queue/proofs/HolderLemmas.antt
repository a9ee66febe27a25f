-- The place after the last holder's ask, as asks come and go.
use Rattle.std.proofs.Common.{◌≡◌, ◌∙◌, ℕ, zero, suc, ◌+◌, ◌<◌, ◌≤◌, inl, inr, Bool, true, false, List, [], ◌∷◌, length, take, sym, arith, refl, ap, ◌⊎◌, if◌then◌else◌, insert, remove}
use Rattle.lt_modes.specs.declared.ask.Ask.{Ask}
use Rattle.lt_modes.specs.State.{after_holders_from, place, entered}

abbrev found_by : ℕ → ℕ → Bool → ℕ
found_by k found holder = if holder then k + 1 else found

le_by : (k found : ℕ) (b : Bool) → found ≤ k → found_by k found b ≤ k + 1
le_by k found true h = omega arith
le_by k found false h = omega (arith, h)

not_here : (k found : ℕ) (b : Bool) → found_by k found b ≤ k → found_by k found b ≡ found
not_here k found true h = absurd (omega (arith, h))
not_here k found false h = refl

-- no ask is a holder's
abbrev HasNone : List Ask → Type 0
HasNone asks = (k found : ℕ) → after_holders_from k found asks ≡ found

-- the ask at place n is the last holder's
abbrev EndsAt : List Ask → ℕ → Type 0
EndsAt asks n = (k found : ℕ) → after_holders_from k found asks ≡ k + suc n

first_by : (ask : Ask) (rest : List Ask) (b : Bool) → ask.holder ≡ b → HasNone rest → HasNone (ask ∷ rest) ⊎ ((n : ℕ) × EndsAt (ask ∷ rest) n)
first_by ask rest true e none = inr (0, λ k found. none (k + 1) (found_by k found ask.holder) ∙ (ap (found_by k found) e ∙ omega arith))
first_by ask rest false e none = inl (λ k found. none (k + 1) (found_by k found ask.holder) ∙ ap (found_by k found) e)

either : (asks : List Ask) → HasNone asks ⊎ ((n : ℕ) × EndsAt asks n)
either [] = inl (λ k found. refl)
either (ask ∷ rest) = elim (either rest) [
  | inl none ↦ first_by ask rest ask.holder refl none
  | inr last ↦ inr (suc last.0, λ k found. last.1 (k + 1) (found_by k found ask.holder) ∙ omega arith)
]

-- an ask before the last holder's goes
before_last : (asks : List Ask) (k found i : ℕ) → found ≤ k → i < length asks → k + i + 1 < after_holders_from k found asks
    → after_holders_from k found (remove asks i) + 1 ≡ after_holders_from k found asks
before_last [] k found i h within later = absurd (omega (arith, within))
before_last (ask ∷ rest) k found zero h within later = elim (either rest) [
  | inl none ↦ absurd (omega (arith, later, none (k + 1) (found_by k found ask.holder), le_by k found ask.holder h))
  | inr last ↦ omega (arith, last.1 k found, last.1 (k + 1) (found_by k found ask.holder))
]
before_last (ask ∷ rest) k found (suc i) h within later =
    before_last rest (k + 1) (found_by k found ask.holder) i (le_by k found ask.holder h) (omega (arith, within)) (omega (arith, later))

-- an ask after it goes
after_last : (asks : List Ask) (k found i : ℕ) → found ≤ k → i < length asks → after_holders_from k found asks ≤ k + i
    → after_holders_from k found (remove asks i) ≡ after_holders_from k found asks
after_last [] k found i h within earlier = absurd (omega (arith, within))
after_last (ask ∷ rest) k found zero h within earlier = elim (either rest) [
  | inl none ↦
      let here = none (k + 1) (found_by k found ask.holder) in
      none k found ∙ sym (here ∙ not_here k found ask.holder (omega (arith, earlier, here)))
  | inr last ↦ absurd (omega (arith, earlier, last.1 (k + 1) (found_by k found ask.holder)))
]
after_last (ask ∷ rest) k found (suc i) h within earlier =
    after_last rest (k + 1) (found_by k found ask.holder) i (le_by k found ask.holder h) (omega (arith, within)) (omega (arith, earlier))

-- the last holder's ask itself goes
last_gone : (asks : List Ask) (k found i : ℕ) → found ≤ k → i < length asks → after_holders_from k found asks ≡ k + i + 1
    → after_holders_from k found (remove asks i) ≡ after_holders_from k found (take i asks)
last_gone [] k found i h within here = absurd (omega (arith, within))
last_gone (ask ∷ rest) k found zero h within here = elim (either rest) [
  | inl none ↦ none k found
  | inr last ↦ absurd (omega (arith, here, last.1 (k + 1) (found_by k found ask.holder)))
]
last_gone (ask ∷ rest) k found (suc i) h within here =
    last_gone rest (k + 1) (found_by k found ask.holder) i (le_by k found ask.holder h) (omega (arith, within)) (omega (arith, here))

-- a new ask of a holder comes after all of them
came_last : (ask : Ask) (asks : List Ask) (k found i : ℕ) → ask.holder ≡ true → found ≤ k → i ≤ length asks → after_holders_from k found asks ≤ k + i
    → after_holders_from k found (insert asks i ask) ≡ k + i + 1
came_last ask [] k found zero holds h within earlier = ap (found_by k found) holds ∙ omega arith
came_last ask [] k found (suc i) holds h within earlier = absurd (omega (arith, within))
came_last ask (first ∷ rest) k found zero holds h within earlier = elim (either (first ∷ rest)) [
  | inl none ↦ none (k + 1) (found_by k found ask.holder) ∙ (ap (found_by k found) holds ∙ omega arith)
  | inr last ↦ absurd (omega (arith, earlier, last.1 k found))
]
came_last ask (first ∷ rest) k found (suc i) holds h within earlier =
    came_last ask rest (k + 1) (found_by k found first.holder) i holds (le_by k found first.holder h) (omega (arith, within)) (omega (arith, earlier))
    ∙ omega arith

-- a new ask of another client comes after them
came_plain : (ask : Ask) (asks : List Ask) (k found i : ℕ) → ask.holder ≡ false → found ≤ k → i ≤ length asks → after_holders_from k found asks ≤ k + i
    → after_holders_from k found (insert asks i ask) ≡ after_holders_from k found asks
came_plain ask [] k found zero other h within earlier = ap (found_by k found) other
came_plain ask [] k found (suc i) other h within earlier = absurd (omega (arith, within))
came_plain ask (first ∷ rest) k found zero other h within earlier = elim (either (first ∷ rest)) [
  | inl none ↦ none (k + 1) (found_by k found ask.holder) ∙ (ap (found_by k found) other ∙ sym (none k found))
  | inr last ↦ absurd (omega (arith, earlier, last.1 k found))
]
came_plain ask (first ∷ rest) k found (suc i) other h within earlier =
    came_plain ask rest (k + 1) (found_by k found first.holder) i other (le_by k found first.holder h) (omega (arith, within)) (omega (arith, earlier))

-- ---- the place that a queue keeps

pub kept_after : (asks : List Ask) (kept i : ℕ) → kept ≡ after_holders_from 0 0 asks → i < length asks → kept ≤ i
    → kept ≡ after_holders_from 0 0 (remove asks i)
kept_after asks kept i is within earlier = is ∙ sym (after_last asks 0 0 i (omega arith) within (omega (arith, is, earlier)))

pub kept_before : (asks : List Ask) (kept i made : ℕ) → kept ≡ after_holders_from 0 0 asks → i < length asks → i + 1 < kept → made + 1 ≡ kept
    → made ≡ after_holders_from 0 0 (remove asks i)
kept_before asks kept i made is within later less =
    omega (arith, less, is, before_last asks 0 0 i (omega arith) within (omega (arith, is, later)))

pub kept_last : (asks : List Ask) (kept i made : ℕ) → kept ≡ after_holders_from 0 0 asks → i < length asks → kept ≡ i + 1
    → made ≡ after_holders_from 0 0 (take i asks) → made ≡ after_holders_from 0 0 (remove asks i)
kept_last asks kept i made is within here found =
    found ∙ sym (last_gone asks 0 0 i (omega arith) within (omega (arith, is, here)))

pub kept_within : (asks : List Ask) (k found : ℕ) → found ≤ k → after_holders_from k found asks ≤ k + length asks
kept_within [] k found h = omega (arith, h)
kept_within (ask ∷ rest) k found h = omega (arith, kept_within rest (k + 1) (found_by k found ask.holder) (le_by k found ask.holder h))

pub kept_holder : (asks : List Ask) (ask : Ask) (kept made : ℕ) → kept ≡ after_holders_from 0 0 asks → ask.holder ≡ true → made ≡ kept + 1
    → made ≡ after_holders_from 0 0 (entered asks ask)
kept_holder asks ask kept made is holds next =
    let here : place asks ask.holder ≡ kept = ap (place asks) holds ∙ sym is in
    let few : kept ≤ length asks = omega (arith, is, kept_within asks 0 0 (omega arith)) in
    omega (
      arith,
      next,
      here,
      came_last ask asks 0 0 (place asks ask.holder) holds (omega arith) (omega (arith, here, few)) (omega (arith, here, is)),
    )

pub kept_plain : (asks : List Ask) (ask : Ask) (kept : ℕ) → kept ≡ after_holders_from 0 0 asks → ask.holder ≡ false
    → kept ≡ after_holders_from 0 0 (entered asks ask)
kept_plain asks ask kept is other =
    let here : place asks ask.holder ≡ length asks = ap (place asks) other in
    let few = kept_within asks 0 0 (omega arith) in
    is ∙ sym (came_plain ask asks 0 0 (place asks ask.holder) other (omega arith) (omega (arith, here)) (omega (arith, here, few)))
