-- Runners that work in two halves.
use Rattle.std.proofs.Common.{◌≡◌, ℕ, zero, suc, ◌<◌, ◌++◌, List, [], ◌∷◌, inl, inr, ◌⊎◌, length, refl, ap, ◌∙◌, arith, slice_index_or, slice_set}
use Rattle.lt_runner.specs.declared.parts.Parts.{Parts}
use Rattle.lt_runner.specs.declared.turning.Worked.{Worked}
use Rattle.lt_runner.specs.declared.turning.Worked.TheVariants.{Idle, Full, NoMemory}
use Rattle.lt_runner.specs.Kept.{Grew}
use Rattle.lt_runner.specs.AtOnce.{WorkLeaves, WorkLeavesAtWorst, EachBecomes, OneBecomes, AllWorked, worse_of}

-- What holds of each runner of a list, or of one.

each_append : (R : Parts → Parts → Type 0) (xs us ys vs : List Parts) → EachBecomes R xs ys → EachBecomes R us vs → EachBecomes R (xs ++ us) (ys ++ vs)
each_append R [] us [] vs h k = k
each_append R [] us (y ∷ ys) vs h k = absurd h
each_append R (x ∷ xs) us [] vs h k = absurd h
each_append R (x ∷ xs) us (y ∷ ys) vs h k = (h.0, each_append R xs us ys vs h.1 k)

each_more : (R S : Parts → Parts → Type 0) → ((a b : Parts) → R a b → S a b) → (xs ys : List Parts) → EachBecomes R xs ys → EachBecomes S xs ys
each_more R S more [] [] h = tt
each_more R S more [] (y ∷ ys) h = absurd h
each_more R S more (x ∷ xs) [] h = absurd h
each_more R S more (x ∷ xs) (y ∷ ys) h = (more x y h.0, each_more R S more xs ys h.1)

each_at : (R : Parts → Parts → Type 0) (xs ys : List Parts) (k : ℕ) (other : Parts) → EachBecomes R xs ys → k < length xs
    → R (slice_index_or xs k other) (slice_index_or ys k other)
each_at R [] ys k other h below = absurd (omega (arith, below))
each_at R (x ∷ xs) [] k other h below = absurd h
each_at R (x ∷ xs) (y ∷ ys) zero other h below = h.0
each_at R (x ∷ xs) (y ∷ ys) (suc k) other h below = each_at R xs ys k other h.1 (omega (arith, below))

each_same : (xs ys : List Parts) → EachBecomes (λ a b. b ≡ a) xs ys → ys ≡ xs
each_same [] [] h = refl
each_same [] (y ∷ ys) h = absurd h
each_same (x ∷ xs) [] h = absurd h
each_same (x ∷ xs) (y ∷ ys) h = ap (λ (p : Parts). p ∷ ys) h.0 ∙ ap (λ (ps : List Parts). x ∷ ps) (each_same xs ys h.1)

one_before : (R : Parts → Parts → Type 0) (xs us ys vs : List Parts) → OneBecomes R xs ys → OneBecomes R (xs ++ us) (ys ++ vs)
one_before R [] us ys vs h = absurd h
one_before R (x ∷ xs) us [] vs h = absurd h
one_before R (x ∷ xs) us (y ∷ ys) vs (inl here) = inl here
one_before R (x ∷ xs) us (y ∷ ys) vs (inr later) = inr (one_before R xs us ys vs later)

one_after : (Q R : Parts → Parts → Type 0) (xs us ys vs : List Parts) → EachBecomes Q xs ys → OneBecomes R us vs → OneBecomes R (xs ++ us) (ys ++ vs)
one_after Q R [] us [] vs h one = one
one_after Q R [] us (y ∷ ys) vs h one = absurd h
one_after Q R (x ∷ xs) us [] vs h one = absurd h
one_after Q R (x ∷ xs) us (y ∷ ys) vs h one = inr (one_after Q R xs us ys vs h.1 one)

one_says : (R : Parts → Parts → Type 0) (P : Type 0) → ((a b : Parts) → R a b → P) → (xs ys : List Parts) → OneBecomes R xs ys → P
one_says R P says [] ys h = absurd h
one_says R P says (x ∷ xs) [] h = absurd h
one_says R P says (x ∷ xs) (y ∷ ys) (inl here) = says x y here
one_says R P says (x ∷ xs) (y ∷ ys) (inr later) = one_says R P says xs ys later

-- How one runner was left, where another one answered worse.

at_worst : (answer : Worked) (patience : ℕ) (a b : Parts) → WorkLeaves answer patience a b → WorkLeavesAtWorst answer patience a b
at_worst Idle patience a b h = h
at_worst Full patience a b h = inr h
at_worst NoMemory patience a b h = (NoMemory, h)

worse_after : (answer other : Worked) (patience : ℕ) (a b : Parts) → WorkLeavesAtWorst answer patience a b → WorkLeavesAtWorst (worse_of answer other) patience a b
worse_after Idle Idle patience a b h = h
worse_after Idle Full patience a b h = inl h
worse_after Idle NoMemory patience a b h = (Idle, h)
worse_after Full Idle patience a b h = h
worse_after Full Full patience a b h = h
worse_after Full NoMemory patience a b (inl h) = (Idle, h)
worse_after Full NoMemory patience a b (inr h) = (Full, h)
worse_after NoMemory other patience a b h = h

worse_before : (other answer : Worked) (patience : ℕ) (a b : Parts) → WorkLeavesAtWorst answer patience a b → WorkLeavesAtWorst (worse_of other answer) patience a b
worse_before Idle answer patience a b h = h
worse_before Full Idle patience a b h = inl h
worse_before Full Full patience a b h = h
worse_before Full NoMemory patience a b h = h
worse_before NoMemory Idle patience a b h = (Idle, h)
worse_before NoMemory Full patience a b (inl h) = (Idle, h)
worse_before NoMemory Full patience a b (inr h) = (Full, h)
worse_before NoMemory NoMemory patience a b h = h

grew_at_worst : (answer : Worked) (patience : ℕ) (a b : Parts) → WorkLeavesAtWorst answer patience a b → Grew a b
grew_at_worst Idle patience a b h = h.grew
grew_at_worst Full patience a b (inl h) = h.grew
grew_at_worst Full patience a b (inr h) = h.grew
grew_at_worst NoMemory patience a b h = h.1.grew

same_at_worst : (answer : Worked) (patience : ℕ) → patience ≡ 0 → (a b : Parts) → WorkLeavesAtWorst answer patience a b → b ≡ a
same_at_worst Idle patience none a b h = (h.at_once none).1
same_at_worst Full patience none a b (inl h) = (h.at_once none).1
same_at_worst Full patience none a b (inr h) = (h.at_once none).1
same_at_worst NoMemory patience none a b h = (h.1.at_once none).1

-- How all were left.

pub alone_worked : (answer : Worked) (patience : ℕ) (xs : List Parts) (other b : Parts) → length xs ≡ 1
    → WorkLeaves answer patience (slice_index_or xs 0 other) b → AllWorked answer patience xs (slice_set xs 0 b)
alone_worked answer patience [] other b alone h = absurd (omega (arith, alone))
alone_worked answer patience (x ∷ []) other b alone h = record { each = (at_worst answer patience x b h, tt); one = inr (inl h) }
alone_worked answer patience (x ∷ y ∷ xs) other b alone h = absurd (omega (arith, alone))

pub both_worked : (r s : Worked) (patience : ℕ) (xs us ys vs : List Parts) → AllWorked r patience xs ys → AllWorked s patience us vs
    → AllWorked (worse_of r s) patience (xs ++ us) (ys ++ vs)
both_worked r s patience xs us ys vs h k = record {
  each = each_append (λ a b. WorkLeavesAtWorst (worse_of r s) patience a b) xs us ys vs
      (each_more (λ a b. WorkLeavesAtWorst r patience a b) (λ a b. WorkLeavesAtWorst (worse_of r s) patience a b) (worse_after r s patience) xs ys h.each)
      (each_more (λ a b. WorkLeavesAtWorst s patience a b) (λ a b. WorkLeavesAtWorst (worse_of r s) patience a b) (worse_before r s patience) us vs k.each);
  one = by_answers r s h.each h.one k.one;
}
  where
    Left : Worked → Type 0
    Left r = (r ≡ Idle) ⊎ OneBecomes (λ a b. WorkLeaves r patience a b) xs ys

    Right : Worked → Type 0
    Right s = (s ≡ Idle) ⊎ OneBecomes (λ a b. WorkLeaves s patience a b) us vs

    Both : Worked → Type 0
    Both t = (t ≡ Idle) ⊎ OneBecomes (λ a b. WorkLeaves t patience a b) (xs ++ us) (ys ++ vs)

    from_left : (r : Worked) → Left r → Both r
    from_left r (inl idle) = inl idle
    from_left r (inr one) = inr (one_before (λ a b. WorkLeaves r patience a b) xs us ys vs one)

    from_right : (r s : Worked) → EachBecomes (λ a b. WorkLeavesAtWorst r patience a b) xs ys → Right s → Both s
    from_right r s each (inl idle) = inl idle
    from_right r s each (inr one) =
        inr (one_after (λ a b. WorkLeavesAtWorst r patience a b) (λ a b. WorkLeaves s patience a b) xs us ys vs each one)

    by_answers : (r s : Worked) → EachBecomes (λ a b. WorkLeavesAtWorst r patience a b) xs ys → Left r → Right s → Both (worse_of r s)
    by_answers Idle s each left right = from_right Idle s each right
    by_answers Full Idle each left right = from_left Full left
    by_answers Full Full each left right = from_left Full left
    by_answers Full NoMemory each left right = from_right Full NoMemory each right
    by_answers NoMemory s each left right = from_left NoMemory left

-- What that says of each.

pub all_grew : (answer : Worked) (patience : ℕ) (xs ys : List Parts) → AllWorked answer patience xs ys → (k : ℕ) (other : Parts) → k < length xs
    → Grew (slice_index_or xs k other) (slice_index_or ys k other)
all_grew answer patience xs ys h k other below =
    each_at (λ a b. Grew a b) xs ys k other
    (each_more (λ a b. WorkLeavesAtWorst answer patience a b) (λ a b. Grew a b) (grew_at_worst answer patience) xs ys h.each) below

pub all_at_rest : (answer : Worked) (patience : ℕ) (xs ys : List Parts) → AllWorked answer patience xs ys → patience ≡ 0 → (answer ≡ Idle) × (ys ≡ xs)
all_at_rest answer patience xs ys h none = (
  elim h.one [
    | inl idle ↦ idle
    | inr one ↦ one_says (λ a b. WorkLeaves answer patience a b) (answer ≡ Idle) (λ a b left. (left.at_once none).0) xs ys one
  ],
  each_same xs ys (each_more (λ a b. WorkLeavesAtWorst answer patience a b) (λ a b. b ≡ a) (same_at_worst answer patience none) xs ys h.each),
)
