-- Searches among the numbers below a bound.
use Rattle.std.specs.Prelude.{Bool, false, ◌||◌, ◌==◌, ℕ, zero, suc, ◌+◌, List, [], ◌++◌, Option, Some, None, if◌then◌else◌, true}

-- f, but v at i
abbrev pub put : {X : Type 0} → (ℕ → X) → ℕ → X → ℕ → X
put f i v k = if k == i then v else f k

-- some number below n passes
abbrev pub any_below : ℕ → (ℕ → Bool) → Bool
any_below zero test = false
any_below (suc n) test = any_below n test || test n

abbrev pub earlier : (ℕ → ℕ → Bool) → Option ℕ → ℕ → Option ℕ
earlier before None k = Some k
earlier before (Some best) k = if before k best then Some k else Some best

-- the first, in this order, of the numbers below n that pass
abbrev pub first_below : ℕ → (ℕ → Bool) → (ℕ → ℕ → Bool) → Option ℕ
first_below zero test before = None
first_below (suc n) test before = if test n then earlier before (first_below n test before) n else first_below n test before

-- how many numbers below n pass
abbrev pub count_below : ℕ → (ℕ → Bool) → ℕ
count_below zero test = 0
count_below (suc n) test = count_below n test + (if test n then 1 else 0)

-- f at the numbers below n, added up
abbrev pub sum_below : ℕ → (ℕ → ℕ) → ℕ
sum_below zero f = 0
sum_below (suc n) f = sum_below n f + f n

-- the lists of f at the numbers below n, one after the other
abbrev pub gather_below : {X : Type 0} → ℕ → (ℕ → List X) → List X
gather_below zero f = []
gather_below (suc n) f = gather_below n f ++ f n

abbrev pub one_if : Bool → ℕ
one_if true = 1
one_if false = 0
