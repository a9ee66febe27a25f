-- The accesses of the words of a pool's slots, as lists with the latest one before the others.
use Rattle.std.specs.Prelude.{◌≡◌, ◌≢◌, ◌⊎◌, ◌+◌, ◌≤◌, ◌==◌, if◌then◌else◌, ℕ, List, [], ◌∷◌, length, ltb}
use Rattle.lt_pool.specs.declared.view.Access.{Access}

-- badge n takes slot i, which is free
abbrev pub claim_access : ℕ → ℕ → Access
claim_access n i = record { by = n; slot = i; found = 0; left = n + 1 }

-- badge n is refused slot i, for the word that it finds
abbrev pub refusal_access : ℕ → ℕ → ℕ → Access
refusal_access n i word = record { by = n; slot = i; found = word; left = word }

-- badge n makes slot i free
abbrev pub give_access : ℕ → ℕ → Access
give_access n i = record { by = n; slot = i; found = n + 1; left = 0 }

-- what these accesses leave in the word of slot i, which is 0 at first
abbrev pub word_left_in : ℕ → List Access → ℕ
word_left_in i [] = 0
word_left_in i (a ∷ before) = if i == a.slot then a.left else word_left_in i before

-- each access found what those before it left
abbrev pub FindsWhatWasLeft : List Access → Type 0
FindsWhatWasLeft [] = Unit {0}
FindsWhatWasLeft (a ∷ before) = (a.found ≡ word_left_in a.slot before) × FindsWhatWasLeft before

-- all are by badges with numbers up to this one
abbrev pub AreByUpTo : ℕ → List Access → Type 0
AreByUpTo most [] = Unit {0}
AreByUpTo most (a ∷ before) = (a.by ≤ most) × AreByUpTo most before

-- the known accesses are all but the latest ones, and none of those is by badge n
abbrev pub KnowsAllBy : ℕ → List Access → List Access → Type 0
KnowsAllBy n known [] = known ≡ []
KnowsAllBy n known (a ∷ before) = (known ≡ a ∷ before) ⊎ ((a.by ≢ n) × KnowsAllBy n known before)

-- the longer one of two, where each is the other one without some of the latest accesses
abbrev pub longer : List Access → List Access → List Access
longer xs ys = if ltb (length xs) (length ys) then ys else xs
