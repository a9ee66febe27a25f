-- How the work of several runners ends.
use Rattle.std.specs.Prelude.{◌≡◌, ◌<◌, ◌⊎◌, ℕ, List, [], ◌∷◌}
use Rattle.lt_runner.specs.declared.parts.Parts.{Parts}
use Rattle.lt_runner.specs.declared.turning.Worked.{Worked}
use Rattle.lt_runner.specs.declared.turning.Worked.TheVariants.{Idle, Full, NoMemory}
use Rattle.lt_runner.specs.Kept.{Grew, IsFlushed, WorkEnds}

-- as work leaves a runner that gave this answer
pub record WorkLeaves (answer : Worked) (patience : ℕ) (a b : Parts) : Type 0 where
  pub grew : Grew a b
  pub ends : WorkEnds answer patience b
  pub flushed : 0 < patience → IsFlushed b
  pub at_once : patience ≡ 0 → (answer ≡ Idle) × (b ≡ a)

-- as work leaves it that gave this answer at worst: NoMemory is worse than Full, and Full than Idle
abbrev pub WorkLeavesAtWorst : Worked → ℕ → Parts → Parts → Type 0
WorkLeavesAtWorst Idle patience a b = WorkLeaves Idle patience a b
WorkLeavesAtWorst Full patience a b = WorkLeaves Idle patience a b ⊎ WorkLeaves Full patience a b
WorkLeavesAtWorst NoMemory patience a b = (answer : Worked) × WorkLeaves answer patience a b

-- this holds of each runner, as it was and as it is
abbrev pub EachBecomes : (Parts → Parts → Type 0) → List Parts → List Parts → Type 0
EachBecomes R [] [] = Unit {0}
EachBecomes R [] (y ∷ ys) = ⊥
EachBecomes R (x ∷ xs) [] = ⊥
EachBecomes R (x ∷ xs) (y ∷ ys) = R x y × EachBecomes R xs ys

-- and this of one of them
abbrev pub OneBecomes : (Parts → Parts → Type 0) → List Parts → List Parts → Type 0
OneBecomes R [] ys = ⊥
OneBecomes R (x ∷ xs) [] = ⊥
OneBecomes R (x ∷ xs) (y ∷ ys) = R x y ⊎ OneBecomes R xs ys

-- each runner is as work leaves it that gave this answer at worst; and one as with this answer, unless that is Idle
pub record AllWorked (answer : Worked) (patience : ℕ) (xs ys : List Parts) : Type 0 where
  pub each : EachBecomes (λ a b. WorkLeavesAtWorst answer patience a b) xs ys
  pub one : (answer ≡ Idle) ⊎ OneBecomes (λ a b. WorkLeaves answer patience a b) xs ys

-- the worse of two answers
abbrev pub worse_of : Worked → Worked → Worked
worse_of Idle other = other
worse_of Full Idle = Full
worse_of Full Full = Full
worse_of Full NoMemory = NoMemory
worse_of NoMemory other = NoMemory
