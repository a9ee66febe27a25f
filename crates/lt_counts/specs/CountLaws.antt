-- What counted numbers say of all moves.
use Rattle.std.specs.Prelude.{◌≡◌, ◌<◌, ◌^◌, ℕ, List, [], length, take, drop}
use Rattle.lt_spec.specs.World.{Logged}
use Rattle.lt_counts.specs.declared.counted.Counted.{Counted}
use Rattle.lt_counts.specs.Counting.{count_of_moves, and_more, place_of_count, counted_at, AddsMoves}

-- each number says how many lines of these moves are counted so in the set, as far as 64 bits can
abbrev pub AreCountsOf : List Logged → List ℕ → Type 0
AreCountsOf moves counts = (set : ℕ) (kind : Counted) → place_of_count set kind < length counts
    → counted_at counts set kind ≡ and_more 0 (count_of_moves set kind moves)

-- where all numbers are 0, no move was counted
abbrev pub CountNone : Type 0
CountNone = (counts : List ℕ) → ((set : ℕ) (kind : Counted) → counted_at counts set kind ≡ 0) → AreCountsOf [] counts

-- those of the first moves, with those of the others added, are those of all
abbrev pub CountAll : Type 0
CountAll = (moves : List Logged) (first : ℕ) (old new : List ℕ) → AreCountsOf (take first moves) old
    → AddsMoves (drop first moves) old new → AreCountsOf moves new

-- a number below 2^64 is exact
abbrev pub CountExactly : Type 0
CountExactly = (moves : List Logged) (counts : List ℕ) → AreCountsOf moves counts
    → (set : ℕ) (kind : Counted) → place_of_count set kind < length counts
    → count_of_moves set kind moves < 2 ^ 64 → counted_at counts set kind ≡ count_of_moves set kind moves

-- no two numbers stand at one place
abbrev pub CountApart : Type 0
CountApart = (set other : ℕ) (kind another : Counted) → place_of_count set kind ≡ place_of_count other another
    → (set ≡ other) × (kind ≡ another)
