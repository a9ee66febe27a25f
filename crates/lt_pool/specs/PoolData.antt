-- What contracts see of a pool and of its badges.
use Rattle.std.specs.Prelude.{◌≡◌, ◌+◌, ℕ, List, [], ◌∷◌, ◌++◌, length}
use Rattle.atomic_table.specs.Seated.{TableId}
use Rattle.lt_pool.specs.declared.view.Access.{Access}
use Rattle.lt_pool.specs.History.{KnowsAllBy, longer}
use Rattle.lt_pool.specs.Rule.{without_first}

-- a pool: which one it is, and the items that it was made of, in order of their slots
pub record PoolData (T : Type 0) : Type 0 where
  pub table : TableId
  pub firsts : List T

-- a table for these items: it has a slot for each, a word for each slot, and one word before them
abbrev pub IsTableOf : {T : Type 0} → List T → TableId → Type 0
IsTableOf firsts table = (table.words ≡ table.slots + 1) × (length firsts ≡ table.slots)

-- A badge: the pool that it is of, and its number.
-- The slots that it has claimed, the last one first, and its refused claims, each a slot and the word that it read.
-- How many badges were split off it, and the numbers of those that were joined into it.
-- The accesses of the pool's slots up to the last one that it made, or that a badge made that was joined into it.
pub record BadgeData (T : Type 0) : Type 0 where
  pub pool : PoolData T
  pub number : ℕ
  pub claimed : List ℕ
  pub refused : List (ℕ × ℕ)
  pub splits : ℕ
  pub joined : List ℕ
  pub history : List Access

module _ {T : Type 0} where
  -- the badge with this number as it begins
  abbrev pub new_badge : PoolData T → ℕ → BadgeData T
  new_badge pool number = record {
    pool = pool;
    number = number;
    claimed = [];
    refused = [];
    splits = 0;
    joined = [];
    history = [];
  }

  -- the badge has slot i too
  abbrev pub after_claim : ℕ → BadgeData T → BadgeData T
  after_claim i badge = record badge { claimed = i ∷ badge.claimed }

  -- a claim of slot i was refused, for this word
  abbrev pub after_refusal : ℕ → ℕ → BadgeData T → BadgeData T
  after_refusal i word badge = record badge { refused = badge.refused ++ (i, word) ∷ [] }

  -- the badge no longer has slot i
  abbrev pub after_give : ℕ → BadgeData T → BadgeData T
  after_give i badge = record badge { claimed = without_first i badge.claimed }

  -- a further badge was split off the badge
  abbrev pub after_split : BadgeData T → BadgeData T
  after_split badge = record badge { splits = badge.splits + 1 }

  -- the other badge was joined into the badge
  abbrev pub after_join : BadgeData T → BadgeData T → BadgeData T
  after_join other badge = record badge {
    joined = badge.joined ++ other.number ∷ [];
    history = longer badge.history other.history;
  }

  -- the badge is as this one, whatever its history
  abbrev pub SameButHistory : BadgeData T → BadgeData T → Type 0
  SameButHistory old badge = badge ≡ record old { history = badge.history }

  -- the badge made this access, after accesses that others made since its last one
  abbrev pub Accesses : Access → BadgeData T → BadgeData T → Type 0
  Accesses access old new =
      (before : List Access) × (new.history ≡ access ∷ before) × KnowsAllBy old.number old.history before
