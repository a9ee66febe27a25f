-- Where the items of a pool are, what the numbers of its badges are, and what its words were found to be.
use Rattle.std.specs.Prelude.{◌≡◌, ◌⊎◌, ◌+◌, ◌<◌, ◌≤◌, ℕ, List, ◌∷◌, Option, length, slice_index, slice_set}
use Rattle.atomic_table.specs.Table.{State}
use Rattle.lt_pool.specs.declared.view.View.{View}
use Rattle.lt_pool.specs.declared.view.Access.{Access}
use Rattle.lt_pool.specs.History.{refusal_access, KnowsAllBy}
use Rattle.lt_pool.specs.Rule.{Has, AllDiffer, IsLive, Apart, Owner, Home, Kept}

module _ {T : Type 0} where
  -- a live badge has claimed slot i, no other one has, and the slot's word has its number plus 1
  pub record InOneHand (s : State (Option T) (View T)) (i : ℕ) : Type 0 where
    pub owner : Owner s.views i
    pub word : slice_index s.words (i + 1) ≡ owner.view.number + 1
    pub only : (j : ℕ) (v : View T) → IsLive s.views j v → Has i v.claimed → j ≡ owner.seat

  -- the numbers of the live badges and of those that were joined into the first one all differ
  pub record AllNumbersDiffer (views : List (View T)) (first : View T) : Type 0 where
    pub live : Apart views
    pub joined : AllDiffer first.joined
    pub spent : (j : ℕ) (v : View T) → IsLive views j v → Has v.number first.joined → ⊥

  -- they are at most the number of badges that were split off
  pub record AllNumbersAreLow (views : List (View T)) (first : View T) : Type 0 where
    pub live : (j : ℕ) (v : View T) → IsLive views j v → v.number ≤ first.splits
    pub joined : (n : ℕ) → Has n first.joined → (0 < n) × (n ≤ first.splits)

  -- a step of seat `id` is the last one in its badge's history, and it was refused slot i for this word
  pub record Refuses (s t : State (Option T) (View T)) (id i word : ℕ) : Type 0 where
    pub old : View T
    pub new : View T
    pub was : IsLive s.views id old
    pub is : IsLive t.views id new
    pub else : t.views ≡ slice_set s.views id new
    pub before : List Access
    pub last : new.history ≡ refusal_access old.number i word ∷ before
    pub others : KnowsAllBy old.number old.history before

  module _ (continues : T → T → Type 0) where
    -- the item of slot i is at home, no live badge has claimed the slot, and the slot's word is 0
    pub record AtHome (firsts : List T) (s : State (Option T) (View T)) (i : ℕ) : Type 0 where
      pub free : slice_index s.words (i + 1) ≡ 0
      pub item : Home continues firsts s.homes i
      pub nobody : (j : ℕ) (v : View T) → IsLive s.views j v → Has i v.claimed → ⊥

    -- wherever the rule holds, each item is at home or in one hand
    abbrev pub EachInOnePlace : Type 0
    EachInOnePlace =
        (firsts : List T) (s : State (Option T) (View T)) → Kept continues firsts s
        → (i : ℕ) → i < length firsts → AtHome firsts s i ⊎ InOneHand s i

    -- wherever the rule holds, no number is that of two badges, and none is greater than the number of splits
    abbrev pub EachNumberIsOne : Type 0
    EachNumberIsOne =
        (firsts : List T) (s : State (Option T) (View T)) → Kept continues firsts s
        → (first : View T) → IsLive s.views 0 first
        → (first.number ≡ 0) × AllNumbersDiffer s.views first × AllNumbersAreLow s.views first

    -- where the rule holds before and after a step that was refused a slot, the slot's word is the one that it tells
    abbrev pub EachRefusalIsTrue : Type 0
    EachRefusalIsTrue =
        (firsts : List T) (s t : State (Option T) (View T)) → Kept continues firsts s → Kept continues firsts t
        → (id i word : ℕ) → i < length firsts → Refuses s t id i word → slice_index t.words (i + 1) ≡ word
