-- Items that continue those that a pool was made of.
use Rattle.std.specs.Prelude.{◌≡◌, ◌<◌, length, ℕ, List, Option, Some, None, slice_get, ◌⊎◌, ◌==◌, [], ◌∷◌, if◌then◌else◌, ◌≢◌, ◌+◌, ◌≤◌, true, map, slice_index}
use Rattle.std.specs.List.{AllByRecursion}
use mathlib.Core.Option.{some}
use lib.ListN.{get_elem?}
use mathlib.Core.Option as math
use Rattle.atomic_table.specs.Table.{State}
use Rattle.lt_pool.specs.declared.view.View.{View}
use Rattle.lt_pool.specs.declared.view.Access.{Access}
use Rattle.lt_pool.specs.History.{word_left_in, FindsWhatWasLeft, AreByUpTo, KnowsAllBy}

-- x continues the first item of slot i
abbrev pub ContinuesAt : {T : Type 0} → (T → T → Type 0) → List T → ℕ → T → Type 0
ContinuesAt {T} continues firsts i x = (first : T) × (slice_get firsts i ≡ Some first) × continues first x

-- both are there and go together, or neither is there
abbrev pub AlikeItems : {X : Type 0} → (X → X → Type 0) → Option X → Option X → Type 0
AlikeItems R None None = Unit {0}
AlikeItems R None (Some y) = ⊥
AlikeItems R (Some x) None = ⊥
AlikeItems R (Some x) (Some y) = R x y

-- each item continues the first item at its place, and there are as many
abbrev pub EachContinues : {T : Type 0} → (T → T → Type 0) → List T → List T → Type 0
EachContinues continues firsts items = (k : ℕ) → AlikeItems continues (slice_get firsts k) (slice_get items k)

-- there is a value at each place
abbrev pub AllSome : {T : Type 0} → List (Option T) → Type 0
AllSome {T} xs = (i : ℕ) → i < length xs → (x : T) × (get_elem? xs i ≡ some (Some x))

-- Lists of numbers of slots and of badges.

-- i is one of the numbers
abbrev pub Has : ℕ → List ℕ → Type 0
Has i [] = ⊥
Has i (x ∷ xs) = (i ≡ x) ⊎ Has i xs

-- the numbers without the first i
abbrev pub without_first : ℕ → List ℕ → List ℕ
without_first i [] = []
without_first i (x ∷ xs) = if i == x then xs else x ∷ without_first i xs

-- no number stands twice
abbrev pub AllDiffer : List ℕ → Type 0
AllDiffer [] = Unit {0}
AllDiffer (x ∷ xs) = (Has x xs → ⊥) × AllDiffer xs

-- The rule of a pool's table: what holds between any two steps.

-- the slots that a seat has between claim and give: their items are in the hands of the badge's worker
abbrev pub empty_hands : {T : Type 0} → List ℕ → List (ℕ × Option T)
empty_hands slots = map (λ slot. (slot, None)) slots

-- no refused claim read 0
abbrev pub NoneReadZero : List (ℕ × ℕ) → Type 0
NoneReadZero refused = AllByRecursion (λ (claim : ℕ × ℕ). claim.1 ≢ 0) refused

module _ {T : Type 0} where
  -- seat j has the view v, and its badge is live
  pub record IsLive (views : List (View T)) (j : ℕ) (v : View T) : Type 0 where
    pub there : get_elem? views j ≡ some v
    pub live : v.live ≡ true

  -- no two live badges have one number
  abbrev pub Apart : List (View T) → Type 0
  Apart views = (j k : ℕ) (v w : View T) → IsLive views j v → IsLive views k w → v.number ≡ w.number → j ≡ k

  -- The numbers of the badges that were joined differ, from each other and from those of live ones.
  -- They are from 1 to the number of splits.
  pub record AreJoined (views : List (View T)) (first : View T) : Type 0 where
    pub differ : AllDiffer first.joined
    pub spent : (j : ℕ) (v : View T) → IsLive views j v → Has v.number first.joined → ⊥
    pub below : (n : ℕ) → Has n first.joined → (0 < n) × (n ≤ first.splits)

  -- Seat 0 is of the first badge, which has number 0.
  -- Each other live badge was split off it and not joined since; those have numbers from 1 to the number of splits.
  pub record First (views : List (View T)) : Type 0 where
    pub view : View T
    pub is : IsLive views 0 view
    pub number : view.number ≡ 0
    pub others : (j : ℕ) (v : View T) → IsLive views j v → j ≢ 0 → Has v.number view.out
    pub below : (n : ℕ) → Has n view.out → (0 < n) × (n ≤ view.splits)
    pub counted : length view.out + length view.joined ≡ view.splits
    pub joined : AreJoined views view

  -- a live badge has claimed slot i
  pub record Owner (views : List (View T)) (i : ℕ) : Type 0 where
    pub seat : ℕ
    pub view : View T
    pub is : IsLive views seat view
    pub has : Has i view.claimed

  -- what a live badge knows: the words of its slots have its number plus 1, and none of its refused claims read 0
  pub record Knows (firsts : List T) (words : List ℕ) (v : View T) : Type 0 where
    pub told : v.firsts ≡ firsts
    pub claims : (i : ℕ) → Has i v.claimed → (i < length firsts) × (slice_index words (i + 1) ≡ v.number + 1)
    pub differ : AllDiffer v.claimed
    pub refusals : NoneReadZero v.refused

  -- The pool's history: all accesses so far, the latest before the others.
  -- Each found what those before it left, and what they leave is in the words of the slots.
  -- Each live badge knows all accesses up to the last one of its own, and one knows them all.
  pub record Recorded (firsts : List T) (words : List ℕ) (views : List (View T)) : Type 0 where
    pub history : List Access
    pub found : FindsWhatWasLeft history
    pub left : (i : ℕ) → i < length firsts → slice_index words (i + 1) ≡ word_left_in i history
    pub known : (j : ℕ) (v : View T) → IsLive views j v → KnowsAllBy v.number v.history history
    pub latest : (j : ℕ) × (v : View T) × IsLive views j v × (v.history ≡ history)
    pub by : (first : View T) → IsLive views 0 first → AreByUpTo first.splits history

  module _ (continues : T → T → Type 0) where
    -- the item of slot i is at home, and continues its first one
    pub record Home (firsts : List T) (homes : List (math.Option (Option T))) (i : ℕ) : Type 0 where
      pub item : T
      pub there : get_elem? homes i ≡ some (some (Some item))
      pub fits : ContinuesAt continues firsts i item

    -- There is a word for each slot, and one before them, which is 0.
    -- Where a slot's word is 0, its item is at home; else a live badge has claimed it.
    pub record Kept (firsts : List T) (s : State (Option T) (View T)) : Type 0 where
      pub wide : length s.words ≡ length firsts + 1
      pub unused : slice_index s.words 0 ≡ 0
      pub rows : length s.homes ≡ length firsts
      pub free : (i : ℕ) → i < length firsts → slice_index s.words (i + 1) ≡ 0 → Home firsts s.homes i
      pub taken : (i : ℕ) → i < length firsts → slice_index s.words (i + 1) ≢ 0 → Owner s.views i
      pub knows : (j : ℕ) (v : View T) → IsLive s.views j v → Knows firsts s.words v
      pub apart : Apart s.views
      pub first : First s.views
      pub recorded : Recorded firsts s.words s.views
