-- What the steps on the word of a slot tell, of a badge's view and the slots that its seat has, before and after.
use Rattle.std.specs.Prelude.{◌≡◌, ◌≢◌, ◌-◌, ℕ, true, List, ◌∷◌, Option, Some}
use Rattle.atomic_table.specs.Table.{Me, Step, rest}
use Rattle.lt_pool.specs.declared.view.View.{View}
use Rattle.lt_pool.specs.declared.view.Access.{Access}
use Rattle.lt_pool.specs.History.{KnowsAllBy}
use Rattle.lt_pool.specs.Rule.{without_first, ContinuesAt, empty_hands}
use Rattle.lt_pool.specs.Views.{claimed_more, refused_more, claimed_less, brought_forward}

-- a badge's view, and the slots that its seat has, each with what lies in it
abbrev pub Mine : Type 0 → Type 0
Mine T = Me (Option T) (View T)

module _ {T : Type 0} where
  -- a live badge between its calls, with this number and these splits: the items of its slots are in its worker's hands
  abbrev pub IsBadge : ℕ → ℕ → Mine T → Type 0
  IsBadge number splits m =
      (m.0.live ≡ true) × (m.1 ≡ empty_hands m.0.claimed) × (number ≡ m.0.number) × (splits ≡ m.0.splits)

  -- slot i stands before the others that the seat has, and in it lies an item that continues its first one
  abbrev pub HasItem : (T → T → Type 0) → List T → ℕ → Mine T → Type 0
  HasItem continues firsts i m =
      (item : T) × (m.1 ≡ (i, Some item) ∷ rest m.1) × ContinuesAt continues firsts i item

  -- the accesses before one that the badge makes: those that it knows of, and what others made since
  abbrev pub Before : Mine T → Type 0
  Before m = (before : List Access) × KnowsAllBy m.0.number m.0.history before

  -- slot i was free and is claimed: in it lies an item that continues its first one
  abbrev pub Takes : (T → T → Type 0) → ℕ → Mine T → Mine T → Type 0
  Takes continues i m m' =
      (item : T)
      × (b : Before m)
      × (m' ≡ (claimed_more i b.0 m.0, (i, Some item) ∷ m.1))
      × ContinuesAt continues m.0.firsts i item

  -- slot i was refused, for the word found
  abbrev pub IsRefused : ℕ → ℕ → Mine T → Mine T → Type 0
  IsRefused i found m m' = (b : Before m) × (m' ≡ (refused_more i found b.0 m.0, m.1))

  -- slot i is before the others
  abbrev pub forwarded : ℕ → Mine T → Mine T
  forwarded i m = (brought_forward i m.0, empty_hands (i ∷ without_first i m.0.claimed))

  -- slot i, which was before the others, was given back
  abbrev pub IsReleased : ℕ → Mine T → Mine T → Type 0
  IsReleased i m m' = (b : Before m) × (m' ≡ (claimed_less i b.0 m.0, rest m.1))

  -- the slot whose word a step is on
  abbrev pub slot_of : Step (Option T) → ℕ
  slot_of st = st.word - 1

  -- the compare and exchange of a claim
  abbrev pub Claims : (T → T → Type 0) → Step (Option T) → Mine T → ℕ → Mine T → Type 0
  Claims continues st m found m' =
      (found ≡ 0 → Takes continues (slot_of st) m m') × (found ≢ 0 → IsRefused (slot_of st) found m m')

  -- the load that brings a claimed slot before the others
  abbrev pub Forwards : Step (Option T) → Mine T → ℕ → Mine T → Type 0
  Forwards st m found m' = m' ≡ forwarded (slot_of st) m

  -- the store that makes a slot free again
  abbrev pub Releases : Step (Option T) → Mine T → ℕ → Mine T → Type 0
  Releases st m found m' = IsReleased (slot_of st) m m'
