-- What a node is told of frozen modes, and what holds of it.
use Rattle.std.specs.Prelude.{◌≡◌, ◌⊎◌, ◌≤◌, ◌<◌, Bool, true, false, ℕ, List, IsFalse, Contains, nat_lt, ◌+◌, if◌then◌else◌, IsTrue, []}
use Rattle.lt_modes.specs.Modes.{Modes, has_none, same_modes}
use Rattle.lt_law_accounts.specs.AccountSteps.{IsGain, IsLoss, HaveSame}

-- frozen modes, with the number of the freeze that says so
pub record Notice : Type 0 where
  pub number : ℕ
  pub modes : Modes

-- the number and the frozen modes that a node keeps, and the freezes on their way to it; its record and what the desk told
-- it last; the desk's last number and what its queue freezes; whether the desk is here; and whether the desk's node is in a
-- move on the set and hasn't frozen in it yet
pub record News : Type 0 where
  pub number : ℕ
  pub frozen : Modes
  pub coming : List Notice
  pub recorded : Modes
  pub told : Modes
  pub last : ℕ
  pub wanted : Modes
  pub here : Bool
  pub serving : Bool

-- what the node keeps, or a freeze on its way to it with a greater number
abbrev pub IsNotice : News → Notice → Type 0
IsNotice n notice =
    (notice ≡ record { number = n.number; modes = n.frozen }) ⊎ (Contains n.coming notice × (n.number < notice.number))

-- no other notice to the node has a greater number
abbrev pub IsLastNotice : News → Notice → Type 0
IsLastNotice n notice = IsNotice n notice × ((other : Notice) → IsNotice n other → other.number ≤ notice.number)

-- neither what a node keeps nor a freeze has a number above the desk's; the last notice to a node is what the desk told it;
-- and, unless the desk's node has yet to freeze in its move, a node with a record was told what the queue freezes, and the
-- desk's node keeps it
pub record NewsKept (n : News) : Type 0 where
  pub kept : n.number ≤ n.last
  pub sent : (notice : Notice) → Contains n.coming notice → notice.number ≤ n.last
  pub here : n.here ≡ true → n.serving ≡ false → (n.number ≡ n.last) × (n.frozen ≡ n.wanted)
  pub last_notice : n.here ≡ false → (notice : Notice) → IsLastNotice n notice → notice.modes ≡ n.told
  pub told : n.here ≡ false → n.serving ≡ false → IsFalse (has_none n.recorded) → n.told ≡ n.wanted

-- What can happen to the news of a node: for each thing what changes, and when it may happen.

-- begin: the desk's node begins a move
abbrev pub beginning : News → News
beginning n = record n { serving = true }

-- change: in a move of the desk's node its queue and the node's record change
abbrev pub changing : Modes → Modes → News → News
changing recorded wanted n = record n { recorded = recorded; wanted = wanted }

-- send: the desk's node freezes, and the node is told, with the next number
abbrev pub sending : List Notice → News → News
sending coming n = record n { coming = coming; told = n.wanted; last = n.last + 1; serving = false }

pub record MaySend (coming : List Notice) (n : News) : Type 0 where
  pub away : n.here ≡ false
  pub sent : IsGain (record { number = n.last + 1; modes = n.wanted }) n.coming coming

-- spare: the desk's node freezes, and the node isn't told, since it has no record or knows
abbrev pub sparing : ℕ → News → News
sparing last n = record n { last = last; serving = false }

pub record MaySpare (last : ℕ) (n : News) : Type 0 where
  pub away : n.here ≡ false
  pub later : n.last ≤ last
  pub knows : IsTrue (has_none n.recorded) ⊎ IsTrue (same_modes n.told n.wanted)

-- keep: the desk's node freezes, and keeps the modes itself
abbrev pub keeping : ℕ → News → News
keeping last n =
    record n { number = last; frozen = n.wanted; told = n.wanted; last = last; serving = false }

pub record MayKeep (last : ℕ) (n : News) : Type 0 where
  pub here : n.here ≡ true
  pub later : n.last ≤ last

-- take: a freeze comes, and is kept where its number is greater
abbrev pub taking : Notice → List Notice → News → News
taking notice coming n = record n {
  number = if nat_lt n.number notice.number then notice.number else n.number;
  frozen = if nat_lt n.number notice.number then notice.modes else n.frozen;
  coming = coming;
}

pub record MayTake (notice : Notice) (coming : List Notice) (n : News) : Type 0 where
  pub came : Contains n.coming notice
  pub left : IsLoss notice n.coming coming

-- leave: the desk leaves, after freezing, with this record of the node
abbrev pub news_leaving : Modes → News → News
news_leaving recorded n = record n { recorded = recorded; here = false }

pub record MayLeave (n : News) : Type 0 where
  pub here : n.here ≡ true
  pub frozen : n.serving ≡ false
  pub knows : n.told ≡ n.wanted

-- arrive: the desk comes, in a move of this node
abbrev pub arriving : News → News
arriving n = record n { here = true; serving = true }

-- What each thing that can happen to the news of a node does to it, as statements.

abbrev pub BeginsKeep : Type 0
BeginsKeep = (n : News) → NewsKept n → NewsKept (beginning n)

abbrev pub Changes : Type 0
Changes = (n : News) (recorded wanted : Modes) → NewsKept n → n.serving ≡ true → NewsKept (changing recorded wanted n)

abbrev pub Sends : Type 0
Sends = (n : News) (coming : List Notice) → NewsKept n → MaySend coming n → NewsKept (sending coming n)

abbrev pub Spares : Type 0
Spares = (n : News) (last : ℕ) → NewsKept n → MaySpare last n → NewsKept (sparing last n)

abbrev pub Keeps : Type 0
Keeps = (n : News) (last : ℕ) → NewsKept n → MayKeep last n → NewsKept (keeping last n)

abbrev pub TakesKeep : Type 0
TakesKeep = (n : News) (notice : Notice) (coming : List Notice) → NewsKept n → MayTake notice coming n → NewsKept (taking notice coming n)

abbrev pub Leaves : Type 0
Leaves = (n : News) (recorded : Modes) → NewsKept n → MayLeave n → NewsKept (news_leaving recorded n)

abbrev pub Arrives : Type 0
Arrives = (n : News) → NewsKept n → NewsKept (arriving n)

abbrev pub Reorders : Type 0
Reorders = (n : News) (coming : List Notice) → NewsKept n → HaveSame n.coming coming → NewsKept (record n { coming = coming })

-- between moves of the desk's node, with no freeze on its way, a node that has a record or the desk keeps what the queue freezes
abbrev pub FrozenAtRest : Type 0
FrozenAtRest = (n : News) → NewsKept n → n.serving ≡ false → n.coming ≡ [] → (n.here ≡ true) ⊎ IsFalse (has_none n.recorded)
    → n.frozen ≡ n.wanted
