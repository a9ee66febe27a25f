-- What each thing that can happen to an account does to it, as statements.
use Rattle.std.specs.Prelude.{◌≡◌, ◌⊎◌, ◌≤◌, true, false, ℕ, List, Option, IsTrue, IsFalse, ◌≢◌, Contains, ◌==◌, ◌<◌, zero, suc, [], ◌∷◌, if◌then◌else◌}
use Rattle.lt_modes.specs.declared.mode.Mode.{Mode}
use Rattle.lt_modes.specs.declared.stamp.Stamp.{Stamp}
use Rattle.lt_modes.specs.declared.ask.Ask.{Ask}
use Rattle.lt_modes.specs.Modes.{Modes, with_mode, held_modes, conflicts, no_modes, union}
use Rattle.lt_modes.specs.State.{Tell, first_entry}
use Rattle.lt_modes.specs.Telling.{is_newer}
use Rattle.lt_modes.specs.declared.parts.Row.{Row}
use Rattle.lt_lists.specs.Below.{put}
use Rattle.lt_law_accounts.specs.Account.{Account, AccountKept, Bars, IsBelow, AreClear, counted}
use Rattle.lt_law_accounts.specs.AccountSteps.{MayTick, ticked, MayAsk, asking, MayGrant, granting, unlocking, dropping, MayAnswer, answering, MayOwe, owing_copy, MayDeliver, delivering, MayApply, applying, MayTell, telling, MaySettle, settling, arriving, MayRest, resting, freezing, MayReorder, reordering, MayVoid, voiding, voiding_copy}

-- what counts bars the same as before
abbrev pub CountsSame : Account → Account → Type 0
CountsSame before after = IsBelow (counted after) (counted before) × IsBelow (counted before) (counted after)

-- what counts bars no more than before
abbrev pub CountsLess : Account → Account → Type 0
CountsLess before after = IsBelow (counted after) (counted before)

-- what counts bars no more than before, or than that with one mode that the others don't bar
abbrev pub CountsOneMore : Modes → Mode → Account → Account → Type 0
CountsOneMore others mode before after =
    IsBelow (counted after) (counted before)
    ⊎ (IsBelow (counted after) (with_mode (counted before) mode) × (Bars others mode → ⊥))

abbrev pub Ticks : Type 0
Ticks = (a : Account) (clock : ℕ) → AccountKept a → MayTick clock a
    → AccountKept (ticked clock a) × CountsSame a (ticked clock a)

-- the clock of a node may grow while the set isn't touched; nothing else changes
abbrev pub Ages : Type 0
Ages = (a : Account) (clock : ℕ) → AccountKept a → a.moving ≡ false → a.clock ≤ clock → AccountKept (record a { clock = clock })

abbrev pub Asks : Type 0
Asks = (a : Account) (ask : Ask) → AccountKept a → MayAsk ask a → AccountKept (asking ask a) × CountsSame a (asking ask a)

abbrev pub Grants : Type 0
Grants = (a : Account) (others : Modes) (client : ℕ) (mode : Mode) (gives_up : Option Mode) → AccountKept a → a.moving ≡ true
    → MayGrant others client mode a → AreClear (counted a) others
    → AccountKept (granting client mode gives_up a) × CountsOneMore others mode a (granting client mode gives_up a)

abbrev pub Unlocks : Type 0
Unlocks = (a : Account) (client : ℕ) (mode : Mode) → AccountKept a → a.moving ≡ true
    → AccountKept (unlocking client mode a) × CountsLess a (unlocking client mode a)

abbrev pub Drops : Type 0
Drops = (a : Account) (client : ℕ) → AccountKept a → a.moving ≡ true
    → AccountKept (dropping client a) × CountsLess a (dropping client a)

abbrev pub AnswersKeep : Type 0
AnswersKeep = (a : Account) (others : Modes) (ask : Ask) → AccountKept a → MayAnswer others ask a
    → AccountKept (answering ask a) × CountsOneMore others ask.mode a (answering ask a)

abbrev pub Owes : Type 0
Owes = (a : Account) (others : Modes) (ask : Ask) (copies : List Ask) → AccountKept a → MayOwe others ask copies a
    → AccountKept (owing_copy ask copies a) × CountsOneMore others ask.mode a (owing_copy ask copies a)

abbrev pub Delivers : Type 0
Delivers = (a : Account) (ask : Ask) (copies : List Ask) → AccountKept a → MayDeliver ask copies a
    → AccountKept (delivering ask copies a) × CountsLess a (delivering ask copies a)

abbrev pub Voids : Type 0
Voids = (a : Account) (ask : Ask) → AccountKept a → MayVoid ask a → AccountKept (voiding ask a) × CountsLess a (voiding ask a)

abbrev pub VoidsCopies : Type 0
VoidsCopies = (a : Account) (ask : Ask) (copies : List Ask) → AccountKept a → MayDeliver ask copies a
    → AccountKept (voiding_copy ask copies a) × CountsLess a (voiding_copy ask copies a)

abbrev pub Applies : Type 0
Applies = (a : Account) (tell : Tell) (tells : List Tell) → AccountKept a → MayApply tell tells a
    → IsTrue (is_newer tell.stamp a.entry.told_at)
    → AccountKept (applying tell tells a) × CountsLess a (applying tell tells a)

abbrev pub AppliesStale : Type 0
AppliesStale = (a : Account) (tell : Tell) (tells : List Tell) → AccountKept a → MayApply tell tells a
    → IsFalse (is_newer tell.stamp a.entry.told_at)
    → AccountKept (applying tell tells a) × CountsSame a (applying tell tells a)

abbrev pub TellsKeep : Type 0
TellsKeep = (a : Account) (stamp : Stamp) (tells : List Tell) → AccountKept a → MayTell stamp tells a
    → AccountKept (telling tells a) × CountsSame a (telling tells a)

abbrev pub Settles : Type 0
Settles = (a : Account) (stamp : Stamp) → AccountKept a → MaySettle stamp a
    → AccountKept (settling stamp a) × CountsSame a (settling stamp a)

abbrev pub Arrives : Type 0
Arrives = (a : Account) → AccountKept a → a.here ≡ false → AccountKept (arriving a) × CountsLess a (arriving a)

abbrev pub Rests : Type 0
Rests = (a : Account) → AccountKept a → MayRest a → AccountKept (resting a) × CountsSame a (resting a)

abbrev pub Freezes : Type 0
Freezes = (a : Account) (frozen : Modes) → AccountKept a → AccountKept (freezing frozen a) × CountsSame a (freezing frozen a)

abbrev pub Reorders : Type 0
Reorders = (a : Account) (tells : List Tell) (copies : List Ask) → AccountKept a → MayReorder tells copies a
    → AccountKept (reordering tells copies a) × CountsSame a (reordering tells copies a)

-- where what counts of one node is clear of what counts of another, so is what they hold
abbrev pub HoldClear : Type 0
HoldClear = (a b : Account) → AccountKept a → AccountKept b → AreClear (counted a) (counted b)
    → AreClear (held_modes a.held) (held_modes b.held)

-- Accounts of several nodes, to which things happen in any order. A clock that goes on without a move is a tick and a rest.
-- That there is one desk is not asked: what counts of all other nodes is what each step is tested against.

-- one thing that happens to an account
pub data AccountStep : Type 0 where
  Tick : ℕ → AccountStep
  Wait : Ask → AccountStep
  Grant : ℕ → Mode → Option Mode → AccountStep
  Unlock : ℕ → Mode → AccountStep
  Drop : ℕ → AccountStep
  Answer : Ask → AccountStep
  Owe : Ask → List Ask → AccountStep
  Deliver : Ask → List Ask → AccountStep
  Void : Ask → AccountStep
  VoidCopy : Ask → List Ask → AccountStep
  Apply : Tell → List Tell → AccountStep
  Say : Stamp → List Tell → AccountStep
  Settle : Stamp → AccountStep
  Arrive : AccountStep
  Rest : AccountStep
  Freeze : Modes → AccountStep
  Reorder : List Tell → List Ask → AccountStep

abbrev pub after_step : AccountStep → Account → Account
after_step (Tick clock) a = ticked clock a
after_step (Wait ask) a = asking ask a
after_step (Grant client mode gives_up) a = granting client mode gives_up a
after_step (Unlock client mode) a = unlocking client mode a
after_step (Drop client) a = dropping client a
after_step (Answer ask) a = answering ask a
after_step (Owe ask copies) a = owing_copy ask copies a
after_step (Deliver ask copies) a = delivering ask copies a
after_step (Void ask) a = voiding ask a
after_step (VoidCopy ask copies) a = voiding_copy ask copies a
after_step (Apply tell tells) a = applying tell tells a
after_step (Say stamp tells) a = telling tells a
after_step (Settle stamp) a = settling stamp a
after_step Arrive a = arriving a
after_step Rest a = resting a
after_step (Freeze frozen) a = freezing frozen a
after_step (Reorder tells copies) a = reordering tells copies a

-- it may happen, where this counts of all other nodes
abbrev pub MayStep : Modes → AccountStep → Account → Type 0
MayStep others (Tick clock) a = MayTick clock a
MayStep others (Wait ask) a = MayAsk ask a
MayStep others (Grant client mode gives_up) a = (a.moving ≡ true) × MayGrant others client mode a
MayStep others (Unlock client mode) a = a.moving ≡ true
MayStep others (Drop client) a = a.moving ≡ true
MayStep others (Answer ask) a = MayAnswer others ask a
MayStep others (Owe ask copies) a = MayOwe others ask copies a
MayStep others (Deliver ask copies) a = MayDeliver ask copies a
MayStep others (Void ask) a = MayVoid ask a
MayStep others (VoidCopy ask copies) a = MayDeliver ask copies a
MayStep others (Apply tell tells) a = MayApply tell tells a
MayStep others (Say stamp tells) a = MayTell stamp tells a
MayStep others (Settle stamp) a = MaySettle stamp a
MayStep others Arrive a = a.here ≡ false
MayStep others Rest a = MayRest a
MayStep others (Freeze frozen) a = Unit {0}
MayStep others (Reorder tells copies) a = MayReorder tells copies a

-- what counts of the nodes below n, without node v
abbrev pub others_counted : ℕ → (ℕ → Account) → ℕ → Modes
others_counted zero accounts v = no_modes
others_counted (suc n) accounts v =
    union (others_counted n accounts v) (if n == v then no_modes else counted (accounts n))

-- what happens to the account of this node
pub record Happening : Type 0 where
  pub node : ℕ
  pub step : AccountStep

-- the accounts after one thing more
abbrev pub after_one : (ℕ → Account) → Happening → ℕ → Account
after_one accounts h = put accounts h.node (after_step h.step (accounts h.node))

abbrev pub after_all : (ℕ → Account) → List Happening → ℕ → Account
after_all accounts [] = accounts
after_all accounts (h ∷ rest) = after_all (after_one accounts h) rest

-- each may happen in its turn, to one of the nodes below n
abbrev pub MayHappen : ℕ → (ℕ → Account) → List Happening → Type 0
MayHappen n accounts [] = Unit {0}
MayHappen n accounts (h ∷ rest) =
    (h.node < n) × MayStep (others_counted n accounts h.node) h.step (accounts h.node) × MayHappen n (after_one accounts h) rest

-- what counts of different nodes below n is clear of each other
abbrev pub AllClear : ℕ → (ℕ → Modes) → Type 0
AllClear n counts = (x y : ℕ) → x < n → y < n → x ≢ y → AreClear (counts x) (counts y)

-- each account is kept, and what counts of different nodes is clear of each other
pub record AllKept (n : ℕ) (accounts : ℕ → Account) : Type 0 where
  pub kept : (x : ℕ) → x < n → AccountKept (accounts x)
  pub clear : AllClear n (λ x. counted (accounts x))

-- what counts of x bars no more than before, or than that with one mode that no other node bars
abbrev pub CountsOn : ℕ → (ℕ → Modes) → ℕ → Modes → Type 0
CountsOn n counts x now =
    IsBelow now (counts x)
    ⊎ ((mode : Mode) × IsBelow now (with_mode (counts x) mode) × ((y : ℕ) → y < n → y ≢ x → Bars (counts y) mode → ⊥))

-- what counts of one node may so change, and all stays clear
abbrev pub ClearStays : Type 0
ClearStays = (n x : ℕ) (counts : ℕ → Modes) (now : Modes) → AllClear n counts → x < n → CountsOn n counts x now → AllClear n (put counts x now)

-- nothing is held, asked, told or on its way, and one node has the desk
abbrev pub first_account : ℕ → ℕ → Account
first_account desk x = record {
  clock = 0;
  held = [];
  charge = no_modes;
  pending = [];
  entry = first_entry;
  tells = [];
  copies = [];
  here = x == desk;
  moving = false;
}

abbrev pub FirstAccounts : Type 0
FirstAccounts = (n desk : ℕ) → AllKept n (first_account desk)

-- locks of different clients don't conflict, whether of one node or of two
abbrev pub LocksAgree : ℕ → (ℕ → Account) → Type 0
LocksAgree n accounts = (x y : ℕ) (a b : Row) → x < n → y < n → Contains (accounts x).held a → Contains (accounts y).held b
    → (x ≢ y) ⊎ (a.client ≢ b.client) → IsFalse (conflicts a.mode b.mode)

-- whatever happens, in any order in which it may: the accounts are kept, what counts of different nodes is clear of each
-- other, and locks of different clients don't conflict
abbrev pub AnyOrder : Type 0
AnyOrder = (n : ℕ) (accounts : ℕ → Account) (happenings : List Happening) → AllKept n accounts → MayHappen n accounts happenings
    → AllKept n (after_all accounts happenings) × LocksAgree n (after_all accounts happenings)

-- so it is from the start on
abbrev pub FromTheStart : Type 0
FromTheStart = (n desk : ℕ) (happenings : List Happening) → MayHappen n (first_account desk) happenings
    → LocksAgree n (after_all (first_account desk) happenings)
