-- What can happen to the account of a node: for each thing what changes, and when it may happen.
-- `others` stands for what counts of all other nodes. Moves are atomic, so a node that is sent a copy is between its own moves.
use Rattle.std.specs.Prelude.{◌≡◌, ◌⊎◌, ◌<◌, Bool, true, false, ℕ, List, [], ◌∷◌, ◌++◌, Option, if◌then◌else◌, IsTrue, IsFalse, Contains}
use Rattle.lt_modes.specs.declared.mode.Mode.{Mode}
use Rattle.lt_modes.specs.declared.stamp.Stamp.{Stamp}
use Rattle.lt_modes.specs.declared.ask.Ask.{Ask}
use Rattle.lt_modes.specs.Modes.{Modes, has, union, bars, covers, with_mode, add_lock, take_lock, without_client, own_modes, other_modes, held_modes}
use Rattle.lt_modes.specs.State.{Tell, without, record_of, still_owed}
use Rattle.lt_modes.specs.Serving.{give_up, answered, owing}
use Rattle.lt_modes.specs.Telling.{told, stamps_of}
use Rattle.lt_law_accounts.specs.Account.{Account, owed_and_waiting}

-- the later list has the item and all that the former has, and nothing else
pub record IsGain {X : Type 0} (item : X) (former later : List X) : Type 0 where
  pub gained : Contains later item
  pub kept : (x : X) → Contains former x → Contains later x
  pub only : (x : X) → Contains later x → Contains former x ⊎ (x ≡ item)

-- the later list has nothing that the former hasn't, and all of it but perhaps the item
pub record IsLoss {X : Type 0} (item : X) (former later : List X) : Type 0 where
  pub only : (x : X) → Contains later x → Contains former x
  pub kept : (x : X) → Contains former x → Contains later x ⊎ (x ≡ item)

-- the lists have the same members
pub record HaveSame {X : Type 0} (former later : List X) : Type 0 where
  pub only : (x : X) → Contains later x → Contains former x
  pub kept : (x : X) → Contains former x → Contains later x

-- tick: a move begins, with a later clock
abbrev pub ticked : ℕ → Account → Account
ticked clock a = record a { clock = clock; moving = true }

pub record MayTick (clock : ℕ) (a : Account) : Type 0 where
  pub between : a.moving ≡ false
  pub later : a.clock < clock

-- ask: a client waits
abbrev pub asking : Ask → Account → Account
asking ask a = record a { pending = a.pending ++ ask ∷ [] }

pub record MayAsk (ask : Ask) (a : Account) : Type 0 where
  pub moves : a.moving ≡ true
  pub now : ask.stamp.clock ≡ a.clock
  pub first : (own : Ask) → Contains a.pending own → own.stamp.clock < a.clock

-- grant: a client gets a lock at once
abbrev pub granting : ℕ → Mode → Option Mode → Account → Account
granting client mode gives_up a = record a { held = add_lock (give_up a.held client gives_up) client mode }

-- without the desk the charge, which still bars what is held, covers the mode;
-- at the desk neither another node nor a copy on its way here conflicts
abbrev pub MayJoin : Modes → Mode → Account → Bool → Type 0
MayJoin others mode a false = (bars (held_modes a.held) ≡ bars a.charge) × IsTrue (covers a.charge mode)
MayJoin others mode a true = IsFalse (has mode (bars (union others (owed_and_waiting a))))

-- the client's own modes cover it; or no lock of another client of the node conflicts and it may join
abbrev pub MayGrant : Modes → ℕ → Mode → Account → Type 0
MayGrant others client mode a =
    IsTrue (covers (own_modes a.held client) mode)
    ⊎ (IsFalse (has mode (bars (other_modes a.held client))) × MayJoin others mode a a.here)

-- release: a client gives up one lock, or all
abbrev pub unlocking : ℕ → Mode → Account → Account
unlocking client mode a = record a { held = take_lock a.held client mode }

abbrev pub dropping : ℕ → Account → Account
dropping client a = record a { held = without_client a.held client }

-- answer: the desk here grants an ask of this node
abbrev pub answering : Ask → Account → Account
answering ask a = record a { held = answered a.held ask; pending = without a.pending ask.stamp }

pub record MayAnswer (others : Modes) (ask : Ask) (a : Account) : Type 0 where
  pub here : a.here ≡ true
  pub waits : Contains a.pending ask
  pub alone : Contains a.copies ask → ⊥
  pub free : IsFalse (has ask.mode (bars others))
  pub local : IsFalse (has ask.mode (bars (union (other_modes a.held ask.client) (owed_and_waiting a))))

-- owe: the desk elsewhere sends a copy; these copies are on their way now
abbrev pub owing_copy : Ask → List Ask → Account → Account
owing_copy ask copies a = record a { entry = owing ask a.entry; copies = copies }

pub record MayOwe (others : Modes) (ask : Ask) (copies : List Ask) (a : Account) : Type 0 where
  pub between : a.moving ≡ false
  pub away : a.here ≡ false
  pub waits : Contains a.pending ask
  pub sent : IsGain ask a.copies copies
  pub free : IsFalse (has ask.mode (bars others))
  pub covered : IsTrue (covers others ask.mode)
  pub clear : IsFalse (has ask.mode (bars (record_of a.entry)))

-- deliver: a copy answers its ask; these copies are left on their way
abbrev pub delivering : Ask → List Ask → Account → Account
delivering ask copies a = record a {
  held = answered a.held ask;
  pending = without a.pending ask.stamp;
  charge = if a.here then a.charge else with_mode a.charge ask.mode;
  copies = copies;
}

pub record MayDeliver (ask : Ask) (copies : List Ask) (a : Account) : Type 0 where
  pub moves : a.moving ≡ true
  pub came : Contains a.copies ask
  pub left : IsLoss ask a.copies copies
  pub once : Contains copies ask → ⊥

-- void: an ask that was given up is answered at its node, and no lock is gained
abbrev pub voiding : Ask → Account → Account
voiding ask a = record a { pending = without a.pending ask.stamp }

pub record MayVoid (ask : Ask) (a : Account) : Type 0 where
  pub waits : Contains a.pending ask
  pub alone : Contains a.copies ask → ⊥

-- void a copy: a copy answers an ask that was given up; the charge grows all the same
abbrev pub voiding_copy : Ask → List Ask → Account → Account
voiding_copy ask copies a = record a {
  pending = without a.pending ask.stamp;
  charge = if a.here then a.charge else with_mode a.charge ask.mode;
  copies = copies;
}

-- apply: the desk takes a tell of the node, newer than its entry or stale; these tells are left
abbrev pub applying : Tell → List Tell → Account → Account
applying tell tells a = record a { entry = told tell a.entry; tells = tells }

pub record MayApply (tell : Tell) (tells : List Tell) (a : Account) : Type 0 where
  pub came : Contains a.tells tell
  pub left : IsLoss tell a.tells tells

-- tell: the node says what it holds and waits for, and its charge is what it holds
abbrev pub tell_by : Stamp → Account → Tell
tell_by stamp a = record { node = stamp.node; modes = held_modes a.held; pending = stamps_of a.pending; stamp = stamp }

abbrev pub telling : List Tell → Account → Account
telling tells a = record a { charge = held_modes a.held; tells = tells; moving = false }

pub record MayTell (stamp : Stamp) (tells : List Tell) (a : Account) : Type 0 where
  pub moves : a.moving ≡ true
  pub away : a.here ≡ false
  pub now : stamp.clock ≡ a.clock
  pub made : IsGain (tell_by stamp a) a.tells tells

-- settle: the desk leaves, with an entry that says what this node holds and what it waits for
abbrev pub settling : Stamp → Account → Account
settling stamp a = record a {
  entry = record a.entry {
    reported = held_modes a.held;
    owed = still_owed a.pending a.entry.owed;
    told_at = stamp;
    pending = stamps_of a.pending;
  };
  charge = held_modes a.held;
  here = false;
  moving = false;
}

pub record MaySettle (stamp : Stamp) (a : Account) : Type 0 where
  pub moves : a.moving ≡ true
  pub here : a.here ≡ true
  pub now : stamp.clock ≡ a.clock

-- arrive: the desk comes
abbrev pub arriving : Account → Account
arriving a = record a { here = true }

-- rest: the move ends with the desk here, or with a charge that bars what is held
abbrev pub resting : Account → Account
resting a = record a { moving = false }

abbrev pub MayRest : Account → Type 0
MayRest a = a.here ≡ false → bars (held_modes a.held) ≡ bars a.charge

-- freeze: the desk's node has told this node these frozen modes, or keeps them itself
abbrev pub freezing : Modes → Account → Account
freezing frozen a = record a { entry = record a.entry { frozen_told = frozen } }

-- reorder: tells and copies are elsewhere on their way
abbrev pub reordering : List Tell → List Ask → Account → Account
reordering tells copies a = record a { tells = tells; copies = copies }

pub record MayReorder (tells : List Tell) (copies : List Ask) (a : Account) : Type 0 where
  pub tells_same : HaveSame a.tells tells
  pub copies_same : HaveSame a.copies copies
