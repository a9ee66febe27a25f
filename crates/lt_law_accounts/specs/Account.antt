-- What is known of one node for a set, at the node, at the desk and on the way between them, and what holds of it.
use Rattle.std.specs.Prelude.{◌≡◌, ◌≢◌, ◌⊎◌, ◌≤◌, Bool, false, ℕ, List, IsTrue, IsFalse, Contains, AllPairs, if◌then◌else◌, ◌<◌, ◌↔◌, true, [], ◌∷◌, ◌++◌, Option, Some, None, length, take, slice_index_or}
use Rattle.std.specs.List.{AllByRecursion}
use Rattle.lt_modes.specs.declared.mode.Mode.{Mode}
use Rattle.lt_modes.specs.declared.stamp.Stamp.{Stamp}
use Rattle.lt_modes.specs.declared.ask.Ask.{Ask}
use Rattle.lt_modes.specs.declared.parts.Row.{Row}
use Rattle.lt_modes.specs.declared.parts.Owed.{Owed}
use Rattle.lt_modes.specs.Modes.{Modes, conflicts, has, union, bars, held_modes, excludes_itself}
use Rattle.lt_modes.specs.ModeLaws.{BarsBy, IsBelowBy, AreClearBy}
use Rattle.lt_modes.specs.State.{Entry, Tell, modes_of_asks, modes_of_owed, record_of, still_owed, SetState, Desk, Parked, ParkedAsk, no_ask, entered, others, modes_at}
use Rattle.lt_modes.specs.Telling.{is_newer, is_open, left_owed}
use Rattle.lt_modes.specs.HandingOver.{next_draw}
use Rattle.lt_modes.specs.Sound.{IsNoLater, ChargeKept}
use Rattle.lt_modes.specs.Routing.{Parks, way}
use Rattle.lt_modes.specs.Taking.{take_freeze}

-- a mode of the set conflicts with this one
abbrev pub Bars : Modes → Mode → Type 0
Bars modes mode = BarsBy conflicts modes mode

-- the second set bars all that the first one bars
abbrev pub IsBelow : Modes → Modes → Type 0
IsBelow a b = IsBelowBy conflicts a b

-- no mode of the one set conflicts with a mode of the other
abbrev pub AreClear : Modes → Modes → Type 0
AreClear a b = AreClearBy conflicts a b

-- a node's clock, rows, charge and unanswered asks; the desk's entry of it; its tells that are in a letter or parked;
-- the asks for which copies are on their way to it; whether the desk is here, and whether the node is in the middle of
-- a move on the set
pub record Account : Type 0 where
  pub clock : ℕ
  pub held : List Row
  pub charge : Modes
  pub pending : List Ask
  pub entry : Entry
  pub tells : List Tell
  pub copies : List Ask
  pub here : Bool
  pub moving : Bool

-- the modes of owed asks that are unanswered
abbrev pub owed_and_waiting : Account → Modes
owed_and_waiting a = modes_of_owed (still_owed a.pending a.entry.owed)

-- what the node holds, and what it is still owed
abbrev pub own_of : Account → Modes
own_of a = union (held_modes a.held) (owed_and_waiting a)

-- what counts of the node: its own part where the desk is here, else its record
abbrev pub counted : Account → Modes
counted a = if a.here then own_of a else record_of a.entry

-- what is charged to the node, with what copies bring it
abbrev pub now_modes : Modes → List Ask → Modes
now_modes charge copies = union charge (modes_of_asks copies)

-- what the record of its node would be after the tell
abbrev pub left_after : Entry → Tell → Modes
left_after entry tell = union tell.modes (modes_of_owed (left_owed tell entry.owed))

-- the tell is one of these, and newer than the entry, so that it would change it
abbrev pub IsFreshTell : Entry → List Tell → Tell → Type 0
IsFreshTell entry tells tell = Contains tells tell × IsTrue (is_newer tell.stamp entry.told_at)

-- nothing that the node has asked or said is later than its clock, its asks have different stamps, and tells of one stamp are one
pub record ClocksKept (moving : Bool) (clock : ℕ) (pending : List Ask) (entry : Entry) (tells : List Tell) : Type 0 where
  pub asks : (ask : Ask) → Contains pending ask → ask.stamp.clock ≤ clock
  pub apart : AllPairs (λ (x y : Ask). x.stamp ≢ y.stamp) pending
  pub tells_made : (tell : Tell) → Contains tells tell → IsNoLater moving clock tell.stamp.clock
  pub tells_apart : (x y : Tell) → Contains tells x → Contains tells y → x.stamp ≡ y.stamp → x ≡ y
  pub told : IsNoLater moving clock entry.told_at.clock
  pub owed : (copy : Owed) → Contains entry.owed copy → IsNoLater moving clock copy.stamp.clock

-- an unanswered ask is open in the entry and in each tell; what a later tell lists is open in an older one
pub record AsksKnown (pending : List Ask) (entry : Entry) (tells : List Tell) : Type 0 where
  pub in_entry : (ask : Ask) → Contains pending ask → IsTrue (is_open entry.pending entry.told_at ask.stamp)
  pub in_tells : (ask : Ask) (tell : Tell) → Contains pending ask → Contains tells tell
      → IsTrue (is_open tell.pending tell.stamp ask.stamp)
  pub lists : (later older : Tell) → Contains tells later → Contains tells older
      → IsTrue (is_newer later.stamp older.stamp)
      → (stamp : Stamp) → Contains later.pending stamp → IsTrue (is_open older.pending older.stamp stamp)
  pub entry_list : (tell : Tell) → IsFreshTell entry tells tell
      → (stamp : Stamp) → Contains tell.pending stamp → IsTrue (is_open entry.pending entry.told_at stamp)

-- a copy on its way answers an unanswered ask, and it is owed; and an owed ask that is unanswered has a copy on its way,
-- with its own mode
pub record CopiesOwed (pending : List Ask) (entry : Entry) (copies : List Ask) : Type 0 where
  pub waits : (ask : Ask) → Contains copies ask → Contains pending ask
  pub owed : (ask : Ask) → Contains copies ask → Contains entry.owed (record { stamp = ask.stamp; mode = ask.mode })
  pub on_way : (copy : Owed) (ask : Ask) → Contains entry.owed copy → Contains pending ask → ask.stamp ≡ copy.stamp
      → Contains copies ask × (ask.mode ≡ copy.mode)
  pub open_still : (copy : Owed) → Contains entry.owed copy → IsTrue (is_open entry.pending entry.told_at copy.stamp)

-- without the desk: the record, and what each newer tell would leave, bar all that charge and copies bar;
-- a later one bars no more than an older one; and one of them bars no more than charge and copies
pub record Covers (charge : Modes) (entry : Entry) (tells : List Tell) (copies : List Ask) : Type 0 where
  pub record_bound : IsBelow (now_modes charge copies) (record_of entry)
  pub left_bound : (tell : Tell) → IsFreshTell entry tells tell → IsBelow (now_modes charge copies) (left_after entry tell)
  pub record_shrinks : (tell : Tell) → IsFreshTell entry tells tell → IsBelow (left_after entry tell) (record_of entry)
  pub left_shrinks : (later older : Tell) → IsFreshTell entry tells later → IsFreshTell entry tells older
      → IsFalse (is_newer older.stamp later.stamp) → IsBelow (left_after entry later) (left_after entry older)
  pub exact : IsBelow (record_of entry) (now_modes charge copies)
      ⊎ ((tell : Tell) × IsFreshTell entry tells tell × IsBelow (left_after entry tell) (now_modes charge copies))

-- copies on their way to the node conflict neither with each other nor with what is held there,
-- and no two clients of the node conflict
pub record NodeClear (held : List Row) (copies : List Ask) : Type 0 where
  pub copies_clear : (x y : Ask) → Contains copies x → Contains copies y → IsFalse (conflicts x.mode y.mode)
  pub copy_and_held : (ask : Ask) → Contains copies ask → IsFalse (has ask.mode (bars (held_modes held)))
  pub clients : (x y : Row) → Contains held x → Contains held y → x.client ≢ y.client
      → IsFalse (conflicts x.mode y.mode)

-- the account is kept, between moves or in the middle of a move of its node
pub record AccountKept (a : Account) : Type 0 where
  pub clocks : ClocksKept a.moving a.clock a.pending a.entry a.tells
  pub known : AsksKnown a.pending a.entry a.tells
  pub owed : CopiesOwed a.pending a.entry a.copies
  pub charge : a.here ≡ false → ChargeKept a.moving (held_modes a.held) a.charge
  pub cover : a.here ≡ false → Covers a.charge a.entry a.tells a.copies
  pub clear : NodeClear a.held a.copies

-- What a kept account says of its node, as statements.

-- the modes that are owed and unanswered are on their way
abbrev pub OwedAreOnWay : Type 0
OwedAreOnWay = (a : Account) (mode : Mode) → AccountKept a → IsTrue (has mode (owed_and_waiting a))
    → IsTrue (has mode (modes_of_asks a.copies))

-- and the modes that are on their way are owed and unanswered
abbrev pub OnWayAreOwed : Type 0
OnWayAreOwed = (a : Account) (mode : Mode) → AccountKept a → IsTrue (has mode (modes_of_asks a.copies))
    → IsTrue (has mode (owed_and_waiting a))

-- a tell on its way leaves what is owed and unanswered
abbrev pub TellKeepsWaiting : Type 0
TellKeepsWaiting = (a : Account) (tell : Tell) (copy : Owed) (ask : Ask) → AccountKept a → Contains a.tells tell → Contains a.entry.owed copy
    → Contains a.pending ask → ask.stamp ≡ copy.stamp → Contains (left_owed tell a.entry.owed) copy

-- after an older tell that has all its asks open, a tell leaves what it would have left alone
abbrev pub TwiceIsOnce : Type 0
TwiceIsOnce = (later older : Tell) (owed : List Owed) → IsTrue (is_newer later.stamp older.stamp)
    → ((stamp : Stamp) → Contains later.pending stamp → IsTrue (is_open older.pending older.stamp stamp))
    → left_owed later (left_owed older owed) ≡ left_owed later owed

-- without the desk the record bars what is held and what copies bring
abbrev pub RecordBoundsHeld : Type 0
RecordBoundsHeld = (a : Account) → AccountKept a → a.here ≡ false → IsBelow (union (held_modes a.held) (modes_of_asks a.copies)) (record_of a.entry)

-- Rules of a node in words of their own: what draws the desk, where an ask enters, what is parked, which freeze is kept.

-- no mode of the set conflicts with the mode
abbrev pub AgreesWith : Modes → Mode → Type 0
AgreesWith modes mode = (member : Mode) → IsTrue (has member modes) → IsFalse (conflicts mode member)

-- the ask at place k, behind these asks, may draw the desk from node me: it is of another node, neither the other nodes
-- nor an ask before it conflicts with it, and it is the first of all or its own node has nothing against it
pub record MayDraw (me : ℕ) (s : SetState) (desk : Desk) (k : ℕ) (earlier : List Ask) (ask : Ask) : Type 0 where
  pub elsewhere : ask.node ≢ me
  pub others_agree : AgreesWith (others me s desk ask.node) ask.mode
  pub earlier_agree : (before : Ask) → Contains earlier before → IsFalse (conflicts ask.mode before.mode)
  pub first_or_clear : (k ≡ 0) ⊎ AgreesWith (modes_at me s desk ask.node) ask.mode

abbrev pub DrawsAt : ℕ → SetState → Desk → ℕ → Type 0
DrawsAt me s desk k = MayDraw me s desk k (take k desk.queue) (slice_index_or desk.queue k no_ask)

-- the place is that of the first ask that may draw the desk; none where no ask may
abbrev pub IsFirstDrawing : ℕ → SetState → Desk → Option ℕ → Type 0
IsFirstDrawing me s desk None = (i : ℕ) → i < length desk.queue → DrawsAt me s desk i → ⊥
IsFirstDrawing me s desk (Some k) = (k < length desk.queue) × DrawsAt me s desk k × ((i : ℕ) → i < k → DrawsAt me s desk i → ⊥)

-- the first ask that may draw the desk draws it
abbrev pub DrawnByFirst : Type 0
DrawnByFirst = (me : ℕ) (s : SetState) (desk : Desk) → s.desk ≡ Some desk → IsFirstDrawing me s desk (next_draw me s)

-- there are no asks, or the last of them is a holder's
abbrev pub EndsWithHolder : List Ask → Type 0
EndsWithHolder asks = (asks ≡ []) ⊎ ((front : List Ask) × (last : Ask) × (asks ≡ front ++ last ∷ []) × IsTrue last.holder)

-- the ask stands directly after the last holder's ask, and the others stand as they stood
pub record IsAfterHolders (queue : List Ask) (ask : Ask) (now : List Ask) : Type 0 where
  pub before : List Ask
  pub after : List Ask
  pub was : queue ≡ before ++ after
  pub is : now ≡ before ++ ask ∷ after
  pub last_holder : EndsWithHolder before
  pub no_holders : AllByRecursion (λ (other : Ask). IsFalse other.holder) after

-- a holder's ask enters directly after the last holder's ask
abbrev pub HolderEntersAfterHolders : Type 0
HolderEntersAfterHolders = (queue : List Ask) (ask : Ask) → IsTrue ask.holder → IsAfterHolders queue ask (entered queue ask)

-- any other ask enters at the end
abbrev pub OthersEnterLast : Type 0
OthersEnterLast = (queue : List Ask) (ask : Ask) → IsFalse ask.holder → entered queue ask ≡ queue ++ ask ∷ []

-- an older taking ask of the node's own clients is unanswered
abbrev pub IsBehindTaking : SetState → Ask → Type 0
IsBehindTaking s ask = (own : Ask) × Contains s.pending own × IsTrue (excludes_itself own.mode) × IsTrue (is_newer ask.stamp own.stamp)

-- the item is an ask that came by a hoped link, behind an older taking ask of the node
abbrev pub IsMarkedBehind : Bool → Parked → SetState → Type 0
IsMarkedBehind marked item s = (marked ≡ true) × (ask : Ask) × (item ≡ ParkedAsk ask) × IsBehindTaking s ask

-- without the desk an ask or a tell is parked exactly where the token comes to this node, or behind an older taking ask of it
abbrev pub ParksBehindTakingAsk : Type 0
ParksBehindTakingAsk = (me : ℕ) (marked : Bool) (item : Parked) (s : SetState)
    → (way me marked item s ≡ Parks) ↔ ((s.firm.node ≡ me) ⊎ IsMarkedBehind marked item s)

-- a freeze with the same number, or a smaller one, changes nothing
abbrev pub KeepsFreezeOfSameNumber : Type 0
KeepsFreezeOfSameNumber = (number : ℕ) (frozen : Modes) (s : SetState) → number ≤ s.number → take_freeze number frozen s ≡ s

-- a freeze with a greater number is kept
abbrev pub TakesLaterFreeze : Type 0
TakesLaterFreeze = (number : ℕ) (frozen : Modes) (s : SetState) → s.number < number
    → take_freeze number frozen s ≡ record s { frozen = frozen; number = number }
