-- The bytes of a letter: each letter has one spelling, and no spelling begins another.
use Rattle.std.specs.Prelude.{ℕ, ◌<◌, ◌≤◌, ◌^◌, Bool, true, false, List, [], ◌∷◌, ◌++◌, length, Option, Some, None}
use Rattle.std.specs.List.{flat_map, AllByRecursion}
use Rattle.std.specs.Int.{w16, w32, w64, to_le_bytes}
use Rattle.lt_modes.specs.declared.stamp.Stamp.{Stamp}
use Rattle.lt_modes.specs.declared.ask.Ask.{Ask}
use Rattle.lt_modes.specs.declared.mode.Mode.{Mode}
use Rattle.lt_modes.specs.declared.mode.Mode.TheVariants.{IntentionRead, Read, Upgrade, IntentionWrite, ReadIntentionWrite, Write}
use Rattle.lt_modes.specs.declared.parts.Link.{Link}
use Rattle.lt_modes.specs.declared.parts.Owed.{Owed}
use Rattle.lt_modes.specs.Modes.{Modes}
use Rattle.lt_modes.specs.FiveModes.{mask_of}
use Rattle.lt_modes.specs.State.{Entry, Desk, Tell, Body, AskBody, TellBody, CopyBody, TokenBody, FreezeBody, Letter}

-- one byte
abbrev pub byte : ℕ → List ℕ
byte n = n ∷ []

abbrev pub number16 : ℕ → List ℕ
number16 n = to_le_bytes w16 n

abbrev pub number32 : ℕ → List ℕ
number32 n = to_le_bytes w32 n

abbrev pub number64 : ℕ → List ℕ
number64 n = to_le_bytes w64 n

-- the mode's number, in the order of the modes
abbrev pub mode_number : Mode → ℕ
mode_number IntentionRead = 0
mode_number Read = 1
mode_number Upgrade = 2
mode_number IntentionWrite = 3
mode_number ReadIntentionWrite = 4
mode_number Write = 5

abbrev pub mode_bytes : Mode → List ℕ
mode_bytes mode = byte (mode_number mode)

-- a mode, or 6 where there is none
abbrev pub choice_number : Option Mode → ℕ
choice_number None = 6
choice_number (Some mode) = mode_number mode

abbrev pub choice_bytes : Option Mode → List ℕ
choice_bytes choice = byte (choice_number choice)

abbrev pub flag_number : Bool → ℕ
flag_number false = 0
flag_number true = 1

abbrev pub flag_bytes : Bool → List ℕ
flag_bytes flag = byte (flag_number flag)

-- one bit for each mode
abbrev pub modes_bytes : Modes → List ℕ
modes_bytes modes = byte (mask_of modes)

abbrev pub stamp_bytes : Stamp → List ℕ
stamp_bytes s = number64 s.clock ++ byte s.node

abbrev pub link_bytes : Link → List ℕ
link_bytes l = byte l.node ++ number64 l.epoch

abbrev pub owed_bytes : Owed → List ℕ
owed_bytes o = stamp_bytes o.stamp ++ mode_bytes o.mode

abbrev pub ask_bytes : Ask → List ℕ
ask_bytes a =
    number16 a.client ++ (byte a.node ++ (mode_bytes a.mode
    ++ (choice_bytes a.gives_up ++ (flag_bytes a.holder ++ stamp_bytes a.stamp))))

-- a list is its length, and then its items
abbrev pub list_bytes : {A : Type 0} → (ℕ → List ℕ) → (A → List ℕ) → List A → List ℕ
list_bytes count one xs = count (length xs) ++ flat_map one xs

abbrev pub stamps_bytes : List Stamp → List ℕ
stamps_bytes stamps = list_bytes byte stamp_bytes stamps

abbrev pub all_owed_bytes : List Owed → List ℕ
all_owed_bytes owed = list_bytes number64 owed_bytes owed

abbrev pub asks_bytes : List Ask → List ℕ
asks_bytes asks = list_bytes number32 ask_bytes asks

abbrev pub entry_bytes : Entry → List ℕ
entry_bytes e =
    modes_bytes e.reported ++ (all_owed_bytes e.owed ++ (stamp_bytes e.told_at
    ++ (stamps_bytes e.pending ++ modes_bytes e.frozen_told)))

abbrev pub entries_bytes : List Entry → List ℕ
entries_bytes entries = list_bytes byte entry_bytes entries

abbrev pub desk_bytes : Desk → List ℕ
desk_bytes d = number64 d.epoch ++ (number64 d.number ++ (asks_bytes d.queue ++ entries_bytes d.entries))

abbrev pub tell_bytes : Tell → List ℕ
tell_bytes t = byte t.node ++ (modes_bytes t.modes ++ (stamps_bytes t.pending ++ stamp_bytes t.stamp))

-- what it says, after a byte that tells which of the five kinds it is
abbrev pub body_bytes : Body → List ℕ
body_bytes (AskBody ask by_hoped) = byte 0 ++ (ask_bytes ask ++ flag_bytes by_hoped)
body_bytes (TellBody tell) = byte 1 ++ tell_bytes tell
body_bytes (CopyBody ask) = byte 2 ++ ask_bytes ask
body_bytes (TokenBody desk) = byte 3 ++ desk_bytes desk
body_bytes (FreezeBody number modes) = byte 4 ++ (number64 number ++ modes_bytes modes)

abbrev pub letter_bytes : Letter → List ℕ
letter_bytes l = stamp_bytes l.stamp ++ (number32 l.set ++ (link_bytes l.link ++ body_bytes l.body))

-- What has a spelling: numbers of the sizes that the code has, no more than 16 unanswered asks of a node, and no more
-- than 64 nodes.

abbrev pub StampFits : Stamp → Type 0
StampFits s = (s.clock < 2 ^ 64) × (s.node < 256)

abbrev pub LinkFits : Link → Type 0
LinkFits l = (l.node < 256) × (l.epoch < 2 ^ 64)

abbrev pub OwedFits : Owed → Type 0
OwedFits o = StampFits o.stamp × Unit {0}

abbrev pub AskFits : Ask → Type 0
AskFits a = (a.client < 2 ^ 16) × ((a.node < 256) × (Unit {0} × (Unit {0} × (Unit {0} × StampFits a.stamp))))

abbrev pub StampsFit : List Stamp → Type 0
StampsFit stamps = (length stamps ≤ 16) × AllByRecursion StampFits stamps

abbrev pub AllOwedFit : List Owed → Type 0
AllOwedFit owed = (length owed < 2 ^ 64) × AllByRecursion OwedFits owed

abbrev pub EntryFits : Entry → Type 0
EntryFits e = Unit {0} × (AllOwedFit e.owed × (StampFits e.told_at × (StampsFit e.pending × Unit {0})))

abbrev pub AsksFit : List Ask → Type 0
AsksFit asks = (length asks < 2 ^ 32) × AllByRecursion AskFits asks

abbrev pub EntriesFit : List Entry → Type 0
EntriesFit entries = (length entries ≤ 64) × AllByRecursion EntryFits entries

abbrev pub DeskFits : Desk → Type 0
DeskFits d = (d.epoch < 2 ^ 64) × ((d.number < 2 ^ 64) × (AsksFit d.queue × EntriesFit d.entries))

abbrev pub TellFits : Tell → Type 0
TellFits t = (t.node < 256) × (Unit {0} × (StampsFit t.pending × StampFits t.stamp))

abbrev pub BodyFits : Body → Type 0
BodyFits (AskBody ask by_hoped) = AskFits ask × Unit {0}
BodyFits (TellBody tell) = TellFits tell
BodyFits (CopyBody ask) = AskFits ask
BodyFits (TokenBody desk) = DeskFits desk
BodyFits (FreezeBody number modes) = (number < 2 ^ 64) × Unit {0}

abbrev pub LetterFits : Letter → Type 0
LetterFits l = StampFits l.stamp × ((l.set < 2 ^ 32) × (LinkFits l.link × BodyFits l.body))
