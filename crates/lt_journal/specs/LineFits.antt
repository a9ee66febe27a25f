-- When the names and numbers of a line can be written and read back.
use Rattle.std.specs.Prelude.{◌≡◌, ◌<◌, ◌^◌, ℕ, Option, Some, None, length}
use Rattle.lt_modes.specs.declared.moves.Step.{Step}
use Rattle.lt_modes.specs.declared.moves.Step.TheVariants.{Act, Take}
use Rattle.lt_modes.specs.declared.event.Event.{Event}
use Rattle.lt_modes.specs.declared.event.Event.TheVariants.{Grant, Wait, Try, Unlock, NotHeld, Change, DropAll, Busy, Withdraw, Withdrawn, Void, Withheld, Copy, Freeze, Token}
use Rattle.lt_modes.specs.Script.{ScriptData}
use Rattle.lt_journal.specs.declared.line.Line.{Line}
use Rattle.lt_journal.specs.declared.line.Line.TheVariants.{Version2, Version3, Move as MoveLine, Event as EventLine, Held, Waiting, Owner, End, Cut, Bad}

-- what a number in a line is below
abbrev pub IsNumber : ℕ → Type 0
IsNumber n = n < 2 ^ 64

-- the set is of the script
abbrev pub HasSet : ScriptData → ℕ → Type 0
HasSet script set = set < length script.sets

-- the client is of the script
abbrev pub HasClient : ScriptData → ℕ → Type 0
HasClient script client = client < length script.clients

-- the node is of the script
abbrev pub HasNode : ScriptData → ℕ → Type 0
HasNode script node = node < script.nodes

-- the script has version 3
abbrev pub IsOfThird : ScriptData → Type 0
IsOfThird script = script.version ≡ 3

-- what the step names is of the script
abbrev pub FitsStep : ScriptData → Step → Type 0
FitsStep script (Act client) = HasClient script client
FitsStep script (Take from) = HasNode script from

-- what the event names is of the script, its numbers are those of a line, and the script has a version with such events
abbrev pub FitsEvent : ScriptData → Event → Type 0
FitsEvent script (Grant client set mode) = HasClient script client × HasSet script set
FitsEvent script (Wait client set mode) = HasClient script client × HasSet script set
FitsEvent script (Try client set mode got) = HasClient script client × HasSet script set
FitsEvent script (Unlock client set mode) = HasClient script client × HasSet script set
FitsEvent script (NotHeld client set mode) = HasClient script client × HasSet script set
FitsEvent script (Change client set gives_up mode) = HasClient script client × HasSet script set
FitsEvent script (DropAll client other set count) =
    HasClient script client × HasClient script other × HasSet script set × IsNumber count
FitsEvent script (Busy client other set) = HasClient script client × HasClient script other × HasSet script set
FitsEvent script (Withdraw client other set got) =
    HasClient script client × HasClient script other × HasSet script set × IsOfThird script
FitsEvent script (Withdrawn client set mode) = HasClient script client × HasSet script set × IsOfThird script
FitsEvent script (Void client set mode) = HasClient script client × HasSet script set × IsOfThird script
FitsEvent script (Withheld client set mode) = HasClient script client × HasSet script set × IsOfThird script
FitsEvent script (Copy set to client mode) = HasSet script set × HasNode script to × HasClient script client
FitsEvent script (Freeze set to number modes) = HasSet script set × HasNode script to × IsNumber number
FitsEvent script (Token set to epoch) = HasSet script set × HasNode script to × IsNumber epoch

-- what the line names is of the script, and its numbers are those of a line
abbrev pub FitsLine : ScriptData → Line → Type 0
FitsLine script Version2 = Unit {0}
FitsLine script Version3 = IsOfThird script
FitsLine script (MoveLine clock node step) = IsNumber clock × HasNode script node × FitsStep script step
FitsLine script (EventLine event) = FitsEvent script event
FitsLine script (Held client set mode count) = HasClient script client × HasSet script set × IsNumber count
FitsLine script (Waiting client set mode) = HasClient script client × HasSet script set
FitsLine script (Owner set node epoch) = HasSet script set × HasNode script node × IsNumber epoch
FitsLine script (End count) = IsNumber count
FitsLine script (Cut node) = HasNode script node
FitsLine script Bad = ⊥

-- the node at which the run was cut, if it was, is of the script
abbrev pub FitsCut : ScriptData → Option ℕ → Type 0
FitsCut script None = Unit {0}
FitsCut script (Some node) = HasNode script node
