-- The lines of a run: for version 2 or 3 the line `version`, those of each move and its events, and then the closing lines.
use Rattle.std.specs.Prelude.{◌==◌, List, [], ◌∷◌, ◌++◌, ℕ, zero, suc, Option, Some, None, if◌then◌else◌, length, map, Bool, true, false, codes, filter, ◌≡◌, ◌⊎◌, flat_map, decimal}
use Rattle.lt_modes.specs.declared.mode.Mode.{Mode}
use Rattle.lt_modes.specs.declared.event.Event.{Event}
use Rattle.lt_modes.specs.declared.event.Event.TheVariants.{Freeze, Grant, Wait, Try, Unlock, NotHeld, Change, DropAll, Busy, Withdraw, Withdrawn, Void, Withheld, Copy, Token}
use Rattle.lt_modes.specs.FiveModes.{shown_in}
use Rattle.lt_modes.specs.declared.parts.Link.{Link}
use Rattle.lt_modes.specs.Script.{ScriptData, set_name, client_name}
use Rattle.lt_modes.specs.Modes.{modes_in_order, Modes, word_of, has, has_none}
use Rattle.lt_modes.specs.declared.moves.Step.{Step}
use Rattle.lt_modes.specs.declared.moves.Step.TheVariants.{Act, Take}
use Rattle.lt_spec.specs.World.{Logged}
use Rattle.lt_spec.specs.Holdings.{Holding, holding, holdings, times_held, wanted, owner_of, lines_of}
use Rattle.lt_text.specs.Text.{after_space, spaced}
use Rattle.lt_journal.specs.declared.line.Line.{Line}
use Rattle.lt_journal.specs.declared.line.Line.TheVariants.{Version2, Version3, Move as MoveLine, Event as EventLine, Held, Waiting, Owner, End, Cut, Bad}

-- the event as a journal of this version shows it: a freeze in version 1 without the sixth mode
abbrev pub shown_event : ℕ → Event → Event
shown_event version (Freeze set to number modes) = Freeze set to number (shown_in version modes)
shown_event version other = other

-- the line of an event
abbrev pub line_of_event : ℕ → Event → Line
line_of_event version event = EventLine (shown_event version event)

-- the lines of events
abbrev pub event_lines : ℕ → List Event → List Line
event_lines version events = map (line_of_event version) events

-- a move's line and those of its events
abbrev pub entry_lines : ℕ → Logged → List Line
entry_lines version entry = MoveLine entry.made.stamp.clock entry.made.stamp.node entry.made.step ∷ event_lines version entry.events

-- the lines of all moves
abbrev pub moves_lines : ℕ → List Logged → List Line
moves_lines version entries = flat_map (entry_lines version) entries

-- the line before all moves, where the script has version 2 or 3
abbrev pub first_lines : ℕ → List Line
first_lines version = if version == 1 then [] else if version == 2 then Version2 ∷ [] else Version3 ∷ []

-- the lines of the numbers below n, in order
abbrev pub lines_below : ℕ → (ℕ → List Line) → List Line
lines_below zero lines = []
lines_below (suc n) lines = lines_below n lines ++ lines n

-- the line of so many such locks, if there are some
abbrev pub held_line : Holding → ℕ → List Line
held_line lock count = if count == 0 then [] else Held lock.client lock.set lock.mode count ∷ []

-- the line of the client's locks of one mode in a set, if it has some
abbrev pub held_in_mode : List Holding → ℕ → ℕ → Mode → List Line
held_in_mode held client set mode = held_line (holding client set mode) (times_held held (holding client set mode))

-- the lines of the client's locks in a set, by mode
abbrev pub held_in_set : List Holding → ℕ → ℕ → List Line
held_in_set held client set = flat_map (held_in_mode held client set) modes_in_order

-- the lines of the client's locks, by set
abbrev pub held_by : ScriptData → List Holding → ℕ → List Line
held_by script held client = lines_below (length script.sets) (held_in_set held client)

-- the lines of all locks, by client
abbrev pub held_lines : ScriptData → List Holding → List Line
held_lines script held = lines_below (length script.clients) (held_by script held)

-- the line of what a client waits for, if it waits
abbrev pub waiting_line : Option Holding → List Line
waiting_line None = []
waiting_line (Some lock) = Waiting lock.client lock.set lock.mode ∷ []

-- the lines of the clients that wait, in order, where each waits for this
abbrev pub waiting_lines : ScriptData → (ℕ → Option Holding) → List Line
waiting_lines script waits_for = lines_below (length script.clients) (λ client. waiting_line (waits_for client))

-- the line of a set whose token went there
abbrev pub owner_line : ℕ → Link → List Line
owner_line set owner = Owner set owner.node owner.epoch ∷ []

-- the lines of the sets, in order, where the token of each went there
abbrev pub owner_lines : ScriptData → (ℕ → Link) → List Line
owner_lines script owner = lines_below (length script.sets) (λ set. owner_line set (owner set))

-- the lines at rest after so many moves with these events: the locks held, the clients that wait, the owners
abbrev pub rest_lines : ScriptData → List Event → ℕ → List Line
rest_lines script events moves =
    held_lines script (holdings script events) ++ waiting_lines script (λ client. wanted client events) ++ owner_lines script (λ set. owner_of set events) ++ End moves ∷ []

-- the lines after the moves: those at rest, or the line of the node at which the run was cut
abbrev pub closing_lines : ScriptData → List Logged → Option ℕ → List Line
closing_lines script entries None = rest_lines script (lines_of entries) (length entries)
closing_lines script entries (Some node) = Cut node ∷ []

-- the lines of a run
abbrev pub run_lines : ScriptData → List Logged → Option ℕ → List Line
run_lines script entries cut = first_lines script.version ++ (moves_lines script.version entries ++ closing_lines script entries cut)

-- The words of each line of a journal.

-- a line of these words, with its line feed
abbrev pub line : List (List ℕ) → List ℕ
line words = spaced words ++ 10 ∷ []

-- a set of modes: their words in order, or `none`
abbrev pub words_of_modes : Modes → List (List ℕ)
words_of_modes modes =
    if has_none modes then codes "none" ∷ [] else map word_of (filter (λ mode. has mode modes) modes_in_order)

-- the word of the mode with the space before it, where it is in the set
abbrev pub member_words : Modes → Mode → List ℕ
member_words modes mode = if has mode modes then after_space (word_of mode) else []

-- the words that say what a move does
abbrev pub step_words : ScriptData → Step → List (List ℕ)
step_words script (Act client) = codes "act" ∷ client_name script client ∷ []
step_words script (Take from) = codes "take" ∷ decimal from ∷ []

-- the words of a line that names a client, a set and a mode
abbrev pub lock_words : ScriptData → List ℕ → ℕ → ℕ → Mode → List (List ℕ)
lock_words script first client set mode = first ∷ client_name script client ∷ set_name script set ∷ word_of mode ∷ []

-- the words of a line that names two clients and a set
abbrev pub drop_words : ScriptData → List ℕ → ℕ → ℕ → ℕ → List (List ℕ)
drop_words script first client other set = first ∷ client_name script client ∷ client_name script other ∷ set_name script set ∷ []

-- the words of a line that names a set and the node that a letter goes to
abbrev pub letter_words : ScriptData → List ℕ → ℕ → ℕ → List (List ℕ)
letter_words script first set to = first ∷ set_name script set ∷ decimal to ∷ []

-- the last word of a `try` or a `withdraw`
abbrev pub word_of_bool : Bool → List ℕ
word_of_bool true = codes "true"
word_of_bool false = codes "false"

-- the words of an event's line
abbrev pub event_words : ScriptData → Event → List (List ℕ)
event_words script (Grant client set mode) = lock_words script (codes "grant") client set mode
event_words script (Wait client set mode) = lock_words script (codes "wait") client set mode
event_words script (Try client set mode got) = lock_words script (codes "try") client set mode ++ word_of_bool got ∷ []
event_words script (Unlock client set mode) = lock_words script (codes "unlock") client set mode
event_words script (NotHeld client set mode) = lock_words script (codes "not_held") client set mode
event_words script (Change client set gives_up mode) = lock_words script (codes "change") client set gives_up ++ word_of mode ∷ []
event_words script (DropAll client other set count) =
    drop_words script (codes "drop") client other set ++ decimal count ∷ []
event_words script (Busy client other set) = drop_words script (codes "busy") client other set
event_words script (Withdraw client other set got) =
    drop_words script (codes "withdraw") client other set ++ word_of_bool got ∷ []
event_words script (Withdrawn client set mode) = lock_words script (codes "withdrawn") client set mode
event_words script (Void client set mode) = lock_words script (codes "void") client set mode
event_words script (Withheld client set mode) = lock_words script (codes "withheld") client set mode
event_words script (Copy set to client mode) =
    letter_words script (codes "copy") set to ++ client_name script client ∷ word_of mode ∷ []
event_words script (Freeze set to number modes) =
    letter_words script (codes "freeze") set to ++ decimal number ∷ words_of_modes modes
event_words script (Token set to epoch) = letter_words script (codes "token") set to ++ decimal epoch ∷ []

-- the words of an event's line after those that name a lock, a drop or a letter
abbrev pub further_words : ScriptData → Event → List (List ℕ)
further_words script (Grant client set mode) = []
further_words script (Wait client set mode) = []
further_words script (Try client set mode got) = word_of_bool got ∷ []
further_words script (Unlock client set mode) = []
further_words script (NotHeld client set mode) = []
further_words script (Change client set gives_up mode) = word_of mode ∷ []
further_words script (DropAll client other set count) = decimal count ∷ []
further_words script (Busy client other set) = []
further_words script (Withdraw client other set got) = word_of_bool got ∷ []
further_words script (Withdrawn client set mode) = []
further_words script (Void client set mode) = []
further_words script (Withheld client set mode) = []
further_words script (Copy set to client mode) = client_name script client ∷ word_of mode ∷ []
further_words script (Freeze set to number modes) = decimal number ∷ words_of_modes modes
further_words script (Token set to epoch) = decimal epoch ∷ []

-- the words of a line
abbrev pub line_words : ScriptData → Line → List (List ℕ)
line_words script Version2 = codes "version" ∷ codes "2" ∷ []
line_words script Version3 = codes "version" ∷ codes "3" ∷ []
line_words script (MoveLine clock node step) = codes "move" ∷ decimal clock ∷ decimal node ∷ step_words script step
line_words script (EventLine event) = event_words script event
line_words script (Held client set mode count) = lock_words script (codes "held") client set mode ++ decimal count ∷ []
line_words script (Waiting client set mode) = lock_words script (codes "waiting") client set mode
line_words script (Owner set node epoch) = codes "owner" ∷ set_name script set ∷ decimal node ∷ decimal epoch ∷ []
line_words script (End count) = codes "end" ∷ decimal count ∷ []
line_words script (Cut node) = codes "cut" ∷ decimal node ∷ []
line_words script Bad = []

-- The text of a run: its lines, spelled.

-- the text of a line
abbrev pub line_text : ScriptData → Line → List ℕ
line_text script x = line (line_words script x)

-- the text of these lines
abbrev pub lines_text : ScriptData → List Line → List ℕ
lines_text script lines = flat_map (line_text script) lines

-- the text of a run
abbrev pub text_of : ScriptData → List Logged → Option ℕ → List ℕ
text_of script entries cut = lines_text script (run_lines script entries cut)

-- the line is bad, or stands here as it is written
abbrev pub IsAsWritten : ScriptData → List ℕ → Line → Type 0
IsAsWritten script line x = (x ≡ Bad) ⊎ (spaced (line_words script x) ≡ line)
