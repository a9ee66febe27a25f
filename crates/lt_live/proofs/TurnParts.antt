-- What a command that may be asked names.
use Rattle.std.proofs.Common.{◌≡◌, ◌<◌, ℕ, true, length, ◌≢◌, ◌≤◌, ◌+◌, List, [], ◌∷◌, ◌++◌, Option, Some, None, refl, sym, ap, subst, arith, ◌∙◌, inl, inr, false, Bool, ◌==◌, ◌&&◌, nat_lt, slice_get, ltb-true, lt-ltb, eqb-true, eq-eqb, ltb-false, le-ltb, append-nil, append_assoc, length-append}
use Rattle.std.proofs.lemmas.Bool.{and_parts, and_from, cases_eq}
use Rattle.std.proofs.lemmas.Option.{slice_get_within}
use Rattle.lt_modes.specs.FiveModes.{is_of_version}
use Rattle.lt_modes.specs.declared.command.Command.{Command}
use Rattle.lt_modes.specs.declared.command.Command.TheVariants.{Lock, Try, Unlock, Change, DropAll, Withdraw}
use Rattle.lt_modes.specs.Script.{ScriptData, home_at}
use Rattle.lt_spec.specs.Script.{HasTargets, IsOfVersion}
use Rattle.lt_spec.specs.declared.limits.TheConstants.{MAX_COMMANDS_OF_SERVICE}
use Rattle.lt_spec.specs.World.{Logged}
use Rattle.lt_spec.specs.NodeMove.{with_commands}
use Rattle.lt_runner.specs.declared.choice.Choice.TheVariants as choices
use Rattle.lt_runner.specs.declared.parts.Parts.{Parts}
use Rattle.lt_runner.specs.declared.turning.Turned.{Turned}
use Rattle.lt_runner.specs.declared.turning.Turned.TheVariants.{Moved, Quiet, Full, NoMemory}
use Rattle.lt_runner.specs.Choices.{next_choice}
use Rattle.lt_runner.specs.declared.parts.Hand.{Hand}
use Rattle.lt_runner.specs.Kept.{HandStays, AsSeen, Grew, TurnEnds, HasPassedOn, with_appended}
use Rattle.lt_runner.proofs.TurnLemmas.{same_self}
use Rattle.lt_live.specs.Submitting.{may_ask, has_set, is_neighbour}
use Rattle.lt_live.specs.Stations.{may_append, IsStation, EachSeat, SeatAt, OnlyAppends, with_all, CanNotAppend, NoneCanAppend, SomeCanAppend, MayHandOver, HandMayGo, MoveEnds, SeatTurns, StationTurns, HaveCursors}
use Rattle.lt_live.specs.declared.ends.Seat.{Seat}
use Rattle.lt_live.specs.Seats.{TakesIn, TellsSeat}
use Rattle.lt_live.proofs.SeatLists.{each_before, each_after, each_join}

-- all that the runner wants of a command that it appends
pub record MeetsAppend (script : ScriptData) (client : ℕ) (command : Command) : Type 0 where
  pub room : length script.commands < MAX_COMMANDS_OF_SERVICE
  pub targets : HasTargets script.sets script.clients client command
  pub modes : IsOfVersion script.version command

pub has_targets : (script : ScriptData) (client : ℕ) (command : Command) → may_ask script client command ≡ true → HasTargets script.sets script.clients client command
has_targets script client (Lock set mode) h = ltb-true set (length script.sets) (and_parts (has_set script set) (is_of_version script.version mode) h).0
has_targets script client (Try set mode) h = ltb-true set (length script.sets) (and_parts (has_set script set) (is_of_version script.version mode) h).0
has_targets script client (Unlock set mode) h = ltb-true set (length script.sets) (and_parts (has_set script set) (is_of_version script.version mode) h).0
has_targets script client (Change set gives_up mode) h =
    ltb-true set (length script.sets) (and_parts (has_set script set) (is_of_version script.version gives_up && is_of_version script.version mode) h).0
has_targets script client (DropAll other set) h =
    let parts = and_parts (has_set script set) (is_neighbour script client other) h in
    let more = and_parts (nat_lt other (length script.clients)) (home_at script.clients other == home_at script.clients client) parts.1 in
    (ltb-true set (length script.sets) parts.0, ltb-true other (length script.clients) more.0, eqb-true (home_at script.clients other) (home_at script.clients client) more.1)
has_targets script client (Withdraw other set) h =
    let parts = and_parts (has_set script set) (is_neighbour script client other && script.version == 3) h in
    let near = and_parts (is_neighbour script client other) (script.version == 3) parts.1 in
    let more = and_parts (nat_lt other (length script.clients)) (home_at script.clients other == home_at script.clients client) near.0 in
    (ltb-true set (length script.sets) parts.0, ltb-true other (length script.clients) more.0, eqb-true (home_at script.clients other) (home_at script.clients client) more.1)

pub has_modes : (script : ScriptData) (client : ℕ) (command : Command) → may_ask script client command ≡ true → IsOfVersion script.version command
has_modes script client (Lock set mode) h = (and_parts (has_set script set) (is_of_version script.version mode) h).1
has_modes script client (Try set mode) h = (and_parts (has_set script set) (is_of_version script.version mode) h).1
has_modes script client (Unlock set mode) h = (and_parts (has_set script set) (is_of_version script.version mode) h).1
has_modes script client (Change set gives_up mode) h =
    let parts = and_parts (has_set script set) (is_of_version script.version gives_up && is_of_version script.version mode) h in
    and_parts (is_of_version script.version gives_up) (is_of_version script.version mode) parts.1
has_modes script client (DropAll other set) h = tt
has_modes script client (Withdraw other set) h =
    let parts = and_parts (has_set script set) (is_neighbour script client other && script.version == 3) h in
    eqb-true script.version 3 (and_parts (is_neighbour script client other) (script.version == 3) parts.1).1

pub can_append : (script : ScriptData) (client : ℕ) (command : Command) → may_append script client command ≡ true → MeetsAppend script client command
can_append script client command h =
    let parts = and_parts (nat_lt (length script.commands) MAX_COMMANDS_OF_SERVICE) (may_ask script client command) h in
    record {
      room = ltb-true (length script.commands) MAX_COMMANDS_OF_SERVICE parts.0;
      targets = has_targets script client command parts.1;
      modes = has_modes script client command parts.1;
    }

-- and a command that names no other may be asked
pub asks : (script : ScriptData) (client : ℕ) (command : Command) → HasTargets script.sets script.clients client command → IsOfVersion script.version command
    → may_ask script client command ≡ true
asks script client (Lock set mode) targets modes = and_from (has_set script set) (is_of_version script.version mode) (lt-ltb set (length script.sets) targets) modes
asks script client (Try set mode) targets modes = and_from (has_set script set) (is_of_version script.version mode) (lt-ltb set (length script.sets) targets) modes
asks script client (Unlock set mode) targets modes = and_from (has_set script set) (is_of_version script.version mode) (lt-ltb set (length script.sets) targets) modes
asks script client (Change set gives_up mode) targets modes =
    and_from (has_set script set) (is_of_version script.version gives_up && is_of_version script.version mode) (lt-ltb set (length script.sets) targets)
    (and_from (is_of_version script.version gives_up) (is_of_version script.version mode) modes.0 modes.1)
asks script client (DropAll other set) targets modes =
    and_from (has_set script set) (is_neighbour script client other) (lt-ltb set (length script.sets) targets.0)
    (and_from (nat_lt other (length script.clients)) (home_at script.clients other == home_at script.clients client)
    (lt-ltb other (length script.clients) targets.1) (eq-eqb (home_at script.clients other) (home_at script.clients client) targets.2))
asks script client (Withdraw other set) targets version =
    and_from (has_set script set) (is_neighbour script client other && script.version == 3) (lt-ltb set (length script.sets) targets.0)
    (and_from (is_neighbour script client other) (script.version == 3)
    (and_from (nat_lt other (length script.clients)) (home_at script.clients other == home_at script.clients client)
    (lt-ltb other (length script.clients) targets.1) (eq-eqb (home_at script.clients other) (home_at script.clients client) targets.2))
    (eq-eqb script.version 3 version))

-- The parts of a turn.

only_request : (a : Parts) (client : ℕ) (command : Command) → OnlyAppends a (with_appended a client command)
only_request a client command = record { runner = refl; commands = ((client, command) ∷ [], refl) }

pub only_self : (a : Parts) → OnlyAppends a a
only_self a = record { runner = refl; commands = ([], append-nil a.node.script.commands) }

pub only_handed : (a b : Parts) (x y : Seat) → MayHandOver x a y b → OnlyAppends a b
only_handed a b x y (inl over) = subst (λ (p : Parts). OnlyAppends a p) (sym over.runner) (only_request a x.client over.command)
only_handed a b x y (inr still) = subst (λ (p : Parts). OnlyAppends a p) (sym still.1) (only_self a)

pub only_join : (a b c : Parts) → OnlyAppends a b → OnlyAppends b c → OnlyAppends a c
only_join a b c h k = record {
  runner = k.runner ∙ ap (λ (p : Parts). with_all p c.node.script.commands c.idle) h.runner;
  commands = (
    h.commands.0 ++ k.commands.0,
    sym (append_assoc a.node.script.commands h.commands.0 k.commands.0)
        ∙ ap (λ (list : List (ℕ × Command)). list ++ k.commands.0) h.commands.1
        ∙ k.commands.1,
  );
}

-- no turn was made
pub seen_self : (a : Parts) → AsSeen a a
seen_self a = record {
  same = same_self a;
  state = refl;
  log = refl;
  sent = λ node. refl;
  used = λ node letters e. e;
  hand = holds a.hand;
}
  where
    holds : (x : Option Hand) → HandStays x x
    holds None = tt
    holds (Some x) = (refl, refl)

-- which commands a client may ask for doesn't hang on those that there are
pub ask_same : (script : ScriptData) (commands : List (ℕ × Command)) (client : ℕ) (command : Command)
    → may_ask (with_commands script commands) client command ≡ may_ask script client command
ask_same script commands client (Lock set mode) = refl
ask_same script commands client (Try set mode) = refl
ask_same script commands client (Unlock set mode) = refl
ask_same script commands client (Change set gives_up mode) = refl
ask_same script commands client (DropAll other set) = refl
ask_same script commands client (Withdraw other set) = refl

not_later : (t u ask : Bool) → (t ≡ false → u ≡ false) → t && ask ≡ false → u && ask ≡ false
not_later true true ask goes e = e
not_later true false ask goes e = refl
not_later false u ask goes e = ap (λ (b : Bool). b && ask) (goes refl)

-- what can't be appended can't be once there are more commands
can_not_with : (a : Parts) (commands : List (ℕ × Command)) (idle : Bool) (seat : Seat) → length a.node.script.commands ≤ length commands
    → CanNotAppend a seat → CanNotAppend (with_all a commands idle) seat
can_not_with a commands idle seat more h command hand =
    let ask = may_ask a.node.script seat.client command in
    ap (λ (t : Bool). nat_lt (length commands) MAX_COMMANDS_OF_SERVICE && t) (ask_same a.node.script commands seat.client command)
    ∙ not_later (nat_lt (length a.node.script.commands) MAX_COMMANDS_OF_SERVICE) (nat_lt (length commands) MAX_COMMANDS_OF_SERVICE) ask
    (λ full. let past = ltb-false (length a.node.script.commands) MAX_COMMANDS_OF_SERVICE full in le-ltb (length commands) MAX_COMMANDS_OF_SERVICE (omega (arith, past, more)))
    (h command hand)

pub can_not_later : (a b : Parts) (seat : Seat) → OnlyAppends a b → CanNotAppend a seat → CanNotAppend b seat
can_not_later a b seat only h =
    let more : length a.node.script.commands ≤ length b.node.script.commands =
    omega (arith, length-append a.node.script.commands only.commands.0, ap (λ (l : List (ℕ × Command)). length l) only.commands.1) in
    subst (λ (p : Parts). CanNotAppend p seat) (sym only.runner) (can_not_with a b.node.script.commands b.idle seat more h)

-- none of the first n seats has a command in hand that can be appended
abbrev pub FirstCanNot : ℕ → Parts → List Seat → Type 0
FirstCanNot n p seats = (k : ℕ) (seat : Seat) → k < n → slice_get seats k ≡ Some seat → CanNotAppend p seat

pub none_first : (p : Parts) (seats : List Seat) → FirstCanNot 0 p seats
none_first p seats k seat below e = absurd (omega (arith, below))

pub first_on : (n : ℕ) (a b : Parts) (old new : List Seat) → OnlyAppends a b → SeatAt HandMayGo n old new → FirstCanNot n a old
    → ((seat : Seat) → slice_get new n ≡ Some seat → CanNotAppend b seat) → FirstCanNot (n + 1) b new
first_on n a b old new only at before here k seat below e = elim (cases_eq k n) [
  | inl same ↦ here seat (ap (slice_get new) (sym same) ∙ e)
  | inr apart ↦ can_not_later a b seat only (before k seat (omega (arith, below, apart)) (sym (at.others k apart) ∙ e))
]

pub first_all : (n : ℕ) (p : Parts) (seats : List Seat) → length seats ≤ n → FirstCanNot n p seats → NoneCanAppend p seats
first_all n p seats long h k seat e = let inside = slice_get_within seats k seat e in h k seat (omega (arith, inside, long)) e

pub cursors : (p : Parts) (seats : List Seat) → IsStation p seats → HaveCursors p.log seats
cursors p seats h k seat e = let is = h.each k seat e in (is.kept.cursor, is.gone)

-- the seat took a command, and then the one in hand may have gone
record TookAndGave (s t : Seat) : Type 0 where
  held : Seat
  takes : TakesIn s held
  hand : HandMayGo held t

took_and_gave : (a b c : Seat) → TakesIn a b → HandMayGo b c → TookAndGave a c
took_and_gave a b c takes hand = record { held = b; takes = takes; hand = hand }

seat_turned : (log : List Logged) (a b c : Seat) → TookAndGave a b → TellsSeat log b c → SeatTurns log a c
seat_turned log a b c h tells = record { held = h.held; left = b; takes = h.takes; hand = h.hand; tells = tells }

-- what a seat that told can't append, it couldn't before
told_can_not : (a b : Parts) (log : List Logged) (x seat : Seat) → b.node.script ≡ a.node.script → TellsSeat log x seat → CanNotAppend a x → CanNotAppend b seat
told_can_not a b log x seat same tells h command hand =
    ap (λ (s : ScriptData). may_append s seat.client command) same
    ∙ ap (λ (c : ℕ). may_append a.node.script c command) tells.on.rest.same.client
    ∙ h command (sym tells.on.rest.hand ∙ hand)

none_told : (a b : Parts) (log : List Logged) (two later : List Seat) → b.node.script ≡ a.node.script → EachSeat (TellsSeat log) two later
    → NoneCanAppend a two → NoneCanAppend b later
none_told a b log two later same tells none k seat e =
    let (x, here, told) = each_before (TellsSeat log) two later tells k seat e in
    told_can_not a b log x seat same told (none k x here)

-- a command in hand that can be appended can be once replies were told
some_told : (p : Parts) (log : List Logged) (two later : List Seat) → EachSeat (TellsSeat log) two later → SomeCanAppend p two → SomeCanAppend p later
some_told p log two later same some =
    let (k, x, here, can) = some in
    let (command, hand, may) = can in
    let (seat, there, told) = each_after (TellsSeat log) two later same k x here in
    (k, seat, there, (command, told.on.rest.hand ∙ hand, ap (λ (c : ℕ). may_append p.node.script c command) told.on.rest.same.client ∙ may))

-- what is known of a turn of the runner, or that there was none for want of memory
pub record Moving (fits : Bool) (turned : Turned) (a b : Parts) : Type 0 where
  pub grew : Grew a b
  pub ends : fits ≡ true → TurnEnds turned a b
  pub shown : fits ≡ true → next_choice a ≢ choices.Nothing → turned ≢ Quiet
  pub passed : fits ≡ true → HasPassedOn a b
  pub memory : fits ≡ false → (turned ≡ NoMemory) × (b ≡ a)

turn_ends : (turned : Turned) (a b : Parts) (seats : List Seat) → TurnEnds turned a b → MoveEnds turned a b seats
turn_ends Moved a b seats h = h
turn_ends Quiet a b seats h = h
turn_ends Full a b seats h = h
turn_ends NoMemory a b seats h = (h.0, inl h.1)

move_ends : (fits : Bool) (turned : Turned) (a b : Parts) (log : List Logged) (two later : List Seat) → Moving fits turned a b → (fits ≡ false → SomeCanAppend a two)
    → EachSeat (TellsSeat log) two later → MoveEnds turned a b later
move_ends true turned a b log two later h some tells = turn_ends turned a b later (h.ends refl)
move_ends false turned a b log two later h some tells =
    let (short, same) = h.memory refl in
    subst (λ (t : Turned). MoveEnds t a b later) (sym short)
    (subst (λ (p : Parts). MoveEnds NoMemory a p later) (sym same) (seen_self a, inr (some_told a log two later tells (some refl))))

-- memory didn't run out
pub fits_then : (fits : Bool) (turned : Turned) (a b : Parts) → Moving fits turned a b → turned ≢ NoMemory → fits ≡ true
fits_then true turned a b h some = refl
fits_then false turned a b h some = absurd (some (h.memory refl).0)

-- commands that were appended are in no letter
passed_before : (a mid b : Parts) → OnlyAppends a mid → HasPassedOn mid b → HasPassedOn a b
passed_before a mid b only passed = subst (λ (p : Parts). HasPassedOn p b) only.runner passed

pub turns : (turned : Turned) (fits : Bool) (a mid b : Parts) (seats one two later : List Seat) → EachSeat TakesIn seats one → OnlyAppends a mid → EachSeat HandMayGo one two
    → (fits ≡ true → NoneCanAppend mid two) → (fits ≡ false → SomeCanAppend mid two) → Moving fits turned mid b → EachSeat (TellsSeat b.log.entries) two later
    → StationTurns turned a seats b later
turns turned fits a mid b seats one two later takes only gives none some h tells = record {
  between = mid;
  appends = only;
  grew = h.grew;
  ends = move_ends fits turned mid b b.log.entries two later h some tells;
  shown = λ moves. h.shown (fits_then fits turned mid b h moves);
  hands = λ moves. none_told mid b b.log.entries two later h.grew.same.script tells (none (fits_then fits turned mid b h moves));
  passed = λ moves. passed_before a mid b only (h.passed (fits_then fits turned mid b h moves));
  each = each_join TookAndGave (TellsSeat b.log.entries) (SeatTurns b.log.entries) (seat_turned b.log.entries) seats two later
      (each_join TakesIn HandMayGo TookAndGave took_and_gave seats one two takes gives) tells;
}
