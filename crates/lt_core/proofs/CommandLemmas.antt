-- The line that a command sends out, and the room that a change of what is held leaves.
use Rattle.std.proofs.Common.{◌≡◌, ◌∙◌, ℕ, ◌+◌, ◌≤◌, ◌<◌, Bool, true, false, [], ◌∷◌, ◌++◌, length, sym, ap, refl, arith, append-nil, length-append, not, Option, Some, None}
use Rattle.lt_modes.specs.Modes.{locks_in}
use Rattle.lt_modes.specs.Granting.{can_grant}
use Rattle.lt_modes.specs.State.{SetState, ParkedAsk}
use Rattle.lt_modes.specs.declared.mode.Mode.{Mode}
use Rattle.lt_modes.specs.declared.stamp.Stamp.{Stamp}
use Rattle.lt_modes.specs.declared.ask.Ask.{Ask}
use Rattle.lt_modes.specs.SetMove.{answers, asked}
use Rattle.lt_modes.specs.Routing.{route}
use Rattle.lt_modes.specs.declared.event.Event.{Event}
use Rattle.lt_modes.specs.declared.event.Event.TheVariants.{Wait}
use Rattle.lt_desk.specs.DeskData.{DeskData, OutData, FitsOut, out_after}
use Rattle.lt_core.specs.CoreData.{CoreData, Does, HasRoom, waiting_here, room_by, epoch_of, freeze_number_of}
use Rattle.lt_core.proofs.NoticeLemmas.{does_then, fits_first, fits_after}

-- there is room for the line of a rule that sends one
pub room_for_line : (line : Event) (s : SetState) (out : OutData) → FitsOut (answers line s) out → length out.events < out.event_room
room_for_line line s out fits = omega (arith, fits.events, length-append out.events (line ∷ []))

-- such a rule sends no letter
pub line_sent : (line : Event) (s : SetState) (had out : OutData) → out ≡ record had { events = had.events ++ line ∷ [] } → out ≡ out_after (answers line s) had
line_sent line s had out sent = sent ∙ (λ i. record had { posts = sym (append-nil had.posts) i; events = had.events ++ line ∷ [] })

-- more room for rows is no less room for asks
pub room_by_more : (d : Option DeskData) (n a b : ℕ) → a ≤ b + n → room_by d a ≤ room_by d b + n
room_by_more None n a b h = h
room_by_more (Some d) n a b h = omega (arith, h)

pub no_less : (a b : ℕ) → a ≤ b → a ≤ b + 0
no_less a b h = omega (arith, h)

-- where at most n more locks are held, there is room for n asks less
pub room_held : (n k clock : ℕ) (old new : CoreData) → HasRoom (k + n) clock old
    → waiting_here new.state ≡ waiting_here old.state → new.state.desk ≡ old.state.desk → new.parked_room ≡ old.parked_room → new.tell_room ≡ old.tell_room
    → old.room ≤ new.room + n → locks_in new.state.held ≤ locks_in old.state.held + n → HasRoom k clock new
room_held n k clock old new r waiting desk parked tells room locks =
    record {
      rows = omega (arith, r.rows, waiting, room);
      parked = omega (arith, r.parked, parked);
      locks = omega (arith, r.locks, waiting, locks);
      epoch = omega (arith, r.epoch, ap epoch_of desk);
      number = omega (arith, r.number, ap freeze_number_of desk);
      tells = omega (arith, r.tells, tells);
    }

-- what a negated test says
pub not_false : (b t : Bool) → t ≡ not b → t ≡ false → b ≡ true
not_false true t e f = refl
not_false false t e f = sym f ∙ e

pub not_true : (b t : Bool) → t ≡ not b → t ≡ true → b ≡ false
not_true true t e f = sym f ∙ e
not_true false t e f = refl

-- whether the client can have the mode, as the code found it
pub granted_is : (core : CoreData) (stamp : Stamp) (client : ℕ) (mode : Mode) (found b : Bool) → stamp.node ≡ core.node
    → found ≡ can_grant core.node core.state client mode → found ≡ b → can_grant stamp.node core.state client mode ≡ b
granted_is core stamp client mode found b node is e = ap (λ n. can_grant n core.state client mode) node ∙ sym is ∙ e

-- A client that waits: the core with its ask, the line that tells of it, and then its way to the desk.

abbrev pub asking : CoreData → Ask → CoreData
asking core ask = record core { state = record core.state { pending = core.state.pending ++ ask ∷ [] } }

pub room_for_wait : (set : ℕ) (stamp : Stamp) (ask : Ask) (s : SetState) (out : OutData) → FitsOut (asked set stamp ask s) out → length out.events < out.event_room
room_for_wait set stamp ask s out fits =
    let first = answers (Wait ask.client set ask.mode) (record s { pending = s.pending ++ ask ∷ [] }) in
    room_for_line (Wait ask.client set ask.mode) first.state out (fits_first first (route set stamp false (ParkedAsk ask) first.state) out fits)

waits_first : (core : CoreData) (ask : Ask) (had sent : OutData) → sent ≡ record had { events = had.events ++ Wait ask.client core.set ask.mode ∷ [] }
    → Does (answers (Wait ask.client core.set ask.mode) (asking core ask).state) core had (asking core ask) sent
waits_first core ask had sent line =
    record { node = refl; set = refl; state = refl; sent = line_sent (Wait ask.client core.set ask.mode) (asking core ask).state had sent line }

pub asked_does : (old new : CoreData) (stamp : Stamp) (ask : Ask) (had sent out : OutData)
    → sent ≡ record had { events = had.events ++ Wait ask.client old.set ask.mode ∷ [] }
    → Does (route old.set stamp false (ParkedAsk ask) (asking old ask).state) (asking old ask) sent new out
    → Does (asked old.set stamp ask old.state) old had new out
asked_does old new stamp ask had sent out line second =
    does_then (answers (Wait ask.client old.set ask.mode) (asking old ask).state) (λ set. route set stamp false (ParkedAsk ask)) old (asking old ask) new had sent out
    (waits_first old ask had sent line) second

pub asked_fits : (old : CoreData) (stamp : Stamp) (ask : Ask) (had sent : OutData)
    → sent ≡ record had { events = had.events ++ Wait ask.client old.set ask.mode ∷ [] }
    → FitsOut (asked old.set stamp ask old.state) had → FitsOut (route old.set stamp false (ParkedAsk ask) (asking old ask).state) sent
asked_fits old stamp ask had sent line fits =
    fits_after (answers (Wait ask.client old.set ask.mode) (asking old ask).state) (λ set. route set stamp false (ParkedAsk ask)) old (asking old ask) had sent
    (waits_first old ask had sent line) fits
