-- What was taken at the seats of sessions, before and after they look at their rings.
use Rattle.std.proofs.Common.{◌≡◌, ◌≤◌, ℕ, ◌+◌, List, ◌++◌, map, length, Option, Some, refl, sym, ap, subst, arith, ◌∙◌, inl, inr, slice_get, slice_set, option_map}
use Rattle.std.proofs.lemmas.Bool.{cases_eq}
use Rattle.std.proofs.lemmas.Option.{same_Some, slice_get-map}
use Rattle.lt_modes.specs.declared.command.Command.{Command}
use Rattle.lt_modes.specs.Script.{ScriptData}
use Rattle.lt_spec.specs.NodeMove.{commands_of, home}
use Rattle.lt_spec.specs.World.{Logged}
use Rattle.lt_mail.specs.Words.{Alike}
use Rattle.lt_runner.specs.declared.parts.Parts.{Parts}
use Rattle.lt_live.specs.declared.ends.Session.{Session}
use Rattle.lt_live.specs.declared.ends.Seat.{Seat}
use Rattle.lt_live.specs.Words.{submitted, taken, known_commands, command_held}
use Rattle.lt_live.specs.Seats.{HasAllCommands, TakesNoCommand}
use Rattle.lt_live.specs.Stations.{StationData, IsStation, EachSeat, SeatLooks, runner_of}
use Rattle.lt_live.specs.Live.{AreLive, EachStation, EachSession, SaysSame, SeatsTakeNone, Settling, HasOwnCommands, HaveOwnCommands, KeepsOwnCommands}
use Rattle.lt_live.proofs.SeatLists.{alike_self, alike_set, alike_join, alike_after, each_after}

-- No command was taken.

none_itself : (seat : Seat) → TakesNoCommand seat seat
none_itself seat = record { client = refl; taken = refl; hand = refl }

none_join : (a b c : Seat) → TakesNoCommand a b → TakesNoCommand b c → TakesNoCommand a c
none_join a b c first second = record {
  client = second.client ∙ first.client;
  taken = second.taken ∙ first.taken;
  hand = second.hand ∙ first.hand;
}

pub station_none_itself : (station : StationData) → SeatsTakeNone station station
station_none_itself station k = alike_self TakesNoCommand none_itself station.seats k

pub station_none_join : (a b c : StationData) → SeatsTakeNone a b → SeatsTakeNone b c → SeatsTakeNone a c
station_none_join a b c first second k = alike_join TakesNoCommand none_join a.seats b.seats c.seats first second k

-- a look at the rings of one session takes none
look_takes_none : (log : List Logged) (s t : Session) (old new : List Seat) → SeatLooks log s t old new → EachSeat TakesNoCommand old new
look_takes_none log s t old new h k = elim (cases_eq k s.place) [
  | inl at ↦
      subst (λ (j : ℕ). Alike TakesNoCommand (slice_get old j) (slice_get new j)) (sym at)
      (subst (λ (o : Option Seat). Alike TakesNoCommand o (slice_get new s.place)) (sym h.before)
      (subst (λ (o : Option Seat). Alike TakesNoCommand (Some h.x) o) (sym h.now)
      (record { client = h.looks.seat.client; taken = h.looks.taken.0; hand = h.looks.taken.1 })))
  | inr apart ↦ subst (λ (o : Option Seat). Alike TakesNoCommand (slice_get old k) o) (sym (h.others k apart)) (alike_self TakesNoCommand none_itself old k)
]

-- All that was submitted, but what is in hand and in the ring.

-- so it is where the same was submitted, and no command taken
pub all_before : (list other : List Command) (s t : Session) (x y : Seat) → other ≡ list → submitted t ≡ submitted s → TakesNoCommand x y → HasAllCommands other t y
    → HasAllCommands list s x
all_before list other s t x y same says none h = record {
  taken = sym none.taken ∙ h.taken ∙ held;
  in_ring = h.in_ring;
  all = sym says ∙ h.all ∙ ap (λ (commands : List Command). commands ++ h.in_ring) held;
}
  where
    held : other ++ command_held y.hand ≡ list ++ command_held x.hand
    held =
        ap (λ (commands : List Command). commands ++ command_held y.hand) same
        ∙ ap (λ (hand : Option Command). list ++ command_held hand) none.hand

pub all_after : (list : List Command) (s t : Session) (x y : Seat) → submitted t ≡ submitted s → TakesNoCommand x y → HasAllCommands list s x → HasAllCommands list t y
all_after list s t x y says none h =
    all_before list list t s y x refl (sym says) (record { client = sym none.client; taken = sym none.taken; hand = sym none.hand }) h

-- a session that looked at its ring has it
look_has_all : (p : Parts) (client : ℕ) (s t : Session) (old new : List Seat) → IsStation p old → (h : SeatLooks p.log.entries s t old new) → h.x.client ≡ client
    → HasAllCommands (commands_of p.node.script client) s h.x
look_has_all p client s t old new station h is = record {
  taken = own;
  in_ring = known_commands h.y;
  all = sym h.looks.submitted.0 ∙ sym h.beside.commands ∙ ap (λ (commands : List Command). commands ++ known_commands h.y) (h.looks.taken.0 ∙ own);
}
  where
    own : taken h.x ≡ commands_of p.node.script client ++ command_held h.x.hand
    own =
        (station.each s.place h.x h.before).kept.taken
        ∙ ap (λ (c : ℕ). commands_of p.node.script c ++ command_held h.x.hand) is

-- it is the session at this place, with its station at that one
module _ (script : ScriptData) (client place : ℕ) (stations : List StationData) (sessions : List Session) (x y : StationData) (s t : Session)
    (live : AreLive script stations sessions) (session : slice_get sessions client ≡ Some s) (at : place ≡ home script client)
    (station : slice_get stations place ≡ Some x) (kept : IsStation x.runner x.seats) (looks : SeatLooks x.runner.log.entries s t x.seats y.seats) where
  of_client : looks.x.client ≡ client
  of_client =
      let known = live.each client s session in
      let here : known.station ≡ x = same_Some known.station x (sym known.here ∙ ap (slice_get stations) (sym at) ∙ station) in
      let seat : slice_get x.seats s.place ≡ Some known.seated.seat = ap (λ (z : StationData). slice_get z.seats s.place) (sym here) ∙ known.seated.here in
      ap (λ (z : Seat). z.client) (same_Some looks.x known.seated.seat (sym looks.before ∙ seat)) ∙ known.seated.link.0 ∙ known.client_is

  has_own : HasOwnCommands script stations sessions client
  has_own u seat there end =
      let is : s ≡ u = same_Some s u (sym session ∙ there) in
      let here : x ≡ end.station = same_Some x end.station (sym station ∙ ap (slice_get stations) at ∙ end.here) in
      let seat_is : looks.x ≡ seat =
      same_Some looks.x seat (sym looks.before ∙ ap (λ (z : StationData). slice_get z.seats s.place) here ∙ ap (λ (v : Session). slice_get end.station.seats v.place) is ∙ end.seat_is) in
      subst (λ (z : StationData). HasAllCommands (commands_of z.runner.node.script client) u seat) here
      (subst (λ (v : Session). HasAllCommands (commands_of x.runner.node.script client) v seat) is
      (subst (λ (z : Seat). HasAllCommands (commands_of x.runner.node.script client) s z) seat_is
      (look_has_all x.runner client s t x.seats y.seats kept looks of_client)))

  pub keeps_own : KeepsOwnCommands script client stations sessions (slice_set stations place y)
  keeps_own = record {
    none = alike_set SeatsTakeNone station_none_itself stations place x y station (look_takes_none x.runner.log.entries s t x.seats y.seats looks);
    own = has_own;
  }

-- Session after session looks at its rings.

-- a client that has all in its station's script had it before, where no command was taken
own_before : (script : ScriptData) (client : ℕ) (stations mid : List StationData) (sessions between : List Session) → EachStation SeatsTakeNone stations mid
    → map runner_of mid ≡ map runner_of stations → EachSession SaysSame sessions between → HasOwnCommands script mid between client
    → HasOwnCommands script stations sessions client
own_before script client stations mid sessions between none runners says own s seat here end =
    let (t, now, said) = alike_after SaysSame sessions between says client s here in
    let (later, there, seats) = alike_after SeatsTakeNone stations mid none (home script client) end.station end.here in
    let (other, other_is, taken) = each_after TakesNoCommand end.station.seats later.seats seats s.place seat end.seat_is in
    let say : SaysSame s t = said in
    let same : later.runner ≡ end.station.runner =
    same_Some later.runner end.station.runner
    (sym (ap (option_map runner_of) there) ∙ sym (slice_get-map runner_of mid (home script client)) ∙ ap (λ (rs : List Parts). slice_get rs (home script client)) runners
    ∙ slice_get-map runner_of stations (home script client) ∙ ap (option_map runner_of) end.here) in
    all_before (commands_of end.station.runner.node.script client) (commands_of later.runner.node.script client) s t seat other
    (ap (λ (p : Parts). commands_of p.node.script client) same) say.submitted taken
    (own t other now (record { station = later; here = there; seat_is = ap (slice_get later.seats) say.same.place ∙ other_is }))

pub none_own : (script : ScriptData) (stations : List StationData) (sessions : List Session) → HaveOwnCommands script 0 stations sessions stations
none_own script stations sessions = record {
  none = alike_self SeatsTakeNone station_none_itself stations;
  own = λ client below. absurd (omega (arith, below));
}

pub next_own : (script : ScriptData) (n : ℕ) (stations mid later : List StationData) (sessions between : List Session) → Settling script n stations sessions mid between
    → HaveOwnCommands script n stations sessions mid → KeepsOwnCommands script n mid between later → HaveOwnCommands script (n + 1) stations sessions later
next_own script n stations mid later sessions between settled h at = record {
  none = alike_join SeatsTakeNone station_none_join stations mid later h.none at.none;
  own = λ client below. elim (cases_eq client n) [
    | inl here ↦
        subst (λ (k : ℕ). HasOwnCommands script stations sessions k) (sym here)
        (own_before script n stations mid sessions between h.none settled.runners settled.each at.own)
    | inr apart ↦ h.own client (omega (arith, below, apart))
  ];
}

pub all_own : (script : ScriptData) (n : ℕ) (stations later : List StationData) (sessions : List Session) → length sessions ≤ n
    → HaveOwnCommands script n stations sessions later → HaveOwnCommands script (length sessions) stations sessions later
all_own script n stations later sessions long h = record { none = h.none; own = λ client below. h.own client (omega (arith, below, long)) }
