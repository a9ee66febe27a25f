-- What each station knows once all sessions and their seats looked.
use Rattle.std.proofs.Common.{◌≡◌, ◌≤◌, ◌+◌, ◌++◌, ℕ, List, [], length, Option, Some, true, sym, ap, subst, arith, ◌∙◌, inl, inr, slice_get, option_map, length-append}
use Rattle.std.proofs.lemmas.Bool.{cases_eq}
use Rattle.std.proofs.lemmas.Option.{same_Some, slice_get-map, slice_get_within}
use Rattle.lt_modes.specs.declared.command.Command.{Command}
use Rattle.lt_modes.specs.Script.{ScriptData}
use Rattle.lt_script.proofs.NameLemmas.{element_at}
use Rattle.lt_spec.specs.NodeMove.{commands_of, home}
use Rattle.lt_runner.specs.declared.parts.Parts.{Parts}
use Rattle.lt_threads.specs.Meeting.{InShares}
use Rattle.lt_live.specs.declared.ends.Seat.{Seat}
use Rattle.lt_live.specs.declared.ends.Session.{Session}
use Rattle.lt_live.specs.Live.{IsSessionOf}
use Rattle.lt_live.specs.Submitting.{may_ask}
use Rattle.lt_live.specs.Stations.{runner_of, StationData, equal_share}
use Rattle.lt_live.specs.Words.{submitted, taken, known_commands, outbox_replies, command_held}
use Rattle.lt_live.proofs.SeatLists.{each_before}
use Rattle.lt_live.proofs.TurnParts.{asks, ask_same}
use Rattle.lt_live_callers.specs.Taking.{SessionIsBeside, SessionsBesideTo, AreAsking, IsKeptStation, SeatKeepsHand, StationOnlyLooks}
use Rattle.lt_live_callers.proofs.Missing.{Within, none_apart, middle}

-- what the station of this client knows of its commands, once both ends looked
pub record Seen (stations : List StationData) (script : ScriptData) (client : ℕ) (s : Session) : Type 0 where
  pub station : StationData
  pub here : slice_get stations (home script client) ≡ Some station
  pub seat : Seat
  pub at : slice_get station.seats s.place ≡ Some seat
  pub client_is : seat.client ≡ client
  pub waits : outbox_replies seat ≡ []
  pub took : taken seat ≡ commands_of station.runner.node.script client ++ command_held seat.hand
  pub rest : (commands_of station.runner.node.script client ++ command_held seat.hand) ++ known_commands seat ≡ submitted s
  pub few : length (submitted s) ≤ equal_share script
  pub asks : (command : Command) → seat.hand ≡ Some command → may_ask station.runner.node.script client command ≡ true

-- what was taken at each seat is the client's list, and then the command in hand
abbrev pub HasTaken : StationData → Type 0
HasTaken station = (k : ℕ) (seat : Seat) → slice_get station.seats k ≡ Some seat
    → taken seat ≡ commands_of station.runner.node.script seat.client ++ command_held seat.hand

abbrev pub HaveTaken : List StationData → Type 0
HaveTaken stations = (q : ℕ) (station : StationData) → slice_get stations q ≡ Some station → HasTaken station

pub taken_kept : (station : StationData) → IsKeptStation station → HasTaken station
taken_kept station kept k seat here = (kept.is_station.each k seat here).kept.taken

pub taken_looked : (a b : StationData) → StationOnlyLooks a b → HasTaken a → HasTaken b
taken_looked a b looks had k seat here =
    let (was, there, same) = each_before SeatKeepsHand a.seats b.seats looks.hands k seat here in
    same.taken
    ∙ had k was there
    ∙ ap (λ (p : Parts). commands_of p.node.script was.client ++ command_held was.hand) (sym looks.runner)
    ∙ ap (λ (c : ℕ). commands_of b.runner.node.script c ++ command_held was.hand) (sym same.client)
    ∙ ap (λ (hand : Option Command). commands_of b.runner.node.script seat.client ++ command_held hand) (sym same.hand)

share_at : (script : ScriptData) (stations : List StationData) (sessions : List Session) → AreAsking script stations sessions
    → (q : ℕ) (x : StationData) → slice_get stations q ≡ Some x → InShares script q x.runner
share_at script stations sessions asking q x here =
    asking.live.runners.each q x.runner (slice_get-map runner_of stations q ∙ ap (option_map runner_of) here)

module _ (script : ScriptData) (stations : List StationData) (sessions : List Session) (client : ℕ) (s : Session) (asking : AreAsking script stations sessions)
    (had : HaveTaken stations) (found : slice_get sessions client ≡ Some s) (b : SessionIsBeside script stations client s) where
  session_is : IsSessionOf script stations client s
  session_is = asking.live.each client s found

  client_same : b.seat.client ≡ client
  client_same = b.link.0 ∙ session_is.client_is

  took_is : taken b.seat ≡ commands_of b.station.runner.node.script client ++ command_held b.seat.hand
  took_is = had (home script client) b.station b.here s.place b.seat b.at ∙ ap (λ (k : ℕ). commands_of b.station.runner.node.script k ++ command_held b.seat.hand) client_same

  rest_is : (commands_of b.station.runner.node.script client ++ command_held b.seat.hand) ++ known_commands b.seat ≡ submitted s
  rest_is = ap (λ (list : List Command). list ++ known_commands b.seat) (sym took_is) ∙ b.beside.commands

  there : (command : Command) → b.seat.hand ≡ Some command
      → slice_get (submitted s) (length (commands_of b.station.runner.node.script client)) ≡ Some command
  there command e =
      ap (λ (list : List Command). slice_get list (length (commands_of b.station.runner.node.script client)))
      (sym rest_is
      ∙ ap (λ (hand : Option Command). (commands_of b.station.runner.node.script client ++ command_held hand) ++ known_commands b.seat) e)
      ∙ middle (commands_of b.station.runner.node.script client) command (known_commands b.seat)

  asks_is : (command : Command) → b.seat.hand ≡ Some command → may_ask b.station.runner.node.script client command ≡ true
  asks_is command e =
      let share = share_at script stations sessions asking (home script client) b.station b.here in
      let names = (asking.each client s found).names (length (commands_of b.station.runner.node.script client)) command (there command e) in
      ap (λ (t : ScriptData). may_ask t client command) share.script_is
      ∙ ask_same script b.station.runner.node.script.commands client command
      ∙ ap (λ (t : ScriptData). may_ask t client command) (sym session_is.script_is)
      ∙ ap (λ (k : ℕ). may_ask s.script k command) (sym session_is.client_is)
      ∙ asks s.script s.client command names.targets names.modes

  seen : Seen stations script client s
  seen = record {
    station = b.station;
    here = b.here;
    seat = b.seat;
    at = b.at;
    client_is = client_same;
    waits = (asking.each client s found).hears b.station b.here b.seat b.at;
    took = took_is;
    rest = rest_is;
    few = let spent = s.spent in let share = (asking.each client s found).share in omega (arith, spent, share);
    asks = asks_is;
  }

-- all sessions and their seats looked
pub record AllBeside (script : ScriptData) (stations : List StationData) (sessions : List Session) : Type 0 where
  pub asking : AreAsking script stations sessions
  pub had : HaveTaken stations
  pub beside : SessionsBesideTo script (length sessions) stations sessions

module _ (script : ScriptData) (stations : List StationData) (sessions : List Session) (h : AllBeside script stations sessions) where
  pub seen_at : (k : ℕ) (s : Session) → slice_get sessions k ≡ Some s → Seen stations script k s
  seen_at k s found =
      seen script stations sessions k s h.asking h.had found (h.beside k s (slice_get_within sessions k s found) found)

  pub within : (q : ℕ) (x : StationData) → slice_get stations q ≡ Some x → Within (length script.clients) x.runner.node.script (equal_share script)
  within q x here k below = elim (cases_eq (home script k) q) [
    | inl at ↦
        let (s, found) = element_at sessions k (omega (arith, below, h.asking.live.count)) in
        let seen_it = seen_at k s found in
        let is : seen_it.station ≡ x = same_Some seen_it.station x (sym seen_it.here ∙ ap (slice_get stations) at ∙ here) in
        subst (λ (v : StationData). length (commands_of v.runner.node.script k) ≤ equal_share script) is
        (first_of (commands_of seen_it.station.runner.node.script k) (command_held seen_it.seat.hand) (known_commands seen_it.seat) (submitted s) seen_it.rest seen_it.few)
    | inr apart ↦
        let none = none_apart script q k x.runner.node.script.commands (share_at script stations sessions h.asking q x here).own apart in
        let few = ap (λ (list : List Command). length list) none in
        omega (arith, few)
  ]
    where
      first_of : (xs ys zs all : List Command) → (xs ++ ys) ++ zs ≡ all → length all ≤ equal_share script → length xs ≤ equal_share script
      first_of xs ys zs all e few =
          let sum = ap (λ (list : List Command). length list) e in
          omega (arith, sum, few, length-append (xs ++ ys) zs, length-append xs ys)

  pub same_clients : (q : ℕ) (x : StationData) → slice_get stations q ≡ Some x → length x.runner.node.script.clients ≡ length script.clients
  same_clients q x here = ap (λ (t : ScriptData). length t.clients) (share_at script stations sessions h.asking q x here).script_is
