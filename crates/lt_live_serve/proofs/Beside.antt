-- What each station knows once all callers and their seats looked.
use Rattle.std.proofs.Common.{◌≡◌, ◌≤◌, ◌++◌, ℕ, List, [], length, Option, Some, true, sym, ap, subst, arith, ◌∙◌, inl, inr, take_all, ◌<◌, zero, suc, ◌∷◌, map, get_or, None, Bool, false, refl, ◌≢◌, ◌+◌, take, slice_get, ◌⊎◌, ◌==◌, filter_map, if◌then◌else◌, slice_index_or, option_map, eqb-true, lt-ltb, length-append, length-take}
use Rattle.std.proofs.lemmas.Bool.{cases_eq, false≢true}
use Rattle.std.proofs.lemmas.List.{length-map, map-append, take_more}
use Rattle.std.proofs.lemmas.Option.{same_Some, slice_get-map, slice_get_within, slice_get-get_or}
use Rattle.std.specs.List.{AllByRecursion, cons_option}
use Rattle.std.proofs.lemmas.List.Elements.{recursion_from_All}
use Rattle.lt_modes.specs.declared.command.Command.{Command}
use Rattle.lt_modes.specs.Script.{ScriptData}
use Rattle.lt_spec.specs.Script.{IsScript, IsRequest, HasTargets, IsOfVersion}
use Rattle.lt_spec.specs.NodeMove.{commands_of, home, with_commands, command_if}
use Rattle.lt_script.proofs.NameLemmas.{element_at}
use Rattle.lt_threads.specs.Meeting.{InShares}
use Rattle.lt_live.specs.declared.ends.Seat.{Seat}
use Rattle.lt_live.specs.Submitting.{may_ask}
use Rattle.lt_live.specs.Stations.{runner_of, StationData, IsSeatOf, IsOpen, equal_share}
use Rattle.lt_live.specs.Live.{IsSessionOf, AreLive}
use Rattle.lt_live.specs.Words.{submitted, taken, known_commands, outbox_replies, command_held}
use Rattle.lt_live.specs.declared.ends.Session.{Session}
use Rattle.lt_live.proofs.TurnParts.{asks, has_targets, has_modes}
use Rattle.lt_live.proofs.Settling.{opened_are_live}
use Rattle.lt_live.proofs.SeatLists.{pushed, none_here}
use Rattle.lt_live_serve.specs.declared.callers.Caller.{Caller}
use Rattle.lt_live_serve.specs.Completing.{AllSubmitted, session_of, left_of, appended_at, AreStationsKept, IsBeside, BesideTo, AreServing, CanCall, AreNew, IsNewCaller, AreNewCallers}
use Rattle.lt_live_serve.proofs.Completed.{Within, no_more, none_apart, same_ask, middle}
use Rattle.lt_live_serve.proofs.Told.{session_there}
use Rattle.lt_live_serve.proofs.Outboxes.{first_waits}
use Rattle.lt_live_serve.specs.declared.limits.TheConstants.{MOVES}
use Rattle.lt_live_serve.specs.Serves.{AsksAll, IsFirstOver, is_over}

-- what the station of this client knows of its commands, once all were submitted and both ends looked
pub record Seen (script : ScriptData) (stations : List StationData) (client place : ℕ) : Type 0 where
  pub station : StationData
  pub here : slice_get stations (home script client) ≡ Some station
  pub seat : Seat
  pub at : slice_get station.seats place ≡ Some seat
  pub client_is : seat.client ≡ client
  pub waits : outbox_replies seat ≡ []
  pub took : taken seat ≡ commands_of station.runner.node.script client ++ command_held seat.hand
  pub rest : (commands_of station.runner.node.script client ++ command_held seat.hand) ++ known_commands seat ≡ commands_of script client
  pub asks : (command : Command) → seat.hand ≡ Some command → may_ask station.runner.node.script client command ≡ true

share_at : (script : ScriptData) (stations : List StationData) (callers : List Caller) → AreServing script stations callers
    → (q : ℕ) (x : StationData) → slice_get stations q ≡ Some x → InShares (with_commands script []) q x.runner
share_at script stations callers serving q x here =
    serving.live.runners.each q x.runner (slice_get-map runner_of stations q ∙ ap (option_map runner_of) here)

module _ (script : ScriptData) (stations : List StationData) (callers : List Caller) (client : ℕ) (c : Caller) (serving : AreServing script stations callers)
    (kept : AreStationsKept stations) (found : slice_get callers client ≡ Some c) (left : left_of c ≡ 0) (b : IsBeside script stations client c) where
  session_is : IsSessionOf (with_commands script []) stations client c.session
  session_is = serving.live.each client c.session (session_there callers client c found)

  own : ScriptData
  own = b.station.runner.node.script

  seat_of : IsSeatOf b.station.runner b.seat
  seat_of = (kept (home script client) b.station b.here).is_station.each c.session.place b.seat b.at

  client_same : b.seat.client ≡ client
  client_same = b.link.0 ∙ session_is.client_is

  took_is : taken b.seat ≡ commands_of b.station.runner.node.script client ++ command_held b.seat.hand
  took_is = seat_of.kept.taken ∙ ap (λ (k : ℕ). commands_of b.station.runner.node.script k ++ command_held b.seat.hand) client_same

  all : submitted c.session ≡ commands_of script client
  all = c.submits ∙ take_all c.next c.commands.items (omega (arith, left)) ∙ serving.lists client c found

  rest_is : (commands_of b.station.runner.node.script client ++ command_held b.seat.hand) ++ known_commands b.seat ≡ commands_of script client
  rest_is = ap (λ (list : List Command). list ++ known_commands b.seat) (sym took_is) ∙ b.beside.commands ∙ all

  there : (command : Command) → b.seat.hand ≡ Some command
      → slice_get c.commands.items (length (commands_of b.station.runner.node.script client)) ≡ Some command
  there command e =
      ap (λ (list : List Command). slice_get list (length (commands_of b.station.runner.node.script client)))
      (serving.lists client c found
      ∙ sym rest_is
      ∙ ap (λ (hand : Option Command). (commands_of b.station.runner.node.script client ++ command_held hand) ++ known_commands b.seat) e)
      ∙ middle (commands_of b.station.runner.node.script client) command (known_commands b.seat)

  asks_is : (command : Command) → b.seat.hand ≡ Some command → may_ask b.station.runner.node.script client command ≡ true
  asks_is command e =
      let share = share_at script stations callers serving (home script client) b.station b.here in
      ap (λ (s : ScriptData). may_ask s client command) share.script_is
      ∙ same_ask (with_commands script []) b.station.runner.node.script.commands client command
      ∙ ap (λ (s : ScriptData). may_ask s client command) (sym session_is.script_is)
      ∙ ap (λ (k : ℕ). may_ask c.session.script k command) (sym session_is.client_is)
      ∙ c.asks (length (commands_of b.station.runner.node.script client)) command (there command e)

  seen : Seen script stations client c.session.place
  seen = record {
    station = b.station;
    here = b.here;
    seat = b.seat;
    at = b.at;
    client_is = client_same;
    waits = serving.waits (home script client) b.station b.here c.session.place b.seat b.at;
    took = took_is;
    rest = rest_is;
    asks = asks_is;
  }

-- all callers and their seats looked, and each station keeps what it keeps
pub record AllBeside (script : ScriptData) (stations : List StationData) (callers : List Caller) : Type 0 where
  pub serving : AreServing script stations callers
  pub kept : AreStationsKept stations
  pub none_left : AllSubmitted callers
  pub beside : BesideTo script (length callers) stations callers

module _ (script : ScriptData) (stations : List StationData) (callers : List Caller) (h : AllBeside script stations callers) where
  pub count : length callers ≡ length script.clients
  count = sym (length-map callers session_of) ∙ h.serving.live.count

  pub seen_at : (k : ℕ) (c : Caller) → slice_get callers k ≡ Some c → Seen script stations k c.session.place
  seen_at k c found =
      seen script stations callers k c h.serving h.kept found (h.none_left k c found) (h.beside k c (slice_get_within callers k c found) found)

  pub within : (q : ℕ) (x : StationData) → slice_get stations q ≡ Some x → Within script x.runner.node.script
  within q x here k below = elim (cases_eq (home script k) q) [
    | inl at ↦
        let (c, found) = element_at callers k (omega (arith, below, count)) in
        let s = seen_at k c found in
        let is : s.station ≡ x = same_Some s.station x (sym s.here ∙ ap (slice_get stations) at ∙ here) in
        subst (λ (v : StationData). length (commands_of v.runner.node.script k) ≤ length (commands_of script k)) is
        (first_of (commands_of s.station.runner.node.script k) (command_held s.seat.hand) (known_commands s.seat) (commands_of script k) s.rest)
    | inr apart ↦
        let none = none_apart (with_commands script []) q k x.runner.node.script.commands (share_at script stations callers h.serving q x here).own apart in
        let few = ap (λ (list : List Command). length list) none in
        omega (arith, few)
  ]
    where
      first_of : (xs ys zs all : List Command) → (xs ++ ys) ++ zs ≡ all → length xs ≤ length all
      first_of xs ys zs all e =
          let sum = ap (λ (list : List Command). length list) e in
          omega (arith, sum, length-append (xs ++ ys) zs, length-append xs ys)

  pub same_clients : (q : ℕ) (x : StationData) → slice_get stations q ≡ Some x → length x.runner.node.script.clients ≡ length script.clients
  same_clients q x here = ap (λ (s : ScriptData). length s.clients) (share_at script stations callers h.serving q x here).script_is

  pub no_more_at : IsScript script → (q : ℕ) (x : StationData) → slice_get stations q ≡ Some x → appended_at x ≤ length script.commands
  no_more_at is_script q x here =
      no_more script x.runner.node.script is_script (h.kept q x here).is_script (same_clients q x here) (within q x here)

-- A caller for each new session.

-- the commands of a client name only what is of the script
asks_from : (script : ScriptData) (client : ℕ) (commands : List (ℕ × Command)) → AllByRecursion (IsRequest script.sets script.clients) commands
    → AllByRecursion (λ (request : ℕ × Command). IsOfVersion script.version request.1) commands
    → AsksAll script client (filter_map (command_if client) commands)
asks_from script client [] targets modes = λ k command e. none_here k command e
asks_from script client (request ∷ rest) targets modes =
    by_test (request.0 == client) refl (asks_from script client rest targets.1 modes.1)
  where
    first : (request.0 == client) ≡ true → (more : List Command) → AsksAll script client more → AsksAll script client (request.1 ∷ more)
    first e more h zero command at =
        subst (λ (x : Command). may_ask script client x ≡ true) (same_Some request.1 command at)
        (asks script client request.1 (subst (λ (k : ℕ). HasTargets script.sets script.clients k request.1) (eqb-true request.0 client e) targets.0.1) modes.0)
    first e more h (suc k) command at = h k command at

    by_test : (t : Bool) → (request.0 == client) ≡ t → AsksAll script client (filter_map (command_if client) rest)
        → AsksAll script client (cons_option (if t then Some request.1 else None) (filter_map (command_if client) rest))
    by_test true e more = first e (filter_map (command_if client) rest) more
    by_test false e more = more

pub asks_all : (script : ScriptData) (client : ℕ) → IsScript script → AsksAll (with_commands script []) client (commands_of script client)
asks_all script client is_script =
    asks_from script client script.commands (recursion_from_All (IsRequest script.sets script.clients) script.commands is_script.requests)
    (recursion_from_All (λ (request : ℕ × Command). IsOfVersion script.version request.1) script.commands is_script.modes)

-- a client that hasn't too many has no more than its share
pub few_commands : (script : ScriptData) (client : ℕ) → is_over script client ≡ false → length (commands_of script client) ≤ equal_share script
few_commands script client e = omega (arith, λ (past : equal_share script < length (commands_of script client)). false≢true (sym e ∙ lt-ltb (equal_share script) (length (commands_of script client)) past))

-- the sessions that are opened can be called
pub are_new : (script : ScriptData) (capacity : ℕ) (stations : List StationData) (sessions : List Session) → equal_share script ≤ capacity → IsFirstOver script None
    → IsOpen (with_commands script []) MOVES capacity (equal_share script) stations sessions → AreNew script sessions
are_new script capacity stations sessions roomy none opened k s e =
    let below : k < length script.clients = omega (arith, slice_get_within sessions k s e, opened.count) in
    let new = (opened.each k s e).0 in (
      record {
        client = k;
        below = below;
        places = capacity;
        new = new;
        roomy = roomy;
        few = few_commands script k (none k below);
      },
      new.client_is,
    )

-- before the first session
pub no_caller : (script : ScriptData) → AreNewCallers script [] []
no_caller script = record { sessions_are = refl; lists = λ k c e. none_here k c e }

-- one session more
pub one_more_caller : (script : ScriptData) (sessions : List Session) (callers : List Caller) (s : Session) (c : Caller) → AreNewCallers script sessions callers
    → IsNewCaller script s c → AreNewCallers script (sessions ++ s ∷ []) (callers ++ c ∷ [])
one_more_caller script sessions callers s c h is = record {
  sessions_are = map-append session_of callers (c ∷ [])
      ∙ ap (λ (ss : List Session). ss ++ c.session ∷ []) h.sessions_are
      ∙ ap (λ (x : Session). sessions ++ x ∷ []) is.session;
  lists = λ k d e. by_place k d (pushed callers c k d e);
}
  where
    by_place : (k : ℕ) (d : Caller) → (slice_get callers k ≡ Some d) ⊎ ((k ≡ length callers) × (c ≡ d)) → d.commands.items ≡ commands_of script d.session.client
    by_place k d (inl old) = h.lists k d old
    by_place k d (inr added) =
        subst (λ (x : Caller). x.commands.items ≡ commands_of script x.session.client) added.1
        (is.commands ∙ ap (λ (x : Session). commands_of script x.client) (sym is.session))

-- the session at a place
pub can_call : (script : ScriptData) (sessions : List Session) (k : ℕ) (s : Session) → AreNew script sessions → k < length sessions → s ≡ get_or sessions k s
    → CanCall script s
can_call script sessions k s new inside here = (new k s (slice_get-get_or sessions k s inside ∙ ap Some (sym here))).0

-- so stations and callers are those of the script
pub first_serving : (script bare : ScriptData) (stations : List StationData) (sessions : List Session) (callers : List Caller) (capacity share : ℕ) → bare ≡ with_commands script []
    → IsOpen bare MOVES capacity share stations sessions → AreNewCallers script sessions callers → AreStationsKept stations → AreServing script stations callers
first_serving script bare stations sessions callers capacity share is opened made kept = record {
  live = live;
  limits = opened.runners.limits;
  have_all = opened.runners.have_all;
  waits = first_waits bare MOVES capacity share stations sessions before.runners opened kept;
  lists = λ client c e.
      let there : slice_get (map session_of callers) client ≡ Some c.session = slice_get-map session_of callers client ∙ ap (option_map session_of) e in
      made.lists client c e ∙ ap (commands_of script) (live.each client c.session there).client_is;
}
  where
    before : AreLive bare stations sessions
    before = opened_are_live bare MOVES capacity share stations sessions (ap (λ (s : ScriptData). s.commands) is) opened

    live : AreLive (with_commands script []) stations (map session_of callers)
    live =
        subst (λ (ss : List Session). AreLive (with_commands script []) stations ss) (sym made.sessions_are)
        (subst (λ (s : ScriptData). AreLive s stations sessions) is before)

-- What a caller may still submit.

-- as many commands were submitted as there are before the next one
pub submitted_count : (c : Caller) → length (submitted c.session) ≡ c.next
submitted_count c =
    let count = ap (λ (xs : List Command). length xs) c.submits in
    let first = length-take c.next c.commands.items in
    let within = c.within in
    omega (arith, count, first, within)

-- while there is a next one, the session's share isn't used up
pub has_left : (c : Caller) (left : ℕ) → c.next ≢ length c.commands.items → length (submitted c.session) + left ≡ c.session.share → 0 < left
has_left c left more share =
    let within = c.within in
    let few = c.few in
    omega (arith, more, share, within, few, submitted_count c)

-- nor are its places
pub has_place : (c : Caller) (places : ℕ) → c.next ≢ length c.commands.items → c.session.share ≤ places → places ≤ length (submitted c.session) → ⊥
has_place c places more roomy full =
    let within = c.within in
    let few = c.few in
    omega (arith, more, roomy, full, within, few, submitted_count c)

-- and it may be submitted
asked : (c : Caller) (d command : Command) → c.next ≢ length c.commands.items → command ≡ slice_index_or c.commands.items c.next d
    → may_ask c.session.script c.session.client command ≡ true
asked c d command more is =
    let within = c.within in
    c.asks c.next command (slice_get-get_or c.commands.items c.next d (omega (arith, more, within)) ∙ ap Some (sym is))

pub targets_of : (c : Caller) (d command : Command) → c.next ≢ length c.commands.items → command ≡ slice_index_or c.commands.items c.next d
    → HasTargets c.session.script.sets c.session.script.clients c.session.client command
targets_of c d command more is = has_targets c.session.script c.session.client command (asked c d command more is)

pub modes_of : (c : Caller) (d command : Command) → c.next ≢ length c.commands.items → command ≡ slice_index_or c.commands.items c.next d
    → IsOfVersion c.session.script.version command
modes_of c d command more is = has_modes c.session.script c.session.client command (asked c d command more is)

-- once it is submitted there is one more
pub one_more : (c : Caller) (d command : Command) (all : List Command) → c.next ≢ length c.commands.items → command ≡ slice_index_or c.commands.items c.next d
    → all ≡ submitted c.session ++ command ∷ [] → all ≡ take (c.next + 1) c.commands.items
one_more c d command all more is added =
    let within = c.within in
    added
    ∙ ap (λ (xs : List Command). xs ++ command ∷ []) c.submits
    ∙ ap (λ (x : Command). take c.next c.commands.items ++ x ∷ []) is
    ∙ sym (take_more c.commands.items c.next d (omega (arith, more, within)))
