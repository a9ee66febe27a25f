-- At a moment at which all are in one thread there is a run in which all were served.
use Rattle.std.proofs.Common.{◌≡◌, ◌<◌, ◌≤◌, ℕ, suc, List, [], ◌∷◌, map, length, Option, Some, None, refl, sym, ap, subst, arith, ◌∙◌, slice_get, option_map}
use Rattle.std.specs.List.{AllByRecursion}
use Rattle.std.proofs.lemmas.List.Elements.{recursion_from_All, All-from_recursion}
use Rattle.std.proofs.lemmas.Option.{slice_get-map, slice_get_within}
use Rattle.lt_modes.specs.declared.command.Command.{Command}
use Rattle.lt_modes.specs.Script.{ScriptData}
use Rattle.lt_lists.proofs.AllLemmas.{all_append, all_weaker}
use Rattle.lt_spec.specs.NodeMove.{with_commands, AreAt}
use Rattle.lt_spec.specs.Script.{IsScript, IsRequest, IsOfVersion}
use Rattle.lt_spec.specs.declared.limits.TheConstants.{MAX_COMMANDS_OF_SERVICE}
use Rattle.lt_script.proofs.NameLemmas.{element_at}
use Rattle.lt_mail.specs.Words.{Alike}
use Rattle.lt_runner.specs.declared.parts.Parts.{Parts}
use Rattle.lt_runner.specs.Kept.{AsSeen, RunnerInvariant}
use Rattle.lt_threads.specs.Meeting.{AreShares, AreScripts, AreKept, RunnersLinked, EachIs, IsCrew, commands_in, command_count, crew_run}
use Rattle.lt_threads.proofs.Shares.{counted}
use Rattle.lt_live.specs.declared.ends.Session.{Session}
use Rattle.lt_live.specs.declared.ends.Seat.{Seat}
use Rattle.lt_live.specs.Seats.{TakesNoCommand}
use Rattle.lt_live.specs.Stations.{StationData, runner_of, StaySeated, EachSeat}
use Rattle.lt_live.specs.Words.{SameSession}
use Rattle.lt_live.specs.Live.{AreLive, LiveScript, GoesOn, StationGoesOn, EachStation, EachSession, SaysSame, Settled, ServedAt, IsServedNow, IsWholeNow, SeatsTakeNone, HaveAllCommands, HaveOwnCommands}
use Rattle.lt_live.specs.Served.{MakesNoMove, station_seats, StationsMet, HasKeptRunner, HaveKeptRunners}
use Rattle.lt_live.proofs.SeatLists.{alike_self, alike_join, alike_weaker, alike_len}
use Rattle.lt_live.proofs.LiveShares.{goes_itself}
use Rattle.lt_live.proofs.Settling.{live_lasts, says_itself, session_itself}
use Rattle.lt_live.proofs.Finished.{AllSettled, served_run, shared_now, few_for_service}
use Rattle.lt_live.proofs.OwnCommands.{station_none_itself, station_none_join}
use Rattle.lt_live.proofs.WholeRuns.{AllOwn, all_commands, all_later, run_looked}

-- Stations whose runners looked go on, and make no move.

-- the runner looked, and the seats stay
record Looked (a b : StationData) : Type 0 where
  runner : AsSeen a.runner b.runner
  seats : b.seats ≡ a.seats

goes_seen : (a b : Parts) → AsSeen a b → GoesOn a b
goes_seen a b seen =
    let same = seen.same in
    let itself = goes_itself a in record {
      script = subst (λ (s : ScriptData). s ≡ with_commands a.node.script s.commands) (sym same.script) itself.script;
      own = λ own. subst (λ (s : ScriptData). AreAt a.node.script a.node.me s.commands) (sym same.script) own;
      me = same.me;
      limit = same.limit;
      ends = same.ends;
    }

looked_goes : (a b : StationData) → Looked a b → StationGoesOn a b
looked_goes a b h = record {
  runner = goes_seen a.runner b.runner h.runner;
  seated = subst (λ (seats : List Seat). StaySeated a.seats seats) (sym h.seats) (λ s seated. seated);
}

each_looked : (old new : List StationData) → StationsMet old new → EachStation Looked old new
each_looked old new h k =
    by_place (slice_get old k) (slice_get new k)
    (subst (λ (o : Option Parts). Alike AsSeen o (option_map runner_of (slice_get new k))) (slice_get-map runner_of old k)
    (subst (λ (o : Option Parts). Alike AsSeen (slice_get (map runner_of old) k) o) (slice_get-map runner_of new k) (h.seen k)))
    (sym (slice_get-map station_seats new k) ∙ ap (λ (seats : List (List Seat)). slice_get seats k) h.seats ∙ slice_get-map station_seats old k)
  where
    same : {a b : List Seat} → Some a ≡ Some b → a ≡ b
    same e = cc

    by_place : (x y : Option StationData) → Alike AsSeen (option_map runner_of x) (option_map runner_of y) → option_map station_seats y ≡ option_map station_seats x → Alike Looked x y
    by_place None None a e = tt
    by_place None (Some y) a e = absurd a
    by_place (Some x) None a e = absurd a
    by_place (Some x) (Some y) a e = record { runner = a; seats = same e }

pub no_move : (stations mid new : List StationData) → map runner_of mid ≡ map runner_of stations → StationsMet mid new → EachStation MakesNoMove stations new
no_move stations mid new same h k =
    by_place (slice_get stations k) (slice_get new k)
    (subst (λ (o : Option Parts). Alike AsSeen o (option_map runner_of (slice_get new k)))
    (ap (λ (rs : List Parts). slice_get rs k) same ∙ slice_get-map runner_of stations k)
    (subst (λ (o : Option Parts). Alike AsSeen (slice_get (map runner_of mid) k) o) (slice_get-map runner_of new k) (h.seen k)))
  where
    by_place : (x y : Option StationData) → Alike AsSeen (option_map runner_of x) (option_map runner_of y) → Alike MakesNoMove x y
    by_place None None a = tt
    by_place None (Some y) a = absurd a
    by_place (Some x) None a = absurd a
    by_place (Some x) (Some y) a = a

pub met_live : (script : ScriptData) (mid new : List StationData) (sessions : List Session) → AreLive script mid sessions → StationsMet mid new → AreLive script new sessions
met_live script mid new sessions live met =
    live_lasts script mid new sessions sessions live (alike_weaker Looked StationGoesOn looked_goes mid new (each_looked mid new met))
    (alike_self SameSession session_itself sessions)

pub live_linked : (script : ScriptData) (stations : List StationData) (sessions : List Session) → AreLive script stations sessions → RunnersLinked (map runner_of stations)
live_linked script stations sessions live = record { me = λ k p e. (live.runners.each k p e).me; links = live.runners.links }

-- What the runners keep.

record RunnerAt (stations : List StationData) (k : ℕ) (p : Parts) : Type 0 where
  station : StationData
  here : slice_get stations k ≡ Some station
  is : station.runner ≡ p

runner_at : (stations : List StationData) (k : ℕ) (p : Parts) → slice_get (map runner_of stations) k ≡ Some p → RunnerAt stations k p
runner_at stations k p e = by_place (slice_get stations k) refl (sym (slice_get-map runner_of stations k) ∙ e)
  where
    same : {a b : Parts} → Some a ≡ Some b → a ≡ b
    same e = cc

    by_place : (o : Option StationData) → slice_get stations k ≡ o → option_map runner_of o ≡ Some p → RunnerAt stations k p
    by_place None here e = absurd (cc)
    by_place (Some x) here e = record { station = x; here = here; is = same e }

kept_at : (stations : List StationData) → HaveKeptRunners (length stations) stations → (k : ℕ) (p : Parts) → (at : RunnerAt stations k p) → HasKeptRunner at.station
kept_at stations kept k p at = kept k at.station (slice_get_within stations k at.station at.here) at.here

all_kept : (stations : List StationData) → HaveKeptRunners (length stations) stations → AreKept (map runner_of stations)
all_kept stations kept k p e =
    let at = runner_at stations k p e in
    let has = kept_at stations kept k p at in
    subst (λ (q : Parts). RunnerInvariant q) at.is has.kept

-- runners that looked have the scripts that they had
scripts_before : (rs : List Parts) (stations : List StationData) → EachIs AsSeen rs (map runner_of stations) → HaveKeptRunners (length stations) stations → AreScripts rs
scripts_before rs stations seen kept k p e = by_place (slice_get (map runner_of stations) k) refl (subst (λ (o : Option Parts). Alike AsSeen o (slice_get (map runner_of stations) k)) e (seen k))
  where
    by_place : (o : Option Parts) → slice_get (map runner_of stations) k ≡ o → Alike AsSeen (Some p) o → IsScript p.node.script
    by_place None there a = absurd a
    by_place (Some q) there a =
        let at = runner_at stations k q there in
        let has = kept_at stations kept k q at in
        subst (λ (s : ScriptData). IsScript s) (ap (λ (r : Parts). r.node.script) at.is ∙ a.same.script) has.is_script

-- The script with the commands of all is one.

all_in : (P : ℕ × Command → Type 0) (rs : List Parts) → ((k : ℕ) (p : Parts) → slice_get rs k ≡ Some p → AllByRecursion P p.node.script.commands)
    → AllByRecursion P (commands_in rs)
all_in P [] h = tt
all_in P (p ∷ rs) h = all_append P p.node.script.commands (commands_in rs) (h 0 p refl) (all_in P rs (λ k q e. h (suc k) q e))

module _ (script : ScriptData) (rs : List Parts) (shares : AreShares script rs) (scripts : AreScripts rs) where
  own : (k : ℕ) (p : Parts) → slice_get rs k ≡ Some p → IsScript (with_commands script p.node.script.commands)
  own k p e = subst (λ (s : ScriptData). IsScript s) (shares.each k p e).script_is (scripts k p e)

  abbrev Known : ℕ × Command → Type 0
  Known request = request.0 < length script.clients

  -- counted by clients they are as many
  pub by_clients : command_count (with_commands script (commands_in rs)) ≡ length (commands_in rs)
  by_clients = counted (length script.clients) (commands_in rs) (all_in Known rs (λ k q here.
      all_weaker (IsRequest script.sets script.clients) Known (λ (request : ℕ × Command) is. is.0) q.node.script.commands
      (recursion_from_All (IsRequest script.sets script.clients) q.node.script.commands (own k q here).requests)))

  pub joined_is_script : length (commands_in rs) ≤ MAX_COMMANDS_OF_SERVICE → IsScript (with_commands script (commands_in rs))
  joined_is_script few =
      let (p, e) = element_at rs 0 (omega (arith, shares.some, shares.count)) in
      let good = own 0 p e in record {
        version = good.version;
        some_node = good.some_node;
        few_nodes = good.few_nodes;
        nodes_of_version = good.nodes_of_version;
        few_sets = good.few_sets;
        sets_named = good.sets_named;
        sets_found = good.sets_found;
        families_not_later = good.families_not_later;
        families_first = good.families_first;
        few_clients = good.few_clients;
        clients_of_version = good.clients_of_version;
        clients_named = good.clients_named;
        clients_found = good.clients_found;
        clients_no_sets = good.clients_no_sets;
        homes = good.homes;
        loads = good.loads;
        few_commands = few;
        requests = All-from_recursion (IsRequest script.sets script.clients) (commands_in rs)
            (all_in (IsRequest script.sets script.clients) rs (λ k q here. recursion_from_All (IsRequest script.sets script.clients) q.node.script.commands (own k q here).requests));
        modes = All-from_recursion (λ (request : ℕ × Command). IsOfVersion script.version request.1) (commands_in rs)
            (all_in (λ (request : ℕ × Command). IsOfVersion script.version request.1) rs
            (λ k q here. recursion_from_All (λ (request : ℕ × Command). IsOfVersion script.version request.1) q.node.script.commands (own k q here).modes));
      }

-- All were served.

-- what is settled stays so
settled_itself : (script : ScriptData) (stations later : List StationData) (sessions after : List Session) → length after ≡ length sessions
    → Settled script stations sessions later after → Settled script later after later after
settled_itself script stations later sessions after count h = record {
  live = h.live;
  runners = refl;
  each = alike_self SaysSame says_itself after;
  served = λ client t below e.
      subst (λ (rs : List Parts). ServedAt script rs client t) (sym h.runners) (h.served client t (omega (arith, below, count)) e);
}

-- all together have no more commands than a service may have
few_commands : (script : ScriptData) (stations later : List StationData) (sessions after : List Session) → Settled script stations sessions later after
    → AreScripts (map runner_of later) → length (commands_in (map runner_of later)) ≤ MAX_COMMANDS_OF_SERVICE
few_commands script stations later sessions after settled scripts =
    let all = by_clients script (map runner_of later) settled.live.runners scripts in
    let few = few_for_service script stations later sessions after (map runner_of later) settled refl in
    omega (arith, all, few)

-- stations that met have taken no commands
none_met : (old new : List StationData) → StationsMet old new → EachStation SeatsTakeNone old new
none_met old new met =
    alike_weaker Looked SeatsTakeNone (λ a b h. subst (λ (seats : List Seat). EachSeat TakesNoCommand a.seats seats) (sym h.seats) (station_none_itself a))
    old new (each_looked old new met)

all_met : (script made : ScriptData) (stations later new : List StationData) (sessions after : List Session) → Settled script stations sessions later after
    → HaveOwnCommands script (length sessions) stations sessions later → IsCrew made (map runner_of later) → StationsMet later new → HaveAllCommands script new after made
all_met script made stations later new sessions after settled own crew met =
    all_later script made stations new sessions after (alike_join SeatsTakeNone station_none_join stations later new own.none (none_met later new met)) settled.each
    (all_commands script made stations later sessions (subst (λ (rs : List Parts). AreShares script rs) settled.runners settled.live.runners)
    (subst (λ (rs : List Parts). IsCrew made rs) settled.runners crew) own)

pub all_whole : (script : ScriptData) (stations later new : List StationData) (sessions after : List Session) → Settled script stations sessions later after
    → HaveOwnCommands script (length sessions) stations sessions later → StationsMet later new → HaveKeptRunners (length new) new → IsWholeNow script new after
all_whole script stations later new sessions after settled own met kept =
    let rs = map runner_of later in
    let scripts : AreScripts rs = scripts_before rs new met.seen kept in
    let few = few_commands script stations later sessions after settled scripts in
    let is_script = joined_is_script script rs settled.live.runners scripts few in
    let made = with_commands script (commands_in rs) in
    let shared = shared_now script rs (map runner_of new) settled.live.runners is_script met.seen met.met (all_kept new kept) in
    let itself = settled_itself script stations later sessions after (alike_len SaysSame sessions after settled.each) settled in (
      made,
      crew_run made (map runner_of new),
      record {
        served = served_run script later later after after rs itself refl made (crew_run made (map runner_of new)) shared;
        made = run_looked rs (map runner_of new) made (crew_run made (map runner_of new)) met.seen shared;
        all = all_met script made stations later new sessions after settled own shared.crew met;
      },
    )

-- what is known of a moment at which all looked at their rings
module _ (stations later new : List StationData) (sessions after : List Session) (live : LiveScript stations sessions)
    (settled : AllSettled stations sessions later after) where
  pub linked_now : RunnersLinked (map runner_of later)
  linked_now = live_linked live.0 later after (settled live.0 live.1).live

  pub stations_now : StationsMet later new → EachStation MakesNoMove stations new
  stations_now met = no_move stations later new (settled live.0 live.1).runners met

  pub sessions_now : EachSession SaysSame sessions after
  sessions_now = (settled live.0 live.1).each

  pub live_now : StationsMet later new → (script : ScriptData) → AreLive script stations sessions → AreLive script new after
  live_now met script was = met_live script later new after (settled script was).live met

  pub whole_so_far : AllOwn stations sessions later → StationsMet later new → HaveKeptRunners (length new) new → (script : ScriptData) → AreLive script stations sessions
      → IsWholeNow script new after
  whole_so_far own met kept script was = all_whole script stations later new sessions after (settled script was) (own script was) met kept

  pub served_so_far : AllOwn stations sessions later → StationsMet later new → HaveKeptRunners (length new) new → (script : ScriptData) → AreLive script stations sessions
      → IsServedNow script after
  served_so_far own met kept script was = let whole = whole_so_far own met kept script was in (whole.0, whole.1, whole.2.served)
