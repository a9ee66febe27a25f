-- The run that stations made with all moves that were left.
use Rattle.std.proofs.Common.{◌≡◌, ◌++◌, ℕ, zero, suc, List, [], ◌∷◌, map, Some, refl, sym, ap, subst, ◌∙◌, slice_get, option_map}
use Rattle.std.proofs.lemmas.Grind.{flat_map-append}
use Rattle.std.proofs.lemmas.List.Elements.{filter_map-append}
use Rattle.std.proofs.lemmas.Option.{slice_get-map}
use mathlib.Core.List.{IsPrefix}
use Rattle.lt_modes.specs.Script.{ScriptData}
use Rattle.lt_modes.specs.declared.command.Command.{Command}
use Rattle.lt_spec.specs.declared.ending.Ending.{Ending}
use Rattle.lt_spec.specs.declared.ending.Ending.TheVariants as endings
use Rattle.lt_spec.specs.NodeMove.{commands_of, home, with_commands, AreAt}
use Rattle.lt_spec.specs.Holdings.{lines_of}
use Rattle.lt_spec.specs.World.{Logged, world_after}
use Rattle.lt_law_merged.specs.States.{RestIsNoMove}
use Rattle.lt_merge.specs.Merging.{RunData, Merges}
use Rattle.lt_runner.specs.declared.parts.Parts.{Parts}
use Rattle.lt_runner.specs.Kept.{Grew}
use Rattle.lt_threads.specs.Meeting.{AreCrewLogs, HaveAll, IsJoined, EachIs, commands_in, crew_world}
use Rattle.lt_threads.specs.Pushes.{HasLimit, MovedOn, CrewEnds}
use Rattle.lt_threads.specs.Threads.{IsThreadRun}
use Rattle.lt_threads.proofs.Each.{each_before}
use Rattle.lt_threads.proofs.Ends.{made_run}
use Rattle.lt_live.specs.declared.ends.Session.{Session}
use Rattle.lt_live.specs.Words.{submitted, polled, SameSession}
use Rattle.lt_live.specs.Seats.{replies_in, reply_to}
use Rattle.lt_live.specs.Stations.{StationData, runner_of}
use Rattle.lt_live.specs.Live.{AreLive, LiveScript, GoesOn, StationGoesOn, EachStation, LiveLasts, ServedBy, Settled, IsServedRun, IsRunOfAll}
use Rattle.lt_live.proofs.Finished.{AllSettled, served_run}
use Rattle.lt_live.proofs.SeatLists.{alike_after, alike_self, alike_weaker}
use Rattle.lt_live.proofs.Settling.{session_itself}
use Rattle.lt_live_callers.specs.Served.{StopsSo, CallersEndSo, as_live, IsRunOfStations}
use Rattle.lt_live_callers.specs.Taking.{GoesFurther, HaveTakenAll, AreAllAppended}
use Rattle.lt_live_callers.proofs.Steps.{prefix_same, prefix_join}

-- A session of which the lines went on.

replies_grew : (client : ℕ) (log later : List Logged) → IsPrefix log later → IsPrefix (replies_in client (lines_of log)) (replies_in client (lines_of later))
replies_grew client log later h = (
  replies_in client (lines_of h.0),
  sym (filter_map-append (reply_to client) (lines_of log) (lines_of h.0))
      ∙ ap (replies_in client) (sym (flat_map-append (λ (entry : Logged). entry.events) log h.0) ∙ ap lines_of h.1),
)

served_on : (a b : Parts) (client : ℕ) (s : Session) → Grew a b → ServedBy a client s → ServedBy b client s
served_on a b client s grew h = record {
  commands = subst (λ (script : ScriptData). IsPrefix (commands_of script client) (submitted s)) (sym grew.same.script) h.commands;
  replies = prefix_join (polled s) (replies_in client (lines_of a.log.entries)) (replies_in client (lines_of b.log.entries)) h.replies
      (replies_grew client a.log.entries b.log.entries grew.log);
}

-- Stations with runners that went on.

goes_of_grew : (a b : Parts) → Grew a b → GoesOn a b
goes_of_grew a b grew = record {
  script = ap (λ (s : ScriptData). with_commands s b.node.script.commands) grew.same.script;
  own = λ own. subst (λ (s : ScriptData). AreAt a.node.script a.node.me s.commands) (sym grew.same.script) own;
  me = grew.same.me;
  limit = grew.same.limit;
  ends = grew.same.ends;
}

further_of_grew : (a b : Parts) → Grew a b → GoesFurther a b
further_of_grew a b grew = record {
  goes = goes_of_grew a b grew;
  log = grew.log;
  commands = prefix_same a.node.script.commands b.node.script.commands (ap (λ (s : ScriptData). s.commands) grew.same.script);
}

abbrev with_runners : List StationData → List Parts → List StationData
with_runners [] ps = []
with_runners (s ∷ ss) [] = []
with_runners (s ∷ ss) (p ∷ ps) = record { runner = p; seats = s.seats } ∷ with_runners ss ps

with_is : (ss : List StationData) (ps : List Parts) → EachIs Grew (map runner_of ss) ps → map runner_of (with_runners ss ps) ≡ ps
with_is [] [] h = refl
with_is [] (p ∷ ps) h = absurd (h 0)
with_is (s ∷ ss) [] h = absurd (h 0)
with_is (s ∷ ss) (p ∷ ps) h = ap (λ (rest : List Parts). p ∷ rest) (with_is ss ps (λ k. h (suc k)))

with_goes : (ss : List StationData) (ps : List Parts) → EachIs Grew (map runner_of ss) ps → EachStation StationGoesOn ss (with_runners ss ps)
with_goes [] [] h k = tt
with_goes [] (p ∷ ps) h k = absurd (h 0)
with_goes (s ∷ ss) [] h k = absurd (h 0)
with_goes (s ∷ ss) (p ∷ ps) h zero = record { runner = goes_of_grew s.runner p (h 0); seated = λ session seated. seated }
with_goes (s ∷ ss) (p ∷ ps) h (suc k) = with_goes ss ps (λ j. h (suc j)) k

same_commands : (old new : List Parts) → EachIs Grew old new → commands_in new ≡ commands_in old
same_commands [] [] h = refl
same_commands [] (q ∷ qs) h = absurd (h 0)
same_commands (p ∷ ps) [] h = absurd (h 0)
same_commands (p ∷ ps) (q ∷ qs) h =
    let first : Grew p q = h 0 in
    ap (λ (s : ScriptData). s.commands ++ commands_in qs) first.same.script
    ∙ ap (λ (rest : List (ℕ × Command)). p.node.script.commands ++ rest) (same_commands ps qs (λ k. h (suc k)))

limits_last : (limit : ℕ) (old new : List Parts) → EachIs Grew old new → HasLimit limit old → HasLimit limit new
limits_last limit old new grew h k p e =
    let was = each_before Grew old new grew k p e in
    let is : Grew was.0 p = was.2 in
    is.same.limit ∙ h k was.0 was.1

-- the runners of stations that settled have forgotten nothing where those before had not
pub settled_have_all : (stations later : List StationData) (sessions after : List Session) (rs : List Parts) → LiveScript stations sessions
    → AllSettled stations sessions later after → rs ≡ map runner_of later → HaveAll (map runner_of stations) → HaveAll rs
settled_have_all stations later sessions after rs live all_settled taken all =
    subst HaveAll (sym (taken ∙ (all_settled live.0 live.1).runners)) all

-- how the world of runners stops
stops : (e : Ending) (script : ScriptData) (rs : List Parts) → CrewEnds e script rs → StopsSo (as_live e) script (crew_world script rs)
stops endings.Done script rs h = h
stops endings.Stuck script rs h = h
stops (endings.Cut node) script rs h = (h.below, h.moves, h.least)

-- the runners of the stations after they settled, and what these made of the moves that were left
module _ (stations later : List StationData) (sessions after : List Session) (rs last : List Parts) (made : ScriptData) (over : Ending) (logs : List RunData) (run : List Logged)
    (all_settled : AllSettled stations sessions later after) (taken : rs ≡ map runner_of later) (joined : IsJoined rs made) (moved : MovedOn made over rs last)
    (finished : AreCrewLogs made last logs) (merges : Merges logs run) where
  grew : EachIs Grew (map runner_of later) last
  grew = subst (λ (ps : List Parts). EachIs Grew ps last) taken moved.grew

  shared : IsRunOfAll last made run
  shared = record {
    crew = moved.crew;
    commands = joined.commands ∙ sym (same_commands rs last moved.grew);
    is_run = finished.is_run run merges;
    rising = merges.order.rising;
    is_crew_run = finished.is_crew_run run merges;
    moves = λ k p here. finished.moves run merges k p here;
  }

  abbrev gone : List StationData
  gone = with_runners later last

  still_settled : LiveLasts → (script : ScriptData) → AreLive script stations sessions → Settled script gone sessions gone after
  still_settled lasts script live =
      let settled = all_settled script live in
      record {
        live = lasts script later gone after after settled.live (with_goes later last grew) (alike_self SameSession session_itself after);
        runners = refl;
        each = settled.each;
        served = λ client t below e p here.
            let was = each_before Grew (map runner_of later) last grew (home script client) p
            (ap (λ (ps : List Parts). slice_get ps (home script client)) (sym (with_is later last grew)) ∙ here) in
            let on : Grew was.0 p = was.2 in
            served_on was.0 p client t on
            (settled.served client t below e was.0 (ap (λ (ps : List Parts). slice_get ps (home script client)) (sym settled.runners) ∙ was.1));
      }

  pub serves : LiveLasts → (script : ScriptData) → AreLive script stations sessions → IsServedRun script sessions made run
  serves lasts script live =
      served_run script gone gone sessions after last (still_settled lasts script live) (sym (with_is later last grew)) made run shared

  pub ends : CallersEndSo (as_live over) made run
  ends =
      subst (λ (moves : List Logged). StopsSo (as_live over) made (world_after made moves)) (sym (finished.is_crew_run run merges))
      (stops over made last moved.ends)

  pub keeps : RestIsNoMove → (limit : ℕ) → map runner_of later ≡ map runner_of stations → HasLimit limit (map runner_of stations) → IsThreadRun limit over made run
  keeps rest limit same limits =
      made_run rest limit over made last logs run moved.crew
      (limits_last limit rs last moved.grew (subst (λ (ps : List Parts). HasLimit limit ps) (sym (taken ∙ same)) limits))
      finished merges moved.ends

  -- the run is made by the stations
  pub made_by : map runner_of later ≡ map runner_of stations → IsRunOfStations stations made run
  made_by same = record {
    last = last;
    on = alike_weaker Grew GoesFurther further_of_grew (map runner_of stations) last
        (subst (λ (ps : List Parts). EachIs Grew ps last) (taken ∙ same) moved.grew);
    all = shared;
  }

  -- of sessions all of whose commands were taken, all are in the script
  pub all_commands : (script : ScriptData) → AreLive script stations sessions → HaveTakenAll script stations sessions → AreAllAppended made sessions
  all_commands script live had client s here =
      let is = live.each client s here in
      let k = home script client in
      let there : slice_get (map runner_of stations) k ≡ Some is.station.runner = slice_get-map runner_of stations k ∙ ap (option_map runner_of) is.here in
      let (p, now, on) = alike_after Grew (map runner_of later) last grew k is.station.runner
      (ap (λ (ps : List Parts). slice_get ps k) (all_settled script live).runners ∙ there) in
      let own = on.same.script ∙ (live.runners.each k is.station.runner there).script_is in
      (moved.crew.each k p now).script_is.own client (ap (λ (x : ScriptData). home x client) own)
      ∙ ap (λ (x : ScriptData). commands_of x client) on.same.script
      ∙ had client s here is.station is.here
