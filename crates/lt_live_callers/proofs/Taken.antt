-- What stations and sessions came to while all commands were taken in.
use Rattle.std.proofs.Common.{◌≡◌, ◌≤◌, ℕ, List, map, Option, Some, None, sym, ap, subst, ◌∙◌, slice_get, option_map}
use Rattle.std.proofs.lemmas.Option.{slice_get-map}
use mathlib.Core.List.{IsPrefix}
use Rattle.lt_modes.specs.Script.{ScriptData}
use Rattle.lt_modes.specs.declared.command.Command.{Command}
use Rattle.lt_mail.specs.Words.{Alike}
use Rattle.lt_spec.specs.Holdings.{lines_of}
use Rattle.lt_spec.specs.NodeMove.{commands_of}
use Rattle.lt_spec.specs.World.{Logged}
use Rattle.lt_runner.specs.declared.parts.Parts.{Parts}
use Rattle.lt_runner.specs.Kept.{HasAll}
use Rattle.lt_threads.specs.Meeting.{EachIs, HaveAll}
use Rattle.lt_threads.specs.Pushes.{HasLimit}
use Rattle.lt_live.specs.declared.ends.Session.{Session}
use Rattle.lt_live.specs.declared.reply.Reply.{Reply}
use Rattle.lt_live.specs.Live.{StationGoesOn, EachStation, EachSession, SaysSame, IsServedRun}
use Rattle.lt_live.specs.Seats.{replies_in}
use Rattle.lt_live.specs.Stations.{StationData, runner_of, equal_share, HaveEqualShares}
use Rattle.lt_live.proofs.SeatLists.{alike_before, alike_after, alike_join, alike_weaker}
use Rattle.lt_live_callers.specs.Served.{HaveMade, IsRunOfStations}
use Rattle.lt_live_callers.specs.Taking.{GoesFurther, StationTakesOn, AreAsking, AreAllAppended}
use Rattle.lt_live_callers.proofs.GoingOn.{limits_last}
use Rattle.lt_live_callers.proofs.Lasting.{further_join}
use Rattle.lt_live_callers.proofs.Places.{mapped_at}

-- the moves of stations that made a run are in it
pub have_made : (stations : List StationData) (script : ScriptData) (run : List Logged) → IsRunOfStations stations script run → HaveMade stations run
have_made stations script run h node station here =
    let there : slice_get (map runner_of stations) node ≡ Some station.runner = slice_get-map runner_of stations node ∙ ap (option_map runner_of) here in
    let (p, now, on) = alike_after GoesFurther (map runner_of stations) h.last h.on node station.runner there in
    subst (λ (log : List Logged). IsPrefix station.runner.log.entries log) (sym (h.all.moves node p now)) on.log

runners_further : (stations later : List StationData) → EachStation StationTakesOn stations later → EachIs GoesFurther (map runner_of stations) (map runner_of later)
runners_further stations later serves k =
    subst (λ (o : Option Parts). Alike GoesFurther o (slice_get (map runner_of later) k)) (sym (slice_get-map runner_of stations k))
    (subst (λ (o : Option Parts). Alike GoesFurther (option_map runner_of (slice_get stations k)) o) (sym (slice_get-map runner_of later k))
    (here (slice_get stations k) (slice_get later k) (serves k)))
  where
    here : (x y : Option StationData) → Alike StationTakesOn x y → Alike GoesFurther (option_map runner_of x) (option_map runner_of y)
    here None None p = tt
    here None (Some y) p = absurd p
    here (Some x) None p = absurd p
    here (Some x) (Some y) p = p.further

-- what stations made later they made
pub made_before : (stations later : List StationData) (script : ScriptData) (run : List Logged) → EachStation StationTakesOn stations later → IsRunOfStations later script run
    → IsRunOfStations stations script run
made_before stations later script run serves h = record {
  last = h.last;
  on = alike_join GoesFurther further_join (map runner_of stations) (map runner_of later) h.last (runners_further stations later serves) h.on;
  all = h.all;
}

pub limits_served : (limit : ℕ) (stations later : List StationData) → EachStation StationTakesOn stations later → HasLimit limit (map runner_of stations)
    → HasLimit limit (map runner_of later)
limits_served limit stations later serves = limits_last limit stations later (alike_weaker StationTakesOn StationGoesOn (λ x y on. on.goes) stations later serves)

pub all_served : (stations later : List StationData) → EachStation StationTakesOn stations later → HaveAll (map runner_of stations) → HaveAll (map runner_of later)
all_served stations later serves had k p here =
    let (y, there, now) = mapped_at runner_of later k p here in
    let (x, was, on) = alike_before StationTakesOn stations later serves k y there in
    subst HasAll now (on.has_all (had k x.runner (slice_get-map runner_of stations k ∙ ap (option_map runner_of) was)))

-- all submit no more together than the text of a script may have
pub equal_shares : (script : ScriptData) (stations : List StationData) (sessions : List Session) → AreAsking script stations sessions → HaveEqualShares sessions
equal_shares script stations sessions h client s here =
    subst (λ (x : ScriptData). s.share ≤ equal_share x) (sym (h.live.each client s here).script_is) (h.each client s here).share

-- sessions that submitted and polled the same were served in the same run
pub served_same : (first script : ScriptData) (run : List Logged) (sessions after : List Session) → EachSession SaysSame sessions after
    → IsServedRun first after script run → IsServedRun first sessions script run
served_same first script run sessions after says h = record {
  is_script = h.is_script;
  same = h.same;
  is_run = h.is_run;
  rising = h.rising;
  each = λ client s here.
      let (t, now, same) = alike_after SaysSame sessions after says client s here in
      let is = h.each client t now in
      record {
        commands = subst (λ (list : List Command). IsPrefix (commands_of script client) list) same.submitted is.commands;
        replies = subst (λ (list : List Reply). IsPrefix list (replies_in client (lines_of run))) same.polled is.replies;
      };
}

pub all_same : (script : ScriptData) (sessions after : List Session) → EachSession SaysSame sessions after → AreAllAppended script after
    → AreAllAppended script sessions
all_same script sessions after says h client s here =
    let (t, now, same) = alike_after SaysSame sessions after says client s here in
    h client t now ∙ same.submitted
