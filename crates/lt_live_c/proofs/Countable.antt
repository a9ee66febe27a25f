-- The sessions of a service can be counted, once they were served; and a service of all stations and sessions has all.
use Rattle.std.proofs.Common.{◌≡◌, ◌≤◌, ◌/◌, ℕ, subst, List, [], ◌∷◌, All, true, eq-eqb, refl, sym, ap, arith, length, slice_get, slice_index_or}
use Rattle.std.proofs.lemmas.Bool.{and_from}
use Rattle.std.proofs.lemmas.List.{length-map}
use Rattle.std.proofs.lemmas.Option.{slice_get-get_or}
use Rattle.lt_modes.specs.Script.{ScriptData}
use Rattle.lt_spec.specs.declared.limits.TheConstants.{MAX_COMMANDS_OF_SERVICE}
use Rattle.lt_live.specs.declared.ends.Session.{Session}
use Rattle.lt_live.specs.Live.{AreLive, LiveScript, NoMoreThanSubmitted}
use Rattle.lt_live.specs.Served.{AreServed, StayLive}
use Rattle.lt_live.specs.Stations.{StationData, runner_of}
use Rattle.lt_live_c.specs.declared.service.Service.{Service}
use Rattle.lt_live_c.specs.Serving.{IsCountable, are_all, has_all}

pub are_countable : (stations later : List StationData) (sessions after : List Session) → LiveScript stations sessions
    → AreServed stations sessions after → StayLive stations sessions later after → NoMoreThanSubmitted
    → All (IsCountable (length after)) after
are_countable stations later sessions after live served stays no_more = λ place d inside.
    let now = stays live.0 live.1 in
    let run = served live.0 live.1 in
    let s = slice_index_or after place d in
    let here = slice_get-get_or after place d inside in
    let each = now.each place s here in
    let share : s.share ≤ MAX_COMMANDS_OF_SERVICE / length after =
    subst (λ (n : ℕ). s.share ≤ MAX_COMMANDS_OF_SERVICE / n) (sym now.count) each.share in
    record {
      few = omega (arith, share, s.spent);
      no_more = no_more live.0 run.0 after run.1 run.2 place s here;
    }

-- The first station has the script's numbers.

all_there : (script : ScriptData) (stations : List StationData) (sessions : List Session) → AreLive script stations sessions
    → are_all (slice_get stations 0) (length stations) (length sessions) ≡ true
all_there script [] sessions live = absurd (omega (arith, live.runners.some, live.runners.count))
all_there script (first ∷ rest) sessions live =
    let own = (live.runners.each 0 first.runner refl).script_is in
    and_from _ _ (
    eq-eqb (length (first ∷ rest)) first.runner.node.script.nodes (omega (
      arith,
      live.runners.count,
      length-map (first ∷ rest) runner_of,
      ap (λ (s : ScriptData). s.nodes) own,
    ))
    ) (
    eq-eqb (length sessions) (length first.runner.node.script.clients) (omega (
      arith,
      live.count,
      ap (λ (s : ScriptData). length s.clients) own,
    ))
    )

pub live_has_all : (script : ScriptData) (s : Service) → AreLive script s.stations.items s.sessions.items → has_all s ≡ true
live_has_all script s live = all_there script s.stations.items s.sessions.items live
