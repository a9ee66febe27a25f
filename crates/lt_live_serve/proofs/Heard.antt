-- How a run ends, and how one of an ordered script does.
use Rattle.std.proofs.Common.{◌≢◌, ◌≤◌, ℕ, List, length, take, sym, subst, arith, ◌∙◌, ◌≡◌, ◌<◌, ◌++◌, zero, suc, map, Some, refl, ap, ◌^◌, IsTrue, IsFalse, slice_get, filter, take_all, option_map}
use Rattle.std.proofs.lemmas.Bool.{false≢true}
use Rattle.std.proofs.lemmas.List.{length-map}
use Rattle.std.proofs.lemmas.Option.{slice_get-map}
use Rattle.lt_modes.specs.Script.{ScriptData}
use Rattle.lt_lists.specs.Below.{gather_below}
use Rattle.lt_spec.specs.Script.{IsScript, IsShort}
use Rattle.lt_spec.specs.Ordered.{IsOrdered}
use Rattle.lt_spec.specs.World.{Logged, world_after, is_at_rest, anyone_waits, IsRun, EndsBy, is_of_node}
use Rattle.lt_spec.specs.declared.ending.Ending.{Ending}
use Rattle.lt_spec.specs.declared.ending.Ending.TheVariants.{Done, Stuck, Cut}
use Rattle.lt_spec.specs.NodeMove.{home}
use Rattle.lt_spec.specs.Holdings.{lines_of}
use Rattle.lt_script.proofs.NameLemmas.{element_at}
use Rattle.lt_law_invariant.proofs.FewAsks.{whole}
use Rattle.lt_law_promises.specs.Promises.{RunsKeepPromises}
use Rattle.lt_law_ordered.specs.OrderedLaws.{OrderedFinish}
use Rattle.lt_law_ends.specs.EndLaws.{NeverCutAtAll}
use Rattle.lt_law_merged.specs.States.{RestIsNoMove}
use Rattle.lt_runner.specs.declared.parts.Parts.{Parts}
use Rattle.lt_threads.specs.Pushes.{MovedOn}
use Rattle.lt_threads.proofs.Ends.{made_run}
use Rattle.lt_live.specs.declared.reply.Reply.{Reply}
use Rattle.lt_live.specs.Stations.{runner_of, StationData}
use Rattle.lt_live.specs.Seats.{replies_in}
use Rattle.lt_live.proofs.Finished.{replies_in_log}
use Rattle.lt_live_serve.specs.declared.limits.TheConstants.{MOVES}
use Rattle.lt_live_serve.specs.Serves.{LiveRun, all_replies}
use Rattle.lt_live_serve.specs.declared.callers.Caller.{Caller}
use Rattle.lt_live_serve.specs.Apart.{IsRunOf}
use Rattle.lt_live_serve.specs.Completing.{session_of, AreServing, HaveHeard, marked_by, heard_at}

uncut : NeverCutAtAll → 2 ^ 30 ≤ MOVES → (end : Ending) (script : ScriptData) (run : List Logged) → IsScript script → IsShort script → IsRun script run
    → EndsBy MOVES end script run → (node : ℕ) → end ≢ Cut node
uncut never many Done script run is_script short is_run e node cut = cc
uncut never many Stuck script run is_script short is_run e node cut = cc
uncut never many (Cut full) script run is_script short is_run e node cut = let none = never script run MOVES is_script short is_run many in cc

-- a run has fewer moves than a node may make, so none is cut
pub not_cut : NeverCutAtAll → 2 ^ 30 ≤ MOVES → (end : Ending) (script : ScriptData) (run : List Logged) (polled : List (ℕ × Reply)) → IsScript script → IsShort script
    → LiveRun end script run polled → (node : ℕ) → end ≢ Cut node
not_cut never many end script run polled is_script short live = uncut never many end script run is_script short live.ran.is_run live.ran.ends

-- how many moves a node may make
pub moves_are_many : 2 ^ 30 ≤ 1073741824
moves_are_many = omega arith

-- at rest in a run of an ordered script no client waits
pub not_stuck : (end : Ending) (script : ScriptData) (run : List Logged) → IsScript script → IsRun script run → EndsBy MOVES end script run
    → OrderedFinish → IsOrdered script → end ≢ Stuck
not_stuck Done script run is_script is_run e finish ordered stuck = cc
not_stuck (Cut node) script run is_script is_run e finish ordered stuck = cc
not_stuck Stuck script run is_script is_run e finish ordered stuck =
    let all = take_all (length run) run (omega arith) in
    let rests : IsTrue (is_at_rest script (world_after script (take (length run) run))) = subst (λ (r : List Logged). IsTrue (is_at_rest script (world_after script r))) (sym all) e.0 in
    let nobody : IsFalse (anyone_waits script (world_after script run)) =
    subst (λ (r : List Logged). IsFalse (anyone_waits script (world_after script r))) all (finish script run (whole script is_script) is_run ordered (length run) rests) in
    false≢true (sym nobody ∙ e.1)

-- What callers heard, and the live run.

gather_same : {X : Type 0} (n : ℕ) (f g : ℕ → List X) → ((k : ℕ) → k < n → f k ≡ g k) → gather_below n f ≡ gather_below n g
gather_same zero f g h = refl
gather_same {X = X} (suc n) f g h =
    ap (λ (xs : List X). xs ++ f n) (gather_same n f g (λ k below. h k (omega (arith, below))))
    ∙ ap (λ (xs : List X). gather_below n g ++ xs) (h n (omega arith))

module _ (script : ScriptData) (stations : List StationData) (callers : List Caller) (run : List Logged) (is_script : IsScript script)
    (h : AreServing script stations callers) (heard : HaveHeard script (length callers) (map runner_of stations) callers) (made : IsRunOf script (map runner_of stations) run) where
  count : length callers ≡ length script.clients
  count = sym (length-map callers session_of) ∙ h.live.count

  -- the client's replies in the run
  replies : (client : ℕ) → client < length script.clients → heard_at callers client ≡ map (λ (reply : Reply). (client, reply)) (replies_in client (lines_of run))
  replies client below =
      let inside : client < length callers = omega (arith, below, count) in
      let (c, here) = element_at callers client inside in
      let there : slice_get (map session_of callers) client ≡ Some c.session = slice_get-map session_of callers client ∙ ap (option_map session_of) here in
      let live = h.live.each client c.session there in
      let station : StationData = live.station in
      let runner : slice_get (map runner_of stations) (home script client) ≡ Some station.runner =
      slice_get-map runner_of stations (home script client) ∙ ap (option_map runner_of) live.here in
      let logged : filter (is_of_node (home script client)) run ≡ station.runner.log.entries = made.are.moves run made.merges (home script client) station.runner runner in
      let told : replies_in client (lines_of run) ≡ replies_in client (lines_of station.runner.log.entries) =
      replies_in_log script run station.runner.log.entries (whole script is_script) (made.are.is_run run made.merges) client logged in
      ap marked_by here
      ∙ ap (λ (k : ℕ). map (λ (reply : Reply). (k, reply)) c.heard.items) live.client_is
      ∙ ap (map (λ (reply : Reply). (client, reply))) (heard client c inside here station.runner runner ∙ sym told)

  polled_all : gather_below (length callers) (heard_at callers) ≡ all_replies script run
  polled_all =
      ap (λ (n : ℕ). gather_below n (heard_at callers)) count
      ∙ gather_same (length script.clients) (heard_at callers) (λ client. map (λ (reply : Reply). (client, reply)) (replies_in client (lines_of run))) replies

-- what was polled
pub polled_of : (script : ScriptData) (later : List StationData) (callers : List Caller) (polled : List (ℕ × Reply)) (run : List Logged) → IsScript script
    → AreServing script later callers → HaveHeard script (length callers) (map runner_of later) callers
    → polled ≡ gather_below (length callers) (heard_at callers) → IsRunOf script (map runner_of later) run → polled ≡ all_replies script run
polled_of script later callers polled run is_script h heard told made = told ∙ polled_all script later callers run is_script h heard made

-- a live run
pub live_run : RunsKeepPromises → OrderedFinish → RestIsNoMove → (script : ScriptData) (end : Ending) (before : List Parts) (stations : List StationData) (callers : List Caller)
    (polled : List (ℕ × Reply)) (run : List Logged) → IsScript script → IsShort script → MovedOn script end before (map runner_of stations) → AreServing script stations callers
    → polled ≡ all_replies script run → IsRunOf script (map runner_of stations) run → LiveRun end script run polled
live_run promises finish rest script end before stations callers polled run is_script is_short moved h told made =
    let ran = made_run rest MOVES end script (map runner_of stations) made.logs run moved.crew h.limits made.are made.merges moved.ends in
    record {
      is_script = is_script;
      is_short = is_short;
      ran = ran;
      promised = promises script run (whole script is_script) ran.is_run;
      ordered = not_stuck end script run is_script ran.is_run ran.ends finish;
      polled_is = told;
    }
