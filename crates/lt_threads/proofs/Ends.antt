-- The run of a crew, and how it ended.
use Rattle.std.proofs.Common.{◌≡◌, ℕ, ◌+◌, List, [], ◌∷◌, length, Some, Bool, true, false, refl, sym, ap, subst, arith, ◌∙◌, ◌==◌, ◌&&◌, if◌then◌else◌, filter, slice_get, true≢false, eq-eqb}
use Rattle.std.proofs.lemmas.Bool.{and_from}
use Rattle.std.proofs.lemmas.List.Sums.{sum_by-cons}
use Rattle.lt_modes.specs.Script.{ScriptData}
use Rattle.lt_script.proofs.NameLemmas.{element_at}
use Rattle.lt_spec.specs.World.{Logged, World, world_after, is_of_node, is_at_rest, anyone_waits, EndsBy, moves_of, can_move, full_node}
use Rattle.lt_merge.specs.Merging.{RunData, Merges}
use Rattle.lt_runner.specs.declared.parts.Parts.{Parts}
use Rattle.lt_runner.specs.Kept.{SameRunner, AsSeen, Grew}
use Rattle.lt_spec.proofs.LeastFull.{least_full}
use Rattle.lt_law_merged.specs.States.{RestIsNoMove}
use Rattle.lt_threads.specs.Meeting.{EachIs, IsCrew, crew_run, crew_world, IsCrewCut, AreCrewLogs}
use Rattle.lt_threads.specs.Pushes.{IsFirstCrew, CrewEnds, HasLimit, MovedOn}
use Rattle.lt_threads.proofs.Each.{each_join, each_weaker, each_before}
use Rattle.lt_threads.proofs.Pushing.{same_world, seen_grew, grew_join}
use Rattle.lt_spec.specs.declared.ending.Ending.{Ending}
use Rattle.lt_spec.specs.declared.ending.Ending.TheVariants.{Done, Stuck, Cut}
use Rattle.lt_threads.specs.Threads.{IsThreadRun, StaysWithin, GoesFar}

-- limits last
limit_lasts : (limit : ℕ) (old new : List Parts) → EachIs SameRunner old new → HasLimit limit old → HasLimit limit new
limit_lasts limit old new same h k p e =
    let was = each_before SameRunner old new same k p e in
    let is : SameRunner was.0 p = was.2 in
    is.limit ∙ h k was.0 was.1

-- as many moves of a node as entries in its log
counted : (q : ℕ) (run : List Logged) → moves_of q run ≡ length (filter (is_of_node q) run)
counted q [] = refl
counted q (entry ∷ run) = sum_by-cons (λ (x : Logged). if is_of_node q x then 1 else 0) entry run ∙ by_test (is_of_node q entry) (counted q run)
  where
    by_test : (here : Bool) → moves_of q run ≡ length (filter (is_of_node q) run)
        → (if here then 1 else 0) + moves_of q run ≡ length (if here then entry ∷ filter (is_of_node q) run else filter (is_of_node q) run)
    by_test true e = omega (arith, e)
    by_test false e = omega (arith, e)

made_by : (script : ScriptData) (rs : List Parts) (logs : List RunData) (run : List Logged) (k : ℕ) (p : Parts) → AreCrewLogs script rs logs → Merges logs run
    → slice_get rs k ≡ Some p → moves_of k run ≡ length p.log.entries
made_by script rs logs run k p finished merges here = counted k run ∙ ap (λ (log : List Logged). length log) (finished.moves run merges k p here)

cut_full : (limit k : ℕ) (script : ScriptData) (rs : List Parts) (logs : List RunData) (run : List Logged) → IsCrew script rs → HasLimit limit rs
    → AreCrewLogs script rs logs → Merges logs run → IsCrewCut k script rs → full_node script limit run ≡ Some k
cut_full limit k script rs logs run crew limits finished merges cut =
    least_full script limit run k cut.below
    (λ j below.
    let can = ap (λ (moves : List Logged). can_move script (world_after script moves) j) same ∙ cut.least j below in
    rw can (no_and (moves_of j run == limit)))
    (and_from _ _ (eq-eqb (moves_of k run) limit made) (ap (λ (moves : List Logged). can_move script (world_after script moves) k) same ∙ cut.moves))
  where
    same : run ≡ crew_run script rs
    same = finished.is_crew_run run merges

    no_and : (b : Bool) → (b && false) ≡ false
    no_and true = refl
    no_and false = refl

    made : moves_of k run ≡ limit
    made =
        let (p, here) = element_at rs k (omega (arith, cut.below, crew.count)) in
        made_by script rs logs run k p finished merges here ∙ (cut.full k p here cut.moves ∙ limits k p here)

ends_by : (limit : ℕ) (over : Ending) (script : ScriptData) (rs : List Parts) (logs : List RunData) (run : List Logged) → IsCrew script rs → HasLimit limit rs
    → AreCrewLogs script rs logs → Merges logs run → CrewEnds over script rs → EndsBy limit over script run
ends_by limit Done script rs logs run crew limits finished merges h =
    subst (λ (moves : List Logged). (is_at_rest script (world_after script moves) ≡ true) × (anyone_waits script (world_after script moves) ≡ false))
    (sym (finished.is_crew_run run merges)) h
ends_by limit Stuck script rs logs run crew limits finished merges h =
    subst (λ (moves : List Logged). (is_at_rest script (world_after script moves) ≡ true) × (anyone_waits script (world_after script moves) ≡ true))
    (sym (finished.is_crew_run run merges)) h
ends_by limit (Cut k) script rs logs run crew limits finished merges h = cut_full limit k script rs logs run crew limits finished merges h

stays_within : (limit : ℕ) (script : ScriptData) (rs : List Parts) (logs : List RunData) (run : List Logged) → IsCrew script rs → HasLimit limit rs
    → AreCrewLogs script rs logs → Merges logs run → StaysWithin limit script run
stays_within limit script rs logs run crew limits finished merges q below =
    let (p, here) = element_at rs q (omega (arith, below, crew.count)) in
    omega (arith, made_by script rs logs run q p finished merges here, finished.within q p here, limits q p here)

goes_far : RestIsNoMove → (limit : ℕ) (over : Ending) (script : ScriptData) (rs : List Parts) (logs : List RunData) (run : List Logged) → IsCrew script rs
    → HasLimit limit rs → AreCrewLogs script rs logs → Merges logs run → CrewEnds over script rs → GoesFar limit script run
goes_far rest limit over script rs logs run crew limits finished merges h q below moves = by_end over h
  where
    can : can_move script (crew_world script rs) q ≡ true
    can = subst (λ (made : List Logged). can_move script (world_after script made) q ≡ true) (finished.is_crew_run run merges) moves

    resting : is_at_rest script (crew_world script rs) ≡ true → moves_of q run ≡ limit
    resting at_rest = absurd (true≢false (sym can ∙ (rest script (crew_world script rs) crew.is_script).0 at_rest q below))

    by_end : (end : Ending) → CrewEnds end script rs → moves_of q run ≡ limit
    by_end Done e = resting e.0
    by_end Stuck e = resting e.0
    by_end (Cut k) e =
        let (p, here) = element_at rs q (omega (arith, below, crew.count)) in
        made_by script rs logs run q p finished merges here ∙ (e.full q p here can ∙ limits q p here)

-- the run of a crew that made all its moves
pub made_run : RestIsNoMove → (limit : ℕ) (over : Ending) (script : ScriptData) (rs : List Parts) (logs : List RunData) (run : List Logged) → IsCrew script rs
    → HasLimit limit rs → AreCrewLogs script rs logs → Merges logs run → CrewEnds over script rs → IsThreadRun limit over script run
made_run rest limit over script rs logs run crew limits finished merges ends = record {
  is_run = finished.is_run run merges;
  rising = merges.order.rising;
  ends = ends_by limit over script rs logs run crew limits finished merges ends;
  within = stays_within limit script rs logs run crew limits finished merges;
  far = goes_far rest limit over script rs logs run crew limits finished merges ends;
}

-- from the first crew to the run
pub thread_run : RestIsNoMove → (capacity limit : ℕ) (over : Ending) (script : ScriptData) (first last : List Parts) (logs : List RunData) (run : List Logged)
    → IsFirstCrew script capacity limit first → MovedOn script over first last → AreCrewLogs script last logs → Merges logs run → IsThreadRun limit over script run
thread_run rest capacity limit over script first last logs run starts moved finished merges =
    made_run rest limit over script last logs run moved.crew
    (limit_lasts limit first last (each_weaker Grew SameRunner (λ a b h. h.same) first last moved.grew) starts.limits) finished merges moved.ends

-- what a look leaves as it is goes on with what grew
pub grew_seen : (old mid new : List Parts) → EachIs Grew old mid → EachIs AsSeen mid new → EachIs Grew old new
grew_seen old mid new grew seen = each_join Grew grew_join old mid new grew (each_weaker AsSeen Grew seen_grew mid new seen)

-- rest lasts where no runner moved
pub rest_lasts : (script : ScriptData) (old new : List Parts) → EachIs AsSeen old new → is_at_rest script (crew_world script old) ≡ true
    → is_at_rest script (crew_world script new) ≡ true
rest_lasts script old new seen rest = subst (λ (w : World). is_at_rest script w ≡ true) (sym (same_world script old new seen)) rest
