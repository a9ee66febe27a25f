-- No run is cut where a node may make more moves than any run has; so each comes to rest.
use Rattle.std.proofs.Common.{arith, ◌≡◌, ◌≢◌, ◌≤◌, ◌∙◌, ℕ, List, Option, Some, None, refl, sym, subst, inl, inr, ◌⊎◌, ◌^◌}
use Rattle.lt_io.specs.Streams.{SourceState, Pace}
use Rattle.lt_modes.specs.Script.{ScriptData}
use Rattle.lt_spec.specs.World.{Logged}
use Rattle.lt_law_ends.specs.EndLaws.{NeverCutAtAll}
use Rattle.lt_call.specs.Outcomes.{IsEnding}
use Rattle.lt_words.specs.declared.command.Command.{Command}
use Rattle.lt_words.specs.declared.command.Command.TheVariants.{Run, SimFirst, Sim, Check, Make, Soak, Order}
use Rattle.lt_serve.specs.declared.serving.Served.{Served}
use Rattle.lt_serve.specs.declared.status.Status.{Status}
use Rattle.lt_serve.specs.declared.status.Status.TheVariants.{Done, Stuck, Usage, Refused, TooLong, ReadFault, WriteFault, NoMemory, Cut, BadJournal}
use Rattle.lt_serve.specs.Causes.{RunsOrdered}
use Rattle.lt_serve.specs.Serves.{IsComplete, IsAnswered, GoesWell, Ends, Serves}
use Rattle.lt_serve.specs.Endings.{RanTo}
use Rattle.lt_serve.specs.Status.{outcome_of}
use Rattle.lt_serve.specs.TopCall.{JournalsBy, DidOf, Did, greatest_script}

none_some : (node : ℕ) → None ≡ Some node → ⊥
none_some node e = cc

cut_not_done : (node : ℕ) → Cut node ≡ Done → ⊥
cut_not_done node e = cc

cut_not_usage : (node : ℕ) → Usage ≡ Cut node → ⊥
cut_not_usage node e = cc

not_cut : (moves node : ℕ) (script : ScriptData) (run : List Logged) → NeverCutAtAll → 2 ^ 30 ≤ moves → RanTo moves (Cut node) script run → ⊥
not_cut moves node script run never far ran = none_some node (sym (never script run moves ran.is_script ran.is_short ran.is_run far) ∙ ran.ends)

not_cut_by : (moves : ℕ) (command : Command) (node : ℕ) (left : Option (List ℕ)) (run : List Logged) (text : List ℕ) → NeverCutAtAll
    → 2 ^ 30 ≤ moves → JournalsBy moves command (Cut node) left run text → ⊥
not_cut_by moves SimFirst node left run text never far does = not_cut moves node does.journals.script run never far does.journals.ran
not_cut_by moves (Sim seed) node left run text never far does = not_cut moves node does.journals.script run never far does.journals.ran
not_cut_by moves Run node left run text never far does = not_cut moves node does.journals.script run never far does.journals.ran
not_cut_by moves (Soak seed) node left run text never far does = not_cut moves node (greatest_script seed) run never far does.ran
not_cut_by moves (Make version nodes clients commands seed) node left run text never far does = cut_not_done node does.0
not_cut_by moves Check node left run text never far does = cut_not_done node does.done
not_cut_by moves Order node left run text never far does = cut_not_done node does.done

-- no answer that did so is a cut
pub never_cut : (moves : ℕ) (asked : Option Command) (status : Status) (left : Option (List ℕ)) (run : List Logged) (old new : Option (List ℕ))
    → NeverCutAtAll → 2 ^ 30 ≤ moves → Did moves asked status left run old new → (asked ≡ None → status ≡ Usage)
    → (node : ℕ) → status ≢ Cut node
never_cut moves None status left run old new never far told usage = λ node e. cut_not_usage node (sym (usage refl) ∙ e)
never_cut moves (Some command) status left run old new never far told usage = λ node e.
    let wrote = subst (λ (s : Status). DidOf moves command s left run old new) e told in
    not_cut_by moves command node left run wrote.0 never far wrote.1

ending_rests : (status : Status) → IsEnding (outcome_of status) → ((node : ℕ) → status ≢ Cut node) → (status ≡ Done) ⊎ (status ≡ Stuck)
ending_rests Done h uncut = inl refl
ending_rests Stuck h uncut = inr refl
ending_rests (Cut node) h uncut = absurd (uncut node refl)
ending_rests Usage h uncut = absurd h
ending_rests (Refused fault) h uncut = absurd h
ending_rests TooLong h uncut = absurd h
ending_rests ReadFault h uncut = absurd h
ending_rests WriteFault h uncut = absurd h
ending_rests NoMemory h uncut = absurd h
ending_rests (BadJournal line) h uncut = absurd h

answered_rests : (command : Command) (status : Status) → IsAnswered command status → ((node : ℕ) → status ≢ Cut node)
    → (status ≡ Done) ⊎ (status ≡ Stuck)
answered_rests SimFirst status h uncut = ending_rests status h uncut
answered_rests (Sim seed) status h uncut = ending_rests status h uncut
answered_rests Run status h uncut = ending_rests status h uncut
answered_rests (Soak seed) status h uncut = ending_rests status h uncut
answered_rests (Make version nodes clients commands seed) status h uncut = inl h
answered_rests Check status h uncut = inl h
answered_rests Order status h uncut = inl h

rests : (asked : Option Command) (status : Status) (before after : SourceState) (w v : ℕ) → IsComplete asked status before after w v
    → ((node : ℕ) → status ≢ Cut node) → GoesWell asked status before after w v → (status ≡ Done) ⊎ (status ≡ Stuck)
rests asked status before after w v complete uncut well =
    answered_rests well.command status (complete well) uncut

done_of : (asked : Option Command) (status : Status) (left : Option (List ℕ)) → (status ≡ Done) ⊎ (status ≡ Stuck)
    → (status ≡ Stuck → RunsOrdered asked left → ⊥) → RunsOrdered asked left → status ≡ Done
done_of asked status left (inl done) stuck ordered = done
done_of asked status left (inr same) stuck ordered = absurd (stuck same ordered)

-- the usual limit of moves
pub usual_is_far : 2 ^ 30 ≤ 1073741824
usual_is_far = omega arith

-- what is said of each answer has it that runs end
pub ends : {S K : Type 0} (state : S → SourceState) (held : K → Option (List ℕ)) (write_faults : K → ℕ) (pace : K → Option Pace)
    (moves : ℕ) (asked : Option Command) (answer : Served) (before after : S) (sink sink_after : K)
    → NeverCutAtAll → 2 ^ 30 ≤ moves → Serves state held write_faults pace moves asked answer before after sink sink_after
    → Ends asked answer.status (state before) (state after) (write_faults sink) (write_faults sink_after)
ends state held write_faults pace moves asked answer before after sink sink_after never far serves =
    let w = write_faults sink in
    let v = write_faults sink_after in
    let uncut = never_cut moves asked answer.status (state before).left answer.run.entries (held sink) (held sink_after) never far
    serves.did serves.causes.usage.1 in
    let rest = rests asked answer.status (state before) (state after) w v serves.complete uncut in
    record {
      never_cut = uncut;
      done_or_stuck = rest;
      ordered = λ well ordered. done_of asked answer.status (state before).left (rest well) serves.causes.stuck ordered;
    }
