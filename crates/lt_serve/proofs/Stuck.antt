-- When an answer is that a run is stuck.
use Rattle.std.proofs.Common.{◌≡◌, ◌∙◌, ℕ, List, Option, Some, None, refl, sym, subst, Result, Ok}
use Rattle.lt_modes.specs.Script.{ScriptData}
use Rattle.lt_spec.specs.Ordered.{IsOrdered}
use Rattle.lt_spec.specs.World.{Logged}
use Rattle.lt_script.specs.declared.fault.ScriptFault.{ScriptFault}
use Rattle.lt_script.specs.Reading.{read_of}
use Rattle.lt_call.specs.Scripts.{DenotesOrdered}
use Rattle.lt_words.specs.declared.command.Command.{Command}
use Rattle.lt_words.specs.declared.command.Command.TheVariants.{Sim, Make, Soak, Run, SimFirst, Check, Order}
use Rattle.lt_serve.specs.declared.status.Status.{Status}
use Rattle.lt_serve.specs.declared.status.Status.TheVariants.{Stuck, Done, Usage}
use Rattle.lt_serve.specs.Causes.{HasStatusCause, MayGetStuck, IsUnordered, RunsOrdered}
use Rattle.lt_serve.specs.TopCall.{Journals, JournalsBy, Did, DidOf}

denoted_not_stuck : (left : Option (List ℕ)) → DenotesOrdered left → IsUnordered left → ⊥
denoted_not_stuck None ordered unordered = ordered
denoted_not_stuck (Some bytes) ordered unordered = unordered ordered.0 ordered.1 ordered.2

not_stuck : (asked : Option Command) (left : Option (List ℕ)) → RunsOrdered asked left → MayGetStuck asked left → ⊥
not_stuck None left ordered stuck = ordered
not_stuck (Some SimFirst) left ordered stuck = denoted_not_stuck left ordered stuck
not_stuck (Some (Sim seed)) left ordered stuck = denoted_not_stuck left ordered stuck
not_stuck (Some Run) left ordered stuck = denoted_not_stuck left ordered stuck
not_stuck (Some (Soak seed)) left ordered stuck = stuck ordered
not_stuck (Some Check) left ordered stuck = ordered
not_stuck (Some Order) left ordered stuck = ordered
not_stuck (Some (Make version nodes clients commands seed)) left ordered stuck = ordered

-- of bytes that denote an ordered script no run ended with a client waiting
unordered : (moves : ℕ) (left : Option (List ℕ)) (run : List Logged) (text : List ℕ) → Journals moves Stuck left run text → IsUnordered left
unordered moves None run text j = tt
unordered moves (Some bytes) run text j =
    λ script read ordered. j.ran.ordered (subst IsOrdered (same script j.script (read_of bytes) read j.denoted) ordered) refl
  where
    same : (a b : ScriptData) (answer : Result ScriptData ScriptFault) → answer ≡ Ok a → answer ≡ Ok b → a ≡ b
    same a b answer e f = cc

not_done : Stuck ≡ Done → ⊥
not_done e = cc

by_stuck : (moves : ℕ) (command : Command) (left : Option (List ℕ)) (run : List Logged) (text : List ℕ) → JournalsBy moves command Stuck left run text
    → MayGetStuck (Some command) left
by_stuck moves SimFirst left run text does = unordered moves left run text does.journals
by_stuck moves (Sim seed) left run text does = unordered moves left run text does.journals
by_stuck moves Run left run text does = unordered moves left run text does.journals
by_stuck moves (Soak seed) left run text does = λ ordered. does.ran.ordered ordered refl
by_stuck moves (Make version nodes clients commands seed) left run text does = not_done does.0
by_stuck moves Check left run text does = not_done does.done
by_stuck moves Order left run text does = not_done does.done

stuck_cause : (moves : ℕ) (command : Command) (status : Status) (left : Option (List ℕ)) (run : List Logged) (old new : Option (List ℕ))
    → DidOf moves command status left run old new → status ≡ Stuck → MayGetStuck (Some command) left
stuck_cause moves command status left run old new told e =
    let wrote = subst (λ (s : Status). DidOf moves command s left run old new) e told in
    by_stuck moves command left run wrote.0 wrote.1

-- of a command that made a run of an ordered script the answer is never that it is stuck
pub stuck_unordered : (moves : ℕ) (command : Command) (status : Status) (left : Option (List ℕ)) (run : List Logged) (old new : Option (List ℕ))
    → DidOf moves command status left run old new → status ≡ Stuck → RunsOrdered (Some command) left → ⊥
stuck_unordered moves command status left run old new told e ordered =
    not_stuck (Some command) left ordered (stuck_cause moves command status left run old new told e)

not_usage : Usage ≡ Stuck → ⊥
not_usage e = cc

-- whatever the words are, an answer that a run is stuck is that of a command that makes one
pub stuck_runs : (moves : ℕ) (asked : Option Command) (status : Status) (left : Option (List ℕ)) (run : List Logged) (old new : Option (List ℕ))
    → Did moves asked status left run old new → HasStatusCause asked left status → status ≡ Stuck → MayGetStuck asked left
stuck_runs moves None status left run old new told causes e = absurd (not_usage (sym (causes.usage.1 refl) ∙ e))
stuck_runs moves (Some command) status left run old new told causes e = stuck_cause moves command status left run old new told e
