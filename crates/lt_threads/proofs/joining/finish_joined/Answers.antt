-- Where the scripts were joined, no runner had forgotten anything, and what fails behind that wants memory.
use Rattle.std.proofs.Common.{List, sym, subst}
use Rattle.lt_runner.specs.declared.parts.Parts.{Parts}
use Rattle.lt_threads.specs.Meeting.{HaveAll, IsCrew, IsJoined}
use Rattle.lt_threads.proofs.Shares.{shared_run}
use Rattle.lt_threads.proofs.Whole.{all_or_not}
use Rattle.lt_threads.proofs.joining.finish_joined.Goals as goal

pub all_logs-requires-clause-crew : goal.all_logs-requires-clause-crew
all_logs-requires-clause-crew c =
    subst (λ (rs : List Parts). IsCrew c.in_ok-script.script rs) c.deref.ensures.value c.in_ok-script.ensures.joined.crew

pub returns-clause-run : goal.returns-clause-run
returns-clause-run c =
    shared_run c.args.runners.items c.in_ok-script.script c.in_ok-logs.logs.items c.in_ok-run.run'.entries
    (subst (λ (rs : List Parts). IsJoined rs c.in_ok-script.script) c.deref.ensures.value c.in_ok-script.ensures.joined)
    c.in_ok-logs.ensures c.in_ok-run.ensures

pub all_logs-requires-clause-all : goal.all_logs-requires-clause-all
all_logs-requires-clause-all c =
    all_or_not c.args.runners.items (λ none. let wrong = c.in_ok-script.ensures.forgotten.1 (subst (λ (rs : List Parts). ¬ HaveAll rs) (sym c.deref.ensures.value) none) in cc)

pub returns-in_err-logs-clause-forgotten : goal.returns-in_err-logs-clause-forgotten
returns-in_err-logs-clause-forgotten c = (
  λ e all. let wrong = rw e at c.from_residual-in_err-logs.ensures.1 in cc,
  λ none. absurd (let wrong = c.in_ok-script.ensures.forgotten.1 (subst (λ (rs : List Parts). ¬ HaveAll rs) (sym c.deref.ensures.value) none) in cc),
)

pub returns-in_err-run-clause-forgotten : goal.returns-in_err-run-clause-forgotten
returns-in_err-run-clause-forgotten c = (
  λ e all. let wrong = rw e at c.from_residual-in_err-run.ensures.1 in cc,
  λ none. absurd (let wrong = c.in_ok-script.ensures.forgotten.1 (subst (λ (rs : List Parts). ¬ HaveAll rs) (sym c.deref.ensures.value) none) in cc),
)

pub returns-clause-forgotten : goal.returns-clause-forgotten
returns-clause-forgotten c = (
  λ e. absurd (cc),
  λ none. absurd (let wrong = c.in_ok-script.ensures.forgotten.1 (subst (λ (rs : List Parts). ¬ HaveAll rs) (sym c.deref.ensures.value) none) in cc),
)
