use Rattle.std.proofs.Common.{ℕ, subst}
use Rattle.lt_threads.specs.Pushes.{IsFirstCrew}
use Rattle.lt_threads.proofs.Ends.{thread_run}
use Rattle.lt_threads.proofs.Whole.{all_grew}
use Rattle.lt_threads.proofs.threads.run_on_threads.Goals as goal

pub all_logs-requires-clause-all : goal.all_logs-requires-clause-all
all_logs-requires-clause-all g c =
    all_grew c.in_ok-runners.runners.items c.in_ok-runners-2.runners.items c.in_ok-runners-2.ensures.grew c.in_ok-runners.ensures.have_all

pub returns : goal.returns
returns g c =
    thread_run c.law_can_move.ensures.rest c.args.capacity c.args.limit c.in_ok-runners-2.ending c.args.script.now c.in_ok-runners.runners.items c.in_ok-runners-2.runners.items
    c.in_ok-logs.logs.items c.in_ok-run.run'.entries
    (subst (λ (n : ℕ). IsFirstCrew c.args.script.now c.args.capacity n c.in_ok-runners.runners.items) c.from.ensures c.in_ok-runners.ensures)
    c.in_ok-runners-2.ensures c.in_ok-logs.ensures c.in_ok-run.ensures
