-- Which runners of a live service show a move.
use Rattle.lt_spec.specs.NodeMove.{with_commands}
use Rattle.lt_runner.specs.Kept.{SameRunner, AsSeen}
use Rattle.lt_threads.specs.Meeting.{IsCrew, commands_in}
use Rattle.lt_threads.proofs.Each.{each_weaker}
use Rattle.lt_threads.proofs.Logs.{crew_last}
use Rattle.lt_threads.proofs.Shown.{shows_is}
use Rattle.lt_live.specs.Moves.{ShowsNow}
use Rattle.lt_live.proofs.Finished.{shared_now}

pub shows_now : ShowsNow
shows_now script rs looked shares is_script seen met kept k p here fetched =
    let made = with_commands script (commands_in rs) in
    let crew : IsCrew made looked =
    crew_last made rs looked (each_weaker AsSeen SameRunner (λ a b s. s.same) rs looked seen) (shared_now script rs looked shares is_script seen met kept).crew in
    shows_is made looked crew kept met k p here fetched
