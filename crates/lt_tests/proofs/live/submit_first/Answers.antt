use Rattle.lt_live.specs.Words.{SameSession}
use Rattle.lt_live.proofs.SeatLists.{alike_set}
use Rattle.lt_live.proofs.Settling.{session_itself, session_found}
use Rattle.lt_tests.proofs.live.submit_first.Goals as goal

pub returns : goal.returns
returns g c =
    alike_set SameSession session_itself c.args.sessions.now.items 0 c.index_mut.result.now c.submit.new.session
    (session_found c.args.sessions.now.items 0 c.index_mut.result.now c.requires c.index_mut.ensures.value) c.submit.ensures
