-- The logs that were taken are those of a crew that has met.
use Rattle.std.proofs.Common.{List, subst}
use Rattle.lt_runner.specs.declared.parts.Parts.{Parts}
use Rattle.lt_threads.specs.Meeting.{AreKept}
use Rattle.lt_threads.proofs.Logs.{crew_logs}
use Rattle.lt_threads.proofs.Whole.{all_seen}
use Rattle.lt_threads.proofs.finishing.all_logs.Goals as goal

pub take_logs-requires-clause-all : goal.take_logs-requires-clause-all
take_logs-requires-clause-all c = all_seen c.args.runners.items c.meet_all.new.runners.items c.meet_all.ensures.seen c.requires.all

pub returns : goal.returns
returns c =
    crew_logs c.args.script.now c.args.runners.items c.meet_all.new.runners.items c.take_logs.result.items c.requires.crew c.meet_all.ensures.seen
    c.meet_all.ensures.met (subst (λ (rs : List Parts). AreKept rs) c.deref.ensures.value c.all_kept.ensures) c.take_logs.ensures
