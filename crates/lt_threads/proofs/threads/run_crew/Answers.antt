use Rattle.lt_threads.proofs.Ends.{grew_seen}
use Rattle.lt_threads.proofs.threads.run_crew.Goals as goal

pub returns : goal.returns
returns g c = record {
  crew = c.end_of.ensures.crew;
  grew = grew_seen c.args.runners.items c.in_ok-runners.runners.items c.end_of.new.runners.items c.in_ok-runners.ensures.grew c.end_of.ensures.seen;
  ends = c.in_ok-ending.ensures.ends;
}
