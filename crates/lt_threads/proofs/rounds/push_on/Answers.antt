use Rattle.lt_threads.proofs.rounds.push_on.Goals as goal
use Rattle.lt_threads.proofs.Pushing.{after_seen}

pub returns-in-Some : goal.returns-in-Some
returns-in-Some g c = after_seen c.push_from.result c.args.script.now c.args.runners.now.items c.any_enabled.new.runners.items c.push_from.new.runners.items c.any_enabled.ensures.seen c.push_from.ensures
