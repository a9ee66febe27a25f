use Rattle.lt_live.specs.Live.{LiveScript}
use Rattle.lt_tests.proofs.live.more_commands_than_a_text_has_are_made.Given as goal

abbrev pub invariant-loop : goal.invariant-loop
invariant-loop g l = LiveScript l.stations.items l.sessions.items
