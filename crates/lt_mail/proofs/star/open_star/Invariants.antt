-- The loop that makes the rings to and from each node.
use Rattle.lt_mail.specs.Star.{StarGrows}
use Rattle.lt_mail.proofs.star.open_star.Given as goal

abbrev pub invariant-loop : goal.invariant-loop
invariant-loop l = StarGrows l.fn.me l.fn.capacity l.counter l.mail l.far
