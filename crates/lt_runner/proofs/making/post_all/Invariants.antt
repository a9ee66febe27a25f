-- The loop over the letters of a move.
use Rattle.std.proofs.Common.{length}
use Rattle.lt_runner.specs.Posting.{Posting}
use Rattle.lt_runner.proofs.making.post_all.Given as goal

abbrev pub invariant-loop-post : goal.invariant-loop-post
invariant-loop-post l = Posting l.fn._nodes l.fn._me l.initial.mail l.mail l.initial.out l.out

abbrev pub decreases-loop-post : goal.decreases-loop-post
decreases-loop-post l = length l.out.posts
