-- The last runner and those before it.
use Rattle.std.proofs.Common.{ℕ, [], ◌∷◌, ◌++◌, length, subst, arith}
use Rattle.lt_threads.specs.Meeting.{Meeting, PairMeets}
use Rattle.lt_threads.proofs.Pairs.{next_pair, last_starts}
use Rattle.lt_threads.proofs.meeting.meet_last.Goals as goal

pub loop-earlier-init : goal.loop-earlier-init
loop-earlier-init c = last_starts c.args.runners.now c.args.last.now c.requires.linked c.requires.met

pub loop-earlier-preserved : goal.loop-earlier-preserved
loop-earlier-preserved c =
    next_pair c.loop-earlier.earlier (length c.args.runners.now) (c.args.runners.now ++ c.args.last.now ∷ []) (c.loop-earlier.runners ++ c.loop-earlier.last ∷ [])
    (c.meet_two.new.runners ++ c.meet_two.new.last ∷ []) c.loop-earlier-test.true c.loop-earlier.invariant
    (subst (λ (n : ℕ). PairMeets c.loop-earlier.earlier n (c.loop-earlier.runners ++ c.loop-earlier.last ∷ []) (c.meet_two.new.runners ++ c.meet_two.new.last ∷ []))
    c.loop-earlier.auto.runners c.meet_two.ensures)

pub returns : goal.returns
returns c = subst (λ (n : ℕ). Meeting (length c.args.runners.now) n (c.args.runners.now ++ c.args.last.now ∷ []) (c.loop-earlier.runners ++ c.loop-earlier.last ∷ []))
    (omega (arith, c.loop-earlier.auto.earlier-end, c.loop-earlier-test.false)) c.loop-earlier.invariant
