-- The two runners stand where they stood.
use Rattle.std.proofs.Common.{[], ◌∷◌, arith}
use Rattle.lt_threads.proofs.Pairs.{pair_meets, beside_across, beside_back}
use Rattle.lt_threads.proofs.meeting.meet_two.Goals as goal

pub meet_both-requires-clause-there : goal.meet_both-requires-clause-there
meet_both-requires-clause-there c =
    beside_across c.args.runners.now (c.args.last.now ∷ []) c.args.earlier _ c.args.last.now c.requires.inside (omega arith) c.requires.linked

pub meet_both-requires-clause-back : goal.meet_both-requires-clause-back
meet_both-requires-clause-back c =
    beside_back c.args.runners.now (c.args.last.now ∷ []) c.args.earlier _ c.args.last.now c.requires.inside (omega arith) c.requires.linked

pub returns : goal.returns
returns c =
    pair_meets c.args.runners.now (c.args.last.now ∷ []) c.args.earlier _ c.args.last.now c.meet_both.new.first c.meet_both.new.second c.requires.inside (omega arith)
    c.requires.linked c.meet_both.ensures
