-- The far ends are those of the same rings still.
use Rattle.lt_apart.proofs.GivenOut.{met_far}
use Rattle.lt_apart.proofs.remote.Remote.pending.Goals as goal

pub invariant_of-self : goal.invariant_of-self
invariant_of-self c =
    met_far c.args.to c.self.inside.station.runner c.meet_taker.new.self.runner c.self.inside.ends.far c.meet_taker.new.far
    c.self.inside.ends.given.items c.self.inside.ends.brought.items c.self.invariant c.meet_taker.ensures.looks c.meet_taker.ensures.far_ends
    c.meet_taker.ensures.far_outs c.meet_taker.ensures.far_taken
