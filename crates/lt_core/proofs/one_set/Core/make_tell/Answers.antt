use Rattle.std.proofs.Common.{◌≡◌, subst, sym}
use Rattle.lt_core.specs.CoreData.{CoreData, HasRoom}
use Rattle.lt_core.proofs.one_set.Core.make_tell.Goals as goal

pub route-requires-clause-node : goal.route-requires-clause-node
route-requires-clause-node c = subst (λ (k : CoreData). c.args.stamp.node ≡ k.node) (sym c.self.view_is) c.requires.node

pub route-requires-clause-rows : goal.route-requires-clause-rows
route-requires-clause-rows c = (subst (HasRoom 1 c.args.stamp.clock) (sym c.self.view_is) c.requires.room).rows

pub route-requires-clause-parked : goal.route-requires-clause-parked
route-requires-clause-parked c = (subst (HasRoom 1 c.args.stamp.clock) (sym c.self.view_is) c.requires.room).parked
