use Rattle.std.proofs.Common.{sym, subst}
use Rattle.lt_world.specs.Fields.{world_of}
use Rattle.lt_world.proofs.Picks.{Picked, picked}
use Rattle.lt_world.proofs.world.World.pick.Goals as goal

pub returns : goal.returns
returns c =
    let w = c.args.self.now in
    let told : Picked w.script (world_of w) c.args.k c.turn_at.result = subst (Picked w.script (world_of w) c.args.k) (sym c.turn_at.ensures) (picked w.script (world_of w) c.args.k) in
    record { place = c.turn_at.ensures; enabled = told.enabled; none = told.none; going = told.going; rest = told.rest }
