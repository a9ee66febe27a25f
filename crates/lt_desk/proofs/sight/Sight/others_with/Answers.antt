use Rattle.std.proofs.Common.{refl, sym}
use Rattle.lt_desk.specs.Sights.{sight_state, desk_of}
use Rattle.lt_desk.proofs.sight.Sight.others_with.Goals as goal

pub returns : goal.returns
returns c = c.others.ensures (sight_state c.args.self.now) (desk_of c.args.self.now) refl (sym c.requires)
