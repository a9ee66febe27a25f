use Rattle.std.proofs.Common.{◌∙◌, ℕ, ap, refl, sym}
use Rattle.lt_core.specs.CoreData.{CoreData}
use Rattle.lt_node.proofs.NodeSets.{core_held, set_inside}
use Rattle.lt_node.proofs.node.Node.core.Goals as goal

pub core-requires : goal.core-requires
core-requires c = set_inside _ c.args.self.now c.self.inside.sets c.args.set c.self.view_is c.self.invariant.2 c.requires

pub returns : goal.returns
returns c =
    c.core.ensures.state
    ∙ sym (ap (λ (f : ℕ → CoreData). (f c.args.set).state) (core_held _ c.args.self.now c.self.inside.sets c.self.view_is refl c.self.invariant.2))
