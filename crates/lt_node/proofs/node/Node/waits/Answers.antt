use Rattle.std.proofs.Common.{◌∙◌, ℕ, ap, length, refl, sym}
use Rattle.lt_lists.specs.Below.{any_below}
use Rattle.lt_modes.specs.Waiting.{waits}
use Rattle.lt_core.specs.CoreData.{CoreData}
use Rattle.lt_node.specs.NodeData.{NodeData, core_at}
use Rattle.lt_node.proofs.NodeSets.{core_held}
use Rattle.lt_node.proofs.node.Node.waits.Goals as goal

pub returns : goal.returns
returns c =
    c.waits.ensures
    ∙ ap (λ (f : ℕ → CoreData). any_below (length c.self.inside.sets.cores) (λ s. waits (f s).state c.args.client))
    (sym (core_held _ c.args.self.now c.self.inside.sets c.self.view_is refl c.self.invariant.2))
    ∙ ap (λ (k : ℕ). any_below k (λ s. waits (core_at c.args.self.now s).state c.args.client)) (c.self.invariant.2.count ∙ ap (λ (n : NodeData). length n.script.sets) c.self.view_is)
