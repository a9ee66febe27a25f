use Rattle.std.proofs.Common.{◌∙◌, ◌<◌, ℕ, refl, subst, sym}
use Rattle.lt_node.proofs.AdvanceLemmas.{client_inside, made_here}
use Rattle.lt_node.proofs.node.Node.made.Goals as goal

pub index-requires : goal.index-requires
index-requires c = subst (λ (n : ℕ). c.from.result < n) (sym c.self.inside.clients.ok.0) (client_inside _ c.args.self.now c.self.inside.clients.items c.args.client c.from.result c.self.view_is c.self.invariant.0 refl c.from.ensures c.requires)

pub returns : goal.returns
returns c =
    c.made.ensures
    ∙ made_here _ c.args.self.now c.self.inside.clients.items c.args.client c.from.result c.index.result.now c.self.view_is refl c.from.ensures c.index.ensures
    (client_inside _ c.args.self.now c.self.inside.clients.items c.args.client c.from.result c.self.view_is c.self.invariant.0 refl c.from.ensures c.requires)
