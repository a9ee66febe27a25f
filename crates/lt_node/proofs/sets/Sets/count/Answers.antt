use Rattle.std.proofs.Common.{◌∙◌}
use Rattle.lt_node.proofs.StoredLemmas.{count_seen}
use Rattle.lt_node.proofs.sets.Sets.count.Goals as goal

pub returns : goal.returns
returns c = c.len.ensures ∙ c.self.inside.places.ok.0 ∙ count_seen c.self.inside.nodes c.self.inside.me c.self.inside.places.items c.self.inside.cores.items c.args.self.now c.self.view_is
