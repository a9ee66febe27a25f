use Rattle.std.proofs.Common.{length, ◌∙◌, ap, is_some}
use Rattle.lt_node.specs.NodeData.{state_of}
use Rattle.lt_node.proofs.AskLemmas.{ask_found}
use Rattle.lt_node.proofs.node.Node.ask_of.Goals as goal

pub returns-clause-some : goal.returns-clause-some
returns-clause-some c =
    ap is_some c.search_ask.ensures ∙ ask_found (state_of c.args.self.now) c.args.client (length c.args.self.now.script.sets)
