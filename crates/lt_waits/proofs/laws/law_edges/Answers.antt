use Rattle.lt_waits.proofs.TrueEdges.{edges_are_told, void_edges_are_told}
use Rattle.lt_waits.proofs.laws.law_edges.Goals as goal

pub returns : goal.returns
returns c = record { told = edges_are_told; voids = void_edges_are_told }
