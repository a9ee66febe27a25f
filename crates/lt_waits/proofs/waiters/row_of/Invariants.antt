use Rattle.std.proofs.Common.{◌≡◌, length}
use Rattle.lt_waits.specs.Bits.{words_for}
use Rattle.lt_waits.specs.Serves.{graph_of}
use Rattle.lt_waits.proofs.BitLemmas.{IsMarkedTo}
use Rattle.lt_waits.proofs.waiters.row_of.Given as goal

abbrev pub invariant-loop-other : goal.invariant-loop-other
invariant-loop-other l = record {
  words : length l.row ≡ words_for l.graph.clients;
  marked : IsMarkedTo (graph_of l.graph) l.graph.clients l.client l.other l.row;
}
