use Rattle.std.proofs.Common.{◌∙◌, replicate}
use Rattle.lt_inbox.proofs.Sets.{marks_length, mark_is, no_bit, no_bits}
use Rattle.lt_inbox.proofs.node_set.NodeSet.new.Goals as goal

pub invariant_of-result : goal.invariant_of-result
invariant_of-result c = no_bits c.args.nodes c.ranges.nodes.fits

pub returns-clause-count : goal.returns-clause-count
returns-clause-count c = marks_length c.args.nodes (replicate 4 0)

pub returns-clause-empty : goal.returns-clause-empty
returns-clause-empty c i h = mark_is (replicate 4 0) c.args.nodes 0 i (no_bits c.args.nodes c.ranges.nodes.fits) ∙ no_bit 4 i
