-- There are no more rings than bits.
use Rattle.std.proofs.Common.{arith}
use Rattle.lt_runner.proofs.parts.Parts.flush_telling.Goals as goal

pub flush_all_telling-requires : goal.flush_all_telling-requires
flush_all_telling-requires c = omega (arith, c.requires.outs, c.me.ensures.kept.is_script.few_nodes)
