use Rattle.std.proofs.Common.{refl, arith}
use Rattle.std.proofs.lemmas.Iterator.Adapters.{position_from-zero}
use Rattle.lt_text.specs.Text.{lines}
use Rattle.lt_journal.specs.Split.{is_journal_line}
use Rattle.lt_journal.proofs.splitting.split.Goals as goal

pub split_from-requires-clause-passed : goal.split_from-requires-clause-passed
split_from-requires-clause-passed c = record {
  within = omega arith;
  few = omega arith;
  passed = refl;
  none = position_from-zero is_journal_line (lines c.args.bytes.now);
  count_is = omega arith;
}
