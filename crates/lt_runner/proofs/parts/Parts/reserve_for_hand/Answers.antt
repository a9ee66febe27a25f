-- Only memory is another.
use Rattle.std.proofs.Common.{refl, rules}
use Rattle.lt_runner.proofs.KeptLemmas.{kept_still}
use Rattle.lt_runner.proofs.parts.Parts.reserve_for_hand.Goals as goal

pub returns-in-Some-clause-kept : goal.returns-in-Some-clause-kept
returns-in-Some-clause-kept c = kept_still c.args.self.now _ c.requires.kept (search rules) (search rules) (search rules) (search rules) refl
