-- Too many sets for keys are refused, and why else there are none.
use Rattle.std.proofs.Common.{◌*◌, arith}
use Rattle.lt_live_c.proofs.AddedKeys.{too_many_keys, no_memory_for_keys, bad_key}
use Rattle.lt_live_c.proofs.service.with_key_sets.Goals as goal

pub returns-then-count-from-clause-refused : goal.returns-then-count-from-clause-refused
returns-then-count-from-clause-refused c =
    too_many_keys c.args.families c.args.members c.args.script (grind arith)

pub returns-in_default-clause-refused : goal.returns-in_default-clause-refused
returns-in_default-clause-refused c =
    no_memory_for_keys c.args.families c.args.members c.args.script (grind arith)

pub returns-in-Ok-false-clause-refused : goal.returns-in-Ok-false-clause-refused
returns-in-Ok-false-clause-refused c =
    bad_key c.args.families c.args.members (c.from.result * c.from-2.result) c.args.script c.reserve_sets.new.self
    c.add_key_sets.new.script c.in-Ok-false.field-0 c.in-Ok-false.field-0-test c.reserve_sets.ensures (grind arith)
    (grind arith) c.in-Ok-false.ensures

pub returns-in-Err-clause-refused : goal.returns-in-Err-clause-refused
returns-in-Err-clause-refused c =
    no_memory_for_keys c.args.families c.args.members c.args.script (grind arith)
