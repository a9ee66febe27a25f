-- The letter in hand is taken, or there is no memory for it.
use Rattle.std.proofs.Common.{◌≡◌, ◌∙◌, false, sym, Result, Ok, Err, OnOk}
use Rattle.std.specs.Prelude.{is_err}
use Rattle.lt_threads.proofs.Pushing.{seen_grew, moved_grew}
use Rattle.lt_threads.proofs.Taken.{moved_within}
use Rattle.lt_threads.proofs.taking.take_in_hand.Goals as goal

no_error : {T E P : Type 0} (result : Result T E) → is_err result ≡ false → OnOk result P → P
no_error (Ok value) e p = p
no_error (Err error) e p = absurd (cc)

pub returns-then-is_err-clause-grew : goal.returns-then-is_err-clause-grew
returns-then-is_err-clause-grew g c = seen_grew c.args.runner.now c.reserve.new.self c.reserve.ensures.seen

pub make-requires-clause-memory : goal.make-requires-clause-memory
make-requires-clause-memory g c = no_error c.reserve.result (sym c.is_err.ensures.value ∙ c.if-is_err.false) c.reserve.ensures.memory

pub returns-clause-grew : goal.returns-clause-grew
returns-clause-grew g c =
    moved_grew c.args.runner.now c.reserve.new.self c.make.new.self (seen_grew c.args.runner.now c.reserve.new.self c.reserve.ensures.seen)
    c.make.ensures.same c.make.ensures.moved

pub returns-clause-ends : goal.returns-clause-ends
returns-clause-ends g c =
    moved_within c.args.runner.now c.reserve.new.self c.make.new.self c.reserve.ensures.seen c.requires.could c.make.ensures.same c.make.ensures.moved
