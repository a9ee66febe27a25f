use Rattle.std.proofs.Common.{rules, ◌∙◌, arith, refl}
use Rattle.std.proofs.KnownBytes.{Appends-nil}
use Rattle.lt_io.proofs.Pieces.{Appends-next, at_within, none_written, one_more_write, all_written, stops_by_fewest, length_of_rest}
use Rattle.lt_io.proofs.whole.write_all.Goals as goal

pub loop-at-init : goal.loop-at-init
loop-at-init g c = record {
  inside = omega arith;
  written = Appends-nil _;
  no_fault = refl;
  few = none_written _ _;
}

pub loop-at-preserved : goal.loop-at-preserved
loop-at-preserved g c = record {
  inside = at_within c.args.bytes.now c.loop-at.at c.in_ok-at.field-0 c.loop-at.invariant.inside c.in_ok-at.ensures.count.0;
  written = Appends-next _ _ _ c.args.bytes.now c.loop-at.at c.in_ok-at.field-0 c.loop-at.invariant.written c.in_ok-at.ensures.bytes;
  no_fault = c.in_ok-at.ensures.cause.without_fault ∙ c.loop-at.invariant.no_fault;
  few = one_more_write _ _ _ _ _ c.loop-at.at c.in_ok-at.field-0 _ c.loop-at-test.true (length_of_rest c.args.bytes.now c.loop-at.at) c.in_ok-at.ensures.count.1 c.loop-at.invariant.few c.in_ok-at.ensures.pace;
}

pub returns-clause-few : goal.returns-clause-few
returns-clause-few g c = all_written _ _ _ c.loop-at.at c.loop-at-test.false c.loop-at.invariant.few

pub returns-in_err-at-clause-few_failed : goal.returns-in_err-at-clause-few_failed
returns-in_err-at-clause-few_failed g c =
    let failed = stops_by_fewest _ _ _ _ _ _ _ _ c.args.bytes.now c.loop-at.at _ c.loop-at-test.true c.loop-at.invariant.written c.in_err-at.ensures.bytes c.loop-at.invariant.few c.in_err-at.ensures.pace in
    search (rules, failed)
