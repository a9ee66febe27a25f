-- One letter more went out.
use Rattle.std.proofs.Common.{◌≡◌, true, arith, rules}
use Rattle.lt_mail.specs.Words.{taken_from}
use Rattle.lt_apart.proofs.Frames.{gives_more}
use Rattle.lt_apart.proofs.GivenOut.{gave_is, only_join}
use Rattle.lt_apart.proofs.giving.give_letters.Goals as goal

pub loop-count-preserved : goal.loop-count-preserved
loop-count-preserved c =
    let key = c.args.key.now in
    let wire = c.args.wire in
    let to = c.args.wire.to in
    let h = c.loop-count.invariant in
    let first = taken_from c.args.ends.now.far to in
    let before = taken_from c.loop-count.ends.far to in
    let now = taken_from c.give_next.new.ends.far to in
    let said : c.in-Ok-true.field-0 ≡ true = search rules in
    let one = gave_is key wire c.in-Ok-true.field-0 before now c.loop-count.out.items c.give_next.new.out.items said c.in-Ok-true.ensures.gives in
    record {
      far = c.give_next.ensures.far;
      gives = gives_more key wire c.loop-count.count 1 first before now c.args.out.now.items c.loop-count.out.items c.give_next.new.out.items
          h.gives one;
      most = omega (arith, c.loop-count-test.true);
      only = only_join to c.args.station.now c.loop-count.station c.give_next.new.station c.args.ends.now.far c.loop-count.ends.far
          c.give_next.new.ends.far h.only c.give_next.ensures.only;
    }
