-- The next letter goes into its ring, or stays.
use Rattle.std.proofs.Common.{◌∙◌, sym, refl, rules, arith}
use Rattle.lt_mail.proofs.PassLemmas.{left_one, kept_one, gave_one}
use Rattle.lt_mail.proofs.passing.pass_all.Goals as goal

pub loop-left-preserved-then-not-is_tried : goal.loop-left-preserved-then-not-is_tried
loop-left-preserved-then-not-is_tried c = record {
  passing = left_one c.args.only c.args.outs.now.items c.args.waiting.now.items c.loop-left.outs.items c.loop-left.waiting.items
      c.pop_front.new.self.items c.push_back_reserved.new.self.items c.loop-left.held c.loop-left.left _ c.in-Some.post
      c.loop-left.invariant.passing (omega arith) c.in-Some.ensures.items c.push_back_reserved.ensures.items
      (sym c.is_tried.ensures ∙ c.if-not-is_tried.true);
}

pub loop-left-preserved-then-can_give : goal.loop-left-preserved-then-can_give
loop-left-preserved-then-can_give c = record {
  passing = gave_one c.args.only c.args.outs.now.items c.args.waiting.now.items c.loop-left.outs.items c.can_give.new.outs.items
      c.give.new.outs.items c.loop-left.waiting.items c.pop_front.new.self.items c.loop-left.held c.loop-left.left _ c.from-to.result
      c.in-Some.post c.loop-left.invariant.passing (omega arith) c.in-Some.ensures.items c.from-to.ensures
      (sym c.is_tried.ensures ∙ c.if-not-is_tried.false) (c.can_give.ensures.free c.if-can_give.true) c.can_give.ensures.looked c.give.ensures;
}

pub loop-left-preserved : goal.loop-left-preserved
loop-left-preserved c = record {
  passing = kept_one c.args.only c.args.outs.now.items c.args.waiting.now.items c.loop-left.outs.items c.can_give.new.outs.items
      c.loop-left.waiting.items c.pop_front.new.self.items c.push_back_reserved-else-can_give.new.self.items c.loop-left.held _
      c.loop-left.left _ c.from-to.result c.in-Some.post c.loop-left.invariant.passing (omega arith) c.in-Some.ensures.items
      c.push_back_reserved-else-can_give.ensures.items c.from-to.ensures (search rules) (sym c.is_tried.ensures ∙ c.if-not-is_tried.false)
      c.can_give.ensures.looked c.can_give.ensures.same (c.can_give.ensures.full c.if-can_give.false) refl;
}
