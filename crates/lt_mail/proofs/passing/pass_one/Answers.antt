-- The letter goes into its ring, or stays.
use Rattle.std.proofs.Common.{◌∙◌, sym, refl, rules}
use Rattle.lt_mail.proofs.OneLemmas.{one_left, one_kept, one_gave}
use Rattle.lt_mail.proofs.passing.pass_one.Goals as goal

pub returns-then-not-is_tried : goal.returns-then-not-is_tried
returns-then-not-is_tried c =
    one_left c.args.only c.args.outs.now.items c.args.waiting.now.items c.pop_front.new.self.items c.push_back_reserved.new.self.items
    c.in-Some.post c.requires c.in-Some.ensures.items c.push_back_reserved.ensures.items (sym c.is_tried.ensures ∙ c.if-not-is_tried.true)

pub returns-then-can_give : goal.returns-then-can_give
returns-then-can_give c =
    one_gave c.args.only c.args.outs.now.items c.args.waiting.now.items c.can_give.new.outs.items c.give.new.outs.items
    c.pop_front.new.self.items c.from-to.result c.in-Some.post c.requires c.in-Some.ensures.items c.from-to.ensures
    (sym c.is_tried.ensures ∙ c.if-not-is_tried.false) c.can_give.ensures.looked c.give.ensures

pub returns-else-can_give : goal.returns-else-can_give
returns-else-can_give c =
    one_kept c.args.only c.args.outs.now.items c.args.waiting.now.items c.can_give.new.outs.items c.pop_front.new.self.items
    c.push_back_reserved-else-can_give.new.self.items c.from-to.result c.in-Some.post c.requires c.in-Some.ensures.items
    c.push_back_reserved-else-can_give.ensures.items c.from-to.ensures (search rules) (sym c.is_tried.ensures ∙ c.if-not-is_tried.false)
    c.can_give.ensures.looked (c.can_give.ensures.full c.if-can_give.false refl)
