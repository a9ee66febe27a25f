use Rattle.std.proofs.Common.{◌≡◌, ◌++◌, ℕ, List, [], length, arith, sym, ◌∙◌, drop, slice_index_or}
use Rattle.std.proofs.lemmas.List.{drop_all}
use Rattle.lt_nest_lines.specs.declared.order.Order.{Order}
use Rattle.lt_nest_lines.specs.declared.order.Order.TheVariants.{Begin}
use Rattle.lt_nest_lines.specs.Play.{PlayState, after_order}
use Rattle.lt_nest_lines.specs.Written.{after_orders, orders_text}
use Rattle.lt_nest_lines.proofs.Sizes.{Grows, order_grows}
use Rattle.lt_nest_lines.proofs.SetsAsked.{state_more, text_more, all_followed, nothing_left, asks_within}
use Rattle.lt_nest_lines.proofs.writing.follow_all.Goals as goal

pub follow-requires-clause-within : goal.follow-requires-clause-within
follow-requires-clause-within c =
    asks_within (length c.args.play.now.nest.sets) (length c.loop-order.play.nest.sets) c.args.orders.now c.loop-order.order-index Begin
    c.loop-order-test.true c.loop-order.invariant.sets c.requires.within

pub loop-order-preserved : goal.loop-order-preserved
loop-order-preserved c =
    let orders : List Order = c.args.orders.now in
    let k : ℕ = c.loop-order.order-index in
    let p : PlayState = c.loop-order.play in
    let now : PlayState = c.follow.new.self in
    let state = c.in_ok-follow.ensures.state in
    let grows : Grows p (after_order p (slice_index_or orders k Begin)) = order_grows p (slice_index_or orders k Begin) in
    record {
      state = state_more p now (after_orders c.args.play.now orders) orders k Begin c.loop-order-test.true state c.loop-order.invariant.state;
      text = text_more c.args.input.now p now orders k Begin c.loop-order.out.items c.follow.new.out.items
          (c.args.out.now.items ++ orders_text c.args.input.now c.args.play.now orders) c.loop-order-test.true state c.in_ok-follow.ensures.text c.loop-order.invariant.text;
      sets = rw state (grows.sets ∙ c.loop-order.invariant.sets);
      asked = rw state (omega (arith, grows.asked, c.loop-order.invariant.asked));
      transactions = rw state (omega (arith, grows.transactions, c.loop-order.invariant.transactions));
    }

pub returns-clause-state : goal.returns-clause-state
returns-clause-state c =
    let none : drop c.loop-order.order-index c.args.orders.now ≡ [] = drop_all c.loop-order.order-index c.args.orders.now c.loop-order-test.false in
    sym (all_followed c.loop-order.play (drop c.loop-order.order-index c.args.orders.now) none) ∙ c.loop-order.invariant.state

pub returns-clause-text : goal.returns-clause-text
returns-clause-text c =
    let none : drop c.loop-order.order-index c.args.orders.now ≡ [] = drop_all c.loop-order.order-index c.args.orders.now c.loop-order-test.false in
    sym (nothing_left c.args.input.now c.loop-order.play (drop c.loop-order.order-index c.args.orders.now) c.loop-order.out.items none) ∙ c.loop-order.invariant.text
