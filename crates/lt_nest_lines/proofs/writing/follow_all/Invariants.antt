use Rattle.std.proofs.Common.{◌≡◌, ◌≤◌, ◌++◌, drop, length}
use Rattle.lt_nest_lines.specs.Written.{after_orders, orders_text}
use Rattle.lt_nest_lines.proofs.writing.follow_all.Given as goal

abbrev pub invariant-loop-order : goal.invariant-loop-order
invariant-loop-order l = record {
  state : after_orders l.play (drop l.order-index l.orders) ≡ after_orders l.fn.play l.orders;
  text : l.out.items ++ orders_text l.input l.play (drop l.order-index l.orders) ≡ l.fn.out.items ++ orders_text l.input l.fn.play l.orders;
  sets : length l.play.nest.sets ≡ length l.fn.play.nest.sets;
  asked : l.play.nest.asked ≤ l.order-index;
  transactions : length l.play.nest.transactions ≤ l.order-index;
}
