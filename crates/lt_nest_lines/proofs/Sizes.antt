-- How many sets, transactions and calls there are after an order.
use Rattle.std.proofs.Common.{◌≡◌, ℕ, ◌+◌, ◌≤◌, arith, length, Bool, true, false, Option, Some, None, refl}
use Rattle.std.proofs.lemmas.List.{length_push}
use Rattle.lt_nest.specs.declared.answers.Asked.TheVariants.{Waits, False}
use Rattle.lt_nest.specs.Calls.{has_parent, ask_answer, commit_answer, abort_answer}
use Rattle.lt_nest.proofs.NestStays.{length_asked, commit_sizes, abort_sizes}
use Rattle.lt_nest_lines.specs.declared.order.Order.{Order}
use Rattle.lt_nest_lines.specs.declared.order.Order.TheVariants.{Begin, BeginIn, Lock, Try, Commit, Abort}
use Rattle.lt_nest_lines.specs.Play.{PlayState, nest_number_of, after_begin_under, after_begin_if, after_order}

-- an order changes the number of no set, and makes one transaction and one call more at most
pub record Grows (before now : PlayState) : Type 0 where
  pub sets : length now.nest.sets ≡ length before.nest.sets
  pub transactions : length now.nest.transactions ≤ length before.nest.transactions + 1
  pub asked : now.nest.asked ≤ before.nest.asked + 1

begun_grows : (p : PlayState) (parent : Option ℕ) → Grows p (after_begin_under p parent)
begun_grows p parent = by_test (has_parent p.nest parent)
  where
    by_test : (under : Bool) → Grows p (after_begin_if under p parent)
    by_test true = record {
      sets = refl;
      transactions = omega (arith, length_push p.nest.transactions (record { parent = parent; ended = false }));
      asked = omega arith;
    }
    by_test false = record { sets = refl; transactions = omega arith; asked = omega arith }

pub order_grows : (p : PlayState) (order : Order) → Grows p (after_order p order)
order_grows p Begin = let h = begun_grows p None in record { sets = h.sets; transactions = h.transactions; asked = h.asked }
order_grows p (BeginIn parent) = let h = begun_grows p (Some (nest_number_of p parent)) in record { sets = h.sets; transactions = h.transactions; asked = h.asked }
order_grows p (Lock t set mode) = record {
  sets = length_asked p.nest.sets (nest_number_of p t) set mode (ask_answer Waits p.nest (nest_number_of p t) set mode);
  transactions = omega arith;
  asked = omega arith;
}
order_grows p (Try t set mode) = record {
  sets = length_asked p.nest.sets (nest_number_of p t) set mode (ask_answer False p.nest (nest_number_of p t) set mode);
  transactions = omega arith;
  asked = omega arith;
}
order_grows p (Commit t) =
    let h = commit_sizes p.nest (nest_number_of p t) (commit_answer p.nest (nest_number_of p t)) in
    record { sets = h.sets; transactions = omega (arith, h.transactions); asked = omega (arith, h.asked) }
order_grows p (Abort t) =
    let h = abort_sizes p.nest (nest_number_of p t) (abort_answer p.nest (nest_number_of p t)) in
    record { sets = h.sets; transactions = omega (arith, h.transactions); asked = omega (arith, h.asked) }
