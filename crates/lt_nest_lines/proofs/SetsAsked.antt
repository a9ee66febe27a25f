-- One order after the other.
use Rattle.std.proofs.Common.{◌≡◌, ℕ, ◌+◌, ◌<◌, List, [], ◌++◌, length, sym, ap, subst, ◌∙◌, drop, append_assoc, append-nil, ◌≤◌, arith, ◌∷◌, All, slice_index_or}
use Rattle.std.proofs.lemmas.List.{drop_more, length_push}
use Rattle.std.proofs.lemmas.List.Elements.{All-get_or, All-weaker, All-push}
use Rattle.lt_nest_lines.specs.declared.order.Order.{Order}
use Rattle.lt_nest_lines.specs.Input.{InputData, AsksWithin, IsInput, line_count, with_declared_set, with_order, with_declared_transaction}
use Rattle.lt_nest_lines.specs.Play.{PlayState, after_order, order_text}
use Rattle.lt_nest_lines.specs.Written.{after_orders, orders_text}
use Rattle.lt_nest_lines.specs.declared.limits.TheConstants.{MAX_SETS, MAX_TRANSACTIONS, MAX_LINES}
use Rattle.lt_nest_lines.specs.declared.order.Order.TheVariants.{Lock, Try}

pub state_more : (p now last : PlayState) (orders : List Order) (k : ℕ) (d : Order) → k < length orders → now ≡ after_order p (slice_index_or orders k d)
    → after_orders p (drop k orders) ≡ last → after_orders now (drop (k + 1) orders) ≡ last
unfolding after_orders
state_more p now last orders k d h is so_far =
    ap (λ (q : PlayState). after_orders q (drop (k + 1) orders)) is
    ∙ sym (ap (λ (os : List Order). after_orders p os) (drop_more orders k d h))
    ∙ so_far

pub text_more : (input : InputData) (p now : PlayState) (orders : List Order) (k : ℕ) (d : Order) (out wrote all : List ℕ) → k < length orders
    → now ≡ after_order p (slice_index_or orders k d) → wrote ≡ out ++ order_text input p (slice_index_or orders k d)
    → out ++ orders_text input p (drop k orders) ≡ all → wrote ++ orders_text input now (drop (k + 1) orders) ≡ all
unfolding orders_text
text_more input p now orders k d out wrote all h is text_is so_far =
    let order : Order = slice_index_or orders k d in
    ap (λ (q : PlayState). wrote ++ orders_text input q (drop (k + 1) orders)) is
    ∙ ap (λ (text : List ℕ). text ++ orders_text input (after_order p order) (drop (k + 1) orders)) text_is
    ∙ append_assoc out (order_text input p order) (orders_text input (after_order p order) (drop (k + 1) orders))
    ∙ sym (ap (λ (os : List Order). out ++ orders_text input p os) (drop_more orders k d h))
    ∙ so_far

pub all_followed : (p : PlayState) (orders : List Order) → orders ≡ [] → after_orders p orders ≡ p
unfolding after_orders
all_followed p orders e = ap (after_orders p) e

pub nothing_left : (input : InputData) (p : PlayState) (orders : List Order) (out : List ℕ) → orders ≡ [] → out ++ orders_text input p orders ≡ out
unfolding orders_text
nothing_left input p orders out e = ap (λ (os : List Order). out ++ orders_text input p os) e ∙ append-nil out

-- the order at this place asks for a lock in one of the sets
pub asks_within : (n sets : ℕ) (orders : List Order) (k : ℕ) (d : Order) → k < length orders → sets ≡ n → All (AsksWithin n) orders → AsksWithin sets (slice_index_or orders k d)
asks_within n sets orders k d h same all = subst (λ (m : ℕ). AsksWithin m (slice_index_or orders k d)) (sym same) (All-get_or (AsksWithin n) orders k d h all)

-- What a further set, transaction or order leaves true of an input.

-- more sets do no harm
within_more : (n m : ℕ) → n ≤ m → (order : Order) → AsksWithin n order → AsksWithin m order
within_more n m h (Lock t set mode) within = omega (arith, h, within)
within_more n m h (Try t set mode) within = omega (arith, h, within)
within_more n m h other within = within

pub set_added : (d : InputData) (name : List ℕ) → IsInput d → length d.sets < MAX_SETS → line_count d < MAX_LINES → IsInput (with_declared_set d name)
set_added d name kept few lines = record {
  few_sets = omega (arith, few, longer);
  few_transactions = kept.few_transactions;
  few_lines = omega (arith, lines, longer);
  within = All-weaker (AsksWithin (length d.sets)) (AsksWithin (length (d.sets ++ name ∷ []))) (within_more (length d.sets) (length (d.sets ++ name ∷ [])) (omega (arith, longer))) d.orders kept.within;
}
  where
    longer : length (d.sets ++ name ∷ []) ≡ length d.sets + 1
    longer = length_push d.sets name

pub order_added : (d : InputData) (order : Order) → IsInput d → line_count d < MAX_LINES → AsksWithin (length d.sets) order → IsInput (with_order d order)
order_added d order kept lines within = record {
  few_sets = kept.few_sets;
  few_transactions = kept.few_transactions;
  few_lines = omega (arith, lines, length_push d.orders order);
  within = All-push (AsksWithin (length d.sets)) d.orders order kept.within within;
}

pub transaction_added : (d : InputData) (name : List ℕ) (order : Order) → IsInput d → length d.transactions < MAX_TRANSACTIONS → line_count d < MAX_LINES
    → AsksWithin (length d.sets) order → IsInput (with_declared_transaction d name order)
transaction_added d name order kept few lines within = record {
  few_sets = kept.few_sets;
  few_transactions = omega (arith, few, length_push d.transactions name);
  few_lines = omega (arith, lines, length_push d.orders order);
  within = All-push (AsksWithin (length d.sets)) d.orders order kept.within within;
}

-- also where its order isn't there yet
pub transaction_named : (d : InputData) (name : List ℕ) → IsInput d → length d.transactions < MAX_TRANSACTIONS → IsInput (record d { transactions = d.transactions ++ name ∷ [] })
transaction_named d name kept few = record {
  few_sets = kept.few_sets;
  few_transactions = omega (arith, few, length_push d.transactions name);
  few_lines = kept.few_lines;
  within = kept.within;
}
