use Rattle.std.proofs.Common.{◌≡◌, ◌≤◌, ◌∙◌, ◌+◌, ◌&&◌, ℕ, List, Bool, true, Vec, Global, ap, sym, arith, false, slice_index_or, eq-eqb, ne_eqb}
use Rattle.lt_modes.specs.declared.command.Command.{Command}
use Rattle.lt_modes.specs.declared.command.Command.TheVariants.{Lock}
use Rattle.lt_modes.specs.declared.mode.Mode.TheVariants.{IntentionRead}
use Rattle.lt_spec.specs.Holdings.{Holding}
use Rattle.lt_spec.specs.Ordered.{keeps_order, may_hold_after, is_orderly_from}
use Rattle.lt_order.specs.declared.lock.Lock.{Lock as Kept}
use Rattle.lt_order.proofs.Orders.{orderly_at, own_request, other_request, none_left, none_by_count}
use Rattle.lt_order.proofs.order.is_orderly.Goals.{else-request-client-via-then-request-client+in_ok-make+else-not-branch, else-request-client-via-else-request-client}
use Rattle.lt_order.proofs.order.is_orderly.Goals as goal

pub loop-request-preserved : goal.loop-request-preserved
loop-request-preserved c =
    let script = c.args.script.now in
    let client = c.args.client in
    let requests = c.requests-request-items.result.now in
    let index = c.loop-request.request-index in
    let locks = c.loop-request.locks.items in
    let none : ℕ × Command = (0, Lock 0 IntentionRead) in
    let command : Command = (slice_index_or requests index none).1 in
    elim c.else-request-client.branch [
      | else-request-client-via-then-request-client+in_ok-make+else-not-branch w ↦
          let kept : keeps_order client locks command ≡ true = sym w.in_ok-make.ensures.keeps ∙ w.if-not-branch.false in
          let next = may_hold_after script client locks command in
          ap (λ (v : Vec Kept Global). orderly_at script client v.items requests (index + 1)) w.locks-is
          ∙ ap (λ (held : List Holding). orderly_at script client held requests (index + 1)) (w.in_ok-make.ensures.made w.if-not-branch.false)
          ∙ ap (λ (keeps : Bool). keeps && orderly_at script client next requests (index + 1)) (sym kept)
          ∙ sym (own_request script client index locks requests none c.loop-request-test.true (eq-eqb _ _ w.if-request-client.true))
          ∙ c.loop-request.invariant
      | else-request-client-via-else-request-client w ↦
          ap (λ (v : Vec Kept Global). orderly_at script client v.items requests (index + 1)) w.locks-is
          ∙ sym (other_request script client index locks requests none c.loop-request-test.true (ne_eqb _ _ w.if-request-client.false))
          ∙ c.loop-request.invariant
    ]

pub returns-then-not-branch : goal.returns-then-not-branch
returns-then-not-branch c =
    let script = c.args.script.now in
    let client = c.args.client in
    let requests = c.requests-request-items.result.now in
    let index = c.loop-request.request-index in
    let locks = c.loop-request.locks.items in
    let none : ℕ × Command = (0, Lock 0 IntentionRead) in
    let command : Command = (slice_index_or requests index none).1 in
    let kept : keeps_order client locks command ≡ false = sym c.in_ok-make.ensures.keeps ∙ c.if-not-branch.true in
    ap (λ (keeps : Bool). keeps && orderly_at script client (may_hold_after script client locks command) requests (index + 1)) (sym kept)
    ∙ sym (own_request script client index locks requests none c.loop-request-test.true (eq-eqb _ _ c.if-request-client.true))
    ∙ c.loop-request.invariant

same_number : (m n : ℕ) → m ≤ n → n ≤ m → m ≡ n
same_number m n up down = omega arith

pub returns : goal.returns
returns c =
    let script = c.args.script.now in
    let client = c.args.client in
    let requests = c.requests-request-items.result.now in
    let index = c.loop-request.request-index in
    let locks = c.loop-request.locks.items in
    c.is_empty.ensures
    ∙ none_by_count _ locks c.loop-request.locks.ok.0
    ∙ ap (λ (commands : List Command). is_orderly_from script client locks commands) (sym (none_left script client index locks requests (same_number _ _ c.loop-request-test.false c.loop-request.auto.request-index-end)))
    ∙ c.loop-request.invariant
