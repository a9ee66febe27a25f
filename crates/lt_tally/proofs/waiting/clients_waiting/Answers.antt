use Rattle.std.proofs.Common.{◌≡◌, ◌∙◌, ℕ, length, ap, arith}
use Rattle.lt_lists.specs.Below.{count_below}
use Rattle.lt_tally.specs.Summary.{waits_after}
use Rattle.lt_tally.proofs.waiting.clients_waiting.Goals as goal

pub returns : goal.returns
returns c = λ run tells.
    let all : c.loop-client.client ≡ length c.args.script.now.clients = omega arith in
    c.loop-client.invariant.count run tells ∙ ap (λ (n : ℕ). count_below n (waits_after run)) all
