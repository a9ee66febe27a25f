use Rattle.std.proofs.Common.{◌≡◌, ◌<◌, ◌∙◌, ◌++◌, ap, ℕ, Option, length, arith}
use Rattle.lt_spec.specs.Holdings.{Holding, wanted}
use Rattle.lt_journal.specs.RunLines.{lines_below, waiting_line}
use Rattle.lt_journal.proofs.Fitting.{list_more, lines_below-next}
use Rattle.lt_journal.proofs.closing.waiting_lines.Goals as goal

pub loop-client-preserved : goal.loop-client-preserved
loop-client-preserved c = λ events tells.
    let inside : c.loop-client.client < length c.args.script.now.clients = omega arith in
    list_more _ _ _ _ _ _
    (c.in_ok-waiting_line.ensures
    ∙ ap (λ (lock : Option Holding). c.loop-client.lines.items ++ waiting_line lock) (c.wanted.ensures c.args.script.now events tells inside))
    (c.loop-client.invariant events tells)
    (lines_below-next c.loop-client.client (λ client. waiting_line (wanted client events)))

pub returns : goal.returns
returns c = λ events tells.
    let all : c.loop-client.client ≡ length c.args.script.now.clients = omega arith in
    c.loop-client.invariant events tells
    ∙ ap (λ (n : ℕ). c.args.lines.now.items ++ lines_below n (λ client. waiting_line (wanted client events))) all
