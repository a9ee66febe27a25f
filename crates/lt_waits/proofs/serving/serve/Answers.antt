use Rattle.std.proofs.Common.{◌∙◌, sym}
use Rattle.std.proofs.lemmas.Bool.{false≢true}
use Rattle.lt_waits.proofs.serving.serve.Goals as goal

pub returns-then-asks_why-clause-report : goal.returns-then-asks_why-clause-report
returns-then-asks_why-clause-report g c = λ no. absurd (false≢true (sym no ∙ sym c.asks_why.ensures ∙ c.if-asks_why.true))

pub returns-clause-why : goal.returns-clause-why
returns-clause-why g c = λ yes. absurd (false≢true (sym c.if-asks_why.false ∙ c.asks_why.ensures ∙ yes))
