use Rattle.std.proofs.Common.{◌∙◌, ap₂, refl}
use Rattle.std.proofs.lemmas.Result.{IfOk-weaker}
use Rattle.clap.specs.Words.{AddsArg, with_rule}
use Rattle.lt_words.proofs.grammar.one.Goals as goal

pub returns : goal.returns
returns c =
    IfOk-weaker c.arg.result (AddsArg c.plain.result c.needed.result) _ (λ new adds. record {
      is = adds.shape c.needed.ensures.local ∙ ap₂ with_rule c.plain.ensures.is c.needed.ensures.rule;
      local = adds.globals ∙ rw (c.plain.ensures.local, c.needed.ensures.local) refl;
    }) c.arg.ensures
