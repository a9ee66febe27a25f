use Rattle.std.proofs.Common.{◌∙◌, ap, refl}
use Rattle.std.proofs.lemmas.Result.{IfOk-weaker}
use Rattle.clap.specs.Words.{AddsArg, app_of, with_rule}
use Rattle.lt_words.proofs.grammar.add_optional.Goals as goal

pub returns : goal.returns
returns c =
    IfOk-weaker c.arg.result (AddsArg c.args.command c.optional.result) _ (λ new adds. record {
      is = adds.shape c.optional.ensures.local ∙ ap (with_rule (app_of c.args.command)) c.optional.ensures.rule;
      local = λ local. adds.globals ∙ rw (local, c.optional.ensures.local) refl;
    }) c.arg.ensures
