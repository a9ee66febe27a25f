use Rattle.std.proofs.Common.{◌∙◌, ap}
use Rattle.std.proofs.lemmas.Result.{IfOk-weaker}
use Rattle.clap.specs.Words.{AddsSubcommand, App, app_of, with_subcommand}
use Rattle.lt_words.proofs.grammar.add_plain.Goals as goal

pub returns : goal.returns
returns c =
    IfOk-weaker c.subcommand.result (AddsSubcommand c.args.program c.plain.result) _ (λ new adds. record {
      is = adds.shape c.plain.ensures.local ∙ ap (λ (a : App). with_subcommand (app_of c.args.program) a.top) c.plain.ensures.is;
    }) c.subcommand.ensures
