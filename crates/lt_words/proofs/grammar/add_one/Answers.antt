use Rattle.std.proofs.Common.{◌∙◌, ap}
use Rattle.std.proofs.lemmas.Result.{IfOk-weaker}
use Rattle.clap.specs.Words.{AddsSubcommand, App, app_of, with_subcommand}
use Rattle.lt_words.proofs.grammar.add_one.Goals as goal

pub returns : goal.returns
returns c =
    IfOk-weaker c.subcommand.result (AddsSubcommand c.args.program c.in_ok-one.one) _ (λ new adds. record {
      is = adds.shape c.in_ok-one.ensures.local ∙ ap (λ (a : App). with_subcommand (app_of c.args.program) a.top) c.in_ok-one.ensures.is;
    }) c.subcommand.ensures
