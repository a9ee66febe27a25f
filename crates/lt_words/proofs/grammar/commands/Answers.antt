use Rattle.std.proofs.Common.{◌∙◌, ap, codes}
use Rattle.std.proofs.lemmas.Result.{IfOk-weaker}
use Rattle.clap.specs.Words.{App, with_subcommand}
use Rattle.lt_words.specs.Grammar.{plain_app, sim_app, soak_app, make_app}
use Rattle.lt_words.specs.Apps.{AddsApp}
use Rattle.lt_words.proofs.grammar.commands.Goals as goal

pub returns : goal.returns
returns c =
    let more = λ (one : App) (all : App). with_subcommand all one.top in
    let with_run = c.in_ok-with_run.ensures.is ∙ ap (more (plain_app (codes "run"))) c.top.ensures.is in
    let with_check = c.in_ok-with_check.ensures.is ∙ ap (more (plain_app (codes "check"))) with_run in
    let with_sim = c.in_ok-with_sim.ensures.is ∙ ap (more sim_app) with_check in
    let with_soak = c.in_ok-with_soak.ensures.is ∙ ap (more soak_app) with_sim in
    let with_make = c.in_ok-with_make.ensures.is ∙ ap (more make_app) with_soak in
    IfOk-weaker c.add_plain-3.result (λ new. AddsApp c.in_ok-with_make.with_make new (plain_app (codes "order"))) _
    (λ new adds. record { is = adds.is ∙ ap (more (plain_app (codes "order"))) with_make }) c.add_plain-3.ensures
