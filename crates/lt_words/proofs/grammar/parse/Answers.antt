use Rattle.std.proofs.Common.{◌∙◌, ap, string_bytes, map}
use Rattle.std.proofs.lemmas.Result.{IfErr-weaker, IfOk-weaker}
use Rattle.clap.specs.Words.{App, HasMatchesOf, app_of, is_simple, subcommand_of, takes}
use Rattle.lt_words.proofs.Forms.{form_taken}
use Rattle.lt_words.proofs.grammar.parse.Goals as goal

pub returns-clause-err : goal.returns-clause-err
returns-clause-err c =
    let words = map string_bytes c.args.words.now in
    IfErr-weaker c.try_get_matches_from.result _ _ (λ e h. h (ap (λ (a : App). takes a words) c.in_ok-command.ensures.is ∙ form_taken words c.requires.form)) c.try_get_matches_from.ensures.passes

pub returns-clause-ok : goal.returns-clause-ok
returns-clause-ok c =
    let words = map string_bytes c.args.words.now in
    let is = c.in_ok-command.ensures.is in
    IfOk-weaker c.try_get_matches_from.result (HasMatchesOf (app_of c.in_ok-command.command) words) _ (λ matches has.
    (has (ap is_simple is)).1 ∙ ap (λ (a : App). subcommand_of a words) is) c.try_get_matches_from.ensures.matches
