use Rattle.std.proofs.Common.{◌≡◌, ◌∙◌, ◌++◌, subst}
use Rattle.lt_modes.specs.Script.{ScriptData}
use Rattle.lt_text.specs.Text.{lines}
use Rattle.lt_checker.specs.Checker.{StandsFor}
use Rattle.lt_checker.specs.Heads.{IsJournalAnswer}
use Rattle.lt_checker.proofs.input.checked_journal.Goals as goal

pub returns-clause-told : goal.returns-clause-told
returns-clause-told g c =
    let first = c.args.first.now in
    let fed = c.in_ok-feed_rest.ensures.rest in
    let script : c.feed_rest.new.checker.script ≡ c.args.script.now =
    fed.1.script ∙ c.in_ok-checker.ensures.script in
    let stands : StandsFor c.feed_rest.new.checker (first ++ fed.0) = fed.1.stands first c.in_ok-checker.ensures.stands in (
      fed.0,
      subst (λ (s : ScriptData). IsJournalAnswer s (lines (first ++ fed.0)) c.end_world.result) script (record {
        answer = c.end_world.ensures.answers (first ++ fed.0) stands;
        memory = λ refused. c.end_world.ensures.memory refused (first ++ fed.0) stands;
      }),
      fed.2,
    )
