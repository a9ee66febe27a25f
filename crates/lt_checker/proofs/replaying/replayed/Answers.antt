use Rattle.std.proofs.Common.{rules, List, ℕ, Result, ap, subst, ◌∙◌}
use Rattle.lt_spec.specs.World.{Logged}
use Rattle.lt_spec.specs.Script.{IsScript, IsShort}
use Rattle.lt_law_journals.specs.Checking.{checked_said}
use Rattle.lt_law_journals.proofs.Feeds.{said}
use Rattle.lt_checker.specs.Checker.{IsAnswer}
use Rattle.lt_checker.proofs.replaying.replayed.Goals as goal

pub returns-clause-read : goal.returns-clause-read
returns-clause-read c = λ all read.
    let script = c.args.script.now in
    let told : IsAnswer (checked_said script c.args.journal.now) c.finish.result = search rules in
    let is_script : IsScript script = search rules in
    let short : IsShort script = search rules in
    subst (λ (t : Result (List Logged) ℕ). IsAnswer t c.finish.result) (ap (checked_said script) read ∙ said script all is_script short) told
