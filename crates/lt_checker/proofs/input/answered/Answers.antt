use Rattle.std.proofs.Common.{rules, ◌≡◌, Err, Result, drop, inr, sym, subst}
use Rattle.lt_text.specs.Text.{lines}
use Rattle.lt_journal.specs.Split.{input_parts}
use Rattle.lt_law_journals.specs.Checking.{checked}
use Rattle.lt_checker.specs.Checker.{EndsIn, IsMemory, IsWorldAnswer}
use Rattle.lt_checker.specs.declared.error.ReplayError.{ReplayError}
use Rattle.lt_checker.specs.declared.error.ReplayError.TheVariants.{Memory}
use Rattle.lt_world.specs.Fields.{WorldData}
use Rattle.lt_checker.proofs.Inputs.{bad_input}
use Rattle.lt_checker.proofs.input.answered.Goals as goal

pub returns-in-Ok-clause-answer : goal.returns-in-Ok-clause-answer
returns-in-Ok-clause-answer c = λ bytes read before answers.
    let script = c.args.script in
    let world = c.in-Ok.world in
    let all = lines (drop (input_parts bytes).journal bytes) in
    let ended : EndsIn script (checked script all) world = subst (IsWorldAnswer script (checked script all)) c.in-Ok.is answers.answer in
    record {
      denoted = read;
      accepted = (c.law_means.ensures script all world.run c.requires.kept c.requires.short ended.run_is).1;
      finished = ended.finished;
      script_is = ended.script_is;
    }

pub returns-clause-answer : goal.returns-clause-answer
returns-clause-answer c = λ bytes read before answers.
    let script = c.args.script in
    let bad : checked script (lines (drop (input_parts bytes).journal bytes)) ≡ Err c.in-Err-Bad.line = search rules in
    bad_input script bytes c.args.before c.in-Err-Bad.line c.requires.kept c.requires.short read before bad

pub returns-in-Err-Memory-clause-answer : goal.returns-in-Err-Memory-clause-answer
returns-in-Err-Memory-clause-answer c = λ bytes read before answers.
    let told : c.args.told ≡ Err Memory = search rules in
    let memory : IsMemory c.args.told = subst (λ (t : Result WorldData ReplayError). IsMemory t) (sym told) tt in
    inr (record {
      script = c.args.script;
      is_script = c.requires.kept;
      denoted = read;
      last = answers.memory memory;
    })
