use Rattle.std.proofs.Common.{rules, ◌≡◌, ◌∙◌, ◌*◌, ◌≤◌, ◌++◌, ℕ, List, length, Result, Ok, Err, IfOk, take, drop, ap, sym, subst, length-take-le}
use Rattle.lt_modes.specs.Script.{ScriptData}
use Rattle.lt_spec.specs.Script.{IsScript, IsShort}
use Rattle.lt_text.specs.Text.{lines}
use Rattle.lt_script.specs.Reading.{read_of}
use Rattle.lt_journal.specs.declared.splitting.Parts.{Parts}
use Rattle.lt_journal.specs.Split.{input_parts}
use Rattle.lt_checker.specs.declared.input.EndedRun.{EndedRun}
use Rattle.lt_checker.specs.declared.error.InputError.{InputError}
use Rattle.lt_checker.specs.Heads.{IsJournalAnswer}
use Rattle.lt_checker.specs.declared.limits.TheConstants.{MAX_JOURNAL}
use Rattle.lt_checker.proofs.Moving.{journal_few, line_within, lines_few, same_parts, within}
use Rattle.lt_checker.proofs.input.judged.Goals as goal

-- what holds of the script holds of the one in the answer
of_answer : (P : ScriptData → Type 0) (answer : Result EndedRun InputError) (script : ScriptData) → IfOk answer (λ ended. ended.script ≡ script) → P script
    → IfOk answer (λ ended. P ended.script)
of_answer P (Ok ended) script is holds = subst P (sym is) holds
of_answer P (Err error) script is holds = tt

pub returns-clause-answer : goal.returns-clause-answer
returns-clause-answer g c =
    let bytes = c.args.bytes.now in
    let script = c.in-Ok.script in
    let heard = c.in_ok-told.ensures.told in
    let rest = heard.0 in
    let same = same_parts bytes rest c.args.room _ _ c.requires.cut heard.2 in
    let parts : c.split_from-parts.result ≡ input_parts bytes = c.split_from-parts.ensures in
    let read : read_of (take (input_parts bytes).script bytes) ≡ Ok script = search rules in
    let journal : c.split_at.result.1.now ≡ drop (input_parts bytes).journal bytes =
    c.split_at.ensures.back ∙ ap (λ (p : Parts). drop p.journal bytes) parts in (
      rest,
      c.answered.ensures.answer (bytes ++ rest) (ap read_of same.script ∙ read) (ap (λ (p : Parts). p.lines) (parts ∙ sym same.parts))
          (subst (λ (b : List ℕ). IsJournalAnswer script (lines b) c.in_ok-told.told)
          (ap (λ (b : List ℕ). b ++ rest) journal ∙ sym same.journal) heard.1),
      heard.2,
    )

pub answered-requires-clause-few : goal.answered-requires-clause-few
answered-requires-clause-few g c = subst (λ (p : Parts). p.lines ≤ MAX_JOURNAL) (sym c.split_from-parts.ensures) (lines_few c.args.bytes.now c.requires.few)

pub answered-requires-clause-line : goal.answered-requires-clause-line
answered-requires-clause-line g c =
    let heard = c.in_ok-told.ensures.told in
    let few = journal_few c.args.bytes.now heard.0 c.split_from-parts.result.journal c.args.room _ _ c.requires.few c.requires.room heard.2 in
    line_within c.in-Ok.script (c.split_at.result.1.now ++ heard.0) c.in_ok-told.told (2 * MAX_JOURNAL) heard.1.answer
    (subst (λ (first : List ℕ). length (first ++ heard.0) ≤ 2 * MAX_JOURNAL) (sym c.split_at.ensures.back) few)

pub returns-in-Err-Fault-clause-answer : goal.returns-in-Err-Fault-clause-answer
returns-in-Err-Fault-clause-answer g c =
    let bytes = c.args.bytes.now in
    let left = c.in_ok-skip_rest-in-Err-Fault.ensures.rest in
    let rest = left.0 in
    let same = same_parts bytes rest c.args.room _ _ c.requires.cut left.1 in
    let parts : c.split_from-parts.result ≡ input_parts bytes = c.split_from-parts.ensures in
    (rest, ap read_of same.script ∙ (search rules), left.1)

pub slice_bounds-read-end : goal.slice_bounds-read-end
slice_bounds-read-end g c =
    let bytes = c.args.bytes.now in
    sym (length-take-le c.split_from-parts.result.script bytes (subst (λ (p : Parts). p.script ≤ length bytes) (sym c.split_from-parts.ensures) (within bytes).script))

pub split_at-requires : goal.split_at-requires
split_at-requires g c =
    subst (λ (p : Parts). p.journal ≤ length c.args.bytes.now) (sym c.split_from-parts.ensures) (within c.args.bytes.now).journal

pub checked_journal-requires : goal.checked_journal-requires
checked_journal-requires g c = c.in-Ok.ensures.short

pub answered-requires-clause-short : goal.answered-requires-clause-short
answered-requires-clause-short g c = c.in-Ok.ensures.short

pub returns-clause-kept : goal.returns-clause-kept
returns-clause-kept g c =
    let is_script : IsScript c.in-Ok.script = search rules in
    of_answer IsScript c.answered.result c.in-Ok.script c.answered.ensures.script is_script

pub returns-clause-short : goal.returns-clause-short
returns-clause-short g c = of_answer IsShort c.answered.result c.in-Ok.script c.answered.ensures.script c.in-Ok.ensures.short
