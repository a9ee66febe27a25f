use Rattle.std.proofs.Common.{◌∙◌, ◌++◌, List, ℕ, ap, sym}
use Rattle.lt_journal.specs.RunLines.{line_of_event, line_text, shown_event}
use Rattle.lt_law_journals.specs.Checking.{written}
use Rattle.lt_modes.specs.Script.{ScriptData}
use Rattle.lt_modes.specs.declared.event.Event.{Event}
use Rattle.lt_journal.specs.declared.line.Line.TheVariants.{Event as EventLine}
use Rattle.lt_checker.proofs.FirstTaken.{text_parts}
use Rattle.lt_checker.proofs.due.after_event_line.Goals as goal

pub returns-then-eq : goal.returns-then-eq
returns-then-eq c =
    let script = c.args.wording.now in
    let shown = c.shown_event-shown.result in
    let told = c.shown_event-shown.ensures
    ∙ ap (λ (n : ℕ). shown_event n c.args.event) (c.version.ensures.version ∙ ap (λ (s : ScriptData). s.version) c.script.ensures) in
    let text = c.bytes-text.ensures
    ∙ (c.in-Ok.ensures ∙ (ap (λ (old : List ℕ). old ++ line_text script (EventLine shown)) c.clear.ensures ∙ ap (λ (e : Event). line_text script (EventLine e)) told)) in
    text_parts c.args.bytes.now c.split_at.result.0.now c.bytes-text.result.now (written script (line_of_event script.version c.args.event)) c.split_at.result.1.now _ text
    (sym c.eq.ensures ∙ c.if-eq.true) c.split_at.ensures.front c.split_at.ensures.back
