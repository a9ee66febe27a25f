use Rattle.std.proofs.Common.{◌∙◌, ◌++◌, ◌≤◌, ap, subst, List, ℕ, append_assoc, take_all}
use Rattle.lt_modes.specs.declared.event.Event.{Event}
use Rattle.lt_spec.specs.World.{Logged}
use Rattle.lt_spec.specs.Holdings.{lines_of}
use Rattle.lt_tally.specs.LockTable.{IsTallied}
use Rattle.lt_tally.proofs.Telling.{lines_of-more}
use Rattle.lt_journal.specs.declared.line.Line.TheVariants.{Move as MoveLine}
use Rattle.lt_journal.specs.RunLines.{event_lines, moves_lines, line_text, lines_text}
use Rattle.lt_journal.proofs.Fitting.{list_more, moves_text-more}
use Rattle.lt_journal.proofs.journal.move_lines.Goals as goal

pub loop-k-preserved : goal.loop-k-preserved
loop-k-preserved c =
    let script = c.args.wording.now in
    let made = c.made.result in
    let first = line_text script (MoveLine made.stamp.clock made.stamp.node made.step) in
    let later = lines_text script (event_lines script.version c.events.result.now) in
    record {
      text = list_more _ _ _ _ _ _
          (c.in_ok-event_lines.ensures.text
          ∙ (ap (λ (t : List ℕ). t ++ later) c.in_ok-move_line.ensures ∙ append_assoc c.loop-k.text first later))
          c.loop-k.invariant.text
          (moves_text-more script c.args.run.now.entries c.loop-k.k _ _ c.made.ensures c.events.ensures);
      tally = subst (λ (events : List Event). IsTallied script c.event_lines.new.tally events)
          (lines_of-more c.args.run.now.entries c.loop-k.k _ c.events.ensures)
          (c.in_ok-event_lines.ensures.tally _ c.loop-k.invariant.tally);
    }

pub returns : goal.returns
returns c =
    let script = c.args.wording.now in
    let all = take_all c.loop-k.k c.args.run.now.entries (subst (λ (n : ℕ). n ≤ c.loop-k.k) c.len-k-end.ensures c.loop-k-test.false) in
    record {
      text = c.loop-k.invariant.text
          ∙ ap (λ (entries : List Logged). c.args.text.now ++ lines_text script (moves_lines script.version entries)) all;
      tally = subst (λ (entries : List Logged). IsTallied script c.loop-k.tally (lines_of entries)) all c.loop-k.invariant.tally;
    }
