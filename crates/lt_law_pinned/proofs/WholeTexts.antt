-- The texts of the whole script and its journal.
use Rattle.std.proofs.Common.{◌≡◌, List, [], ◌∷◌, Ok, None, Some, true, false, refl, ap, ◌∙◌, codes, take}
use Rattle.lt_modes.specs.declared.mode.Mode.TheVariants.{IntentionRead, Read, Upgrade, IntentionWrite, ReadIntentionWrite, Write}
use Rattle.lt_modes.specs.declared.event.Event.TheVariants.{Grant, Wait, Try as Tried, Unlock as Unlocked, NotHeld, Change as Changed, DropAll as Dropped, Busy, Copy, Freeze, Token}
use Rattle.lt_modes.specs.declared.moves.Step.TheVariants.{Act, Take}
use Rattle.lt_modes.specs.Modes.{conflicts, no_modes, modes_in}
use Rattle.lt_text.specs.Text as text
use Rattle.lt_script.specs.Printing.{print_of}
use Rattle.lt_script.specs.Printing as printing
use Rattle.lt_script.specs.Reading.{read_of}
use Rattle.lt_script.specs.Reading as reading
use Rattle.lt_journal.specs.declared.line.Line.{Line}
use Rattle.lt_journal.specs.declared.line.Line.TheVariants.{Version2, Move as MoveLine, Event as EventLine, Held, Waiting, Owner, End}
use Rattle.lt_journal.specs.RunLines.{run_lines, entry_lines, text_of, lines_text}
use Rattle.lt_law_pinned.specs.Whole.{whole, whole_text, spread_text, whole_journal, freezing_move, WholeIs}
use Rattle.lt_law_pinned.proofs.Numbers.{zero_text, one_text, two_text, three_text, four_text, five_text, six_text, seven_text, eight_text, nine_text, ten_text, eleven_text, twelve_text, thirteen_text, nineteen_text}

-- the lines of the journal, one by one
abbrev whole_lines : List Line
whole_lines =
    Version2 ∷
    MoveLine 1 0 (Act 0) ∷
    EventLine (Grant 0 0 IntentionWrite) ∷
    MoveLine 1 1 (Act 1) ∷
    EventLine (NotHeld 1 0 Read) ∷
    MoveLine 2 1 (Act 3) ∷
    EventLine (NotHeld 3 0 ReadIntentionWrite) ∷
    MoveLine 2 0 (Act 0) ∷
    EventLine (Tried 0 1 Write true) ∷
    MoveLine 3 1 (Act 1) ∷
    EventLine (Tried 1 0 IntentionWrite false) ∷
    MoveLine 4 1 (Act 3) ∷
    EventLine (Wait 3 0 IntentionRead) ∷
    MoveLine 5 0 (Take 1) ∷
    EventLine (Copy 0 1 3 IntentionRead) ∷
    MoveLine 6 1 (Take 0) ∷
    EventLine (Grant 3 0 IntentionRead) ∷
    MoveLine 6 0 (Act 0) ∷
    EventLine (Changed 0 0 IntentionWrite Read) ∷
    MoveLine 7 1 (Act 1) ∷
    EventLine (Wait 1 1 IntentionRead) ∷
    MoveLine 8 0 (Take 1) ∷
    MoveLine 8 1 (Act 3) ∷
    EventLine (Busy 3 1 0) ∷
    MoveLine 9 0 (Act 0) ∷
    EventLine (Dropped 0 2 0 0) ∷
    MoveLine 9 1 (Act 3) ∷
    EventLine (Wait 3 0 Upgrade) ∷
    MoveLine 10 0 (Take 1) ∷
    EventLine (Freeze 0 1 1 (modes_in (Upgrade ∷ IntentionWrite ∷ ReadIntentionWrite ∷ Write ∷ []))) ∷
    EventLine (Token 0 1 1) ∷
    MoveLine 11 1 (Take 0) ∷
    MoveLine 12 1 (Take 0) ∷
    EventLine (Grant 3 0 Upgrade) ∷
    EventLine (Freeze 0 0 2 no_modes) ∷
    MoveLine 13 0 (Take 1) ∷
    MoveLine 13 1 (Act 3) ∷
    EventLine (Unlocked 3 0 IntentionRead) ∷
    Held 0 0 Read 1 ∷
    Held 0 1 Write 1 ∷
    Held 3 0 Upgrade 1 ∷
    Waiting 1 1 IntentionRead ∷
    Owner 0 1 1 ∷
    Owner 1 0 0 ∷
    End 19 ∷
    []

whole_are : run_lines whole.script whole.run None ≡ whole_lines
unfolding conflicts
whole_are = refl

whole_spelled : lines_text whole.script whole_lines ≡ whole_journal
whole_spelled =
    rw zero_text (rw one_text (rw two_text (rw three_text (rw four_text (rw five_text (rw six_text (rw seven_text
    (rw eight_text (rw nine_text (rw ten_text (rw eleven_text (rw twelve_text (rw thirteen_text (rw nineteen_text refl))))))))))))))

printed : print_of whole.script ≡ whole_text
unfolding printing.print_of
printed = rw zero_text (rw one_text (rw two_text refl))

read_back : read_of whole_text ≡ Ok whole.script
unfolding reading.script_body reading.read_from text.lines text.cut_at reading.line_step text.words
read_back = refl

spread_read : read_of spread_text ≡ Ok whole.script
unfolding reading.script_body reading.read_from text.lines text.cut_at reading.line_step text.words
spread_read = refl

cut_text : text_of whole.script (take 1 whole.run) (Some 1) ≡ codes "version 2\nmove 1 0 act a\ngrant a s intention_write\ncut 1\n"
cut_text = rw zero_text (rw one_text refl)

five_modes_text : lines_text whole.script (entry_lines 1 freezing_move)
    ≡ codes "move 10 0 take 1\nfreeze s 1 1 upgrade intention_write write\ntoken s 1 1\n"
five_modes_text = rw zero_text (rw one_text (rw ten_text refl))

pub whole_is : WholeIs
unfolding conflicts
whole_is = record {
  printed = printed;
  read = read_back;
  spread = spread_read;
  run = (refl, record { rest = refl; held = refl; all_held = refl; waiting = refl; waits = refl; owners = refl });
  journal = ap (lines_text whole.script) whole_are ∙ whole_spelled;
  cut = cut_text;
  five_modes = five_modes_text;
  summary = refl;
  midway = refl;
}
