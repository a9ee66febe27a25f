use Rattle.std.proofs.Common.{◌≡◌, None, length}
use Rattle.lt_text.specs.Text.{is_line_end, HasNone}
use Rattle.lt_law_journals.specs.Checking.{fed_piece}
use Rattle.lt_checker.proofs.checker.feed_all.Given as goal

-- what the bytes that are left make of what is kept is what all bytes make
abbrev pub invariant-loop-reader : goal.invariant-loop-reader
invariant-loop-reader l = record {
  script : l.reader.script ≡ l.fn.reader.script;
  good : l.fn.reader.reader.place ≡ None → l.reader.reader.place ≡ None;
  tail : HasNone is_line_end l.fn.piece → HasNone is_line_end l.left;
  fed : fed_piece l.fn.reader.script (record { reader = l.reader.reader; rest = l.rest.items }) l.left
      ≡ fed_piece l.fn.reader.script (record { reader = l.fn.reader.reader; rest = l.fn.rest.items }) l.piece;
}

abbrev pub decreases-loop-reader : goal.decreases-loop-reader
decreases-loop-reader l = length l.left
