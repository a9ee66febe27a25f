use Rattle.std.proofs.Common.{◌≡◌, map, fold, drop}
use Rattle.lt_law_journals.specs.Checking.{written, read_on, reader_after}
use Rattle.lt_checker.proofs.replaying.read_all.Given as goal

-- what the lines that are left make of the reader is what all lines make
abbrev pub invariant-loop-k : goal.invariant-loop-k
invariant-loop-k l = record {
  script : l.reader.script ≡ l.script;
  reader : fold (read_on l.script) l.reader.reader (map (written l.script) (drop l.k l.journal)) ≡ reader_after l.script (map (written l.script) l.journal);
}
