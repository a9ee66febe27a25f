-- The texts with which a node in a process of its own ends.
use Rattle.std.proofs.Common.{Some, ap, ◌∙◌}
use Rattle.lt_modes.specs.Script.{ScriptData}
use Rattle.lt_script.specs.Printing.{print_of}
use Rattle.lt_journal.specs.RunLines.{text_of}
use Rattle.lt_apart.specs.Remote.{me}
use Rattle.lt_join.specs.JoinLaws.{PartsAreWritten}

pub parts_are_written : PartsAreWritten
parts_are_written script r journal of_script written = λ i. record {
  script = (written.script ∙ ap print_of of_script.same) i;
  moves = (written.moves ∙ ap (λ (s : ScriptData). text_of s r.station.runner.log.entries (Some (me r))) of_script.same) i;
}
