use Rattle.lt_law_journals.proofs.LinesAmong.{held_lines_tell, waiting_lines_tell, owner_lines_tell}
use Rattle.lt_law_journals.proofs.laws.law_closing_lines.Goals as goal

pub returns : goal.returns
returns c = record { held = held_lines_tell; waiting = waiting_lines_tell; owners = owner_lines_tell }
