use Rattle.lt_law_opened.proofs.Opening.{ended_is_idle, ended_has_none, idle_has_ended, holder_conflicts, conflict_holds_up, ring_is_of_script}
use Rattle.lt_law_opened.proofs.laws.law_waits_opened.Goals as goal

pub returns-clause-idle : goal.returns-clause-idle
returns-clause-idle c = ended_is_idle

pub returns-clause-no_command : goal.returns-clause-no_command
returns-clause-no_command c = ended_has_none

pub returns-clause-ended : goal.returns-clause-ended
returns-clause-ended c = idle_has_ended

pub returns-clause-holds : goal.returns-clause-holds
returns-clause-holds c = holder_conflicts

pub returns-clause-held_up : goal.returns-clause-held_up
returns-clause-held_up c = conflict_holds_up

pub returns-clause-ring : goal.returns-clause-ring
returns-clause-ring c = ring_is_of_script
