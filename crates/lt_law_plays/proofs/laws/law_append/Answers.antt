use Rattle.lt_law_plays.proofs.laws.law_append.Goals as goal
use Rattle.lt_law_plays.proofs.Appending.{plays_go_on, runs_go_on, appended_commands, plays_of_appended, runs_of_appended}

pub returns : goal.returns
returns c = record { plays = plays_go_on; runs = runs_go_on; commands = appended_commands; play_of_appended = plays_of_appended; run_of_appended = runs_of_appended }
