-- There is one station less each time.
use Rattle.std.specs.Prelude.{vec_len}
use Rattle.lt_live.proofs.meeting.+meet_all.Given as goal

abbrev pub decreases-meet_all : goal.decreases-meet_all
decreases-meet_all l = vec_len l.stations.now
