-- The loop over the other stations.
use Rattle.std.proofs.Common.{[], ◌∷◌, ◌++◌, length}
use Rattle.lt_live.specs.Served.{StationsMeeting}
use Rattle.lt_live.proofs.meeting.meet_last.Given as goal

abbrev pub invariant-loop-earlier : goal.invariant-loop-earlier
invariant-loop-earlier l = StationsMeeting (length l.initial.stations) l.earlier (l.initial.stations ++ l.initial.last ∷ []) (l.stations ++ l.last ∷ [])
