-- The loop over the other runners.
use Rattle.std.proofs.Common.{[], ◌∷◌, ◌++◌, length}
use Rattle.lt_threads.specs.Meeting.{Meeting}
use Rattle.lt_threads.proofs.meeting.meet_last.Given as goal

abbrev pub invariant-loop-earlier : goal.invariant-loop-earlier
invariant-loop-earlier l = Meeting (length l.initial.runners) l.earlier (l.initial.runners ++ l.initial.last ∷ []) (l.runners ++ l.last ∷ [])
