-- The last station and those before it.
use Rattle.std.proofs.Common.{ℕ, [], ◌∷◌, ◌++◌, length, subst, arith}
use Rattle.lt_live.specs.Served.{StationsMeeting, StationsPair}
use Rattle.lt_live.proofs.StationPairs.{meeting_next, meeting_starts}
use Rattle.lt_live.proofs.meeting.meet_last.Goals as goal

pub loop-earlier-init : goal.loop-earlier-init
loop-earlier-init c = meeting_starts c.args.stations.now c.args.last.now c.requires.linked c.requires.met

pub loop-earlier-preserved : goal.loop-earlier-preserved
loop-earlier-preserved c =
    meeting_next c.loop-earlier.earlier (length c.args.stations.now) (c.args.stations.now ++ c.args.last.now ∷ []) (c.loop-earlier.stations ++ c.loop-earlier.last ∷ [])
    (c.meet_two.new.stations ++ c.meet_two.new.last ∷ []) c.loop-earlier-test.true c.loop-earlier.invariant
    (subst (λ (n : ℕ). StationsPair c.loop-earlier.earlier n (c.loop-earlier.stations ++ c.loop-earlier.last ∷ []) (c.meet_two.new.stations ++ c.meet_two.new.last ∷ []))
    c.loop-earlier.auto.stations c.meet_two.ensures)

pub returns : goal.returns
returns c =
    subst (λ (n : ℕ). StationsMeeting (length c.args.stations.now) n (c.args.stations.now ++ c.args.last.now ∷ []) (c.loop-earlier.stations ++ c.loop-earlier.last ∷ []))
    (omega (arith, c.loop-earlier.auto.earlier-end, c.loop-earlier-test.false)) c.loop-earlier.invariant
