-- The last station's runner meets all others, which have met.
use Rattle.std.proofs.Common.{[], ◌∷◌, ◌++◌, List, sym, subst, arith, map}
use Rattle.lt_threads.specs.Meeting.{AreMet, AnyTwo, RunnersLinked}
use Rattle.lt_live.specs.Stations.{StationData, runner_of}
use Rattle.lt_live.proofs.StationPairs.{linked_before, linked_met, all_met}
use Rattle.lt_live.proofs.meeting.+meet_all.Goals as goal

pub meet_all-requires : goal.meet_all-requires
meet_all-requires t c = (
  omega (arith, c.in-Some.ensures.cases),
  linked_before c.pop.new.self.items c.in-Some.last (subst (λ (xs : List StationData). RunnersLinked (map runner_of xs)) c.in-Some.ensures.items c.requires),
)

pub meet_last-requires-clause-linked : goal.meet_last-requires-clause-linked
meet_last-requires-clause-linked t c =
    subst (λ (xs : List StationData). RunnersLinked (map runner_of (xs ++ c.in-Some.last ∷ []))) (sym c.deref_mut.ensures.value)
    (linked_met c.pop.new.self.items c.meet_all.new.stations.items c.in-Some.last
    (subst (λ (xs : List StationData). RunnersLinked (map runner_of xs)) c.in-Some.ensures.items c.requires) c.meet_all.ensures.met)

pub meet_last-requires-clause-met : goal.meet_last-requires-clause-met
meet_last-requires-clause-met t c =
    subst (λ (xs : List StationData). AreMet AnyTwo (map runner_of xs)) (sym c.deref_mut.ensures.value) c.meet_all.ensures.met.met

pub returns-in-Some-clause-met : goal.returns-in-Some-clause-met
returns-in-Some-clause-met t c =
    all_met c.args.stations.now.items c.pop.new.self.items c.meet_all.new.stations.items c.deref_mut.result.now c.meet_last.new.stations c.push_reserved.new.self.items
    c.in-Some.last c.meet_last.new.last _ c.in-Some.ensures.items c.deref_mut.ensures.value (sym c.deref_mut.ensures.len) c.meet_last.auto.stations
    c.push_reserved.ensures.items c.meet_all.ensures.met c.meet_last.ensures
