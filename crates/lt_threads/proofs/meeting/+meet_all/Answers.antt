-- The last runner meets all others, which have met.
use Rattle.std.proofs.Common.{[], ◌∷◌, ◌++◌, List, sym, subst, arith}
use Rattle.lt_runner.specs.declared.parts.Parts.{Parts}
use Rattle.lt_threads.specs.Meeting.{AreMet, AnyTwo, RunnersLinked}
use Rattle.lt_threads.proofs.Each.{linked_rest, linked_after}
use Rattle.lt_threads.proofs.Pairs.{met_vec}
use Rattle.lt_threads.proofs.meeting.+meet_all.Goals as goal

pub meet_all-requires : goal.meet_all-requires
meet_all-requires t c = (
  omega (arith, c.in-Some.ensures.cases),
  linked_rest c.pop.new.self.items c.in-Some.last (subst (λ (rs : List Parts). RunnersLinked rs) c.in-Some.ensures.items c.requires),
)

pub meet_last-requires-clause-linked : goal.meet_last-requires-clause-linked
meet_last-requires-clause-linked t c =
    subst (λ (rs : List Parts). RunnersLinked (rs ++ c.in-Some.last ∷ [])) (sym c.deref_mut.ensures.value)
    (linked_after c.pop.new.self.items c.meet_all.new.runners.items c.in-Some.last
    (subst (λ (rs : List Parts). RunnersLinked rs) c.in-Some.ensures.items c.requires) c.meet_all.ensures.seen)

pub meet_last-requires-clause-met : goal.meet_last-requires-clause-met
meet_last-requires-clause-met t c = subst (λ (rs : List Parts). AreMet AnyTwo rs) (sym c.deref_mut.ensures.value) c.meet_all.ensures.met

pub returns-in-Some-clause-seen : goal.returns-in-Some-clause-seen
returns-in-Some-clause-seen t c =
    (met_vec c.args.runners.now.items c.pop.new.self.items c.meet_all.new.runners.items c.deref_mut.result.now c.meet_last.new.runners c.push_reserved.new.self.items
    c.in-Some.last c.meet_last.new.last _ c.in-Some.ensures.items c.deref_mut.ensures.value (sym c.deref_mut.ensures.len) c.meet_last.auto.runners
    c.push_reserved.ensures.items c.meet_all.ensures.seen c.meet_last.ensures).seen

pub returns-in-Some-clause-met : goal.returns-in-Some-clause-met
returns-in-Some-clause-met t c =
    (met_vec c.args.runners.now.items c.pop.new.self.items c.meet_all.new.runners.items c.deref_mut.result.now c.meet_last.new.runners c.push_reserved.new.self.items
    c.in-Some.last c.meet_last.new.last _ c.in-Some.ensures.items c.deref_mut.ensures.value (sym c.deref_mut.ensures.len) c.meet_last.auto.runners
    c.push_reserved.ensures.items c.meet_all.ensures.seen c.meet_last.ensures).met
