-- The letter that was in hand is taken.
use Rattle.std.proofs.Common.{◌∙◌, ◌≡◌, sym, subst, rules, Option, Some, None}
use Rattle.lt_runner.specs.declared.parts.Hand.{Hand}
use Rattle.lt_runner.specs.Kept.{RunnerInvariant}
use Rattle.lt_runner.proofs.ChoiceLemmas.{chose_take, hand_fits}
use Rattle.lt_runner.proofs.parts.Parts.make_take.Goals as goal

pub take_letter-requires-clause-kept : goal.take_letter-requires-clause-kept
take_letter-requires-clause-kept c =
    let there : c.args.self.now.hand ≡ Some c.in-Some.hand = sym c.take.ensures.value ∙ c.in-Some.is in
    subst (λ (hand : Option Hand). RunnerInvariant (record c.args.self.now { hand = hand })) there c.requires.kept

pub take_letter-requires-clause-fits : goal.take_letter-requires-clause-fits
take_letter-requires-clause-fits c =
    let there : c.args.self.now.hand ≡ Some c.in-Some.hand = sym c.take.ensures.value ∙ c.in-Some.is in
    hand_fits c.args.self.now c.in-Some.hand c.requires.chosen there

pub take_letter-requires-clause-log : goal.take_letter-requires-clause-log
take_letter-requires-clause-log c =
    record { move = c.requires.room.log.move; events = c.requires.room.log.events; posts = c.requires.room.log.posts }

pub take_letter-requires-clause-place : goal.take_letter-requires-clause-place
take_letter-requires-clause-place c = c.requires.place

pub returns-in-Some-clause-kept : goal.returns-in-Some-clause-kept
returns-in-Some-clause-kept c = c.take_letter.ensures.kept

pub returns-in_default-clause-kept : goal.returns-in_default-clause-kept
returns-in_default-clause-kept c =
    let none : c.args.self.now.hand ≡ None = search rules in
    absurd (cc (none, (chose_take c.args.self.now c.requires.chosen).there))

pub returns-in_default-clause-same : goal.returns-in_default-clause-same
returns-in_default-clause-same c =
    let none : c.args.self.now.hand ≡ None = search rules in
    absurd (cc (none, (chose_take c.args.self.now c.requires.chosen).there))

pub returns-in_default-clause-moved : goal.returns-in_default-clause-moved
returns-in_default-clause-moved c =
    let none : c.args.self.now.hand ≡ None = search rules in
    absurd (cc (none, (chose_take c.args.self.now c.requires.chosen).there))

pub returns-in_default-clause-sent : goal.returns-in_default-clause-sent
returns-in_default-clause-sent c =
    let none : c.args.self.now.hand ≡ None = search rules in
    absurd (cc (none, (chose_take c.args.self.now c.requires.chosen).there))
