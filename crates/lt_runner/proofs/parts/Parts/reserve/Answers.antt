-- What is there to be made stays so.
use Rattle.std.proofs.Common.{◌∙◌, refl, sym, subst, OnOk}
use Rattle.lt_runner.specs.declared.choice.Choice.{Choice}
use Rattle.lt_runner.specs.Ready.{HasMemoryFor}
use Rattle.lt_runner.proofs.TurnLemmas.{choice_stays, take_lasts, could_act, could_take}
use Rattle.lt_runner.proofs.parts.Parts.reserve.Goals as goal

pub reserve_act-requires-clause-kept : goal.reserve_act-requires-clause-kept
reserve_act-requires-clause-kept c = c.requires.kept

pub reserve_act-requires-clause-chosen : goal.reserve_act-requires-clause-chosen
reserve_act-requires-clause-chosen c = c.requires.chosen ∙ c.in-Act.is

pub reserve_take-requires-clause-kept : goal.reserve_take-requires-clause-kept
reserve_take-requires-clause-kept c = c.requires.kept

pub reserve_take-requires-clause-chosen : goal.reserve_take-requires-clause-chosen
reserve_take-requires-clause-chosen c = c.requires.chosen ∙ c.in-Take.is

-- Some move could be made.

pub returns-in-Nothing-clause-kept : goal.returns-in-Nothing-clause-kept
returns-in-Nothing-clause-kept c = c.requires.kept

pub returns-in-Nothing-clause-seen : goal.returns-in-Nothing-clause-seen
returns-in-Nothing-clause-seen c = absurd (c.requires.could.choice (c.requires.chosen ∙ c.in-Nothing.is))

pub returns-in-Nothing-clause-chosen : goal.returns-in-Nothing-clause-chosen
returns-in-Nothing-clause-chosen c = c.requires.chosen

pub returns-in-Nothing-clause-could : goal.returns-in-Nothing-clause-could
returns-in-Nothing-clause-could c = c.requires.could

pub returns-in-Nothing-clause-memory : goal.returns-in-Nothing-clause-memory
returns-in-Nothing-clause-memory c = absurd (c.requires.could.choice (c.requires.chosen ∙ c.in-Nothing.is))

pub returns-in-Nothing-clause-full : goal.returns-in-Nothing-clause-full
returns-in-Nothing-clause-full c = absurd (c.requires.could.choice (c.requires.chosen ∙ c.in-Nothing.is))

pub returns-in-Nothing-clause-outs : goal.returns-in-Nothing-clause-outs
returns-in-Nothing-clause-outs c = λ node. refl

-- A command.

pub returns-in-Act-clause-kept : goal.returns-in-Act-clause-kept
returns-in-Act-clause-kept c = c.reserve_act.ensures.kept

pub returns-in-Act-clause-seen : goal.returns-in-Act-clause-seen
returns-in-Act-clause-seen c = c.reserve_act.ensures.seen

pub returns-in-Act-clause-chosen : goal.returns-in-Act-clause-chosen
returns-in-Act-clause-chosen c =
    choice_stays c.args.self.now c.reserve_act.new.self c.reserve_act.ensures.seen c.reserve_act.ensures.hand ∙ c.requires.chosen

pub returns-in-Act-clause-could : goal.returns-in-Act-clause-could
returns-in-Act-clause-could c =
    could_act c.args.self.now c.reserve_act.new.self c.in-Act.client c.reserve_act.ensures.seen c.requires.could.place (c.requires.chosen ∙ c.in-Act.is)

pub returns-in-Act-clause-memory : goal.returns-in-Act-clause-memory
returns-in-Act-clause-memory c =
    subst (λ (choice : Choice). OnOk c.reserve_act.result (HasMemoryFor choice c.reserve_act.new.self)) (sym c.in-Act.is) c.reserve_act.ensures.ready

pub returns-in-Act-clause-full : goal.returns-in-Act-clause-full
returns-in-Act-clause-full c =
    λ room. c.reserve_act.ensures.full (subst (λ (choice : Choice). HasMemoryFor choice c.args.self.now) c.in-Act.is room)

pub returns-in-Act-clause-outs : goal.returns-in-Act-clause-outs
returns-in-Act-clause-outs c = c.reserve_act.ensures.outs

-- A letter.

pub returns-in-Take-clause-kept : goal.returns-in-Take-clause-kept
returns-in-Take-clause-kept c = c.reserve_take.ensures.kept

pub returns-in-Take-clause-seen : goal.returns-in-Take-clause-seen
returns-in-Take-clause-seen c = c.reserve_take.ensures.seen

pub returns-in-Take-clause-chosen : goal.returns-in-Take-clause-chosen
returns-in-Take-clause-chosen c =
    take_lasts c.args.self.now c.reserve_take.new.self c.reserve_take.ensures.seen (c.requires.chosen ∙ c.in-Take.is) ∙ sym c.in-Take.is

pub returns-in-Take-clause-could : goal.returns-in-Take-clause-could
returns-in-Take-clause-could c =
    could_take c.args.self.now c.reserve_take.new.self c.reserve_take.ensures.seen c.requires.could.place (c.requires.chosen ∙ c.in-Take.is)

pub returns-in-Take-clause-memory : goal.returns-in-Take-clause-memory
returns-in-Take-clause-memory c =
    subst (λ (choice : Choice). OnOk c.reserve_take.result (HasMemoryFor choice c.reserve_take.new.self)) (sym c.in-Take.is) c.reserve_take.ensures.ready

pub returns-in-Take-clause-full : goal.returns-in-Take-clause-full
returns-in-Take-clause-full c =
    λ room. c.reserve_take.ensures.full (subst (λ (choice : Choice). HasMemoryFor choice c.args.self.now) c.in-Take.is room)

pub returns-in-Take-clause-outs : goal.returns-in-Take-clause-outs
returns-in-Take-clause-outs c = c.reserve_take.ensures.outs
