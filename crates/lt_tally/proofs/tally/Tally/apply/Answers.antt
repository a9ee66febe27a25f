use Rattle.std.proofs.Common.{◌++◌, ◌∷◌, [], Bool, true, sym, subst, ap, ◌∙◌}
use Rattle.lt_modes.specs.declared.event.Event.TheVariants.{Wait, Withdrawn, Try, Unlock, DropAll, Token}
use Rattle.lt_spec.specs.Holdings.{holdings}
use Rattle.lt_tally.specs.LockTable.{Tally, IsTallied}
use Rattle.lt_tally.proofs.Telling.{tells_next, tells_event}
use Rattle.lt_tally.proofs.tally.Tally.apply.Goals as goal

pub returns-in_ok-grant-in-Grant-clause-applied : goal.returns-in_ok-grant-in-Grant-clause-applied
returns-in_ok-grant-in-Grant-clause-applied c = λ events tells.
    tells_event c.args.script.now _ events c.args.event _ c.in-Grant.is (c.in_ok-grant-in-Grant.ensures.granted events tells)

pub returns-in_ok-add-in-Try-clause-applied : goal.returns-in_ok-add-in-Try-clause-applied
returns-in_ok-add-in-Try-clause-applied c = λ events tells.
    let script = c.args.script.now in
    let try = c.in-Try in
    let before = subst (λ (tally : Tally). IsTallied script tally events) (sym c.self.view_is) tells in
    let now = tells_next script _ events (Try try.client try.set try.mode true) c.add.new.self before (c.in_ok-add-in-Try.ensures.added (holdings script events) before.held) in
    tells_event script _ events c.args.event _ (try.is ∙ ap (λ (got : Bool). Try try.client try.set try.mode got) c.if-got.true) now

pub returns-in-Unlock-clause-applied : goal.returns-in-Unlock-clause-applied
returns-in-Unlock-clause-applied c = λ events tells.
    let script = c.args.script.now in
    let unlock = c.in-Unlock in
    let before = subst (λ (tally : Tally). IsTallied script tally events) (sym c.self-in-Unlock.view_is) tells in
    let now = tells_next script _ events (Unlock unlock.client unlock.set unlock.mode) c.take.new.self before (c.take.ensures (holdings script events) before.held) in
    tells_event script _ events c.args.event _ unlock.is now

pub returns-in_ok-change-in-Change-clause-applied : goal.returns-in_ok-change-in-Change-clause-applied
returns-in_ok-change-in-Change-clause-applied c = λ events tells.
    tells_event c.args.script.now _ events c.args.event _ c.in-Change.is (c.in_ok-change-in-Change.ensures.changed events tells)

pub returns-in-DropAll-clause-applied : goal.returns-in-DropAll-clause-applied
returns-in-DropAll-clause-applied c = λ events tells.
    let script = c.args.script.now in
    let drop_all = c.in-DropAll in
    let before = subst (λ (tally : Tally). IsTallied script tally events) (sym c.self-in-DropAll.view_is) tells in
    let now = tells_next script _ events (DropAll drop_all.client drop_all.other drop_all.set drop_all.count) c.drop_all.new.self before
    (c.drop_all.ensures (holdings script events) before.held) in
    tells_event script _ events c.args.event _ drop_all.is now

pub returns-in-Wait-clause-applied : goal.returns-in-Wait-clause-applied
returns-in-Wait-clause-applied c = λ events tells.
    let script = c.args.script.now in
    let wait = c.in-Wait in
    let now = tells_next script _ events (Wait wait.client wait.set wait.mode) c.args.self.now.held tells tells.held in
    subst (λ (tally : Tally). IsTallied script tally (events ++ c.args.event ∷ [])) (sym c.wait.ensures)
    (tells_event script _ events c.args.event _ wait.is now)

pub returns-in-Withdrawn-clause-applied : goal.returns-in-Withdrawn-clause-applied
returns-in-Withdrawn-clause-applied c = λ events tells.
    let script = c.args.script.now in
    let withdrawn = c.in-Withdrawn in
    let now = tells_next script _ events (Withdrawn withdrawn.client withdrawn.set withdrawn.mode) c.args.self.now.held tells tells.held in
    subst (λ (tally : Tally). IsTallied script tally (events ++ c.args.event ∷ [])) (sym c.wait-in-Withdrawn.ensures)
    (tells_event script _ events c.args.event _ withdrawn.is now)

pub returns-in-Token-clause-applied : goal.returns-in-Token-clause-applied
returns-in-Token-clause-applied c = λ events tells.
    let script = c.args.script.now in
    let token = c.in-Token in
    let now = tells_next script _ events (Token token.set token.to token.epoch) c.args.self.now.held tells tells.held in
    subst (λ (tally : Tally). IsTallied script tally (events ++ c.args.event ∷ [])) (sym c.own.ensures)
    (tells_event script _ events c.args.event _ token.is now)
