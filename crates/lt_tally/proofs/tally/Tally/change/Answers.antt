use Rattle.std.proofs.Common.{◌++◌, ◌∷◌, [], sym, subst, arith}
use Rattle.std.proofs.lemmas.Result.{on_ok_weaker, on_err_weaker}
use Rattle.lt_modes.specs.declared.event.Event.TheVariants.{Unlock}
use Rattle.lt_spec.specs.Holdings.{holdings}
use Rattle.lt_tally.specs.LockTable.{Tally, IsTallied}
use Rattle.lt_tally.proofs.Telling.{tells_next, as_change, fewer_held}
use Rattle.lt_tally.proofs.tally.Tally.change.Goals as goal

pub returns-clause-changed : goal.returns-clause-changed
returns-clause-changed c =
    on_ok_weaker c.grant.result
    (λ granted events tells.
    let script = c.args.script.now in
    let given_up = Unlock c.args.client c.args.set c.args.gives_up in
    let before = subst (λ (tally : Tally). IsTallied script tally events) (sym c.self.view_is) tells in
    as_change script _ events c.args.client c.args.set c.args.gives_up c.args.mode
    (granted (events ++ given_up ∷ [])
    (tells_next script _ events given_up c.take.new.self before (c.take.ensures (holdings script events) before.held))))
    c.grant.ensures.granted

pub returns-clause-full : goal.returns-clause-full
returns-clause-full c =
    on_err_weaker c.grant.result
    (λ full events tells.
    let script = c.args.script.now in
    let given_up = Unlock c.args.client c.args.set c.args.gives_up in
    let before = subst (λ (tally : Tally). IsTallied script tally events) (sym c.self.view_is) tells in
    let many = full (events ++ given_up ∷ [])
    (tells_next script _ events given_up c.take.new.self before (c.take.ensures (holdings script events) before.held)) in
    omega (arith, many, fewer_held script events c.args.client c.args.set c.args.gives_up))
    c.grant.ensures.full
