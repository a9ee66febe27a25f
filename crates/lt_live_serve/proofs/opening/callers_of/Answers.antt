-- Each session got its caller.
use Rattle.std.proofs.Common.{List, [], ◌∷◌, ◌++◌, length, subst, sym, ◌∙◌}
use Rattle.std.proofs.lemmas.Iterator.Adapters.{YieldsList-from_vec}
use Rattle.std.proofs.lemmas.Iterator.Consumers.{YieldsList-turn}
use Rattle.lt_live_serve.specs.declared.callers.Caller.{Caller}
use Rattle.lt_live_serve.specs.Completing.{AreNewCallers}
use Rattle.lt_live_serve.proofs.Beside.{can_call, one_more_caller}
use Rattle.lt_live_serve.proofs.opening.callers_of.Goals as goal

pub caller_of-requires-clause-session : goal.caller_of-requires-clause-session
caller_of-requires-clause-session c =
    let gives = c.into_iter-session-iterator.ensures.into_iter_gives in
    let turn = YieldsList-turn (YieldsList-from_vec {s = c.into_iter-session-iterator.result} c.args.sessions.items gives.0 (gives.1 ∙ c.args.sessions.ok.0))
    c.loop-session.yielded _ c.loop-session.yielded_by c.next.result c.next.new.self c.in-Some.session c.in-Some.is c.next.ensures.steps in
    can_call c.args.script.now c.args.sessions.items (length c.loop-session.yielded) c.in-Some.session c.requires.new turn.0 turn.1

pub loop-session-preserved : goal.loop-session-preserved
loop-session-preserved c =
    subst (λ (callers : List Caller). AreNewCallers c.args.script.now (c.loop-session.yielded ++ c.in-Some.session ∷ []) callers) (sym c.in_ok-push.ensures.items)
    (one_more_caller c.args.script.now c.loop-session.yielded c.loop-session.callers.items c.in-Some.session c.in_ok-caller_of.field-0 c.loop-session.invariant c.in_ok-caller_of.ensures)
