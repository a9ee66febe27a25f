-- What each code says of the command and of the session.
use Rattle.std.proofs.Common.{sym, ◌∙◌}
use Rattle.lt_live_c.proofs.Refusing.{may_not, spent, was_submitted, full}
use Rattle.lt_live_c.proofs.calls.submit_to.Goals as goal

pub returns-then-not-may_submit-clause-submits : goal.returns-then-not-may_submit-clause-submits
returns-then-not-may_submit-clause-submits c =
    may_not c.args.session.now c.args.command c.in-Some.command c.may_submit.result c.in-Some.is c.if-not-may_submit.true
    c.may_submit.ensures.all

pub returns-then-left-eq0-clause-submits : goal.returns-then-left-eq0-clause-submits
returns-then-left-eq0-clause-submits c =
    spent c.args.session.now c.args.command c.in-Some.command c.in-Some.is
    (c.may_submit.ensures.targets c.if-not-may_submit.false, c.may_submit.ensures.modes c.if-not-may_submit.false)
    (sym c.left.ensures.left ∙ c.if-left-eq0.true)

pub returns-in-Ok-clause-submits : goal.returns-in-Ok-clause-submits
returns-in-Ok-clause-submits c =
    was_submitted c.args.session.now c.submit.new.self c.args.command c.in-Some.command c.in-Some.is c.submit.ensures.replies
    (c.may_submit.ensures.targets c.if-not-may_submit.false, c.may_submit.ensures.modes c.if-not-may_submit.false)
    c.in-Ok.ensures.ok

pub returns-in-Err-clause-submits : goal.returns-in-Err-clause-submits
returns-in-Err-clause-submits c =
    full c.args.session.now c.submit.new.self c.args.command c.in-Some.command c.in-Some.is c.submit.ensures.replies
    (c.may_submit.ensures.targets c.if-not-may_submit.false, c.may_submit.ensures.modes c.if-not-may_submit.false)
    (c.in-Err.ensures.back.1, c.in-Err.ensures.back.2) (c.in-Err.ensures.full, c.in-Err.ensures.no_place) c.in-Err.ensures.place
