use Rattle.std.proofs.Common.{◌∙◌, refl, sym, subst}
use Rattle.lt_script.specs.declared.form.CommandWords.{CommandWords}
use Rattle.lt_script.specs.Forms.{asked_seen, CommandForm}
use Rattle.lt_script.specs.Steps.{Resolves}
use Rattle.lt_script.proofs.line.request_of.Goals as goal

pub returns-in_default : goal.returns-in_default
returns-in_default c = rw (sym c.client_number.ensures.number ∙ c.in_default.is) refl

pub returns-in-Lock : goal.returns-in-Lock
returns-in-Lock c =
    subst (λ (asked : CommandWords). Resolves c.args.script.now (CommandForm c.args.client.now (asked_seen asked)) c.request_with.result) (sym c.in-Lock.is) c.request_with.ensures

pub returns-in-Change : goal.returns-in-Change
returns-in-Change c = subst (λ (asked : CommandWords). Resolves c.args.script.now (CommandForm c.args.client.now (asked_seen asked)) c.change.result) (sym c.in-Change.is) c.change.ensures

pub returns-in-Drop : goal.returns-in-Drop
returns-in-Drop c = subst (λ (asked : CommandWords). Resolves c.args.script.now (CommandForm c.args.client.now (asked_seen asked)) c.drop_all.result) (sym c.in-Drop.is) c.drop_all.ensures

pub returns-in-Withdraw : goal.returns-in-Withdraw
returns-in-Withdraw c = subst (λ (asked : CommandWords). Resolves c.args.script.now (CommandForm c.args.client.now (asked_seen asked)) c.withdraw.result) (sym c.in-Withdraw.is) c.withdraw.ensures
