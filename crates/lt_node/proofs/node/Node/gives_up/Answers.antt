use Rattle.std.proofs.Common.{◌∙◌, ◌<◌, ◌&&◌, Bool, Option, Some, ap, eq-eqb, length, ne_eqb, subst, sym}
use Rattle.lt_modes.specs.declared.command.Command.{Command}
use Rattle.lt_modes.specs.State.{SetState}
use Rattle.lt_modes.specs.Waiting.{waits}
use Rattle.lt_spec.specs.NodeMove.{withdraws_itself}
use Rattle.lt_node.specs.NodeData.{state_of}
use Rattle.lt_node.specs.Touched.{named_set}
use Rattle.lt_node.proofs.FreeLemmas.{other_is}
use Rattle.lt_node.proofs.node.Node.gives_up.Goals as goal

pub core-requires : goal.core-requires
core-requires c =
    subst (λ (command : Command). named_set command < length c.args.self.now.script.sets) c.in-Withdraw.is c.upcoming.ensures.named

pub returns-then-other-client : goal.returns-then-other-client
returns-then-other-client c =
    let n = state_of c.args.self.now in
    let client = c.args.client in
    let waiting = waits (n.set c.in-Withdraw.set) client in
    c.waits.ensures ∙ ap (λ (s : SetState). waits s client) c.core.ensures
    ∙ sym (ap (λ (b : Bool). b && waiting) (eq-eqb c.in-Withdraw.other client c.if-other-client.true))
    ∙ sym (ap (λ (o : Option Command). withdraws_itself n client o) (c.upcoming.ensures.next ∙ ap Some c.in-Withdraw.is))

pub returns-else-other-client : goal.returns-else-other-client
returns-else-other-client c =
    let n = state_of c.args.self.now in
    let client = c.args.client in
    let waiting = waits (n.set c.in-Withdraw.set) client in
    let apart = ne_eqb c.in-Withdraw.other client c.if-other-client.false in
    apart ∙ sym (ap (λ (b : Bool). b && waiting) apart)
    ∙ sym (ap (λ (o : Option Command). withdraws_itself n client o) (c.upcoming.ensures.next ∙ ap Some c.in-Withdraw.is))

pub returns-in-Lock : goal.returns-in-Lock
returns-in-Lock c =
    let n = state_of c.args.self.now in
    other_is n c.args.client c.upcoming.result c.in-Lock.is
    ∙ sym (ap (λ (o : Option Command). withdraws_itself n c.args.client o) c.upcoming.ensures.next)
