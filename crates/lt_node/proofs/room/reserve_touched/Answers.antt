use Rattle.std.proofs.Common.{◌≡◌, ◌+◌, ◌<◌, ◌≤◌, ◌^◌, ◌∙◌, ℕ, List, Some, ap, arith, subst, sym}
use Rattle.std.proofs.lemmas.Result.{IfOk-weaker, on_ok_weaker}
use Rattle.std.specs.Prelude.{IfOk, OnOk}
use Rattle.lt_core.specs.CoreData.{HasMemory}
use Rattle.lt_node.specs.NodeData.{HasFewAsks, most_sent}
use Rattle.lt_node.specs.Sets.{core_in}
use Rattle.lt_modes.specs.declared.command.Command.{Command}
use Rattle.lt_spec.specs.declared.limits.TheConstants.{MAX_CLIENTS, MAX_NODES}
use Rattle.lt_node.specs.Touched.{HaveFewAsks, HaveMemory, LeavesMark, named_set, sent_by, touched_sets}
use Rattle.lt_node.proofs.RoomLemmas.{all_one, names_one, one_of, sent_by_one, touches_one, mark_one}
use Rattle.lt_node.proofs.room.reserve_touched.Goals as goal

pub reserve_set-requires-clause-set : goal.reserve_set-requires-clause-set
reserve_set-requires-clause-set c =
    omega (arith, c.requires.named, c.requires.count, names_one c.args.command c.in-Lock.set c.in-Lock.is)

pub reserve_set-requires-clause-few : goal.reserve_set-requires-clause-few
reserve_set-requires-clause-few c =
    one_of (λ s. HasFewAsks (core_in c.args.sets.now s)) c.in-Lock.set
    (subst (HaveFewAsks c.args.sets.now) (touches_one c.args.script.now c.args.command c.in-Lock.set c.in-Lock.is) c.requires.few)

pub returns-in-Lock-clause-room : goal.returns-in-Lock-clause-room
returns-in-Lock-clause-room c =
    let one = touches_one c.args.script.now c.args.command c.in-Lock.set c.in-Lock.is in
    let sets = c.reserve_set.new.sets in
    on_ok_weaker c.reserve_set.result
    (λ memory. subst (HaveMemory sets) (sym one) (all_one (λ s. HasMemory 0 (core_in sets s)) c.in-Lock.set memory)) c.reserve_set.ensures.room

pub returns-in-Lock-clause-sent : goal.returns-in-Lock-clause-sent
returns-in-Lock-clause-sent c =
    let one = touches_one c.args.script.now c.args.command c.in-Lock.set c.in-Lock.is in
    let sets = c.reserve_set.new.sets in
    IfOk-weaker c.reserve_set.result (λ sent. sent ≡ most_sent (core_in sets c.in-Lock.set)) (λ sent. sent ≡ sent_by sets (touched_sets c.args.script.now c.args.command))
    (λ sent is. is ∙ sent_by_one sets c.in-Lock.set ∙ ap (sent_by sets) (sym one)) c.reserve_set.ensures.sent

pub returns-in-Lock-clause-small : goal.returns-in-Lock-clause-small
returns-in-Lock-clause-small c =
    IfOk-weaker c.reserve_set.result (λ sent. sent ≤ MAX_CLIENTS + MAX_NODES + 3) (λ sent. sent + 1 < 2 ^ 32) (λ sent small. omega (arith, small)) c.reserve_set.ensures.small

pub returns-in-Lock-clause-full : goal.returns-in-Lock-clause-full
returns-in-Lock-clause-full c = λ memory mark.
    let one = touches_one c.args.script.now c.args.command c.in-Lock.set c.in-Lock.is in
    c.reserve_set.ensures.full (one_of (λ s. HasMemory 0 (core_in c.args.sets.now s)) c.in-Lock.set (subst (HaveMemory c.args.sets.now) one memory))

pub returns-in-DropAll-clause-room : goal.returns-in-DropAll-clause-room
returns-in-DropAll-clause-room c =
    subst (λ (numbers : List ℕ). OnOk c.reserve_family.result (HaveMemory c.reserve_family.new.sets numbers)) (sym (ap (touched_sets c.args.script.now) c.in-DropAll.is)) c.reserve_family.ensures.room

pub returns-in-DropAll-clause-sent : goal.returns-in-DropAll-clause-sent
returns-in-DropAll-clause-sent c =
    subst (λ (numbers : List ℕ). IfOk c.reserve_family.result (λ sent. sent ≡ sent_by c.reserve_family.new.sets numbers)) (sym (ap (touched_sets c.args.script.now) c.in-DropAll.is)) c.reserve_family.ensures.sent

pub returns-in-DropAll-clause-full : goal.returns-in-DropAll-clause-full
returns-in-DropAll-clause-full c = λ memory mark.
    c.reserve_family.ensures.full (subst (HaveMemory c.args.sets.now) (ap (touched_sets c.args.script.now) c.in-DropAll.is) memory)

pub reserve_family-requires-clause-set : goal.reserve_family-requires-clause-set
reserve_family-requires-clause-set c = omega (arith, c.requires.named, ap named_set c.in-DropAll.is)

pub reserve_family-requires-clause-few : goal.reserve_family-requires-clause-few
reserve_family-requires-clause-few c = subst (HaveFewAsks c.args.sets.now) (ap (touched_sets c.args.script.now) c.in-DropAll.is) c.requires.few

pub returns-in-Lock-clause-mark : goal.returns-in-Lock-clause-mark
returns-in-Lock-clause-mark c =
    on_ok_weaker c.reserve_set.result
    (λ memory. mark_one (core_in c.reserve_set.new.sets) c.args.command c.in-Lock.set c.in-Lock.is) c.reserve_set.ensures.room

pub returns-in-DropAll-clause-mark : goal.returns-in-DropAll-clause-mark
returns-in-DropAll-clause-mark c =
    on_ok_weaker c.reserve_family.result
    (λ memory. subst (λ (command : Command). LeavesMark (core_in c.reserve_family.new.sets) (Some command)) (sym c.in-DropAll.is) tt)
    c.reserve_family.ensures.room

pub reserve_marked-requires-clause-set : goal.reserve_marked-requires-clause-set
reserve_marked-requires-clause-set c = omega (arith, c.requires.named, c.requires.count, ap named_set c.in-Withdraw.is)

pub reserve_marked-requires-clause-few : goal.reserve_marked-requires-clause-few
reserve_marked-requires-clause-few c =
    one_of (λ s. HasFewAsks (core_in c.args.sets.now s)) c.in-Withdraw.set
    (subst (HaveFewAsks c.args.sets.now) (ap (touched_sets c.args.script.now) c.in-Withdraw.is) c.requires.few)

pub returns-in-Withdraw-clause-room : goal.returns-in-Withdraw-clause-room
returns-in-Withdraw-clause-room c =
    let one = ap (touched_sets c.args.script.now) c.in-Withdraw.is in
    let sets = c.reserve_marked.new.sets in
    on_ok_weaker c.reserve_marked.result
    (λ memory. subst (HaveMemory sets) (sym one) (all_one (λ s. HasMemory 0 (core_in sets s)) c.in-Withdraw.set memory)) c.reserve_marked.ensures.room

pub returns-in-Withdraw-clause-mark : goal.returns-in-Withdraw-clause-mark
returns-in-Withdraw-clause-mark c =
    subst (λ (command : Command). OnOk c.reserve_marked.result (LeavesMark (core_in c.reserve_marked.new.sets) (Some command)))
    (sym c.in-Withdraw.is) c.reserve_marked.ensures.mark

pub returns-in-Withdraw-clause-sent : goal.returns-in-Withdraw-clause-sent
returns-in-Withdraw-clause-sent c =
    let one = ap (touched_sets c.args.script.now) c.in-Withdraw.is in
    let sets = c.reserve_marked.new.sets in
    IfOk-weaker c.reserve_marked.result (λ sent. sent ≡ most_sent (core_in sets c.in-Withdraw.set)) (λ sent. sent ≡ sent_by sets (touched_sets c.args.script.now c.args.command))
    (λ sent is. is ∙ sent_by_one sets c.in-Withdraw.set ∙ ap (sent_by sets) (sym one)) c.reserve_marked.ensures.sent

pub returns-in-Withdraw-clause-small : goal.returns-in-Withdraw-clause-small
returns-in-Withdraw-clause-small c =
    IfOk-weaker c.reserve_marked.result (λ sent. sent ≤ MAX_CLIENTS + MAX_NODES + 3) (λ sent. sent + 1 < 2 ^ 32) (λ sent small. omega (arith, small)) c.reserve_marked.ensures.small

pub returns-in-Withdraw-clause-full : goal.returns-in-Withdraw-clause-full
returns-in-Withdraw-clause-full c = λ memory mark.
    let one = ap (touched_sets c.args.script.now) c.in-Withdraw.is in
    c.reserve_marked.ensures.full
    (one_of (λ s. HasMemory 0 (core_in c.args.sets.now s)) c.in-Withdraw.set (subst (HaveMemory c.args.sets.now) one memory))
    (subst (λ (command : Command). LeavesMark (core_in c.args.sets.now) (Some command)) c.in-Withdraw.is mark)
