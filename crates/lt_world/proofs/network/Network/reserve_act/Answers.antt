use Rattle.std.proofs.Common.{Result, Ok, Err, OnOk, OnErr, arith}
use Rattle.lt_modes.specs.declared.moves.Step.TheVariants.{Act}
use Rattle.lt_world.specs.Fields.{world_in}
use Rattle.lt_world.proofs.Premises.{act_inside, act_left, act_opened, acts_before}
use Rattle.lt_world.proofs.Taking.{opened_same}
use Rattle.lt_world.proofs.network.Network.reserve_act.Goals as goal

-- where two facts hold of a value, so does what they give
on_both : {T E A B C : Type 0} (r : Result T E) → OnOk r A → OnOk r B → (A → B → C) → OnOk r C
on_both (Ok x) a b give = give a b
on_both (Err e) a b give = tt

on_err : {T E A : Type 0} (r : Result T E) → A → OnErr r A
on_err (Ok x) a = tt
on_err (Err e) a = a

pub reserve_command-requires-clause-node : goal.reserve_command-requires-clause-node
reserve_command-requires-clause-node c =
    let holds = c.requires.holds in
    omega (arith, act_inside c.args.script.now (world_in c.args.script.now c.args.self.now) c.args.node c.args.client holds.is_script c.requires.enabled, holds.world.node_count)

pub reserve_command-requires-clause-acts : goal.reserve_command-requires-clause-acts
reserve_command-requires-clause-acts c =
    let n = c.args.self.now in
    acts_before c.args.script.now c.args.node c.args.client n.nodes.items n.inboxes n.out n.run.entries c.requires.holds c.requires.enabled c.requires.few

pub returns-clause-reserved : goal.returns-clause-reserved
returns-clause-reserved c =
    let script = c.args.script.now in
    let old = c.args.self.now in
    let new = c.reserve_command.new.self in
    let did = c.reserve_command.ensures in
    let opened = opened_same script c.args.node (Act c.args.client) old.nodes.items new.nodes.items old.inboxes new.inboxes old.out new.out old.run.entries new.run.entries
    (act_opened script c.args.node c.args.client old.nodes.items old.inboxes old.out old.run.entries c.requires.holds c.requires.enabled c.requires.few)
    did.nodes did.letters did.out did.entries in
    on_both c.reserve_command.result did.room did.send (λ room send. record { opened = opened; room = room; send = send })

pub returns-clause-err : goal.returns-clause-err
returns-clause-err c =
    let script = c.args.script.now in
    let old = c.args.self.now in
    let new = c.reserve_command.new.self in
    let did = c.reserve_command.ensures in
    on_err c.reserve_command.result
    (act_left script c.args.node c.args.client new.nodes.items new.inboxes new.out new.run.entries
    (opened_same script c.args.node (Act c.args.client) old.nodes.items new.nodes.items old.inboxes new.inboxes old.out new.out old.run.entries new.run.entries
    (act_opened script c.args.node c.args.client old.nodes.items old.inboxes old.out old.run.entries c.requires.holds c.requires.enabled c.requires.few)
    did.nodes did.letters did.out did.entries))

pub returns-clause-entries : goal.returns-clause-entries
returns-clause-entries c = c.reserve_command.ensures.entries
