use Rattle.std.proofs.Common.{◌≡◌, ◌∙◌, Some, ap, subst, sym, true}
use Rattle.lt_modes.specs.declared.command.Command.{Command}
use Rattle.lt_spec.specs.NodeMove.{obey}
use Rattle.lt_spec.specs.Script.{HasTargets}
use Rattle.lt_core.specs.declared.set_command.SetCommand.TheVariants as set_commands
use Rattle.lt_core.proofs.NoticeLemmas.{room_less}
use Rattle.lt_node.specs.Clients.{answer_to}
use Rattle.lt_node.specs.NodeData.{AreReady, KeepsClient, NodeDoes, core_at, state_of}
use Rattle.lt_node.specs.Touched.{drops_few, touched_sets}
use Rattle.lt_node.proofs.TouchLemmas.{few_dropped, one_ready}
use Rattle.lt_node.proofs.node.Node.obey.Goals as goal

pub drop_all-requires-clause-few : goal.drop_all-requires-clause-few
drop_all-requires-clause-few c =
    let n = c.args.self.now in
    few_dropped n.script (state_of n) c.in-DropAll.other c.in-DropAll.set
    (subst (λ (command : Command). drops_few n.script (state_of n) (Some command) ≡ true) c.in-DropAll.is c.requires.few)

pub touch-requires-clause-set : goal.touch-requires-clause-set
touch-requires-clause-set c =
    let n = c.args.self.now in
    subst (HasTargets n.script.sets n.script.clients c.args.client) c.in-Lock.is c.requires.targets

pub touch-requires-clause-ready : goal.touch-requires-clause-ready
touch-requires-clause-ready c =
    let n = c.args.self.now in
    let keeps = subst (KeepsClient c.args.client (core_at n)) c.in-Lock.is c.requires.keeps in
    one_ready c.in-Lock.set c.args.stamp.clock c.args.client (core_at n) c.args.out.now (set_commands.Lock c.in-Lock.mode)
    (subst (λ (command : Command). AreReady (touched_sets n.script command) c.args.stamp.clock (core_at n) c.args.out.now) c.in-Lock.is c.requires.ready)
    (λ h. record { move = h; pending = keeps })

pub returns-in-Lock-clause-answer : goal.returns-in-Lock-clause-answer
returns-in-Lock-clause-answer c =
    let n = c.args.self.now in
    c.touch.ensures.answer ∙ ap (answer_to n.script n.me c.args.client (state_of n)) (sym c.in-Lock.is)

pub returns-in-Lock-clause-does : goal.returns-in-Lock-clause-does
returns-in-Lock-clause-does c =
    let n = c.args.self.now in
    subst (λ (command : Command). NodeDoes (obey n.script c.args.stamp c.args.client (Some command) (state_of n)) n c.args.out.now c.touch.new.self c.touch.new.out) (sym c.in-Lock.is) c.touch.ensures.does

pub touch-requires-in-Try-clause-set : goal.touch-requires-in-Try-clause-set
touch-requires-in-Try-clause-set c =
    let n = c.args.self.now in
    subst (HasTargets n.script.sets n.script.clients c.args.client) c.in-Try.is c.requires.targets

pub touch-requires-in-Try-clause-ready : goal.touch-requires-in-Try-clause-ready
touch-requires-in-Try-clause-ready c =
    let n = c.args.self.now in
    one_ready c.in-Try.set c.args.stamp.clock c.args.client (core_at n) c.args.out.now (set_commands.Try c.in-Try.mode)
    (subst (λ (command : Command). AreReady (touched_sets n.script command) c.args.stamp.clock (core_at n) c.args.out.now) c.in-Try.is c.requires.ready)
    (λ h. h)

pub returns-in-Try-clause-answer : goal.returns-in-Try-clause-answer
returns-in-Try-clause-answer c =
    let n = c.args.self.now in
    c.touch-in-Try.ensures.answer ∙ ap (answer_to n.script n.me c.args.client (state_of n)) (sym c.in-Try.is)

pub returns-in-Try-clause-does : goal.returns-in-Try-clause-does
returns-in-Try-clause-does c =
    let n = c.args.self.now in
    subst (λ (command : Command). NodeDoes (obey n.script c.args.stamp c.args.client (Some command) (state_of n)) n c.args.out.now c.touch-in-Try.new.self c.touch-in-Try.new.out) (sym c.in-Try.is) c.touch-in-Try.ensures.does

pub touch-requires-in-Unlock-clause-set : goal.touch-requires-in-Unlock-clause-set
touch-requires-in-Unlock-clause-set c =
    let n = c.args.self.now in
    subst (HasTargets n.script.sets n.script.clients c.args.client) c.in-Unlock.is c.requires.targets

pub touch-requires-in-Unlock-clause-ready : goal.touch-requires-in-Unlock-clause-ready
touch-requires-in-Unlock-clause-ready c =
    let n = c.args.self.now in
    one_ready c.in-Unlock.set c.args.stamp.clock c.args.client (core_at n) c.args.out.now (set_commands.Unlock c.in-Unlock.mode)
    (subst (λ (command : Command). AreReady (touched_sets n.script command) c.args.stamp.clock (core_at n) c.args.out.now) c.in-Unlock.is c.requires.ready)
    (λ h. room_less 1 c.args.stamp.clock (core_at n c.in-Unlock.set) h)

pub returns-in-Unlock-clause-answer : goal.returns-in-Unlock-clause-answer
returns-in-Unlock-clause-answer c =
    let n = c.args.self.now in
    c.touch-in-Unlock.ensures.answer ∙ ap (answer_to n.script n.me c.args.client (state_of n)) (sym c.in-Unlock.is)

pub returns-in-Unlock-clause-does : goal.returns-in-Unlock-clause-does
returns-in-Unlock-clause-does c =
    let n = c.args.self.now in
    subst (λ (command : Command). NodeDoes (obey n.script c.args.stamp c.args.client (Some command) (state_of n)) n c.args.out.now c.touch-in-Unlock.new.self c.touch-in-Unlock.new.out) (sym c.in-Unlock.is) c.touch-in-Unlock.ensures.does

pub touch-requires-in-Change-clause-set : goal.touch-requires-in-Change-clause-set
touch-requires-in-Change-clause-set c =
    let n = c.args.self.now in
    subst (HasTargets n.script.sets n.script.clients c.args.client) c.in-Change.is c.requires.targets

pub touch-requires-in-Change-clause-ready : goal.touch-requires-in-Change-clause-ready
touch-requires-in-Change-clause-ready c =
    let n = c.args.self.now in
    let keeps = subst (KeepsClient c.args.client (core_at n)) c.in-Change.is c.requires.keeps in
    one_ready c.in-Change.set c.args.stamp.clock c.args.client (core_at n) c.args.out.now (set_commands.Change c.in-Change.gives_up c.in-Change.mode)
    (subst (λ (command : Command). AreReady (touched_sets n.script command) c.args.stamp.clock (core_at n) c.args.out.now) c.in-Change.is c.requires.ready)
    (λ h. record { move = h; pending = keeps })

pub returns-in-Change-clause-answer : goal.returns-in-Change-clause-answer
returns-in-Change-clause-answer c =
    let n = c.args.self.now in
    c.touch-in-Change.ensures.answer ∙ ap (answer_to n.script n.me c.args.client (state_of n)) (sym c.in-Change.is)

pub returns-in-Change-clause-does : goal.returns-in-Change-clause-does
returns-in-Change-clause-does c =
    let n = c.args.self.now in
    subst (λ (command : Command). NodeDoes (obey n.script c.args.stamp c.args.client (Some command) (state_of n)) n c.args.out.now c.touch-in-Change.new.self c.touch-in-Change.new.out) (sym c.in-Change.is) c.touch-in-Change.ensures.does

pub drop_all-requires-clause-set : goal.drop_all-requires-clause-set
drop_all-requires-clause-set c =
    let n = c.args.self.now in
    (subst (HasTargets n.script.sets n.script.clients c.args.client) c.in-DropAll.is c.requires.targets).0

pub drop_all-requires-clause-ready : goal.drop_all-requires-clause-ready
drop_all-requires-clause-ready c =
    let n = c.args.self.now in
    subst (λ (command : Command). AreReady (touched_sets n.script command) c.args.stamp.clock (core_at n) c.args.out.now) c.in-DropAll.is c.requires.ready

pub returns-in-DropAll-clause-answer : goal.returns-in-DropAll-clause-answer
returns-in-DropAll-clause-answer c =
    let n = c.args.self.now in
    c.drop_all.ensures.answer ∙ ap (answer_to n.script n.me c.args.client (state_of n)) (sym c.in-DropAll.is)

pub returns-in-DropAll-clause-does : goal.returns-in-DropAll-clause-does
returns-in-DropAll-clause-does c =
    let n = c.args.self.now in
    subst (λ (command : Command). NodeDoes (obey n.script c.args.stamp c.args.client (Some command) (state_of n)) n c.args.out.now c.drop_all.new.self c.drop_all.new.out) (sym c.in-DropAll.is) c.drop_all.ensures.does

pub touch-requires-in-Withdraw-clause-set : goal.touch-requires-in-Withdraw-clause-set
touch-requires-in-Withdraw-clause-set c =
    let n = c.args.self.now in
    (subst (HasTargets n.script.sets n.script.clients c.args.client) c.in-Withdraw.is c.requires.targets).0

pub touch-requires-in-Withdraw-clause-ready : goal.touch-requires-in-Withdraw-clause-ready
touch-requires-in-Withdraw-clause-ready c =
    let n = c.args.self.now in
    let keeps = subst (KeepsClient c.args.client (core_at n)) c.in-Withdraw.is c.requires.keeps in
    one_ready c.in-Withdraw.set c.args.stamp.clock c.args.client (core_at n) c.args.out.now (set_commands.Withdraw c.in-Withdraw.other)
    (subst (λ (command : Command). AreReady (touched_sets n.script command) c.args.stamp.clock (core_at n) c.args.out.now) c.in-Withdraw.is c.requires.ready)
    (λ h. record { move = room_less 1 c.args.stamp.clock (core_at n c.in-Withdraw.set) h; marks = keeps })

pub returns-in-Withdraw-clause-answer : goal.returns-in-Withdraw-clause-answer
returns-in-Withdraw-clause-answer c =
    let n = c.args.self.now in
    c.touch-in-Withdraw.ensures.answer ∙ ap (answer_to n.script n.me c.args.client (state_of n)) (sym c.in-Withdraw.is)

pub returns-in-Withdraw-clause-does : goal.returns-in-Withdraw-clause-does
returns-in-Withdraw-clause-does c =
    let n = c.args.self.now in
    subst (λ (command : Command). NodeDoes (obey n.script c.args.stamp c.args.client (Some command) (state_of n)) n c.args.out.now c.touch-in-Withdraw.new.self c.touch-in-Withdraw.new.out)
    (sym c.in-Withdraw.is) c.touch-in-Withdraw.ensures.does
