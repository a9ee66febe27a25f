use Rattle.std.proofs.Common.{◌≡◌, ◌∙◌, ◌+◌, ℕ, Some, ap, arith, sym}
use Rattle.std.proofs.lemmas.Bool.{and_parts}
use Rattle.lt_modes.specs.declared.stamp.Stamp.{Stamp}
use Rattle.lt_modes.specs.Script.{ScriptData}
use Rattle.lt_spec.specs.NodeMove.{NodeState, is_free_at}
use Rattle.lt_node.specs.NodeData.{state_of}
use Rattle.lt_node.specs.Touched.{drops_few}
use Rattle.lt_node.specs.Clients.{answer_to, answer_if}
use Rattle.lt_node.proofs.DropLemmas.{answer_after}
use Rattle.lt_node.proofs.TouchLemmas.{few_after, few_to_act, keeps_after, keeps_to_act, ready_after, ready_to_act}
use Rattle.lt_node.proofs.node.Node.act.Goals as goal

pub obey-requires-clause-ready : goal.obey-requires-clause-ready
obey-requires-clause-ready c =
    let n = c.args.self.now in
    let clock = ap (λ (s : Stamp). s.clock) c.stamp_of_act-stamp.ensures in
    let now = c.stamp_of_act-stamp.result.clock in
    let command = c.advance-command.result in
    let told = c.advance-command.ensures in
    ready_after n c.advance-command.new.self c.args.out.now now command told.place.0 told.place.1 told.cores
    (ready_to_act n c.args.out.now now c.args.client command c.requires.within told.command (omega (arith, clock)) c.requires.room)

pub obey-requires-clause-keeps : goal.obey-requires-clause-keeps
obey-requires-clause-keeps c =
    let n = c.args.self.now in
    let command = c.advance-command.result in
    let told = c.advance-command.ensures in
    keeps_after n c.advance-command.new.self c.args.client command told.place.0 told.place.1 told.cores
    (keeps_to_act n c.args.out.now c.args.client command c.requires.within told.command
    (and_parts (is_free_at n.script (state_of n) c.args.client) _ c.requires.runnable).0 told.targets c.requires.room)

pub obey-requires-clause-few : goal.obey-requires-clause-few
obey-requires-clause-few c =
    let n = c.args.self.now in
    let mid = c.advance-command.new.self in
    let command = c.advance-command.result in
    let told = c.advance-command.ensures in
    ap (λ (script : ScriptData). drops_few script (state_of mid) (Some command)) told.place.0
    ∙ ap (λ (s : NodeState). drops_few n.script s (Some command)) told.state
    ∙ few_after n.script (n.clock + 1) c.args.client (state_of n) command
    ∙ few_to_act n c.args.client command c.requires.within told.command

pub returns-clause-answer : goal.returns-clause-answer
returns-clause-answer c =
    let n = c.args.self.now in
    let mid = c.advance-command.new.self in
    let place = c.advance-command.ensures.place in
    let same : c.obey.result ≡ answer_to n.script n.me c.args.client (state_of n) c.advance-command.result =
    c.obey.ensures.answer
    ∙ ap (λ (script : ScriptData). answer_to script mid.me c.args.client (state_of mid) c.advance-command.result) place.0
    ∙ ap (λ (q : ℕ). answer_to n.script q c.args.client (state_of mid) c.advance-command.result) place.1
    ∙ ap (λ (s : NodeState). answer_to n.script n.me c.args.client s c.advance-command.result) c.advance-command.ensures.state
    ∙ answer_after n.script n.me c.args.client (n.clock + 1) c.args.client (state_of n) c.advance-command.result in
    ap Some same ∙ sym (ap (λ command. answer_if n.script n.me c.args.client (state_of n) command) c.advance-command.ensures.command)
