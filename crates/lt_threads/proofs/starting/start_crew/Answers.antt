-- All runners stand.
use Rattle.std.proofs.Common.{◌≡◌, ℕ, subst, arith}
use Rattle.lt_threads.specs.Pushes.{Starting}
use Rattle.lt_threads.proofs.Starts.{first_crew}
use Rattle.lt_threads.proofs.starting.start_crew.Goals as goal

pub returns : goal.returns
returns c =
    let all : c.loop-node.node ≡ c.args.script.now.nodes = omega (arith, c.loop-node-test.false, c.loop-node.auto.node-end, c.nodes-nodes.ensures.nodes) in
    first_crew c.args.script.now c.args.capacity c.args.limit c.loop-node.mails.items c.loop-node.runners.items c.nodes-nodes.ensures.kept c.requires.limit.1
    (subst (λ (n : ℕ). Starting c.args.script.now c.args.capacity c.args.limit n c.loop-node.mails.items c.loop-node.runners.items) all c.loop-node.invariant.starting)
