use Rattle.std.proofs.Common.{◌≡◌, ◌<◌, ℕ, length, ap, arith, subst, sym, ◌∙◌, slice_index_or}
use Rattle.lt_runner.specs.declared.parts.Parts.{Parts}
use Rattle.lt_spec.specs.NodeMove.{home, node_waits}
use Rattle.lt_spec.specs.World.{is_waiting}
use Rattle.lt_node.specs.NodeData.{state_of}
use Rattle.lt_threads.specs.Meeting.{crew_world}
use Rattle.lt_threads.proofs.Shown.{waits_here}
use Rattle.lt_threads.proofs.Pushing.{get_is}
use Rattle.lt_threads.proofs.waiting.client_waits.Goals as goal

pub returns : goal.returns
returns c =
    let rs = c.args.runners.now in
    let k = home c.args.script.now c.args.client in
    let place : c.from.result ≡ k = c.from.ensures ∙ c.home.ensures in
    let within : k < length rs = omega (arith, c.requires.crew.count, c.requires.crew.is_script.homes c.args.client c.requires.client) in
    let here = get_is rs k c.index-runners-from.result within in
    c.waits.ensures ∙ (ap (λ (p : Parts). node_waits p.node.script (state_of p.node) c.args.client) c.index-runners-from.is ∙ subst
    (λ (i : ℕ). node_waits (slice_index_or rs i c.index-runners-from.result).node.script (state_of (slice_index_or rs i c.index-runners-from.result).node) c.args.client
    ≡ is_waiting c.args.script.now (crew_world c.args.script.now rs) c.args.client)
    (sym place) (waits_here c.args.script.now rs c.requires.crew c.requires.kept c.requires.met c.args.client (slice_index_or rs k c.index-runners-from.result) here))
