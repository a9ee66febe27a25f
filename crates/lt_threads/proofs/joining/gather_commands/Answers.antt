-- The commands of one runner more are in the script.
use Rattle.std.proofs.Common.{◌<◌, ap, arith, length, ◌∙◌}
use Rattle.lt_runner.specs.declared.parts.Parts.{Parts}
use Rattle.lt_threads.proofs.Shares.{gather_first, gather_same, gather_next, gather_all}
use Rattle.lt_threads.proofs.Whole.{one_has}
use Rattle.lt_threads.proofs.joining.gather_commands.Goals as goal

pub loop-place-init : goal.loop-place-init
loop-place-init c =
    let inside : 0 < length c.args.runners.now = omega (arith, c.requires.shares.1.some, c.requires.shares.1.count) in
    let has = one_has 0 c.args.runners.now c.index-runners-0.result inside c.requires.all in
    let whole = c.script.ensures.whole (ap (λ (p : Parts). p.node.gone) c.index-runners-0.is ∙ has.1) in
    gather_first c.args.runners.now c.index-runners-0.result c.in_ok-script.script c.script.result.now inside
    (whole ∙ ap (λ (p : Parts). p.node.script) c.index-runners-0.is) c.in_ok-script.ensures

pub add_commands-requires-clause-same : goal.add_commands-requires-clause-same
add_commands-requires-clause-same c =
    let inside : c.loop-place.place < length c.args.runners.now = omega (arith, c.loop-place.auto.place-end, c.loop-place-test.true) in
    let has = one_has c.loop-place.place c.args.runners.now c.index-runners-place.result inside c.requires.all in
    let whole = c.script-in-loop-place.ensures.whole (ap (λ (p : Parts). p.node.gone) c.index-runners-place.is ∙ has.1) in
    gather_same c.args.runners.now c.loop-place.place c.index-runners-place.result c.loop-place.script c.script-in-loop-place.result.now c.requires.shares
    inside c.loop-place.invariant
    (whole ∙ ap (λ (p : Parts). p.node.script) c.index-runners-place.is)

pub loop-place-preserved : goal.loop-place-preserved
loop-place-preserved c =
    let inside : c.loop-place.place < length c.args.runners.now = omega (arith, c.loop-place.auto.place-end, c.loop-place-test.true) in
    let has = one_has c.loop-place.place c.args.runners.now c.index-runners-place.result inside c.requires.all in
    let whole = c.script-in-loop-place.ensures.whole (ap (λ (p : Parts). p.node.gone) c.index-runners-place.is ∙ has.1) in
    gather_next c.args.runners.now c.loop-place.place c.index-runners-place.result c.loop-place.script c.script-in-loop-place.result.now c.add_commands.new.script
    inside c.loop-place.invariant
    (whole ∙ ap (λ (p : Parts). p.node.script) c.index-runners-place.is) c.in_ok-add_commands.ensures

pub returns : goal.returns
returns c =
    gather_all c.args.runners.now c.loop-place.place c.loop-place.script (omega (arith, c.loop-place.auto.place-end, c.loop-place-test.false)) c.loop-place.invariant
