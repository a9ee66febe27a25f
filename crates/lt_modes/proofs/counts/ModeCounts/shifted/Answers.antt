use Rattle.std.proofs.Common.{rules, ◌≡◌}
use Rattle.lt_modes.proofs.PlaceLemmas.{none_shifted, one_shifted, in_one}
use Rattle.lt_modes.proofs.counts.ModeCounts.shifted.Goals as goal

pub loop-mode-init : goal.loop-mode-init
loop-mode-init c =
    let left : c.union-left.result ≡ in_one c.args.from c.args.to = search rules in
    none_shifted c.args.self.now c.args.from c.args.to c.union-left.result left

pub loop-mode-preserved : goal.loop-mode-preserved
loop-mode-preserved c =
    let mode = c.in-Some.mode in
    one_shifted c.args.self.now c.args.from c.args.to c.loop-mode.left c.loop-mode.counts mode c.pop.new.self c.moved.result c.set.new.self
    c.loop-mode.invariant c.in-Some.ensures.some (c.requires mode) c.moved.ensures c.set.ensures.own c.set.ensures.others
