use Rattle.std.proofs.Common.{rules}
use Rattle.lt_core.proofs.NoticeLemmas.{told_step, told_fits, told_none}
use Rattle.lt_core.proofs.one_set.Core.send_notices.Goals as goal

pub send_notice-requires-clause-fits : goal.send_notice-requires-clause-fits
send_notice-requires-clause-fits c =
    let core = c.args.self.now in
    let targets = c.args.targets.now in
    told_fits core.set c.args.stamp core.state targets.modes targets.number targets.nodes c.loop-x.x c.args.nodes c.loop-x.out c.args.out.now
    (search rules) c.loop-x.invariant c.requires.fits

pub loop-x-preserved : goal.loop-x-preserved
loop-x-preserved c =
    let core = c.args.self.now in
    let targets = c.args.targets.now in
    told_step core.set c.args.stamp core.state targets.modes targets.number targets.nodes c.loop-x.x c.args.nodes c.loop-x.out c.send_notice.new.out c.args.out.now
    (search rules) c.loop-x.invariant c.send_notice.ensures

pub returns-then-targets-eq0 : goal.returns-then-targets-eq0
returns-then-targets-eq0 c =
    let core = c.args.self.now in
    let targets = c.args.targets.now in
    told_none core.set c.args.stamp core.state targets.modes targets.number targets.nodes c.args.nodes c.args.out.now c.if-targets-eq0.true
