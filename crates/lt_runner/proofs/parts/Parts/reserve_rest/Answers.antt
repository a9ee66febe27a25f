-- Only memory is another.
use Rattle.std.proofs.Common.{refl}
use Rattle.lt_runner.proofs.KeptLemmas.{kept_still}
use Rattle.lt_runner.proofs.ReadyLemmas.{rest_seen}
use Rattle.lt_runner.proofs.parts.Parts.reserve_rest.Goals as goal

pub returns-clause-kept : goal.returns-clause-kept
returns-clause-kept c =
    kept_still c.args.self.now _ c.requires
    (rest_seen c.args.self.now c.reserve.new.self c.reserve-2.new.self c.reserve.ensures.entries c.reserve.ensures.gone
    c.reserve-2.ensures.sent c.reserve-2.ensures.ins c.reserve-2.ensures.ends)
    c.requires.hand c.requires.posts c.requires.events refl

pub returns-clause-seen : goal.returns-clause-seen
returns-clause-seen c =
    rest_seen c.args.self.now c.reserve.new.self c.reserve-2.new.self c.reserve.ensures.entries c.reserve.ensures.gone
    c.reserve-2.ensures.sent c.reserve-2.ensures.ins c.reserve-2.ensures.ends
