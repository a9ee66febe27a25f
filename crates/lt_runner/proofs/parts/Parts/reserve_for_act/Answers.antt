-- The client can act, and only memory is another.
use Rattle.std.proofs.Common.{refl, ◌∙◌}
use Rattle.lt_runner.proofs.KeptLemmas.{kept_still}
use Rattle.lt_runner.proofs.MoveLemmas.{acts_now}
use Rattle.lt_runner.proofs.ReadyLemmas.{node_seen}
use Rattle.lt_runner.proofs.parts.Parts.reserve_for_act.Goals as goal

pub reserve-requires-clause-client : goal.reserve-requires-clause-client
reserve-requires-clause-client c = (acts_now c.args.self.now c.args.client c.requires.kept c.requires.chosen).runs.known

pub reserve-requires-clause-home : goal.reserve-requires-clause-home
reserve-requires-clause-home c = (acts_now c.args.self.now c.args.client c.requires.kept c.requires.chosen).runs.home

pub reserve-requires-clause-left : goal.reserve-requires-clause-left
reserve-requires-clause-left c = (acts_now c.args.self.now c.args.client c.requires.kept c.requires.chosen).runs.left

pub reserve-requires-clause-within : goal.reserve-requires-clause-within
reserve-requires-clause-within c = (acts_now c.args.self.now c.args.client c.requires.kept c.requires.chosen).chosen.room

pub returns-clause-kept : goal.returns-clause-kept
returns-clause-kept c =
    kept_still c.args.self.now _ c.requires.kept (node_seen c.args.self.now c.reserve.new.self c.reserve.new.out c.reserve.ensures.node)
    c.requires.kept.hand (c.reserve.ensures.out.0 ∙ c.requires.kept.posts) (c.reserve.ensures.out.1 ∙ c.requires.kept.events) refl

pub returns-clause-seen : goal.returns-clause-seen
returns-clause-seen c = node_seen c.args.self.now c.reserve.new.self c.reserve.new.out c.reserve.ensures.node
