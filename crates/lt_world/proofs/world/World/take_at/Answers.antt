use Rattle.std.proofs.Common.{◌≡◌, ◌∙◌, Option, Some, None, List, ap, subst, slice_get, option_map}
use Rattle.lt_spec.specs.FixedOrder.{Turn, takes}
use Rattle.lt_inbox.specs.Takes.{turn_of_take}
use Rattle.lt_world.specs.Choice.{choice_of}
use Rattle.lt_world.specs.Fields.{WorldData, world_of}
use Rattle.lt_world.proofs.Premises.{takes_are}
use Rattle.lt_world.proofs.world.World.take_at.Goals as goal

pub returns-in_err-take : goal.returns-in_err-take
returns-in_err-take c =
    let s = c.self.inside in
    let none : Option Turn = None in
    let here = ap (λ (ts : List Turn). slice_get ts c.args.k) (takes_are s.script s.network.nodes.items s.network.inboxes s.network.out s.network.run.entries c.self.invariant.holds) in
    c.from_residual.ensures
    ∙ ap (option_map choice_of) (subst (λ (w : WorldData). none ≡ slice_get (takes w.script (world_of w)) c.args.k) c.self.view_is (c.in_err-take.ensures ∙ here))

pub returns : goal.returns
returns c =
    let s = c.self.inside in
    let some : Option Turn = Some (turn_of_take c.in_ok-take.take) in
    let here = ap (λ (ts : List Turn). slice_get ts c.args.k) (takes_are s.script s.network.nodes.items s.network.inboxes s.network.out s.network.run.entries c.self.invariant.holds) in
    ap (option_map choice_of) (subst (λ (w : WorldData). some ≡ slice_get (takes w.script (world_of w)) c.args.k) c.self.view_is (c.in_ok-take.ensures ∙ here))
