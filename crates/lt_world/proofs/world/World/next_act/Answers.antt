use Rattle.std.proofs.Common.{◌≡◌, ℕ, Option, sym, subst, IfSome}
use Rattle.lt_spec.specs.World.{world_after}
use Rattle.lt_spec.specs.FixedOrder.{next_act}
use Rattle.lt_world.specs.Fields.{WorldData, world_of, IsRunnable}
use Rattle.lt_world.proofs.TurnOrder.{first_is, after_is, can_act_next}
use Rattle.lt_world.proofs.world.World.next_act.Goals as goal

pub returns-in-None-clause-next : goal.returns-in-None-clause-next
returns-in-None-clause-next c =
    let s = c.self.inside in
    subst (λ (w : WorldData). c.first.result ≡ next_act w.script (world_of w) c.args.earlier) c.self.view_is
    (subst (λ (o : Option ℕ). c.first.result ≡ next_act s.script (world_after s.script s.network.run.entries) o) (sym c.in-None.is)
    (first_is s.script (world_after s.script s.network.run.entries) s.turns c.first.result c.self.invariant.acts c.first.ensures))

pub returns-in-None-clause-runnable : goal.returns-in-None-clause-runnable
returns-in-None-clause-runnable c =
    let w = c.args.self.now in
    can_act_next w.script (world_of w) c.args.earlier c.first.result (returns-in-None-clause-next c)

pub returns-in-Some-clause-next : goal.returns-in-Some-clause-next
returns-in-Some-clause-next c =
    let s = c.self.inside in
    let runs : IsRunnable (record { script = s.script; limit = s.limit; run = s.network.run.entries }) c.in-Some.client =
    subst (λ (w : WorldData). IsRunnable w c.in-Some.client) (sym c.self.view_is)
    (subst (λ (o : Option ℕ). IfSome o (IsRunnable c.args.self.now)) c.in-Some.is c.requires) in
    subst (λ (w : WorldData). c.after.result ≡ next_act w.script (world_of w) c.args.earlier) c.self.view_is
    (subst (λ (o : Option ℕ). c.after.result ≡ next_act s.script (world_after s.script s.network.run.entries) o) (sym c.in-Some.is)
    (after_is s.script (world_after s.script s.network.run.entries) s.turns c.in-Some.client c.after.result c.self.invariant.acts runs.0 runs.1 c.after.ensures))

pub returns-in-Some-clause-runnable : goal.returns-in-Some-clause-runnable
returns-in-Some-clause-runnable c =
    let w = c.args.self.now in
    can_act_next w.script (world_of w) c.args.earlier c.after.result (returns-in-Some-clause-next c)
