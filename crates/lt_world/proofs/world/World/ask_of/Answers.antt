use Rattle.std.proofs.Common.{◌<◌, ◌∙◌, ℕ, Option, ap, length, subst, sym, IfSome}
use Rattle.lt_modes.specs.declared.ask.Ask.{Ask}
use Rattle.lt_spec.specs.NodeMove.{home}
use Rattle.lt_spec.specs.Script.{IsScript}
use Rattle.lt_spec.specs.World.{IsRun}
use Rattle.lt_world.specs.Fields.{WorldData, world_of}
use Rattle.lt_world.specs.Waits.{void_in_way, waits_by}
use Rattle.lt_world.proofs.OneAsk.{found_within, voids_by_ask, waits_by_ask}
use Rattle.lt_world.proofs.world.World.ask_of.Goals as goal

pub returns-clause-within : goal.returns-clause-within
returns-clause-within c =
    let w = c.args.self.now in
    subst (λ (o : Option (ℕ × Ask)). IfSome o (λ (found : ℕ × Ask). found.0 < length w.script.sets)) (sym c.first_ask.ensures)
    (found_within w.script ((world_of w).node (home w.script c.args.client)) c.args.client)

pub returns-clause-waits : goal.returns-clause-waits
returns-clause-waits c = λ other.
    let w = c.args.self.now in
    let holds = c.self.invariant.holds in
    waits_by_ask w (subst (λ (w : WorldData). IsScript w.script) c.self.view_is holds.is_script)
    (subst (λ (w : WorldData). IsRun w.script w.run) c.self.view_is holds.is_run) c.args.client other c.requires
    ∙ ap (waits_by w c.args.client other) (sym c.first_ask.ensures)

pub returns-clause-voids : goal.returns-clause-voids
returns-clause-voids c = λ other.
    let w = c.args.self.now in
    let holds = c.self.invariant.holds in
    voids_by_ask w (subst (λ (w : WorldData). IsScript w.script) c.self.view_is holds.is_script)
    (subst (λ (w : WorldData). IsRun w.script w.run) c.self.view_is holds.is_run) c.args.client other c.requires
    ∙ ap (void_in_way w other) (sym c.first_ask.ensures)
