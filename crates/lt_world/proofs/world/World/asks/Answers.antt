use Rattle.std.proofs.Common.{◌∙◌, ap, is_some, subst, sym}
use Rattle.lt_spec.specs.Script.{IsScript}
use Rattle.lt_spec.specs.World.{IsRun}
use Rattle.lt_world.specs.Fields.{WorldData}
use Rattle.lt_world.proofs.OneAsk.{behind_none}
use Rattle.lt_world.proofs.world.World.asks.Goals as goal

pub returns : goal.returns
returns c = λ none later.
    let holds = c.self.invariant.holds in
    behind_none c.args.self.now (subst (λ (w : WorldData). IsScript w.script) c.self.view_is holds.is_script)
    (subst (λ (w : WorldData). IsRun w.script w.run) c.self.view_is holds.is_run) c.args.set c.args.client later c.requires.set
    (ap is_some (sym c.ask_in.ensures) ∙ sym c.is_some.ensures ∙ none)
