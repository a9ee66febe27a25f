use Rattle.std.proofs.Common.{◌≡◌, ◌∙◌, ℕ, List, sym, ap, subst}
use Rattle.lt_modes.specs.Script.{ScriptData}
use Rattle.lt_spec.specs.Script.{IsScript, IsShort}
use Rattle.lt_spec.specs.World.{Logged}
use Rattle.lt_world.specs.Fields.{WorldData}
use Rattle.lt_serve.specs.Endings.{RanTo, status_of_end}
use Rattle.lt_serve.proofs.Answering.{ran_to}
use Rattle.lt_serve.proofs.simulation.simulate.Goals as goal

pub returns-clause-ran : goal.returns-clause-ran
returns-clause-ran c =
    let w : WorldData = c.make_moves.new.world in
    let end = c.ending-ending.result in
    let script : w.script ≡ c.args.script.now = c.in_ok-make_moves.ensures.script.0 ∙ ap (λ (d : WorldData). d.script) c.in_ok-world.ensures in
    let limit : w.limit ≡ c.args.moves = c.in_ok-make_moves.ensures.script.1 ∙ ap (λ (d : WorldData). d.limit) c.in_ok-world.ensures in
    let ran : RanTo w.limit (status_of_end end) w.script w.run =
    ran_to w.limit end w.script w.run c.law_promised.ensures c.law_ordered.ensures.finish (subst IsScript (sym script) c.requires.kept)
    (subst IsShort (sym script) c.requires.short) c.into_run.ensures.is_run c.in_ok-make_moves.ensures.within c.ending-ending.ensures in
    let of_run : RanTo w.limit (status_of_end end) w.script c.into_run.result.entries =
    subst (λ (run : List Logged). RanTo w.limit (status_of_end end) w.script run) (sym c.into_run.ensures.run) ran in
    let of_script : RanTo w.limit (status_of_end end) c.args.script.now c.into_run.result.entries =
    subst (λ (s : ScriptData). RanTo w.limit (status_of_end end) s c.into_run.result.entries) script of_run in
    subst (λ (m : ℕ). RanTo m (status_of_end end) c.args.script.now c.into_run.result.entries) limit of_script
