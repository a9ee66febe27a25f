use Rattle.std.proofs.Common.{rules, subst}
use Rattle.lt_modes.specs.Script.{ScriptData}
use Rattle.lt_threads.specs.Threads.{GoesFar}
use Rattle.lt_serve.proofs.soaking.soaked.Goals as goal

pub returns : goal.returns
returns g c =
    let made = c.in_ok-script.ensures.made in
    let moves = c.args.setup.moves in
    let run = c.in_ok-end.run'.entries in
    record {
      ran = search (rules, c.in_ok-end.ensures.ran, made, c.from-ending.ensures);
      rising = c.in_ok-end.ensures.rising;
      far = subst (λ (script : ScriptData). GoesFar moves script run) made c.in_ok-end.ensures.far;
      told = search (rules, c.in_ok-text.ensures, made, c.cut.ensures);
    }
