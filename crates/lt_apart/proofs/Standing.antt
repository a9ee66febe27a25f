-- A node by itself stays one of its script.
use Rattle.std.proofs.Common.{ℕ, List, sym, ap, subst, ◌∙◌}
use Rattle.lt_modes.specs.declared.command.Command.{Command}
use Rattle.lt_modes.specs.Script.{ScriptData}
use Rattle.lt_spec.specs.NodeMove.{with_commands, AreAt, commands_of}
use Rattle.lt_spec.specs.Holdings.{lines_of}
use Rattle.lt_runner.specs.declared.parts.Parts.{Parts}
use Rattle.lt_runner.specs.Kept.{AsSeen}
use Rattle.lt_live.specs.Live.{GoesOn}
use Rattle.lt_live.specs.Seats.{IsServedSession}
use Rattle.lt_apart.specs.Telling.{OpenedIsOfScript, ScriptLasts, ToldIsServed}

pub opened_is_of_script : OpenedIsOfScript
opened_is_of_script script node service key limit places share r sessions opened = record {
  same = opened.station.starts.script_is
      ∙ ap (λ (commands : List (ℕ × Command)). with_commands script commands)
      (sym (ap (λ (s : ScriptData). s.commands) opened.station.starts.script_is));
  me = opened.station.starts.me;
}

pub script_lasts : ScriptLasts
script_lasts script node p q h goes = record {
  same = goes.script ∙ ap (λ (s : ScriptData). with_commands s q.node.script.commands) h.same;
  me = goes.me ∙ h.me;
}

-- a runner that made no move goes on
pub seen_goes : (p q : Parts) → AsSeen p q → GoesOn p q
seen_goes p q seen = record {
  script = seen.same.script ∙ ap (λ (commands : List (ℕ × Command)). with_commands p.node.script commands)
      (sym (ap (λ (s : ScriptData). s.commands) seen.same.script));
  own = λ own. subst (λ (s : ScriptData). AreAt p.node.script p.node.me s.commands) (sym seen.same.script) own;
  me = seen.same.me;
  limit = seen.same.limit;
  ends = seen.same.ends;
}

pub told_is_served : ToldIsServed
told_is_served script r s of served =
    subst (λ (t : ScriptData). IsServedSession (commands_of t s.client) (lines_of r.station.runner.log.entries) s.client s) of.same served
