-- Each of the laws.
use Rattle.lt_law_sessions.proofs.Excluding.{still_is_held, sessions_exclude, granted_is_had, had_unless_taken, had_as_before}
use Rattle.lt_law_sessions.proofs.laws.law_sessions_exclude.Goals as goal

pub returns : goal.returns
returns c = record {
  held = still_is_held;
  exclude = sessions_exclude;
  granted = granted_is_had;
  kept = had_unless_taken;
  as_before = had_as_before;
}
