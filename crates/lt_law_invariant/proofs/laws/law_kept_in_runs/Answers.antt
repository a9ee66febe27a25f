use Rattle.lt_law_invariant.proofs.laws.law_kept_in_runs.Goals as goal
use Rattle.lt_model.proofs.Runs.{one_place}
use Rattle.lt_law_invariant.proofs.SoundStates.{kept_in_runs, locks_never_conflict, letters_fit_in_runs, first_waiter_in_runs, led_in_runs, frozen_in_runs}

pub returns : goal.returns
returns c = record {
  kept = kept_in_runs;
  locks = locks_never_conflict;
  place = one_place;
  letters = letters_fit_in_runs;
  first = first_waiter_in_runs;
  led = led_in_runs;
  frozen = frozen_in_runs;
}
