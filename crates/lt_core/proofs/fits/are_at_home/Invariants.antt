use Rattle.std.proofs.Common.{◌≡◌, drop}
use Rattle.std.specs.List.{list_all}
use Rattle.lt_modes.specs.Fits.{is_at_home}
use Rattle.lt_core.specs.Steps.{rule_numbers}
use Rattle.lt_core.proofs.fits.are_at_home.Given as goal

abbrev pub invariant-loop-k : goal.invariant-loop-k
invariant-loop-k l = list_all (is_at_home (rule_numbers l.numbers)) (drop l.k l.desk.desk.queue) ≡ list_all (is_at_home (rule_numbers l.numbers)) l.desk.desk.queue
