use Rattle.lt_script.proofs.FaultOrder.{limits_are, reserved_are, numbers_are, forms_are, later_forms_are}
use Rattle.lt_script.proofs.laws.law_literals.Goals as goal

pub returns : goal.returns
returns c = record {
  limits = limits_are;
  reserved = reserved_are;
  numbers = numbers_are;
  forms = forms_are;
  later_forms = later_forms_are;
}
