use Rattle.std.proofs.Common.{◌∙◌}
use Rattle.lt_script.proofs.script.Script.reserve_sets.Goals as goal

pub invariant_of-self : goal.invariant_of-self
invariant_of-self c = c.self.invariant

pub returns-in_default : goal.returns-in_default
returns-in_default c = c.self.view_is ∙ c.in_ok-own_parts.ensures

pub invariant_of-self-2 : goal.invariant_of-self-2
invariant_of-self-2 c = rw (c.reserve.ensures, c.in-Some.ensures.value) c.self.invariant

pub returns : goal.returns
returns c = rw (c.reserve.ensures, c.in-Some.ensures.value) (c.self.view_is ∙ c.in_ok-own_parts.ensures)
