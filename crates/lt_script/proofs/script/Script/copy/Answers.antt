use Rattle.lt_script.proofs.script.Script.copy.Goals as goal

pub invariant_of-result : goal.invariant_of-result
invariant_of-result c = rw (c.in_ok-parts.ensures, c.in_ok-commands.ensures) c.self.invariant

pub returns : goal.returns
returns c = rw (c.in_ok-parts.ensures, c.in_ok-commands.ensures) c.self.view_is
