use Rattle.lt_modes.proofs.MaskLemmas.{first_within, is_split}
use Rattle.lt_modes.proofs.mode_set.ModeSet.pop.Goals as goal

pub bounds-self-inside-self-inside : goal.bounds-self-inside-self-inside
bounds-self-inside-self-inside c = first_within c.self.inside.mask c.self.invariant c.if-self-eq0.false

pub returns-clause-some : goal.returns-clause-some
returns-clause-some c = rw (← c.self.view_is) (is_split c.self.inside.mask c.self.invariant c.if-self-eq0.false)
