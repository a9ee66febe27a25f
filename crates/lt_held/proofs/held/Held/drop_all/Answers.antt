use Rattle.std.proofs.Common.{rules, ◌≡◌, not}
use Rattle.std.proofs.lemmas.Fn.{filter_same}
use Rattle.lt_modes.specs.Modes.{is_of, without_client}
use Rattle.lt_held.proofs.RowLemmas.{rows_dropped, locks_dropped}
use Rattle.lt_held.proofs.held.Held.drop_all.Goals as goal

-- what is left are the rows of the others
abbrev Left : goal.After-retain → Type 0
Left c = c.retain.new.self.items ≡ without_client c.self.inside.rows.items c.args.client

left : (c : goal.After-retain) → Left c
left c = filter_same _ (λ row. not (is_of c.args.client row)) _ (λ x b f k. search rules) _ _ c.retain.ensures.filtered

pub invariant_of-self : goal.invariant_of-self
invariant_of-self c = rw (left c) (rows_dropped c.self.inside.rows.items c.args.client c.self.invariant)

pub returns-clause-rows : goal.returns-clause-rows
returns-clause-rows c = rw (← c.self.view_is) (left c)

pub returns-clause-total : goal.returns-clause-total
returns-clause-total c =
    rw (left c, c.locks-dropped.ensures, c.deref.ensures.value, ← c.self.view_is) (locks_dropped c.self.inside.rows.items c.args.client)
