use Rattle.std.proofs.Common.{rules, ◌≡◌, ◌==◌, not}
use Rattle.std.proofs.lemmas.Fn.{filter_same}
use Rattle.lt_modes.specs.Serving.{without_gone}
use Rattle.lt_core.proofs.marks.Marks.remove.Goals as goal

-- what is left are the others
left : (c : goal.After-retain) → c.retain.new.self.items ≡ without_gone c.self.inside.clients.items c.args.client
left c = filter_same _ (λ other. not (other == c.args.client)) _ (λ x b f k. search rules) _ _ c.retain.ensures.filtered

pub returns : goal.returns
returns c = rw (← c.self.view_is) (left c)
