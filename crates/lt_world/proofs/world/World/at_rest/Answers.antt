use Rattle.std.proofs.Common.{◌≡◌, ◌∙◌, ◌==◌, ℕ, sym, ap, arith, ne_eqb}
use Rattle.lt_spec.specs.FixedOrder.{count_turns}
use Rattle.lt_world.specs.Fields.{world_of}
use Rattle.lt_world.proofs.Picks.{rest_counted}
use Rattle.lt_world.proofs.world.World.at_rest.Goals as goal

pub returns-then-count_acts-gt0 : goal.returns-then-count_acts-gt0
returns-then-count_acts-gt0 c =
    let script = c.args.self.now.script in
    let world = world_of c.args.self.now in
    sym (rest_counted script world ∙ ne_eqb (count_turns script world) 0 (λ none. omega (arith, none, c.count_acts.ensures.count, c.if-count_acts-gt0.true)))

pub returns : goal.returns
returns c =
    let script = c.args.self.now.script in
    let world = world_of c.args.self.now in
    let size : c.count_takes.result ≡ count_turns script world = omega (arith, c.count_takes.ensures.count, c.count_acts.ensures.count, c.if-count_acts-gt0.false) in
    ap (λ (n : ℕ). n == 0) size ∙ sym (rest_counted script world)
