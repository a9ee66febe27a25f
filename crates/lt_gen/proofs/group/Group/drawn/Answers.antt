use Rattle.std.proofs.Common.{◌≡◌, rules, subst, sym, ap}
use Rattle.lt_gen.specs.Generator.{group_of, IsGroupOf, NamesBeside}
use Rattle.lt_gen.proofs.GroupLemmas.{beside_drawn, version_drawn}
use Rattle.lt_gen.proofs.group.Group.drawn.Goals as goal

pub returns-in-3-clause-beside : goal.returns-in-3-clause-beside
returns-in-3-clause-beside c =
    let made : (c.drawn_in_third.result, c.drawn_in_third.new.draws) ≡ group_of c.args.sizes c.args.client c.args.left c.args.draws.now = search rules in
    subst (NamesBeside c.args.sizes c.args.client) (ap (λ p. p.0) (sym made)) (beside_drawn c.args.sizes c.args.client c.args.left c.args.draws.now c.requires.some_node c.requires.inside)

pub returns-in_default-clause-version : goal.returns-in_default-clause-version
returns-in_default-clause-version c =
    let made : (c.drawn_before.result, c.drawn_before.new.draws) ≡ group_of c.args.sizes c.args.client c.args.left c.args.draws.now = search rules in
    subst (IsGroupOf c.args.sizes.version) (ap (λ p. p.0) (sym made)) (version_drawn c.args.sizes c.args.client c.args.left c.args.draws.now)
