use Rattle.std.proofs.Common.{◌∙◌, ap, rules, ◌≡◌}
use Rattle.lt_modes.specs.FiveModes.{modes_beyond}
use Rattle.lt_modes.proofs.PlaceLemmas.{beyond_is, found_beyond}
use Rattle.lt_modes.proofs.counts.ModeCounts.beyond.Goals as goal

pub returns : goal.returns
returns c =
    let all = c.self.inside in
    let found : c.union-3.result ≡ found_beyond all.over_none all.over_one all.over_two c.args.a c.args.b = search rules in
    found
    ∙ beyond_is all.by_mode all.over_none all.over_one all.over_two c.args.a c.args.b c.self.invariant.0 c.self.invariant.1.0 c.self.invariant.1.1
    ∙ ap (λ counts. modes_beyond counts c.args.a c.args.b) c.self.view_is
