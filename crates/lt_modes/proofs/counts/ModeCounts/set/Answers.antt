use Rattle.std.proofs.Common.{◌≡◌, length, rules}
use Rattle.lt_modes.proofs.PlaceLemmas.{over_set, count_set, count_other}
use Rattle.lt_modes.proofs.counts.ModeCounts.set.Goals as goal

pub invariant_of-self : goal.invariant_of-self
invariant_of-self c =
    let old = c.self.inside in
    let room : length old.by_mode ≡ 6 = search rules in
    rw c.place.ensures.place (
      over_set 0 old.by_mode c.args.mode c.args.count old.over_none c.with_if-self-inside.result room c.self.invariant.0 c.with_if-self-inside.ensures,
      (
        over_set 1 old.by_mode c.args.mode c.args.count old.over_one c.with_if-self-inside-2.result room c.self.invariant.1.0 c.with_if-self-inside-2.ensures,
        over_set 2 old.by_mode c.args.mode c.args.count old.over_two c.with_if-self-inside-3.result room c.self.invariant.1.1 c.with_if-self-inside-3.ensures,
      ),
    )

pub returns-clause-own : goal.returns-clause-own
returns-clause-own c =
    let room : length c.self.inside.by_mode ≡ 6 = search rules in
    rw c.place.ensures.place (count_set c.self.inside.by_mode c.args.mode c.args.count room)

pub returns-clause-others : goal.returns-clause-others
returns-clause-others c other differ =
    rw (c.place.ensures.place, ← c.self.view_is) (count_other c.self.inside.by_mode c.args.mode other c.args.count differ)
