use Rattle.std.proofs.Common.{rules, ap, Vec, Global}
use Rattle.lt_pool.proofs.OpeningLemmas.{opens}
use Rattle.lt_pool.proofs.pool.Pool.new.Goals as goal

pub new-requires : goal.new-requires
new-requires g c =
    opens g.T.Same.continues _ c.args.items.items _ _ _ c.zeros-words.ensures
    (ap (λ (v : Vec g.row.T.Denot Global). v.items) c.of-firsts.ensures)
    c.in_ok-slots.ensures (search rules) c.requires g.T.Same.continues_itself
