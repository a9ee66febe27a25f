use Rattle.std.proofs.Common.{◌≡◌, ◌++◌, map, arith, ap, sym, ◌∙◌, append-nil}
use Rattle.lt_nest.specs.Locks.{Served, grant_in}
use Rattle.lt_nest.specs.Kept.{tallies_granted}
use Rattle.lt_nest.proofs.ChangedSets.{load_changed, asks_changed, unchanged_serves}
use Rattle.lt_nest.proofs.serving.serve_if_changed.Goals as goal

pub serve-requires-clause-count : goal.serve-requires-clause-count
serve-requires-clause-count c = rw c.change.ensures.changed (omega (arith, load_changed c.args.transactions.now c.args.change c.args.set.now, c.requires.count))

pub serve-requires-clause-room : goal.serve-requires-clause-room
serve-requires-clause-room c = rw c.change.ensures.changed (omega (arith, asks_changed c.args.transactions.now c.args.change c.args.set.now, c.requires.room))

pub returns-else-change-clause-set : goal.returns-else-change-clause-set
returns-else-change-clause-set c =
    let same : c.change.new.self ≡ c.args.set.now = c.change.ensures.unchanged c.if-change.false in
    same ∙ sym (ap (λ (v : Served). v.set) (unchanged_serves c.args.transactions.now c.args.change c.args.set.now c.change.new.self c.requires.none_free c.change.ensures.changed same))

pub returns-else-change-clause-grants : goal.returns-else-change-clause-grants
returns-else-change-clause-grants c =
    let same : c.change.new.self ≡ c.args.set.now = c.change.ensures.unchanged c.if-change.false in
    sym (append-nil c.args.grants.now.items)
    ∙ ap (λ (v : Served). c.args.grants.now.items ++ map (grant_in c.args.k) v.grants)
    (sym (unchanged_serves c.args.transactions.now c.args.change c.args.set.now c.change.new.self c.requires.none_free c.change.ensures.changed same))

pub returns-else-change-clause-tallies : goal.returns-else-change-clause-tallies
returns-else-change-clause-tallies c =
    let same : c.change.new.self ≡ c.args.set.now = c.change.ensures.unchanged c.if-change.false in
    ap (λ (v : Served). tallies_granted c.args.tallies.now.items (map (grant_in c.args.k) v.grants))
    (sym (unchanged_serves c.args.transactions.now c.args.change c.args.set.now c.change.new.self c.requires.none_free c.change.ensures.changed same))
