use Rattle.std.proofs.Common.{◌≡◌, ◌≤◌, sym, ◌∙◌, true, false, length, arith, lt-ltb, ltb-false}
use Rattle.lt_nest.specs.Locks.{LockSet}
use Rattle.lt_nest.proofs.ChangedSets.{kept_same}
use Rattle.lt_nest.proofs.set.Set.keep_open.Goals as goal
use Rattle.lt_nest.proofs.set.Set.keep_open.Goals.{then-len-entries, else-len-entries}

pub returns-clause-unchanged : goal.returns-clause-unchanged
returns-clause-unchanged c = λ same.
    let s : LockSet = record { entries = c.self.inside.entries.items; queue = c.self.inside.queue.items } in
    elim c.if-len-entries.branch [
      | then-len-entries w ↦
          let wrong : true ≡ false = sym (lt-ltb c.len.result c.len-entries.result w.if-len-entries.true) ∙ sym w.result-is ∙ same in
          absurd (cc wrong)
      | else-len-entries w ↦
          let asks : c.len-asks.result ≤ w.len-else-len-entries.result = ltb-false w.len-else-len-entries.result c.len-asks.result (sym w.result-is ∙ same) in
          let more_entries : length s.entries ≤ length c.keep_entries.new.entries.items = omega (arith, c.len-entries.ensures, w.if-len-entries.false, c.len.ensures) in
          let more_asks : length s.queue ≤ length c.keep_asks.new.queue.items = omega (arith, c.len-asks.ensures, asks, w.len-else-len-entries.ensures) in
          kept_same c.args.transactions.now s c.keep_entries.new.entries.items c.keep_asks.new.queue.items c.keep_entries.ensures.entries c.keep_asks.ensures.asks more_entries more_asks
          ∙ c.self.view_is
    ]
