use Rattle.std.proofs.Common.{◌≡◌, ◌∙◌, ◌+◌, ◌*◌, ◌/◌, ◌<◌, true, false, ℕ, refl, sym, subst, arith}
use Rattle.lt_spec.specs.NodeMove.{is_related}
use Rattle.lt_tally.specs.LockTable.{Table}
use Rattle.lt_tally.proofs.Clearing.{Cleared, put_in, none_cleared, one_more_cleared, one_more_left, all_cleared, none_to_clear}
use Rattle.lt_tally.proofs.table.Table.drop_all.Goals as goal
use Rattle.lt_tally.proofs.table.Table.drop_all.Goals.{then-is_related, else-is_related}

pub loop-cell-init : goal.loop-cell-init
loop-cell-init c = none_cleared c.args.script.now c.args.client c.args.set c.args.self.now

pub loop-cell-preserved : goal.loop-cell-preserved
loop-cell-preserved c =
    let script = c.args.script.now in
    let old = c.args.self.now in
    let cell = c.loop-cell.cell in
    elim c.if-is_related.branch [
      | then-is_related w ↦
          let below : cell < old.sets * 6 = omega arith in
          let related : is_related script (cell / 6) c.args.set ≡ true = cc in
          let is : c.if-is_related.self ≡ put_in c.loop-cell.self (c.args.client * (old.sets * 6) + cell) 0 =
          w.self-is ∙ (w.put.ensures ∙ (rw (c.first_cell-first.ensures.first, c.sets-sets.ensures) refl)) in
          subst (λ (now : Table). Cleared script c.args.client c.args.set (cell + 1) old now) (sym is)
          (one_more_cleared script c.args.client c.args.set cell old c.loop-cell.self below related c.loop-cell.invariant)
      | else-is_related w ↦
          let unrelated : is_related script (cell / 6) c.args.set ≡ false = cc in
          subst (λ (now : Table). Cleared script c.args.client c.args.set (cell + 1) old now) (sym w.self-is)
          (one_more_left script c.args.client c.args.set cell old c.loop-cell.self unrelated c.loop-cell.invariant)
    ]

pub returns-then-client-clients : goal.returns-then-client-clients
returns-then-client-clients c = λ held counts.
    none_to_clear c.args.script.now c.args.client c.args.set c.args.self.now held (omega arith) counts

pub returns : goal.returns
returns c = λ held counts.
    let all : c.loop-cell.cell ≡ c.args.self.now.sets * 6 = omega arith in
    all_cleared c.args.script.now c.args.client c.args.set c.args.self.now c.loop-cell.self held
    (subst (λ (cell : ℕ). Cleared c.args.script.now c.args.client c.args.set cell c.args.self.now c.loop-cell.self) all c.loop-cell.invariant) counts
