-- What one change of the table does to what it counts.
use Rattle.std.proofs.Common.{◌≡◌, ◌≢◌, ℕ, ◌+◌, ◌-◌, ◌*◌, ◌^◌, ◌<◌, cond, Bool, true, false, List, [], ◌∷◌, ◌++◌, length, get_or, set, refl, sym, ap, subst, ◌∙◌, arith, length-set, get_or-set_same, get_or-set_other}
use Rattle.std.proofs.lemmas.Nat.{mul-le, mul-add-lt}
use Rattle.std.proofs.Math.Nat.{mul_comm}
use Rattle.lt_modes.specs.Script.{ScriptData}
use Rattle.lt_spec.specs.Holdings.{Holding, same_holding, without_one, times_held}
use Rattle.lt_tally.specs.LockTable.{mode_place, Table, cell_of, HasCell, Counts}
use Rattle.lt_tally.proofs.Counting.{same_holding-equal, same_holding-itself, count_of-without, count_of-more, place_of-few, same_place}
use Rattle.lt_tally.proofs.Clearing.{place_in, same_row, place_in-few, put_in}

-- no table has more cells than a number can say
pub few_cells : (clients sets : ℕ) → clients < 2 ^ 16 → sets < 2 ^ 32 → clients * (sets * 6) < 2 ^ 51
few_cells clients sets few_clients few_sets =
    let most = mul-le clients (sets * 6) 65535 25769803770 (omega arith) (omega arith) in
    omega (arith, most)

pub cell_of-apart : (sets : ℕ) (a b : Holding) → a.set < sets → b.set < sets → same_holding a b ≡ false → cell_of sets b ≢ cell_of sets a
cell_of-apart sets a b in_a in_b e same =
    let row = same_row (sets * 6) b.client (place_in b) a.client (place_in a) (place_in-few sets b in_b) (place_in-few sets a in_a) same in
    let of_a = place_of-few a.mode in
    let of_b = place_of-few b.mode in
    let alike : place_in b ≡ place_in a = row.1 in
    let client : a.client ≡ b.client = sym row.0 in
    let lock_set : a.set ≡ b.set = omega arith in
    let place : mode_place a.mode ≡ mode_place b.mode = omega arith in
    let mode : a.mode ≡ b.mode = same_place a.mode b.mode place in
    let equal : a ≡ b = λ i. record { client = client i; set = lock_set i; mode = mode i } in
    let yes : same_holding a b ≡ true = subst (λ (x : Holding). same_holding a x ≡ true) equal (same_holding-itself a) in
    cc

-- the cell of a lock of the script is among the table's
pub cell_of-inside : (script : ScriptData) (table : Table) (held : List Holding) (lock : Holding) → Counts script table held → HasCell script lock → cell_of table.sets lock < length table.cells
cell_of-inside script table held lock counts has =
    let in_sets : lock.set < table.sets = omega (arith, counts.sets, has.1) in
    let within = mul-add-lt lock.client (table.sets * 6) (place_in lock) (length script.clients) has.0 (place_in-few table.sets lock in_sets) in
    subst (λ (n : ℕ). cell_of table.sets lock < n) (mul_comm (table.sets * 6) (length script.clients) ∙ sym counts.room) within

without_same : (lock : Holding) (held : List Holding) (other : Holding) → same_holding lock other ≡ true → times_held (without_one held lock) other ≡ times_held held other - 1
without_same lock held other e =
    count_of-without lock other held ∙ ap (λ (b : Bool). cond b (times_held held other - 1) (times_held held other)) e

without_other : (lock : Holding) (held : List Holding) (other : Holding) → same_holding lock other ≡ false → times_held (without_one held lock) other ≡ times_held held other
without_other lock held other e =
    count_of-without lock other held ∙ ap (λ (b : Bool). cond b (times_held held other - 1) (times_held held other)) e

-- one less in the lock's cell
pub less_in_cell : (script : ScriptData) (table : Table) (held : List Holding) (lock : Holding) → HasCell script lock
    → Counts script table held → Counts script (put_in table (cell_of table.sets lock) (get_or table.cells (cell_of table.sets lock) 0 - 1)) (without_one held lock)
less_in_cell script table held lock has counts = record {
  sets = counts.sets;
  room = length-set table.cells (cell_of table.sets lock) (get_or table.cells (cell_of table.sets lock) 0 - 1) ∙ counts.room;
  count = λ other has_other. by_test other has_other (same_holding lock other) refl;
}
  where
    by_test : (other : Holding) → HasCell script other → (b : Bool) → same_holding lock other ≡ b
        → get_or (set table.cells (cell_of table.sets lock) (get_or table.cells (cell_of table.sets lock) 0 - 1)) (cell_of table.sets other) 0 ≡ times_held (without_one held lock) other
    by_test other has_other true e =
        let alike : cell_of table.sets other ≡ cell_of table.sets lock = ap (cell_of table.sets) (sym (same_holding-equal lock other e)) in
        let inside : cell_of table.sets lock < length table.cells = cell_of-inside script table held lock counts has in
        let now = get_or-set_same table.cells (cell_of table.sets lock) (get_or table.cells (cell_of table.sets lock) 0 - 1) 0 inside in
        ap (λ (k : ℕ). get_or (set table.cells (cell_of table.sets lock) (get_or table.cells (cell_of table.sets lock) 0 - 1)) k 0) alike
        ∙ (now
        ∙ (ap (λ (k : ℕ). get_or table.cells k 0 - 1) (sym alike)
        ∙ (ap (λ (n : ℕ). n - 1) (counts.count other has_other)
        ∙ sym (without_same lock held other e))))
    by_test other has_other false e =
        let apart = cell_of-apart table.sets lock other (omega (arith, counts.sets, has.1)) (omega (arith, counts.sets, has_other.1)) e in
        get_or-set_other table.cells (cell_of table.sets lock) (cell_of table.sets other) (get_or table.cells (cell_of table.sets lock) 0 - 1) 0 apart
        ∙ (counts.count other has_other ∙ sym (without_other lock held other e))

with_same : (lock : Holding) (held : List Holding) (other : Holding) → same_holding other lock ≡ true → times_held (held ++ lock ∷ []) other ≡ times_held held other + 1
with_same lock held other e = count_of-more lock other held ∙ ap (λ (b : Bool). times_held held other + cond b 1 0) e

with_other : (lock : Holding) (held : List Holding) (other : Holding) → same_holding other lock ≡ false → times_held (held ++ lock ∷ []) other ≡ times_held held other
with_other lock held other e =
    count_of-more lock other held ∙ (ap (λ (b : Bool). times_held held other + cond b 1 0) e ∙ (omega arith))

-- one more in the lock's cell
pub more_in_cell : (script : ScriptData) (table : Table) (held : List Holding) (lock : Holding) → HasCell script lock
    → Counts script table held → Counts script (put_in table (cell_of table.sets lock) (get_or table.cells (cell_of table.sets lock) 0 + 1)) (held ++ lock ∷ [])
more_in_cell script table held lock has counts = record {
  sets = counts.sets;
  room = length-set table.cells (cell_of table.sets lock) (get_or table.cells (cell_of table.sets lock) 0 + 1) ∙ counts.room;
  count = λ other has_other. by_test other has_other (same_holding other lock) refl;
}
  where
    by_test : (other : Holding) → HasCell script other → (b : Bool) → same_holding other lock ≡ b
        → get_or (set table.cells (cell_of table.sets lock) (get_or table.cells (cell_of table.sets lock) 0 + 1)) (cell_of table.sets other) 0 ≡ times_held (held ++ lock ∷ []) other
    by_test other has_other true e =
        let alike : cell_of table.sets other ≡ cell_of table.sets lock = ap (cell_of table.sets) (same_holding-equal other lock e) in
        let inside : cell_of table.sets lock < length table.cells = cell_of-inside script table held lock counts has in
        let now = get_or-set_same table.cells (cell_of table.sets lock) (get_or table.cells (cell_of table.sets lock) 0 + 1) 0 inside in
        ap (λ (k : ℕ). get_or (set table.cells (cell_of table.sets lock) (get_or table.cells (cell_of table.sets lock) 0 + 1)) k 0) alike
        ∙ (now
        ∙ (ap (λ (k : ℕ). get_or table.cells k 0 + 1) (sym alike)
        ∙ (ap (λ (n : ℕ). n + 1) (counts.count other has_other)
        ∙ sym (with_same lock held other e))))
    by_test other has_other false e =
        let apart = cell_of-apart table.sets other lock (omega (arith, counts.sets, has_other.1)) (omega (arith, counts.sets, has.1)) e in
        get_or-set_other table.cells (cell_of table.sets lock) (cell_of table.sets other) (get_or table.cells (cell_of table.sets lock) 0 + 1) 0 (λ same. apart (sym same))
        ∙ (counts.count other has_other ∙ sym (with_other lock held other e))

-- a lock that has no cell isn't counted
pub less_elsewhere : (script : ScriptData) (table : Table) (held : List Holding) (lock : Holding) → (HasCell script lock → ⊥)
    → Counts script table held → Counts script table (without_one held lock)
less_elsewhere script table held lock none counts = record {
  sets = counts.sets;
  room = counts.room;
  count = λ other has_other. by_test other has_other (same_holding lock other) refl;
}
  where
    by_test : (other : Holding) → HasCell script other → (b : Bool) → same_holding lock other ≡ b
        → get_or table.cells (cell_of table.sets other) 0 ≡ times_held (without_one held lock) other
    by_test other has_other true e =
        absurd (none (subst (λ (x : Holding). HasCell script x) (sym (same_holding-equal lock other e)) has_other))
    by_test other has_other false e = counts.count other has_other ∙ sym (without_other lock held other e)
