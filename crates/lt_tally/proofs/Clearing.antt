-- What the table counts as the cells of a client's locks in a family are cleared, one after the other.
use Rattle.std.proofs.Common.{◌≡◌, subst, ℕ, ◌+◌, cond, Bool, true, false, List, length, refl, sym, ap, ◌∙◌, arith, filter, ◌<◌, ◌≢◌, ◌*◌, ◌/◌, ◌%◌, ◌≤◌, inl, inr, get_or, set, length-set, get_or-set_same, get_or-set_other, ◌==◌, not, eqb-true, ne_eqb}
use Rattle.std.proofs.lemmas.Bool.{eqb-false, cases_lt}
use Rattle.std.proofs.lemmas.Bool.Decides.{eqb_tells}
use Rattle.std.proofs.lemmas.List.{get_or_past}
use Rattle.std.proofs.lemmas.Nat.{div-mul-add, mod-mul-add}
use Rattle.lt_modes.specs.Script.{ScriptData}
use Rattle.lt_spec.specs.Holdings.{Holding, is_dropped, times_held}
use Rattle.lt_spec.specs.NodeMove.{is_related}
use Rattle.lt_tally.specs.LockTable.{mode_place, Table, cell_of, HasCell, Counts}
use Rattle.lt_tally.proofs.Counting.{count_of-kept, place_of-few}

-- the place of a lock's cell among those of its client
abbrev pub place_in : Holding → ℕ
place_in lock = lock.set * 6 + mode_place lock.mode

-- two places in rows of so many are one only where they stand in one row
pub same_row : (room a b c d : ℕ) → b < room → d < room → a * room + b ≡ c * room + d → (a ≡ c) × (b ≡ d)
same_row room a b c d in_b in_d same = (
  sym (div-mul-add a room b in_b) ∙ (ap (λ (n : ℕ). n / room) same ∙ div-mul-add c room d in_d),
  sym (mod-mul-add a room b in_b) ∙ (ap (λ (n : ℕ). n % room) same ∙ mod-mul-add c room d in_d),
)

pub place_in-few : (sets : ℕ) (lock : Holding) → lock.set < sets → place_in lock < sets * 6
place_in-few sets lock has = omega (arith, place_of-few lock.mode)

-- the table with this in place of what stands in one cell
abbrev pub put_in : Table → ℕ → ℕ → Table
put_in table place count = record { sets = table.sets; cells = set table.cells place count }

-- of the client's cells, those before this one are cleared where their set is of the family, and no others are
pub record Cleared (script : ScriptData) (client lock_set cell : ℕ) (old now : Table) : Type 0 where
  pub sets : now.sets ≡ old.sets
  pub room : length now.cells ≡ length old.cells
  pub dropped : (lock : Holding) → lock.set < old.sets → lock.client ≡ client → is_related script lock.set lock_set ≡ true → place_in lock < cell → get_or now.cells (cell_of old.sets lock) 0 ≡ 0
  pub unrelated : (lock : Holding) → lock.set < old.sets → is_related script lock.set lock_set ≡ false → get_or now.cells (cell_of old.sets lock) 0 ≡ get_or old.cells (cell_of old.sets lock) 0
  pub others : (lock : Holding) → lock.set < old.sets → lock.client ≢ client → get_or now.cells (cell_of old.sets lock) 0 ≡ get_or old.cells (cell_of old.sets lock) 0

get_or-cleared : (cells : List ℕ) (place : ℕ) → get_or (set cells place 0) place 0 ≡ 0
get_or-cleared cells place = elim (cases_lt place (length cells)) [
  | inl inside ↦ get_or-set_same cells place 0 0 inside
  | inr past ↦
      let room = length-set cells place 0 in
      get_or_past (set cells place 0) place 0 (omega arith)
]

pub none_cleared : (script : ScriptData) (client lock_set : ℕ) (table : Table) → Cleared script client lock_set 0 table table
none_cleared script client lock_set table = record {
  sets = refl;
  room = refl;
  dropped = λ lock has same related before. absurd (omega arith);
  unrelated = λ lock has apart. refl;
  others = λ lock has apart. refl;
}

pub one_more_cleared : (script : ScriptData) (client lock_set cell : ℕ) (old now : Table) → cell < old.sets * 6
    → is_related script (cell / 6) lock_set ≡ true → Cleared script client lock_set cell old now
    → Cleared script client lock_set (cell + 1) old (put_in now (client * (old.sets * 6) + cell) 0)
one_more_cleared script client lock_set cell old now below related so_far =
    let place = client * (old.sets * 6) + cell in
    record {
      sets = so_far.sets;
      room = length-set now.cells place 0 ∙ so_far.room;
      dropped = λ lock has same its_related before. elim (eqb_tells (place_in lock) cell) [
        | inl equal ↦
            let at : cell_of old.sets lock ≡ place = λ i. same i * (old.sets * 6) + equal.1 i in
            ap (λ (k : ℕ). get_or (set now.cells place 0) k 0) at ∙ get_or-cleared now.cells place
        | inr differ ↦ elsewhere place lock (λ e. differ.1 (in_row lock has e).1) ∙ so_far.dropped lock has same its_related (omega arith)
      ];
      unrelated = λ lock has its_related. elsewhere place lock (λ e. of_family lock its_related (in_row lock has e).1) ∙ so_far.unrelated lock has its_related;
      others = λ lock has differ. elsewhere place lock (λ e. differ (in_row lock has e).0) ∙ so_far.others lock has differ;
    }
  where
    in_row : (lock : Holding) → lock.set < old.sets → cell_of old.sets lock ≡ client * (old.sets * 6) + cell → (lock.client ≡ client) × (place_in lock ≡ cell)
    in_row lock has e = same_row (old.sets * 6) lock.client (place_in lock) client cell (place_in-few old.sets lock has) below e

    elsewhere : (place : ℕ) (lock : Holding) → cell_of old.sets lock ≢ place → get_or (set now.cells place 0) (cell_of old.sets lock) 0 ≡ get_or now.cells (cell_of old.sets lock) 0
    elsewhere place lock apart = get_or-set_other now.cells place (cell_of old.sets lock) 0 0 apart

    of_family : (lock : Holding) → is_related script lock.set lock_set ≡ false → place_in lock ≡ cell → ⊥
    of_family lock its_related equal =
        let few_modes = place_of-few lock.mode in
        let its_set : lock.set ≡ cell / 6 = omega arith in
        let is_so = ap (λ (n : ℕ). is_related script n lock_set) its_set in
        cc

pub one_more_left : (script : ScriptData) (client lock_set cell : ℕ) (old now : Table)
    → is_related script (cell / 6) lock_set ≡ false → Cleared script client lock_set cell old now
    → Cleared script client lock_set (cell + 1) old now
one_more_left script client lock_set cell old now unrelated so_far = record {
  sets = so_far.sets;
  room = so_far.room;
  dropped = λ lock has same its_related before. elim (eqb_tells (place_in lock) cell) [
    | inl equal ↦
        let few_modes = place_of-few lock.mode in
        let its_set : lock.set ≡ cell / 6 = omega arith in
        let is_so = ap (λ (n : ℕ). is_related script n lock_set) its_set in
        cc
    | inr differ ↦ so_far.dropped lock has same its_related (omega arith)
  ];
  unrelated = so_far.unrelated;
  others = so_far.others;
}

kept_when : (script : ScriptData) (client lock_set : ℕ) (held : List Holding) (lock : Holding) (kept : Bool) → not (is_dropped script client lock_set lock) ≡ kept
    → times_held (filter (λ lock. not (is_dropped script client lock_set lock)) held) lock ≡ cond kept (times_held held lock) 0
kept_when script client lock_set held lock kept e =
    count_of-kept script client lock_set lock held ∙ ap (λ (b : Bool). cond b (times_held held lock) 0) e

pub all_cleared : (script : ScriptData) (client lock_set : ℕ) (old now : Table) (held : List Holding)
    → Cleared script client lock_set (old.sets * 6) old now → Counts script old held
    → Counts script now (filter (λ lock. not (is_dropped script client lock_set lock)) held)
all_cleared script client lock_set old now held cleared counts = record {
  sets = cleared.sets ∙ counts.sets;
  room = cleared.room ∙ (counts.room ∙ ap (λ (sets : ℕ). length script.clients * (sets * 6)) (sym cleared.sets));
  count = λ lock has.
      ap (λ (sets : ℕ). get_or now.cells (cell_of sets lock) 0) cleared.sets
      ∙ by_test lock has (lock.client == client) (is_related script lock.set lock_set) refl refl;
}
  where
    inside : (lock : Holding) → HasCell script lock → lock.set < old.sets
    inside lock has = subst (λ (sets : ℕ). lock.set < sets) (sym counts.sets) has.1

    by_test : (lock : Holding) → HasCell script lock → (same related : Bool) → lock.client == client ≡ same → is_related script lock.set lock_set ≡ related
        → get_or now.cells (cell_of old.sets lock) 0 ≡ times_held (filter (λ lock. not (is_dropped script client lock_set lock)) held) lock
    by_test lock has true true e f =
        let gone : not (is_dropped script client lock_set lock) ≡ false = rw (e, f) refl in
        cleared.dropped lock (inside lock has) (eqb-true lock.client client e) f (place_in-few old.sets lock (inside lock has))
        ∙ sym (kept_when script client lock_set held lock false gone)
    by_test lock has true false e f =
        let kept : not (is_dropped script client lock_set lock) ≡ true = rw (e, f) refl in
        cleared.unrelated lock (inside lock has) f ∙ (counts.count lock has ∙ sym (kept_when script client lock_set held lock true kept))
    by_test lock has false related e f =
        let kept : not (is_dropped script client lock_set lock) ≡ true = rw e refl in
        cleared.others lock (inside lock has) (eqb-false lock.client client e) ∙ (counts.count lock has ∙ sym (kept_when script client lock_set held lock true kept))

pub none_to_clear : (script : ScriptData) (client lock_set : ℕ) (table : Table) (held : List Holding) → length script.clients ≤ client
    → Counts script table held → Counts script table (filter (λ lock. not (is_dropped script client lock_set lock)) held)
none_to_clear script client lock_set table held beyond counts = record {
  sets = counts.sets;
  room = counts.room;
  count = λ lock has.
      let other : lock.client == client ≡ false = ne_eqb lock.client client (λ (e : lock.client ≡ client). (omega arith)) in
      let kept : not (is_dropped script client lock_set lock) ≡ true = rw other refl in
      counts.count lock has ∙ sym (kept_when script client lock_set held lock true kept);
}
