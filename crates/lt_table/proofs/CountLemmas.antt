-- How many records have a mode: after one record changed, and without two of them.
use Rattle.std.proofs.Common.{◌≡◌, ◌≢◌, ◌∙◌, ℕ, zero, suc, ◌+◌, ◌<◌, ◌≤◌, inl, inr, Bool, true, false, List, length, take, subst, sym, add-one, arith, refl, ap, ◌⊎◌, ◌||◌, ◌&&◌, ◌==◌, if◌then◌else◌, nat_lt, slice_set, sum_by, replicate, eq-eqb, ne_eqb, lt-ltb, length-set, take_all}
use Rattle.std.proofs.lemmas.Bool.{cases_eq, cases_lt}
use Rattle.std.proofs.lemmas.Bool.Decides.{nat_tests}
use Rattle.std.proofs.Math.ListN.{get_or-eq_default}
use Rattle.std.proofs.lemmas.List.Sums.{sum_by-set, sum_by-cons, sum_by_more, get_or-le-sum_by, count_by-le-length}
use Rattle.lt_modes.specs.declared.mode.Mode.{Mode}
use Rattle.lt_modes.specs.Modes.{has, union, no_modes}
use Rattle.lt_modes.specs.State.{SetState, Desk, Entry, first_entry, record_of, own_part, others_below, others}
use Rattle.lt_table.specs.TableData.{entry_at, AreNodeCounts}
use Rattle.lt_modes.proofs.ModeAlgebra.{has-modes_by, same_members, has-union, has-no_modes}
use Rattle.lt_modes.specs.FiveModes.{mode_count, count_if, CanShift, IsShifted, modes_beyond}

-- whether the entry's record has the mode, as a number
abbrev weight : Mode → Entry → ℕ
weight mode entry = if has mode (record_of entry) then 1 else 0

pub can_shift : (es : List Entry) (counts : List ℕ) (x : ℕ) (new : Entry) → length es < 256 → AreNodeCounts es counts → x < length es
    → (mode : Mode) → CanShift counts (record_of (entry_at es x)) (record_of new) mode
can_shift es counts x new few are h mode =
    let changed = sum_by-set (weight mode) es x new first_entry h in
    record {
      there = omega (arith, are mode, get_or-le-sum_by (weight mode) es x first_entry h);
      within = omega (arith, are mode, changed, count_by-le-length (λ (e : Entry). has mode (record_of e)) (slice_set es x new), length-set es x new, few);
    }

pub shifted_are : (es : List Entry) (counts made : List ℕ) (x : ℕ) (new : Entry) → AreNodeCounts es counts → x < length es
    → ((mode : Mode) → IsShifted counts (record_of (entry_at es x)) (record_of new) mode (mode_count mode made))
    → AreNodeCounts (slice_set es x new) made
shifted_are es counts made x new are h shifted mode =
    omega (arith, are mode, shifted mode, sum_by-set (weight mode) es x new first_entry h)

-- how many of the first n records have the mode, without those of v and me
rest : Mode → List Entry → ℕ → ℕ → ℕ → ℕ
rest mode es v me zero = 0
rest mode es v me (suc n) =
    rest mode es v me n + (if n == v then 0 else if n == me then 0 else weight mode (entry_at es n))

-- what node x adds to the first n
part : Mode → List Entry → ℕ → ℕ → ℕ
part mode es x n = if nat_lt x n then weight mode (entry_at es x) else 0

lt_false : (a b : ℕ) → b ≤ a → nat_lt a b ≡ false
lt_false a b h = grind (arith, nat_tests)

lt_later : (x n : ℕ) → n ≢ x → nat_lt x (suc n) ≡ nat_lt x n
lt_later x n d = grind (arith, nat_tests)

part_before : (mode : Mode) (es : List Entry) (x n : ℕ) → n ≤ x → part mode es x n ≡ 0
unfolding part
part_before mode es x n h = rw (lt_false x n h) refl

part_there : (mode : Mode) (es : List Entry) (x n : ℕ) → x < n → part mode es x n ≡ weight mode (entry_at es x)
unfolding part
part_there mode es x n h = rw (lt-ltb x n h) refl

part_later : (mode : Mode) (es : List Entry) (x n : ℕ) → n ≢ x → part mode es x (suc n) ≡ part mode es x n
unfolding part
part_later mode es x n d = rw (lt_later x n d) refl

-- of the first n records, the rest and what the two nodes add
counted : (mode : Mode) (es : List Entry) (v me n : ℕ) → n ≤ length es → me ≢ v
    → sum_by (weight mode) (take n es) ≡ rest mode es v me n + part mode es v n + part mode es me n
unfolding rest
counted mode es v me zero h d = omega (arith, part_before mode es v 0 (omega arith), part_before mode es me 0 (omega arith))
counted mode es v me (suc n) h d =
    let before = counted mode es v me n (omega (arith, h)) d in
    let more : sum_by (weight mode) (take (suc n) es) ≡ sum_by (weight mode) (take n es) + weight mode (entry_at es n) =
    subst (λ (k : ℕ). sum_by (weight mode) (take k es) ≡ sum_by (weight mode) (take n es) + weight mode (entry_at es n)) (add-one n)
    (sum_by_more (weight mode) es n first_entry (omega (arith, h))) in
    elim (cases_eq n v) [
      | inl e ↦
          let here : ◌≡◌ {A = ℕ} (if n == v then 0 else if n == me then 0 else weight mode (entry_at es n)) 0 = rw (eq-eqb n v e) refl in
          omega (
            arith,
            before,
            more,
            here,
            part_before mode es v n (omega (arith, e)),
            part_there mode es v (suc n) (omega (arith, e)),
            ap (λ k. weight mode (entry_at es k)) e,
            part_later mode es me n (λ same. d (sym same ∙ e)),
          )
      | inr other ↦ elim (cases_eq n me) [
        | inl e ↦
            let here : ◌≡◌ {A = ℕ} (if n == v then 0 else if n == me then 0 else weight mode (entry_at es n)) 0 = rw (ne_eqb n v other, eq-eqb n me e) refl in
            omega (
              arith,
              before,
              more,
              here,
              part_before mode es me n (omega (arith, e)),
              part_there mode es me (suc n) (omega (arith, e)),
              ap (λ k. weight mode (entry_at es k)) e,
              part_later mode es v n other,
            )
        | inr another ↦
            let here : ◌≡◌ {A = ℕ} (if n == v then 0 else if n == me then 0 else weight mode (entry_at es n)) (weight mode (entry_at es n)) =
            rw (ne_eqb n v other, ne_eqb n me another) refl in
            omega (arith, before, more, here, part_later mode es v n other, part_later mode es me n another)
      ]
    ]

more_or : (r : ℕ) (b : Bool) → nat_lt 0 (r + (if b then 1 else 0)) ≡ (nat_lt 0 r || b)
more_or r true = grind (arith, nat_tests)
more_or r false = grind (arith, nat_tests)

or_none : (a b : Bool) → b ≡ false → (a || b) ≡ a
or_none true b e = refl
or_none false b e = e

-- where the desk's node counts for nothing apart
plain : (mode : Mode) (s : SetState) (desk : Desk) (v me other n : ℕ) → n ≤ length desk.entries → length desk.entries ≤ other
    → (me ≡ v) ⊎ (length desk.entries ≤ me)
    → has mode (others_below n me s desk v) ≡ nat_lt 0 (rest mode desk.entries v other n)
unfolding rest
plain mode s desk v me other zero h out apart = has-no_modes mode
plain mode s desk v me other (suc n) h out apart =
    let es = desk.entries in
    let before = plain mode s desk v me other n (omega (arith, h)) out apart in
    elim (cases_eq n v) [
      | inl e ↦
          rw (eq-eqb n v e)
          (has-union mode (others_below n me s desk v) no_modes ∙ (or_none _ _ (has-no_modes mode) ∙ (before ∙ ap (λ (k : ℕ). nat_lt 0 k) (omega arith))))
      | inr d ↦
          let away : n ≢ me = λ same. elim apart [
            | inl is ↦ d (same ∙ is)
            | inr far ↦ omega (arith, far, h, same)
          ] in
          rw (ne_eqb n v d, ne_eqb n me away, ne_eqb n other (λ same. omega (arith, same, h, out)))
          (has-union mode (others_below n me s desk v) (record_of (entry_at es n))
          ∙ (ap (λ (b : Bool). b || has mode (record_of (entry_at es n))) before ∙ sym (more_or (rest mode es v other n) (has mode (record_of (entry_at es n))))))
    ]

or_in_turn : (a b c : Bool) → ((a || b) || c) ≡ ((a || c) || b)
or_in_turn true b c = refl
or_in_turn false true true = refl
or_in_turn false true false = refl
or_in_turn false false true = refl
or_in_turn false false false = refl

or_left_out : (a b c : Bool) → b ≡ false → ((a || b) || c) ≡ (a || c)
or_left_out true b c e = refl
or_left_out false b c e = rw e refl

-- where it counts with its own part
apart : (mode : Mode) (s : SetState) (desk : Desk) (v me n : ℕ) → me ≢ v
    → has mode (others_below n me s desk v) ≡ (nat_lt 0 (rest mode desk.entries v me n) || (nat_lt me n && has mode (own_part me s desk)))
unfolding rest
apart mode s desk v me zero d = has-no_modes mode ∙ sym (ap (λ (b : Bool). b && has mode (own_part me s desk)) (lt_false me 0 (omega arith)))
apart mode s desk v me (suc n) d =
    let es = desk.entries in
    let own = has mode (own_part me s desk) in
    let before = apart mode s desk v me n d in
    elim (cases_eq n v) [
      | inl e ↦
          rw (eq-eqb n v e, lt_later me n (λ same. d (sym same ∙ e)))
          (has-union mode (others_below n me s desk v) no_modes
          ∙ (or_none _ _ (has-no_modes mode) ∙ (before ∙ ap (λ (k : ℕ). nat_lt 0 k || (nat_lt me n && own)) (omega arith))))
      | inr other ↦ elim (cases_eq n me) [
        | inl e ↦
            rw (ne_eqb n v other, eq-eqb n me e, lt-ltb me (suc n) (omega (arith, e)))
            (has-union mode (others_below n me s desk v) (own_part me s desk)
            ∙ (ap (λ (b : Bool). b || own) before
            ∙ (or_left_out (nat_lt 0 (rest mode es v me n)) (nat_lt me n && own) own (ap (λ (b : Bool). b && own) (lt_false me n (omega (arith, e))))
            ∙ ap (λ (k : ℕ). nat_lt 0 k || own) (omega arith))))
        | inr another ↦
            rw (ne_eqb n v other, ne_eqb n me another, lt_later me n another)
            (has-union mode (others_below n me s desk v) (record_of (entry_at es n))
            ∙ (ap (λ (b : Bool). b || has mode (record_of (entry_at es n))) before
            ∙ (or_in_turn (nat_lt 0 (rest mode es v me n)) (nat_lt me n && own) (has mode (record_of (entry_at es n)))
            ∙ ap (λ (b : Bool). b || (nat_lt me n && own)) (sym (more_or (rest mode es v me n) (has mode (record_of (entry_at es n))))))))
      ]
    ]

out_of : (es : List Entry) (x : ℕ) → length es ≤ x → entry_at es x ≡ first_entry
out_of es x h = get_or-eq_default es first_entry h

-- an entry that is there adds what it weighs, and one that isn't has no modes
part_all : (mode : Mode) (es : List Entry) (x : ℕ) → part mode es x (length es) ≡ weight mode (entry_at es x)
part_all mode es x = elim (cases_lt x (length es)) [
  | inl there ↦ part_there mode es x (length es) there
  | inr out ↦ part_before mode es x (length es) out ∙ sym (ap (weight mode) (out_of es x out) ∙ ap (λ (b : Bool). if b then 1 else 0) (has-no_modes mode))
]

more_than : (a b r c : ℕ) → c ≡ r + a + b → nat_lt (a + b) c ≡ nat_lt 0 r
more_than a b r c e = grind (arith, nat_tests)

-- what counts of the others, where the desk's node is one of them
pub others_apart : (counts : List ℕ) (me v : ℕ) (s : SetState) (desk : Desk) → AreNodeCounts desk.entries counts → me ≢ v → me < length desk.entries
    → union (modes_beyond counts (record_of (entry_at desk.entries v)) (record_of (entry_at desk.entries me))) (own_part me s desk) ≡ others me s desk v
others_apart counts me v s desk are d h = same_members _ _ (λ mode.
    let es = desk.entries in
    let n = length es in
    let at_v = record_of (entry_at es v) in
    let at_me = record_of (entry_at es me) in
    let count : mode_count mode counts ≡ rest mode es v me n + weight mode (entry_at es v) + weight mode (entry_at es me) =
    omega (arith, are mode, counted mode es v me n (omega arith) d, part_all mode es v, part_all mode es me, ap (sum_by (weight mode)) (take_all n es (omega arith))) in
    has-union mode (modes_beyond counts at_v at_me) (own_part me s desk)
    ∙ (ap (λ (b : Bool). b || has mode (own_part me s desk))
    (has-modes_by (λ m. nat_lt (count_if (has m at_v) + count_if (has m at_me)) (mode_count m counts)) mode
    ∙ more_than (weight mode (entry_at es v)) (weight mode (entry_at es me)) (rest mode es v me n) (mode_count mode counts) count)
    ∙ sym (apart mode s desk v me n d ∙ ap (λ (b : Bool). nat_lt 0 (rest mode es v me n) || (b && has mode (own_part me s desk))) (lt-ltb me n h))))

-- and where it isn't
pub others_plain : (counts : List ℕ) (me v : ℕ) (s : SetState) (desk : Desk) → AreNodeCounts desk.entries counts → (me ≡ v) ⊎ (length desk.entries ≤ me)
    → modes_beyond counts (record_of (entry_at desk.entries v)) no_modes ≡ others me s desk v
others_plain counts me v s desk are none = same_members _ _ (λ mode.
    let es = desk.entries in
    let n = length es in
    let other = suc (v + n) in
    let at_v = record_of (entry_at es v) in
    let count : mode_count mode counts ≡ rest mode es v other n + weight mode (entry_at es v) + 0 =
    omega (
      arith,
      are mode,
      counted mode es v other n (omega arith) (λ e. omega (arith, e)),
      part_all mode es v,
      part_before mode es other n (omega arith),
      ap (sum_by (weight mode)) (take_all n es (omega arith)),
    ) in
    has-modes_by (λ m. nat_lt (count_if (has m at_v) + count_if (has m no_modes)) (mode_count m counts)) mode
    ∙ (ap (λ (b : Bool). nat_lt (weight mode (entry_at es v) + (if b then 1 else 0)) (mode_count mode counts)) (has-no_modes mode)
    ∙ (more_than (weight mode (entry_at es v)) 0 (rest mode es v other n) (mode_count mode counts) count
    ∙ sym (plain mode s desk v me other n (omega arith) (omega arith) none))))

-- ---- before anything is told

no_record : (mode : Mode) → weight mode first_entry ≡ 0
no_record mode =
    let none : has mode (union no_modes no_modes) ≡ false =
    has-union mode no_modes no_modes ∙ ap (λ (b : Bool). b || has mode no_modes) (has-no_modes mode) ∙ has-no_modes mode in
    ap (λ (b : Bool). if b then 1 else 0) none

none_in_first : (mode : Mode) (n : ℕ) → sum_by (weight mode) (replicate n first_entry) ≡ 0
none_in_first mode zero = refl
none_in_first mode (suc n) =
    omega (arith, sum_by-cons (weight mode) first_entry (replicate n first_entry), no_record mode, none_in_first mode n)

pub first_counts : (es : List Entry) (counts : List ℕ) (n : ℕ) → es ≡ replicate n first_entry → ((mode : Mode) → mode_count mode counts ≡ 0)
    → AreNodeCounts es counts
first_counts es counts n is none mode =
    none mode ∙ sym (ap (λ (xs : List Entry). sum_by (weight mode) xs) is ∙ none_in_first mode n)
