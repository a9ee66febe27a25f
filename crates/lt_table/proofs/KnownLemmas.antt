-- The mask of the nodes that have a record: one bit of it, and one entry.
use Rattle.std.proofs.Common.{◌≡◌, ◌≢◌, ◌∙◌, ℕ, zero, suc, ◌-◌, ◌*◌, ◌%◌, ◌^◌, ◌<◌, ◌≤◌, inl, inr, Bool, true, false, Option, Some, None, IfSome, List, length, map, replicate, subst, sym, arith, refl, ap, not, slice_set, slice_index_or, bit_and, bit_or, w64, get_or-set_same, get_or-set_other}
use Rattle.std.specs.Int.{bit_at, bit_not, trailing_zeros}
use Rattle.std.proofs.lemmas.Bool.{cases_eq, cases_lt}
use Rattle.std.proofs.lemmas.List.{length-map}
use Rattle.std.proofs.lemmas.Nat.Bits.{bit_at-zero, bit_at-lt, bit_at_and, bit_at_set_same, bit_at_set_other, bit_at_clear_same, bit_at_clear_other, bit_at-trailing_zeros, ones_shl, bit_at_mask_inside, bit_at_mask_below}
use Rattle.std.proofs.lemmas.Nat.{and_le_l}
use Rattle.std.proofs.Math.ListN.{get_or-eq_default}
use Rattle.lt_modes.specs.State as rules
use Rattle.lt_modes.specs.State.{record_of, first_entry}
use Rattle.lt_modes.specs.Modes.{Modes, has_none}
use Rattle.lt_modes.specs.FiveModes.{bit_if}
use Rattle.lt_table.specs.declared.entry.Entry.{Entry}
use Rattle.lt_table.specs.Seen.{entry_seen}
use Rattle.lt_table.specs.TableData.{entry_at, has_record, AreRecorded, IsNextRecorded, IsNextBit, NoBitLeft}
use Rattle.lt_table.proofs.RecountLemmas.{entries_put, seen_at}

-- the mask with the bit of a number
pub with_bit : (mask n : ℕ) (has : Bool) → n < 64 → has ≡ true
    → (bit_at (bit_or mask (1 * 2 ^ n % 2 ^ 64)) n ≡ bit_if has 1) × ((i : ℕ) → i ≢ n → bit_at (bit_or mask (1 * 2 ^ n % 2 ^ 64)) i ≡ bit_at mask i)
with_bit mask n has h is = (
  bit_at_set_same w64 mask n h ∙ sym (ap (λ (b : Bool). bit_if b 1) is),
  λ i other. bit_at_set_other w64 mask n h i other,
)

-- and without it
pub without_bit : (mask n : ℕ) (has : Bool) → n < 64 → has ≡ false
    → (bit_at (bit_and mask (bit_not w64 (1 * 2 ^ n % 2 ^ 64))) n ≡ bit_if has 1)
    × ((i : ℕ) → i < 64 → i ≢ n → bit_at (bit_and mask (bit_not w64 (1 * 2 ^ n % 2 ^ 64))) i ≡ bit_at mask i)
without_bit mask n has h is = (
  bit_at_clear_same w64 mask n h ∙ sym (ap (λ (b : Bool). bit_if b 1) is),
  λ i below other. bit_at_clear_other w64 mask n h i below other,
)

-- the bits from a number on
abbrev from_bit : ℕ → ℕ
from_bit from = (2 ^ 64 - 1) * 2 ^ from % 2 ^ 64

inside : (from i : ℕ) → from < 64 → from ≤ i → i < 64 → bit_at (from_bit from) i ≡ 1
inside from i h late below = ap (λ (m : ℕ). bit_at m i) (ones_shl 64 from (omega (arith, h))) ∙ bit_at_mask_inside from 64 i late below

before : (from i : ℕ) → from < 64 → i < from → bit_at (from_bit from) i ≡ 0
before from i h early = ap (λ (m : ℕ). bit_at m i) (ones_shl 64 from (omega (arith, h))) ∙ bit_at_mask_below from 64 i early

off : (mask from i : ℕ) → from < 64 → from ≤ i → i < 64 → bit_at (bit_and mask (from_bit from)) i ≡ 0 → bit_at mask i ≡ 0
off mask from i h late below gone = omega (arith, gone, bit_at_and mask (from_bit from) i, inside from i h late below, bit_at-lt mask i)

pub next_found : (mask from : ℕ) → from < 64 → mask < 2 ^ 64 → (bit_and mask ((2 ^ 64 - 1) * 2 ^ from % 2 ^ 64) ≢ 0)
    → IsNextBit mask from (trailing_zeros w64 (bit_and mask ((2 ^ 64 - 1) * 2 ^ from % 2 ^ 64)))
next_found mask from h small some =
    let left = bit_and mask (from_bit from) in
    let place = trailing_zeros w64 left in
    let lowest = bit_at-trailing_zeros w64 left (omega (arith, some)) (omega (arith, small, and_le_l mask (from_bit from))) in
    let both = bit_at_and mask (from_bit from) place in
    let within : place < 64 = lowest.0 in
    record {
      after = elim (cases_lt place from) [
        | inl less ↦ absurd (omega (arith, both, lowest.1, before from place h less))
        | inr more ↦ more
      ];
      within = within;
      has = omega (arith, both, lowest.1, bit_at-lt mask place);
      none = λ i late less. off mask from i h late (omega (arith, less, within)) (lowest.2 i less);
    }

pub next_none : (mask from : ℕ) → from < 64 → bit_and mask ((2 ^ 64 - 1) * 2 ^ from % 2 ^ 64) ≡ 0 → NoBitLeft mask from
next_none mask from h none i late below =
    off mask from i h late below (ap (λ (n : ℕ). bit_at n i) none ∙ bit_at-zero i)

pub none_past : (mask from : ℕ) → 64 ≤ from → NoBitLeft mask from
none_past mask from h i late below = absurd (omega (arith, h, late, below))

-- ---- the mask of a table

is_true : (b : Bool) → bit_if b 1 ≡ 1 → b ≡ true
is_true true e = refl
is_true false e = absurd (omega (arith, e))

is_false : (b : Bool) → bit_if b 1 ≡ 0 → b ≡ false
is_false true e = absurd (omega (arith, e))
is_false false e = refl

past_none : (es : List rules.Entry) (x : ℕ) → length es ≤ x → has_record es x ≡ false
past_none es x h = ap (λ (e : rules.Entry). not (has_none (record_of e))) (get_or-eq_default es first_entry h)

known_within : (es : List rules.Entry) (x : ℕ) → has_record es x ≡ true → x < length es
known_within es x has = elim (cases_lt x (length es)) [
  | inl there ↦ there
  | inr out ↦ absurd (true_false (sym has ∙ past_none es x out))
]
  where
    true_false : true ≡ false → ⊥
    true_false e = cc

pub known_next : (es seen : List rules.Entry) (mask from x : ℕ) → es ≡ seen → AreRecorded es mask → IsNextBit mask from x → IsNextRecorded seen from x
known_next es seen mask from x same are next =
    subst (λ (all : List rules.Entry). IsNextRecorded all from x) same
    (let has = is_true (has_record es x) (sym (are.bits x next.within) ∙ next.has) in
    record {
      after = next.after;
      within = known_within es x has;
      has = has;
      none = λ i late less. is_false (has_record es i) (sym (are.bits i (omega (arith, less, next.within))) ∙ next.none i late less);
    })

pub some_known : (es seen : List rules.Entry) (mask from : ℕ) (found : Option ℕ) → es ≡ seen → AreRecorded es mask
    → IfSome found (IsNextBit mask from) → IfSome found (IsNextRecorded seen from)
some_known es seen mask from None same are next = next
some_known es seen mask from (Some x) same are next = known_next es seen mask from x same are next

first_at : (n x : ℕ) → entry_at (replicate n first_entry) x ≡ first_entry
first_at zero x = refl
first_at (suc n) zero = refl
first_at (suc n) (suc x) = first_at n x

-- before anything is told
pub none_at_first : (es : List rules.Entry) (n : ℕ) → es ≡ replicate n first_entry → AreRecorded es 0
none_at_first es n is = record {
  bits = λ x below. bit_at-zero x
      ∙ sym (ap (λ (all : List rules.Entry). bit_if (has_record all x) 1) is
      ∙ ap (λ (e : rules.Entry). bit_if (not (has_none (record_of e))) 1) (first_at n x));
}

-- one entry changed, and the bit of its node follows
pub known_kept : (es : List Entry) (mask made : ℕ) (x node : ℕ) (e new : Entry) (known : Modes) (has : Bool)
    → AreRecorded (map entry_seen es) mask → x ≡ node → x < length es → e ≡ slice_index_or es x e
    → known ≡ record_of (entry_seen new) → has ≡ not (has_none known)
    → (node < 64 → bit_at made node ≡ bit_if has 1) → ((i : ℕ) → i < 64 → i ≢ node → bit_at made i ≡ bit_at mask i)
    → AreRecorded (map entry_seen (slice_set es x new)) made
known_kept es mask made x node e new known has are same h there is_known is_has own others =
    let seen = map entry_seen es in
    let inside : x < length seen = omega (arith, h, length-map es entry_seen) in
    let now : has ≡ not (has_none (record_of (entry_seen new))) = is_has ∙ ap (λ (m : Modes). not (has_none m)) is_known in
    subst (λ (all : List rules.Entry). AreRecorded all made)
    (sym (entries_put (λ old. entry_seen new) es seen x x e new refl refl h there refl))
    (record {
      bits = λ i below. elim (cases_eq i node) [
        | inl own_place ↦
            let here : i ≡ x = own_place ∙ sym same in
            ap (λ (j : ℕ). bit_at made j) own_place
            ∙ own (omega (arith, below, own_place))
            ∙ ap (λ (b : Bool). bit_if b 1) now
            ∙ sym (ap (λ (j : ℕ). bit_if (has_record (slice_set seen x (entry_seen new)) j) 1) here
            ∙ ap (λ (old : rules.Entry). bit_if (not (has_none (record_of old))) 1) (get_or-set_same seen x (entry_seen new) first_entry inside))
        | inr other ↦
            others i below other
            ∙ are.bits i below
            ∙ sym (ap (λ (old : rules.Entry). bit_if (not (has_none (record_of old))) 1)
            (get_or-set_other seen x i (entry_seen new) first_entry (λ is. other (is ∙ same))))
      ];
    })

-- one entry changed, but not its record
pub known_same : (es : List Entry) (mask : ℕ) (x : ℕ) (e new : Entry) → AreRecorded (map entry_seen es) mask → x < length es → e ≡ slice_index_or es x e
    → record_of (entry_seen new) ≡ record_of (entry_seen e) → AreRecorded (map entry_seen (slice_set es x new)) mask
known_same es mask x e new are h there same =
    known_kept es mask mask x x e new (record_of (entry_seen new)) (not (has_none (record_of (entry_seen new)))) are refl h there refl refl
    (λ below. are.bits x below
    ∙ ap (λ (old : rules.Entry). bit_if (not (has_none (record_of old))) 1) (seen_at es x e h ∙ ap entry_seen (sym there))
    ∙ ap (λ (m : Modes). bit_if (not (has_none m)) 1) (sym same))
    (λ i below other. refl)
