-- One bit of four words.
use Rattle.std.proofs.Common.{◌≡◌, ◌≢◌, ◌<◌, ◌≤◌, ◌+◌, ◌-◌, ◌*◌, ◌/◌, ◌%◌, ◌^◌, ◌==◌, ◌∙◌, ℕ, Bool, true, false, List, inl, inr, sym, ap, subst, arith, length, slice_index_or, slice_set, bit_and, bit_or, w64, eq-eqb, get_or-set_same, get_or-set_other}
use Rattle.std.specs.Int.{bit_at, bit_not, trailing_zeros}
use Rattle.std.proofs.lemmas.Bool.{cases_eq, cases_lt}
use Rattle.std.proofs.lemmas.List.{get_or_past}
use Rattle.std.proofs.lemmas.Nat.Bits.{bit_at-zero, bit_at-lt, bit_at_and, bit_at_set_same, bit_at_set_other, bit_at_clear_same, bit_at_clear_other, bit_at-trailing_zeros, ones_shl, bit_at_ones, bit_at_mask_inside, bit_at_mask_below}
use Rattle.std.proofs.lemmas.Nat.{and_le_l}
use Rattle.lt_inbox.specs.Bits.{has_bit, IsFirstBit, NoBitFrom, OtherBitsStand}

-- where one word of some has this bit
pub bit_put : (words : List ℕ) (k : ℕ) (word : ℕ) (t : Bool) → k / 64 < length words
    → (bit_at word (k % 64) == 1) ≡ t → ((i : ℕ) → i < 64 → i ≢ k % 64 → bit_at word i ≡ bit_at (slice_index_or words (k / 64) 0) i)
    → (has_bit (slice_set words (k / 64) word) k ≡ t) × OtherBitsStand k words (slice_set words (k / 64) word)
bit_put words k word t inside own others = (
  ap (λ (w : ℕ). bit_at w (k % 64) == 1) (get_or-set_same words (k / 64) word 0 inside) ∙ own,
  λ i apart. elim (cases_eq (i / 64) (k / 64)) [
    | inr other ↦ ap (λ (w : ℕ). bit_at w (i % 64) == 1) (get_or-set_other words (k / 64) (i / 64) word 0 other)
    | inl same ↦
        ap (λ (j : ℕ). bit_at (slice_index_or (slice_set words (k / 64) word) j 0) (i % 64) == 1) same
        ∙ (ap (λ (w : ℕ). bit_at w (i % 64) == 1) (get_or-set_same words (k / 64) word 0 inside)
        ∙ (ap (λ (b : ℕ). b == 1) (others (i % 64) (omega arith) (λ e. apart (omega (arith, e, same))))
        ∙ ap (λ (j : ℕ). bit_at (slice_index_or words j 0) (i % 64) == 1) (sym same)))
  ],
)

pub bit_set : (words : List ℕ) (k j : ℕ) → j ≡ k / 64 → k < 2 ^ 8 → length words ≡ 4
    → (has_bit (slice_set words j (bit_or (slice_index_or words j 0) (1 * 2 ^ (k % 64) % 2 ^ 64))) k ≡ true)
    × OtherBitsStand k words (slice_set words j (bit_or (slice_index_or words j 0) (1 * 2 ^ (k % 64) % 2 ^ 64)))
bit_set words k j place few four =
    let old = slice_index_or words (k / 64) 0 in
    let new = bit_or old (1 * 2 ^ (k % 64) % 2 ^ 64) in
    subst (λ (i : ℕ). (has_bit (slice_set words i (bit_or (slice_index_or words i 0) (1 * 2 ^ (k % 64) % 2 ^ 64))) k ≡ true)
    × OtherBitsStand k words (slice_set words i (bit_or (slice_index_or words i 0) (1 * 2 ^ (k % 64) % 2 ^ 64)))) (sym place)
    (bit_put words k new true (omega (arith, few, four))
    (ap (λ (b : ℕ). b == 1) (bit_at_set_same w64 old (k % 64) (omega arith)))
    (λ i below apart. bit_at_set_other w64 old (k % 64) (omega arith) i apart))

pub bit_cleared : (words : List ℕ) (k j : ℕ) → j ≡ k / 64 → k < 2 ^ 8 → length words ≡ 4
    → (has_bit (slice_set words j (bit_and (slice_index_or words j 0) (bit_not w64 (1 * 2 ^ (k % 64) % 2 ^ 64)))) k ≡ false)
    × OtherBitsStand k words (slice_set words j (bit_and (slice_index_or words j 0) (bit_not w64 (1 * 2 ^ (k % 64) % 2 ^ 64))))
bit_cleared words k j place few four =
    let old = slice_index_or words (k / 64) 0 in
    let new = bit_and old (bit_not w64 (1 * 2 ^ (k % 64) % 2 ^ 64)) in
    subst (λ (i : ℕ). (has_bit (slice_set words i (bit_and (slice_index_or words i 0) (bit_not w64 (1 * 2 ^ (k % 64) % 2 ^ 64)))) k ≡ false)
    × OtherBitsStand k words (slice_set words i (bit_and (slice_index_or words i 0) (bit_not w64 (1 * 2 ^ (k % 64) % 2 ^ 64))))) (sym place)
    (bit_put words k new false (omega (arith, few, four))
    (ap (λ (b : ℕ). b == 1) (bit_at_clear_same w64 old (k % 64) (omega arith)))
    (λ i below apart. bit_at_clear_other w64 old (k % 64) (omega arith) i below apart))

-- The lowest bit from a number on, word by word.

-- in this word the mask has the bits of the numbers from this one on
pub record IsMaskFrom (from word mask : ℕ) : Type 0 where
  pub before : (i : ℕ) → i < 64 → 64 * word + i < from → bit_at mask i ≡ 0
  pub after : (i : ℕ) → i < 64 → from ≤ 64 * word + i → bit_at mask i ≡ 1

pub first_mask : (from : ℕ) → IsMaskFrom from (from / 64) ((2 ^ 64 - 1) * 2 ^ (from % 64) % 2 ^ 64)
first_mask from = record {
  before = λ i below h. ap (λ (m : ℕ). bit_at m i) mask_is ∙ bit_at_mask_below (from % 64) 64 i (omega (arith, h));
  after = λ i below h. ap (λ (m : ℕ). bit_at m i) mask_is ∙ bit_at_mask_inside (from % 64) 64 i (omega (arith, h)) below;
}
  where
    mask_is : (2 ^ 64 - 1) * 2 ^ (from % 64) % 2 ^ 64 ≡ 2 ^ 64 - 2 ^ (from % 64)
    mask_is = ones_shl 64 (from % 64) (omega arith)

pub later_mask : (from word : ℕ) → from / 64 ≤ word → IsMaskFrom from (word + 1) (2 ^ 64 - 1)
later_mask from word h = record {
  before = λ i below less. absurd (omega (arith, h, less));
  after = λ i below more. bit_at_ones 64 i below;
}

-- no number from this one on has its bit in an earlier word
abbrev pub NoBitBefore : List ℕ → ℕ → ℕ → Type 0
NoBitBefore words from word = (i : ℕ) → from ≤ i → i < 64 * word → has_bit words i ≡ false

in_word : (words : List ℕ) (word w i : ℕ) → w ≡ slice_index_or words word 0 → i < 64 → has_bit words (64 * word + i) ≡ (bit_at w i == 1)
in_word words word w i is below =
    let place : (64 * word + i) / 64 ≡ word = omega (arith, below) in
    let bit : (64 * word + i) % 64 ≡ i = omega (arith, below) in
    ap (λ (j : ℕ). bit_at (slice_index_or words j 0) ((64 * word + i) % 64) == 1) place
    ∙ (ap (λ (j : ℕ). bit_at (slice_index_or words word 0) j == 1) bit ∙ ap (λ (v : ℕ). bit_at v i == 1) (sym is))

-- a number of this word, none of whose bits the mask lets through up to there
none_in_word : (words : List ℕ) (from word w mask i : ℕ) → w ≡ slice_index_or words word 0 → IsMaskFrom from word mask → from ≤ i → 64 * word ≤ i → i < 64 * word + 64
    → bit_at (bit_and w mask) (i - 64 * word) ≡ 0 → has_bit words i ≡ false
none_in_word words from word w mask i is masks h late early gone =
    let j = i - 64 * word in
    let at : i ≡ 64 * word + j = omega (arith, late) in
    let within : j < 64 = omega (arith, early, late) in
    let off : bit_at w j ≡ 0 = omega (arith, gone, bit_at_and w mask j, masks.after j within (omega (arith, h, at)), bit_at-lt w j) in
    ap (has_bit words) at ∙ (in_word words word w j is within ∙ ap (λ (b : ℕ). b == 1) off)

pub bit_found : (words : List ℕ) (from word w mask : ℕ) → word < 4 → w ≡ slice_index_or words word 0 → w < 2 ^ 64 → (bit_and w mask ≢ 0) → IsMaskFrom from word mask
    → NoBitBefore words from word → IsFirstBit words from (64 * word + trailing_zeros w64 (bit_and w mask))
bit_found words from word w mask few is small some masks earlier =
    let place = trailing_zeros w64 (bit_and w mask) in
    let lowest = bit_at-trailing_zeros w64 (bit_and w mask) (omega (arith, some)) (omega (arith, small, and_le_l w mask)) in
    let both = bit_at_and w mask place in
    let within : place < 64 = lowest.0 in
    record {
      after = elim (cases_lt (64 * word + place) from) [
        | inl less ↦ absurd (omega (arith, both, lowest.1, masks.before place within less))
        | inr more ↦ more
      ];
      few = omega (arith, few, within);
      has = in_word words word w place is within ∙ eq-eqb (bit_at w place) 1 (omega (arith, both, lowest.1, bit_at-lt w place));
      none = λ i h less. elim (cases_lt i (64 * word)) [
        | inl early ↦ earlier i h early
        | inr late ↦ none_in_word words from word w mask i is masks h late (omega (arith, less, within)) (lowest.2 (i - 64 * word) (omega (arith, less, late)))
      ];
    }

pub no_bit_here : (words : List ℕ) (from word w mask : ℕ) → w ≡ slice_index_or words word 0 → bit_and w mask ≡ 0 → IsMaskFrom from word mask → NoBitBefore words from word
    → NoBitBefore words from (word + 1)
no_bit_here words from word w mask is none masks earlier i h less = elim (cases_lt i (64 * word)) [
  | inl early ↦ earlier i h early
  | inr late ↦
      none_in_word words from word w mask i is masks h late (omega (arith, less)) (ap (λ (n : ℕ). bit_at n (i - 64 * word)) none ∙ bit_at-zero (i - 64 * word))
]

-- there is no fifth word
pub no_bit_left : (words : List ℕ) (from word : ℕ) → length words ≡ 4 → 4 ≤ word → NoBitBefore words from word → NoBitFrom words from
no_bit_left words from word four last earlier i h = elim (cases_lt i 256) [
  | inl few ↦ earlier i h (omega (arith, few, last))
  | inr many ↦
      ap (λ (w : ℕ). bit_at w (i % 64) == 1) (get_or_past words (i / 64) 0 (omega (arith, many, four))) ∙ ap (λ (b : ℕ). b == 1) (bit_at-zero (i % 64))
]
