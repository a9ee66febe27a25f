-- One bit of some words, and a bit that two lists of words share.
use Rattle.std.proofs.Common.{◌≡◌, ◌≢◌, ◌<◌, ◌+◌, ◌-◌, ◌*◌, ◌/◌, ◌%◌, ◌^◌, ◌==◌, ◌&&◌, ◌++◌, ◌∷◌, [], ◌∙◌, ℕ, Bool, true, false, List, inl, inr, sym, ap, subst, arith, length, nat_lt, replicate, slice_index_or, slice_set, bit_and, bit_or, w64, eq-eqb, eqb-true, lt-ltb, get_or-set_same, get_or-set_other}
use Rattle.std.specs.Int.{bit_at, bit_not, trailing_zeros}
use Rattle.std.proofs.lemmas.Bool.{cases_eq, cases_lt, le-ltb}
use Rattle.std.proofs.lemmas.List.{get_or-replicate, get_or_append_left, get_or_push, length_push}
use Rattle.std.proofs.lemmas.Nat.Bits.{bit_at-zero, bit_at-lt, bit_at_and, bit_at_set_same, bit_at_set_other, bit_at_clear_same, bit_at_clear_other, bit_at-trailing_zeros, bit_at_ones}
use Rattle.std.proofs.lemmas.Nat.{and_le_l}
use Rattle.lt_spec.specs.Rings.{Graph}
use Rattle.lt_waits.specs.Bits.{row_has, words_for, OtherWaitersStand}
use Rattle.lt_waits.specs.Search.{IsRow, HasRows}
use Rattle.lt_waits.specs.Serves.{GraphData}

-- where one word of some has this bit
bit_put : (words : List ℕ) (k : ℕ) (word : ℕ) (t : Bool) → k / 64 < length words
    → (bit_at word (k % 64) == 1) ≡ t → ((i : ℕ) → i < 64 → i ≢ k % 64 → bit_at word i ≡ bit_at (slice_index_or words (k / 64) 0) i)
    → (row_has (slice_set words (k / 64) word) k ≡ t) × OtherWaitersStand k words (slice_set words (k / 64) word)
bit_put words k word t inside own others = (
  ap (λ (w : ℕ). bit_at w (k % 64) == 1) (get_or-set_same words (k / 64) word 0 inside) ∙ own,
  λ i apart. elim (cases_eq (i / 64) (k / 64)) [
    | inr other ↦ ap (λ (w : ℕ). bit_at w (i % 64) == 1) (get_or-set_other words (k / 64) (i / 64) word 0 other)
    | inl same ↦
        ap (λ (j : ℕ). bit_at (slice_index_or (slice_set words (k / 64) word) j 0) (i % 64) == 1) same
        ∙ (ap (λ (w : ℕ). bit_at w (i % 64) == 1) (get_or-set_same words (k / 64) word 0 inside)
        ∙ (ap (λ (b : ℕ). b == 1) (others (i % 64) (omega arith) (λ e. apart (omega (arith, e, same))))
        ∙ ap (λ (j : ℕ). bit_at (slice_index_or words j 0) (i % 64) == 1) (sym same)))
  ],
)

pub bit_set : (words : List ℕ) (k j : ℕ) → j ≡ k / 64 → k < 64 * length words
    → (row_has (slice_set words j (bit_or (slice_index_or words j 0) (1 * 2 ^ (k % 64) % 2 ^ 64))) k ≡ true)
    × OtherWaitersStand k words (slice_set words j (bit_or (slice_index_or words j 0) (1 * 2 ^ (k % 64) % 2 ^ 64)))
bit_set words k j place few =
    let old = slice_index_or words (k / 64) 0 in
    let new = bit_or old (1 * 2 ^ (k % 64) % 2 ^ 64) in
    subst (λ (i : ℕ). (row_has (slice_set words i (bit_or (slice_index_or words i 0) (1 * 2 ^ (k % 64) % 2 ^ 64))) k ≡ true)
    × OtherWaitersStand k words (slice_set words i (bit_or (slice_index_or words i 0) (1 * 2 ^ (k % 64) % 2 ^ 64)))) (sym place)
    (bit_put words k new true (omega (arith, few))
    (ap (λ (b : ℕ). b == 1) (bit_at_set_same w64 old (k % 64) (omega arith)))
    (λ i below apart. bit_at_set_other w64 old (k % 64) (omega arith) i apart))

pub bit_cleared : (words : List ℕ) (k j : ℕ) → j ≡ k / 64 → k < 64 * length words
    → (row_has (slice_set words j (bit_and (slice_index_or words j 0) (bit_not w64 (1 * 2 ^ (k % 64) % 2 ^ 64)))) k ≡ false)
    × OtherWaitersStand k words (slice_set words j (bit_and (slice_index_or words j 0) (bit_not w64 (1 * 2 ^ (k % 64) % 2 ^ 64))))
bit_cleared words k j place few =
    let old = slice_index_or words (k / 64) 0 in
    let new = bit_and old (bit_not w64 (1 * 2 ^ (k % 64) % 2 ^ 64)) in
    subst (λ (i : ℕ). (row_has (slice_set words i (bit_and (slice_index_or words i 0) (bit_not w64 (1 * 2 ^ (k % 64) % 2 ^ 64)))) k ≡ false)
    × OtherWaitersStand k words (slice_set words i (bit_and (slice_index_or words i 0) (bit_not w64 (1 * 2 ^ (k % 64) % 2 ^ 64))))) (sym place)
    (bit_put words k new false (omega (arith, few))
    (ap (λ (b : ℕ). b == 1) (bit_at_clear_same w64 old (k % 64) (omega arith)))
    (λ i below apart. bit_at_clear_other w64 old (k % 64) (omega arith) i below apart))

-- words that are all alike
pub no_bit : (n k : ℕ) → k < 64 * n → row_has (replicate n 0) k ≡ false
no_bit n k few =
    ap (λ (w : ℕ). bit_at w (k % 64) == 1) (get_or-replicate n (k / 64) 0 0 (omega (arith, few)))
    ∙ ap (λ (b : ℕ). b == 1) (bit_at-zero (k % 64))

pub each_bit : (n k : ℕ) → k < 64 * n → row_has (replicate n (2 ^ 64 - 1)) k ≡ true
each_bit n k few =
    ap (λ (w : ℕ). bit_at w (k % 64) == 1) (get_or-replicate n (k / 64) (2 ^ 64 - 1) 0 (omega (arith, few)))
    ∙ ap (λ (b : ℕ). b == 1) (bit_at_ones 64 (k % 64) (omega arith))

in_word : (words : List ℕ) (word w i : ℕ) → w ≡ slice_index_or words word 0 → i < 64 → row_has words (64 * word + i) ≡ (bit_at w i == 1)
in_word words word w i is below =
    let place : (64 * word + i) / 64 ≡ word = omega (arith, below) in
    let bit : (64 * word + i) % 64 ≡ i = omega (arith, below) in
    ap (λ (j : ℕ). bit_at (slice_index_or words j 0) ((64 * word + i) % 64) == 1) place
    ∙ (ap (λ (j : ℕ). bit_at (slice_index_or words word 0) j == 1) bit ∙ ap (λ (v : ℕ). bit_at v i == 1) (sym is))

-- the lowest bit that two words share
pub shared : (words others : List ℕ) (word v w : ℕ) → v ≡ slice_index_or words word 0 → w ≡ slice_index_or others word 0 → v < 2 ^ 64 → (bit_and v w ≢ 0)
    → (trailing_zeros w64 (bit_and v w) < 64) × ((row_has words (64 * word + trailing_zeros w64 (bit_and v w)) ≡ true)
    × (row_has others (64 * word + trailing_zeros w64 (bit_and v w)) ≡ true))
shared words others word v w is also small some =
    let place = trailing_zeros w64 (bit_and v w) in
    let lowest = bit_at-trailing_zeros w64 (bit_and v w) (omega (arith, some)) (omega (arith, small, and_le_l v w)) in
    let both = bit_at_and v w place in (
      lowest.0,
      (
        in_word words word v place is lowest.0 ∙ eq-eqb (bit_at v place) 1 (omega (arith, both, lowest.1, bit_at-lt v place)),
        in_word others word w place also lowest.0 ∙ eq-eqb (bit_at w place) 1 (omega (arith, both, lowest.1, bit_at-lt w place)),
      ),
    )

-- of the numbers of the words so far none has its bit in both
abbrev pub NoneShared : List ℕ → List ℕ → ℕ → Type 0
NoneShared words others word = (i : ℕ) → i < 64 * word → row_has others i ≡ true → row_has words i ≡ false

pub none_more : (words others : List ℕ) (word v w : ℕ) → v ≡ slice_index_or words word 0 → w ≡ slice_index_or others word 0 → bit_and v w ≡ 0
    → NoneShared words others word → NoneShared words others (word + 1)
none_more words others word v w is also none before i few there = elim (cases_lt i (64 * word)) [
  | inl early ↦ before i early there
  | inr late ↦
      let j = i - 64 * word in
      let at : i ≡ 64 * word + j = omega (arith, late) in
      let within : j < 64 = omega (arith, few, late) in
      let on : bit_at w j ≡ 1 = eqb-true (bit_at w j) 1 (sym (in_word others word w j also within) ∙ (sym (ap (row_has others) at) ∙ there)) in
      let gone : bit_at (bit_and v w) j ≡ 0 = ap (λ (n : ℕ). bit_at n j) none ∙ bit_at-zero j in
      let off : bit_at v j ≡ 0 = omega (arith, gone, bit_at_and v w j, on) in
      ap (row_has words) at ∙ (in_word words word v j is within ∙ ap (λ (b : ℕ). b == 1) off)
]

-- A row of bits for each client.

-- of the first k clients those that wait for this one have their bits
abbrev pub IsMarkedTo : Graph → ℕ → ℕ → ℕ → List ℕ → Type 0
IsMarkedTo graph n client k row = (c : ℕ) → c < 64 * words_for n → row_has row c ≡ (nat_lt c k && graph c client)

-- a number that isn't the last one is below it if it is below the next
not_last : (c k : ℕ) → c ≢ k → nat_lt c k ≡ nat_lt c (k + 1)
not_last c k apart = elim (cases_lt c k) [
  | inl less ↦ lt-ltb c k less ∙ sym (lt-ltb c (k + 1) (omega (arith, less)))
  | inr more ↦ le-ltb c k more ∙ sym (le-ltb c (k + 1) (omega (arith, more, apart)))
]

module _ (graph : Graph) (n client k : ℕ) (row : List ℕ) (before : IsMarkedTo graph n client k row) where
  pub row_marked : (new : List ℕ) → row_has new k ≡ true → OtherWaitersStand k row new → graph k client ≡ true → IsMarkedTo graph n client (k + 1) new
  row_marked new own stand on c few = elim (cases_eq c k) [
    | inl same ↦
        (ap (row_has new) same ∙ own)
        ∙ sym (ap (λ (t : Bool). t && graph c client) (lt-ltb c (k + 1) (omega (arith, same))) ∙ (ap (λ (x : ℕ). graph x client) same ∙ on))
    | inr apart ↦ stand c apart ∙ (before c few ∙ ap (λ (t : Bool). t && graph c client) (not_last c k apart))
  ]

  pub row_skipped : graph k client ≡ false → IsMarkedTo graph n client (k + 1) row
  row_skipped off c few = elim (cases_eq c k) [
    | inl same ↦
        before c few ∙ ap (λ (t : Bool). t && graph c client) (le-ltb c k (omega (arith, same)))
        ∙ sym (ap (λ (t : Bool). t && graph c client) (lt-ltb c (k + 1) (omega (arith, same))) ∙ (ap (λ (x : ℕ). graph x client) same ∙ off))
    | inr apart ↦ before c few ∙ ap (λ (t : Bool). t && graph c client) (not_last c k apart)
  ]

pub nobody_marked : (graph : Graph) (n client : ℕ) (row : List ℕ) → ((c : ℕ) → c < 64 * words_for n → row_has row c ≡ false) → IsMarkedTo graph n client 0 row
nobody_marked graph n client row none c few = none c few ∙ sym (ap (λ (t : Bool). t && graph c client) (le-ltb c 0 (omega arith)))

pub rows_more : (g : GraphData) (rows now : List (List ℕ)) (k : ℕ) (row : List ℕ) → HasRows g rows k → IsRow g k row → now ≡ rows ++ row ∷ [] → HasRows g now (k + 1)
rows_more g rows now k row so_far one pushed = subst (λ (l : List (List ℕ)). HasRows g l (k + 1)) (sym pushed) (record {
  count = length_push rows row ∙ ap (λ (x : ℕ). x + 1) so_far.count;
  each = λ c h. elim (cases_lt c k) [
    | inl less ↦ subst (IsRow g c) (sym (get_or_append_left rows (row ∷ []) [] c (omega (arith, less, so_far.count)))) (so_far.each c less)
    | inr more ↦
        let last : c ≡ k = omega (arith, h, more) in
        subst (IsRow g c) (sym (get_or_push rows row [] c (so_far.count ∙ sym last))) (subst (λ (x : ℕ). IsRow g x row) (sym last) one)
  ];
})
