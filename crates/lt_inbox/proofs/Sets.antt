-- Sets of nodes, as marks and as the bits of words.
use Rattle.std.proofs.Common.{◌≡◌, ◌<◌, ◌≤◌, ◌+◌, ◌-◌, ◌/◌, ◌%◌, ◌^◌, ◌==◌, ◌∙◌, ℕ, zero, suc, Bool, true, false, List, [], ◌∷◌, inl, inr, refl, sym, ap, arith, length, filter, replicate, slice_index_or, slice_set, Option, Some, None, IfSome, IfNone, if◌then◌else◌, length-set, get_or-set_same, get_or-set_other}
use Rattle.std.specs.Int.{bit_at}
use Rattle.std.specs.List.{range_with_len}
use Rattle.std.proofs.lemmas.Bool.{cases_eq, cases_lt, false≢true}
use Rattle.std.proofs.lemmas.List.{ext_get_or, get_or_past, set-get_or}
use Rattle.std.proofs.lemmas.List.FromFn.{get_or-map-range_with_len, length-map-range_with_len}
use Rattle.std.proofs.lemmas.List.Sums.{sum_by-set}
use Rattle.std.proofs.lemmas.Nat.Bits.{bit_at-zero}
use Rattle.lt_inbox.specs.Mail.{has_from, sender_count}
use Rattle.lt_inbox.specs.Bits.{has_bit, IsFirstBit, NoBitFrom, OtherBitsStand, marks_of, AreBits, IsFirstFrom, NoneFrom}
use Rattle.lt_inbox.proofs.TakeOrder.{counted_first, fewer_senders, filter_skips, filter_keeps}

pub marks_length : (count : ℕ) (words : List ℕ) → length (marks_of count words) ≡ count
marks_length count words = length-map-range_with_len (has_bit words) 0 count

mark_at : (count : ℕ) (words : List ℕ) (i : ℕ) → i < count → has_from (marks_of count words) i ≡ has_bit words i
mark_at count words i below = get_or-map-range_with_len (has_bit words) 0 count i i false below (omega arith)

-- a number is marked where its bit is set
pub mark_is : (words : List ℕ) (count len : ℕ) (i : ℕ) → AreBits words count len → has_from (marks_of count words) i ≡ has_bit words i
mark_is words count len i bits = elim (cases_lt i count) [
  | inl below ↦ mark_at count words i below
  | inr past ↦ get_or_past (marks_of count words) i false (omega (arith, past, marks_length count words)) ∙ sym (bits.past i past)
]

no_word : (n i : ℕ) → ◌≡◌ {A = ℕ} (slice_index_or (replicate n 0) i 0) 0
no_word zero i = refl
no_word (suc n) zero = refl
no_word (suc n) (suc i) = no_word n i

pub no_bit : (n i : ℕ) → has_bit (replicate n 0) i ≡ false
no_bit n i = ap (λ (w : ℕ). bit_at w (i % 64) == 1) (no_word n (i / 64)) ∙ ap (λ (b : ℕ). b == 1) (bit_at-zero (i % 64))

pub none_marked : (marks : List Bool) → ((i : ℕ) → has_from marks i ≡ false) → sender_count marks ≡ 0
none_marked [] none = refl
none_marked (true ∷ rest) none = absurd (false≢true (sym (none 0)))
none_marked (false ∷ rest) none = omega (arith, counted_first false rest, none_marked rest (λ i. none (suc i)))

pub no_bits : (count : ℕ) → count < 2 ^ 8 → AreBits (replicate 4 0) count 0
no_bits count few = record {
  few = few;
  past = λ i past. no_bit 4 i;
  counted = sym (none_marked (marks_of count (replicate 4 0)) none);
}
  where
    none : (i : ℕ) → has_from (marks_of count (replicate 4 0)) i ≡ false
    none i = elim (cases_lt i count) [
      | inl below ↦ mark_at count (replicate 4 0) i below ∙ no_bit 4 i
      | inr past ↦ get_or_past (marks_of count (replicate 4 0)) i false (omega (arith, past, marks_length count (replicate 4 0)))
    ]

-- where one bit is changed, so is one mark
pub one_mark : (count : ℕ) (old new : List ℕ) (k : ℕ) (t : Bool) → k < count → has_bit new k ≡ t → OtherBitsStand k old new
    → marks_of count new ≡ slice_set (marks_of count old) k t
one_mark count old new k t inside own others =
    ext_get_or false (marks_of count new) (slice_set (marks_of count old) k t)
    (marks_length count new ∙ sym (length-set (marks_of count old) k t ∙ marks_length count old)) same
  where
    within : k < length (marks_of count old)
    within = omega (arith, inside, marks_length count old)

    same : (i : ℕ) → i < length (marks_of count new) → slice_index_or (marks_of count new) i false ≡ slice_index_or (slice_set (marks_of count old) k t) i false
    same i h =
        let below : i < count = omega (arith, h, marks_length count new) in
        mark_at count new i below
        ∙ elim (cases_eq i k) [
          | inl is ↦ ap (has_bit new) is ∙ (own ∙ sym (ap (has_from (slice_set (marks_of count old) k t)) is ∙ get_or-set_same (marks_of count old) k t false within))
          | inr other ↦ others i other ∙ sym (get_or-set_other (marks_of count old) k i t false other ∙ mark_at count old i below)
        ]

count_set : (marks : List Bool) (k : ℕ) (t : Bool) → k < length marks
    → sender_count (slice_set marks k t) + (if has_from marks k then 1 else 0) ≡ sender_count marks + (if t then 1 else 0)
count_set marks k t inside = sum_by-set (λ (b : Bool). if b then 1 else 0) marks k t false inside

-- one more is marked
pub count_more : (marks : List Bool) (k : ℕ) → k < length marks → has_from marks k ≡ false → sender_count (slice_set marks k true) ≡ sender_count marks + 1
count_more marks k inside was = omega (arith, count_set marks k true inside, ap {B = ℕ} (λ (b : Bool). if b then 1 else 0) was)

-- or one less
pub count_less : (marks : List Bool) (k : ℕ) → k < length marks → has_from marks k ≡ true → sender_count (slice_set marks k false) + 1 ≡ sender_count marks
count_less marks k inside was = omega (arith, count_set marks k false inside, ap {B = ℕ} (λ (b : Bool). if b then 1 else 0) was)

past_kept : (old new : List ℕ) (count k : ℕ) → k < count → OtherBitsStand k old new → NoBitFrom old count → NoBitFrom new count
past_kept old new count k inside others none i past = others i (λ is. omega (arith, inside, past, is)) ∙ none i past

pub bits_more : (old new : List ℕ) (count len k : ℕ) → AreBits old count len → k < count → has_bit old k ≡ false → has_bit new k ≡ true → OtherBitsStand k old new
    → AreBits new count (len + 1)
bits_more old new count len k bits inside was own others = record {
  few = bits.few;
  past = past_kept old new count k inside others bits.past;
  counted =
      let more : sender_count (slice_set (marks_of count old) k true) ≡ sender_count (marks_of count old) + 1 =
      count_more (marks_of count old) k (omega (arith, inside, marks_length count old)) (mark_at count old k inside ∙ was) in
      omega (arith, bits.counted, more) ∙ sym (ap sender_count (one_mark count old new k true inside own others));
}

pub bits_less : (old new : List ℕ) (count len k : ℕ) → AreBits old count len → k < count → has_bit old k ≡ true → has_bit new k ≡ false → OtherBitsStand k old new
    → AreBits new count (len - 1)
bits_less old new count len k bits inside was own others = record {
  few = bits.few;
  past = past_kept old new count k inside others bits.past;
  counted =
      let less : sender_count (slice_set (marks_of count old) k false) + 1 ≡ sender_count (marks_of count old) =
      count_less (marks_of count old) k (omega (arith, inside, marks_length count old)) (mark_at count old k inside ∙ was) in
      omega (arith, bits.counted, less) ∙ sym (ap sender_count (one_mark count old new k false inside own others));
}

-- where one is not marked, one more can be
pub room_for_more : (words : List ℕ) (count len k : ℕ) → AreBits words count len → k < count → has_bit words k ≡ false → len + 1 < 2 ^ 8
room_for_more words count len k bits inside was =
    let fewer : sender_count (marks_of count words) < length (marks_of count words) =
    fewer_senders (marks_of count words) k (omega (arith, inside, marks_length count words)) (mark_at count words k inside ∙ was) in
    omega (arith, bits.counted, bits.few, fewer, marks_length count words)

pub some_are_marked : (words : List ℕ) (count len k : ℕ) → AreBits words count len → k < count → has_bit words k ≡ true → 1 ≤ len
some_are_marked words count len k bits inside was =
    omega (arith, bits.counted, count_less (marks_of count words) k (omega (arith, inside, marks_length count words)) (mark_at count words k inside ∙ was))

-- what is written is what stands there
pub set_again : (words : List ℕ) (count len k : ℕ) (t : Bool) → AreBits words count len → has_bit words k ≡ t
    → marks_of count words ≡ slice_set (marks_of count words) k t
set_again words count len k t bits is =
    sym (ap (slice_set (marks_of count words) k) (sym (mark_is words count len k bits ∙ is)) ∙ set-get_or (marks_of count words) k false)

-- The lowest node from a number on.

first_marked : (words : List ℕ) (count len from k : ℕ) → AreBits words count len → IsFirstBit words from k → IsFirstFrom (marks_of count words) from k
first_marked words count len from k bits first = record {
  after = first.after;
  within = elim (cases_lt k count) [
    | inl below ↦ omega (arith, below, marks_length count words)
    | inr past ↦ absurd (false≢true (sym (bits.past k past) ∙ first.has))
  ];
  marked = mark_is words count len k bits ∙ first.has;
  none = λ i h less. mark_is words count len i bits ∙ first.none i h less;
}

pub first_node : (words : List ℕ) (count len from : ℕ) (found : Option ℕ) → AreBits words count len → IfSome found (IsFirstBit words from)
    → IfSome found (IsFirstFrom (marks_of count words) from)
first_node words count len from None bits first = first
first_node words count len from (Some k) bits first = first_marked words count len from k bits first

pub no_node : (words : List ℕ) (count len from : ℕ) (found : Option ℕ) → AreBits words count len → IfNone found (NoBitFrom words from)
    → IfNone found (NoneFrom (marks_of count words) from)
no_node words count len from (Some k) bits none = none
no_node words count len from None bits none = λ i h. mark_is words count len i bits ∙ none i h

-- the numbers from one on that pass, where those before another one don't
pub filter_later : (test : ℕ → Bool) (from k n : ℕ) → from ≤ k → k ≤ n → ((i : ℕ) → from ≤ i → i < k → test i ≡ false)
    → filter test (range_with_len from (n - from)) ≡ filter test (range_with_len k (n - k))
filter_later test from k n h within none = go (k - from) from (omega (arith, h)) none
  where
    go : (m from : ℕ) → from + m ≡ k → ((i : ℕ) → from ≤ i → i < k → test i ≡ false)
        → filter test (range_with_len from (n - from)) ≡ filter test (range_with_len k (n - k))
    go zero from at none =
        let same : from ≡ k = omega (arith, at) in
        ap (λ (i : ℕ). filter test (range_with_len i (n - i))) same
    go (suc m) from at none =
        filter_skips test from n (omega (arith, at, within)) (none from (omega arith) (omega (arith, at)))
        ∙ go m (from + 1) (omega (arith, at)) (λ i h less. none i (omega (arith, h)) less)

-- the nodes from this number on
abbrev pub nodes_from : List Bool → ℕ → List ℕ
nodes_from marks from = filter (has_from marks) (range_with_len from (length marks - from))

pub nodes_at_first : (marks : List Bool) (from k : ℕ) → IsFirstFrom marks from k → nodes_from marks from ≡ k ∷ nodes_from marks (k + 1)
nodes_at_first marks from k first =
    filter_later (has_from marks) from k (length marks) first.after (omega (arith, first.within)) first.none
    ∙ filter_keeps (has_from marks) k (length marks) first.within first.marked

pub no_nodes : (marks : List Bool) (from : ℕ) → from ≤ length marks → NoneFrom marks from → nodes_from marks from ≡ []
no_nodes marks from inside none =
    filter_later (has_from marks) from (length marks) (length marks) inside (omega arith) (λ i h less. none i h)
    ∙ ap (λ (m : ℕ). filter (has_from marks) (range_with_len (length marks) m)) nothing
  where
    nothing : length marks - length marks ≡ 0
    nothing = omega arith
