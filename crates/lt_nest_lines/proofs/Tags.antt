-- How a name is found among those of all transactions.
use Rattle.std.proofs.Common.{◌≡◌, ℕ, ◌+◌, ◌*◌, ◌%◌, ◌<◌, ◌≤◌, inl, inr, true, false, true≢false, List, [], ◌∷◌, ◌++◌, length, refl, sym, ap, subst, arith, ◌∙◌, Option, Some, None, slice_index_or, slice_set, replicate, drop, lt-ltb, length-set, get_or-set_same, get_or-set_other}
use Rattle.std.specs.List.{position_or_len}
use Rattle.std.proofs.lemmas.Bool.{cases_eq, cases_lt, false_from_ne_true}
use Rattle.std.proofs.lemmas.List.{drop_more, get_or_default, get_or_append_left, get_or_push, length_push, length-replicate}
use Rattle.std.proofs.lemmas.List.Quantifiers.{position-Some}
use Rattle.std.proofs.lemmas.List.Sums.{position_or_len_is}
use Rattle.std.proofs.lemmas.Slice.Eq.{bytes_eq-Decides}
use Rattle.lt_nest_lines.specs.Input.{is_word, place_of}
use Rattle.lt_nest_lines.specs.Play.{name_at}
use Rattle.lt_nest_lines.specs.Tags.{tag_from, tag_of, IsNoneBefore, AreFirsts}

-- one byte further
pub tag_more : (n : ℕ) (word : List ℕ) (k d : ℕ) → k < length word → tag_from n (drop k word) ≡ tag_from ((n * 81 + slice_index_or word k d) % 1024) (drop (k + 1) word)
tag_more n word k d within = ap (tag_from n) (drop_more word k d within)

-- without names each place will do
pub no_firsts : (n : ℕ) → AreFirsts (replicate 1024 n) []
no_firsts n = record { places = length-replicate 1024 n; before = λ k within. absurd (omega (arith, within)) }

-- no name before the place of its tag is the word
pub none_before : (firsts : List ℕ) (names : List (List ℕ)) (word : List ℕ) → AreFirsts firsts names → IsNoneBefore (slice_index_or firsts (tag_of word) 0) names word
none_before firsts names word are = λ k below within. false_from_ne_true (is_word word (name_at names k)) (λ same.
    let is : name_at names k ≡ word = (bytes_eq-Decides (name_at names k) word).0 same in
    let first : slice_index_or firsts (tag_of word) 0 ≤ k = subst (λ (w : List ℕ). slice_index_or firsts (tag_of w) 0 ≤ k) is (are.before k within) in
    omega (arith, below, first))

-- a further name, whose place its tag has if that comes first
pub named : (firsts : List ℕ) (names : List (List ℕ)) (name : List ℕ) (place : ℕ) → AreFirsts firsts names → tag_of name < 1024
    → place ≤ slice_index_or firsts (tag_of name) 0 → place ≤ length names → AreFirsts (slice_set firsts (tag_of name) place) (names ++ name ∷ [])
named firsts names name place are small lower here = record {
  places = length-set firsts (tag_of name) place ∙ are.places;
  before = λ k within. elim (cases_lt k (length names)) [
    | inl old ↦
        subst (λ (w : List ℕ). slice_index_or (slice_set firsts (tag_of name) place) (tag_of w) 0 ≤ k) (sym (get_or_append_left names (name ∷ []) [] k old))
        (omega (arith, no_more (tag_of (name_at names k)), are.before k old))
    | inr new ↦
        let last : k ≡ length names = omega (arith, new, within, length_push names name) in
        let is : name_at (names ++ name ∷ []) k ≡ name = get_or_push names name [] k (sym last) in
        subst (λ (w : List ℕ). slice_index_or (slice_set firsts (tag_of name) place) (tag_of w) 0 ≤ k) (sym is)
        (omega (arith, get_or-set_same firsts (tag_of name) place 0 (omega (arith, small, are.places)), here, last))
  ];
}
  where
    no_more : (tag : ℕ) → slice_index_or (slice_set firsts (tag_of name) place) tag 0 ≤ slice_index_or firsts tag 0
    no_more tag = elim (cases_eq tag (tag_of name)) [
      | inl same ↦ subst (λ (t : ℕ). slice_index_or (slice_set firsts (tag_of name) place) t 0 ≤ slice_index_or firsts t 0) (sym same)
          (omega (arith, get_or-set_same firsts (tag_of name) place 0 (omega (arith, small, are.places)), lower))
      | inr other ↦ omega (arith, get_or-set_other firsts (tag_of name) tag place 0 other)
    ]

-- One place of the names after the other.

pub none_here : (names : List (List ℕ)) (word : List ℕ) (k : ℕ) → IsNoneBefore k names word → is_word word (name_at names k) ≡ false → IsNoneBefore (k + 1) names word
none_here names word k none other = λ j below within. elim (cases_eq j k) [
  | inl same ↦ subst (λ (i : ℕ). is_word word (name_at names i) ≡ false) (sym same) other
  | inr before ↦ none j (omega (arith, below, before)) within
]

pub found_here : (names : List (List ℕ)) (word name : List ℕ) (k : ℕ) → IsNoneBefore k names word → k < length names → name ≡ slice_index_or names k name → is_word word name ≡ true
    → Some k ≡ place_of names word
found_here names word name k none within read same =
    let here : is_word word (name_at names k) ≡ true = ap (is_word word) (get_or_default names k [] name within ∙ sym read) ∙ same in
    let first : position_or_len (is_word word) names ≡ k = position_or_len_is (is_word word) names k [] (omega (arith, within)) (λ j below. none j below (omega (arith, below, within))) (λ _. here) in
    sym (rw (first, lt-ltb k (length names) within) refl)

pub found_nowhere : (names : List (List ℕ)) (word : List ℕ) (k : ℕ) → IsNoneBefore k names word → length names ≤ k → None ≡ place_of names word
found_nowhere names word k none past = by_place (place_of names word) refl
  where
    by_place : (o : Option ℕ) → place_of names word ≡ o → None ≡ place_of names word
    by_place None e = sym e
    by_place (Some j) e =
        let at = position-Some (is_word word) names j [] e in
        absurd (true≢false (sym at.1 ∙ none j (omega (arith, at.0, past)) at.0))
