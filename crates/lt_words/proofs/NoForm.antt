-- Words without a form are no command.
use Rattle.std.proofs.Common.{◌≡◌, ◌⊎◌, refl, sym, ℕ, true, false, ◌&&◌, ◌==◌, nat_lt, nat_le, length, inl, inr, List, [], ◌∷◌, Option, Some, None, codes, ◌^◌, ◌<◌, Bool, Result, Ok, Err, ap, bytes_eq, eqb-true, lt-ltb, ltb-true, le-leb, leb-true, is_some, if◌then◌else◌, OkIff}
use Rattle.std.proofs.lemmas.Bool.{and_cases, and_right, or_parts, cases_Bool, and_parts}
use Rattle.std.specs.Char.{is_ascii_digit}
use Rattle.std.specs.Result.{result_ok}
use Rattle.std.specs.Str.Parse.{digits_value, ParsesUnsigned}
use Rattle.std.proofs.lemmas.Str.Parse.{IsDigitsTest, IsNumeralModel, numerals_by_value, parse_digits}
use Rattle.lt_text.specs.Number.{are_digits, is_numeral, number}
use Rattle.lt_words.specs.declared.command.Command.{Command}
use Rattle.lt_words.specs.Grammar.{command_of, one_word, two_words, sim_of, seed_of, make_of, five_words, version_of, seven_words, is_plain, has_verb, is_form}

pub none_found : (found : Option Command) → is_some found ≡ false → None ≡ found
none_found None e = refl
none_found (Some command) e = absurd (cc)

hyphen_first : (byte : ℕ) (rest : List ℕ) → is_plain (byte ∷ rest) ≡ false → byte ≡ 45
hyphen_first byte rest e = elim (cases_Bool (byte == 45)) [ inl h ↦ eqb-true byte 45 h | inr h ↦ absurd (let wrong = rw h at e in cc) ]

-- a word that isn't plain is no number
no_numeral : (word : List ℕ) (most : ℕ) → is_plain word ≡ false → is_numeral word most ≡ false
no_numeral [] most e = refl
no_numeral (byte ∷ rest) most e =
    and_right (nat_lt 0 (length (byte ∷ rest)) && nat_le (length (byte ∷ rest)) most) (are_digits (byte ∷ rest)) (rw (hyphen_first byte rest e) refl)

no_seed : (word : List ℕ) → is_plain word ≡ false → seed_of word ≡ None
no_seed word e = rw (no_numeral word 20 e) refl

no_number : (word : List ℕ) → is_plain word ≡ false → number word ≡ None
no_number word e = rw (no_numeral word 9 e) refl

-- and it is none of the words that begin otherwise
no_word : (word rest : List ℕ) (byte : ℕ) → is_plain word ≡ false → (45 == byte) ≡ false → bytes_eq word (byte ∷ rest) ≡ false
no_word [] rest byte e differ = refl
no_word (b ∷ word) rest byte e differ = rw (hyphen_first b word e, differ) refl

no_sim : (word : List ℕ) → is_plain word ≡ false → sim_of word ≡ None
no_sim word e = rw (no_word word (codes "irst") 102 e refl, no_numeral word 20 e) refl

no_make : (v a b c d : Option ℕ) → (v ≡ None) ⊎ ((a ≡ None) ⊎ ((b ≡ None) ⊎ ((c ≡ None) ⊎ (d ≡ None)))) → make_of v a b c d ≡ None
no_make None a b c d h = refl
no_make (Some v) None b c d h = refl
no_make (Some v) (Some a) None c d h = refl
no_make (Some v) (Some a) (Some b) None d h = refl
no_make (Some v) (Some a) (Some b) (Some c) None h = refl
no_make (Some v) (Some a) (Some b) (Some c) (Some d) (inl h) = absurd (cc)
no_make (Some v) (Some a) (Some b) (Some c) (Some d) (inr (inl h)) = absurd (cc)
no_make (Some v) (Some a) (Some b) (Some c) (Some d) (inr (inr (inl h))) = absurd (cc)
no_make (Some v) (Some a) (Some b) (Some c) (Some d) (inr (inr (inr (inl h)))) = absurd (cc)
no_make (Some v) (Some a) (Some b) (Some c) (Some d) (inr (inr (inr (inr h)))) = absurd (cc)

no_one_word : (verb : List ℕ) → is_plain verb ≡ false → one_word verb ≡ None
no_one_word verb e = rw (no_word verb (codes "un") 114 e refl, no_word verb (codes "heck") 99 e refl, no_word verb (codes "rder") 111 e refl) refl

no_two_words : (verb word : List ℕ) → bytes_eq verb (codes "sim") ≡ false → bytes_eq verb (codes "soak") ≡ false → two_words verb word ≡ None
no_two_words verb word e f = rw (e, f) refl

no_seed_word : (verb word : List ℕ) → is_plain word ≡ false → two_words verb word ≡ None
no_seed_word verb word e = elim (cases_Bool (bytes_eq verb (codes "sim"))) [
  | inl h ↦ rw h (no_sim word e)
  | inr h ↦ rw h (elim (cases_Bool (bytes_eq verb (codes "soak"))) [
    | inl k ↦ rw (k, no_numeral word 20 e) refl
    | inr k ↦ rw k refl
  ])
]

no_five_words : (verb t u v w : List ℕ) → bytes_eq verb (codes "make") ≡ false → five_words verb t u v w ≡ None
no_five_words verb t u v w e = rw e refl

no_seven_words : (verb t u v w x y : List ℕ) → bytes_eq verb (codes "make") ≡ false → seven_words verb t u v w x y ≡ None
no_seven_words verb t u v w x y e = rw e refl

-- one of these words isn't plain, or the ones behind them
module _ (t u v w : List ℕ) (rest : Bool) (version : Option ℕ) where
  no_size : (is_plain t && (is_plain u && (is_plain v && (is_plain w && rest)))) ≡ false → (rest ≡ false → version ≡ None)
      → make_of version (number t) (number u) (number v) (seed_of w) ≡ None
  no_size e behind = no_make version (number t) (number u) (number v) (seed_of w) (elim (and_cases (is_plain t) (is_plain u && (is_plain v && (is_plain w && rest))) e) [
    | inl a ↦ inr (inl (no_number t a))
    | inr more ↦ elim (and_cases (is_plain u) (is_plain v && (is_plain w && rest)) more) [
      | inl b ↦ inr (inr (inl (no_number u b)))
      | inr more ↦ elim (and_cases (is_plain v) (is_plain w && rest) more) [
        | inl c ↦ inr (inr (inr (inl (no_number v c))))
        | inr more ↦ elim (and_cases (is_plain w) rest more) [
          | inl d ↦ inr (inr (inr (inr (no_seed w d))))
          | inr none ↦ inl (behind none)
        ]
      ]
    ]
  ])

no_version : (x y : List ℕ) → (is_plain x && (is_plain y && true)) ≡ false → version_of x y ≡ None
no_version x y e = elim (and_cases (is_plain x) (is_plain y && true) e) [
  | inl a ↦ rw (no_word x (codes "ersion") 118 a refl) refl
  | inr more ↦ elim (and_cases (is_plain y) true more) [
    | inl b ↦ elim (cases_Bool (bytes_eq x (codes "version"))) [ inl h ↦ rw h (no_number y b) | inr h ↦ rw h refl ]
    | inr never ↦ absurd (cc)
  ]
]

no_five_plain : (verb t u v w : List ℕ) → (is_plain t && (is_plain u && (is_plain v && (is_plain w && true)))) ≡ false → five_words verb t u v w ≡ None
no_five_plain verb t u v w e = elim (cases_Bool (bytes_eq verb (codes "make"))) [
  | inl h ↦ rw h (no_size t u v w true (Some 1) e (λ never. absurd (cc)))
  | inr h ↦ rw h refl
]

no_seven_plain : (verb t u v w x y : List ℕ) → (is_plain t && (is_plain u && (is_plain v && (is_plain w && (is_plain x && (is_plain y && true)))))) ≡ false
    → seven_words verb t u v w x y ≡ None
no_seven_plain verb t u v w x y e = elim (cases_Bool (bytes_eq verb (codes "make"))) [
  | inl h ↦ rw h (no_size t u v w (is_plain x && (is_plain y && true)) (version_of x y) e (no_version x y))
  | inr h ↦ rw h refl
]

pub no_form : (words : List (List ℕ)) → is_form words ≡ false → command_of words ≡ None
no_form [] form = refl
no_form (verb ∷ []) form = elim (and_cases (has_verb (verb ∷ [])) (is_plain verb && true) form) [
  | inl none ↦ sym (none_found (one_word verb) none)
  | inr word ↦ elim (and_cases (is_plain verb) true word) [
    | inl e ↦ no_one_word verb e
    | inr never ↦ absurd (cc)
  ]
]
no_form (verb ∷ word ∷ []) form = elim (and_cases (has_verb (verb ∷ word ∷ [])) (is_plain verb && (is_plain word && true)) form) [
  | inl none ↦ let parts = or_parts (bytes_eq verb (codes "sim")) (bytes_eq verb (codes "soak")) none in no_two_words verb word parts.0 parts.1
  | inr some ↦ elim (and_cases (is_plain verb) (is_plain word && true) some) [
    | inl e ↦ no_two_words verb word (no_word verb (codes "im") 115 e refl) (no_word verb (codes "oak") 115 e refl)
    | inr rest ↦ elim (and_cases (is_plain word) true rest) [
      | inl e ↦ no_seed_word verb word e
      | inr never ↦ absurd (cc)
    ]
  ]
]
no_form (verb ∷ a ∷ b ∷ []) form = refl
no_form (verb ∷ a ∷ b ∷ c ∷ []) form = refl
no_form (verb ∷ t ∷ u ∷ v ∷ w ∷ []) form =
    elim (and_cases (has_verb (verb ∷ t ∷ u ∷ v ∷ w ∷ [])) (is_plain verb && (is_plain t && (is_plain u && (is_plain v && (is_plain w && true))))) form) [
      | inl none ↦ no_five_words verb t u v w none
      | inr some ↦ elim (and_cases (is_plain verb) (is_plain t && (is_plain u && (is_plain v && (is_plain w && true)))) some) [
        | inl e ↦ no_five_words verb t u v w (no_word verb (codes "ake") 109 e refl)
        | inr rest ↦ no_five_plain verb t u v w rest
      ]
    ]
no_form (verb ∷ t ∷ u ∷ v ∷ w ∷ x ∷ []) form = refl
no_form (verb ∷ t ∷ u ∷ v ∷ w ∷ x ∷ y ∷ []) form =
    let behind = is_plain t && (is_plain u && (is_plain v && (is_plain w && (is_plain x && (is_plain y && true))))) in
    elim (and_cases (has_verb (verb ∷ t ∷ u ∷ v ∷ w ∷ x ∷ y ∷ [])) (is_plain verb && behind) form) [
      | inl none ↦ no_seven_words verb t u v w x y none
      | inr some ↦ elim (and_cases (is_plain verb) behind some) [
        | inl e ↦ no_seven_words verb t u v w x y (no_word verb (codes "ake") 109 e refl)
        | inr rest ↦ no_seven_plain verb t u v w x y rest
      ]
    ]
no_form (verb ∷ t ∷ u ∷ v ∷ w ∷ x ∷ y ∷ z ∷ rest) form = refl

-- What parsing a word of digits gives.

digits_test : IsDigitsTest (λ ds. are_digits ds ≡ true)
digits_test = record {
  empty = refl;
  parts = λ c cs e. let k = and_parts (is_ascii_digit c) (are_digits cs) e in let m = and_parts (nat_le 48 c) (nat_le c 57) k.0 in ((leb-true 48 c m.0, leb-true c 57 m.1), k.1);
  more = λ c cs k e. rw (le-leb 48 c k.0, le-leb c 57 k.1, e);
}

own : IsNumeralModel (λ ds. are_digits ds ≡ true) (digits_value 10)
own = numerals_by_value _ digits_test

-- where the test fails, there is no value
unless : (below : Bool) (value : ℕ) → (below ≡ true → ⊥) → None ≡ (if true && below then Some value else None)
unless true value never = absurd (never refl)
unless false value never = refl

module _ {E : Type 0} where
  seed_by_cases : (word : List ℕ) (r : Result ℕ E) → is_numeral word 20 ≡ true → 0 < length word
      → OkIff r ((0 < length word) × (digits_value 10 word < 2 ^ 64)) (digits_value 10 word) → result_ok r ≡ seed_of word
  seed_by_cases word (Ok value) numeral some h = rw (numeral, lt-ltb (digits_value 10 word) (2 ^ 64) h.0.1) (ap Some h.1)
  seed_by_cases word (Err error) numeral some h =
      rw numeral (unless (nat_lt (digits_value 10 word) (2 ^ 64)) (digits_value 10 word) (λ below. h (some, ltb-true (digits_value 10 word) (2 ^ 64) below)))

  pub seed_parsed : (word : List ℕ) (r : Result ℕ E) → is_numeral word 20 ≡ true → ParsesUnsigned 64 10 word r → result_ok r ≡ seed_of word
  seed_parsed word r numeral h =
      let digits = and_parts (nat_lt 0 (length word) && nat_le (length word) 20) (are_digits word) numeral in
      let some = and_parts (nat_lt 0 (length word)) (nat_le (length word) 20) digits.0 in
      seed_by_cases word r numeral (ltb-true 0 (length word) some.0) (parse_digits own 64 word r h digits.1)
