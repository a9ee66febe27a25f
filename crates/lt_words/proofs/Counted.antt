-- What is told of so many words, text by text.
use Rattle.std.proofs.Common.{◌≡◌, ◌≢◌, ◌<◌, ◌≤◌, List, [], ◌∷◌, ℕ, length, map, arith, refl, false, is_some, string_bytes, String, Global, get_or}
use Rattle.lt_words.specs.Grammar.{command_of}

module _ {A : Type 0} (F : List (List ℕ) → A) where
  pub of_one : (xs : List (String Global)) (a : String Global) (t0 : List ℕ)
      → a ≡ get_or xs 0 a → t0 ≡ string_bytes a
      → 1 ≤ length xs → length xs < 2 → F (t0 ∷ []) ≡ F (map string_bytes xs)
  of_one [] a t0 e0 f0 least most = absurd (omega (arith, least))
  of_one (x0 ∷ []) a t0 e0 f0 least most = cc
  of_one (x0 ∷ y ∷ rest) a t0 e0 f0 least most = absurd (omega (arith, most))

  pub of_two : (xs : List (String Global)) (a b : String Global) (t0 t1 : List ℕ)
      → a ≡ get_or xs 0 a → t0 ≡ string_bytes a
      → b ≡ get_or xs 1 b → t1 ≡ string_bytes b
      → 2 ≤ length xs → length xs < 3 → F (t0 ∷ t1 ∷ []) ≡ F (map string_bytes xs)
  of_two [] a b t0 t1 e0 f0 e1 f1 least most = absurd (omega (arith, least))
  of_two (x0 ∷ []) a b t0 t1 e0 f0 e1 f1 least most = absurd (omega (arith, least))
  of_two (x0 ∷ x1 ∷ []) a b t0 t1 e0 f0 e1 f1 least most = cc
  of_two (x0 ∷ x1 ∷ y ∷ rest) a b t0 t1 e0 f0 e1 f1 least most = absurd (omega (arith, most))

  pub of_five : (xs : List (String Global)) (a b c d e : String Global) (t0 t1 t2 t3 t4 : List ℕ)
      → a ≡ get_or xs 0 a → t0 ≡ string_bytes a
      → b ≡ get_or xs 1 b → t1 ≡ string_bytes b
      → c ≡ get_or xs 2 c → t2 ≡ string_bytes c
      → d ≡ get_or xs 3 d → t3 ≡ string_bytes d
      → e ≡ get_or xs 4 e → t4 ≡ string_bytes e
      → 5 ≤ length xs → length xs < 6 → F (t0 ∷ t1 ∷ t2 ∷ t3 ∷ t4 ∷ []) ≡ F (map string_bytes xs)
  of_five [] a b c d e t0 t1 t2 t3 t4 e0 f0 e1 f1 e2 f2 e3 f3 e4 f4 least most = absurd (omega (arith, least))
  of_five (x0 ∷ []) a b c d e t0 t1 t2 t3 t4 e0 f0 e1 f1 e2 f2 e3 f3 e4 f4 least most = absurd (omega (arith, least))
  of_five (x0 ∷ x1 ∷ []) a b c d e t0 t1 t2 t3 t4 e0 f0 e1 f1 e2 f2 e3 f3 e4 f4 least most = absurd (omega (arith, least))
  of_five (x0 ∷ x1 ∷ x2 ∷ []) a b c d e t0 t1 t2 t3 t4 e0 f0 e1 f1 e2 f2 e3 f3 e4 f4 least most = absurd (omega (arith, least))
  of_five (x0 ∷ x1 ∷ x2 ∷ x3 ∷ []) a b c d e t0 t1 t2 t3 t4 e0 f0 e1 f1 e2 f2 e3 f3 e4 f4 least most = absurd (omega (arith, least))
  of_five (x0 ∷ x1 ∷ x2 ∷ x3 ∷ x4 ∷ []) a b c d e t0 t1 t2 t3 t4 e0 f0 e1 f1 e2 f2 e3 f3 e4 f4 least most = cc
  of_five (x0 ∷ x1 ∷ x2 ∷ x3 ∷ x4 ∷ y ∷ rest) a b c d e t0 t1 t2 t3 t4 e0 f0 e1 f1 e2 f2 e3 f3 e4 f4 least most = absurd (omega (arith, most))

  pub of_seven : (xs : List (String Global)) (a b c d e f g : String Global) (t0 t1 t2 t3 t4 t5 t6 : List ℕ)
      → a ≡ get_or xs 0 a → t0 ≡ string_bytes a
      → b ≡ get_or xs 1 b → t1 ≡ string_bytes b
      → c ≡ get_or xs 2 c → t2 ≡ string_bytes c
      → d ≡ get_or xs 3 d → t3 ≡ string_bytes d
      → e ≡ get_or xs 4 e → t4 ≡ string_bytes e
      → f ≡ get_or xs 5 f → t5 ≡ string_bytes f
      → g ≡ get_or xs 6 g → t6 ≡ string_bytes g
      → 7 ≤ length xs → length xs < 8 → F (t0 ∷ t1 ∷ t2 ∷ t3 ∷ t4 ∷ t5 ∷ t6 ∷ []) ≡ F (map string_bytes xs)
  of_seven [] a b c d e f g t0 t1 t2 t3 t4 t5 t6 e0 f0 e1 f1 e2 f2 e3 f3 e4 f4 e5 f5 e6 f6 least most = absurd (omega (arith, least))
  of_seven (x0 ∷ []) a b c d e f g t0 t1 t2 t3 t4 t5 t6 e0 f0 e1 f1 e2 f2 e3 f3 e4 f4 e5 f5 e6 f6 least most = absurd (omega (arith, least))
  of_seven (x0 ∷ x1 ∷ []) a b c d e f g t0 t1 t2 t3 t4 t5 t6 e0 f0 e1 f1 e2 f2 e3 f3 e4 f4 e5 f5 e6 f6 least most = absurd (omega (arith, least))
  of_seven (x0 ∷ x1 ∷ x2 ∷ []) a b c d e f g t0 t1 t2 t3 t4 t5 t6 e0 f0 e1 f1 e2 f2 e3 f3 e4 f4 e5 f5 e6 f6 least most = absurd (omega (arith, least))
  of_seven (x0 ∷ x1 ∷ x2 ∷ x3 ∷ []) a b c d e f g t0 t1 t2 t3 t4 t5 t6 e0 f0 e1 f1 e2 f2 e3 f3 e4 f4 e5 f5 e6 f6 least most = absurd (omega (arith, least))
  of_seven (x0 ∷ x1 ∷ x2 ∷ x3 ∷ x4 ∷ []) a b c d e f g t0 t1 t2 t3 t4 t5 t6 e0 f0 e1 f1 e2 f2 e3 f3 e4 f4 e5 f5 e6 f6 least most = absurd (omega (arith, least))
  of_seven (x0 ∷ x1 ∷ x2 ∷ x3 ∷ x4 ∷ x5 ∷ []) a b c d e f g t0 t1 t2 t3 t4 t5 t6 e0 f0 e1 f1 e2 f2 e3 f3 e4 f4 e5 f5 e6 f6 least most = absurd (omega (arith, least))
  of_seven (x0 ∷ x1 ∷ x2 ∷ x3 ∷ x4 ∷ x5 ∷ x6 ∷ []) a b c d e f g t0 t1 t2 t3 t4 t5 t6 e0 f0 e1 f1 e2 f2 e3 f3 e4 f4 e5 f5 e6 f6 least most = cc
  of_seven (x0 ∷ x1 ∷ x2 ∷ x3 ∷ x4 ∷ x5 ∷ x6 ∷ y ∷ rest) a b c d e f g t0 t1 t2 t3 t4 t5 t6 e0 f0 e1 f1 e2 f2 e3 f3 e4 f4 e5 f5 e6 f6 least most = absurd (omega (arith, most))

-- no command has another number of words
pub other_counts : (xs : List (String Global)) → length xs ≢ 1 → length xs ≢ 2 → length xs ≢ 5 → length xs ≢ 7 → false ≡ is_some (command_of (map string_bytes xs))
other_counts [] one two five seven = refl
other_counts (x0 ∷ []) one two five seven = absurd (one refl)
other_counts (x0 ∷ x1 ∷ []) one two five seven = absurd (two refl)
other_counts (x0 ∷ x1 ∷ x2 ∷ []) one two five seven = refl
other_counts (x0 ∷ x1 ∷ x2 ∷ x3 ∷ []) one two five seven = refl
other_counts (x0 ∷ x1 ∷ x2 ∷ x3 ∷ x4 ∷ []) one two five seven = absurd (five refl)
other_counts (x0 ∷ x1 ∷ x2 ∷ x3 ∷ x4 ∷ x5 ∷ []) one two five seven = refl
other_counts (x0 ∷ x1 ∷ x2 ∷ x3 ∷ x4 ∷ x5 ∷ x6 ∷ []) one two five seven = absurd (seven refl)
other_counts (x0 ∷ x1 ∷ x2 ∷ x3 ∷ x4 ∷ x5 ∷ x6 ∷ x7 ∷ rest) one two five seven = refl
