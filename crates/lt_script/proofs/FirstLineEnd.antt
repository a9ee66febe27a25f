-- The place of the first line feed is the one that a search for it finds.
use Rattle.std.proofs.Common.{◌≡◌, ◌∙◌, ℕ, zero, suc, ◌+◌, ◌<◌, Bool, true, false, cond, List, [], ◌∷◌, ◌++◌, length, take, drop, get_or, slice_index, Option, Some, None, position, refl, sym, ap, arith, eqb-true, length-take-le}
use Rattle.std.specs.List.{position_from}
use Rattle.std.proofs.Math.Seq.{split_at}
use Rattle.std.proofs.lemmas.Iterator.Adapters.{position_from-zero}
use Rattle.memchr.specs.Find.{IsFirstByte, is_byte}
use Rattle.lt_text.specs.Text.{is_line_end, HasNone}

not_true : (b : Bool) → (b ≡ true → ⊥) → b ≡ false
not_true true h = absurd (h refl)
not_true false h = refl

none_before : (bytes : List ℕ) (k : ℕ) → ((i : ℕ) → i < k → is_line_end (slice_index bytes i) ≡ true → ⊥) → HasNone is_line_end (take k bytes)
none_before [] zero h = tt
none_before [] (suc k) h = tt
none_before (byte ∷ bytes) zero h = tt
none_before (byte ∷ bytes) (suc k) h =
    (not_true (is_line_end byte) (h 0 (omega arith)), none_before bytes k (λ i l. h (suc i) (omega (arith, l))))

-- no place has a line feed
pub none_in : (bytes : List ℕ) → ((i : ℕ) → i < length bytes → is_line_end (slice_index bytes i) ≡ true → ⊥) → HasNone is_line_end bytes
none_in [] h = tt
none_in (byte ∷ bytes) h = (not_true (is_line_end byte) (h 0 (omega arith)), none_in bytes (λ i l. h (suc i) (omega (arith, l))))

-- the bytes are those before the line end at this place, the line end and those after it
pub parts_at : (bytes : List ℕ) (k : ℕ) → k < length bytes → is_line_end (slice_index bytes k) ≡ true → bytes ≡ take k bytes ++ 10 ∷ drop (k + 1) bytes
parts_at bytes k inside ends =
    let next : suc k ≡ k + 1 = omega arith in
    split_at bytes k 0 inside
    ∙ (ap (λ (byte : ℕ). take k bytes ++ byte ∷ drop (suc k) bytes) (eqb-true (get_or bytes k 0) 10 ends)
    ∙ ap (λ (n : ℕ). take k bytes ++ 10 ∷ drop n bytes) next)

-- the first line end in the bytes is at this place
pub record IsCut (bytes : List ℕ) (k : ℕ) : Type 0 where
  pub inside : k < length bytes
  pub parts : bytes ≡ take k bytes ++ 10 ∷ drop (k + 1) bytes
  pub none : HasNone is_line_end (take k bytes)

pub first_cut : (bytes : List ℕ) (k : ℕ) → IsFirstByte (is_byte 10) bytes (Some k) → IsCut bytes k
first_cut bytes k found = record {
  inside = found.0.high;
  parts = parts_at bytes k found.0.high found.1;
  none = none_before bytes k (λ i l. found.0.before i (omega arith) l);
}

pub none_found : (bytes : List ℕ) → IsFirstByte (is_byte 10) bytes None → HasNone is_line_end bytes
none_found bytes none = none_in bytes (λ i l. none i (omega arith) l)

none_from : (i : ℕ) (bytes : List ℕ) → HasNone is_line_end bytes → None ≡ position_from is_line_end i bytes
none_from i [] none = refl
none_from i (byte ∷ bytes) none =
    none_from (i + 1) bytes none.1 ∙ ap (λ (b : Bool). cond b (Some i) (position_from is_line_end (i + 1) bytes)) (sym none.0)

found_from : (i k : ℕ) (front rest : List ℕ) → HasNone is_line_end front → k ≡ i + length front → Some k ≡ position_from is_line_end i (front ++ 10 ∷ rest)
found_from i k [] rest none at = ap (λ (n : ℕ). Some n) (omega (arith, at))
found_from i k (byte ∷ front) rest none at =
    found_from (i + 1) k front rest none.1 (omega (arith, at))
    ∙ ap (λ (b : Bool). cond b (Some i) (position_from is_line_end (i + 1) (front ++ 10 ∷ rest))) (sym none.0)

-- it is at the place where the search finds it
pub place_found : (bytes : List ℕ) (found : Option ℕ) → IsFirstByte (is_byte 10) bytes found → found ≡ position is_line_end bytes
place_found bytes None none = none_from 0 bytes (none_found bytes none) ∙ sym (position_from-zero is_line_end bytes)
place_found bytes (Some k) found =
    let cut = first_cut bytes k found in
    found_from 0 k (take k bytes) (drop (k + 1) bytes) cut.none (omega (arith, length-take-le k bytes (omega (arith, cut.inside))))
    ∙ (ap (position_from is_line_end 0) (sym cut.parts) ∙ sym (position_from-zero is_line_end bytes))
