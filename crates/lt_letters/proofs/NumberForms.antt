-- The forms of numbers.
use Rattle.std.proofs.Common.{◌≡◌, ℕ, zero, suc, ◌+◌, ◌-◌, ◌^◌, ◌<◌, ◌≤◌, Bool, true, false, cond, ltb, List, [], ◌∷◌, ◌++◌, length, take, drop, Ok, Err, refl, sym, ap, subst, ◌∙◌, arith, inl, inr}
use Rattle.std.specs.Int.{Width, w16, w32, w64, byte_len, from_le_bytes, to_le_bytes}
use Rattle.std.proofs.lemmas.Bool.{cases_lt, ltb-false, ltb-true, le-ltb}
use Rattle.std.proofs.lemmas.List.{take_at, drop_at, take-append-drop, length-append, length-take, get_or-drop, get_or-take, get_or_past}
use Rattle.std.proofs.lemmas.Nat.{le_bytes_2, le_bytes_4, le_bytes_8, from_le_bytes-to_le_bytes_2, from_le_bytes-to_le_bytes_4, from_le_bytes-to_le_bytes_8}
use Rattle.lt_letters.specs.declared.fault.Fault.{Fault}
use Rattle.lt_letters.specs.declared.fault.Fault.TheVariants.{Short, TooMany, Trailing}
use Rattle.lt_letters.specs.Laws.{IsBytes}
use Rattle.lt_letters.specs.Spelling.{byte, number16, number32, number64}
use Rattle.lt_letters.specs.Reading.{byte_from, byte_to, number_from}
use Rattle.lt_letters.proofs.Forms.{bind_ok, ok_is, Takes, Stays, IsForm}

IsBytes-drop : (n : ℕ) (bytes : List ℕ) → IsBytes bytes → IsBytes (drop n bytes)
IsBytes-drop n bytes h i = rw get_or-drop (h (n + i))

IsBytes-take : (n : ℕ) (bytes : List ℕ) → IsBytes bytes → IsBytes (take n bytes)
IsBytes-take n bytes h i =
    elim (cases_lt i n) [
      | inl lt ↦ rw (get_or-take n bytes i 0 lt) (h i)
      | inr le ↦ rw (get_or_past (take n bytes) i 0 (omega (arith, length-take n bytes))) (omega arith)
    ]

-- a test that did not fail
guard_ok : {A : Type 0} (b : Bool) (d : Fault) (x y : A) → cond b (Err d) (Ok x) ≡ Ok y → (b ≡ false) × (x ≡ y)
guard_ok true d x y e = absurd cc
guard_ok false d x y e = (refl, cc)

-- a test that failed, or a value, which is no fault
guard_err : {A : Type 0} (b : Bool) (c d : Fault) (x : A) → cond b (Err c) (Ok x) ≡ Err d → (b ≡ true) × (c ≡ d)
guard_err true c d x e = (refl, cc)
guard_err false c d x e = absurd cc

no_bytes : IsBytes []
no_bytes i = subst (λ (n : ℕ). n < 256) (sym (get_or_past {X = ℕ} [] i 0 (omega arith))) (omega arith)

IsBytes-append : (a b : List ℕ) → IsBytes a → IsBytes b → IsBytes (a ++ b)
IsBytes-append [] b f g i = g i
IsBytes-append (x ∷ a) b f g zero = f 0
IsBytes-append (x ∷ a) b f g (suc i) = IsBytes-append a b (λ j. f (suc j)) g i

zeros : ℕ → List ℕ
zeros zero = []
zeros (suc n) = 0 ∷ zeros n

zeros_length : (n : ℕ) → length (zeros n) ≡ n
unfolding zeros
zeros_length zero = refl
zeros_length (suc n) = ap suc (zeros_length n)

zeros_are : (n : ℕ) → IsBytes (zeros n)
unfolding zeros
zeros_are zero i = no_bytes i
zeros_are (suc n) zero = omega arith
zeros_are (suc n) (suc i) = zeros_are n i

-- Numbers.

record IsWide (w : Width) (limit : ℕ) : Type 0 where
  len : (n : ℕ) → length (to_le_bytes w n) ≡ byte_len w
  back : (bytes : List ℕ) → length bytes ≡ byte_len w → IsBytes bytes → to_le_bytes w (from_le_bytes w bytes) ≡ bytes
  again : (n : ℕ) → n < limit → from_le_bytes w (to_le_bytes w n) ≡ n
  below : (bytes : List ℕ) → IsBytes bytes → from_le_bytes w bytes < limit

wide16 : IsWide w16 (2 ^ 16)
wide16 = record {
  len = λ n. refl;
  back = λ bytes len fits. le_bytes_2 bytes _ len fits refl;
  again = λ n lt. from_le_bytes-to_le_bytes_2 n lt;
  below = λ bytes fits. omega (arith, fits 0, fits 1);
}

wide32 : IsWide w32 (2 ^ 32)
wide32 = record {
  len = λ n. refl;
  back = λ bytes len fits. le_bytes_4 bytes _ len fits refl;
  again = λ n lt. from_le_bytes-to_le_bytes_4 n lt;
  below = λ bytes fits. omega (arith, fits 0, fits 1, fits 2, fits 3);
}

wide64 : IsWide w64 (2 ^ 64)
wide64 = record {
  len = λ n. refl;
  back = λ bytes len fits. le_bytes_8 bytes _ len fits refl;
  again = λ n lt. from_le_bytes-to_le_bytes_8 n lt;
  below = λ bytes fits. omega (arith, fits 0, fits 1, fits 2, fits 3, fits 4, fits 5, fits 6, fits 7);
}

number_form : (w : Width) (limit : ℕ) → IsWide w limit → IsForm (to_le_bytes w) (number_from w) (λ n. n < limit)
unfolding number_from
number_form w limit wide = record {
  takes = λ bytes x fits e.
      let g = guard_ok (ltb (length bytes) (byte_len w)) Short (from_le_bytes w (take (byte_len w) bytes), drop (byte_len w) bytes) x e in
      let long : byte_len w ≤ length bytes = ltb-false _ _ g.0 in
      let front : to_le_bytes w (from_le_bytes w (take (byte_len w) bytes)) ≡ take (byte_len w) bytes =
      wide.back (take (byte_len w) bytes) (omega (arith, length-take (byte_len w) bytes, long)) (IsBytes-take (byte_len w) bytes fits) in
      let parts : bytes ≡ to_le_bytes w (from_le_bytes w (take (byte_len w) bytes)) ++ drop (byte_len w) bytes =
      sym (ap (λ (text : List ℕ). text ++ drop (byte_len w) bytes) front ∙ take-append-drop (byte_len w) bytes) in
      subst (λ (y : ℕ × List ℕ). Takes bytes (to_le_bytes w y.0) y.1 × (y.0 < limit)) g.1
      (record { parts = parts; rest_fits = IsBytes-drop (byte_len w) bytes fits }, wide.below (take (byte_len w) bytes) (IsBytes-take (byte_len w) bytes fits));
  again = λ n rest lt.
      let len = wide.len n in
      let long : ltb (length (to_le_bytes w n ++ rest)) (byte_len w) ≡ false = le-ltb _ _ (omega (arith, length-append (to_le_bytes w n) rest, len)) in
      rw (long, take_at (to_le_bytes w n) rest (byte_len w) len, drop_at (to_le_bytes w n) rest (byte_len w) len, wide.again n lt) refl;
  some = (from_le_bytes w [], wide.below [] no_bytes);
  short = λ bytes fits e.
      let g = guard_err (ltb (length bytes) (byte_len w)) Short Short (from_le_bytes w (take (byte_len w) bytes), drop (byte_len w) bytes) e in
      let lt : length bytes < byte_len w = ltb-true _ _ g.0 in
      let more = zeros (byte_len w - length bytes) in
      let len : length (bytes ++ more) ≡ byte_len w = omega (arith, length-append bytes more, zeros_length (byte_len w - length bytes), lt) in
      let all : IsBytes (bytes ++ more) = IsBytes-append bytes more fits (zeros_are (byte_len w - length bytes)) in
      (from_le_bytes w (bytes ++ more), (more, (sym (wide.back (bytes ++ more) len all), wide.below (bytes ++ more) all)));
  stays = λ bytes more d fits e.
      let g = guard_err (ltb (length bytes) (byte_len w)) Short d (from_le_bytes w (take (byte_len w) bytes), drop (byte_len w) bytes) e in
      inl (sym g.1);
}

pub number16_form : IsForm number16 (number_from w16) (λ n. n < 2 ^ 16)
number16_form = number_form w16 (2 ^ 16) wide16

pub number32_form : IsForm number32 (number_from w32) (λ n. n < 2 ^ 32)
number32_form = number_form w32 (2 ^ 32) wide32

pub number64_form : IsForm number64 (number_from w64) (λ n. n < 2 ^ 64)
number64_form = number_form w64 (2 ^ 64) wide64

IsBytes-rest : (b : ℕ) (bytes : List ℕ) → IsBytes (b ∷ bytes) → IsBytes bytes
IsBytes-rest b bytes h i = h (suc i)

pub byte_takes : (bytes : List ℕ) (x : ℕ × List ℕ) → IsBytes bytes → byte_from bytes ≡ Ok x → Takes bytes (byte x.0) x.1 × (x.0 < 256)
unfolding byte_from
byte_takes [] x fits e = absurd cc
byte_takes (b ∷ bytes) x fits e =
    subst (λ (y : ℕ × List ℕ). Takes (b ∷ bytes) (byte y.0) y.1 × (y.0 < 256)) (ok_is (b, bytes) x e)
    (record { parts = refl; rest_fits = IsBytes-rest b bytes fits }, fits 0)

byte_short : (bytes : List ℕ) → IsBytes bytes → byte_from bytes ≡ Err Short
    → (n : ℕ) × ((more : List ℕ) × ((bytes ++ more ≡ byte n) × (n < 256)))
unfolding byte_from
byte_short [] fits e = (0, (0 ∷ [], (refl, omega arith)))
byte_short (b ∷ bytes) fits e = absurd cc

byte_stays : (bytes more : List ℕ) (d : Fault) → IsBytes bytes → byte_from bytes ≡ Err d → Stays d (byte_from (bytes ++ more))
unfolding byte_from
byte_stays [] more d fits e = inl (sym (same e))
  where
    same : byte_from [] ≡ Err d → Short ≡ d
    same e = cc
byte_stays (b ∷ bytes) more d fits e = absurd cc

pub byte_form : IsForm byte byte_from (λ n. n < 256)
unfolding byte_from
byte_form = record {
  takes = byte_takes;
  again = λ n rest fits. refl;
  some = (0, omega arith);
  short = byte_short;
  stays = byte_stays;
}

up_to_short : (most : ℕ) (bytes : List ℕ) → IsBytes bytes → byte_to most bytes ≡ Err Short
    → (n : ℕ) × ((more : List ℕ) × ((bytes ++ more ≡ byte n) × (n ≤ most)))
unfolding byte_to byte_from
up_to_short most [] fits e = (0, (0 ∷ [], (refl, omega arith)))
up_to_short most (b ∷ bytes) fits e = absurd (other (guard_err (ltb most b) TooMany Short (b, bytes) e).1)
  where
    other : TooMany ≡ Short → ⊥
    other e = cc

up_to_stays : (most : ℕ) (bytes more : List ℕ) (d : Fault) → IsBytes bytes → byte_to most bytes ≡ Err d → Stays d (byte_to most (bytes ++ more))
unfolding byte_to byte_from
up_to_stays most [] more d fits e = inl (sym (same e))
  where
    same : byte_to most [] ≡ Err d → Short ≡ d
    same e = cc
up_to_stays most (b ∷ bytes) more d fits e =
    let g = guard_err (ltb most b) TooMany d (b, bytes) e in
    inr (λ is. other (g.1 ∙ is), ap (λ (t : Bool). cond t (Err TooMany) (Ok (b, bytes ++ more))) g.0 ∙ ap (λ (c : Fault). Err c) g.1)
  where
    other : TooMany ≡ Trailing → ⊥
    other e = cc

pub byte_to_form : (most : ℕ) → IsForm byte (byte_to most) (λ n. n ≤ most)
unfolding byte_to byte_from
byte_to_form most = record {
  takes = λ bytes x fits e.
      let a = bind_ok (byte_from bytes) (λ b. cond (ltb most b.0) (Err TooMany) (Ok (b.0, b.1))) x e in
      let t = byte_takes bytes a.0 fits a.1 in
      let g = guard_ok (ltb most a.0.0) TooMany (a.0.0, a.0.1) x a.2 in
      let few : a.0.0 ≤ most = ltb-false _ _ g.0 in
      subst (λ (y : ℕ × List ℕ). Takes bytes (byte y.0) y.1 × (y.0 ≤ most)) g.1 (t.0, few);
  again = λ n rest few. rw (le-ltb most n few) refl;
  some = (0, omega arith);
  short = up_to_short most;
  stays = up_to_stays most;
}
