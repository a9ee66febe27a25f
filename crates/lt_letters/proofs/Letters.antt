-- The form of a letter, and its laws.
use Rattle.std.proofs.Common.{◌≡◌, ℕ, ◌<◌, ◌^◌, length, Bool, false, cond, ◌==◌, subst, List, [], ◌∷◌, ◌++◌, Ok, Err, refl, sym, ap, ◌∙◌, append_assoc, append-nil, inl, inr, arith}
use Rattle.std.proofs.lemmas.Bool.{ne_eqb}
use Rattle.std.specs.Int.{w32}
use Rattle.std.specs.List.{flat_map}
use Rattle.std.proofs.lemmas.List.Concat.{flat_map-cons}
use Rattle.lt_modes.specs.State.{Letter}
use Rattle.lt_letters.specs.declared.fault.Fault.{Fault}
use Rattle.lt_letters.specs.declared.fault.Fault.TheVariants.{Short, Unknown, TooMany, Trailing}
use Rattle.lt_letters.specs.Laws.{IsBytes, WrittenIsRead, ReadIsWritten, BytesArePrefix, FaultsHaveCauses}
use Rattle.lt_letters.specs.Causes.{BeginLetter, AreNoLetter, IsCause}
use Rattle.lt_letters.specs.Spelling.{number32, stamp_bytes, link_bytes, body_bytes, letter_bytes, StampFits, LinkFits, BodyFits, LetterFits}
use Rattle.lt_letters.specs.Reading.{number_from, stamp_from, link_from, body_from, letter_from, whole_from}
use Rattle.lt_letters.proofs.Forms.{fails, fault_is, ok_is, bind_err, IsForm, last_field, next_field, of_fields}
use Rattle.lt_letters.proofs.NumberForms.{number32_form}
use Rattle.lt_letters.proofs.RecordForms.{stamp_form, link_form}
use Rattle.lt_letters.proofs.BodyForm.{body_form}

pub letter_form : IsForm letter_bytes letter_from LetterFits
unfolding letter_from
letter_form = of_fields letter_bytes _ LetterFits
    (next_field (λ l. tt) (λ (l : Letter). l.stamp) stamp_bytes stamp_from StampFits _ _ _ stamp_form
    (next_field (λ (l : Letter). (tt, l.stamp)) (λ l. l.set) number32 (number_from w32) (λ n. n < 2 ^ 32) _ _ _ number32_form
    (next_field (λ (l : Letter). ((tt, l.stamp), l.set)) (λ l. l.link) link_bytes link_from LinkFits _ _ _ link_form
    (last_field (λ (l : Letter). (((tt, l.stamp), l.set), l.link)) (λ l. l.body)
    (λ k y. record { stamp = k.0.0.1; set = k.0.1; link = k.1; body = y })
    body_bytes body_from BodyFits (λ k y. refl) (λ k y. refl) (λ l. refl) body_form))))

-- The laws.

pub written_is_read : WrittenIsRead
written_is_read letter rest fits = letter_form.again letter rest fits

pub read_is_written : ReadIsWritten
read_is_written bytes rest letter fits e = let t = letter_form.takes bytes (letter, rest) fits e in (t.0.parts, t.1)

-- nothing is read of no bytes
none_of_nothing : (x : Letter × List ℕ) → letter_from [] ≡ Ok x → ⊥
unfolding letter_from stamp_from number_from
none_of_nothing x e = cc

-- what follows the first of some letters
after_first : (letter : Letter) (letters : List Letter) (rest : List ℕ) → LetterFits letter
    → letter_from (flat_map letter_bytes (letter ∷ letters) ++ rest) ≡ Ok (letter, flat_map letter_bytes letters ++ rest)
after_first letter letters rest fits =
    ap (λ (text : List ℕ). letter_from (text ++ rest)) (flat_map-cons letter_bytes letter letters)
    ∙ (ap letter_from (append_assoc (letter_bytes letter) (flat_map letter_bytes letters) rest) ∙ letter_form.again letter (flat_map letter_bytes letters ++ rest) fits)

pub bytes_are_prefix : BytesArePrefix
bytes_are_prefix [] given fit also h = (given, refl)
bytes_are_prefix (l ∷ ls) [] fit also h =
    absurd (none_of_nothing (l, flat_map letter_bytes ls ++ h.0) (ap letter_from (sym h.1) ∙ after_first l ls h.0 fit.0))
bytes_are_prefix (l ∷ ls) (m ∷ ms) fit also h =
    let given : letter_from (flat_map letter_bytes (m ∷ ms)) ≡ Ok (m, flat_map letter_bytes ms) =
    ap letter_from (sym (append-nil (flat_map letter_bytes (m ∷ ms)))) ∙ (after_first m ms [] also.0 ∙ ap (λ (text : List ℕ). Ok (m, text)) (append-nil (flat_map letter_bytes ms))) in
    let both : Ok (l, flat_map letter_bytes ls ++ h.0) ≡ Ok (m, flat_map letter_bytes ms) = sym (after_first l ls h.0 fit.0) ∙ (ap letter_from h.1 ∙ given) in
    let a : Letter × List ℕ = (l, flat_map letter_bytes ls ++ h.0) in
    let b : Letter × List ℕ = (m, flat_map letter_bytes ms) in
    let same : a ≡ b = ok_is a b both in
    let rest = bytes_are_prefix ls ms fit.1 also.1 (h.0, ap (λ (x : Letter × List ℕ). x.1) same) in
    (rest.0, ap (λ (letters : List Letter). l ∷ letters) rest.1 ∙ ap (λ (x : Letter × List ℕ). x.0 ∷ ms) same)

-- What is wrong with bytes that are no letter.

begins_letter : (bytes : List ℕ) → IsBytes bytes → letter_from bytes ≡ Err Short → BeginLetter bytes
begins_letter bytes fits e =
    let s = letter_form.short bytes fits e in
    (s.0, (s.1.0, (s.1.1.0, (some_more s.0 s.1.0 s.1.1.0 s.1.1.1, s.1.1.1))))
  where
    both : (x : Letter × List ℕ) → Err Short ≡ Ok x → ⊥
    both x e = cc

    some_more : (letter : Letter) (more : List ℕ) → bytes ++ more ≡ letter_bytes letter → LetterFits letter → 0 < length more
    some_more letter [] is fits =
        let read : letter_from bytes ≡ Ok (letter, []) =
        ap letter_from (sym (append-nil bytes) ∙ (is ∙ sym (append-nil (letter_bytes letter)))) ∙ letter_form.again letter [] fits in
        absurd (both (letter, []) (sym e ∙ read))
    some_more letter (m ∷ more) is fits = omega arith

no_letter : (bytes : List ℕ) (d : Fault) → IsBytes bytes → letter_from bytes ≡ Err d → (d ≡ Short → ⊥) → (d ≡ Trailing → ⊥) × AreNoLetter bytes
no_letter bytes d fits e other = (λ is. never is, λ letter more rest fit is. none letter more rest fit is)
  where
    both : (x : Letter × List ℕ) → Err d ≡ Ok x → ⊥
    both x e = cc

    never : d ≡ Trailing → ⊥
    never is = elim (letter_form.stays bytes [] d fits e) [
      | inl short ↦ other short
      | inr on ↦ on.0 is
    ]

    none : (letter : Letter) (more rest : List ℕ) → LetterFits letter → bytes ++ more ≡ letter_bytes letter ++ rest → ⊥
    none letter more rest fit is = elim (letter_form.stays bytes more d fits e) [
      | inl short ↦ other short
      | inr on ↦ both (letter, rest) (sym on.1 ∙ (ap letter_from is ∙ letter_form.again letter rest fit))
    ]

cause_of : (bytes : List ℕ) (d : Fault) → IsBytes bytes → letter_from bytes ≡ Err d → IsCause d bytes
cause_of bytes Short fits e = begins_letter bytes fits e
cause_of bytes Unknown fits e = (no_letter bytes Unknown fits e (λ (is : Unknown ≡ Short). other is)).1
  where
    other : Unknown ≡ Short → ⊥
    other e = cc
cause_of bytes TooMany fits e = (no_letter bytes TooMany fits e (λ (is : TooMany ≡ Short). other is)).1
  where
    other : TooMany ≡ Short → ⊥
    other e = cc
cause_of bytes Trailing fits e = absurd ((no_letter bytes Trailing fits e (λ (is : Trailing ≡ Short). other is)).0 refl)
  where
    other : Trailing ≡ Short → ⊥
    other e = cc

-- bytes that are left
pub more_left : (r : ℕ) (rest : List ℕ) → (length (r ∷ rest) == 0) ≡ false
more_left r rest = ne_eqb (length (r ∷ rest)) 0 (λ e. omega (arith, e))

pub faults_have_causes : FaultsHaveCauses
unfolding whole_from
faults_have_causes bytes d fits e =
    elim (bind_err (letter_from bytes) (λ letter. cond (length letter.1 == 0) (Ok letter.0) (Err Trailing)) d e) [
      | inl here ↦ cause_of bytes d fits here
      | inr after ↦ by_rest after.0.0 after.0.1 after.1.0 after.1.1
    ]
  where
    by_rest : (letter : Letter) (rest : List ℕ) → letter_from bytes ≡ Ok (letter, rest)
        → cond (length rest == 0) (Ok letter) (Err Trailing) ≡ Err d → IsCause d bytes
    by_rest letter [] read is = absurd cc
    by_rest letter (r ∷ rest) read is =
        let t = letter_form.takes bytes (letter, r ∷ rest) fits read in
        let same : fails {A = Letter} Trailing ≡ fails {A = Letter} d =
        sym (ap (λ (b : Bool). cond b (Ok letter) (Err Trailing)) (more_left r rest)) ∙ is in
        subst (λ (f : Fault). IsCause f bytes) (fault_is {A = Letter} Trailing d same) (letter, (r ∷ rest, (t.0.parts, (omega arith, t.1))))
