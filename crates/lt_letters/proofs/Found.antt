-- What a reader of the code found.
use Rattle.std.proofs.Common.{◌≡◌, ℕ, length, Bool, cond, ◌==◌, List, [], ◌∷◌, Result, Ok, Err, sym, ap, subst, ◌∙◌, append-nil}
use Rattle.std.specs.Prelude.{IfOk}
use Rattle.lt_modes.specs.State.{Letter}
use Rattle.lt_letters.specs.declared.fault.Fault.{Fault}
use Rattle.lt_letters.specs.declared.fault.Fault.TheVariants.{Trailing}
use Rattle.lt_letters.specs.declared.fault.ReadError.{ReadError}
use Rattle.lt_letters.specs.declared.fault.ReadError.TheVariants as errors
use Rattle.lt_letters.specs.Causes.{AreOfLetter, IsCause}
use Rattle.lt_letters.specs.Laws.{IsBytes}
use Rattle.lt_letters.specs.Reading.{◌>>=◌, letter_from, whole_from}
use Rattle.lt_letters.specs.Seen.{Builds, Fails, IsRead}
use Rattle.lt_letters.specs.Spelling.{letter_bytes, LetterFits}
use Rattle.lt_letters.proofs.Forms.{bind_ok, ok_is}
use Rattle.lt_letters.proofs.Letters.{letter_form, more_left, faults_have_causes}

-- what is left after the letter
abbrev ended : Letter × List ℕ → Result Letter Fault
ended x = cond (length x.1 == 0) (Ok x.0) (Err Trailing)

not_read : (letter : Letter) → Err Trailing ≡ Ok letter → ⊥
not_read letter e = cc

pub whole_is : (bytes : List ℕ) (letter : Letter) → IsBytes bytes → whole_from bytes ≡ Ok letter
    → (bytes ≡ letter_bytes letter) × LetterFits letter
unfolding whole_from
whole_is bytes letter fits e =
    let a = bind_ok (letter_from bytes) ended letter e in
    by_rest a.0.0 a.0.1 a.1 a.2
  where
    by_rest : (found : Letter) (rest : List ℕ) → letter_from bytes ≡ Ok (found, rest) → ended (found, rest) ≡ Ok letter
        → (bytes ≡ letter_bytes letter) × LetterFits letter
    by_rest found [] read is =
        let t = letter_form.takes bytes (found, []) fits read in
        subst (λ (l : Letter). (bytes ≡ letter_bytes l) × LetterFits l) (ok_is found letter is)
        (t.0.parts ∙ append-nil (letter_bytes found), t.1)
    by_rest found (r ∷ rest) read is =
        absurd (not_read letter (sym (ap (λ (b : Bool). cond b (Ok found) (Err Trailing)) (more_left r rest)) ∙ is))

pub whole_again : (bytes : List ℕ) (letter : Letter) → LetterFits letter → bytes ≡ letter_bytes letter → whole_from bytes ≡ Ok letter
unfolding whole_from
whole_again bytes letter fits is =
    let read : letter_from bytes ≡ Ok (letter, []) =
    ap letter_from (is ∙ sym (append-nil (letter_bytes letter))) ∙ letter_form.again letter [] fits in
    ap (λ (r : Result (Letter × List ℕ) Fault). r >>= ended) read

pub is_found : {X : Type 0} (view : X → Letter) (bytes : List ℕ) (r : Result X ReadError) → IsBytes bytes → Builds view r (whole_from bytes)
    → IfOk r (λ x. (bytes ≡ letter_bytes (view x)) × LetterFits (view x))
is_found view bytes (Ok x) fits given = whole_is bytes (view x) fits given
is_found view bytes (Err e) fits given = tt

pub is_again : {X : Type 0} (view : X → Letter) (bytes : List ℕ) (r : Result X ReadError) (letter : Letter) → Builds view r (whole_from bytes)
    → LetterFits letter → bytes ≡ letter_bytes letter → Builds {Y = Letter} view r (Ok letter)
is_again view bytes r letter given fits is =
    subst (λ (f : Result Letter Fault). Builds view r f) (whole_again bytes letter fits is) given

pub has_cause : {X : Type 0} (view : X → Letter) (bytes : List ℕ) (r : Result X ReadError) (f : Fault) → IsBytes bytes
    → Builds view r (whole_from bytes) → r ≡ Err (errors.Fault f) → IsCause f bytes
has_cause {X = X} view bytes r f fits given e =
    let fault : whole_from bytes ≡ Err f = subst (λ (q : Result X ReadError). Builds view q (whole_from bytes)) e given in
    faults_have_causes bytes f fits fault

pub of_letter : (bytes : List ℕ) → IsBytes bytes → IsRead (whole_from bytes) → AreOfLetter bytes
of_letter bytes fits h = (h.0, whole_is bytes h.0 fits h.1)

-- The letter that was built, where it was seen that there is one.

pub same_letter : (bytes rest : List ℕ) (letter : Letter) → letter_from bytes ≡ Ok (letter, rest) → IsRead (whole_from bytes)
    → whole_from bytes ≡ Ok letter
unfolding whole_from
same_letter bytes rest letter read h =
    let to_end : whole_from bytes ≡ ended (letter, rest) = ap (λ (r : Result (Letter × List ℕ) Fault). r >>= ended) read in
    by_rest rest to_end
  where
    by_rest : (rest : List ℕ) → whole_from bytes ≡ ended (letter, rest) → whole_from bytes ≡ Ok letter
    by_rest [] is = is
    by_rest (r ∷ rest) is =
        absurd (not_read h.0 (sym (is ∙ ap (λ (b : Bool). cond b (Ok letter) (Err Trailing)) (more_left r rest)) ∙ h.1))

pub whole_fails : (bytes : List ℕ) (e : ReadError) → Fails e (letter_from bytes) → Fails e (whole_from bytes)
unfolding whole_from
whole_fails bytes errors.Memory h = tt
whole_fails bytes (errors.Fault f) h = ap (λ (r : Result (Letter × List ℕ) Fault). r >>= ended) h
