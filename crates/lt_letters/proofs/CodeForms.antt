-- The forms of bytes that stand for one of a few values.
use Rattle.std.proofs.Common.{◌≡◌, ℕ, Bool, true, false, cond, List, [], ◌∷◌, ◌++◌, Option, Some, None, Ok, Err, refl, sym, ap, subst, ◌∙◌, inl, inr, ◌==◌, eqb-true, ◌⊎◌}
use Rattle.lt_modes.specs.declared.mode.Mode.{Mode}
use Rattle.lt_modes.specs.declared.mode.Mode.TheVariants.{IntentionRead, Read, Upgrade, IntentionWrite, ReadIntentionWrite, Write}
use Rattle.lt_letters.specs.declared.fault.Fault.{Fault}
use Rattle.lt_letters.specs.declared.fault.Fault.TheVariants.{Short, Trailing}
use Rattle.lt_letters.specs.Laws.{IsBytes}
use Rattle.lt_letters.specs.Spelling.{byte, mode_number, mode_bytes, choice_number, choice_bytes, flag_number, flag_bytes}
use Rattle.lt_letters.specs.Reading.{byte_from, mode_with, choice_with, flag_with, known_value, one_of}
use Rattle.lt_letters.proofs.Forms.{bind_ok, ok_is, Takes, Stays, IsForm}
use Rattle.lt_letters.proofs.NumberForms.{byte_takes}

-- each value has one number, which stands for it
pub record IsCode {A : Type 0} (number : A → ℕ) (value : ℕ → Option A) : Type 0 where
  pub there : (x : A) → value (number x) ≡ Some x
  pub back : (b : ℕ) (x : A) → value b ≡ Some x → number x ≡ b
  pub some : A

known_takes : {A : Type 0} (rest : List ℕ) (o : Option A) (x : A × List ℕ) → known_value rest o ≡ Ok x → (o ≡ Some x.0) × (rest ≡ x.1)
known_takes rest None x e = absurd cc
known_takes {A = A} rest (Some y) x e =
    let made : A × List ℕ = (y, rest) in
    let same = ok_is made x e in
    (ap (λ (p : A × List ℕ). Some p.0) same, ap (λ (p : A × List ℕ). p.1) same)

known_short : {A : Type 0} (rest : List ℕ) (o : Option A) → known_value rest o ≡ Err Short → ⊥
known_short rest None e = cc
known_short rest (Some y) e = cc

known_stays : {A : Type 0} (rest after : List ℕ) (o : Option A) (d : Fault) → known_value rest o ≡ Err d
    → (d ≡ Trailing → ⊥) × (known_value after o ≡ Err d)
known_stays {A = A} rest after None d e = (λ is. other (e ∙ ap (λ (c : Fault). Err c) is), e)
  where
    other : known_value {A = A} rest None ≡ Err Trailing → ⊥
    other e = cc
known_stays rest after (Some y) d e = absurd cc

code_short : {A : Type 0} (number : A → ℕ) (value : ℕ → Option A) → A → (bytes : List ℕ) → IsBytes bytes → one_of value bytes ≡ Err Short
    → (x : A) × ((more : List ℕ) × ((bytes ++ more ≡ byte (number x)) × Unit {0}))
unfolding one_of byte_from
code_short number value some [] fits e = (some, (byte (number some), (refl, tt)))
code_short number value some (b ∷ bytes) fits e = absurd (known_short bytes (value b) e)

code_stays : {A : Type 0} (value : ℕ → Option A) (bytes more : List ℕ) (d : Fault) → IsBytes bytes → one_of value bytes ≡ Err d
    → Stays d (one_of value (bytes ++ more))
unfolding one_of byte_from
code_stays value [] more d fits e = inl (sym (same e))
  where
    same : one_of value [] ≡ Err d → Short ≡ d
    same e = cc
code_stays value (b ∷ bytes) more d fits e = inr (known_stays bytes (bytes ++ more) (value b) d e)

pub code_form : {A : Type 0} (number : A → ℕ) (value : ℕ → Option A) → IsCode number value
    → IsForm (λ x. byte (number x)) (one_of value) (λ x. Unit {0})
unfolding one_of byte_from
code_form {A = A} number value code = record {
  takes = λ bytes x fits e.
      let a = bind_ok (byte_from bytes) (λ b. known_value b.1 (value b.0)) x e in
      let t = byte_takes bytes a.0 fits a.1 in
      let k = known_takes a.0.1 (value a.0.0) x a.2 in
      let own : Takes bytes (byte (number x.0)) a.0.1 = subst (λ (b : ℕ). Takes bytes (byte b) a.0.1) (sym (code.back a.0.0 x.0 k.0)) t.0 in
      (subst (λ (rest : List ℕ). Takes bytes (byte (number x.0)) rest) k.1 own, tt);
  again = λ x rest fits. ap (λ (o : Option A). known_value rest o) (code.there x);
  some = (code.some, tt);
  short = code_short number value code.some;
  stays = code_stays value;
}

-- the first of two tests
chosen : {A : Type 0} (t : Bool) (x : A) (o : Option A) (y : A) → cond t (Some x) o ≡ Some y → ((t ≡ true) × (x ≡ y)) ⊎ (o ≡ Some y)
chosen true x o y e = inl (refl, cc)
chosen false x o y e = inr e

-- the value of a number that passed
named : {A : Type 0} (number : A → ℕ) (b k : ℕ) (x y : A) → number x ≡ k → ((b == k) ≡ true) × (x ≡ y) → number y ≡ b
named number b k x y is h = ap number (sym h.1) ∙ (is ∙ sym (eqb-true b k h.0))

mode_back : (b : ℕ) (x : Mode) → mode_with b ≡ Some x → mode_number x ≡ b
mode_back b x e = elim (chosen (b == 0) IntentionRead _ x e) [
  | inl h ↦ named mode_number b 0 IntentionRead x refl h
  | inr e ↦ elim (chosen (b == 1) Read _ x e) [
    | inl h ↦ named mode_number b 1 Read x refl h
    | inr e ↦ elim (chosen (b == 2) Upgrade _ x e) [
      | inl h ↦ named mode_number b 2 Upgrade x refl h
      | inr e ↦ elim (chosen (b == 3) IntentionWrite _ x e) [
        | inl h ↦ named mode_number b 3 IntentionWrite x refl h
        | inr e ↦ elim (chosen (b == 4) ReadIntentionWrite _ x e) [
          | inl h ↦ named mode_number b 4 ReadIntentionWrite x refl h
          | inr e ↦ elim (chosen (b == 5) Write None x e) [
            | inl h ↦ named mode_number b 5 Write x refl h
            | inr e ↦ absurd (none x e)
          ]
        ]
      ]
    ]
  ]
]
  where
    none : (x : Mode) → None ≡ Some x → ⊥
    none x e = cc

mode_code : IsCode mode_number mode_with
mode_code = record { there = there; back = mode_back; some = IntentionRead }
  where
    there : (x : Mode) → mode_with (mode_number x) ≡ Some x
    there IntentionRead = refl
    there Read = refl
    there Upgrade = refl
    there IntentionWrite = refl
    there ReadIntentionWrite = refl
    there Write = refl

choice_back : (b : ℕ) (x : Option Mode) → choice_with b ≡ Some x → choice_number x ≡ b
choice_back b x e = elim (chosen (b == 0) (Some IntentionRead) _ x e) [
  | inl h ↦ named choice_number b 0 (Some IntentionRead) x refl h
  | inr e ↦ elim (chosen (b == 1) (Some Read) _ x e) [
    | inl h ↦ named choice_number b 1 (Some Read) x refl h
    | inr e ↦ elim (chosen (b == 2) (Some Upgrade) _ x e) [
      | inl h ↦ named choice_number b 2 (Some Upgrade) x refl h
      | inr e ↦ elim (chosen (b == 3) (Some IntentionWrite) _ x e) [
        | inl h ↦ named choice_number b 3 (Some IntentionWrite) x refl h
        | inr e ↦ elim (chosen (b == 4) (Some ReadIntentionWrite) _ x e) [
          | inl h ↦ named choice_number b 4 (Some ReadIntentionWrite) x refl h
          | inr e ↦ elim (chosen (b == 5) (Some Write) _ x e) [
            | inl h ↦ named choice_number b 5 (Some Write) x refl h
            | inr e ↦ elim (chosen (b == 6) None None x e) [
              | inl h ↦ named choice_number b 6 None x refl h
              | inr e ↦ absurd (none x e)
            ]
          ]
        ]
      ]
    ]
  ]
]
  where
    none : (x : Option Mode) → None ≡ Some x → ⊥
    none x e = cc

choice_code : IsCode choice_number choice_with
choice_code = record { there = there; back = choice_back; some = None }
  where
    there : (x : Option Mode) → choice_with (choice_number x) ≡ Some x
    there None = refl
    there (Some IntentionRead) = refl
    there (Some Read) = refl
    there (Some Upgrade) = refl
    there (Some IntentionWrite) = refl
    there (Some ReadIntentionWrite) = refl
    there (Some Write) = refl

flag_back : (b : ℕ) (x : Bool) → flag_with b ≡ Some x → flag_number x ≡ b
flag_back b x e = elim (chosen (b == 0) false _ x e) [
  | inl h ↦ named flag_number b 0 false x refl h
  | inr e ↦ elim (chosen (b == 1) true None x e) [
    | inl h ↦ named flag_number b 1 true x refl h
    | inr e ↦ absurd (none x e)
  ]
]
  where
    none : (x : Bool) → None ≡ Some x → ⊥
    none x e = cc

flag_code : IsCode flag_number flag_with
flag_code = record { there = there; back = flag_back; some = false }
  where
    there : (x : Bool) → flag_with (flag_number x) ≡ Some x
    there false = refl
    there true = refl

pub mode_form : IsForm mode_bytes (one_of mode_with) (λ x. Unit {0})
mode_form = code_form mode_number mode_with mode_code

pub choice_form : IsForm choice_bytes (one_of choice_with) (λ x. Unit {0})
choice_form = code_form choice_number choice_with choice_code

pub flag_form : IsForm flag_bytes (one_of flag_with) (λ x. Unit {0})
flag_form = code_form flag_number flag_with flag_code
