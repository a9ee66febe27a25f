-- The forms of lists.
use Rattle.std.proofs.Common.{◌≡◌, ℕ, zero, suc, List, [], ◌∷◌, ◌++◌, length, Result, Ok, Err, refl, sym, ap, subst, ◌∙◌, append_assoc, inl, inr}
use Rattle.std.specs.List.{flat_map, AllByRecursion}
use Rattle.std.proofs.lemmas.List.Concat.{flat_map-cons}
use Rattle.lt_letters.specs.declared.fault.Fault.{Fault}
use Rattle.lt_letters.specs.declared.fault.Fault.TheVariants.{Short}
use Rattle.lt_letters.specs.Laws.{IsBytes}
use Rattle.lt_letters.specs.Spelling.{list_bytes}
use Rattle.lt_letters.specs.Reading.{◌>>=◌, many_from, list_from}
use Rattle.lt_letters.proofs.Forms.{bind_ok, bind_err, ok_is, Takes, Takes-then, Stays, IsForm, with_more}

abbrev read_as : {A : Type 0} → List A × List ℕ → Result (List A × List ℕ) Fault
read_as x = Ok x

many_takes : {A : Type 0} (write : A → List ℕ) (read : List ℕ → Result (A × List ℕ) Fault) (Fits : A → Type 0) → IsForm write read Fits
    → (n : ℕ) (bytes : List ℕ) (x : List A × List ℕ) → IsBytes bytes → many_from read n bytes ≡ Ok x
    → Takes bytes (flat_map write x.0) x.1 × ((length x.0 ≡ n) × AllByRecursion Fits x.0)
unfolding many_from
many_takes {A = A} write read Fits form zero bytes x fits e =
    subst (λ (y : List A × List ℕ). Takes bytes (flat_map write y.0) y.1 × ((length y.0 ≡ 0) × AllByRecursion Fits y.0)) (ok_is ([], bytes) x e)
    (record { parts = refl; rest_fits = fits }, (refl, tt))
many_takes {A = A} write read Fits form (suc n) bytes x fits e =
    let a = bind_ok (read bytes) (λ first. many_from read n first.1 >>= λ others. Ok (first.0 ∷ others.0, others.1)) x e in
    let b = bind_ok (many_from read n a.0.1) (λ others. Ok (a.0.0 ∷ others.0, others.1)) x a.2 in
    let first = form.takes bytes a.0 fits a.1 in
    let second = many_takes write read Fits form n a.0.1 b.0 first.0.rest_fits b.1 in
    let both = Takes-then bytes (write a.0.0) a.0.1 (flat_map write b.0.0) b.0.1 first.0 second.0 in
    let made : List A × List ℕ = (a.0.0 ∷ b.0.0, b.0.1) in
    subst (λ (y : List A × List ℕ). Takes bytes (flat_map write y.0) y.1 × ((length y.0 ≡ suc n) × AllByRecursion Fits y.0)) (ok_is made x b.2)
    (subst (λ (text : List ℕ). Takes bytes text b.0.1) (sym (flat_map-cons write a.0.0 b.0.0)) both, (ap suc second.1.0, (first.1, second.1.1)))

many_again : {A : Type 0} (write : A → List ℕ) (read : List ℕ → Result (A × List ℕ) Fault) (Fits : A → Type 0) → IsForm write read Fits
    → (xs : List A) (rest : List ℕ) → AllByRecursion Fits xs → many_from read (length xs) (flat_map write xs ++ rest) ≡ Ok (xs, rest)
unfolding many_from
many_again {A = A} write read Fits form [] rest fits = refl
many_again {A = A} write read Fits form (x ∷ xs) rest fits =
    let regrouped : flat_map write (x ∷ xs) ++ rest ≡ write x ++ (flat_map write xs ++ rest) =
    ap (λ (text : List ℕ). text ++ rest) (flat_map-cons write x xs) ∙ append_assoc (write x) (flat_map write xs) rest in
    ap (λ (bytes : List ℕ). read bytes >>= λ first. many_from read (length xs) first.1 >>= λ others. Ok (first.0 ∷ others.0, others.1)) regrouped
    ∙ (ap (λ (r : Result (A × List ℕ) Fault). r >>= λ first. many_from read (length xs) first.1 >>= λ others. Ok (first.0 ∷ others.0, others.1))
    (form.again x (flat_map write xs ++ rest) fits.0)
    ∙ ap (λ (r : Result (List A × List ℕ) Fault). r >>= λ others. Ok (x ∷ others.0, others.1)) (many_again write read Fits form xs rest fits.1))

-- so many of one value
all_fit : {A : Type 0} (Fits : A → Type 0) (n : ℕ) (x : A) → Fits x → (xs : List A) × ((length xs ≡ n) × AllByRecursion Fits xs)
all_fit Fits zero x fits = ([], (refl, tt))
all_fit Fits (suc n) x fits = let s = all_fit Fits n x fits in (x ∷ s.0, (ap suc s.1.0, (fits, s.1.1)))

no_fault : {A : Type 0} (x : List A × List ℕ) (d : Fault) → read_as x ≡ Err d → ⊥
no_fault x d e = cc

-- the values that stood there, and as many more as are missing
many_short : {A : Type 0} (write : A → List ℕ) (read : List ℕ → Result (A × List ℕ) Fault) (Fits : A → Type 0) → IsForm write read Fits
    → (n : ℕ) (bytes : List ℕ) → IsBytes bytes → many_from read n bytes ≡ Err Short
    → (xs : List A) × ((more : List ℕ) × ((bytes ++ more ≡ flat_map write xs) × ((length xs ≡ n) × AllByRecursion Fits xs)))
unfolding many_from
many_short write read Fits form zero bytes fits e = absurd (no_fault ([], bytes) Short e)
many_short {A = A} write read Fits form (suc n) bytes fits e =
    elim (bind_err (read bytes) (λ first. many_from read n first.1 >>= λ others. Ok (first.0 ∷ others.0, others.1)) Short e) [
      | inl here ↦
          let s = form.short bytes fits here in
          let o = all_fit Fits n form.some.0 form.some.1 in
          let text : bytes ++ (s.1.0 ++ flat_map write o.0) ≡ flat_map write (s.0 ∷ o.0) =
          sym (append_assoc bytes s.1.0 (flat_map write o.0)) ∙ (ap (λ (t : List ℕ). t ++ flat_map write o.0) s.1.1.0 ∙ sym (flat_map-cons write s.0 o.0)) in
          (s.0 ∷ o.0, (s.1.0 ++ flat_map write o.0, (text, (ap suc o.1.0, (s.1.1.1, o.1.1)))))
      | inr after ↦
          let t = form.takes bytes after.0 fits after.1.0 in
          elim (bind_err (many_from read n after.0.1) (λ others. Ok (after.0.0 ∷ others.0, others.1)) Short after.1.1) [
            | inl here ↦
                let o = many_short write read Fits form n after.0.1 t.0.rest_fits here in
                let text : bytes ++ o.1.0 ≡ flat_map write (after.0.0 ∷ o.0) =
                ap (λ (text : List ℕ). text ++ o.1.0) t.0.parts
                ∙ (append_assoc (write after.0.0) after.0.1 o.1.0
                ∙ (ap (λ (text : List ℕ). write after.0.0 ++ text) o.1.1.0 ∙ sym (flat_map-cons write after.0.0 o.0))) in
                (after.0.0 ∷ o.0, (o.1.0, (text, (ap suc o.1.1.1.0, (t.1, o.1.1.1.1)))))
            | inr later ↦ absurd (no_fault (after.0.0 ∷ later.0.0, later.0.1) Short later.1.1)
          ]
    ]

-- a step, and then one that fails
then_fails : {A B : Type 0} (all : Result B Fault) (read : Result A Fault) (next : A → Result B Fault) (d : Fault)
    → all ≡ (read >>= next) → read ≡ Err d → all ≡ Err d
then_fails {A = A} all read next d is e = is ∙ ap (λ (r : Result A Fault). r >>= next) e

many_more : {A : Type 0} (write : A → List ℕ) (read : List ℕ → Result (A × List ℕ) Fault) (Fits : A → Type 0) → IsForm write read Fits
    → (n : ℕ) (bytes more : List ℕ) (d : Fault) → IsBytes bytes → many_from read n bytes ≡ Err d
    → Stays d (many_from read n (bytes ++ more))
unfolding many_from
many_more write read Fits form zero bytes more d fits e = absurd (no_fault ([], bytes) d e)
many_more {A = A} write read Fits form (suc n) bytes more d fits e =
    elim (bind_err (read bytes) (λ first. many_from read n first.1 >>= λ others. Ok (first.0 ∷ others.0, others.1)) d e) [
      | inl here ↦ elim (form.stays bytes more d fits here) [
        | inl is ↦ inl is
        | inr on ↦ inr (on.0, ap (λ (r : Result (A × List ℕ) Fault). r >>= λ first. many_from read n first.1 >>= λ others. Ok (first.0 ∷ others.0, others.1)) on.1)
      ]
      | inr after ↦
          let t = form.takes bytes after.0 fits after.1.0 in
          let first : many_from read (suc n) (bytes ++ more) ≡ (many_from read n (after.0.1 ++ more) >>= λ others. Ok (after.0.0 ∷ others.0, others.1)) =
          ap (λ (r : Result (A × List ℕ) Fault). r >>= λ first. many_from read n first.1 >>= λ others. Ok (first.0 ∷ others.0, others.1))
          (with_more write read Fits form bytes more after.0 fits after.1.0) in
          elim (bind_err (many_from read n after.0.1) (λ others. Ok (after.0.0 ∷ others.0, others.1)) d after.1.1) [
            | inl here ↦ elim (many_more write read Fits form n after.0.1 more d t.0.rest_fits here) [
              | inl is ↦ inl is
              | inr on ↦ inr (
                on.0,
                then_fails (many_from read (suc n) (bytes ++ more)) (many_from read n (after.0.1 ++ more)) (λ others. Ok (after.0.0 ∷ others.0, others.1)) d first on.1,
              )
            ]
            | inr later ↦ absurd (no_fault (after.0.0 ∷ later.0.0, later.0.1) d later.1.1)
          ]
    ]

pub list_form : {A : Type 0} (count : ℕ → List ℕ) (read_count : List ℕ → Result (ℕ × List ℕ) Fault) (Few : ℕ → Type 0)
    (write : A → List ℕ) (read : List ℕ → Result (A × List ℕ) Fault) (Fits : A → Type 0)
    → IsForm count read_count Few → IsForm write read Fits
    → IsForm (list_bytes count write) (list_from read_count read) (λ xs. Few (length xs) × AllByRecursion Fits xs)
unfolding list_from
list_form {A = A} count read_count Few write read Fits counts form = record {
  takes = λ bytes x fits e.
      let a = bind_ok (read_count bytes) (λ n. many_from read n.0 n.1) x e in
      let t = counts.takes bytes a.0 fits a.1 in
      let u = many_takes write read Fits form a.0.0 a.0.1 x t.0.rest_fits a.2 in
      let own : Takes bytes (count (length x.0)) a.0.1 × Few (length x.0) = subst (λ (n : ℕ). Takes bytes (count n) a.0.1 × Few n) (sym u.1.0) t in
      (Takes-then bytes (count (length x.0)) a.0.1 (flat_map write x.0) x.1 own.0 u.0, (own.1, u.1.1));
  again = λ xs rest fits.
      ap (λ (bytes : List ℕ). read_count bytes >>= λ n. many_from read n.0 n.1) (append_assoc (count (length xs)) (flat_map write xs) rest)
      ∙ (ap (λ (r : Result (ℕ × List ℕ) Fault). r >>= λ n. many_from read n.0 n.1) (counts.again (length xs) (flat_map write xs ++ rest) fits.0)
      ∙ many_again write read Fits form xs rest fits.1);
  some =
      let o = all_fit Fits counts.some.0 form.some.0 form.some.1 in
      (o.0, (subst Few (sym o.1.0) counts.some.1, o.1.1));
  short = λ bytes fits e. elim (bind_err (read_count bytes) (λ n. many_from read n.0 n.1) Short e) [
    | inl here ↦
        let s = counts.short bytes fits here in
        let o = all_fit Fits s.0 form.some.0 form.some.1 in
        let text : bytes ++ (s.1.0 ++ flat_map write o.0) ≡ list_bytes count write o.0 =
        sym (append_assoc bytes s.1.0 (flat_map write o.0)) ∙ ap (λ (t : List ℕ). t ++ flat_map write o.0) (s.1.1.0 ∙ ap count (sym o.1.0)) in
        (o.0, (s.1.0 ++ flat_map write o.0, (text, (subst Few (sym o.1.0) s.1.1.1, o.1.1))))
    | inr after ↦
        let t = counts.takes bytes after.0 fits after.1.0 in
        let o = many_short write read Fits form after.0.0 after.0.1 t.0.rest_fits after.1.1 in
        let len = sym o.1.1.1.0 in
        let text : bytes ++ o.1.0 ≡ list_bytes count write o.0 =
        ap (λ (text : List ℕ). text ++ o.1.0) t.0.parts
        ∙ (append_assoc (count after.0.0) after.0.1 o.1.0
        ∙ (ap (λ (n : ℕ). count n ++ (after.0.1 ++ o.1.0)) len ∙ ap (λ (text : List ℕ). count (length o.0) ++ text) o.1.1.0)) in
        (o.0, (o.1.0, (text, (subst Few len t.1, o.1.1.1.1))))
  ];
  stays = λ bytes more d fits e. elim (bind_err (read_count bytes) (λ n. many_from read n.0 n.1) d e) [
    | inl here ↦ elim (counts.stays bytes more d fits here) [
      | inl is ↦ inl is
      | inr on ↦ inr (on.0, ap (λ (r : Result (ℕ × List ℕ) Fault). r >>= λ n. many_from read n.0 n.1) on.1)
    ]
    | inr after ↦
        let t = counts.takes bytes after.0 fits after.1.0 in
        elim (many_more write read Fits form after.0.0 after.0.1 more d t.0.rest_fits after.1.1) [
          | inl is ↦ inl is
          | inr on ↦ inr (on.0, ap (λ (r : Result (ℕ × List ℕ) Fault). r >>= λ n. many_from read n.0 n.1) (with_more count read_count Few counts bytes more after.0 fits after.1.0) ∙ on.1)
        ]
  ];
}
