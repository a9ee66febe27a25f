-- The kinds of what a letter says, each of one field or of two.
use Rattle.std.proofs.Common.{◌≡◌, ℕ, List, ◌++◌, Result, Ok, Err, sym, ap, subst, ◌∙◌, append_assoc, inl, inr}
use Rattle.lt_modes.specs.State.{Body}
use Rattle.lt_letters.specs.declared.fault.Fault.{Fault}
use Rattle.lt_letters.specs.declared.fault.Fault.TheVariants.{Short}
use Rattle.lt_letters.specs.Laws.{IsBytes}
use Rattle.lt_letters.specs.Spelling.{byte, body_bytes, BodyFits}
use Rattle.lt_letters.specs.Reading.{◌>>=◌}
use Rattle.lt_letters.proofs.Forms.{bind_ok, bind_err, ok_is, Takes, Takes-then, Stays, IsForm, with_more}

-- what was read is of this kind
abbrev pub IsOfKind : ℕ → List ℕ → Body × List ℕ → Type 0
IsOfKind kind bytes x = (text : List ℕ) × (Takes bytes text x.1 × ((body_bytes x.0 ≡ byte kind ++ text) × BodyFits x.0))

-- after the byte that tells the kind, these bytes begin what a letter says
abbrev pub Begins : ℕ → List ℕ → Type 0
Begins kind bytes = (x : Body) × ((more : List ℕ) × ((byte kind ++ (bytes ++ more) ≡ body_bytes x) × BodyFits x))

pub record IsKind (kind : ℕ) (read : List ℕ → Result (Body × List ℕ) Fault) : Type 0 where
  pub takes : (bytes : List ℕ) (x : Body × List ℕ) → IsBytes bytes → read bytes ≡ Ok x → IsOfKind kind bytes x
  pub short : (bytes : List ℕ) → IsBytes bytes → read bytes ≡ Err Short → Begins kind bytes
  pub stays : (bytes more : List ℕ) (d : Fault) → IsBytes bytes → read bytes ≡ Err d → Stays d (read (bytes ++ more))

pub no_fault : (x : Body × List ℕ) (d : Fault) → Ok x ≡ Err d → ⊥
no_fault x d e = cc

-- a kind with one field
pub one_field : {A : Type 0} (kind : ℕ) (make : A → Body) (write : A → List ℕ) (read : List ℕ → Result (A × List ℕ) Fault) (Fits : A → Type 0)
    → IsForm write read Fits → ((x : A) → body_bytes (make x) ≡ byte kind ++ write x) → ((x : A) → Fits x → BodyFits (make x))
    → IsKind kind (λ bytes. read bytes >>= λ y. Ok (make y.0, y.1))
one_field {A = A} kind make write read Fits form text all = record {
  takes = λ bytes x fits e.
      let a = bind_ok (read bytes) (λ y. Ok (make y.0, y.1)) x e in
      let t = form.takes bytes a.0 fits a.1 in
      let made : Body × List ℕ = (make a.0.0, a.0.1) in
      subst (IsOfKind kind bytes) (ok_is made x a.2) (write a.0.0, (t.0, (text a.0.0, all a.0.0 t.1)));
  short = λ bytes fits e. elim (bind_err (read bytes) (λ y. Ok (make y.0, y.1)) Short e) [
    | inl here ↦
        let s = form.short bytes fits here in
        (make s.0, (s.1.0, (ap (λ (t : List ℕ). byte kind ++ t) s.1.1.0 ∙ sym (text s.0), all s.0 s.1.1.1)))
    | inr after ↦ absurd (no_fault (make after.0.0, after.0.1) Short after.1.1)
  ];
  stays = λ bytes more d fits e. elim (bind_err (read bytes) (λ y. Ok (make y.0, y.1)) d e) [
    | inl here ↦ elim (form.stays bytes more d fits here) [
      | inl is ↦ inl is
      | inr on ↦ inr (on.0, ap (λ (r : Result (A × List ℕ) Fault). r >>= λ y. Ok (make y.0, y.1)) on.1)
    ]
    | inr after ↦ absurd (no_fault (make after.0.0, after.0.1) d after.1.1)
  ];
}

-- a kind with two
pub two_fields : {A B : Type 0} (kind : ℕ) (make : A → B → Body) (write : A → List ℕ) (read : List ℕ → Result (A × List ℕ) Fault) (Fits : A → Type 0)
    (write_last : B → List ℕ) (read_last : List ℕ → Result (B × List ℕ) Fault) (Fit : B → Type 0)
    → IsForm write read Fits → IsForm write_last read_last Fit
    → ((x : A) (y : B) → body_bytes (make x y) ≡ byte kind ++ (write x ++ write_last y)) → ((x : A) (y : B) → Fits x → Fit y → BodyFits (make x y))
    → IsKind kind (λ bytes. read bytes >>= λ x. read_last x.1 >>= λ y. Ok (make x.0 y.0, y.1))
two_fields {A = A} {B = B} kind make write read Fits write_last read_last Fit form last text all = record {
  takes = λ bytes x fits e.
      let a = bind_ok (read bytes) (λ x. read_last x.1 >>= λ y. Ok (make x.0 y.0, y.1)) x e in
      let b = bind_ok (read_last a.0.1) (λ y. Ok (make a.0.0 y.0, y.1)) x a.2 in
      let t = form.takes bytes a.0 fits a.1 in
      let u = last.takes a.0.1 b.0 t.0.rest_fits b.1 in
      let made : Body × List ℕ = (make a.0.0 b.0.0, b.0.1) in
      subst (IsOfKind kind bytes) (ok_is made x b.2)
      (write a.0.0 ++ write_last b.0.0, (Takes-then bytes (write a.0.0) a.0.1 (write_last b.0.0) b.0.1 t.0 u.0, (text a.0.0 b.0.0, all a.0.0 b.0.0 t.1 u.1)));
  short = λ bytes fits e. elim (bind_err (read bytes) (λ x. read_last x.1 >>= λ y. Ok (make x.0 y.0, y.1)) Short e) [
    | inl here ↦
        let s = form.short bytes fits here in
        let y = last.some in
        let all_of : bytes ++ (s.1.0 ++ write_last y.0) ≡ write s.0 ++ write_last y.0 =
        sym (append_assoc bytes s.1.0 (write_last y.0)) ∙ ap (λ (t : List ℕ). t ++ write_last y.0) s.1.1.0 in
        (make s.0 y.0, (s.1.0 ++ write_last y.0, (ap (λ (t : List ℕ). byte kind ++ t) all_of ∙ sym (text s.0 y.0), all s.0 y.0 s.1.1.1 y.1)))
    | inr after ↦
        let t = form.takes bytes after.0 fits after.1.0 in
        elim (bind_err (read_last after.0.1) (λ y. Ok (make after.0.0 y.0, y.1)) Short after.1.1) [
          | inl here ↦
              let s = last.short after.0.1 t.0.rest_fits here in
              let all_of : bytes ++ s.1.0 ≡ write after.0.0 ++ write_last s.0 =
              ap (λ (text : List ℕ). text ++ s.1.0) t.0.parts
              ∙ (append_assoc (write after.0.0) after.0.1 s.1.0 ∙ ap (λ (text : List ℕ). write after.0.0 ++ text) s.1.1.0) in
              (make after.0.0 s.0, (s.1.0, (ap (λ (t : List ℕ). byte kind ++ t) all_of ∙ sym (text after.0.0 s.0), all after.0.0 s.0 t.1 s.1.1.1)))
          | inr later ↦ absurd (no_fault (make after.0.0 later.0.0, later.0.1) Short later.1.1)
        ]
  ];
  stays = λ bytes more d fits e. elim (bind_err (read bytes) (λ x. read_last x.1 >>= λ y. Ok (make x.0 y.0, y.1)) d e) [
    | inl here ↦ elim (form.stays bytes more d fits here) [
      | inl is ↦ inl is
      | inr on ↦ inr (on.0, ap (λ (r : Result (A × List ℕ) Fault). r >>= λ x. read_last x.1 >>= λ y. Ok (make x.0 y.0, y.1)) on.1)
    ]
    | inr after ↦
        let t = form.takes bytes after.0 fits after.1.0 in
        let first = ap (λ (r : Result (A × List ℕ) Fault). r >>= λ x. read_last x.1 >>= λ y. Ok (make x.0 y.0, y.1))
        (with_more write read Fits form bytes more after.0 fits after.1.0) in
        elim (bind_err (read_last after.0.1) (λ y. Ok (make after.0.0 y.0, y.1)) d after.1.1) [
          | inl here ↦ elim (last.stays after.0.1 more d t.0.rest_fits here) [
            | inl is ↦ inl is
            | inr on ↦ inr (on.0, first ∙ ap (λ (r : Result (B × List ℕ) Fault). r >>= λ y. Ok (make after.0.0 y.0, y.1)) on.1)
          ]
          | inr later ↦ absurd (no_fault (make after.0.0 later.0.0, later.0.1) d later.1.1)
        ]
  ];
}
