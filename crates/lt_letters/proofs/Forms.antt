-- Ways of writing and of reading a value that belong together, and how those of a record are made of those of its fields.
use Rattle.std.proofs.Common.{◌≡◌, ℕ, List, ◌++◌, Result, Ok, Err, refl, sym, ap, subst, ◌∙◌, append_assoc, inl, inr, ◌⊎◌}
use Rattle.lt_letters.specs.declared.fault.Fault.{Fault}
use Rattle.lt_letters.specs.declared.fault.Fault.TheVariants.{Short, Trailing}
use Rattle.lt_letters.specs.Laws.{IsBytes}
use Rattle.lt_letters.specs.Reading.{◌>>=◌}

abbrev pub fails : {A : Type 0} → Fault → Result A Fault
fails d = Err d

pub fault_is : {A : Type 0} (c d : Fault) → fails {A = A} c ≡ fails {A = A} d → c ≡ d
fault_is c d e = cc

-- the fault of a step, or of the one after it
pub bind_err : {A B : Type 0} (r : Result A Fault) (f : A → Result B Fault) (d : Fault) → (r >>= f) ≡ Err d
    → (r ≡ Err d) ⊎ ((x : A) × ((r ≡ Ok x) × (f x ≡ Err d)))
bind_err (Ok x) f d e = inr (x, (refl, e))
bind_err (Err c) f d e = inl (ap (λ (b : Fault). Err b) (fault_is c d e))

-- the value of a step that did not fail
pub bind_ok : {A B : Type 0} (r : Result A Fault) (f : A → Result B Fault) (y : B) → (r >>= f) ≡ Ok y → (x : A) × (r ≡ Ok x) × (f x ≡ Ok y)
bind_ok (Ok x) f y e = (x, refl, e)
bind_ok (Err d) f y e = absurd cc

abbrev done : {A : Type 0} → A → Result A Fault
done x = Ok x

pub ok_is : {A : Type 0} (x y : A) → done x ≡ done y → x ≡ y
ok_is x y e = cc

-- what a reader took from the front
pub record Takes (bytes text rest : List ℕ) : Type 0 where
  pub parts : bytes ≡ text ++ rest
  pub rest_fits : IsBytes rest

pub Takes-then : (a x b y c : List ℕ) → Takes a x b → Takes b y c → Takes a (x ++ y) c
Takes-then a x b y c p q = record { parts = p.parts ∙ ap (λ (t : List ℕ). x ++ t) q.parts ∙ sym (append_assoc x y c); rest_fits = q.rest_fits }

-- a fault other than that bytes are too few is there when more bytes follow
abbrev pub Stays : {A : Type 0} → Fault → Result A Fault → Type 0
Stays d read = (d ≡ Short) ⊎ ((d ≡ Trailing → ⊥) × (read ≡ Err d))

-- what is read was written so, and fits; what fits and was written is read again, whatever follows; where bytes are
-- too few, they begin what was written; and any other fault is there whatever follows
pub record IsForm {A : Type 0} (write : A → List ℕ) (read : List ℕ → Result (A × List ℕ) Fault) (Fits : A → Type 0) : Type 0 where
  pub takes : (bytes : List ℕ) (x : A × List ℕ) → IsBytes bytes → read bytes ≡ Ok x → Takes bytes (write x.0) x.1 × Fits x.0
  pub again : (x : A) (rest : List ℕ) → Fits x → read (write x ++ rest) ≡ Ok (x, rest)
  pub some : (x : A) × Fits x
  pub short : (bytes : List ℕ) → IsBytes bytes → read bytes ≡ Err Short → (x : A) × ((more : List ℕ) × ((bytes ++ more ≡ write x) × Fits x))
  pub stays : (bytes more : List ℕ) (d : Fault) → IsBytes bytes → read bytes ≡ Err d → Stays d (read (bytes ++ more))

-- what was read is read before more bytes too
pub with_more : {A : Type 0} (write : A → List ℕ) (read : List ℕ → Result (A × List ℕ) Fault) (Fits : A → Type 0) → IsForm write read Fits
    → (bytes more : List ℕ) (x : A × List ℕ) → IsBytes bytes → read bytes ≡ Ok x → read (bytes ++ more) ≡ Ok (x.0, x.1 ++ more)
with_more write read Fits form bytes more x fits e =
    let t = form.takes bytes x fits e in
    ap (λ (text : List ℕ). read (text ++ more)) t.0.parts
    ∙ (ap read (append_assoc (write x.0) x.1 more) ∙ form.again x.0 (x.1 ++ more) t.1)

-- the fields of a record from some place on, where those before it are known
pub record IsTail {K C : Type 0} (before : C → K) (write : C → List ℕ) (read : K → List ℕ → Result (C × List ℕ) Fault) (Fits : C → Type 0) : Type 0 where
  pub takes : (k : K) (bytes : List ℕ) (x : C × List ℕ) → IsBytes bytes → read k bytes ≡ Ok x → (before x.0 ≡ k) × (Takes bytes (write x.0) x.1 × Fits x.0)
  pub again : (x : C) (rest : List ℕ) → Fits x → read (before x) (write x ++ rest) ≡ Ok (x, rest)
  pub some : (k : K) → (x : C) × ((before x ≡ k) × Fits x)
  pub short : (k : K) (bytes : List ℕ) → IsBytes bytes → read k bytes ≡ Err Short
      → (x : C) × ((more : List ℕ) × ((before x ≡ k) × ((bytes ++ more ≡ write x) × Fits x)))
  pub stays : (k : K) (bytes more : List ℕ) (d : Fault) → IsBytes bytes → read k bytes ≡ Err d → Stays d (read k (bytes ++ more))

-- the last field
pub last_field : {K B C : Type 0} (before : C → K) (field : C → B) (make : K → B → C) (write : B → List ℕ) (read : List ℕ → Result (B × List ℕ) Fault) (Fits : B → Type 0)
    → ((k : K) (y : B) → before (make k y) ≡ k) → ((k : K) (y : B) → field (make k y) ≡ y) → ((x : C) → make (before x) (field x) ≡ x)
    → IsForm write read Fits
    → IsTail before (λ x. write (field x)) (λ k bytes. read bytes >>= λ y. Ok (make k y.0, y.1)) (λ x. Fits (field x))
last_field {K = K} {B = B} {C = C} before field make write read Fits known last whole form = record {
  takes = λ k bytes x fits e.
      let a = bind_ok (read bytes) (λ y. Ok (make k y.0, y.1)) x e in
      let t = form.takes bytes a.0 fits a.1 in
      let made : C × List ℕ = (make k a.0.0, a.0.1) in
      let own : Takes bytes (write (field (make k a.0.0))) a.0.1 × Fits (field (make k a.0.0)) =
      subst (λ (y : B). Takes bytes (write y) a.0.1 × Fits y) (sym (last k a.0.0)) t in
      subst (λ (y : C × List ℕ). (before y.0 ≡ k) × (Takes bytes (write (field y.0)) y.1 × Fits (field y.0))) (ok_is made x a.2) (known k a.0.0, own);
  again = λ x rest fits.
      ap (λ (r : Result (B × List ℕ) Fault). r >>= λ y. Ok (make (before x) y.0, y.1)) (form.again (field x) rest fits)
      ∙ ap (λ (y : C). Ok (y, rest)) (whole x);
  some = λ k. (make k form.some.0, (known k form.some.0, subst Fits (sym (last k form.some.0)) form.some.1));
  short = λ k bytes fits e. elim (bind_err (read bytes) (λ y. Ok (make k y.0, y.1)) Short e) [
    | inl here ↦
        let s = form.short bytes fits here in
        let same = sym (last k s.0) in
        (make k s.0, (s.1.0, (known k s.0, (s.1.1.0 ∙ ap write same, subst Fits same s.1.1.1))))
    | inr after ↦ absurd (none (make k after.0.0, after.0.1) Short after.1.1)
  ];
  stays = λ k bytes more d fits e. elim (bind_err (read bytes) (λ y. Ok (make k y.0, y.1)) d e) [
    | inl here ↦ elim (form.stays bytes more d fits here) [
      | inl is ↦ inl is
      | inr on ↦ inr (on.0, ap (λ (r : Result (B × List ℕ) Fault). r >>= λ y. Ok (make k y.0, y.1)) on.1)
    ]
    | inr after ↦ absurd (none (make k after.0.0, after.0.1) d after.1.1)
  ];
}
  where
    none : (x : C × List ℕ) (d : Fault) → done x ≡ Err d → ⊥
    none x d e = cc

-- a field, and then the others
pub next_field : {K B C : Type 0} (before : C → K) (field : C → B) (write : B → List ℕ) (read : List ℕ → Result (B × List ℕ) Fault) (Fits : B → Type 0)
    (write_rest : C → List ℕ) (read_rest : K × B → List ℕ → Result (C × List ℕ) Fault) (Fit : C → Type 0)
    → IsForm write read Fits → IsTail (λ x. (before x, field x)) write_rest read_rest Fit
    → IsTail before (λ x. write (field x) ++ write_rest x) (λ k bytes. read bytes >>= λ y. read_rest (k, y.0) y.1) (λ x. Fits (field x) × Fit x)
next_field {K = K} {B = B} {C = C} before field write read Fits write_rest read_rest Fit form tail = record {
  takes = λ k bytes x fits e.
      let a = bind_ok (read bytes) (λ y. read_rest (k, y.0) y.1) x e in
      let t = form.takes bytes a.0 fits a.1 in
      let u = tail.takes (k, a.0.0) a.0.1 x t.0.rest_fits a.2 in
      let same : before x.0 ≡ k = ap (λ (p : K × B). p.0) u.0 in
      let here : field x.0 ≡ a.0.0 = ap (λ (p : K × B). p.1) u.0 in
      let own : Takes bytes (write (field x.0)) a.0.1 × Fits (field x.0) = subst (λ (y : B). Takes bytes (write y) a.0.1 × Fits y) (sym here) t in
      (same, (Takes-then bytes (write (field x.0)) a.0.1 (write_rest x.0) x.1 own.0 u.1.0, (own.1, u.1.1)));
  again = λ x rest fits.
      ap (λ (bytes : List ℕ). read bytes >>= λ y. read_rest (before x, y.0) y.1) (append_assoc (write (field x)) (write_rest x) rest)
      ∙ (ap (λ (r : Result (B × List ℕ) Fault). r >>= λ y. read_rest (before x, y.0) y.1) (form.again (field x) (write_rest x ++ rest) fits.0)
      ∙ tail.again x rest fits.1);
  some = λ k.
      let z = tail.some (k, form.some.0) in
      (z.0, (ap (λ (p : K × B). p.0) z.1.0, (subst Fits (sym (ap (λ (p : K × B). p.1) z.1.0)) form.some.1, z.1.1)));
  short = λ k bytes fits e. elim (bind_err (read bytes) (λ y. read_rest (k, y.0) y.1) Short e) [
    | inl here ↦
        let s = form.short bytes fits here in
        let z = tail.some (k, s.0) in
        let same : s.0 ≡ field z.0 = sym (ap (λ (p : K × B). p.1) z.1.0) in
        let text : bytes ++ (s.1.0 ++ write_rest z.0) ≡ write (field z.0) ++ write_rest z.0 =
        sym (append_assoc bytes s.1.0 (write_rest z.0)) ∙ ap (λ (t : List ℕ). t ++ write_rest z.0) (s.1.1.0 ∙ ap write same) in
        (z.0, (s.1.0 ++ write_rest z.0, (ap (λ (p : K × B). p.0) z.1.0, (text, (subst Fits same s.1.1.1, z.1.1)))))
    | inr after ↦
        let t = form.takes bytes after.0 fits after.1.0 in
        let z = tail.short (k, after.0.0) after.0.1 t.0.rest_fits after.1.1 in
        let same : after.0.0 ≡ field z.0 = sym (ap (λ (p : K × B). p.1) z.1.1.0) in
        let text : bytes ++ z.1.0 ≡ write (field z.0) ++ write_rest z.0 =
        ap (λ (text : List ℕ). text ++ z.1.0) t.0.parts
        ∙ (append_assoc (write after.0.0) after.0.1 z.1.0
        ∙ (ap (λ (y : B). write y ++ (after.0.1 ++ z.1.0)) same ∙ ap (λ (text : List ℕ). write (field z.0) ++ text) z.1.1.1.0)) in
        (z.0, (z.1.0, (ap (λ (p : K × B). p.0) z.1.1.0, (text, (subst Fits same t.1, z.1.1.1.1)))))
  ];
  stays = λ k bytes more d fits e. elim (bind_err (read bytes) (λ y. read_rest (k, y.0) y.1) d e) [
    | inl here ↦ elim (form.stays bytes more d fits here) [
      | inl is ↦ inl is
      | inr on ↦ inr (on.0, ap (λ (r : Result (B × List ℕ) Fault). r >>= λ y. read_rest (k, y.0) y.1) on.1)
    ]
    | inr after ↦
        let t = form.takes bytes after.0 fits after.1.0 in
        elim (tail.stays (k, after.0.0) after.0.1 more d t.0.rest_fits after.1.1) [
          | inl is ↦ inl is
          | inr on ↦ inr (on.0, ap (λ (r : Result (B × List ℕ) Fault). r >>= λ y. read_rest (k, y.0) y.1) (with_more write read Fits form bytes more after.0 fits after.1.0) ∙ on.1)
        ]
  ];
}

-- all fields
pub of_fields : {C : Type 0} (write : C → List ℕ) (read : Unit {0} → List ℕ → Result (C × List ℕ) Fault) (Fits : C → Type 0)
    → IsTail (λ x. tt) write read Fits → IsForm write (read tt) Fits
of_fields write read Fits tail = record {
  takes = λ bytes x fits e. (tail.takes tt bytes x fits e).1;
  again = λ x rest fits. tail.again x rest fits;
  some = let s = tail.some tt in (s.0, s.1.1);
  short = λ bytes fits e. let s = tail.short tt bytes fits e in (s.0, (s.1.0, s.1.1.1));
  stays = λ bytes more d fits e. tail.stays tt bytes more d fits e;
}
