-- The form of a head.
use Rattle.std.proofs.Common.{◌≡◌, ℕ, ◌<◌, ◌^◌, Bool, true, false, cond, nat_lt, List, [], ◌∷◌, ◌++◌, length, Result, Ok, Err, refl, sym, ap, ◌∙◌, append-nil, arith, inl, inr}
use Rattle.std.proofs.lemmas.List.{length-append}
use Rattle.std.specs.Int.{Width, w32, w64, byte_len}
use Rattle.lt_letters.specs.declared.fault.Fault.{Fault}
use Rattle.lt_letters.specs.declared.fault.Fault.TheVariants.{Short}
use Rattle.lt_letters.specs.Laws.{IsBytes}
use Rattle.lt_letters.specs.Spelling.{byte, number32, number64}
use Rattle.lt_letters.specs.Reading.{◌>>=◌, byte_from, number_from}
use Rattle.lt_letters.proofs.Forms.{fault_is, bind_err, IsForm, last_field, next_field, of_fields}
use Rattle.lt_letters.proofs.NumberForms.{number32_form, number64_form, byte_form}
use Rattle.lt_frames.specs.declared.head.Head.{Head}
use Rattle.lt_frames.specs.declared.frame.TheConstants.{HEAD}
use Rattle.lt_frames.specs.Frames.{head_bytes}
use Rattle.lt_frames.specs.Reading.{head_from}

abbrev pub HeadFits : Head → Type 0
HeadFits h =
    (h.length < 2 ^ 32) × ((h.version < 256) × ((h.wire.service < 2 ^ 64)
    × ((h.wire.from < 256) × ((h.wire.to < 256) × (h.number < 2 ^ 64)))))

pub head_form : IsForm head_bytes head_from HeadFits
unfolding head_from
head_form = of_fields head_bytes _ HeadFits
    (next_field (λ h. tt) (λ (h : Head). h.length) number32 (number_from w32) (λ n. n < 2 ^ 32) _ _ _ number32_form
    (next_field (λ (h : Head). (tt, h.length)) (λ h. h.version) byte byte_from (λ n. n < 256) _ _ _ byte_form
    (next_field (λ (h : Head). ((tt, h.length), h.version)) (λ h. h.wire.service) number64 (number_from w64) (λ n. n < 2 ^ 64) _ _ _ number64_form
    (next_field (λ (h : Head). (((tt, h.length), h.version), h.wire.service)) (λ h. h.wire.from) byte byte_from (λ n. n < 256) _ _ _ byte_form
    (next_field (λ (h : Head). ((((tt, h.length), h.version), h.wire.service), h.wire.from)) (λ h. h.wire.to) byte byte_from (λ n. n < 256) _ _ _ byte_form
    (last_field (λ (h : Head). (((((tt, h.length), h.version), h.wire.service), h.wire.from), h.wire.to)) (λ h. h.number)
    (λ k y. record { length = k.0.0.0.0.1; version = k.0.0.0.1; wire = record { service = k.0.0.1; from = k.0.1; to = k.1 }; number = y })
    number64 (number_from w64) (λ n. n < 2 ^ 64) (λ k y. refl) (λ k y. refl) (λ h. refl) number64_form))))))

-- a head has 23 bytes
pub head_size : (h : Head) → length (head_bytes h) ≡ HEAD
head_size h = refl

-- a head that isn't read is one that isn't all there

byte_short : (bytes : List ℕ) (d : Fault) → byte_from bytes ≡ Err d → d ≡ Short
unfolding byte_from
byte_short [] d e = sym (fault_is {A = ℕ × List ℕ} Short d e)
byte_short (b ∷ bytes) d e = absurd cc

number_short : (w : Width) (bytes : List ℕ) (d : Fault) → number_from w bytes ≡ Err d → d ≡ Short
unfolding number_from
number_short w bytes d e = by_test (nat_lt (length bytes) (byte_len w)) _ e
  where
    by_test : (t : Bool) (x : ℕ × List ℕ) → cond t (Err Short) (Ok x) ≡ Err d → d ≡ Short
    by_test true x e = sym (fault_is {A = ℕ × List ℕ} Short d e)
    by_test false x e = absurd cc

then_short : {A B : Type 0} (r : Result A Fault) (f : A → Result B Fault) (d : Fault) → (r >>= f) ≡ Err d
    → (r ≡ Err d → d ≡ Short) → ((x : A) → f x ≡ Err d → d ≡ Short) → d ≡ Short
then_short r f d e here after = elim (bind_err r f d e) [
  | inl is ↦ here is
  | inr on ↦ after on.0 on.1.1
]

head_short : (bytes : List ℕ) (d : Fault) → head_from bytes ≡ Err d → d ≡ Short
unfolding head_from
head_short bytes d e =
    then_short (number_from w32 bytes) _ d e (number_short w32 bytes d) (λ a e.
    then_short (byte_from a.1) _ d e (byte_short a.1 d) (λ b e.
    then_short (number_from w64 b.1) _ d e (number_short w64 b.1 d) (λ c e.
    then_short (byte_from c.1) _ d e (byte_short c.1 d) (λ p e.
    then_short (byte_from p.1) _ d e (byte_short p.1 d) (λ q e.
    then_short (number_from w64 q.1) _ d e (number_short w64 q.1 d) (λ n e. absurd cc))))))

pub less_than_head : (bytes : List ℕ) (d : Fault) → IsBytes bytes → head_from bytes ≡ Err d → length bytes < HEAD
less_than_head bytes d fits e =
    let is = head_short bytes d e in
    let s = head_form.short bytes fits (e ∙ ap (λ (f : Fault). Err f) is) in
    by_more s.0 s.1.0 s.1.1.0 s.1.1.1
  where
    both : (x : Head × List ℕ) → Err d ≡ Ok x → ⊥
    both x e = cc

    by_more : (h : Head) (more : List ℕ) → bytes ++ more ≡ head_bytes h → HeadFits h → length bytes < HEAD
    by_more h [] is fit =
        let read : head_from bytes ≡ Ok (h, []) =
        ap head_from (sym (append-nil bytes) ∙ (is ∙ sym (append-nil (head_bytes h)))) ∙ head_form.again h [] fit in
        absurd (both (h, []) (sym e ∙ read))
    by_more h (m ∷ more) is fit = omega (arith, ap (λ (t : List ℕ). length t) is, length-append bytes (m ∷ more), head_size h)
