-- The form of what a letter says.
use Rattle.std.proofs.Common.{◌≡◌, ℕ, suc, ◌<◌, ◌^◌, Bool, true, false, cond, List, [], ◌∷◌, ◌++◌, Result, Ok, Err, refl, sym, ap, subst, ◌∙◌, append_assoc, inl, inr, ◌⊎◌, ◌==◌, eqb-true, arith}
use Rattle.std.specs.Int.{w64}
use Rattle.lt_modes.specs.declared.ask.Ask.{Ask}
use Rattle.lt_modes.specs.Modes.{Modes, no_modes}
use Rattle.lt_modes.specs.State.{Desk, Tell, Body, AskBody, TellBody, CopyBody, TokenBody, FreezeBody}
use Rattle.lt_letters.specs.declared.fault.Fault.{Fault}
use Rattle.lt_letters.specs.declared.fault.Fault.TheVariants.{Short, Unknown, Trailing}
use Rattle.lt_letters.specs.Laws.{IsBytes}
use Rattle.lt_letters.specs.Spelling.{byte, number64, flag_bytes, modes_bytes, ask_bytes, desk_bytes, tell_bytes, body_bytes, AskFits, DeskFits, TellFits, BodyFits}
use Rattle.lt_letters.specs.Reading.{◌>>=◌, byte_from, number_from, one_of, flag_with, modes_with, ask_from, desk_from, tell_from, asking_from, telling_from, copy_from, token_from, freeze_from, body_of_kind, body_from}
use Rattle.lt_letters.proofs.Forms.{fails, bind_ok, Takes, Takes-then, Stays, IsForm}
use Rattle.lt_letters.proofs.KindForms.{IsOfKind, Begins, IsKind, no_fault, one_field, two_fields}
use Rattle.lt_letters.proofs.NumberForms.{number64_form, byte_form}
use Rattle.lt_letters.proofs.CodeForms.{flag_form}
use Rattle.lt_letters.proofs.ModesForm.{modes_form}
use Rattle.lt_letters.proofs.RecordForms.{ask_form, desk_form, tell_form}

asking_kind : IsKind 0 asking_from
unfolding asking_from
asking_kind = two_fields 0 AskBody ask_bytes ask_from AskFits flag_bytes (one_of flag_with) (λ x. Unit {0}) ask_form flag_form
    (λ x y. refl) (λ x y f g. (f, g))

telling_kind : IsKind 1 telling_from
unfolding telling_from
telling_kind = one_field 1 TellBody tell_bytes tell_from TellFits tell_form (λ x. refl) (λ x f. f)

copy_kind : IsKind 2 copy_from
unfolding copy_from
copy_kind = one_field 2 CopyBody ask_bytes ask_from AskFits ask_form (λ x. refl) (λ x f. f)

token_kind : IsKind 3 token_from
unfolding token_from
token_kind = one_field 3 TokenBody desk_bytes desk_from DeskFits desk_form (λ x. refl) (λ x f. f)

freeze_kind : IsKind 4 freeze_from
unfolding freeze_from
freeze_kind = two_fields 4 FreezeBody number64 (number_from w64) (λ n. n < 2 ^ 64) modes_bytes (one_of modes_with) (λ x. Unit {0}) number64_form modes_form
    (λ x y. refl) (λ x y f g. (f, g))

-- the reader that was chosen
chosen : (t : Bool) (here other read : Result (Body × List ℕ) Fault) → cond t here other ≡ read → ((t ≡ true) × (here ≡ read)) ⊎ (other ≡ read)
chosen true here other read e = inl (refl, e)
chosen false here other read e = inr e

-- the kind's byte, and then the rest
of_kind : (kind : ℕ) (bytes : List ℕ) (first : ℕ × List ℕ) (x : Body × List ℕ) → Takes bytes (byte first.0) first.1 → (first.0 == kind) ≡ true → IsOfKind kind first.1 x
    → Takes bytes (body_bytes x.0) x.1 × BodyFits x.0
of_kind kind bytes first x t is h =
    let whole = Takes-then bytes (byte first.0) first.1 h.0 x.1 t h.1.0 in
    let same : byte first.0 ++ h.0 ≡ body_bytes x.0 = ap (λ (k : ℕ). byte k ++ h.0) (eqb-true first.0 kind is) ∙ sym h.1.1.0 in
    (subst (λ (text : List ℕ). Takes bytes text x.1) same whole, h.1.1.1)

kind_takes : (bytes : List ℕ) (first : ℕ × List ℕ) (x : Body × List ℕ) → Takes bytes (byte first.0) first.1 → body_of_kind first.0 first.1 ≡ Ok x
    → Takes bytes (body_bytes x.0) x.1 × BodyFits x.0
unfolding body_of_kind
kind_takes bytes first x t e = elim (chosen (first.0 == 0) (asking_from first.1) _ (Ok x) e) [
  | inl h ↦ of_kind 0 bytes first x t h.0 (asking_kind.takes first.1 x t.rest_fits h.1)
  | inr e ↦ elim (chosen (first.0 == 1) (telling_from first.1) _ (Ok x) e) [
    | inl h ↦ of_kind 1 bytes first x t h.0 (telling_kind.takes first.1 x t.rest_fits h.1)
    | inr e ↦ elim (chosen (first.0 == 2) (copy_from first.1) _ (Ok x) e) [
      | inl h ↦ of_kind 2 bytes first x t h.0 (copy_kind.takes first.1 x t.rest_fits h.1)
      | inr e ↦ elim (chosen (first.0 == 3) (token_from first.1) _ (Ok x) e) [
        | inl h ↦ of_kind 3 bytes first x t h.0 (token_kind.takes first.1 x t.rest_fits h.1)
        | inr e ↦ elim (chosen (first.0 == 4) (freeze_from first.1) (Err Unknown) (Ok x) e) [
          | inl h ↦ of_kind 4 bytes first x t h.0 (freeze_kind.takes first.1 x t.rest_fits h.1)
          | inr e ↦ absurd (no_fault x Unknown (sym e))
        ]
      ]
    ]
  ]
]

body_takes : (bytes : List ℕ) (x : Body × List ℕ) → IsBytes bytes → body_from bytes ≡ Ok x → Takes bytes (body_bytes x.0) x.1 × BodyFits x.0
unfolding body_from
body_takes bytes x fits e =
    let a = bind_ok (byte_from bytes) (λ kind. body_of_kind kind.0 kind.1) x e in
    kind_takes bytes a.0 x (byte_form.takes bytes a.0 fits a.1).0 a.2

-- bytes that are too few
abbrev BeginsBody : List ℕ → Type 0
BeginsBody bytes = (x : Body) × ((more : List ℕ) × ((bytes ++ more ≡ body_bytes x) × BodyFits x))

begins : (kind first : ℕ) (bytes : List ℕ) → (first == kind) ≡ true → Begins kind bytes → BeginsBody (first ∷ bytes)
begins kind first bytes is h =
    (h.0, (h.1.0, (ap (λ (k : ℕ). byte k ++ (bytes ++ h.1.0)) (eqb-true first kind is) ∙ h.1.1.0, h.1.1.1)))

kind_short : (first : ℕ) (bytes : List ℕ) → IsBytes bytes → body_of_kind first bytes ≡ Err Short → BeginsBody (first ∷ bytes)
unfolding body_of_kind
kind_short first bytes fits e = elim (chosen (first == 0) (asking_from bytes) _ (Err Short) e) [
  | inl h ↦ begins 0 first bytes h.0 (asking_kind.short bytes fits h.1)
  | inr e ↦ elim (chosen (first == 1) (telling_from bytes) _ (Err Short) e) [
    | inl h ↦ begins 1 first bytes h.0 (telling_kind.short bytes fits h.1)
    | inr e ↦ elim (chosen (first == 2) (copy_from bytes) _ (Err Short) e) [
      | inl h ↦ begins 2 first bytes h.0 (copy_kind.short bytes fits h.1)
      | inr e ↦ elim (chosen (first == 3) (token_from bytes) _ (Err Short) e) [
        | inl h ↦ begins 3 first bytes h.0 (token_kind.short bytes fits h.1)
        | inr e ↦ elim (chosen (first == 4) (freeze_from bytes) (Err Unknown) (Err Short) e) [
          | inl h ↦ begins 4 first bytes h.0 (freeze_kind.short bytes fits h.1)
          | inr e ↦ absurd (other e)
        ]
      ]
    ]
  ]
]
  where
    other : fails {A = Body × List ℕ} Unknown ≡ Err Short → ⊥
    other e = cc

no_freeze : (x : Body) × BodyFits x
no_freeze = (FreezeBody 0 no_modes, (omega arith, tt))

body_short : (bytes : List ℕ) → IsBytes bytes → body_from bytes ≡ Err Short → BeginsBody bytes
unfolding body_from byte_from
body_short [] fits e = (no_freeze.0, (body_bytes no_freeze.0, (refl, no_freeze.1)))
body_short (b ∷ bytes) fits e = kind_short b bytes (λ i. fits (suc i)) e

-- faults that stay
test_stays : (t : Bool) (here other now then_other : Result (Body × List ℕ) Fault) (d : Fault) → cond t here other ≡ Err d
    → (here ≡ Err d → Stays d now) → (other ≡ Err d → Stays d then_other) → Stays d (cond t now then_other)
test_stays true here other now then_other d e f g = f e
test_stays false here other now then_other d e f g = g e

kind_stays : (first : ℕ) (bytes more : List ℕ) (d : Fault) → IsBytes bytes → body_of_kind first bytes ≡ Err d → Stays d (body_of_kind first (bytes ++ more))
unfolding body_of_kind
kind_stays first bytes more d fits e =
    test_stays (first == 0) (asking_from bytes) _ (asking_from (bytes ++ more)) _ d e (asking_kind.stays bytes more d fits) (λ e.
    test_stays (first == 1) (telling_from bytes) _ (telling_from (bytes ++ more)) _ d e (telling_kind.stays bytes more d fits) (λ e.
    test_stays (first == 2) (copy_from bytes) _ (copy_from (bytes ++ more)) _ d e (copy_kind.stays bytes more d fits) (λ e.
    test_stays (first == 3) (token_from bytes) _ (token_from (bytes ++ more)) _ d e (token_kind.stays bytes more d fits) (λ e.
    test_stays (first == 4) (freeze_from bytes) (Err Unknown) (freeze_from (bytes ++ more)) (Err Unknown) d e (freeze_kind.stays bytes more d fits) (λ e.
    inr (λ is. other (e ∙ ap (λ (c : Fault). Err c) is), e))))))
  where
    other : fails {A = Body × List ℕ} Unknown ≡ Err Trailing → ⊥
    other e = cc

body_stays : (bytes more : List ℕ) (d : Fault) → IsBytes bytes → body_from bytes ≡ Err d → Stays d (body_from (bytes ++ more))
unfolding body_from byte_from
body_stays [] more d fits e = inl (sym (same e))
  where
    same : body_from [] ≡ Err d → Short ≡ d
    same e = cc
body_stays (b ∷ bytes) more d fits e = kind_stays b bytes more d (λ i. fits (suc i)) e

body_again : (body : Body) (rest : List ℕ) → BodyFits body → body_from (body_bytes body ++ rest) ≡ Ok (body, rest)
unfolding body_from byte_from body_of_kind asking_from telling_from copy_from token_from freeze_from
body_again (AskBody ask by_hoped) rest fits =
    ap asking_from (append_assoc (ask_bytes ask) (flag_bytes by_hoped) rest)
    ∙ (ap (λ (r : Result (Ask × List ℕ) Fault). r >>= λ ask. one_of flag_with ask.1 >>= λ by_hoped. Ok (AskBody ask.0 by_hoped.0, by_hoped.1))
    (ask_form.again ask (flag_bytes by_hoped ++ rest) fits.0)
    ∙ ap (λ (r : Result (Bool × List ℕ) Fault). r >>= λ by_hoped. Ok (AskBody ask by_hoped.0, by_hoped.1)) (flag_form.again by_hoped rest tt))
body_again (TellBody tell) rest fits =
    ap (λ (r : Result (Tell × List ℕ) Fault). r >>= λ tell. Ok (TellBody tell.0, tell.1)) (tell_form.again tell rest fits)
body_again (CopyBody ask) rest fits =
    ap (λ (r : Result (Ask × List ℕ) Fault). r >>= λ ask. Ok (CopyBody ask.0, ask.1)) (ask_form.again ask rest fits)
body_again (TokenBody desk) rest fits =
    ap (λ (r : Result (Desk × List ℕ) Fault). r >>= λ desk. Ok (TokenBody desk.0, desk.1)) (desk_form.again desk rest fits)
body_again (FreezeBody number modes) rest fits =
    ap freeze_from (append_assoc (number64 number) (modes_bytes modes) rest)
    ∙ (ap (λ (r : Result (ℕ × List ℕ) Fault). r >>= λ number. one_of modes_with number.1 >>= λ modes. Ok (FreezeBody number.0 modes.0, modes.1))
    (number64_form.again number (modes_bytes modes ++ rest) fits.0)
    ∙ ap (λ (r : Result (Modes × List ℕ) Fault). r >>= λ modes. Ok (FreezeBody number modes.0, modes.1)) (modes_form.again modes rest tt))

pub body_form : IsForm body_bytes body_from BodyFits
body_form = record { takes = body_takes; again = body_again; some = no_freeze; short = body_short; stays = body_stays }
