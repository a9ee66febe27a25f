-- The form of a set of modes.
use Rattle.std.proofs.Common.{◌≡◌, ℕ, Bool, true, false, Some, None, refl, sym, ap, ◌∙◌, nat_lt, if◌then◌else◌}
use Rattle.std.proofs.lemmas.Bool.{ltb-true}
use Rattle.lt_modes.specs.Modes.{Modes, no_modes}
use Rattle.lt_modes.specs.FiveModes.{mask_of, modes_of_mask, mask_of_modes_of}
use Rattle.lt_letters.specs.Spelling.{modes_bytes}
use Rattle.lt_letters.specs.Reading.{modes_with, one_of}
use Rattle.lt_letters.proofs.Forms.{IsForm}
use Rattle.lt_letters.proofs.CodeForms.{IsCode, code_form}

modes_there : (a b c d e f : Bool) → modes_with (mask_of (record { intention_read = a; read = b; upgrade = c; intention_write = d; read_intention_write = e; write = f }))
    ≡ Some (record { intention_read = a; read = b; upgrade = c; intention_write = d; read_intention_write = e; write = f })
modes_there true true true true true true = refl
modes_there true true true true true false = refl
modes_there true true true true false true = refl
modes_there true true true true false false = refl
modes_there true true true false true true = refl
modes_there true true true false true false = refl
modes_there true true true false false true = refl
modes_there true true true false false false = refl
modes_there true true false true true true = refl
modes_there true true false true true false = refl
modes_there true true false true false true = refl
modes_there true true false true false false = refl
modes_there true true false false true true = refl
modes_there true true false false true false = refl
modes_there true true false false false true = refl
modes_there true true false false false false = refl
modes_there true false true true true true = refl
modes_there true false true true true false = refl
modes_there true false true true false true = refl
modes_there true false true true false false = refl
modes_there true false true false true true = refl
modes_there true false true false true false = refl
modes_there true false true false false true = refl
modes_there true false true false false false = refl
modes_there true false false true true true = refl
modes_there true false false true true false = refl
modes_there true false false true false true = refl
modes_there true false false true false false = refl
modes_there true false false false true true = refl
modes_there true false false false true false = refl
modes_there true false false false false true = refl
modes_there true false false false false false = refl
modes_there false true true true true true = refl
modes_there false true true true true false = refl
modes_there false true true true false true = refl
modes_there false true true true false false = refl
modes_there false true true false true true = refl
modes_there false true true false true false = refl
modes_there false true true false false true = refl
modes_there false true true false false false = refl
modes_there false true false true true true = refl
modes_there false true false true true false = refl
modes_there false true false true false true = refl
modes_there false true false true false false = refl
modes_there false true false false true true = refl
modes_there false true false false true false = refl
modes_there false true false false false true = refl
modes_there false true false false false false = refl
modes_there false false true true true true = refl
modes_there false false true true true false = refl
modes_there false false true true false true = refl
modes_there false false true true false false = refl
modes_there false false true false true true = refl
modes_there false false true false true false = refl
modes_there false false true false false true = refl
modes_there false false true false false false = refl
modes_there false false false true true true = refl
modes_there false false false true true false = refl
modes_there false false false true false true = refl
modes_there false false false true false false = refl
modes_there false false false false true true = refl
modes_there false false false false true false = refl
modes_there false false false false false true = refl
modes_there false false false false false false = refl

modes_back : (b : ℕ) (x : Modes) → modes_with b ≡ Some x → mask_of x ≡ b
modes_back b x e = by_test (nat_lt b 64) refl e
  where
    by_test : (t : Bool) → nat_lt b 64 ≡ t → (if t then Some (modes_of_mask b) else None) ≡ Some x → mask_of x ≡ b
    by_test true below h = ap mask_of (sym (same h)) ∙ mask_of_modes_of b (ltb-true b 64 below)
      where
        same : Some (modes_of_mask b) ≡ Some x → modes_of_mask b ≡ x
        same h = cc
    by_test false below h = absurd (cc)

modes_code : IsCode mask_of modes_with
modes_code = record { there = λ x. modes_there x.intention_read x.read x.upgrade x.intention_write x.read_intention_write x.write; back = modes_back; some = no_modes }

pub modes_form : IsForm modes_bytes (one_of modes_with) (λ x. Unit {0})
modes_form = code_form mask_of modes_with modes_code
