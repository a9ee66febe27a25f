-- A script that is read has no more sets and no more commands than a text may have.
use Rattle.std.proofs.Common.{◌≡◌, ℕ, ◌+◌, ◌<◌, ◌++◌, true, false, nat_le, List, [], ◌∷◌, length, Option, Some, None, unwrap_or, Result, Ok, Err, refl, subst, inl, inr, arith, if◌then◌else◌, le-leb}
use Rattle.std.proofs.lemmas.Bool.{cases_lt, false≢true}
use Rattle.std.proofs.lemmas.List.{length_push}
use Rattle.lt_modes.specs.Script.{ScriptData, SetData}
use Rattle.lt_spec.specs.Script.{IsShort, client_number}
use Rattle.lt_spec.specs.declared.limits.TheConstants.{MAX_SETS, MAX_COMMANDS}
use Rattle.lt_text.specs.Text.{lines}
use Rattle.lt_script.specs.declared.fault.Fault.{Fault}
use Rattle.lt_script.specs.declared.fault.Fault.TheVariants as faults
use Rattle.lt_script.specs.declared.fault.ScriptFault.{ScriptFault}
use Rattle.lt_script.specs.Forms.{FormData, Version2Form, Version3Form, NodesForm, SetForm, SetWithForm, ClientForm, CommandForm}
use Rattle.lt_script.specs.Faults.{declared, exceeds_limit, line_form, line_fault, after_form, family_of, named_command}
use Rattle.lt_script.specs.Reading.{has_form, has_fault, IsLeastFault, is_skipped, line_step, unless, script_after, go_on, read_from, script_body, read_of}
use Rattle.lt_script.proofs.FaultOrder.{least_is_told}

-- so has the script so far
abbrev IsShortSoFar : Option ScriptData → Type 0
IsShortSoFar None = Unit {0}
IsShortSoFar (Some s) = IsShort s

below : (n bound : ℕ) → nat_le bound n ≡ false → n < bound
below n bound e = elim (cases_lt n bound) [
  | inl less ↦ less
  | inr more ↦ absurd (false≢true (subst (λ t. t ≡ true) e (le-leb bound n more)))
]

declared_short : (v : ℕ) (st : Option ScriptData) → IsShortSoFar st → IsShort (declared v st)
declared_short v None short = record { sets = omega arith; commands = omega arith }
declared_short v (Some s) short = short

set_short : (s : ScriptData) (x : SetData) → IsShort s → nat_le MAX_SETS (length s.sets) ≡ false → IsShort (record s { sets = s.sets ++ x ∷ [] })
set_short s x short within = record { sets = omega (arith, length_push s.sets x, below (length s.sets) MAX_SETS within); commands = short.commands }

form_short : (s : ScriptData) (form : FormData) → IsShort s → exceeds_limit s form ≡ false → IsShort (after_form s form)
form_short s Version2Form short within = short
form_short s Version3Form short within = short
form_short s (NodesForm n) short within = record { sets = omega arith; commands = omega arith }
form_short s (SetForm name) short within = set_short s (record { name = name; family = length s.sets }) short within
form_short s (SetWithForm name t) short within = set_short s (record { name = name; family = family_of s t }) short within
form_short s (ClientForm name n) short within = record { sets = short.sets; commands = short.commands }
form_short s (CommandForm c asked) short within =
    let room = below (length s.commands) MAX_COMMANDS within in
    record { sets = short.sets; commands = omega (arith, length_push s.commands (unwrap_or (client_number s c) 0, named_command s asked), room) }

after_short : (v : ℕ) (st : Option ScriptData) (form : Option FormData) → IsShortSoFar st → has_form (exceeds_limit (declared v st)) form ≡ false → IsShortSoFar (script_after v st form)
after_short v st None short within = short
after_short v st (Some form) short within = form_short (declared v st) form (declared_short v st short) within

abbrev stepped : Option ScriptData → Result (Option ScriptData) Fault
stepped st = Ok st

same_step : (a b : Option ScriptData) → stepped a ≡ Ok b → a ≡ b
same_step a b e = cc

-- a line without fault adds no set and no command too many
line_short : (v : ℕ) (st next : Option ScriptData) (line : List ℕ) → IsShortSoFar st → line_step v st line ≡ Ok next → IsShortSoFar next
unfolding line_step
line_short v st next line short e =
    let after = script_after v st (line_form v st line) in
    elim (is_skipped line) as (λ t. (if t then Ok st else unless (line_fault v st line) after) ≡ Ok next → IsShortSoFar next) [
      | true ↦ λ e. subst IsShortSoFar (same_step st next e) short
      | false ↦ λ e.
          elim (line_fault v st line) as (λ o. line_fault v st line ≡ o → unless o after ≡ Ok next → IsShortSoFar next) [
            | Some fault ↦ λ is e. absurd (cc)
            | None ↦ λ is e.
                let within = subst (IsLeastFault (has_fault v st line)) is (least_is_told v st line) faults.Limit in
                subst IsShortSoFar (same_step after next e) (after_short v st (line_form v st line) short within)
          ] refl e
    ] e

abbrev told : ScriptData → Result ScriptData ScriptFault
told s = Ok s

same_script : (a b : ScriptData) → told a ≡ Ok b → a ≡ b
same_script a b e = cc

from_short : (v : ℕ) (ls : List (List ℕ)) (k : ℕ) (st : Option ScriptData) (s : ScriptData) → IsShortSoFar st → read_from v ls k st ≡ Ok s → IsShort s
unfolding read_from
from_short v [] k None s short e = absurd (cc)
from_short v [] k (Some t) s short e = subst IsShort (same_script t s e) short
from_short v (line ∷ rest) k st s short e =
    elim (line_step v st line) as (λ r. line_step v st line ≡ r → go_on k (read_from v rest (k + 1)) r ≡ Ok s → IsShort s) [
      | Ok next ↦ λ step e. from_short v rest (k + 1) next s (line_short v st next line short step) e
      | Err fault ↦ λ step e. absurd (cc)
    ] refl e

pub read_is_short : (bytes : List ℕ) (s : ScriptData) → read_of bytes ≡ Ok s → IsShort s
read_is_short bytes s e =
    let body = script_body (lines bytes) 1 in
    from_short body.version body.lines body.first None s tt e
