use Rattle.std.proofs.Common.{rules, ◌≡◌, ℕ, List, [], ◌∷◌, length, Err, refl, arith}
use Rattle.lt_script.specs.declared.fault.Fault.TheVariants as faults
use Rattle.lt_script.specs.Reading.{read_of, script_body, read_from}
use Rattle.lt_text.specs.Text.{cut_at, lines}
use Rattle.lt_call.proofs.scripts.read_script.Goals as goal

-- a script of no byte has no line `nodes`
no_byte : (bytes : List ℕ) → length bytes ≡ 0 → read_of bytes ≡ Err (record { line = 1; fault = faults.Nodes })
unfolding cut_at lines script_body read_from
no_byte [] none = refl
no_byte (byte ∷ bytes) none = absurd (omega (arith, none))

pub returns-then-is_empty-clause-read : goal.returns-then-is_empty-clause-read
returns-then-is_empty-clause-read c =
    let none : length c.args.bytes.now ≡ 0 = search rules in
    no_byte c.args.bytes.now none
