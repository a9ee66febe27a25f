-- What an input denotes, where it is a script.
use Rattle.std.specs.Prelude.{◌≡◌, ℕ, List, Option, IfSome, IsSomeAnd, Ok, Err}
use Rattle.lt_modes.specs.Script.{ScriptData}
use Rattle.lt_spec.specs.Ordered.{IsOrdered}
use Rattle.lt_script.specs.declared.fault.ScriptFault.{ScriptFault}
use Rattle.lt_script.specs.Reading.{read_of}

-- if the bytes are known, they denote this script
abbrev pub Denotes : Option (List ℕ) → ScriptData → Type 0
Denotes left script = IfSome left (λ bytes. read_of bytes ≡ Ok script)

-- if the bytes are known, this is their first fault
abbrev pub HasFault : Option (List ℕ) → ScriptFault → Type 0
HasFault left fault = IfSome left (λ bytes. read_of bytes ≡ Err fault)

-- the bytes are known, and denote an ordered script
abbrev pub DenotesOrdered : Option (List ℕ) → Type 0
DenotesOrdered left = IsSomeAnd left (λ bytes. (script : ScriptData) × (read_of bytes ≡ Ok script) × IsOrdered script)
