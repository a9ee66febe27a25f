-- What the code returns, beside what reading gives.
use Rattle.std.specs.Prelude.{◌≡◌, ℕ, List, Result, Ok, Err}
use Rattle.lt_letters.specs.declared.fault.Fault.{Fault}
use Rattle.lt_letters.specs.declared.fault.ReadError.{ReadError}
use Rattle.lt_letters.specs.declared.fault.ReadError.TheVariants as errors

-- what was read, seen by view, is what reading gives, and so is a fault
abbrev pub IsReading : {X Y : Type 0} → (X → Y) → Result X Fault → Result Y Fault → Type 0
IsReading view (Ok x) read = read ≡ Ok (view x)
IsReading view (Err f) read = read ≡ Err f

-- what was read ends before these bytes
abbrev pub EndsReading : {X Y : Type 0} → (X → List ℕ) → Result X Fault → Result (Y × List ℕ) Fault → Type 0
EndsReading {Y = Y} view (Ok x) read = (y : Y) × (read ≡ Ok (y, view x))
EndsReading view (Err f) read = read ≡ Err f

-- there is something to read
abbrev pub IsRead : {Y : Type 0} → Result Y Fault → Type 0
IsRead {Y = Y} read = (y : Y) × (read ≡ Ok y)

-- there is, or this is the fault
abbrev pub FindsOne : {X Y : Type 0} → Result X Fault → Result Y Fault → Type 0
FindsOne (Ok x) read = IsRead read
FindsOne (Err f) read = read ≡ Err f

-- a fault is the one that reading gives; of want of memory nothing is said
abbrev pub Fails : {Y : Type 0} → ReadError → Result Y Fault → Type 0
Fails errors.Memory read = Unit {0}
Fails (errors.Fault f) read = read ≡ Err f

-- what was built, seen by view, is what reading gives
abbrev pub Builds : {X Y : Type 0} → (X → Y) → Result X ReadError → Result Y Fault → Type 0
Builds view (Ok x) read = read ≡ Ok (view x)
Builds view (Err e) read = Fails e read
