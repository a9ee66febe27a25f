-- What holds of sets of modes by any conflict table, said by membership alone.
use Rattle.std.specs.Prelude.{◌≡◌, ◌⊎◌, Bool, ◌||◌, IsTrue, IsFalse}
use Rattle.lt_modes.specs.declared.mode.Mode.{Mode}
use Rattle.lt_modes.specs.Modes.{Modes, conflicts, has, union, bars, covers}

-- which modes conflict
abbrev pub Table : Type 0
Table = Mode → Mode → Bool

-- the order of two modes makes no difference
abbrev pub IsSymmetric : Table → Type 0
IsSymmetric table = (a b : Mode) → table a b ≡ table b a

-- each mode conflicts with some mode
abbrev pub IsEachBarred : Table → Type 0
IsEachBarred table = (mode : Mode) → (other : Mode) × IsTrue (table mode other)

-- a mode of the set conflicts with this one
abbrev pub BarsBy : Table → Modes → Mode → Type 0
BarsBy table modes mode = (member : Mode) × IsTrue (table mode member) × IsTrue (has member modes)

-- the second set bars all that the first one bars
abbrev pub IsBelowBy : Table → Modes → Modes → Type 0
IsBelowBy table a b = (mode : Mode) → BarsBy table a mode → BarsBy table b mode

-- the set bars all that the mode bars
abbrev pub CoversBy : Table → Modes → Mode → Type 0
CoversBy table modes mode = (other : Mode) → IsTrue (table other mode) → BarsBy table modes other

-- no mode of the one set conflicts with a mode of the other
abbrev pub AreClearBy : Table → Modes → Modes → Type 0
AreClearBy table a b = (mode : Mode) → IsTrue (has mode a) → BarsBy table b mode → ⊥

-- a union has the members of both
abbrev pub UnionHasBoth : Type 0
UnionHasBoth = (a b : Modes) (mode : Mode) → has mode (union a b) ≡ (has mode a || has mode b)

-- `bars` is barring by the conflict table
abbrev pub BarsByTable : Type 0
BarsByTable = (modes : Modes) (mode : Mode)
    → (IsTrue (has mode (bars modes)) → BarsBy conflicts modes mode)
    × (BarsBy conflicts modes mode → IsTrue (has mode (bars modes)))

-- `covers` is covering by the conflict table
abbrev pub CoversByTable : Type 0
CoversByTable = (modes : Modes) (mode : Mode) → IsTrue (covers modes mode) → CoversBy conflicts modes mode

-- a union bars what one of the two bars
abbrev pub UnionBarsBoth : Type 0
UnionBarsBoth = (table : Table) (a b : Modes) (mode : Mode)
    → (BarsBy table (union a b) mode → BarsBy table a mode ⊎ BarsBy table b mode)
    × (BarsBy table a mode ⊎ BarsBy table b mode → BarsBy table (union a b) mode)

-- each set is below itself
abbrev pub BelowItself : Type 0
BelowItself = (table : Table) (a : Modes) → IsBelowBy table a a

-- below the one that is below the other is below the other
abbrev pub BelowInTurn : Type 0
BelowInTurn = (table : Table) (a b c : Modes) → IsBelowBy table a b → IsBelowBy table b c → IsBelowBy table a c

-- a union is below what both are below
abbrev pub UnionBelow : Type 0
UnionBelow = (table : Table) (a b c : Modes) → IsBelowBy table a c → IsBelowBy table b c → IsBelowBy table (union a b) c

-- the same modes added on both sides keep the order
abbrev pub BelowWithMore : Type 0
BelowWithMore = (table : Table) (a b more : Modes) → IsBelowBy table a b → IsBelowBy table (union a more) (union b more)

-- clear of each other, either way round
abbrev pub ClearBothWays : Type 0
ClearBothWays = (table : Table) → IsSymmetric table → (a b : Modes) → AreClearBy table a b → AreClearBy table b a

-- a set below a clear one is clear
abbrev pub ClearBelow : Type 0
ClearBelow = (table : Table) → IsSymmetric table
    → (a b c : Modes) → IsBelowBy table a b → AreClearBy table b c → AreClearBy table a c

-- what a clear set covers isn't barred by the other
abbrev pub CoveredIsClear : Type 0
CoveredIsClear = (table : Table) → IsSymmetric table
    → (a b : Modes) (mode : Mode) → CoversBy table a mode → AreClearBy table a b → BarsBy table b mode → ⊥

-- a mode that a set covers and doesn't bar isn't taking
abbrev pub CopyIsNotTaking : Type 0
CopyIsNotTaking = (table : Table) (a : Modes) (mode : Mode)
    → CoversBy table a mode → (BarsBy table a mode → ⊥) → IsFalse (table mode mode)
