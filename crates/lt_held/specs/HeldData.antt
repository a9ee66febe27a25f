-- What a node keeps of held locks.
use Rattle.std.specs.Prelude.{◌≤◌, ◌^◌, ℕ, List, All, count_by}
use Rattle.lt_modes.specs.declared.mode.Mode.{Mode}
use Rattle.lt_modes.specs.declared.parts.Row.{Row}
use Rattle.lt_modes.specs.Modes.{is_row_of, count_of, locks_of, locks_in}

pub record HeldData : Type 0 where
  pub rows : List Row
  -- for how many rows more there is room, at least
  pub spare : ℕ

-- the most locks of one mode that a client may hold in a set: those of all modes and of eight sets are counted in 64 bits
abbrev pub most_locks : ℕ
most_locks = 2 ^ 60

-- the row holds some lock, and not too many
pub record IsCounted (row : Row) : Type 0 where
  pub some : 1 ≤ row.count
  pub within : row.count ≤ most_locks

-- each row counts some locks, and each client has a mode in one row at most
pub record AreRows (rows : List Row) : Type 0 where
  pub counted : All IsCounted rows
  pub distinct : (client : ℕ) (mode : Mode) → count_by (is_row_of client mode) rows ≤ 1

-- What holds of the counts in any rows.

abbrev pub CountIsWithin : Type 0
CountIsWithin = (rows : List Row) (client : ℕ) (mode : Mode) → count_of rows client mode ≤ locks_of rows client

abbrev pub LocksAreWithin : Type 0
LocksAreWithin = (rows : List Row) (client : ℕ) → locks_of rows client ≤ locks_in rows
