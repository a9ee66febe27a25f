-- Lock modes, the conflict table, sets of modes, and the rows of held locks.
use Rattle.std.specs.Prelude.{Bool, true, false, ◌||◌, ◌&&◌, not, List, [], ◌∷◌, ℕ, codes, if◌then◌else◌, Option, Some, None, ◌==◌, ◌+◌, ◌-◌, ◌++◌, position, filter, fold, remove, sum_by, slice_index_or, slice_set, bytes_eq}
use Rattle.lt_modes.specs.declared.mode.Mode.{Mode}
use Rattle.lt_modes.specs.declared.mode.Mode.TheVariants.{IntentionRead, Read, Upgrade, IntentionWrite, ReadIntentionWrite, Write}
use Rattle.lt_modes.specs.declared.parts.Row.{Row}

-- the conflict table; sealed: what looks at it says so (`unfolding conflicts`)
unfoldable pub conflicts : Mode → Mode → Bool
conflicts IntentionRead IntentionRead = false
conflicts IntentionRead Read = false
conflicts IntentionRead Upgrade = false
conflicts IntentionRead IntentionWrite = false
conflicts IntentionRead ReadIntentionWrite = false
conflicts IntentionRead Write = true
conflicts Read IntentionRead = false
conflicts Read Read = false
conflicts Read Upgrade = false
conflicts Read IntentionWrite = true
conflicts Read ReadIntentionWrite = true
conflicts Read Write = true
conflicts Upgrade IntentionRead = false
conflicts Upgrade Read = false
conflicts Upgrade Upgrade = true
conflicts Upgrade IntentionWrite = true
conflicts Upgrade ReadIntentionWrite = true
conflicts Upgrade Write = true
conflicts IntentionWrite IntentionRead = false
conflicts IntentionWrite Read = true
conflicts IntentionWrite Upgrade = true
conflicts IntentionWrite IntentionWrite = false
conflicts IntentionWrite ReadIntentionWrite = true
conflicts IntentionWrite Write = true
conflicts ReadIntentionWrite IntentionRead = false
conflicts ReadIntentionWrite Read = true
conflicts ReadIntentionWrite Upgrade = true
conflicts ReadIntentionWrite IntentionWrite = true
conflicts ReadIntentionWrite ReadIntentionWrite = true
conflicts ReadIntentionWrite Write = true
conflicts Write other = true

-- a taking mode conflicts with itself
abbrev pub excludes_itself : Mode → Bool
excludes_itself mode = conflicts mode mode

-- the word of a mode in scripts and journals
abbrev pub word_of : Mode → List ℕ
word_of IntentionRead = codes "intention_read"
word_of Read = codes "read"
word_of Upgrade = codes "upgrade"
word_of IntentionWrite = codes "intention_write"
word_of ReadIntentionWrite = codes "read_intention_write"
word_of Write = codes "write"

-- the mode with this word
abbrev pub mode_of : List ℕ → Option Mode
mode_of word =
    if bytes_eq word (word_of IntentionRead) then Some IntentionRead
    else if bytes_eq word (word_of Read) then Some Read
    else if bytes_eq word (word_of Upgrade) then Some Upgrade
    else if bytes_eq word (word_of IntentionWrite) then Some IntentionWrite
    else if bytes_eq word (word_of ReadIntentionWrite) then Some ReadIntentionWrite
    else if bytes_eq word (word_of Write) then Some Write
    else None

abbrev pub same_mode : Mode → Mode → Bool
same_mode IntentionRead IntentionRead = true
same_mode Read Read = true
same_mode Upgrade Upgrade = true
same_mode IntentionWrite IntentionWrite = true
same_mode ReadIntentionWrite ReadIntentionWrite = true
same_mode Write Write = true
same_mode a b = false

-- a set of modes, by its members
pub record Modes : Type 0 where
  pub intention_read : Bool
  pub read : Bool
  pub upgrade : Bool
  pub intention_write : Bool
  pub read_intention_write : Bool
  pub write : Bool

-- the mode is in the set
abbrev pub has : Mode → Modes → Bool
has IntentionRead modes = modes.intention_read
has Read modes = modes.read
has Upgrade modes = modes.upgrade
has IntentionWrite modes = modes.intention_write
has ReadIntentionWrite modes = modes.read_intention_write
has Write modes = modes.write

-- the modes that pass a test
abbrev pub modes_by : (Mode → Bool) → Modes
modes_by test = record {
  intention_read = test IntentionRead;
  read = test Read;
  upgrade = test Upgrade;
  intention_write = test IntentionWrite;
  read_intention_write = test ReadIntentionWrite;
  write = test Write;
}

abbrev pub any_mode : (Mode → Bool) → Bool
any_mode test = test IntentionRead || test Read || test Upgrade || test IntentionWrite || test ReadIntentionWrite || test Write

abbrev pub every_mode : (Mode → Bool) → Bool
every_mode test = test IntentionRead && test Read && test Upgrade && test IntentionWrite && test ReadIntentionWrite && test Write

-- the modes, in order
abbrev pub modes_in_order : List Mode
modes_in_order = IntentionRead ∷ Read ∷ Upgrade ∷ IntentionWrite ∷ ReadIntentionWrite ∷ Write ∷ []

abbrev pub no_modes : Modes
no_modes = modes_by (λ m. false)

abbrev pub all_modes : Modes
all_modes = modes_by (λ m. true)

abbrev pub one : Mode → Modes
one mode = modes_by (same_mode mode)

abbrev pub union : Modes → Modes → Modes
union a b = modes_by (λ m. has m a || has m b)

-- the set with one mode more
abbrev pub with_mode : Modes → Mode → Modes
with_mode modes mode = union modes (one mode)

-- the modes that conflict with a member
abbrev pub bars : Modes → Modes
bars modes = modes_by (λ m. any_mode (λ k. conflicts m k && has k modes))

-- each mode of the first set is in the second
abbrev pub is_within : Modes → Modes → Bool
is_within a b = every_mode (λ m. not (has m a) || has m b)

-- the set bars all that the mode bars
abbrev pub covers : Modes → Mode → Bool
covers modes mode = is_within (bars (one mode)) (bars modes)

-- the set has no member
abbrev pub has_none : Modes → Bool
has_none modes = every_mode (λ m. not (has m modes))

-- the sets have the same members
abbrev pub same_modes : Modes → Modes → Bool
same_modes a b = is_within a b && is_within b a

-- the set of these modes
abbrev pub modes_in : List Mode → Modes
modes_in [] = no_modes
modes_in (mode ∷ rest) = with_mode (modes_in rest) mode

-- Held locks: the rows of a node's clients in one set.

-- the row is that of the client and the mode
abbrev pub is_row_of : ℕ → Mode → Row → Bool
is_row_of client mode row = row.client == client && same_mode row.mode mode

abbrev pub no_row : Row
no_row = record { client = 0; mode = IntentionRead; count = 0 }

abbrev pub row_place : List Row → ℕ → Mode → Option ℕ
row_place rows client mode = position (is_row_of client mode) rows

abbrev pub count_at : List Row → Option ℕ → ℕ
count_at rows None = 0
count_at rows (Some k) = (slice_index_or rows k no_row).count

-- how many locks of the mode the client holds
abbrev pub count_of : List Row → ℕ → Mode → ℕ
count_of rows client mode = count_at rows (row_place rows client mode)

abbrev pub one_more : Row → Row
one_more row = record row { count = row.count + 1 }

abbrev pub one_less : Row → Row
one_less row = record row { count = row.count - 1 }

abbrev pub add_at : List Row → ℕ → Mode → Option ℕ → List Row
add_at rows client mode None = rows ++ record { client = client; mode = mode; count = 1 } ∷ []
add_at rows client mode (Some k) = slice_set rows k (one_more (slice_index_or rows k no_row))

-- the rows with one lock more
abbrev pub add_lock : List Row → ℕ → Mode → List Row
add_lock rows client mode = add_at rows client mode (row_place rows client mode)

abbrev pub take_at : List Row → Option ℕ → List Row
take_at rows None = rows
take_at rows (Some k) =
    if (slice_index_or rows k no_row).count == 1
    then remove rows k
    else slice_set rows k (one_less (slice_index_or rows k no_row))

-- the rows with one lock less; a row that has none left is gone
abbrev pub take_lock : List Row → ℕ → Mode → List Row
take_lock rows client mode = take_at rows (row_place rows client mode)

abbrev pub is_of : ℕ → Row → Bool
is_of client row = row.client == client

-- the modes with that of a row, where the row is one of those meant
abbrev pub gather : Bool → Modes → Row → Modes
gather meant modes row = if meant then with_mode modes row.mode else modes

-- the modes that the client holds
abbrev pub own_modes : List Row → ℕ → Modes
own_modes rows client = fold (λ modes row. gather (is_of client row) modes row) no_modes rows

-- the modes that other clients of the node hold
abbrev pub other_modes : List Row → ℕ → Modes
other_modes rows client = fold (λ modes row. gather (not (is_of client row)) modes row) no_modes rows

-- the modes that are held
abbrev pub held_modes : List Row → Modes
held_modes rows = fold (λ modes (row : Row). with_mode modes row.mode) no_modes rows

-- how many locks the client holds
abbrev pub locks_of : List Row → ℕ → ℕ
locks_of rows client = sum_by (λ (row : Row). row.count) (filter (is_of client) rows)

-- the rows of the other clients
abbrev pub without_client : List Row → ℕ → List Row
without_client rows client = filter (λ row. not (is_of client row)) rows

-- how many locks are held
abbrev pub locks_in : List Row → ℕ
locks_in rows = sum_by (λ (row : Row). row.count) rows
