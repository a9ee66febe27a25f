-- The five modes of version 1, and what the sixth one leaves as it is; how sets of modes are counted and stored.
use Rattle.std.specs.Prelude.{ℕ, ◌≡◌, ◌+◌, ◌<◌, ◌≤◌, ◌^◌, Bool, List, slice_index_or, position, unwrap_or, if◌then◌else◌, nat_lt, ◌==◌, true, false, ◌||◌, ◌&&◌, not, IsTrue, zero, suc, ◌/◌, ◌%◌, refl}
use Rattle.std.proofs.Common.{arith, inl, inr, subst}
use Rattle.std.proofs.lemmas.Bool.{and_parts, cases_lt, eqb-true}
use Rattle.lt_modes.specs.declared.mode.Mode.{Mode}
use Rattle.lt_modes.specs.Modes.{Modes, has, modes_by, same_mode, modes_in_order, conflicts, excludes_itself, any_mode, one, bars, is_within, covers, has_none, same_modes}
use Rattle.lt_modes.specs.declared.mode.Mode.TheVariants.{IntentionRead, Read, Upgrade, IntentionWrite, ReadIntentionWrite, Write}

-- For each mode a number.

-- the mode's place among all modes
abbrev pub place_of_mode : Mode → ℕ
place_of_mode mode = unwrap_or (position (same_mode mode) modes_in_order) 0

-- the mode's number
abbrev pub mode_count : Mode → List ℕ → ℕ
mode_count mode counts = slice_index_or counts (place_of_mode mode) 0

abbrev pub count_if : Bool → ℕ
count_if here = if here then 1 else 0

-- the numbers stay numbers where one set of the first modes gets the second ones
pub record CanShift (counts : List ℕ) (from to : Modes) (mode : Mode) : Type 0 where
  pub there : count_if (has mode from) ≤ mode_count mode counts
  pub within : mode_count mode counts + count_if (has mode to) < 2 ^ 32 + count_if (has mode from)

-- the mode's number once it did
abbrev pub IsShifted : List ℕ → Modes → Modes → Mode → ℕ → Type 0
IsShifted counts from to mode count = count + count_if (has mode from) ≡ mode_count mode counts + count_if (has mode to)

-- the modes that more sets have than these two make up
abbrev pub modes_beyond : List ℕ → Modes → Modes → Modes
modes_beyond counts a b = modes_by (λ mode. nat_lt (count_if (has mode a) + count_if (has mode b)) (mode_count mode counts))

-- the modes that more than n sets have
abbrev pub modes_over : ℕ → List ℕ → Modes
modes_over n counts = modes_by (λ mode. nat_lt n (mode_count mode counts))

-- The five modes without `read_intention_write`, which are those of version 1 of a script: what the sixth one leaves as it is.

-- the conflict table of the five modes, as it stands where there is no sixth
abbrev pub conflicts_of_five : Mode → Mode → Bool
conflicts_of_five IntentionRead Write = true
conflicts_of_five Read IntentionWrite = true
conflicts_of_five Read Write = true
conflicts_of_five Upgrade Upgrade = true
conflicts_of_five Upgrade IntentionWrite = true
conflicts_of_five Upgrade Write = true
conflicts_of_five IntentionWrite Read = true
conflicts_of_five IntentionWrite Upgrade = true
conflicts_of_five IntentionWrite Write = true
conflicts_of_five Write IntentionRead = true
conflicts_of_five Write Read = true
conflicts_of_five Write Upgrade = true
conflicts_of_five Write IntentionWrite = true
conflicts_of_five Write Write = true
conflicts_of_five a b = false

-- the mode is one of the five
abbrev pub is_of_five : Mode → Bool
is_of_five mode = not (same_mode mode ReadIntentionWrite)

-- the set without the sixth mode
abbrev pub five_of : Modes → Modes
five_of modes = modes_by (λ m. is_of_five m && has m modes)

-- the set is of the five modes
abbrev pub has_five_alone : Modes → Bool
has_five_alone modes = not (has ReadIntentionWrite modes)

-- the mode is one of this version of a script: version 1 has the five
abbrev pub is_of_version : ℕ → Mode → Bool
is_of_version version mode = not (version == 1) || is_of_five mode

-- the set as a journal of this version shows it: version 1 leaves the sixth mode out
abbrev pub shown_in : ℕ → Modes → Modes
shown_in version modes = if version == 1 then five_of modes else modes

-- what a set bars, by the table of five
abbrev pub bars_of_five : Modes → Modes
bars_of_five modes = modes_by (λ m. any_mode (λ k. conflicts_of_five m k && has k modes))

-- the set bars all that the mode bars, by the table of five
abbrev pub covers_of_five : Modes → Mode → Bool
covers_of_five modes mode = is_within (bars_of_five (one mode)) (bars_of_five modes)

-- a mode but `write` is in the set
abbrev pub has_below_write : Modes → Bool
has_below_write modes = modes.intention_read || modes.read || modes.upgrade || modes.intention_write

-- two of the five conflict just where they do by the table of five
abbrev pub TableAsBefore : Type 0
TableAsBefore = (a b : Mode) → IsTrue (is_of_five a) → IsTrue (is_of_five b) → conflicts a b ≡ conflicts_of_five a b

-- one of the five is taking just where it is by the table of five
abbrev pub TakingAsBefore : Type 0
TakingAsBefore = (mode : Mode) → IsTrue (is_of_five mode) → excludes_itself mode ≡ conflicts_of_five mode mode

-- of the five, a set of the five bars what it bars by the table of five
abbrev pub BarsAsBefore : Type 0
BarsAsBefore = (s : Modes) → IsTrue (has_five_alone s) → five_of (bars s) ≡ bars_of_five s

-- and it bars the sixth mode just where it bars one of the five but `write`
abbrev pub SixthByOthers : Type 0
SixthByOthers = (s : Modes) → IsTrue (has_five_alone s) → has ReadIntentionWrite (bars s) ≡ has_below_write (bars_of_five s)

-- a set of the five covers one of the five just where it does by the table of five
abbrev pub CoversAsBefore : Type 0
CoversAsBefore = (s : Modes) (mode : Mode) → IsTrue (has_five_alone s) → IsTrue (is_of_five mode) → covers s mode ≡ covers_of_five s mode

-- two sets of the five bar the same just where they do by the table of five
abbrev pub SameBarsAsBefore : Type 0
SameBarsAsBefore = (s t : Modes) → IsTrue (has_five_alone s) → IsTrue (has_five_alone t)
    → same_modes (bars s) (bars t) ≡ same_modes (bars_of_five s) (bars_of_five t)

-- a set of the five bars nothing just where it does by the table of five
abbrev pub NoneBarredAsBefore : Type 0
NoneBarredAsBefore = (s : Modes) → IsTrue (has_five_alone s) → has_none (bars s) ≡ has_none (bars_of_five s)

-- Sets of modes as bit masks below 64: how they are stored.

abbrev pub bit_of : Mode → ℕ
bit_of IntentionRead = 1
bit_of Read = 2
bit_of Upgrade = 4
bit_of IntentionWrite = 8
bit_of ReadIntentionWrite = 16
bit_of Write = 32

-- the set that a mask stands for
abbrev pub modes_of_mask : ℕ → Modes
modes_of_mask mask = modes_by (λ m. (mask / bit_of m) % 2 == 1)

abbrev pub bit_if : Bool → ℕ → ℕ
bit_if held bit = if held then bit else 0

-- the mask of a set
abbrev pub mask_of : Modes → ℕ
mask_of s = bit_if s.intention_read 1 + bit_if s.read 2 + bit_if s.upgrade 4 + bit_if s.intention_write 8 + bit_if s.read_intention_write 16 + bit_if s.write 32

-- the set has the mode, and what is left of it are its other modes
pub record IsSplit (s : Modes) (mode : Mode) (rest : Modes) : Type 0 where
  pub first : has mode s ≡ true
  pub others : rest ≡ modes_by (λ m. has m s && not (same_mode mode m))
  pub less : mask_of rest < mask_of s

-- the test passes at each number below n
unfoldable pub all_below : ℕ → (ℕ → Bool) → Bool
all_below zero test = true
all_below (suc n) test = test n && all_below n test

pub all_below_at : (n : ℕ) (test : ℕ → Bool) (k : ℕ) → all_below n test ≡ true → k < n → test k ≡ true
unfolding all_below
all_below_at zero test k e h = absurd (omega arith)
all_below_at (suc n) test k e h =
    elim (cases_lt k n) [
      | inl below ↦ all_below_at n test k (and_parts (test n) (all_below n test) e).1 below
      | inr above ↦ subst (λ (i : ℕ). test i ≡ true) (omega arith) (and_parts (test n) (all_below n test) e).0
    ]

-- a mask below 64 is the mask of its set
pub mask_of_modes_of : (mask : ℕ) → mask < 64 → mask_of (modes_of_mask mask) ≡ mask
unfolding all_below
mask_of_modes_of mask h =
    eqb-true _ _ (all_below_at 64 (λ i. mask_of (modes_of_mask i) == i) mask refl h)
