-- What `|` and `&` do on masks below 64, as tables that the check computes.
use Rattle.std.proofs.Common.{◌≡◌, ◌≢◌, ℕ, ◌<◌, Bool, true, false, refl, bit_or, bit_and, bit_xor, ◌==◌, not, nat_lt, ltb-true, ◌&&◌, ◌||◌, get_or, ◌/◌, ◌*◌, ◌^◌, ◌-◌}
use lib.Count.{count_trailing_zeros}
use Rattle.std.proofs.lemmas.Bool.{and_parts, ne_eqb}
use Rattle.lt_modes.specs.declared.mode.Mode.{Mode}
use Rattle.lt_modes.specs.declared.mode.TheConstants.{MODES}
use Rattle.lt_modes.specs.declared.mode.Mode.TheVariants.{IntentionRead, Read, Upgrade, IntentionWrite, ReadIntentionWrite, Write}
use Rattle.lt_modes.specs.Modes.{same_modes, has, union, is_within, bars, modes_by, conflicts, same_mode}
use Rattle.lt_modes.specs.FiveModes.{five_of, bit_of, modes_of_mask, mask_of, IsSplit, all_below, all_below_at}
use Rattle.lt_modes.proofs.ModeAlgebra.{same_modes-true}

all_pairs_at : (test : ℕ → ℕ → Bool) (i j : ℕ) → all_below 64 (λ a. all_below 64 (test a)) ≡ true → i < 64 → j < 64 → test i j ≡ true
all_pairs_at test i j e hi hj =
    all_below_at 64 (test i) j (all_below_at 64 (λ a. all_below 64 (test a)) i e hi) hj

abbrev same_bool : Bool → Bool → Bool
same_bool true b = b
same_bool false b = not b

same_bool_eq : (a b : Bool) → same_bool a b ≡ true → a ≡ b
same_bool_eq true true e = refl
same_bool_eq true false e = cc
same_bool_eq false true e = cc
same_bool_eq false false e = refl

pub or_below : (a b : ℕ) → a < 64 → b < 64 → bit_or a b < 64
unfolding all_below
or_below a b ha hb = ltb-true _ _ (all_pairs_at (λ i j. nat_lt (bit_or i j) 64) a b refl ha hb)

pub modes_of_or : (a b : ℕ) → a < 64 → b < 64 → modes_of_mask (bit_or a b) ≡ union (modes_of_mask a) (modes_of_mask b)
unfolding all_below
modes_of_or a b ha hb =
    same_modes-true _ _ (all_pairs_at (λ i j. same_modes (modes_of_mask (bit_or i j)) (union (modes_of_mask i) (modes_of_mask j))) a b refl ha hb)

pub and_five_below : (a : ℕ) → a < 64 → bit_and a 47 < 64
unfolding all_below
and_five_below a h = ltb-true _ _ (all_below_at 64 (λ i. nat_lt (bit_and i 47) 64) a refl h)

pub five_of_mask : (a : ℕ) → a < 64 → modes_of_mask (bit_and a 47) ≡ five_of (modes_of_mask a)
unfolding all_below
five_of_mask a h =
    same_modes-true _ _ (all_below_at 64 (λ i. same_modes (modes_of_mask (bit_and i 47)) (five_of (modes_of_mask i))) a refl h)

pub or_within : (a b : ℕ) → a < 64 → b < 64 → (bit_or a b == b) ≡ is_within (modes_of_mask a) (modes_of_mask b)
unfolding all_below
or_within a b ha hb =
    same_bool_eq _ _ (all_pairs_at (λ i j. same_bool (bit_or i j == j) (is_within (modes_of_mask i) (modes_of_mask j))) a b refl ha hb)

pub same_mask : (a b : ℕ) → a < 64 → b < 64 → (a == b) ≡ same_modes (modes_of_mask a) (modes_of_mask b)
unfolding all_below
same_mask a b ha hb =
    same_bool_eq _ _ (all_pairs_at (λ i j. same_bool (i == j) (same_modes (modes_of_mask i) (modes_of_mask j))) a b refl ha hb)

pub has_bit : (mode : Mode) (a : ℕ) → a < 64 → not (bit_and a (bit_of mode) == 0) ≡ has mode (modes_of_mask a)
unfolding all_below
has_bit IntentionRead a h = same_bool_eq _ _ (all_below_at 64 (λ i. same_bool (not (bit_and i 1 == 0)) (has IntentionRead (modes_of_mask i))) a refl h)
has_bit Read a h = same_bool_eq _ _ (all_below_at 64 (λ i. same_bool (not (bit_and i 2 == 0)) (has Read (modes_of_mask i))) a refl h)
has_bit Upgrade a h = same_bool_eq _ _ (all_below_at 64 (λ i. same_bool (not (bit_and i 4 == 0)) (has Upgrade (modes_of_mask i))) a refl h)
has_bit IntentionWrite a h = same_bool_eq _ _ (all_below_at 64 (λ i. same_bool (not (bit_and i 8 == 0)) (has IntentionWrite (modes_of_mask i))) a refl h)
has_bit ReadIntentionWrite a h = same_bool_eq _ _ (all_below_at 64 (λ i. same_bool (not (bit_and i 16 == 0)) (has ReadIntentionWrite (modes_of_mask i))) a refl h)
has_bit Write a h = same_bool_eq _ _ (all_below_at 64 (λ i. same_bool (not (bit_and i 32 == 0)) (has Write (modes_of_mask i))) a refl h)

-- ---- what a set bars, byte by byte

-- the byte of the lower and that of the upper modes of a mask
abbrev pub barred_mask : ℕ → ℕ
barred_mask i = bit_and (bit_or (4340410370217222144 / 2 ^ (8 * bit_and i 7)) (4557430888781985280 / 2 ^ (8 * (i / 8)))) 63

pub bars_below : (a : ℕ) → a < 64 → barred_mask a < 64
unfolding all_below
bars_below a h = ltb-true _ _ (all_below_at 64 (λ i. nat_lt (barred_mask i) 64) a refl h)

pub bars_of_mask : (a : ℕ) → a < 64 → modes_of_mask (barred_mask a) ≡ bars (modes_of_mask a)
unfolding all_below conflicts
bars_of_mask a h =
    same_modes-true _ _ (all_below_at 64 (λ i. same_modes (modes_of_mask (barred_mask i)) (bars (modes_of_mask i))) a refl h)

-- ---- less and common modes

pub without_below : (a b : ℕ) → a < 64 → b < 64 → bit_and a (bit_xor 63 b) < 64
unfolding all_below
without_below a b ha hb = ltb-true _ _ (all_pairs_at (λ i j. nat_lt (bit_and i (bit_xor 63 j)) 64) a b refl ha hb)

pub modes_without : (a b : ℕ) → a < 64 → b < 64
    → modes_of_mask (bit_and a (bit_xor 63 b)) ≡ modes_by (λ m. has m (modes_of_mask a) && not (has m (modes_of_mask b)))
unfolding all_below
modes_without a b ha hb =
    same_modes-true _ _ (all_pairs_at (λ i j. same_modes (modes_of_mask (bit_and i (bit_xor 63 j))) (modes_by (λ m. has m (modes_of_mask i) && not (has m (modes_of_mask j))))) a b refl ha hb)

pub and_below : (a b : ℕ) → a < 64 → b < 64 → bit_and a b < 64
unfolding all_below
and_below a b ha hb = ltb-true _ _ (all_pairs_at (λ i j. nat_lt (bit_and i j) 64) a b refl ha hb)

pub modes_common : (a b : ℕ) → a < 64 → b < 64
    → modes_of_mask (bit_and a b) ≡ modes_by (λ m. has m (modes_of_mask a) && has m (modes_of_mask b))
unfolding all_below
modes_common a b ha hb =
    same_modes-true _ _ (all_pairs_at (λ i j. same_modes (modes_of_mask (bit_and i j)) (modes_by (λ m. has m (modes_of_mask i) && has m (modes_of_mask j)))) a b refl ha hb)

-- ---- the first mode of a set

-- the mode of the lowest bit
abbrev pub first_mode : ℕ → Mode
first_mode i = get_or MODES (count_trailing_zeros 8 i) IntentionRead

abbrev splits : ℕ → Bool
splits i =
    nat_lt (count_trailing_zeros 8 i) 6
    && (has (first_mode i) (modes_of_mask i)
    && (same_modes (modes_of_mask (bit_and i (i - 1))) (modes_by (λ m. has m (modes_of_mask i) && not (same_mode (first_mode i) m)))
    && nat_lt (mask_of (modes_of_mask (bit_and i (i - 1)))) (mask_of (modes_of_mask i))))

splits_at : (i : ℕ) → i < 64 → (i == 0) ≡ false → splits i ≡ true
unfolding all_below count_trailing_zeros
splits_at i h some = by_parts (i == 0) (splits i) some (all_below_at 64 (λ k. (k == 0) || splits k) i refl h)
  where
    by_parts : (x y : Bool) → x ≡ false → (x || y) ≡ true → y ≡ true
    by_parts true y e h = cc
    by_parts false y e h = h

pub first_within : (i : ℕ) → i < 64 → i ≢ 0 → count_trailing_zeros 8 i < 6
first_within i h some = ltb-true _ _ (and_parts _ _ (splits_at i h (ne_eqb i 0 some))).0

pub is_split : (i : ℕ) → i < 64 → i ≢ 0 → IsSplit (modes_of_mask i) (first_mode i) (modes_of_mask (bit_and i (i - 1)))
is_split i h some =
    let all = and_parts _ _ (splits_at i h (ne_eqb i 0 some)) in
    let more = and_parts _ _ all.1 in
    let rest = and_parts _ _ more.1 in
    record {
      first = more.0;
      others = same_modes-true _ _ rest.0;
      less = ltb-true _ _ rest.1;
    }
