-- Numbers by mode, which change one after the other, and the sets of the modes that have great ones.
use Rattle.std.proofs.Common.{◌≡◌, ◌∙◌, ℕ, ◌+◌, ◌-◌, ◌<◌, ◌≤◌, inl, inr, Bool, true, false, List, length, set, refl, sym, ap, subst, arith, get_or-set_same, get_or-set_other, ◌&&◌, ◌||◌, not, nat_lt, if◌then◌else◌}
use Rattle.std.proofs.lemmas.Bool.{cases_Bool, and_parts}
use Rattle.std.proofs.lemmas.Bool.Decides.{nat_tests}
use Rattle.lt_modes.specs.declared.mode.Mode.{Mode}
use Rattle.lt_modes.specs.declared.mode.Mode.TheVariants.{IntentionRead, Read, Upgrade, IntentionWrite, ReadIntentionWrite, Write}
use Rattle.lt_modes.specs.Modes.{Modes, has, has_none, same_mode, modes_by, one, with_mode, union}
use Rattle.lt_modes.specs.FiveModes.{place_of_mode, mode_count, count_if, CanShift, IsShifted, IsSplit, modes_beyond, modes_over}
use Rattle.lt_modes.proofs.ModeAlgebra.{has-modes_by, same_members, same_mode-true, has-itself, every_mode-at}

few_places : (mode : Mode) → place_of_mode mode < 6
few_places mode = grind arith

same_place : (a b : Mode) → place_of_mode a ≡ place_of_mode b → a ≡ b
same_place a b e = grind arith

-- ---- one number changes

pub count_set : (old : List ℕ) (mode : Mode) (count : ℕ) → length old ≡ 6 → mode_count mode (set old (place_of_mode mode) count) ≡ count
count_set old mode count room = get_or-set_same old (place_of_mode mode) count 0 (omega (arith, few_places mode, room))

-- the other modes have the numbers that they had
pub count_other : (old : List ℕ) (mode other : Mode) (count : ℕ) → same_mode mode other ≡ false
    → mode_count other (set old (place_of_mode mode) count) ≡ mode_count other old
count_other old mode other count differ =
    get_or-set_other old (place_of_mode mode) (place_of_mode other) count 0 (λ same.
    let hit : same_mode mode other ≡ true = ap (same_mode mode) (same_place other mode same) ∙ has-itself mode in
    cc)

-- the modes that more than n sets have, once a mode has this number
pub over_set : (n : ℕ) (old : List ℕ) (mode : Mode) (count : ℕ) (over made : Modes) → length old ≡ 6 → over ≡ modes_over n old
    → made ≡ modes_by (λ m. if same_mode mode m then nat_lt n count else has m over)
    → made ≡ modes_over n (set old (place_of_mode mode) count)
over_set n old mode count over made room is makes =
    let new = set old (place_of_mode mode) count in
    let own : (m : Mode) (b : Bool) → same_mode mode m ≡ b → (if b then nat_lt n count else has m over) ≡ nat_lt n (mode_count m new) = λ m b e. elim b as (λ t. b ≡ t → (if t then nat_lt n count else has m over) ≡ nat_lt n (mode_count m new)) [
      | true ↦ λ hit.
          let same : mode ≡ m = same_mode-true mode m (e ∙ hit) in
          ap (λ (k : ℕ). nat_lt n k) (sym (ap (λ (x : Mode). mode_count x new) (sym same) ∙ count_set old mode count room))
      | false ↦ λ miss.
          ap (λ (s : Modes). has m s) is ∙ has-modes_by (λ x. nat_lt n (mode_count x old)) m
          ∙ ap (λ (k : ℕ). nat_lt n k) (sym (count_other old mode m count (e ∙ miss)))
    ] refl in
    makes ∙ same_members _ _ (λ m.
    has-modes_by (λ x. if same_mode mode x then nat_lt n count else has x over) m
    ∙ own m (same_mode mode m) refl
    ∙ sym (has-modes_by (λ x. nat_lt n (mode_count x new)) m))

-- ---- one mode comes or goes

put_true_by : (x y : Bool) → ((x && not y) || y) ≡ (if y then true else x)
put_true_by true true = refl
put_true_by true false = refl
put_true_by false true = refl
put_true_by false false = refl

put_false_by : (x y : Bool) → (x && not y) ≡ (if y then false else x)
put_false_by true true = refl
put_false_by true false = refl
put_false_by false true = refl
put_false_by false false = refl

-- the set with the mode, by the set without it
pub put_true : (s : Modes) (mode : Mode)
    → with_mode (modes_by (λ m. has m s && not (has m (one mode)))) mode ≡ modes_by (λ m. if same_mode mode m then true else has m s)
put_true s mode = λ i. record {
  intention_read = put_true_by s.intention_read (same_mode mode IntentionRead) i;
  read = put_true_by s.read (same_mode mode Read) i;
  upgrade = put_true_by s.upgrade (same_mode mode Upgrade) i;
  intention_write = put_true_by s.intention_write (same_mode mode IntentionWrite) i;
  read_intention_write = put_true_by s.read_intention_write (same_mode mode ReadIntentionWrite) i;
  write = put_true_by s.write (same_mode mode Write) i;
}

pub put_false : (s : Modes) (mode : Mode)
    → modes_by (λ m. has m s && not (has m (one mode))) ≡ modes_by (λ m. if same_mode mode m then false else has m s)
put_false s mode = λ i. record {
  intention_read = put_false_by s.intention_read (same_mode mode IntentionRead) i;
  read = put_false_by s.read (same_mode mode Read) i;
  upgrade = put_false_by s.upgrade (same_mode mode Upgrade) i;
  intention_write = put_false_by s.intention_write (same_mode mode IntentionWrite) i;
  read_intention_write = put_false_by s.read_intention_write (same_mode mode ReadIntentionWrite) i;
  write = put_false_by s.write (same_mode mode Write) i;
}

-- ---- the modes that more sets have than two

by_count : (x y : Bool) (n : ℕ)
    → ((nat_lt 0 n && not (x || y)) || (nat_lt 1 n && not (x && y)) || nat_lt 2 n) ≡ nat_lt (count_if x + count_if y) n
by_count true true n = grind (arith, nat_tests)
by_count true false n = grind (arith, nat_tests)
by_count false true n = grind (arith, nat_tests)
by_count false false n = grind (arith, nat_tests)

abbrev pub found_beyond : Modes → Modes → Modes → Modes → Modes → Modes
found_beyond none one two a b =
    union (union (modes_by (λ m. has m none && not (has m (union a b)))) (modes_by (λ m. has m one && not (has m (modes_by (λ k. has k a && has k b)))))) two

found_at : (counts : List ℕ) (a b : Modes) (mode : Mode)
    → has mode (found_beyond (modes_over 0 counts) (modes_over 1 counts) (modes_over 2 counts) a b) ≡ has mode (modes_beyond counts a b)
found_at counts a b IntentionRead = by_count a.intention_read b.intention_read (mode_count IntentionRead counts)
found_at counts a b Read = by_count a.read b.read (mode_count Read counts)
found_at counts a b Upgrade = by_count a.upgrade b.upgrade (mode_count Upgrade counts)
found_at counts a b IntentionWrite = by_count a.intention_write b.intention_write (mode_count IntentionWrite counts)
found_at counts a b ReadIntentionWrite = by_count a.read_intention_write b.read_intention_write (mode_count ReadIntentionWrite counts)
found_at counts a b Write = by_count a.write b.write (mode_count Write counts)

pub beyond_is : (counts : List ℕ) (none one two a b : Modes) → none ≡ modes_over 0 counts → one ≡ modes_over 1 counts → two ≡ modes_over 2 counts
    → found_beyond none one two a b ≡ modes_beyond counts a b
beyond_is counts none one two a b is_none is_one is_two =
    (λ i. found_beyond (is_none i) (is_one i) (is_two i) a b) ∙ same_members _ _ (found_at counts a b)

-- ---- a set has other modes

-- of the new numbers those of the modes that are left are as they were, and the others are right
pub record Shifting (old : List ℕ) (from to left : Modes) (new : List ℕ) : Type 0 where
  pub waits : (m : Mode) → has m left ≡ true → has m from ≡ not (has m to)
  pub done : (m : Mode) → has m left ≡ false → IsShifted old from to m (mode_count m new)

-- the modes that one of the sets has
abbrev pub in_one : Modes → Modes → Modes
in_one from to = union (modes_by (λ m. has m from && not (has m to))) (modes_by (λ m. has m to && not (has m from)))

differs : (x y : Bool) → ((x && not y) || (y && not x)) ≡ true → x ≡ not y
differs true true e = cc
differs true false e = refl
differs false true e = refl
differs false false e = cc

alike : (x y : Bool) (n : ℕ) → ((x && not y) || (y && not x)) ≡ false → n + count_if x ≡ n + count_if y
alike true true n e = refl
alike true false n e = cc
alike false true n e = cc
alike false false n e = refl

in_one_at : (from to : Modes) (m : Mode) → has m (in_one from to) ≡ ((has m from && not (has m to)) || (has m to && not (has m from)))
in_one_at from to IntentionRead = refl
in_one_at from to Read = refl
in_one_at from to Upgrade = refl
in_one_at from to IntentionWrite = refl
in_one_at from to ReadIntentionWrite = refl
in_one_at from to Write = refl

pub none_shifted : (old : List ℕ) (from to left : Modes) → left ≡ in_one from to → Shifting old from to left old
none_shifted old from to left is = record {
  waits = λ m h. differs (has m from) (has m to) (sym (ap (λ (s : Modes). has m s) is ∙ in_one_at from to m) ∙ h);
  done = λ m h. alike (has m from) (has m to) (mode_count m old) (sym (ap (λ (s : Modes). has m s) is ∙ in_one_at from to m) ∙ h);
}

moves : (x y : Bool) (n count : ℕ) → x ≡ not y → count_if x ≤ n → count ≡ (if y then n + 1 else n - 1) → count + count_if x ≡ n + count_if y
moves true true n count e h is = cc
moves true false n count e h is = omega (arith, h, is)
moves false true n count e h is = omega (arith, is)
moves false false n count e h is = cc

pub one_shifted : (old : List ℕ) (from to left : Modes) (new : List ℕ) (mode : Mode) (rest : Modes) (count : ℕ) (made : List ℕ) → Shifting old from to left new
    → IsSplit left mode rest → CanShift old from to mode → count ≡ (if has mode to then mode_count mode old + 1 else mode_count mode old - 1)
    → mode_count mode made ≡ count → ((other : Mode) → same_mode mode other ≡ false → mode_count other made ≡ mode_count other new)
    → Shifting old from to rest made
one_shifted old from to left new mode rest count made so_far split can is own others =
    let at : (m : Mode) → has m rest ≡ (has m left && not (same_mode mode m)) = λ m.
    ap (λ (s : Modes). has m s) split.others ∙ has-modes_by (λ x. has x left && not (same_mode mode x)) m in
    record {
      waits = λ m h. so_far.waits m (and_parts (has m left) (not (same_mode mode m)) (sym (at m) ∙ h)).0;
      done = λ m h. elim (cases_Bool (same_mode mode m)) [
        | inl hit ↦
            subst (λ (x : Mode). IsShifted old from to x (mode_count x made)) (same_mode-true mode m hit)
            (ap (λ (k : ℕ). k + count_if (has mode from)) own
            ∙ moves (has mode from) (has mode to) (mode_count mode old) count (so_far.waits mode split.first) can.there is)
        | inr miss ↦
            let gone : has m left ≡ false = left_out (has m left) (same_mode mode m) miss (sym (at m) ∙ h) in
            subst (λ (k : ℕ). IsShifted old from to m k) (sym (others m miss)) (so_far.done m gone)
      ];
    }
  where
    left_out : (x y : Bool) → y ≡ false → (x && not y) ≡ false → x ≡ false
    left_out true true e h = cc
    left_out true false e h = cc
    left_out false y e h = refl

pub all_shifted : (old : List ℕ) (from to left : Modes) (new : List ℕ) → Shifting old from to left new → has_none left ≡ true
    → (mode : Mode) → IsShifted old from to mode (mode_count mode new)
all_shifted old from to left new so_far none mode = so_far.done mode (not_true (has mode left) (every_mode-at (λ m. not (has m left)) mode none))
  where
    not_true : (x : Bool) → not x ≡ true → x ≡ false
    not_true true e = cc
    not_true false e = refl
