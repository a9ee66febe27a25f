-- What holds of each mode: with the table, the words and the masks of specs/ this is all that names the modes one by one.
use Rattle.std.proofs.Common.{◌≡◌, ◌≤◌, length, Some, true, refl, arith, inl, inr, Bool, false, sym, ◌∙◌, ap, IsTrue, Contains, ◌||◌, ◌&&◌, not}
use Rattle.std.proofs.lemmas.Bool.{and_parts, and_from, or_cases, or_left, or_right, false_from_ne_true}
use Rattle.std.proofs.Math.Path.{fun_ext}
use Rattle.lt_modes.specs.declared.mode.Mode.{Mode}
use Rattle.lt_modes.specs.declared.mode.Mode.TheVariants.{IntentionRead, Read, Upgrade, IntentionWrite, ReadIntentionWrite, Write}
use Rattle.lt_modes.specs.Modes.{same_mode, word_of, mode_of, has, no_modes, modes_in_order, Modes, conflicts, same_modes, is_within, modes_by, any_mode, every_mode, one, bars, union}
use Rattle.lt_modes.specs.ModeLaws.{IsSymmetric, IsEachBarred, BarsBy, UnionHasBoth, BarsByTable, CoversByTable, UnionBarsBoth, BelowItself, BelowInTurn, UnionBelow, BelowWithMore, ClearBothWays, ClearBelow, CoveredIsClear, CopyIsNotTaking}

-- what is proved of each mode holds of any
pub each_mode : (P : Mode → Type 0) → P IntentionRead → P Read → P Upgrade → P IntentionWrite → P ReadIntentionWrite → P Write
    → (mode : Mode) → P mode
each_mode P a b c d e f IntentionRead = a
each_mode P a b c d e f Read = b
each_mode P a b c d e f Upgrade = c
each_mode P a b c d e f IntentionWrite = d
each_mode P a b c d e f ReadIntentionWrite = e
each_mode P a b c d e f Write = f

-- modes that pass the test are equal
pub same_mode-true : (a b : Mode) → same_mode a b ≡ true → a ≡ b
same_mode-true a b e = grind arith

-- no mode is in the empty set
pub none_in_none : {A : Type 0} (mode : Mode) → IsTrue (has mode no_modes) → A
none_in_none IntentionRead h = cc
none_in_none Read h = cc
none_in_none Upgrade h = cc
none_in_none IntentionWrite h = cc
none_in_none ReadIntentionWrite h = cc
none_in_none Write h = cc

-- each mode stands in the list of all modes
pub in_order : (mode : Mode) → Contains modes_in_order mode
in_order IntentionRead = (0, omega arith, refl)
in_order Read = (1, omega arith, refl)
in_order Upgrade = (2, omega arith, refl)
in_order IntentionWrite = (3, omega arith, refl)
in_order ReadIntentionWrite = (4, omega arith, refl)
in_order Write = (5, omega arith, refl)

-- a mode's word is read as the mode
pub mode_of_word : (mode : Mode) → mode_of (word_of mode) ≡ Some mode
mode_of_word = each_mode (λ mode. mode_of (word_of mode) ≡ Some mode) refl refl refl refl refl refl

-- the word of a mode has at most 20 bytes
pub word_length : (mode : Mode) → length (word_of mode) ≤ 20
word_length = each_mode (λ mode. length (word_of mode) ≤ 20) (omega arith) (omega arith) (omega arith) (omega arith) (omega arith) (omega arith)

-- Sets of modes by any conflict table: only the first lemmas look at single modes.

pub conflicts-sym : IsSymmetric conflicts
unfolding conflicts
conflicts-sym IntentionRead IntentionRead = refl
conflicts-sym IntentionRead Read = refl
conflicts-sym IntentionRead Upgrade = refl
conflicts-sym IntentionRead IntentionWrite = refl
conflicts-sym IntentionRead ReadIntentionWrite = refl
conflicts-sym IntentionRead Write = refl
conflicts-sym Read IntentionRead = refl
conflicts-sym Read Read = refl
conflicts-sym Read Upgrade = refl
conflicts-sym Read IntentionWrite = refl
conflicts-sym Read ReadIntentionWrite = refl
conflicts-sym Read Write = refl
conflicts-sym Upgrade IntentionRead = refl
conflicts-sym Upgrade Read = refl
conflicts-sym Upgrade Upgrade = refl
conflicts-sym Upgrade IntentionWrite = refl
conflicts-sym Upgrade ReadIntentionWrite = refl
conflicts-sym Upgrade Write = refl
conflicts-sym IntentionWrite IntentionRead = refl
conflicts-sym IntentionWrite Read = refl
conflicts-sym IntentionWrite Upgrade = refl
conflicts-sym IntentionWrite IntentionWrite = refl
conflicts-sym IntentionWrite ReadIntentionWrite = refl
conflicts-sym IntentionWrite Write = refl
conflicts-sym ReadIntentionWrite IntentionRead = refl
conflicts-sym ReadIntentionWrite Read = refl
conflicts-sym ReadIntentionWrite Upgrade = refl
conflicts-sym ReadIntentionWrite IntentionWrite = refl
conflicts-sym ReadIntentionWrite ReadIntentionWrite = refl
conflicts-sym ReadIntentionWrite Write = refl
conflicts-sym Write IntentionRead = refl
conflicts-sym Write Read = refl
conflicts-sym Write Upgrade = refl
conflicts-sym Write IntentionWrite = refl
conflicts-sym Write ReadIntentionWrite = refl
conflicts-sym Write Write = refl

pub each_barred : IsEachBarred conflicts
unfolding conflicts
each_barred mode = (Write, conflicts-sym mode Write)

-- membership in a set that a test makes
pub has-modes_by : (test : Mode → Bool) (mode : Mode) → has mode (modes_by test) ≡ test mode
has-modes_by test IntentionRead = refl
has-modes_by test Read = refl
has-modes_by test Upgrade = refl
has-modes_by test IntentionWrite = refl
has-modes_by test ReadIntentionWrite = refl
has-modes_by test Write = refl

pub has-itself : (mode : Mode) → same_mode mode mode ≡ true
has-itself IntentionRead = refl
has-itself Read = refl
has-itself Upgrade = refl
has-itself IntentionWrite = refl
has-itself ReadIntentionWrite = refl
has-itself Write = refl

-- some mode passes, and which one
pub any_mode-which : (test : Mode → Bool) → any_mode test ≡ true → (mode : Mode) × IsTrue (test mode)
any_mode-which test e = elim (or_cases _ _ e) [
  | inl before ↦ elim (or_cases _ _ before) [
    | inl before ↦ elim (or_cases _ _ before) [
      | inl before ↦ elim (or_cases _ _ before) [
        | inl before ↦ elim (or_cases _ _ before) [
          | inl h ↦ (IntentionRead, h)
          | inr h ↦ (Read, h)
        ]
        | inr h ↦ (Upgrade, h)
      ]
      | inr h ↦ (IntentionWrite, h)
    ]
    | inr h ↦ (ReadIntentionWrite, h)
  ]
  | inr h ↦ (Write, h)
]

pub any_mode-at : (test : Mode → Bool) (mode : Mode) → test mode ≡ true → any_mode test ≡ true
any_mode-at test IntentionRead h = or_left _ _ (or_left _ _ (or_left _ _ (or_left _ _ (or_left _ _ h))))
any_mode-at test Read h = or_left _ _ (or_left _ _ (or_left _ _ (or_left _ _ (or_right _ _ h))))
any_mode-at test Upgrade h = or_left _ _ (or_left _ _ (or_left _ _ (or_right _ _ h)))
any_mode-at test IntentionWrite h = or_left _ _ (or_left _ _ (or_right _ _ h))
any_mode-at test ReadIntentionWrite h = or_left _ _ (or_right _ _ h)
any_mode-at test Write h = or_right _ _ h

pub every_mode-at : (test : Mode → Bool) (mode : Mode) → every_mode test ≡ true → test mode ≡ true
every_mode-at test IntentionRead h = (and_parts _ _ (and_parts _ _ (and_parts _ _ (and_parts _ _ (and_parts _ _ h).0).0).0).0).0
every_mode-at test Read h = (and_parts _ _ (and_parts _ _ (and_parts _ _ (and_parts _ _ (and_parts _ _ h).0).0).0).0).1
every_mode-at test Upgrade h = (and_parts _ _ (and_parts _ _ (and_parts _ _ (and_parts _ _ h).0).0).0).1
every_mode-at test IntentionWrite h = (and_parts _ _ (and_parts _ _ (and_parts _ _ h).0).0).1
every_mode-at test ReadIntentionWrite h = (and_parts _ _ (and_parts _ _ h).0).1
every_mode-at test Write h = (and_parts _ _ h).1

pub union_has_both : UnionHasBoth
union_has_both a b mode = has-modes_by (λ m. has m a || has m b) mode

pub bars_by_table : BarsByTable
bars_by_table modes mode = (
  (λ h.
      let found = any_mode-which (λ k. conflicts mode k && has k modes) (sym (is_bar mode) ∙ h) in
      let parts = and_parts _ _ found.1 in
      (found.0, parts.0, parts.1)),
  (λ h. is_bar mode ∙ any_mode-at (λ k. conflicts mode k && has k modes) h.0 (and_from _ _ h.1 h.2)),
)
  where
    is_bar : (m : Mode) → has m (bars modes) ≡ any_mode (λ k. conflicts m k && has k modes)
    is_bar m = has-modes_by (λ m. any_mode (λ k. conflicts m k && has k modes)) m

not_or : (a b : Bool) → (not a || b) ≡ true → a ≡ true → b ≡ true
not_or true b e h = e
not_or false b e h = cc

pub covers_by_table : CoversByTable
covers_by_table modes mode h other conflict =
    let own : BarsBy conflicts (one mode) other = (mode, conflict, has-modes_by (same_mode mode) mode ∙ has-itself mode) in
    let barred = (bars_by_table (one mode) other).1 own in
    (bars_by_table modes other).0 (not_or _ _ (every_mode-at (λ m. not (has m (bars (one mode))) || has m (bars modes)) other h) barred)

pub union_bars_both : UnionBarsBoth
union_bars_both table a b mode = (
  (λ h. elim (or_cases (has h.0 a) (has h.0 b) (sym (union_has_both a b h.0) ∙ h.2)) [
    | inl own ↦ inl (h.0, h.1, own)
    | inr own ↦ inr (h.0, h.1, own)
  ]),
  (λ h. elim h [
    | inl own ↦ (own.0, own.1, union_has_both a b own.0 ∙ or_left _ _ own.2)
    | inr own ↦ (own.0, own.1, union_has_both a b own.0 ∙ or_right _ _ own.2)
  ]),
)

pub below_itself : BelowItself
below_itself table a mode h = h

pub below_in_turn : BelowInTurn
below_in_turn table a b c ab bc mode h = bc mode (ab mode h)

pub union_below : UnionBelow
union_below table a b c ac bc mode h = elim ((union_bars_both table a b mode).0 h) [
  | inl own ↦ ac mode own
  | inr own ↦ bc mode own
]

pub below_with_more : BelowWithMore
below_with_more table a b more ab mode h = elim ((union_bars_both table a more mode).0 h) [
  | inl own ↦ (union_bars_both table b more mode).1 (inl (ab mode own))
  | inr own ↦ (union_bars_both table b more mode).1 (inr own)
]

pub clear_both_ways : ClearBothWays
clear_both_ways table symmetric a b clear mode member barred =
    clear barred.0 barred.2 (mode, symmetric barred.0 mode ∙ barred.1, member)

pub clear_below : ClearBelow
clear_below table symmetric a b c below clear mode member barred =
    let found = below barred.0 (mode, symmetric barred.0 mode ∙ barred.1, member) in
    clear found.0 found.2 (barred.0, symmetric found.0 barred.0 ∙ found.1, barred.2)

pub covered_is_clear : CoveredIsClear
covered_is_clear table symmetric a b mode covered clear barred =
    let found = covered barred.0 (symmetric barred.0 mode ∙ barred.1) in
    clear found.0 found.2 (barred.0, symmetric found.0 barred.0 ∙ found.1, barred.2)

pub copy_is_not_taking : CopyIsNotTaking
copy_is_not_taking table a mode covered free = false_from_ne_true _ (λ taking. free (covered mode taking))

-- sets with the same members are one
pub same_modes-true : (a b : Modes) → same_modes a b ≡ true → a ≡ b
same_modes-true a b e =
    let within = and_parts (is_within a b) (is_within b a) e in
    let same : (mode : Mode) → has mode a ≡ has mode b = λ mode.
    by_tests (has mode a) (has mode b)
    (every_mode-at (λ m. not (has m a) || has m b) mode within.0)
    (every_mode-at (λ m. not (has m b) || has m a) mode within.1) in
    λ i. record {
      intention_read = same IntentionRead i;
      read = same Read i;
      upgrade = same Upgrade i;
      intention_write = same IntentionWrite i;
      read_intention_write = same ReadIntentionWrite i;
      write = same Write i;
    }
  where
    by_tests : (x y : Bool) → (not x || y) ≡ true → (not y || x) ≡ true → x ≡ y
    by_tests true true p q = refl
    by_tests true false p q = cc
    by_tests false true p q = cc
    by_tests false false p q = refl

-- the empty set bars nothing, by any table
pub bars_of_none : bars no_modes ≡ no_modes
bars_of_none = λ i. record {
  intention_read = none IntentionRead i;
  read = none Read i;
  upgrade = none Upgrade i;
  intention_write = none IntentionWrite i;
  read_intention_write = none ReadIntentionWrite i;
  write = none Write i;
}
  where
    none : (mode : Mode) → has mode (bars no_modes) ≡ false
    none mode = false_from_ne_true (has mode (bars no_modes)) (λ h. let found = (bars_by_table no_modes mode).0 h in none_in_none found.0 found.2)

-- Sets of modes by their members.

-- sets with the same members
pub same_members : (a b : Modes) → ((mode : Mode) → has mode a ≡ has mode b) → a ≡ b
same_members a b h = ap modes_by (fun_ext h)

pub has-union : (mode : Mode) (a b : Modes) → has mode (union a b) ≡ (has mode a || has mode b)
has-union mode a b = has-modes_by (λ m. has m a || has m b) mode

pub has-no_modes : (mode : Mode) → has mode no_modes ≡ false
has-no_modes mode = has-modes_by (λ m. false) mode
