-- Whether a client holds a lock of one of some modes, mode by mode.
use Rattle.std.proofs.Common.{◌≡◌, ◌<◌, ◌+◌, ◌∙◌, ◌||◌, ℕ, Bool, true, false, drop, length, refl, sym, ap, slice_index_or}
use Rattle.std.specs.List.{list_any}
use Rattle.std.proofs.lemmas.Bool.{false≢true}
use Rattle.std.proofs.lemmas.List.{drop_more}
use Rattle.lt_modes.specs.declared.mode.Mode.{Mode}
use Rattle.lt_modes.specs.declared.mode.Mode.TheVariants.{IntentionRead}
use Rattle.lt_modes.specs.declared.mode.TheConstants.{MODES}
use Rattle.lt_modes.specs.Modes.{any_mode}
use Rattle.lt_modes.proofs.ModeAlgebra.{in_order, any_mode-which, any_mode-at}
use Rattle.lt_lists.proofs.Members.{list_any-at, list_any-which}

-- some mode of the list passes exactly where some mode does
pub against_all : (test : Mode → Bool) → list_any test MODES ≡ any_mode test
against_all test = by_test (list_any test MODES) (any_mode test) refl refl
  where
    by_test : (listed some : Bool) → list_any test MODES ≡ listed → any_mode test ≡ some → listed ≡ some
    by_test true true e f = refl
    by_test true false e f =
        let found = list_any-which test MODES e in
        absurd (false≢true (sym f ∙ any_mode-at test found.0 found.2))
    by_test false true e f =
        let found = any_mode-which test f in
        absurd (false≢true (sym e ∙ list_any-at test MODES found.0 (in_order found.0) found.1))
    by_test false false e f = refl

-- the next mode of the list, and those behind it
pub against_step : (test : Mode → Bool) (k : ℕ) → k < length MODES
    → list_any test (drop k MODES) ≡ (test (slice_index_or MODES k IntentionRead) || list_any test (drop (k + 1) MODES))
against_step test k h = ap (list_any test) (drop_more MODES k IntentionRead h)
