-- An ask that is put at the end.
use Rattle.std.proofs.Common.{◌≡◌, ◌∙◌, ℕ, zero, suc, ◌+◌, List, [], ◌∷◌, ◌++◌, length, arith, refl, ap, Bool, true, false, if◌then◌else◌, insert}
use Rattle.lt_modes.specs.declared.ask.Ask.{Ask}
use Rattle.lt_modes.specs.State.{after_holders_from}

pub put_last : (asks : List Ask) (ask : Ask) → insert asks (length asks) ask ≡ asks ++ ask ∷ []
put_last [] ask = refl
put_last (x ∷ asks) ask = ap (λ (list : List Ask). x ∷ list) (put_last asks ask)

holders_last : (asks : List Ask) (ask : Ask) (k found : ℕ)
    → after_holders_from k found (asks ++ ask ∷ []) ≡ (if ask.holder then k + length asks + 1 else after_holders_from k found asks)
holders_last [] ask k found = by_flag ask.holder
  where
    by_flag : (b : Bool) → (if b then k + 1 else found) ≡ (if b then k + 0 + 1 else found)
    by_flag true = omega arith
    by_flag false = refl
holders_last (x ∷ asks) ask k found =
    holders_last asks ask (k + 1) (if x.holder then k + 1 else found) ∙ by_flag ask.holder (after_holders_from (k + 1) (if x.holder then k + 1 else found) asks)
  where
    by_flag : (b : Bool) (n : ℕ) → (if b then k + 1 + length asks + 1 else n) ≡ (if b then k + suc (length asks) + 1 else n)
    by_flag true n = omega arith
    by_flag false n = refl

pub holder_last : (asks : List Ask) (ask : Ask) → ask.holder ≡ true → length asks + 1 ≡ after_holders_from 0 0 (asks ++ ask ∷ [])
holder_last asks ask e = rw (holders_last asks ask 0 0, e) (omega arith)

pub plain_last : (asks : List Ask) (ask : Ask) (kept : ℕ) → kept ≡ after_holders_from 0 0 asks → ask.holder ≡ false → kept ≡ after_holders_from 0 0 (asks ++ ask ∷ [])
plain_last asks ask kept is e = rw (holders_last asks ask 0 0, e) is
