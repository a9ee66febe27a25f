-- The first byte tells most lines from `journal`.
use Rattle.std.proofs.Common.{◌≡◌, ◌≢◌, ℕ, ◌==◌, true, false, List, [], ◌∷◌, length, filter, get_or, refl, sym, arith, eqb-true, ne_eqb}
use Rattle.lt_text.specs.Text.{cut_at, words, put_front, is_blank, is_filled}
use Rattle.lt_journal.specs.Split.{is_journal_line, says_journal}

first_other : (byte : ℕ) (pieces : List (List ℕ)) → byte ≢ 106 → says_journal (filter is_filled (put_front byte pieces)) ≡ false
first_other byte [] other = rw (ne_eqb byte 106 other) refl
first_other byte (piece ∷ pieces) other = by_rest (filter is_filled pieces)
  where
    by_rest : (rest : List (List ℕ)) → says_journal ((byte ∷ piece) ∷ rest) ≡ false
    by_rest [] = rw (ne_eqb byte 106 other) refl
    by_rest (next ∷ rest) = refl

pub no_word : (line : List ℕ) → (length line == 0) ≡ true → false ≡ is_journal_line line
unfolding words cut_at
no_word [] none = refl
no_word (byte ∷ line) none = absurd (let e = eqb-true (length (byte ∷ line)) 0 none in omega (arith, e))

pub other_word : (line : List ℕ) → (length line == 0) ≡ false → get_or line 0 0 ≢ 106 → get_or line 0 0 ≢ 32 → get_or line 0 0 ≢ 9
    → false ≡ is_journal_line line
unfolding words cut_at
other_word [] some letter space tab = absurd (cc)
other_word (byte ∷ line) some letter space tab =
    let inked : is_blank byte ≡ false = rw (ne_eqb byte 32 space, ne_eqb byte 9 tab) refl in
    rw inked (sym (first_other byte (cut_at is_blank line) letter))
