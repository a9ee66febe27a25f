-- Where lines tell what is held, an ask that is barred is barred by the lines.
use Rattle.std.proofs.Common.{◌≡◌, ℕ, ◌<◌, ◌≤◌, List, length, Option, Some, None, true, refl, sym, ap, subst, arith, ◌∙◌, ◌≢◌, suc, ◌+◌, inl, inr, [], ◌∷◌, ◌++◌, Bool, false, set as set_at, ◌==◌, ◌&&◌, Contains, All, IsTrue, ◌⊎◌, not, if◌then◌else◌, AllPairs, count_by, remove, filter, slice_index_or, eq-eqb, eqb-true}
use Rattle.std.proofs.lemmas.Bool.{and_parts, and_from, false≢true, cases_eq}
use Rattle.std.proofs.lemmas.List.{length-map}
use Rattle.std.proofs.lemmas.List.Elements.{All-contains}
use Rattle.std.proofs.lemmas.List.Quantifiers.{position-Some}
use Rattle.std.proofs.lemmas.List.Sums.{sum_by-cons, sum_by_push, sum_by-set, sum_by-remove}
use Rattle.lt_modes.specs.declared.mode.Mode.{Mode}
use Rattle.lt_modes.specs.declared.parts.Row.{Row}
use Rattle.lt_modes.specs.Modes.{conflicts, same_mode, is_row_of, no_row, row_place, count_at, count_of, is_of, one_more, one_less, add_at, add_lock, take_at, take_lock, without_client}
use Rattle.lt_modes.specs.Script.{ClientData}
use Rattle.lt_modes.specs.Sound.{SoundRow}
use Rattle.lt_modes.proofs.ModeAlgebra.{has-itself, same_mode-true}
use Rattle.lt_modes.specs.Fits.{numbers_of}
use Rattle.lt_modes.specs.Serving.{give_up}
use Rattle.lt_lists.proofs.Sums.{none_found, counted_in, counted_twice, sum_by-zero}
use Rattle.lt_spec.specs.NodeMove.{home}
use Rattle.lt_spec.specs.Holdings.{Holding, holding, holdings, same_holding}
use Rattle.lt_spec.specs.Facts.{state_at}
use Rattle.lt_model.proofs.HomesSound.{home_among}
use Rattle.lt_law_invariant.specs.InvariantLaws.{BarredByLines}

-- the locks of a row are counted
row_counted : (rows : List Row) (row : Row) → All (λ (r : Row). 1 ≤ r.count) rows → Contains rows row → 1 ≤ count_of rows row.client row.mode
row_counted rows row some there = by_place (row_place rows row.client row.mode) refl
  where
    own : is_row_of row.client row.mode row ≡ true
    own = and_from _ _ (eq-eqb row.client row.client refl) (has-itself row.mode)

    by_place : (o : Option ℕ) → row_place rows row.client row.mode ≡ o → 1 ≤ count_at rows o
    by_place None e = absurd (false≢true (sym (none_found (is_row_of row.client row.mode) rows e there.0 row there.1) ∙ ap (is_row_of row.client row.mode) there.2 ∙ own))
    by_place (Some k) e = some k no_row (position-Some (is_row_of row.client row.mode) rows k no_row e).0

pub barred_by_lines : BarredByLines
barred_by_lines script lines w s ask h told below barred = record {
  lock = found.0;
  held = found.1;
  set = sym (eqb-true s found.0.set more.0);
  other = λ same. barred.other (eqb-true row.client found.0.client parts.0 ∙ same);
  conflict = subst (λ (m : Mode). IsTrue (conflicts ask.mode m)) (same_mode-true row.mode found.0.mode more.1) barred.conflict;
}
  where
    row : Row
    row = barred.row

    own : SoundRow (numbers_of script) barred.node row
    own = All-contains (SoundRow (numbers_of script) barred.node) (state_at w s barred.node).held row (h.states barred.node barred.within).rows barred.held

    known : row.client < length script.clients
    known = omega (arith, own.client, length-map script.clients (λ (client : ClientData). client.node))

    at_home : home script row.client ≡ barred.node
    at_home = sym (home_among script.clients row.client known) ∙ own.home

    counted : 1 ≤ count_of (state_at w s (home script row.client)).held row.client row.mode
    counted = subst (λ (y : ℕ). 1 ≤ count_of (state_at w s y).held row.client row.mode) (sym at_home)
        (row_counted (state_at w s barred.node).held row (λ k d within. ((h.states barred.node barred.within).rows k d within).count) barred.held)

    found : (lock : Holding) × Contains (holdings script lines) lock × (same_holding (holding row.client s row.mode) lock ≡ true)
    found = counted_in (same_holding (holding row.client s row.mode)) (holdings script lines) (omega (arith, counted, told.held row.client s row.mode known below))

    parts : ((row.client == found.0.client) ≡ true) × ((s == found.0.set && same_mode row.mode found.0.mode) ≡ true)
    parts = and_parts (row.client == found.0.client) _ found.2

    more : ((s == found.0.set) ≡ true) × (same_mode row.mode found.0.mode ≡ true)
    more = and_parts (s == found.0.set) _ parts.1

-- Rows that differ in client or mode: each client has a mode in one row at most, and changes of rows keep that.

-- each client has a mode in one row at most
abbrev pub Single : List Row → Type 0
Single rows = (c : ℕ) (m : Mode) → count_by (is_row_of c m) rows ≤ 1

pub single_added : (rows : List Row) (client : ℕ) (mode : Mode) → Single rows → Single (add_lock rows client mode)
single_added rows client mode h c m = by_place (row_place rows client mode) refl
  where
    f : Row → ℕ
    f row = if is_row_of c m row then 1 else 0

    fresh : Row
    fresh = record { client = client; mode = mode; count = 1 }

    own : is_row_of client mode fresh ≡ true
    own = and_from _ _ (eq-eqb client client refl) (has-itself mode)

    by_place : (o : Option ℕ) → row_place rows client mode ≡ o → count_by (is_row_of c m) (add_at rows client mode o) ≤ 1
    by_place None e = by_new (is_row_of c m fresh) refl (sum_by_push f rows fresh)
      where
        by_new : (new : Bool) → is_row_of c m fresh ≡ new → count_by (is_row_of c m) (rows ++ fresh ∷ []) ≡ count_by (is_row_of c m) rows + (if new then 1 else 0)
            → count_by (is_row_of c m) (rows ++ fresh ∷ []) ≤ 1
        by_new false g pushed = omega (arith, pushed, h c m)
        by_new true g pushed =
            let parts = and_parts (client == c) (same_mode mode m) g in
            let nothing = sum_by-zero f rows (λ i d within. ap (λ (b : Bool). if b then 1 else 0)
            (ap (λ (x : ℕ). is_row_of x m (slice_index_or rows i d)) (sym (eqb-true client c parts.0)) ∙ ap
            (λ (y : Mode). is_row_of client y (slice_index_or rows i d)) (sym (same_mode-true mode m parts.1))
            ∙ none_found (is_row_of client mode) rows e i d within)) in
            omega (arith, pushed, nothing)
    by_place (Some k) e =
        let found = position-Some (is_row_of client mode) rows k no_row e in
        omega (arith, h c m, sum_by-set f rows k (one_more (slice_index_or rows k no_row)) no_row found.0)

pub single_taken : (rows : List Row) (client : ℕ) (mode : Mode) → Single rows → Single (take_lock rows client mode)
single_taken rows client mode h c m = by_place (row_place rows client mode) refl
  where
    f : Row → ℕ
    f row = if is_row_of c m row then 1 else 0

    by_count : (k : ℕ) → k < length rows → (last : Bool)
        → count_by (is_row_of c m) (if last then remove rows k else set_at rows k (one_less (slice_index_or rows k no_row))) ≤ 1
    by_count k within true = omega (arith, h c m, sum_by-remove f rows k no_row within)
    by_count k within false = omega (arith, h c m, sum_by-set f rows k (one_less (slice_index_or rows k no_row)) no_row within)

    by_place : (o : Option ℕ) → row_place rows client mode ≡ o → count_by (is_row_of c m) (take_at rows o) ≤ 1
    by_place None e = h c m
    by_place (Some k) e = by_count k (position-Some (is_row_of client mode) rows k no_row e).0 ((slice_index_or rows k no_row).count == 1)

fewer_filtered : (test keep : Row → Bool) (rows : List Row) → count_by test (filter keep rows) ≤ count_by test rows
fewer_filtered test keep [] = omega arith
fewer_filtered test keep (row ∷ rest) = by_test (keep row) (fewer_filtered test keep rest)
  where
    f : Row → ℕ
    f r = if test r then 1 else 0

    by_test : (kept : Bool) → count_by test (filter keep rest) ≤ count_by test rest
        → count_by test (if kept then row ∷ filter keep rest else filter keep rest) ≤ count_by test (row ∷ rest)
    by_test true h = omega (arith, h, sum_by-cons f row (filter keep rest), sum_by-cons f row rest)
    by_test false h = omega (arith, h, sum_by-cons f row rest)

pub single_dropped : (rows : List Row) (client : ℕ) → Single rows → Single (without_client rows client)
single_dropped rows client h c m = omega (arith, h c m, fewer_filtered (is_row_of c m) (λ row. not (is_of client row)) rows)

pub single_answered : (rows : List Row) (client : ℕ) (mode : Mode) (o : Option Mode) → Single rows → Single (add_lock (give_up rows client o) client mode)
single_answered rows client mode None h = single_added rows client mode h
single_answered rows client mode (Some g) h = single_added (take_lock rows client g) client mode (single_taken rows client g h)

-- so rows differ
pub rows_apart : (rows : List Row) → Single rows → AllPairs (λ (a b : Row). (a.client ≢ b.client) ⊎ (a.mode ≢ b.mode)) rows
rows_apart rows h i j d before within = elim (cases_eq a.client b.client) [
  | inr clients ↦ inl clients
  | inl clients ↦ inr (λ modes. two clients modes)
]
  where
    a : Row
    a = slice_index_or rows i d

    b : Row
    b = slice_index_or rows j d

    two : a.client ≡ b.client → a.mode ≡ b.mode → ⊥
    two clients modes =
        let both = counted_twice (is_row_of a.client a.mode) rows i j d (λ e. omega (arith, before, e)) (omega (arith, before, within)) within
        (and_from _ _ (eq-eqb a.client a.client refl) (has-itself a.mode))
        (and_from _ _ (eq-eqb b.client a.client (sym clients)) (ap (λ (z : Mode). same_mode z a.mode) (sym modes) ∙ has-itself a.mode)) in
        omega (arith, both, h a.client a.mode)

-- rows that differ are single
pub single_of : (rows : List Row) → AllPairs (λ (a b : Row). (a.client ≢ b.client) ⊎ (a.mode ≢ b.mode)) rows → Single rows
single_of [] h c m = omega arith
single_of (row ∷ rest) h c m =
    by_test (is_row_of c m row) refl (single_of rest (λ i j d before within. h (suc i) (suc j) d (omega (arith, before)) (omega (arith, within))) c m)
  where
    f : Row → ℕ
    f r = if is_row_of c m r then 1 else 0

    by_test : (own : Bool) → is_row_of c m row ≡ own → count_by (is_row_of c m) rest ≤ 1 → count_by (is_row_of c m) (row ∷ rest) ≤ 1
    by_test false e few = omega (arith, few, sum_by-cons f row rest, ap {B = ℕ} (λ (b : Bool). if b then 1 else 0) e)
    by_test true e few =
        let none = sum_by-zero f rest (λ i d within. other (slice_index_or rest i d) (h 0 (suc i) d (omega arith) (omega (arith, within)))) in
        omega (arith, sum_by-cons f row rest, ap {B = ℕ} (λ (b : Bool). if b then 1 else 0) e, none)
      where
        other : (b : Row) → (row.client ≢ b.client) ⊎ (row.mode ≢ b.mode) → f b ≡ 0
        other b differ = by_own (is_row_of c m b) refl
          where
            by_own : (t : Bool) → is_row_of c m b ≡ t → ◌≡◌ {A = ℕ} (if t then 1 else 0) 0
            by_own false g = refl
            by_own true g =
                let first = and_parts (row.client == c) (same_mode row.mode m) e in
                let second = and_parts (b.client == c) (same_mode b.mode m) g in
                absurd (elim differ [
                  | inl clients ↦ clients (eqb-true row.client c first.0 ∙ sym (eqb-true b.client c second.0))
                  | inr modes ↦ modes (same_mode-true row.mode m first.1 ∙ sym (same_mode-true b.mode m second.1))
                ])
