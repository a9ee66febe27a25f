-- How many locks of a client and a mode rows count.
use Rattle.std.proofs.Common.{◌≡◌, ℕ, ◌+◌, ◌-◌, ◌<◌, ◌≤◌, List, [], ◌∷◌, ◌++◌, length, Option, Some, None, Bool, true, false, refl, sym, ap, arith, set as set_at, ◌∙◌, ◌==◌, ◌&&◌, not, if◌then◌else◌, remove, sum_by, slice_index_or, eq-eqb, eqb-true}
use Rattle.std.proofs.lemmas.Bool.{and_parts, and_from, false≢true}
use Rattle.std.proofs.lemmas.List.Quantifiers.{position-Some}
use Rattle.std.proofs.lemmas.List.Sums.{sum_by-cons, sum_by_push, sum_by-set, sum_by-remove}
use Rattle.lt_modes.specs.declared.mode.Mode.{Mode}
use Rattle.lt_modes.specs.declared.parts.Row.{Row}
use Rattle.lt_modes.specs.Modes.{same_mode, is_row_of, no_row, row_place, one_more, one_less, add_at, add_lock, take_at, take_lock, without_client}
use Rattle.lt_modes.proofs.ModeAlgebra.{has-itself, same_mode-true}
use Rattle.lt_lists.proofs.Sums.{none_found, sum_by-zero}

-- the locks of the client and the mode in these rows
abbrev pub row_count : ℕ → Mode → Row → ℕ
row_count client mode row = if is_row_of client mode row then row.count else 0

abbrev pub total : List Row → ℕ → Mode → ℕ
total rows client mode = sum_by (row_count client mode) rows

pub row_matches : (client c : ℕ) (mode m : Mode) (row : Row) → is_row_of client mode row ≡ true → is_row_of c m row ≡ (c == client && same_mode m mode)
row_matches client c mode m row e =
    let parts = and_parts (row.client == client) (same_mode row.mode mode) e in
    let clients = eqb-true row.client client parts.0 in
    let modes = same_mode-true row.mode mode parts.1 in
    ap (λ (x : ℕ). x == c && same_mode row.mode m) clients ∙ ap (λ (y : Mode). client == c && same_mode y m) modes ∙ turned (client == c) (c == client) (same_mode mode m) (same_mode m mode) refl refl refl refl
  where
    both : (a b : Bool) → (a ≡ true → b ≡ true) → (b ≡ true → a ≡ true) → a ≡ b
    both true b there back = sym (there refl)
    both false true there back = back refl
    both false false there back = refl

    turned : (a b x y : Bool) → (client == c) ≡ a → (c == client) ≡ b → same_mode mode m ≡ x → same_mode m mode ≡ y → (a && x) ≡ (b && y)
    turned a b x y ea eb ex ey =
        let first : a ≡ b = both a b (λ h. sym eb ∙ eq-eqb c client (sym (eqb-true client c (ea ∙ h)))) (λ h. sym ea ∙ eq-eqb client c (sym (eqb-true c client (eb ∙ h)))) in
        let second : x ≡ y = both x y (λ h. sym ey ∙ ap (λ (z : Mode). same_mode z mode) (sym (same_mode-true mode m (ex ∙ h))) ∙ has-itself mode)
        (λ h. sym ex ∙ ap (λ (z : Mode). same_mode z m) (sym (same_mode-true m mode (ey ∙ h))) ∙ has-itself m) in
        λ i. first i && second i

-- this client and mode
abbrev pub is_key : ℕ → Mode → ℕ → Mode → Bool
is_key c m client mode = c == client && same_mode m mode

pub total_added : (rows : List Row) (client c : ℕ) (mode m : Mode) → total (add_lock rows client mode) c m ≡ (if is_key c m client mode then total rows c m + 1 else total rows c m)
total_added rows client c mode m = by_place (row_place rows client mode) refl
  where
    fresh : Row
    fresh = record { client = client; mode = mode; count = 1 }

    own_row : is_row_of client mode fresh ≡ true
    own_row = and_from _ _ (eq-eqb client client refl) (has-itself mode)

    by_test : (now more : ℕ) (key : Bool) → now ≡ total rows c m + (if key then more else 0) → more ≡ 1 → now ≡ (if key then total rows c m + 1 else total rows c m)
    by_test now more true h e = omega (arith, h, e)
    by_test now more false h e = omega (arith, h)

    by_place : (o : Option ℕ) → row_place rows client mode ≡ o → total (add_at rows client mode o) c m ≡ (if is_key c m client mode then total rows c m + 1 else total rows c m)
    by_place None e = by_test (total (rows ++ fresh ∷ []) c m) 1 (is_key c m client mode)
        (sum_by_push (row_count c m) rows fresh ∙ ap (λ (b : Bool). total rows c m + (if b then 1 else 0)) (row_matches client c mode m fresh own_row)) refl
    by_place (Some k) e =
        let found = position-Some (is_row_of client mode) rows k no_row e in
        let old : Row = slice_index_or rows k no_row in
        let changed = sum_by-set (row_count c m) rows k (one_more old) no_row found.0 in
        let before : row_count c m old ≡ (if is_key c m client mode then old.count else 0) = ap (λ (b : Bool). if b then old.count else 0) (row_matches client c mode m old found.1) in
        let after : row_count c m (one_more old) ≡ (if is_key c m client mode then old.count + 1 else 0) = ap (λ (b : Bool). if b then old.count + 1 else 0) (row_matches client c mode m old found.1) in
        by_key (is_key c m client mode) (total (set_at rows k (one_more old)) c m) (row_count c m old) (row_count c m (one_more old)) old.count changed before after
      where
        by_key : (key : Bool) (now b a n : ℕ) → now + b ≡ total rows c m + a → b ≡ (if key then n else 0) → a ≡ (if key then n + 1 else 0) → now ≡ (if key then total rows c m + 1 else total rows c m)
        by_key true now b a n h hb ha = omega (arith, h, hb, ha)
        by_key false now b a n h hb ha = omega (arith, h, hb, ha)

pub total_taken : (rows : List Row) (client c : ℕ) (mode m : Mode) → ((k : ℕ) → k < length rows → 1 ≤ (slice_index_or rows k no_row).count)
    → total (take_lock rows client mode) c m ≡ (if is_key c m client mode then total rows c m - 1 else total rows c m)
total_taken rows client c mode m some = by_place (row_place rows client mode) refl
  where
    nothing : row_place rows client mode ≡ None → (key : Bool) → is_key c m client mode ≡ key → total rows c m ≡ (if key then total rows c m - 1 else total rows c m)
    nothing e false f = refl
    nothing e true f =
        let parts = and_parts (c == client) (same_mode m mode) f in
        let zero_here = sum_by-zero (row_count c m) rows (λ i d within. ap (λ (b : Bool). if b then (slice_index_or rows i d).count else 0)
        (ap (λ (x : ℕ). is_row_of x m (slice_index_or rows i d)) (eqb-true c client parts.0) ∙ ap (λ (y : Mode). is_row_of client y (slice_index_or rows i d)) (same_mode-true m mode parts.1)
        ∙ none_found (is_row_of client mode) rows e i d within)) in
        omega (arith, zero_here)

    by_place : (o : Option ℕ) → row_place rows client mode ≡ o → total (take_at rows o) c m ≡ (if is_key c m client mode then total rows c m - 1 else total rows c m)
    by_place None e = nothing e (is_key c m client mode) refl
    by_place (Some k) e = by_count ((slice_index_or rows k no_row).count == 1) refl
      where
        old : Row
        old = slice_index_or rows k no_row

        found : (k < length rows) × (is_row_of client mode (slice_index_or rows k no_row) ≡ true)
        found = let f = position-Some (is_row_of client mode) rows k no_row e in (f.0, f.1)

        before : row_count c m old ≡ (if is_key c m client mode then old.count else 0)
        before = ap (λ (b : Bool). if b then old.count else 0) (row_matches client c mode m old found.1)

        by_key : (key : Bool) (now b n : ℕ) → now + b ≡ total rows c m → b ≡ (if key then n else 0) → n ≡ 1 → now ≡ (if key then total rows c m - 1 else total rows c m)
        by_key true now b n h hb hn = omega (arith, h, hb, hn)
        by_key false now b n h hb hn = omega (arith, h, hb)

        by_less : (key : Bool) (now b a n : ℕ) → now + b ≡ total rows c m + a → b ≡ (if key then n else 0) → a ≡ (if key then n - 1 else 0) → 1 ≤ n → now ≡ (if key then total rows c m - 1 else total rows c m)
        by_less true now b a n h hb ha hn = omega (arith, h, hb, ha, hn)
        by_less false now b a n h hb ha hn = omega (arith, h, hb, ha)

        by_count : (last : Bool) → (old.count == 1) ≡ last → total (if last then remove rows k else set_at rows k (one_less old)) c m ≡ (if is_key c m client mode then total rows c m - 1 else total rows c m)
        by_count true f = by_key (is_key c m client mode) (total (remove rows k) c m) (row_count c m old) old.count (sum_by-remove (row_count c m) rows k no_row found.0) before (eqb-true old.count 1 f)
        by_count false f = by_less (is_key c m client mode) (total (set_at rows k (one_less old)) c m) (row_count c m old) (row_count c m (one_less old)) old.count
            (sum_by-set (row_count c m) rows k (one_less old) no_row found.0) before
            (ap (λ (b : Bool). if b then old.count - 1 else 0) (row_matches client c mode m old found.1)) (some k found.0)

pub total_dropped : (rows : List Row) (other c : ℕ) (m : Mode) → total (without_client rows other) c m ≡ (if c == other then 0 else total rows c m)
total_dropped [] other c m = by_test (c == other)
  where
    by_test : (own : Bool) → ◌≡◌ {A = ℕ} 0 (if own then 0 else 0)
    by_test true = refl
    by_test false = refl
total_dropped (row ∷ rest) other c m = by_tests (row.client == other) (c == other) (is_row_of c m row) refl refl refl (total_dropped rest other c m)
  where
    by_tests : (gone own match : Bool) → (row.client == other) ≡ gone → (c == other) ≡ own → is_row_of c m row ≡ match → total (without_client rest other) c m ≡ (if own then 0 else total rest c m)
        → sum_by (row_count c m) (if not gone then row ∷ without_client rest other else without_client rest other) ≡ (if own then 0 else sum_by (row_count c m) (row ∷ rest))
    by_tests true true match g o e again = again
    by_tests true false true g o e again =
        let client = eqb-true row.client c (and_parts (row.client == c) (same_mode row.mode m) e).0 in
        absurd (false≢true (sym o ∙ eq-eqb c other (sym client ∙ eqb-true row.client other g)))
    by_tests true false false g o e again =
        let none : row_count c m row ≡ 0 = ap (λ (b : Bool). if b then row.count else 0) e in omega (arith, again, none, sum_by-cons (row_count c m) row rest)
    by_tests false true true g o e again =
        let client = eqb-true row.client c (and_parts (row.client == c) (same_mode row.mode m) e).0 in
        absurd (false≢true (sym g ∙ eq-eqb row.client other (client ∙ eqb-true c other o)))
    by_tests false true false g o e again =
        let none : row_count c m row ≡ 0 = ap (λ (b : Bool). if b then row.count else 0) e in omega (arith, again, none, sum_by-cons (row_count c m) row (without_client rest other))
    by_tests false false match g o e again = omega (arith, again, sum_by-cons (row_count c m) row (without_client rest other), sum_by-cons (row_count c m) row rest)
