-- How many locks rows count.
use Rattle.std.proofs.Common.{◌≡◌, ℕ, suc, ◌+◌, ◌*◌, ◌<◌, ◌≤◌, inl, inr, List, [], ◌∷◌, length, Option, Some, None, Bool, true, false, refl, sym, ap, arith, ◌∙◌, drop, ◌-◌, ◌++◌, take, ◌==◌, ◌&&◌, nat_lt, if◌then◌else◌, count_by, sum_by, remove, filter, position, slice_index_or, not, slice_set, lt-ltb, eqb-true}
use Rattle.std.specs.List.{position_or_len}
use Rattle.std.proofs.Math.Path.{fun_ext}
use Rattle.std.proofs.lemmas.Bool.{cases_lt, false≢true, and_parts}
use Rattle.std.proofs.lemmas.List.{drop_more}
use Rattle.std.proofs.lemmas.List.Quantifiers.{position-Some}
use Rattle.std.proofs.lemmas.List.Sums.{fails_before_first, sum_by-cons, sum_by-remove, sum_by_push, sum_by-set, get_or-le-sum_by}
use Rattle.std.proofs.lemmas.List.Elements.{All-append, All-take, All-drop, All-set, All-push, All-filter}
use Rattle.lt_modes.specs.declared.mode.Mode.{Mode}
use Rattle.lt_modes.specs.declared.parts.Row.{Row}
use Rattle.lt_modes.specs.Modes.{same_mode, modes_in_order, is_row_of, is_of, no_row, row_place, count_at, count_of, locks_of, one_less, take_at, take_lock, without_client, locks_in}
use Rattle.lt_modes.proofs.ModeAlgebra.{each_mode, same_mode-true}
use Rattle.lt_held.specs.HeldData.{AreRows, most_locks, IsCounted}

-- no item passes where none is found
pub none_found : {X : Type 0} (test : X → Bool) (xs : List X) → position test xs ≡ None → (i : ℕ) (d : X) → i < length xs → test (slice_index_or xs i d) ≡ false
none_found test xs e i d within = by_place (nat_lt (position_or_len test xs) (length xs)) refl e
  where
    by_place : (there : Bool) → nat_lt (position_or_len test xs) (length xs) ≡ there → (if there then Some (position_or_len test xs) else None) ≡ None → test (slice_index_or xs i d) ≡ false
    by_place true f g = cc
    by_place false f g = elim (cases_lt i (position_or_len test xs)) [
      | inl before ↦ fails_before_first test xs i d before
      | inr after ↦ absurd (false≢true (sym f ∙ lt-ltb (position_or_len test xs) (length xs) (omega (arith, after, within))))
    ]

pub sum_by-zero : {X : Type 0} (f : X → ℕ) (xs : List X) → ((i : ℕ) (d : X) → i < length xs → f (slice_index_or xs i d) ≡ 0) → sum_by f xs ≡ 0
sum_by-zero f [] none = refl
sum_by-zero f (x ∷ rest) none = omega (arith, sum_by-cons f x rest, none 0 x (omega arith), sum_by-zero f rest (λ i d within. none (suc i) d (omega (arith, within))))

-- the locks of a row, where it is that of the client and the mode
abbrev pub row_count : ℕ → Mode → Row → ℕ
row_count client mode row = if is_row_of client mode row then row.count else 0

-- the locks in all such rows
abbrev pub total : List Row → ℕ → Mode → ℕ
total rows client mode = sum_by (row_count client mode) rows

total-none : (client : ℕ) (mode : Mode) (rows : List Row) → count_by (is_row_of client mode) rows ≡ 0 → total rows client mode ≡ 0
total-none client mode [] e = refl
total-none client mode (row ∷ rest) e =
    by_test (is_row_of client mode row) (total-none client mode rest) (sum_by-cons (λ (r : Row). if is_row_of client mode r then 1 else 0) row rest) (sum_by-cons (row_count client mode) row rest)
  where
    by_test : (passes : Bool) → (count_by (is_row_of client mode) rest ≡ 0 → total rest client mode ≡ 0)
        → count_by (is_row_of client mode) (row ∷ rest) ≡ (if passes then 1 else 0) + count_by (is_row_of client mode) rest
        → total (row ∷ rest) client mode ≡ (if passes then row.count else 0) + total rest client mode → total (row ∷ rest) client mode ≡ 0
    by_test true none one all = absurd (omega (arith, one, e))
    by_test false none one all = omega (arith, all, none (omega (arith, one, e)))

-- one row has them all
pub total_counted : (rows : List Row) (client : ℕ) (mode : Mode) → AreRows rows → total rows client mode ≤ count_of rows client mode
total_counted rows client mode h = by_place (row_place rows client mode) refl
  where
    f : Row → ℕ
    f = row_count client mode

    one : Row → ℕ
    one row = if is_row_of client mode row then 1 else 0

    by_place : (o : Option ℕ) → row_place rows client mode ≡ o → total rows client mode ≤ count_at rows o
    by_place None e =
        omega (arith, sum_by-zero f rows (λ i d within. ap (λ (b : Bool). if b then (slice_index_or rows i d).count else 0) (none_found (is_row_of client mode) rows e i d within)))
    by_place (Some k) e =
        let found = position-Some (is_row_of client mode) rows k no_row e in
        let row : Row = slice_index_or rows k no_row in
        let own : one row ≡ 1 = ap (λ (b : Bool). if b then 1 else 0) found.1 in
        let all : f row ≡ row.count = ap (λ (b : Bool). if b then row.count else 0) found.1 in
        let left : count_by (is_row_of client mode) (remove rows k) ≡ 0 = omega (arith, sum_by-remove one rows k no_row found.0, own, h.distinct client mode) in
        omega (arith, sum_by-remove f rows k no_row found.0, all, total-none client mode (remove rows k) left)

-- the locks of a row, where it is the client's
abbrev pub client_count : ℕ → Row → ℕ
client_count client row = if row.client == client then row.count else 0

pub locks_of-cons : (client : ℕ) (row : Row) (rest : List Row) → locks_of (row ∷ rest) client ≡ client_count client row + locks_of rest client
locks_of-cons client row rest = by_test (row.client == client)
  where
    kept : List Row
    kept = filter (is_of client) rest

    by_test : (own : Bool) → sum_by (λ (r : Row). r.count) (if own then row ∷ kept else kept) ≡ (if own then row.count else 0) + sum_by (λ (r : Row). r.count) kept
    by_test true = sum_by-cons (λ (r : Row). r.count) row kept
    by_test false = omega arith

-- a number stands once among the modes
of_modes : (own : Bool) (n : ℕ) (mode : Mode) → (if own then n else 0) ≡ sum_by (λ (m : Mode). if own && same_mode mode m then n else 0) modes_in_order
of_modes false n mode = refl
of_modes true n mode =
    each_mode (λ (m : Mode). n ≡ sum_by (λ (k : Mode). if same_mode m k then n else 0) modes_in_order) (omega arith) (omega arith) (omega arith) (omega arith) (omega arith) (omega arith) mode

sum_by-plus : {X : Type 0} (f g : X → ℕ) (xs : List X) → sum_by (λ (x : X). f x + g x) xs ≡ sum_by f xs + sum_by g xs
sum_by-plus f g [] = refl
sum_by-plus f g (x ∷ xs) = omega (arith, sum_by-cons (λ x. f x + g x) x xs, sum_by-cons f x xs, sum_by-cons g x xs, sum_by-plus f g xs)

sum_by-most : {X : Type 0} (f : X → ℕ) (most : ℕ) (xs : List X) → ((x : X) → f x ≤ most) → sum_by f xs ≤ length xs * most
sum_by-most f most [] within = omega arith
sum_by-most f most (x ∷ xs) within = omega (arith, sum_by-cons f x xs, within x, sum_by-most f most xs within)

-- the locks of a client are those of each mode
locks_by_mode : (rows : List Row) (client : ℕ) → locks_of rows client ≡ sum_by (λ (mode : Mode). total rows client mode) modes_in_order
locks_by_mode [] client = refl
locks_by_mode (row ∷ rest) client =
    let each : sum_by (λ (mode : Mode). total (row ∷ rest) client mode) modes_in_order ≡ sum_by (λ (mode : Mode). row_count client mode row + total rest client mode) modes_in_order =
    ap (λ (f : Mode → ℕ). sum_by f modes_in_order) (fun_ext (λ (mode : Mode). sum_by-cons (row_count client mode) row rest)) in
    omega (arith, locks_of-cons client row rest, of_modes (row.client == client) row.count row.mode, locks_by_mode rest client, each, sum_by-plus (λ (mode : Mode). row_count client mode row) (λ (mode : Mode). total rest client mode) modes_in_order)

pub count_bounded : (rows : List Row) (client : ℕ) (mode : Mode) → AreRows rows → count_of rows client mode ≤ most_locks
count_bounded rows client mode h = by_place (row_place rows client mode) refl
  where
    by_place : (o : Option ℕ) → row_place rows client mode ≡ o → count_at rows o ≤ most_locks
    by_place None e = omega arith
    by_place (Some k) e = (h.counted k no_row (position-Some (is_row_of client mode) rows k no_row e).0).within

-- a client has at most one row of each mode
pub few_locks : (rows : List Row) (client : ℕ) → AreRows rows → locks_of rows client ≤ length modes_in_order * most_locks
few_locks rows client h = omega (arith, locks_by_mode rows client, sum_by-most (λ (mode : Mode). total rows client mode) most_locks modes_in_order in_mode)
  where
    in_mode : (mode : Mode) → total rows client mode ≤ most_locks
    in_mode mode = omega (arith, total_counted rows client mode h, count_bounded rows client mode h)

-- the locks in the rows from place k on
pub locks_more : (rows : List Row) (client k : ℕ) (d : Row) → k < length rows
    → locks_of (drop k rows) client ≡ client_count client (slice_index_or rows k d) + locks_of (drop (k + 1) rows) client
locks_more rows client k d within =
    ap (λ (left : List Row). locks_of left client) (drop_more rows k d within) ∙ locks_of-cons client (slice_index_or rows k d) (drop (k + 1) rows)

-- What is done to rows leaves them distinct and their counts in bounds.

-- 1 where the row is that of the client and the mode
abbrev one_if : ℕ → Mode → Row → ℕ
one_if client mode row = if is_row_of client mode row then 1 else 0

-- a row may change its count
pub rows_set : (rows : List Row) (k : ℕ) (d row : Row) → AreRows rows → k < length rows → IsCounted row
    → row.client ≡ (slice_index_or rows k d).client → row.mode ≡ (slice_index_or rows k d).mode → AreRows (slice_set rows k row)
rows_set rows k d row h within counted client mode = record {
  counted = All-set IsCounted rows k row counted h.counted;
  distinct = λ c m.
      let same : one_if c m row ≡ one_if c m (slice_index_or rows k d) = rw (client, mode) refl in
      omega (arith, h.distinct c m, sum_by-set (one_if c m) rows k row d within, same);
}

pub rows_removed : (rows : List Row) (k : ℕ) → AreRows rows → k < length rows → AreRows (remove rows k)
rows_removed rows k h within = record {
  counted = All-append IsCounted (take k rows) (drop (suc k) rows) (All-take IsCounted k rows h.counted) (All-drop IsCounted (suc k) rows h.counted);
  distinct = λ c m. omega (arith, h.distinct c m, sum_by-remove (one_if c m) rows k no_row within);
}

-- a first lock of the client and the mode
pub rows_pushed : (rows : List Row) (client : ℕ) (mode : Mode) → AreRows rows → row_place rows client mode ≡ None → AreRows (rows ++ record { client = client; mode = mode; count = 1 } ∷ [])
rows_pushed rows client mode h none = record {
  counted = All-push IsCounted rows row h.counted (record { some = omega arith; within = omega arith });
  distinct = λ c m. by_test c m (is_row_of c m row) refl (sum_by_push (one_if c m) rows row);
}
  where
    row : Row
    row = record { client = client; mode = mode; count = 1 }

    by_test : (c : ℕ) (m : Mode) (own : Bool) → is_row_of c m row ≡ own → count_by (is_row_of c m) (rows ++ row ∷ []) ≡ count_by (is_row_of c m) rows + (if own then 1 else 0)
        → count_by (is_row_of c m) (rows ++ row ∷ []) ≤ 1
    by_test c m false e pushed = omega (arith, pushed, h.distinct c m)
    by_test c m true e pushed =
        let parts = and_parts (client == c) (same_mode mode m) e in
        let nothing = sum_by-zero (one_if c m) rows (λ i d within. ap (λ (b : Bool). if b then 1 else 0)
        (ap (λ (x : ℕ). is_row_of x m (slice_index_or rows i d)) (sym (eqb-true client c parts.0)) ∙ ap (λ (y : Mode). is_row_of client y (slice_index_or rows i d)) (sym (same_mode-true mode m parts.1))
        ∙ none_found (is_row_of client mode) rows none i d within)) in
        omega (arith, pushed, nothing)

fewer_filtered : (test keep : Row → Bool) (rows : List Row) → count_by test (filter keep rows) ≤ count_by test rows
fewer_filtered test keep [] = omega arith
fewer_filtered test keep (row ∷ rest) = by_test (keep row) (fewer_filtered test keep rest)
  where
    f : Row → ℕ
    f r = if test r then 1 else 0

    by_test : (kept : Bool) → count_by test (filter keep rest) ≤ count_by test rest → count_by test (if kept then row ∷ filter keep rest else filter keep rest) ≤ count_by test (row ∷ rest)
    by_test true h = omega (arith, h, sum_by-cons f row (filter keep rest), sum_by-cons f row rest)
    by_test false h = omega (arith, h, sum_by-cons f row rest)

pub rows_dropped : (rows : List Row) (client : ℕ) → AreRows rows → AreRows (without_client rows client)
rows_dropped rows client h = record {
  counted = All-filter (λ row. not (is_of client row)) IsCounted rows h.counted;
  distinct = λ c m. omega (arith, h.distinct c m, fewer_filtered (is_row_of c m) (λ row. not (is_of client row)) rows);
}

-- the locks of the client and those of the others are all
pub locks_dropped : (rows : List Row) (client : ℕ) → locks_in rows ≡ locks_in (without_client rows client) + locks_of rows client
locks_dropped [] client = refl
locks_dropped (row ∷ rest) client = by_test (is_of client row) (locks_dropped rest client)
  where
    f : Row → ℕ
    f r = r.count

    own : List Row
    own = filter (is_of client) rest

    left : List Row
    left = without_client rest client

    by_test : (is_own : Bool) → sum_by f rest ≡ sum_by f left + sum_by f own
        → sum_by f (row ∷ rest) ≡ sum_by f (if not is_own then row ∷ left else left) + sum_by f (if is_own then row ∷ own else own)
    by_test true h = omega (arith, h, sum_by-cons f row rest, sum_by-cons f row own)
    by_test false h = omega (arith, h, sum_by-cons f row rest, sum_by-cons f row left)

-- one row has the locks that are counted
count_totalled : (rows : List Row) (client : ℕ) (mode : Mode) → count_of rows client mode ≤ total rows client mode
count_totalled rows client mode = by_place (row_place rows client mode) refl
  where
    by_place : (o : Option ℕ) → row_place rows client mode ≡ o → count_at rows o ≤ total rows client mode
    by_place None e = omega arith
    by_place (Some k) e =
        let found = position-Some (is_row_of client mode) rows k no_row e in
        let row : Row = slice_index_or rows k no_row in
        let all : row_count client mode row ≡ row.count = ap (λ (b : Bool). if b then row.count else 0) found.1 in
        omega (arith, all, get_or-le-sum_by (row_count client mode) rows k no_row found.0)

of_client : (rows : List Row) (client : ℕ) (mode : Mode) → total rows client mode ≤ locks_of rows client
of_client [] client mode = omega arith
of_client (row ∷ rest) client mode =
    omega (arith, locks_of-cons client row rest, sum_by-cons (row_count client mode) row rest, of_client rest client mode, by_test (row.client == client) (same_mode row.mode mode))
  where
    by_test : (own same : Bool) → (if own && same then row.count else 0) ≤ (if own then row.count else 0)
    by_test true true = omega arith
    by_test true false = omega arith
    by_test false same = omega arith

pub count_within : (rows : List Row) (client : ℕ) (mode : Mode) → count_of rows client mode ≤ locks_of rows client
count_within rows client mode = omega (arith, count_totalled rows client mode, of_client rows client mode)

pub locks_within : (rows : List Row) (client : ℕ) → locks_of rows client ≤ locks_in rows
locks_within rows client = omega (arith, locks_dropped rows client)

-- a row less makes no count greater
pub count_removed : (rows : List Row) (k client : ℕ) (mode : Mode) → AreRows rows → k < length rows → count_of (remove rows k) client mode ≤ count_of rows client mode
count_removed rows k client mode h within =
    omega (arith, count_totalled (remove rows k) client mode, sum_by-remove (row_count client mode) rows k no_row within, total_counted rows client mode h)

-- nor does a lock less in a row
count_lowered : (rows : List Row) (k client : ℕ) (mode : Mode) → AreRows rows → k < length rows
    → count_of (slice_set rows k (one_less (slice_index_or rows k no_row))) client mode ≤ count_of rows client mode
count_lowered rows k client mode h within =
    let row : Row = slice_index_or rows k no_row in
    omega (arith, count_totalled (slice_set rows k (one_less row)) client mode, sum_by-set (row_count client mode) rows k (one_less row) no_row within, by_test row (is_row_of client mode row), total_counted rows client mode h)
  where
    by_test : (row : Row) (own : Bool) → (if own then row.count - 1 else 0) ≤ (if own then row.count else 0)
    by_test row true = omega arith
    by_test row false = omega arith

pub count_taken : (rows : List Row) (client : ℕ) (mode other : Mode) → AreRows rows → count_of (take_lock rows client mode) client other ≤ count_of rows client other
count_taken rows client mode other h = by_place (row_place rows client mode) refl
  where
    by_count : (k : ℕ) → k < length rows → (last : Bool)
        → count_of (if last then remove rows k else slice_set rows k (one_less (slice_index_or rows k no_row))) client other ≤ count_of rows client other
    by_count k within true = count_removed rows k client other h within
    by_count k within false = count_lowered rows k client other h within

    by_place : (o : Option ℕ) → row_place rows client mode ≡ o → count_of (take_at rows o) client other ≤ count_of rows client other
    by_place None e = omega arith
    by_place (Some k) e = by_count k (position-Some (is_row_of client mode) rows k no_row e).0 ((slice_index_or rows k no_row).count == 1)
