-- How many locks and asks a client has in a set, after rules changed them.
use Rattle.std.proofs.Common.{◌≡◌, ◌≢◌, ℕ, suc, ◌+◌, ◌-◌, ◌<◌, ◌≤◌, List, [], ◌∷◌, ◌++◌, length, Option, Some, None, Bool, true, false, refl, sym, ap, arith, set as set_at, take as take_first, drop as drop_front, ◌∙◌, ◌==◌, not, if◌then◌else◌, Contains, All, AllPairs, filter, position, remove, sum_by, count_by, slice_index_or, eq-eqb, eqb-true}
use Rattle.std.proofs.lemmas.Bool.{and_parts, and_from, false≢true}
use Rattle.std.proofs.lemmas.List.{get_or_default}
use Rattle.std.proofs.lemmas.List.Elements.{All-push, All-set, All-append, All-take, All-drop, All-filter}
use Rattle.std.proofs.lemmas.List.Quantifiers.{position-Some}
use Rattle.std.proofs.lemmas.List.Sums.{sum_by-cons, sum_by_push, sum_by-set, sum_by-remove}
use Rattle.lt_modes.specs.declared.mode.Mode.{Mode}
use Rattle.lt_modes.specs.declared.ask.Ask.{Ask}
use Rattle.lt_modes.specs.declared.parts.Row.{Row}
use Rattle.lt_modes.specs.Modes.{same_mode, is_row_of, is_of, no_row, row_place, one_more, one_less, add_at, add_lock, take_at, take_lock, without_client, locks_of}
use Rattle.lt_modes.specs.State.{has_stamp, without, without_at}
use Rattle.lt_law_accounts.proofs.Asks.{has_stamp-true}
use Rattle.lt_law_accounts.proofs.AccountFacts.{same_by_stamp}
use Rattle.lt_law_accounts.proofs.RowTotals.{row_count, total}
use Rattle.lt_lists.proofs.Sums.{none_found}

-- each row holds some lock
abbrev pub SomeEach : List Row → Type 0
SomeEach rows = All (λ (row : Row). 1 ≤ row.count) rows

pub each_some : (rows : List Row) → SomeEach rows → (k : ℕ) → k < length rows → 1 ≤ (slice_index_or rows k no_row).count
each_some rows h k within = h k no_row within

pub some_added : (rows : List Row) (client : ℕ) (mode : Mode) → SomeEach rows → SomeEach (add_lock rows client mode)
some_added rows client mode h = by_place (row_place rows client mode) refl
  where
    by_place : (o : Option ℕ) → row_place rows client mode ≡ o → SomeEach (add_at rows client mode o)
    by_place None e = All-push (λ (row : Row). 1 ≤ row.count) rows (record { client = client; mode = mode; count = 1 }) h (omega arith)
    by_place (Some k) e = All-set (λ (row : Row). 1 ≤ row.count) rows k (one_more (slice_index_or rows k no_row)) (omega arith) h

pub some_taken : (rows : List Row) (client : ℕ) (mode : Mode) → SomeEach rows → SomeEach (take_lock rows client mode)
some_taken rows client mode h = by_place (row_place rows client mode) refl
  where
    by_count : (k : ℕ) → k < length rows → (last : Bool) → ((slice_index_or rows k no_row).count == 1) ≡ last
        → SomeEach (if last then remove rows k else set_at rows k (one_less (slice_index_or rows k no_row)))
    by_count k within true e =
        All-append (λ (row : Row). 1 ≤ row.count) (take_first k rows) (drop_front (suc k) rows) (All-take (λ (row : Row). 1 ≤ row.count) k rows h)
        (All-drop (λ (row : Row). 1 ≤ row.count) (suc k) rows h)
    by_count k within false e =
        All-set (λ (row : Row). 1 ≤ row.count) rows k (one_less (slice_index_or rows k no_row)) (grind (arith, h k no_row within, e)) h

    by_place : (o : Option ℕ) → row_place rows client mode ≡ o → SomeEach (take_at rows o)
    by_place None e = h
    by_place (Some k) e = by_count k (position-Some (is_row_of client mode) rows k no_row e).0 ((slice_index_or rows k no_row).count == 1) refl

pub some_dropped : (rows : List Row) (client : ℕ) → SomeEach rows → SomeEach (without_client rows client)
some_dropped rows client h = All-filter (λ row. not (is_of client row)) (λ (row : Row). 1 ≤ row.count) rows h

-- the locks of a client
abbrev own_count : ℕ → Row → ℕ
own_count client row = if is_of client row then row.count else 0

locks_sum : (rows : List Row) (client : ℕ) → locks_of rows client ≡ sum_by (own_count client) rows
locks_sum [] client = refl
locks_sum (row ∷ rest) client = by_test (is_of client row) refl (locks_sum rest client)
  where
    by_test : (own : Bool) → is_of client row ≡ own → locks_of rest client ≡ sum_by (own_count client) rest
        → sum_by (λ (r : Row). r.count) (if own then row ∷ filter (is_of client) rest else filter (is_of client) rest) ≡ sum_by (own_count client) (row ∷ rest)
    by_test true e again =
        let here : own_count client row ≡ row.count = ap (λ (b : Bool). if b then row.count else 0) e in
        omega (arith, again, here, sum_by-cons (λ (r : Row). r.count) row (filter (is_of client) rest), sum_by-cons (own_count client) row rest)
    by_test false e again =
        let none : own_count client row ≡ 0 = ap (λ (b : Bool). if b then row.count else 0) e in
        omega (arith, again, none, sum_by-cons (own_count client) row rest)

row_client : (client : ℕ) (mode : Mode) (row : Row) (c : ℕ) → is_row_of client mode row ≡ true → is_of c row ≡ (client == c)
row_client client mode row c e = ap (λ (x : ℕ). x == c) (eqb-true row.client client (and_parts (row.client == client) (same_mode row.mode mode) e).0)

pub locks_added : (rows : List Row) (client c : ℕ) (mode : Mode) → locks_of (add_lock rows client mode) c ≡ locks_of rows c + (if client == c then 1 else 0)
locks_added rows client c mode = by_place (row_place rows client mode) refl
  where
    by_place : (o : Option ℕ) → row_place rows client mode ≡ o → locks_of (add_at rows client mode o) c ≡ locks_of rows c + (if client == c then 1 else 0)
    by_place None e =
        let fresh : Row = record { client = client; mode = mode; count = 1 } in
        locks_sum (rows ++ fresh ∷ []) c ∙ sum_by_push (own_count c) rows fresh ∙ ap (λ (n : ℕ). n + (if client == c then 1 else 0)) (sym (locks_sum rows c))
    by_place (Some k) e =
        let found = position-Some (is_row_of client mode) rows k no_row e in
        let old : Row = slice_index_or rows k no_row in
        let changed = sum_by-set (own_count c) rows k (one_more old) no_row found.0 in
        by_key (client == c) (locks_of (set_at rows k (one_more old)) c) (locks_of rows c) (own_count c old) (own_count c (one_more old)) old.count
        (omega (arith, changed, locks_sum (set_at rows k (one_more old)) c, locks_sum rows c))
        (ap (λ (b : Bool). if b then old.count else 0) (row_client client mode old c found.1))
        (ap (λ (b : Bool). if b then old.count + 1 else 0) (row_client client mode old c found.1))
      where
        by_key : (key : Bool) (now was b a n : ℕ) → now + b ≡ was + a → b ≡ (if key then n else 0) → a ≡ (if key then n + 1 else 0) → now ≡ was + (if key then 1 else 0)
        by_key true now was b a n h hb ha = omega (arith, h, hb, ha)
        by_key false now was b a n h hb ha = omega (arith, h, hb, ha)

-- a lock that is held goes
pub locks_taken : (rows : List Row) (client c : ℕ) (mode : Mode) → SomeEach rows → 1 ≤ total rows client mode
    → locks_of (take_lock rows client mode) c + (if client == c then 1 else 0) ≡ locks_of rows c
locks_taken rows client c mode some holds = by_place (row_place rows client mode) refl
  where
    nothing : (xs : List Row) → ((i : ℕ) (d : Row) → i < length xs → is_row_of client mode (slice_index_or xs i d) ≡ false) → total xs client mode ≡ 0
    nothing [] none = refl
    nothing (x ∷ rest) none =
        let here : row_count client mode x ≡ 0 = ap (λ (b : Bool). if b then x.count else 0) (none 0 x (omega arith)) in
        omega (arith, here, sum_by-cons (row_count client mode) x rest, nothing rest (λ i d within. none (suc i) d (omega (arith, within))))

    by_place : (o : Option ℕ) → row_place rows client mode ≡ o → locks_of (take_at rows o) c + (if client == c then 1 else 0) ≡ locks_of rows c
    by_place None e = absurd (omega (arith, holds, nothing rows (none_found (is_row_of client mode) rows e)))
    by_place (Some k) e = by_count (old.count == 1) refl
      where
        old : Row
        old = slice_index_or rows k no_row

        found : (k < length rows) × (is_row_of client mode (slice_index_or rows k no_row) ≡ true)
        found = let f = position-Some (is_row_of client mode) rows k no_row e in (f.0, f.1)

        before : own_count c old ≡ (if client == c then old.count else 0)
        before = ap (λ (b : Bool). if b then old.count else 0) (row_client client mode old c found.1)

        by_key : (key : Bool) (now was b n : ℕ) → now + b ≡ was → b ≡ (if key then n else 0) → n ≡ 1 → now + (if key then 1 else 0) ≡ was
        by_key true now was b n h hb hn = omega (arith, h, hb, hn)
        by_key false now was b n h hb hn = omega (arith, h, hb)

        by_less : (key : Bool) (now was b a n : ℕ) → now + b ≡ was + a → b ≡ (if key then n else 0) → a ≡ (if key then n - 1 else 0) → 1 ≤ n
            → now + (if key then 1 else 0) ≡ was
        by_less true now was b a n h hb ha hn = omega (arith, h, hb, ha, hn)
        by_less false now was b a n h hb ha hn = omega (arith, h, hb, ha)

        by_count : (last : Bool) → (old.count == 1) ≡ last
            → locks_of (if last then remove rows k else set_at rows k (one_less old)) c + (if client == c then 1 else 0) ≡ locks_of rows c
        by_count true f = by_key (client == c) (locks_of (remove rows k) c) (locks_of rows c) (own_count c old) old.count
            (omega (arith, sum_by-remove (own_count c) rows k no_row found.0, locks_sum (remove rows k) c, locks_sum rows c)) before (eqb-true old.count 1 f)
        by_count false f = by_less (client == c) (locks_of (set_at rows k (one_less old)) c) (locks_of rows c) (own_count c old) (own_count c (one_less old)) old.count
            (omega (arith, sum_by-set (own_count c) rows k (one_less old) no_row found.0, locks_sum (set_at rows k (one_less old)) c, locks_sum rows c)) before
            (ap (λ (b : Bool). if b then old.count - 1 else 0) (row_client client mode old c found.1)) (some k no_row found.0)

-- a lock less is no more
pub locks_fewer : (rows : List Row) (client c : ℕ) (mode : Mode) → locks_of (take_lock rows client mode) c ≤ locks_of rows c
locks_fewer rows client c mode = by_place (row_place rows client mode) refl
  where
    by_place : (o : Option ℕ) → row_place rows client mode ≡ o → locks_of (take_at rows o) c ≤ locks_of rows c
    by_place None e = omega arith
    by_place (Some k) e =
        let found = position-Some (is_row_of client mode) rows k no_row e in
        by_count k found.0 ((slice_index_or rows k no_row).count == 1)
      where
        fewer : (k : ℕ) → own_count c (one_less (slice_index_or rows k no_row)) ≤ own_count c (slice_index_or rows k no_row)
        fewer k = by_test (is_of c (slice_index_or rows k no_row))
          where
            by_test : (own : Bool) → (if own then (slice_index_or rows k no_row).count - 1 else 0) ≤ (if own then (slice_index_or rows k no_row).count else 0)
            by_test true = omega arith
            by_test false = omega arith

        by_count : (k : ℕ) → k < length rows → (last : Bool)
            → locks_of (if last then remove rows k else set_at rows k (one_less (slice_index_or rows k no_row))) c ≤ locks_of rows c
        by_count k within true = omega (arith, sum_by-remove (own_count c) rows k no_row within, locks_sum (remove rows k) c, locks_sum rows c)
        by_count k within false =
            omega (
              arith,
              sum_by-set (own_count c) rows k (one_less (slice_index_or rows k no_row)) no_row within,
              locks_sum
                  (set_at rows k (one_less (slice_index_or rows k no_row))) c,
              locks_sum rows c,
              fewer k,
            )

pub locks_dropped : (rows : List Row) (client c : ℕ) → locks_of (without_client rows client) c ≤ locks_of rows c
locks_dropped [] client c = omega arith
locks_dropped (row ∷ rest) client c = by_test (is_of client row) (locks_dropped rest client c)
  where
    by_test : (own : Bool) → locks_of (without_client rest client) c ≤ locks_of rest c
        → locks_of (if not own then row ∷ without_client rest client else without_client rest client) c ≤ locks_of (row ∷ rest) c
    by_test true again = omega (arith, again, locks_sum (row ∷ rest) c, locks_sum rest c, sum_by-cons (own_count c) row rest)
    by_test false again =
        omega (
          arith,
          again,
          locks_sum (row ∷ without_client rest client) c,
          locks_sum (without_client rest client) c,
          sum_by-cons (own_count c) row
              (without_client rest client),
          locks_sum (row ∷ rest) c,
          locks_sum rest c,
          sum_by-cons (own_count c) row rest,
        )

-- an ask that is answered leaves the counts
pub asks_without : (test : Ask → Bool) (asks : List Ask) (a : Ask) → AllPairs (λ (x y : Ask). x.stamp ≢ y.stamp) asks → Contains asks a
    → count_by test (without asks a.stamp) + (if test a then 1 else 0) ≡ count_by test asks
asks_without test asks a apart there = by_place (position (has_stamp a.stamp) asks) refl
  where
    f : Ask → ℕ
    f x = if test x then 1 else 0

    by_place : (o : Option ℕ) → position (has_stamp a.stamp) asks ≡ o → count_by test (without_at asks o) + f a ≡ count_by test asks
    by_place None e = absurd (false≢true (sym (none_found (has_stamp a.stamp) asks e there.0 a there.1) ∙ ap (has_stamp a.stamp) there.2 ∙ own))
      where
        own : has_stamp a.stamp a ≡ true
        own = and_from _ _ (eq-eqb a.stamp.clock a.stamp.clock refl) (eq-eqb a.stamp.node a.stamp.node refl)
    by_place (Some k) e =
        let found = position-Some (has_stamp a.stamp) asks k a e in
        let same : slice_index_or asks k a ≡ a =
        same_by_stamp asks (slice_index_or asks k a) a apart (k, found.0, get_or_default asks k (slice_index_or asks k a) a found.0) there
        (has_stamp-true a.stamp (slice_index_or asks k a) found.1) in
        omega (arith, sum_by-remove f asks k a found.0, ap f same)

pub asks_pushed : (test : Ask → Bool) (asks : List Ask) (a : Ask) → count_by test (asks ++ a ∷ []) ≡ count_by test asks + (if test a then 1 else 0)
asks_pushed test asks a = sum_by_push (λ (x : Ask). if test x then 1 else 0) asks a
