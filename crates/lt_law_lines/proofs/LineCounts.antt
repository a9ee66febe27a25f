-- How many locks of each kind lines count, line by line.
use Rattle.std.proofs.Common.{◌≡◌, ℕ, ◌+◌, ◌-◌, ◌<◌, List, [], ◌∷◌, ◌++◌, length, Option, Some, None, Bool, true, false, refl, sym, ap, arith, ◌∙◌, ◌==◌, not, if◌then◌else◌, filter, fold, position, remove, sum_by, slice_index_or, eq-eqb, eqb-true}
use Rattle.std.proofs.lemmas.Bool.{and_parts, and_from, false≢true}
use Rattle.std.proofs.lemmas.List.Quantifiers.{position-Some}
use Rattle.std.proofs.lemmas.List.Sums.{sum_by-cons, sum_by_push, sum_by-remove}
use Rattle.lt_modes.specs.declared.event.Event.{Event}
use Rattle.lt_modes.specs.declared.event.Event.TheVariants.{Grant, Wait, Try, Unlock, NotHeld, Change, DropAll, Busy, Copy, Freeze, Token, Withdraw, Withdrawn, Void, Withheld}
use Rattle.lt_modes.specs.Script.{ScriptData}
use Rattle.lt_modes.proofs.ModeAlgebra.{has-itself, same_mode-true}
use Rattle.lt_spec.specs.Holdings.{Holding, holding, same_holding, without_holding, without_one, is_dropped, after_line, times_held}
use Rattle.lt_lists.proofs.Sums.{none_found, sum_by-zero}

-- a count of one lock after one line more
abbrev pub count_after : ScriptData → Holding → ℕ → Event → ℕ
count_after script k n (Grant client set mode) = if same_holding k (holding client set mode) then n + 1 else n
count_after script k n (Try client set mode got) = if got then (if same_holding k (holding client set mode) then n + 1 else n) else n
count_after script k n (Unlock client set mode) = if same_holding k (holding client set mode) then n - 1 else n
count_after script k n (Change client set gives_up mode) =
    if same_holding k (holding client set mode) then (if same_holding k (holding client set gives_up) then n - 1 else n) + 1 else (if same_holding k (holding client set gives_up) then n - 1 else n)
count_after script k n (DropAll client other set count) = if is_dropped script other set k then 0 else n
count_after script k n (Wait client set mode) = n
count_after script k n (NotHeld client set mode) = n
count_after script k n (Busy client other set) = n
count_after script k n (Withdraw client other set got) = n
count_after script k n (Withdrawn client set mode) = n
count_after script k n (Void client set mode) = n
count_after script k n (Withheld client set mode) = n
count_after script k n (Copy set to client mode) = n
count_after script k n (Freeze set to number modes) = n
count_after script k n (Token set to epoch) = n

pub same_holding-true : (a b : Holding) → same_holding a b ≡ true → a ≡ b
same_holding-true a b e =
    let first = and_parts (a.client == b.client) _ e in
    let second = and_parts (a.set == b.set) _ first.1 in
    let clients = eqb-true a.client b.client first.0 in
    let sets = eqb-true a.set b.set second.0 in
    let modes = same_mode-true a.mode b.mode second.1 in
    λ i. record { client = clients i; set = sets i; mode = modes i }

pub same_holding-itself : (a : Holding) → same_holding a a ≡ true
same_holding-itself a = and_from _ _ (eq-eqb a.client a.client refl) (and_from _ _ (eq-eqb a.set a.set refl) (has-itself a.mode))

added_one : (k lock : Holding) (held : List Holding) → times_held (held ++ lock ∷ []) k ≡ (if same_holding k lock then times_held held k + 1 else times_held held k)
added_one k lock held = sum_by_push (λ (x : Holding). if same_holding k x then 1 else 0) held lock ∙ by_test (same_holding k lock)
  where
    by_test : (same : Bool) → times_held held k + (if same then 1 else 0) ≡ (if same then times_held held k + 1 else times_held held k)
    by_test true = refl
    by_test false = omega arith

taken_one : (k lock : Holding) (held : List Holding) → times_held (without_one held lock) k ≡ (if same_holding k lock then times_held held k - 1 else times_held held k)
taken_one k lock held = by_place (position (same_holding lock) held) refl
  where
    f : Holding → ℕ
    f x = if same_holding k x then 1 else 0

    by_test : (same : Bool) → same_holding k lock ≡ same → ((i : ℕ) (d : Holding) → i < length held → same_holding lock (slice_index_or held i d) ≡ false)
        → times_held held k ≡ (if same then times_held held k - 1 else times_held held k)
    by_test false e none = refl
    by_test true e none =
        let nothing = sum_by-zero f held (λ i d within. ap (λ (x : Holding). if same_holding x (slice_index_or held i d) then 1 else 0) (same_holding-true k lock e)
        ∙ ap (λ (b : Bool). if b then 1 else 0) (none i d within)) in
        omega (arith, nothing)

    by_place : (o : Option ℕ) → position (same_holding lock) held ≡ o → times_held (without_holding held o) k ≡ (if same_holding k lock then times_held held k - 1 else times_held held k)
    by_place None e = by_test (same_holding k lock) refl (none_found (same_holding lock) held e)
    by_place (Some i) e =
        let found = position-Some (same_holding lock) held i lock e in
        let is : lock ≡ slice_index_or held i lock = same_holding-true lock (slice_index_or held i lock) found.1 in
        let gone = sum_by-remove f held i lock found.0 in
        by_same (same_holding k lock) refl (omega (arith, gone, ap f (sym is)))
      where
        by_same : (same : Bool) → same_holding k lock ≡ same → times_held (remove held i) k + f lock ≡ times_held held k → times_held (remove held i) k ≡ (if same then times_held held k - 1 else times_held held k)
        by_same true g h = let one : f lock ≡ 1 = ap (λ (b : Bool). if b then 1 else 0) g in omega (arith, h, one)
        by_same false g h = let none : f lock ≡ 0 = ap (λ (b : Bool). if b then 1 else 0) g in omega (arith, h, none)

dropped_all : (script : ScriptData) (k : Holding) (other set : ℕ) (held : List Holding)
    → times_held (filter (λ lock. not (is_dropped script other set lock)) held) k ≡ (if is_dropped script other set k then 0 else times_held held k)
dropped_all script k other set [] = by_test (is_dropped script other set k)
  where
    by_test : (drop : Bool) → ◌≡◌ {A = ℕ} 0 (if drop then 0 else 0)
    by_test true = refl
    by_test false = refl
dropped_all script k other set (x ∷ rest) = by_tests (same_holding k x) (is_dropped script other set x) (is_dropped script other set k) refl refl refl (dropped_all script k other set rest)
  where
    f : Holding → ℕ
    f y = if same_holding k y then 1 else 0

    kept : List Holding
    kept = filter (λ lock. not (is_dropped script other set lock)) rest

    by_tests : (same gone own : Bool) → same_holding k x ≡ same → is_dropped script other set x ≡ gone → is_dropped script other set k ≡ own
        → times_held kept k ≡ (if own then 0 else times_held rest k)
        → sum_by f (if not gone then x ∷ kept else kept) ≡ (if own then 0 else sum_by f (x ∷ rest))
    by_tests same true true s g o again = again
    by_tests true true false s g o again = absurd (false≢true (sym o ∙ ap (is_dropped script other set) (same_holding-true k x s) ∙ g))
    by_tests false true false s g o again =
        let none : f x ≡ 0 = ap (λ (b : Bool). if b then 1 else 0) s in omega (arith, again, none, sum_by-cons f x rest)
    by_tests true false true s g o again = absurd (false≢true (sym g ∙ ap (is_dropped script other set) (sym (same_holding-true k x s)) ∙ o))
    by_tests false false true s g o again =
        let none : f x ≡ 0 = ap (λ (b : Bool). if b then 1 else 0) s in omega (arith, again, none, sum_by-cons f x kept)
    by_tests same false false s g o again = omega (arith, again, sum_by-cons f x kept, sum_by-cons f x rest)

-- a line counts as it says
pub line_counts : (script : ScriptData) (k : Holding) (held : List Holding) (line : Event) → times_held (after_line script held line) k ≡ count_after script k (times_held held k) line
line_counts script k held (Grant client set mode) = added_one k (holding client set mode) held
line_counts script k held (Try client set mode got) = by_got got
  where
    by_got : (got : Bool) → times_held (if got then held ++ holding client set mode ∷ [] else held) k
        ≡ (if got then (if same_holding k (holding client set mode) then times_held held k + 1 else times_held held k) else times_held held k)
    by_got true = added_one k (holding client set mode) held
    by_got false = refl
line_counts script k held (Unlock client set mode) = taken_one k (holding client set mode) held
line_counts script k held (Change client set gives_up mode) =
    added_one k (holding client set mode) (without_one held (holding client set gives_up))
    ∙ ap (λ (n : ℕ). if same_holding k (holding client set mode) then n + 1 else n) (taken_one k (holding client set gives_up) held)
line_counts script k held (DropAll client other set count) = dropped_all script k other set held
line_counts script k held (Wait client set mode) = refl
line_counts script k held (NotHeld client set mode) = refl
line_counts script k held (Busy client other set) = refl
line_counts script k held (Withdraw client other set got) = refl
line_counts script k held (Withdrawn client set mode) = refl
line_counts script k held (Void client set mode) = refl
line_counts script k held (Withheld client set mode) = refl
line_counts script k held (Copy set to client mode) = refl
line_counts script k held (Freeze set to number modes) = refl
line_counts script k held (Token set to epoch) = refl

pub lines_count : (script : ScriptData) (k : Holding) (held : List Holding) (lines : List Event) → times_held (fold (after_line script) held lines) k ≡ fold (count_after script k) (times_held held k) lines
lines_count script k held [] = refl
lines_count script k held (line ∷ rest) = lines_count script k (after_line script held line) rest ∙ ap (λ (n : ℕ). fold (count_after script k) n rest) (line_counts script k held line)
