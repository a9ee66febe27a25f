-- How many of the locks are like one, after one of them is given up, and after those of a client in a family are dropped.
use Rattle.std.proofs.Common.{◌≡◌, subst, ℕ, suc, ◌+◌, ◌-◌, cond, Bool, true, false, List, [], ◌∷◌, ◌++◌, length, Some, None, refl, sym, ap, ◌∙◌, arith, filter, count_by, nat_lt, ◌<◌, position, ◌&&◌, ◌==◌, not, eqb-true}
use Rattle.std.specs.List.{position_or_len}
use Rattle.std.proofs.lemmas.Bool.{and_parts}
use Rattle.std.proofs.lemmas.Bool.Decides.{nat_tests}
use Rattle.std.proofs.lemmas.List.Sums.{sum_by-cons, sum_by_push}
use Rattle.lt_modes.specs.Modes.{same_mode}
use Rattle.lt_modes.specs.Script.{ScriptData}
use Rattle.lt_modes.proofs.ModeAlgebra.{same_mode-true}
use Rattle.lt_modes.specs.declared.mode.Mode.{Mode}
use Rattle.lt_spec.specs.Holdings.{Holding, same_holding, without_one, without_holding, is_dropped, times_held}
use Rattle.lt_tally.specs.LockTable.{mode_place}

pub same_holding-equal : (a b : Holding) → same_holding a b ≡ true → a ≡ b
same_holding-equal a b e =
    let one = and_parts (a.client == b.client) (a.set == b.set && same_mode a.mode b.mode) e in
    let two = and_parts (a.set == b.set) (same_mode a.mode b.mode) one.1 in
    let client : a.client ≡ b.client = eqb-true a.client b.client one.0 in
    let lock_set : a.set ≡ b.set = eqb-true a.set b.set two.0 in
    let mode : a.mode ≡ b.mode = same_mode-true a.mode b.mode two.1 in
    λ i. record { client = client i; set = lock_set i; mode = mode i }

pub same_holding-itself : (a : Holding) → same_holding a a ≡ true
same_holding-itself a = grind arith

-- no lock is like another that isn't like it
same_holding-apart : (a b : Holding) → same_holding a b ≡ false → same_holding b a ≡ false
same_holding-apart a b e = by_test (same_holding b a) refl
  where
    by_test : (same : Bool) → same_holding b a ≡ same → same ≡ false
    by_test false f = refl
    by_test true f =
        let equal = same_holding-equal b a f in
        let yes : same_holding b b ≡ true = subst (λ (x : Holding). same_holding b x ≡ true) (sym equal) f in
        let no : same_holding b b ≡ false = subst (λ (x : Holding). same_holding x b ≡ false) (sym equal) e in
        sym yes ∙ no

-- the locks but for the first that passes the test
without_first : (Holding → Bool) → List Holding → List Holding
without_first test held = without_holding held (position test held)

next_below : (a b : ℕ) → nat_lt (suc a) (suc b) ≡ nat_lt a b
next_below a b = grind (arith, nat_tests)

at_next : (x : Holding) (xs : List Holding) (place : ℕ) → without_holding (x ∷ xs) (cond (nat_lt (1 + place) (suc (length xs))) (Some (1 + place)) None) ≡ x ∷ without_holding xs (cond (nat_lt place (length xs)) (Some place) None)
at_next x xs place =
    let one : 1 + place ≡ suc place = omega arith in
    ap (λ (k : ℕ). without_holding (x ∷ xs) (cond (nat_lt k (suc (length xs))) (Some k) None)) one
    ∙ (ap (λ (b : Bool). without_holding (x ∷ xs) (cond b (Some (suc place)) None)) (next_below place (length xs))
    ∙ by_test (nat_lt place (length xs)))
  where
    by_test : (b : Bool) → without_holding (x ∷ xs) (cond b (Some (suc place)) None) ≡ x ∷ without_holding xs (cond b (Some place) None)
    by_test true = refl
    by_test false = refl

without_first-yes : (test : Holding → Bool) (x : Holding) (xs : List Holding) → test x ≡ true → without_first test (x ∷ xs) ≡ xs
unfolding without_first
without_first-yes test x xs e =
    let some : nat_lt 0 (suc (length xs)) ≡ true = grind (arith, nat_tests) in
    rw e (rw some refl)

without_first-no : (test : Holding → Bool) (x : Holding) (xs : List Holding) → test x ≡ false → without_first test (x ∷ xs) ≡ x ∷ without_first test xs
unfolding without_first
without_first-no test x xs e = rw e (at_next x xs (position_or_len test xs))

count_yes : (test : Holding → Bool) (x : Holding) (xs : List Holding) → test x ≡ true → count_by test (x ∷ xs) ≡ 1 + count_by test xs
count_yes test x xs e = sum_by-cons (λ (y : Holding). cond (test y) 1 0) x xs ∙ ap (λ (b : Bool). cond b 1 0 + count_by test xs) e

count_no : (test : Holding → Bool) (x : Holding) (xs : List Holding) → test x ≡ false → count_by test (x ∷ xs) ≡ count_by test xs
count_no test x xs e = sum_by-cons (λ (y : Holding). cond (test y) 1 0) x xs ∙ (ap (λ (b : Bool). cond b 1 0 + count_by test xs) e ∙ (omega arith))

count_less : (test : Holding → Bool) (held : List Holding) → count_by test (without_first test held) ≡ count_by test held - 1
unfolding without_first
count_less test [] = refl
count_less test (x ∷ xs) = by_test (test x) refl (count_less test xs)
  where
    by_test : (b : Bool) → test x ≡ b → count_by test (without_first test xs) ≡ count_by test xs - 1 → count_by test (without_first test (x ∷ xs)) ≡ count_by test (x ∷ xs) - 1
    by_test true e later =
        let rest = ap (λ (ys : List Holding). count_by test ys) (without_first-yes test x xs e) in
        let here = count_yes test x xs e in
        omega arith
    by_test false e later =
        let rest = ap (λ (ys : List Holding). count_by test ys) (without_first-no test x xs e) in
        let head = count_no test x (without_first test xs) e in
        let here = count_no test x xs e in
        omega arith

count_same : (test other : Holding → Bool) (held : List Holding) → ((x : Holding) → test x ≡ true → other x ≡ false) → count_by other (without_first test held) ≡ count_by other held
unfolding without_first
count_same test other [] apart = refl
count_same test other (x ∷ xs) apart = by_test (test x) refl (count_same test other xs apart)
  where
    by_test : (b : Bool) → test x ≡ b → count_by other (without_first test xs) ≡ count_by other xs → count_by other (without_first test (x ∷ xs)) ≡ count_by other (x ∷ xs)
    by_test true e later =
        ap (λ (ys : List Holding). count_by other ys) (without_first-yes test x xs e)
        ∙ sym (count_no other x xs (apart x e))
    by_test false e later =
        let rest = ap (λ (ys : List Holding). count_by other ys) (without_first-no test x xs e) in
        let head = sum_by-cons (λ (y : Holding). cond (other y) 1 0) x (without_first test xs) in
        let here = sum_by-cons (λ (y : Holding). cond (other y) 1 0) x xs in
        omega arith

-- one such lock less, and as many others as before
pub count_of-without : (lock other : Holding) (held : List Holding) → times_held (without_one held lock) other ≡ cond (same_holding lock other) (times_held held other - 1) (times_held held other)
unfolding without_first
count_of-without lock other held = by_test (same_holding lock other) refl
  where
    by_test : (b : Bool) → same_holding lock other ≡ b → times_held (without_one held lock) other ≡ cond b (times_held held other - 1) (times_held held other)
    by_test true e =
        subst (λ (x : Holding). times_held (without_one held lock) x ≡ times_held held x - 1) (same_holding-equal lock other e)
        (count_less (same_holding lock) held)
    by_test false e =
        count_same (same_holding lock) (same_holding other) held
        (λ x same. ap (λ (y : Holding). same_holding other y) (sym (same_holding-equal lock x same)) ∙ same_holding-apart lock other e)

-- one such lock more, and as many others as before
pub count_of-more : (lock other : Holding) (held : List Holding) → times_held (held ++ lock ∷ []) other ≡ times_held held other + cond (same_holding other lock) 1 0
count_of-more lock other held = sum_by_push (λ (x : Holding). cond (same_holding other x) 1 0) held lock

-- a filter keeps all such locks, or none
count_filtered : (test : Holding → Bool) (other : Holding) (held : List Holding) → times_held (filter test held) other ≡ cond (test other) (times_held held other) 0
count_filtered test other [] = both (test other)
  where
    both : (b : Bool) → ◌≡◌ {A = ℕ} 0 (cond b 0 0)
    both true = refl
    both false = refl
count_filtered test other (x ∷ xs) = by_test (same_holding other x) (test x) refl refl (count_filtered test other xs)
  where
    by_test : (same kept : Bool) → same_holding other x ≡ same → test x ≡ kept → times_held (filter test xs) other ≡ cond (test other) (times_held xs other) 0
        → times_held (cond kept (x ∷ filter test xs) (filter test xs)) other ≡ cond (test other) (times_held (x ∷ xs) other) 0
    by_test true true e f later =
        let kept : test other ≡ true = ap test (same_holding-equal other x e) ∙ f in
        let count : times_held (filter test xs) other ≡ times_held xs other = later ∙ ap (λ (b : Bool). cond b (times_held xs other) 0) kept in
        count_yes (same_holding other) x (filter test xs) e
        ∙ (ap (λ (n : ℕ). 1 + n) count
        ∙ (sym (count_yes (same_holding other) x xs e)
        ∙ sym (ap (λ (b : Bool). cond b (times_held (x ∷ xs) other) 0) kept)))
    by_test true false e f later =
        let kept : test other ≡ false = ap test (same_holding-equal other x e) ∙ f in
        later ∙ (ap (λ (b : Bool). cond b (times_held xs other) 0) kept ∙ sym (ap (λ (b : Bool). cond b (times_held (x ∷ xs) other) 0) kept))
    by_test false true e f later =
        count_no (same_holding other) x (filter test xs) e
        ∙ (later ∙ ap (λ (n : ℕ). cond (test other) n 0) (sym (count_no (same_holding other) x xs e)))
    by_test false false e f later =
        later ∙ ap (λ (n : ℕ). cond (test other) n 0) (sym (count_no (same_holding other) x xs e))

-- all such locks stay, or none
pub count_of-kept : (script : ScriptData) (client lock_set : ℕ) (other : Holding) (held : List Holding)
    → times_held (filter (λ lock. not (is_dropped script client lock_set lock)) held) other ≡ cond (not (is_dropped script client lock_set other)) (times_held held other) 0
count_of-kept script client lock_set other held = count_filtered (λ lock. not (is_dropped script client lock_set lock)) other held

-- What the place of a mode's cell is: below six, and another for each mode.

pub place_of-few : (mode : Mode) → mode_place mode < 6
unfolding mode_place
place_of-few mode = grind arith

pub same_place : (a b : Mode) → mode_place a ≡ mode_place b → a ≡ b
unfolding mode_place
same_place a b e = grind arith
