-- Accesses of slots in a row, and how many of them a badge knows.
use Rattle.std.proofs.Common.{◌≡◌, ◌≢◌, ℕ, ◌<◌, ◌≤◌, cond, List, [], ◌∷◌, length, sym, refl, ap, ◌∙◌, subst, inl, inr, ⊎_elim, eq-eqb, ne_eqb, le-ltb, lt-ltb, arith}
use Rattle.lt_pool.specs.declared.view.Access.{Access}
use Rattle.lt_pool.specs.History.{word_left_in, FindsWhatWasLeft, AreByUpTo, KnowsAllBy, longer}

pub left_here : (i : ℕ) (a : Access) (before : List Access) → i ≡ a.slot → word_left_in i (a ∷ before) ≡ a.left
left_here i a before e = ap (λ t. cond t a.left (word_left_in i before)) (eq-eqb i a.slot e)

pub left_else : (i : ℕ) (a : Access) (before : List Access) → i ≢ a.slot → word_left_in i (a ∷ before) ≡ word_left_in i before
left_else i a before ne = ap (λ t. cond t a.left (word_left_in i before)) (ne_eqb i a.slot ne)

-- what is known of a history in which each access found what those before it left
pub found_before : (n : ℕ) (known all : List Access) → KnowsAllBy n known all → FindsWhatWasLeft all
    → FindsWhatWasLeft known
found_before n known [] e f = subst FindsWhatWasLeft (sym e) tt
found_before n known (a ∷ before) k f =
    ⊎_elim (λ e. subst FindsWhatWasLeft (sym e) f) (λ t. found_before n known before t.1 f.1) k

pub by_more : (most more : ℕ) → most ≤ more → (all : List Access) → AreByUpTo most all → AreByUpTo more all
by_more most more le [] by = tt
by_more most more le (a ∷ before) by = let low = by.0 in (omega arith, by_more most more le before by.1)

-- a badge with a greater number made none
pub knows_all : (most n : ℕ) → most < n → (all : List Access) → AreByUpTo most all → KnowsAllBy n [] all
knows_all most n less [] by = refl
knows_all most n less (a ∷ before) by =
    inr ((λ (e : a.by ≡ n). let low = by.0 in absurd (omega arith)), knows_all most n less before by.1)

pub known_length : (n : ℕ) (known all : List Access) → KnowsAllBy n known all → length known ≤ length all
known_length n known [] e = let same : length known ≡ 0 = ap length e in omega arith
known_length n known (a ∷ before) k =
    ⊎_elim
    (λ e. let same : length known ≡ length (a ∷ before) = ap length e in omega arith)
    (λ t. let less = known_length n known before t.1 in omega arith)
    k

first_is_longer : (xs ys : List Access) → length ys ≤ length xs → longer xs ys ≡ xs
first_is_longer xs ys le = ap (λ t. cond t ys xs) (le-ltb (length xs) (length ys) le)

second_is_longer : (xs ys : List Access) → length xs < length ys → longer xs ys ≡ ys
second_is_longer xs ys less = ap (λ t. cond t ys xs) (lt-ltb (length xs) (length ys) less)

-- of two that are known, where the first is all
pub all_by_first : (n : ℕ) (xs ys all : List Access) → KnowsAllBy n ys all → xs ≡ all → longer xs ys ≡ all
all_by_first n xs ys all k e =
    let few = known_length n ys all k in
    let same : length xs ≡ length all = ap length e in
    first_is_longer xs ys (omega arith) ∙ e

-- where the second is all
pub all_by_second : (n : ℕ) (xs ys all : List Access) → KnowsAllBy n xs all → ys ≡ all → longer xs ys ≡ all
all_by_second n xs ys [] e f =
    let none : length xs ≡ 0 = ap length e in
    let nor : length ys ≡ 0 = ap length f in
    first_is_longer xs ys (omega arith) ∙ e
all_by_second n xs ys (a ∷ before) k f =
    let same : length ys ≡ length (a ∷ before) = ap length f in
    ⊎_elim
    (λ e. let also : length xs ≡ length (a ∷ before) = ap length e in first_is_longer xs ys (omega arith) ∙ e)
    (λ t. let few = known_length n xs before t.1 in second_is_longer xs ys (omega arith) ∙ f)
    k

-- the longer one of two lists that are known
pub longer_knows : (n m : ℕ) (xs ys all : List Access) → KnowsAllBy n xs all → KnowsAllBy m ys all
    → KnowsAllBy n (longer xs ys) all
longer_knows n m xs ys [] e f = all_by_second n xs ys [] e f
longer_knows n m xs ys (a ∷ before) k h =
    ⊎_elim
    (λ e. inl (all_by_first m xs ys (a ∷ before) h e))
    (λ t. ⊎_elim
    (λ f. inl (all_by_second n xs ys (a ∷ before) (inr t) f))
    (λ u. inr (t.0, longer_knows n m xs ys before t.1 u.1))
    h)
    k

-- a badge that knows all its own accesses knows no fewer than those up to one of its own
own_is_known : (n m : ℕ) (known : List Access) (a : Access) (before all : List Access) → KnowsAllBy n known all
    → KnowsAllBy m (a ∷ before) all → a.by ≡ n → length known ≤ length before → ⊥
own_is_known n m known a before [] k h by few =
    let none : length (a ∷ before) ≡ 0 = ap length h in absurd (omega arith)
own_is_known n m known a before (x ∷ xs) k h by few =
    let long = known_length m (a ∷ before) (x ∷ xs) h in ⊎_elim
    (λ e. let same : length known ≡ length (x ∷ xs) = ap length e in absurd (omega arith))
    (λ t. ⊎_elim
    (λ e. t.0 (sym (ap (by_first a) e) ∙ by))
    (λ u. own_is_known n m known a before xs t.1 u.1 by few)
    h)
    k
  where
    by_first : Access → List Access → ℕ
    by_first other [] = other.by
    by_first other (y ∷ ys) = y.by

-- the same where what is up to that one is known of a history that is known itself
pub own_is_known_later : (n m l : ℕ) (known : List Access) (a : Access) (before later all : List Access)
    → KnowsAllBy n known all → KnowsAllBy m (a ∷ before) later → KnowsAllBy l later all → a.by ≡ n
    → length known ≤ length before → ⊥
own_is_known_later n m l known a before later [] k h g by few =
    let none : length later ≡ 0 = ap length g in
    let long = known_length m (a ∷ before) later h in
    absurd (omega arith)
own_is_known_later n m l known a before later (x ∷ xs) k h g by few =
    ⊎_elim
    (λ e. own_is_known n m known a before (x ∷ xs) k (subst (KnowsAllBy m (a ∷ before)) e h) by few)
    (λ u. ⊎_elim
    (λ e.
    let same : length known ≡ length (x ∷ xs) = ap length e in
    let long = known_length m (a ∷ before) later h in
    let short = known_length l later xs u.1 in
    absurd (omega arith))
    (λ t. own_is_known_later n m l known a before later xs t.1 h u.1 by few)
    k)
    g
