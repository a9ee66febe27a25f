-- Who waits no more after serving, and who waits as before.
use Rattle.std.proofs.Common.{◌≡◌, ◌≢◌, ℕ, zero, suc, ◌+◌, ◌<◌, ◌≤◌, List, [], ◌∷◌, ◌++◌, length, Bool, true, false, refl, sym, ap, subst, arith, ◌∙◌, inl, inr, Option, Some, None, map, ◌==◌, if◌then◌else◌, count_by, ne_eqb, eq-eqb, length-set, get_or-set_same, get_or-set_other}
use Rattle.std.proofs.lemmas.Bool.{cases_eq}
use Rattle.std.proofs.lemmas.List.Edits.{length-remove}
use Rattle.std.proofs.lemmas.List.Sums.{sum_by-cons, sum_by-append, sum_by-remove}
use Rattle.lt_modes.specs.declared.mode.Mode.{Mode}
use Rattle.lt_nest.specs.declared.forest.Transaction.{Transaction}
use Rattle.lt_nest.specs.declared.locks.Ask.{Ask}
use Rattle.lt_nest.specs.declared.tally.Tally.{Tally}
use Rattle.lt_nest.specs.Locks.{LockSet, missing_ask, nth_ask, is_asked_by, Grant, first_free, with_grant, Served, serve_set, grant_in, serve_from}
use Rattle.lt_nest.specs.Calls.{asked_in, wish_or, waiting_from}
use Rattle.lt_nest.specs.Kept.{waiting_asks_of, empty_tally, nth_tally, with_wish, tallies_granted}
use Rattle.lt_nest.proofs.ServedSets.{first_is_free, serve_more, serve_none}
use Rattle.lt_nest.proofs.Wishes.{asked_without, waiting_none}

-- the grant is one to x
abbrev pub is_to : ℕ → Grant → Bool
is_to x grant = grant.0 == x

-- an ask of x either waits or is granted
asks_left_cases : (ts : List Transaction) (s : LockSet) (x : ℕ)
    → ((k : ℕ) → first_free ts s ≡ Some k
    → count_by (is_asked_by x) (serve_set ts (with_grant s k)).grants + count_by (is_asked_by x) (serve_set ts (with_grant s k)).set.queue ≡ count_by (is_asked_by x) (with_grant s k).queue)
    → count_by (is_asked_by x) (serve_set ts s).grants + count_by (is_asked_by x) (serve_set ts s).set.queue ≡ count_by (is_asked_by x) s.queue
asks_left_cases ts s x again = by_first (first_free ts s) refl
  where
    Left : Served → Type 0
    Left v = count_by (is_asked_by x) v.grants + count_by (is_asked_by x) v.set.queue ≡ count_by (is_asked_by x) s.queue

    one : Ask → ℕ
    one a = if is_asked_by x a then 1 else 0

    by_first : (o : Option ℕ) → first_free ts s ≡ o → Left (serve_set ts s)
    by_first None e = subst Left (sym (serve_none ts s e)) (omega arith)
    by_first (Some k) e =
        subst Left (sym (serve_more ts s k e))
        (omega (arith, again k e, sum_by-cons one (nth_ask s.queue k) (serve_set ts (with_grant s k)).grants, sum_by-remove one s.queue k missing_ask (first_is_free ts s k e).0))

asks_left_up_to : (n : ℕ) (ts : List Transaction) (s : LockSet) (x : ℕ) → length s.queue ≤ n
    → count_by (is_asked_by x) (serve_set ts s).grants + count_by (is_asked_by x) (serve_set ts s).set.queue ≡ count_by (is_asked_by x) s.queue
asks_left_up_to zero ts s x h = asks_left_cases ts s x (λ k e. absurd (omega (arith, h, (first_is_free ts s k e).0)))
asks_left_up_to (suc n) ts s x h = asks_left_cases ts s x (λ k e. asks_left_up_to n ts (with_grant s k) x (omega (arith, h, length-remove s.queue k (first_is_free ts s k e).0)))

pub asks_left : (ts : List Transaction) (s : LockSet) (x : ℕ)
    → count_by (is_asked_by x) (serve_set ts s).grants + count_by (is_asked_by x) (serve_set ts s).set.queue ≡ count_by (is_asked_by x) s.queue
asks_left ts s x = asks_left_up_to (length s.queue) ts s x (omega arith)

-- who is granted nothing waits as before
same_cases : (ts : List Transaction) (s : LockSet) (x : ℕ)
    → ((k : ℕ) → first_free ts s ≡ Some k → count_by (is_asked_by x) (serve_set ts (with_grant s k)).grants ≡ 0 → asked_in (serve_set ts (with_grant s k)).set.queue x ≡ asked_in (with_grant s k).queue x)
    → count_by (is_asked_by x) (serve_set ts s).grants ≡ 0 → asked_in (serve_set ts s).set.queue x ≡ asked_in s.queue x
same_cases ts s x again = by_first (first_free ts s) refl
  where
    Stays : Served → Type 0
    Stays v = count_by (is_asked_by x) v.grants ≡ 0 → asked_in v.set.queue x ≡ asked_in s.queue x

    one : Ask → ℕ
    one a = if is_asked_by x a then 1 else 0

    by_owner : (k : ℕ) → first_free ts s ≡ Some k → (own : Bool) → is_asked_by x (nth_ask s.queue k) ≡ own
        → count_by (is_asked_by x) (nth_ask s.queue k ∷ (serve_set ts (with_grant s k)).grants) ≡ 0 → asked_in (serve_set ts (with_grant s k)).set.queue x ≡ asked_in s.queue x
    by_owner k e true f none =
        let here : ◌≡◌ {A = ℕ} (one (nth_ask s.queue k)) 1 = ap (λ (b : Bool). if b then 1 else 0) f in
        absurd (omega (arith, none, here, sum_by-cons one (nth_ask s.queue k) (serve_set ts (with_grant s k)).grants))
    by_owner k e false f none =
        again k e (omega (arith, none, sum_by-cons one (nth_ask s.queue k) (serve_set ts (with_grant s k)).grants))
        ∙ asked_without s.queue k x (first_is_free ts s k e).0 f

    by_first : (o : Option ℕ) → first_free ts s ≡ o → Stays (serve_set ts s)
    by_first None e = subst Stays (sym (serve_none ts s e)) (λ none. refl)
    by_first (Some k) e = subst Stays (sym (serve_more ts s k e)) (λ none. by_owner k e (is_asked_by x (nth_ask s.queue k)) refl none)

same_up_to : (n : ℕ) (ts : List Transaction) (s : LockSet) (x : ℕ) → length s.queue ≤ n
    → count_by (is_asked_by x) (serve_set ts s).grants ≡ 0 → asked_in (serve_set ts s).set.queue x ≡ asked_in s.queue x
same_up_to zero ts s x h = same_cases ts s x (λ k e. absurd (omega (arith, h, (first_is_free ts s k e).0)))
same_up_to (suc n) ts s x h = same_cases ts s x (λ k e. same_up_to n ts (with_grant s k) x (omega (arith, h, length-remove s.queue k (first_is_free ts s k e).0)))

pub same_wish : (ts : List Transaction) (s : LockSet) (x : ℕ) → count_by (is_asked_by x) (serve_set ts s).grants ≡ 0 → asked_in (serve_set ts s).set.queue x ≡ asked_in s.queue x
same_wish ts s x = same_up_to (length s.queue) ts s x (omega arith)

-- grants of one set
to_one : (k x : ℕ) (asks : List Ask) → count_by (is_to x) (map (grant_in k) asks) ≡ count_by (is_asked_by x) asks
to_one k x [] = refl
to_one k x (a ∷ rest) =
    omega (
      arith,
      to_one k x rest,
      sum_by-cons (λ (g : Grant). if is_to x g then 1 else 0) (grant_in k a) (map (grant_in k) rest),
      sum_by-cons (λ (b : Ask). if is_asked_by x b then 1 else 0) a rest,
    )

-- the grants to x of the first of these sets, and of the others
grants_to : (k : ℕ) (ts : List Transaction) (s : LockSet) (rest : List LockSet) (x : ℕ)
    → count_by (is_to x) (serve_from k ts (s ∷ rest)).grants ≡ count_by (is_asked_by x) (serve_set ts s).grants + count_by (is_to x) (serve_from (k + 1) ts rest).grants
grants_to k ts s rest x =
    omega (
      arith,
      to_one k x (serve_set ts s).grants,
      sum_by-append (λ (g : Grant). if is_to x g then 1 else 0) (map (grant_in k) (serve_set ts s).grants) (serve_from (k + 1) ts rest).grants,
    )

all_asks_left : (k : ℕ) (ts : List Transaction) (sets : List LockSet) (x : ℕ)
    → count_by (is_to x) (serve_from k ts sets).grants + waiting_asks_of x (serve_from k ts sets).sets ≡ waiting_asks_of x sets
all_asks_left k ts [] x = refl
all_asks_left k ts (s ∷ rest) x =
    let asks : LockSet → ℕ = λ t. count_by (is_asked_by x) t.queue in
    omega (
      arith,
      grants_to k ts s rest x,
      asks_left ts s x,
      all_asks_left (k + 1) ts rest x,
      sum_by-cons asks (serve_set ts s).set (serve_from (k + 1) ts rest).sets,
      sum_by-cons asks s rest,
    )

pub all_same_wish : (k : ℕ) (ts : List Transaction) (sets : List LockSet) (x : ℕ) → count_by (is_to x) (serve_from k ts sets).grants ≡ 0
    → waiting_from k (serve_from k ts sets).sets x ≡ waiting_from k sets x
all_same_wish k ts [] x none = refl
all_same_wish k ts (s ∷ rest) x none =
    ap (λ (o : Option Mode). wish_or k (waiting_from (k + 1) (serve_from (k + 1) ts rest).sets x) o) (same_wish ts s x (omega (arith, none, grants_to k ts s rest x)))
    ∙ ap (λ (o : Option (ℕ × Mode)). wish_or k o (asked_in s.queue x)) (all_same_wish (k + 1) ts rest x (omega (arith, none, grants_to k ts s rest x)))

-- who is granted its one ask waits for nothing
pub granted_waits : (k : ℕ) (ts : List Transaction) (sets : List LockSet) (x : ℕ) → waiting_asks_of x sets ≤ 1 → 0 < count_by (is_to x) (serve_from k ts sets).grants
    → waiting_from k (serve_from k ts sets).sets x ≡ None
granted_waits k ts sets x one some = waiting_none k (serve_from k ts sets).sets x (omega (arith, one, some, all_asks_left k ts sets x))

-- what is kept

with_wish_at : (tallies : List Tally) (y x : ℕ) (wish : Option (ℕ × Mode)) → y ≢ x → nth_tally (with_wish tallies y wish) x ≡ nth_tally tallies x
with_wish_at tallies y x wish other = get_or-set_other tallies y x (record (nth_tally tallies y) { wish = wish }) empty_tally (λ same. other (sym same))

with_wish_itself : (tallies : List Tally) (x : ℕ) (wish : Option (ℕ × Mode)) → x < length tallies → nth_tally (with_wish tallies x wish) x ≡ record (nth_tally tallies x) { wish = wish }
with_wish_itself tallies x wish within = get_or-set_same tallies x (record (nth_tally tallies x) { wish = wish }) empty_tally within

pub length_with_wish : (tallies : List Tally) (y : ℕ) (wish : Option (ℕ × Mode)) → length (with_wish tallies y wish) ≡ length tallies
length_with_wish tallies y wish = length-set tallies y (record (nth_tally tallies y) { wish = wish })

pub wish_kept : (tallies : List Tally) (y x : ℕ) (wish : Option (ℕ × Mode)) → x < length tallies → (y ≡ x → wish ≡ (nth_tally tallies x).wish)
    → (nth_tally (with_wish tallies y wish) x).wish ≡ (nth_tally tallies x).wish
wish_kept tallies y x wish within same = elim (cases_eq y x) [
  | inl own ↦
      ap (λ (i : ℕ). (nth_tally (with_wish tallies i wish) x).wish) own
      ∙ ap (λ (t : Tally). t.wish) (with_wish_itself tallies x wish within) ∙ same own
  | inr other ↦ ap (λ (t : Tally). t.wish) (with_wish_at tallies y x wish other)
]

pub wish_set : (tallies : List Tally) (x : ℕ) (wish : Option (ℕ × Mode)) → x < length tallies → (nth_tally (with_wish tallies x wish) x).wish ≡ wish
wish_set tallies x wish within = ap (λ (t : Tally). t.wish) (with_wish_itself tallies x wish within)

pub children_kept : (tallies : List Tally) (y x : ℕ) (wish : Option (ℕ × Mode)) → x < length tallies → (nth_tally (with_wish tallies y wish) x).children ≡ (nth_tally tallies x).children
children_kept tallies y x wish within = elim (cases_eq y x) [
  | inl own ↦
      ap (λ (i : ℕ). (nth_tally (with_wish tallies i wish) x).children) own
      ∙ ap (λ (t : Tally). t.children) (with_wish_itself tallies x wish within)
  | inr other ↦ ap (λ (t : Tally). t.children) (with_wish_at tallies y x wish other)
]

pub length_granted : (tallies : List Tally) (grants : List Grant) → length (tallies_granted tallies grants) ≡ length tallies
length_granted tallies [] = refl
length_granted tallies (g ∷ rest) = length_granted (with_wish tallies g.0 None) rest ∙ length_with_wish tallies g.0 None

pub granted_children : (tallies : List Tally) (grants : List Grant) (x : ℕ) → x < length tallies → (nth_tally (tallies_granted tallies grants) x).children ≡ (nth_tally tallies x).children
granted_children tallies [] x within = refl
granted_children tallies (g ∷ rest) x within =
    granted_children (with_wish tallies g.0 None) rest x (omega (arith, within, length_with_wish tallies g.0 None)) ∙ children_kept tallies g.0 x None within

-- a wish that is gone stays so
granted_none : (tallies : List Tally) (grants : List Grant) (x : ℕ) → x < length tallies → (nth_tally tallies x).wish ≡ None → (nth_tally (tallies_granted tallies grants) x).wish ≡ None
granted_none tallies [] x within none = none
granted_none tallies (g ∷ rest) x within none =
    granted_none (with_wish tallies g.0 None) rest x (omega (arith, within, length_with_wish tallies g.0 None)) (wish_kept tallies g.0 x None within (λ own. sym none) ∙ none)

pub granted_same : (tallies : List Tally) (grants : List Grant) (x : ℕ) → x < length tallies → count_by (is_to x) grants ≡ 0 → (nth_tally (tallies_granted tallies grants) x).wish ≡ (nth_tally tallies x).wish
granted_same tallies [] x within none = refl
granted_same tallies (g ∷ rest) x within none =
    granted_same (with_wish tallies g.0 None) rest x (omega (arith, within, length_with_wish tallies g.0 None)) (omega (arith, none, sums))
    ∙ ap (λ (t : Tally). t.wish) (with_wish_at tallies g.0 x None other)
  where
    sums : count_by (is_to x) (g ∷ rest) ≡ (if is_to x g then 1 else 0) + count_by (is_to x) rest
    sums = sum_by-cons (λ (h : Grant). if is_to x h then 1 else 0) g rest

    other : g.0 ≢ x
    other own =
        let here : ◌≡◌ {A = ℕ} (if is_to x g then 1 else 0) 1 = ap (λ (b : Bool). if b then 1 else 0) (eq-eqb g.0 x own) in
        omega (arith, none, sums, here)

pub granted_gone : (tallies : List Tally) (grants : List Grant) (x : ℕ) → x < length tallies → 0 < count_by (is_to x) grants → (nth_tally (tallies_granted tallies grants) x).wish ≡ None
granted_gone tallies [] x within some = absurd (omega (arith, some))
granted_gone tallies (g ∷ rest) x within some = elim (cases_eq g.0 x) [
  | inl own ↦
      granted_none (with_wish tallies g.0 None) rest x longer
      (ap (λ (i : ℕ). (nth_tally (with_wish tallies i None) x).wish) own ∙ wish_set tallies x None within)
  | inr other ↦
      let here : ◌≡◌ {A = ℕ} (if is_to x g then 1 else 0) 0 = ap (λ (b : Bool). if b then 1 else 0) (ne_eqb g.0 x other) in
      granted_gone (with_wish tallies g.0 None) rest x longer (omega (arith, some, sums, here))
]
  where
    longer : x < length (with_wish tallies g.0 None)
    longer = omega (arith, within, length_with_wish tallies g.0 None)

    sums : count_by (is_to x) (g ∷ rest) ≡ (if is_to x g then 1 else 0) + count_by (is_to x) rest
    sums = sum_by-cons (λ (h : Grant). if is_to x h then 1 else 0) g rest

-- grants one after the other
pub granted_append : (tallies : List Tally) (first later : List Grant) → tallies_granted tallies (first ++ later) ≡ tallies_granted (tallies_granted tallies first) later
granted_append tallies [] later = refl
granted_append tallies (g ∷ rest) later = granted_append (with_wish tallies g.0 None) rest later

pub step_tallies : (ts : List Transaction) (set : ℕ) (s : LockSet) (k : ℕ) (tallies : List Tally) → first_free ts s ≡ Some k
    → tallies_granted (with_wish tallies (nth_ask s.queue k).owner None) (map (grant_in set) (serve_set ts (with_grant s k)).grants)
    ≡ tallies_granted tallies (map (grant_in set) (serve_set ts s).grants)
step_tallies ts set s k tallies e = ap (λ (v : Served). tallies_granted tallies (map (grant_in set) v.grants)) (sym (serve_more ts s k e))
