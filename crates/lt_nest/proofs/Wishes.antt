-- What a call that asks for a lock keeps.
use Rattle.std.proofs.Common.{◌≡◌, ℕ, ◌+◌, ◌<◌, ◌≤◌, inl, inr, List, [], ◌∷◌, ◌++◌, length, Bool, true, false, refl, sym, ap, subst, arith, ◌∙◌, Option, Some, None, take, zero, suc, not, map, ◌⊎◌, ◌==◌, if◌then◌else◌, slice_set, position, is_some, count_by, nat_lt, slice_index_or, remove, filter, eqb-true, eq-eqb, lt-ltb, take_at}
use Rattle.std.proofs.lemmas.Bool.{cases_lt}
use Rattle.std.proofs.lemmas.List.{get_or_append_left, get_or_push, length_push, take-append-le}
use Rattle.std.proofs.lemmas.List.Elements.{All-get_or, All-set, All-push}
use Rattle.std.proofs.lemmas.List.Sums.{sum_by-cons, sum_by-set, sum_by_push}
use Rattle.std.specs.List.{position_or_len}
use Rattle.std.proofs.lemmas.Bool.Decides.{nat_tests}
use Rattle.lt_modes.specs.declared.mode.Mode.{Mode}
use Rattle.lt_lists.proofs.Sums.{none_found, sum_by-zero}
use Rattle.lt_nest.specs.declared.forest.Transaction.{Transaction}
use Rattle.lt_nest.specs.declared.locks.Ask.{Ask}
use Rattle.lt_nest.specs.declared.answers.Asked.{Asked}
use Rattle.lt_nest.specs.declared.answers.Asked.TheVariants.{Waits, False}
use Rattle.lt_nest.specs.Forest.{is_open_transaction}
use Rattle.lt_nest.specs.Locks.{LockSet, no_set, missing_ask, nth_ask, is_free_for, is_asked_by, with_lock}
use Rattle.lt_nest.specs.Calls.{NestState, nth_set, put_set, mode_asked_at, wish_or, waiting_from, waiting, ask_answer_from, ask_answer, one_asked, queued, after_asked, asked_in}
use Rattle.lt_nest.specs.Kept.{IsAsker, LockSetKept, waiting_asks_of, Kept}
use Rattle.lt_nest.proofs.AddedLocks.{locked_sound, still_barred}

-- a transaction that doesn't wait has no ask
pub no_ask_waits : (k : ℕ) (sets : List LockSet) (x : ℕ) → is_some (waiting_from k sets x) ≡ false → waiting_asks_of x sets ≡ 0
no_ask_waits k [] x e = refl
no_ask_waits k (s ∷ rest) x e = by_place (position (is_asked_by x) s.queue) refl e (λ f. no_ask_waits (k + 1) rest x f)
  where
    asks : LockSet → ℕ
    asks t = count_by (is_asked_by x) t.queue

    by_place : (o : Option ℕ) → position (is_asked_by x) s.queue ≡ o → is_some (wish_or k (waiting_from (k + 1) rest x) (mode_asked_at s.queue o)) ≡ false
        → (is_some (waiting_from (k + 1) rest x) ≡ false → waiting_asks_of x rest ≡ 0) → waiting_asks_of x (s ∷ rest) ≡ 0
    by_place None found f again =
        let here : asks s ≡ 0 = sum_by-zero (λ (a : Ask). if is_asked_by x a then 1 else 0) s.queue
        (λ i d within. ap (λ (b : Bool). if b then 1 else 0) (none_found (is_asked_by x) s.queue found i d within)) in
        omega (arith, sum_by-cons asks s rest, here, again f)
    by_place (Some j) found f again = absurd (cc f)

one_asked_kept : (st : NestState) → Kept st → Kept (one_asked st)
one_asked_kept st kept = record { transactions = kept.transactions; sets = kept.sets; one_ask = kept.one_ask }

put_kept : (st : NestState) (set : ℕ) (s : LockSet) → Kept st → LockSetKept st.transactions s → ((y : ℕ) → waiting_asks_of y (slice_set st.sets set s) ≤ 1) → Kept (put_set (one_asked st) set s)
put_kept st set s kept new asks = record {
  transactions = kept.transactions;
  sets = All-set (LockSetKept st.transactions) st.sets set s new kept.sets;
  one_ask = asks;
}

locked_kept : (ts : List Transaction) (s : LockSet) (x : ℕ) (mode : Mode) → LockSetKept ts s → is_open_transaction ts x ≡ true → is_free_for ts s.entries s.queue x mode ≡ true → LockSetKept ts (with_lock s x mode)
locked_kept ts s x mode kept opened free = record {
  sound = locked_sound ts s s.queue x mode kept.sound opened free;
  none_free = λ k within. still_barred ts s.entries (take k s.queue) (nth_ask s.queue k).owner (nth_ask s.queue k).mode x mode 1 (kept.none_free k within);
}

queued_kept : (ts : List Transaction) (s : LockSet) (x : ℕ) (mode : Mode) → LockSetKept ts s → is_open_transaction ts x ≡ true → is_free_for ts s.entries s.queue x mode ≡ false → LockSetKept ts (queued s x mode)
queued_kept ts s x mode kept opened barred = record {
  sound = record { holders = kept.sound.holders; askers = All-push (IsAsker ts) s.queue new kept.sound.askers opened; apart = kept.sound.apart };
  none_free = λ k within. elim (cases_lt k (length s.queue)) [
    | inl old ↦
        let first : take k (s.queue ++ new ∷ []) ≡ take k s.queue = take-append-le k s.queue (new ∷ []) (omega (arith, old)) in
        let same : nth_ask (s.queue ++ new ∷ []) k ≡ nth_ask s.queue k = get_or_append_left s.queue (new ∷ []) missing_ask k old in
        ap (λ (q : List Ask). is_free_for ts s.entries q (nth_ask (s.queue ++ new ∷ []) k).owner (nth_ask (s.queue ++ new ∷ []) k).mode) first
        ∙ ap (λ (a : Ask). is_free_for ts s.entries (take k s.queue) a.owner a.mode) same ∙ kept.none_free k old
    | inr last ↦
        let is_last : length s.queue ≡ k = omega (arith, last, within, length_push s.queue new) in
        let first : take k (s.queue ++ new ∷ []) ≡ s.queue = take_at s.queue (new ∷ []) k is_last in
        let same : nth_ask (s.queue ++ new ∷ []) k ≡ new = get_or_push s.queue new missing_ask k is_last in
        ap (λ (q : List Ask). is_free_for ts s.entries q (nth_ask (s.queue ++ new ∷ []) k).owner (nth_ask (s.queue ++ new ∷ []) k).mode) first
        ∙ ap (λ (a : Ask). is_free_for ts s.entries s.queue a.owner a.mode) same ∙ barred
  ];
}
  where
    new : Ask
    new = record { owner = x; mode = mode }

-- how many asks of y a new ask makes
queued_asks : (st : NestState) (x set : ℕ) (mode : Mode) → set < length st.sets → Kept st → is_some (waiting st x) ≡ false
    → (y : ℕ) → waiting_asks_of y (slice_set st.sets set (queued (nth_set st set) x mode)) ≤ 1
queued_asks st x set mode within kept free y = by_owner (x == y) refl
  where
    asks : LockSet → ℕ
    asks t = count_by (is_asked_by y) t.queue

    new : Ask
    new = record { owner = x; mode = mode }

    sums : waiting_asks_of y (slice_set st.sets set (queued (nth_set st set) x mode)) ≡ waiting_asks_of y st.sets + (if x == y then 1 else 0)
    sums =
        omega (
          arith,
          sum_by-set asks st.sets set (queued (nth_set st set) x mode) no_set within,
          sum_by_push (λ (a : Ask). if is_asked_by y a then 1 else 0) (nth_set st set).queue new,
        )

    by_owner : (own : Bool) → (x == y) ≡ own → waiting_asks_of y (slice_set st.sets set (queued (nth_set st set) x mode)) ≤ 1
    by_owner true e =
        let none : waiting_asks_of y st.sets ≡ 0 = subst (λ (i : ℕ). waiting_asks_of i st.sets ≡ 0) (eqb-true x y e) (no_ask_waits 0 st.sets x free) in
        let one : ◌≡◌ {A = ℕ} (if x == y then 1 else 0) 1 = ap (λ (b : Bool). if b then 1 else 0) e in
        omega (arith, sums, none, one)
    by_owner false e =
        let none : ◌≡◌ {A = ℕ} (if x == y then 1 else 0) 0 = ap (λ (b : Bool). if b then 1 else 0) e in
        omega (arith, sums, none, kept.one_ask y)

pub asked_kept : (st : NestState) (x set : ℕ) (mode : Mode) (otherwise : Asked) → (otherwise ≡ Waits) ⊎ (otherwise ≡ False) → set < length st.sets → Kept st
    → Kept (after_asked st x set mode (ask_answer otherwise st x set mode))
asked_kept st x set mode otherwise which within kept = by_test (is_open_transaction st.transactions x) refl (is_some (waiting st x)) refl (is_free_for st.transactions (nth_set st set).entries (nth_set st set).queue x mode) refl
  where
    here : LockSetKept st.transactions (nth_set st set)
    here = All-get_or (LockSetKept st.transactions) st.sets set no_set within kept.sets

    by_other : (other : Asked) → (other ≡ Waits) ⊎ (other ≡ False) → is_open_transaction st.transactions x ≡ true → is_some (waiting st x) ≡ false
        → is_free_for st.transactions (nth_set st set).entries (nth_set st set).queue x mode ≡ false → Kept (after_asked st x set mode other)
    by_other other (inl waits) e f g = subst (λ (a : Asked). Kept (after_asked st x set mode a)) (sym waits)
        (put_kept st set (queued (nth_set st set) x mode) kept (queued_kept st.transactions (nth_set st set) x mode here e g) (queued_asks st x set mode within kept f))
    by_other other (inr refused) e f g = subst (λ (a : Asked). Kept (after_asked st x set mode a)) (sym refused) (one_asked_kept st kept)

    same_asks : (y : ℕ) → waiting_asks_of y (slice_set st.sets set (with_lock (nth_set st set) x mode)) ≤ 1
    same_asks y = omega (arith, kept.one_ask y, sum_by-set (λ (t : LockSet). count_by (is_asked_by y) t.queue) st.sets set (with_lock (nth_set st set) x mode) no_set within)

    by_test : (o : Bool) → is_open_transaction st.transactions x ≡ o → (w : Bool) → is_some (waiting st x) ≡ w
        → (f : Bool) → is_free_for st.transactions (nth_set st set).entries (nth_set st set).queue x mode ≡ f
        → Kept (after_asked st x set mode (ask_answer_from o w f otherwise))
    by_test false e w g f h = one_asked_kept st kept
    by_test true e true g f h = one_asked_kept st kept
    by_test true e false g true h = put_kept st set (with_lock (nth_set st set) x mode) kept (locked_kept st.transactions (nth_set st set) x mode here e h) same_asks
    by_test true e false g false h = by_other otherwise which e g h

-- What a transaction waits for, as asks come and go.

-- one ask of x, or none
abbrev one_if : ℕ → Ask → ℕ
one_if x a = if is_asked_by x a then 1 else 0

-- this place of the queue, where it has so many
abbrev first_place : ℕ → List Ask → Option ℕ
first_place n q = if nat_lt n (length q) then Some n else None

first_ask_is : (a : Ask) (q : List Ask) (x : ℕ) (own : Bool) → is_asked_by x a ≡ own → asked_in (a ∷ q) x ≡ (if own then Some a.mode else asked_in q x)
first_ask_is a q x true e =
    ap (λ (b : Bool). mode_asked_at (a ∷ q) (first_place (if not b then 1 + position_or_len (is_asked_by x) q else 0) (a ∷ q))) e
    ∙ ap (λ (b : Bool). mode_asked_at (a ∷ q) (if b then Some 0 else None)) (lt-ltb 0 (length (a ∷ q)) (omega arith))
first_ask_is a q x false e =
    ap (λ (b : Bool). mode_asked_at (a ∷ q) (first_place (if not b then 1 + n else 0) (a ∷ q))) e
    ∙ ap (λ (b : Bool). mode_asked_at (a ∷ q) (if b then Some (1 + n) else None)) (shorter n (length q))
    ∙ behind (nat_lt n (length q))
  where
    n : ℕ
    n = position_or_len (is_asked_by x) q

    shorter : (i j : ℕ) → nat_lt (1 + i) (suc j) ≡ nat_lt i j
    shorter i j = grind (arith, nat_tests)

    one_more : 1 + n ≡ suc n
    one_more = omega arith

    behind : (b : Bool) → mode_asked_at (a ∷ q) (if b then Some (1 + n) else None) ≡ mode_asked_at q (if b then Some n else None)
    behind true = ap (λ (i : ℕ). Some (nth_ask (a ∷ q) i).mode) one_more
    behind false = refl

pub asked_first : (a : Ask) (q : List Ask) (x : ℕ) → is_asked_by x a ≡ true → asked_in (a ∷ q) x ≡ Some a.mode
asked_first a q x e = first_ask_is a q x true e

pub asked_later : (a : Ask) (q : List Ask) (x : ℕ) → is_asked_by x a ≡ false → asked_in (a ∷ q) x ≡ asked_in q x
asked_later a q x e = first_ask_is a q x false e

-- two queues with the same first ask differ only behind it
asked_behind : (a : Ask) (p q : List Ask) (x : ℕ) → asked_in p x ≡ asked_in q x → asked_in (a ∷ p) x ≡ asked_in (a ∷ q) x
asked_behind a p q x same = by_owner (is_asked_by x a) refl
  where
    by_owner : (own : Bool) → is_asked_by x a ≡ own → asked_in (a ∷ p) x ≡ asked_in (a ∷ q) x
    by_owner true e = asked_first a p x e ∙ sym (asked_first a q x e)
    by_owner false e = asked_later a p x e ∙ same ∙ sym (asked_later a q x e)

one_is : (x : ℕ) (a : Ask) (own : Bool) → is_asked_by x a ≡ own → ◌≡◌ {A = ℕ} (one_if x a) (if own then 1 else 0)
one_is x a own e = ap (λ (b : Bool). if b then 1 else 0) e

pub none_asked : (q : List Ask) (x : ℕ) → count_by (is_asked_by x) q ≡ 0 → asked_in q x ≡ None
none_asked [] x e = refl
none_asked (a ∷ q) x e = by_owner (is_asked_by x a) refl (none_asked q x)
  where
    sums : count_by (is_asked_by x) (a ∷ q) ≡ one_if x a + count_by (is_asked_by x) q
    sums = sum_by-cons (one_if x) a q

    by_owner : (own : Bool) → is_asked_by x a ≡ own → (count_by (is_asked_by x) q ≡ 0 → asked_in q x ≡ None) → asked_in (a ∷ q) x ≡ None
    by_owner true f again = absurd (omega (arith, e, sums, one_is x a true f))
    by_owner false f again = asked_later a q x f ∙ again (omega (arith, e, sums))

-- without the ask of another transaction
pub asked_without : (q : List Ask) (k x : ℕ) → k < length q → is_asked_by x (nth_ask q k) ≡ false → asked_in (remove q k) x ≡ asked_in q x
asked_without [] k x h e = absurd (omega (arith, h))
asked_without (a ∷ q) zero x h e = sym (asked_later a q x e)
asked_without (a ∷ q) (suc k) x h e = asked_behind a (remove q k) q x (asked_without q k x (omega (arith, h)) e)

-- without asks of other transactions
pub asked_filtered : (keep : Ask → Bool) (q : List Ask) (x : ℕ) → ((a : Ask) → is_asked_by x a ≡ true → keep a ≡ true) → asked_in (filter keep q) x ≡ asked_in q x
asked_filtered keep [] x keeps = refl
asked_filtered keep (a ∷ q) x keeps = by_test (keep a) refl (asked_filtered keep q x keeps)
  where
    by_test : (b : Bool) → keep a ≡ b → asked_in (filter keep q) x ≡ asked_in q x → asked_in (if b then a ∷ filter keep q else filter keep q) x ≡ asked_in (a ∷ q) x
    by_test true e same = asked_behind a (filter keep q) q x same
    by_test false e same = same ∙ sym (asked_later a q x (other (is_asked_by x a) refl))
      where
        other : (own : Bool) → is_asked_by x a ≡ own → own ≡ false
        other true f = let wrong : false ≡ true = sym e ∙ keeps a f in absurd (cc wrong)
        other false f = refl

-- behind the asks of others
pub asked_last : (q : List Ask) (new : Ask) (x : ℕ) → is_asked_by x new ≡ true → asked_in q x ≡ None → asked_in (q ++ new ∷ []) x ≡ Some new.mode
asked_last [] new x e none = asked_first new [] x e
asked_last (a ∷ q) new x e none = by_owner (is_asked_by x a) refl (asked_last q new x e)
  where
    by_owner : (own : Bool) → is_asked_by x a ≡ own → (asked_in q x ≡ None → asked_in (q ++ new ∷ []) x ≡ Some new.mode) → asked_in (a ∷ (q ++ new ∷ [])) x ≡ Some new.mode
    by_owner true f again = let wrong : None ≡ Some a.mode = sym none ∙ asked_first a q x f in absurd (cc wrong)
    by_owner false f again = asked_later a (q ++ new ∷ []) x f ∙ again (sym (asked_later a q x f) ∙ none)

-- a further ask of another transaction
pub asked_before : (q : List Ask) (new : Ask) (x : ℕ) → is_asked_by x new ≡ false → asked_in (q ++ new ∷ []) x ≡ asked_in q x
asked_before [] new x e = asked_later new [] x e
asked_before (a ∷ q) new x e = asked_behind a (q ++ new ∷ []) q x (asked_before q new x e)

-- the same in all sets

abbrev asks_by : ℕ → LockSet → ℕ
asks_by x s = count_by (is_asked_by x) s.queue

pub waiting_none : (k : ℕ) (sets : List LockSet) (x : ℕ) → waiting_asks_of x sets ≡ 0 → waiting_from k sets x ≡ None
waiting_none k [] x e = refl
waiting_none k (s ∷ rest) x e =
    ap (λ (o : Option Mode). wish_or k (waiting_from (k + 1) rest x) o) (none_asked s.queue x (omega (arith, e, sum_by-cons (asks_by x) s rest)))
    ∙ waiting_none (k + 1) rest x (omega (arith, e, sum_by-cons (asks_by x) s rest))

pub waiting_map : (f : LockSet → LockSet) (x : ℕ) → ((s : LockSet) → asked_in (f s).queue x ≡ asked_in s.queue x) → (k : ℕ) (sets : List LockSet) → waiting_from k (map f sets) x ≡ waiting_from k sets x
waiting_map f x same k [] = refl
waiting_map f x same k (s ∷ rest) =
    ap (λ (o : Option Mode). wish_or k (waiting_from (k + 1) (map f rest) x) o) (same s)
    ∙ ap (λ (o : Option (ℕ × Mode)). wish_or k o (asked_in s.queue x)) (waiting_map f x same (k + 1) rest)

pub waiting_put : (k : ℕ) (sets : List LockSet) (j : ℕ) (new : LockSet) (x : ℕ) → asked_in new.queue x ≡ asked_in (slice_index_or sets j no_set).queue x
    → waiting_from k (slice_set sets j new) x ≡ waiting_from k sets x
waiting_put k [] j new x same = refl
waiting_put k (s ∷ rest) zero new x same = ap (λ (o : Option Mode). wish_or k (waiting_from (k + 1) rest x) o) same
waiting_put k (s ∷ rest) (suc j) new x same = ap (λ (o : Option (ℕ × Mode)). wish_or k o (asked_in s.queue x)) (waiting_put (k + 1) rest j new x same)

-- what waits for nothing has no ask here, and none later
free_parts : (k : ℕ) (later : Option (ℕ × Mode)) (here : Option Mode) → is_some (wish_or k later here) ≡ false → (here ≡ None) × (is_some later ≡ false)
free_parts k later None e = (refl, e)
free_parts k later (Some mode) e = absurd (cc e)

pub waiting_queued : (k : ℕ) (sets : List LockSet) (j x : ℕ) (mode : Mode) → j < length sets → is_some (waiting_from k sets x) ≡ false
    → waiting_from k (slice_set sets j (queued (slice_index_or sets j no_set) x mode)) x ≡ Some (k + j, mode)
waiting_queued k [] j x mode h free = absurd (omega (arith, h))
waiting_queued k (s ∷ rest) zero x mode h free =
    let none = (free_parts k (waiting_from (k + 1) rest x) (asked_in s.queue x) free).0 in
    let here : k ≡ k + 0 = omega arith in
    ap (λ (o : Option Mode). wish_or k (waiting_from (k + 1) rest x) o) (asked_last s.queue (record { owner = x; mode = mode }) x (eq-eqb x x refl) none)
    ∙ ap (λ (i : ℕ). Some (i, mode)) here
waiting_queued k (s ∷ rest) (suc j) x mode h free =
    let parts = free_parts k (waiting_from (k + 1) rest x) (asked_in s.queue x) free in
    let here : k + 1 + j ≡ k + suc j = omega arith in
    ap (λ (o : Option Mode). wish_or k (waiting_from (k + 1) (slice_set rest j (queued (slice_index_or rest j no_set) x mode)) x) o) parts.0
    ∙ waiting_queued (k + 1) rest j x mode (omega (arith, h)) parts.1
    ∙ ap (λ (i : ℕ). Some (i, mode)) here

-- what isn't open has no ask
pub closed_asks : (st : NestState) (x : ℕ) → Kept st → is_open_transaction st.transactions x ≡ false → waiting_asks_of x st.sets ≡ 0
closed_asks st x kept closed = sum_by-zero (asks_by x) st.sets (λ i d within. none_here (slice_index_or st.sets i d) (All-get_or (LockSetKept st.transactions) st.sets i d within kept.sets))
  where
    not_own : (a : Ask) → IsAsker st.transactions a → (own : Bool) → is_asked_by x a ≡ own → own ≡ false
    not_own a asker true e =
        let wrong : false ≡ true = sym closed ∙ ap (is_open_transaction st.transactions) (sym (eqb-true a.owner x e)) ∙ asker in absurd (cc wrong)
    not_own a asker false e = refl

    none_here : (s : LockSet) → LockSetKept st.transactions s → asks_by x s ≡ 0
    none_here s set_kept = sum_by-zero (one_if x) s.queue (λ i d within.
        let a : Ask = slice_index_or s.queue i d in
        one_is x a false (not_own a (All-get_or (IsAsker st.transactions) s.queue i d within set_kept.sound.askers) (is_asked_by x a) refl))

pub closed_waits : (st : NestState) (x : ℕ) → Kept st → is_open_transaction st.transactions x ≡ false → waiting st x ≡ None
closed_waits st x kept closed = waiting_none 0 st.sets x (closed_asks st x kept closed)
