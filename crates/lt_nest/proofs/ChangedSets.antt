-- Sets that the end of a transaction changes, and sets that it leaves as they are.
use Rattle.std.proofs.Common.{◌≡◌, ℕ, suc, ◌+◌, ◌<◌, ◌≤◌, List, [], ◌∷◌, ◌++◌, length, Bool, true, false, not, refl, sym, ap, ap₂, append-nil, subst, arith, ◌∙◌, Option, Some, None, take, drop, map, append_assoc, if◌then◌else◌, slice_index_or, slice_set, position, filter, All, drop-set-lt}
use Rattle.std.proofs.lemmas.List.{drop_more, take_more_set, take_all, drop_all}
use Rattle.std.proofs.lemmas.List.Elements.{All-weaker}
use Rattle.lt_lists.proofs.Sums.{none_found}
use Rattle.lt_nest.specs.declared.forest.Transaction.{Transaction}
use Rattle.lt_nest.specs.declared.locks.Entry.{Entry}
use Rattle.lt_nest.specs.declared.locks.Ask.{Ask}
use Rattle.lt_nest.specs.declared.change.Change.{Change}
use Rattle.lt_nest.specs.declared.change.Change.TheVariants.{Inherit, KeepOpen}
use Rattle.lt_nest.specs.declared.answers.Ended.TheVariants.{Done}
use Rattle.lt_nest.specs.Forest.{parent_of, is_open_transaction, is_own, end_one, end_under}
use Rattle.lt_nest.specs.Locks.{LockSet, is_held_by, nth_ask, inherit, of_open, first_free, serve_set, grant_in, serve_from}
use Rattle.lt_nest.specs.Calls.{NestState, commit_answer}
use Rattle.lt_nest.specs.Kept.{LockSetKept, NoneFree, Kept, load, after_change}
use Rattle.lt_nest.proofs.Ancestors.{open_within}
use Rattle.lt_nest.proofs.AddedLocks.{free_same}
use Rattle.lt_nest.proofs.EndedTransactions.{parent_ended, own_everywhere, parent_under, transactions_aborted}
use Rattle.lt_nest.proofs.NestStays.{locks_filtered, length_filtered, locks_inherited, committed_open}
use Rattle.lt_nest.proofs.ServedSets.{first_is_free, serve_none, pass_none}

-- a set without a free ask needs no serving
none_first : (ts : List Transaction) (s : LockSet) → NoneFree ts s → first_free ts s ≡ None
none_first ts s none = by_first (first_free ts s) refl
  where
    by_first : (o : Option ℕ) → first_free ts s ≡ o → o ≡ None
    by_first None e = refl
    by_first (Some k) e =
        let first = first_is_free ts s k e in
        let wrong : false ≡ true = sym (none k first.0) ∙ first.1 in absurd (cc wrong)

pub serve_nothing : (ts : List Transaction) (s : LockSet) → NoneFree ts s → serve_set ts s ≡ record { set = s; grants = [] }
serve_nothing ts s none = serve_none ts s (none_first ts s none)

-- nor does one that a change left as it was
pub unchanged_serves : (ts : List Transaction) (change : Change) (old new : LockSet) → NoneFree ts old → new ≡ after_change ts change old → new ≡ old
    → serve_set ts (after_change ts change old) ≡ record { set = old; grants = [] }
unchanged_serves ts change old new none changed same = ap (serve_set ts) (sym changed ∙ same) ∙ serve_nothing ts old none

-- what passes all stays
filter_all : {X : Type 0} (keep : X → Bool) (xs : List X) → ((i : ℕ) (d : X) → i < length xs → keep (slice_index_or xs i d) ≡ true) → filter keep xs ≡ xs
filter_all keep [] all = refl
filter_all {X = X} keep (x ∷ rest) all =
    ap (λ (b : Bool). if b then x ∷ filter keep rest else filter keep rest) (all 0 x (omega arith))
    ∙ ap (λ (l : List X). x ∷ l) (filter_all keep rest (λ i d within. all (suc i) d (omega (arith, within))))

-- and so does what has as many items left
pub filter_same_length : {X : Type 0} (keep : X → Bool) (xs : List X) → length xs ≤ length (filter keep xs) → filter keep xs ≡ xs
filter_same_length keep [] long = refl
filter_same_length {X = X} keep (x ∷ rest) long = by_test (keep x) refl (filter_same_length keep rest)
  where
    Shorter : Bool → Type 0
    Shorter b = length (x ∷ rest) ≤ length (if b then x ∷ filter keep rest else filter keep rest)

    by_test : (b : Bool) → keep x ≡ b → (length rest ≤ length (filter keep rest) → filter keep rest ≡ rest) → (if b then x ∷ filter keep rest else filter keep rest) ≡ x ∷ rest
    by_test true e again =
        let more : length (x ∷ rest) ≤ length (x ∷ filter keep rest) = subst Shorter e long in
        ap (λ (l : List X). x ∷ l) (again (omega (arith, more)))
    by_test false e again =
        let less : length (x ∷ rest) ≤ length (filter keep rest) = subst Shorter e long in
        absurd (omega (arith, less, length_filtered keep rest))

-- where x has no entry, nothing is passed on
pub inherit_nothing : (x : ℕ) (parent : Option ℕ) (entries : List Entry) → position (is_held_by x) entries ≡ None → inherit x parent entries ≡ entries
inherit_nothing x None entries none = filter_all (λ (e : Entry). not (is_held_by x e)) entries (λ i d within. ap not (none_found (is_held_by x) entries none i d within))
inherit_nothing x (Some p) entries none = pass_none x p entries none

-- a set in which as much is left
pub open_nothing : (ts : List Transaction) (s : LockSet) → length s.entries ≤ length (of_open ts s).entries → length s.queue ≤ length (of_open ts s).queue → of_open ts s ≡ s
open_nothing ts s entries asks =
    ap (λ (l : List Entry). record s { entries = l; queue = (of_open ts s).queue }) (filter_same_length (λ (e : Entry). is_open_transaction ts e.owner) s.entries entries)
    ∙ ap (λ (l : List Ask). record s { queue = l }) (filter_same_length (λ (a : Ask). is_open_transaction ts a.owner) s.queue asks)

pub kept_same : (ts : List Transaction) (s : LockSet) (entries : List Entry) (queue : List Ask) → entries ≡ filter (λ (e : Entry). is_open_transaction ts e.owner) s.entries
    → queue ≡ filter (λ (a : Ask). is_open_transaction ts a.owner) s.queue → length s.entries ≤ length entries → length s.queue ≤ length queue → record s { entries = entries; queue = queue } ≡ s
kept_same ts s entries queue entries_are queue_are more_entries more_asks =
    ap (λ (l : List Entry). record s { entries = l; queue = queue }) entries_are
    ∙ ap (λ (l : List Ask). record s { entries = (of_open ts s).entries; queue = l }) queue_are
    ∙ open_nothing ts s (omega (arith, more_entries, ap length entries_are)) (omega (arith, more_asks, ap length queue_are))

-- no change adds locks or asks
pub load_changed : (ts : List Transaction) (change : Change) (s : LockSet) → load (after_change ts change s) ≤ load s
load_changed ts (Inherit x parent) s = omega (arith, locks_inherited x parent s.entries)
load_changed ts KeepOpen s =
    omega (arith, locks_filtered (λ (e : Entry). is_open_transaction ts e.owner) s.entries, length_filtered (λ (a : Ask). is_open_transaction ts a.owner) s.queue)

pub asks_changed : (ts : List Transaction) (change : Change) (s : LockSet) → length (after_change ts change s).queue ≤ length s.queue
asks_changed ts (Inherit x parent) s = omega arith
asks_changed ts KeepOpen s = length_filtered (λ (a : Ask). is_open_transaction ts a.owner) s.queue

-- one set more
pub next_changed : (ts : List Transaction) (change : Change) (k : ℕ) (sets : List LockSet) (d : LockSet) (s : LockSet) → k < length sets → s ≡ slice_index_or sets k d
    → take (k + 1) (slice_set sets k (serve_set ts (after_change ts change s)).set)
    ++ (serve_from (k + 1) ts (map (after_change ts change) (drop (k + 1) (slice_set sets k (serve_set ts (after_change ts change s)).set)))).sets
    ≡ take k sets ++ (serve_from k ts (map (after_change ts change) (drop k sets))).sets
next_changed ts change k sets d s h is =
    rw (take_more_set sets k (serve_set ts (after_change ts change s)).set h, drop-set-lt (k + 1) sets k (serve_set ts (after_change ts change s)).set (omega arith), drop_more sets k d h, ← is)
    (append_assoc (take k sets) ((serve_set ts (after_change ts change s)).set ∷ []) (serve_from (k + 1) ts (map (after_change ts change) (drop (k + 1) sets))).sets)

-- the grants of the sets that are left are those of the next one and of the others
pub next_grants : (ts : List Transaction) (change : Change) (k : ℕ) (sets : List LockSet) (d : LockSet) (s : LockSet) → k < length sets → s ≡ slice_index_or sets k d
    → (serve_from k ts (map (after_change ts change) (drop k sets))).grants
    ≡ map (grant_in k) (serve_set ts (after_change ts change s)).grants
    ++ (serve_from (k + 1) ts (map (after_change ts change) (drop (k + 1) (slice_set sets k (serve_set ts (after_change ts change s)).set)))).grants
next_grants ts change k sets d s h is =
    rw (drop-set-lt (k + 1) sets k (serve_set ts (after_change ts change s)).set (omega arith), drop_more sets k d h, ← is) refl

-- behind the last set none is left

pub sets_left : (ts : List Transaction) (change : Change) (k : ℕ) (sets : List LockSet) → length sets ≤ k
    → take k sets ++ (serve_from k ts (map (after_change ts change) (drop k sets))).sets ≡ sets
sets_left ts change k sets whole =
    ap₂ (λ (front back : List LockSet). front ++ (serve_from k ts (map (after_change ts change) back)).sets) (take_all k sets whole) (drop_all k sets whole) ∙ append-nil sets

pub grants_left : (ts : List Transaction) (change : Change) (k : ℕ) (sets : List LockSet) → length sets ≤ k
    → (serve_from k ts (map (after_change ts change) (drop k sets))).grants ≡ []
grants_left ts change k sets whole = ap (λ (back : List LockSet). (serve_from k ts (map (after_change ts change) back)).grants) (drop_all k sets whole)

-- the end of a transaction frees no ask by itself

none_free_along : (ts us : List Transaction) → ((a x : ℕ) → is_own ts a x ≡ is_own us a x) → (s : LockSet) → LockSetKept ts s → NoneFree us s
none_free_along ts us same s kept = λ k within.
    sym (free_same ts us s.entries (take k s.queue) (nth_ask s.queue k).owner (nth_ask s.queue k).mode (λ a. same a (nth_ask s.queue k).owner)) ∙ kept.none_free k within

pub committed_none_free : (st : NestState) (x : ℕ) → Kept st → commit_answer st x ≡ Done → All (NoneFree (end_one st.transactions x)) st.sets
committed_none_free st x kept done =
    All-weaker (LockSetKept st.transactions) (NoneFree (end_one st.transactions x))
    (none_free_along st.transactions (end_one st.transactions x)
    (own_everywhere st.transactions (end_one st.transactions x) kept.transactions.forest (λ y p e. kept.transactions.forest y p (sym (same y) ∙ e)) (λ y. sym (same y)))) st.sets kept.sets
  where
    same : (y : ℕ) → parent_of (end_one st.transactions x) y ≡ parent_of st.transactions y
    same y = parent_ended st.transactions x y (open_within st.transactions x (committed_open st x done))

pub aborted_none_free : (st : NestState) (x : ℕ) → Kept st → All (NoneFree (end_under st.transactions x)) st.sets
aborted_none_free st x kept =
    All-weaker (LockSetKept st.transactions) (NoneFree (end_under st.transactions x))
    (none_free_along st.transactions (end_under st.transactions x)
    (own_everywhere st.transactions (end_under st.transactions x) kept.transactions.forest (transactions_aborted st.transactions x kept.transactions).forest (λ y. sym (parent_under st.transactions x y))))
    st.sets kept.sets
