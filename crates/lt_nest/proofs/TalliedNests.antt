-- What is kept of each transaction stays so once one has ended, and the sets are served.
use Rattle.std.proofs.Common.{◌≡◌, ℕ, ◌<◌, ◌≤◌, inl, inr, List, length, Bool, true, refl, sym, ap, arith, ◌∙◌, Option, Some, ◌≢◌, ◌+◌, [], ◌++◌, false, not, subst, None, map, if◌then◌else◌, count_by, ◌⊎◌, nat_lt, is_some, IfSome, eqb-true, eq-eqb, length-set}
use Rattle.std.proofs.lemmas.Bool.{cases_lt}
use Rattle.std.specs.List.{list_any}
use Rattle.lt_modes.specs.declared.mode.Mode.{Mode}
use Rattle.lt_nest.specs.declared.forest.Transaction.{Transaction}
use Rattle.lt_nest.specs.declared.locks.Ask.{Ask}
use Rattle.lt_nest.specs.declared.tally.Tally.{Tally}
use Rattle.lt_nest.specs.declared.answers.Ended.TheVariants.{Done, NotOpen, HasChildren}
use Rattle.lt_nest.specs.Forest.{transaction_at, parent_of, is_open_transaction, end_under, is_open_child, with_begun, end_one}
use Rattle.lt_nest.specs.Locks.{LockSet, inherit, of_open, Grant, serve_from}
use Rattle.lt_nest.specs.Calls.{NestState, with_sets_served, commit_answer, committed, aborted, new_nest, has_parent, has_open_child, waiting, ask_answer, after_asked, sets_asked, commit_answer_from, after_grant}
use Rattle.lt_nest.specs.Kept.{waiting_asks_of, Kept, nth_tally, without_child, tallies_granted, AreTallied, waiting_asks, IsTalliedNest, tallies_begun, tallies_asked, after_change}
use Rattle.lt_nest.proofs.Ancestors.{open_within}
use Rattle.lt_nest.proofs.EndedTransactions.{still_open, open_not_under, committed_asks, aborted_sound}
use Rattle.lt_nest.proofs.NestStays.{length_end_under, committed_open, start_is, begun_is, asked_is, committed_is, aborted_is}
use Rattle.lt_nest.proofs.Wishes.{asked_filtered, waiting_map}
use Rattle.lt_nest.proofs.GrantedWishes.{is_to, all_same_wish, granted_waits, length_granted, granted_children, granted_same, granted_gone}
use Rattle.lt_nest.proofs.OpenChildren.{one_if_parent, children_ended, children_under, counted_less, wish_less, length_less}
use Rattle.lt_nest.specs.declared.change.Change.TheVariants.{Inherit, KeepOpen}
use Rattle.lt_nest.specs.declared.answers.Asked.{Asked}
use Rattle.lt_nest.specs.declared.answers.Asked.TheVariants.{Waits, False}
use Rattle.lt_nest.proofs.TalliedCalls.{wish_is, children_is, start_tallied, begun_tallied, parent_counted, asked_tallied}

pub served_tallied : (st : NestState) (tallies : List Tally) → ((x : ℕ) → waiting_asks_of x st.sets ≤ 1) → AreTallied st tallies
    → AreTallied (with_sets_served st) (tallies_granted tallies (serve_from 0 st.transactions st.sets).grants)
served_tallied st tallies one tallied = record {
  as_many = length_granted tallies grants ∙ tallied.as_many;
  open_ones = λ x e. record {
    children = granted_children tallies grants x (in_tallies x e) ∙ (tallied.open_ones x e).children;
    wish = elim (cases_lt 0 (count_by (is_to x) grants)) [
      | inl some ↦ granted_gone tallies grants x (in_tallies x e) some ∙ sym (granted_waits 0 st.transactions st.sets x (one x) some)
      | inr none ↦
          let zero_of : count_by (is_to x) grants ≡ 0 = omega (arith, none) in
          granted_same tallies grants x (in_tallies x e) zero_of ∙ (tallied.open_ones x e).wish ∙ sym (all_same_wish 0 st.transactions st.sets x zero_of)
    ];
  };
}
  where
    grants : List Grant
    grants = (serve_from 0 st.transactions st.sets).grants

    in_tallies : (x : ℕ) → is_open_transaction st.transactions x ≡ true → x < length tallies
    in_tallies x e = omega (arith, open_within st.transactions x e, tallied.as_many)

pub committed_tallied : (st : NestState) (x : ℕ) (tallies : List Tally) → commit_answer st x ≡ Done → AreTallied st tallies → AreTallied (committed st x) (without_child tallies (parent_of st.transactions x))
committed_tallied st x tallies done tallied = record {
  as_many = omega (arith, length_less tallies (parent_of ts x), tallied.as_many, length-set ts x (record (transaction_at ts x) { ended = true }));
  open_ones = λ y e.
      let was = tallied.open_ones y (still_open ts x y (open_within ts x opened) e).1 in
      let within : y < length tallies = omega (arith, open_within ts y (still_open ts x y (open_within ts x opened) e).1, tallied.as_many) in
      record {
        children = omega (arith, counted_less tallies (parent_of ts x) y within, was.children, children_ended ts x y opened);
        wish = wish_less tallies (parent_of ts x) y within ∙ was.wish ∙ sym (waiting_map (λ (s : LockSet). record s { entries = inherit x (parent_of ts x) s.entries }) y (λ s. refl) 0 st.sets);
      };
}
  where
    ts : List Transaction
    ts = st.transactions

    opened : is_open_transaction st.transactions x ≡ true
    opened = committed_open st x done

pub aborted_tallied : (st : NestState) (x : ℕ) (tallies : List Tally) → Kept st → is_open_transaction st.transactions x ≡ true → AreTallied st tallies
    → AreTallied (aborted st x) (without_child tallies (parent_of st.transactions x))
aborted_tallied st x tallies kept opened tallied = record {
  as_many = omega (arith, length_less tallies (parent_of ts x), tallied.as_many, length_end_under ts x);
  open_ones = λ y e.
      let left = open_not_under ts x y e in
      let was = tallied.open_ones y left.1 in
      let within : y < length tallies = omega (arith, open_within ts y left.1, tallied.as_many) in
      record {
        children = omega (
          arith,
          counted_less tallies (parent_of ts x) y within,
          was.children,
          children_ended ts x y opened,
          children_under ts x y kept.transactions opened left.0,
        );
        wish = wish_less tallies (parent_of ts x) y within ∙ was.wish
            ∙ sym (waiting_map (of_open us) y (λ s. asked_filtered (λ (a : Ask). is_open_transaction us a.owner) s.queue y (λ a own.
            ap (is_open_transaction us) (eqb-true a.owner y own) ∙ e)) 0 st.sets);
      };
}
  where
    ts : List Transaction
    ts = st.transactions

    us : List Transaction
    us = end_under st.transactions x

-- what the end of a transaction needs of its parent's count
pub parent_has_child : (st : NestState) (x p : ℕ) (tallies : List Tally) → Kept st → is_open_transaction st.transactions x ≡ true → parent_of st.transactions x ≡ Some p → AreTallied st tallies
    → (p < length tallies) × (0 < (nth_tally tallies p).children)
parent_has_child st x p tallies kept opened parent tallied =
    let open_p = kept.transactions.parents x p opened parent in
    (omega (arith, open_within st.transactions p open_p, tallied.as_many), omega (arith, (tallied.open_ones p open_p).children, children_ended st.transactions x p opened, one))
  where
    one : ◌≡◌ {A = ℕ} (one_if_parent (parent_of st.transactions x) p) 1
    one = ap (λ (o : Option ℕ). one_if_parent o p) parent ∙ itself
      where
        itself : ◌≡◌ {A = ℕ} (one_if_parent (Some p) p) 1
        itself = ap (λ (b : Bool). if b then 1 else 0) (eq-eqb p p refl)

-- What each call leaves is a nest with its tallies: from what each part of a call leaves.

pub new_nest_is : (n room : ℕ) → n ≤ 255 → IsTalliedNest (new_nest n) [] room
new_nest_is n room few = record { nest = start_is n room few; tallied = start_tallied n }

pub begun_nest_is : (st : NestState) (parent : Option ℕ) (tallies : List Tally) (room : ℕ) (ts : List Transaction) (counted : List Tally) → IsTalliedNest st tallies room → has_parent st parent ≡ true
    → length st.transactions ≢ 65535 → ts ≡ with_begun st.transactions parent → counted ≡ tallies_begun tallies parent
    → IsTalliedNest (record { transactions = ts; sets = st.sets; grants = st.grants; asked = st.asked }) counted room
begun_nest_is st parent tallies room ts counted is under few ts_are counted_are =
    rw (ts_are, counted_are) (record { nest = begun_is st parent room is.nest under few; tallied = begun_tallied st parent tallies is.nest.kept under is.tallied })

pub same_nest_is : (st : NestState) (tallies : List Tally) (room : ℕ) (ts : List Transaction) (counted : List Tally) → IsTalliedNest st tallies room → ts ≡ st.transactions → counted ≡ tallies
    → IsTalliedNest (record { transactions = ts; sets = st.sets; grants = st.grants; asked = st.asked }) counted room
same_nest_is st tallies room ts counted is ts_are counted_are = rw (ts_are, counted_are) is

pub asked_nest_is : (st : NestState) (x set : ℕ) (mode : Mode) (otherwise a : Asked) (tallies : List Tally) (room now : ℕ) (sets : List LockSet) (grants : List Grant) (noted : List Tally)
    → IsTalliedNest st tallies room → (otherwise ≡ Waits) ⊎ (otherwise ≡ False) → a ≡ ask_answer otherwise st x set mode → set < length st.sets → st.asked < 65536
    → sets ≡ sets_asked st.sets x set mode a → grants ≡ st.grants → room ≤ now → (a ≡ Waits → length st.grants + waiting_asks st.sets + 1 ≤ now) → noted ≡ tallies_asked tallies x set mode a
    → IsTalliedNest (record { transactions = st.transactions; sets = sets; grants = grants; asked = st.asked + 1 }) noted now
asked_nest_is st x set mode otherwise a tallies room now sets grants noted is which answer within few sets_are grants_are more waits noted_are =
    rw (sets_are, grants_are, noted_are)
    (record {
      nest = asked_is st x set mode otherwise a room now is.nest which answer within few more waits;
      tallied = subst (λ (b : Asked). AreTallied (after_asked st x set mode b) (tallies_asked tallies x set mode b)) (sym answer) (asked_tallied st x set mode otherwise tallies which within is.tallied);
    })

pub passed_nest_is : (st : NestState) (x : ℕ) (tallies : List Tally) (room : ℕ) (parent : Option ℕ) (ts read : List Transaction) (less : List Tally) (sets : List LockSet) (grants : List Grant)
    (told : List Tally) (now : ℕ) → IsTalliedNest st tallies room → commit_answer st x ≡ Done → parent ≡ parent_of st.transactions x → ts ≡ end_one st.transactions x → read ≡ ts
    → less ≡ without_child tallies parent → sets ≡ (serve_from 0 read (map (after_change read (Inherit x parent)) st.sets)).sets
    → grants ≡ st.grants ++ (serve_from 0 read (map (after_change read (Inherit x parent)) st.sets)).grants
    → told ≡ tallies_granted less (serve_from 0 read (map (after_change read (Inherit x parent)) st.sets)).grants → now ≡ room
    → IsTalliedNest (record { transactions = ts; sets = sets; grants = grants; asked = st.asked }) told now
passed_nest_is st x tallies room parent ts read less sets grants told now is done parent_is ts_are read_are less_are sets_are grants_are told_are room_is =
    rw (sets_are, grants_are, told_are, less_are, read_are, ts_are, parent_is, room_is)
    (record {
      nest = committed_is st x Done room is.nest (sym done);
      tallied = served_tallied (committed st x) (without_child tallies (parent_of st.transactions x)) (committed_asks st x is.nest.kept) (committed_tallied st x tallies done is.tallied);
    })

pub dropped_nest_is : (st : NestState) (x : ℕ) (tallies : List Tally) (room : ℕ) (parent : Option ℕ) (ts read : List Transaction) (less : List Tally) (sets : List LockSet) (grants : List Grant)
    (told : List Tally) (now : ℕ) → IsTalliedNest st tallies room → is_open_transaction st.transactions x ≡ true → parent ≡ parent_of st.transactions x → ts ≡ end_under st.transactions x → read ≡ ts
    → less ≡ without_child tallies parent → sets ≡ (serve_from 0 read (map (after_change read KeepOpen) st.sets)).sets
    → grants ≡ st.grants ++ (serve_from 0 read (map (after_change read KeepOpen) st.sets)).grants
    → told ≡ tallies_granted less (serve_from 0 read (map (after_change read KeepOpen) st.sets)).grants → now ≡ room
    → IsTalliedNest (record { transactions = ts; sets = sets; grants = grants; asked = st.asked }) told now
dropped_nest_is st x tallies room parent ts read less sets grants told now is opened parent_is ts_are read_are less_are sets_are grants_are told_are room_is =
    rw (sets_are, grants_are, told_are, less_are, read_are, ts_are, parent_is, room_is)
    (record {
      nest = aborted_is st x Done room is.nest (sym (ap (λ (b : Bool). if b then Done else NotOpen) opened));
      tallied = served_tallied (aborted st x) (without_child tallies (parent_of st.transactions x)) (aborted_sound st x is.nest.kept).one_ask (aborted_tallied st x tallies is.nest.kept opened is.tallied);
    })

pub granted_nest_is : (st : NestState) (tallies : List Tally) → AreTallied st tallies → AreTallied (after_grant st) tallies
granted_nest_is st tallies tallied = record {
  as_many = tallied.as_many;
  open_ones = λ x e. record { children = (tallied.open_ones x e).children; wish = (tallied.open_ones x e).wish };
}

-- a parent under which one is begun has its tally, in which a child more fits
pub parent_fits : (st : NestState) (parent : Option ℕ) (tallies : List Tally) (room : ℕ) → IsTalliedNest st tallies room → has_parent st parent ≡ true → length st.transactions ≢ 65535
    → IfSome parent (λ p. p < length tallies) × IfSome parent (λ p. (nth_tally tallies p).children < 65535)
parent_fits st None tallies room is under few = (tt, tt)
parent_fits st (Some p) tallies room is under few =
    let fits = parent_counted st p room tallies is.nest is.tallied under in
    (fits.0, omega (arith, fits.1, is.nest.few_transactions, few))

-- the parent of an open transaction has its tally, in which a child is counted
pub parent_counts : (st : NestState) (x : ℕ) (parent : Option ℕ) (tallies : List Tally) (room : ℕ) → IsTalliedNest st tallies room → is_open_transaction st.transactions x ≡ true
    → parent ≡ parent_of st.transactions x → IfSome parent (λ p. p < length tallies) × IfSome parent (λ p. 0 < (nth_tally tallies p).children)
parent_counts st x None tallies room is opened parent_is = (tt, tt)
parent_counts st x (Some p) tallies room is opened parent_is = parent_has_child st x p tallies is.nest.kept opened (sym parent_is) is.tallied

-- what the code reads of a transaction without open children
pub childless_is : (st : NestState) (x : ℕ) (tallies read : List Tally) (room : ℕ) (has : Bool) → IsTalliedNest st tallies room → is_open_transaction st.transactions x ≡ true
    → read ≡ tallies → has ≡ nat_lt 0 (nth_tally read x).children → not has ≡ true → list_any (is_open_child x) st.transactions ≡ false
childless_is st x tallies read room has is opened read_is has_is none =
    sym (children_is st tallies x is.tallied opened) ∙ sym (has_is ∙ ap (λ (l : List Tally). nat_lt 0 (nth_tally l x).children) read_is) ∙ no has none
  where
    no : (b : Bool) → not b ≡ true → b ≡ false
    no true e = absurd (cc e)
    no false e = refl

-- what is read of what a transaction waits for
pub wish_read : (st seen : NestState) (x : ℕ) (tallies noted : List Tally) (room : ℕ) (read : List Transaction) (result : Option (ℕ × Mode)) → IsTalliedNest st tallies room → st ≡ seen
    → read ≡ st.transactions → noted ≡ tallies → result ≡ (if is_open_transaction read x then (nth_tally noted x).wish else None) → result ≡ waiting seen x
wish_read st seen x tallies noted room read result is seen_is read_is noted_is result_is =
    result_is ∙ ap (λ (ts : List Transaction). if is_open_transaction ts x then (nth_tally noted x).wish else None) read_is
    ∙ ap (λ (l : List Tally). if is_open_transaction st.transactions x then (nth_tally l x).wish else None) noted_is
    ∙ wish_is st tallies x is.nest.kept is.tallied
    ∙ ap (λ (s : NestState). waiting s x) seen_is

-- the answer to a commit of an open transaction that waits for nothing
pub commit_read : (st seen : NestState) (x : ℕ) (tallies noted : List Tally) (room : ℕ) (has : Bool) → IsTalliedNest st tallies room → st ≡ seen → is_open_transaction st.transactions x ≡ true
    → is_some (waiting seen x) ≡ false → noted ≡ tallies → has ≡ nat_lt 0 (nth_tally noted x).children → (if has then HasChildren else Done) ≡ commit_answer seen x
commit_read st seen x tallies noted room has is seen_is opened waits noted_is has_is =
    ap (λ (b : Bool). if b then HasChildren else Done) (has_is ∙ ap (λ (l : List Tally). nat_lt 0 (nth_tally l x).children) noted_is ∙ children_is st tallies x is.tallied opened
    ∙ ap (λ (s : NestState). has_open_child s x) seen_is)
    ∙ by_parts (is_open_transaction seen.transactions x) (is_some (waiting seen x)) (sym (ap (λ (s : NestState). is_open_transaction s.transactions x) seen_is) ∙ opened) waits
  where
    by_parts : (o w : Bool) → o ≡ true → w ≡ false → (if has_open_child seen x then HasChildren else Done) ≡ commit_answer_from o w (has_open_child seen x)
    by_parts false w e f = absurd (cc e)
    by_parts true true e f = absurd (cc f)
    by_parts true false e f = refl
