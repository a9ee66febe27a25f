-- How often an ask stands in a list.
use Rattle.std.proofs.Common.{◌≡◌, ◌≢◌, ℕ, suc, ◌+◌, ◌<◌, ◌≤◌, inl, inr, List, [], ◌∷◌, ◌++◌, length, Option, Some, None, Bool, true, false, refl, sym, ap, arith, ◌∙◌, subst, take as take_first, ◌==◌, if◌then◌else◌, Contains, AllPairs, remove, slice_index_or, position, eqb-true, eq-eqb, lt-ltb, append-nil, take_all}
use Rattle.std.specs.List.{position_or_len}
use Rattle.std.proofs.lemmas.Bool.{both_ways, and_parts, and_from, cases_eq, cases_order, cases_lt}
use Rattle.std.proofs.lemmas.List.Sums.{sum_by-remove, sum_by-insert, sum_by_push, sum_by-cons, get_or-le-sum_by, fails_before_first, passes_at_first}
use Rattle.std.proofs.lemmas.List.{drop_all}
use Rattle.std.proofs.lemmas.List.Quantifiers.{all_pairs_remove, position-Some}
use Rattle.lt_modes.specs.declared.mode.Mode.{Mode}
use Rattle.lt_modes.specs.declared.stamp.Stamp.{Stamp}
use Rattle.lt_modes.specs.declared.ask.Ask.{Ask}
use Rattle.lt_modes.specs.Modes.{same_mode}
use Rattle.lt_modes.proofs.ModeAlgebra.{same_mode-true, has-itself}
use Rattle.lt_modes.specs.State.{same_ask, same_choice, same_flag, has_stamp, without, entered, place, no_ask, times_in, without_at}
use Rattle.lt_lists.specs.Below.{one_if}
use Rattle.lt_lists.proofs.Members.{contains_removed, contains_left}

same_choice-true : (a b : Option Mode) → same_choice a b ≡ true → a ≡ b
same_choice-true None None e = refl
same_choice-true None (Some b) e = cc
same_choice-true (Some a) None e = cc
same_choice-true (Some a) (Some b) e = ap Some (same_mode-true a b e)

same_choice-itself : (a : Option Mode) → same_choice a a ≡ true
same_choice-itself None = refl
same_choice-itself (Some a) = has-itself a

same_flag-true : (a b : Bool) → same_flag a b ≡ true → a ≡ b
same_flag-true true true e = refl
same_flag-true true false e = cc
same_flag-true false true e = cc
same_flag-true false false e = refl

same_flag-itself : (a : Bool) → same_flag a a ≡ true
same_flag-itself true = refl
same_flag-itself false = refl

pub has_stamp-true : (stamp : Stamp) (ask : Ask) → has_stamp stamp ask ≡ true → ask.stamp ≡ stamp
has_stamp-true stamp ask e =
    let parts = and_parts (ask.stamp.clock == stamp.clock) _ e in
    let clocks = eqb-true ask.stamp.clock stamp.clock parts.0 in
    let nodes = eqb-true ask.stamp.node stamp.node parts.1 in
    λ i. record { clock = clocks i; node = nodes i }

pub has_stamp-own : (stamp : Stamp) (ask : Ask) → ask.stamp ≡ stamp → has_stamp stamp ask ≡ true
has_stamp-own stamp ask e =
    and_from _ _ (eq-eqb _ _ (ap (λ (z : Stamp). z.clock) e)) (eq-eqb _ _ (ap (λ (z : Stamp). z.node) e))

pub same_ask-true : (a b : Ask) → same_ask a b ≡ true → a ≡ b
same_ask-true a b e =
    let p1 = and_parts (has_stamp a.stamp b) _ e in
    let p2 = and_parts (a.client == b.client) _ p1.1 in
    let p3 = and_parts (a.node == b.node) _ p2.1 in
    let p4 = and_parts (same_mode a.mode b.mode) _ p3.1 in
    let p5 = and_parts (same_choice a.gives_up b.gives_up) _ p4.1 in
    let stamps = sym (has_stamp-true a.stamp b p1.0) in
    let clients = eqb-true a.client b.client p2.0 in
    let nodes = eqb-true a.node b.node p3.0 in
    let modes = same_mode-true a.mode b.mode p4.0 in
    let choices = same_choice-true a.gives_up b.gives_up p5.0 in
    let flags = same_flag-true a.holder b.holder p5.1 in
    λ i. record { client = clients i; node = nodes i; mode = modes i; gives_up = choices i; holder = flags i; stamp = stamps i }

pub same_ask-itself : (a : Ask) → same_ask a a ≡ true
same_ask-itself a =
    and_from _ _ (has_stamp-own a.stamp a refl)
    (and_from _ _ (eq-eqb a.client a.client refl)
    (and_from _ _ (eq-eqb a.node a.node refl)
    (and_from _ _ (has-itself a.mode) (and_from _ _ (same_choice-itself a.gives_up) (same_flag-itself a.holder)))))

abbrev one_in : Ask → Ask → ℕ
one_in a b = if same_ask a b then 1 else 0

-- an ask that stands in the list counts
pub times_in-some : (a : Ask) (asks : List Ask) → Contains asks a → 1 ≤ times_in a asks
times_in-some a asks h =
    let part = get_or-le-sum_by (one_in a) asks h.0 a h.1 in
    let here : one_in a (slice_index_or asks h.0 a) ≡ 1 = ap (one_in a) h.2 ∙ rw (same_ask-itself a) refl in
    omega (arith, part, here)

-- and what counts stands there
pub times_in-found : (a : Ask) (asks : List Ask) → 1 ≤ times_in a asks → Contains asks a
times_in-found a [] h = absurd (omega (arith, h))
times_in-found a (first ∷ rest) h = by_test (λ more. times_in-found a rest more) (same_ask a first) refl
  where
    by_test : (1 ≤ times_in a rest → Contains rest a) → (same : Bool) → same_ask a first ≡ same → Contains (first ∷ rest) a
    by_test again true e = (0, omega arith, sym (same_ask-true a first e))
    by_test again false e =
        let none : one_in a first ≡ 0 = rw e refl in
        let found = again (omega (arith, h, none, sum_by-cons (one_in a) first rest)) in
        (suc found.0, omega (arith, found.1), found.2)

pub times_in-none : (a : Ask) (asks : List Ask) → (Contains asks a → ⊥) → times_in a asks ≡ 0
times_in-none a asks none = elim (cases_eq (times_in a asks) 0) [
  | inl e ↦ e
  | inr d ↦ absurd (none (times_in-found a asks (omega (arith, d))))
]

pub times_in-push : (a b : Ask) (asks : List Ask) → times_in a (asks ++ b ∷ []) ≡ times_in a asks + one_if (same_ask a b)
times_in-push a b asks = sum_by_push (one_in a) asks b ∙ ap (λ (k : ℕ). times_in a asks + k) (ones (same_ask a b))
  where
    ones : (same : Bool) → (if same then 1 else 0) ≡ one_if same
    ones true = refl
    ones false = refl

ones_are : (same : Bool) → (if same then 1 else 0) ≡ one_if same
ones_are true = refl
ones_are false = refl

pub times_in-entered : (a b : Ask) (queue : List Ask) → times_in a (entered queue b) ≡ times_in a queue + one_if (same_ask a b)
times_in-entered a b queue = sum_by-insert (one_in a) queue (place queue b.holder) b ∙ ap (λ (k : ℕ). times_in a queue + k) (ones_are (same_ask a b))

pub times_in-remove : (a : Ask) (asks : List Ask) (k : ℕ) → k < length asks
    → times_in a (remove asks k) + one_if (same_ask a (slice_index_or asks k no_ask)) ≡ times_in a asks
times_in-remove a asks k h =
    ap (λ (n : ℕ). times_in a (remove asks k) + n) (sym (ones_are (same_ask a (slice_index_or asks k no_ask)))) ∙ sum_by-remove (one_in a) asks k no_ask h

-- asks with different stamps: the one with the stamp of an ask that stands there is that ask
at_stamp : (asks : List Ask) (b : Ask) → AllPairs (λ (x y : Ask). x.stamp ≢ y.stamp) asks → (found : Contains asks b) → (k : ℕ) → k < length asks
    → (slice_index_or asks k b).stamp ≡ b.stamp → slice_index_or asks k b ≡ b
at_stamp asks b apart found k h e = elim (cases_order k found.0) [
  | inl same ↦ ap (λ (n : ℕ). slice_index_or asks n b) same ∙ found.2
  | inr other ↦ elim other [
    | inl before ↦ absurd (apart k found.0 b before found.1 (e ∙ ap (λ (x : Ask). x.stamp) (sym found.2)))
    | inr after ↦ absurd (apart found.0 k b after h (ap (λ (x : Ask). x.stamp) found.2 ∙ sym e))
  ]
]

-- the ask that is answered leaves the list
pub times_in-without : (a b : Ask) (asks : List Ask) → AllPairs (λ (x y : Ask). x.stamp ≢ y.stamp) asks → Contains asks b
    → times_in a (without asks b.stamp) + one_if (same_ask a b) ≡ times_in a asks
times_in-without a b asks apart found =
    let k = position_or_len (has_stamp b.stamp) asks in
    let own : has_stamp b.stamp (slice_index_or asks found.0 b) ≡ true = has_stamp-own b.stamp (slice_index_or asks found.0 b) (ap (λ (x : Ask). x.stamp) found.2) in
    let within : k < length asks = within_found k own refl in
    let same = at_stamp asks b apart found k within (has_stamp-true b.stamp (slice_index_or asks k b) (passes_at_first (has_stamp b.stamp) asks b within)) in
    let gone : without asks b.stamp ≡ remove asks k = rw (lt-ltb k (length asks) within) refl in
    let removed = sum_by-remove (one_in a) asks k b within in
    omega (
      arith,
      ap (times_in a) gone,
      removed,
      ap (one_in a) same,
      ones_are (same_ask a b),
    )
  where
    within_found : (k : ℕ) → has_stamp b.stamp (slice_index_or asks found.0 b) ≡ true → k ≡ position_or_len (has_stamp b.stamp) asks → k < length asks
    within_found k own e = elim (cases_order found.0 k) [
      | inl same ↦ omega (arith, same, found.1)
      | inr other ↦ elim other [
        | inl before ↦
            let fails : has_stamp b.stamp (slice_index_or asks found.0 b) ≡ false =
            fails_before_first (has_stamp b.stamp) asks found.0 b (omega (arith, before, e)) in
            absurd (both_ways (has_stamp b.stamp (slice_index_or asks found.0 b)) fails own)
        | inr after ↦ omega (arith, after, found.1)
      ]
    ]

-- asks with different stamps are different
pub times_in-once : (a : Ask) (asks : List Ask) → AllPairs (λ (x y : Ask). x.stamp ≢ y.stamp) asks → times_in a asks ≤ 1
times_in-once a [] apart = omega arith
times_in-once a (first ∷ rest) apart =
    by_test (times_in-once a rest (λ i j d before within. apart (suc i) (suc j) d (omega (arith, before)) (omega (arith, within)))) (same_ask a first) refl
  where
    by_test : times_in a rest ≤ 1 → (same : Bool) → same_ask a first ≡ same → times_in a (first ∷ rest) ≤ 1
    by_test again true e =
        let none = times_in-none a rest (λ found. apart 0 (suc found.0) a (omega arith) (omega (arith, found.1))
        (ap (λ (x : Ask). x.stamp) (sym (same_ask-true a first e) ∙ sym found.2))) in
        let one : one_in a first ≡ 1 = rw e refl in
        omega (arith, none, one, sum_by-cons (one_in a) first rest)
    by_test again false e =
        let none : one_in a first ≡ 0 = rw e refl in
        omega (arith, again, none, sum_by-cons (one_in a) first rest)

-- The unanswered asks of a node without the one that is answered.

-- the asks have different stamps
abbrev AreApart : List Ask → Type 0
AreApart asks = AllPairs (λ (x y : Ask). x.stamp ≢ y.stamp) asks

pub without_only : (asks : List Ask) (stamp : Stamp) (x : Ask) → Contains (without asks stamp) x → Contains asks x
without_only asks stamp x h = by_place (position (has_stamp stamp) asks) h
  where
    by_place : (place : Option ℕ) → Contains (without_at asks place) x → Contains asks x
    by_place None found = found
    by_place (Some k) found = contains_removed asks k x found

pub without_kept : (asks : List Ask) (stamp : Stamp) (x : Ask) → Contains asks x → x.stamp ≢ stamp → Contains (without asks stamp) x
without_kept asks stamp x h differ = by_place (position (has_stamp stamp) asks) refl
  where
    by_place : (place : Option ℕ) → position (has_stamp stamp) asks ≡ place → Contains (without_at asks place) x
    by_place None e = h
    by_place (Some k) e =
        contains_left asks k x h
        (λ within same. differ (ap (λ (a : Ask). a.stamp) (sym same)
        ∙ has_stamp-true stamp (slice_index_or asks k x) (position-Some (has_stamp stamp) asks k x e).1))

pub without_gone : (asks : List Ask) (ask : Ask) → AllPairs (λ (x y : Ask). x.stamp ≢ y.stamp) asks → Contains asks ask
    → Contains (without asks ask.stamp) ask → ⊥
without_gone asks ask apart here still =
    let one : one_if (same_ask ask ask) ≡ 1 = ap one_if (same_ask-itself ask) in
    omega (
      arith,
      one,
      times_in-without ask ask asks apart here,
      times_in-once ask asks apart,
      times_in-some ask (without asks ask.stamp) still,
    )

pub without_apart : (asks : List Ask) (stamp : Stamp) → AllPairs (λ (x y : Ask). x.stamp ≢ y.stamp) asks
    → AllPairs (λ (x y : Ask). x.stamp ≢ y.stamp) (without asks stamp)
without_apart asks stamp apart = by_place (position (has_stamp stamp) asks)
  where
    whole : (n : ℕ) → length asks ≤ n → remove asks n ≡ asks
    whole n past = ap (λ (rest : List Ask). take_first n asks ++ rest) (drop_all (suc n) asks (omega (arith, past)))
        ∙ append-nil (take_first n asks) ∙ take_all n asks past

    by_place : (place : Option ℕ) → AreApart (without_at asks place)
    by_place None = apart
    by_place (Some k) = elim (cases_lt k (length asks)) [
      | inl within ↦ all_pairs_remove (λ (x y : Ask). x.stamp ≢ y.stamp) asks k within apart
      | inr past ↦ subst AreApart (sym (whole k past)) apart
    ]
