-- Lists with only the elements that pass a test.
use Rattle.std.proofs.Common.{◌≡◌, inl, inr, List, [], ◌∷◌, length, Bool, true, false, refl, sym, ap, arith, ◌∙◌, ℕ, suc, ◌+◌, ◌<◌, subst, filter, ◌⊎◌, ◌&&◌, ◌==◌, nat_lt, if◌then◌else◌, IsTrue, Contains, eq-eqb, lt-ltb}
use Rattle.std.specs.List.{AllByRecursion}
use Rattle.std.proofs.lemmas.Bool.{cases_Bool, cond-true, cond-false, cases_order, and_from, or_right, both_ways, cond_both}
use Rattle.std.proofs.lemmas.List.Elements.{All-filter, All-from_recursion, recursion_from_All}
use Rattle.lt_modes.specs.declared.stamp.Stamp.{Stamp}
use Rattle.lt_modes.specs.Telling.{is_newer}
use Rattle.lt_modes.proofs.StampOrder.{newer_by_clock, newer_in_turn}
use Rattle.lt_lists.proofs.AllLemmas.{all_weaker}
use Rattle.lt_lists.proofs.Members.{all_of, contains_filter, none_in}
use Rattle.lt_spec.specs.World.{Logged, is_of_node}
use Rattle.lt_merge.specs.Merging.{IsBefore, AreRising, AreNodesApart, first_merged, both_merged}

pub filter_yes : {X : Type 0} (test : X → Bool) (x : X) (xs : List X) → test x ≡ true → filter test (x ∷ xs) ≡ x ∷ filter test xs
filter_yes test x xs e = cond-true (test x) (x ∷ filter test xs) (filter test xs) e

pub filter_no : {X : Type 0} (test : X → Bool) (x : X) (xs : List X) → test x ≡ false → filter test (x ∷ xs) ≡ filter test xs
filter_no test x xs e = cond-false (test x) (x ∷ filter test xs) (filter test xs) e

pub all_filter : {X : Type 0} (P : X → Type 0) (test : X → Bool) (xs : List X) → AllByRecursion P xs → AllByRecursion P (filter test xs)
all_filter P test xs h = recursion_from_All P (filter test xs) (All-filter test P xs (All-from_recursion P xs h))

-- where none passes, the first one doesn't
pub none_passes : {X : Type 0} (test : X → Bool) (x : X) (xs : List X) → filter test (x ∷ xs) ≡ [] → (test x ≡ false) × (filter test xs ≡ [])
none_passes test x xs none = elim (cases_Bool (test x)) [
  | inl yes_x ↦ absurd (omega (arith, ap length (sym (filter_yes test x xs yes_x) ∙ none)))
  | inr no_x ↦ (no_x, sym (filter_no test x xs no_x) ∙ none)
]

-- none passes where each one fails
pub none_left : {X : Type 0} (test : X → Bool) (xs : List X) → AllByRecursion (λ x. test x ≡ false) xs → filter test xs ≡ []
none_left test [] h = refl
none_left test (x ∷ xs) h = filter_no test x xs h.0 ∙ none_left test xs h.1

-- each one fails where none passes
pub all_fail : {X : Type 0} (test : X → Bool) (xs : List X) → filter test xs ≡ [] → AllByRecursion (λ x. test x ≡ false) xs
all_fail test [] none = tt
all_fail test (x ∷ xs) none =
    let parts = none_passes test x xs none in
    (parts.0, all_fail test xs parts.1)

-- all pass
pub all_pass : {X : Type 0} (test : X → Bool) (xs : List X) → AllByRecursion (λ x. test x ≡ true) xs → filter test xs ≡ xs
all_pass test [] h = refl
all_pass test (x ∷ xs) h = filter_yes test x xs h.0 ∙ ap (λ l. x ∷ l) (all_pass test xs h.1)

-- Two lists of entries, merged by stamps.

-- one of the two is before the other
abbrev pub AreBeside : Logged → Logged → Type 0
AreBeside entry other = IsBefore entry other ⊎ IsBefore other entry

-- stamps of two nodes are one before the other
pub either_first : (a b : Stamp) → (a.node ≡ b.node → ⊥) → IsTrue (is_newer b a) ⊎ IsTrue (is_newer a b)
either_first a b d = elim (cases_order a.clock b.clock) [
  | inl same ↦ elim (cases_order a.node b.node) [
    | inl e ↦ absurd (d e)
    | inr (inl less) ↦ inl (by_node a b same less)
    | inr (inr more) ↦ inr (by_node b a (sym same) more)
  ]
  | inr (inl less) ↦ inl (newer_by_clock b a less)
  | inr (inr more) ↦ inr (newer_by_clock a b more)
]
  where
    by_node : (x y : Stamp) → x.clock ≡ y.clock → x.node < y.node → IsTrue (is_newer y x)
    by_node x y same less = or_right (nat_lt x.clock y.clock) (y.clock == x.clock && nat_lt x.node y.node)
        (and_from (y.clock == x.clock) (nat_lt x.node y.node) (eq-eqb y.clock x.clock (sym same)) (lt-ltb x.node y.node less))

-- what holds of a list however the entry and the rest are merged into the others
by_order : (P : List Logged → Type 0) (entry other : Logged) (rest : List Logged → List Logged) (others : List Logged)
    → (IsBefore entry other → P (entry ∷ rest (other ∷ others)))
    → (is_newer other.made.stamp entry.made.stamp ≡ false → P (other ∷ first_merged entry rest others)) → P (first_merged entry rest (other ∷ others))
by_order P entry other rest others sooner later =
    cond_both (is_newer other.made.stamp entry.made.stamp) (entry ∷ rest (other ∷ others)) (other ∷ first_merged entry rest others) P sooner later

all_first : (P : Logged → Type 0) (entry : Logged) (rest : List Logged → List Logged) (others : List Logged) → P entry
    → ((zs : List Logged) → AllByRecursion P zs → AllByRecursion P (rest zs)) → AllByRecursion P others → AllByRecursion P (first_merged entry rest others)
all_first P entry rest [] p more h = (p, more [] tt)
all_first P entry rest (other ∷ others) p more h = by_order (AllByRecursion P) entry other rest others
    (λ sooner. (p, more (other ∷ others) h)) (λ later. (h.0, all_first P entry rest others p more h.1))

pub all_merged : (P : Logged → Type 0) (first second : List Logged) → AllByRecursion P first → AllByRecursion P second → AllByRecursion P (both_merged first second)
all_merged P [] second h k = k
all_merged P (entry ∷ rest) second h k = all_first P entry (both_merged rest) second h.0 (λ zs all. all_merged P rest zs h.1 all) k

-- each of the entries is before or after each of the others
abbrev pub AllBeside : List Logged → List Logged → Type 0
AllBeside first second = AllByRecursion (λ (entry : Logged). AllByRecursion (AreBeside entry) second) first

rising_first : (entry : Logged) (rest others : List Logged) → AllByRecursion (IsBefore entry) rest
    → ((zs : List Logged) → AreRising zs → AllBeside rest zs → AreRising (both_merged rest zs)) → AreRising others → AllByRecursion (AreBeside entry) others → AllBeside rest others
    → AreRising (first_merged entry (both_merged rest) others)
rising_first entry rest [] before more h beside sides = (all_merged (IsBefore entry) rest [] before tt, more [] tt sides)
rising_first entry rest (other ∷ others) before more h beside sides = by_order AreRising entry other (both_merged rest) others
    (λ sooner. (
      all_merged (IsBefore entry) rest (other ∷ others) before (
        sooner,
        all_weaker (IsBefore other) (IsBefore entry)
            (λ (z : Logged) after. newer_in_turn z.made.stamp other.made.stamp entry.made.stamp after sooner) others h.0,
      ),
      more (other ∷ others) h sides,
    ))
    (λ later.
    let first = other_first beside.0 later in (
      all_first (IsBefore other) entry (both_merged rest) others first
          (λ zs all. all_merged (IsBefore other) rest zs (all_weaker (IsBefore entry) (IsBefore other)
          (λ (z : Logged) after. newer_in_turn z.made.stamp entry.made.stamp other.made.stamp after first) rest before) all) h.0,
      rising_first entry rest others before more h.1 beside.1 (all_weaker _ _ (λ (e : Logged) side. side.1) rest sides),
    ))
  where
    other_first : AreBeside entry other → is_newer other.made.stamp entry.made.stamp ≡ false → IsBefore other entry
    other_first (inl sooner) later = absurd (both_ways (is_newer other.made.stamp entry.made.stamp) later sooner)
    other_first (inr is_before) later = is_before

pub merged_rising : (first second : List Logged) → AreRising first → AreRising second → AllBeside first second → AreRising (both_merged first second)
merged_rising [] second h k sides = k
merged_rising (entry ∷ rest) second h k sides =
    rising_first entry rest second h.0 (λ zs rising beside. merged_rising rest zs h.1 rising beside) k sides.0 sides.1

pass_second : (test : Logged → Bool) (entry : Logged) (rest : List Logged → List Logged) (others : List Logged) → test entry ≡ false
    → ((zs : List Logged) → filter test (rest zs) ≡ filter test zs) → filter test (first_merged entry rest others) ≡ filter test others
pass_second test entry rest [] fails more = filter_no test entry (rest []) fails ∙ more []
pass_second test entry rest (other ∷ others) fails more =
    by_order (λ (run : List Logged). filter test run ≡ filter test (other ∷ others)) entry other rest others
    (λ sooner. filter_no test entry (rest (other ∷ others)) fails ∙ more (other ∷ others))
    (λ later. ap (λ (part : List Logged). if test other then other ∷ part else part) (pass_second test entry rest others fails more))

-- where none of the first list passes, those of the second do
pub merged-second : (test : Logged → Bool) (first second : List Logged) → filter test first ≡ [] → filter test (both_merged first second) ≡ filter test second
merged-second test [] second none = refl
merged-second test (entry ∷ rest) second none =
    let parts = none_passes test entry rest none in
    pass_second test entry (both_merged rest) second parts.0 (λ zs. merged-second test rest zs parts.1)

pass_first : (test : Logged → Bool) (entry : Logged) (rest : List Logged → List Logged) (part others : List Logged) → filter test others ≡ []
    → ((zs : List Logged) → filter test zs ≡ [] → filter test (rest zs) ≡ part) → filter test (first_merged entry rest others) ≡ (if test entry then entry ∷ part else part)
pass_first test entry rest part [] none more = ap (λ (l : List Logged). if test entry then entry ∷ l else l) (more [] refl)
pass_first test entry rest part (other ∷ others) none more =
    let parts = none_passes test other others none in
    by_order (λ (run : List Logged). filter test run ≡ (if test entry then entry ∷ part else part)) entry other rest others
    (λ sooner. ap (λ (l : List Logged). if test entry then entry ∷ l else l) (more (other ∷ others) none))
    (λ later. filter_no test other (first_merged entry rest others) parts.0 ∙ pass_first test entry rest part others parts.1 more)

-- and the other way round
pub merged-first : (test : Logged → Bool) (first second : List Logged) → filter test second ≡ [] → filter test (both_merged first second) ≡ filter test first
merged-first test [] second none = none
merged-first test (entry ∷ rest) second none = pass_first test entry (both_merged rest) (filter test rest) second none (λ zs empty. merged-first test rest zs empty)

length_first : (entry : Logged) (rest : List Logged → List Logged) (n : ℕ) (others : List Logged) → ((zs : List Logged) → length (rest zs) ≡ n + length zs)
    → length (first_merged entry rest others) ≡ suc n + length others
length_first entry rest n [] more = omega (arith, more [])
length_first entry rest n (other ∷ others) more = by_order (λ (run : List Logged). length run ≡ suc n + length (other ∷ others)) entry other rest others
    (λ sooner. omega (arith, more (other ∷ others))) (λ later. omega (arith, length_first entry rest n others more))

pub length_merged : (first second : List Logged) → length (both_merged first second) ≡ length first + length second
length_merged [] second = omega arith
length_merged (entry ∷ rest) second = length_first entry (both_merged rest) (length rest) second (λ zs. length_merged rest zs)

-- entries of different nodes are before or after each other
pub beside_by_node : (first second : List Logged) → AreNodesApart first second → AllBeside first second
beside_by_node first second h = recursion_from_All _ first (all_of (λ (entry : Logged). AllByRecursion (AreBeside entry) second) first beside)
  where
    beside : (entry : Logged) → Contains first entry → AllByRecursion (AreBeside entry) second
    beside entry among = by_side (h entry.made.stamp.node)
      where
        by_side : (filter (is_of_node entry.made.stamp.node) first ≡ []) ⊎ (filter (is_of_node entry.made.stamp.node) second ≡ []) → AllByRecursion (AreBeside entry) second
        by_side (inl none) = none_in entry (subst (λ (l : List Logged). Contains l entry) none
            (contains_filter (is_of_node entry.made.stamp.node) first entry among (eq-eqb entry.made.stamp.node entry.made.stamp.node refl)))
        by_side (inr none) = all_weaker (λ (other : Logged). is_of_node entry.made.stamp.node other ≡ false) (AreBeside entry)
            (λ (other : Logged) fails. either_first entry.made.stamp other.made.stamp (λ same. both_ways (is_of_node entry.made.stamp.node other) fails
            (eq-eqb other.made.stamp.node entry.made.stamp.node (sym same)))) second (all_fail (is_of_node entry.made.stamp.node) second none)
