-- The logs of all nodes have one merged list.
use Rattle.std.proofs.Common.{◌≡◌, ℕ, zero, suc, ◌<◌, ◌≤◌, inl, inr, List, [], ◌∷◌, length, true, false, refl, sym, ap, subst, arith, ◌∙◌, ◌≢◌, ◌⊎◌, filter, drop, eq-eqb, ne_eqb}
use Rattle.std.specs.List.{AllByRecursion}
use Rattle.std.proofs.lemmas.Bool.{cases_eq, cases_lt, cases_Bool, both_ways}
use Rattle.lt_modes.specs.Telling.{is_newer}
use Rattle.lt_lists.specs.Below.{sum_below}
use Rattle.lt_lists.proofs.AllLemmas.{all_weaker}
use Rattle.lt_spec.specs.World.{Logged, start, is_of_node}
use Rattle.lt_modes.proofs.StampOrder.{newer_one_way}
use Rattle.lt_merge.specs.Merging.{IsBefore, AreRising, AreNodesApart, both_merged}
use Rattle.lt_merge.proofs.MergedLists.{filter_yes, filter_no, all_filter, all_pass, none_left, merged_rising, beside_by_node, merged-first, merged-second, length_merged}
use Rattle.lt_law_plays.specs.Merged.{merged}
use Rattle.lt_law_plays.specs.MergeLaws.{MergedExists, MergedHasAll, MergedIsOne}
use Rattle.lt_law_plays.proofs.PlayLemmas.{plays_rise}

abbrev pub IsOwn : ℕ → Logged → Type 0
IsOwn x entry = entry.made.stamp.node ≡ x

record AreMerged (n : ℕ) (log : ℕ → List Logged) (all : List Logged) : Type 0 where
  rising : AreRising all
  parts : (x : ℕ) → x < n → filter (is_of_node x) all ≡ log x
  beyond : (x : ℕ) → n ≤ x → filter (is_of_node x) all ≡ []

-- a log of one node has no entries of another
pub none_of_other : (n x : ℕ) (log : List Logged) → x ≢ n → AllByRecursion (IsOwn n) log → filter (is_of_node x) log ≡ []
none_of_other n x log d own = none_left (is_of_node x) log
    (all_weaker (IsOwn n) (λ (entry : Logged). is_of_node x entry ≡ false) (λ (entry : Logged) e. ne_eqb entry.made.stamp.node x (λ same. d (sym same ∙ e))) log own)

apart_from : (n : ℕ) (log all : List Logged) → AllByRecursion (IsOwn n) log → filter (is_of_node n) all ≡ [] → AreNodesApart log all
apart_from n log all own none x = elim (cases_eq x n) [
  | inl e ↦ inr (subst (λ (y : ℕ). filter (is_of_node y) all ≡ []) (sym e) none)
  | inr d ↦ inl (none_of_other n x log d own)
]

are_merged : (n : ℕ) (log : ℕ → List Logged) → ((x : ℕ) → AreRising (log x)) → ((x : ℕ) → AllByRecursion (IsOwn x) (log x)) → AreMerged n log (merged n log)
are_merged zero log rising own = record { rising = tt; parts = λ x below. absurd (omega (arith, below)); beyond = λ x above. refl }
are_merged (suc n) log rising own =
    let before = are_merged n log rising own in
    let none = before.beyond n (omega arith) in
    record {
      rising = merged_rising (log n) (merged n log) (rising n) before.rising (beside_by_node (log n) (merged n log) (apart_from n (log n) (merged n log) (own n) none));
      parts = λ x below. elim (cases_eq x n) [
        | inl e ↦ subst (λ (y : ℕ). filter (is_of_node y) (both_merged (log n) (merged n log)) ≡ log y) (sym e)
            (merged-first (is_of_node n) (log n) (merged n log) none
            ∙ all_pass (is_of_node n) (log n) (all_weaker (IsOwn n) (λ (entry : Logged). is_of_node n entry ≡ true) (λ (entry : Logged) same. eq-eqb entry.made.stamp.node n same) (log n) (own n)))
        | inr d ↦ merged-second (is_of_node x) (log n) (merged n log) (none_of_other n x (log n) d (own n)) ∙ before.parts x (omega (arith, below, d))
      ];
      beyond = λ x above. merged-second (is_of_node x) (log n) (merged n log) (none_of_other n x (log n) (λ e. omega (arith, above, e)) (own n)) ∙ before.beyond x (omega (arith, above));
    }

pub merged_exists : MergedExists
merged_exists script l h =
    let rise : (x : ℕ) → AreRising (l.log x) × _ = λ x. plays_rise script x (l.log x) ((start script).node x) (l.last x) (l.used x) (l.sent x) (h.plays x) in
    let all = are_merged script.nodes l.log (λ x. (rise x).0) (λ x. all_weaker _ _ (λ (entry : Logged) is_in. is_in.0) (l.log x) (rise x).1) in
    record { rising = all.rising; parts = λ x. part x all }
  where
    part : (x : ℕ) → AreMerged script.nodes l.log (merged script.nodes l.log) → filter (is_of_node x) (merged script.nodes l.log) ≡ l.log x
    part x all = elim (cases_lt x script.nodes) [
      | inl below ↦ all.parts x below
      | inr above ↦ all.beyond x above ∙ sym (h.beyond x above)
    ]

length_all : (n : ℕ) (log : ℕ → List Logged) → length (merged n log) ≡ sum_below n (λ x. length (log x))
length_all zero log = refl
length_all (suc n) log = omega (arith, length_merged (log n) (merged n log), length_all n log)

-- the first element, where there is one
abbrev pub head_or : {X : Type 0} → X → List X → X
head_or d [] = d
head_or d (x ∷ xs) = x

-- an entry that stands in a rising list is its first or later than it
first_or_later : (x : ℕ) (entry other : Logged) (rest part : List Logged) → filter (is_of_node x) (other ∷ rest) ≡ entry ∷ part
    → AllByRecursion (IsBefore other) rest → (other ≡ entry) ⊎ IsBefore other entry
first_or_later x entry other rest part e h = elim (cases_Bool (is_of_node x other)) [
  | inl own_one ↦ inl (ap (head_or entry) (sym (filter_yes (is_of_node x) other rest own_one) ∙ e))
  | inr other_one ↦ inr (subst (AllByRecursion (IsBefore other)) (sym (filter_no (is_of_node x) other rest other_one) ∙ e) (all_filter (IsBefore other) (is_of_node x) rest h)).0
]

same_first : (entry other : Logged) → (other ≡ entry) ⊎ IsBefore other entry → (entry ≡ other) ⊎ IsBefore entry other → entry ≡ other
same_first entry other (inl e) back = sym e
same_first entry other (inr before) (inl e) = e
same_first entry other (inr before) (inr after) =
    absurd (both_ways (is_newer other.made.stamp entry.made.stamp) (newer_one_way entry.made.stamp other.made.stamp before) after)

not_empty : {X : Type 0} {A : Type 0} (x : X) (xs : List X) → [] ≡ x ∷ xs → A
not_empty x xs e = absurd (omega (arith, ap length e))

one_list : (run other : List Logged) → AreRising run → AreRising other → ((x : ℕ) → filter (is_of_node x) run ≡ filter (is_of_node x) other) → run ≡ other
one_list [] [] h k same = refl
one_list [] (o ∷ others) h k same =
    not_empty o _ (same o.made.stamp.node ∙ filter_yes (is_of_node o.made.stamp.node) o others (eq-eqb o.made.stamp.node o.made.stamp.node refl))
one_list (e ∷ rest) [] h k same =
    not_empty e _ (sym (same e.made.stamp.node) ∙ filter_yes (is_of_node e.made.stamp.node) e rest (eq-eqb e.made.stamp.node e.made.stamp.node refl))
one_list (e ∷ rest) (o ∷ others) h k same =
    let first = same_first e o
    (first_or_later e.made.stamp.node e o others _ (sym (same e.made.stamp.node) ∙ own e rest) k.0)
    (first_or_later o.made.stamp.node o e rest _ (same o.made.stamp.node ∙ own o others) h.0) in
    ap (λ (x : Logged). x ∷ rest) first ∙ ap (λ (xs : List Logged). o ∷ xs) (one_list rest others h.1 k.1 (λ x. rests x first))
  where
    own : (x : Logged) (xs : List Logged) → filter (is_of_node x.made.stamp.node) (x ∷ xs) ≡ x ∷ filter (is_of_node x.made.stamp.node) xs
    own x xs = filter_yes (is_of_node x.made.stamp.node) x xs (eq-eqb x.made.stamp.node x.made.stamp.node refl)

    rests : (x : ℕ) → e ≡ o → filter (is_of_node x) rest ≡ filter (is_of_node x) others
    rests x first =
        let both : filter (is_of_node x) (o ∷ rest) ≡ filter (is_of_node x) (o ∷ others) = subst (λ (z : Logged). filter (is_of_node x) (z ∷ rest) ≡ filter (is_of_node x) (o ∷ others)) first (same x) in
        elim (cases_Bool (is_of_node x o)) [
          | inl own_one ↦ ap (λ (xs : List Logged). drop 1 xs) (sym (filter_yes (is_of_node x) o rest own_one) ∙ (both ∙ filter_yes (is_of_node x) o others own_one))
          | inr other_one ↦ sym (filter_no (is_of_node x) o rest other_one) ∙ (both ∙ filter_no (is_of_node x) o others other_one)
        ]

pub merged_is_one : MergedIsOne
merged_is_one log run other h k = one_list run other h.rising k.rising (λ x. h.parts x ∙ sym (k.parts x))

pub merged_has_all : MergedHasAll
merged_has_all script l run h is_merged =
    ap length (merged_is_one l.log run (merged script.nodes l.log) is_merged (merged_exists script l h)) ∙ length_all script.nodes l.log
