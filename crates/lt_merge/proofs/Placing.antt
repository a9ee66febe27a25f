-- Lists in two parts: both are empty where the whole is, and what stands from a place on.
use Rattle.std.proofs.Common.{◌≡◌, ℕ, zero, suc, ◌+◌, ◌<◌, List, [], ◌∷◌, ◌++◌, length, drop, Some, refl, sym, ap, arith, ◌∙◌, ◌≤◌, inl, inr, true, false, subst, take, None, slice_get, ◌⊎◌, IsTrue, filter, slice_set, slice_index_or, length-append}
use Rattle.std.specs.List.{AllByRecursion}
use Rattle.std.proofs.lemmas.Bool.{cond_both, cond-true, cond-false, both_ways}
use Rattle.std.proofs.lemmas.List.{drop_all}
use Rattle.std.proofs.lemmas.List.Elements.{filter-append}
use Rattle.lt_modes.specs.declared.stamp.Stamp.{Stamp}
use Rattle.lt_modes.specs.Telling.{is_newer}
use Rattle.lt_modes.proofs.StampOrder.{newer_in_turn}
use Rattle.lt_lists.proofs.AllLemmas.{all_weaker}
use Rattle.lt_lists.proofs.Members.{some_equal}
use Rattle.lt_spec.specs.World.{Logged, is_of_node}
use Rattle.lt_merge.specs.declared.heads.Head.{Head}
use Rattle.lt_merge.specs.Merging.{RunData, all_entries, by_node, AreNodesApart, AreLogs, AreRising}
use Rattle.lt_merge.specs.Heads.{rest_of, rests_of, first_stamp, IsHead, AreHeadsInOrder, AreHeads, placed, settled_heads, AreSame, entries_in, IsHeadAt, Begins}
use Rattle.lt_merge.proofs.MergedLists.{beside_by_node}

pub both_empty : {X : Type 0} (xs ys : List X) → xs ++ ys ≡ [] → (xs ≡ []) × (ys ≡ [])
both_empty [] ys e = (refl, e)
both_empty (x ∷ xs) ys e = absurd (omega (arith, ap length e))

pub join_empty : {X : Type 0} (xs ys : List X) → xs ≡ [] → ys ≡ [] → xs ++ ys ≡ []
join_empty xs ys e f = ap (λ l. l ++ ys) e ∙ f

-- the element at a place, and those after it
pub record Stands {X : Type 0} (xs : List X) (k : ℕ) : Type 0 where
  pub first : X
  pub here : drop k xs ≡ first ∷ drop (k + 1) xs
  pub found : slice_get xs k ≡ Some first

pub stands : {X : Type 0} (xs : List X) (k : ℕ) → k < length xs → Stands xs k
stands [] k h = absurd (omega (arith, h))
stands (x ∷ xs) zero h = record { first = x; here = refl; found = refl }
stands (x ∷ xs) (suc k) h =
    let one : suc k + 1 ≡ suc (k + 1) = omega arith in
    let more = stands xs k (omega (arith, h)) in
    record { first = more.first; here = more.here ∙ ap (λ l. more.first ∷ l) (sym (ap (λ (n : ℕ). drop n (x ∷ xs)) one)); found = more.found }

-- A head is brought to its place among the others.

exchanged : {X : Type 0} (a b c : List X) → (a ≡ []) ⊎ (b ≡ []) → b ++ (a ++ c) ≡ a ++ (b ++ c)
exchanged a b c (inl e) = ap (λ l. b ++ (l ++ c)) e ∙ ap (λ l. l ++ (b ++ c)) (sym e)
exchanged a b c (inr e) = ap (λ l. l ++ (a ++ c)) e ∙ ap (λ l. a ++ (l ++ c)) (sym e)

filter_parts : (x : ℕ) (first second : List Logged) → filter (is_of_node x) (first ++ second) ≡ []
    → (filter (is_of_node x) first ≡ []) × (filter (is_of_node x) second ≡ [])
filter_parts x first second none =
    both_empty (filter (is_of_node x) first) (filter (is_of_node x) second) (sym (filter-append (is_of_node x) first second) ∙ none)

apart_front : (entries first second : List Logged) → AreNodesApart entries (first ++ second) → AreNodesApart entries first
apart_front entries first second h x = by_side (h x)
  where
    by_side : (filter (is_of_node x) entries ≡ []) ⊎ (filter (is_of_node x) (first ++ second) ≡ []) → (filter (is_of_node x) entries ≡ []) ⊎ (filter (is_of_node x) first ≡ [])
    by_side (inl none) = inl none
    by_side (inr none) = inr (filter_parts x first second none).0

apart_back : (entries first second : List Logged) → AreNodesApart entries (first ++ second) → AreNodesApart entries second
apart_back entries first second h x = by_side (h x)
  where
    by_side : (filter (is_of_node x) entries ≡ []) ⊎ (filter (is_of_node x) (first ++ second) ≡ []) → (filter (is_of_node x) entries ≡ []) ⊎ (filter (is_of_node x) second ≡ [])
    by_side (inl none) = inl none
    by_side (inr none) = inr (filter_parts x first second none).1

-- the logs without the second one
without_second : (logs : List RunData) (head other : Head) (others : List Head) → AreLogs (rests_of logs (head ∷ other ∷ others)) → AreLogs (rests_of logs (head ∷ others))
without_second logs head other others h =
    (h.0, apart_back (rest_of logs head) (rest_of logs other) (all_entries (rests_of logs others)) h.1, h.2.2)

module _ (logs : List RunData) (head other : Head) (others : List Head) (apart : AreLogs (rests_of logs (head ∷ other ∷ others)))
    (again : AreSame (rests_of logs (placed head others)) (rests_of logs (head ∷ others))) where
  parts_moved : (x : ℕ) → by_node (rests_of logs (other ∷ placed head others)) x ≡ by_node (rests_of logs (head ∷ other ∷ others)) x
  parts_moved x =
      let left = rest_of logs head in
      let right = rest_of logs other in
      let more = all_entries (rests_of logs others) in
      filter-append (is_of_node x) right (all_entries (rests_of logs (placed head others)))
      ∙ (ap (λ (l : List Logged). filter (is_of_node x) right ++ l) (again.parts x ∙ filter-append (is_of_node x) left more)
      ∙ (exchanged (filter (is_of_node x) left) (filter (is_of_node x) right) (filter (is_of_node x) more) (apart_front left right more apart.1 x)
      ∙ (ap (λ (l : List Logged). filter (is_of_node x) left ++ l) (sym (filter-append (is_of_node x) right more))
      ∙ sym (filter-append (is_of_node x) left (right ++ more)))))

  count_moved : length (all_entries (rests_of logs (other ∷ placed head others))) ≡ length (all_entries (rests_of logs (head ∷ other ∷ others)))
  count_moved = omega (
    arith,
    again.count,
    length-append (rest_of logs other) (all_entries (rests_of logs (placed head others))),
    length-append (rest_of logs head) (all_entries (rests_of logs others)),
    length-append (rest_of logs other) (all_entries (rests_of logs others)),
    length-append (rest_of logs head) (rest_of logs other ++ all_entries (rests_of logs others)),
  )

  same_moved : AreSame (rests_of logs (placed head (other ∷ others))) (rests_of logs (head ∷ other ∷ others))
  same_moved = cond_both (is_newer head.stamp other.stamp) (other ∷ placed head others) (head ∷ other ∷ others)
      (λ (heads : List Head). AreSame (rests_of logs heads) (rests_of logs (head ∷ other ∷ others)))
      (λ newer. record { parts = parts_moved; count = count_moved })
      (λ older. record { parts = λ x. refl; count = refl })

pub placed_same : (logs : List RunData) (head : Head) (others : List Head) → AreLogs (rests_of logs (head ∷ others))
    → AreSame (rests_of logs (placed head others)) (rests_of logs (head ∷ others))
placed_same logs head [] h = record { parts = λ x. refl; count = refl }
placed_same logs head (other ∷ others) h =
    same_moved logs head other others h (placed_same logs head others (without_second logs head other others h))

pub placed_logs : (logs : List RunData) (head : Head) (others : List Head) → AreLogs (rests_of logs (head ∷ others)) → AreLogs (rests_of logs (placed head others))
placed_logs logs head [] h = h
placed_logs logs head (other ∷ others) h =
    cond_both (is_newer head.stamp other.stamp) (other ∷ placed head others) (head ∷ other ∷ others) (λ (heads : List Head). AreLogs (rests_of logs heads))
    (λ newer. (h.2.0, (λ x. by_side x (h.1 x) (h.2.1 x)), placed_logs logs head others (without_second logs head other others h)))
    (λ older. h)
  where
    by_side : (x : ℕ) → (filter (is_of_node x) (rest_of logs head) ≡ []) ⊎ (filter (is_of_node x) (rest_of logs other ++ all_entries (rests_of logs others)) ≡ [])
        → (filter (is_of_node x) (rest_of logs other) ≡ []) ⊎ (by_node (rests_of logs others) x ≡ [])
        → (filter (is_of_node x) (rest_of logs other) ≡ []) ⊎ (by_node (rests_of logs (placed head others)) x ≡ [])
    by_side x (inr none) later = inl (filter_parts x (rest_of logs other) (all_entries (rests_of logs others)) none).0
    by_side x (inl none) (inl empty) = inl empty
    by_side x (inl none) (inr empty) = inr ((placed_same logs head others (without_second logs head other others h)).parts x
        ∙ (filter-append (is_of_node x) (rest_of logs head) (all_entries (rests_of logs others))
        ∙ join_empty (filter (is_of_node x) (rest_of logs head)) (by_node (rests_of logs others) x) none empty))

placed_all : (P : Head → Type 0) (head : Head) (others : List Head) → P head → AllByRecursion P others → AllByRecursion P (placed head others)
placed_all P head [] p h = (p, tt)
placed_all P head (other ∷ others) p h =
    cond_both (is_newer head.stamp other.stamp) (other ∷ placed head others) (head ∷ other ∷ others) (AllByRecursion P)
    (λ newer. (h.0, placed_all P head others p h.1)) (λ older. (p, h))

-- the first entries of two logs are one before the other
firsts_beside : (first second more : List Logged) (a b : Stamp) → first_stamp first ≡ Some a → first_stamp second ≡ Some b → AreNodesApart first (second ++ more)
    → IsTrue (is_newer b a) ⊎ IsTrue (is_newer a b)
firsts_beside [] second more a b e f h = cc
firsts_beside (entry ∷ rest) [] more a b e f h = cc
firsts_beside (entry ∷ rest) (other ∷ others) more a b e f h =
    subst (λ (s : Stamp). IsTrue (is_newer b s) ⊎ IsTrue (is_newer s b)) (some_equal entry.made.stamp a e)
    (subst (λ (s : Stamp). IsTrue (is_newer s entry.made.stamp) ⊎ IsTrue (is_newer entry.made.stamp s)) (some_equal other.made.stamp b f)
    (beside_by_node (entry ∷ rest) (other ∷ (others ++ more)) h).0.0)

placed_order : (logs : List RunData) (head : Head) (others : List Head) → AllByRecursion (IsHead logs) (head ∷ others) → AreLogs (rests_of logs (head ∷ others))
    → AreHeadsInOrder others → AreHeadsInOrder (placed head others)
placed_order logs head [] each apart order = (tt, tt)
placed_order logs head (other ∷ others) each apart order =
    cond_both (is_newer head.stamp other.stamp) (other ∷ placed head others) (head ∷ other ∷ others) AreHeadsInOrder
    (λ newer. (
      placed_all (λ (later : Head). IsTrue (is_newer later.stamp other.stamp)) head others newer order.0,
      placed_order logs head others (each.0, each.1.1) (without_second logs head other others apart) order.1,
    ))
    (λ older. let first = head_first older (firsts_beside (rest_of logs head) (rest_of logs other) (all_entries (rests_of logs others)) head.stamp other.stamp each.0 each.1.0 apart.1) in (
      (
        first,
        all_weaker (λ (later : Head). IsTrue (is_newer later.stamp other.stamp)) (λ (later : Head). IsTrue (is_newer later.stamp head.stamp))
            (λ (later : Head) after. newer_in_turn later.stamp other.stamp head.stamp after first) others order.0,
      ),
      order,
    ))
  where
    head_first : is_newer head.stamp other.stamp ≡ false → IsTrue (is_newer other.stamp head.stamp) ⊎ IsTrue (is_newer head.stamp other.stamp)
        → IsTrue (is_newer other.stamp head.stamp)
    head_first older (inl first) = first
    head_first older (inr newer) = absurd (both_ways (is_newer head.stamp other.stamp) older newer)

pub placed_heads : (logs : List RunData) (head : Head) (others : List Head) → AllByRecursion (IsHead logs) (head ∷ others) → AreLogs (rests_of logs (head ∷ others))
    → AreHeadsInOrder others → AreHeads logs (placed head others)
placed_heads logs head others each apart order = record {
  each = placed_all (IsHead logs) head others each.0 each.1;
  order = placed_order logs head others each apart order;
  apart = placed_logs logs head others apart;
}

-- the head and the next one change places
next_place : (heads : List Head) (k : ℕ) (a b : Head) → suc k < length heads → a ≡ slice_index_or heads k a → b ≡ slice_index_or heads (suc k) b
    → is_newer a.stamp b.stamp ≡ true
    → take (suc k) (slice_set (slice_set heads k b) (suc k) a) ++ settled_heads (drop (suc k) (slice_set (slice_set heads k b) (suc k) a)) ≡ take k heads ++ settled_heads (drop k heads)
next_place [] k a b h is_a is_b newer = absurd (omega (arith, h))
next_place (x ∷ []) zero a b h is_a is_b newer = absurd (omega (arith, h))
next_place (x ∷ y ∷ rest) zero a b h is_a is_b newer =
    ap (λ (z : Head). z ∷ placed a rest) is_b
    ∙ (ap (λ (z : Head). y ∷ placed z rest) is_a
    ∙ sym (cond-true (is_newer x.stamp y.stamp) (y ∷ placed x rest) (x ∷ y ∷ rest)
    (ap (λ (z : Head). is_newer x.stamp z.stamp) (sym is_b) ∙ (ap (λ (z : Head). is_newer z.stamp b.stamp) (sym is_a) ∙ newer))))
next_place (x ∷ rest) (suc k) a b h is_a is_b newer = ap (λ (heads : List Head). x ∷ heads) (next_place rest k a b (omega (arith, h)) is_a is_b newer)

-- the head stays where it is
stays : (heads : List Head) (k : ℕ) (a b : Head) → suc k < length heads → a ≡ slice_index_or heads k a → b ≡ slice_index_or heads (suc k) b
    → is_newer a.stamp b.stamp ≡ false → take k heads ++ settled_heads (drop k heads) ≡ heads
stays [] k a b h is_a is_b older = absurd (omega (arith, h))
stays (x ∷ []) zero a b h is_a is_b older = absurd (omega (arith, h))
stays (x ∷ y ∷ rest) zero a b h is_a is_b older =
    cond-false (is_newer x.stamp y.stamp) (y ∷ placed x rest) (x ∷ y ∷ rest)
    (ap (λ (z : Head). is_newer x.stamp z.stamp) (sym is_b) ∙ (ap (λ (z : Head). is_newer z.stamp b.stamp) (sym is_a) ∙ older))
stays (x ∷ rest) (suc k) a b h is_a is_b older = ap (λ (heads : List Head). x ∷ heads) (stays rest k a b (omega (arith, h)) is_a is_b older)

stays_last : (heads : List Head) (k : ℕ) → length heads ≤ suc k → take k heads ++ settled_heads (drop k heads) ≡ heads
stays_last [] zero h = refl
stays_last [] (suc k) h = refl
stays_last (x ∷ []) zero h = refl
stays_last (x ∷ y ∷ rest) zero h = absurd (omega (arith, h))
stays_last (x ∷ rest) (suc k) h = ap (λ (heads : List Head). x ∷ heads) (stays_last rest k (omega (arith, h)))

-- the same for the places as the loop has them
pub next_place_at : (heads : List Head) (j k next : ℕ) (a b : Head) → k ≡ suc j → next ≡ k → k < length heads → a ≡ slice_index_or heads j a → b ≡ slice_index_or heads k b
    → is_newer a.stamp b.stamp ≡ true
    → take next (slice_set (slice_set heads j b) k a) ++ settled_heads (drop next (slice_set (slice_set heads j b) k a)) ≡ take j heads ++ settled_heads (drop j heads)
next_place_at heads j k next a b e f h is_a is_b newer =
    subst (λ (n : ℕ). take n (slice_set (slice_set heads j b) k a) ++ settled_heads (drop n (slice_set (slice_set heads j b) k a)) ≡ take j heads ++ settled_heads (drop j heads)) (sym f)
    (subst (λ (n : ℕ). take n (slice_set (slice_set heads j b) n a) ++ settled_heads (drop n (slice_set (slice_set heads j b) n a)) ≡ take j heads ++ settled_heads (drop j heads)) (sym e)
    (next_place heads j a b (subst (λ (n : ℕ). n < length heads) e h) is_a (subst (λ (n : ℕ). b ≡ slice_index_or heads n b) e is_b) newer))

pub stays_at : (heads : List Head) (j k : ℕ) (a b : Head) → k ≡ suc j → k < length heads → a ≡ slice_index_or heads j a → b ≡ slice_index_or heads k b
    → is_newer a.stamp b.stamp ≡ false → take j heads ++ settled_heads (drop j heads) ≡ heads
stays_at heads j k a b e h is_a is_b older =
    stays heads j a b (subst (λ (n : ℕ). n < length heads) e h) is_a (subst (λ (n : ℕ). b ≡ slice_index_or heads n b) e is_b) older

pub stays_at_last : (heads : List Head) (j k : ℕ) → k ≡ suc j → length heads ≤ k → take j heads ++ settled_heads (drop j heads) ≡ heads
stays_at_last heads j k e h = stays_last heads j (subst (λ (n : ℕ). length heads ≤ n) e h)

-- The heads are found, from the last log to the first.

logs_from : (logs : List RunData) (k : ℕ) → AreLogs logs → AreLogs (drop k logs)
logs_from logs zero h = h
logs_from [] (suc k) h = tt
logs_from (log ∷ logs) (suc k) h = logs_from logs k h.2

-- the logs from a place on
record Onward (logs : List RunData) (k : ℕ) (entries : List Logged) : Type 0 where
  rising : AreRising entries
  apart : (x : ℕ) → (filter (is_of_node x) entries ≡ []) ⊎ (by_node (drop (k + 1) logs) x ≡ [])
  parts : (x : ℕ) → by_node (drop k logs) x ≡ filter (is_of_node x) entries ++ by_node (drop (k + 1) logs) x
  count : length (all_entries (drop k logs)) ≡ length entries + length (all_entries (drop (k + 1) logs))

onward : (logs : List RunData) (k : ℕ) → AreLogs logs → k < length logs → Onward logs k (entries_in (slice_get logs k))
onward logs k h inside =
    let at = stands logs k inside in
    let are = subst AreLogs at.here (logs_from logs k h) in
    subst (Onward logs k) (sym (ap entries_in at.found)) (record {
      rising = are.0;
      apart = λ x. are.1 x;
      parts = λ x. ap (λ (l : List RunData). by_node l x) at.here ∙ filter-append (is_of_node x) at.first.entries (all_entries (drop (k + 1) logs));
      count = omega (arith, ap (λ (l : List RunData). length (all_entries l)) at.here, length-append at.first.entries (all_entries (drop (k + 1) logs)));
    })

pub head_found : (logs : List RunData) (k : ℕ) (head : Head) (heads : List Head) → AreLogs logs → k < length logs → IsHeadAt logs k 0 (Some head)
    → Begins logs (k + 1) heads → Begins logs k (placed head heads)
head_found logs k head heads h inside at begun =
    let rest : rest_of logs head ≡ entries_in (slice_get logs k) =
    ap (λ (n : ℕ). drop head.place (entries_in (slice_get logs n))) at.1 ∙ ap (λ (n : ℕ). drop n (entries_in (slice_get logs k))) at.2 in
    let on = subst (Onward logs k) (sym rest) (onward logs k h inside) in
    let apart : AreLogs (rests_of logs (head ∷ heads)) = (on.rising, (λ x. by_side x (on.apart x)), begun.are_heads.apart) in
    let moved = placed_same logs head heads apart in
    record {
      are_heads = placed_heads logs head heads (at.0, begun.are_heads.each) apart begun.are_heads.order;
      same = record {
        parts = λ x. moved.parts x
            ∙ (filter-append (is_of_node x) (rest_of logs head) (all_entries (rests_of logs heads))
            ∙ (ap (λ (l : List Logged). filter (is_of_node x) (rest_of logs head) ++ l) (begun.same.parts x) ∙ sym (on.parts x)));
        count = omega (arith, moved.count, length-append (rest_of logs head) (all_entries (rests_of logs heads)), begun.same.count, on.count);
      };
    }
  where
    by_side : (x : ℕ) → (filter (is_of_node x) (rest_of logs head) ≡ []) ⊎ (by_node (drop (k + 1) logs) x ≡ [])
        → (filter (is_of_node x) (rest_of logs head) ≡ []) ⊎ (by_node (rests_of logs heads) x ≡ [])
    by_side x (inl none) = inl none
    by_side x (inr none) = inr (begun.same.parts x ∙ none)

pub none_found : (logs : List RunData) (k : ℕ) (heads : List Head) → AreLogs logs → k < length logs → IsHeadAt logs k 0 None
    → Begins logs (k + 1) heads → Begins logs k heads
none_found logs k heads h inside none begun =
    let on = subst (Onward logs k) none (onward logs k h inside) in
    record {
      are_heads = begun.are_heads;
      same = record { parts = λ x. begun.same.parts x ∙ sym (on.parts x); count = omega (arith, begun.same.count, on.count) };
    }

-- past the last log there is no head
pub at_the_end : (logs : List RunData) (k : ℕ) → length logs ≤ k → Begins logs k []
at_the_end logs k past =
    let none = drop_all k logs past in
    record {
      are_heads = record { each = tt; order = tt; apart = tt };
      same = record { parts = λ x. sym (ap (λ (l : List RunData). by_node l x) none); count = sym (ap (λ (l : List RunData). length (all_entries l)) none) };
    }
