-- The ring set: the clients that remain when those that wait for none that remains are taken away.
use Rattle.std.proofs.Common.{◌≡◌, ℕ, zero, suc, ◌+◌, ◌<◌, ◌≤◌, inl, inr, List, [], ◌∷◌, length, Bool, true, false, refl, sym, ap, subst, arith, ◌≢◌, ◌++◌, Option, Some, ◌∙◌, None, ◌⊎◌, if◌then◌else◌, filter, Contains, ◌||◌, ◌==◌, eqb-true, eq-eqb}
use Rattle.std.specs.List.{list_any, IsDistinct}
use Rattle.std.proofs.lemmas.List.FromFn.{length-range_with_len, get_or-range_with_len}
use Rattle.std.proofs.lemmas.Bool.{false≢true}
use Rattle.std.proofs.lemmas.List.{length_push}
use Rattle.std.proofs.lemmas.List.Elements.{Contains-push_cases}
use Rattle.std.proofs.lemmas.Map.Keys.{IsDistinct-push, IsDistinct-tail}
use Rattle.std.proofs.lemmas.Map.Steps.{length-le_from_distinct_below}
use Rattle.std.proofs.lemmas.Cmp.{nat_eq_equiv}
use Rattle.lt_lists.proofs.Members.{contains_filter, contains_filtered, list_any-at, list_any-which, contains_first, contains_later, contains_cases, none_in}
use Rattle.lt_spec.specs.Rings.{Graph, numbers_below, still_waiting, remaining, ring_set, AreBelow, first_or, IsPath, IsRing, next_among, has_come, from_coming, ring_from, ring_of, walk_on, walk_end_from}
use Rattle.lt_law_waiting.specs.ReportLaws.{RingSetWaits, RingSetIsGreatest, WalkFindsRing, NoRing, WalksEnd}
use Rattle.lt_law_waiting.proofs.KeptAsks.{find_some, find_none, find_is}

-- the numbers (numbers_below n)
pub in_below : (n c : ℕ) → c < n → Contains (numbers_below n) c
in_below n c h = (c, omega (arith, h, length-range_with_len 0 n), omega (arith, get_or-range_with_len 0 n c c h))

pub below_in : (n c : ℕ) → Contains (numbers_below n) c → c < n
below_in n c (i, within, is) =
    let short : i < n = omega (arith, within, length-range_with_len 0 n) in
    omega (arith, short, is, get_or-range_with_len 0 n i c short)

-- what is left
pub remaining_below : (graph : Graph) (n k c : ℕ) → Contains (remaining graph (numbers_below n) k) c → c < n
remaining_below graph n zero c there = below_in n c there
remaining_below graph n (suc k) c there =
    remaining_below graph n k c (contains_filtered (λ x. list_any (graph x) (remaining graph (numbers_below n) k)) (remaining graph (numbers_below n) k) c there).0

-- all pass, or the list gets shorter
filtered : {X : Type 0} (test : X → Bool) (xs : List X) → (filter test xs ≡ xs) ⊎ (length (filter test xs) < length xs)
filtered test [] = inl refl
filtered test (x ∷ rest) = by_test (test x) (filtered test rest)
  where
    by_test : (t : Bool) → (filter test rest ≡ rest) ⊎ (length (filter test rest) < length rest)
        → ((if t then x ∷ filter test rest else filter test rest) ≡ x ∷ rest) ⊎ (length (if t then x ∷ filter test rest else filter test rest) < length (x ∷ rest))
    by_test true (inl e) = inl (ap (λ (l : List _). x ∷ l) e)
    by_test true (inr less) = inr (omega (arith, less))
    by_test false (inl e) = inr (omega (arith, ap length e))
    by_test false (inr less) = inr (omega (arith, less))

settles : (graph : Graph) (clients : List ℕ) (k : ℕ) → (still_waiting graph (remaining graph clients k) ≡ remaining graph clients k) ⊎ (length (remaining graph clients k) + k ≤ length clients)
settles graph clients zero = inr (omega arith)
settles graph clients (suc k) = by_cases (settles graph clients k) (filtered (λ c. list_any (graph c) (remaining graph clients k)) (remaining graph clients k))
  where
    now : List ℕ
    now = remaining graph clients k

    by_cases : (still_waiting graph now ≡ now) ⊎ (length now + k ≤ length clients) → (still_waiting graph now ≡ now) ⊎ (length (still_waiting graph now) < length now)
        → (still_waiting graph (still_waiting graph now) ≡ still_waiting graph now) ⊎ (length (still_waiting graph now) + suc k ≤ length clients)
    by_cases (inl e) other = inl (ap (still_waiting graph) e)
    by_cases (inr few) (inl e) = inl (ap (still_waiting graph) e)
    by_cases (inr few) (inr less) = inr (omega (arith, few, less))

settled : (n : ℕ) (graph : Graph) → still_waiting graph (ring_set n graph) ≡ ring_set n graph
settled n graph = by_cases (settles graph (numbers_below n) n)
  where
    empty : (xs : List ℕ) → length xs ≡ 0 → still_waiting graph xs ≡ xs
    empty [] e = refl
    empty (x ∷ rest) e = absurd (omega (arith, e))

    by_cases : (still_waiting graph (ring_set n graph) ≡ ring_set n graph) ⊎ (length (ring_set n graph) + n ≤ length (numbers_below n)) → still_waiting graph (ring_set n graph) ≡ ring_set n graph
    by_cases (inl e) = e
    by_cases (inr few) = empty (ring_set n graph) (omega (arith, few, length-range_with_len 0 n))

pub ring_next : (n : ℕ) (graph : Graph) (c : ℕ) → Contains (ring_set n graph) c → list_any (graph c) (ring_set n graph) ≡ true
ring_next n graph c there =
    (contains_filtered (λ x. list_any (graph x) (ring_set n graph)) (ring_set n graph) c (subst (λ (l : List ℕ). Contains l c) (sym (settled n graph)) there)).1

pub ring_set_waits : RingSetWaits
ring_set_waits n graph c there =
    let next = list_any-which (graph c) (ring_set n graph) (ring_next n graph c there) in
    (remaining_below graph n n c there, next.0, next.1, next.2)

pub ring_set_is_greatest : RingSetIsGreatest
ring_set_is_greatest n graph clients under waits c there = stays n c there
  where
    stays : (k c : ℕ) → Contains clients c → Contains (remaining graph (numbers_below n) k) c
    stays zero c there = in_below n c (under c there)
    stays (suc k) c there =
        let next = waits c there in
        contains_filter (λ x. list_any (graph x) (remaining graph (numbers_below n) k)) (remaining graph (numbers_below n) k) c (stays k c there)
        (list_any-at (graph c) (remaining graph (numbers_below n) k) next.0 (stays k next.0 next.1) next.2)

-- The walk in the ring set finds a ring.

-- a path that goes one client further
path_further : (graph : Graph) (walk : List ℕ) (c d : ℕ) → IsPath graph walk c → graph c d ≡ true → IsPath graph (walk ++ c ∷ []) d
path_further graph [] c d path on = (on, tt)
path_further graph (a ∷ rest) c d path on = (subst (λ (x : ℕ). graph a x ≡ true) (same rest) path.0, path_further graph rest c d path.1 on)
  where
    same : (xs : List ℕ) → first_or c xs ≡ first_or d (xs ++ c ∷ [])
    same [] = refl
    same (x ∷ more) = refl

-- the part of a walk from a client on is a ring, where the walk leads to that client
ring_closes : (graph : Graph) (walk : List ℕ) (c : ℕ) → IsPath graph walk c → has_come walk c ≡ true → IsRing graph (from_coming walk c)
ring_closes graph [] c path come = absurd (false≢true come)
ring_closes graph (d ∷ rest) c path come = by_test (d == c) refl (λ f. ring_closes graph rest c path.1 f)
  where
    by_test : (here : Bool) → (d == c) ≡ here → (has_come rest c ≡ true → IsRing graph (from_coming rest c)) → IsRing graph (if here then d ∷ rest else from_coming rest c)
    by_test true e again = subst (IsPath graph (d ∷ rest)) (sym (eqb-true d c e)) path
    by_test false e again = again (later (c == d) refl come)
      where
        later : (same : Bool) → (c == d) ≡ same → (same || has_come rest c) ≡ true → has_come rest c ≡ true
        later true f g = absurd (false≢true (sym e ∙ eq-eqb d c (sym (eqb-true c d f))))
        later false f g = g

coming_among : (walk : List ℕ) (c d : ℕ) → Contains (from_coming walk c) d → Contains walk d
coming_among [] c d there = there
coming_among (x ∷ rest) c d there = by_test (x == c) there (λ f. coming_among rest c d f)
  where
    by_test : (here : Bool) → Contains (if here then x ∷ rest else from_coming rest c) d → (Contains (from_coming rest c) d → Contains rest d) → Contains (x ∷ rest) d
    by_test true f again = f
    by_test false f again = contains_later x d rest (again f)

coming_distinct : (walk : List ℕ) (c : ℕ) → IsDistinct (λ a b. a == b) walk → IsDistinct (λ a b. a == b) (from_coming walk c)
coming_distinct [] c h = h
coming_distinct (x ∷ rest) c h = by_test (x == c) (coming_distinct rest c (IsDistinct-tail (λ a b. a == b) x rest h))
  where
    by_test : (here : Bool) → IsDistinct (λ a b. a == b) (from_coming rest c) → IsDistinct (λ a b. a == b) (if here then x ∷ rest else from_coming rest c)
    by_test true again = h
    by_test false again = again

-- what is found of a walk
record FindsRing (graph : Graph) (clients ring : List ℕ) : Type 0 where
  is_ring : IsRing graph ring
  among : (c : ℕ) → Contains ring c → Contains clients c
  distinct : IsDistinct (λ a b. a == b) ring

push_cases : (xs : List ℕ) (c d : ℕ) → Contains (xs ++ c ∷ []) d → Contains xs d ⊎ (c ≡ d)
push_cases xs c d there = Contains-push_cases xs c d there

finds_ring : (fuel n : ℕ) (graph : Graph) (clients walk : List ℕ) (c : ℕ) → AreBelow n clients → ((x : ℕ) → Contains clients x → list_any (graph x) clients ≡ true)
    → ((x : ℕ) → Contains walk x → Contains clients x) → Contains clients c → IsPath graph walk c → IsDistinct (λ a b. a == b) walk → n < length walk + fuel
    → FindsRing graph clients (ring_from fuel graph clients walk (Some c))
finds_ring zero n graph clients walk c under waits among there path distinct long =
    absurd (omega (
      arith,
      long,
      length-le_from_distinct_below walk n distinct (λ q found.
          let which = list_any-which (λ d. q == d) walk found in
          subst (λ (x : ℕ). x < n) (sym (eqb-true q which.0 which.2)) (under which.0 (among which.0 which.1))),
    ))
finds_ring (suc fuel) n graph clients walk c under waits among there path distinct long = by_come (has_come walk c) refl
    (λ d on there_too apart. finds_ring fuel n graph clients (walk ++ c ∷ []) d under waits
    (λ x found. elim (push_cases walk c x found) [
      | inl old ↦ among x old
      | inr new ↦ subst (Contains clients) new there
    ]) there_too (path_further graph walk c d path on) (IsDistinct-push nat_eq_equiv walk c distinct apart) (omega (arith, long, length_push walk c)))
  where
    by_come : (come : Bool) → has_come walk c ≡ come
        → ((d : ℕ) → graph c d ≡ true → Contains clients d → has_come walk c ≡ false → FindsRing graph clients (ring_from fuel graph clients (walk ++ c ∷ []) (Some d)))
        → FindsRing graph clients (if come then from_coming walk c else ring_from fuel graph clients (walk ++ c ∷ []) (next_among graph clients c))
    by_come true e again = record {
      is_ring = ring_closes graph walk c path e;
      among = λ x found. among x (coming_among walk c x found);
      distinct = coming_distinct walk c distinct;
    }
    by_come false e again =
        let next = find_some (graph c) clients (waits c there) in
        subst (λ (o : Option ℕ). FindsRing graph clients (ring_from fuel graph clients (walk ++ c ∷ []) o)) (sym next.1) (again next.0 next.3 next.2 e)

ring_found : (n : ℕ) (graph : Graph) → (clients : List ℕ) → ring_set n graph ≡ clients → clients ≢ [] → FindsRing graph clients (ring_of n graph clients)
unfolding IsDistinct
ring_found n graph [] e some = absurd (some refl)
ring_found n graph (c ∷ rest) e some =
    finds_ring (n + 1) n graph (c ∷ rest) [] c (λ x there. remaining_below graph n n x (subst (λ (l : List ℕ). Contains l x) (sym e) there))
    (λ x there. subst (λ (l : List ℕ). list_any (graph x) l ≡ true) e (ring_next n graph x (subst (λ (l : List ℕ). Contains l x) (sym e) there)))
    (λ x there. absurd (none_in x there)) (contains_first c c rest refl) tt tt (omega arith)

pub walk_finds_ring : WalkFindsRing
walk_finds_ring n graph some =
    let found = ring_found n graph (ring_set n graph) refl some in
    (found.is_ring, found.among, found.distinct)

-- each client of a ring waits for one of it
path_waits : (graph : Graph) (clients part : List ℕ) (goal : ℕ) → IsPath graph part goal → ((x : ℕ) → Contains part x → Contains clients x) → Contains clients goal
    → (c : ℕ) → Contains part c → (d : ℕ) × Contains clients d × (graph c d ≡ true)
path_waits graph clients [] goal path among there c found = none_in c found
path_waits graph clients (a ∷ rest) goal path among there c found = elim (contains_cases a c rest found) [
  | inl e ↦ subst (λ (x : ℕ). (d : ℕ) × Contains clients d × (graph x d ≡ true)) e (first_or goal rest, next rest (λ x f. among x (contains_later a x rest f)), path.0)
  | inr later ↦ path_waits graph clients rest goal path.1 (λ x f. among x (contains_later a x rest f)) there c later
]
  where
    next : (xs : List ℕ) → ((x : ℕ) → Contains xs x → Contains clients x) → Contains clients (first_or goal xs)
    next [] h = there
    next (x ∷ more) h = h x (contains_first x x more refl)

pub ring_waits : (graph : Graph) (clients : List ℕ) → IsRing graph clients → (c : ℕ) → Contains clients c → (d : ℕ) × Contains clients d × (graph c d ≡ true)
ring_waits graph [] ring c there = absurd ring
ring_waits graph (a ∷ rest) ring c there = path_waits graph (a ∷ rest) (a ∷ rest) a ring (λ x f. f) (contains_first a a rest refl) c there

pub ring_some : (graph : Graph) (clients : List ℕ) → IsRing graph clients → (c : ℕ) × Contains clients c
ring_some graph [] ring = absurd ring
ring_some graph (c ∷ rest) ring = (c, contains_first c c rest refl)

pub no_ring : NoRing
no_ring n graph none clients under ring =
    let first = ring_some graph clients ring in
    none_in first.0 (subst (λ (l : List ℕ). Contains l first.0) none (ring_set_is_greatest n graph clients under (ring_waits graph clients ring) first.0 first.1))

pub cons_some : {A : Type 0} (c : ℕ) (rest : List ℕ) → c ∷ rest ≡ [] → A
cons_some c rest e = cc

-- where the ring set has a member, clients of the n wait in a ring
pub ring_in_set : (n : ℕ) (graph : Graph) → ring_set n graph ≢ [] → (ring : List ℕ) × AreBelow n ring × IsRing graph ring
ring_in_set n graph some =
    let found = walk_finds_ring n graph some in
    (ring_of n graph (ring_set n graph), λ c among. remaining_below graph n n c (found.1 c among), found.0)

-- Where no clients wait in a ring, each walk ends.

-- a walk from c that ends at d
record WalkEnds (n : ℕ) (graph : Graph) (c d : ℕ) : Type 0 where
  under : d < n
  ended : (e : ℕ) → e < n → graph d e ≡ false
  last : (c ≡ d) ⊎ ((p : ℕ) × (p < n) × (graph p d ≡ true))

none_of : (n : ℕ) (graph : Graph) (c : ℕ) → list_any (graph c) (numbers_below n) ≡ false → (e : ℕ) → e < n → graph c e ≡ false
none_of n graph c none e h = by_test (graph c e) refl
  where
    by_test : (t : Bool) → graph c e ≡ t → t ≡ false
    by_test false f = refl
    by_test true f = absurd (false≢true (sym none ∙ list_any-at (graph c) (numbers_below n) e (in_below n e h) f))

-- a client that isn't left after k rounds ends within k steps
ends_within : (n : ℕ) (graph : Graph) (k fuel c : ℕ) → k ≤ fuel → c < n → (Contains (remaining graph (numbers_below n) k) c → ⊥) → WalkEnds n graph c (walk_end_from fuel n graph c)
ends_within n graph zero fuel c enough h gone = absurd (gone (in_below n c h))
ends_within n graph (suc k) zero c enough h gone = absurd (omega (arith, enough))
ends_within n graph (suc k) (suc fuel) c enough h gone = by_left (list_any (λ x. x == c) left) refl
    (λ away. ends_within n graph k (suc fuel) c (omega (arith, enough)) h away)
    (λ d under away. ends_within n graph k fuel d (omega (arith, enough)) under away)
  where
    left : List ℕ
    left = remaining graph (numbers_below n) k

    by_next : Contains left c → (o : Option ℕ) → next_among graph (numbers_below n) c ≡ o → ((d : ℕ) → d < n → (Contains left d → ⊥) → WalkEnds n graph d (walk_end_from fuel n graph d))
        → WalkEnds n graph c (walk_on (walk_end_from fuel n graph) c o)
    by_next there None e again = record { under = h; ended = none_of n graph c (find_none (graph c) (numbers_below n) e); last = inl refl }
    by_next there (Some d) e again =
        let found = find_is (graph c) (numbers_below n) d e in
        let later = again d (below_in n d found.0) (λ among. gone (contains_filter (λ x. list_any (graph x) left) left c there (list_any-at (graph c) left d among found.1))) in
        record {
          under = later.under;
          ended = later.ended;
          last = elim later.last [
            | inl same ↦ inr (c, h, subst (λ (x : ℕ). graph c x ≡ true) same found.1)
            | inr before ↦ inr before
          ];
        }

    by_left : (here : Bool) → list_any (λ x. x == c) left ≡ here → ((Contains left c → ⊥) → WalkEnds n graph c (walk_end_from (suc fuel) n graph c))
        → ((d : ℕ) → d < n → (Contains left d → ⊥) → WalkEnds n graph d (walk_end_from fuel n graph d)) → WalkEnds n graph c (walk_end_from (suc fuel) n graph c)
    by_left false e away later = away (λ there. false≢true (sym e ∙ list_any-at (λ x. x == c) left c there (eq-eqb c c refl)))
    by_left true e away later =
        let which = list_any-which (λ x. x == c) left e in
        by_next (subst (Contains left) (eqb-true which.0 c which.2) which.1) (next_among graph (numbers_below n) c) refl later

pub walks_end : WalksEnd
walks_end n graph none c h =
    let ends = ends_within n graph n n c (omega arith) h (λ there. none_in c (subst (λ (l : List ℕ). Contains l c) none there)) in (
      ends.under,
      ends.ended,
      λ d under on. elim ends.last [
        | inl same ↦ absurd (false≢true (sym (ends.ended d under) ∙ subst (λ (x : ℕ). graph x d ≡ true) same on))
        | inr before ↦ before
      ],
    )
