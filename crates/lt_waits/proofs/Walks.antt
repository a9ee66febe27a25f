-- Graphs that agree on each two of n clients have one report.
use Rattle.std.proofs.Common.{◌≡◌, ℕ, zero, suc, ◌+◌, ◌<◌, ◌≤◌, List, [], ◌∷◌, ◌++◌, Option, Some, None, Bool, true, false, refl, ap, ap₂, arith, ◌∙◌, ◌-◌, length, drop, sym, subst, All, ◌||◌, if◌then◌else◌, map, filter, IfSome, ◌==◌, find, flat_map, position, eqb-true, eq-eqb}
use Rattle.std.specs.List.{AllByRecursion, list_any, range_with_len, IsDistinct, position_from}
use Rattle.std.proofs.lemmas.Bool.{false≢true, or_right}
use Rattle.std.proofs.lemmas.Cmp.{nat_eq_equiv}
use Rattle.std.proofs.lemmas.Iterator.Adapters.{position_from-zero}
use Rattle.std.proofs.lemmas.List.{length_push}
use Rattle.std.proofs.lemmas.List.Elements.{All-push}
use Rattle.std.proofs.lemmas.Map.Keys.{IsDistinct-push}
use Rattle.std.proofs.lemmas.Map.Steps.{length-le_from_distinct_below}
use Rattle.lt_lists.proofs.Members.{list_any-which}
use Rattle.lt_spec.specs.Rings.{Graph, numbers_below, still_waiting, remaining, ring_set, next_among, has_come, from_coming, ring_from, walk_on, walk_end_from, walk_end, waits_for_some, ReportLine, WaitsLine, CycleLine, NoCycleLine, EndsLine, waits_lines, ends_lines, last_lines, report, ring_of}

-- tests and functions that agree on a list
pub any_same : (p q : ℕ → Bool) (xs : List ℕ) → AllByRecursion (λ x. p x ≡ q x) xs → list_any p xs ≡ list_any q xs
any_same p q [] same = refl
any_same p q (x ∷ rest) same = ap₂ ◌||◌ same.0 (any_same p q rest same.1)

pub filter_agree : (p q : ℕ → Bool) (xs : List ℕ) → AllByRecursion (λ x. p x ≡ q x) xs → filter p xs ≡ filter q xs
filter_agree p q [] same = refl
filter_agree p q (x ∷ rest) same = ap₂ (λ (t : Bool) (l : List ℕ). if t then x ∷ l else l) same.0 (filter_agree p q rest same.1)

find_same : (p q : ℕ → Bool) (xs : List ℕ) → AllByRecursion (λ x. p x ≡ q x) xs → find p xs ≡ find q xs
find_same p q [] same = refl
find_same p q (x ∷ rest) same = ap₂ (λ (t : Bool) (o : Option ℕ). if t then Some x else o) same.0 (find_same p q rest same.1)

map_same : {Y : Type 0} (f g : ℕ → Y) (xs : List ℕ) → AllByRecursion (λ x. f x ≡ g x) xs → map f xs ≡ map g xs
map_same f g [] same = refl
map_same {Y} f g (x ∷ rest) same = ap₂ (λ (y : Y) (l : List Y). y ∷ l) same.0 (map_same f g rest same.1)

pub flat_map_same : {Y : Type 0} (f g : ℕ → List Y) (xs : List ℕ) → AllByRecursion (λ x. f x ≡ g x) xs → flat_map f xs ≡ flat_map g xs
flat_map_same f g [] same = refl
flat_map_same {Y} f g (x ∷ rest) same = ap₂ (λ (a b : List Y). a ++ b) same.0 (flat_map_same f g rest same.1)

-- what holds of each element, from what holds of each
pub all_by : (P Q : ℕ → Type 0) → ((x : ℕ) → P x → Q x) → (xs : List ℕ) → AllByRecursion P xs → AllByRecursion Q xs
all_by P Q f [] all = tt
all_by P Q f (x ∷ rest) all = (f x all.0, all_by P Q f rest all.1)

pub all_filter : (P : ℕ → Type 0) (test : ℕ → Bool) (xs : List ℕ) → AllByRecursion P xs → AllByRecursion P (filter test xs)
all_filter P test [] all = tt
all_filter P test (x ∷ rest) all = by_test (test x) (all_filter P test rest all.1)
  where
    by_test : (t : Bool) → AllByRecursion P (filter test rest) → AllByRecursion P (if t then x ∷ filter test rest else filter test rest)
    by_test true later = (all.0, later)
    by_test false later = later

find_among : (P : ℕ → Type 0) (test : ℕ → Bool) (xs : List ℕ) → AllByRecursion P xs → IfSome (find test xs) P
find_among P test [] all = tt
find_among P test (x ∷ rest) all = by_test (test x) (find_among P test rest all.1)
  where
    by_test : (t : Bool) → IfSome (find test rest) P → IfSome (if t then Some x else find test rest) P
    by_test true later = all.0
    by_test false later = later

range_below : (n a k : ℕ) → a + k ≤ n → AllByRecursion (λ x. x < n) (range_with_len a k)
range_below n a zero h = tt
range_below n a (suc k) h = (omega (arith, h), range_below n (a + 1) k (omega (arith, h)))

-- these are clients of the n
abbrev pub AreClients : ℕ → List ℕ → Type 0
AreClients n xs = AllByRecursion (λ x. x < n) xs

module _ (n : ℕ) (a b : Graph) (same : (c d : ℕ) → c < n → d < n → a c d ≡ b c d) where
  pub all_clients : AreClients n (numbers_below n)
  all_clients = range_below n 0 n (omega arith)

  pub rows : (c : ℕ) → c < n → (xs : List ℕ) → AreClients n xs → AllByRecursion (λ d. a c d ≡ b c d) xs
  rows c h xs all = all_by (λ d. d < n) (λ d. a c d ≡ b c d) (λ d k. same c d h k) xs all

  still_same : (xs : List ℕ) → AreClients n xs → still_waiting a xs ≡ still_waiting b xs
  still_same xs all =
      filter_agree (λ c. list_any (a c) xs) (λ c. list_any (b c) xs) xs
      (all_by (λ c. c < n) (λ c. list_any (a c) xs ≡ list_any (b c) xs) (λ c h. any_same (a c) (b c) xs (rows c h xs all)) xs all)

  remain_clients : (k : ℕ) → AreClients n (remaining a (numbers_below n) k)
  remain_clients zero = all_clients
  remain_clients (suc k) = all_filter (λ x. x < n) (λ c. list_any (a c) (remaining a (numbers_below n) k)) (remaining a (numbers_below n) k) (remain_clients k)

  remain_same : (k : ℕ) → remaining a (numbers_below n) k ≡ remaining b (numbers_below n) k
  remain_same zero = refl
  remain_same (suc k) = still_same (remaining a (numbers_below n) k) (remain_clients k) ∙ ap (still_waiting b) (remain_same k)

  pub next_same : (xs : List ℕ) (c : ℕ) → AreClients n xs → c < n → next_among a xs c ≡ next_among b xs c
  next_same xs c all h = find_same (a c) (b c) xs (rows c h xs all)

  walk_same : (fuel : ℕ) (xs walk : List ℕ) (o : Option ℕ) → AreClients n xs → IfSome o (λ c. c < n) → ring_from fuel a xs walk o ≡ ring_from fuel b xs walk o
  walk_same zero xs walk None all h = refl
  walk_same (suc fuel) xs walk None all h = refl
  walk_same zero xs walk (Some c) all h = refl
  walk_same (suc fuel) xs walk (Some c) all h =
      ap (λ (l : List ℕ). if has_come walk c then from_coming walk c else l)
      (walk_same fuel xs (walk ++ c ∷ []) (next_among a xs c) all (find_among (λ d. d < n) (a c) xs all)
      ∙ ap (ring_from fuel b xs (walk ++ c ∷ [])) (next_same xs c all h))

  end_same : (fuel c : ℕ) → c < n → walk_end_from fuel n a c ≡ walk_end_from fuel n b c
  end_same zero c h = refl
  end_same (suc fuel) c h =
      by_next (λ d k. end_same fuel d k) (next_among a (numbers_below n) c) (find_among (λ d. d < n) (a c) (numbers_below n) all_clients)
      ∙ ap (walk_on (walk_end_from fuel n b) c) (next_same (numbers_below n) c all_clients h)
    where
      by_next : ((d : ℕ) → d < n → walk_end_from fuel n a d ≡ walk_end_from fuel n b d) → (o : Option ℕ) → IfSome o (λ d. d < n) → walk_on (walk_end_from fuel n a) c o ≡ walk_on (walk_end_from fuel n b) c o
      by_next later None k = refl
      by_next later (Some d) k = later d k

  waits_same : waits_lines n a ≡ waits_lines n b
  waits_same =
      flat_map_same (λ c. map (WaitsLine c) (filter (a c) (numbers_below n))) (λ c. map (WaitsLine c) (filter (b c) (numbers_below n))) (numbers_below n)
      (all_by (λ c. c < n) (λ c. map (WaitsLine c) (filter (a c) (numbers_below n)) ≡ map (WaitsLine c) (filter (b c) (numbers_below n)))
      (λ c h. ap (map (WaitsLine c)) (filter_agree (a c) (b c) (numbers_below n) (rows c h (numbers_below n) all_clients))) (numbers_below n) all_clients)

  ends_same : ends_lines n a ≡ ends_lines n b
  ends_same =
      map_same (λ c. EndsLine c (walk_end n a c)) (λ c. EndsLine c (walk_end n b c)) (filter (waits_for_some n a) (numbers_below n))
      (all_by (λ c. c < n) (λ c. EndsLine c (walk_end n a c) ≡ EndsLine c (walk_end n b c)) (λ c h. ap (EndsLine c) (end_same n c h))
      (filter (waits_for_some n a) (numbers_below n)) (all_filter (λ c. c < n) (waits_for_some n a) (numbers_below n) all_clients))
      ∙ ap (map (λ c. EndsLine c (walk_end n b c)))
      (filter_agree (waits_for_some n a) (waits_for_some n b) (numbers_below n)
      (all_by (λ c. c < n) (λ c. waits_for_some n a c ≡ waits_for_some n b c) (λ c h. any_same (a c) (b c) (numbers_below n) (rows c h (numbers_below n) all_clients)) (numbers_below n) all_clients))

  last_same : (members : List ℕ) → AreClients n members → last_lines n a members ≡ last_lines n b members
  last_same [] all = ap (λ (l : List ReportLine). NoCycleLine ∷ l) ends_same
  last_same (c ∷ rest) all = ap (λ (l : List ℕ). CycleLine l ∷ []) (walk_same (n + 1) (c ∷ rest) [] (Some c) all all.0)

  pub report_same : report n a ≡ report n b
  report_same =
      ap₂ (λ (x y : List ReportLine). x ++ y) waits_same (last_same (ring_set n a) (remain_clients n) ∙ ap (last_lines n b) (remain_same n))

-- A walk from client to client, step by step.

-- where the client waits for nobody, the walk ends there, however many steps are left
pub walk_stops : (fuel n : ℕ) (graph : Graph) (c : ℕ) → next_among graph (numbers_below n) c ≡ None → walk_end_from fuel n graph c ≡ c
walk_stops zero n graph c e = refl
walk_stops (suc fuel) n graph c e = ap (walk_on (walk_end_from fuel n graph) c) e

-- where it waits for one, the walk goes on there
pub walk_steps : (fuel n : ℕ) (graph : Graph) (c d : ℕ) → next_among graph (numbers_below n) c ≡ Some d → walk_end_from (suc fuel) n graph c ≡ walk_end_from fuel n graph d
walk_steps fuel n graph c d e = ap (walk_on (walk_end_from fuel n graph) c) e

same_back : (c d : ℕ) → (d == c) ≡ true → (c == d) ≡ true
same_back c d e = eq-eqb c d (sym (eqb-true d c e))

other_back : (c d : ℕ) → (d == c) ≡ false → (c == d) ≡ false
other_back c d e = by_test (c == d) refl
  where
    by_test : (t : Bool) → (c == d) ≡ t → t ≡ false
    by_test true f = absurd (false≢true (sym e ∙ same_back d c f))
    by_test false f = refl

-- a client that stands on the walk at this place
record ComesAt (walk : List ℕ) (c steps : ℕ) : Type 0 where
  come : has_come walk c ≡ true
  on : from_coming walk c ≡ drop steps walk

comes_from : (walk : List ℕ) (c k place : ℕ) → position_from (λ d. d == c) k walk ≡ Some place → (steps : ℕ) × (k + steps ≡ place) × ComesAt walk c steps
comes_from [] c k place e = cc
comes_from (d ∷ rest) c k place e = by_test (d == c) refl e (comes_from rest c (k + 1) place)
  where
    by_test : (t : Bool) → (d == c) ≡ t → (if t then Some k else position_from (λ x. x == c) (k + 1) rest) ≡ Some place
        → (position_from (λ x. x == c) (k + 1) rest ≡ Some place → (steps : ℕ) × (k + 1 + steps ≡ place) × ComesAt rest c steps)
        → (steps : ℕ) × (k + steps ≡ place) × ComesAt (d ∷ rest) c steps
    by_test true h f again =
        let here : k ≡ place = cc in
        (0, omega (arith, here), record { come = ap (λ (t : Bool). t || has_come rest c) (same_back c d h); on = ap (λ (t : Bool). if t then d ∷ rest else from_coming rest c) h })
    by_test false h f again =
        let later = again f in (
          suc later.0,
          omega (arith, later.1),
          record {
            come = or_right (c == d) (has_come rest c) later.2.come;
            on = ap (λ (t : Bool). if t then d ∷ rest else from_coming rest c) h ∙ later.2.on;
          },
        )

never_from : (walk : List ℕ) (c k : ℕ) → position_from (λ d. d == c) k walk ≡ None → has_come walk c ≡ false
never_from [] c k e = refl
never_from (d ∷ rest) c k e = by_test (d == c) refl e (never_from rest c (k + 1))
  where
    by_test : (t : Bool) → (d == c) ≡ t → (if t then Some k else position_from (λ x. x == c) (k + 1) rest) ≡ None
        → (position_from (λ x. x == c) (k + 1) rest ≡ None → has_come rest c ≡ false) → has_come (d ∷ rest) c ≡ false
    by_test true h f again = cc
    by_test false h f again = ap (λ (t : Bool). t || has_come rest c) (other_back c d h) ∙ again f

pub not_come : (walk : List ℕ) (c : ℕ) → position (λ d. d == c) walk ≡ None → has_come walk c ≡ false
not_come walk c e = never_from walk c 0 (sym (position_from-zero (λ d. d == c) walk) ∙ e)

-- the walk comes to a client a second time
pub walk_closes : (fuel : ℕ) (graph : Graph) (clients walk : List ℕ) (c place : ℕ) → position (λ d. d == c) walk ≡ Some place
    → ring_from (suc fuel) graph clients walk (Some c) ≡ drop place walk
walk_closes fuel graph clients walk c place e =
    let found = comes_from walk c 0 place (sym (position_from-zero (λ d. d == c) walk) ∙ e) in
    let here : found.0 ≡ place = omega (arith, found.1) in
    ap (λ (t : Bool). if t then from_coming walk c else ring_from fuel graph clients (walk ++ c ∷ []) (next_among graph clients c)) found.2.come
    ∙ found.2.on
    ∙ ap (λ (k : ℕ). drop k walk) here

-- the walk goes one client further
pub walk_further : (fuel : ℕ) (graph : Graph) (clients walk : List ℕ) (c : ℕ) → position (λ d. d == c) walk ≡ None
    → ring_from (suc fuel) graph clients walk (Some c) ≡ ring_from fuel graph clients (walk ++ c ∷ []) (next_among graph clients c)
walk_further fuel graph clients walk c e =
    ap (λ (t : Bool). if t then from_coming walk c else ring_from fuel graph clients (walk ++ c ∷ []) (next_among graph clients c)) (not_come walk c e)

pub still_distinct : (walk : List ℕ) (c : ℕ) → IsDistinct (λ a b. a == b) walk → position (λ d. d == c) walk ≡ None → IsDistinct (λ a b. a == b) (walk ++ c ∷ [])
still_distinct walk c distinct e = IsDistinct-push nat_eq_equiv walk c distinct (not_come walk c e)

-- the walk comes to a client that waits for none of these
pub walk_breaks : (fuel : ℕ) (graph : Graph) (clients walk : List ℕ) → ring_from fuel graph clients walk None ≡ []
walk_breaks zero graph clients walk = refl
walk_breaks (suc fuel) graph clients walk = refl

-- a walk on which no client stands twice is no longer than there are clients
pub walk_short : (walk : List ℕ) (n : ℕ) → IsDistinct (λ a b. a == b) walk → All (λ c. c < n) walk → length walk ≤ n
walk_short walk n distinct below = length-le_from_distinct_below walk n distinct (λ q found.
    let which = list_any-which (λ d. q == d) walk found in
    let at = which.1 in
    let within : which.0 < n = subst (λ (x : ℕ). x < n) at.2 (below at.0 which.0 at.1) in
    subst (λ (x : ℕ). x < n) (sym (eqb-true q which.0 which.2)) within)

-- the walk came through these clients and goes on to the next one: it ends in the ring, no client stands on it twice, and each is one of the n
pub record IsOnWalk (n : ℕ) (graph : Graph) (clients walk : List ℕ) (next : Option ℕ) : Type 0 where
  pub on : (fuel : ℕ) → fuel + length walk ≡ n + 1 → ring_from fuel graph clients walk next ≡ ring_of n graph clients
  pub below : All (λ c. c < n) walk
  pub distinct : IsDistinct (λ a b. a == b) walk
  pub next_below : IfSome next (λ c. c < n)

pub begins : (n : ℕ) (graph : Graph) (clients walk : List ℕ) (next : Option ℕ) → walk ≡ [] → next ≡ find (λ c. true) clients → IfSome next (λ c. c < n)
    → IsOnWalk n graph clients walk next
unfolding IsDistinct
begins n graph clients walk next none first below = subst (λ (w : List ℕ). IsOnWalk n graph clients w next) (sym none) (record {
  on = λ fuel h.
      let all : fuel ≡ n + 1 = omega (arith, h) in
      ap (λ (k : ℕ). ring_from k graph clients [] next) all ∙ ap (ring_from (n + 1) graph clients []) first;
  below = λ k d h. absurd (omega (arith, h));
  distinct = tt;
  next_below = below;
})

pub is_short : (n : ℕ) (graph : Graph) (clients walk : List ℕ) (next : Option ℕ) → IsOnWalk n graph clients walk next → length walk ≤ n
is_short n graph clients walk next walks = walk_short walk n walks.distinct walks.below

pub closes : (n : ℕ) (graph : Graph) (clients walk : List ℕ) (c place : ℕ) → IsOnWalk n graph clients walk (Some c) → position (λ d. d == c) walk ≡ Some place
    → drop place walk ≡ ring_of n graph clients
closes n graph clients walk c place walks e =
    let left = n - length walk in
    let short = is_short n graph clients walk (Some c) walks in
    sym (walk_closes left graph clients walk c place e) ∙ walks.on (suc left) (omega (arith, short))

pub goes_on : (n : ℕ) (graph : Graph) (clients walk after : List ℕ) (c : ℕ) (next : Option ℕ) → IsOnWalk n graph clients walk (Some c) → position (λ d. d == c) walk ≡ None
    → after ≡ walk ++ c ∷ [] → next ≡ next_among graph clients c → IfSome next (λ d. d < n) → IsOnWalk n graph clients after next
goes_on n graph clients walk after c next walks e pushed goes below = subst (λ (w : List ℕ). IsOnWalk n graph clients w next) (sym pushed) (record {
  on = λ fuel h.
      ap (ring_from fuel graph clients (walk ++ c ∷ [])) goes
      ∙ sym (walk_further fuel graph clients walk c e)
      ∙ walks.on (suc fuel) (omega (arith, h, length_push walk c));
  below = All-push (λ d. d < n) walk c walks.below walks.next_below;
  distinct = still_distinct walk c walks.distinct e;
  next_below = below;
})

pub breaks : (n : ℕ) (graph : Graph) (clients walk : List ℕ) → IsOnWalk n graph clients walk None → [] ≡ ring_of n graph clients
breaks n graph clients walk walks =
    let left = n + 1 - length walk in
    let short = is_short n graph clients walk None walks in
    sym (walk_breaks left graph clients walk) ∙ walks.on left (omega (arith, short))
