-- Clients layer by layer: of those that are left, those go that wait for one of the last layer.
use Rattle.std.proofs.Common.{◌≡◌, ℕ, ◌+◌, ◌<◌, ◌≤◌, inl, inr, List, [], ◌∷◌, ◌++◌, length, Some, Bool, true, false, refl, sym, subst, ap, arith, ◌∙◌, ◌⊎◌, ◌||◌, ◌==◌, is_some, not, Contains, if◌then◌else◌, find, eqb-true, eq-eqb}
use Rattle.std.specs.List.{list_any}
use Rattle.std.proofs.lemmas.Bool.{false≢true}
use Rattle.lt_lists.proofs.Members.{contains_first, contains_later, contains_cases, contains_filter, contains_filtered, list_any-at, list_any-which, none_in}
use Rattle.lt_spec.specs.Rings.{Graph, AreBelow, first_or, IsPath}
use Rattle.lt_waits.specs.Shortest.{waiting_for, not_waiting_for, IsLayer, LeadsOut}

pub not_both : {A : Type 0} (b : Bool) → b ≡ true → not b ≡ true → A
not_both true e f = absurd (false≢true f)
not_both false e f = absurd (false≢true e)

-- a client is one of these, or isn't
pub among_or : (xs : List ℕ) (c : ℕ) → Contains xs c ⊎ (Contains xs c → ⊥)
among_or xs c = by_test (list_any (λ d. c == d) xs) refl
  where
    by_test : (t : Bool) → list_any (λ d. c == d) xs ≡ t → Contains xs c ⊎ (Contains xs c → ⊥)
    by_test true e = let found = list_any-which (λ d. c == d) xs e in inl (subst (Contains xs) (sym (eqb-true c found.0 found.2)) found.1)
    by_test false e = inr (λ there. false≢true (sym e ∙ list_any-at (λ d. c == d) xs c there (eq-eqb c c refl)))

-- a search finds something where something passes
pub find_tells : (test : ℕ → Bool) (xs : List ℕ) → is_some (find test xs) ≡ list_any test xs
find_tells test [] = refl
find_tells test (x ∷ more) = elim (test x) as (λ t. is_some (if t then Some x else find test more) ≡ (t || list_any test more)) [
  | true ↦ refl
  | false ↦ find_tells test more
]

-- a path that goes one client further
pub path_further : (graph : Graph) (path : List ℕ) (c d : ℕ) → IsPath graph path c → graph c d ≡ true → IsPath graph (path ++ c ∷ []) d
path_further graph [] c d path on = (on, tt)
path_further graph (a ∷ rest) c d path on = (subst (λ (x : ℕ). graph a x ≡ true) (same rest) path.0, path_further graph rest c d path.1 on)
  where
    same : (xs : List ℕ) → first_or c xs ≡ first_or d (xs ++ c ∷ [])
    same [] = refl
    same (x ∷ more) = refl

pub first_further : (path : List ℕ) (c d : ℕ) → first_or d (path ++ c ∷ []) ≡ first_or c path
first_further [] c d = refl
first_further (x ∷ rest) c d = refl

module _ (graph : Graph) (layer left : List ℕ) where
  abbrev pub next : List ℕ
  next = waiting_for graph layer left

  abbrev pub rest : List ℕ
  rest = not_waiting_for graph layer left

  pub in_next : (c : ℕ) → Contains left c → list_any (graph c) layer ≡ true → Contains next c
  in_next c there e = contains_filter (λ x. list_any (graph x) layer) left c there e

  pub of_next : (c : ℕ) → Contains next c → Contains left c × (list_any (graph c) layer ≡ true)
  of_next c there = contains_filtered (λ x. list_any (graph x) layer) left c there

  pub of_rest : (c : ℕ) → Contains rest c → Contains left c × (not (list_any (graph c) layer) ≡ true)
  of_rest c there = contains_filtered (λ x. not (list_any (graph x) layer)) left c there

  pub next_or_rest : (c : ℕ) → Contains left c → Contains rest c ⊎ Contains next c
  next_or_rest c there = by_test (list_any (graph c) layer) refl
    where
      by_test : (t : Bool) → list_any (graph c) layer ≡ t → Contains rest c ⊎ Contains next c
      by_test true e = inr (in_next c there e)
      by_test false e = inl (contains_filter (λ x. not (list_any (graph x) layer)) left c there (ap not e))

  pub next_layer : (n : ℕ) → IsLayer n graph layer left → IsLayer n graph next rest
  next_layer n is c d there under out on = elim (among_or left d) [
    | inl left_too ↦ by_place d (next_or_rest d left_too) out
    | inr gone ↦ absurd (apart (is c d (of_rest c there).0 under gone on))
  ]
    where
      by_place : (x : ℕ) → Contains rest x ⊎ Contains next x → (Contains rest x → ⊥) → Contains next x
      by_place x (inl stays) never = absurd (never stays)
      by_place x (inr goes) never = goes

      apart : Contains layer d → ⊥
      apart found = not_both (list_any (graph c) layer) (list_any-at (graph c) layer d found on) (of_rest c there).1

-- those that go and those that stay are all that are left
pub parts : (graph : Graph) (layer left : List ℕ) → length (waiting_for graph layer left) + length (not_waiting_for graph layer left) ≡ length left
parts graph layer [] = omega arith
parts graph layer (c ∷ more) = by_test (list_any (graph c) layer) (parts graph layer more)
  where
    by_test : (t : Bool) → length (waiting_for graph layer more) + length (not_waiting_for graph layer more) ≡ length more
        → length (if t then c ∷ waiting_for graph layer more else waiting_for graph layer more)
        + length (if not t then c ∷ not_waiting_for graph layer more else not_waiting_for graph layer more) ≡ length (c ∷ more)
    by_test true e = omega (arith, e)
    by_test false e = omega (arith, e)

-- where a path leaves those that are left: a path among them to one that waits for one that isn't left
record Leaves (n : ℕ) (graph : Graph) (start : ℕ) (left path : List ℕ) : Type 0 where
  part : List ℕ
  last : ℕ
  after : ℕ
  goes : IsPath graph part last
  first : first_or last part ≡ start
  below : AreBelow n part
  last_below : last < n
  after_below : after < n
  there : Contains left last
  out : Contains left after → ⊥
  on : graph last after ≡ true
  short : length part + 1 ≤ length path

leaves : (n : ℕ) (graph : Graph) (left path : List ℕ) (goal : ℕ) → IsPath graph path goal → AreBelow n path → goal < n → (Contains left goal → ⊥) → Contains left (first_or goal path)
    → Leaves n graph (first_or goal path) left path
leaves n graph left [] goal goes below under out there = absurd (out there)
leaves n graph left (a ∷ more) goal goes below under out there = elim (among_or left (first_or goal more)) [
  | inl on ↦ further (leaves n graph left more goal goes.1 (λ c f. below c (contains_later a c more f)) under out on)
  | inr gone ↦ record {
    part = [];
    last = a;
    after = first_or goal more;
    goes = tt;
    first = refl;
    below = λ c f. none_in c f;
    last_below = below a (contains_first a a more refl);
    after_below = first_below more (λ c f. below c (contains_later a c more f));
    there = there;
    out = gone;
    on = goes.0;
    short = omega arith;
  }
]
  where
    first_below : (xs : List ℕ) → AreBelow n xs → first_or goal xs < n
    first_below [] h = under
    first_below (x ∷ rest) h = h x (contains_first x x rest refl)

    further : Leaves n graph (first_or goal more) left more → Leaves n graph a left (a ∷ more)
    further l = record {
      part = a ∷ l.part;
      last = l.last;
      after = l.after;
      goes = (subst (λ (x : ℕ). graph a x ≡ true) (sym l.first) goes.0, l.goes);
      first = refl;
      below = λ c f. elim (contains_cases a c l.part f) [
        | inl here ↦ subst (λ (x : ℕ). x < n) here (below a (contains_first a a more refl))
        | inr later ↦ l.below c later
      ];
      last_below = l.last_below;
      after_below = l.after_below;
      there = l.there;
      out = l.out;
      on = l.on;
      short = omega (arith, l.short);
    }

-- a path out of those that are left has a shorter one out of the rest
pub record Shorter (n : ℕ) (graph : Graph) (start : ℕ) (layer left path : List ℕ) : Type 0 where
  pub part : List ℕ
  pub last : ℕ
  pub leads : LeadsOut n graph start (not_waiting_for graph layer left) part last
  pub next : Contains (waiting_for graph layer left) last
  pub short : length part + 1 ≤ length path

pub shorter : (n : ℕ) (graph : Graph) (start : ℕ) (layer left path : List ℕ) (last : ℕ) → IsLayer n graph layer left → Contains left start ⊎ Contains layer start
    → (Contains layer start → ⊥) → LeadsOut n graph start left path last → Shorter n graph start layer left path
shorter n graph start layer left path last is (inr found) never leads = absurd (never found)
shorter n graph start layer left path last is (inl there) never leads =
    let l = leaves n graph left path last leads.goes leads.below leads.last_below leads.out (subst (Contains left) (sym leads.first) there) in
    let waits : list_any (graph l.last) layer ≡ true = list_any-at (graph l.last) layer l.after (is l.last l.after l.there l.after_below l.out l.on) l.on in
    record {
      part = l.part;
      last = l.last;
      leads = record {
        goes = l.goes;
        first = l.first ∙ leads.first;
        below = l.below;
        last_below = l.last_below;
        out = λ stays. not_both (list_any (graph l.last) layer) waits (of_rest graph layer left l.last stays).1;
      };
      next = in_next graph layer left l.last l.there waits;
      short = l.short;
    }
