-- Lists of which one element after the other goes on.
use Rattle.std.proofs.Common.{◌≡◌, ◌<◌, ◌≤◌, ◌+◌, ℕ, List, length, map, Option, Some, None, refl, sym, subst, ◌∙◌, arith, inl, inr, slice_get, slice_set, slice_index_or, option_map, length-set}
use Rattle.std.proofs.lemmas.Bool.{cases_eq, cases_lt}
use Rattle.std.proofs.lemmas.Option.{same_Some, slice_get_within, slice_get-get_or, slice_get-map}
use Rattle.lt_mail.specs.Words.{Alike}
use Rattle.lt_live.proofs.SeatLists.{set_here, set_other}
use Rattle.lt_live_callers.specs.Places.{Each, OneAt}

-- those that go on one way, and then another
pub each_then : {X : Type 0} (R S T : X → X → Type 0) → ((a b c : X) → R a b → S b c → T a c) → (xs ys zs : List X) → Each R xs ys → Each S ys zs → Each T xs zs
each_then {X = X} R S T join xs ys zs h g k = here (slice_get xs k) (slice_get ys k) (slice_get zs k) (h k) (g k)
  where
    here : (x y z : Option X) → Alike R x y → Alike S y z → Alike T x z
    here None None None p q = tt
    here None None (Some z) p q = q
    here None (Some y) z p q = absurd p
    here (Some x) None z p q = absurd p
    here (Some x) (Some y) None p q = absurd q
    here (Some x) (Some y) (Some z) p q = join x y z p q

-- what a mapped element comes of
pub mapped_at : {X Y : Type 0} (f : X → Y) (xs : List X) (k : ℕ) (y : Y) → slice_get (map f xs) k ≡ Some y → (x : X) × (slice_get xs k ≡ Some x) × (f x ≡ y)
mapped_at {X = X} f xs k y here = by_place (slice_get xs k) refl (sym (slice_get-map f xs k) ∙ here)
  where
    by_place : (o : Option X) → slice_get xs k ≡ o → option_map f o ≡ Some y → (x : X) × (slice_get xs k ≡ Some x) × (f x ≡ y)
    by_place None e is = absurd (cc)
    by_place (Some x) e is = (x, e, same_Some (f x) y is)

-- one of them was written
pub one_set : {X : Type 0} (R : X → X → Type 0) (place : ℕ) (xs : List X) (d x y : X) → place < length xs → x ≡ slice_index_or xs place d → R x y
    → OneAt R place xs (slice_set xs place y)
one_set {X = X} R place xs d x y inside is one = record {
  x = slice_index_or xs place d;
  y = y;
  before = slice_get-get_or xs place d inside;
  now = set_here xs place y inside;
  one = subst (λ (z : X). R z y) is one;
  count = length-set xs place y;
  others = λ k apart. set_other xs place y k apart;
}

-- the first n went on so, and the others stay
pub record FirstGo {X : Type 0} (R : X → X → Type 0) (n : ℕ) (old new : List X) : Type 0 where
  pub count : length new ≡ length old
  pub done : (k : ℕ) → k < n → Alike R (slice_get old k) (slice_get new k)
  pub rest : (k : ℕ) → n ≤ k → slice_get new k ≡ slice_get old k

pub first_none : {X : Type 0} (R : X → X → Type 0) (xs : List X) → FirstGo R 0 xs xs
first_none R xs = record { count = refl; done = λ k below. absurd (omega (arith, below)); rest = λ k past. refl }

pub first_more : {X : Type 0} (R : X → X → Type 0) (n : ℕ) (old mid new : List X) → FirstGo R n old mid → OneAt R n mid new → FirstGo R (n + 1) old new
first_more {X = X} R n old mid new h at = record {
  count = at.count ∙ h.count;
  done = λ k below. elim (cases_eq k n) [
    | inl here ↦
        let was : slice_get old n ≡ Some at.x = sym (h.rest n (omega arith)) ∙ at.before in
        subst (λ (j : ℕ). Alike R (slice_get old j) (slice_get new j)) (sym here)
        (subst (λ (o : Option X). Alike R o (slice_get new n)) (sym was)
        (subst (λ (o : Option X). Alike R (Some at.x) o) (sym at.now) at.one))
    | inr apart ↦
        subst (λ (o : Option X). Alike R (slice_get old k) o) (sym (at.others k apart)) (h.done k (omega (arith, below, apart)))
  ];
  rest = λ k past. at.others k (λ e. absurd (omega (arith, past, e))) ∙ h.rest k (omega (arith, past));
}

pub first_all : {X : Type 0} (R : X → X → Type 0) (n : ℕ) (old new : List X) → length old ≤ n → FirstGo R n old new → Each R old new
first_all {X = X} R n old new long h k = elim (cases_lt k n) [
  | inl below ↦ h.done k below
  | inr past ↦ by_place (slice_get old k) refl (h.rest k past) past
]
  where
    by_place : (o : Option X) → slice_get old k ≡ o → slice_get new k ≡ slice_get old k → n ≤ k → Alike R (slice_get old k) (slice_get new k)
    by_place (Some x) e same past = let inside = slice_get_within old k x e in absurd (omega (arith, inside, long, past))
    by_place None e same past =
        subst (λ (o : Option X). Alike R (slice_get old k) o) (sym (same ∙ e)) (subst (λ (o : Option X). Alike R o None) (sym e) tt)
