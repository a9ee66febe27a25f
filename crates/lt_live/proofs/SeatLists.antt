-- Lists, place by place.
use Rattle.std.proofs.Common.{◌≡◌, ◌≢◌, ◌<◌, ℕ, zero, suc, List, [], ◌∷◌, ◌++◌, length, Some, refl, ap, arith, inl, inr, Option, None, sym, subst, ◌≤◌, ◌+◌, ◌∙◌, ◌⊎◌, slice_get, slice_set, slice_index_or, length-set}
use Rattle.std.proofs.lemmas.Option.{same_Some, slice_get_within, slice_get-get_or}
use Rattle.std.proofs.lemmas.Bool.{cases_eq, cases_lt}
use Rattle.lt_mail.specs.Words.{Alike}
use Rattle.lt_live.specs.declared.ends.Seat.{Seat}
use Rattle.lt_live.specs.Stations.{EachSeat, SeatAt}

pub set_here : {X : Type 0} (xs : List X) (k : ℕ) (y : X) → k < length xs → slice_get (slice_set xs k y) k ≡ Some y
set_here [] k y below = absurd (omega (arith, below))
set_here (x ∷ xs) zero y below = refl
set_here (x ∷ xs) (suc k) y below = set_here xs k y (omega (arith, below))

pub set_other : {X : Type 0} (xs : List X) (k : ℕ) (y : X) (other : ℕ) → other ≢ k → slice_get (slice_set xs k y) other ≡ slice_get xs other
set_other [] k y other apart = refl
set_other (x ∷ xs) zero y zero apart = absurd (apart refl)
set_other (x ∷ xs) zero y (suc other) apart = refl
set_other (x ∷ xs) (suc k) y zero apart = refl
set_other (x ∷ xs) (suc k) y (suc other) apart = set_other xs k y other (λ e. apart (ap suc e))

-- what stands at a place once there is one more at the end
pub pushed : {X : Type 0} (xs : List X) (x : X) (k : ℕ) (y : X) → slice_get (xs ++ x ∷ []) k ≡ Some y → (slice_get xs k ≡ Some y) ⊎ ((k ≡ length xs) × (x ≡ y))
pushed [] x zero y e = inr (refl, same_Some x y e)
pushed [] x (suc k) y e = absurd (cc)
pushed (z ∷ xs) x zero y e = inl e
pushed (z ∷ xs) x (suc k) y e = later (pushed xs x k y e)
  where
    later : (slice_get xs k ≡ Some y) ⊎ ((k ≡ length xs) × (x ≡ y)) → (slice_get xs k ≡ Some y) ⊎ ((suc k ≡ suc (length xs)) × (x ≡ y))
    later (inl old) = inl old
    later (inr new) = inr (ap suc new.0, new.1)

pub last_here : {X : Type 0} (xs : List X) (x : X) → slice_get (xs ++ x ∷ []) (length xs) ≡ Some x
last_here [] x = refl
last_here (z ∷ xs) x = last_here xs x

pub stays_here : {X : Type 0} (xs : List X) (x y : X) (k : ℕ) → slice_get xs k ≡ Some y → slice_get (xs ++ x ∷ []) k ≡ Some y
stays_here [] x y k e = absurd (cc)
stays_here (z ∷ xs) x y zero e = e
stays_here (z ∷ xs) x y (suc k) e = stays_here xs x y k e

pub none_here : {X : Type 0} {A : Type 0} (k : ℕ) (x : X) → slice_get [] k ≡ Some x → A
none_here zero x e = absurd (cc)
none_here (suc k) x e = absurd (cc)

-- Lists that go together, place by place.

-- what was at this place before
pub alike_before : {X : Type 0} (R : X → X → Type 0) (xs ys : List X) → ((k : ℕ) → Alike R (slice_get xs k) (slice_get ys k)) → (k : ℕ) (y : X) → slice_get ys k ≡ Some y
    → (x : X) × (slice_get xs k ≡ Some x) × R x y
alike_before {X = X} R xs ys h k y e = here (slice_get xs k) refl (subst (λ (o : Option X). Alike R (slice_get xs k) o) e (h k))
  where
    here : (o : Option X) → slice_get xs k ≡ o → Alike R o (Some y) → (x : X) × (slice_get xs k ≡ Some x) × R x y
    here None f p = absurd p
    here (Some x) f p = (x, f, p)

-- and what is there now
pub alike_after : {X : Type 0} (R : X → X → Type 0) (xs ys : List X) → ((k : ℕ) → Alike R (slice_get xs k) (slice_get ys k)) → (k : ℕ) (x : X) → slice_get xs k ≡ Some x
    → (y : X) × (slice_get ys k ≡ Some y) × R x y
alike_after {X = X} R xs ys h k x e = there (slice_get ys k) refl (subst (λ (o : Option X). Alike R o (slice_get ys k)) e (h k))
  where
    there : (o : Option X) → slice_get ys k ≡ o → Alike R (Some x) o → (y : X) × (slice_get ys k ≡ Some y) × R x y
    there None f p = absurd p
    there (Some y) f p = (y, f, p)

pub alike_len : {X : Type 0} (R : X → X → Type 0) (xs ys : List X) → ((k : ℕ) → Alike R (slice_get xs k) (slice_get ys k)) → length ys ≡ length xs
alike_len R [] [] h = refl
alike_len R [] (y ∷ ys) h = absurd (h 0)
alike_len R (x ∷ xs) [] h = absurd (h 0)
alike_len R (x ∷ xs) (y ∷ ys) h = let rest = alike_len R xs ys (λ k. h (suc k)) in omega (arith, rest)

pub alike_self : {X : Type 0} (R : X → X → Type 0) → ((x : X) → R x x) → (xs : List X) (k : ℕ) → Alike R (slice_get xs k) (slice_get xs k)
alike_self {X = X} R self xs k = here (slice_get xs k)
  where
    here : (o : Option X) → Alike R o o
    here None = tt
    here (Some x) = self x

pub alike_join : {X : Type 0} (R : X → X → Type 0) → ((a b c : X) → R a b → R b c → R a c) → (xs ys zs : List X)
    → ((k : ℕ) → Alike R (slice_get xs k) (slice_get ys k)) → ((k : ℕ) → Alike R (slice_get ys k) (slice_get zs k))
    → (k : ℕ) → Alike R (slice_get xs k) (slice_get zs k)
alike_join {X = X} R join xs ys zs h g k = here (slice_get xs k) (slice_get ys k) (slice_get zs k) (h k) (g k)
  where
    here : (x y z : Option X) → Alike R x y → Alike R y z → Alike R x z
    here None None None p q = tt
    here None None (Some z) p q = q
    here None (Some y) z p q = absurd p
    here (Some x) None z p q = absurd p
    here (Some x) (Some y) None p q = absurd q
    here (Some x) (Some y) (Some z) p q = join x y z p q

pub alike_weaker : {X : Type 0} (R S : X → X → Type 0) → ((a b : X) → R a b → S a b) → (xs ys : List X)
    → ((k : ℕ) → Alike R (slice_get xs k) (slice_get ys k)) → (k : ℕ) → Alike S (slice_get xs k) (slice_get ys k)
alike_weaker {X = X} R S weaker xs ys h k = here (slice_get xs k) (slice_get ys k) (h k)
  where
    here : (x y : Option X) → Alike R x y → Alike S x y
    here None None p = tt
    here None (Some y) p = p
    here (Some x) None p = p
    here (Some x) (Some y) p = weaker x y p

-- one of them was written
pub alike_set : {X : Type 0} (R : X → X → Type 0) → ((x : X) → R x x) → (xs : List X) (place : ℕ) (x y : X) → slice_get xs place ≡ Some x → R x y
    → (k : ℕ) → Alike R (slice_get xs k) (slice_get (slice_set xs place y) k)
alike_set {X = X} R self xs place x y here one k = elim (cases_eq k place) [
  | inl at ↦
      subst (λ (j : ℕ). Alike R (slice_get xs j) (slice_get (slice_set xs place y) j)) (sym at)
      (subst (λ (o : Option X). Alike R o (slice_get (slice_set xs place y) place)) (sym here)
      (subst (λ (o : Option X). Alike R (Some x) o) (sym (set_here xs place y (slice_get_within xs place x here))) one))
  | inr apart ↦ subst (λ (o : Option X). Alike R (slice_get xs k) o) (sym (set_other xs place y k apart)) (alike_self R self xs k)
]

-- Lists of seats, place by place.

-- one seat was written
pub seat_set : (R : Seat → Seat → Type 0) (place : ℕ) (seats : List Seat) (d y : Seat) → place < length seats → R (slice_index_or seats place d) y
    → SeatAt R place seats (slice_set seats place y)
seat_set R place seats d y inside one = record {
  x = slice_index_or seats place d;
  y = y;
  before = slice_get-get_or seats place d inside;
  now = set_here seats place y inside;
  one = one;
  count = length-set seats place y;
  others = λ k apart. set_other seats place y k apart;
}

-- the first n seats went on so, and the others stay
pub record Going (R : Seat → Seat → Type 0) (n : ℕ) (old new : List Seat) : Type 0 where
  pub count : length new ≡ length old
  pub done : (k : ℕ) → k < n → Alike R (slice_get old k) (slice_get new k)
  pub rest : (k : ℕ) → n ≤ k → slice_get new k ≡ slice_get old k

pub going_starts : (R : Seat → Seat → Type 0) (seats : List Seat) → Going R 0 seats seats
going_starts R seats = record { count = refl; done = λ k below. absurd (omega (arith, below)); rest = λ k past. refl }

pub going_on : (R : Seat → Seat → Type 0) (n : ℕ) (old mid new : List Seat) → Going R n old mid → SeatAt R n mid new → Going R (n + 1) old new
going_on R n old mid new h at = record {
  count = at.count ∙ h.count;
  done = λ k below. elim (cases_eq k n) [
    | inl here ↦
        let was : slice_get old n ≡ Some at.x = sym (h.rest n (omega arith)) ∙ at.before in
        subst (λ (j : ℕ). Alike R (slice_get old j) (slice_get new j)) (sym here)
        (subst (λ (o : Option Seat). Alike R o (slice_get new n)) (sym was)
        (subst (λ (o : Option Seat). Alike R (Some at.x) o) (sym at.now) at.one))
    | inr apart ↦
        subst (λ (o : Option Seat). Alike R (slice_get old k) o) (sym (at.others k apart)) (h.done k (omega (arith, below, apart)))
  ];
  rest = λ k past. at.others k (λ e. absurd (omega (arith, past, e))) ∙ h.rest k (omega (arith, past));
}

pub going_ends : (R : Seat → Seat → Type 0) (n : ℕ) (old new : List Seat) → length old ≤ n → Going R n old new → EachSeat R old new
going_ends R n old new long h k = elim (cases_lt k n) [
  | inl below ↦ h.done k below
  | inr past ↦ by_place (slice_get old k) refl (h.rest k past) past
]
  where
    by_place : (o : Option Seat) → slice_get old k ≡ o → slice_get new k ≡ slice_get old k → n ≤ k → Alike R (slice_get old k) (slice_get new k)
    by_place (Some x) e same past = let inside = slice_get_within old k x e in absurd (omega (arith, inside, long, past))
    by_place None e same past =
        subst (λ (o : Option Seat). Alike R (slice_get old k) o) (sym (same ∙ e)) (subst (λ (o : Option Seat). Alike R o None) (sym e) tt)

-- some of the seats went on so, and the others stay
pub going_stops : (R : Seat → Seat → Type 0) → ((seat : Seat) → R seat seat) → (n : ℕ) (old new : List Seat) → Going R n old new → EachSeat R old new
going_stops R self n old new h k = elim (cases_lt k n) [
  | inl below ↦ h.done k below
  | inr past ↦ subst (λ (o : Option Seat). Alike R (slice_get old k) o) (sym (h.rest k past)) (here (slice_get old k))
]
  where
    here : (o : Option Seat) → Alike R o o
    here None = tt
    here (Some seat) = self seat

-- the seat that was at this place before
pub each_before : (R : Seat → Seat → Type 0) (xs ys : List Seat) → EachSeat R xs ys → (k : ℕ) (y : Seat) → slice_get ys k ≡ Some y
    → (x : Seat) × (slice_get xs k ≡ Some x) × R x y
each_before R xs ys h k y e = here (slice_get xs k) refl (subst (λ (o : Option Seat). Alike R (slice_get xs k) o) e (h k))
  where
    here : (o : Option Seat) → slice_get xs k ≡ o → Alike R o (Some y) → (x : Seat) × (slice_get xs k ≡ Some x) × R x y
    here None f p = absurd p
    here (Some x) f p = (x, f, p)

-- and that which is there now
pub each_after : (R : Seat → Seat → Type 0) (xs ys : List Seat) → EachSeat R xs ys → (k : ℕ) (x : Seat) → slice_get xs k ≡ Some x
    → (y : Seat) × (slice_get ys k ≡ Some y) × R x y
each_after R xs ys h k x e = there (slice_get ys k) refl (subst (λ (o : Option Seat). Alike R o (slice_get ys k)) e (h k))
  where
    there : (o : Option Seat) → slice_get ys k ≡ o → Alike R (Some x) o → (y : Seat) × (slice_get ys k ≡ Some y) × R x y
    there None f p = absurd p
    there (Some y) f p = (y, f, p)

pub each_join : (R S T : Seat → Seat → Type 0) → ((a b c : Seat) → R a b → S b c → T a c) → (xs ys zs : List Seat)
    → EachSeat R xs ys → EachSeat S ys zs → EachSeat T xs zs
each_join R S T join xs ys zs h g k = here (slice_get xs k) (slice_get ys k) (slice_get zs k) (h k) (g k)
  where
    here : (x y z : Option Seat) → Alike R x y → Alike S y z → Alike T x z
    here None None None p q = tt
    here None None (Some z) p q = q
    here None (Some y) z p q = absurd p
    here (Some x) None z p q = absurd p
    here (Some x) (Some y) None p q = absurd q
    here (Some x) (Some y) (Some z) p q = join x y z p q
