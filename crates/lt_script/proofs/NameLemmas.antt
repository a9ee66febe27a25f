-- Where names are found, in a list that grows at its end.
use Rattle.std.proofs.Common.{◌≡◌, ℕ, zero, suc, ◌+◌, ◌<◌, ◌≤◌, Bool, true, false, List, [], ◌∷◌, ◌++◌, length, Option, Some, None, is_some, position, slice_get, refl, sym, ap, ◌∙◌, inl, inr, arith, bytes_eq}
use Rattle.std.specs.List.{position_from}
use Rattle.std.proofs.lemmas.Bool.{cases_Bool, or_parts}
use Rattle.std.proofs.lemmas.Slice.Eq.{bytes_eq-Decides}
use Rattle.std.proofs.lemmas.Iterator.Adapters.{position_from-zero}
use Rattle.lt_modes.specs.Script.{ScriptData, ClientData, name_of_client}
use Rattle.lt_spec.specs.Script.{set_number, client_number, is_declared}

module _ {X : Type 0} (p : X → Bool) where
  from_stays : (xs ys : List X) (i k : ℕ) → position_from p i xs ≡ Some k → position_from p i (xs ++ ys) ≡ Some k
  from_stays [] ys i k e = absurd (cc)
  from_stays (x ∷ xs) ys i k e = elim (cases_Bool (p x)) [
    | inl here ↦ rw here (rw here at e)
    | inr later ↦ rw later (from_stays xs ys (i + 1) k (rw later at e))
  ]

  from_goes_on : (xs ys : List X) (i : ℕ) → position_from p i xs ≡ None → position_from p i (xs ++ ys) ≡ position_from p (i + length xs) ys
  from_goes_on [] ys i e = ap (λ j. position_from p j ys) (omega arith)
  from_goes_on (x ∷ xs) ys i e = elim (cases_Bool (p x)) [
    | inl here ↦ absurd (let found = rw here at e in cc)
    | inr later ↦ rw later (from_goes_on xs ys (i + 1) (rw later at e) ∙ ap (λ j. position_from p j ys) (omega arith))
  ]

  from_none_at : (xs : List X) (i k : ℕ) (x : X) → position_from p i xs ≡ None → slice_get xs k ≡ Some x → p x ≡ false
  from_none_at [] i k x none at = absurd (cc)
  from_none_at (y ∷ xs) i zero x none at = elim (cases_Bool (p y)) [
    | inl here ↦ absurd (let found = rw here at none in cc)
    | inr later ↦ ap p (same x y at) ∙ later
  ]
    where
      same : (x y : X) → Some y ≡ Some x → x ≡ y
      same x y e = cc
  from_none_at (y ∷ xs) i (suc k) x none at = elim (cases_Bool (p y)) [
    | inl here ↦ absurd (let found = rw here at none in cc)
    | inr later ↦ from_none_at xs (i + 1) k x (rw later at none) at
  ]

  from_bounds : (xs : List X) (i k : ℕ) → position_from p i xs ≡ Some k → (i ≤ k) × (k < i + length xs)
  from_bounds [] i k e = absurd (cc)
  from_bounds (x ∷ xs) i k e = elim (cases_Bool (p x)) [
    | inl here ↦ let same : i ≡ k = first i k (rw here at e) in (omega arith, omega arith)
    | inr later ↦ let b = from_bounds xs (i + 1) k (rw later at e) in (omega (arith, b.0), omega (arith, b.1))
  ]
    where
      first : (i k : ℕ) → Some i ≡ Some k → i ≡ k
      first i k e = cc

  -- what is found stays found at its place
  pub found_stays : (xs ys : List X) (k : ℕ) → position p xs ≡ Some k → position p (xs ++ ys) ≡ Some k
  found_stays xs ys k e = position_from-zero p (xs ++ ys) ∙ from_stays xs ys 0 k (sym (position_from-zero p xs) ∙ e)

  pub found_inside : (xs : List X) (k : ℕ) → position p xs ≡ Some k → k < length xs
  found_inside xs k e = let b = from_bounds xs 0 k (sym (position_from-zero p xs) ∙ e) in omega (arith, b.1)

  -- what is found in front is found in the front
  pub found_in_front : (xs ys : List X) (k : ℕ) → position p (xs ++ ys) ≡ Some k → k < length xs → position p xs ≡ Some k
  found_in_front xs ys k e below = elim (position p xs) as (λ o. position p xs ≡ o → o ≡ Some k) [
    | Some i ↦ λ found. sym (found_stays xs ys i found) ∙ e
    | None ↦ λ none.
        absurd (let b = from_bounds ys (0 + length xs) k (sym (from_goes_on xs ys 0 (sym (position_from-zero p xs) ∙ none)) ∙ sym (position_from-zero p (xs ++ ys)) ∙ e) in omega (arith, b.0))
  ] refl

  -- what is found first behind the front isn't found in it
  pub not_in_front : (xs ys : List X) → position p (xs ++ ys) ≡ Some (length xs) → position p xs ≡ None
  not_in_front xs ys e = elim (position p xs) as (λ o. position p xs ≡ o → o ≡ None) [
    | Some i ↦ λ found. absurd (let same : i ≡ length xs = one i (length xs) (sym (found_stays xs ys i found) ∙ e) in omega (arith, found_inside xs i found))
    | None ↦ λ none. refl
  ] refl
    where
      one : (i k : ℕ) → Some i ≡ Some k → i ≡ k
      one i k e = cc

  -- an element that passes is found at the end, if there was none before
  pub found_last : (xs : List X) (y : X) → position p xs ≡ None → p y ≡ true → position p (xs ++ y ∷ []) ≡ Some (length xs)
  found_last xs y none here =
      position_from-zero p (xs ++ y ∷ []) ∙ from_goes_on xs (y ∷ []) 0 (sym (position_from-zero p xs) ∙ none) ∙ rw here (ap Some (omega arith))

  -- nothing is found if the new element doesn't pass either
  pub found_never : (xs : List X) (y : X) → position p xs ≡ None → p y ≡ false → position p (xs ++ y ∷ []) ≡ None
  found_never xs y none here = position_from-zero p (xs ++ y ∷ []) ∙ from_goes_on xs (y ∷ []) 0 (sym (position_from-zero p xs) ∙ none) ∙ rw here refl

  -- where nothing is found no element passes
  pub none_at : (xs : List X) (k : ℕ) (x : X) → position p xs ≡ None → slice_get xs k ≡ Some x → p x ≡ false
  none_at xs k x none at = from_none_at xs 0 k x (sym (position_from-zero p xs) ∙ none) at

pub element_at : {X : Type 0} → (xs : List X) (k : ℕ) → k < length xs → (x : X) × (slice_get xs k ≡ Some x)
element_at [] k inside = absurd (omega arith)
element_at (x ∷ xs) zero inside = (x, refl)
element_at (x ∷ xs) (suc k) inside = element_at xs k (omega arith)

pub same_name : (name : List ℕ) → bytes_eq name name ≡ true
same_name name = (bytes_eq-Decides name name).1 refl

-- names that differ one way differ the other way
pub other_name : (a b : List ℕ) → bytes_eq a b ≡ false → bytes_eq b a ≡ false
other_name a b differ = elim (cases_Bool (bytes_eq b a)) [
  | inl same ↦ absurd (let e : bytes_eq a b ≡ true = (bytes_eq-Decides a b).1 (sym ((bytes_eq-Decides b a).0 same)) in cc)
  | inr other ↦ other
]

-- a name that isn't declared is found nowhere
pub record IsNew (s : ScriptData) (name : List ℕ) : Type 0 where
  pub no_set : set_number s name ≡ None
  pub no_client : client_number s name ≡ None

not_some : (o : Option ℕ) → is_some o ≡ false → o ≡ None
not_some (Some k) e = absurd (cc)
not_some None e = refl

pub is_new : (s : ScriptData) (name : List ℕ) → is_declared s name ≡ false → IsNew s name
is_new s name new =
    let parts = or_parts (is_some (set_number s name)) (is_some (client_number s name)) new in
    record { no_set = not_some (set_number s name) parts.0; no_client = not_some (client_number s name) parts.1 }

-- the name of a client isn't that of a set which is new
pub set_not_client : (s : ScriptData) (name : List ℕ) (client : ℕ) → client < length s.clients → client_number s name ≡ None → bytes_eq name (name_of_client (slice_get s.clients client)) ≡ false
set_not_client s name client inside new =
    let found = element_at s.clients client inside in
    let differ : bytes_eq found.0.name name ≡ false = none_at (λ (x : ClientData). bytes_eq x.name name) s.clients client found.0 new found.1 in
    rw found.1 (other_name found.0.name name differ)
