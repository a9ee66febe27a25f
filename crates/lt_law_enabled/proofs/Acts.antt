-- The order in which clients act, and how many places it has.
use Rattle.std.proofs.Common.{◌≡◌, ◌≢◌, Bool, true, false, ℕ, zero, suc, ◌<◌, ◌≤◌, ◌+◌, Option, Some, None, inl, inr, ◌⊎◌, refl, sym, ◌∙◌, length, arith, ◌||◌, ◌&&◌, ◌==◌, ◌↔◌, nat_lt, IsNone, option_and_then, ltb-true, lt-ltb, eqb-true, eq-eqb}
use Rattle.std.proofs.lemmas.Bool.{and_parts, and_from, or_cases, or_left, or_right, and_right, false_from_ne_true, cases_order, false≢true}
use Rattle.std.proofs.lemmas.Bool.Decides.{nat_tests}
use Rattle.lt_modes.specs.Script.{ScriptData}
use Rattle.lt_spec.specs.World.{World, made_by, is_runnable}
use Rattle.lt_spec.specs.FixedOrder.{acts_before, comes_after, next_act, act_after, count_acts}
use Rattle.lt_lists.specs.Below.{count_below}
use Rattle.lt_lists.proofs.Searches.{IsStrictOrder, Found, found, one_less, same_count}

-- a is before b by a first number, and then by a second
pub by_two : (m n a b : ℕ) → nat_lt m n || (m == n && nat_lt a b) ≡ true → (m < n) ⊎ ((m ≡ n) × (a < b))
by_two m n a b e =
    elim (or_cases _ _ e) [
      | inl less ↦ inl (ltb-true m n less)
      | inr same ↦
          let parts = and_parts (m == n) (nat_lt a b) same in
          inr (eqb-true m n parts.0, ltb-true a b parts.1)
    ]

from_two : (m n a b : ℕ) → (m < n) ⊎ ((m ≡ n) × (a < b)) → nat_lt m n || (m == n && nat_lt a b) ≡ true
from_two m n a b (inl less) = or_left (nat_lt m n) _ (lt-ltb m n less)
from_two m n a b (inr same) = or_right (nat_lt m n) _ (and_from (m == n) (nat_lt a b) (eq-eqb m n same.0) (lt-ltb a b same.1))

pub acts_order : (script : ScriptData) (w : World) → IsStrictOrder (acts_before script w)
acts_order script w = record {
  never = λ a. never (made_by script w a) a;
  through = λ a b c first second. through (made_by script w a) (made_by script w b) (made_by script w c) a b c first second;
  either = λ a b apart fails. either (made_by script w a) (made_by script w b) a b apart fails;
}
  where
    never : (m a : ℕ) → nat_lt m m || (m == m && nat_lt a a) ≡ false
    never m a = grind (arith, nat_tests)

    through : (l m n a b c : ℕ) → nat_lt l m || (l == m && nat_lt a b) ≡ true → nat_lt m n || (m == n && nat_lt b c) ≡ true
        → nat_lt l n || (l == n && nat_lt a c) ≡ true
    through l m n a b c first second =
        let p = by_two l m a b first in
        let q = by_two m n b c second in
        from_two l n a c (elim p [
          | inl less ↦ elim q [ inl less' ↦ inl (omega arith) | inr same ↦ inl (omega arith) ]
          | inr same ↦ elim q [ inl less' ↦ inl (omega arith) | inr same' ↦ inr (omega arith, omega arith) ]
        ])

    either : (m n a b : ℕ) → a ≢ b → nat_lt m n || (m == n && nat_lt a b) ≡ false → nat_lt n m || (n == m && nat_lt b a) ≡ true
    either m n a b apart fails =
        let off : (x : (m < n) ⊎ ((m ≡ n) × (a < b))) → ⊥ = λ x. false≢true (sym fails ∙ from_two m n a b x) in
        from_two n m b a (elim (cases_order m n) [
          | inl same ↦ elim (cases_order a b) [
            | inl equal ↦ absurd (apart equal)
            | inr (inl less) ↦ absurd (off (inr (same, less)))
            | inr (inr more) ↦ inr (sym same, more)
          ]
          | inr (inl less) ↦ absurd (off (inl less))
          | inr (inr more) ↦ inl more
        ])

-- the runnable clients after this one
abbrev pub after_this : ScriptData → World → Option ℕ → ℕ → Bool
after_this script w earlier client = is_runnable script w client && comes_after script w earlier client

-- how many they are
abbrev pub count_after : ScriptData → World → Option ℕ → ℕ
count_after script w earlier = count_below (length script.clients) (after_this script w earlier)

-- a client that comes after one that comes after this one
comes_later : (script : ScriptData) (w : World) (earlier : Option ℕ) (next client : ℕ) → comes_after script w earlier next ≡ true
    → acts_before script w next client ≡ true → comes_after script w earlier client ≡ true
comes_later script w None next client first second = refl
comes_later script w (Some earlier) next client first second = (acts_order script w).through earlier next client first second

-- what the next client tells of the count
abbrev Counted : ScriptData → World → Option ℕ → Option ℕ → Type 0
Counted script w earlier None = count_after script w earlier ≡ 0
Counted script w earlier (Some next) = count_after script w earlier ≡ count_after script w (Some next) + 1

counted : (script : ScriptData) (w : World) (earlier next : Option ℕ)
    → Found (length script.clients) (after_this script w earlier) (acts_before script w) next → Counted script w earlier next
counted script w earlier None h = h
counted script w earlier (Some next) h =
    let parts = and_parts (is_runnable script w next) (comes_after script w earlier next) h.passes in
    one_less (length script.clients) next (after_this script w earlier) (after_this script w (Some next)) h.inside h.passes
    (and_right (is_runnable script w next) _ ((acts_order script w).never next))
    (λ k inside apart. agrees k inside apart parts.1)
  where
    agrees : (k : ℕ) → k < length script.clients → k ≢ next → comes_after script w earlier next ≡ true
        → after_this script w earlier k ≡ after_this script w (Some next) k
    agrees k inside apart comes =
        elim (is_runnable script w k) as (λ r. is_runnable script w k ≡ r → r && comes_after script w earlier k ≡ r && acts_before script w next k) [
          | false ↦ λ e. refl
          | true ↦ λ e. elim (comes_after script w earlier k) as (λ t. comes_after script w earlier k ≡ t → t ≡ acts_before script w next k) [
            | true ↦ λ e'. sym (h.leads k inside (and_from _ _ e e') apart)
            | false ↦ λ e'. sym (false_from_ne_true (acts_before script w next k) (λ b. false≢true (sym e' ∙ comes_later script w earlier next k comes b)))
          ] refl
        ] refl

-- with the next client of the search
next_counted : (script : ScriptData) (w : World) (earlier : Option ℕ) → Counted script w earlier (next_act script w earlier)
next_counted script w earlier =
    counted script w earlier (next_act script w earlier)
    (found (length script.clients) (after_this script w earlier) (acts_before script w) (acts_order script w))

-- no client comes k places after this one, exactly where no more than k come after it
places_after : (script : ScriptData) (w : World) (earlier : Option ℕ) (k : ℕ)
    → IsNone (act_after script w earlier k) ↔ (count_after script w earlier ≤ k)
places_after script w earlier zero =
    elim (next_act script w earlier) as (λ o. Counted script w earlier o → IsNone o ↔ (count_after script w earlier ≤ 0)) [
      | None ↦ λ e. (λ x. omega (arith, e), λ h. refl)
      | Some next ↦ λ e. (λ x. absurd (false≢true (sym x)), λ h. absurd (omega (arith, e, h)))
    ] (next_counted script w earlier)
places_after script w earlier (suc k) =
    elim (next_act script w earlier) as (λ o. Counted script w earlier o
    → IsNone (option_and_then (λ next. act_after script w (Some next) k) o) ↔ (count_after script w earlier ≤ suc k)) [
      | None ↦ λ e. (λ x. omega (arith, e), λ h. refl)
      | Some next ↦ λ e.
          let rest = places_after script w (Some next) k in
          (λ x. omega (arith, rest.0 x, e), λ h. rest.1 (omega (arith, h, e)))
    ] (next_counted script w earlier)

pub count_all : (script : ScriptData) (w : World) → count_after script w None ≡ count_acts script w
count_all script w = same_count (length script.clients) (after_this script w None) (is_runnable script w) (λ k inside. and_true (is_runnable script w k))
  where
    and_true : (t : Bool) → t && true ≡ t
    and_true true = refl
    and_true false = refl

-- no client is at place k, exactly where no more than k are runnable
pub no_place : (script : ScriptData) (w : World) (k : ℕ) → IsNone (act_after script w None k) ↔ (count_acts script w ≤ k)
no_place script w k =
    let places = places_after script w None k in
    (λ x. omega (arith, places.0 x, count_all script w), λ h. places.1 (omega (arith, h, count_all script w)))
