-- The least node that is full.
use Rattle.std.proofs.Common.{◌≡◌, Bool, true, false, ℕ, zero, suc, ◌<◌, List, Some, None, inl, inr, refl, ap, ◌∙◌, arith, nat_lt, if◌then◌else◌, ltb-true}
use Rattle.std.proofs.lemmas.Bool.{cases_order, false_from_ne_true}
use Rattle.lt_modes.specs.Script.{ScriptData}
use Rattle.lt_lists.specs.Below.{first_below, earlier}
use Rattle.lt_spec.specs.World.{Logged, is_full, full_node}

-- the least number that passes
least_on : (n q : ℕ) (test : ℕ → Bool) → q < n → ((k : ℕ) → k < q → test k ≡ false) → test q ≡ true → first_below n test nat_lt ≡ Some q
least_on zero q test inside none here = absurd (omega (arith, inside))
least_on (suc n) q test inside none here = elim (cases_order n q) [
  | inl same ↦
      let before : first_below n test nat_lt ≡ None = least_none n test (λ k below. none k (omega (arith, below, same))) in
      let at : test n ≡ true = ap test same ∙ here in
      rw (at, before) (ap Some same)
  | inr (inl less) ↦ absurd (omega (arith, less, inside))
  | inr (inr more) ↦
      let before = least_on n q test more none here in
      elim (test n) as (λ t. (if t then earlier nat_lt (first_below n test nat_lt) n else first_below n test nat_lt) ≡ Some q) [
        | true ↦ rw (before, not_less n q more) refl
        | false ↦ before
      ]
]
  where
    not_less : (n q : ℕ) → q < n → nat_lt n q ≡ false
    not_less n q h = false_from_ne_true (nat_lt n q) (λ e. omega (arith, ltb-true n q e, h))

    least_none : (n : ℕ) (test : ℕ → Bool) → ((k : ℕ) → k < n → test k ≡ false) → first_below n test nat_lt ≡ None
    least_none zero test h = refl
    least_none (suc n) test h = rw (h n (omega arith)) (least_none n test (λ k below. h k (omega (arith, below))))

pub least_full : (script : ScriptData) (limit : ℕ) (run : List Logged) (q : ℕ) → q < script.nodes
    → ((k : ℕ) → k < q → is_full script limit run k ≡ false) → is_full script limit run q ≡ true → full_node script limit run ≡ Some q
least_full script limit run q inside none here = least_on script.nodes q (is_full script limit run) inside none here

pub none_full : (script : ScriptData) (limit : ℕ) (run : List Logged) → ((k : ℕ) → k < script.nodes → is_full script limit run k ≡ false)
    → full_node script limit run ≡ None
none_full script limit run h = go script.nodes h
  where
    go : (n : ℕ) → ((k : ℕ) → k < n → is_full script limit run k ≡ false) → first_below n (is_full script limit run) nat_lt ≡ None
    go zero h = refl
    go (suc n) h = rw (h n (omega arith)) (go n (λ k below. h k (omega (arith, below))))
