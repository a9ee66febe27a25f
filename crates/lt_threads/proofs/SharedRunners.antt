-- Workers on shared runners, and what is left when they have ended.
use Rattle.std.proofs.Common.{◌≡◌, ◌≢◌, ◌<◌, ◌≤◌, ◌+◌, ℕ, zero, suc, inl, inr, List, [], ◌∷◌, length, Option, Some, sym, subst, arith, ◌∙◌, slice_get, slice_set, slice_index_or}
use Rattle.std.proofs.lemmas.Bool.{cases_eq}
use Rattle.lt_lists.proofs.Members.{some_equal}
use Rattle.lt_mail.specs.Words.{Alike}
use Rattle.lt_pool.specs.Rule.{ContinuesAt}
use Rattle.lt_runner.specs.declared.parts.Parts.{Parts}
use Rattle.lt_runner.specs.Kept.{Grew, grew_itself}
use Rattle.lt_threads.specs.Meeting.{EachIs}
use Rattle.lt_threads.specs.Settled.{IsSettledRunner, AreSettled}
use Rattle.lt_threads.proofs.Each.{each_self, set_here, set_other}
use Rattle.lt_threads.proofs.Pushing.{grew_join, get_is}

-- a runner that continues the first one of its slot does so after work
pub works_on : (firsts : List Parts) (slot : ℕ) (a b : Parts) → ContinuesAt Grew firsts slot a → Grew a b → ContinuesAt Grew firsts slot b
works_on firsts slot a b h k = (h.0, h.1, grew_join h.0 a b h.2 k)

-- one of them worked
pub one_grew : (k : ℕ) (rs : List Parts) (d y : Parts) → k < length rs → Grew (slice_index_or rs k d) y → EachIs Grew rs (slice_set rs k y)
one_grew k rs d y within h j = elim (cases_eq j k) [
  | inl e ↦ subst (λ (i : ℕ). Alike Grew (slice_get rs i) (slice_get (slice_set rs k y) i)) (sym e)
      (subst (λ (o : Option Parts). Alike Grew o (slice_get (slice_set rs k y) k)) (sym (get_is rs k d within))
      (subst (λ (o : Option Parts). Alike Grew (Some (slice_index_or rs k d)) o) (sym (set_here rs k y within)) h))
  | inr apart ↦ subst (λ (o : Option Parts). Alike Grew (slice_get rs j) o) (sym (set_other rs k y j apart)) (each_self Grew grew_itself rs j)
]

pub one_settled : (patience k : ℕ) (rs : List Parts) (y p : Parts) → k < length rs → slice_get (slice_set rs k y) k ≡ Some p → IsSettledRunner patience y → IsSettledRunner patience p
one_settled patience k rs y p within there h = subst (IsSettledRunner patience) (some_equal y p (sym (set_here rs k y within) ∙ there)) h

-- the first ones are settled
abbrev pub SettledTo : ℕ → ℕ → List Parts → Type 0
SettledTo patience place rs = (k : ℕ) (p : Parts) → k < place → slice_get rs k ≡ Some p → IsSettledRunner patience p

pub next_settled : (patience place : ℕ) (old new : List Parts) → SettledTo patience place old → ((k : ℕ) → k ≢ place → slice_get new k ≡ slice_get old k)
    → ((p : Parts) → slice_get new place ≡ Some p → IsSettledRunner patience p) → SettledTo patience (place + 1) new
next_settled patience place old new first others here k p below there = elim (cases_eq k place) [
  | inl e ↦ here p (subst (λ (i : ℕ). slice_get new i ≡ Some p) e there)
  | inr apart ↦ first k p (omega (arith, below, apart)) (sym (others k apart) ∙ there)
]

below_length : (rs : List Parts) (k : ℕ) (p : Parts) → slice_get rs k ≡ Some p → k < length rs
below_length [] k p there = cc
below_length (q ∷ rs) zero p there = omega arith
below_length (q ∷ rs) (suc k) p there = let rest = below_length rs k p there in omega (arith, rest)

-- once each place was passed all are settled
pub all_settled : (patience place : ℕ) (rs : List Parts) → length rs ≤ place → SettledTo patience place rs → AreSettled patience rs
all_settled patience place rs passed first k p there =
    let within = below_length rs k p there in first k p (omega (arith, within, passed)) there
