-- The order of takes.
use Rattle.std.proofs.Common.{◌≡◌, Bool, true, false, ℕ, zero, suc, ◌<◌, ◌≤◌, ◌+◌, List, [], ◌∷◌, ◌++◌, inl, inr, refl, sym, subst, ◌∙◌, arith, map, filter, flat_map, nat_lt, if◌then◌else◌, ltb-true}
use Rattle.std.specs.List.{range_with_len}
use Rattle.std.proofs.lemmas.Bool.{and_parts, false≢true, cases_lt, cases_order}
use Rattle.lt_modes.specs.Script.{ScriptData}
use Rattle.lt_spec.specs.World.{World, has_mail}
use Rattle.lt_spec.specs.FixedOrder.{Turn, take_turn, senders}
use Rattle.lt_law_enabled.specs.OrderLaws.{IsLessByTwo}

-- where none of so many numbers passes
none_passes : (test : ℕ → Bool) (k n : ℕ) → filter test (range_with_len k n) ≡ [] → (i : ℕ) → k ≤ i → i < k + n → test i ≡ false
none_passes test k zero e i from below = absurd (omega (arith, from, below))
none_passes test k (suc n) e i from below =
    elim (test k) as (λ t. test k ≡ t → (if t then k ∷ filter test (range_with_len (k + 1) n) else filter test (range_with_len (k + 1) n)) ≡ [] → test i ≡ false) [
      | true ↦ λ here e. absurd (cc)
      | false ↦ λ here e. elim (cases_order i k) [
        | inl same ↦ subst (λ (j : ℕ). test j ≡ false) (sym same) here
        | inr (inl less) ↦ absurd (omega (arith, less, from))
        | inr (inr more) ↦ none_passes test (k + 1) n e i (omega (arith, more)) (omega (arith, below))
      ]
    ] refl e

-- the first of so many numbers that passes
record IsFirstOf (test : ℕ → Bool) (k p : ℕ) : Type 0 where
  passes : test p ≡ true
  from : k ≤ p
  leads : (i : ℕ) → k ≤ i → i < p → test i ≡ false

first_passes : (test : ℕ → Bool) (k n p : ℕ) (rest : List ℕ) → filter test (range_with_len k n) ≡ p ∷ rest → IsFirstOf test k p
first_passes test k zero p rest e = absurd (cc)
first_passes test k (suc n) p rest e =
    elim (test k) as (λ t. test k ≡ t → (if t then k ∷ filter test (range_with_len (k + 1) n) else filter test (range_with_len (k + 1) n)) ≡ p ∷ rest → IsFirstOf test k p) [
      | true ↦ λ here e.
          let same : k ≡ p = cc in
          record { passes = subst (λ (j : ℕ). test j ≡ true) same here; from = omega (arith, same); leads = λ i from below. absurd (omega (arith, same, from, below)) }
      | false ↦ λ here e.
          let later = first_passes test (k + 1) n p rest e in
          record {
            passes = later.passes;
            from = omega (arith, later.from);
            leads = λ i from below. elim (cases_order i k) [
              | inl same ↦ subst (λ (j : ℕ). test j ≡ false) (sym same) here
              | inr (inl less) ↦ absurd (omega (arith, less, from))
              | inr (inr more) ↦ later.leads i (omega (arith, more)) below
            ];
          }
    ] refl e

sender_inside : (script : ScriptData) (w : World) (p q : ℕ) → has_mail script w p q ≡ true → p < script.nodes
sender_inside script w p q e = ltb-true p script.nodes (and_parts (nat_lt p script.nodes) _ e).0

pub receiver_inside : (script : ScriptData) (w : World) (p q : ℕ) → has_mail script w p q ≡ true → q < script.nodes
receiver_inside script w p q e = ltb-true q script.nodes (and_parts (nat_lt q script.nodes) _ (and_parts (nat_lt p script.nodes) _ e).1).0

-- the take is the first of those by receivers from k on
pub record IsFirstTake (script : ScriptData) (w : World) (k : ℕ) (turn : Turn) : Type 0 where
  pub q : ℕ
  pub p : ℕ
  pub is_take : turn ≡ take_turn q p
  pub from : k ≤ q
  pub mail : has_mail script w p q ≡ true
  pub leads : (r o : ℕ) → k ≤ r → has_mail script w o r ≡ true → IsLessByTwo r q o p → ⊥

pub first_take : (script : ScriptData) (w : World) (k n : ℕ) (turn : Turn) (rest : List Turn) → flat_map (λ q. map (take_turn q) (senders script w q)) (range_with_len k n) ≡ turn ∷ rest
    → IsFirstTake script w k turn
first_take script w k zero turn rest e = absurd (cc)
first_take script w k (suc n) turn rest e =
    elim (senders script w k) as (λ ps. senders script w k ≡ ps
    → map (take_turn k) ps ++ flat_map (λ q. map (take_turn q) (senders script w q)) (range_with_len (k + 1) n) ≡ turn ∷ rest → IsFirstTake script w k turn) [
      | [] ↦ λ none e.
          let later = first_take script w (k + 1) n turn rest e in
          record {
            q = later.q;
            p = later.p;
            is_take = later.is_take;
            from = omega (arith, later.from);
            mail = later.mail;
            leads = λ r o from mail less. elim (cases_lt k r) [
              | inl after ↦ later.leads r o (omega (arith, after)) mail less
              | inr here ↦
                  let same : r ≡ k = omega (arith, from, here) in
                  let at_k : has_mail script w o k ≡ true = subst (λ (j : ℕ). has_mail script w o j ≡ true) same mail in
                  absurd (false≢true (sym (none_passes (λ i. has_mail script w i k) 0 script.nodes none o (omega arith) (omega (arith, sender_inside script w o k at_k))) ∙ at_k))
            ];
          }
      | (p ∷ ps) ↦ λ some e.
          let front : take_turn k p ≡ turn = cc in
          let first = first_passes (λ i. has_mail script w i k) 0 script.nodes p ps some in
          record {
            q = k;
            p = p;
            is_take = sym front;
            from = omega arith;
            mail = first.passes;
            leads = λ r o from mail less. elim less [
              | inl before ↦ absurd (omega (arith, before, from))
              | inr same ↦
                  let at_k : has_mail script w o k ≡ true = subst (λ (j : ℕ). has_mail script w o j ≡ true) same.0 mail in
                  absurd (false≢true (sym (first.leads o (omega arith) same.1) ∙ at_k))
            ];
          }
    ] refl e

-- where there are no takes, no letter is on its way
pub none_taken : (script : ScriptData) (w : World) (k n : ℕ) → flat_map (λ q. map (take_turn q) (senders script w q)) (range_with_len k n) ≡ []
    → (r o : ℕ) → k ≤ r → r < k + n → has_mail script w o r ≡ true → ⊥
none_taken script w k zero e r o from below mail = omega (arith, from, below)
none_taken script w k (suc n) e r o from below mail =
    elim (senders script w k) as (λ ps. senders script w k ≡ ps
    → map (take_turn k) ps ++ flat_map (λ q. map (take_turn q) (senders script w q)) (range_with_len (k + 1) n) ≡ [] → ⊥) [
      | [] ↦ λ none e. elim (cases_lt k r) [
        | inl after ↦ none_taken script w (k + 1) n e r o (omega (arith, after)) (omega (arith, below)) mail
        | inr here ↦
            let same : r ≡ k = omega (arith, from, here) in
            let at_k : has_mail script w o k ≡ true = subst (λ (j : ℕ). has_mail script w o j ≡ true) same mail in
            false≢true (sym (none_passes (λ i. has_mail script w i k) 0 script.nodes none o (omega arith) (omega (arith, sender_inside script w o k at_k))) ∙ at_k)
      ]
      | (p ∷ ps) ↦ λ some e. absurd (cc)
    ] refl e
