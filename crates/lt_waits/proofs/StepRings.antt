-- The ring that the steps of a search make, and why none is shorter.
use Rattle.std.proofs.Common.{◌≡◌, ◌∙◌, inl, inr, ℕ, Bool, true, false, ◌+◌, ◌<◌, ◌≤◌, ◌==◌, ◌++◌, List, [], ◌∷◌, length, Contains, refl, sym, ap, subst, arith, eqb-true}
use Rattle.std.specs.List.{list_any, IsDistinct}
use Rattle.std.proofs.lemmas.Cmp.{nat_eq_equiv}
use Rattle.std.proofs.lemmas.List.{length_push}
use Rattle.std.proofs.lemmas.List.Elements.{Contains-push_cases}
use Rattle.std.proofs.lemmas.Map.Keys.{IsDistinct-push}
use Rattle.lt_lists.proofs.Members.{contains_first, contains_later, list_any-which, none_in}
use Rattle.lt_spec.specs.Rings.{Graph, AreBelow, first_or, IsPath, IsRing}
use Rattle.lt_waits.specs.Search.{steps_of, next_step_of, GoesNearer, HasSteps}
use Rattle.lt_waits.specs.Shortest.{IsRingOf}
use Rattle.lt_waits.specs.declared.search.Search.{Search}
use Rattle.lt_waits.proofs.Layers.{path_further, first_further}

-- these clients were gone through from the start on, and the next one is left with so many steps to go
pub record IsWalk (n : ℕ) (graph : Graph) (start : ℕ) (s : Search) (total i : ℕ) (ring : List ℕ) (client : ℕ) : Type 0 where
  pub long : length ring ≡ i
  pub goes : IsPath graph ring client
  pub begins : first_or client ring ≡ start
  pub below : AreBelow n ring
  pub here : client < n
  pub at : i < total → steps_of s client + i ≡ total
  pub end : i ≡ total → client ≡ start
  pub distinct : IsDistinct (λ a b. a == b) ring
  pub later : (c : ℕ) → Contains ring c → total < steps_of s c + i

module _ (n : ℕ) (graph : Graph) (start : ℕ) (s : Search) (is : HasSteps n graph start s) where
  -- a path to the start has no fewer clients than its first one has steps
  pub no_shorter : (c : ℕ) (rest : List ℕ) → IsPath graph (c ∷ rest) start → AreBelow n (c ∷ rest) → (0 < steps_of s c) × (steps_of s c ≤ length rest + 1)
  no_shorter c [] goes below =
      let one = is.first c (below c (contains_first c c [] refl)) goes.0 in
      (omega (arith, one), omega (arith, one))
  no_shorter c (d ∷ more) goes below =
      let later = no_shorter d more goes.1 (λ x f. below x (contains_later c x (d ∷ more) f)) in
      let step = is.further c d (below c (contains_first c c (d ∷ more) refl)) (below d (contains_later c d (d ∷ more) (contains_first d d more refl))) goes.0 later.0 in
      (step.0, omega (arith, step.1, later.1))

  pub walk_begins : (total : ℕ) → start < n → 0 < total → total ≡ steps_of s start → IsWalk n graph start s total 0 [] start
  unfolding IsDistinct
  walk_begins total inside some is_total = record {
    long = refl;
    goes = tt;
    begins = refl;
    below = λ c f. none_in c f;
    here = inside;
    at = λ h. omega (arith, is_total);
    end = λ e. refl;
    distinct = tt;
    later = λ c f. none_in c f;
  }

  pub walk_on : (total i : ℕ) (ring now : List ℕ) (client : ℕ) → IsWalk n graph start s total i ring client → i < total → now ≡ ring ++ client ∷ []
      → IsWalk n graph start s total (i + 1) now (next_step_of s client)
  walk_on total i ring now client w more pushed = subst (λ (l : List ℕ). IsWalk n graph start s total (i + 1) l (next_step_of s client)) (sym pushed) (record {
    long = length_push ring client ∙ ap (λ (x : ℕ). x + 1) w.long;
    goes = path_further graph ring client (next_step_of s client) w.goes near.0;
    begins = first_further ring client (next_step_of s client) ∙ w.begins;
    below = λ c f. elim (Contains-push_cases ring client c f) [
      | inl old ↦ w.below c old
      | inr same ↦ subst (λ (x : ℕ). x < n) same w.here
    ];
    here = is.next_below client w.here some;
    at = λ h. elim near.1 [
      | inl one ↦ absurd (omega (arith, h, one.0, steps))
      | inr step ↦ omega (arith, step.1, steps)
    ];
    end = λ e. elim near.1 [
      | inl one ↦ one.1
      | inr step ↦ absurd (omega (arith, e, step.0, step.1, steps))
    ];
    distinct = IsDistinct-push nat_eq_equiv ring client w.distinct (apart (list_any (λ x. client == x) ring) refl);
    later = λ c f. elim (Contains-push_cases ring client c f) [
      | inl old ↦ omega (arith, w.later c old)
      | inr same ↦ omega (arith, steps, ap (steps_of s) same)
    ];
  })
    where
      steps : steps_of s client + i ≡ total
      steps = w.at more

      some : 0 < steps_of s client
      some = omega (arith, steps, more)

      near : GoesNearer graph start s client
      near = is.nearer client w.here some

      apart : (t : Bool) → list_any (λ x. client == x) ring ≡ t → list_any (λ x. client == x) ring ≡ false
      apart false e = e
      apart true e =
          let found = list_any-which (λ x. client == x) ring e in
          absurd (omega (arith, w.later found.0 found.1, ap (steps_of s) (eqb-true client found.0 found.2), steps))

  pub walk_closes : (total i : ℕ) (ring : List ℕ) (client : ℕ) → IsWalk n graph start s total i ring client → 0 < total → i ≡ total → IsRingOf n graph ring
  walk_closes total i ring client w some all = record {
    below = w.below;
    ring = closes ring w.long w.begins (subst (IsPath graph ring) (w.end all) w.goes);
    distinct = w.distinct;
  }
    where
      closes : (xs : List ℕ) → length xs ≡ i → first_or client xs ≡ start → IsPath graph xs start → IsRing graph xs
      closes [] none begins goes = absurd (omega (arith, none, some, all))
      closes (a ∷ rest) many begins goes = subst (IsPath graph (a ∷ rest)) (sym begins) goes
