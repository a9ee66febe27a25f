-- After each round of a search the clients of its last layer are those that come to the goal in so many steps.
use Rattle.std.proofs.Common.{◌≡◌, ◌∙◌, ◌⊎◌, inl, inr, ℕ, true, ◌+◌, ◌<◌, ◌≤◌, ◌==◌, List, [], ◌∷◌, length, Contains, refl, sym, ap, subst, arith}
use Rattle.std.proofs.Math.Nat.{eq-zero-or-pos}
use Rattle.std.proofs.lemmas.Bool.{cases_lt, false≢true}
use Rattle.lt_lists.proofs.Members.{contains_first, none_in}
use Rattle.lt_spec.specs.Rings.{Graph}
use Rattle.lt_waits.specs.Search.{steps_of, next_step_of, unreached_in, IsSearch, IsReached, Reaches, IsSearched, GoesNearer, HasSteps}
use Rattle.lt_waits.specs.declared.search.Search.{Search}
use Rattle.lt_waits.proofs.Searching.{at_most, only_one}

-- all that come to the goal in fewer steps are known with those that wait for them, and the layer has those that come to it in so many
pub record IsRound (n : ℕ) (graph : Graph) (goal k : ℕ) (layer : List ℕ) (s : Search) : Type 0 where
  pub search : IsSearch n s
  pub some : 0 < k
  pub few : (c : ℕ) → c < n → steps_of s c ≤ k
  pub last : (c : ℕ) → c < n → steps_of s c ≡ k → Contains layer c
  pub at : (c : ℕ) → Contains layer c → (c < n) × (steps_of s c ≡ k)
  pub first : (c : ℕ) → c < n → graph c goal ≡ true → steps_of s c ≡ 1
  pub further : (c other : ℕ) → c < n → other < n → graph c other ≡ true → 0 < steps_of s other → steps_of s other < k
      → (0 < steps_of s c) × (steps_of s c ≤ steps_of s other + 1)
  pub nearer : (c : ℕ) → c < n → 0 < steps_of s c → GoesNearer graph goal s c
  pub next_below : (c : ℕ) → c < n → 0 < steps_of s c → next_step_of s c < n
  pub bound : k + unreached_in n s + length layer ≤ n + 1

module _ (n : ℕ) (graph : Graph) (goal : ℕ) where
  pub first_round : (layer : List ℕ) (old s : Search) → goal < n → ((c : ℕ) → c < n → steps_of old c ≡ 0) → Reaches n graph (goal ∷ []) 1 [] layer old s
      → IsSearched n graph (goal ∷ []) s → IsRound n graph goal 1 layer s
  first_round layer old s inside none r done = record {
    search = r.search;
    some = omega arith;
    few = λ c h. elim (reached c h) [
      | inl e ↦ omega (arith, e)
      | inr is ↦ omega (arith, is.0)
    ];
    last = λ c h e. elim (reached c h) [
      | inl none_so ↦ absurd (omega (arith, e, none_so))
      | inr is ↦ is.1.1.1
    ];
    at = λ c f. elim (r.all c f) [
      | inl early ↦ none_in c early
      | inr is ↦ is
    ];
    first = λ c h on. elim (reached c h) [
      | inl none_so ↦ absurd (false≢true (sym (done c goal h none_so (contains_first goal goal [] refl)) ∙ on))
      | inr is ↦ is.0
    ];
    further = λ c other h ho on some few. absurd (omega (arith, some, few));
    nearer = λ c h some. elim (reached c h) [
      | inl none_so ↦ absurd (omega (arith, some, none_so))
      | inr is ↦ (is.1.1.0, inl (is.0, sym (only_one goal (next_step_of s c) is.1.0)))
    ];
    next_below = λ c h some. elim (reached c h) [
      | inl none_so ↦ absurd (omega (arith, some, none_so))
      | inr is ↦ subst (λ (x : ℕ). x < n) (only_one goal (next_step_of s c) is.1.0) inside
    ];
    bound = omega (arith, r.fewer, at_most n (λ c. steps_of old c == 0));
  }
    where
      reached : (c : ℕ) → c < n → IsReached graph (goal ∷ []) 1 layer s c
      reached c h = r.reached c h (none c h)

  module _ (k : ℕ) (layer next : List ℕ) (old s : Search) where
    pub next_round : IsRound n graph goal k layer old → 0 < length layer → Reaches n graph layer (k + 1) [] next old s → IsSearched n graph layer s
        → IsRound n graph goal (k + 1) next s
    next_round was some r done = record {
      search = r.search;
      some = omega arith;
      few = few;
      last = λ c h e. elim (known c h) [
        | inl kept ↦ absurd (omega (arith, kept.1.0, e, was.few c h))
        | inr (inl none) ↦ absurd (omega (arith, e, none))
        | inr (inr is) ↦ is.1.1.1
      ];
      at = λ c f. elim (r.all c f) [
        | inl early ↦ none_in c early
        | inr is ↦ is
      ];
      first = λ c h on.
          let one = was.first c h on in
          (r.kept c h (omega (arith, one))).0 ∙ one;
      further = λ c other h ho on there early. elim (known other ho) [
        | inl kept ↦ elim (cases_lt (steps_of old other) k) [
          | inl less ↦
              let found = was.further c other h ho on kept.0 less in
              let same = (r.kept c h found.0).0 in
              (omega (arith, same, found.0), omega (arith, same, found.1, kept.1.0))
          | inr more ↦
              let in_layer : Contains layer other = was.last other ho (omega (arith, more, was.few other ho)) in (
                elim (eq-zero-or-pos (steps_of s c)) [
                  | inl none ↦ absurd (false≢true (sym (done c other h none in_layer) ∙ on))
                  | inr found ↦ found
                ],
                omega (arith, few c h, more, kept.1.0),
              )
        ]
        | inr (inl none) ↦ absurd (omega (arith, there, none))
        | inr (inr is) ↦ absurd (omega (arith, early, is.0))
      ];
      nearer = λ c h there. elim (known c h) [
        | inl kept ↦
            let near = was.nearer c h kept.0 in (
              ap (graph c) kept.1.1 ∙ near.0,
              elim near.1 [
                | inl one ↦ inl (kept.1.0 ∙ one.0, kept.1.1 ∙ one.1)
                | inr step ↦
                    let same : steps_of s (next_step_of s c) ≡ steps_of old (next_step_of old c) =
                    ap (steps_of s) kept.1.1 ∙ (r.kept (next_step_of old c) (was.next_below c h kept.0) step.0).0 in
                    inr (omega (arith, same, step.0), omega (arith, same, step.1, kept.1.0))
              ],
            )
        | inr (inl none) ↦ absurd (omega (arith, there, none))
        | inr (inr is) ↦
            let from = was.at (next_step_of s c) is.1.0 in
            let same : steps_of s (next_step_of s c) ≡ k = (r.kept (next_step_of s c) from.0 (omega (arith, from.1, was.some))).0 ∙ from.1 in
            (is.1.1.0, inr (omega (arith, same, was.some), omega (arith, same, is.0)))
      ];
      next_below = λ c h there. elim (known c h) [
        | inl kept ↦ subst (λ (x : ℕ). x < n) (sym kept.1.1) (was.next_below c h kept.0)
        | inr (inl none) ↦ absurd (omega (arith, there, none))
        | inr (inr is) ↦ (was.at (next_step_of s c) is.1.0).0
      ];
      bound = omega (arith, was.bound, r.fewer, some);
    }
      where
        -- it was found before and stays so; or it wasn't, and is now or isn't
        known : (c : ℕ) → c < n
            → ((0 < steps_of old c) × ((steps_of s c ≡ steps_of old c) × (next_step_of s c ≡ next_step_of old c))) ⊎ IsReached graph layer (k + 1) next s c
        known c h = elim (eq-zero-or-pos (steps_of old c)) [
          | inl none ↦ inr (r.reached c h none)
          | inr found ↦ inl (found, r.kept c h found)
        ]

        few : (c : ℕ) → c < n → steps_of s c ≤ k + 1
        few c h = elim (known c h) [
          | inl kept ↦ omega (arith, kept.1.0, was.few c h)
          | inr (inl none) ↦ omega (arith, none)
          | inr (inr is) ↦ omega (arith, is.0)
        ]

  -- with nobody in the layer all is known
  pub last_round : (k : ℕ) (layer : List ℕ) (s : Search) → IsRound n graph goal k layer s → length layer ≡ 0 → HasSteps n graph goal s
  last_round k layer s is none = record {
    search = is.search;
    next_below = is.next_below;
    first = is.first;
    further = λ c other h ho on there. elim (cases_lt (steps_of s other) k) [
      | inl less ↦ is.further c other h ho on there less
      | inr more ↦ absurd (omega (arith, none, (is.last other ho (omega (arith, more, is.few other ho))).1))
    ];
    nearer = is.nearer;
  }
