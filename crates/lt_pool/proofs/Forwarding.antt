-- One of the slots that a seat has is brought before the others: those before it are given back, and taken again.
use Rattle.std.proofs.Common.{◌≡◌, ◌≢◌, ℕ, ◌<◌, List, [], ◌∷◌, cond, length, slice_set, Option, None, sym, refl, ap, ◌∙◌, subst, inl, inr, ⊎_elim, eq-eqb, ne_eqb, length-set}
use mathlib.Core.Logic.{dite}
use mathlib.Core.Option as math
use native.Mathlib.Decide.{ℕ_discrete}
use lib.ListN.{get_elem?}
use Rattle.atomic_table.specs.Table.{Act, Valid, keeps, takes, gives, chain, homes_after, carried_after}
use Rattle.atomic_table.proofs.Lists.{set_here, set_else}
use Rattle.lt_pool.specs.Rule.{Has, without_first, AllDiffer, empty_hands}

-- what lies in the slots that are at home
abbrev pub Homes : Type 0 → Type 0
Homes T = List (math.Option (Option T))

-- the slots that a seat has, each with what lies in it
abbrev Hands : Type 0 → Type 0
Hands T = List (ℕ × Option T)

module _ {T : Type 0} where
  -- an act that brings slot i before the others, and leaves alone the slots that the seat doesn't have
  pub record Brings (homes : Homes T) (i : ℕ) (slots : List ℕ) : Type 0 where
    pub act : Act (Option T)
    pub valid : Valid homes (empty_hands slots) act
    pub carried : carried_after (empty_hands slots) act ≡ empty_hands (i ∷ without_first i slots)
    pub wide : length (homes_after homes (empty_hands slots) act) ≡ length homes
    pub else : (j : ℕ) → (Has j slots → ⊥) → get_elem? (homes_after homes (empty_hands slots) act) j ≡ get_elem? homes j

  -- slot i, which is the first, is given back, slot x is taken, and then slot i again
  abbrev swap : ℕ → ℕ → Act (Option T)
  swap i x = chain gives (chain (takes x None) (takes i None))

  record Swaps (homes : Homes T) (hands : Hands T) (i x : ℕ) (others : Hands T) : Type 0 where
    pub valid : Valid homes hands (swap i x)
    pub carried : carried_after hands (swap i x) ≡ (i, None) ∷ (x, None) ∷ others
    pub wide : length (homes_after homes hands (swap i x)) ≡ length homes
    pub else : (j : ℕ) → j ≢ i → j ≢ x → get_elem? (homes_after homes hands (swap i x)) j ≡ get_elem? homes j

  swaps : (homes : Homes T) (hands : Hands T) (i x : ℕ) (others : Hands T)
      → hands ≡ (i, None) ∷ others → i < length homes → x ≢ i → get_elem? homes x ≡ math.some (math.some None)
      → Swaps homes hands i x others
  swaps homes hands i x others is li ne there =
      let one = slice_set homes i (math.some None) in
      let two = slice_set one x math.none in
      subst (λ (c : Hands T). Swaps homes c i x others) (sym is)
      record {
        valid = (
          tt,
          (
            set_else homes i x (math.some None) ne ∙ there,
            set_else one x i math.none (λ e. ne (sym e)) ∙ set_here homes i (math.some None) li,
          ),
        );
        carried = refl;
        wide = length-set two i math.none ∙ (length-set one x math.none ∙ length-set homes i (math.some None));
        else = λ j ni nx.
            set_else two i j math.none ni ∙ (set_else one x j math.none nx ∙ set_else homes i j (math.some None) ni);
      }

  pub brings : (homes : Homes T) (i : ℕ) (slots : List ℕ) → Has i slots → AllDiffer slots
      → ((j : ℕ) → Has j slots → j < length homes) → Brings homes i slots
  brings homes i [] has differ below = absurd has
  brings homes i (x ∷ xs) has differ below =
      dite (ℕ_discrete i x)
      (λ e. record {
        act = keeps;
        valid = tt;
        carried = ap (λ y. (y, None) ∷ empty_hands xs) (sym e)
            ∙ ap (λ t. empty_hands (i ∷ cond t xs (x ∷ without_first i xs))) (sym (eq-eqb i x e));
        wide = refl;
        else = λ j not. refl;
      })
      (λ ne.
      let later : Has i xs = ⊎_elim (λ e. absurd (ne e)) (λ t. t) has in
      let given = slice_set homes x (math.some None) in
      let as_wide : length given ≡ length homes = length-set homes x (math.some None) in
      let rest = brings given i xs later differ.1 (λ j h. subst (λ n. j < n) (sym as_wide) (below j (inr h))) in
      let others = empty_hands (without_first i xs) in
      let homes_then = homes_after given (empty_hands xs) rest.act in
      let hands_then = carried_after (empty_hands xs) rest.act in
      let back = swaps homes_then hands_then i x others
      rest.carried
      (subst (λ n. i < n) (sym (rest.wide ∙ as_wide)) (below i has))
      (λ e. ne (sym e))
      (rest.else x differ.0 ∙ set_here homes x (math.some None) (below x (inl refl))) in
      record {
        act = chain gives (chain rest.act (swap i x));
        valid = (tt, (rest.valid, back.valid));
        carried = back.carried ∙ ap (λ t. empty_hands (i ∷ cond t xs (x ∷ without_first i xs))) (sym (ne_eqb i x ne));
        wide = back.wide ∙ (rest.wide ∙ as_wide);
        else = λ j not.
            back.else j (λ e. not (inr (subst (λ y. Has y xs) (sym e) later))) (λ e. not (inl e))
            ∙ (rest.else j (λ h. not (inr h)) ∙ set_else homes x j (math.some None) (λ e. not (inl e)));
      })
