-- Each step on the word of a slot keeps the rule.
use Rattle.std.proofs.Common.{◌≡◌, ℕ, ◌+◌, ◌-◌, ◌<◌, eqb, true, List, ◌∷◌, length, slice_index, slice_set, Option, Some, sym, refl, ap, ◌∙◌, subst, inl, inr, ⊎_elim, arith}
use mathlib.Core.Logic.{dite}
use mathlib.Core.Option as math
use native.Mathlib.Decide.{ℕ_discrete}
use lib.Seq.{set-get_or}
use prog.Atomic.{either}
use Rattle.atomic_table.specs.Table.{State, Act, Step, Valid, step, keeps, takes, gives, stepped, rest, homes_after, carried_after, Allows}
use Rattle.atomic_table.proofs.Lists.{exchanged}
use Rattle.lt_pool.specs.declared.view.View.{View}
use Rattle.lt_pool.specs.Rule.{Has, without_first, ContinuesAt, IsLive, Kept, empty_hands}
use Rattle.lt_pool.specs.Views.{claimed_more, refused_more, claimed_less, brought_forward}
use Rattle.lt_pool.specs.Steps.{Mine, Before, Claims, Forwards, Releases, Takes, IsRefused, IsReleased, forwarded}
use Rattle.lt_pool.proofs.RuleLemmas.{has_without, without_keeps, without_it, differ_without, reorders, refuses, goes_out, comes_home, view_changes}
use Rattle.lt_pool.proofs.Forwarding.{Homes, brings}

-- the slot of the word after that of slot i
slot_back : (i : ℕ) → (i + 1) - 1 ≡ i
slot_back i = omega arith

module _ {T : Type 0} where
  -- the slot of the word that a step is on
  pub takes_slot : (continues : T → T → Type 0) (word i : ℕ) (m m' : Mine T) → word ≡ i + 1
      → Takes continues (word - 1) m m' → Takes continues i m m'
  takes_slot continues word i m m' e t = subst (λ j. Takes continues j m m') (ap (λ n. n - 1) e ∙ slot_back i) t

  pub refused_slot : (word i found : ℕ) (m m' : Mine T) → word ≡ i + 1
      → IsRefused (word - 1) found m m' → IsRefused i found m m'
  refused_slot word i found m m' e t = subst (λ j. IsRefused j found m m') (ap (λ n. n - 1) e ∙ slot_back i) t

  pub released_slot : (word i : ℕ) (m m' : Mine T) → word ≡ i + 1 → IsReleased (word - 1) m m' → IsReleased i m m'
  released_slot word i m m' e t = subst (λ j. IsReleased j m m') (ap (λ n. n - 1) e ∙ slot_back i) t

  -- a compare and exchange of 0 for `mine` on the word of slot i
  abbrev pub claim_step : ℕ → ℕ → ℕ → Step (Option T)
  claim_step slots i mine = step slots (i + 1) 0 mine math.none

  -- a load of it, or a store of 0
  abbrev pub word_step : ℕ → ℕ → Step (Option T)
  word_step slots i = step slots (i + 1) 0 0 math.none

module _ {T : Type 0} (continues : T → T → Type 0) (firsts : List T) where
  abbrev Rule : State (Option T) (View T) → Type 0
  Rule s = Kept continues firsts s

  -- a step that left the word as it was
  same_word : (s : State (Option T) (View T)) (i : ℕ) (homes : Homes T) (views : List (View T))
      → Rule record { words = s.words; homes = homes; views = views }
      → Rule record { words = slice_set s.words (i + 1) (slice_index s.words (i + 1)); homes = homes; views = views }
  same_word s i homes views r =
      subst (λ (words : List ℕ). Rule record { words = words; homes = homes; views = views })
      (sym (set-get_or s.words (i + 1) 0)) r

  claims_by : (slots id i : ℕ) (m : Mine T) → i < length firsts → m.0.live ≡ true → m.0.firsts ≡ firsts
      → Allows Rule slots id m (i + 1) (λ n. either (eqb n 0) (m.0.number + 1) n)
      (Claims continues (claim_step slots i (m.0.number + 1)) m)
  claims_by slots id i m li live told s r rows here fits =
      let is : IsLive s.views id m.0 = record { there = here; live = live } in
      let mine = m.0.number + 1 in
      let word = slice_index s.words (i + 1) in
      let back = sym (slot_back i) in
      exchanged word 0 mine
      (λ n. (w : View T) × (a : Act (Option T)) × Valid s.homes m.1 a × Rule (stepped s (i + 1) n id m.1 w a)
      × Claims continues (claim_step slots i mine) m word (w, carried_after m.1 a))
      (λ free.
      let h = r.free i li free in
      let b : Before m = (r.recorded.history, r.recorded.known id m.0 is) in
      let w = claimed_more i b.0 m.0 in
      let fits = subst (λ (f : List T). ContinuesAt continues f i h.item) (sym told) h.fits in
      let taken = subst (λ j. Takes continues j m (w, (i, Some h.item) ∷ m.1)) back (h.item, b, refl, fits) in
      let kept = goes_out continues firsts s id i m.0 li r is free in
      (w, takes i (Some h.item), h.there, kept, ((λ z. taken), (λ nz. absurd (nz free)))))
      (λ nz.
      let b : Before m = (r.recorded.history, r.recorded.known id m.0 is) in
      let w = refused_more i word b.0 m.0 in
      let stays = refuses continues firsts s id i word m.0 r li is refl nz in
      let kept = same_word s i s.homes (slice_set s.views id w) stays in
      let refused = subst (λ j. IsRefused j word m (w, m.1)) back (b, refl) in
      (w, keeps, tt, kept, ((λ z. absurd (nz z)), (λ other. refused))))

  pub claims : (slots id i mine : ℕ) (m : Mine T) → i < length firsts → m.0.live ≡ true → m.0.firsts ≡ firsts
      → mine ≡ m.0.number + 1
      → Allows Rule slots id m (i + 1) (λ n. either (eqb n 0) mine n) (Claims continues (claim_step slots i mine) m)
  claims slots id i mine m li live told same =
      subst
      (λ n. Allows Rule slots id m (i + 1) (λ x. either (eqb x 0) n x) (Claims continues (claim_step slots i n) m))
      (sym same)
      (claims_by slots id i m li live told)

  pub forwards : (slots id i : ℕ) (m : Mine T) → m.1 ≡ empty_hands m.0.claimed → m.0.live ≡ true → Has i m.0.claimed
      → Allows Rule slots id m (i + 1) (λ n. n) (Forwards (word_step slots i) m)
  forwards slots id i m hands live has s r rows here fits =
      let v = m.0 in
      let w = brought_forward i v in
      let word = slice_index s.words (i + 1) in
      let is : IsLive s.views id v = record { there = here; live = live } in
      let k = r.knows id v is in
      let homes_wide = r.rows in
      let b = brings s.homes i v.claimed has k.differ (λ j h. subst (λ n. j < n) (sym homes_wide) (k.claims j h).0) in
      let homes = homes_after s.homes (empty_hands v.claimed) b.act in
      let kept = view_changes continues firsts s id v (i ∷ without_first i v.claimed) v.refused v.history homes r is
      (reorders continues firsts s id v (i ∷ without_first i v.claimed) r is)
      (λ j. ⊎_elim (λ e. subst (λ x. Has x v.claimed) (sym e) has) (has_without i j v.claimed))
      (λ j h. dite (ℕ_discrete j i) (λ e. inl e) (λ ne. inr (without_keeps i j v.claimed ne h)))
      (without_it i v.claimed k.differ, differ_without i v.claimed k.differ)
      k.refusals b.wide b.else in
      let told : Forwards (word_step slots i) m word (w, carried_after (empty_hands v.claimed) b.act) =
      ap (λ c. (w, c)) b.carried ∙ ap (λ j. forwarded j m) (sym (slot_back i)) in
      subst
      (λ c. (u : View T) × (a : Act (Option T)) × Valid s.homes c a × Rule (stepped s (i + 1) word id c u a)
      × Forwards (word_step slots i) m word (u, carried_after c a))
      (sym hands)
      (w, b.act, b.valid, same_word s i homes (slice_set s.views id w) kept, told)

  pub releases : (slots id i : ℕ) (m : Mine T) (item : T) → m.0.live ≡ true → Has i m.0.claimed
      → m.1 ≡ (i, Some item) ∷ rest m.1 → ContinuesAt continues firsts i item → i < length firsts
      → Allows Rule slots id m (i + 1) (λ _. 0) (λ _. Releases (word_step slots i) m 0)
  releases slots id i m item live has front fits li s r rows here bound =
      let is : IsLive s.views id m.0 = record { there = here; live = live } in
      let b : Before m = (r.recorded.history, r.recorded.known id m.0 is) in
      let w = claimed_less i b.0 m.0 in
      let kept = comes_home continues firsts s id i m.0 item li has fits r is in
      let told : Releases (word_step slots i) m 0 (w, rest m.1) =
      (b, ap (λ j. (claimed_less j b.0 m.0, rest m.1)) (sym (slot_back i))) in
      subst
      (λ c. (u : View T) × (a : Act (Option T)) × Valid s.homes c a × Rule (stepped s (i + 1) 0 id c u a)
      × Releases (word_step slots i) m 0 (u, carried_after c a))
      (sym front)
      (w, gives, tt, kept, told)
