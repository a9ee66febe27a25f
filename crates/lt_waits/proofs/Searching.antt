-- A search, round by round.
use Rattle.std.proofs.Common.{◌≡◌, ◌≢◌, ◌∙◌, inl, inr, ℕ, zero, suc, Bool, true, false, ◌+◌, ◌<◌, ◌≤◌, ◌==◌, ◌++◌, List, [], ◌∷◌, length, take, get_or, slice_index_or, slice_set, Contains, if◌then◌else◌, refl, sym, ap, subst, arith, eq-eqb, ne_eqb, eqb-true, get_or-set_same, get_or-set_other}
use Rattle.std.proofs.Math.Nat.{eq-zero-or-pos}
use Rattle.std.proofs.lemmas.Bool.{cases_eq}
use Rattle.std.proofs.lemmas.List.{length_push, length-set, take_more}
use Rattle.std.proofs.lemmas.List.Elements.{Contains-push, Contains-push_cases, Contains-append_left}
use Rattle.lt_lists.specs.Below.{count_below}
use Rattle.lt_lists.proofs.Members.{contains_first, contains_cases, none_in}
use Rattle.lt_lists.proofs.Searches.{one_less}
use Rattle.lt_spec.specs.Rings.{Graph}
use Rattle.lt_waits.specs.Bits.{row_has, OtherWaitersStand}
use Rattle.lt_waits.specs.Search.{steps_of, next_step_of, unreached_in, IsSearch, IsReached, Reaches, IsSearched}
use Rattle.lt_waits.specs.declared.search.Search.{Search}

pub at_most : (n : ℕ) (test : ℕ → Bool) → count_below n test ≤ n
at_most zero test = omega arith
at_most (suc n) test = elim (test n) as (λ t. count_below n test + (if t then 1 else 0) ≤ suc n) [
  | true ↦ omega (arith, at_most n test)
  | false ↦ omega (arith, at_most n test)
]

pub only_one : (x y : ℕ) → Contains (x ∷ []) y → x ≡ y
only_one x y f = elim (contains_cases x y [] f) [
  | inl same ↦ same
  | inr none ↦ none_in y none
]

module _ (n : ℕ) (graph : Graph) where
  pub nothing_yet : (those : List ℕ) (k : ℕ) (found : List ℕ) (s : Search) → IsSearch n s → Reaches n graph those k found found s s
  nothing_yet those k found s is = record {
    search = is;
    kept = λ c h f. (refl, refl);
    reached = λ c h e. inl e;
    all = λ c f. inl f;
    more = λ c f. f;
    fewer = omega arith;
  }

  -- One client more is found.

  pub fewer_left : (k : ℕ) (mid new : Search) (other : ℕ) → IsSearch n mid → 0 < k → other < n → row_has mid.left other ≡ true
      → new.steps.items ≡ slice_set mid.steps.items other k → unreached_in n mid ≡ unreached_in n new + 1
  fewer_left k mid new other is pos below was steps =
      one_less n other (λ c. steps_of mid c == 0) (λ c. steps_of new c == 0) below (sym (is.left other below) ∙ was)
      (ne_eqb (steps_of new other) 0 (λ e. omega (arith, e, own, pos)))
      (λ c h apart. ap (λ (x : ℕ). x == 0) (sym (ap (λ (l : List ℕ). slice_index_or l c 0) steps ∙ get_or-set_other mid.steps.items other c k 0 apart)))
    where
      own : steps_of new other ≡ k
      own = ap (λ (l : List ℕ). slice_index_or l other 0) steps ∙ get_or-set_same mid.steps.items other k 0 (omega (arith, below, is.steps))

  module _ (those : List ℕ) (k : ℕ) (before found now : List ℕ) (old mid new : Search) (goal other : ℕ) where
    pub one_found : Reaches n graph those k before found old mid → 0 < k → other < n → row_has mid.left other ≡ true → graph other goal ≡ true
        → Contains those goal → new.steps.items ≡ slice_set mid.steps.items other k → new.next.items ≡ slice_set mid.next.items other goal
        → length new.left ≡ length mid.left → row_has new.left other ≡ false → OtherWaitersStand other mid.left new.left → now ≡ found ++ other ∷ []
        → Reaches n graph those k before now old new
    one_found r pos below was waits there steps next words gone stand pushed = record {
      search = record {
        steps = ap length steps ∙ length-set mid.steps.items other k ∙ r.search.steps;
        next = ap length next ∙ length-set mid.next.items other goal ∙ r.search.next;
        words = words ∙ r.search.words;
        left = λ c h. elim (cases_eq c other) [
          | inl same ↦
              ap (row_has new.left) same ∙ gone
              ∙ sym (ap (λ (x : ℕ). steps_of new x == 0) same ∙ ne_eqb (steps_of new other) 0 (λ e. omega (arith, e, own_steps, pos)))
          | inr apart ↦ stand c apart ∙ r.search.left c h ∙ ap (λ (x : ℕ). x == 0) (sym (other_steps c apart))
        ];
      };
      kept = λ c h f.
          let was_so = r.kept c h f in
          let apart : c ≢ other = λ same. omega (arith, was_so.0, f, ap (steps_of mid) same, none) in
          (other_steps c apart ∙ was_so.0, other_next c apart ∙ was_so.1);
      reached = λ c h e. elim (cases_eq c other) [
        | inl same ↦ subst (IsReached graph those k now new) (sym same) (inr (own_steps, (subst (Contains those) (sym own_next) there, (ap (graph other) own_next ∙ waits, own_place))))
        | inr apart ↦ elim (r.reached c h e) [
          | inl none_so ↦ inl (other_steps c apart ∙ none_so)
          | inr is ↦ inr (
            other_steps c apart ∙ is.0,
            (
              subst (Contains those) (sym (other_next c apart)) is.1.0,
              (ap (graph c) (other_next c apart) ∙ is.1.1.0, earlier c is.1.1.1),
            ),
          )
        ]
      ];
      all = λ c f. elim (Contains-push_cases found other c (subst (λ (l : List ℕ). Contains l c) pushed f)) [
        | inl was_there ↦ elim (r.all c was_there) [
          | inl first ↦ inl first
          | inr is ↦ inr (is.0, steps_now c is.1)
        ]
        | inr same ↦ inr (subst (λ (x : ℕ). (x < n) × (steps_of new x ≡ k)) same (below, own_steps))
      ];
      more = λ c f. earlier c (r.more c f);
      fewer = omega (arith, r.fewer, fewer_left k mid new other r.search pos below was steps, ap length pushed, length_push found other);
    }
      where
        none : steps_of mid other ≡ 0
        none = eqb-true (steps_of mid other) 0 (sym (r.search.left other below) ∙ was)

        own_steps : steps_of new other ≡ k
        own_steps = ap (λ (l : List ℕ). slice_index_or l other 0) steps ∙ get_or-set_same mid.steps.items other k 0 (omega (arith, below, r.search.steps))

        own_next : next_step_of new other ≡ goal
        own_next = ap (λ (l : List ℕ). slice_index_or l other 0) next ∙ get_or-set_same mid.next.items other goal 0 (omega (arith, below, r.search.next))

        other_steps : (c : ℕ) → c ≢ other → steps_of new c ≡ steps_of mid c
        other_steps c apart = ap (λ (l : List ℕ). slice_index_or l c 0) steps ∙ get_or-set_other mid.steps.items other c k 0 apart

        other_next : (c : ℕ) → c ≢ other → next_step_of new c ≡ next_step_of mid c
        other_next c apart = ap (λ (l : List ℕ). slice_index_or l c 0) next ∙ get_or-set_other mid.next.items other c goal 0 apart

        steps_now : (c : ℕ) → steps_of mid c ≡ k → steps_of new c ≡ k
        steps_now c is = elim (cases_eq c other) [
          | inl same ↦ ap (steps_of new) same ∙ own_steps
          | inr apart ↦ other_steps c apart ∙ is
        ]

        own_place : Contains now other
        own_place = subst (λ (l : List ℕ). Contains l other) (sym pushed) (Contains-push found other)

        earlier : (c : ℕ) → Contains found c → Contains now c
        earlier c f = subst (λ (l : List ℕ). Contains l c) (sym pushed) (Contains-append_left found (other ∷ []) c f)

  -- none that is left waits for the client
  pub one_done : (goal : ℕ) (s : Search) → IsSearch n s → ((c : ℕ) → c < n → row_has s.left c ≡ true → graph c goal ≡ false) → IsSearched n graph (goal ∷ []) s
  one_done goal s is none c other h e f =
      subst (λ (x : ℕ). graph c x ≡ false) (only_one goal other f) (none c h (is.left c h ∙ eq-eqb (steps_of s c) 0 e))

  -- One client of a layer more is done.

  module _ (those : List ℕ) (k : ℕ) (before found now : List ℕ) (old mid new : Search) (goal : ℕ) where
    pub then_reached : Reaches n graph those k before found old mid → Reaches n graph (goal ∷ []) k found now mid new → 0 < k → Contains those goal
        → Reaches n graph those k before now old new
    then_reached first second pos there = record {
      search = second.search;
      kept = λ c h f.
          let a = first.kept c h f in
          let b = second.kept c h (omega (arith, a.0, f)) in
          (b.0 ∙ a.0, b.1 ∙ a.1);
      reached = λ c h e. elim (first.reached c h e) [
        | inl none ↦ elim (second.reached c h none) [
          | inl still ↦ inl still
          | inr is ↦ inr (is.0, (subst (Contains those) (only_one goal (next_step_of new c) is.1.0) there, is.1.1))
        ]
        | inr is ↦
            let b = second.kept c h (omega (arith, is.0, pos)) in
            inr (b.0 ∙ is.0, (subst (Contains those) (sym b.1) is.1.0, (ap (graph c) b.1 ∙ is.1.1.0, second.more c is.1.1.1)))
      ];
      all = λ c f. elim (second.all c f) [
        | inl was ↦ elim (first.all c was) [
          | inl early ↦ inl early
          | inr is ↦ inr (is.0, (second.kept c is.0 (omega (arith, is.1, pos))).0 ∙ is.1)
        ]
        | inr is ↦ inr is
      ];
      more = λ c f. second.more c (first.more c f);
      fewer = omega (arith, first.fewer, second.fewer);
    }

  -- what isn't found now wasn't found before
  not_before : (those : List ℕ) (k : ℕ) (found now : List ℕ) (mid new : Search) → Reaches n graph those k found now mid new → (c : ℕ) → c < n
      → steps_of new c ≡ 0 → steps_of mid c ≡ 0
  not_before those k found now mid new r c h e = elim (eq-zero-or-pos (steps_of mid c)) [
    | inl none ↦ none
    | inr some ↦ absurd (omega (arith, (r.kept c h some).0, some, e))
  ]

  pub then_done : (those : List ℕ) (k i d : ℕ) (found now : List ℕ) (mid new : Search) → i < length those → IsSearched n graph (take i those) mid
      → Reaches n graph (get_or those i d ∷ []) k found now mid new → IsSearched n graph (get_or those i d ∷ []) new → IsSearched n graph (take (i + 1) those) new
  then_done those k i d found now mid new inside done r more c other h e f =
      elim (Contains-push_cases (take i those) (get_or those i d) other (subst (λ (l : List ℕ). Contains l other) (take_more those i d inside) f)) [
        | inl early ↦ done c other h (not_before (get_or those i d ∷ []) k found now mid new r c h e) early
        | inr last ↦ more c other h e (contains_first (get_or those i d) other [] last)
      ]
