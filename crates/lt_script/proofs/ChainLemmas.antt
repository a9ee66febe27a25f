-- The sets of a family, chained each to the next one.
use Rattle.std.proofs.Common.{◌≡◌, ◌∙◌, ℕ, zero, suc, ◌+◌, ◌-◌, ◌^◌, ◌<◌, ◌≤◌, List, [], ◌∷◌, ◌++◌, length, slice_index, slice_set, refl, sym, ap, subst, inl, inr, arith}
use Rattle.std.proofs.lemmas.Bool.{cases_eq, cases_lt}
use Rattle.std.proofs.lemmas.Grind.{get_or-set_at}
use Rattle.std.proofs.lemmas.List.{length_push, length-set, get_or_append_left, get_or_push, get_or-set_other}
use Rattle.lt_modes.specs.Script.{ScriptData, SetData, family_at}
use Rattle.lt_script.specs.Index.{IsLink}
use Rattle.lt_script.specs.Families.{AreChained, IsLastRelated, ComesNext, IsNextRelated, linked_to}
use Rattle.lt_script.proofs.IndexLemmas.{link_stays}
use Rattle.lt_script.proofs.ScriptLemmas.{family_front, family_last}

next_stays : (at more : ℕ → ℕ) (place count next : ℕ) → place < count → ((k : ℕ) → k < count → more k ≡ at k) → ComesNext at place count next → ComesNext more place count next
next_stays at more place count next inside same h = record {
  there = λ some. let t = h.there some in (t.0, t.1, same next t.1 ∙ t.2 ∙ sym (same place inside));
  first = λ k above below e. h.first k above below (sym (same k below) ∙ e ∙ same place inside);
}

-- the places are chained as before where they have their families as before
chained_stay : (at more : ℕ → ℕ) (count : ℕ) (lasts nexts : List ℕ) → ((k : ℕ) → k < count → more k ≡ at k) → AreChained at count lasts nexts → AreChained more count lasts nexts
chained_stay at more count lasts nexts same h = record {
  not_later = λ place inside. omega (arith, same place inside, h.not_later place inside);
  families = h.families;
  places = h.places;
  of_families = λ family inside. link_stays at more family count (slice_index lasts family) same (h.of_families family inside);
  of_places = λ place inside. next_stays at more place count (slice_index nexts place) inside same (h.of_places place inside);
}

-- no places are chained
pub chained_none : (at : ℕ → ℕ) → AreChained at 0 [] []
chained_none at = record {
  not_later = λ place inside. absurd (omega (arith, inside));
  families = refl;
  places = refl;
  of_families = λ family inside. absurd (omega (arith, inside));
  of_places = λ place inside. absurd (omega (arith, inside));
}

-- with a further place the next one is the same, if that place is none before it
next_on : (at : ℕ → ℕ) (place count next : ℕ) → ComesNext at place count next → (at count ≡ at place → (0 < next) × (next ≤ count)) → ComesNext at place (count + 1) next
next_on at place count next h later = record {
  there = λ some. let t = h.there some in (t.0, omega (arith, t.1), t.2);
  first = λ k above below e. elim (cases_lt k count) [
    | inl before ↦ h.first k above before e
    | inr last ↦
        let here : k ≡ count = omega (arith, last, below) in
        let found = later (ap at (sym here) ∙ e) in
        (found.0, omega (arith, found.1, here))
  ];
}

-- the further place has none behind it
next_none : (at : ℕ → ℕ) (place count : ℕ) → count ≤ place → ComesNext at place (count + 1) 0
next_none at place count last = record {
  there = λ some. absurd (omega (arith, some));
  first = λ k above below e. absurd (omega (arith, above, below, last));
}

-- each place is linked to the next one of its family also with a further place, to which the last one of its family is
next_more : (at : ℕ → ℕ) (count link : ℕ) (nexts : List ℕ) → IsLink at (at count) count link → length nexts ≡ count
    → ((place : ℕ) → place < count → ComesNext at place count (slice_index nexts place))
    → (place : ℕ) → place < count + 1 → ComesNext at place (count + 1) (slice_index (linked_to (nexts ++ 0 ∷ []) link count) place)
next_more at count zero nexts link all old place inside = elim (cases_lt place count) [
  | inl below ↦
      subst (ComesNext at place (count + 1)) (sym (get_or_append_left nexts (0 ∷ []) 0 place (omega (arith, below, all))))
      (next_on at place count (slice_index nexts place) (old place below) (λ e. absurd (omega (arith, link.behind place below (sym e)))))
  | inr last ↦
      subst (ComesNext at place (count + 1)) (sym (get_or_push nexts 0 0 place (omega (arith, all, inside, last)))) (next_none at place count last)
]
next_more at count (suc k) nexts link all old place inside = elim (cases_eq place k) [
  | inl same ↦
      subst (ComesNext at place (count + 1)) (sym (get_or-set_at (nexts ++ 0 ∷ []) k place count 0 same (omega (arith, link.within, length_push nexts 0, all))))
      (record {
        there = λ some. (omega (arith, same, link.within), omega arith, sym (link.there k (omega arith)) ∙ ap at (sym same));
        first = λ other above below e. elim (cases_lt other count) [
          | inl before ↦ absurd (omega (arith, above, same, link.behind other before (e ∙ ap at same ∙ link.there k (omega arith))))
          | inr last ↦ (omega (arith, link.within), last)
        ];
      })
  | inr other ↦
      subst (ComesNext at place (count + 1)) (sym (get_or-set_other (nexts ++ 0 ∷ []) k place count 0 other))
      (elim (cases_lt place count) [
        | inl below ↦
            subst (ComesNext at place (count + 1)) (sym (get_or_append_left nexts (0 ∷ []) 0 place (omega (arith, below, all))))
            (next_on at place count (slice_index nexts place) (old place below) (λ e.
            let before : place < k = omega (arith, link.behind place below (sym e), other) in
            let found = (old place below).first k before (omega (arith, link.within)) (link.there k (omega arith) ∙ e) in
            (found.0, omega (arith, found.1, link.within))))
        | inr last ↦
            subst (ComesNext at place (count + 1)) (sym (get_or_push nexts 0 0 place (omega (arith, all, inside, last)))) (next_none at place count last)
      ])
]

-- so are the families
chained_more : (at : ℕ → ℕ) (count : ℕ) (lasts nexts : List ℕ) → at count ≤ count → AreChained at count lasts nexts
    → AreChained at (count + 1) (slice_set (lasts ++ 0 ∷ []) (at count) (count + 1)) (linked_to (nexts ++ 0 ∷ []) (slice_index (lasts ++ 0 ∷ []) (at count)) count)
chained_more at count lasts nexts fits h = record {
  not_later = λ place inside. elim (cases_lt place count) [
    | inl below ↦ h.not_later place below
    | inr last ↦ let here : count ≡ place = omega (arith, last, inside) in subst (λ k. at k ≤ k) here fits
  ];
  families = length-set (lasts ++ 0 ∷ []) (at count) (count + 1) ∙ length_push lasts 0 ∙ ap (λ n. n + 1) h.families;
  places = all_places (slice_index (lasts ++ 0 ∷ []) (at count));
  of_families = of_family;
  of_places = next_more at count (slice_index (lasts ++ 0 ∷ []) (at count)) nexts (so_far (at count) (omega (arith, fits))) h.places h.of_places;
}
  where
    all_places : (link : ℕ) → length (linked_to (nexts ++ 0 ∷ []) link count) ≡ count + 1
    all_places zero = length_push nexts 0 ∙ ap (λ n. n + 1) h.places
    all_places (suc k) = length-set (nexts ++ 0 ∷ []) k count ∙ length_push nexts 0 ∙ ap (λ n. n + 1) h.places

    so_far : (family : ℕ) → family < count + 1 → IsLink at family count (slice_index (lasts ++ 0 ∷ []) family)
    so_far family inside = elim (cases_lt family count) [
      | inl below ↦
          subst (IsLink at family count) (sym (get_or_append_left lasts (0 ∷ []) 0 family (omega (arith, below, h.families)))) (h.of_families family below)
      | inr last ↦
          subst (IsLink at family count) (sym (get_or_push lasts 0 0 family (omega (arith, h.families, inside, last))))
          (record {
            within = omega arith;
            there = λ k e. absurd (omega (arith, e));
            behind = λ k before e. absurd (omega (arith, h.not_later k before, e, before, last));
          })
    ]

    of_family : (family : ℕ) → family < count + 1 → IsLink at family (count + 1) (slice_index (slice_set (lasts ++ 0 ∷ []) (at count) (count + 1)) family)
    of_family family inside = elim (cases_eq family (at count)) [
      | inl same ↦
          subst (IsLink at family (count + 1)) (sym (get_or-set_at (lasts ++ 0 ∷ []) (at count) family (count + 1) 0 same (omega (arith, fits, length_push lasts 0, h.families))))
          (record {
            within = omega arith;
            there = λ k e. let last : k ≡ count = omega (arith, e) in ap at last ∙ sym same;
            behind = λ k before e. before;
          })
      | inr other ↦
          let old = so_far family inside in
          subst (IsLink at family (count + 1)) (sym (get_or-set_other (lasts ++ 0 ∷ []) (at count) family (count + 1) 0 other))
          (record {
            within = omega (arith, old.within);
            there = old.there;
            behind = λ k before e. elim (cases_lt k count) [
              | inl below ↦ old.behind k below e
              | inr last ↦ absurd (let here : k ≡ count = omega (arith, last, before) in other (sym e ∙ ap at here))
            ];
          })
    ]

-- a family with a further place is among those, and what it is linked to stands before that place
pub family_inside : (set_family family count : ℕ) (lasts more : List ℕ) → family ≡ set_family → set_family ≤ count → length lasts ≡ count → more ≡ lasts ++ 0 ∷ [] → family < length more
family_inside set_family family count lasts more same fits all is = subst (λ (l : List ℕ). family < length l) (sym is) (omega (arith, same, fits, all, length_push lasts 0))

pub link_inside : (at : ℕ → ℕ) (family count : ℕ) (lasts nexts more_lasts more_nexts : List ℕ) → family ≤ count → AreChained at count lasts nexts → more_lasts ≡ lasts ++ 0 ∷ [] → more_nexts ≡ nexts ++ 0 ∷ []
    → slice_index more_lasts family < length more_nexts
link_inside at family count lasts nexts more_lasts more_nexts fits h of_lasts of_nexts =
    let all : length more_nexts ≡ count + 1 = ap length of_nexts ∙ length_push nexts 0 ∙ ap (λ n. n + 1) h.places in
    subst (λ (l : List ℕ). slice_index l family < length more_nexts) (sym of_lasts) (elim (cases_lt family count) [
      | inl below ↦
          subst (λ (n : ℕ). n < length more_nexts) (sym (get_or_append_left lasts (0 ∷ []) 0 family (omega (arith, below, h.families))))
          (omega (arith, all, (h.of_families family below).within))
      | inr last ↦ subst (λ (n : ℕ). n < length more_nexts) (sym (get_or_push lasts 0 0 family (omega (arith, h.families, fits, last)))) (omega (arith, all))
    ])

-- few places are few with a further one
pub few_places : (count : ℕ) (nexts more : List ℕ) → count < 2 ^ 31 → length nexts ≡ count → more ≡ nexts ++ 0 ∷ [] → length more < 2 ^ 32
few_places count nexts more few all is = subst (λ (l : List ℕ). length l < 2 ^ 32) (sym is) (omega (arith, few, all, length_push nexts 0))

-- a last set is chained to its family
pub set_chained : (sets : List SetData) (x : SetData) (lasts nexts : List ℕ) → x.family ≤ length sets → AreChained (family_at sets) (length sets) lasts nexts
    → AreChained (family_at (sets ++ x ∷ [])) (length (sets ++ x ∷ [])) (slice_set (lasts ++ 0 ∷ []) x.family (length (nexts ++ 0 ∷ [])))
    (linked_to (nexts ++ 0 ∷ []) (slice_index (lasts ++ 0 ∷ []) x.family) (length (nexts ++ 0 ∷ []) - 1))
set_chained sets x lasts nexts fits h =
    let at = family_at (sets ++ x ∷ []) in
    let count = length sets in
    let here : at count ≡ x.family = family_last sets x count refl in
    let old = chained_stay (family_at sets) at count lasts nexts (family_front sets x) h in
    let all : length (nexts ++ 0 ∷ []) ≡ count + 1 = length_push nexts 0 ∙ ap (λ n. n + 1) h.places in
    let last : length (nexts ++ 0 ∷ []) - 1 ≡ count = omega (arith, all) in
    let more = chained_more at count lasts nexts (omega (arith, here, fits)) old in
    let of_it = subst (λ (f : ℕ). AreChained at (count + 1) (slice_set (lasts ++ 0 ∷ []) f (count + 1)) (linked_to (nexts ++ 0 ∷ []) (slice_index (lasts ++ 0 ∷ []) f) count)) here more in
    subst (λ (n : ℕ). AreChained at n (slice_set (lasts ++ 0 ∷ []) x.family (length (nexts ++ 0 ∷ []))) (linked_to (nexts ++ 0 ∷ []) (slice_index (lasts ++ 0 ∷ []) x.family) (length (nexts ++ 0 ∷ []) - 1))) (sym (length_push sets x))
    (subst (λ (n : ℕ). AreChained at (count + 1) (slice_set (lasts ++ 0 ∷ []) x.family n) (linked_to (nexts ++ 0 ∷ []) (slice_index (lasts ++ 0 ∷ []) x.family) (length (nexts ++ 0 ∷ []) - 1))) (sym all)
    (subst (λ (n : ℕ). AreChained at (count + 1) (slice_set (lasts ++ 0 ∷ []) x.family (count + 1)) (linked_to (nexts ++ 0 ∷ []) (slice_index (lasts ++ 0 ∷ []) x.family) n)) (sym last) of_it))

-- what the next place is to a script
pub is_next_related : (s : ScriptData) (set next : ℕ) → ComesNext (family_at s.sets) set (length s.sets) next → 0 < next → IsNextRelated s set next
is_next_related s set next h some =
    let t = h.there some in record {
      later = t.0;
      inside = t.1;
      related = t.2;
      first = λ k above below e. omega (arith, below, (h.first k above (omega (arith, below, t.1)) e).1);
    }

pub is_last_related : (s : ScriptData) (set : ℕ) → ComesNext (family_at s.sets) set (length s.sets) 0 → IsLastRelated s set
is_last_related s set h = λ k above below e. omega (arith, (h.first k above below e).0)
