-- What the lines of a report tell.
use Rattle.std.proofs.Common.{◌≡◌, ℕ, ◌<◌, inl, inr, List, [], ◌∷◌, ◌++◌, true, refl, sym, ap, subst, ◌∙◌, ◌==◌, map, filter, flat_map, Contains}
use Rattle.std.specs.List.{IsDistinct}
use Rattle.std.proofs.lemmas.List.Elements.{Contains-append_cases, Contains-append_left, Contains-append_right}
use Rattle.lt_lists.proofs.Members.{contains_first, contains_later, contains_cases, contains_filter, contains_filtered, contains_map, contains_mapped, list_any-at, list_any-which, none_in}
use Rattle.lt_spec.specs.Rings.{Graph, numbers_below, AreBelow, IsRing, ring_set, ring_of, walk_end, waits_for_some, ReportLine, WaitsLine, CycleLine, NoCycleLine, EndsLine, waits_lines, ends_lines, last_lines, report}
use Rattle.lt_law_waiting.specs.ReportLaws.{CyclesAreRings, RingsAreTold, NoCycleIsTold, EndsAreTold, WaitsAreTold, EndsAreAll}
use Rattle.lt_law_waiting.proofs.RingWalks.{in_below, below_in, remaining_below, walk_finds_ring, no_ring, cons_some, ring_in_set}

pub flat_map-which : {X Y : Type 0} (f : X → List Y) (xs : List X) (y : Y) → Contains (flat_map f xs) y → (x : X) × Contains (f x) y
flat_map-which f [] y there = none_in y there
flat_map-which f (x ∷ rest) y there = elim (Contains-append_cases (f x) (flat_map f rest) y there) [
  | inl here ↦ (x, here)
  | inr later ↦ flat_map-which f rest y later
]

-- a line `waits` is no other line
pub waits_only : (n : ℕ) (graph : Graph) (line : ReportLine) → Contains (waits_lines n graph) line → (c d : ℕ) × (WaitsLine c d ≡ line)
waits_only n graph line there =
    let found = flat_map-which (λ c. map (WaitsLine c) (filter (graph c) (numbers_below n))) (numbers_below n) line there in
    let pair = contains_mapped (WaitsLine found.0) (filter (graph found.0) (numbers_below n)) line found.1 in
    (found.0, pair.0, pair.2)

pub ends_only : (n : ℕ) (graph : Graph) (line : ReportLine) → Contains (ends_lines n graph) line → (c : ℕ) × Contains (filter (waits_for_some n graph) (numbers_below n)) c × (EndsLine c (walk_end n graph c) ≡ line)
ends_only n graph line there = contains_mapped (λ c. EndsLine c (walk_end n graph c)) (filter (waits_for_some n graph) (numbers_below n)) line there

cycle_is : (a b : List ℕ) → CycleLine a ≡ CycleLine b → a ≡ b
cycle_is a b e = cc

waits_not_cycle : {A : Type 0} (c d : ℕ) (ring : List ℕ) → WaitsLine c d ≡ CycleLine ring → A
waits_not_cycle c d ring e = cc

ends_not_cycle : {A : Type 0} (c d : ℕ) (ring : List ℕ) → EndsLine c d ≡ CycleLine ring → A
ends_not_cycle c d ring e = cc

none_not_cycle : {A : Type 0} (ring : List ℕ) → NoCycleLine ≡ CycleLine ring → A
none_not_cycle ring e = cc

waits_not_ends : {A : Type 0} (c d x y : ℕ) → WaitsLine c d ≡ EndsLine x y → A
waits_not_ends c d x y e = cc

cycle_not_ends : {A : Type 0} (ring : List ℕ) (x y : ℕ) → CycleLine ring ≡ EndsLine x y → A
cycle_not_ends ring x y e = cc

none_not_ends : {A : Type 0} (x y : ℕ) → NoCycleLine ≡ EndsLine x y → A
none_not_ends x y e = cc

ends_first : (a b x y : ℕ) → EndsLine a b ≡ EndsLine x y → a ≡ x
ends_first a b x y e = cc

ends_second : (a b x y : ℕ) → EndsLine a b ≡ EndsLine x y → b ≡ y
ends_second a b x y e = cc

waits_not_none : {A : Type 0} (c d : ℕ) → WaitsLine c d ≡ NoCycleLine → A
waits_not_none c d e = cc

pub cycles_are_rings : CyclesAreRings
cycles_are_rings n graph ring there = elim (Contains-append_cases (waits_lines n graph) (last_lines n graph (ring_set n graph)) (CycleLine ring) there) [
  | inl waits ↦ let line = waits_only n graph (CycleLine ring) waits in waits_not_cycle line.0 line.1 ring line.2
  | inr last ↦ by_set (ring_set n graph) refl last
]
  where
    by_set : (set : List ℕ) → ring_set n graph ≡ set → Contains (last_lines n graph set) (CycleLine ring)
        → AreBelow n ring × IsRing graph ring × IsDistinct (λ a b. a == b) ring
    by_set [] e found = elim (contains_cases NoCycleLine (CycleLine ring) (ends_lines n graph) found) [
      | inl same ↦ none_not_cycle ring same
      | inr ends ↦ let line = ends_only n graph (CycleLine ring) ends in ends_not_cycle line.0 (walk_end n graph line.0) ring line.2
    ]
    by_set (c ∷ rest) e found = elim (contains_cases (CycleLine (ring_of n graph (c ∷ rest))) (CycleLine ring) [] found) [
      | inl same ↦
          let walk = walk_finds_ring n graph (λ none. cons_some c rest (sym e ∙ none)) in
          let is : ring_of n graph (ring_set n graph) ≡ ring = ap (ring_of n graph) e ∙ cycle_is (ring_of n graph (c ∷ rest)) ring same in (
            λ x among. remaining_below graph n n x (walk.1 x (subst (λ (l : List ℕ). Contains l x) (sym is) among)),
            subst (IsRing graph) is walk.0,
            subst (IsDistinct (λ a b. a == b)) is walk.2,
          )
      | inr none ↦ none_in (CycleLine ring) none
    ]

pub rings_are_told : RingsAreTold
rings_are_told n graph clients under is_ring = by_set (ring_set n graph) refl
  where
    by_set : (set : List ℕ) → ring_set n graph ≡ set → (ring : List ℕ) × (report n graph ≡ waits_lines n graph ++ CycleLine ring ∷ [])
    by_set [] e = absurd (no_ring n graph e clients under is_ring)
    by_set (c ∷ rest) e = (ring_of n graph (c ∷ rest), ap (λ (s : List ℕ). waits_lines n graph ++ last_lines n graph s) e)

pub no_cycle_is_told : NoCycleIsTold
no_cycle_is_told n graph = (told, tells)
  where
    told : Contains (report n graph) NoCycleLine → (clients : List ℕ) → AreBelow n clients → IsRing graph clients → ⊥
    told there clients under is_ring =
        let line = rings_are_told n graph clients under is_ring in
        elim (Contains-append_cases (waits_lines n graph) (CycleLine line.0 ∷ []) NoCycleLine (subst (λ (l : List ReportLine). Contains l NoCycleLine) line.1 there)) [
          | inl waits ↦ let found = waits_only n graph NoCycleLine waits in waits_not_none found.0 found.1 found.2
          | inr last ↦ elim (contains_cases (CycleLine line.0) NoCycleLine [] last) [
            | inl same ↦ none_not_cycle line.0 (sym same)
            | inr none ↦ none_in NoCycleLine none
          ]
        ]

    tells : ((clients : List ℕ) → AreBelow n clients → IsRing graph clients → ⊥) → Contains (report n graph) NoCycleLine
    tells none = by_set (ring_set n graph) refl
      where
        by_set : (set : List ℕ) → ring_set n graph ≡ set → Contains (report n graph) NoCycleLine
        by_set [] e = Contains-append_right (waits_lines n graph) (last_lines n graph (ring_set n graph)) NoCycleLine
            (subst (λ (s : List ℕ). Contains (last_lines n graph s) NoCycleLine) (sym e) (contains_first NoCycleLine NoCycleLine (ends_lines n graph) refl))
        by_set (c ∷ rest) e = let ring = ring_in_set n graph (λ empty. cons_some c rest (sym e ∙ empty)) in absurd (none ring.0 ring.1 ring.2)

pub ends_are_told : EndsAreTold
ends_are_told n graph c d there = elim (Contains-append_cases (waits_lines n graph) (last_lines n graph (ring_set n graph)) (EndsLine c d) there) [
  | inl waits ↦ let line = waits_only n graph (EndsLine c d) waits in waits_not_ends line.0 line.1 c d line.2
  | inr last ↦ by_set (ring_set n graph) refl last
]
  where
    by_set : (set : List ℕ) → ring_set n graph ≡ set → Contains (last_lines n graph set) (EndsLine c d)
        → (ring_set n graph ≡ []) × (c < n) × (d ≡ walk_end n graph c) × (other : ℕ) × (other < n) × (graph c other ≡ true)
    by_set [] e found = elim (contains_cases NoCycleLine (EndsLine c d) (ends_lines n graph) found) [
      | inl same ↦ none_not_ends c d same
      | inr ends ↦
          let line = ends_only n graph (EndsLine c d) ends in
          let is : line.0 ≡ c = ends_first line.0 (walk_end n graph line.0) c d line.2 in
          let passes = contains_filtered (waits_for_some n graph) (numbers_below n) line.0 line.1 in
          let other = list_any-which (graph line.0) (numbers_below n) passes.1 in (
            e,
            subst (λ (x : ℕ). x < n) is (below_in n line.0 passes.0),
            sym (ends_second line.0 (walk_end n graph line.0) c d line.2) ∙ ap (walk_end n graph) is,
            other.0,
            below_in n other.0 other.1,
            subst (λ (x : ℕ). graph x other.0 ≡ true) is other.2,
          )
    ]
    by_set (x ∷ rest) e found = elim (contains_cases (CycleLine (ring_of n graph (x ∷ rest))) (EndsLine c d) [] found) [
      | inl same ↦ cycle_not_ends (ring_of n graph (x ∷ rest)) c d same
      | inr none ↦ none_in (EndsLine c d) none
    ]

-- a line `waits` stands exactly for each pair
waits_pair : (a b x y : ℕ) → WaitsLine a b ≡ WaitsLine x y → (a ≡ x) × (b ≡ y)
waits_pair a b x y e = (cc, cc)

none_not_waits : {A : Type 0} (x y : ℕ) → NoCycleLine ≡ WaitsLine x y → A
none_not_waits x y e = cc

cycle_not_waits : {A : Type 0} (ring : List ℕ) (x y : ℕ) → CycleLine ring ≡ WaitsLine x y → A
cycle_not_waits ring x y e = cc

ends_not_waits : {A : Type 0} (a b x y : ℕ) → EndsLine a b ≡ WaitsLine x y → A
ends_not_waits a b x y e = cc

flat_map-at : {X Y : Type 0} (f : X → List Y) (xs : List X) (x : X) (y : Y) → Contains xs x → Contains (f x) y → Contains (flat_map f xs) y
flat_map-at f [] x y there here = none_in x there
flat_map-at f (first ∷ rest) x y there here = elim (contains_cases first x rest there) [
  | inl same ↦ Contains-append_left (f first) (flat_map f rest) y (subst (λ (z : _). Contains (f z) y) (sym same) here)
  | inr later ↦ Contains-append_right (f first) (flat_map f rest) y (flat_map-at f rest x y later here)
]

flat_map-among : {X Y : Type 0} (f : X → List Y) (xs : List X) (y : Y) → Contains (flat_map f xs) y → (x : X) × Contains xs x × Contains (f x) y
flat_map-among f [] y there = none_in y there
flat_map-among f (x ∷ rest) y there = elim (Contains-append_cases (f x) (flat_map f rest) y there) [
  | inl here ↦ (x, contains_first x x rest refl, here)
  | inr later ↦ let found = flat_map-among f rest y later in (found.0, contains_later x found.0 rest found.1, found.2)
]

-- what stands among the lines of this kind that each pair of the graph has
module _ (line : ℕ → ℕ → ReportLine) (apart : (a b x y : ℕ) → line a b ≡ line x y → (a ≡ x) × (b ≡ y)) (n : ℕ) (graph : Graph) (c d : ℕ) where
  pub pair_there : Contains (flat_map (λ x. map (line x) (filter (graph x) (numbers_below n))) (numbers_below n)) (line c d) → (c < n) × (d < n) × (graph c d ≡ true)
  pair_there there =
      let found = flat_map-among (λ x. map (line x) (filter (graph x) (numbers_below n))) (numbers_below n) (line c d) there in
      let pair = contains_mapped (line found.0) (filter (graph found.0) (numbers_below n)) (line c d) found.2 in
      let is = apart found.0 pair.0 c d pair.2 in
      let passes = contains_filtered (graph found.0) (numbers_below n) pair.0 pair.1 in (
        subst (λ (x : ℕ). x < n) is.0 (below_in n found.0 found.1),
        subst (λ (x : ℕ). x < n) is.1 (below_in n pair.0 passes.0),
        subst (λ (x : ℕ). graph x d ≡ true) is.0 (subst (λ (y : ℕ). graph found.0 y ≡ true) is.1 passes.1),
      )

  pub pair_at : (c < n) × (d < n) × (graph c d ≡ true) → Contains (flat_map (λ x. map (line x) (filter (graph x) (numbers_below n))) (numbers_below n)) (line c d)
  pair_at pair =
      flat_map-at (λ x. map (line x) (filter (graph x) (numbers_below n))) (numbers_below n) c (line c d) (in_below n c pair.0)
      (contains_map (line c) (filter (graph c) (numbers_below n)) d (contains_filter (graph c) (numbers_below n) d (in_below n d pair.1) pair.2))

pub waits_are_told : WaitsAreTold
waits_are_told n graph c d = (
  λ there. elim (Contains-append_cases (waits_lines n graph) (last_lines n graph (ring_set n graph)) (WaitsLine c d) there) [
    | inl waits ↦ pair_there WaitsLine waits_pair n graph c d waits
    | inr last ↦ not_last (ring_set n graph) last
  ],
  λ pair. Contains-append_left (waits_lines n graph) (last_lines n graph (ring_set n graph)) (WaitsLine c d) (pair_at WaitsLine waits_pair n graph c d pair),
)
  where
    not_last : {A : Type 0} (set : List ℕ) → Contains (last_lines n graph set) (WaitsLine c d) → A
    not_last [] there = elim (contains_cases NoCycleLine (WaitsLine c d) (ends_lines n graph) there) [
      | inl same ↦ none_not_waits c d same
      | inr ends ↦ let line = ends_only n graph (WaitsLine c d) ends in ends_not_waits line.0 (walk_end n graph line.0) c d line.2
    ]
    not_last (x ∷ rest) there = elim (contains_cases (CycleLine (ring_of n graph (x ∷ rest))) (WaitsLine c d) [] there) [
      | inl same ↦ cycle_not_waits (ring_of n graph (x ∷ rest)) c d same
      | inr none ↦ none_in (WaitsLine c d) none
    ]

pub ends_are_all : EndsAreAll
ends_are_all n graph none c d under also on =
    Contains-append_right (waits_lines n graph) (last_lines n graph (ring_set n graph)) (EndsLine c (walk_end n graph c))
    (subst (λ (set : List ℕ). Contains (last_lines n graph set) (EndsLine c (walk_end n graph c))) (sym none)
    (contains_later NoCycleLine (EndsLine c (walk_end n graph c)) (ends_lines n graph)
    (contains_map (λ x. EndsLine x (walk_end n graph x)) (filter (waits_for_some n graph) (numbers_below n)) c
    (contains_filter (waits_for_some n graph) (numbers_below n) c (in_below n c under) (list_any-at (graph c) (numbers_below n) d (in_below n d also) on)))))
