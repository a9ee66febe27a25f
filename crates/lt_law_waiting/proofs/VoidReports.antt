-- What the lines `void` of a report tell, and that the other lines are those of the report of who waits for whom.
use Rattle.std.proofs.Common.{◌≡◌, ℕ, ◌<◌, inl, inr, List, [], ◌∷◌, ◌++◌, true, sym, map, filter, Contains}
use Rattle.std.proofs.lemmas.List.Elements.{Contains-append_cases, Contains-append_left, Contains-append_right}
use Rattle.lt_lists.proofs.Members.{contains_cases, contains_mapped, none_in}
use Rattle.lt_spec.specs.Rings.{Graph, numbers_below, ring_set, walk_end, ReportLine, WaitsLine, CycleLine, NoCycleLine, EndsLine, VoidLine, waits_lines, ends_lines, last_lines, report, void_lines, ring_of}
use Rattle.lt_law_waiting.proofs.Reports.{flat_map-which, pair_there, pair_at, waits_only, ends_only}

void_pair : (a b x y : ℕ) → VoidLine a b ≡ VoidLine x y → (a ≡ x) × (b ≡ y)
void_pair a b x y e = (cc, cc)

waits_not_void : {A : Type 0} (a b x y : ℕ) → WaitsLine a b ≡ VoidLine x y → A
waits_not_void a b x y e = cc

ends_not_void : {A : Type 0} (a b x y : ℕ) → EndsLine a b ≡ VoidLine x y → A
ends_not_void a b x y e = cc

cycle_not_void : {A : Type 0} (ring : List ℕ) (x y : ℕ) → CycleLine ring ≡ VoidLine x y → A
cycle_not_void ring x y e = cc

none_not_void : {A : Type 0} (x y : ℕ) → NoCycleLine ≡ VoidLine x y → A
none_not_void x y e = cc

void_only : (n : ℕ) (behind : Graph) (line : ReportLine) → Contains (void_lines n behind) line → (c d : ℕ) × (VoidLine c d ≡ line)
void_only n behind line there =
    let found = flat_map-which (λ c. map (VoidLine c) (filter (behind c) (numbers_below n))) (numbers_below n) line there in
    let pair = contains_mapped (VoidLine found.0) (filter (behind found.0) (numbers_below n)) line found.1 in
    (found.0, pair.0, pair.2)

-- a line of another kind is one of the report of who waits for whom
pub waits_is_told : (n : ℕ) (graph behind : Graph) (c d : ℕ) → Contains (report n graph ++ void_lines n behind) (WaitsLine c d) → Contains (report n graph) (WaitsLine c d)
waits_is_told n graph behind c d there = elim (Contains-append_cases (report n graph) (void_lines n behind) (WaitsLine c d) there) [
  | inl told ↦ told
  | inr void ↦ let line = void_only n behind (WaitsLine c d) void in waits_not_void c d line.0 line.1 (sym line.2)
]

pub ends_is_told : (n : ℕ) (graph behind : Graph) (c d : ℕ) → Contains (report n graph ++ void_lines n behind) (EndsLine c d) → Contains (report n graph) (EndsLine c d)
ends_is_told n graph behind c d there = elim (Contains-append_cases (report n graph) (void_lines n behind) (EndsLine c d) there) [
  | inl told ↦ told
  | inr void ↦ let line = void_only n behind (EndsLine c d) void in ends_not_void c d line.0 line.1 (sym line.2)
]

pub cycle_is_told : (n : ℕ) (graph behind : Graph) (ring : List ℕ) → Contains (report n graph ++ void_lines n behind) (CycleLine ring) → Contains (report n graph) (CycleLine ring)
cycle_is_told n graph behind ring there = elim (Contains-append_cases (report n graph) (void_lines n behind) (CycleLine ring) there) [
  | inl told ↦ told
  | inr void ↦ let line = void_only n behind (CycleLine ring) void in cycle_not_void ring line.0 line.1 (sym line.2)
]

-- and is one of the whole
pub told_before : (n : ℕ) (graph behind : Graph) (line : ReportLine) → Contains (report n graph) line → Contains (report n graph ++ void_lines n behind) line
told_before n graph behind line there = Contains-append_left (report n graph) (void_lines n behind) line there

not_in_report : {A : Type 0} (n : ℕ) (graph : Graph) (c d : ℕ) → Contains (report n graph) (VoidLine c d) → A
not_in_report {A} n graph c d there = elim (Contains-append_cases (waits_lines n graph) (last_lines n graph (ring_set n graph)) (VoidLine c d) there) [
  | inl waits ↦ let line = waits_only n graph (VoidLine c d) waits in waits_not_void line.0 line.1 c d line.2
  | inr last ↦ not_last (ring_set n graph) last
]
  where
    not_last : (set : List ℕ) → Contains (last_lines n graph set) (VoidLine c d) → A
    not_last [] there = elim (contains_cases NoCycleLine (VoidLine c d) (ends_lines n graph) there) [
      | inl same ↦ none_not_void c d same
      | inr ends ↦ let line = ends_only n graph (VoidLine c d) ends in ends_not_void line.0 (walk_end n graph line.0) c d line.2
    ]
    not_last (x ∷ rest) there = elim (contains_cases (CycleLine (ring_of n graph (x ∷ rest))) (VoidLine c d) [] there) [
      | inl same ↦ cycle_not_void (ring_of n graph (x ∷ rest)) c d same
      | inr none ↦ none_in (VoidLine c d) none
    ]

-- a line `void` stands exactly for each pair
pub void_told : (n : ℕ) (graph behind : Graph) (c d : ℕ) → Contains (report n graph ++ void_lines n behind) (VoidLine c d) → (c < n) × (d < n) × (behind c d ≡ true)
void_told n graph behind c d there = elim (Contains-append_cases (report n graph) (void_lines n behind) (VoidLine c d) there) [
  | inl told ↦ not_in_report n graph c d told
  | inr void ↦ pair_there VoidLine void_pair n behind c d void
]

pub void_at : (n : ℕ) (graph behind : Graph) (c d : ℕ) → (c < n) × (d < n) × (behind c d ≡ true) → Contains (report n graph ++ void_lines n behind) (VoidLine c d)
void_at n graph behind c d pair =
    Contains-append_right (report n graph) (void_lines n behind) (VoidLine c d) (pair_at VoidLine void_pair n behind c d pair)
