-- Where the cores of a node's sets are.
use Rattle.std.proofs.Common.{◌≡◌, ◌≢◌, ◌+◌, ◌<◌, ◌≤◌, ◌++◌, ◌∙◌, ℕ, zero, suc, List, [], ◌∷◌, length, map, refl, sym, ap, subst, arith, inl, inr, replicate, slice_index_or, slice_set, get_or-set_same, get_or-set_other, length-set}
use Rattle.std.proofs.lemmas.Bool.{cases_eq, cases_lt}
use Rattle.std.proofs.lemmas.Grind.{get_or-set_at}
use Rattle.std.proofs.lemmas.List.{ext_get_or, get_or_default, get_or_past, get_or_push, get_or_append_left, get_or-replicate, length-map, length-replicate, length_push}
use Rattle.std.proofs.lemmas.List.Folds.{sum_by-replicate}
use Rattle.std.proofs.lemmas.List.Sums.{sum_by-set}
use Rattle.std.proofs.Math.ListN.{get_or-map as map_read}
use Rattle.lt_modes.specs.Freezing.{map_from}
use Rattle.lt_modes.specs.Waiting.{waits}
use Rattle.lt_modes.specs.State.{first_state}
use Rattle.lt_spec.specs.declared.limits.TheConstants.{MAX_SETS_OF_SERVICE}
use Rattle.lt_core.specs.CoreData.{CoreData}
use Rattle.lt_node.specs.NodeData.{IsCoreOf, KeptData, kept_of, untouched}
use Rattle.lt_node.specs.Sets.{SetsData, AreStored, TellWaiting, core_by, core_of, cores_by, core_in, none_at}
use Rattle.lt_node.proofs.CountLemmas.{count_none, waiting_kept}

-- Lists of what is kept.

length-from : {X Y : Type 0} (f : ℕ → X → Y) (first : ℕ) (xs : List X) → length (map_from f first xs) ≡ length xs
length-from f first [] = refl
length-from f first (x ∷ xs) = ap suc (length-from f (first + 1) xs)

from_at : {X Y : Type 0} (f : ℕ → X → Y) (first : ℕ) (xs : List X) (i : ℕ) (d : Y) (e : X) → i < length xs → slice_index_or (map_from f first xs) i d ≡ f (first + i) (slice_index_or xs i e)
from_at f first [] i d e inside = absurd (omega (arith, inside))
from_at f first (x ∷ xs) zero d e inside = ap (λ (k : ℕ). f k x) (omega arith)
from_at f first (x ∷ xs) (suc i) d e inside =
    from_at f (first + 1) xs i d e (omega (arith, inside)) ∙ ap (λ (k : ℕ). f k (slice_index_or xs i e)) (omega arith)

-- a list of which one item changed
pub one_set : (xs ys : List CoreData) (d : ℕ → CoreData) (s : ℕ) (core : CoreData) → length ys ≡ length xs → s < length xs → slice_index_or ys s (d s) ≡ core
    → ((i : ℕ) → i ≢ s → slice_index_or ys i (d i) ≡ slice_index_or xs i (d i)) → ys ≡ slice_set xs s core
one_set xs ys d s core count inside here others = ext_get_or (d 0) ys (slice_set xs s core) (count ∙ sym (length-set xs s core)) (λ i within. elim (cases_eq i s) [
  | inl same ↦
      get_or_default ys i (d 0) (d i) within ∙ ap (λ (k : ℕ). slice_index_or ys k (d k)) same ∙ here ∙ sym (get_or-set_at xs s i core (d 0) same inside)
  | inr apart ↦
      let below : i < length xs = omega (arith, within, count) in
      get_or_default ys i (d 0) (d i) within ∙ others i apart ∙ get_or_default xs i (d i) (d 0) below ∙ sym (get_or-set_other xs s i core (d 0) apart)
])

pub kept_each : (xs ys : List CoreData) (d : ℕ → CoreData) → length xs ≡ length ys → ((i : ℕ) → kept_of (slice_index_or xs i (d i)) ≡ kept_of (slice_index_or ys i (d i)))
    → map kept_of xs ≡ map kept_of ys
kept_each xs ys d count same =
    let counts : length (map kept_of xs) ≡ length (map kept_of ys) = length-map xs kept_of ∙ count ∙ sym (length-map ys kept_of) in
    ext_get_or (kept_of (d 0)) (map kept_of xs) (map kept_of ys) counts (λ i within.
    let in_xs : i < length xs = omega (arith, within, length-map xs kept_of) in
    map_read kept_of xs i (d 0) ∙ ap kept_of (get_or_default xs i (d 0) (d i) in_xs) ∙ same i
    ∙ sym (map_read kept_of ys i (d 0) ∙ ap kept_of (get_or_default ys i (d 0) (d i) (omega (arith, in_xs, count)))))

-- what is seen of sets with these places and cores
abbrev pub sets_of : ℕ → ℕ → List ℕ → List CoreData → SetsData
sets_of nodes me places cores = record { nodes = nodes; me = me; places = places; cores = cores_by nodes me places cores }

pub core_is_of : (nodes me : ℕ) (places : List ℕ) (cores : List CoreData) (s : ℕ) → core_in (sets_of nodes me places cores) s ≡ core_of nodes me places cores s
core_is_of nodes me places cores s = elim (cases_lt s (length places)) [
  | inl inside ↦
      from_at (core_by nodes me cores) 0 places s (untouched nodes me s) 0 inside
      ∙ ap (λ (k : ℕ). core_by nodes me cores k (slice_index_or places s 0)) (omega arith)
  | inr past ↦
      get_or_past (cores_by nodes me places cores) s (untouched nodes me s) (omega (arith, past, length-from (core_by nodes me cores) 0 places))
      ∙ sym (ap (core_by nodes me cores s) (get_or_past places s 0 past))
]

pub count_of : (nodes me : ℕ) (places : List ℕ) (cores : List CoreData) → length (cores_by nodes me places cores) ≡ length places
count_of nodes me places cores = length-from (core_by nodes me cores) 0 places

-- One core is written.

module _ (nodes me : ℕ) (first : CoreData) (places : List ℕ) (cores : List CoreData) (counts : List ℕ) (stored : AreStored nodes me first places cores counts) (s k : ℕ) (placed : slice_index_or places s 0 ≡ suc k) where
  pub place_inside : k < length cores
  place_inside = omega (arith, placed, stored.inside s)

  pub here_is : (d : CoreData) → core_of nodes me places cores s ≡ slice_index_or cores k d
  here_is d = ap (core_by nodes me cores s) placed ∙ get_or_default cores k (untouched nodes me s) d place_inside

  pub written_here : (new : CoreData) → core_of nodes me places (slice_set cores k new) s ≡ new
  written_here new = ap (core_by nodes me (slice_set cores k new) s) placed ∙ get_or-set_same cores k new (untouched nodes me s) place_inside

  -- no other set has this place
  apart : (other j : ℕ) → other ≢ s → slice_index_or places other 0 ≡ suc j → j ≢ k
  apart other j differ at same =
      let d = untouched nodes me s in
      differ (sym (stored.own other j d at).set ∙ ap (λ (i : ℕ). (slice_index_or cores i d).set) same ∙ (stored.own s k d placed).set)

  pub written_other : (new : CoreData) (other : ℕ) → other ≢ s → core_of nodes me places (slice_set cores k new) other ≡ core_of nodes me places cores other
  written_other new other differ = by_place (slice_index_or places other 0) refl
    where
      by_place : (p : ℕ) → slice_index_or places other 0 ≡ p → core_of nodes me places (slice_set cores k new) other ≡ core_of nodes me places cores other
      by_place zero at = ap (core_by nodes me (slice_set cores k new) other) at ∙ sym (ap (core_by nodes me cores other) at)
      by_place (suc j) at =
          ap (core_by nodes me (slice_set cores k new) other) at ∙ get_or-set_other cores k j new (untouched nodes me other) (apart other j differ at)
          ∙ sym (ap (core_by nodes me cores other) at)

  -- the storage is sound still
  pub stored_written : (new : CoreData) (later : List ℕ) → IsCoreOf me s new → TellWaiting (length places) (core_of nodes me places (slice_set cores k new)) later
      → AreStored nodes me first places (slice_set cores k new) later
  stored_written new later own tells = record {
    few_nodes = stored.few_nodes;
    few_sets = stored.few_sets;
    first_is = stored.first_is;
    inside = λ other. omega (arith, stored.inside other, length-set cores k new);
    own = λ other j d at. elim (cases_eq j k) [
      | inl same ↦
          let it : other ≡ s = (let e = untouched nodes me s in sym (stored.own other j e at).set ∙ ap (λ (i : ℕ). (slice_index_or cores i e).set) same ∙ (stored.own s k e placed).set) in
          subst (λ (c : CoreData). IsCoreOf me other c) (sym (get_or-set_at cores k j new d same place_inside)) (subst (λ (i : ℕ). IsCoreOf me i new) (sym it) own)
      | inr differ ↦ subst (λ (c : CoreData). IsCoreOf me other c) (sym (get_or-set_other cores k j new d differ)) (stored.own other j d at)
    ];
    full = omega (arith, stored.full, length-set cores k new);
    waiting = tells;
  }

-- A core is made for a set that had none.

module _ (nodes me : ℕ) (first : CoreData) (places : List ℕ) (cores : List CoreData) (counts : List ℕ) (stored : AreStored nodes me first places cores counts) (s place : ℕ) (new : CoreData) (all : List CoreData)
    (none : slice_index_or places s 0 ≡ 0) (inside : s < length places) (made : all ≡ cores ++ new ∷ []) (last : place ≡ length all) (own : IsCoreOf me s new) (state : new.state ≡ first_state nodes me) where
  one_more : place ≡ suc (length cores)
  one_more = omega (arith, last, ap (λ (l : List CoreData). length l) made, length_push cores new)

  placed_here : slice_index_or (slice_set places s place) s 0 ≡ place
  placed_here = get_or-set_same places s place 0 inside

  pub made_here : core_of nodes me (slice_set places s place) all s ≡ new
  made_here =
      let d = untouched nodes me s in
      ap (core_by nodes me all s) (placed_here ∙ one_more) ∙ ap (λ (l : List CoreData). slice_index_or l (length cores) d) made
      ∙ get_or_push cores new d (length cores) refl

  pub made_other : (other : ℕ) → other ≢ s → core_of nodes me (slice_set places s place) all other ≡ core_of nodes me places cores other
  made_other other differ = ap (core_by nodes me all other) (get_or-set_other places s other place 0 differ) ∙ by_place (slice_index_or places other 0) refl
    where
      by_place : (p : ℕ) → slice_index_or places other 0 ≡ p → core_by nodes me all other (slice_index_or places other 0) ≡ core_of nodes me places cores other
      by_place zero at = ap (core_by nodes me all other) at ∙ sym (ap (core_by nodes me cores other) at)
      by_place (suc j) at =
          let d = untouched nodes me other in
          ap (core_by nodes me all other) at ∙ ap (λ (l : List CoreData). slice_index_or l j d) made
          ∙ get_or_append_left cores (new ∷ []) d j (omega (arith, at, stored.inside other)) ∙ sym (ap (core_by nodes me cores other) at)

  pub made_kept : (other : ℕ) → kept_of (core_of nodes me (slice_set places s place) all other) ≡ kept_of (core_of nodes me places cores other)
  made_kept other = elim (cases_eq other s) [
    | inl same ↦ subst (λ (i : ℕ). kept_of (core_of nodes me (slice_set places s place) all i) ≡ kept_of (core_of nodes me places cores i)) (sym same)
        (ap kept_of made_here ∙ (λ i. record { node = own.node i; set = own.set i; state = state i }) ∙ sym (ap (λ (p : ℕ). kept_of (core_by nodes me cores s p)) none))
    | inr differ ↦ ap kept_of (made_other other differ)
  ]

  own_more : (other j : ℕ) (d : CoreData) → slice_index_or (slice_set places s place) other 0 ≡ suc j → IsCoreOf me other (slice_index_or all j d)
  own_more other j d at = elim (cases_eq other s) [
    | inl same ↦
        let is_last : length cores ≡ j = omega (arith, one_more, placed_here, at, ap (λ (i : ℕ). slice_index_or (slice_set places s place) i 0) same) in
        subst (λ (c : CoreData). IsCoreOf me other c) (sym (ap (λ (l : List CoreData). slice_index_or l j d) made ∙ get_or_push cores new d j is_last))
        (subst (λ (i : ℕ). IsCoreOf me i new) (sym same) own)
    | inr differ ↦
        let before : slice_index_or places other 0 ≡ suc j = sym (get_or-set_other places s other place 0 differ) ∙ at in
        subst (λ (c : CoreData). IsCoreOf me other c)
        (sym (ap (λ (l : List CoreData). slice_index_or l j d) made ∙ get_or_append_left cores (new ∷ []) d j (omega (arith, before, stored.inside other))))
        (stored.own other j d before)
  ]

  inside_more : (other : ℕ) → slice_index_or (slice_set places s place) other 0 ≤ length all
  inside_more other = elim (cases_eq other s) [
    | inl same ↦ omega (arith, last, placed_here, ap (λ (i : ℕ). slice_index_or (slice_set places s place) i 0) same)
    | inr differ ↦ omega (arith, get_or-set_other places s other place 0 differ, stored.inside other, one_more, last)
  ]

  -- the set has a core now
  pub made_touched : 0 < slice_index_or (slice_set places s place) s 0
  made_touched = omega (arith, placed_here, one_more)

  -- the storage is sound still
  pub stored_more : AreStored nodes me first (slice_set places s place) all counts
  stored_more =
      let count = length-set places s place in record {
        few_nodes = stored.few_nodes;
        few_sets = omega (arith, stored.few_sets, count);
        first_is = stored.first_is;
        inside = inside_more;
        own = own_more;
        full = omega (arith, stored.full, count, last, one_more, sum_by-set none_at places s place 0 inside, ap none_at none, ap none_at one_more);
        waiting = subst (λ (sets : ℕ). TellWaiting sets (core_of nodes me (slice_set places s place) all) counts) (sym count)
            (waiting_kept (length places) (core_of nodes me places cores) (core_of nodes me (slice_set places s place) all) counts stored.waiting
            (λ other. ap (λ (c : KeptData). c.state) (made_kept other)));
      }

-- The sets at the start.

abbrev zeros : ℕ → List ℕ
zeros n = replicate n 0

none_at_all : (n s : ℕ) → slice_index_or (zeros n) s 0 ≡ 0
none_at_all n s = elim (cases_lt s n) [
  | inl below ↦ get_or-replicate n s 0 0 below
  | inr above ↦ get_or_past (replicate n 0) s 0 (omega (arith, above, length-replicate {A = ℕ} n 0))
]

pub none_stored : (nodes me sets clients : ℕ) (first : CoreData) (places : List ℕ) (cores : List CoreData) (counts : List ℕ) → nodes ≤ 64 → sets ≤ MAX_SETS_OF_SERVICE → (first.node ≡ me) × (first.state ≡ first_state nodes me)
    → places ≡ zeros sets → cores ≡ [] → counts ≡ zeros clients → AreStored nodes me first places cores counts
none_stored nodes me sets clients first places cores counts few_nodes few_sets first_is no_places no_cores no_counts =
    subst (λ (l : List ℕ). AreStored nodes me first l cores counts) (sym no_places)
    (subst (λ (l : List CoreData). AreStored nodes me first (zeros sets) l counts) (sym no_cores)
    (subst (λ (l : List ℕ). AreStored nodes me first (zeros sets) [] l) (sym no_counts) (record {
      few_nodes = few_nodes;
      few_sets = omega (arith, few_sets, length-replicate {A = ℕ} sets 0);
      first_is = first_is;
      inside = λ s. omega (arith, none_at_all sets s);
      own = λ s k d at. absurd (omega (arith, none_at_all sets s, at));
      full = omega (arith, sum_by-replicate none_at sets 0, length-replicate {A = ℕ} sets 0);
      waiting = λ client inside.
          none_at_all clients client
          ∙ sym (count_none (length (zeros sets)) (λ s. waits (core_of nodes me (zeros sets) [] s).state client)
          (λ s. ap (λ (p : ℕ). waits (core_by nodes me [] s p).state client) (none_at_all sets s)));
    })))

pub none_touched : (nodes me sets : ℕ) (places : List ℕ) (cores : List CoreData) → places ≡ zeros sets → cores ≡ [] → (s : ℕ) → core_in (sets_of nodes me places cores) s ≡ untouched nodes me s
none_touched nodes me sets places cores no_places no_cores s =
    core_is_of nodes me places cores s
    ∙ ap (λ (l : List ℕ). core_of nodes me l cores s) no_places ∙ ap (λ (l : List CoreData). core_of nodes me (zeros sets) l s) no_cores
    ∙ ap (core_by nodes me [] s) (none_at_all sets s)

pub none_placed : (nodes me sets : ℕ) (places : List ℕ) (cores : List CoreData) → places ≡ zeros sets → cores ≡ [] → (s : ℕ) → IsCoreOf me s (core_in (sets_of nodes me places cores) s)
none_placed nodes me sets places cores no_places no_cores s =
    subst (λ (c : CoreData). IsCoreOf me s c) (sym (none_touched nodes me sets places cores no_places no_cores s)) (record { node = refl; set = refl })

pub none_count : (nodes me sets : ℕ) (places : List ℕ) (cores : List CoreData) → places ≡ zeros sets → length (cores_by nodes me places cores) ≡ sets
none_count nodes me sets places cores no_places =
    count_of nodes me places cores ∙ ap (λ (l : List ℕ). length l) no_places ∙ length-replicate {A = ℕ} sets 0
