-- What contracts see of a node's sets, where the cores of some are kept.
use Rattle.std.proofs.Common.{◌≡◌, ◌≢◌, ◌+◌, ◌<◌, ◌≤◌, ◌∙◌, ℕ, zero, suc, List, length, map, refl, sym, ap, subst, arith, inl, inr, slice_index_or, slice_set}
use Rattle.std.proofs.lemmas.Bool.{cases_eq}
use Rattle.std.proofs.lemmas.List.{get_or_default}
use Rattle.lt_modes.specs.declared.ask.Ask.{Ask}
use Rattle.lt_modes.specs.State.{SetState, Made}
use Rattle.lt_desk.specs.DeskData.{OutData}
use Rattle.lt_core.specs.CoreData.{CoreData, Does, HasMemory, KeepsRoom, waiting_here}
use Rattle.lt_node.specs.NodeData.{IsCoreOf, KeptData, kept_of, untouched}
use Rattle.lt_node.specs.Sets.{SetsData, AreStored, SameSets, SetDoes, IsTouched, WaitLess, WaitMore, asks_of, core_by, core_of, cores_by, core_in}
use Rattle.lt_node.proofs.CountLemmas.{may_less, waiting_changed, waiting_kept}
use Rattle.lt_node.proofs.NodeLemmas.{kept_at, kept_length}
use Rattle.lt_node.proofs.SetsLemmas.{core_is_of, count_of, here_is, kept_each, one_set, sets_of, stored_written, written_here, written_other}

module _ (nodes me : ℕ) (places : List ℕ) (cores : List CoreData) (n : SetsData) (seen : sets_of nodes me places cores ≡ n) where
  pub core_seen : (s : ℕ) → core_in n s ≡ core_of nodes me places cores s
  core_seen s = ap (λ (d : SetsData). core_in d s) (sym seen) ∙ core_is_of nodes me places cores s

  pub count_seen : length places ≡ length n.cores
  count_seen = sym (count_of nodes me places cores) ∙ ap (λ (d : SetsData). length d.cores) seen

  pub in_places : (s : ℕ) → s < length n.cores → s < length places
  in_places s inside = omega (arith, inside, count_seen)

  -- a set with room has a core
  pub has_place : (s : ℕ) → 1 ≤ (core_in n s).tell_room → 0 < slice_index_or places s 0
  has_place s some = by_place (slice_index_or places s 0) refl
    where
      by_place : (p : ℕ) → slice_index_or places s 0 ≡ p → 0 < slice_index_or places s 0
      by_place zero at = absurd (omega (arith, some, ap (λ (c : CoreData). c.tell_room) (core_seen s ∙ ap (core_by nodes me cores s) at)))
      by_place (suc k) at = omega (arith, at)

  pub none_with_room : (s : ℕ) → slice_index_or places s 0 ≡ 0 → HasMemory 0 (core_in n s) → ⊥
  none_with_room s none memory = omega (arith, none, has_place s memory.tells)

  -- the place that the code read
  pub place_read : (s place : ℕ) → s < length n.cores → place ≡ slice_index_or places s place → slice_index_or places s 0 ≡ place
  place_read s place inside at = get_or_default places s 0 place (in_places s inside) ∙ sym at

  pub touched_seen : (s : ℕ) → IsTouched n s → 0 < slice_index_or places s 0
  touched_seen s touched = omega (arith, touched, ap (λ (d : SetsData). slice_index_or d.places s 0) seen)

  -- with other places and cores
  pub same_sets : (others : List ℕ) (now : List CoreData) → length others ≡ length places → ((s : ℕ) → kept_of (core_of nodes me others now s) ≡ kept_of (core_of nodes me places cores s))
      → SameSets n (sets_of nodes me others now)
  same_sets others now count same = record {
    nodes = ap (λ (d : SetsData). d.nodes) seen;
    me = ap (λ (d : SetsData). d.me) seen;
    kept = kept_each (cores_by nodes me others now) (cores_by nodes me places cores) (λ s. untouched nodes me s)
        (count_of nodes me others now ∙ count ∙ sym (count_of nodes me places cores))
        (λ s. ap kept_of (core_is_of nodes me others now s) ∙ same s ∙ sym (ap kept_of (core_is_of nodes me places cores s)))
        ∙ ap (λ (d : SetsData). map kept_of d.cores) seen;
  }

-- the core in hand is what is kept for the set
pub record InHand (nodes me : ℕ) (places : List ℕ) (cores : List CoreData) (n : SetsData) (s k : ℕ) (core : CoreData) : Type 0 where
  pub placed : slice_index_or places s 0 ≡ suc k
  pub inside : s < length places
  pub core_is : core ≡ core_in n s
  pub core_of_is : core_of nodes me places cores s ≡ core
  pub own : IsCoreOf me s core

pub in_hand : (nodes me : ℕ) (first : CoreData) (places : List ℕ) (cores : List CoreData) (counts : List ℕ) (n : SetsData) (s k : ℕ) (core : CoreData) → AreStored nodes me first places cores counts
    → sets_of nodes me places cores ≡ n → s < length n.cores → k + 1 ≡ slice_index_or places s 0 → core ≡ slice_index_or cores k core → InHand nodes me places cores n s k core
in_hand nodes me first places cores counts n s k core stored seen inside at here =
    let placed : slice_index_or places s 0 ≡ suc k = omega (arith, at) in
    let is : core_of nodes me places cores s ≡ core = here_is nodes me first places cores counts stored s k placed core ∙ sym here in
    record {
      placed = placed;
      inside = in_places nodes me places cores n seen s inside;
      core_is = sym (core_seen nodes me places cores n seen s ∙ is);
      core_of_is = is;
      own = subst (λ (c : CoreData). IsCoreOf me s c) (sym here) (stored.own s k core placed);
    }

module _ (nodes me : ℕ) (first : CoreData) (places : List ℕ) (cores : List CoreData) (counts : List ℕ) (stored : AreStored nodes me first places cores counts)
    (n : SetsData) (seen : sets_of nodes me places cores ≡ n) (s k : ℕ) (core new : CoreData) (hand : InHand nodes me places cores n s k core) where
  pub now_here : core_in (sets_of nodes me places (slice_set cores k new)) s ≡ new
  now_here = core_is_of nodes me places (slice_set cores k new) s ∙ written_here nodes me first places cores counts stored s k hand.placed new

  pub now_other : (other : ℕ) → other ≢ s → core_in (sets_of nodes me places (slice_set cores k new)) other ≡ core_in n other
  now_other other differ =
      core_is_of nodes me places (slice_set cores k new) other ∙ written_other nodes me first places cores counts stored s k hand.placed new other differ
      ∙ sym (core_seen nodes me places cores n seen other)

  -- Memory is taken.

  each_kept : kept_of new ≡ kept_of core → (other : ℕ) → kept_of (core_of nodes me places (slice_set cores k new) other) ≡ kept_of (core_of nodes me places cores other)
  each_kept same other = elim (cases_eq other s) [
    | inl here ↦ subst (λ (i : ℕ). kept_of (core_of nodes me places (slice_set cores k new) i) ≡ kept_of (core_of nodes me places cores i)) (sym here)
        (ap kept_of (written_here nodes me first places cores counts stored s k hand.placed new) ∙ same ∙ sym (ap kept_of hand.core_of_is))
    | inr differ ↦ ap kept_of (written_other nodes me first places cores counts stored s k hand.placed new other differ)
  ]

  pub stored_kept : kept_of new ≡ kept_of core → AreStored nodes me first places (slice_set cores k new) counts
  stored_kept same =
      stored_written nodes me first places cores counts stored s k hand.placed new counts
      (record { node = ap (λ (c : KeptData). c.node) same ∙ hand.own.node; set = ap (λ (c : KeptData). c.set) same ∙ hand.own.set })
      (waiting_kept (length places) (core_of nodes me places cores) (core_of nodes me places (slice_set cores k new)) counts stored.waiting
      (λ other. ap (λ (c : KeptData). c.state) (each_kept same other)))

  pub sets_kept : kept_of new ≡ kept_of core → SameSets n (sets_of nodes me places (slice_set cores k new))
  sets_kept same = same_sets nodes me places cores n seen places (slice_set cores k new) refl (each_kept same)

  -- A move is made.

  pub may_leave : (asks : List Ask) (gone : List ℕ) → asks ≡ core.state.pending → gone ≡ core.state.gone
      → (client : ℕ) → client < length counts → asks_of asks gone client ≤ slice_index_or counts client 0
  may_leave asks gone are marked =
      may_less (length places) s (core_of nodes me places cores) asks gone counts stored.waiting hand.inside
      (are ∙ ap (λ (c : CoreData). c.state.pending) (sym hand.core_of_is))
      (marked ∙ ap (λ (c : CoreData). c.state.gone) (sym hand.core_of_is))

  pub stored_moved : (made : Made) (had out : OutData) (asks later : List Ask) (gone left mid after : List ℕ) → Does made core had new out
      → asks ≡ core.state.pending → gone ≡ core.state.gone → later ≡ new.state.pending → left ≡ new.state.gone
      → WaitLess asks gone counts mid → WaitMore later left mid after → AreStored nodes me first places (slice_set cores k new) after
  stored_moved made had out asks later gone left mid after does are marked become remarked less more =
      stored_written nodes me first places cores counts stored s k hand.placed new after
      (record { node = does.node ∙ hand.own.node; set = does.set ∙ hand.own.set })
      (waiting_changed (length places) s (core_of nodes me places cores) (core_of nodes me places (slice_set cores k new)) asks later gone left counts mid after stored.waiting hand.inside
      (are ∙ ap (λ (c : CoreData). c.state.pending) (sym hand.core_of_is))
      (marked ∙ ap (λ (c : CoreData). c.state.gone) (sym hand.core_of_is))
      (become ∙ ap (λ (c : CoreData). c.state.pending) (sym (written_here nodes me first places cores counts stored s k hand.placed new)))
      (remarked ∙ ap (λ (c : CoreData). c.state.gone) (sym (written_here nodes me first places cores counts stored s k hand.placed new)))
      (written_other nodes me first places cores counts stored s k hand.placed new) less more)

  one_changed : sets_of nodes me places (slice_set cores k new) ≡ record n { cores = slice_set n.cores s (core_in (sets_of nodes me places (slice_set cores k new)) s) }
  one_changed =
      let now = sets_of nodes me places (slice_set cores k new) in
      let was = sets_of nodes me places cores in
      let changed : now.cores ≡ slice_set was.cores s (core_in now s) =
      one_set was.cores now.cores (λ i. untouched nodes me i) s (core_in now s)
      (count_of nodes me places (slice_set cores k new) ∙ sym (count_of nodes me places cores)) (omega (arith, hand.inside, count_of nodes me places cores)) refl
      (λ other differ. now_other other differ ∙ ap (λ (d : SetsData). core_in d other) (sym seen)) in
      subst (λ (d : SetsData). now ≡ record d { cores = slice_set d.cores s (core_in now s) }) seen
      (ap (λ (l : List CoreData). let d : SetsData = record was { cores = l } in d) changed)

  pub set_moved : (rule : ℕ → SetState → Made) (had out : OutData) → Does (rule core.set core.state) core had new out
      → SetDoes s (rule s (core_in n s).state) n had (sets_of nodes me places (slice_set cores k new)) out
  set_moved rule had out does = record {
    others = one_changed;
    does = subst (λ (c : CoreData). Does (rule s (core_in n s).state) (core_in n s) had c out) (sym now_here)
        (subst (λ (c : CoreData). Does (rule s c.state) c had new out) hand.core_is
        (subst (λ (i : ℕ). Does (rule i core.state) core had new out) hand.own.set does));
  }

-- memory for what a letter brings is memory for what comes without one
pub memory_less : (brought : ℕ) (core : CoreData) → HasMemory brought core → HasMemory 0 core
memory_less brought core memory = record {
  asks = omega (arith, memory.asks);
  rows = omega (arith, memory.rows);
  parked = memory.parked;
  tells = memory.tells;
}

-- where room is kept, memory is
pub memory_kept : (old new : CoreData) → new.state ≡ old.state → KeepsRoom old new → HasMemory 0 old → HasMemory 0 new
memory_kept old new same kept memory = record {
  asks = omega (arith, memory.asks, kept.asks, ap waiting_here same);
  rows = omega (arith, memory.rows, kept.rows, ap waiting_here same);
  parked = omega (arith, memory.parked, kept.parked);
  tells = omega (arith, memory.tells, kept.tells);
}

-- Other memory changes nothing else.

pub same_count : (a b : SetsData) → SameSets a b → length b.cores ≡ length a.cores
same_count a b same = kept_length b.cores a.cores same.kept

pub same_core : (a b : SetsData) (s : ℕ) → SameSets a b → kept_of (core_in b s) ≡ kept_of (core_in a s)
same_core a b s same =
    kept_at b.cores a.cores s (untouched b.nodes b.me s) same.kept
    ∙ (λ i. kept_of (slice_index_or a.cores s (untouched (same.nodes i) (same.me i) s)))

pub same_then : (a b c : SetsData) → SameSets a b → SameSets b c → SameSets a c
same_then a b c first second = record { nodes = second.nodes ∙ first.nodes; me = second.me ∙ first.me; kept = second.kept ∙ first.kept }
