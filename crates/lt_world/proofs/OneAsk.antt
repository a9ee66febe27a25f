-- A client has one unanswered ask at most that it didn't give up, so that the first one that is found tells for whom it waits;
-- and who has none for a set stands before nobody there.
use Rattle.std.proofs.Common.{◌≡◌, ℕ, zero, suc, ◌<◌, ◌≤◌, ◌∙◌, inl, inr, List, [], ◌∷◌, length, Option, Some, None, Bool, true, false, refl, sym, ap, ap₂, subst, arith, ◌==◌, ◌&&◌, ◌||◌, not, if◌then◌else◌, find, count_by, is_some, option_map, IfSome, Contains, eq-eqb, eqb-true}
use Rattle.std.specs.Option.{option_or}
use Rattle.std.specs.List.{list_any}
use Rattle.std.proofs.lemmas.Bool.{or_cases, and_parts, false≢true}
use Rattle.std.proofs.lemmas.List.Elements.{All-contains}
use Rattle.std.proofs.lemmas.List.Sums.{sum_by-cons}
use Rattle.lt_modes.specs.declared.ask.Ask.{Ask}
use Rattle.lt_modes.specs.Fits.{has_client, parked_asks}
use Rattle.lt_modes.specs.Modes.{excludes_itself}
use Rattle.lt_modes.specs.Script.{ScriptData}
use Rattle.lt_modes.specs.Serving.{queue_of, is_gone}
use Rattle.lt_modes.specs.Telling.{is_newer}
use Rattle.lt_modes.specs.Waiting.{pending_ask, is_before, stands_before, has_older, parked_behind}
use Rattle.lt_lists.specs.Below.{any_below, sum_below}
use Rattle.lt_lists.proofs.Members.{contains_first, contains_later, list_any-at, list_any-which}
use Rattle.lt_lists.proofs.Sums.{sum_below-at}
use Rattle.lt_spec.specs.Facts.{state_at, places_in_state}
use Rattle.lt_spec.specs.Holdings.{kept_if, behind_void_if, live_ask, waits_for, waits_behind, waits_behind_void}
use Rattle.lt_spec.specs.NodeMove.{NodeState, home}
use Rattle.lt_spec.specs.Script.{IsScript}
use Rattle.lt_spec.specs.World.{Logged, World, world_after, IsRun}
use Rattle.lt_law_accounts.proofs.Asks.{times_in-some}
use Rattle.lt_model.specs.Homes.{Homes, IsAskAtHome, IsAskOf}
use Rattle.lt_model.specs.Invariant.{WorldInvariant, is_live}
use Rattle.lt_model.proofs.HomesMove.{homes_in_runs}
use Rattle.lt_model.proofs.PathsMove.{kept_stands}
use Rattle.lt_model.proofs.Runs.{stands_once}
use Rattle.lt_law_invariant.proofs.FewAsks.{whole}
use Rattle.lt_law_invariant.proofs.SoundStates.{kept_in_runs}
use Rattle.lt_node.specs.NodeData.{ask_below, first_ask}
use Rattle.lt_world.specs.Fields.{WorldData, world_of}
use Rattle.lt_world.specs.Waits.{stands_in_way, void_in_way, waits_by}
use Rattle.lt_world.proofs.Runs.{whole_run}

-- What a search finds.

none_passes : (n : ℕ) (test : ℕ → Bool) → ((k : ℕ) → k < n → test k ≡ false) → any_below n test ≡ false
none_passes zero test none = refl
none_passes (suc n) test none = ap₂ ◌||◌ (none_passes n test (λ k h. none k (omega (arith, h)))) (none n (omega arith))

is_found : (test : Ask → Bool) (asks : List Ask) → is_some (find test asks) ≡ list_any test asks
is_found test [] = refl
is_found test (x ∷ rest) = elim (test x) as (λ t. is_some (if t then Some x else find test rest) ≡ (t || list_any test rest)) [
  | true ↦ refl
  | false ↦ is_found test rest
]

found_counts : (test : Ask → Bool) (asks : List Ask) (ask : Ask) → find test asks ≡ Some ask → 1 ≤ count_by test asks
found_counts test [] ask e = cc
found_counts test (x ∷ rest) ask e = by_test (test x) refl e (λ f. found_counts test rest ask f)
  where
    by_test : (t : Bool) → test x ≡ t → (if t then Some x else find test rest) ≡ Some ask → (find test rest ≡ Some ask → 1 ≤ count_by test rest)
        → 1 ≤ count_by test (x ∷ rest)
    by_test true f g again =
        let here : ◌≡◌ {A = ℕ} (if test x then 1 else 0) 1 = ap (λ (b : Bool). if b then 1 else 0) f in
        omega (arith, sum_by-cons (λ (a : Ask). if test a then 1 else 0) x rest, here)
    by_test false f g again = omega (arith, sum_by-cons (λ (a : Ask). if test a then 1 else 0) x rest, again g)

-- The one ask of a client.

or_none : (o : Option (ℕ × Ask)) → option_or o None ≡ o
or_none None = refl
or_none (Some found) = refl

or_false : (b : Bool) → (b || false) ≡ b
or_false true = refl
or_false false = refl

-- a test of an ask with its set, if there is one
abbrev on_found : (ℕ → Option Ask → Bool) → Option (ℕ × Ask) → Bool
on_found test None = false
on_found test (Some found) = test found.0 (Some found.1)

module _ (n : NodeState) (client : ℕ) where
  abbrev asks : ℕ → ℕ
  asks s = count_by (is_live (n.set s) client) (n.set s).pending

  live_counts : (s : ℕ) (ask : Ask) → live_ask (n.set s) client ≡ Some ask → 1 ≤ asks s
  live_counts s ask e = by_gone (is_gone (n.set s) client) e
    where
      by_gone : (gone : Bool) → (if gone then None else pending_ask (n.set s) client) ≡ Some ask
          → 1 ≤ count_by (λ (a : Ask). not gone && a.client == client) (n.set s).pending
      by_gone true e = cc
      by_gone false e = found_counts (λ (a : Ask). a.client == client) (n.set s).pending ask e

  abbrev with_set : ℕ → Option Ask → Option (ℕ × Ask)
  with_set s o = option_map (λ (ask : Ask). (s, ask)) o

  none_below : (sets : ℕ) → sum_below sets asks ≡ 0 → ask_below n client sets ≡ None
  none_below zero e = refl
  none_below (suc s) e = by_ask (live_ask (n.set s) client) refl (none_below s (omega (arith, e)))
    where
      by_ask : (o : Option Ask) → live_ask (n.set s) client ≡ o → ask_below n client s ≡ None → ask_below n client (suc s) ≡ None
      by_ask None is nothing = ap₂ option_or nothing (ap (with_set s) is)
      by_ask (Some ask) is nothing = absurd (omega (arith, e, live_counts s ask is))

  -- what passes with some ask of the client passes with that which is found
  one_found : (test : ℕ → Option Ask → Bool) → ((s : ℕ) → test s None ≡ false) → (sets : ℕ) → sum_below sets asks ≤ 1
      → any_below sets (λ s. test s (live_ask (n.set s) client)) ≡ on_found test (ask_below n client sets)
  one_found test never zero few = refl
  one_found test never (suc s) few = by_ask (live_ask (n.set s) client) refl (one_found test never s (omega (arith, few)))
    where
      by_ask : (o : Option Ask) → live_ask (n.set s) client ≡ o
          → any_below s (λ k. test k (live_ask (n.set k) client)) ≡ on_found test (ask_below n client s)
          → any_below (suc s) (λ k. test k (live_ask (n.set k) client)) ≡ on_found test (ask_below n client (suc s))
      by_ask None is before =
          ap₂ ◌||◌ before (ap (test s) is ∙ never s)
          ∙ or_false (on_found test (ask_below n client s))
          ∙ sym (ap (on_found test) (ap (λ (o : Option Ask). option_or (ask_below n client s) (with_set s o)) is ∙ or_none (ask_below n client s)))
      by_ask (Some ask) is before =
          let nothing : ask_below n client s ≡ None = none_below s (omega (arith, few, live_counts s ask is)) in
          ap₂ ◌||◌ (before ∙ ap (on_found test) nothing) (ap (test s) is)
          ∙ sym (ap (on_found test) (ap₂ option_or nothing (ap (with_set s) is)))

  -- the set of an ask that is found is one of these
  found_inside : (sets : ℕ) (found : ℕ × Ask) → ask_below n client sets ≡ Some found → found.0 < sets
  found_inside zero found e = cc
  found_inside (suc s) found e = by_first (ask_below n client s) refl (live_ask (n.set s) client) e (λ first. found_inside s found first)
    where
      by_first : (o : Option (ℕ × Ask)) → ask_below n client s ≡ o → (p : Option Ask) → option_or o (with_set s p) ≡ Some found
          → (ask_below n client s ≡ Some found → found.0 < s) → found.0 < suc s
      by_first (Some first) before p e again = omega (arith, again (before ∙ e))
      by_first None before (Some ask) e again = let same : s ≡ found.0 = cc in omega (arith, same)
      by_first None before None e again = cc

-- the ask that is found is for a set of the script
pub found_within : (script : ScriptData) (n : NodeState) (client : ℕ) → IfSome (first_ask script n client) (λ (found : ℕ × Ask). found.0 < length script.sets)
found_within script n client = by_found (first_ask script n client) refl
  where
    by_found : (o : Option (ℕ × Ask)) → first_ask script n client ≡ o → IfSome o (λ (found : ℕ × Ask). found.0 < length script.sets)
    by_found None e = tt
    by_found (Some found) e = found_inside n client (length script.sets) found e

-- Of the world after a run.

kept_now : (script : ScriptData) (run : List Logged) → IsScript script → IsRun script run → WorldInvariant script (world_after script run)
kept_now script run good is_run =
    subst (λ (r : List Logged). WorldInvariant script (world_after script r)) (whole_run run) (kept_in_runs script run (whole script good) is_run (length run))

homes_now : (script : ScriptData) (run : List Logged) → IsScript script → IsRun script run → Homes script (world_after script run)
homes_now script run good is_run =
    subst (λ (r : List Logged). Homes script (world_after script r)) (whole_run run) (homes_in_runs script run (whole script good) is_run (length run))

-- the ask that is found tells for whom the client waits
pub waits_by_ask : (w : WorldData) → IsScript w.script → IsRun w.script w.run → (client other : ℕ) → client < length w.script.clients
    → waits_for w.script (world_of w) client other
    ≡ waits_by w client other (first_ask w.script ((world_of w).node (home w.script client)) client)
waits_by_ask w good is_run client other known =
    ap (λ (b : Bool). not (client == other) && b)
    (one_found n client (λ s. kept_if w.script (world_of w) s other) (λ s. refl) (length w.script.sets)
    ((kept.clients (home w.script client) (good.homes client known)).one_ask client)
    ∙ same (first_ask w.script n client))
  where
    n : NodeState
    n = (world_of w).node (home w.script client)

    kept : WorldInvariant w.script (world_of w)
    kept = kept_now w.script w.run good is_run

    same : (found : Option (ℕ × Ask)) → on_found (λ s. kept_if w.script (world_of w) s other) found ≡ stands_in_way w other found
    same None = refl
    same (Some found) = refl

-- and behind whose void asks
pub voids_by_ask : (w : WorldData) → IsScript w.script → IsRun w.script w.run → (client other : ℕ) → client < length w.script.clients
    → waits_behind_void w.script (world_of w) client other
    ≡ void_in_way w other (first_ask w.script ((world_of w).node (home w.script client)) client)
voids_by_ask w good is_run client other known =
    one_found n client (λ s. behind_void_if w.script (world_of w) s other) (λ s. refl) (length w.script.sets)
    ((kept.clients (home w.script client) (good.homes client known)).one_ask client)
    ∙ same (first_ask w.script n client)
  where
    n : NodeState
    n = (world_of w).node (home w.script client)

    kept : WorldInvariant w.script (world_of w)
    kept = kept_now w.script w.run good is_run

    same : (found : Option (ℕ × Ask)) → on_found (λ s. behind_void_if w.script (world_of w) s other) found ≡ void_in_way w other found
    same None = refl
    same (Some found) = refl

-- an ask that stands before another one is in the queue
before_there : (first second : ℕ) (queue : List Ask) → is_before first second queue ≡ true → (ask : Ask) × Contains queue ask × (ask.client ≡ first)
before_there first second [] e = absurd (false≢true e)
before_there first second (ask ∷ rest) e = elim (or_cases (ask.client == first && has_client second rest) (is_before first second rest) e) [
  | inl here ↦ (ask, contains_first ask ask rest refl, eqb-true ask.client first (and_parts (ask.client == first) _ here).0)
  | inr later ↦ let found = before_there first second rest later in (found.0, contains_later ask found.0 rest found.1, found.2)
]

-- an ask in a queue is unanswered at its own node
queue_waits : (script : ScriptData) (w : World) (s q : ℕ) (ask : Ask) → WorldInvariant script w → s < length script.sets → q < script.nodes → Contains (queue_of (state_at w s q)) ask
    → Contains (state_at w s ask.node).pending ask
queue_waits script w s q ask kept in_sets below there =
    (stands_once script w s ask (kept_stands script w s (kept.sets s in_sets))
    (omega (arith, times_in-some ask (queue_of (state_at w s q)) there, sum_below-at script.nodes q (λ x. places_in_state ask (state_at w s x)) below))).1

-- a client that stands before another one, or behind which one is parked, has an unanswered ask
module _ (script : ScriptData) (w : World) (kept : WorldInvariant script w) (homes : Homes script w) (s other client q : ℕ) (in_sets : s < length script.sets) (below : q < script.nodes) where
  abbrev asks_there : Bool
  asks_there = list_any (λ (ask : Ask). ask.client == other) (state_at w s (home script other)).pending

  by_ask : (ask : Ask) → Contains (state_at w s (home script other)).pending ask → ask.client ≡ other → asks_there ≡ true
  by_ask ask there mine = list_any-at (λ (a : Ask). a.client == other) (state_at w s (home script other)).pending ask there (eq-eqb ask.client other mine)

  by_queue : stands_before (state_at w s q) other client ≡ true → asks_there ≡ true
  by_queue e =
      let found = before_there other client (queue_of (state_at w s q)) e in
      let at_home = All-contains (IsAskAtHome script) (queue_of (state_at w s q)) found.0 (homes.states q s).queue found.1 in
      let same : found.0.node ≡ home script other = sym at_home.home ∙ ap (home script) found.2 in
      by_ask found.0 (subst (λ (x : ℕ). Contains (state_at w s x).pending found.0) same (queue_waits script w s q found.0 kept in_sets below found.1)) found.2

  by_parked : parked_behind (state_at w s q) other client ≡ true → asks_there ≡ true
  by_parked e =
      let mine = list_any-which (λ (a : Ask). a.client == client && has_older (state_at w s q) other a) (parked_asks (state_at w s q)) e in
      let older = list_any-which (λ (a : Ask). a.client == other && (excludes_itself a.mode && is_newer mine.0.stamp a.stamp)) (state_at w s q).pending (and_parts (mine.0.client == client) _ mine.2).1 in
      let own = eqb-true older.0.client other (and_parts (older.0.client == other) _ older.2).0 in
      let at_home = All-contains (IsAskOf script q) (state_at w s q).pending older.0 (homes.states q s).pending older.1 in
      let same : q ≡ home script other = sym at_home.1 ∙ sym at_home.0.home ∙ ap (home script) own in
      by_ask older.0 (subst (λ (x : ℕ). Contains (state_at w s x).pending older.0) same older.1) own

  stands_not : asks_there ≡ false → (stands_before (state_at w s q) other client || parked_behind (state_at w s q) other client) ≡ false
  stands_not none = by_test (stands_before (state_at w s q) other client || parked_behind (state_at w s q) other client) refl
    where
      by_test : (t : Bool) → (stands_before (state_at w s q) other client || parked_behind (state_at w s q) other client) ≡ t → t ≡ false
      by_test false e = refl
      by_test true e = absurd (false≢true (sym none ∙ elim (or_cases (stands_before (state_at w s q) other client) _ e) [
        | inl before ↦ by_queue before
        | inr parked ↦ by_parked parked
      ]))

-- nobody waits behind a client that asks for nothing
pub behind_none : (w : WorldData) → IsScript w.script → IsRun w.script w.run → (s other client : ℕ) → s < length w.script.sets
    → is_some (pending_ask (state_at (world_of w) s (home w.script other)) other) ≡ false
    → waits_behind w.script (world_of w) s other client ≡ false
behind_none w good is_run s other client in_sets none =
    none_passes w.script.nodes
    (λ q. stands_before (state_at (world_of w) s q) other client || parked_behind (state_at (world_of w) s q) other client)
    (λ q below. stands_not w.script (world_of w) (kept_now w.script w.run good is_run) (homes_now w.script w.run good is_run) s other client q in_sets below
    (sym (is_found (λ (ask : Ask). ask.client == other) (state_at (world_of w) s (home w.script other)).pending) ∙ none))
