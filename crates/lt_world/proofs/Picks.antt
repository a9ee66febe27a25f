-- Where a world rests, and what the enabled move at a place is.
use Rattle.std.proofs.Common.{◌≡◌, true, false, ℕ, ◌<◌, List, [], ◌∷◌, length, Option, Some, None, inl, inr, refl, sym, ap, ◌∙◌, arith, Bool, zero, suc, ◌+◌, ◌-◌, ◌≤◌, ◌++◌, map, filter, flat_map, subst, ◌&&◌, ◌==◌, nat_lt, IsFalse, is_some, ◌↔◌, if◌then◌else◌, IsTrue, IsNone, IfSome, OnSome, option_map, option_and_then, slice_get, eq-eqb, ne_eqb, lt-ltb}
use Rattle.std.proofs.lemmas.Bool.{cases_eq, false_from_ne_true, false≢true, and_from, and_parts}
use Rattle.std.specs.List.{range_with_len, AllByRecursion}
use Rattle.lt_modes.specs.declared.moves.Step.{Step}
use Rattle.lt_modes.specs.declared.moves.Step.TheVariants.{Act, Take}
use Rattle.lt_modes.specs.Script.{ScriptData}
use Rattle.lt_lists.proofs.Searches.{none_counted, any_below_at, Found, found}
use Rattle.lt_spec.specs.NodeMove.{home}
use Rattle.lt_spec.specs.World.{World, is_enabled, is_at_rest, is_runnable, has_mail}
use Rattle.lt_spec.specs.FixedOrder.{Turn, takes, count_turns, pick, take_turn, act_turn, senders, acts_before, next_act, act_after}
use Rattle.lt_law_enabled.specs.OrderLaws.{HasLetter}
use Rattle.lt_law_enabled.proofs.Order.{rests, takes_where, picks_first, picks_within}
use Rattle.lt_law_enabled.proofs.Takes.{none_taken}
use Rattle.lt_law_enabled.proofs.Acts.{after_this, acts_order}
use Rattle.lt_world.proofs.Premises.{act_parts}
use Rattle.lt_world.specs.declared.choice.Choice.{Choice}
use Rattle.lt_world.specs.Choice.{choice_of}

-- no move is enabled where none is counted
none_enabled : (script : ScriptData) (w : World) → count_turns script w ≡ 0 → (q : ℕ) (step : Step) → IsFalse (is_enabled script w q step)
none_enabled script w none q (Act client) = false_from_ne_true (is_enabled script w q (Act client)) (λ e.
    let act = act_parts script w q client e in
    false≢true (sym (none_counted (length script.clients) (is_runnable script w) (omega (arith, none)))
    ∙ any_below_at (length script.clients) client (is_runnable script w) act.client_is act.runs))
none_enabled script w none q (Take p) = false_from_ne_true (is_enabled script w q (Take p)) (λ e.
    let has : HasLetter script w p q = (takes_where script w p q).0 e in
    none_taken script w 0 script.nodes (empty (takes script w) (omega (arith, none))) q p (omega arith) (omega (arith, has.receiver)) e)
  where
    empty : (ts : List Turn) → length ts ≡ 0 → ts ≡ []
    empty [] e = refl
    empty (t ∷ ts) e = absurd (omega (arith, e))

pub at_rest_where_none : (script : ScriptData) (w : World) → count_turns script w ≡ 0 → is_at_rest script w ≡ true
at_rest_where_none script w none = (rests script w).1 (none_enabled script w none)

some_counted : (script : ScriptData) (w : World) (o : Option Turn) → pick script w 0 ≡ o → is_at_rest script w ≡ true → o ≡ None
some_counted script w None e rest = refl
some_counted script w (Some turn) e rest =
    let first = picks_first script w turn e in
    absurd (false≢true (sym ((rests script w).0 rest turn.node turn.step) ∙ first.enabled))

-- a world rests exactly where no move is counted
pub rest_counted : (script : ScriptData) (w : World) → is_at_rest script w ≡ (count_turns script w == 0)
rest_counted script w = elim (cases_eq (count_turns script w) 0) [
  | inl none ↦ at_rest_where_none script w none ∙ sym (eq-eqb (count_turns script w) 0 none)
  | inr some ↦
      false_from_ne_true (is_at_rest script w) (λ rest.
      some (omega (arith, (picks_within script w 0).0 (ap is_some (some_counted script w (pick script w 0) refl rest)))))
      ∙ sym (ne_eqb (count_turns script w) 0 some)
]

-- a world with an enabled move doesn't rest
pub not_at_rest : (script : ScriptData) (w : World) (q : ℕ) (step : Step) → is_enabled script w q step ≡ true → is_at_rest script w ≡ false
not_at_rest script w q step e = false_from_ne_true (is_at_rest script w) (λ rest. false≢true (sym ((rests script w).0 rest q step) ∙ e))

-- a client that can act is enabled at its node
pub act_enabled : (script : ScriptData) (w : World) (client : ℕ) → client < length script.clients → is_runnable script w client ≡ true
    → is_enabled script w (home script client) (Act client) ≡ true
act_enabled script w client inside runs =
    and_from (nat_lt client (length script.clients)) (home script client == home script client && is_runnable script w client) (lt-ltb client (length script.clients) inside)
    (and_from (home script client == home script client) (is_runnable script w client) (eq-eqb (home script client) (home script client) refl) runs)

-- The enabled move at each place.

abbrev IsOn : ScriptData → World → Turn → Type 0
IsOn script w turn = is_enabled script w turn.node turn.step ≡ true

-- what a filter leaves passes
filter_passes : (test : ℕ → Bool) (xs : List ℕ) → AllByRecursion (λ x. test x ≡ true) (filter test xs)
filter_passes test [] = tt
filter_passes test (x ∷ xs) = by_test (test x) refl (filter_passes test xs)
  where
    by_test : (t : Bool) → test x ≡ t → AllByRecursion (λ x. test x ≡ true) (filter test xs)
        → AllByRecursion (λ x. test x ≡ true) (if t then x ∷ filter test xs else filter test xs)
    by_test true e rest = (e, rest)
    by_test false e rest = rest

in_front : (script : ScriptData) (w : World) (q : ℕ) (ps : List ℕ) (rest : List Turn) (k : ℕ) (turn : Turn)
    → AllByRecursion (λ p. has_mail script w p q ≡ true) ps → ((j : ℕ) → slice_get rest j ≡ Some turn → IsOn script w turn)
    → slice_get (map (take_turn q) ps ++ rest) k ≡ Some turn → IsOn script w turn
in_front script w q [] rest k turn on later e = later k e
in_front script w q (p ∷ ps) rest zero turn on later e =
    let same : take_turn q p ≡ turn = cc in
    subst (IsOn script w) same on.0
in_front script w q (p ∷ ps) rest (suc k) turn on later e = in_front script w q ps rest k turn on.1 later e

take_on : (script : ScriptData) (w : World) (start n k : ℕ) (turn : Turn)
    → slice_get (flat_map (λ q. map (take_turn q) (senders script w q)) (range_with_len start n)) k ≡ Some turn → IsOn script w turn
take_on script w start zero k turn e = cc
take_on script w start (suc n) k turn e =
    in_front script w start (senders script w start) (flat_map (λ q. map (take_turn q) (senders script w q)) (range_with_len (start + 1) n)) k turn
    (filter_passes (λ p. has_mail script w p start) (range_with_len 0 script.nodes)) (λ j. take_on script w (start + 1) n j turn) e

-- a client that is found can act
found_on : (script : ScriptData) (w : World) (earlier o : Option ℕ) (client : ℕ) → Found (length script.clients) (after_this script w earlier) (acts_before script w) o
    → o ≡ Some client → IsOn script w (act_turn script client)
found_on script w earlier None client h e = cc
found_on script w earlier (Some first) client h e =
    let same : first ≡ client = cc in
    subst (λ (c : ℕ). IsOn script w (act_turn script c)) same (act_enabled script w first h.inside (and_parts (is_runnable script w first) _ h.passes).0)

act_on : (script : ScriptData) (w : World) (earlier : Option ℕ) (k client : ℕ) → act_after script w earlier k ≡ Some client → IsOn script w (act_turn script client)
act_on script w earlier zero client e =
    found_on script w earlier (next_act script w earlier) client (found (length script.clients) (after_this script w earlier) (acts_before script w) (acts_order script w)) e
act_on script w earlier (suc k) client e = by_next (λ next. act_on script w (Some next) k client) (next_act script w earlier) e
  where
    by_next : ((next : ℕ) → act_after script w (Some next) k ≡ Some client → IsOn script w (act_turn script client))
        → (o : Option ℕ) → option_and_then (λ next. act_after script w (Some next) k) o ≡ Some client → IsOn script w (act_turn script client)
    by_next again None e = cc
    by_next again (Some next) e = again next e

mapped_on : (script : ScriptData) (w : World) (o : Option ℕ) (turn : Turn) → ((client : ℕ) → o ≡ Some client → IsOn script w (act_turn script client))
    → option_map (act_turn script) o ≡ Some turn → IsOn script w turn
mapped_on script w None turn h e = cc
mapped_on script w (Some client) turn h e =
    let same : act_turn script client ≡ turn = cc in
    subst (IsOn script w) same (h client refl)

pick_on : (script : ScriptData) (w : World) (k : ℕ) (turn : Turn) → pick script w k ≡ Some turn → IsOn script w turn
pick_on script w k turn e = by_test (nat_lt k (length (takes script w))) e
  where
    by_test : (t : Bool) → (if t then slice_get (takes script w) k else option_map (act_turn script) (act_after script w None (k - length (takes script w)))) ≡ Some turn → IsOn script w turn
    by_test true e = take_on script w 0 script.nodes k turn e
    by_test false e = mapped_on script w (act_after script w None (k - length (takes script w))) turn (act_on script w None (k - length (takes script w))) e

-- what is told of the move at a place
pub record Picked (script : ScriptData) (w : World) (k : ℕ) (o : Option Choice) : Type 0 where
  pub enabled : IfSome o (λ choice. IsTrue (is_enabled script w choice.node choice.step))
  pub none : IsNone o ↔ (count_turns script w ≤ k)
  pub going : OnSome o (IsFalse (is_at_rest script w))
  pub rest : IsNone o → k ≡ 0 → IsTrue (is_at_rest script w)

pub picked : (script : ScriptData) (w : World) (k : ℕ) → Picked script w k (option_map choice_of (pick script w k))
picked script w k = by_turn (pick script w k) refl
  where
    by_turn : (o : Option Turn) → pick script w k ≡ o → Picked script w k (option_map choice_of o)
    by_turn None e =
        let few : count_turns script w ≤ k = (picks_within script w k).0 (ap is_some e) in
        record {
          enabled = tt;
          none = (λ x. few, λ h. refl);
          going = tt;
          rest = λ x first. at_rest_where_none script w (omega (arith, few, first));
        }
    by_turn (Some turn) e =
        let on = pick_on script w k turn e in
        record {
          enabled = on;
          none = (λ x. absurd (cc), λ h. absurd (some_none (sym (ap is_some e) ∙ (picks_within script w k).1 h)));
          going = not_at_rest script w turn.node turn.step on;
          rest = λ x first. absurd (cc);
        }
      where
        some_none : true ≡ false → ⊥
        some_none e = cc

-- where no take stands at a place, all stand before it
pub takes_before : (script : ScriptData) (w : World) (k : ℕ) → None ≡ option_map choice_of (slice_get (takes script w) k) → length (takes script w) ≤ k
takes_before script w k e = behind (takes script w) k e
  where
    behind : (ts : List Turn) (k : ℕ) → None ≡ option_map choice_of (slice_get ts k) → length ts ≤ k
    behind [] k e = omega arith
    behind (t ∷ ts) zero e = cc
    behind (t ∷ ts) (suc k) e = omega (arith, behind ts k e)
