-- How much services and freezes send out.
use Rattle.std.proofs.Common.{◌≡◌, ℕ, zero, suc, ◌+◌, ◌≤◌, Bool, true, false, List, [], ◌∷◌, length, length-append, Option, Some, None, arith, refl, sym, ap, subst, if◌then◌else◌, ◌==◌, ◌∙◌, slice_set, remove}
use Rattle.std.proofs.lemmas.List.{length-map}
use Rattle.lt_modes.specs.State.{SetState, Desk, Entry, Made, then_do}
use Rattle.lt_modes.specs.Serving.{queue_of, next_service, ask_at, serve_one, serve_local, serve_copy, serve_step, serve_up_to, owed_at, put_queue}
use Rattle.lt_core.specs.Bound.{nodes_of}
use Rattle.lt_modes.specs.declared.stamp.Stamp.{Stamp}
use Rattle.lt_modes.specs.declared.ask.Ask.{Ask}
use Rattle.lt_modes.specs.Freezing.{places_from, cons_if, freeze_at, targets, is_target, frozen_by}

-- so many letters and event lines at most
abbrev pub AtMost : ℕ → Made → Type 0
AtMost n made = (length made.posts ≤ n) × (length made.events ≤ n)

pub most_then : (m n : ℕ) (made : Made) (rule : SetState → Made) → AtMost m made → AtMost n (rule made.state) → AtMost (m + n) (then_do made rule)
most_then m n made rule a b = (
  omega (arith, a.0, b.0, length-append made.posts (rule made.state).posts),
  omega (arith, a.1, b.1, length-append made.events (rule made.state).events),
)

pub most_one : (set : ℕ) (stamp : Stamp) (k : ℕ) (s : SetState) (b : Bool) → AtMost 1 (if b then serve_local set k s else serve_copy set stamp k (ask_at s k) s)
most_one set stamp k s true = (omega arith, omega arith)
most_one set stamp k s false = (omega arith, omega arith)

pub most_step : (n set : ℕ) (stamp : Stamp) (s : SetState) (pick : Option ℕ) (again : (t : SetState) → AtMost n (serve_up_to n set stamp t))
    → AtMost (1 + n) (serve_step set stamp (serve_up_to n set stamp) s pick)
most_step n set stamp s None again = (omega arith, omega arith)
most_step n set stamp s (Some k) again =
    most_then 1 n (serve_one set stamp k s) (serve_up_to n set stamp) (most_one set stamp k s ((ask_at s k).node == stamp.node)) (again (serve_one set stamp k s).state)

pub most_served : (n set : ℕ) (stamp : Stamp) (s : SetState) → AtMost n (serve_up_to n set stamp s)
most_served zero set stamp s = (omega arith, omega arith)
most_served (suc n) set stamp s =
    let m = most_step n set stamp s (next_service stamp.node s) (most_served n set stamp) in
    (omega (arith, m.0), omega (arith, m.1))

-- the number of entries doesn't change
pub length_set : (es : List Entry) (x : ℕ) (e : Entry) → length (slice_set es x e) ≡ length es
length_set [] x e = refl
length_set (f ∷ es) zero e = refl
length_set (f ∷ es) (suc x) e = ap suc (length_set es x e)

pub nodes_put : (q : List Ask) (d : Option Desk) → nodes_of (put_queue q d) ≡ nodes_of d
nodes_put q None = refl
nodes_put q (Some d) = refl

pub nodes_owed : (ask : Ask) (k : ℕ) (d : Option Desk) → nodes_of (owed_at ask k d) ≡ nodes_of d
nodes_owed ask k None = refl
nodes_owed ask k (Some d) = length_set d.entries ask.node _

pub nodes_one : (set : ℕ) (stamp : Stamp) (k : ℕ) (s : SetState) (b : Bool) → nodes_of (if b then serve_local set k s else serve_copy set stamp k (ask_at s k) s).state.desk ≡ nodes_of s.desk
nodes_one set stamp k s true = nodes_put (remove (queue_of s) k) s.desk
nodes_one set stamp k s false = nodes_owed (ask_at s k) k s.desk

pub nodes_step : (n set : ℕ) (stamp : Stamp) (s : SetState) (pick : Option ℕ) (again : (t : SetState) → nodes_of (serve_up_to n set stamp t).state.desk ≡ nodes_of t.desk)
    → nodes_of (serve_step set stamp (serve_up_to n set stamp) s pick).state.desk ≡ nodes_of s.desk
nodes_step n set stamp s None again = refl
nodes_step n set stamp s (Some k) again = again (serve_one set stamp k s).state ∙ nodes_one set stamp k s ((ask_at s k).node == stamp.node)

pub nodes_served : (n set : ℕ) (stamp : Stamp) (s : SetState) → nodes_of (serve_up_to n set stamp s).state.desk ≡ nodes_of s.desk
nodes_served zero set stamp s = refl
nodes_served (suc n) set stamp s = nodes_step n set stamp s (next_service stamp.node s) (nodes_served n set stamp)

pub few_if : (b : Bool) (k : ℕ) (xs : List ℕ) → length (cons_if b k xs) ≤ length xs + 1
few_if true k xs = omega arith
few_if false k xs = omega arith

pub few_places : (test : ℕ → Entry → Bool) (k : ℕ) (es : List Entry) → length (places_from test k es) ≤ length es
few_places test k [] = omega arith
few_places test k (e ∷ es) = omega (arith, few_if (test k e) k (places_from test (k + 1) es), few_places test (k + 1) es)

pub most_frozen : (set : ℕ) (stamp : Stamp) (s : SetState) (d : Option Desk) → AtMost (nodes_of d) (freeze_at set stamp s d)
most_frozen set stamp s None = (omega arith, omega arith)
most_frozen set stamp s (Some d) =
    let told = targets stamp.node (frozen_by d.queue) d in
    let few : length told ≤ length d.entries = few_places (is_target stamp.node (frozen_by d.queue)) 0 d.entries in
    (subst (λ n. n ≤ length d.entries) (sym (length-map told _)) few, subst (λ n. n ≤ length d.entries) (sym (length-map told _)) few)
