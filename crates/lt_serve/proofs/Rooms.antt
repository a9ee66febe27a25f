-- How many moves are left to the nodes of a simulation.
use Rattle.std.proofs.Common.{◌≡◌, ◌≢◌, ◌∙◌, ℕ, zero, suc, Option, ap₂, ◌+◌, ◌-◌, ◌<◌, ◌≤◌, Bool, true, false, List, [], ◌∷◌, ◌++◌, Some, None, length, take, refl, sym, ap, arith, subst, inl, inr, ◌==◌, ◌&&◌, nat_lt, IsTrue, if◌then◌else◌, cond, count_by, eq-eqb, ne_eqb, eqb-true, ltb-true, take_all}
use Rattle.std.proofs.lemmas.Bool.{cases_eq, and_parts, or_left, or_right, false≢true}
use Rattle.std.proofs.lemmas.List.{take-append-le, length_push}
use Rattle.std.proofs.lemmas.List.Sums.{sum_by-cons, sum_by-append}
use Rattle.lt_modes.specs.declared.moves.Step.{Step}
use Rattle.lt_modes.specs.declared.moves.Step.TheVariants.{Act, Take}
use Rattle.lt_modes.specs.Script.{ScriptData}
use Rattle.lt_spec.specs.Script.{IsScript}
use Rattle.lt_lists.specs.Below.{sum_below, any_below, first_below, earlier}
use Rattle.lt_lists.proofs.Searches.{any_below_at}
use Rattle.lt_lists.proofs.Sums.{sum_below-change}
use Rattle.lt_spec.specs.World.{Logged, World, world_after, logged, is_enabled, is_of_node, moves_of, can_move, is_full, full_node}
use Rattle.lt_law_journals.proofs.Places.{stamp_node}
use Rattle.lt_threads.specs.Threads.{StaysWithin}
use Rattle.lt_serve.specs.Endings.{StopsInTime}

-- the moves that the nodes may still make
abbrev pub room_left : ScriptData → ℕ → List Logged → ℕ
room_left script limit run = sum_below script.nodes (λ q. limit - moves_of q run)

-- a node that makes a move is of the script
pub mover_within : (script : ScriptData) (w : World) (q : ℕ) (step : Step) → IsScript script
    → IsTrue (is_enabled script w q step) → q < script.nodes
mover_within script w q (Take p) kept e =
    ltb-true q script.nodes (and_parts _ _ (and_parts (nat_lt p script.nodes) _ e).1).0
mover_within script w q (Act client) kept e =
    let parts = and_parts (nat_lt client (length script.clients)) _ e in
    let home_is = eqb-true _ q (and_parts _ _ parts.1).0 in
    subst (λ (x : ℕ). x < script.nodes) home_is (kept.homes client (ltb-true client (length script.clients) parts.0))

-- an enabled move is one that its node can make
can_make_it : (script : ScriptData) (w : World) (q : ℕ) (step : Step) → IsTrue (is_enabled script w q step) → can_move script w q ≡ true
can_make_it script w q (Take p) e =
    or_left _ _ (any_below_at script.nodes p (λ p. is_enabled script w q (Take p)) (ltb-true p script.nodes (and_parts (nat_lt p script.nodes) _ e).0) e)
can_make_it script w q (Act client) e =
    or_right (any_below script.nodes (λ p. is_enabled script w q (Take p))) _
    (any_below_at (length script.clients) client (λ client. is_enabled script w q (Act client)) (ltb-true client (length script.clients) (and_parts (nat_lt client (length script.clients)) _ e).0) e)

-- a search that finds none
none_found : (n : ℕ) (test : ℕ → Bool) (before : ℕ → ℕ → Bool) → first_below n test before ≡ None → (k : ℕ) → k < n → test k ≡ false
none_found zero test before e k below = absurd (omega (arith, below))
none_found (suc n) test before e k below =
    by_last (λ rest inside. none_found n test before rest k inside) (test n) refl e
  where
    some_earlier : (best : Option ℕ) → earlier before best n ≡ None → ⊥
    some_earlier None e = cc
    some_earlier (Some best) e = by_test (before n best) e
      where
        by_test : (t : Bool) → (if t then Some n else Some best) ≡ None → ⊥
        by_test true e = cc
        by_test false e = cc

    by_last : (first_below n test before ≡ None → k < n → test k ≡ false) → (t : Bool) → test n ≡ t
        → (if t then earlier before (first_below n test before) n else first_below n test before) ≡ None → test k ≡ false
    by_last again true holds e = absurd (some_earlier (first_below n test before) e)
    by_last again false fails e = elim (cases_eq k n) [
      | inl same ↦ subst (λ (i : ℕ). test i ≡ false) (sym same) fails
      | inr other ↦ again e (omega (arith, below, other))
    ]

-- where no node is full, the node of an enabled move may make it
pub may_move : (script : ScriptData) (limit : ℕ) (run : List Logged) (q : ℕ) (step : Step) → IsScript script → StaysWithin limit script run
    → full_node script limit run ≡ None → IsTrue (is_enabled script (world_after script run) q step) → moves_of q run < limit
may_move script limit run q step kept within none e =
    let test = none_found script.nodes (is_full script limit run) nat_lt none q (mover_within script (world_after script run) q step kept e) in
    let other : moves_of q run ≢ limit = λ same.
    false≢true (sym test ∙ (ap₂ ◌&&◌ (eq-eqb (moves_of q run) limit same) (can_make_it script (world_after script run) q step e))) in
    omega (arith, within q (mover_within script (world_after script run) q step kept e), other)

-- one entry more counts for its own node
count_push : (run : List Logged) (entry : Logged) (node : ℕ)
    → count_by (is_of_node node) (run ++ entry ∷ []) ≡ count_by (is_of_node node) run + cond (is_of_node node entry) 1 0
count_push run entry node =
    omega (arith, sum_by-append (λ (x : Logged). cond (is_of_node node x) 1 0) run (entry ∷ []), sum_by-cons (λ (x : Logged). cond (is_of_node node x) 1 0) entry [])

-- the mover has made one move more, and each other node as many as before
moved_one : (w : World) (script : ScriptData) (run : List Logged) (q : ℕ) (step : Step)
    → moves_of q (run ++ logged script w q step ∷ []) ≡ moves_of q run + 1
moved_one w script run q step =
    let here : ((logged script w q step).made.stamp.node == q) ≡ true = eq-eqb _ q (stamp_node w q step) in
    count_push run (logged script w q step) q ∙ ap (λ (t : Bool). moves_of q run + cond t 1 0) here

moved_none : (w : World) (script : ScriptData) (run : List Logged) (q k : ℕ) (step : Step) → k ≢ q
    → moves_of k (run ++ logged script w q step ∷ []) ≡ moves_of k run
moved_none w script run q k step apart =
    let there : ((logged script w q step).made.stamp.node == k) ≡ false = ne_eqb _ k (λ e. apart (sym e ∙ stamp_node w q step)) in
    omega (arith, count_push run (logged script w q step) k, ap {B = ℕ} (λ (t : Bool). cond t 1 0) there)

pub stays_within : (script : ScriptData) (limit : ℕ) (run : List Logged) (w : World) (q : ℕ) (step : Step) → StaysWithin limit script run
    → moves_of q run < limit → StaysWithin limit script (run ++ logged script w q step ∷ [])
stays_within script limit run w q step within room k inside = elim (cases_eq k q) [
  | inl same ↦ subst (λ (i : ℕ). moves_of i (run ++ logged script w q step ∷ []) ≤ limit) (sym same) (omega (arith, moved_one w script run q step, room))
  | inr other ↦ omega (arith, moved_none w script run q k step other, within k inside)
]

-- a move that is made where no node is full
pub stays_in_time : (script : ScriptData) (limit : ℕ) (run : List Logged) (entry : Logged) → StopsInTime limit script run
    → full_node script limit run ≡ None → StopsInTime limit script (run ++ entry ∷ [])
stays_in_time script limit run entry before none k inside =
    let within : k ≤ length run = omega (arith, inside, length_push run entry) in
    let here : full_node script limit (take k run) ≡ None = elim (cases_eq k (length run)) [
      | inl same ↦ ap (λ (n : ℕ). full_node script limit (take n run)) same ∙ (ap (full_node script limit) (take_all (length run) run (omega arith)) ∙ none)
      | inr other ↦ before k (omega (arith, within, other))
    ] in
    ap (full_node script limit) (take-append-le k run (entry ∷ []) within) ∙ here

pub less_room : (script : ScriptData) (limit : ℕ) (run : List Logged) (w : World) (q : ℕ) (step : Step) → q < script.nodes
    → moves_of q run < limit → room_left script limit (run ++ logged script w q step ∷ []) < room_left script limit run
less_room script limit run w q step inside room =
    let before = λ (k : ℕ). limit - moves_of k run in
    let now = λ (k : ℕ). limit - moves_of k (run ++ logged script w q step ∷ []) in
    let change = sum_below-change script.nodes q before now inside (λ k below other. ap (λ (n : ℕ). limit - n) (sym (moved_none w script run q k step other))) in
    omega (arith, change, moved_one w script run q step, room)
