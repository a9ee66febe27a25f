-- How many moves each node has made, and all nodes together.
use Rattle.std.proofs.Common.{◌≡◌, ◌≢◌, Bool, true, false, ℕ, zero, suc, ◌+◌, ◌*◌, ◌<◌, ◌≤◌, ◌^◌, List, [], ◌∷◌, ◌++◌, length, inl, inr, refl, sym, ap, subst, ◌∙◌, arith, length-set, get_or-set_same, get_or-set_other, ◌-◌, Option, Some, None, ap₂, ◌==◌, if◌then◌else◌, slice_set, slice_index_or, count_by, IsTrue, ◌&&◌, not, nat_lt, slice_get, option_map, unwrap_or, eq-eqb, ne_eqb, ◌||◌, Contains}
use Rattle.std.proofs.lemmas.Bool.{cases_eq, and_from, or_left, or_right, false≢true, and_parts}
use Rattle.std.proofs.lemmas.List.{length_push}
use Rattle.std.proofs.lemmas.List.Elements.{Contains-get_or}
use Rattle.std.proofs.lemmas.Option.{get_or_from_slice_get, slice_get_within}
use Rattle.std.proofs.lemmas.List.Sums.{sum_by-append}
use Rattle.lt_modes.specs.declared.moves.Step.{Step}
use Rattle.lt_modes.specs.declared.moves.Step.TheVariants.{Act, Take}
use Rattle.lt_modes.specs.Script.{ScriptData}
use Rattle.lt_modes.specs.declared.command.Command.{Command}
use Rattle.lt_modes.specs.declared.command.Command.TheVariants.{Lock, Try, Unlock, Change, DropAll, Withdraw}
use Rattle.lt_modes.specs.declared.stamp.Stamp.{Stamp}
use Rattle.lt_modes.specs.State.{Letter}
use Rattle.lt_modes.specs.Fits.{numbers_of}
use Rattle.lt_modes.specs.Sound.{SoundSet}
use Rattle.lt_lists.specs.Below.{any_below, sum_below, put}
use Rattle.lt_lists.proofs.Sums.{sum_below-change, sum_below-none}
use Rattle.lt_lists.proofs.Searches.{any_below_at}
use Rattle.lt_lists.proofs.Puts.{put-same, put-other}
use Rattle.lt_spec.specs.Script.{IsScript, HasTargets}
use Rattle.lt_spec.specs.World.{Logged, World, world_after, is_enabled, is_of_node, IsRun, moves_of, can_move, is_full, after, node_move, take_front, logged}
use Rattle.lt_spec.specs.declared.moves.TheConstants.{MAX_MOVES}
use Rattle.lt_spec.specs.NodeMove.{home, commands_of, NodeState, node_waits, has_command, next_command, withdraws_itself, is_free_at, act_stamp, take_stamp}
use Rattle.lt_law_enabled.proofs.Order.{takes_where}
use Rattle.lt_model.specs.Invariant.{WorldInvariant}
use Rattle.lt_law_invariant.proofs.SoundStates.{kept_in_runs}
use Rattle.lt_law_invariant.proofs.FewAsks.{whole}
use Rattle.lt_law_own_lines.specs.WaitingLaws.{AreOfOthers, EachAsksKnown, SameClient}
use Rattle.lt_law_own_lines.proofs.WaitingMoves.{waiting_in_acts, waiting_in_node_takes, known_where_sound}
use Rattle.lt_node.proofs.AdvanceLemmas.{targets_of}
use Rattle.lt_world.specs.Fields.{AreCounted, AreAtMost, AreTurns, turn_of, run_with, lines_of_last_move, OthersStand}
use Rattle.lt_world.proofs.Premises.{act_parts, act_inside, front_fits}
use Rattle.lt_world.proofs.Runs.{longer_world, whole_run}

-- so many nodes with up to so many moves each
few_below : (n most : ℕ) (moves : ℕ → ℕ) → ((q : ℕ) → q < n → moves q ≤ most) → most ≤ MAX_MOVES → sum_below n moves ≤ n * 2 ^ 30
few_below zero most moves each few = omega arith
few_below (suc n) most moves each few =
    omega (arith, few_below n most moves (λ q below. each q (omega (arith, below))) few, each n (omega arith), few)

-- a run has far fewer moves than a clock may count
pub few_moves : (script : ScriptData) (limit : ℕ) (moves : List ℕ) (run : List Logged) → IsScript script → AreCounted script limit moves run
    → length run + 1 < 2 ^ 62
few_moves script limit moves run good h =
    omega (arith, few_below script.nodes limit (λ q. moves_of q run) h.within h.small, h.all, good.few_nodes)

-- one move more
moves_more : (q : ℕ) (run : List Logged) (entry : Logged) → moves_of q (run ++ entry ∷ []) ≡ moves_of q run + (if entry.made.stamp.node == q then 1 else 0)
moves_more q run entry =
    let last : count_by (is_of_node q) (entry ∷ []) ≡ (if entry.made.stamp.node == q then 1 else 0) = omega arith in
    sum_by-append (λ (e : Logged). if is_of_node q e then 1 else 0) run (entry ∷ []) ∙ ap (λ (n : ℕ). moves_of q run + n) last

moves_same : (q : ℕ) (run : List Logged) (entry : Logged) → entry.made.stamp.node ≡ q → moves_of q (run ++ entry ∷ []) ≡ moves_of q run + 1
moves_same q run entry e = moves_more q run entry ∙ ap (λ (b : Bool). moves_of q run + (if b then 1 else 0)) (eq-eqb entry.made.stamp.node q e)

moves_other : (q : ℕ) (run : List Logged) (entry : Logged) → entry.made.stamp.node ≢ q → moves_of q (run ++ entry ∷ []) ≡ moves_of q run
moves_other q run entry d =
    moves_more q run entry ∙ (ap (λ (b : Bool). moves_of q run + (if b then 1 else 0)) (ne_eqb entry.made.stamp.node q d) ∙ omega arith)

pub counted_moved : (script : ScriptData) (limit : ℕ) (moves : List ℕ) (run : List Logged) (entry : Logged) (q : ℕ)
    → AreCounted script limit moves run → q < script.nodes → entry.made.stamp.node ≡ q → moves_of q run < limit
    → AreCounted script limit (slice_set moves q (slice_index_or moves q 0 + 1)) (run ++ entry ∷ [])
counted_moved script limit moves run entry q h inside e room = record {
  count = length-set moves q _ ∙ h.count;
  moves_are = λ k below. elim (cases_eq k q) [
    | inl same ↦
        subst (λ (x : ℕ). slice_index_or (slice_set moves q (slice_index_or moves q 0 + 1)) x 0 ≡ moves_of x (run ++ entry ∷ [])) (sym same)
        (get_or-set_same moves q _ 0 (omega (arith, inside, h.count)) ∙ (ap (λ (x : ℕ). x + 1) (h.moves_are q inside) ∙ sym (moves_same q run entry e)))
    | inr other ↦
        get_or-set_other moves q k _ 0 other ∙ (h.moves_are k below ∙ sym (moves_other k run entry (λ f. other (sym f ∙ e))))
  ];
  within = λ k below. elim (cases_eq k q) [
    | inl same ↦
        subst (λ (x : ℕ). moves_of x (run ++ entry ∷ []) ≤ limit) (sym same) (omega (arith, moves_same q run entry e, room))
    | inr other ↦ omega (arith, moves_other k run entry (λ f. other (sym f ∙ e)), h.within k below)
  ];
  all =
      let change = sum_below-change script.nodes q (λ k. moves_of k (run ++ entry ∷ [])) (λ k. moves_of k run) inside (λ k below other. moves_other k run entry (λ f. other (sym f ∙ e))) in
      omega (arith, change, moves_same q run entry e, h.all, length_push run entry);
  small = h.small;
}

-- and none more than the most
pub at_most_moved : (script : ScriptData) (most new : ℕ) (run : List Logged) (entry : Logged) (q : ℕ) → AreAtMost script most run → entry.made.stamp.node ≡ q
    → moves_of q run + 1 ≤ new → most ≤ new → AreAtMost script new (run ++ entry ∷ [])
at_most_moved script most new run entry q h e own more = λ k below. elim (cases_eq k q) [
  | inl same ↦ subst (λ (x : ℕ). moves_of x (run ++ entry ∷ []) ≤ new) (sym same) (omega (arith, moves_same q run entry e, own))
  | inr other ↦ omega (arith, moves_other k run entry (λ f. other (sym f ∙ e)), h k below, more)
]

pub counted_at_start : (script : ScriptData) (limit : ℕ) (moves : List ℕ) → limit ≤ MAX_MOVES → length moves ≡ script.nodes
    → ((q : ℕ) → slice_index_or moves q 0 ≡ 0) → AreCounted script limit moves []
counted_at_start script limit moves small count none = record {
  count = count;
  moves_are = λ q below. none q;
  within = λ q below. omega arith;
  all = sum_below-none script.nodes (λ q. moves_of q []) (λ k below. refl);
  small = small;
}

-- where none has made as many as it may, none is full
pub none_at_limit : (script : ScriptData) (limit most : ℕ) (run : List Logged) → AreAtMost script most run → most < limit
    → (k : ℕ) → k < script.nodes → is_full script limit run k ≡ false
none_at_limit script limit most run h few k below =
    let other : moves_of k run ≢ limit = λ e. omega (arith, h k below, few, e) in
    rw (ne_eqb (moves_of k run) limit other) refl

-- an enabled move is one of a node of the script, which can move
pub moves_inside : (script : ScriptData) (w : World) (q : ℕ) (step : Step) → IsScript script → IsTrue (is_enabled script w q step) → q < script.nodes
moves_inside script w q (Act client) good e = act_inside script w q client good e
moves_inside script w q (Take p) good e = ((takes_where script w p q).0 e).receiver

moves_can : (script : ScriptData) (w : World) (q : ℕ) (step : Step) → IsTrue (is_enabled script w q step) → can_move script w q ≡ true
moves_can script w q (Act client) e =
    or_right (any_below script.nodes (λ p. is_enabled script w q (Take p))) _
    (any_below_at (length script.clients) client (λ c. is_enabled script w q (Act c)) (act_parts script w q client e).client_is e)
moves_can script w q (Take p) e =
    or_left (any_below script.nodes (λ p. is_enabled script w q (Take p))) _
    (any_below_at script.nodes p (λ p. is_enabled script w q (Take p)) ((takes_where script w p q).0 e).sender e)

-- where no node is full, each node that can move has moves left
pub room_left : (script : ScriptData) (limit : ℕ) (moves : List ℕ) (run : List Logged) → IsScript script → AreCounted script limit moves run
    → ((k : ℕ) → k < script.nodes → is_full script limit run k ≡ false)
    → (q : ℕ) (step : Step) → IsTrue (is_enabled script (world_after script run) q step) → moves_of q run < limit
room_left script limit moves run good h none q step e =
    let inside = moves_inside script (world_after script run) q step good e in
    elim (cases_eq (moves_of q run) limit) [
      | inl same ↦ absurd (false≢true (sym (none q inside) ∙ and_from (moves_of q run == limit) (can_move script (world_after script run) q) (eq-eqb (moves_of q run) limit same) (moves_can script (world_after script run) q step e)))
      | inr other ↦ omega (arith, h.within q inside, other)
    ]

-- Which clients can act after a move.

-- the turn of a client at its node
abbrev turn_at : ScriptData → NodeState → ℕ → Option ℕ
turn_at script n client = if is_free_at script n client && has_command script n client then Some (n.made client) else None

-- its next command gives up what it waits for, as before
same_withdraw : (script : ScriptData) (n later : NodeState) (client : ℕ) → IsScript script → SameClient script n later client
    → withdraws_itself later client (next_command script later client) ≡ withdraws_itself n client (next_command script n client)
same_withdraw script n later client good h =
    ap (λ (k : ℕ). withdraws_itself later client (slice_get commands k)) h.made ∙ by_next (next_command script n client) refl
  where
    commands : List Command
    commands = commands_of script client

    named : (command : Command) → next_command script n client ≡ Some command → HasTargets script.sets script.clients client command
    named command e =
        targets_of script client command good
        (subst (Contains commands) (get_or_from_slice_get commands (n.made client) command command e)
        (Contains-get_or commands (n.made client) command (slice_get_within commands (n.made client) command e)))

    by_next : (o : Option Command) → next_command script n client ≡ o → withdraws_itself later client o ≡ withdraws_itself n client o
    by_next None e = refl
    by_next (Some (Lock s mode)) e = refl
    by_next (Some (Try s mode)) e = refl
    by_next (Some (Unlock s mode)) e = refl
    by_next (Some (Change s gives_up mode)) e = refl
    by_next (Some (DropAll other s)) e = refl
    by_next (Some (Withdraw other s)) e = ap (λ (b : Bool). other == client && b) (h.in_each s (named (Withdraw other s) e).0)

same_turn : (script : ScriptData) (n later : NodeState) (client : ℕ) → IsScript script → SameClient script n later client
    → turn_at script later client ≡ turn_at script n client
same_turn script n later client good h =
    ap (λ (made : ℕ). if is_free_at script later client && nat_lt made (length (commands_of script client)) then Some made else None) h.made
    ∙ ap (λ (free : Bool). if free && has_command script n client then Some (n.made client) else None)
    (ap₂ (λ (waiting withdraws : Bool). not waiting || withdraws) h.in_some (same_withdraw script n later client good h))

-- after a run the asks of a node are known before each later move of it
known_after : (script : ScriptData) (run : List Logged) (q : ℕ) (stamp : Stamp) → IsScript script → IsRun script run → q < script.nodes → stamp.node ≡ q
    → ((world_after script run).node q).clock < stamp.clock → EachAsksKnown script stamp ((world_after script run).node q)
known_after script run q stamp good is_run below own later = λ s within.
    let w = world_after script run in
    let kept : WorldInvariant script w = subst (λ (r : List Logged). WorldInvariant script (world_after script r)) (whole_run run) (kept_in_runs script run (whole script good) is_run (length run)) in
    known_where_sound (numbers_of script) (w.node q).clock stamp ((w.node q).set s)
    (subst (λ (x : ℕ). SoundSet (numbers_of script) x false false (w.node q).clock ((w.node q).set s)) (sym own) ((kept.sets s within).states q below)) later

-- a move leaves a client that it doesn't name as it was
pub same_client : (script : ScriptData) (run : List Logged) (q c : ℕ) (step : Step) → IsScript script → IsRun script run
    → IsTrue (is_enabled script (world_after script run) q step) → length run + 1 < 2 ^ 62 → step ≢ Act c
    → AreOfOthers c (node_move script (world_after script run) q step).events
    → SameClient script ((world_after script run).node q) (node_move script (world_after script run) q step).node c
same_client script run q c (Act client) good is_run enabled few other lines =
    let n = (world_after script run).node q in
    waiting_in_acts script q client c n
    (known_after script run q (act_stamp q n) good is_run (moves_inside script (world_after script run) q (Act client) good enabled) refl (omega arith))
    (λ e. other (ap Act (sym e))) lines
same_client script run q c (Take p) good is_run enabled few other lines = by_mail (w.mail p q) refl lines
  where
    w : World
    w = world_after script run

    by_mail : (letters : List Letter) → w.mail p q ≡ letters → AreOfOthers c (take_front q (w.node q) letters).events
        → SameClient script (w.node q) (take_front q (w.node q) letters).node c
    by_mail [] e lines = record { in_each = λ s within. refl; in_some = refl; made = refl }
    by_mail (letter ∷ rest) e lines =
        waiting_in_node_takes script (numbers_of script) q c letter (w.node q)
        (known_after script run q (take_stamp q (w.node q) letter) good is_run (moves_inside script w q (Take p) good enabled) refl (omega arith))
        (and_parts _ _ (front_fits script run q p letter rest good is_run enabled few e)).1 lines

node_after : (script : ScriptData) (w : World) (q : ℕ) (step : Step) → (after script w q step).node ≡ put w.node q (node_move script w q step).node
node_after script w q (Act client) = refl
node_after script w q (Take p) = refl

-- and so its turn
turn_kept : (script : ScriptData) (w : World) (q c : ℕ) (step : Step) → IsScript script → SameClient script (w.node q) (node_move script w q step).node c
    → turn_of script (after script w q step) c ≡ turn_of script w c
turn_kept script w q c step good same =
    ap (λ (node : ℕ → NodeState). turn_at script (node (home script c)) c) (node_after script w q step)
    ∙ elim (cases_eq (home script c) q) [
      | inl here ↦ subst (λ (h : ℕ). turn_at script (put w.node q moved h) c ≡ turn_at script (w.node h) c) (sym here)
          (ap (λ (n : NodeState). turn_at script n c) (put-same w.node q moved) ∙ same_turn script (w.node q) moved c good same)
      | inr there ↦ ap (λ (n : NodeState). turn_at script n c) (put-other w.node q moved (home script c) there)
    ]
  where
    moved : NodeState
    moved = (node_move script w q step).node

at_end : (run : List Logged) (entry : Logged) → slice_get (run ++ entry ∷ []) (length run) ≡ Some entry
at_end [] entry = refl
at_end (first ∷ rest) entry = at_end rest entry

lines_of_last : (run : List Logged) (entry : Logged) → lines_of_last_move (run ++ entry ∷ []) ≡ entry.events
lines_of_last run entry =
    let place : length (run ++ entry ∷ []) - 1 ≡ length run = omega (arith, length_push run entry) in
    ap (λ (k : ℕ). unwrap_or (option_map (λ (e : Logged). e.events) (slice_get (run ++ entry ∷ []) k)) []) place
    ∙ ap (λ (o : Option Logged). unwrap_or (option_map (λ (e : Logged). e.events) o) []) (at_end run entry)

-- so after a move each client that it doesn't name has its turn
pub others_stand : (script : ScriptData) (run run' : List Logged) (q : ℕ) (step : Step) (turns : List (Option ℕ)) → IsScript script → IsRun script run
    → IsTrue (is_enabled script (world_after script run) q step) → length run + 1 < 2 ^ 62
    → AreTurns script turns (world_after script run) → run' ≡ run_with script run q step
    → OthersStand script turns (world_after script run') step (lines_of_last_move run') 0
others_stand script run run' q step turns good is_run enabled few h longer =
    subst (λ (r : List Logged). OthersStand script turns (world_after script r) step (lines_of_last_move r) 0) (sym longer) stand
  where
    w : World
    w = world_after script run

    stand : OthersStand script turns (world_after script (run_with script run q step)) step (lines_of_last_move (run_with script run q step)) 0
    stand = λ c below other none.
        let lines : AreOfOthers c (node_move script w q step).events =
        subst (AreOfOthers c) (lines_of_last run (logged script w q step)) (λ k d within. none k d (omega arith) within) in
        h.turns_are c below
        ∙ (sym (turn_kept script w q c step good (same_client script run q c step good is_run enabled few other lines))
        ∙ ap (λ (v : World). turn_of script v c) (sym (longer_world script run q step)))
