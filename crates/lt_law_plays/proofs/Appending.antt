-- A client's next command where its list goes on.
use Rattle.std.proofs.Common.{◌≡◌, ℕ, zero, suc, ◌+◌, ◌<◌, List, [], ◌∷◌, ◌++◌, true, Option, Some, None, refl, sym, ap, arith, ◌∙◌, length, slice_get, Bool, false, subst, ◌≢◌, ◌≤◌, inl, inr, ltb-true, lt-ltb, eqb-true, ne_eqb, length-append, append-nil, ◌&&◌, ◌==◌, not, nat_lt, if◌then◌else◌, filter_map, ◌||◌}
use Rattle.std.proofs.lemmas.Bool.{and_parts, and_from, cases_eq}
use Rattle.std.specs.List.{cons_option}
use Rattle.std.proofs.lemmas.List.Elements.{filter_map-append}
use mathlib.Core.List.{IsPrefix}
use Rattle.lt_modes.specs.declared.stamp.Stamp.{Stamp}
use Rattle.lt_modes.specs.declared.command.Command.{Command}
use Rattle.lt_modes.specs.declared.command.Command.TheVariants.{Lock, Unlock, Try, Change, DropAll, Withdraw}
use Rattle.lt_modes.specs.Script.{ScriptData}
use Rattle.lt_modes.specs.declared.moves.Step.{Step}
use Rattle.lt_modes.specs.declared.moves.Step.TheVariants.{Act, Take}
use Rattle.lt_lists.specs.Below.{gather_below}
use Rattle.lt_spec.specs.NodeMove.{commands_of, NodeState, has_command, next_command, act_stamp, one_made, at_clock, obey, node_act, with_commands, command_if, home, NodeMade, node_waits, AnyClient, IsHomeAt, GoOn, AreAt, share_of, joined_of, is_free_at, withdraws_itself}
use Rattle.lt_spec.specs.World.{Logged, World, start, is_enabled, is_runnable, node_move, move_stamp, opened, after_made, after, after_run, IsRunFrom}
use Rattle.lt_spec.specs.Plays.{Cause, OfClient, OfLetter, can_make_move, made_of, stamp_of, cause_step, letters_for, Plays}
use Rattle.lt_law_plays.specs.AppendLaws.{PlaysGoOn, RunsGoOn, AppendedCommands, PlaysOfAppended, RunsOfAppended, PlaysSameAt, AreOwnCommands, ShareIsSame, SharedPlays, SharedCommands}

slice_get_front : {X : Type 0} (xs ys : List X) (k : ℕ) → k < length xs → slice_get (xs ++ ys) k ≡ slice_get xs k
slice_get_front [] ys k below = absurd (omega (arith, below))
slice_get_front (x ∷ xs) ys zero below = refl
slice_get_front (x ∷ xs) ys (suc k) below = slice_get_front xs ys k (omega (arith, below))

-- of the script a command reads the sets alone
obey-same : (script : ScriptData) (commands : List (ℕ × Command)) (stamp : Stamp) (client : ℕ) (o : Option Command) (n : NodeState)
    → obey (with_commands script commands) stamp client o n ≡ obey script stamp client o n
obey-same script commands stamp client None n = refl
obey-same script commands stamp client (Some (Lock s mode)) n = refl
obey-same script commands stamp client (Some (Try s mode)) n = refl
obey-same script commands stamp client (Some (Unlock s mode)) n = refl
obey-same script commands stamp client (Some (Change s gives_up mode)) n = refl
obey-same script commands stamp client (Some (DropAll other s)) n = refl
obey-same script commands stamp client (Some (Withdraw other s)) n = refl

-- the client has the same command to make, and what a node makes of it is the same
pub record MakesSame (script : ScriptData) (commands : List (ℕ × Command)) (n : NodeState) (client : ℕ) : Type 0 where
  pub has : has_command (with_commands script commands) n client ≡ true
  pub free : is_free_at script n client ≡ true → is_free_at (with_commands script commands) n client ≡ true
  pub made : (x : ℕ) → node_act (with_commands script commands) x client n ≡ node_act script x client n

pub makes_same : (script : ScriptData) (commands : List (ℕ × Command)) (n : NodeState) (client : ℕ)
    → IsPrefix (commands_of script client) (commands_of (with_commands script commands) client)
    → has_command script n client ≡ true → MakesSame script commands n client
makes_same script commands n client more has =
    let below : n.made client < length (commands_of script client) = ltb-true (n.made client) (length (commands_of script client)) has in
    let next : next_command (with_commands script commands) n client ≡ next_command script n client =
    ap (λ (list : List Command). slice_get list (n.made client)) (sym more.1) ∙ slice_get_front (commands_of script client) more.0 (n.made client) below in
    let count = ap (λ (list : List Command). length list) more.1 in
    record {
      has = lt-ltb (n.made client) (length (commands_of (with_commands script commands) client))
          (omega (arith, below, count, length-append (commands_of script client) more.0));
      free = λ may. ap (λ (o : Option Command). not (node_waits script n client) || withdraws_itself n client o) next ∙ may;
      made = λ x. ap (λ (o : Option Command). obey (with_commands script commands) (act_stamp x n) client o (one_made client (at_clock (n.clock + 1) n))) next
          ∙ obey-same script commands (act_stamp x n) client (next_command script n client) (one_made client (at_clock (n.clock + 1) n));
    }

-- Plays and runs where commands of clients go on.

-- the node can make the move, and makes the same of it
record IsSameMove (script : ScriptData) (commands : List (ℕ × Command)) (x : ℕ) (n : NodeState) (cause : Cause) : Type 0 where
  can : can_make_move (with_commands script commands) x n cause ≡ true
  made : made_of (with_commands script commands) x n cause ≡ made_of script x n cause

same_move : (script : ScriptData) (commands : List (ℕ × Command)) (x : ℕ) → GoOn (IsHomeAt script x) script commands
    → (n : NodeState) (cause : Cause) → can_make_move script x n cause ≡ true → IsSameMove script commands x n cause
same_move script commands x goes n (OfLetter p letter) can = record { can = can; made = refl }
same_move script commands x goes n (OfClient client) can =
    let known = and_parts (nat_lt client (length script.clients)) (home script client == x && (is_free_at script n client && has_command script n client)) can in
    let here = and_parts (home script client == x) (is_free_at script n client && has_command script n client) known.1 in
    let runs = and_parts (is_free_at script n client) (has_command script n client) here.1 in
    let same = makes_same script commands n client (goes client (eqb-true (home script client) x here.0)) runs.1 in
    record {
      can = and_from (nat_lt client (length script.clients)) _ known.0
          (and_from (home script client == x) _ here.0 (and_from (is_free_at (with_commands script commands) n client) _ (same.free runs.0) same.has));
      made = same.made x;
    }

pub plays_go_on : PlaysGoOn
plays_go_on script commands x goes [] n last used sent h = h
plays_go_on script commands x goes (entry ∷ rest) n last used sent h =
    let same = same_move script commands x goes n h.cause h.can in
    record {
      cause = h.cause;
      can = same.can;
      logged = h.logged ∙ ap (λ (made : NodeMade). record { made = record { stamp = stamp_of x n h.cause; step = cause_step h.cause }; events = made.events }) (sym same.made);
      left = h.left;
      later = h.later;
      uses = h.uses;
      sends = λ b. h.sends b ∙ ap (λ (made : NodeMade). letters_for b made.posts ++ h.later b) (sym same.made);
      goes_on = subst (λ (made : NodeMade). Plays (with_commands script commands) x made.node rest h.left h.later last) (sym same.made)
          (plays_go_on script commands x goes rest (made_of script x n h.cause).node last h.left h.later h.goes_on);
    }

-- the step is enabled, and makes the same
record IsSameStep (script : ScriptData) (commands : List (ℕ × Command)) (w : World) (q : ℕ) (step : Step) : Type 0 where
  enabled : is_enabled (with_commands script commands) w q step ≡ true
  made : node_move (with_commands script commands) w q step ≡ node_move script w q step

same_step : (script : ScriptData) (commands : List (ℕ × Command)) → GoOn AnyClient script commands
    → (w : World) (q : ℕ) (step : Step) → is_enabled script w q step ≡ true → IsSameStep script commands w q step
same_step script commands goes w q (Take p) enabled = record { enabled = enabled; made = refl }
same_step script commands goes w q (Act client) enabled =
    let n : NodeState = w.node (home script client) in
    let known = and_parts (nat_lt client (length script.clients)) (home script client == q && is_runnable script w client) enabled in
    let here = and_parts (home script client == q) (is_runnable script w client) known.1 in
    let runs = and_parts (is_free_at script n client) (has_command script n client) here.1 in
    let same = makes_same script commands n client (goes client tt) runs.1 in
    record {
      enabled = and_from (nat_lt client (length script.clients)) _ known.0
          (and_from (home script client == q) _ here.0 (and_from (is_free_at (with_commands script commands) n client) _ (same.free runs.0) same.has));
      made = subst (λ (x : ℕ). node_act (with_commands script commands) q client (w.node x) ≡ node_act script q client (w.node x))
          (eqb-true (home script client) q here.0) (same.made q);
    }

runs_from : (script : ScriptData) (commands : List (ℕ × Command)) → GoOn AnyClient script commands
    → (run : List Logged) (w : World) → IsRunFrom script w run
    → IsRunFrom (with_commands script commands) w run × (after_run (with_commands script commands) w run ≡ after_run script w run)
runs_from script commands goes [] w h = (tt, refl)
runs_from script commands goes (entry ∷ rest) w h =
    let q = entry.made.stamp.node in
    let step = entry.made.step in
    let same = same_step script commands goes w q step h.0.enabled in
    let there : after (with_commands script commands) w q step ≡ after script w q step =
    ap (λ (made : NodeMade). after_made q made (opened w q step)) same.made in
    let more = runs_from script commands goes rest (after script w q step) h.1 in (
      (
        record {
          enabled = same.enabled;
          made = h.0.made ∙ ap (λ (made : NodeMade). record { made = record { stamp = move_stamp w q step; step = step }; events = made.events }) (sym same.made);
        },
        subst (λ (v : World). IsRunFrom (with_commands script commands) v rest) (sym there) more.0,
      ),
      ap (λ (v : World). after_run (with_commands script commands) v rest) there ∙ more.1,
    )

pub runs_go_on : RunsGoOn
runs_go_on script commands goes run h = runs_from script commands goes run (start script) h

pub appended_commands : AppendedCommands
appended_commands script client other command =
    filter_map-append (command_if other) script.commands ((client, command) ∷ [])
    ∙ ap (λ (list : List Command). commands_of script other ++ list) (by_test (client == other))
  where
    by_test : (t : Bool) → cons_option (if t then Some command else None) [] ≡ (if t then command ∷ [] else [])
    by_test true = refl
    by_test false = refl

appended_goes : (script : ScriptData) (client : ℕ) (command : Command) (pass : ℕ → Type 0)
    → GoOn pass script (script.commands ++ (client, command) ∷ [])
appended_goes script client command pass other passes =
    ((if client == other then command ∷ [] else []), sym (appended_commands script client other command))

pub plays_of_appended : PlaysOfAppended
plays_of_appended script client command x log n last used sent h =
    plays_go_on script (script.commands ++ (client, command) ∷ []) x (appended_goes script client command (IsHomeAt script x)) log n last used sent h

pub runs_of_appended : RunsOfAppended
runs_of_appended script client command run h =
    runs_go_on script (script.commands ++ (client, command) ∷ []) (appended_goes script client command AnyClient) run h

-- Scripts in which a node sees the same.

pub plays_same_at : PlaysSameAt
plays_same_at x a b same log n last used sent h =
    let goes : GoOn (IsHomeAt a x) a b.commands = λ client at. ([], append-nil (commands_of a client) ∙ sym (same.own client at)) in
    subst (λ (s : ScriptData). Plays s x n log used sent last) (sym same.rest) (plays_go_on a b.commands x goes log n last used sent h)

-- no command of these is one of the client, which is of another node
not_here : (script : ScriptData) (q client : ℕ) (commands : List (ℕ × Command)) → AreAt script q commands → home script client ≢ q
    → filter_map (command_if client) commands ≡ []
not_here script q client [] h apart = refl
not_here script q client (request ∷ rest) h apart =
    ap (λ (t : Bool). cons_option (if t then Some request.1 else None) (filter_map (command_if client) rest))
    (ne_eqb request.0 client (λ e. apart (ap (home script) (sym e) ∙ h.0)))
    ∙ not_here script q client rest h.1 apart

-- no command of the first n nodes is one of a client of a later node
none_before : (script : ScriptData) (shares : ℕ → List (ℕ × Command)) (client n : ℕ) → ((q : ℕ) → q < n → AreAt script q (shares q))
    → n ≤ home script client → filter_map (command_if client) (gather_below n shares) ≡ []
none_before script shares client zero h past = refl
none_before script shares client (suc n) h past =
    filter_map-append (command_if client) (gather_below n shares) (shares n)
    ∙ (ap (λ (list : List Command). list ++ filter_map (command_if client) (shares n))
    (none_before script shares client n (λ q below. h q (omega (arith, below))) (omega (arith, past)))
    ∙ not_here script n client (shares n) (h n (omega arith)) (λ e. absurd (omega (arith, e, past))))

-- and of theirs a client has those that its own node appended
own_below : (script : ScriptData) (shares : ℕ → List (ℕ × Command)) (client n : ℕ) → ((q : ℕ) → q < n → AreAt script q (shares q))
    → home script client < n
    → filter_map (command_if client) (gather_below n shares) ≡ filter_map (command_if client) (shares (home script client))
own_below script shares client zero h below = absurd (omega (arith, below))
own_below script shares client (suc n) h below =
    filter_map-append (command_if client) (gather_below n shares) (shares n)
    ∙ elim (cases_eq (home script client) n) [
      | inl e ↦ ap (λ (list : List Command). list ++ filter_map (command_if client) (shares n))
          (none_before script shares client n (λ q less. h q (omega (arith, less))) (omega (arith, e)))
          ∙ ap (λ (q : ℕ). filter_map (command_if client) (shares q)) (sym e)
      | inr d ↦ ap (λ (list : List Command). filter_map (command_if client) (gather_below n shares) ++ list)
          (not_here script n client (shares n) (h n (omega arith)) d)
          ∙ (append-nil (filter_map (command_if client) (gather_below n shares))
          ∙ own_below script shares client n (λ q less. h q (omega (arith, less))) (omega (arith, below, d)))
    ]

own_of_joined : (script : ScriptData) (shares : ℕ → List (ℕ × Command)) → AreOwnCommands script shares
    → (q client : ℕ) → q < script.nodes → home script client ≡ q
    → commands_of (joined_of script shares) client ≡ commands_of (share_of script shares q) client
own_of_joined script shares are q client below at =
    filter_map-append (command_if client) script.commands (gather_below script.nodes shares)
    ∙ (ap (λ (list : List Command). commands_of script client ++ list)
    (own_below script shares client script.nodes are (omega (arith, at, below)) ∙ ap (λ (x : ℕ). filter_map (command_if client) (shares x)) at)
    ∙ sym (filter_map-append (command_if client) script.commands (shares q)))

pub share_is_same : ShareIsSame
share_is_same script shares are q below = record { rest = refl; own = λ client at. own_of_joined script shares are q client below at }

pub shared_plays : SharedPlays
shared_plays script shares are x below log n last used sent h =
    plays_same_at x (share_of script shares x) (joined_of script shares) (share_is_same script shares are x below) log n last used sent h

pub shared_commands : SharedCommands
shared_commands script shares are client below = own_of_joined script shares are (home script client) client below refl
