-- In a run a client makes no more commands than it has.
use Rattle.lt_model.proofs.Voids.{withdraws_ways}
use Rattle.std.proofs.Common.{◌≡◌, ℕ, ◌+◌, ◌<◌, ◌≤◌, inl, inr, Bool, true, false, List, [], ◌∷◌, length, Option, Some, None, refl, arith, ap, sym, subst, ◌∙◌, ◌≢◌, ◌++◌, ◌==◌, ◌&&◌, not, nat_lt, IsTrue, ◌⊎◌, if◌then◌else◌, AllPairs, Contains, eqb-true, ltb-true}
use Rattle.std.proofs.lemmas.Bool.{cases_eq, and_parts}
use Rattle.std.proofs.lemmas.List.Elements.{All-contains}
use Rattle.lt_modes.specs.declared.stamp.Stamp.{Stamp}
use Rattle.lt_modes.specs.declared.command.Command.{Command}
use Rattle.lt_modes.specs.declared.command.Command.TheVariants.{Lock, Unlock, Try, Change, DropAll, Withdraw}
use Rattle.lt_modes.specs.declared.moves.Step.{Step}
use Rattle.lt_modes.specs.declared.moves.Step.TheVariants.{Act, Take}
use Rattle.lt_modes.specs.Script.{ScriptData}
use Rattle.lt_modes.specs.State.{SetState, Letter, Made, Desk, Body, AskBody, TellBody, CopyBody, TokenBody, FreezeBody, ParkedAsk, ParkedTell, first_state}
use Rattle.lt_modes.specs.SetMove.{finish, drop, ask_of, dropped, lock, try, unlock, change, withdraw, withdrawn}
use Rattle.lt_modes.specs.Routing.{learn}
use Rattle.lt_modes.specs.Telling.{tell_of}
use Rattle.lt_modes.specs.Taking.{take_body, take as take_letter}
use Rattle.lt_modes.specs.declared.parts.Row.{Row}
use Rattle.lt_modes.specs.Modes.{held_modes}
use Rattle.lt_modes.specs.Serving.{ask_at, serve_local, serve_copy, is_gone, answered}
use Rattle.lt_modes.specs.HandingOver.{hand_over_to}
use Rattle.lt_modes.specs.Freezing.{freeze_at}
use Rattle.lt_lists.specs.Below.{put}
use Rattle.lt_lists.proofs.Puts.{put-same, put-other}
use Rattle.lt_spec.specs.NodeMove.{commands_of, home, related, NodeState, node_waits, touched, each_touched, drop_all, obey, has_command, next_command, act_stamp, at_clock, one_made, take_stamp, IsWhole}
use Rattle.lt_spec.specs.World.{Logged, World, start, is_waiting, is_runnable, is_enabled, take_front, node_move, after, after_run, IsRun, IsRunFrom, is_free_to_act}
use Rattle.lt_spec.specs.Facts.{state_at}
use Rattle.lt_model.proofs.NodeEffects.{after_node}
use Rattle.lt_model.specs.Invariant.{WorldInvariant}
use Rattle.lt_model.proofs.PathsMove.{has_mail_parts}
use Rattle.lt_model.proofs.TryEffects.{Between, EndRules, ActRules, finish_rule, command_rules, take_rule}
use Rattle.lt_law_invariant.proofs.KeptHomes.{clipped, act_alike, take_alike}
use Rattle.lt_law_invariant.proofs.OwnSteps.{route_same}
use Rattle.lt_law_invariant.proofs.RowsApart.{Single, single_added, single_taken, single_dropped, single_answered, single_of, rows_apart}

each-made : (rule : ℕ → SetState → Made) (sets : List ℕ) (n : NodeState) (c : ℕ) → (each_touched rule sets n).node.made c ≡ n.made c
each-made rule [] n c = refl
each-made rule (s ∷ rest) n c = each-made rule rest (touched n s (rule s (n.set s))).node c

drop-made : (waiting : Bool) (stamp : Stamp) (client other s : ℕ) (sets : List ℕ) (n : NodeState) (c : ℕ)
    → (drop_all waiting stamp client other s sets n).node.made c ≡ n.made c
drop-made true stamp client other s sets n c = each-made (λ k. finish k stamp) sets n c
drop-made false stamp client other s sets n c = each-made (λ k. drop k stamp other) sets n c

-- what a command does to sets leaves the counts of commands
obey-made : (script : ScriptData) (stamp : Stamp) (client : ℕ) (command : Option Command) (n : NodeState) (c : ℕ)
    → (obey script stamp client command n).node.made c ≡ n.made c
obey-made script stamp client None n c = refl
obey-made script stamp client (Some (Lock s mode)) n c = refl
obey-made script stamp client (Some (Try s mode)) n c = refl
obey-made script stamp client (Some (Unlock s mode)) n c = refl
obey-made script stamp client (Some (Change s gives_up mode)) n c = refl
obey-made script stamp client (Some (Withdraw other s)) n c = refl
obey-made script stamp client (Some (DropAll other s)) n c =
    drop-made (node_waits script n other) stamp client other s (related script s) n c

-- no client made more commands than it has, as each node counts them
abbrev pub AreMade : ScriptData → World → Type 0
AreMade script w = (q c : ℕ) → (w.node q).made c ≤ length (commands_of script c)

abbrev IsMadeAt : ScriptData → NodeState → Type 0
IsMadeAt script n = (c : ℕ) → n.made c ≤ length (commands_of script c)

moved_made : (script : ScriptData) (w : World) (q : ℕ) (step : Step) → AreMade script w → IsTrue (is_enabled script w q step)
    → IsMadeAt script (node_move script w q step).node
moved_made script w q (Act client) h enabled c =
    let n = w.node q in
    let begun = one_made client (at_clock (n.clock + 1) n) in
    let stays = obey-made script (act_stamp q n) client (next_command script n client) begun c in
    let parts = and_parts (home script client == q) (is_runnable script w client) (and_parts (nat_lt client (length script.clients)) (home script client == q && is_runnable script w client) enabled).1 in
    let here = eqb-true (home script client) q parts.0 in
    let has : (w.node (home script client)).made client < length (commands_of script client) =
    ltb-true _ _ (and_parts (is_free_to_act script w client) (has_command script (w.node (home script client)) client) parts.1).1 in
    let left : n.made client < length (commands_of script client) =
    subst (λ (x : ℕ). (w.node x).made client < length (commands_of script client)) here has in
    elim (cases_eq c client) [
      | inl e ↦ omega (arith, stays, ap begun.made e, put-same n.made client (n.made client + 1), left, ap (λ (k : ℕ). length (commands_of script k)) e)
      | inr d ↦ omega (arith, stays, put-other n.made client (n.made client + 1) c d, h q c)
    ]
moved_made script w q (Take p) h enabled c = by_mail (w.mail p q)
  where
    by_mail : (letters : List Letter) → (take_front q (w.node q) letters).node.made c ≤ length (commands_of script c)
    by_mail [] = h q c
    by_mail (letter ∷ rest) = h q c

after_made : (script : ScriptData) (w : World) (q : ℕ) (step : Step) → AreMade script w → IsTrue (is_enabled script w q step)
    → AreMade script (after script w q step)
after_made script w q step h enabled x c =
    let m = (node_move script w q step).node in
    subst (λ (n : NodeState). n.made c ≤ length (commands_of script c)) (sym (after_node script w q step x))
    (elim (cases_eq x q) [
      | inl e ↦ subst (λ (n : NodeState). n.made c ≤ length (commands_of script c)) (sym (ap (put w.node q m) e ∙ put-same w.node q m))
          (moved_made script w q step h enabled c)
      | inr d ↦ subst (λ (n : NodeState). n.made c ≤ length (commands_of script c)) (sym (put-other w.node q m x d)) (h x c)
    ])

run_made : (script : ScriptData) (run : List Logged) (w : World) → AreMade script w → IsRunFrom script w run → AreMade script (after_run script w run)
run_made script [] w h is_run = h
run_made script (entry ∷ rest) w h is_run =
    let q = entry.made.stamp.node in
    run_made script rest (after script w q entry.made.step) (after_made script w q entry.made.step h is_run.0.enabled) is_run.1

pub made_in_runs : (script : ScriptData) (run : List Logged) → IsRun script run → AreMade script (after_run script (start script) run)
made_in_runs script run is_run = run_made script run (start script) (λ q c. omega arith) is_run

-- Rows of a node differ in client or mode, through each move.

abbrev stays_single : Between
stays_single t m = Single t.held → Single m.state.held

single_ends : (set : ℕ) (stamp : Stamp) → EndRules set stamp stays_single
single_ends set stamp = record {
  silent = λ t h. h;
  joined = λ t m rule first second h. second (first h);
  serves = λ t k within h. served t k h ((ask_at t k).node == stamp.node);
  freezes = λ t h. frozen t h t.desk;
  leaves = λ t v h. left t v h t.desk;
  tells = λ t h. subst Single (sym (route_same set stamp false (ParkedTell (tell_of stamp t)) (record t { charge = held_modes t.held })).1.held) h;
}
  where
    served : (t : SetState) (k : ℕ) → Single t.held → (own : Bool) → Single (if own then serve_local set k t else serve_copy set stamp k (ask_at t k) t).state.held
    served t k h true = by_gone (is_gone t (ask_at t k).client)
      where
        by_gone : (gone : Bool) → Single (if gone then t.held else answered t.held (ask_at t k))
        by_gone true = h
        by_gone false = single_answered t.held (ask_at t k).client (ask_at t k).mode (ask_at t k).gives_up h
    served t k h false = h

    frozen : (t : SetState) → Single t.held → (o : Option Desk) → Single (freeze_at set stamp t o).state.held
    frozen t h None = h
    frozen t h (Some desk) = h

    left : (t : SetState) (v : ℕ) → Single t.held → (o : Option Desk) → Single (hand_over_to set stamp t v o).state.held
    left t v h None = h
    left t v h (Some desk) = h

single_acts : (set : ℕ) (stamp : Stamp) (client : ℕ) → ActRules set stamp client stays_single
single_acts set stamp client = record {
  tries_not = λ mode t h. h;
  holds_not = λ mode t h. h;
  grants = λ mode t h. single_added t.held client mode h;
  tries = λ mode t h. single_added t.held client mode h;
  changes = λ gives_up mode t h. single_answered t.held client mode (Some gives_up) h;
  releases = λ mode t h. single_taken t.held client mode h;
  asks = λ mode gives_up t h. subst Single
      (sym (route_same set stamp false (ParkedAsk (ask_of stamp client mode gives_up t))
      (record t { pending = t.pending ++ ask_of stamp client mode gives_up t ∷ [] })).1.held) h;
  retakes = λ mode t h. h;
  withheld = λ mode t h. h;
  ended = λ t m a h. finish_rule set stamp stays_single (single_ends set stamp) m.state (a h);
}

single_take : (stamp : Stamp) (letter : Letter) (t : SetState) → stays_single t (take_letter stamp letter t)
single_take stamp letter t =
    take_rule stamp letter stays_single stays_single (λ u m a b h. b (a h)) (single_ends letter.set stamp) t
    (λ h. by_body letter.body (subst Single (sym (learnt (nat_lt t.firm.epoch letter.link.epoch))) h))
  where
    u : SetState
    u = learn letter.link t

    learnt : (newer : Bool) → (if newer then record t { firm = letter.link; hoped = None } else t).held ≡ t.held
    learnt true = refl
    learnt false = refl

    by_body : (body : Body) → Single u.held → Single (take_body letter.set stamp body u).state.held
    by_body (AskBody ask marked) h = subst Single (sym (route_same letter.set stamp marked (ParkedAsk ask) u).1.held) h
    by_body (TellBody tell) h = subst Single (sym (route_same letter.set stamp false (ParkedTell tell) u).1.held) h
    by_body (CopyBody ask) h = by_gone (is_gone u ask.client)
      where
        by_gone : (gone : Bool) → Single (if gone then u.held else answered u.held ask)
        by_gone true = h
        by_gone false = single_answered u.held ask.client ask.mode ask.gives_up h
    by_body (TokenBody desk) h = h
    by_body (FreezeBody number modes) h = by_test (nat_lt u.number number)
      where
        by_test : (newer : Bool) → Single (if newer then record u { frozen = modes; number = number } else u).held
        by_test true = h
        by_test false = h

-- so it is in all sets of a node
abbrev pub AllSingle : NodeState → Type 0
AllSingle n = (s : ℕ) → Single (n.set s).held

touched_single : (n : NodeState) (set : ℕ) (m : Made) → AllSingle n → Single m.state.held → AllSingle (touched n set m).node
touched_single n set m h own s = elim (cases_eq s set) [
  | inl e ↦ subst (λ (k : ℕ). Single (put n.set set m.state k).held) (sym e) (subst (λ (t : SetState). Single t.held) (sym (put-same n.set set m.state)) own)
  | inr d ↦ subst (λ (t : SetState). Single t.held) (sym (put-other n.set set m.state s d)) (h s)
]

each_single : (rule : ℕ → SetState → Made) → ((set : ℕ) (t : SetState) → stays_single t (rule set t)) → (sets : List ℕ) (n : NodeState) → AllSingle n
    → AllSingle (each_touched rule sets n).node
each_single rule each [] n h = h
each_single rule each (set ∷ rest) n h =
    each_single rule each rest (touched n set (rule set (n.set set))).node (touched_single n set (rule set (n.set set)) h (each set (n.set set) (h set)))

obey_single : (script : ScriptData) (stamp : Stamp) (client : ℕ) (command : Option Command) (n : NodeState) → AllSingle n
    → AllSingle (obey script stamp client command n).node
obey_single script stamp client None n h = h
obey_single script stamp client (Some (Lock s mode)) n h =
    touched_single n s (lock s stamp client mode (n.set s)) h
    ((command_rules s stamp client stays_single (single_acts s stamp client)).locks mode (n.set s) (h s))
obey_single script stamp client (Some (Try s mode)) n h =
    touched_single n s (try s stamp client mode (n.set s)) h
    ((command_rules s stamp client stays_single (single_acts s stamp client)).tries mode (n.set s) (h s))
obey_single script stamp client (Some (Unlock s mode)) n h =
    touched_single n s (unlock s stamp client mode (n.set s)) h
    ((command_rules s stamp client stays_single (single_acts s stamp client)).unlocks mode (n.set s) (h s))
obey_single script stamp client (Some (Change s gives_up mode)) n h =
    touched_single n s (change s stamp client gives_up mode (n.set s)) h
    ((command_rules s stamp client stays_single (single_acts s stamp client)).changes gives_up mode (n.set s) (h s))
obey_single script stamp client (Some (Withdraw other s)) n h =
    touched_single n s (withdraw s stamp client other (n.set s)) h
    (finish_rule s stamp stays_single (single_ends s stamp) (withdrawn s client other (n.set s)).state
    (withdraws_ways (λ (m : Made). Single m.state.held) s client other (n.set s) (λ waiting. h s) (λ idle. h s)))
obey_single script stamp client (Some (DropAll other s)) n h = by_waits (node_waits script n other)
  where
    by_waits : (waiting : Bool) → AllSingle (drop_all waiting stamp client other s (related script s) n).node
    by_waits true = each_single (λ k. finish k stamp) (λ k t. finish_rule k stamp stays_single (single_ends k stamp) t) (related script s) n h
    by_waits false =
        each_single (λ k. drop k stamp other)
        (λ k t g. finish_rule k stamp stays_single (single_ends k stamp) (dropped other t) (single_dropped t.held other g)) (related script s) n h

clipped_single : (script : ScriptData) (n : NodeState) → ((s : ℕ) → s < length script.sets → Single (n.set s).held) → AllSingle (clipped script n)
clipped_single script n h s = by_test (nat_lt s (length script.sets)) refl
  where
    by_test : (own : Bool) → nat_lt s (length script.sets) ≡ own → Single (if own then n.set s else first_state 0 1).held
    by_test true e = h s (ltb-true s (length script.sets) e)
    by_test false e = λ c m. omega arith

-- the rows that the mover keeps for the sets of the script
pub move_single : (script : ScriptData) (w : World) (q : ℕ) (step : Step) → IsWhole script
    → ((p : ℕ) (letter : Letter) → p < script.nodes → Contains (w.mail p q) letter → letter.set < length script.sets)
    → ((s : ℕ) → s < length script.sets → Single (state_at w s q).held) → IsTrue (is_enabled script w q step)
    → (s : ℕ) → s < length script.sets → Single ((node_move script w q step).node.set s).held
move_single script w q (Act client) whole in_sets h enabled s below =
    let n = clipped script (w.node q) in
    subst (λ (t : SetState). Single t.held) ((act_alike script q client (w.node q) whole).node s below)
    (obey_single script (act_stamp q n) client (next_command script n client) (one_made client (at_clock (n.clock + 1) n)) (clipped_single script (w.node q) h) s)
move_single script w q (Take p) whole in_sets h enabled s below =
    by_letters (w.mail p q) (λ letter there. in_sets p letter (has_mail_parts script w p q enabled).sender there)
  where
    n : NodeState
    n = clipped script (w.node q)

    by_letters : (letters : List Letter) → ((letter : Letter) → Contains letters letter → letter.set < length script.sets)
        → Single ((take_front q (w.node q) letters).node.set s).held
    by_letters [] each = h s below
    by_letters (letter ∷ rest) each =
        subst (λ (t : SetState). Single t.held) ((take_alike script q letter (w.node q) (each letter (0, omega arith, refl))).node s below)
        (touched_single (at_clock (take_stamp q n letter).clock n) letter.set (take_letter (take_stamp q n letter) letter (n.set letter.set))
        (clipped_single script (w.node q) h)
        (single_take (take_stamp q n letter) letter (n.set letter.set) (clipped_single script (w.node q) h letter.set)) s)

-- rows of one client and mode stay one row
pub rows_stay_apart : (script : ScriptData) (w : World) (q : ℕ) (step : Step) → IsWhole script → WorldInvariant script w → IsTrue (is_enabled script w q step)
    → (x s : ℕ) → x < script.nodes → s < length script.sets
    → AllPairs (λ (a b : Row). (a.client ≢ b.client) ⊎ (a.mode ≢ b.mode)) (state_at (after script w q step) s x).held
rows_stay_apart script w q step whole h enabled x s below under =
    rows_apart (state_at (after script w q step) s x).held
    (subst (λ (n : NodeState). Single (n.set s).held) (sym (after_node script w q step x)) (by_node (cases_eq x q)))
  where
    before : (k : ℕ) → k < length script.sets → Single (state_at w k x).held
    before k in_sets = single_of (state_at w k x).held ((h.sets k in_sets).states x below).rows_apart

    by_node : (x ≡ q) ⊎ (x ≢ q) → Single ((put w.node q (node_move script w q step).node x).set s).held
    by_node (inr d) = subst (λ (n : NodeState). Single (n.set s).held) (sym (put-other w.node q (node_move script w q step).node x d)) (before s under)
    by_node (inl e) =
        subst (λ (n : NodeState). Single (n.set s).held)
        (sym (ap (put w.node q (node_move script w q step).node) e ∙ put-same w.node q (node_move script w q step).node))
        (move_single script w q step whole
        (λ p letter hp there. All-contains (λ (l : Letter). l.set < length script.sets) (w.mail p q) letter
        (h.letters p q hp (subst (λ (y : ℕ). y < script.nodes) e below)) there)
        (λ k in_sets. subst (λ (y : ℕ). Single (state_at w k y).held) e (before k in_sets)) enabled s under)
