-- Each enabled move leaves locks and asks at home, and its lines name what is of the script.
use Rattle.std.proofs.Common.{◌≡◌, ℕ, zero, suc, ◌+◌, ◌<◌, ◌≤◌, inl, inr, List, [], ◌∷◌, length, Option, Some, None, Bool, true, false, refl, sym, subst, arith, ◌∙◌, take as take_first, ◌==◌, nat_lt, if◌then◌else◌, filter_map, slice_get, Contains, IsTrue, eqb-true, ltb-true}
use Rattle.std.specs.List.{AllByRecursion}
use Rattle.std.proofs.lemmas.Bool.{and_parts, cases_eq}
use Rattle.std.proofs.lemmas.List.Elements.{All-nil, recursion_from_All}
use Rattle.lt_modes.specs.declared.stamp.Stamp.{Stamp}
use Rattle.lt_modes.specs.declared.command.Command.{Command}
use Rattle.lt_modes.specs.declared.command.Command.TheVariants.{Lock, Unlock, Try, Change, DropAll, Withdraw}
use Rattle.lt_modes.specs.declared.moves.Step.{Step}
use Rattle.lt_modes.specs.declared.moves.Step.TheVariants.{Act, Take}
use Rattle.lt_modes.specs.Freezing.{cons_if, places_from}
use Rattle.lt_modes.specs.Script.{ScriptData, SetData}
use Rattle.lt_modes.specs.State.{SetState, Letter, first_state, first_desk, Made, Post}
use Rattle.lt_modes.specs.SetMove.{finish, drop, withdraw}
use Rattle.lt_modes.specs.Taking.{take}
use Rattle.lt_lists.specs.Below.{put}
use Rattle.lt_spec.specs.NodeMove.{command_if, commands_of, home, family, related, NodeState, NodeMade, node_waits, next_command, touched, each_touched, drop_all, locks_in_sets, act_stamp, take_stamp, at_clock, one_made, obey, node_act, node_take, HasTargetsAt, IsWhole}
use Rattle.lt_spec.specs.World.{Logged, World, start, is_some_letter, is_enabled, opened, take_front, node_move, after, after_run, IsRunFrom}
use Rattle.lt_model.specs.Homes.{IsStateAtHome, IsLetterAtHome, Homes, HomesKept, HomesInRuns}
use Rattle.lt_model.proofs.Letters.{all_sent, before_take}
use Rattle.lt_model.proofs.SentInMove.{AreSentIn, finish-sent, lock-sent, try-sent, unlock-sent, change-sent, drop-sent, take-sent, withdraw-sent}
use Rattle.lt_lists.proofs.AllLemmas.{all_append, all_weaker, all_both}
use Rattle.lt_lists.proofs.Members.{none_in}
use Rattle.lt_lists.proofs.Puts.{put-same, put-other}
use Rattle.lt_model.proofs.PathsMove.{has_mail_parts}
use Rattle.lt_model.proofs.ClocksGrow.{opened-node}
use Rattle.lt_model.proofs.TryEffects.{command_rules}
use Rattle.lt_model.proofs.HomesEffects.{home_acts, finish_home, drop_home, take_home, withdraw_home}
use Rattle.lt_model.proofs.HomesRows.{AreAtHome, MadeAtHome, at_home, said_both, said_nothing}

abbrev pub IsNodeAtHome : ScriptData → ℕ → NodeState → Type 0
IsNodeAtHome script q n = (s : ℕ) → IsStateAtHome script q (n.set s)

-- what a node made of its sets
pub record IsMoveAtHome (script : ScriptData) (bound q : ℕ) (made : NodeMade) : Type 0 where
  pub node : IsNodeAtHome script q made.node
  pub sets : AllByRecursion (λ (post : Post). post.letter.set < length script.sets) made.posts
  pub said : AreAtHome script bound made.posts made.events

touched_home : (script : ScriptData) (bound q set : ℕ) (stamp : Stamp) (n : NodeState) (m : Made) → set < length script.sets → AreSentIn set stamp m
    → IsNodeAtHome script q n → MadeAtHome script bound q m → IsMoveAtHome script bound q (touched n set m)
touched_home script bound q set stamp n m in_sets from h made = record {
  node = λ s. elim (cases_eq s set) [
    | inl e ↦ subst (λ (k : ℕ). IsStateAtHome script q (put n.set set m.state k)) (sym e)
        (subst (IsStateAtHome script q) (sym (put-same n.set set m.state)) made.state)
    | inr d ↦ subst (IsStateAtHome script q) (sym (put-other n.set set m.state s d)) (h s)
  ];
  sets = all_weaker _ _ (λ (post : Post) sent. omega (arith, sent.0, in_sets)) m.posts from;
  said = made.said;
}

each_home : (script : ScriptData) (bound q : ℕ) (stamp : Stamp) (rule : ℕ → SetState → Made) → ((set : ℕ) (t : SetState) → AreSentIn set stamp (rule set t))
    → ((set : ℕ) → set < length script.sets → (t : SetState) → at_home script bound q t (rule set t))
    → (sets : List ℕ) → AllByRecursion (λ set. set < length script.sets) sets → (n : NodeState) → IsNodeAtHome script q n
    → IsMoveAtHome script bound q (each_touched rule sets n)
each_home script bound q stamp rule from leads [] in_sets n h = record { node = h; sets = tt; said = said_nothing script bound }
each_home script bound q stamp rule from leads (set ∷ rest) in_sets n h =
    let m = rule set (n.set set) in
    let first = touched_home script bound q set stamp n m in_sets.0 (from set (n.set set)) h (leads set in_sets.0 (n.set set) (h set)) in
    let next = (touched n set m).node in
    let later = each_home script bound q stamp rule from leads rest in_sets.1 next first.node in
    record {
      node = later.node;
      sets = all_append _ m.posts (each_touched rule rest next).posts first.sets later.sets;
      said = said_both script bound m.posts (each_touched rule rest next).posts m.events (each_touched rule rest next).events first.said later.said;
    }

places_below : {X : Type 0} (test : ℕ → X → Bool) (k : ℕ) (xs : List X) → AllByRecursion (λ i. i < k + length xs) (places_from test k xs)
places_below test k [] = tt
places_below test k (x ∷ xs) =
    by_test (all_weaker _ _ (λ i h. omega (arith, h)) (places_from test (k + 1) xs) (places_below test (k + 1) xs)) (test k x)
  where
    by_test : AllByRecursion (λ i. i < k + length (x ∷ xs)) (places_from test (k + 1) xs) → (wanted : Bool)
        → AllByRecursion (λ i. i < k + length (x ∷ xs)) (cons_if wanted k (places_from test (k + 1) xs))
    by_test later true = (omega arith, later)
    by_test later false = later

-- the sets of a family are of the script
pub related_below : (script : ScriptData) (s : ℕ) → AllByRecursion (λ set. set < length script.sets) (related script s)
related_below script s =
    all_weaker _ _ (λ i h. omega (arith, h)) (related script s) (places_below (λ k (set : SetData). set.family == family script s) 0 script.sets)

-- how many locks the command drops, if no ask of their client is unanswered
abbrev pub drop_count : ScriptData → NodeState → Option Command → ℕ
drop_count script n None = 0
drop_count script n (Some (Lock s mode)) = 0
drop_count script n (Some (Try s mode)) = 0
drop_count script n (Some (Unlock s mode)) = 0
drop_count script n (Some (Change s gives_up mode)) = 0
drop_count script n (Some (DropAll other s)) = locks_in_sets n other (related script s)
drop_count script n (Some (Withdraw other s)) = 0

-- and how many the step drops
abbrev pub step_drops : ScriptData → World → ℕ → Step → ℕ
step_drops script w q (Act client) = drop_count script (w.node q) (next_command script (w.node q) client)
step_drops script w q (Take p) = 0

drop_all_home : (script : ScriptData) (bound : ℕ) (stamp : Stamp) (client other s : ℕ) (n : NodeState) (waiting : Bool)
    → client < length script.clients → other < length script.clients → s < length script.sets → stamp.node < script.nodes
    → IsNodeAtHome script stamp.node n → locks_in_sets n other (related script s) ≤ bound
    → IsMoveAtHome script bound stamp.node (drop_all waiting stamp client other s (related script s) n)
drop_all_home script bound stamp client other s n true known named in_sets in_nodes h few =
    let made = each_home script bound stamp.node stamp (λ k. finish k stamp) (λ k t. finish-sent k stamp t)
    (λ k in_script t. finish_home script bound k stamp in_script in_nodes t) (related script s) (related_below script s) n h in
    record {
      node = made.node;
      sets = made.sets;
      said = record { bodies = made.said.bodies; lines = λ within. ((known, named, in_sets), made.said.lines within) };
    }
drop_all_home script bound stamp client other s n false known named in_sets in_nodes h few =
    let made = each_home script bound stamp.node stamp (λ k. drop k stamp other) (λ k t. drop-sent k stamp other t)
    (λ k in_script t. drop_home script bound k stamp other in_script in_nodes t) (related script s) (related_below script s) n h in
    record {
      node = made.node;
      sets = made.sets;
      said = record { bodies = made.said.bodies; lines = λ within. ((known, named, in_sets, few), made.said.lines within) };
    }

-- a command that names what is of the script
obey_home : (script : ScriptData) (bound : ℕ) (stamp : Stamp) (client : ℕ) (command : Command) (n : NodeState) → client < length script.clients
    → home script client ≡ stamp.node → stamp.node < script.nodes → HasTargetsAt script client command → IsNodeAtHome script stamp.node n
    → drop_count script n (Some command) ≤ bound → IsMoveAtHome script bound stamp.node (obey script stamp client (Some command) n)
obey_home script bound stamp client (Lock s mode) n known own in_nodes targets h few =
    let rules = command_rules s stamp client _ (home_acts script bound s stamp client targets known own in_nodes) in
    touched_home script bound stamp.node s stamp n _ targets (lock-sent s stamp client mode (n.set s)) h (rules.locks mode (n.set s) (h s))
obey_home script bound stamp client (Try s mode) n known own in_nodes targets h few =
    let rules = command_rules s stamp client _ (home_acts script bound s stamp client targets known own in_nodes) in
    touched_home script bound stamp.node s stamp n _ targets (try-sent s stamp client mode (n.set s)) h (rules.tries mode (n.set s) (h s))
obey_home script bound stamp client (Unlock s mode) n known own in_nodes targets h few =
    let rules = command_rules s stamp client _ (home_acts script bound s stamp client targets known own in_nodes) in
    touched_home script bound stamp.node s stamp n _ targets (unlock-sent s stamp client mode (n.set s)) h (rules.unlocks mode (n.set s) (h s))
obey_home script bound stamp client (Change s gives_up mode) n known own in_nodes targets h few =
    let rules = command_rules s stamp client _ (home_acts script bound s stamp client targets known own in_nodes) in
    touched_home script bound stamp.node s stamp n _ targets (change-sent s stamp client gives_up mode (n.set s)) h
    (rules.changes gives_up mode (n.set s) (h s))
obey_home script bound stamp client (Withdraw other s) n known own in_nodes targets h few =
    touched_home script bound stamp.node s stamp n _ targets.0 (withdraw-sent s stamp client other (n.set s)) h
    (withdraw_home script bound s stamp client other targets.0 in_nodes known targets.1 (n.set s) (h s))
obey_home script bound stamp client (DropAll other s) n known own in_nodes targets h few =
    drop_all_home script bound stamp client other s n (node_waits script n other) known targets.1 targets.0 in_nodes h few

-- commands of the script

chosen_all : (script : ScriptData) (client : ℕ) (requests : List (ℕ × Command)) → AllByRecursion (λ (request : ℕ × Command). HasTargetsAt script request.0 request.1) requests
    → AllByRecursion (HasTargetsAt script client) (filter_map (command_if client) requests)
chosen_all script client [] h = tt
chosen_all script client (request ∷ rest) h = by_test (request.0 == client) refl (chosen_all script client rest h.1)
  where
    by_test : (own : Bool) → (request.0 == client) ≡ own → AllByRecursion (HasTargetsAt script client) (filter_map (command_if client) rest)
        → AllByRecursion (HasTargetsAt script client) (filter_map (command_if client) (request ∷ rest))
    by_test true e later = rw e (subst (λ (c : ℕ). HasTargetsAt script c request.1) (eqb-true request.0 client e) h.0, later)
    by_test false e later = rw e later

at_place : {X : Type 0} (P : X → Type 0) (xs : List X) (k : ℕ) (x : X) → AllByRecursion P xs → slice_get xs k ≡ Some x → P x
at_place P [] k x h e = cc
at_place P (y ∷ xs) zero x h e = subst P (same e) h.0
  where
    same : Some y ≡ Some x → y ≡ x
    same f = cc
at_place P (y ∷ xs) (suc k) x h e = at_place P xs k x h.1 e

pub next_targets : (script : ScriptData) (n : NodeState) (client : ℕ) (command : Command) → IsWhole script → next_command script n client ≡ Some command
    → HasTargetsAt script client command
next_targets script n client command whole e =
    at_place (HasTargetsAt script client) (commands_of script client) (n.made client) command
    (chosen_all script client script.commands (recursion_from_All _ script.commands whole.commands)) e

pub act_home : (script : ScriptData) (bound q client : ℕ) (n : NodeState) → IsWhole script → client < length script.clients → home script client ≡ q
    → IsNodeAtHome script q n → drop_count script n (next_command script n client) ≤ bound → IsMoveAtHome script bound q (node_act script q client n)
act_home script bound q client n whole known own h few = by_command (next_command script n client) refl few
  where
    by_command : (command : Option Command) → next_command script n client ≡ command → drop_count script n command ≤ bound
        → IsMoveAtHome script bound q (obey script (act_stamp q n) client command (one_made client (at_clock (n.clock + 1) n)))
    by_command None e room = record { node = h; sets = tt; said = said_nothing script bound }
    by_command (Some command) e room =
        obey_home script bound (act_stamp q n) client command (one_made client (at_clock (n.clock + 1) n)) known own
        (subst (λ (x : ℕ). x < script.nodes) own (whole.homes client known)) (next_targets script n client command whole e) h room

pub letter_home : (script : ScriptData) (bound q : ℕ) (letter : Letter) (n : NodeState) → q < script.nodes → IsLetterAtHome script q letter
    → IsNodeAtHome script q n → IsMoveAtHome script bound q (node_take q letter n)
letter_home script bound q letter n in_nodes own h =
    let stamp = take_stamp q n letter in
    touched_home script bound q letter.set stamp (at_clock stamp.clock n) (take stamp letter (n.set letter.set)) own.set
    (take-sent stamp letter (n.set letter.set)) h
    (take_home script bound stamp letter own.set own.body in_nodes (n.set letter.set) (h letter.set))

-- who makes an enabled step
pub record IsMaker (script : ScriptData) (q client : ℕ) : Type 0 where
  pub known : client < length script.clients
  pub own : home script client ≡ q

pub maker : (script : ScriptData) (w : World) (q client : ℕ) → IsTrue (is_enabled script w q (Act client)) → IsMaker script q client
maker script w q client enabled =
    let first = and_parts (nat_lt client (length script.clients)) _ enabled in
    let second = and_parts (home script client == q) _ first.1 in
    record { known = ltb-true client (length script.clients) first.0; own = eqb-true (home script client) q second.0 }

-- a move of the world
pub step_home : (script : ScriptData) (w : World) (bound q : ℕ) (step : Step) → IsWhole script → Homes script w
    → IsTrue (is_enabled script w q step) → step_drops script w q step ≤ bound → IsMoveAtHome script bound q (node_move script w q step)
step_home script w bound q (Act client) whole h enabled few =
    let own = maker script w q client enabled in
    act_home script bound q client (w.node q) whole own.known own.own (h.states q) few
step_home script w bound q (Take p) whole h enabled few =
    let is_there = has_mail_parts script w p q enabled in
    by_letters (w.mail p q) is_there.letter is_there.receiver (λ letter on. h.letters p q letter on)
  where
    by_letters : (letters : List Letter) → is_some_letter letters ≡ true → q < script.nodes
        → ((letter : Letter) → Contains letters letter → IsLetterAtHome script q letter) → IsMoveAtHome script bound q (take_front q (w.node q) letters)
    by_letters [] e below each = cc
    by_letters (letter ∷ rest) e below each = letter_home script bound q letter (w.node q) below (each letter (0, omega arith, refl)) (h.states q)

open_home : (script : ScriptData) (w : World) (q : ℕ) (step : Step) (a b : ℕ) (letter : Letter) → Contains ((opened w q step).mail a b) letter
    → Contains (w.mail a b) letter
open_home script w q (Act client) a b letter h = h
open_home script w q (Take p) a b letter h = before_take w.mail p q a b letter h

after_home : (script : ScriptData) (w : World) (bound q : ℕ) (step : Step) → Homes script w → IsMoveAtHome script bound q (node_move script w q step)
    → Homes script (after script w q step)
after_home script w bound q step h made = record {
  states = λ x s. elim (cases_eq x q) [
    | inl e ↦ subst (λ (y : ℕ). IsStateAtHome script y ((later.node y).set s)) (sym e)
        (subst (λ (n : NodeState). IsStateAtHome script q (n.set s)) (sym (put-same (opened w q step).node q (node_move script w q step).node)) (made.node s))
    | inr d ↦ subst (λ (n : NodeState). IsStateAtHome script x (n.set s))
        (sym (put-other (opened w q step).node q (node_move script w q step).node x d ∙ opened-node w q step x)) (h.states x s)
  ];
  letters = all_sent (λ a b l. IsLetterAtHome script b l) q (node_move script w q step).posts (opened w q step).mail
      (λ a b l old. h.letters a b l (open_home script w q step a b l old))
      (all_weaker _ _ (λ (post : Post) both. record { set = both.0; body = both.1 }) (node_move script w q step).posts
      (all_both _ _ (node_move script w q step).posts made.sets made.said.bodies));
}
  where
    later : World
    later = after script w q step

pub homes_kept : HomesKept
homes_kept script w whole h q step enabled =
    after_home script w (step_drops script w q step) q step h (step_home script w (step_drops script w q step) q step whole h enabled (omega arith))

pub homes_start : (script : ScriptData) → Homes script (start script)
homes_start script = record {
  states = λ x s. by_test x (x == 0);
  letters = λ p q letter on. none_in letter on;
}
  where
    by_test : (x : ℕ) (here : Bool) → IsStateAtHome script x (record (first_state script.nodes x) { desk = if here then Some (first_desk script.nodes) else None })
    by_test x true = record { rows = All-nil _; pending = All-nil _; parked = All-nil _; queue = All-nil _ }
    by_test x false = record { rows = All-nil _; pending = All-nil _; parked = All-nil _; queue = All-nil _ }

run_home : (script : ScriptData) (run : List Logged) (w : World) → IsWhole script → Homes script w → IsRunFrom script w run
    → (k : ℕ) → Homes script (after_run script w (take_first k run))
run_home script run w whole h is_run zero = h
run_home script [] w whole h is_run (suc k) = h
run_home script (entry ∷ rest) w whole h is_run (suc k) =
    let q = entry.made.stamp.node in
    run_home script rest (after script w q entry.made.step) whole (homes_kept script w whole h q entry.made.step is_run.0.enabled) is_run.1 k

pub homes_in_runs : HomesInRuns
homes_in_runs script run whole is_run k = run_home script run (start script) whole (homes_start script) is_run k
