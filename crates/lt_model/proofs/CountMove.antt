-- The lines of a run add no more locks than there are moves, and no more locks are held than lines added.
use Rattle.std.proofs.Common.{◌≡◌, ℕ, suc, ◌+◌, ◌<◌, ◌≤◌, List, [], ◌∷◌, length, Option, Some, None, Bool, true, false, refl, ap, arith, ◌==◌, if◌then◌else◌, sum_by, drop as drop_rest}
use Rattle.std.specs.List.{AllByRecursion}
use Rattle.std.proofs.lemmas.List.Sums.{sum_by-append, sum_by-cons, sum_by-le-sum_by}
use Rattle.lt_modes.specs.declared.stamp.Stamp.{Stamp}
use Rattle.lt_modes.specs.declared.command.Command.{Command}
use Rattle.lt_modes.specs.declared.command.Command.TheVariants.{Lock, Unlock, Try, Change, DropAll, Withdraw}
use Rattle.lt_modes.specs.declared.moves.Step.{Step}
use Rattle.lt_modes.specs.declared.moves.Step.TheVariants.{Act, Take}
use Rattle.lt_modes.specs.declared.event.Event.{Event}
use Rattle.lt_modes.specs.Modes.{is_of, locks_in, locks_of}
use Rattle.lt_modes.specs.Freezing.{cons_if, places_from}
use Rattle.lt_modes.specs.Script.{ScriptData, SetData}
use Rattle.lt_modes.specs.State.{SetState, Letter, first_desk, first_state, Made, Post}
use Rattle.lt_modes.specs.SetMove.{finish, drop}
use Rattle.lt_modes.specs.Taking.{take}
use Rattle.lt_lists.specs.Below.{put, sum_below}
use Rattle.lt_spec.specs.NodeMove.{family, related, NodeState, NodeMade, node_waits, next_command, touched, each_touched, drop_all, locks_in_sets, act_stamp, take_stamp, at_clock, one_made, obey, node_act, node_take, HasTargetsAt, IsWhole}
use Rattle.lt_spec.specs.World.{World, start, opened, put_mail, after_made, after}
use Rattle.lt_model.specs.Homes.{adds, added_by}
use Rattle.lt_lists.proofs.Sums.{sum_below-none, sum_below-change, sum_below-at}
use Rattle.lt_model.proofs.Letters.{mail_weight, IsCounted, mail_weight-sent, mail_weight-taken}
use Rattle.lt_lists.proofs.Puts.{put-same, put-other}
use Rattle.lt_model.proofs.TryEffects.{command_rules}
use Rattle.lt_model.proofs.HomesMove.{next_targets, related_below, drop_count as dropped_by, step_drops}
use Rattle.lt_model.proofs.CountEffects.{finish_count, count_acts, drop_count, take_count, withdraw_count}
use Rattle.lt_model.proofs.HomesRows.{asks_in, asks_carried, asks_sent, Counted, some_locks}

-- the asks and the locks of a node, in all sets
abbrev pub node_asks : ScriptData → NodeState → ℕ
node_asks script n = sum_below (length script.sets) (λ s. asks_in (n.set s))

abbrev pub node_locks : ScriptData → NodeState → ℕ
node_locks script n = sum_below (length script.sets) (λ s. locks_in (n.set s).held)

pub record MoveCounted (script : ScriptData) (more : ℕ) (n : NodeState) (made : NodeMade) : Type 0 where
  pub asks : added_by made.events + (node_asks script made.node + asks_sent made.posts) ≤ node_asks script n + more
  pub locks : node_locks script made.node ≤ node_locks script n + added_by made.events

touched_count : (script : ScriptData) (more set : ℕ) (n : NodeState) (m : Made) → set < length script.sets → Counted more (n.set set) m
    → MoveCounted script more n (touched n set m)
touched_count script more set n m in_sets h =
    let asks = sum_below-change (length script.sets) set (λ s. asks_in (put n.set set m.state s)) (λ s. asks_in (n.set s)) in_sets
    (λ s below d. ap asks_in (put-other n.set set m.state s d)) in
    let locks = sum_below-change (length script.sets) set (λ s. locks_in (put n.set set m.state s).held) (λ s. locks_in (n.set s).held) in_sets
    (λ s below d. ap (λ (t : SetState). locks_in t.held) (put-other n.set set m.state s d)) in
    record {
      asks = omega (arith, asks, h.asks, ap asks_in (put-same n.set set m.state));
      locks = omega (arith, locks, h.locks, ap (λ (t : SetState). locks_in t.held) (put-same n.set set m.state));
    }

each_count : (script : ScriptData) (rule : ℕ → SetState → Made) → ((set : ℕ) (t : SetState) → Counted 0 t (rule set t))
    → (sets : List ℕ) → AllByRecursion (λ set. set < length script.sets) sets → (n : NodeState)
    → MoveCounted script 0 n (each_touched rule sets n)
each_count script rule each [] in_sets n = record { asks = omega arith; locks = omega arith }
each_count script rule each (set ∷ rest) in_sets n =
    let m = rule set (n.set set) in
    let first = touched_count script 0 set n m in_sets.0 (each set (n.set set)) in
    let next = (touched n set m).node in
    let others = each_touched rule rest next in
    let later = each_count script rule each rest in_sets.1 next in
    let lines = sum_by-append adds m.events others.events in
    let letters = sum_by-append (λ (post : Post). asks_carried post.letter) m.posts others.posts in
    record {
      asks = omega (arith, lines, letters, first.asks, later.asks);
      locks = omega (arith, lines, first.locks, later.locks);
    }

-- a line in front that adds no lock
first_count : (script : ScriptData) (n : NodeState) (line : Event) (made : NodeMade) → adds line ≡ 0 → MoveCounted script 0 n made
    → MoveCounted script 1 n (record made { events = line ∷ made.events })
first_count script n line made none h =
    let lines = sum_by-cons adds line made.events in
    record { asks = omega (arith, lines, none, h.asks); locks = omega (arith, lines, none, h.locks) }

drop_all_count : (script : ScriptData) (stamp : Stamp) (client other s : ℕ) (n : NodeState) (waiting : Bool)
    → MoveCounted script 1 n (drop_all waiting stamp client other s (related script s) n)
drop_all_count script stamp client other s n true =
    first_count script n _ (each_touched (λ k. finish k stamp) (related script s) n) refl
    (each_count script (λ k. finish k stamp) (λ k t. finish_count k stamp t) (related script s) (related_below script s) n)
drop_all_count script stamp client other s n false =
    first_count script n _ (each_touched (λ k. drop k stamp other) (related script s) n) refl
    (each_count script (λ k. drop k stamp other) (λ k t. drop_count k stamp other t) (related script s) (related_below script s) n)

obey_count : (script : ScriptData) (stamp : Stamp) (client : ℕ) (command : Command) (n : NodeState) → HasTargetsAt script client command
    → MoveCounted script 1 n (obey script stamp client (Some command) n)
obey_count script stamp client (Lock s mode) n targets =
    touched_count script 1 s n _ targets ((command_rules s stamp client _ (count_acts s stamp client)).locks mode (n.set s))
obey_count script stamp client (Try s mode) n targets =
    touched_count script 1 s n _ targets ((command_rules s stamp client _ (count_acts s stamp client)).tries mode (n.set s))
obey_count script stamp client (Unlock s mode) n targets =
    touched_count script 1 s n _ targets ((command_rules s stamp client _ (count_acts s stamp client)).unlocks mode (n.set s))
obey_count script stamp client (Change s gives_up mode) n targets =
    touched_count script 1 s n _ targets ((command_rules s stamp client _ (count_acts s stamp client)).changes gives_up mode (n.set s))
obey_count script stamp client (Withdraw other s) n targets =
    touched_count script 1 s n _ targets.0 (withdraw_count s stamp client other (n.set s))
obey_count script stamp client (DropAll other s) n targets = drop_all_count script stamp client other s n (node_waits script n other)

act_count : (script : ScriptData) (q client : ℕ) (n : NodeState) → IsWhole script → MoveCounted script 1 n (node_act script q client n)
act_count script q client n whole = by_command (next_command script n client) refl
  where
    begins : NodeState
    begins = one_made client (at_clock (n.clock + 1) n)

    by_command : (command : Option Command) → next_command script n client ≡ command
        → MoveCounted script 1 n (obey script (act_stamp q n) client command begins)
    by_command None e = record { asks = omega arith; locks = omega arith }
    by_command (Some command) e =
        let h = obey_count script (act_stamp q n) client command begins (next_targets script n client command whole e) in
        record { asks = h.asks; locks = h.locks }

letter_count : (script : ScriptData) (q : ℕ) (letter : Letter) (n : NodeState) → letter.set < length script.sets
    → MoveCounted script (asks_carried letter) n (node_take q letter n)
letter_count script q letter n in_sets =
    let stamp = take_stamp q n letter in
    let h = touched_count script (asks_carried letter) letter.set (at_clock stamp.clock n) (take stamp letter (n.set letter.set)) in_sets
    (take_count stamp letter (n.set letter.set)) in
    record { asks = h.asks; locks = h.locks }

-- the asks and the locks of the world
abbrev pub world_asks : ScriptData → World → ℕ
world_asks script w = sum_below script.nodes (λ q. node_asks script (w.node q)) + mail_weight script.nodes asks_carried w.mail

abbrev pub world_locks : ScriptData → World → ℕ
world_locks script w = sum_below script.nodes (λ q. node_locks script (w.node q))

pub record StepCounted (script : ScriptData) (w later : World) (lines : List Event) : Type 0 where
  pub asks : added_by lines + world_asks script later ≤ world_asks script w + 1
  pub locks : world_locks script later ≤ world_locks script w + added_by lines

-- what node q made, with these letters on their way before
made_count : (script : ScriptData) (w : World) (q more : ℕ) (mail : ℕ → ℕ → List Letter) (made : NodeMade) → q < script.nodes
    → AllByRecursion (IsCounted script.nodes asks_carried) made.posts → MoveCounted script more (w.node q) made
    → mail_weight script.nodes asks_carried mail + more ≤ mail_weight script.nodes asks_carried w.mail + 1
    → StepCounted script w (after_made q made (record w { mail = mail })) made.events
made_count script w q more mail made below counted h opened_weight =
    let asks = sum_below-change script.nodes q (λ x. node_asks script (put w.node q made.node x)) (λ x. node_asks script (w.node x)) below
    (λ x under d. ap (node_asks script) (put-other w.node q made.node x d)) in
    let locks = sum_below-change script.nodes q (λ x. node_locks script (put w.node q made.node x)) (λ x. node_locks script (w.node x)) below
    (λ x under d. ap (node_locks script) (put-other w.node q made.node x d)) in
    record {
      asks = omega (
        arith,
        asks,
        ap (node_asks script) (put-same w.node q made.node),
        h.asks,
        opened_weight,
        mail_weight-sent script.nodes q asks_carried made.posts mail below counted,
      );
      locks = omega (arith, locks, ap (node_locks script) (put-same w.node q made.node), h.locks);
    }

-- a command of a client
pub act_step_count : (script : ScriptData) (w : World) (q client : ℕ) → IsWhole script → q < script.nodes
    → AllByRecursion (IsCounted script.nodes asks_carried) (node_act script q client (w.node q)).posts
    → StepCounted script w (after script w q (Act client)) (node_act script q client (w.node q)).events
act_step_count script w q client whole below counted =
    made_count script w q 1 w.mail (node_act script q client (w.node q)) below counted (act_count script q client (w.node q) whole) (omega arith)

-- the take of a letter
pub take_step_count : (script : ScriptData) (w : World) (p q : ℕ) (letter : Letter) (rest : List Letter) → p < script.nodes → q < script.nodes
    → w.mail p q ≡ letter ∷ rest → letter.set < length script.sets
    → AllByRecursion (IsCounted script.nodes asks_carried) (node_take q letter (w.node q)).posts
    → StepCounted script w (after_made q (node_take q letter (w.node q)) (opened w q (Take p))) (node_take q letter (w.node q)).events
take_step_count script w p q letter rest from below front in_sets counted =
    let taken = mail_weight-taken script.nodes p q asks_carried w.mail letter rest from below front in
    let left : mail_weight script.nodes asks_carried (put_mail w.mail p q (drop_rest 1 (w.mail p q))) ≡ mail_weight script.nodes asks_carried (put_mail w.mail p q rest) =
    ap (λ (l : List Letter). mail_weight script.nodes asks_carried (put_mail w.mail p q (drop_rest 1 l))) front in
    made_count script w q (asks_carried letter) (put_mail w.mail p q (drop_rest 1 (w.mail p q))) (node_take q letter (w.node q)) below counted
    (letter_count script q letter (w.node q) in_sets) (omega (arith, taken, left))

-- a part of the sets

plus_none : (k : ℕ) → k + 0 ≡ k
plus_none k = omega arith

plus_one : (k : ℕ) → k + 1 ≡ suc k
plus_one k = omega arith

pub sum_places : {X : Type 0} (test : ℕ → X → Bool) (f : ℕ → ℕ) (k : ℕ) (xs : List X)
    → sum_below k f + sum_by f (places_from test k xs) ≤ sum_below (k + length xs) f
sum_places test f k [] = omega (arith, ap (λ (n : ℕ). sum_below n f) (plus_none k))
sum_places test f k (x ∷ xs) =
    let again = sum_places test f (k + 1) xs in
    let same : sum_below (k + 1 + length xs) f ≡ sum_below (k + length (x ∷ xs)) f = ap (λ (n : ℕ). sum_below n f) (omega arith) in
    let next : sum_below (k + 1) f ≡ sum_below (suc k) f = ap (λ (n : ℕ). sum_below n f) (plus_one k) in
    by_test (test k x) again same next
  where
    by_test : (wanted : Bool) → sum_below (k + 1) f + sum_by f (places_from test (k + 1) xs) ≤ sum_below (k + 1 + length xs) f
        → sum_below (k + 1 + length xs) f ≡ sum_below (k + length (x ∷ xs)) f → sum_below (k + 1) f ≡ sum_below k f + f k
        → sum_below k f + sum_by f (cons_if wanted k (places_from test (k + 1) xs)) ≤ sum_below (k + length (x ∷ xs)) f
    by_test true again same next = omega (arith, again, same, next, sum_by-cons f k (places_from test (k + 1) xs))
    by_test false again same next = omega (arith, again, same, next)

-- a client's locks in a family are among those of the node
family_locks : (script : ScriptData) (n : NodeState) (client s : ℕ) → locks_in_sets n client (related script s) ≤ node_locks script n
family_locks script n client s =
    let few = sum_by-le-sum_by (λ k. locks_of (n.set k).held client) (λ k. locks_in (n.set k).held) (related script s)
    (λ k. some_locks (is_of client) (n.set k).held) in
    let part = sum_places (λ k (set : SetData). set.family == family script s) (λ k. locks_in (n.set k).held) 0 script.sets in
    let same : sum_below (0 + length script.sets) (λ k. locks_in (n.set k).held) ≡ node_locks script n =
    ap (λ (m : ℕ). sum_below m (λ k. locks_in (n.set k).held)) (omega arith) in
    omega (arith, few, part, same)

-- and those of the node among those of the world
pub few_dropped : (script : ScriptData) (w : World) (q : ℕ) (step : Step) → q < script.nodes → step_drops script w q step ≤ world_locks script w
few_dropped script w q (Take p) below = omega arith
few_dropped script w q (Act client) below =
    omega (
      arith,
      by_command (next_command script (w.node q) client),
      sum_below-at script.nodes q (λ x. node_locks script (w.node x)) below,
    )
  where
    by_command : (command : Option Command) → dropped_by script (w.node q) command ≤ node_locks script (w.node q)
    by_command None = omega arith
    by_command (Some (Lock s mode)) = omega arith
    by_command (Some (Try s mode)) = omega arith
    by_command (Some (Unlock s mode)) = omega arith
    by_command (Some (Change s gives_up mode)) = omega arith
    by_command (Some (DropAll other s)) = family_locks script (w.node q) other s
    by_command (Some (Withdraw other s)) = omega arith

none_in_all : (n : ℕ) (f : ℕ → ℕ) → ((k : ℕ) → f k ≡ 0) → sum_below n f ≡ 0
none_in_all n f none = sum_below-none n f (λ k below. none k)

-- at the start there are none
pub count_start : (script : ScriptData) → (world_asks script (start script) ≡ 0) × (world_locks script (start script) ≡ 0)
count_start script = (
  omega (
    arith,
    none_in_all script.nodes (λ q. node_asks script ((start script).node q)) (λ q. none_in_all (length script.sets) _ (λ s. asks_first (q == 0))),
    none_in_all script.nodes (λ p. sum_below script.nodes (λ q. 0)) (λ p. none_in_all script.nodes (λ q. 0) (λ q. refl)),
  ),
  none_in_all script.nodes (λ q. node_locks script ((start script).node q)) (λ q. none_in_all (length script.sets) _ (λ s. refl)),
)
  where
    asks_first : (here : Bool) → asks_in (record (first_state script.nodes 0) { desk = if here then Some (first_desk script.nodes) else None }) ≡ 0
    asks_first true = refl
    asks_first false = refl
