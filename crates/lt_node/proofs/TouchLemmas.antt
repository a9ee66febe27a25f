-- What a command asks of the sets that it touches.
use Rattle.std.proofs.Common.{◌≡◌, ◌∙◌, ◌<◌, ◌≤◌, ◌&&◌, ◌||◌, Bool, true, false, not, nat_lt, ℕ, List, [], ◌∷◌, Option, Some, length, slice_index_or, ap, arith, refl, sym, subst, leb-true, ltb-true, true≢false}
use Rattle.std.proofs.Math.Bool.{or-false}
use Rattle.std.proofs.lemmas.Bool.{and_parts, not-true}
use Rattle.std.proofs.lemmas.List.Elements.{All-head}
use Rattle.std.proofs.lemmas.List.Sums.{AllPass-from_list_all, sum_by-cons}
use Rattle.lt_modes.specs.declared.command.Command.{Command}
use Rattle.lt_modes.specs.declared.command.Command.TheVariants as commands
use Rattle.lt_modes.specs.declared.stamp.Stamp.{Stamp}
use Rattle.lt_lists.proofs.Searches.{any_below_none}
use Rattle.lt_modes.specs.Fits.{has_client}
use Rattle.lt_modes.specs.Script.{ScriptData}
use Rattle.lt_modes.specs.Serving.{is_gone}
use Rattle.lt_modes.specs.Waiting.{waits}
use Rattle.lt_modes.specs.State.{SetState}
use Rattle.lt_spec.specs.Script.{HasTargets}
use Rattle.lt_spec.specs.NodeMove.{NodeState, at_clock, is_free_at, locks_in_sets, next_command, node_waits, one_made, related, withdraws_itself}
use Rattle.lt_spec.specs.Limits.{leaves_ask, set_within}
use Rattle.lt_spec.specs.declared.limits.TheConstants.{MAX_CLIENTS_OF_NODE, MAX_COMMANDS_OF_SERVICE}
use Rattle.lt_desk.specs.DeskData.{OutData, FitsOut}
use Rattle.lt_core.specs.declared.set_command.SetCommand.{SetCommand}
use Rattle.lt_core.specs.declared.set_command.SetCommand.TheVariants.{Lock, Try, Unlock, Change, DropAll, Withdraw}
use Rattle.lt_core.specs.CoreData.{CoreData, HasRoom, LeavesAsk, RoomForCommand, move_of}
use Rattle.lt_core.proofs.BoundLemmas.{commands_fit}
use Rattle.lt_node.specs.NodeData.{AreReady, IsSetReady, KeepsClient, NodeData, core_at, first_core, most_sent, state_of}
use Rattle.lt_node.specs.Touched.{LeavesMark, RoomToAct, drops_few, leaves_room_to_act, sets_leave_asks, sets_within, touched_by, touched_sets}
use Rattle.lt_node.proofs.NodeLemmas.{room_later, set_numbers}

pub fits_at : (clock : ℕ) (core : CoreData) (out : OutData) (stamp : Stamp) (client : ℕ) (command : SetCommand) → IsSetReady client command clock core out
    → FitsOut (move_of stamp client command core.set core.state) out
fits_at clock core out stamp client command ready =
    commands_fit stamp client command core.set core.state out (record { posts = ready.send.posts; events = ready.send.events })

-- in each set that is ready for a command there is a row's place and a tell's
pub tells_at : (client : ℕ) (command : SetCommand) (clock : ℕ) (core : CoreData) (out : OutData) → IsSetReady client command clock core out → 1 ≤ core.tell_room
tells_at client (Lock mode) clock core out ready = ready.room.move.tells
tells_at client (Try mode) clock core out ready = ready.room.tells
tells_at client (Unlock mode) clock core out ready = ready.room.tells
tells_at client (Change gives_up mode) clock core out ready = ready.room.move.tells
tells_at client DropAll clock core out ready = ready.room.tells
tells_at client (Withdraw other) clock core out ready = ready.room.move.tells

-- one set that is ready for a move is so for a command for which such room is enough
pub one_ready : (s clock client : ℕ) (core : ℕ → CoreData) (out : OutData) (command : SetCommand) → AreReady (s ∷ []) clock core out
    → (HasRoom 2 clock (core s) → RoomForCommand client clock (core s) command) → IsSetReady client command clock (core s) out
one_ready s clock client core out command ready enough =
    let sum = sum_by-cons (λ (k : ℕ). most_sent (core k)) s [] in
    record {
      room = enough (All-head (λ (k : ℕ). HasRoom 2 clock (core k)) s [] ready.rooms);
      send = record { posts = omega (arith, ready.send.posts, sum); events = omega (arith, ready.send.events, sum) };
    }

-- what the node keeps for the sets of the next command leaves room for it
record MayObey (n : NodeData) (client : ℕ) (sets : List ℕ) (command : Option Command) : Type 0 where
  within : sets_within (state_of n) sets ≡ true
  asks : sets_leave_asks (state_of n) client sets ≡ true
  few : drops_few n.script (state_of n) command ≡ true

may_obey : (n : NodeData) (client : ℕ) → leaves_room_to_act n.script (state_of n) client ≡ true
    → MayObey n client (touched_by n.script (next_command n.script (state_of n) client)) (next_command n.script (state_of n) client)
may_obey n client h =
    let next = next_command n.script (state_of n) client in
    let sets = touched_by n.script next in
    let first = and_parts (sets_within (state_of n) sets) (sets_leave_asks (state_of n) client sets && drops_few n.script (state_of n) next) h in
    let second = and_parts (sets_leave_asks (state_of n) client sets) (drops_few n.script (state_of n) next) first.1 in
    record { within = first.0; asks = second.0; few = second.1 }

-- so these sets are ready for it
pub ready_to_act : (n : NodeData) (out : OutData) (now client : ℕ) (command : Command) → leaves_room_to_act n.script (state_of n) client ≡ true
    → next_command n.script (state_of n) client ≡ Some command → n.clock < now → RoomToAct client n out → AreReady (touched_sets n.script command) now (core_at n) out
ready_to_act n out now client command h is later room =
    let sets = touched_by n.script (next_command n.script (state_of n) client) in
    let may = may_obey n client h in
    let within = AllPass-from_list_all (λ (s : ℕ). set_within n.clock ((state_of n).set s)) sets may.within in
    subst (λ (o : Option Command). AreReady (touched_by n.script o) now (core_at n) out) is
    (record {
      rooms = λ k d inside.
          let s = slice_index_or sets k d in
          room_later n.clock now 0 (core_at n s) (set_numbers n.clock (core_at n s).state (within k d inside)) later (room.cores k d inside);
      send = room.send;
    })

-- also once the client has made it
pub ready_after : (n mid : NodeData) (out : OutData) (now : ℕ) (command : Command) → mid.script ≡ n.script → mid.me ≡ n.me → mid.cores ≡ n.cores
    → AreReady (touched_sets n.script command) now (core_at n) out → AreReady (touched_sets mid.script command) now (core_at mid) out
ready_after n mid out now command script me cores ready =
    let same : core_at n ≡ core_at mid = λ i s. slice_index_or (sym cores i) s (first_core (sym script i) (sym me i) s) in
    subst (λ (f : ℕ → CoreData). AreReady (touched_sets mid.script command) now f out) same
    (subst (λ (s : ScriptData). AreReady (touched_sets s command) now (core_at n) out) (sym script) ready)

-- what the command keeps of a client

-- where the client doesn't wait in the set, it may ask there
leaves_by : (client : ℕ) (s : SetState) (has : Bool) → has_client client s.pending ≡ has → waits s client ≡ false → leaves_ask client s ≡ true
    → is_gone s client ≡ false → length s.pending < MAX_CLIENTS_OF_NODE
leaves_by client s true here idle leaves live = absurd (true≢false (sym (λ i. here i && not (live i)) ∙ idle))
leaves_by client s false here idle leaves live = ltb-true (length s.pending) MAX_CLIENTS_OF_NODE (sym (ap (λ (b : Bool). b || nat_lt (length s.pending) MAX_CLIENTS_OF_NODE) here) ∙ leaves)

-- a client that is free for another command than a `withdraw` of itself waits nowhere
idle_at : (n : NodeData) (client s : ℕ) → (not (node_waits n.script (state_of n) client) || false) ≡ true → s < length n.script.sets
    → waits ((state_of n).set s) client ≡ false
idle_at n client s free inside =
    any_below_none (length n.script.sets) (λ k. waits ((state_of n).set k) client)
    (not-true _ (sym (or-false _) ∙ free)) s inside

asks_at : (n : NodeData) (client s : ℕ) → sets_leave_asks (state_of n) client (s ∷ []) ≡ true → leaves_ask client ((state_of n).set s) ≡ true
asks_at n client s h = (and_parts (leaves_ask client ((state_of n).set s)) true h).0

may_ask : (n : NodeData) (client s : ℕ) → (not (node_waits n.script (state_of n) client) || false) ≡ true → s < length n.script.sets
    → sets_leave_asks (state_of n) client (s ∷ []) ≡ true → LeavesAsk client (core_at n s)
may_ask n client s free inside h =
    let state = (state_of n).set s in
    leaves_by client state (has_client client state.pending) refl (idle_at n client s free inside) (asks_at n client s h)

keeps_by : (n : NodeData) (client : ℕ) (command : Command) → (not (node_waits n.script (state_of n) client) || withdraws_itself (state_of n) client (Some command)) ≡ true
    → HasTargets n.script.sets n.script.clients client command → sets_leave_asks (state_of n) client (touched_sets n.script command) ≡ true
    → LeavesMark (core_at n) (Some command) → KeepsClient client (core_at n) command
keeps_by n client (commands.Lock s mode) free targets leaves mark = may_ask n client s free targets leaves
keeps_by n client (commands.Try s mode) free targets leaves mark = record {}
keeps_by n client (commands.Unlock s mode) free targets leaves mark = record {}
keeps_by n client (commands.Change s gives_up mode) free targets leaves mark = may_ask n client s free targets leaves
keeps_by n client (commands.DropAll other s) free targets leaves mark = record {}
keeps_by n client (commands.Withdraw other s) free targets leaves mark = mark

pub keeps_to_act : (n : NodeData) (out : OutData) (client : ℕ) (command : Command) → leaves_room_to_act n.script (state_of n) client ≡ true
    → next_command n.script (state_of n) client ≡ Some command → is_free_at n.script (state_of n) client ≡ true
    → HasTargets n.script.sets n.script.clients client command → RoomToAct client n out → KeepsClient client (core_at n) command
keeps_to_act n out client command h is free targets room =
    keeps_by n client command
    (subst (λ (o : Option Command). (not (node_waits n.script (state_of n) client) || withdraws_itself (state_of n) client o) ≡ true) is free)
    targets
    (subst (λ (o : Option Command). sets_leave_asks (state_of n) client (touched_by n.script o) ≡ true) is (may_obey n client h).asks)
    (subst (LeavesMark (core_at n)) is room.mark)

-- also once the client has made it
pub keeps_after : (n mid : NodeData) (client : ℕ) (command : Command) → mid.script ≡ n.script → mid.me ≡ n.me → mid.cores ≡ n.cores
    → KeepsClient client (core_at n) command → KeepsClient client (core_at mid) command
keeps_after n mid client command script me cores keeps =
    let same : core_at n ≡ core_at mid = λ i s. slice_index_or (sym cores i) s (first_core (sym script i) (sym me i) s) in
    subst (λ (f : ℕ → CoreData). KeepsClient client f command) same keeps

-- and a drop is of few locks
pub few_to_act : (n : NodeData) (client : ℕ) (command : Command) → leaves_room_to_act n.script (state_of n) client ≡ true → next_command n.script (state_of n) client ≡ Some command
    → drops_few n.script (state_of n) (Some command) ≡ true
few_to_act n client command h is = subst (λ (o : Option Command). drops_few n.script (state_of n) o ≡ true) is (may_obey n client h).few

-- which is of the sets alone
pub few_after : (script : ScriptData) (clock maker : ℕ) (n : NodeState) (command : Command) → drops_few script (one_made maker (at_clock clock n)) (Some command) ≡ drops_few script n (Some command)
few_after script clock maker n (commands.Lock s mode) = refl
few_after script clock maker n (commands.Try s mode) = refl
few_after script clock maker n (commands.Unlock s mode) = refl
few_after script clock maker n (commands.Change s gives_up mode) = refl
few_after script clock maker n (commands.DropAll other s) = refl
few_after script clock maker n (commands.Withdraw other s) = refl

pub few_dropped : (script : ScriptData) (n : NodeState) (other s : ℕ) → drops_few script n (Some (commands.DropAll other s)) ≡ true
    → locks_in_sets n other (related script s) ≤ MAX_COMMANDS_OF_SERVICE
few_dropped script n other s h = leb-true (locks_in_sets n other (related script s)) MAX_COMMANDS_OF_SERVICE h
