-- A drop: its line, and then what the sets make.
use Rattle.std.proofs.Common.{◌≡◌, ◌++◌, ◌∷◌, [], Bool, true, false, ℕ, List, Option, Some, None, arith, refl, sum_by, sym, ap, subst, ◌∙◌, append_assoc}
use Rattle.std.proofs.lemmas.List.{length_push}
use Rattle.lt_modes.specs.declared.stamp.Stamp.{Stamp}
use Rattle.lt_modes.specs.declared.event.Event.{Event}
use Rattle.lt_modes.specs.declared.event.Event.TheVariants.{Busy, DropAll as Dropped}
use Rattle.lt_modes.specs.declared.command.Command.{Command}
use Rattle.lt_modes.specs.declared.command.Command.TheVariants as commands
use Rattle.lt_modes.specs.Modes.{locks_of}
use Rattle.lt_modes.specs.Script.{ScriptData}
use Rattle.lt_modes.specs.State.{SetState, Made}
use Rattle.lt_spec.specs.NodeMove.{related, NodeState, NodeMade, drop_all, each_touched, answered_first, locks_in_sets, one_made, at_clock}
use Rattle.lt_desk.specs.DeskData.{OutData}
use Rattle.lt_core.specs.Bound.{RoomToSend}
use Rattle.lt_core.specs.CoreData.{CoreData}
use Rattle.lt_node.specs.Clients.{answer_to}
use Rattle.lt_node.specs.Forgetting.{without_first}
use Rattle.lt_node.specs.NodeData.{AreReady, NodeData, NodeDoes, SetsDo, core_at, ending, most_sent, state_of, with_sent}
use Rattle.lt_node.specs.Sets.{AreSetsOf, SetsData, core_in, locks_by}
use Rattle.lt_node.proofs.NodeSets.{core_held}

ends_here : (n : NodeData) (rule : NodeState → NodeMade) (q : ℕ) (event : Event) (had mid out : OutData) (cores : List CoreData) → q ≡ n.me → mid ≡ record had { events = had.events ++ event ∷ [] }
    → SetsDo n.script q rule n.cores mid cores out (state_of n) → NodeDoes (answered_first event (rule (state_of n))) n had (record n { cores = cores }) out
ends_here n rule q event had mid out cores me put does =
    let here = subst (λ (q : ℕ). SetsDo n.script q rule n.cores mid cores out (state_of n)) me does in
    let made = rule (state_of n) in
    record {
      script = refl;
      gone = refl;
      me = refl;
      state = here.node;
      sent = here.sent ∙ ap (λ (o : OutData). with_sent made o) put ∙ rw (append_assoc had.events (event ∷ []) made.events) refl;
    }

-- What the sets of a family make, they make by the sets of the script alone: its commands may be forgotten.
module _ (script kept : ScriptData) (k : ℕ) (same : kept ≡ without_first k script) where
  pub ended_by_sets : (q set : ℕ) (end : ℕ → SetState → Made) (old new : List CoreData) (had out : OutData)
      → ((n : NodeState) → SetsDo kept q (each_touched end (related kept set)) old had new out n)
      → (n : NodeState) → SetsDo script q (each_touched end (related script set)) old had new out n
  ended_by_sets q set end old new had out does n =
      let here = subst (λ (s : ScriptData). SetsDo s q (each_touched end (related s set)) old had new out n) same (does n) in
      record { node = here.node; sent = here.sent }

-- they are those of the script as well as of what is kept of it
pub sets_whole : (script kept : ScriptData) (q me k : ℕ) (sets : SetsData) → kept ≡ without_first k script → q ≡ me → AreSetsOf kept q sets → AreSetsOf script me sets
sets_whole script kept q me k sets same here of =
    let whole = subst (λ (p : ℕ). AreSetsOf (without_first k script) p sets) here (subst (λ (s : ScriptData). AreSetsOf s q sets) same of) in
    record { nodes = whole.nodes; node = whole.node; count = whole.count; places = whole.places }

-- what a drop asks of the sets of a family
module _ (m n : NodeData) (kept : ScriptData) (k : ℕ) (sets : SetsData) (same : m ≡ n) (left : kept ≡ without_first k m.script) (of : AreSetsOf m.script m.me sets) (cores : m.cores ≡ sets.cores) where
  related_same : (set : ℕ) → related n.script set ≡ related kept set
  related_same set = ap (λ (n : NodeData). related n.script set) (sym same) ∙ ap (λ (s : ScriptData). related s set) (sym left)

  pub ready_here : (set clock : ℕ) (out : OutData) → AreReady (related n.script set) clock (core_at n) out → AreReady (related kept set) clock (core_in sets) out
  ready_here set clock out ready =
      subst (λ (f : ℕ → CoreData). AreReady (related kept set) clock f out) (core_held m n sets same cores of)
      (subst (λ (l : List ℕ). AreReady l clock (core_at n) out) (related_same set) ready)

  pub locks_here : (set other : ℕ) → locks_by sets other (related kept set) ≡ locks_in_sets (state_of n) other (related n.script set)
  locks_here set other =
      ap (λ (f : ℕ → CoreData). sum_by (λ s. locks_of (f s).state.held other) (related kept set)) (sym (core_held m n sets same cores of))
      ∙ ap (λ (l : List ℕ). locks_in_sets (state_of n) other l) (sym (related_same set))

-- with its own line there is still room for what the sets send
pub room_left : (sets : List ℕ) (clock : ℕ) (core : ℕ → CoreData) (event : Event) (had mid : OutData) → AreReady sets clock core had → mid ≡ record had { events = had.events ++ event ∷ [] }
    → RoomToSend (sum_by (λ s. most_sent (core s)) sets) mid
room_left sets clock core event had mid ready put =
    subst (λ (o : OutData). RoomToSend (sum_by (λ s. most_sent (core s)) sets) o) (sym put)
    (record { posts = omega (arith, ready.send.posts); events = omega (arith, ready.send.events, length_push had.events event) })

-- the line stands first, and then the sets of the family end the move
pub drop_done : (m n : NodeData) (stamp : Stamp) (client other set : ℕ) (waits : Bool) (dropped : Option ℕ) (event : Event) (had mid out : OutData) (cores : List CoreData) → m ≡ n → stamp.node ≡ n.me
    → mid ≡ record had { events = had.events ++ event ∷ [] }
    → ((s : NodeState) → SetsDo m.script stamp.node (each_touched (ending dropped stamp) (related m.script set)) m.cores mid cores out s)
    → drop_all waits stamp client other set (related n.script set) (state_of n) ≡ answered_first event (each_touched (ending dropped stamp) (related n.script set) (state_of n))
    → NodeDoes (drop_all waits stamp client other set (related n.script set) (state_of n)) n had (record m { cores = cores }) out
drop_done m n stamp client other set waits dropped event had mid out cores same node put does is =
    let here = subst (λ (m : NodeData). (s : NodeState) → SetsDo m.script stamp.node (each_touched (ending dropped stamp) (related m.script set)) m.cores mid cores out s) same does in
    subst (λ (m : NodeData). NodeDoes (drop_all waits stamp client other set (related n.script set) (state_of n)) n had (record m { cores = cores }) out) (sym same)
    (subst (λ (made : NodeMade). NodeDoes made n had (record n { cores = cores }) out) (sym is)
    (ends_here n (each_touched (ending dropped stamp) (related n.script set)) stamp.node event had mid out cores node put (here (state_of n))))

pub busy_is : (waits : Bool) (stamp : Stamp) (client other set : ℕ) (sets : List ℕ) (n : NodeState) → waits ≡ true
    → drop_all waits stamp client other set sets n ≡ answered_first (Busy client other set) (each_touched (ending None stamp) sets n)
busy_is true stamp client other set sets n e = refl
busy_is false stamp client other set sets n e = cc

pub dropped_is : (waits : Bool) (stamp : Stamp) (client other set count : ℕ) (sets : List ℕ) (n : NodeState) → waits ≡ false → count ≡ locks_in_sets n other sets
    → drop_all waits stamp client other set sets n ≡ answered_first (Dropped client other set count) (each_touched (ending (Some other) stamp) sets n)
dropped_is true stamp client other set count sets n e is = cc
dropped_is false stamp client other set count sets n e is = ap (λ (k : ℕ). answered_first (Dropped client other set k) (each_touched (ending (Some other) stamp) sets n)) (sym is)

-- an answer reads the sets alone
pub answer_after : (script : ScriptData) (q client clock maker : ℕ) (n : NodeState) (command : Command) → answer_to script q client (one_made maker (at_clock clock n)) command ≡ answer_to script q client n command
answer_after script q client clock maker n (commands.Lock s mode) = refl
answer_after script q client clock maker n (commands.Try s mode) = refl
answer_after script q client clock maker n (commands.Unlock s mode) = refl
answer_after script q client clock maker n (commands.Change s gives_up mode) = refl
answer_after script q client clock maker n (commands.DropAll other s) = refl
answer_after script q client clock maker n (commands.Withdraw other s) = refl
