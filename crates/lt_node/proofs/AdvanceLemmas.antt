-- A client makes its next command.
use Rattle.std.proofs.Common.{◌≡◌, ◌+◌, ◌<◌, ◌≤◌, ◌==◌, ℕ, List, [], ◌∷◌, Some, None, length, map, arith, refl, sym, ap, subst, ◌∙◌, slice_get, slice_index_or, slice_set, Contains, if◌then◌else◌, Bool, true, false, inl, inr, ◌++◌, ltb-true, eqb-true, eq-eqb, ne_eqb, get_or-set_other, length-set, append-nil}
use Rattle.std.specs.List.{cons_option}
use Rattle.std.proofs.lemmas.Bool.{cases_eq}
use Rattle.std.proofs.lemmas.Option.{slice_get-get_or}
use Rattle.std.proofs.lemmas.List.{length-map, get_or_default, map-set, get_or-map}
use Rattle.std.proofs.lemmas.Grind.{get_or-set_at}
use Rattle.std.proofs.lemmas.List.Elements.{Contains-get_or, filter_map-append}
use Rattle.std.proofs.Math.Seq.{map-set_same}
use Rattle.lt_modes.specs.declared.command.Command.{Command}
use Rattle.lt_modes.specs.Script.{ScriptData}
use Rattle.lt_lists.specs.Below.{put}
use Rattle.lt_lists.proofs.Members.{few_filtered, filter_map-which, some_equal}
use Rattle.lt_spec.specs.Script.{IsScript, IsRequest, HasTargets, IsOfVersion}
use Rattle.lt_spec.specs.NodeMove.{commands_of, command_if, home, NodeState, next_command, has_command, one_made, at_clock}
use Rattle.lt_spec.specs.declared.limits.TheConstants.{MAX_COMMANDS_OF_SERVICE}
use Rattle.lt_script.proofs.ScriptLemmas.{command_added}
use Rattle.lt_node.specs.NodeData.{NodeData, IsNode, state_of, core_at}
use Rattle.lt_node.specs.Clients.{Progress, KnowsClients, progress_of, no_progress, progress_made, next_of, one_command_more, no_command, with_command, with_request}
use Rattle.lt_node.proofs.NodeLemmas.{put_read}

-- a client's command is one of the script's
targets_by : (script : ScriptData) (client : ℕ) (command : Command) (request : ℕ × Command) (mine : Bool) → (request.0 == client) ≡ mine
    → (if mine then Some request.1 else None) ≡ Some command → HasTargets script.sets script.clients request.0 request.1 → HasTargets script.sets script.clients client command
targets_by script client command request true e some h =
    subst (λ (q : ℕ). HasTargets script.sets script.clients q command) (eqb-true request.0 client e)
    (subst (λ (x : Command). HasTargets script.sets script.clients request.0 x) (some_equal request.1 command some) h)
targets_by script client command request false e some h = cc

pub targets_of : (script : ScriptData) (client : ℕ) (command : Command) → IsScript script → Contains (commands_of script client) command
    → HasTargets script.sets script.clients client command
targets_of script client command known found =
    let request = filter_map-which (command_if client) script.commands command found in
    let place = request.1 in
    let is = subst (λ (r : ℕ × Command). IsRequest script.sets script.clients r) place.2 (known.requests place.0 request.0 place.1) in
    targets_by script client command request.0 (request.0.0 == client) refl request.2 is.1

-- what a node knows of a client with a command left
pub record HasNext (n : NodeData) (client : ℕ) (progress : Progress) : Type 0 where
  pub commands : progress.commands ≡ commands_of n.script client
  pub made : progress.made ≡ (state_of n).made client
  pub left : progress.made < length progress.commands
  pub few : progress.made ≤ MAX_COMMANDS_OF_SERVICE

pub has_next : (n : NodeData) (homes : List ℕ) (clients : List Progress) (client : ℕ) (progress : Progress) → IsNode n → n.made ≡ map progress_made clients → KnowsClients n.script n.me homes clients
    → client < length n.script.clients → home n.script client ≡ n.me → has_command n.script (state_of n) client ≡ true → progress ≡ progress_of clients client → HasNext n client progress
has_next n homes clients client progress node made knows inside own left at =
    let within : client < length clients = omega (arith, inside, node.clients, ap (λ (l : List ℕ). length l) made, length-map clients progress_made) in
    let commands = ap (λ (p : Progress). p.commands) at ∙ knows.own client within own in
    let count : progress.made ≡ (state_of n).made client =
    ap progress_made at ∙ sym (get_or-map progress_made clients client no_progress 0 within) ∙ sym (ap (λ (l : List ℕ). slice_index_or l client 0) made) in
    let some = ltb-true ((state_of n).made client) (length (commands_of n.script client)) left in
    record {
      commands = commands;
      made = count;
      left = omega (arith, some, count, ap (λ (l : List Command). length l) commands);
      few = omega (arith, some, count, few_filtered (command_if client) n.script.commands, node.is_script.few_commands);
    }

pub next_is : (n : NodeData) (client : ℕ) (progress : Progress) → HasNext n client progress → next_command n.script (state_of n) client ≡ Some (next_of progress)
next_is n client progress next =
    ap (λ (k : ℕ). slice_get (commands_of n.script client) k) (sym next.made) ∙ sym (ap (λ (l : List Command). slice_get l progress.made) next.commands)
    ∙ slice_get-get_or progress.commands progress.made no_command next.left

pub next_targets : (n : NodeData) (client : ℕ) (progress : Progress) → IsNode n → HasNext n client progress → HasTargets n.script.sets n.script.clients client (next_of progress)
next_targets n client progress node next =
    targets_of n.script client (next_of progress) node.is_script
    (subst (λ (l : List Command). Contains l (next_of progress)) next.commands (Contains-get_or progress.commands progress.made no_command next.left))

-- the node after the command was handed out
pub advanced : (n : NodeData) (clients : List Progress) (client : ℕ) (progress : Progress) → n.made ≡ map progress_made clients → client < length n.made → progress.made ≡ (state_of n).made client
    → state_of (record n { clock = n.clock + 1; made = map progress_made (slice_set clients client (one_command_more progress)) }) ≡ one_made client (at_clock (n.clock + 1) (state_of n))
advanced n clients client progress made inside count =
    let list : map progress_made (slice_set clients client (one_command_more progress)) ≡ slice_set n.made client (progress.made + 1) =
    map-set progress_made clients client (one_command_more progress) ∙ sym (ap (λ (l : List ℕ). slice_set l client (progress.made + 1)) made) in
    let puts = put_read (λ (k : ℕ). k) n.made (λ k. 0) client (progress.made + 1) inside in
    ap (λ (f : ℕ → ℕ). let s : NodeState = record { clock = n.clock + 1; made = f; set = λ s. (core_at n s).state } in s)
    (ap (λ (l : List ℕ). λ k. slice_index_or l k 0) list ∙ puts ∙ ap (λ (v : ℕ). put (λ k. slice_index_or n.made k 0) client (v + 1)) count)

pub clients_kept : (script : ScriptData) (q : ℕ) (homes : List ℕ) (clients : List Progress) (client : ℕ) (progress : Progress) → KnowsClients script q homes clients → progress ≡ progress_of clients client
    → KnowsClients script q homes (slice_set clients client (one_command_more progress))
clients_kept script q homes clients client progress knows at = record {
  homes_are = knows.homes_are;
  own = λ k within own. elim (cases_eq k client) [
    | inl same ↦
        let inside : k < length clients = omega (arith, within, length-set clients client (one_command_more progress)) in
        ap (λ (p : Progress). p.commands) (get_or-set_at clients client k (one_command_more progress) no_progress same (omega (arith, inside, same)))
        ∙ ap (λ (p : Progress). p.commands) at ∙ ap (λ (i : ℕ). (progress_of clients i).commands) (sym same) ∙ knows.own k inside own
    | inr other ↦
        ap (λ (p : Progress). p.commands) (get_or-set_other clients client k (one_command_more progress) no_progress other)
        ∙ knows.own k (omega (arith, within, length-set clients client (one_command_more progress))) own
  ];
}

-- the same of what the code has in hand
pub next_at : (m n : NodeData) (homes : List ℕ) (clients : List Progress) (client k : ℕ) (progress : Progress) → m ≡ n → IsNode m → m.made ≡ map progress_made clients → KnowsClients m.script m.me homes clients
    → k ≡ client → progress ≡ slice_index_or clients k progress → client < length n.script.clients → home n.script client ≡ n.me → has_command n.script (state_of n) client ≡ true → HasNext n client progress
next_at m n homes clients client k progress same node made knows place at =
    subst (λ (n : NodeData). client < length n.script.clients → home n.script client ≡ n.me → has_command n.script (state_of n) client ≡ true → HasNext n client progress) same
    (λ inside own left.
    let within : client < length clients = omega (arith, inside, node.clients, ap (λ (l : List ℕ). length l) made, length-map clients progress_made) in
    has_next m homes clients client progress node made knows inside own left
    (at ∙ ap (λ (i : ℕ). slice_index_or clients i progress) place ∙ get_or_default clients client progress no_progress within))

-- the client's list is one of those in hand
pub client_inside : (m n : NodeData) (clients : List Progress) (client k : ℕ) → m ≡ n → IsNode m → m.made ≡ map progress_made clients → k ≡ client → client < length n.script.clients → k < length clients
client_inside m n clients client k same node made place inside =
    subst (λ (i : ℕ). i < length clients) (sym place)
    (subst (λ (l : ℕ). client < l)
    (sym (ap (λ (n : NodeData). length n.script.clients) same) ∙ sym node.clients ∙ ap (λ (l : List ℕ). length l) made ∙ length-map clients progress_made) inside)

pub made_here : (m n : NodeData) (clients : List Progress) (client k : ℕ) (progress : Progress) → m ≡ n → m.made ≡ map progress_made clients → k ≡ client → progress ≡ slice_index_or clients k progress → k < length clients
    → progress.made ≡ (state_of n).made client
made_here m n clients client k progress same made place at inside =
    ap progress_made (at ∙ get_or_default clients k progress no_progress inside) ∙ sym (get_or-map progress_made clients k no_progress 0 inside)
    ∙ sym (ap (λ (l : List ℕ). slice_index_or l k 0) made) ∙ ap (λ (i : ℕ). slice_index_or m.made i 0) place ∙ ap (λ (n : NodeData). slice_index_or n.made client 0) same

pub advanced_at : (m n : NodeData) (clients : List Progress) (client k : ℕ) (progress new : Progress) → m ≡ n → IsNode m → m.made ≡ map progress_made clients → k ≡ client → client < length n.script.clients
    → HasNext n client progress → new ≡ one_command_more progress
    → state_of (record m { clock = m.clock + 1; made = map progress_made (slice_set clients k new) }) ≡ one_made client (at_clock (n.clock + 1) (state_of n))
advanced_at m n clients client k progress new same node made place =
    subst (λ (n : NodeData). client < length n.script.clients → HasNext n client progress → new ≡ one_command_more progress
    → state_of (record m { clock = m.clock + 1; made = map progress_made (slice_set clients k new) }) ≡ one_made client (at_clock (n.clock + 1) (state_of n))) same
    (λ inside next is.
    ap (λ (i : ℕ). state_of (record m { clock = m.clock + 1; made = map progress_made (slice_set clients i new) })) place
    ∙ ap (λ (p : Progress). state_of (record m { clock = m.clock + 1; made = map progress_made (slice_set clients client p) })) is
    ∙ advanced m clients client progress made (omega (arith, inside, node.clients)) next.made)

pub node_advanced : (m : NodeData) (clients : List Progress) (k : ℕ) (new : Progress) → IsNode m → m.made ≡ map progress_made clients
    → IsNode (record m { clock = m.clock + 1; made = map progress_made (slice_set clients k new) })
node_advanced m clients k new node made = record {
  is_script = node.is_script;
  within = node.within;
  clients = omega (arith, node.clients, ap (λ (l : List ℕ). length l) made, length-map clients progress_made, length-map (slice_set clients k new) progress_made, length-set clients k new);
  sets = node.sets;
  places = node.places;
}

pub clients_advanced : (script : ScriptData) (q : ℕ) (homes : List ℕ) (clients : List Progress) (k : ℕ) (progress new : Progress) → KnowsClients script q homes clients → k < length clients
    → progress ≡ slice_index_or clients k progress → new ≡ one_command_more progress → KnowsClients script q homes (slice_set clients k new)
clients_advanced script q homes clients k progress new knows inside at is =
    subst (λ (p : Progress). KnowsClients script q homes (slice_set clients k p)) (sym is)
    (clients_kept script q homes clients k progress knows (at ∙ get_or_default clients k progress no_progress inside))

-- A command more leaves a node a node.

-- what the client's list is in the script with the command
own_more : (script : ScriptData) (client : ℕ) (command : Command) → commands_of (with_request script client command) client ≡ commands_of script client ++ command ∷ []
own_more script client command =
    filter_map-append (command_if client) script.commands ((client, command) ∷ [])
    ∙ ap (λ (t : Bool). commands_of script client ++ cons_option (if t then Some command else None) []) (eq-eqb client client refl)

-- and the list of each other client
others_stay : (script : ScriptData) (client other : ℕ) (command : Command) → (other ≡ client → ⊥) → commands_of (with_request script client command) other ≡ commands_of script other
others_stay script client other command apart =
    filter_map-append (command_if other) script.commands ((client, command) ∷ [])
    ∙ ap (λ (t : Bool). commands_of script other ++ cons_option (if t then Some command else None) []) (ne_eqb client other (λ e. apart (sym e)))
    ∙ append-nil (commands_of script other)

-- the node knows the commands of the script with the command
pub clients_appended : (script : ScriptData) (q : ℕ) (homes : List ℕ) (clients : List Progress) (client : ℕ) (progress : Progress) (command : Command)
    → KnowsClients script q homes clients → client < length clients → home script client ≡ q → progress ≡ slice_index_or clients client progress
    → KnowsClients (with_request script client command) q homes (slice_set clients client (with_command progress command))
clients_appended script q homes clients client progress command knows inside at_home at = record {
  homes_are = knows.homes_are;
  own = λ k within own. elim (cases_eq k client) [
    | inl same ↦
        ap (λ (p : Progress). p.commands) (get_or-set_at clients client k (with_command progress command) no_progress same inside)
        ∙ ap (λ (p : Progress). p.commands ++ command ∷ []) (at ∙ get_or_default clients client progress no_progress inside)
        ∙ ap (λ (l : List Command). l ++ command ∷ []) (knows.own client inside at_home)
        ∙ sym (own_more script client command)
        ∙ ap (commands_of (with_request script client command)) (sym same)
    | inr other ↦
        ap (λ (p : Progress). p.commands) (get_or-set_other clients client k (with_command progress command) no_progress other)
        ∙ knows.own k (omega (arith, within, length-set clients client (with_command progress command))) own
        ∙ sym (others_stay script client k command other)
  ];
}

-- as many commands were made
made_appended : (clients : List Progress) (client : ℕ) (progress : Progress) (command : Command) → progress ≡ slice_index_or clients client progress
    → map progress_made (slice_set clients client (with_command progress command)) ≡ map progress_made clients
made_appended clients client progress command at = map-set_same progress_made clients client (with_command progress command) progress (ap progress_made at)

-- the node with this script and these clients
abbrev pub with_parts : NodeData → ScriptData → List Progress → NodeData
with_parts m script clients = record m { script = script; made = map progress_made clients }

-- what a node keeps, where its code holds this
pub record Holds (m : NodeData) (homes : List ℕ) (clients : List Progress) : Type 0 where
  pub node : IsNode m
  pub knows : KnowsClients m.script m.me homes clients

-- and this is what contracts see of it
pub record HoldsAs (m n : NodeData) (homes : List ℕ) (clients : List Progress) : Type 0 where
  pub holds : Holds m homes clients
  pub is : m ≡ n

-- what an appended command asks for
pub record MayAppend (n : NodeData) (client : ℕ) (command : Command) : Type 0 where
  pub inside : client < length n.script.clients
  pub here : home n.script client ≡ n.me
  pub targets : HasTargets n.script.sets n.script.clients client command
  pub modes : IsOfVersion n.script.version command
  pub room : length n.script.commands < MAX_COMMANDS_OF_SERVICE

appended_here : (m : NodeData) (homes : List ℕ) (clients : List Progress) (client : ℕ) (progress : Progress) (command : Command)
    → IsNode m → m.made ≡ map progress_made clients → KnowsClients m.script m.me homes clients → progress ≡ slice_index_or clients client progress → MayAppend m client command
    → HoldsAs (with_parts m (with_request m.script client command) (slice_set clients client (with_command progress command)))
    (record m { script = with_request m.script client command }) homes (slice_set clients client (with_command progress command))
appended_here m homes clients client progress command node made knows at may =
    let same : map progress_made (slice_set clients client (with_command progress command)) ≡ m.made =
    made_appended clients client progress command at ∙ sym made in
    let inside : client < length clients = omega (arith, may.inside, node.clients, ap (λ (l : List ℕ). length l) made, length-map clients progress_made) in
    record {
      holds = record {
        node = record {
          is_script = command_added m.script client command node.is_script may.room (may.inside, may.targets) may.modes;
          within = node.within;
          clients = ap (λ (l : List ℕ). length l) same ∙ node.clients;
          sets = node.sets;
          places = node.places;
        };
        knows = clients_appended m.script m.me homes clients client progress command knows inside may.here at;
      };
      is = ap (λ (l : List ℕ). let n : NodeData = record m { script = with_request m.script client command; made = l } in n) same;
    }

-- in terms of what the code has in hand
pub appended_at : (m n : NodeData) (homes : List ℕ) (clients : List Progress) (client k : ℕ) (progress new : Progress) (script : ScriptData) (command : Command)
    → m ≡ n → IsNode m → m.made ≡ map progress_made clients → KnowsClients m.script m.me homes clients → k ≡ client → progress ≡ slice_index_or clients k progress
    → MayAppend n client command → new ≡ with_command progress command → script ≡ with_request m.script client command
    → HoldsAs (with_parts m script (slice_set clients k new)) (record n { script = with_request n.script client command }) homes (slice_set clients k new)
appended_at m n homes clients client k progress new script command same node made knows place at may is_new is_script =
    subst (λ (n : NodeData). MayAppend n client command
    → HoldsAs (with_parts m script (slice_set clients k new)) (record n { script = with_request n.script client command }) homes (slice_set clients k new)) same
    (λ may_here.
    subst (λ (s : ScriptData). HoldsAs (with_parts m s (slice_set clients k new)) (record m { script = with_request m.script client command }) homes (slice_set clients k new)) (sym is_script)
    (subst (λ (p : Progress). HoldsAs (with_parts m (with_request m.script client command) (slice_set clients k p)) (record m { script = with_request m.script client command }) homes (slice_set clients k p)) (sym is_new)
    (subst (λ (i : ℕ). HoldsAs (with_parts m (with_request m.script client command) (slice_set clients i (with_command progress command)))
    (record m { script = with_request m.script client command }) homes (slice_set clients i (with_command progress command))) (sym place)
    (appended_here m homes clients client progress command node made knows (at ∙ ap (λ (i : ℕ). slice_index_or clients i progress) place) may_here))))
    may
