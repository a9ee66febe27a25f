-- A moment of a worked run: the whole world after so many of its moves, as plain data.
use Rattle.std.specs.Prelude.{◌≡◌, Bool, true, false, ◌||◌, ◌==◌, ◌&&◌, ℕ, ◌+◌, List, [], ◌∷◌, ◌++◌, replicate, Option, Some, None, length, map, take, if◌then◌else◌, not}
use Rattle.std.specs.List.{range_with_len}
use Rattle.lt_modes.specs.declared.mode.Mode.{Mode}
use Rattle.lt_modes.specs.declared.stamp.Stamp.{Stamp}
use Rattle.lt_modes.specs.declared.ask.Ask.{Ask}
use Rattle.lt_modes.specs.declared.moves.Step.{Step}
use Rattle.lt_modes.specs.declared.moves.Step.TheVariants.{Act, Take}
use Rattle.lt_modes.specs.declared.parts.Link.{Link}
use Rattle.lt_modes.specs.declared.parts.Row.{Row}
use Rattle.lt_modes.specs.declared.parts.Hoped.{Hoped}
use Rattle.lt_modes.specs.declared.parts.Owed.{Owed}
use Rattle.lt_modes.specs.Modes.{Modes, no_modes}
use Rattle.lt_modes.specs.State.{SetState, Desk, Letter, Body, TellBody, Post, Entry}
use Rattle.lt_modes.specs.Script.{ScriptData}
use Rattle.lt_spec.specs.NodeMove.{NodeState}
use Rattle.lt_spec.specs.World.{World, world_after, is_enabled, is_waiting, is_at_rest, anyone_waits}
use Rattle.lt_spec.specs.FixedOrder.{Turn, pick, count_turns}
use Rattle.lt_law_examples.specs.Worked.{Worked}

-- a node: its clock, how many commands each client of the script has made at it, and its sets
pub record NodeSnapshot : Type 0 where
  pub clock : ℕ
  pub made : List ℕ
  pub sets : List SetState

-- after this many moves of the run: the nodes by number; the letters on their way, those of one pair of nodes
-- with the oldest first; for each set the nodes that had its token; the enabled moves in the fixed order; the
-- clients that wait; and whether the world is at rest
pub record Snapshot : Type 0 where
  pub row : Worked
  pub moves : ℕ
  pub nodes : List NodeSnapshot
  pub mail : List Post
  pub went : List (List ℕ)
  pub turns : List Turn
  pub waiting : List ℕ
  pub rest : Bool

abbrev pub stamp : ℕ → ℕ → Stamp
stamp clock node = record { clock = clock; node = node }

-- what the desk knows of a node of which it was told nothing
abbrev pub blank : Entry
blank = record { reported = no_modes; owed = []; told_at = stamp 0 0; pending = []; frozen_told = no_modes }

-- what a node without the desk keeps for a set that nothing has touched there
abbrev pub untouched_set : SetState
untouched_set = record {
  held = [];
  charge = no_modes;
  frozen = no_modes;
  number = 0;
  firm = record { node = 0; epoch = 0 };
  hoped = None;
  pending = [];
  parked = [];
  desk = None;
  gone = [];
}

-- the desk of a set that nothing has touched, with an entry for each of so many nodes
abbrev pub untouched_desk : ℕ → Desk
untouched_desk nodes = record { epoch = 0; number = 0; queue = []; entries = replicate nodes blank }

-- what the node with the desk keeps for such a set
abbrev pub untouched_at_desk : ℕ → SetState
untouched_at_desk nodes = record untouched_set { desk = Some (untouched_desk nodes) }

-- a node at which nothing was done, of a script with so many clients and sets
abbrev pub untouched_node : ℕ → ℕ → NodeSnapshot
untouched_node clients sets = record { clock = 0; made = replicate clients 0; sets = replicate sets untouched_set }

abbrev pub held_row : ℕ → Mode → ℕ → Row
held_row client mode count = record { client = client; mode = mode; count = count }

abbrev pub hoped : ℕ → Stamp → Option Hoped
hoped node stamp = Some (record { node = node; stamp = stamp })

abbrev pub owed : Stamp → Mode → Owed
owed stamp mode = record { stamp = stamp; mode = mode }

abbrev pub entry : Modes → List Owed → Stamp → List Stamp → Modes → Entry
entry reported owed told_at pending frozen_told = record {
  reported = reported;
  owed = owed;
  told_at = told_at;
  pending = pending;
  frozen_told = frozen_told;
}

-- an ask of a client that holds nothing in the set, and gives up nothing
abbrev pub new_ask : ℕ → Mode → Stamp → Ask
new_ask client mode stamp = record {
  client = client;
  node = stamp.node;
  mode = mode;
  gives_up = None;
  holder = false;
  stamp = stamp;
}

-- an ask of a client that holds a lock in the set
abbrev pub holder_ask : ℕ → Mode → Option Mode → Stamp → Ask
holder_ask client mode gives_up stamp = record {
  client = client;
  node = stamp.node;
  mode = mode;
  gives_up = gives_up;
  holder = true;
  stamp = stamp;
}

-- a letter to this node: its stamp, its set, the firm link of its sender, and what it says
abbrev pub mailed : ℕ → Stamp → ℕ → Link → Body → Post
mailed to stamp set link body =
    record { to = to; letter = record { stamp = stamp; set = set; link = link; body = body } }

-- what a node tells at this stamp: its held modes and its unanswered asks
abbrev pub tell_body : Modes → List Stamp → Stamp → Body
tell_body modes pending stamp = TellBody (record { node = stamp.node; modes = modes; pending = pending; stamp = stamp })

abbrev pub turn : ℕ → Step → Turn
turn node step = record { node = node; step = step }

-- f at the numbers below n
abbrev pub at_each : {X : Type 0} → ℕ → (ℕ → X) → List X
at_each n f = map f (range_with_len 0 n)

abbrev pub node_data : ScriptData → NodeState → NodeSnapshot
node_data script node = record {
  clock = node.clock;
  made = at_each (length script.clients) node.made;
  sets = at_each (length script.sets) node.set;
}

-- the letters that are listed from p to q: the node of a letter's stamp sent it
abbrev pub listed_mail : List Post → ℕ → ℕ → List Letter
listed_mail [] p q = []
listed_mail (m ∷ rest) p q =
    if m.letter.stamp.node == p && m.to == q then m.letter ∷ listed_mail rest p q else listed_mail rest p q

abbrev pub same_step : Step → Step → Bool
same_step (Act a) (Act b) = a == b
same_step (Take a) (Take b) = a == b
same_step a b = false

abbrev pub is_turn : List Turn → ℕ → Step → Bool
is_turn [] q step = false
is_turn (t ∷ rest) q step = (t.node == q && same_step t.step step) || is_turn rest q step

abbrev pub is_number : List ℕ → ℕ → Bool
is_number [] n = false
is_number (m ∷ rest) n = m == n || is_number rest n

abbrev pub is_empty : List ℕ → Bool
is_empty [] = true
is_empty (n ∷ rest) = false

-- the test of each act and each take at each node, with one node and one client more than the script has
abbrev pub each_turn : ScriptData → (ℕ → Step → Bool) → List (List Bool)
each_turn script test =
    at_each
    (script.nodes + 1)
    (λ q. at_each (script.nodes + 1) (λ p. test q (Take p)) ++ at_each (length script.clients + 1) (λ c. test q (Act c)))

-- the world is the one of the moment, at each number of the script; after the last enabled move the order has none
pub record IsWorldAt (script : ScriptData) (w : World) (m : Snapshot) : Type 0 where
  pub nodes : at_each script.nodes (λ q. node_data script (w.node q)) ≡ m.nodes
  pub mail : at_each script.nodes (λ p. at_each script.nodes (w.mail p))
      ≡ at_each script.nodes (λ p. at_each script.nodes (listed_mail m.mail p))
  pub went : at_each (length script.sets) w.went ≡ m.went
  pub order : at_each (length m.turns + 2) (pick script w) ≡ map Some m.turns ++ None ∷ None ∷ []
  pub count : count_turns script w ≡ length m.turns
  pub enabled : each_turn script (is_enabled script w) ≡ each_turn script (is_turn m.turns)
  pub waiting : at_each (length script.clients) (is_waiting script w) ≡ at_each (length script.clients) (is_number m.waiting)
  pub waits : anyone_waits script w ≡ not (is_empty m.waiting)
  pub rest : is_at_rest script w ≡ m.rest

-- so the world stands at the moment of the run
abbrev pub StandsSo : Snapshot → Type 0
StandsSo m = IsWorldAt m.row.script (world_after m.row.script (take m.moves m.row.run)) m
