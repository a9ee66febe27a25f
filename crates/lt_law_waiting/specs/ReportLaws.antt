-- What the lines of a report tell of any graph of n clients, as statements.
use Rattle.std.specs.Prelude.{◌≡◌, ◌<◌, ◌==◌, ℕ, List, [], ◌∷◌, ◌++◌, ◌↔◌, IsTrue, Contains, ◌≢◌, IsFalse, codes}
use Rattle.std.specs.List.{IsDistinct}
use Rattle.lt_modes.specs.declared.mode.Mode.TheVariants.{IntentionRead, Read, Upgrade, IntentionWrite, Write}
use Rattle.lt_modes.specs.declared.command.Command.TheVariants.{Lock, Try, Unlock, Change, Withdraw}
use Rattle.lt_modes.specs.Script.{ScriptData}
use Rattle.lt_spec.specs.Rings.{Graph, AreBelow, IsRing, ring_set, walk_end, WaitsLine, CycleLine, NoCycleLine, EndsLine, VoidLine, waits_lines, report, ring_of, ReportLine, waits_report}
use Rattle.lt_spec.specs.World.{world_after}
use Rattle.lt_spec.specs.FixedOrder.{first_run}
use Rattle.lt_law_examples.specs.Worked.{Worked, declared_set, declared_client}
use Rattle.lt_law_examples.specs.WorkedOneNode.{write_kept}
use Rattle.lt_law_examples.specs.WorkedNodes.{changes_from_two_nodes, asks_park_behind}

-- the report has a line `waits` for exactly each client and each client for which it waits
abbrev pub WaitsAreTold : Type 0
WaitsAreTold = (n : ℕ) (graph : Graph) (c d : ℕ)
    → Contains (report n graph) (WaitsLine c d) ↔ ((c < n) × (d < n) × IsTrue (graph c d))

-- a line `cycle` names clients that wait in a ring, none of them twice
abbrev pub CyclesAreRings : Type 0
CyclesAreRings = (n : ℕ) (graph : Graph) (ring : List ℕ) → Contains (report n graph) (CycleLine ring)
    → AreBelow n ring × IsRing graph ring × IsDistinct (λ a b. a == b) ring

-- where some clients wait in a ring, one line `cycle` follows the lines `waits`, and nothing follows it
abbrev pub RingsAreTold : Type 0
RingsAreTold = (n : ℕ) (graph : Graph) (clients : List ℕ) → AreBelow n clients → IsRing graph clients
    → (ring : List ℕ) × (report n graph ≡ waits_lines n graph ++ CycleLine ring ∷ [])

-- a line `no cycle` stands exactly where no clients wait in a ring
abbrev pub NoCycleIsTold : Type 0
NoCycleIsTold = (n : ℕ) (graph : Graph)
    → Contains (report n graph) NoCycleLine ↔ ((clients : List ℕ) → AreBelow n clients → IsRing graph clients → ⊥)

-- a line `ends` stands only where no clients wait in a ring: it names a client that waits, and the end of its walk
abbrev pub EndsAreTold : Type 0
EndsAreTold = (n : ℕ) (graph : Graph) (c d : ℕ) → Contains (report n graph) (EndsLine c d)
    → (ring_set n graph ≡ []) × (c < n) × (d ≡ walk_end n graph c) × (other : ℕ) × (other < n) × IsTrue (graph c other)

-- where no clients wait in a ring, each client that waits has its line `ends`
abbrev pub EndsAreAll : Type 0
EndsAreAll = (n : ℕ) (graph : Graph) → ring_set n graph ≡ [] → (c d : ℕ) → c < n → d < n → IsTrue (graph c d)
    → Contains (report n graph) (EndsLine c (walk_end n graph c))

-- What the rings and walks of any graph of n clients are, as statements.

-- each member of the ring set waits for a member
abbrev pub RingSetWaits : Type 0
RingSetWaits = (n : ℕ) (graph : Graph) (c : ℕ) → Contains (ring_set n graph) c
    → (c < n) × (d : ℕ) × Contains (ring_set n graph) d × IsTrue (graph c d)

-- clients that each wait for one of them are in the ring set
abbrev pub RingSetIsGreatest : Type 0
RingSetIsGreatest = (n : ℕ) (graph : Graph) (clients : List ℕ) → AreBelow n clients
    → ((c : ℕ) → Contains clients c → (d : ℕ) × Contains clients d × IsTrue (graph c d))
    → (c : ℕ) → Contains clients c → Contains (ring_set n graph) c

-- where the ring set has a member, the walk finds a ring in it, in which no client stands twice
abbrev pub WalkFindsRing : Type 0
WalkFindsRing = (n : ℕ) (graph : Graph) → ring_set n graph ≢ []
    → IsRing graph (ring_of n graph (ring_set n graph))
    × ((c : ℕ) → Contains (ring_of n graph (ring_set n graph)) c → Contains (ring_set n graph) c)
    × IsDistinct (λ a b. a == b) (ring_of n graph (ring_set n graph))

-- where it has none, no clients wait in a ring
abbrev pub NoRing : Type 0
NoRing = (n : ℕ) (graph : Graph) → ring_set n graph ≡ [] → (clients : List ℕ) → AreBelow n clients → IsRing graph clients → ⊥

-- and the walk of each client ends at one that waits for none, for which some client waits if the walk made a step
abbrev pub WalksEnd : Type 0
WalksEnd = (n : ℕ) (graph : Graph) → ring_set n graph ≡ [] → (c : ℕ) → c < n
    → (walk_end n graph c < n) × ((d : ℕ) → d < n → IsFalse (graph (walk_end n graph c) d))
    × ((d : ℕ) → d < n → IsTrue (graph c d) → (last : ℕ) × (last < n) × IsTrue (graph last (walk_end n graph c)))

-- Reports of small runs, in the fixed order of moves.

-- this is the report after the run of a worked example
abbrev pub ReportsAfter : Worked → List ReportLine → Type 0
ReportsAfter row lines = waits_report row.script (world_after row.script row.run) ≡ lines

-- Two clients that read want to write.
abbrev pub ChangesReport : Type 0
ChangesReport = ReportsAfter changes_from_two_nodes (WaitsLine 0 1 ∷ WaitsLine 1 0 ∷ CycleLine (0 ∷ 1 ∷ []) ∷ [])

-- A client ended and kept its lock.
abbrev pub KeptReport : Type 0
KeptReport = ReportsAfter write_kept (WaitsLine 1 0 ∷ NoCycleLine ∷ EndsLine 1 0 ∷ [])

-- Asks are parked behind asks.
abbrev pub ParkedReport : Type 0
ParkedReport = ReportsAfter asks_park_behind
    (WaitsLine 1 0 ∷ WaitsLine 2 0 ∷ WaitsLine 2 1 ∷ WaitsLine 3 0 ∷ WaitsLine 3 2 ∷ NoCycleLine ∷ EndsLine 1 0 ∷ EndsLine 2 0 ∷ EndsLine 3 0 ∷ [])

-- this is the report after at most so many moves of the script, always the first one
abbrev pub ReportsOf : ScriptData → ℕ → List ReportLine → Type 0
ReportsOf script moves lines = waits_report script (world_after script (first_run script moves)) ≡ lines

-- The least client that waits stands outside of the ring: its walk comes to the ring.
abbrev pub ring_behind_least : ScriptData
ring_behind_least = record {
  version = 1;
  nodes = 1;
  sets = declared_set (codes "s0") 0 ∷ [];
  clients = declared_client (codes "c0") 0 ∷ declared_client (codes "c1") 0 ∷ declared_client (codes "c2") 0 ∷ declared_client (codes "c3") 0 ∷ declared_client (codes "c4") 0 ∷ [];
  commands =
      (1, Unlock 0 Upgrade) ∷
      (4, Lock 0 Write) ∷
      (2, Lock 0 IntentionRead) ∷
      (4, Lock 0 Read) ∷
      (4, Lock 0 Write) ∷
      (3, Lock 0 Upgrade) ∷
      (2, Lock 0 Write) ∷
      (3, Lock 0 Write) ∷
      (2, Lock 0 IntentionWrite) ∷
      (1, Lock 0 Upgrade) ∷
      (1, Lock 0 IntentionWrite) ∷
      (4, Lock 0 Read) ∷
      (1, Lock 0 IntentionWrite) ∷
      [];
}

abbrev pub RingBehindLeast : Type 0
RingBehindLeast = ReportsOf ring_behind_least 8
    (WaitsLine 1 2 ∷ WaitsLine 1 3 ∷ WaitsLine 1 4 ∷ WaitsLine 2 3 ∷ WaitsLine 3 2 ∷ WaitsLine 4 2 ∷ WaitsLine 4 3 ∷ CycleLine (2 ∷ 3 ∷ []) ∷ [])

-- No ring: walks of several steps end at a client that has ended.
abbrev pub long_walk : ScriptData
long_walk = record {
  version = 1;
  nodes = 1;
  sets = declared_set (codes "s0") 0 ∷ declared_set (codes "s1") 1 ∷ [];
  clients = declared_client (codes "c0") 0 ∷ declared_client (codes "c1") 0 ∷ declared_client (codes "c2") 0 ∷ declared_client (codes "c3") 0 ∷ declared_client (codes "c4") 0 ∷ [];
  commands =
      (1, Lock 0 IntentionRead) ∷
      (4, Lock 0 IntentionRead) ∷
      (1, Lock 1 IntentionWrite) ∷
      (3, Lock 0 Write) ∷
      (3, Lock 0 Upgrade) ∷
      (3, Lock 0 Upgrade) ∷
      (2, Lock 1 Upgrade) ∷
      (1, Lock 1 Write) ∷
      (3, Lock 1 IntentionWrite) ∷
      [];
}

abbrev pub LongWalk : Type 0
LongWalk = ReportsOf long_walk 6
    (WaitsLine 1 2 ∷ WaitsLine 3 1 ∷ WaitsLine 4 3 ∷ NoCycleLine ∷ EndsLine 1 2 ∷ EndsLine 3 2 ∷ EndsLine 4 2 ∷ [])

-- A ring of three, over two sets and two nodes.
abbrev pub ring_of_three : ScriptData
ring_of_three = record {
  version = 1;
  nodes = 4;
  sets = declared_set (codes "s0") 0 ∷ declared_set (codes "s1") 1 ∷ [];
  clients = declared_client (codes "c0") 0 ∷ declared_client (codes "c1") 0 ∷ declared_client (codes "c2") 3 ∷ declared_client (codes "c3") 3 ∷ [];
  commands =
      (1, Try 1 Read) ∷
      (3, Lock 1 Write) ∷
      (3, Change 1 Read Write) ∷
      (1, Lock 0 Write) ∷
      (0, Lock 0 Write) ∷
      (1, Lock 1 IntentionRead) ∷
      (0, Lock 1 Read) ∷
      [];
}

abbrev pub RingOfThree : Type 0
RingOfThree = ReportsOf ring_of_three 7
    (WaitsLine 0 3 ∷ WaitsLine 1 0 ∷ WaitsLine 3 1 ∷ CycleLine (0 ∷ 3 ∷ 1 ∷ []) ∷ [])

-- A ring of four, over two sets.
abbrev pub ring_of_four : ScriptData
ring_of_four = record {
  version = 1;
  nodes = 1;
  sets = declared_set (codes "s0") 0 ∷ declared_set (codes "s1") 1 ∷ [];
  clients = declared_client (codes "c0") 0 ∷ declared_client (codes "c1") 0 ∷ declared_client (codes "c2") 0 ∷ declared_client (codes "c3") 0 ∷ [];
  commands =
      (1, Lock 1 Write) ∷
      (0, Unlock 1 Read) ∷
      (3, Lock 0 Write) ∷
      (2, Lock 0 IntentionRead) ∷
      (0, Lock 1 Write) ∷
      (1, Lock 0 Upgrade) ∷
      (3, Lock 1 Write) ∷
      (0, Lock 0 IntentionRead) ∷
      (2, Lock 1 Read) ∷
      (3, Try 1 IntentionRead) ∷
      [];
}

abbrev pub RingOfFour : Type 0
RingOfFour = ReportsOf ring_of_four 8
    (WaitsLine 0 1 ∷ WaitsLine 1 3 ∷ WaitsLine 2 0 ∷ WaitsLine 2 1 ∷ WaitsLine 3 2 ∷ CycleLine (0 ∷ 1 ∷ 3 ∷ 2 ∷ []) ∷ [])

-- A ring, beside a client that waits for one that has ended.
abbrev pub ring_and_ended : ScriptData
ring_and_ended = record {
  version = 1;
  nodes = 1;
  sets = declared_set (codes "s0") 0 ∷ declared_set (codes "s1") 1 ∷ [];
  clients = declared_client (codes "c0") 0 ∷ declared_client (codes "c1") 0 ∷ declared_client (codes "c2") 0 ∷ declared_client (codes "c3") 0 ∷ [];
  commands =
      (0, Lock 0 Read) ∷
      (3, Lock 1 Write) ∷
      (3, Lock 0 Upgrade) ∷
      (3, Lock 1 Write) ∷
      (0, Lock 0 Write) ∷
      (1, Try 0 IntentionRead) ∷
      (1, Lock 0 Read) ∷
      (2, Lock 1 Write) ∷
      (3, Lock 1 Upgrade) ∷
      (1, Lock 0 IntentionRead) ∷
      (1, Lock 1 Write) ∷
      (1, Lock 1 Upgrade) ∷
      [];
}

abbrev pub RingAndEnded : Type 0
RingAndEnded = ReportsOf ring_and_ended 7
    (WaitsLine 0 1 ∷ WaitsLine 1 0 ∷ WaitsLine 3 2 ∷ CycleLine (0 ∷ 1 ∷ []) ∷ [])

-- An ask that was given up stands in the way of a reader, since the desk is at another node.
abbrev pub void_in_the_way : ScriptData
void_in_the_way = record {
  version = 3;
  nodes = 2;
  sets = declared_set (codes "s0") 0 ∷ [];
  clients = declared_client (codes "c0") 0 ∷ declared_client (codes "c1") 1 ∷ declared_client (codes "c2") 1 ∷ [];
  commands =
      (0, Lock 0 Read) ∷
      (1, Lock 0 Write) ∷
      (2, Lock 0 Read) ∷
      (1, Withdraw 1 0) ∷
      [];
}

abbrev pub VoidInTheWay : Type 0
VoidInTheWay = ReportsOf void_in_the_way 12 (NoCycleLine ∷ VoidLine 2 1 ∷ [])
