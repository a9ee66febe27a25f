-- A graph of who waits for whom: the clients that wait in a ring, and where a walk from client to client ends.
use Rattle.std.specs.Prelude.{◌<◌, Bool, true, ◌==◌, ℕ, zero, suc, ◌+◌, List, [], ◌∷◌, ◌++◌, Option, Some, None, if◌then◌else◌, filter, IsTrue, Contains, length, map, flat_map, find}
use Rattle.std.specs.List.{list_any, range_with_len}
use Rattle.lt_modes.specs.Script.{ScriptData}
use Rattle.lt_spec.specs.World.{World}
use Rattle.lt_spec.specs.Holdings.{waits_for, waits_behind_void}

-- whether the first of two clients waits for the second
abbrev pub Graph : Type 0
Graph = ℕ → ℕ → Bool

-- the numbers of n clients, in order
abbrev pub numbers_below : ℕ → List ℕ
numbers_below n = range_with_len 0 n

-- these are clients of the n
abbrev pub AreBelow : ℕ → List ℕ → Type 0
AreBelow n clients = (c : ℕ) → Contains clients c → c < n

-- the first of these clients, and the goal where there is none
abbrev pub first_or : ℕ → List ℕ → ℕ
first_or goal [] = goal
first_or goal (c ∷ rest) = c

-- each of these clients waits for the next one, and the last one for the goal
abbrev pub IsPath : Graph → List ℕ → ℕ → Type 0
IsPath graph [] goal = Unit {0}
IsPath graph (c ∷ rest) goal = IsTrue (graph c (first_or goal rest)) × IsPath graph rest goal

-- each of these clients waits for the next one, and the last one for the first
abbrev pub IsRing : Graph → List ℕ → Type 0
IsRing graph [] = ⊥
IsRing graph (c ∷ rest) = IsPath graph (c ∷ rest) c

-- those of these clients that wait for one of them
abbrev pub still_waiting : Graph → List ℕ → List ℕ
still_waiting graph clients = filter (λ c. list_any (graph c) clients) clients

-- the clients that remain after so many rounds, each of which takes away those that wait for none that remained
abbrev pub remaining : Graph → List ℕ → ℕ → List ℕ
remaining graph clients zero = clients
remaining graph clients (suc k) = still_waiting graph (remaining graph clients k)

-- the ring set of n clients: those that remain after n rounds
abbrev pub ring_set : ℕ → Graph → List ℕ
ring_set n graph = remaining graph (numbers_below n) n

-- the least of these clients for which c waits
abbrev pub next_among : Graph → List ℕ → ℕ → Option ℕ
next_among graph clients c = find (graph c) clients

-- the client is on the walk
abbrev pub has_come : List ℕ → ℕ → Bool
has_come walk c = list_any (λ d. c == d) walk

-- the walk from the first coming of c on
abbrev pub from_coming : List ℕ → ℕ → List ℕ
from_coming [] c = []
from_coming (d ∷ rest) c = if d == c then d ∷ rest else from_coming rest c

-- the walk came through these clients and goes on to the next one, until a client comes a second time
abbrev pub ring_from : ℕ → Graph → List ℕ → List ℕ → Option ℕ → List ℕ
ring_from fuel graph clients walk None = []
ring_from zero graph clients walk (Some c) = []
ring_from (suc fuel) graph clients walk (Some c) =
    if has_come walk c then from_coming walk c else ring_from fuel graph clients (walk ++ c ∷ []) (next_among graph clients c)

-- the ring in which the walk from the first of these clients ends
abbrev pub ring_of : ℕ → Graph → List ℕ → List ℕ
ring_of n graph clients = ring_from (n + 1) graph clients [] (find (λ c. true) clients)

abbrev pub walk_on : (ℕ → ℕ) → ℕ → Option ℕ → ℕ
walk_on again c None = c
walk_on again c (Some d) = again d

abbrev pub walk_end_from : ℕ → ℕ → Graph → ℕ → ℕ
walk_end_from zero n graph c = c
walk_end_from (suc fuel) n graph c = walk_on (walk_end_from fuel n graph) c (next_among graph (numbers_below n) c)

-- the client at which the walk from c ends, each one going on to the least client for which it waits
abbrev pub walk_end : ℕ → Graph → ℕ → ℕ
walk_end n graph c = walk_end_from n n graph c

-- the client waits for some client
abbrev pub waits_for_some : ℕ → Graph → ℕ → Bool
waits_for_some n graph c = list_any (graph c) (numbers_below n)

-- The report of who waits for whom.

-- a line of the report: the first client waits for the second; these clients wait in a ring; none do;
-- the walk of a client that waits ends at the second; the first client waits behind a void ask of the second
pub data ReportLine : Type 0 where
  WaitsLine : ℕ → ℕ → ReportLine
  CycleLine : List ℕ → ReportLine
  NoCycleLine : ReportLine
  EndsLine : ℕ → ℕ → ReportLine
  VoidLine : ℕ → ℕ → ReportLine

-- each client with each client for which it waits
abbrev pub waits_lines : ℕ → Graph → List ReportLine
waits_lines n graph = flat_map (λ c. map (WaitsLine c) (filter (graph c) (numbers_below n))) (numbers_below n)

-- each client that waits, with the end of its walk
abbrev pub ends_lines : ℕ → Graph → List ReportLine
ends_lines n graph = map (λ c. EndsLine c (walk_end n graph c)) (filter (waits_for_some n graph) (numbers_below n))

-- the ring, or the ends where there is none
abbrev pub last_lines : ℕ → Graph → List ℕ → List ReportLine
last_lines n graph [] = NoCycleLine ∷ ends_lines n graph
last_lines n graph (c ∷ rest) = CycleLine (ring_of n graph (c ∷ rest)) ∷ []

-- the report of n clients
abbrev pub report : ℕ → Graph → List ReportLine
report n graph = waits_lines n graph ++ last_lines n graph (ring_set n graph)

-- each client with each client behind whose void ask it waits
abbrev pub void_lines : ℕ → Graph → List ReportLine
void_lines n behind = flat_map (λ c. map (VoidLine c) (filter (behind c) (numbers_below n))) (numbers_below n)

-- who waits for whom in the world, and who waits behind void asks
abbrev pub waits_report : ScriptData → World → List ReportLine
waits_report script w =
    report (length script.clients) (waits_for script w)
    ++ void_lines (length script.clients) (waits_behind_void script w)
