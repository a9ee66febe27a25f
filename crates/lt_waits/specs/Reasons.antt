-- What a client that waits wants, and how another one keeps it from that: by the locks that it holds, or in the queue.
use Rattle.std.specs.Prelude.{ℕ, List, [], ◌∷◌, ◌++◌, Bool, false, ◌&&◌, if◌then◌else◌, Option, None, Some, nat_lt, codes, filter, flat_map, length, map}
use Rattle.std.specs.List.{list_any}
use Rattle.lt_modes.specs.declared.mode.Mode.{Mode}
use Rattle.lt_modes.specs.declared.event.Event.{Event}
use Rattle.lt_modes.specs.Modes.{conflicts, modes_in_order, word_of}
use Rattle.lt_modes.specs.Script.{ScriptData, client_name, set_name}
use Rattle.lt_text.specs.Text.{text}
use Rattle.lt_spec.specs.Holdings.{Holding, holding, holdings, times_held, wanted, lines_of, waits_for}
use Rattle.lt_spec.specs.World.{Logged, world_after}
use Rattle.lt_spec.specs.Rings.{Graph}
use Rattle.lt_waits.specs.declared.edge.Edge.{Edge}

-- the lock, if its set is of the script
abbrev pub in_sets : ScriptData → Option Holding → Option Holding
in_sets script None = None
in_sets script (Some lock) = if nat_lt lock.set (length script.sets) then Some lock else None

-- the lock of a set of the script for which the client waits by the lines
abbrev pub want_of : ScriptData → List Event → ℕ → Option Holding
want_of script lines client = in_sets script (wanted client lines)

-- by the lines the other client holds a lock of this mode that conflicts with what is wanted
abbrev pub bars_want : ScriptData → List Event → Holding → ℕ → Mode → Bool
bars_want script lines want other mode =
    conflicts want.mode mode && nat_lt 0 (times_held (holdings script lines) (holding other want.set mode))

-- the modes of the other client's locks that conflict with what is wanted
abbrev pub barring : ScriptData → List Event → Holding → ℕ → List Mode
barring script lines want other = filter (bars_want script lines want other) modes_in_order

-- the other client holds a lock that conflicts with what is wanted
abbrev pub is_barred : ScriptData → List Event → Option Holding → ℕ → Bool
is_barred script lines None other = false
is_barred script lines (Some want) other = list_any (bars_want script lines want other) modes_in_order

-- of those that wait for each other in the graph, those of which the second holds a lock that conflicts with what the
-- first wants
abbrev pub by_lock : ScriptData → List Event → Graph → Graph
by_lock script lines graph client other =
    graph client other && is_barred script lines (want_of script lines client) other

-- the same of those that wait for each other at the end of the run
abbrev pub waits_by_lock : ScriptData → List Logged → Graph
waits_by_lock script run = by_lock script (lines_of run) (waits_for script (world_after script run))

-- how the one of this name keeps a client that wants something: by its locks of these modes, or else in the queue
abbrev pub keeping_text : List ℕ → List Mode → List ℕ
keeping_text name [] = codes ", behind " ++ name ++ codes " in the queue"
keeping_text name (mode ∷ modes) =
    codes ", which " ++ name ++ codes " holds by " ++ word_of mode ++ flat_map (λ m. codes " and " ++ word_of m) modes

-- the words behind the name of a client: what it wants, and how the other one keeps it
abbrev pub waiting_text : ScriptData → List Event → ℕ → Option Holding → List ℕ
waiting_text script lines other None = codes " waits for " ++ client_name script other
waiting_text script lines other (Some want) =
    codes " wants " ++ set_name script want.set ++ codes " " ++ word_of want.mode
    ++ keeping_text (client_name script other) (barring script lines want other)

-- the line of a client that waits for another one
abbrev pub edge_line : ScriptData → List Event → Edge → List ℕ
edge_line script lines e =
    client_name script e.client ++ waiting_text script lines e.other (want_of script lines e.client)

-- the lines of such clients
abbrev pub edges_text : ScriptData → List Event → List Edge → List ℕ
edges_text script lines edges = text (map (edge_line script lines) edges)

-- what a client that waits behind a void ask wants
abbrev pub want_text : ScriptData → Option Holding → List ℕ
want_text script None = codes " waits"
want_text script (Some want) =
    codes " wants " ++ (set_name script want.set ++ (codes " " ++ word_of want.mode)) ++ codes ","

-- whose void ask is before it: that of the one of this name
abbrev pub gave_up_text : List ℕ → List ℕ
gave_up_text name = codes " behind an ask that " ++ (name ++ codes " gave up")

-- the words behind the name of a client that waits behind a void ask of another one
abbrev pub behind_void_text : ScriptData → List Event → Edge → List ℕ
behind_void_text script lines e =
    want_text script (want_of script lines e.client) ++ gave_up_text (client_name script e.other)

-- the line of such a client
abbrev pub void_line_text : ScriptData → List Event → Edge → List ℕ
void_line_text script lines e = client_name script e.client ++ behind_void_text script lines e

-- the lines of such clients
abbrev pub voids_text : ScriptData → List Event → List Edge → List ℕ
voids_text script lines edges = text (map (void_line_text script lines) edges)
