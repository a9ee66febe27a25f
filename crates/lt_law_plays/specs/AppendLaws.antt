-- The laws of appended commands, as statements.
use Rattle.std.specs.Prelude.{◌≡◌, ◌==◌, ℕ, List, [], ◌∷◌, ◌++◌, if◌then◌else◌, ◌<◌}
use Rattle.lt_modes.specs.declared.command.Command.{Command}
use Rattle.lt_modes.specs.Script.{ScriptData}
use Rattle.lt_modes.specs.State.{Letter}
use Rattle.lt_spec.specs.World.{Logged, world_after, IsRun}
use Rattle.lt_spec.specs.NodeMove.{commands_of, NodeState, with_commands, AnyClient, IsHomeAt, GoOn, appended, home, SameAt, AreAt, share_of, joined_of}
use Rattle.lt_spec.specs.Plays.{Plays}

-- where the commands of the node's own clients go on, its play is a play: of the same letters, to the same state
abbrev pub PlaysGoOn : Type 0
PlaysGoOn = (script : ScriptData) (commands : List (ℕ × Command)) (x : ℕ) → GoOn (IsHomeAt script x) script commands
    → (log : List Logged) (n last : NodeState) (used sent : ℕ → List Letter)
    → Plays script x n log used sent last → Plays (with_commands script commands) x n log used sent last

-- where the commands of all clients do, a run is a run, to the same world
abbrev pub RunsGoOn : Type 0
RunsGoOn = (script : ScriptData) (commands : List (ℕ × Command)) → GoOn AnyClient script commands
    → (run : List Logged) → IsRun script run
    → IsRun (with_commands script commands) run × (world_after (with_commands script commands) run ≡ world_after script run)

-- an appended command is the last one of its client, and no other client has it
abbrev pub AppendedCommands : Type 0
AppendedCommands = (script : ScriptData) (client other : ℕ) (command : Command)
    → commands_of (appended script client command) other ≡ commands_of script other ++ (if client == other then command ∷ [] else [])

-- so a play of any node is a play of the script with a command appended to the list of any client
abbrev pub PlaysOfAppended : Type 0
PlaysOfAppended = (script : ScriptData) (client : ℕ) (command : Command) (x : ℕ)
    (log : List Logged) (n last : NodeState) (used sent : ℕ → List Letter)
    → Plays script x n log used sent last → Plays (appended script client command) x n log used sent last

-- and a run is a run of it, to the same world
abbrev pub RunsOfAppended : Type 0
RunsOfAppended = (script : ScriptData) (client : ℕ) (command : Command) (run : List Logged) → IsRun script run
    → IsRun (appended script client command) run × (world_after (appended script client command) run ≡ world_after script run)

-- The laws of commands that nodes appended each for its own clients, as statements.

-- a play of a node is a play of each script in which the node sees the same
abbrev pub PlaysSameAt : Type 0
PlaysSameAt = (x : ℕ) (a b : ScriptData) → SameAt x a b
    → (log : List Logged) (n last : NodeState) (used sent : ℕ → List Letter)
    → Plays a x n log used sent last → Plays b x n log used sent last

-- each node appended commands of its own clients
abbrev pub AreOwnCommands : ScriptData → (ℕ → List (ℕ × Command)) → Type 0
AreOwnCommands script shares = (q : ℕ) → q < script.nodes → AreAt script q (shares q)

-- then it sees the same in its own script and in the one with the commands of all nodes
abbrev pub ShareIsSame : Type 0
ShareIsSame = (script : ScriptData) (shares : ℕ → List (ℕ × Command)) → AreOwnCommands script shares
    → (q : ℕ) → q < script.nodes → SameAt q (share_of script shares q) (joined_of script shares)

-- so the plays of all nodes, each of its own script, are plays of that one
abbrev pub SharedPlays : Type 0
SharedPlays = (script : ScriptData) (shares : ℕ → List (ℕ × Command)) → AreOwnCommands script shares
    → (x : ℕ) → x < script.nodes → (log : List Logged) (n last : NodeState) (used sent : ℕ → List Letter)
    → Plays (share_of script shares x) x n log used sent last → Plays (joined_of script shares) x n log used sent last

-- in which a client has the commands that its own node appended
abbrev pub SharedCommands : Type 0
SharedCommands = (script : ScriptData) (shares : ℕ → List (ℕ × Command)) → AreOwnCommands script shares
    → (client : ℕ) → home script client < script.nodes
    → commands_of (joined_of script shares) client ≡ commands_of (share_of script shares (home script client)) client
