-- What a client is told at once.
use Rattle.std.specs.Prelude.{ℕ, Option, Some, None, if◌then◌else◌, ◌≡◌, ◌≢◌, ◌<◌, ◌≤◌, ◌+◌, ◌==◌, ◌&&◌, Bool, true, false, List, [], ◌∷◌, ◌++◌, length, map, take, filter_map, slice_index_or, slice_set}
use Rattle.lt_modes.specs.declared.command.Command.{Command}
use Rattle.lt_modes.specs.declared.command.Command.TheVariants as commands
use Rattle.lt_modes.specs.Script.{ScriptData, ClientData, home_at}
use Rattle.lt_modes.specs.declared.mode.Mode.TheVariants.{IntentionRead}
use Rattle.lt_modes.specs.declared.command.Command.TheVariants.{Unlock}
use Rattle.lt_spec.specs.Script.{IsScript}
use Rattle.lt_spec.specs.NodeMove.{related, NodeState, node_waits, is_free_at, next_command, locks_in_sets, home, has_command, command_if, commands_of}
use Rattle.lt_core.specs.declared.set_command.SetCommand.TheVariants as set_commands
use Rattle.lt_core.specs.declared.set_command.Answer.{Answer}
use Rattle.lt_core.specs.declared.set_command.Answer.TheVariants.{Dropped, Busy}
use Rattle.lt_core.specs.CoreData.{answer_of}

-- the answer to the command
abbrev pub answer_to : ScriptData → ℕ → ℕ → NodeState → Command → Answer
answer_to script q client n (commands.Lock s mode) = answer_of q client (set_commands.Lock mode) (n.set s)
answer_to script q client n (commands.Try s mode) = answer_of q client (set_commands.Try mode) (n.set s)
answer_to script q client n (commands.Unlock s mode) = answer_of q client (set_commands.Unlock mode) (n.set s)
answer_to script q client n (commands.Change s gives_up mode) = answer_of q client (set_commands.Change gives_up mode) (n.set s)
answer_to script q client n (commands.DropAll other s) =
    if node_waits script n other then Busy else Dropped (locks_in_sets n other (related script s))
answer_to script q client n (commands.Withdraw other s) = answer_of q client (set_commands.Withdraw other) (n.set s)

abbrev pub answer_if : ScriptData → ℕ → ℕ → NodeState → Option Command → Option Answer
answer_if script q client n None = None
answer_if script q client n (Some command) = Some (answer_to script q client n command)

-- the answer to the client's next command at node q
abbrev pub answer_of_act : ScriptData → ℕ → ℕ → NodeState → Option Answer
answer_of_act script q client n = answer_if script q client n (next_command script n client)

-- The clients of a node, and which of them can act.

-- the client is one of node q; it doesn't wait, or gives up what it waits for, and has a command left
abbrev pub is_runnable_here : ScriptData → ℕ → NodeState → ℕ → Bool
is_runnable_here script q n client = home script client == q && (is_free_at script n client && has_command script n client)

-- the least number below n that passes, where one does
abbrev pub IsLeast : ℕ → (ℕ → Bool) → Option ℕ → Type 0
IsLeast n test None = (k : ℕ) → k < n → test k ≡ false
IsLeast n test (Some least) = (least < n) × (test least ≡ true) × ((k : ℕ) → k < least → test k ≡ false)

-- no client of node q is among those from a number to another
abbrev pub NoneOwn : List ClientData → ℕ → ℕ → ℕ → Type 0
NoneOwn clients q from to = (k : ℕ) → from ≤ k → k < to → home_at clients k ≢ q

-- the first of them is this one
pub record IsFirstOwn (clients : List ClientData) (q from to client : ℕ) : Type 0 where
  pub above : from ≤ client
  pub below : client < to
  pub here : home_at clients client ≡ q
  pub none : NoneOwn clients q from client

-- they are these, in order
abbrev pub AreOwn : List ClientData → ℕ → ℕ → ℕ → List ℕ → Type 0
AreOwn clients q from to [] = NoneOwn clients q from to
AreOwn clients q from to (client ∷ rest) = IsFirstOwn clients q from to client × AreOwn clients q (client + 1) to rest

-- A command more.

-- the script with one command more, the last one of its client
abbrev pub with_request : ScriptData → ℕ → Command → ScriptData
with_request script client command = record script { commands = script.commands ++ (client, command) ∷ [] }

-- What a node keeps of the clients of the script.

-- the commands of a client, and how many of them it has made
pub record Progress : Type 0 where
  pub commands : List Command
  pub made : ℕ

abbrev pub no_progress : Progress
no_progress = record { commands = []; made = 0 }

-- the progress of the client with this number
abbrev pub progress_of : List Progress → ℕ → Progress
progress_of clients client = slice_index_or clients client no_progress

abbrev pub progress_made : Progress → ℕ
progress_made progress = progress.made

abbrev pub no_command : Command
no_command = Unlock 0 IntentionRead

-- the next command
abbrev pub next_of : Progress → Command
next_of progress = slice_index_or progress.commands progress.made no_command

abbrev pub one_command_more : Progress → Progress
one_command_more progress = record progress { made = progress.made + 1 }

-- with this command behind the others
abbrev pub with_command : Progress → Command → Progress
with_command progress command = record progress { commands = progress.commands ++ command ∷ [] }

-- the node of each client
abbrev pub homes_in : ScriptData → List ℕ
homes_in script = map (λ (client : ClientData). client.node) script.clients

-- the clients as node q keeps them, with this command of one of them more, where the clients are at these nodes
abbrev pub with_own_request : List ℕ → ℕ → ℕ × Command → List Progress → List Progress
with_own_request homes q request clients =
    if slice_index_or homes request.0 0 == q then slice_set clients request.0 (with_command (progress_of clients request.0) request.1) else clients

-- the client's commands among the first ones of all, where the client is one of node q
abbrev pub first_commands : ScriptData → ℕ → ℕ → ℕ → List Command
first_commands script q k client = if home script client == q then filter_map (command_if client) (take k script.commands) else []

-- each client has its commands among the first ones, and made none of them
abbrev pub HaveFirst : ScriptData → ℕ → ℕ → List Progress → Type 0
HaveFirst script q k clients =
    (client : ℕ) → client < length clients → progress_of clients client ≡ record { commands = first_commands script q k client; made = 0 }

-- the clients before their first command, as node q keeps them: each one of its own has its commands
abbrev pub AreAtStart : ScriptData → ℕ → List Progress → Type 0
AreAtStart script q clients =
    (client : ℕ) → client < length clients
    → progress_of clients client ≡ record {
      commands = if home script client == q then commands_of script client else [];
      made = 0;
    }

-- Commands of all clients, which no node has taken.

-- a client before its first command
abbrev pub unstarted : List Command → Progress
unstarted commands = record { commands = commands; made = 0 }

-- the lists with this command more, at its client
abbrev pub with_request_at : ℕ × Command → List Progress → List Progress
with_request_at request lists = slice_set lists request.0 (with_command (progress_of lists request.0) request.1)

-- each list has its client's commands among the first ones of all
abbrev pub HaveAmong : ScriptData → ℕ → List Progress → Type 0
HaveAmong script k lists =
    (client : ℕ) → client < length lists
    → progress_of lists client ≡ unstarted (filter_map (command_if client) (take k script.commands))

-- a list for each client, and the node of each client
pub record CommandsData : Type 0 where
  pub lists : List Progress
  pub homes : List ℕ

-- the lists have the commands of the clients of node q, and of the nodes after it
pub record ListsFrom (script : ScriptData) (q : ℕ) (lists : List Progress) : Type 0 where
  pub count : length lists ≡ length script.clients
  pub each : (client : ℕ) → client < length lists → q ≤ home script client
      → progress_of lists client ≡ unstarted (commands_of script client)

-- they are commands of a script, whose lists have those from node q on
pub record HaveFrom (script : ScriptData) (q : ℕ) (commands : CommandsData) : Type 0 where
  pub is_script : IsScript script
  pub lists_are : ListsFrom script q commands.lists
  pub homes_are : commands.homes ≡ homes_in script

-- the node knows the node of each client, and the commands of its own ones
pub record KnowsClients (script : ScriptData) (q : ℕ) (homes : List ℕ) (clients : List Progress) : Type 0 where
  pub homes_are : homes ≡ homes_in script
  pub own : (client : ℕ) → client < length clients → home script client ≡ q → (progress_of clients client).commands ≡ commands_of script client
