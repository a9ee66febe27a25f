-- When plain data is a script, and which lines answer its commands.
use Rattle.std.specs.Prelude.{◌≡◌, ◌⊎◌, ◌-◌, Bool, ℕ, List, Some, slice_get, length, true, ◌&&◌, ◌==◌, not, Option, None, IsTrue, ◌<◌, ◌||◌, nat_le, codes, slice_index, ◌≤◌, is_some, if◌then◌else◌, position, count_by, All, bytes_eq}
use Rattle.std.specs.List.{list_all}
use Rattle.std.specs.Char.{is_ascii_alphabetic, is_ascii_alphanumeric}
use Rattle.lt_modes.specs.declared.command.Command.{Command}
use Rattle.lt_modes.specs.declared.command.Command.TheVariants.{Lock, Try, Unlock, Change, DropAll, Withdraw}
use Rattle.lt_modes.specs.declared.event.Event.{Event}
use Rattle.lt_modes.specs.declared.event.Event.TheVariants.{Grant, Try as Tried, Unlock as Unlocked, NotHeld, Change as Changed, DropAll as Dropped, Busy, Withdraw as WithdrawLine, Withdrawn, Withheld}
use Rattle.lt_modes.specs.Script.{ScriptData, SetData, ClientData, set_name, client_name, family_at, home_at}
use Rattle.lt_modes.specs.FiveModes.{is_of_version}
use Rattle.lt_spec.specs.Holdings.{lines_of}
use Rattle.lt_spec.specs.World.{Logged, world_after, made_by, replies_of}
use Rattle.lt_spec.specs.declared.limits.TheConstants.{MAX_NAME, MAX_NODES, MAX_NODES_OF_FIRST, MAX_SETS, MAX_SETS_OF_SERVICE, MAX_CLIENTS, MAX_CLIENTS_OF_FIRST, MAX_CLIENTS_OF_SECOND, MAX_CLIENTS_OF_NODE, MAX_COMMANDS, MAX_COMMANDS_OF_SERVICE}

-- The names of sets and clients.

-- a letter, a digit, `_`, `-` or `.`
abbrev pub is_name_byte : ℕ → Bool
is_name_byte byte = is_ascii_alphanumeric byte || byte == 95 || byte == 45 || byte == 46

-- the words that stand for no set and no client
abbrev pub is_reserved : List ℕ → Bool
is_reserved word = bytes_eq word (codes "nodes") || bytes_eq word (codes "set") || bytes_eq word (codes "client") || bytes_eq word (codes "journal") || bytes_eq word (codes "version")

-- the word is a name: not too long, a letter first, of such bytes, and not reserved
abbrev pub is_name : List ℕ → Bool
is_name word = nat_le (length word) MAX_NAME && is_ascii_alphabetic (slice_index word 0) && list_all is_name_byte word && not (is_reserved word)

-- What a script says of its sets, clients and commands by their numbers, and when plain data is a script.

-- the most nodes of a script of this version
abbrev pub most_nodes : ℕ → ℕ
most_nodes version = if version == 1 then MAX_NODES_OF_FIRST else MAX_NODES

-- the most clients of a script of this version
abbrev pub most_clients : ℕ → ℕ
most_clients version = if version == 1 then MAX_CLIENTS_OF_FIRST else if version == 2 then MAX_CLIENTS_OF_SECOND else MAX_CLIENTS

-- how many of the clients are on the node
abbrev pub load_of : List ClientData → ℕ → ℕ
load_of clients node = count_by (λ (x : ClientData). x.node == node) clients

-- the number of the set with this name
abbrev pub set_number : ScriptData → List ℕ → Option ℕ
set_number s name = position (λ (x : SetData). bytes_eq x.name name) s.sets

-- the number of the client with this name
abbrev pub client_number : ScriptData → List ℕ → Option ℕ
client_number s name = position (λ (x : ClientData). bytes_eq x.name name) s.clients

-- a set or a client of the script has this name
abbrev pub is_declared : ScriptData → List ℕ → Bool
is_declared s name = is_some (set_number s name) || is_some (client_number s name)

-- a further set may be in this family: in one of its own, or in that of an earlier set, by the number of the family's first set
abbrev pub IsFamilyOfNext : List SetData → ℕ → Type 0
IsFamilyOfNext sets family = (family ≡ length sets) ⊎ ((family < length sets) × (family_at sets family ≡ family))

-- the command's set is of the script, and so is the client whose locks it drops or whose ask it gives up, which is on the node of
-- the client that makes it
abbrev pub HasTargets : List SetData → List ClientData → ℕ → Command → Type 0
HasTargets sets clients client (Lock set mode) = set < length sets
HasTargets sets clients client (Try set mode) = set < length sets
HasTargets sets clients client (Unlock set mode) = set < length sets
HasTargets sets clients client (Change set gives_up mode) = set < length sets
HasTargets sets clients client (DropAll other set) =
    (set < length sets) × (other < length clients) × (home_at clients other ≡ home_at clients client)
HasTargets sets clients client (Withdraw other set) =
    (set < length sets) × (other < length clients) × (home_at clients other ≡ home_at clients client)

-- the command is one of this version: the modes that it names are, and `withdraw` came with version 3
abbrev pub IsOfVersion : ℕ → Command → Type 0
IsOfVersion version (Lock set mode) = IsTrue (is_of_version version mode)
IsOfVersion version (Try set mode) = IsTrue (is_of_version version mode)
IsOfVersion version (Unlock set mode) = IsTrue (is_of_version version mode)
IsOfVersion version (Change set gives_up mode) = IsTrue (is_of_version version gives_up) × IsTrue (is_of_version version mode)
IsOfVersion version (DropAll other set) = Unit {0}
IsOfVersion version (Withdraw other set) = version ≡ 3

-- a client of the script makes the command, and all that it names is of the script
abbrev pub IsRequest : List SetData → List ClientData → ℕ × Command → Type 0
IsRequest sets clients request = (request.0 < length clients) × HasTargets sets clients request.0 request.1

-- the script has no more sets and no more commands than a text may have
pub record IsShort (s : ScriptData) : Type 0 where
  pub sets : length s.sets ≤ MAX_SETS
  pub commands : length s.commands ≤ MAX_COMMANDS

-- the data is a script: it keeps the limits of its version, its names are names and all apart, so that each is found at its number,
-- and its numbers are those of its nodes, sets and clients
pub record IsScript (s : ScriptData) : Type 0 where
  pub version : (s.version ≡ 1) ⊎ ((s.version ≡ 2) ⊎ (s.version ≡ 3))
  pub some_node : 0 < s.nodes
  pub few_nodes : s.nodes ≤ MAX_NODES
  pub nodes_of_version : s.nodes ≤ most_nodes s.version
  pub few_sets : length s.sets ≤ MAX_SETS_OF_SERVICE
  pub sets_named : (set : ℕ) → set < length s.sets → is_name (set_name s set) ≡ true
  pub sets_found : (set : ℕ) → set < length s.sets → set_number s (set_name s set) ≡ Some set
  pub families_not_later : (set : ℕ) → set < length s.sets → family_at s.sets set ≤ set
  pub families_first : (set : ℕ) → set < length s.sets → family_at s.sets (family_at s.sets set) ≡ family_at s.sets set
  pub few_clients : length s.clients ≤ MAX_CLIENTS
  pub clients_of_version : length s.clients ≤ most_clients s.version
  pub clients_named : (client : ℕ) → client < length s.clients → is_name (client_name s client) ≡ true
  pub clients_found : (client : ℕ) → client < length s.clients → client_number s (client_name s client) ≡ Some client
  pub clients_no_sets : (client : ℕ) → client < length s.clients → set_number s (client_name s client) ≡ None
  pub homes : (client : ℕ) → client < length s.clients → home_at s.clients client < s.nodes
  pub loads : (node : ℕ) → load_of s.clients node ≤ MAX_CLIENTS_OF_NODE
  pub few_commands : length s.commands ≤ MAX_COMMANDS_OF_SERVICE
  pub requests : All (IsRequest s.sets s.clients) s.commands
  pub modes : All (λ (request : ℕ × Command). IsOfVersion s.version request.1) s.commands

-- Which lines answer which command of a client.

-- the line is one with which this command of the client is answered
abbrev pub AnswersCommand : ℕ → Command → Event → Type 0
AnswersCommand client (Lock s mode) line =
    (line ≡ Grant client s mode) ⊎ ((line ≡ Withdrawn client s mode) ⊎ (line ≡ Withheld client s mode))
AnswersCommand client (Try s mode) line = (got : Bool) × (line ≡ Tried client s mode got)
AnswersCommand client (Unlock s mode) line = (line ≡ Unlocked client s mode) ⊎ (line ≡ NotHeld client s mode)
AnswersCommand client (Change s gives_up mode) line =
    (line ≡ Changed client s gives_up mode)
    ⊎ ((line ≡ NotHeld client s gives_up) ⊎ ((line ≡ Withdrawn client s mode) ⊎ (line ≡ Withheld client s mode)))
AnswersCommand client (DropAll other s) line =
    ((count : ℕ) × (line ≡ Dropped client other s count)) ⊎ (line ≡ Busy client other s)
AnswersCommand client (Withdraw other s) line = (got : Bool) × (line ≡ WithdrawLine client other s got)

-- the client's commands have one at place k, which the line answers
abbrev pub AnswersAt : ℕ → List Command → ℕ → Event → Type 0
AnswersAt client commands k line =
    (command : Command) × (slice_get commands k ≡ Some command) × AnswersCommand client command line

-- the line at place k of the replies answers the command at place k, for each k
abbrev pub AnswersInTurn : ℕ → List Command → List Event → Type 0
AnswersInTurn client commands replies =
    (k : ℕ) (line : Event) → slice_get replies k ≡ Some line → AnswersAt client commands k line

-- how many commands of those that the client has made are not answered after the run
abbrev pub unanswered_commands : ScriptData → List Logged → ℕ → ℕ
unanswered_commands script run client =
    made_by script (world_after script run) client - length (replies_of client (lines_of run))
