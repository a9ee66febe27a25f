-- What a script says, as plain data.
use Rattle.std.specs.Prelude.{List, [], ℕ, Option, Some, None, slice_get}
use Rattle.lt_modes.specs.declared.command.Command.{Command}

-- a lock set: its name, and the number of the first set of its family
pub record SetData : Type 0 where
  pub name : List ℕ
  pub family : ℕ

-- a client: its name and its node
pub record ClientData : Type 0 where
  pub name : List ℕ
  pub node : ℕ

-- the version, the number of nodes, the sets and the clients by number, and the commands, each with its client, in order
pub record ScriptData : Type 0 where
  pub version : ℕ
  pub nodes : ℕ
  pub sets : List SetData
  pub clients : List ClientData
  pub commands : List (ℕ × Command)

abbrev pub name_of_set : Option SetData → List ℕ
name_of_set (Some x) = x.name
name_of_set None = []

abbrev pub family_of_set : Option SetData → ℕ
family_of_set (Some x) = x.family
family_of_set None = 0

abbrev pub name_of_client : Option ClientData → List ℕ
name_of_client (Some x) = x.name
name_of_client None = []

abbrev pub node_of_client : Option ClientData → ℕ
node_of_client (Some x) = x.node
node_of_client None = 0

-- the name of the set with this number
abbrev pub set_name : ScriptData → ℕ → List ℕ
set_name s set = name_of_set (slice_get s.sets set)

-- the number of the first set of the set's family
abbrev pub family_at : List SetData → ℕ → ℕ
family_at sets set = family_of_set (slice_get sets set)

-- the name of the client with this number
abbrev pub client_name : ScriptData → ℕ → List ℕ
client_name s client = name_of_client (slice_get s.clients client)

-- the client's node
abbrev pub home_at : List ClientData → ℕ → ℕ
home_at clients client = node_of_client (slice_get clients client)
