-- How large a script may be that is made from a number.
use Rattle.std.specs.Prelude.{ℕ, ◌*◌, Bool, ◌&&◌, nat_le}
use Rattle.lt_spec.specs.Script.{most_nodes, most_clients}
use Rattle.lt_spec.specs.declared.limits.TheConstants.{MAX_CLIENTS_OF_NODE, MAX_COMMANDS}

-- a script of this version can be made with so many nodes, clients and commands
abbrev pub can_make : ℕ → ℕ → ℕ → ℕ → Bool
can_make version nodes clients commands =
    nat_le 1 version && nat_le version 3
    && nat_le 1 nodes && nat_le nodes (most_nodes version)
    && nat_le 1 clients && nat_le clients (most_clients version) && nat_le clients (nodes * MAX_CLIENTS_OF_NODE)
    && nat_le commands MAX_COMMANDS
