-- What it means of the sizes of a script that it can be made.
use Rattle.std.proofs.Common.{IsTrue, ℕ, Bool, true, false, if◌then◌else◌, ◌==◌, ◌≡◌, ◌⊎◌, ◌*◌, ◌<◌, ◌≤◌, ◌&&◌, nat_le, leb-true, inl, inr, arith, eq-eqb, ne_eqb}
use Rattle.std.proofs.lemmas.Bool.{and_parts, cases_eq}
use Rattle.lt_spec.specs.Script.{most_nodes, most_clients}
use Rattle.lt_spec.specs.declared.limits.TheConstants.{MAX_NODES, MAX_CLIENTS, MAX_CLIENTS_OF_FIRST, MAX_CLIENTS_OF_SECOND, MAX_CLIENTS_OF_NODE, MAX_COMMANDS}
use Rattle.lt_gen.specs.Sizes.{can_make}

-- the version is one, and each size is within its limits
pub record AreSizes (version nodes clients commands : ℕ) : Type 0 where
  pub is_version : (version ≡ 1) ⊎ ((version ≡ 2) ⊎ (version ≡ 3))
  pub some_node : 0 < nodes
  pub few_nodes : nodes ≤ most_nodes version
  pub some_client : 0 < clients
  pub few_clients : clients ≤ most_clients version
  pub on_nodes : clients ≤ nodes * MAX_CLIENTS_OF_NODE
  pub few_commands : commands ≤ MAX_COMMANDS

one_of_three : (version : ℕ) → 0 < version → version ≤ 3 → (version ≡ 1) ⊎ ((version ≡ 2) ⊎ (version ≡ 3))
one_of_three version some few = elim (cases_eq version 1) [
  | inl first ↦ inl first
  | inr later ↦ inr (elim (cases_eq version 2) [ inl second ↦ inl second | inr third ↦ inr (omega (arith, some, few, later, third)) ])
]

-- no version has more nodes, or clients, than these
pub nodes_within : (version : ℕ) → most_nodes version ≤ MAX_NODES
nodes_within version = elim (cases_eq version 1) [
  | inl first ↦ rw (eq-eqb version 1 first) (omega arith)
  | inr later ↦ rw (ne_eqb version 1 later) (omega arith)
]

pub clients_within : (version : ℕ) → most_clients version < 10000
clients_within version = elim (version == 1) as (λ t. (if t then MAX_CLIENTS_OF_FIRST else if version == 2 then MAX_CLIENTS_OF_SECOND else MAX_CLIENTS) < 10000) [
  | true ↦ omega arith
  | false ↦ elim (version == 2) as (λ t. (if t then MAX_CLIENTS_OF_SECOND else MAX_CLIENTS) < 10000) [
    | true ↦ omega arith
    | false ↦ omega arith
  ]
]

pub sizes_of : (version nodes clients commands : ℕ) → IsTrue (can_make version nodes clients commands) → AreSizes version nodes clients commands
sizes_of version nodes clients commands possible =
    let low = nat_le 1 version in
    let high = nat_le version 3 in
    let some_node = nat_le 1 nodes in
    let few_nodes = nat_le nodes (most_nodes version) in
    let some_client = nat_le 1 clients in
    let few_clients = nat_le clients (most_clients version) in
    let on_nodes = nat_le clients (nodes * MAX_CLIENTS_OF_NODE) in
    let last = and_parts (low && high && some_node && few_nodes && some_client && few_clients && on_nodes) (nat_le commands MAX_COMMANDS) possible in
    let seventh = and_parts (low && high && some_node && few_nodes && some_client && few_clients) on_nodes last.0 in
    let sixth = and_parts (low && high && some_node && few_nodes && some_client) few_clients seventh.0 in
    let fifth = and_parts (low && high && some_node && few_nodes) some_client sixth.0 in
    let fourth = and_parts (low && high && some_node) few_nodes fifth.0 in
    let third = and_parts (low && high) some_node fourth.0 in
    let second = and_parts low high third.0 in
    record {
      is_version = one_of_three version (leb-true 1 version second.0) (leb-true version 3 second.1);
      some_node = leb-true 1 nodes third.1;
      few_nodes = leb-true nodes (most_nodes version) fourth.1;
      some_client = leb-true 1 clients fifth.1;
      few_clients = leb-true clients (most_clients version) sixth.1;
      on_nodes = leb-true clients (nodes * MAX_CLIENTS_OF_NODE) seventh.1;
      few_commands = leb-true commands MAX_COMMANDS last.1;
    }
