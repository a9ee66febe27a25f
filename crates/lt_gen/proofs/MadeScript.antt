-- What is made is a script of its version and its sizes.
use Rattle.std.proofs.Common.{◌≡◌, ◌⊎◌, ℕ, zero, suc, ◌<◌, ◌≤◌, List, [], ◌∷◌, length, refl, arith, ◌+◌, ◌*◌, ◌%◌, ◌==◌, ◌++◌, ap, mod-lt, inl, inr, ◌-◌, sym, ◌∙◌, length-append, ne_eqb, eq-eqb, IsTrue}
use Rattle.std.specs.List.{AllByRecursion}
use Rattle.std.proofs.lemmas.Bool.{cases_eq, cases_Bool}
use Rattle.std.proofs.lemmas.List.Elements.{All-from_recursion}
use Rattle.rand_pcg.specs.Lcg.{Lcg}
use Rattle.lt_modes.specs.Script.{ScriptData, ClientData, SetData, home_at, node_of_client}
use Rattle.lt_modes.specs.declared.command.Command.{Command}
use Rattle.lt_lists.proofs.AllLemmas.{all_append, all_map}
use Rattle.lt_spec.specs.Script.{most_nodes, most_clients, IsScript, IsShort, IsRequest, IsOfVersion}
use Rattle.lt_script.proofs.ScriptLemmas.{get_front, get_last, set_added, client_added}
use Rattle.lt_gen.specs.Generator.{client_at, clients_of, four_sets, group_of, group_commands, requests_of, requests_in, set_of, IsOnSameNode, NamesBeside, seeded, HasSizes, script_of}
use Rattle.lt_gen.specs.declared.group.Group.{Group}
use Rattle.lt_gen.specs.declared.group.Sizes.{Sizes}
use Rattle.lt_gen.specs.Sizes.{can_make}
use Rattle.lt_gen.proofs.GroupLemmas.{group_targets, group_modes, set_drawn, version_drawn, beside_drawn, few_drawn}
use Rattle.lt_gen.proofs.SizeLemmas.{sizes_of, nodes_within, clients_within}
use Rattle.lt_gen.proofs.Generated.{name_made, name_is_new, clients_counted, load_fits, some_commands, requests_counted}

-- the request is one of the version
abbrev NamesOfVersion : ℕ → ℕ × Command → Type 0
NamesOfVersion version request = IsOfVersion version request.1

-- the version, the nodes, these sets and these clients, and no commands
without_commands : ℕ → ℕ → List SetData → List ClientData → ScriptData
without_commands version nodes sets clients = record { version = version; nodes = nodes; sets = sets; clients = clients; commands = [] }

-- the version is one, and the nodes are as many as it may have
record AreNodes (version nodes : ℕ) : Type 0 where
  is_version : (version ≡ 1) ⊎ ((version ≡ 2) ⊎ (version ≡ 3))
  some : 0 < nodes
  few : nodes ≤ most_nodes version

no_sets : (version nodes : ℕ) → AreNodes version nodes → IsScript (without_commands version nodes [] [])
unfolding without_commands
no_sets version nodes are = record {
  version = are.is_version;
  some_node = are.some;
  few_nodes = omega (arith, are.few, nodes_within version);
  nodes_of_version = are.few;
  few_sets = omega arith;
  sets_named = λ set inside. absurd (omega arith);
  sets_found = λ set inside. absurd (omega arith);
  families_not_later = λ set inside. absurd (omega arith);
  families_first = λ set inside. absurd (omega arith);
  few_clients = omega arith;
  clients_of_version = omega arith;
  clients_named = λ client inside. absurd (omega arith);
  clients_found = λ client inside. absurd (omega arith);
  clients_no_sets = λ client inside. absurd (omega arith);
  homes = λ client inside. absurd (omega arith);
  loads = λ node. omega arith;
  few_commands = omega arith;
  requests = All-from_recursion (IsRequest [] []) [] tt;
  modes = All-from_recursion (NamesOfVersion version) [] tt;
}

sets_are : (version nodes : ℕ) → AreNodes version nodes → IsScript (without_commands version nodes four_sets [])
unfolding without_commands
sets_are version nodes are =
    let zeroth : IsScript (without_commands version nodes [] []) = no_sets version nodes are in
    let first = set_added (without_commands version nodes [] []) _ zeroth refl refl (omega arith) (inl refl) in
    let second = set_added _ _ first refl refl (omega arith) (inl refl) in
    let third = set_added _ _ second refl refl (omega arith) (inl refl) in
    set_added _ _ third refl refl (omega arith) (inl refl)

clients_are : (version nodes n : ℕ) → AreNodes version nodes → n ≤ most_clients version → n ≤ nodes * 16 → IsScript (without_commands version nodes four_sets (clients_of nodes n))
unfolding without_commands clients_of
clients_are version nodes zero are small fits = sets_are version nodes are
clients_are version nodes (suc n) are small fits =
    let s : ScriptData = without_commands version nodes four_sets (clients_of nodes n) in
    let few : n < 10000 = omega (arith, small, clients_within version) in
    client_added s (client_at nodes n) (clients_are version nodes n are (omega (arith, small)) (omega (arith, fits))) (name_made n few) (name_is_new s n refl refl few)
    (omega (arith, clients_counted nodes n, small)) (mod-lt n are.some) (load_fits nodes n are.some (omega (arith, fits)))

-- each client is on its node
pub home_made : (nodes n k : ℕ) → k < n → home_at (clients_of nodes n) k ≡ k % nodes
unfolding clients_of
home_made nodes zero k inside = absurd (omega (arith, inside))
home_made nodes (suc n) k inside = elim (cases_eq k n) [
  | inl last ↦ rw last (ap (λ i. home_at (clients_of nodes n ++ client_at nodes n ∷ []) i) (sym (clients_counted nodes n)) ∙ ap node_of_client (get_last (clients_of nodes n) (client_at nodes n)))
  | inr earlier ↦
      ap node_of_client (get_front (clients_of nodes n) (client_at nodes n) k (omega (arith, clients_counted nodes n, inside, earlier)))
      ∙ home_made nodes n k (omega (arith, inside, earlier))
]

-- the clients beside a client are of the script, and on its node
pub all_beside : (sizes : Sizes) (client other : ℕ) → client < sizes.clients → IsOnSameNode sizes client other
    → (other < length (clients_of sizes.nodes sizes.clients))
    × (home_at (clients_of sizes.nodes sizes.clients) other ≡ home_at (clients_of sizes.nodes sizes.clients) client)
all_beside sizes client other inside beside = (
  omega (arith, beside.inside, clients_counted sizes.nodes sizes.clients),
  home_made sizes.nodes sizes.clients other beside.inside ∙ (beside.together ∙ sym (home_made sizes.nodes sizes.clients client inside)),
)

-- what a drawn group names is of the script
pub drawn_targets : (sizes : Sizes) (client : ℕ) (group : Group) → client < sizes.clients → NamesBeside sizes client group → set_of group < 4
    → AllByRecursion (λ (command : Command). IsRequest four_sets (clients_of sizes.nodes sizes.clients) (client, command)) (group_commands group)
drawn_targets sizes client group inside named fits =
    group_targets four_sets (clients_of sizes.nodes sizes.clients) sizes client (omega (arith, inside, clients_counted sizes.nodes sizes.clients)) (omega arith)
    (λ other beside. all_beside sizes client other inside beside) group named fits

all_requests : (sizes : Sizes) (n left turn : ℕ) (g : Lcg) → 0 < sizes.nodes → 0 < sizes.clients
    → AllByRecursion (IsRequest four_sets (clients_of sizes.nodes sizes.clients)) (requests_in n sizes left turn g)
unfolding requests_in
all_requests sizes zero left turn g nodes some = tt
all_requests sizes (suc n) left turn g nodes some = elim (cases_Bool (left == 0)) [
  | inl none ↦ rw none tt
  | inr more ↦
      rw more
      (let client = turn % sizes.clients in
      let inside = mod-lt turn some in
      let group = (group_of sizes client left g).0 in
      let IsOne = IsRequest four_sets (clients_of sizes.nodes sizes.clients) in
      all_append IsOne (requests_of client group) _
      (all_map IsOne (λ (command : Command). (client, command)) (group_commands group) (drawn_targets sizes client group inside (beside_drawn sizes client left g nodes inside) (set_drawn sizes client left g)))
      (all_requests sizes n (left - length (group_commands group)) (turn + 1) (group_of sizes client left g).1 nodes some))
]

all_modes : (sizes : Sizes) (n left turn : ℕ) (g : Lcg) → AllByRecursion (NamesOfVersion sizes.version) (requests_in n sizes left turn g)
unfolding requests_in
all_modes sizes zero left turn g = tt
all_modes sizes (suc n) left turn g = elim (cases_Bool (left == 0)) [
  | inl none ↦ rw none tt
  | inr more ↦
      rw more
      (let client = turn % sizes.clients in
      let group = (group_of sizes client left g).0 in
      all_append (NamesOfVersion sizes.version) (requests_of client group) _
      (all_map (NamesOfVersion sizes.version) (λ (command : Command). (client, command)) (group_commands group) (group_modes sizes.version group (version_drawn sizes client left g)))
      (all_modes sizes n (left - length (group_commands group)) (turn + 1) (group_of sizes client left g).1))
]

-- as many turns as commands are left make exactly these
exact_requests : (sizes : Sizes) (n left turn : ℕ) (g : Lcg) → left ≤ n → length (requests_in n sizes left turn g) ≡ left
unfolding requests_in
exact_requests sizes zero left turn g enough = omega (arith, enough)
exact_requests sizes (suc n) left turn g enough = elim (cases_eq left 0) [
  | inl none ↦ rw (eq-eqb left 0 none) (sym none)
  | inr more ↦
      rw (ne_eqb left 0 more)
      (let client = turn % sizes.clients in
      let group = (group_of sizes client left g).0 in
      let later = requests_in n sizes (left - length (group_commands group)) (turn + 1) (group_of sizes client left g).1 in
      let rest : length later ≡ left - length (group_commands group) = exact_requests sizes n (left - length (group_commands group)) (turn + 1) (group_of sizes client left g).1 (omega (arith, enough, some_commands group)) in
      omega (arith, length-append (requests_of client group) later, requests_counted client group, few_drawn sizes client left g more, rest))
]

all_of_them : (sizes : Sizes) (commands seed : ℕ) → length (requests_in commands sizes commands 0 (seeded seed)) ≡ commands
all_of_them sizes commands seed = exact_requests sizes commands commands 0 (seeded seed) (omega arith)

pub has_sizes : (version nodes clients commands seed : ℕ) → HasSizes nodes 4 clients commands (script_of version nodes clients commands seed)
has_sizes version nodes clients commands seed = record {
  nodes_are = refl;
  sets_are = refl;
  clients_are = clients_counted nodes clients;
  commands_are = all_of_them (record { version = version; nodes = nodes; clients = clients }) commands seed;
}

pub is_script : (version nodes clients commands seed : ℕ) → IsTrue (can_make version nodes clients commands) → IsScript (script_of version nodes clients commands seed)
unfolding without_commands
is_script version nodes clients commands seed possible =
    let can = sizes_of version nodes clients commands possible in
    let sizes : Sizes = record { version = version; nodes = nodes; clients = clients } in
    let are : AreNodes version nodes = record { is_version = can.is_version; some = can.some_node; few = can.few_nodes } in
    let base = clients_are version nodes clients are can.few_clients can.on_nodes in
    record {
      version = base.version;
      some_node = base.some_node;
      few_nodes = base.few_nodes;
      nodes_of_version = base.nodes_of_version;
      few_sets = base.few_sets;
      sets_named = base.sets_named;
      sets_found = base.sets_found;
      families_not_later = base.families_not_later;
      families_first = base.families_first;
      few_clients = base.few_clients;
      clients_of_version = base.clients_of_version;
      clients_named = base.clients_named;
      clients_found = base.clients_found;
      clients_no_sets = base.clients_no_sets;
      homes = base.homes;
      loads = base.loads;
      few_commands = omega (arith, all_of_them sizes commands seed, can.few_commands);
      requests = All-from_recursion (IsRequest four_sets (clients_of nodes clients)) _ (all_requests sizes commands commands 0 (seeded seed) can.some_node can.some_client);
      modes = All-from_recursion (NamesOfVersion version) _ (all_modes sizes commands commands 0 (seeded seed));
    }

pub is_short : (version nodes clients commands seed : ℕ) → IsTrue (can_make version nodes clients commands) → IsShort (script_of version nodes clients commands seed)
is_short version nodes clients commands seed possible = record {
  sets = omega arith;
  commands = omega (arith, all_of_them (record { version = version; nodes = nodes; clients = clients }) commands seed, (sizes_of version nodes clients commands possible).few_commands);
}
