-- Numbers drawn from a seed, by the generator PCG with 32 bits a word.
use Rattle.std.specs.Prelude.{ℕ, ◌*◌, ◌/◌, ◌%◌, ◌==◌, nat_lt, nat_le, if◌then◌else◌, List, [], ◌∷◌, map, filter, slice_index_or, IsTrue, ◌≡◌, zero, suc, ◌+◌, ◌-◌, ◌++◌, length, codes, ◌<◌, ◌≤◌, decimal}
use Rattle.rand_core.specs.Pcg32Seed.{pcg32_seed}
use Rattle.rand_pcg.specs.Lcg.{Lcg}
use Rattle.rand_pcg.specs.Pcg.{pcg32, pcg32_of_seed}
use Rattle.lt_modes.specs.declared.mode.Mode.{Mode}
use Rattle.lt_modes.specs.declared.mode.Mode.TheVariants as modes
use Rattle.lt_modes.specs.declared.command.Command.{Command}
use Rattle.lt_modes.specs.declared.command.Command.TheVariants as commands
use Rattle.lt_modes.specs.Modes.{modes_in_order}
use Rattle.lt_modes.specs.FiveModes.{is_of_five, is_of_version}
use Rattle.lt_modes.specs.Script.{ScriptData, SetData, ClientData}
use Rattle.lt_gen.specs.declared.group.Group.{Group}
use Rattle.lt_gen.specs.declared.group.Group.TheVariants.{Last, Lock, Try, Upgrade, Change, GiveUp, Release, Withdraw}
use Rattle.lt_gen.specs.declared.group.Sizes.{Sizes}

-- the generator of a seed
unfoldable pub seeded : ℕ → Lcg
seeded seed = pcg32_of_seed (pcg32_seed 16 seed)

-- the next word modulo n, and the generator after it
unfoldable pub draw_of : ℕ → Lcg → ℕ × Lcg
draw_of n g = ((pcg32 g).0 % n, (pcg32 g).1)

-- The groups of commands of a generated script: what a client does in its turn.

-- the modes of this version, in order
abbrev pub modes_drawn : ℕ → List Mode
modes_drawn version = if version == 1 then filter is_of_five modes_in_order else modes_in_order

-- the mode at this place
abbrev pub nth_mode : List Mode → ℕ → Mode
nth_mode among k = slice_index_or among k modes.Write

-- one of these modes
abbrev pub mode_among : List Mode → Lcg → Mode × Lcg
mode_among among g = (nth_mode among (draw_of (length among) g).0, (draw_of (length among) g).1)

-- one of the modes of this version
abbrev pub drawn_mode : ℕ → Lcg → Mode × Lcg
drawn_mode version g = mode_among (modes_drawn version) g

-- a group that takes a drawn mode
abbrev pub drawn_with : (Mode → Group) → Mode × Lcg → Group × Lcg
drawn_with group drawn = (group drawn.0, drawn.1)

-- the group of this kind on this set in version 1 or 2, where at least two commands are left
abbrev pub group_by : ℕ → ℕ → ℕ → ℕ → Lcg → Group × Lcg
group_by version left set kind g =
    if nat_lt kind 2 then drawn_with (Lock set) (drawn_mode version g)
    else if kind == 2 then ((if nat_le 3 left then Change set else Upgrade set), g)
    else drawn_with (Try set) (drawn_mode version g)

-- how many clients of the script are on the client's node
abbrev pub count_beside : Sizes → ℕ → ℕ
count_beside sizes client = (sizes.clients - 1 - client % sizes.nodes) / sizes.nodes + 1

-- the k-th of them, from 0
abbrev pub nth_beside : Sizes → ℕ → ℕ → ℕ
nth_beside sizes client k = client % sizes.nodes + k * sizes.nodes

-- one of them, which may be the client itself
abbrev pub drawn_beside : Sizes → ℕ → Lcg → ℕ × Lcg
drawn_beside sizes client g =
    (nth_beside sizes client (draw_of (count_beside sizes client) g).0, (draw_of (count_beside sizes client) g).1)

-- a group that gives up what this client waits for
abbrev pub withdrawn_from : ℕ → ℕ × Lcg → Group × Lcg
withdrawn_from set other = (Withdraw other.0 set, other.1)

-- the group of this kind on this set in version 3, where at least two commands are left
abbrev pub third_by : Sizes → ℕ → ℕ → ℕ → ℕ → Lcg → Group × Lcg
third_by sizes client left set kind g =
    if nat_lt kind 4 then drawn_with (Lock set) (drawn_mode 3 g)
    else if kind == 4 then ((if nat_le 3 left then Release client set else Upgrade set), g)
    else if kind == 5 then drawn_with (Try set) (drawn_mode 3 g)
    else if kind == 6 then drawn_with (if nat_le 3 left then GiveUp client set else Lock set) (drawn_mode 3 g)
    else withdrawn_from set (drawn_beside sizes client g)

-- the group on a drawn set: its kind is drawn, one of 4, or of 8 in version 3
abbrev pub group_after : Sizes → ℕ → ℕ → ℕ × Lcg → Group × Lcg
group_after sizes client left set =
    if sizes.version == 3 then third_by sizes client left set.0 (draw_of 8 set.1).0 (draw_of 8 set.1).1
    else group_by sizes.version left set.0 (draw_of 4 set.1).0 (draw_of 4 set.1).1

-- the next group of the client, where so many commands are left: the set is drawn, then the kind, and then the mode or
-- the other client, if it has one
abbrev pub group_of : Sizes → ℕ → ℕ → Lcg → Group × Lcg
group_of sizes client left g = if left == 1 then (Last, g) else group_after sizes client left (draw_of 4 g)

-- the set of the group
abbrev pub set_of : Group → ℕ
set_of Last = 0
set_of (Lock set mode) = set
set_of (Try set mode) = set
set_of (Upgrade set) = set
set_of (Change set) = set
set_of (GiveUp client set mode) = set
set_of (Release client set) = set
set_of (Withdraw client set) = set

-- the group is one of this version: the mode that it takes is, and what is given up came with version 3
abbrev pub IsGroupOf : ℕ → Group → Type 0
IsGroupOf version (Lock set mode) = IsTrue (is_of_version version mode)
IsGroupOf version (Try set mode) = IsTrue (is_of_version version mode)
IsGroupOf version (GiveUp client set mode) = version ≡ 3
IsGroupOf version (Release client set) = version ≡ 3
IsGroupOf version (Withdraw client set) = version ≡ 3
IsGroupOf version other = Unit {0}

-- the other client is of the script, and on the client's node
pub record IsOnSameNode (sizes : Sizes) (client other : ℕ) : Type 0 where
  pub inside : other < sizes.clients
  pub together : other % sizes.nodes ≡ client % sizes.nodes

-- the client that the group names, if it names one, is on the node of the client that makes it
abbrev pub NamesBeside : Sizes → ℕ → Group → Type 0
NamesBeside sizes client (GiveUp other set mode) = IsOnSameNode sizes client other
NamesBeside sizes client (Release other set) = IsOnSameNode sizes client other
NamesBeside sizes client (Withdraw other set) = IsOnSameNode sizes client other
NamesBeside sizes client other = Unit {0}

-- the commands of the group, in order
abbrev pub group_commands : Group → List Command
group_commands Last = commands.Unlock 0 modes.Read ∷ []
group_commands (Lock set mode) = commands.Lock set mode ∷ commands.Unlock set mode ∷ []
group_commands (Try set mode) = commands.Try set mode ∷ commands.Unlock set mode ∷ []
group_commands (Upgrade set) = commands.Lock set modes.Upgrade ∷ commands.Unlock set modes.Upgrade ∷ []
group_commands (Change set) =
    commands.Lock set modes.Upgrade ∷ commands.Change set modes.Upgrade modes.Write
    ∷ commands.Unlock set modes.Write ∷ []
group_commands (GiveUp client set mode) =
    commands.Lock set mode ∷ commands.Withdraw client set ∷ commands.Unlock set mode ∷ []
group_commands (Release client set) =
    commands.Lock set modes.Upgrade ∷ commands.Change set modes.Upgrade modes.Write ∷ commands.DropAll client set ∷ []
group_commands (Withdraw client set) = commands.Withdraw client set ∷ []

-- the commands, which this client makes
abbrev pub requests_of : ℕ → Group → List (ℕ × Command)
requests_of client group = map (λ command. (client, command)) (group_commands group)

-- The script that is made from a number.

-- `s0` to `s3`, each in a family of its own
abbrev pub four_sets : List SetData
four_sets =
    record { name = codes "s0"; family = 0 }
    ∷ record { name = codes "s1"; family = 1 }
    ∷ record { name = codes "s2"; family = 2 }
    ∷ record { name = codes "s3"; family = 3 }
    ∷ []

-- `c0`, `c1` and so on
abbrev pub drawn_client : ℕ → List ℕ
drawn_client client = codes "c" ++ decimal client

abbrev pub client_at : ℕ → ℕ → ClientData
client_at nodes client = record { name = drawn_client client; node = client % nodes }

-- the first so many clients, which go round the nodes
unfoldable pub clients_of : ℕ → ℕ → List ClientData
clients_of nodes zero = []
clients_of nodes (suc n) = clients_of nodes n ++ client_at nodes n ∷ []

-- a group of the client whose turn it is, and the commands of the later turns
abbrev pub turn_and : (ℕ → Lcg → List (ℕ × Command)) → ℕ → ℕ → Group × Lcg → List (ℕ × Command)
turn_and later client left drawn = requests_of client drawn.0 ++ later (left - length (group_commands drawn.0)) drawn.1

-- the commands of at most so many turns from this one on, where so many are left to be made: the clients take turns
unfoldable pub requests_in : ℕ → Sizes → ℕ → ℕ → Lcg → List (ℕ × Command)
requests_in zero sizes left turn g = []
requests_in (suc n) sizes left turn g =
    if left == 0 then []
    else turn_and (λ left g. requests_in n sizes left (turn + 1) g) (turn % sizes.clients) left
    (group_of sizes (turn % sizes.clients) left g)

-- the script of this version with so many nodes, clients and commands that is made from the seed; each turn makes a
-- command
abbrev pub script_of : ℕ → ℕ → ℕ → ℕ → ℕ → ScriptData
script_of version nodes clients commands seed = record {
  version = version;
  nodes = nodes;
  sets = four_sets;
  clients = clients_of nodes clients;
  commands = requests_in commands (record { version = version; nodes = nodes; clients = clients }) commands 0 (seeded seed);
}

-- the script has exactly so many nodes, sets, clients and commands
pub record HasSizes (nodes sets clients commands : ℕ) (script : ScriptData) : Type 0 where
  pub nodes_are : script.nodes ≡ nodes
  pub sets_are : length script.sets ≡ sets
  pub clients_are : length script.clients ≡ clients
  pub commands_are : length script.commands ≡ commands

-- A script whose commands are being made.

-- what is made, and what the turns from this one on make, is the whole
pub record Making (sizes : Sizes) (left turn : ℕ) (g : Lcg) (made whole : List (ℕ × Command)) : Type 0 where
  pub turns : ℕ
  pub enough : left ≤ turns
  pub parts : made ++ requests_in turns sizes left turn g ≡ whole
