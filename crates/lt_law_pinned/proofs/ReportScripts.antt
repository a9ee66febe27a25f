-- The scripts of the small inputs of reports are scripts.
use Rattle.std.proofs.Common.{◌<◌, ◌≤◌, ◌∷◌, ℕ, [], arith, inl, refl, codes}
use Rattle.std.proofs.lemmas.List.Elements.{All-nil}
use Rattle.lt_modes.specs.declared.mode.Mode.TheVariants.{Read, Write}
use Rattle.lt_modes.specs.declared.command.Command.{Command}
use Rattle.lt_modes.specs.declared.command.Command.TheVariants.{Lock, Change}
use Rattle.lt_modes.specs.Script.{ScriptData}
use Rattle.lt_spec.specs.Script.{IsScript, IsRequest, IsOfVersion}
use Rattle.lt_script.proofs.ScriptLemmas.{set_added, client_added, command_added}
use Rattle.lt_law_examples.specs.Worked.{declared_set, declared_client}
use Rattle.lt_law_pinned.proofs.ReportInputs.{apart_script, change_script}

-- a script of so many nodes, and nothing more
abbrev bare : ℕ → ScriptData
bare nodes = record { version = 1; nodes = nodes; sets = []; clients = []; commands = [] }

bare_is : (nodes : ℕ) → 0 < nodes → nodes ≤ 16 → IsScript (bare nodes)
bare_is nodes some few = record {
  version = inl refl;
  some_node = some;
  few_nodes = omega (arith, few);
  nodes_of_version = few;
  few_sets = omega arith;
  sets_named = λ set h. absurd (omega (arith, h));
  sets_found = λ set h. absurd (omega (arith, h));
  families_not_later = λ set h. absurd (omega (arith, h));
  families_first = λ set h. absurd (omega (arith, h));
  few_clients = omega arith;
  clients_of_version = omega arith;
  clients_named = λ client h. absurd (omega (arith, h));
  clients_found = λ client h. absurd (omega (arith, h));
  clients_no_sets = λ client h. absurd (omega (arith, h));
  homes = λ client h. absurd (omega (arith, h));
  loads = λ node. omega arith;
  few_commands = omega arith;
  requests = All-nil (IsRequest [] []);
  modes = All-nil (λ (request : ℕ × Command). IsOfVersion 1 request.1);
}

abbrev with_set : ℕ → ScriptData
with_set nodes = record (bare nodes) { sets = declared_set (codes "s") 0 ∷ [] }

with_set_is : (nodes : ℕ) → 0 < nodes → nodes ≤ 16 → IsScript (with_set nodes)
with_set_is nodes some few =
    set_added (bare nodes) (declared_set (codes "s") 0) (bare_is nodes some few) refl refl (omega arith) (inl refl)

abbrev with_first : ℕ → ScriptData
with_first nodes = record (with_set nodes) { clients = declared_client (codes "a") 0 ∷ [] }

with_first_is : (nodes : ℕ) → 0 < nodes → nodes ≤ 16 → IsScript (with_first nodes)
with_first_is nodes some few =
    client_added (with_set nodes) (declared_client (codes "a") 0) (with_set_is nodes some few) refl refl (omega arith) some (omega arith)

apart_clients : IsScript (record apart_script { commands = [] })
apart_clients =
    client_added (with_first 2) (declared_client (codes "b") 0) (with_first_is 2 (omega arith) (omega arith)) refl refl (omega arith) (omega arith) (omega arith)

pub apart_is_script : IsScript apart_script
apart_is_script =
    command_added (record apart_script { commands = (0, Lock 0 Write) ∷ [] }) 1 (Lock 0 Write)
    (command_added (record apart_script { commands = [] }) 0 (Lock 0 Write) apart_clients (omega arith) (omega arith, omega arith) refl)
    (omega arith) (omega arith, omega arith) refl

change_clients : IsScript (record change_script { commands = [] })
change_clients =
    client_added (with_first 1) (declared_client (codes "b") 0) (with_first_is 1 (omega arith) (omega arith)) refl refl (omega arith) (omega arith) (omega arith)

pub change_is_script : IsScript change_script
change_is_script =
    command_added (record change_script { commands = (0, Lock 0 Read) ∷ (0, Change 0 Read Write) ∷ (1, Lock 0 Read) ∷ [] }) 1 (Change 0 Read Write)
    (command_added (record change_script { commands = (0, Lock 0 Read) ∷ (0, Change 0 Read Write) ∷ [] }) 1 (Lock 0 Read)
    (command_added (record change_script { commands = (0, Lock 0 Read) ∷ [] }) 0 (Change 0 Read Write)
    (command_added (record change_script { commands = [] }) 0 (Lock 0 Read) change_clients (omega arith) (omega arith, omega arith) refl)
    (omega arith) (omega arith, omega arith) (refl, refl))
    (omega arith) (omega arith, omega arith) refl)
    (omega arith) (omega arith, omega arith) (refl, refl)
