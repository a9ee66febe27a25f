use Rattle.std.proofs.Common.{◌≡◌, ◌∙◌, ◌<◌, ◌++◌, ◌∷◌, [], false, length, sym, ap, subst}
use Rattle.lt_modes.specs.Script.{ScriptData, ClientData}
use Rattle.lt_spec.specs.declared.limits.TheConstants.{MAX_CLIENTS_OF_NODE}
use Rattle.lt_spec.specs.Script.{most_clients, load_of, is_declared}
use Rattle.lt_script.specs.Views.{script_data}
use Rattle.lt_script.proofs.NameLemmas.{is_new}
use Rattle.lt_script.proofs.ScriptLemmas.{client_added, few_clients}
use Rattle.lt_script.proofs.script.Script.add_client.Goals as goal

pub push-requires-clause-new : goal.push-requires-clause-new
push-requires-clause-new c =
    let s = script_data c.self.inside in
    let new = subst (λ (v : ScriptData). is_declared v c.args.name.now ≡ false) (sym (c.self.view_is ∙ c.in_ok-own_parts.ensures)) c.requires.new in
    rw (c.in-Some.ensures.value, c.new.ensures) (is_new s c.args.name.now new).no_client

pub push-requires-clause-few : goal.push-requires-clause-few
push-requires-clause-few c =
    let room = subst (λ (v : ScriptData). length v.clients < most_clients v.version) (sym (c.self.view_is ∙ c.in_ok-own_parts.ensures)) c.requires.room in
    rw (c.in-Some.ensures.value) (few_clients (script_data c.self.inside).version _ room)

pub invariant_of-self : goal.invariant_of-self
invariant_of-self c = c.self.invariant

pub returns-in_default-clause-unchanged : goal.returns-in_default-clause-unchanged
returns-in_default-clause-unchanged c = c.self.view_is ∙ c.in_ok-own_parts.ensures

pub invariant_of-self-in_err-push : goal.invariant_of-self-in_err-push
invariant_of-self-in_err-push c = rw (c.in_err-push.ensures.unchanged, c.in-Some.ensures.value) c.self.invariant

pub invariant_of-self-2 : goal.invariant_of-self-2
invariant_of-self-2 c =
    let s = script_data c.self.inside in
    let at = c.self.view_is ∙ c.in_ok-own_parts.ensures in
    let x : ClientData = record { name = c.args.name.now; node = c.args.node } in
    let new = subst (λ (v : ScriptData). is_declared v x.name ≡ false) (sym at) c.requires.new in
    let room = subst (λ (v : ScriptData). length v.clients < most_clients v.version) (sym at) c.requires.room in
    let on_node = subst (λ (v : ScriptData). x.node < v.nodes) (sym at) c.requires.node in
    let load = subst (λ (v : ScriptData). load_of v.clients x.node < MAX_CLIENTS_OF_NODE) (sym at) c.requires.load in
    rw (c.in_ok-push.ensures.pushed, c.in-Some.ensures.value, c.new.ensures) (client_added s x c.self.invariant c.requires.name new room on_node load)

pub returns-clause-added : goal.returns-clause-added
returns-clause-added c =
    let x : ClientData = record { name = c.args.name.now; node = c.args.node } in
    rw (c.in_ok-push.ensures.pushed, c.in-Some.ensures.value, c.new.ensures)
    (ap (λ (s : ScriptData). record s { clients = s.clients ++ x ∷ [] }) (c.self.view_is ∙ c.in_ok-own_parts.ensures))
