-- The runner and its far ends at their start.
use Rattle.std.proofs.Common.{◌≡◌, sym, ap, ◌∙◌}
use Rattle.lt_modes.specs.Script.{ScriptData}
use Rattle.lt_live.specs.declared.limits.TheConstants.{LETTER_PLACES}
use Rattle.lt_apart.proofs.FarEnds.{first_far_ends}
use Rattle.lt_apart.proofs.remote.Remote.open.Goals as goal

pub invariant_of-remote : goal.invariant_of-remote
invariant_of-remote c =
    let count : c.in_ok-station.station.runner.node.script.nodes ≡ c.nodes-nodes.result =
    ap (λ (s : ScriptData). s.nodes) c.in_ok-station.ensures.starts.script_is ∙ sym c.nodes-nodes.ensures.nodes in
    first_far_ends c.nodes-nodes.result c.args.node LETTER_PLACES c.in_ok-station.station.runner c.in_ok-mail.mail c.in_ok-mail.far
    c.in_ok-no_letters.field-0.items c.in_ok-no_letters-2.field-0.items c.in_ok-mail.ensures c.in_ok-station.ensures.starts.mail_is count
    c.in_ok-no_letters.ensures c.in_ok-no_letters-2.ensures
