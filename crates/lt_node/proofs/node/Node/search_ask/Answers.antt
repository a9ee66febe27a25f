use Rattle.std.proofs.Common.{◌≡◌, ◌∙◌, ℕ, suc, Option, Some, length, sym, ap, ap₂, arith, option_map}
use Rattle.std.specs.Option.{option_or}
use Rattle.lt_modes.specs.declared.ask.Ask.{Ask}
use Rattle.lt_modes.specs.Script.{ScriptData}
use Rattle.lt_modes.specs.State.{SetState}
use Rattle.lt_core.specs.Steps.{live_ask}
use Rattle.lt_node.specs.NodeData.{NodeData, state_of, ask_below}
use Rattle.lt_node.proofs.AskLemmas.{ask_stays}
use Rattle.lt_node.proofs.node.Node.search_ask.Goals as goal

pub returns-in-Some : goal.returns-in-Some
returns-in-Some c =
    let n = state_of c.args.self.now in
    let k = c.loop-set.set in
    let ask = c.in-Some.ask in
    let count = ap (λ (m : NodeData). length m.script.sets) c.self.view_is in
    let here : live_ask (n.set k) c.args.client ≡ Some ask =
    ap (λ (t : SetState). live_ask t c.args.client) (sym c.core.ensures) ∙ sym c.live_ask.ensures.ask ∙ c.in-Some.is in
    let found : ask_below n c.args.client (suc k) ≡ Some (k, ask) =
    ap₂ (λ (a b : Option (ℕ × Ask)). option_or a b) c.loop-set.invariant (ap (option_map (λ (a : Ask). (k, a))) here) in
    sym (ask_stays n c.args.client (suc k) (length c.args.self.now.script.sets) (k, ask) (omega (arith, c.loop-set-test.true, c.sets-set-end.ensures, ap (λ (s : ScriptData). length s.sets) c.kept.ensures, count)) found)
