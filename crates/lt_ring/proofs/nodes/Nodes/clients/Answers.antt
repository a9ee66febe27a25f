use Rattle.std.proofs.Common.{◌≡◌, ◌∙◌, ◌<◌, Bool, ℕ, true, false, Some, None, if◌then◌else◌, ap, arith, length, sym}
use Rattle.std.specs.List.{list_all}
use Rattle.lt_modes.specs.Script.{ScriptData}
use Rattle.lt_ring.specs.Seen.{is_alike}
use Rattle.lt_ring.proofs.Places.{by_first}
use Rattle.lt_ring.proofs.nodes.Nodes.clients.Goals as goal

pub returns-then-are_like : goal.returns-then-are_like
returns-then-are_like c =
    let nodes = c.args.self.now in
    let first = c.at-first.result.now in
    let some : 0 < length nodes = omega (arith, c.count.ensures, c.if-count-eq0.false) in
    let here : list_all (is_alike first) nodes ≡ true = sym c.are_like.ensures ∙ c.if-are_like.true in
    let many : c.clients.result ≡ length first.script.clients = c.clients.ensures.clients ∙ ap (λ (s : ScriptData). length s.clients) c.script.ensures.kept in
    ap (λ (k : ℕ). Some k) many
    ∙ sym (by_first nodes first some c.at-first.ensures ∙ ap (λ (b : Bool). if b then Some (length first.script.clients) else None) here)

pub returns-else-are_like : goal.returns-else-are_like
returns-else-are_like c =
    let nodes = c.args.self.now in
    let first = c.at-first.result.now in
    let some : 0 < length nodes = omega (arith, c.count.ensures, c.if-count-eq0.false) in
    let here : list_all (is_alike first) nodes ≡ false = sym c.are_like.ensures ∙ c.if-are_like.false in
    sym (by_first nodes first some c.at-first.ensures ∙ ap (λ (b : Bool). if b then Some (length first.script.clients) else None) here)
