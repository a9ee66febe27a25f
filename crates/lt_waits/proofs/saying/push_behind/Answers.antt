use Rattle.std.proofs.Common.{◌≡◌, ◌∙◌, ◌<◌, ◌++◌, List, length, ℕ, ap, sym, arith, append-nil, append_assoc, codes}
use Rattle.std.proofs.lemmas.Grind.{common_steps}
use Rattle.std.proofs.lemmas.Result.{on_ok_weaker}
use Rattle.lt_waits.specs.Reasons.{edges_text}
use Rattle.lt_waits.proofs.Naming.{behind_none, behind_some}
use Rattle.lt_waits.proofs.saying.push_behind.Goals as goal

pub returns-then-is_empty : goal.returns-then-is_empty
returns-then-is_empty c =
    let empty : length c.args.edges.now ≡ 0 = grind (arith, common_steps) in
    sym (append-nil c.args.out.now.items) ∙ ap (λ (t : List ℕ). c.args.out.now.items ++ t) (sym (behind_none c.args.tallied.now.script c.args.tallied.now.lines c.args.edges.now empty))

pub returns : goal.returns
returns c =
    let some : 0 < length c.args.edges.now = grind (arith, common_steps) in
    on_ok_weaker c.push_edges.result
    (λ last. last ∙ ap (λ (t : List ℕ). t ++ edges_text c.args.tallied.now.script c.args.tallied.now.lines c.args.edges.now) c.in_ok-push_title.ensures
    ∙ append_assoc c.args.out.now.items (codes "behind the ring\n") (edges_text c.args.tallied.now.script c.args.tallied.now.lines c.args.edges.now)
    ∙ ap (λ (t : List ℕ). c.args.out.now.items ++ t) (sym (behind_some c.args.tallied.now.script c.args.tallied.now.lines c.args.edges.now some)))
    c.push_edges.ensures
