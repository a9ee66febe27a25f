use Rattle.std.proofs.Common.{◌∙◌, ◌++◌, ℕ, List, true, false, slice_index_or, ap, sym, append-nil}
use Rattle.lt_waits.specs.declared.edge.Edge.{Edge}
use Rattle.lt_waits.proofs.Pairs.{pair_marked}
use Rattle.lt_waits.proofs.voids.push_marked.Goals as goal

pub returns-in_ok-push-clause-pair : goal.returns-in_ok-push-clause-pair
returns-in_ok-push-clause-pair c = λ graph is.
    c.in_ok-push.ensures.items
    ∙ ap (λ (l : List Edge). c.args.edges.now.items ++ l)
    (sym (pair_marked graph c.args.clients c.args.client c.args.other c.args.marks.now true is c.requires.other
    (ap (λ (k : ℕ). slice_index_or c.args.marks.now k false) (sym c.from.ensures) ∙ c.if-marks-from.true)))

pub returns-else-marks-from-clause-pair : goal.returns-else-marks-from-clause-pair
returns-else-marks-from-clause-pair c = λ graph is.
    sym (append-nil c.args.edges.now.items)
    ∙ ap (λ (l : List Edge). c.args.edges.now.items ++ l)
    (sym (pair_marked graph c.args.clients c.args.client c.args.other c.args.marks.now false is c.requires.other
    (ap (λ (k : ℕ). slice_index_or c.args.marks.now k false) (sym c.from.ensures) ∙ c.if-marks-from.false)))
