-- The first runner that shows a move, or none.
use Rattle.std.proofs.Common.{ℕ, Some, ap, subst, sym, arith, ◌∙◌}
use Rattle.lt_runner.specs.declared.parts.Parts.{Parts}
use Rattle.lt_runner.specs.Choices.{next_choice}
use Rattle.lt_runner.specs.Kept.{is_move}
use Rattle.lt_threads.specs.Meeting.{IsFirstMove, NoneShows}
use Rattle.lt_threads.proofs.Logs.{first_shows, none_shows}
use Rattle.lt_threads.proofs.enabled.first_to_move.Goals as goal

pub returns-then-has_move : goal.returns-then-has_move
returns-then-has_move c =
    subst (λ (n : ℕ). IsFirstMove c.args.runners.now (Some n)) c.from.ensures
    (first_shows c.from.result c.args.runners.now c.index-runners-from.result (omega (arith, c.from.ensures, c.requires, c.loop-node-test.true))
    (subst (λ (n : ℕ). NoneShows n c.args.runners.now) (sym c.from.ensures) c.loop-node.invariant)
    (ap (λ (p : Parts). is_move (next_choice p)) (sym c.index-runners-from.is) ∙ sym c.has_move.ensures ∙ c.if-has_move.true))

pub returns : goal.returns
returns c = none_shows c.loop-node.node c.args.runners.now (omega (arith, c.requires, c.loop-node-test.false)) c.loop-node.invariant
