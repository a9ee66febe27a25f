use Rattle.std.proofs.Common.{sym, ◌∙◌}
use Rattle.lt_nest.specs.declared.locks.Ask.{Ask}
use Rattle.lt_nest.specs.Forest.{is_own, ask_conflicts}
use Rattle.lt_nest.specs.Locks.{missing_ask}
use Rattle.lt_nest.proofs.OpenChildren.{first_bars, none_bars}
use Rattle.lt_nest.proofs.queue.asks_bar.Goals as goal

pub returns-then-not-is_own : goal.returns-then-not-is_own
returns-then-not-is_own c =
    rw c.if-not-is_own.true
    (sym (first_bars (ask_conflicts c.args.mode) (λ (ask : Ask). is_own c.args.transactions.now ask.owner c.args.x) c.args.asks.now c.in-Some.k missing_ask (sym c.ask_in_conflict.ensures.place ∙ c.in-Some.is) (sym c.is_own.ensures ∙ c.if-not-is_own.true)))

pub returns-in-None : goal.returns-in-None
returns-in-None c =
    sym (none_bars (ask_conflicts c.args.mode) (λ (ask : Ask). is_own c.args.transactions.now ask.owner c.args.x) c.args.asks.now (sym c.ask_in_conflict.ensures.place ∙ c.in-None.is))
