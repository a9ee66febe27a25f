use Rattle.std.proofs.Common.{◌≡◌, ◌==◌, drop, find}
use Rattle.lt_modes.specs.declared.ask.Ask.{Ask}
use Rattle.lt_core.proofs.one_set.Core.ask_of.Given as goal

abbrev pub invariant-loop-k : goal.invariant-loop-k
invariant-loop-k l = find (λ (ask : Ask). ask.client == l.client) (drop l.k l.asks) ≡ find (λ (ask : Ask). ask.client == l.client) l.asks
