use Rattle.std.proofs.Common.{length}
use Rattle.lt_script.proofs.IndexLemmas.{IsSought}
use Rattle.lt_script.proofs.index.chains.place_of.Given as goal

-- the look-up has come to this link
abbrev pub invariant-loop-link : goal.invariant-loop-link
invariant-loop-link g l = IsSought g.T.Named.name_of l.items (length l.lasts) l.name l.link

abbrev pub decreases-loop-link : goal.decreases-loop-link
decreases-loop-link g l = l.link
