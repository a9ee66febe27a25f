use Rattle.std.proofs.Common.{◌≡◌, length}
use Rattle.lt_script.specs.Index.{spot_at, AreLinked}
use Rattle.lt_script.proofs.index.chains.linked.Given as goal

-- the items so far are linked
abbrev pub invariant-loop-place : goal.invariant-loop-place
invariant-loop-place g l = record {
  linked : AreLinked (spot_at g.T.Named.name_of l.items (length l.fn.lasts)) l.place l.lasts l.befores;
  spots : length l.lasts ≡ length l.fn.lasts;
  count : length l.befores ≡ length l.fn.befores;
}
