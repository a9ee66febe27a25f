-- The promise, opened.
use Rattle.std.proofs.Common.{take, subst}
use Rattle.lt_modes.specs.declared.event.Event.TheVariants.{Try as TryLine}
use Rattle.lt_spec.specs.World.{world_after}
use Rattle.lt_spec.specs.Promised.{IsOwnAnswer}
use Rattle.lt_law_pinned.specs.Worlds.{PromisedOpens}

pub promised_opens : PromisedOpens
promised_opens = record {
  waits = λ script run p k. (p.moments k).waits;
  tries = λ script run p k client s entry mode got here line.
      subst (IsOwnAnswer script (world_after script (take k run))) line.2 (p.tries k entry here line.0 (TryLine client s mode got) line.1);
  first = λ script run p k s ask rest within. ((p.moments k).at_rest rest).first s ask within;
  in_turn = λ script run p k. p.in_turn k;
  led = λ script run p k s x ask rest. ((p.moments k).at_rest rest).led s x ask;
  frozen = λ script run p k s x row rest within known here.
      let f = ((p.moments k).at_rest rest).frozen s x row within known here in (f.0, f.1, f.2.0, f.2.1, f.3);
}
