-- The loop of turns.
use Rattle.std.proofs.Common.{◌≡◌, ◌<◌, ◌+◌, ◌-◌, ◌*◌, length}
use Rattle.lt_runner.specs.Kept.{RunnerInvariant, Grew, IsFlushed, RunnerIsQuiet}
use Rattle.lt_runner.proofs.parts.Parts.work.Given as goal

abbrev pub invariant-loop-quiet : goal.invariant-loop-quiet
invariant-loop-quiet g l = record {
  kept : RunnerInvariant l.self;
  grew : Grew l.initial.self l.self;
  ended : 0 < l.quiet → RunnerIsQuiet l.self;
  flushed : 0 < l.quiet → IsFlushed l.self;
  none : l.fn.patience ≡ 0 → l.self ≡ l.initial.self;
}

abbrev pub decreases-loop-quiet : goal.decreases-loop-quiet
decreases-loop-quiet g l = (l.self.limit - length l.self.log.entries) * (l.fn.patience + 1) + (l.fn.patience - l.quiet)
