-- Turns one after the other.
use Rattle.std.proofs.Common.{refl, arith, sym, ◌∙◌}
use Rattle.lt_runner.specs.declared.turning.Turned.TheVariants.{Moved, Quiet, Full, NoMemory}
use Rattle.lt_runner.proofs.TurnLemmas.{turn_grew, grew_self, quiet_not_moved, full_not_moved, no_memory_not_moved}
use Rattle.lt_runner.proofs.parts.Parts.work.Goals as goal

pub loop-quiet-init : goal.loop-quiet-init
loop-quiet-init g c = record {
  kept = c.requires;
  grew = grew_self c.args.self.now;
  ended = λ some. absurd (omega (arith, some));
  flushed = λ some. absurd (omega (arith, some));
  none = λ none. refl;
}

pub loop-quiet-preserved-in-Moved : goal.loop-quiet-preserved-in-Moved
loop-quiet-preserved-in-Moved g c = record {
  kept = c.turn.ensures.kept;
  grew = turn_grew Moved c.args.self.now c.loop-quiet.self c.turn.new.self c.loop-quiet.invariant.grew c.turn.ensures.same c.in-Moved.ensures.ends;
  ended = λ some. absurd (omega (arith, some));
  flushed = λ some. absurd (omega (arith, some));
  none = λ none. absurd (omega (arith, none));
}

pub loop-quiet-preserved : goal.loop-quiet-preserved
loop-quiet-preserved g c = record {
  kept = c.turn.ensures.kept;
  grew = turn_grew Quiet c.args.self.now c.loop-quiet.self c.turn.new.self c.loop-quiet.invariant.grew c.turn.ensures.same c.in-Quiet.ensures.ends;
  ended = λ some. c.in-Quiet.ensures.ends.1;
  flushed = λ some. c.turn.ensures.flushed (λ same. quiet_not_moved (sym c.in-Quiet.is ∙ same));
  none = λ none. absurd (omega (arith, none));
}

pub returns-in-Full-clause-grew : goal.returns-in-Full-clause-grew
returns-in-Full-clause-grew g c =
    turn_grew Full c.args.self.now c.loop-quiet.self c.turn.new.self c.loop-quiet.invariant.grew c.turn.ensures.same c.in-Full.ensures.ends

pub returns-in-Full-clause-ends : goal.returns-in-Full-clause-ends
returns-in-Full-clause-ends g c = c.in-Full.ensures.ends.1

pub returns-in-Full-clause-flushed : goal.returns-in-Full-clause-flushed
returns-in-Full-clause-flushed g c = λ some. c.turn.ensures.flushed (λ same. full_not_moved (sym c.in-Full.is ∙ same))

pub returns-in-Full-clause-at_once : goal.returns-in-Full-clause-at_once
returns-in-Full-clause-at_once g c = λ none. absurd (omega (arith, none))

pub returns-in-NoMemory-clause-grew : goal.returns-in-NoMemory-clause-grew
returns-in-NoMemory-clause-grew g c =
    turn_grew NoMemory c.args.self.now c.loop-quiet.self c.turn.new.self c.loop-quiet.invariant.grew c.turn.ensures.same c.in-NoMemory.ensures.ends

pub returns-in-NoMemory-clause-ends : goal.returns-in-NoMemory-clause-ends
returns-in-NoMemory-clause-ends g c = c.in-NoMemory.ensures.ends.1

pub returns-in-NoMemory-clause-flushed : goal.returns-in-NoMemory-clause-flushed
returns-in-NoMemory-clause-flushed g c = λ some. c.turn.ensures.flushed (λ same. no_memory_not_moved (sym c.in-NoMemory.is ∙ same))

pub returns-in-NoMemory-clause-at_once : goal.returns-in-NoMemory-clause-at_once
returns-in-NoMemory-clause-at_once g c = λ none. absurd (omega (arith, none))

pub returns-clause-flushed : goal.returns-clause-flushed
returns-clause-flushed g c = λ some. c.loop-quiet.invariant.flushed (omega (arith, some))

pub returns-clause-at_once : goal.returns-clause-at_once
returns-clause-at_once g c = λ none. (refl, c.loop-quiet.invariant.none none)
