use Rattle.lt_nest_lines.specs.Answers.{outcome_of}
use Rattle.lt_nest_lines.specs.Serves.{IsWritten, IsUnfit, LinesWantMemory}
use Rattle.lt_law_any.proofs.CallOpened.{call_says}
use Rattle.lt_law_any.proofs.NestOpened.{nest_says}
use Rattle.lt_law_any.proofs.nests.law_any_nest.Goals as goal

pub returns : goal.returns
returns g c = record {
  call = call_says outcome_of IsWritten IsUnfit LinesWantMemory 1048576 g.S.Source.state g.K.Sink.held g.K.Sink.faults g.K.Sink.pace;
  nest = nest_says g.S.Source.state g.K.Sink.held g.K.Sink.faults g.K.Sink.pace;
}
