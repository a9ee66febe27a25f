use Rattle.lt_serve.proofs.NeverCut.{ends}
use Rattle.lt_serve.proofs.serving.serve_with.Goals as goal

pub returns-clause-ends : goal.returns-clause-ends
returns-clause-ends g c = λ far.
    ends g.S.Source.state g.K.Sink.held g.K.Sink.faults g.K.Sink.pace c.args.setup.moves _ c.answered.result c.args.source.now c.answered.new.source
    c.args.sink.now c.answered.new.sink c.law_never_cut.ensures.at_all far c.answered.ensures.served
