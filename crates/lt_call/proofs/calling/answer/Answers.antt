use Rattle.std.proofs.Common.{rules, ◌≡◌, ◌<◌, length, sym, subst, List, ℕ}
use Rattle.lt_call.proofs.Answering.{usage_serves, written_serves, refusal_serves}
use Rattle.lt_call.proofs.calling.answer.Goals as goal

pub returns-in-Ok : goal.returns-in-Ok
returns-in-Ok g c =
    let none : length c.args.words.now ≡ 0 = search rules in
    let is = subst (λ (text : List ℕ). g.W.Work.makes c.args.work.now (g.S.Source.state c.args.source.now).left text) (sym c.deref.ensures.value) c.in-Ok.ensures.text in
    written_serves g.W.Answer.Status.outcome (g.W.Work.makes c.args.work.now) (g.W.Work.refuses c.args.work.now) (g.W.Work.wants c.args.work.now) (g.W.Work.limit c.args.work.now)
    g.S.Source.state g.K.Sink.held g.K.Sink.faults g.K.Sink.pace (length c.args.words.now) c.write_text.result c.deref.result.now
    c.args.source.now c.make.new.source c.args.sink.now c.write_text.new.sink none c.write_text.ensures.written is c.in-Ok.ensures.whole
    c.write_text.ensures.all c.write_text.ensures.part c.write_text.ensures.few c.write_text.ensures.few_failed c.write_text.ensures.writing

pub returns-in-Err : goal.returns-in-Err
returns-in-Err g c =
    let none : length c.args.words.now ≡ 0 = search rules in
    refusal_serves g.W.Answer.Status.outcome (g.W.Work.makes c.args.work.now) (g.W.Work.refuses c.args.work.now) (g.W.Work.wants c.args.work.now) (g.W.Work.limit c.args.work.now)
    g.S.Source.state g.K.Sink.held g.K.Sink.faults g.K.Sink.pace (length c.args.words.now) c.in-Err.answer
    c.args.source.now c.make.new.source c.args.sink.now none c.in-Err.ensures.refused c.in-Err.ensures.reading c.in-Err.ensures.memory

pub returns-then-not-is_empty : goal.returns-then-not-is_empty
returns-then-not-is_empty g c =
    let some : 0 < length c.args.words.now = search rules in
    usage_serves g.W.Answer.Status.outcome (g.W.Work.makes c.args.work.now) (g.W.Work.refuses c.args.work.now) (g.W.Work.wants c.args.work.now) (g.W.Work.limit c.args.work.now)
    g.S.Source.state g.K.Sink.held g.K.Sink.faults g.K.Sink.pace (length c.args.words.now) c.of.result c.args.source.now c.args.sink.now some c.of.ensures
