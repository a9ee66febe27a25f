use Rattle.std.proofs.Common.{rules, ◌≡◌, ◌<◌, length}
use Rattle.lt_live_serve.proofs.Answering.{usage_serves, written_serves, refusal_serves}
use Rattle.lt_live_serve.proofs.serving.serve.Goals as goal

pub returns-in-Ok : goal.returns-in-Ok
returns-in-Ok g c =
    let none : length c.args.words.now ≡ 0 = search rules in
    written_serves g.S.Source.state g.K.Sink.held g.K.Sink.faults g.K.Sink.pace (length c.args.words.now) c.write_made.result
    c.args.source.now c.make.new.source c.args.sink.now c.write_made.new.sink none c.write_made.ensures.written
    (c.write_made.ensures.did (g.S.Source.state c.args.source.now).left c.in-Ok.ensures.journals) c.in-Ok.ensures.whole
    (c.write_made.ensures.few (g.S.Source.state c.args.source.now).left c.in-Ok.ensures.journals)
    (c.write_made.ensures.few_failed (g.S.Source.state c.args.source.now).left c.in-Ok.ensures.journals)
    c.write_made.ensures.writing c.write_made.ensures.unwritten

pub returns-in-Err : goal.returns-in-Err
returns-in-Err g c =
    let none : length c.args.words.now ≡ 0 = search rules in
    refusal_serves g.S.Source.state g.K.Sink.held g.K.Sink.faults g.K.Sink.pace (length c.args.words.now) c.without_run-in-Err.result c.in-Err.status
    c.args.source.now c.make.new.source c.args.sink.now none c.without_run-in-Err.ensures.status c.without_run-in-Err.ensures.run
    c.without_run-in-Err.ensures.polled c.in-Err.ensures.refused c.in-Err.ensures.reading c.in-Err.ensures.memory

pub returns-then-not-is_empty : goal.returns-then-not-is_empty
returns-then-not-is_empty g c =
    let some : 0 < length c.args.words.now = search rules in
    usage_serves g.S.Source.state g.K.Sink.held g.K.Sink.faults g.K.Sink.pace (length c.args.words.now) c.without_run.result c.args.source.now c.args.sink.now some
    c.without_run.ensures.status c.without_run.ensures.run c.without_run.ensures.polled
