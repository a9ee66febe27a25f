use Rattle.std.proofs.Common.{◌≡◌, ◌∙◌, Some, map, sym, subst, string_bytes}
use Rattle.lt_words.specs.Grammar.{command_of}
use Rattle.lt_serve.proofs.Answering.{MayBeMade, may_be_made, refusal_serves, written_serves}
use Rattle.lt_serve.proofs.serving.answered.Goals as goal

pub make-requires-clause-possible : goal.make-requires-clause-possible
make-requires-clause-possible g c = λ κs lives.
    let is : command_of (map string_bytes c.args.words.now) ≡ Some c.in-Ok-Some.command = sym c.in-Ok-Some.ensures.command ∙ c.in-Ok-Some.field-0-is in
    subst MayBeMade is (may_be_made (map string_bytes c.args.words.now))

pub returns-in-Ok-clause-served : goal.returns-in-Ok-clause-served
returns-in-Ok-clause-served g c =
    let is : command_of (map string_bytes c.args.words.now) ≡ Some c.in-Ok-Some.command = sym c.in-Ok-Some.ensures.command ∙ c.in-Ok-Some.field-0-is in
    let told = c.write_made.ensures.did c.args.setup.moves c.in-Ok-Some.command (g.S.Source.state c.args.source.now).left c.in-Ok.ensures.does in
    let few = c.write_made.ensures.few c.args.setup.moves c.in-Ok-Some.command (g.S.Source.state c.args.source.now).left c.in-Ok.ensures.does in
    let few_failed = c.write_made.ensures.few_failed c.args.setup.moves c.in-Ok-Some.command (g.S.Source.state c.args.source.now).left c.in-Ok.ensures.does in
    written_serves g.S.Source.state g.K.Sink.held g.K.Sink.faults g.K.Sink.pace c.args.setup.moves _
    c.in-Ok-Some.command c.write_made.result c.args.source.now c.make.new.source c.args.sink.now c.write_made.new.sink is c.write_made.ensures.written told
    c.in-Ok.ensures.whole c.make.ensures.unread few few_failed c.write_made.ensures.writing c.write_made.ensures.unwritten

pub returns-in-Err-make-clause-served : goal.returns-in-Err-make-clause-served
returns-in-Err-make-clause-served g c =
    let is : command_of (map string_bytes c.args.words.now) ≡ Some c.in-Ok-Some.command = sym c.in-Ok-Some.ensures.command ∙ c.in-Ok-Some.field-0-is in
    refusal_serves g.S.Source.state g.K.Sink.held g.K.Sink.faults g.K.Sink.pace c.args.setup.moves _
    c.in-Ok-Some.command c.without_run-in-Err-make.result c.in-Err-make.status c.args.source.now c.make.new.source c.args.sink.now is
    c.without_run-in-Err-make.ensures.status c.without_run-in-Err-make.ensures.run c.in-Err-make.ensures.refused c.in-Err-make.ensures.reading c.make.ensures.unread
    c.in-Err-make.ensures.memory
