use Rattle.lt_waits.proofs.Judged.{unfit_says, unfit_refusal, unfit_wants, said_why}
use Rattle.lt_waits.proofs.Explaining.{old_unmarked, no_void_text}
use Rattle.lt_waits.proofs.reasons.ReasonsWork.make.Goals as goal

pub returns-in-Err-clause-reading : goal.returns-in-Err-clause-reading
returns-in-Err-clause-reading g c =
    unfit_says c.from.result c.in-Err.error (g.S.Source.state c.args.source.now) (g.S.Source.state c.check_input.new.source) c.from.ensures c.in-Err.ensures.err

pub returns-in-Err-clause-refused : goal.returns-in-Err-clause-refused
returns-in-Err-clause-refused g c =
    unfit_refusal c.from.result c.in-Err.error (g.S.Source.state c.args.source.now) (g.S.Source.state c.check_input.new.source) c.from.ensures c.in-Err.ensures.err

pub returns-in-Err-clause-memory : goal.returns-in-Err-clause-memory
returns-in-Err-clause-memory g c =
    unfit_wants c.from.result c.in-Err.error (g.S.Source.state c.args.source.now) (g.S.Source.state c.check_input.new.source) c.from.ensures c.in-Err.ensures.err

pub why-told-requires : goal.why-told-requires
why-told-requires g c = c.in-Ok.ensures.told.script_is

pub returns-in-Ok-told-clause-text : goal.returns-in-Ok-told-clause-text
returns-in-Ok-told-clause-text g c =
    let ended = c.in-Ok.ended in
    let told = c.in-Ok.ensures.told in
    said_why (g.S.Source.state c.args.source.now).left ended.script ended.world c.in-Ok-told.text.items told
    (λ older. no_void_text ended.script ended.world.run
    (old_unmarked ended.script ended.world.run c.law_old_lines.ensures.unmarked c.in-Ok.ensures.kept told.finished.is_run older))
    c.in-Ok-told.ensures
