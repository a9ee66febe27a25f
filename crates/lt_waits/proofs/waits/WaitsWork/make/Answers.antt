use Rattle.lt_waits.proofs.Judged.{unfit_says, unfit_refusal, unfit_wants, reported}
use Rattle.lt_waits.proofs.Explaining.{explained}
use Rattle.lt_waits.proofs.waits.WaitsWork.make.Goals as goal

pub returns-in-Err-clause-reading : goal.returns-in-Err-clause-reading
returns-in-Err-clause-reading g c =
    unfit_says c.from.result c.in-Err.error (g.S.Source.state c.args.source.now) (g.S.Source.state c.check_input.new.source) c.from.ensures c.in-Err.ensures.err

pub returns-in-Err-clause-refused : goal.returns-in-Err-clause-refused
returns-in-Err-clause-refused g c =
    unfit_refusal c.from.result c.in-Err.error (g.S.Source.state c.args.source.now) (g.S.Source.state c.check_input.new.source) c.from.ensures c.in-Err.ensures.err

pub returns-in-Err-clause-memory : goal.returns-in-Err-clause-memory
returns-in-Err-clause-memory g c =
    unfit_wants c.from.result c.in-Err.error (g.S.Source.state c.args.source.now) (g.S.Source.state c.check_input.new.source) c.from.ensures c.in-Err.ensures.err

pub report-told-requires : goal.report-told-requires
report-told-requires g c = c.in-Ok.ensures.told.script_is

pub returns-in-Ok-told-clause-text : goal.returns-in-Ok-told-clause-text
returns-in-Ok-told-clause-text g c =
    let ended = c.in-Ok.ended in
    let told = c.in-Ok.ensures.told in
    let why = explained ended.script ended.world.run (record {
      each = c.law_void_waits.ensures.some;
      each_unmarked = c.law_waiting.ensures.some;
      cycles = c.law_reports.ensures.cycles;
      rings = c.law_reports.ensures.rings;
      ends = c.law_void_waits.ensures.ends;
      ends_unmarked = c.law_waiting.ensures.ends;
      waiters = c.law_void_waits.ensures.all;
      waiters_unmarked = c.law_waiting.ensures.all;
      voids = c.law_void_waits.ensures.pairs;
      no_void = c.law_waiting.ensures.no_void;
      old = c.law_old_lines.ensures.unmarked;
    }) c.in-Ok.ensures.kept told.finished in
    reported (g.S.Source.state c.args.source.now).left ended.script ended.world c.in-Ok-told.text.items told why c.in-Ok-told.ensures
