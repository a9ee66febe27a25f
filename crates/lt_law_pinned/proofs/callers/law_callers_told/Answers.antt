use Rattle.lt_law_pinned.proofs.CallersOpened.{callers_texts_are, callers_ends_told, callers_told}
use Rattle.lt_law_pinned.proofs.callers.law_callers_told.Goals as goal

pub returns : goal.returns
returns g c = record { texts = callers_texts_are; ends = callers_ends_told; callers = callers_told g.C.Caller.goes }
