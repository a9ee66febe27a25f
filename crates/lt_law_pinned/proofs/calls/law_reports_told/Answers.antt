use Rattle.lt_law_pinned.proofs.ReportsOpened.{report_codes_are, report_texts_are, report_plainly_told, reports_told}
use Rattle.lt_law_pinned.proofs.calls.law_reports_told.Goals as goal

pub returns : goal.returns
returns c = record { codes = report_codes_are; texts = report_texts_are; calls = report_plainly_told; reports = reports_told }
