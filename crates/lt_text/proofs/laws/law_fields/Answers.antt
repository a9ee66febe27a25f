use Rattle.lt_text.proofs.TextLemmas.{fields_spaced, spaced_fields}
use Rattle.lt_text.proofs.laws.law_fields.Goals as goal

pub returns-clause-read : goal.returns-clause-read
returns-clause-read c = λ first later good. fields_spaced first later good.0 good.1

pub returns-clause-written : goal.returns-clause-written
returns-clause-written c = spaced_fields
