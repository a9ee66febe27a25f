use Rattle.lt_law_pinned.proofs.NestsOpened.{nest_codes_are, nest_texts_are, nest_plainly_told, nests_told}
use Rattle.lt_law_pinned.proofs.calls.law_nests_told.Goals as goal

pub returns : goal.returns
returns c = record { codes = nest_codes_are; texts = nest_texts_are; calls = nest_plainly_told; nests = nests_told }
