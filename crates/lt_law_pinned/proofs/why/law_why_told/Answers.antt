use Rattle.lt_law_pinned.proofs.WhyRings.{why_rings_are}
use Rattle.lt_law_pinned.proofs.WhyOpened.{why_words_are, why_plainly_told, why_told}
use Rattle.lt_law_pinned.proofs.why.law_why_told.Goals as goal

pub returns : goal.returns
returns c = record { words = why_words_are; rings = why_rings_are; calls = why_plainly_told; why = why_told }
