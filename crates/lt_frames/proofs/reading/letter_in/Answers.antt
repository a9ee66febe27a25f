use Rattle.std.proofs.Common.{Err, ap, ◌∙◌}
use Rattle.lt_letters.specs.declared.fault.ReadError.{ReadError}
use Rattle.lt_frames.proofs.Returned.{letter_found}
use Rattle.lt_frames.proofs.reading.letter_in.Goals as goal

pub returns-in-Err-Memory : goal.returns-in-Err-Memory
returns-in-Err-Memory c =
    letter_found c.args.head c.args.text.now
    (c.read_letter.ensures.memory (c.in-Err-Memory.is ∙ ap (λ (e : ReadError). Err e) c.in-Err-Memory.field-0-is))
