-- The texts of what keeps a source from being read whole.
use Rattle.std.specs.Prelude.{ℕ, List, codes}
use Rattle.lt_io.specs.declared.whole.ReadFailure.{ReadFailure}
use Rattle.lt_io.specs.declared.whole.ReadFailure.TheVariants.{Memory, Failed, TooLong}

abbrev pub failure_text : ReadFailure → List ℕ
failure_text Memory = codes "out of memory"
failure_text Failed = codes "a read failed"
failure_text TooLong = codes "the input is too long"
