-- Each of the laws.
use Rattle.lt_letters.proofs.Letters.{written_is_read, read_is_written, faults_have_causes, bytes_are_prefix}
use Rattle.lt_letters.proofs.laws.law_letters.Goals as goal

pub returns : goal.returns
returns c = record { read = written_is_read; written = read_is_written; faults = faults_have_causes; first = bytes_are_prefix }
