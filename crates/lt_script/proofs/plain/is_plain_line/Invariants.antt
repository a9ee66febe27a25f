use Rattle.std.proofs.Common.{◌≡◌, take}
use Rattle.std.specs.List.{list_all}
use Rattle.lt_script.specs.Faults.{is_plain_byte}
use Rattle.lt_script.proofs.plain.is_plain_line.Given as goal

-- whether the bytes so far are plain
abbrev pub invariant-loop-byte : goal.invariant-loop-byte
invariant-loop-byte l = l.is_plain ≡ list_all is_plain_byte (take l.byte-index l.line)
