use Rattle.std.proofs.Common.{◌≡◌, take}
use Rattle.std.specs.List.{list_all}
use Rattle.lt_script.specs.Steps.{is_text_byte}
use Rattle.lt_script.proofs.plain.is_plain_text.Given as goal

-- whether the bytes so far are those of plain lines
abbrev pub invariant-loop-byte : goal.invariant-loop-byte
invariant-loop-byte l = l.is_plain ≡ list_all is_text_byte (take l.byte-index l.text)
