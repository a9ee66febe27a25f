-- So many bytes were used.
use Rattle.std.specs.Prelude.{◌≡◌, ◌-◌, length}
use Rattle.lt_mail.specs.Words.{outs_count, sent_to, SameEnds}
use Rattle.lt_apart.specs.Remote.{AreCounts}
use Rattle.lt_apart.specs.Carrying.{BringsIn, OnlyBrings}
use Rattle.lt_apart.proofs.bringing.bring_letters.Given as goal

abbrev pub invariant-loop-size : goal.invariant-loop-size
invariant-loop-size l = record {
  counts : AreCounts (outs_count l.ends.far) l.ends.brought.items (sent_to l.ends.far);
  ends : SameEnds l.initial.ends.far l.ends.far;
  brings : BringsIn l.key l.wire l.used (sent_to l.initial.ends.far l.wire.from) (sent_to l.ends.far l.wire.from) l.bytes;
  only : OnlyBrings l.wire.from l.initial.ends.far l.ends.far;
  given : l.ends.given ≡ l.initial.ends.given;
}

abbrev pub decreases-loop-size : goal.decreases-loop-size
decreases-loop-size l = length l.bytes - l.used
