use Rattle.std.proofs.Common.{arith}
use Rattle.lt_merge.proofs.Laid.{length-entries_of}
use Rattle.lt_merge.proofs.run.Run.reserve.Goals as goal

pub returns-clause-few : goal.returns-clause-few
returns-clause-few c =
    omega (
      arith,
      length-entries_of c.reserve.new.self.items c.reserve-2.new.self.items,
      c.reserve.new.self.ok.0,
      c.in_ok-reserve.ensures.len,
      c.len.ensures,
      c.in_ok-check_count.ensures.few,
    )
