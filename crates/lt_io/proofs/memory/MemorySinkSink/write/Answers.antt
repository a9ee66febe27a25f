use Rattle.std.proofs.Common.{rules, inl, inr}
use Rattle.lt_io.proofs.memory.MemorySinkSink.write.Goals.{then-is_stopped-via-then-is_stopped, then-is_stopped-via-else-is_stopped+then-is_err}
use Rattle.lt_io.proofs.memory.MemorySinkSink.write.Goals as goal

pub returns-then-is_stopped-clause-failed : goal.returns-then-is_stopped-clause-failed
returns-then-is_stopped-clause-failed c =
    elim c.then-is_stopped.branch [
      | then-is_stopped-via-then-is_stopped w ↦
          let stopped = c.is_stopped.ensures.stopped w.if-is_stopped.true in
          search (rules, stopped, w.self-is, inl)
      | then-is_stopped-via-else-is_stopped+then-is_err w ↦
          search (rules, w.extend_from_slice.ensures, w.is_err.ensures, w.if-is_err.true, w.self-is, inr, c.min-count.ensures)
    ]
