-- Why the frame is refused.
use Rattle.std.proofs.Common.{◌≡◌, Err, subst, sym, rules}
use Rattle.lt_frames.specs.declared.fault.FrameError.TheVariants as errors
use Rattle.lt_frames.specs.declared.fault.FrameFault.{FrameFault}
use Rattle.lt_frames.specs.Causes.{IsFrameCause}
use Rattle.lt_apart.specs.declared.fault.WireFault.{WireFault}
use Rattle.lt_apart.specs.Faults.{IsWireCause}
use Rattle.lt_apart.proofs.BroughtIn.{frame_cause, by_fault}
use Rattle.lt_apart.proofs.bringing.frame_at.Goals as goal

pub returns-in-Err-Fault-clause-cause : goal.returns-in-Err-Fault-clause-cause
returns-in-Err-Fault-clause-cause c = λ letters next.
    let e = c.read_frame.ensures in
    let fault = c.in-Err-Fault.fault in
    let is : c.read_frame.result ≡ Err (errors.Fault fault) = search rules in
    subst (λ (f : WireFault). IsWireCause c.args.key.now c.args.wire letters f c.args.bytes.now) (sym c.of_frame.ensures)
    (frame_cause c.args.key.now c.args.wire c.args.bytes.now letters fault
    (by_fault (λ (f : FrameFault). c.read_frame.result ≡ Err (errors.Fault f) → IsFrameCause c.args.key.now c.args.wire f c.args.bytes.now)
    e.too_long e.version e.service e.sender e.receiver e.seal e.letter fault is))
