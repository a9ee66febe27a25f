use Rattle.std.proofs.Common.{arith}
use Rattle.lt_frames.specs.declared.fault.FrameFault.TheVariants as faults
use Rattle.lt_frames.proofs.Returned.{is_frame, is_again, is_unfinished, has_frame, has_cause}
use Rattle.lt_frames.proofs.reading.read_frame.Goals as goal

pub returns-clause-found : goal.returns-clause-found
returns-clause-found c = is_frame c.args.key.now c.args.wire c.args.bytes.now c.frame_in.result (λ i. omega (arith, c.type_inv.bytes i)) c.frame_in.ensures.exact

pub returns-clause-again : goal.returns-clause-again
returns-clause-again c = λ f rest by fits is. is_again c.args.key.now c.args.wire c.args.bytes.now c.frame_in.result f rest c.frame_in.ensures.exact by fits is

pub returns-clause-unfinished : goal.returns-clause-unfinished
returns-clause-unfinished c = λ e. is_unfinished c.args.key.now c.args.wire c.args.bytes.now c.frame_in.result (λ i. omega (arith, c.type_inv.bytes i)) c.frame_in.ensures.exact e

pub returns-clause-memory : goal.returns-clause-memory
returns-clause-memory c = λ e. has_frame c.args.key.now c.args.wire c.args.bytes.now c.frame_in.result (λ i. omega (arith, c.type_inv.bytes i)) c.frame_in.ensures.exact e

pub returns-clause-too_long : goal.returns-clause-too_long
returns-clause-too_long c = λ e. has_cause c.args.key.now c.args.wire c.args.bytes.now c.frame_in.result faults.TooLong (λ i. omega (arith, c.type_inv.bytes i)) c.frame_in.ensures.exact e

pub returns-clause-version : goal.returns-clause-version
returns-clause-version c = λ e. has_cause c.args.key.now c.args.wire c.args.bytes.now c.frame_in.result faults.Version (λ i. omega (arith, c.type_inv.bytes i)) c.frame_in.ensures.exact e

pub returns-clause-service : goal.returns-clause-service
returns-clause-service c = λ e. has_cause c.args.key.now c.args.wire c.args.bytes.now c.frame_in.result faults.Service (λ i. omega (arith, c.type_inv.bytes i)) c.frame_in.ensures.exact e

pub returns-clause-sender : goal.returns-clause-sender
returns-clause-sender c = λ e. has_cause c.args.key.now c.args.wire c.args.bytes.now c.frame_in.result faults.Sender (λ i. omega (arith, c.type_inv.bytes i)) c.frame_in.ensures.exact e

pub returns-clause-receiver : goal.returns-clause-receiver
returns-clause-receiver c = λ e. has_cause c.args.key.now c.args.wire c.args.bytes.now c.frame_in.result faults.Receiver (λ i. omega (arith, c.type_inv.bytes i)) c.frame_in.ensures.exact e

pub returns-clause-seal : goal.returns-clause-seal
returns-clause-seal c = λ e. has_cause c.args.key.now c.args.wire c.args.bytes.now c.frame_in.result faults.Seal (λ i. omega (arith, c.type_inv.bytes i)) c.frame_in.ensures.exact e

pub returns-clause-letter : goal.returns-clause-letter
returns-clause-letter c = λ fault e. has_cause c.args.key.now c.args.wire c.args.bytes.now c.frame_in.result (faults.Letter fault) (λ i. omega (arith, c.type_inv.bytes i)) c.frame_in.ensures.exact e
