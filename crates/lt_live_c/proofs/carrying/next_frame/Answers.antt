-- The frame of a letter has bytes.
use Rattle.std.proofs.Common.{◌≢◌, rules}
use Rattle.lt_apart.specs.Remote.{given}
use Rattle.lt_apart.specs.Carrying.{wire_to}
use Rattle.lt_live_c.proofs.Sending.{some_bytes}
use Rattle.lt_live_c.proofs.carrying.next_frame.Goals as goal

pub returns-in-Ok-clause-some : goal.returns-in-Ok-clause-some
returns-in-Ok-clause-some c =
    let to = c.args.to in
    let some : c.in-Ok.field-0 ≢ 0 = search rules in
    some_bytes c.args.remote.now.key (wire_to c.args.remote.now to) c.in-Ok.field-0 (given c.args.remote.now to)
    (given c.take_out.new.self to) c.args.frame.now.items c.take_out.new.out.items c.in-Ok.ensures.gives some
