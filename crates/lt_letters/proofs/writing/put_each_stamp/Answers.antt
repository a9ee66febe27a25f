use Rattle.std.proofs.Common.{rules, ◌<◌, length, take}
use Rattle.std.specs.List.{flat_map}
use Rattle.lt_letters.specs.Spelling.{stamp_bytes}
use Rattle.lt_letters.proofs.Puts.{part_fails, next_within}
use Rattle.lt_letters.proofs.writing.put_each_stamp.Goals as goal

pub returns-in_err-put_stamp : goal.returns-in_err-put_stamp
returns-in_err-put_stamp c =
    let below : c.loop-k.k < length c.args.stamps.now = search rules in
    part_fails (flat_map stamp_bytes (take c.loop-k.k c.args.stamps.now)) (stamp_bytes c.get.result) (flat_map stamp_bytes c.args.stamps.now)
    c.args.out.now c.loop-k.out c.put_stamp.new.out c.put_stamp.result c.from_residual.result c.in_err-put_stamp.field-0.0
    (next_within stamp_bytes c.args.stamps.now c.loop-k.k _ c.get.result below c.get.ensures)
    c.loop-k.invariant.0 c.loop-k.invariant.1 c.put_stamp.ensures c.in_err-put_stamp.was c.from_residual.ensures.0
