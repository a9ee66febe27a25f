use Rattle.std.proofs.Common.{rules, ◌<◌, length, take, refl, slice_index_or}
use Rattle.std.specs.List.{flat_map}
use Rattle.lt_modes.specs.declared.parts.Owed.{Owed}
use Rattle.lt_modes.specs.declared.mode.Mode.TheVariants.{IntentionRead}
use Rattle.lt_letters.specs.Spelling.{owed_bytes}
use Rattle.lt_letters.proofs.Puts.{part_fails, next_within}
use Rattle.lt_letters.proofs.writing.put_each_owed.Goals as goal

abbrev any : Owed
any = record { stamp = record { clock = 0; node = 0 }; mode = IntentionRead }

pub returns-in_err-put_owed : goal.returns-in_err-put_owed
returns-in_err-put_owed c =
    let below : c.loop-one.one-index < length c.args.owed.now = search rules in
    let x = slice_index_or c.args.owed.now c.loop-one.one-index any in
    part_fails (flat_map owed_bytes (take c.loop-one.one-index c.args.owed.now)) (owed_bytes x) (flat_map owed_bytes c.args.owed.now)
    c.args.out.now c.loop-one.out c.put_owed.new.out c.put_owed.result c.from_residual.result c.in_err-put_owed.field-0.0
    (next_within owed_bytes c.args.owed.now c.loop-one.one-index any x below refl)
    c.loop-one.invariant.0 c.loop-one.invariant.1 c.put_owed.ensures c.in_err-put_owed.was c.from_residual.ensures.0
