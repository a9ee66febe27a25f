use Rattle.std.proofs.Common.{subst, refl, length, ◌<◌}
use Rattle.std.proofs.lemmas.Option.{slice_get_read}
use Rattle.lt_merge.specs.Heads.{entries_in}
use Rattle.lt_merge.proofs.logs.take_move.Goals as goal

pub copy_move-requires : goal.copy_move-requires
copy_move-requires c =
    let logs = c.args.logs.now in
    let found = slice_get_read logs (length logs) c.args.head.log c.index-logs-head.result refl c.requires.log c.index-logs-head.is in
    record { inside = subst (λ o. c.args.head.place < length (entries_in o)) found c.requires.place }
