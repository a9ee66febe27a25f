use Rattle.std.proofs.Common.{ap, arith, refl, length, drop, ◌∙◌}
use Rattle.std.proofs.lemmas.List.{drop_all}
use Rattle.std.proofs.lemmas.Option.{slice_get_read}
use Rattle.lt_merge.specs.Heads.{entries_in, first_stamp}
use Rattle.lt_merge.proofs.Taking.{stamp_at}
use Rattle.lt_merge.proofs.heads.head_at.Goals as goal

pub returns-then-place-len : goal.returns-then-place-len
returns-then-place-len c =
    let found = slice_get_read c.args.logs.now (length c.args.logs.now) c.args.log c.index-logs-log.result refl c.requires c.index-logs-log.is in
    ap (λ o. drop c.args.place (entries_in o)) found ∙ drop_all c.args.place c.index-logs-log.result.entries (omega arith)

pub returns : goal.returns
returns c =
    let found = slice_get_read c.args.logs.now (length c.args.logs.now) c.args.log c.index-logs-log.result refl c.requires c.index-logs-log.is in
    (ap (λ o. first_stamp (drop c.args.place (entries_in o))) found ∙ stamp_at c.index-logs-log.result.entries c.args.place c.made.result c.made.ensures, refl, refl)
