-- The last move is one that is kept.
use Rattle.std.proofs.Common.{◌<◌, ◌++◌, length, length-append, sym, ap, ◌∙◌, arith}
use Rattle.lt_merge.specs.Merging.{with_event}
use Rattle.lt_merge.proofs.Taking.{length-with_event}
use Rattle.lt_log.specs.LogData.{LogData, past_of}
use Rattle.lt_log.proofs.Behind.{behind}
use Rattle.lt_log.proofs.long_log.LongLog.add_event.Goals as goal

pub returns-clause-entries : goal.returns-clause-entries
returns-clause-entries c =
    let past = past_of c.self.inside.past.items in
    let kept = c.self.inside.kept.entries in
    let some : 0 < length kept =
    omega (
      arith,
      c.requires.kept,
      ap (λ (d : LogData). length d.entries) c.self.view_is,
      ap (λ (d : LogData). d.gone) c.self.view_is,
      length-append past kept,
      c.self.invariant.gone_is,
    ) in
    ap (λ es. past ++ es) c.add_event.ensures.entries
    ∙ (sym (behind past kept c.args.event some) ∙ ap (λ (d : LogData). with_event d.entries c.args.event) c.self.view_is)

pub invariant_of-self : goal.invariant_of-self
invariant_of-self c =
    record {
      gone_is = c.self.invariant.gone_is;
      few =
          omega (
            arith,
            ap length c.add_event.ensures.entries,
            length-with_event c.self.inside.kept.entries c.args.event,
            c.self.invariant.few,
          );
      few_kept =
          omega (
            arith,
            ap length c.add_event.ensures.entries,
            length-with_event c.self.inside.kept.entries c.args.event,
            c.self.invariant.few_kept,
          );
    }
