-- One frame after the other.
use Rattle.std.proofs.Common.{◌≡◌, ◌-◌, ℕ, List, Ok, None, ◌∙◌, rules, subst, length, take, drop}
use Rattle.std.proofs.lemmas.List.{take_rest}
use Rattle.lt_mail.specs.Words.{sent_to}
use Rattle.lt_mail.proofs.LookLemmas.{ends_join}
use Rattle.lt_apart.specs.Carrying.{BringsIn, WaitsForMore}
use Rattle.lt_apart.proofs.BroughtIn.{brought_is, only_join}
use Rattle.lt_apart.proofs.Frames.{brings_more}
use Rattle.lt_apart.proofs.bringing.bring_letters.Goals as goal

pub loop-size-preserved : goal.loop-size-preserved
loop-size-preserved c =
    let from = c.args.wire.from in
    let first = c.args.ends.now.far in
    let before = c.loop-size.ends.far in
    let now = c.bring_next.new.ends.far in
    let h = c.loop-size.invariant in
    let bytes = c.args.bytes.now in
    let used = c.loop-size.used in
    let next = brought_is c.args.key.now c.args.wire c.in-Ok-Some.field-0 c.in-Ok-Some.size (sent_to before from) (sent_to now from)
    (take (length bytes - used) (drop used bytes)) c.in-Ok-Some.field-0-is c.in-Ok-Some.ensures.brings in
    record {
      counts = c.bring_next.ensures.counts;
      ends = ends_join first before now h.ends c.bring_next.ensures.ends;
      brings = brings_more c.args.key.now c.args.wire used c.in-Ok-Some.size (sent_to first from) (sent_to before from) (sent_to now from) bytes h.brings
          (subst (λ (rest : List ℕ). BringsIn c.args.key.now c.args.wire c.in-Ok-Some.size (sent_to before from) (sent_to now from) rest)
          (take_rest bytes used) next.0);
      only = only_join from first before now h.only c.bring_next.ensures.only;
      given = c.bring_next.ensures.given ∙ h.given;
    }

pub returns-in-Ok-None-clause-stops : goal.returns-in-Ok-None-clause-stops
returns-in-Ok-None-clause-stops c =
    let is : c.bring_next.result ≡ Ok None = search rules in
    subst (λ (rest : List ℕ). WaitsForMore c.args.wire c.bring_next.new.ends.far rest) (take_rest c.args.bytes.now c.loop-size.used)
    (c.bring_next.ensures.waits is)
