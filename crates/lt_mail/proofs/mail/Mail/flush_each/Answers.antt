-- The outbox to one node more was flushed.
use Rattle.std.proofs.Common.{ℕ, Bool, ◌∙◌, ◌+◌, arith, subst, sym}
use Rattle.lt_mail.specs.Telling.{GrewIf, FlushesFirst}
use Rattle.lt_mail.specs.Words.{given_to}
use Rattle.lt_mail.proofs.TellingLemmas.{marks_one, marks_none}
use Rattle.lt_mail.proofs.mail.Mail.flush_each.Goals.{then-flush_telling, else-flush_telling}
use Rattle.lt_mail.proofs.mail.Mail.flush_each.Goals as goal

pub loop-node-preserved : goal.loop-node-preserved
loop-node-preserved c = record {
  flushed = elim c.if-flush_telling.branch [
    | then-flush_telling w ↦
        let told = subst (λ (t : Bool). GrewIf t (given_to c.loop-node.self c.loop-node.node) (given_to c.flush_telling.new.self c.loop-node.node)) w.if-flush_telling.true c.flush_telling.ensures.told in
        subst (λ (mask : ℕ). FlushesFirst (c.loop-node.node + 1) mask c.args.self.now c.flush_telling.new.self) (sym w.given-is)
        (marks_one c.loop-node.node c.loop-node.given c.args.self.now c.loop-node.self c.flush_telling.new.self c.loop-node.invariant.flushed
        c.flush_telling.ensures.lane c.flush_telling.ensures.kept (omega (arith, c.loop-node-test.true, c.len-node-end.ensures, c.requires)) told)
    | else-flush_telling w ↦
        let told = subst (λ (t : Bool). GrewIf t (given_to c.loop-node.self c.loop-node.node) (given_to c.flush_telling.new.self c.loop-node.node)) w.if-flush_telling.false c.flush_telling.ensures.told in
        subst (λ (mask : ℕ). FlushesFirst (c.loop-node.node + 1) mask c.args.self.now c.flush_telling.new.self) (sym w.given-is)
        (marks_none c.loop-node.node c.loop-node.given c.args.self.now c.loop-node.self c.flush_telling.new.self c.loop-node.invariant.flushed
        c.flush_telling.ensures.lane c.flush_telling.ensures.kept told)
  ];
  count = c.flush_telling.ensures.kept.ends.counts.0 ∙ c.loop-node.invariant.count;
}
