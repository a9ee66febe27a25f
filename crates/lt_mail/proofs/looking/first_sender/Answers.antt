-- One ring after the other.
use Rattle.lt_mail.proofs.LookLemmas.{looks_join}
use Rattle.lt_mail.proofs.AloneLemmas.{found_other, none_other}
use Rattle.lt_mail.proofs.looking.first_sender.Goals as goal

pub loop-left-preserved : goal.loop-left-preserved
loop-left-preserved c = record {
  looked = looks_join c.args.ins.now c.loop-left.ins c.look_at_other.new.ins c.loop-left.invariant.looked c.look_at_other.ensures.looked;
  none = none_other _ c.args.me c.loop-left.ins c.look_at_other.new.ins c.loop-left.invariant.none c.look_at_other.ensures.others
      (c.look_at_other.ensures.none c.if-look_at_other.false);
}

pub returns-then-look_at_other-clause-looked : goal.returns-then-look_at_other-clause-looked
returns-then-look_at_other-clause-looked c =
    looks_join c.args.ins.now c.loop-left.ins c.look_at_other.new.ins c.loop-left.invariant.looked c.look_at_other.ensures.looked

pub returns-then-look_at_other-clause-some : goal.returns-then-look_at_other-clause-some
returns-then-look_at_other-clause-some c = c.look_at_other.ensures.there c.if-look_at_other.true

pub returns-then-look_at_other-clause-others : goal.returns-then-look_at_other-clause-others
returns-then-look_at_other-clause-others c =
    found_other _ c.args.me c.loop-left.ins c.look_at_other.new.ins c.loop-left.invariant.none c.look_at_other.ensures.others
