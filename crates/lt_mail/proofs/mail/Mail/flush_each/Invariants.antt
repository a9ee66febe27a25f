-- The loop over nodes.
use Rattle.std.proofs.Common.{◌≡◌}
use Rattle.lt_mail.specs.Telling.{FlushesFirst}
use Rattle.lt_mail.specs.Words.{outs_count}
use Rattle.lt_mail.proofs.mail.Mail.flush_each.Given as goal

abbrev pub invariant-loop-node : goal.invariant-loop-node
invariant-loop-node l = record {
  flushed : FlushesFirst l.node l.given l.initial.self l.self;
  count : outs_count l.self ≡ outs_count l.initial.self;
}
