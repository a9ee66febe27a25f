use Rattle.std.proofs.Common.{◌<◌, arith}
use Rattle.lt_mail.proofs.FlushLemmas.{first_fresh, second_fresh, both_linked}
use Rattle.lt_tests.proofs.mail.Two.new.Goals as goal

pub invariant_of-result : goal.invariant_of-result
invariant_of-result c =
    let two : 1 < 2 = omega arith in
    let some : 0 < 2 = omega arith in
    let opened = c.in_ok-mails.ensures in (
      (both_linked 2 1 _ _ _ _ opened two c.remove-sender.ensures.value c.remove-sender.ensures.items c.remove-taker.ensures.value).0,
      (first_fresh 2 1 _ _ opened some c.remove-sender.ensures.value).outs,
      (second_fresh 2 1 _ _ _ opened two c.remove-sender.ensures.items c.remove-taker.ensures.value).ins,
    )
