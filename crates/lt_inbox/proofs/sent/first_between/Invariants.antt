use Rattle.std.proofs.Common.{◌≡◌, [], take}
use Rattle.lt_inbox.specs.Mail.{letters_between}
use Rattle.lt_inbox.proofs.sent.first_between.Given as goal

abbrev pub invariant-loop-place : goal.invariant-loop-place
invariant-loop-place l = letters_between l.sender l.receiver (take l.place l.sent.items) ≡ []
