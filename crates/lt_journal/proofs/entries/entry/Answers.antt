use Rattle.std.proofs.lemmas.Result.{on_ok_weaker}
use Rattle.lt_tally.proofs.Telling.{tells_event}
use Rattle.lt_journal.proofs.entries.entry.Goals as goal

pub returns-in-Grant-clause-tally : goal.returns-in-Grant-clause-tally
returns-in-Grant-clause-tally c =
    on_ok_weaker c.plain_entry.result
    (λ entered events tells. tells_event c.args.wording.now _ events c.args.event.now _ c.in-Grant.is (entered events tells))
    c.plain_entry.ensures.tally

pub returns-in-Wait-clause-tally : goal.returns-in-Wait-clause-tally
returns-in-Wait-clause-tally c =
    on_ok_weaker c.plain_entry-in-Wait.result
    (λ entered events tells. tells_event c.args.wording.now _ events c.args.event.now _ c.in-Wait.is (entered events tells))
    c.plain_entry-in-Wait.ensures.tally

pub returns-in-Unlock-clause-tally : goal.returns-in-Unlock-clause-tally
returns-in-Unlock-clause-tally c =
    on_ok_weaker c.plain_entry-in-Unlock.result
    (λ entered events tells. tells_event c.args.wording.now _ events c.args.event.now _ c.in-Unlock.is (entered events tells))
    c.plain_entry-in-Unlock.ensures.tally

pub returns-in-Token-clause-tally : goal.returns-in-Token-clause-tally
returns-in-Token-clause-tally c =
    on_ok_weaker c.plain_entry-in-Token.result
    (λ entered events tells. tells_event c.args.wording.now _ events c.args.event.now _ c.in-Token.is (entered events tells))
    c.plain_entry-in-Token.ensures.tally
