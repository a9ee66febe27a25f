use Rattle.std.proofs.Common.{◌++◌, ◌∷◌, [], subst}
use Rattle.lt_modes.specs.Script.{ScriptData}
use Rattle.lt_tally.specs.LockTable.{IsTallied}
use Rattle.lt_journal.proofs.entries.plain_entry.Goals as goal

pub returns-clause-tally : goal.returns-clause-tally
returns-clause-tally c = λ events tells.
    subst (λ (script : ScriptData). IsTallied script c.args.tally.now events → IsTallied script c.apply.new.self (events ++ c.args.event.now ∷ []))
    c.script.ensures (c.in_ok-apply.ensures.applied events) tells
