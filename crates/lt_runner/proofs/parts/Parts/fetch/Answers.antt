-- A letter may have come into the hand.
use Rattle.std.proofs.Common.{◌≡◌, refl, rules, None}
use Rattle.lt_runner.proofs.Fetched.{fetched, fetched_kept, has_fetched, fetches_nothing}
use Rattle.lt_runner.proofs.parts.Parts.fetch.Goals as goal

pub returns-then-is_none-clause-kept : goal.returns-then-is_none-clause-kept
returns-then-is_none-clause-kept c =
    let knows = rw (c.nodes-nodes.ensures, c.node-me.ensures) at c.hold_known.ensures in
    let empty : c.args.self.now.hand ≡ None = search rules in
    fetched_kept c.args.self.now c.hold_known.new.mail c.hold_known.new.hand c.requires empty knows

pub returns-then-is_none-clause-seen : goal.returns-then-is_none-clause-seen
returns-then-is_none-clause-seen c =
    let knows = rw (c.nodes-nodes.ensures, c.node-me.ensures) at c.hold_known.ensures in
    let empty : c.args.self.now.hand ≡ None = search rules in
    fetched c.args.self.now _ c.hold_known.new.mail c.hold_known.new.hand empty knows refl

pub returns-then-is_none-clause-hand : goal.returns-then-is_none-clause-hand
returns-then-is_none-clause-hand c =
    let knows = rw (c.nodes-nodes.ensures, c.node-me.ensures) at c.hold_known.ensures in
    has_fetched c.args.self.now _ c.hold_known.new.mail c.hold_known.new.hand c.requires knows refl

pub returns-else-is_none-clause-kept : goal.returns-else-is_none-clause-kept
returns-else-is_none-clause-kept c = c.requires

pub returns-else-is_none-clause-seen : goal.returns-else-is_none-clause-seen
returns-else-is_none-clause-seen c = fetches_nothing c.args.self.now
