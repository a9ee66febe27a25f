use Rattle.std.proofs.Common.{List, ℕ, Option, subst}
use denote.Ref.{Bor}
use Rattle.lt_checker.specs.First.{TakesFirst}
use Rattle.lt_checker.proofs.FirstTaken.{fed_first}
use Rattle.lt_checker.proofs.checker.feed_first.Goals as goal

pub returns-in-Some-clause-fed : goal.returns-in-Some-clause-fed
returns-in-Some-clause-fed c =
    let reader = c.args.reader.now in
    let taken = subst (λ (o : Option (Bor (List ℕ))). TakesFirst reader.script reader.reader c.args.bytes.now o c.take_first.new.self.reader) c.in-Some.is c.in_ok-later.ensures.reader in
    fed_first reader.script reader.reader c.take_first.new.self.reader c.args.rest.now.items c.args.bytes.now taken.0 c.in-Some.later.now c.requires taken.1 taken.2
