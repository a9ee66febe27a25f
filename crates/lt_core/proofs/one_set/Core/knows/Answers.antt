use Rattle.std.proofs.Common.{◌∙◌, ap, sym}
use Rattle.lt_desk.specs.LetterSeen.{parked_seen}
use Rattle.lt_core.specs.CoreData.{CoreData}
use Rattle.lt_core.specs.Steps.{is_known_item}
use Rattle.lt_core.proofs.FitsLemmas.{item_is}
use Rattle.lt_core.proofs.one_set.Core.knows.Goals as goal

pub returns-in-Ask : goal.returns-in-Ask
returns-in-Ask c =
    let core = c.args.self.now in
    let item = item_is core.state.parked c.self.inside.parked.items c.args.k c.index.result.now (ap (λ (k : CoreData). k.state.parked) c.self.view_is) c.requires c.index.ensures in
    c.is_known.ensures ∙ sym (ap (is_known_item core.node core.state) (item ∙ ap parked_seen c.in-Ask.is))

pub returns-in-Tell : goal.returns-in-Tell
returns-in-Tell c =
    let core = c.args.self.now in
    let item = item_is core.state.parked c.self.inside.parked.items c.args.k c.index.result.now (ap (λ (k : CoreData). k.state.parked) c.self.view_is) c.requires c.index.ensures in
    sym (ap (is_known_item core.node core.state) (item ∙ ap parked_seen c.in-Tell.is))
