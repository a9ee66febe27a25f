use Rattle.std.proofs.Common.{◌∙◌, ◌&&◌, Bool, ap, eq-eqb, ne_eqb, sym}
use Rattle.lt_modes.specs.Waiting.{has_older}
use Rattle.lt_desk.specs.LetterSeen.{parked_seen}
use Rattle.lt_core.specs.Behind.{is_behind_older}
use Rattle.lt_core.specs.CoreData.{CoreData}
use Rattle.lt_core.proofs.FitsLemmas.{item_is}
use Rattle.lt_core.proofs.one_set.Core.is_behind.Goals as goal

pub returns-then-ask-client : goal.returns-then-ask-client
returns-then-ask-client c =
    let core = c.args.self.now in
    let ask = c.in-Ask.ask in
    let item = item_is core.state.parked c.self.inside.parked.items c.args.k c.index.result.now (ap (λ (k : CoreData). k.state.parked) c.self.view_is) c.requires c.index.ensures in
    c.has_older.ensures ∙ ap (λ (t : Bool). t && has_older core.state c.args.other ask) (sym (eq-eqb ask.client c.args.client c.if-ask-client.true))
    ∙ sym (ap (is_behind_older core.state c.args.other c.args.client) (item ∙ ap parked_seen c.in-Ask.is))

pub returns-else-ask-client : goal.returns-else-ask-client
returns-else-ask-client c =
    let core = c.args.self.now in
    let ask = c.in-Ask.ask in
    let item = item_is core.state.parked c.self.inside.parked.items c.args.k c.index.result.now (ap (λ (k : CoreData). k.state.parked) c.self.view_is) c.requires c.index.ensures in
    let other = ne_eqb ask.client c.args.client c.if-ask-client.false in
    other ∙ ap (λ (t : Bool). t && has_older core.state c.args.other ask) (sym other)
    ∙ sym (ap (is_behind_older core.state c.args.other c.args.client) (item ∙ ap parked_seen c.in-Ask.is))

pub returns-in-Tell : goal.returns-in-Tell
returns-in-Tell c =
    let core = c.args.self.now in
    let item = item_is core.state.parked c.self.inside.parked.items c.args.k c.index.result.now (ap (λ (k : CoreData). k.state.parked) c.self.view_is) c.requires c.index.ensures in
    sym (ap (is_behind_older core.state c.args.other c.args.client) (item ∙ ap parked_seen c.in-Tell.is))
