use Rattle.std.proofs.Common.{◌∙◌, ap}
use Rattle.lt_modes.specs.State.{modes_of_asks}
use Rattle.lt_queue.proofs.AskedLemmas.{modes_are}
use Rattle.lt_queue.proofs.queue.Queue.modes.Goals as goal

pub returns : goal.returns
returns c =
    c.beyond.ensures
    ∙ (modes_are c.self.inside.asks.items c.self.inside.asked c.empty.result c.empty-2.result c.self.invariant.1.0 c.empty.ensures c.empty-2.ensures ∙ ap (λ q. modes_of_asks q.asks) c.self.view_is)
