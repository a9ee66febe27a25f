use Rattle.lt_modes.specs.State.{SetState}
use Rattle.lt_core.proofs.StateSeen.{core_of, state_of}
use Rattle.lt_core.proofs.one_set.Core.learn.Goals as goal

pub returns-clause-core : goal.returns-clause-core
returns-clause-core c =
    let before = c.self.inside in
    let state : SetState = state_of before in
    rw (← c.self.view_is)
    (λ i. record (core_of before) {
      node = c.learn.ensures.me i;
      state = c.learn.ensures.learnt state i;
    })
