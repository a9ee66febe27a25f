use Rattle.std.proofs.Common.{◌≡◌, ◌∙◌, Some, ap, sym, arith, rules, length}
use Rattle.lt_modes.specs.Serving.{queue_of_desk}
use Rattle.lt_desk.proofs.SeenLemmas.{draw_in_queue}
use Rattle.lt_core.specs.CoreData.{CoreData, desk_seen}
use Rattle.lt_core.proofs.one_set.Core.hand_over.Goals as goal

pub send_desk-requires-clause-within : goal.send_desk-requires-clause-within
send_desk-requires-clause-within c =
    let core = c.args.self.now in
    let desk = c.in-Some-take.desk.desk in
    let here : desk_seen c.self.inside.desk ≡ Some desk = search rules in
    let seen : core.state.desk ≡ Some desk = sym (ap (λ (k : CoreData). k.state.desk) c.self.view_is) ∙ here in
    omega (
      arith,
      draw_in_queue core.node core.state c.in-Some.k (sym c.requires.draw ∙ c.in-Some.is),
      ap (λ o. length (queue_of_desk o)) seen,
    )
