use Rattle.std.proofs.Common.{◌∙◌, ap, refl, sym}
use Rattle.lt_desk.specs.Picks.{picked}
use Rattle.lt_desk.specs.Sights.{sight_state, desk_of}
use Rattle.lt_desk.proofs.SeenLemmas.{reads_seen, picked_same}
use Rattle.lt_desk.proofs.desk.Desk.pick_ask.Goals as goal

pub returns-clause-next : goal.returns-clause-next
returns-clause-next c s seen marks =
    let sight = c.sight.result in
    let is = c.sight.ensures in
    let desk = c.args.self.now.desk in
    c.pick.ensures.next ∙ ap (λ me. picked me (sight_state sight)) is.me
    ∙ picked_same c.args.me (sight_state sight) s (desk_of sight) desk
    (reads_seen sight c.args.me desk _ _ is.held is.pending is.table s seen) (is.gone ∙ sym marks) refl seen.here is.queue
