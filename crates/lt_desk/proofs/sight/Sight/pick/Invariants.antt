use Rattle.std.proofs.Common.{◌≡◌, ◌<◌, drop, take, length, IfSome}
use Rattle.lt_modes.specs.Modes.{bars}
use Rattle.lt_modes.specs.State.{modes_of_asks}
use Rattle.lt_modes.specs.Serving.{next_from, next_service}
use Rattle.lt_modes.specs.HandingOver.{draw_from, next_draw}
use Rattle.lt_desk.specs.Sights.{sight_state, desk_of}
use Rattle.lt_desk.specs.Picks.{first_of}
use Rattle.lt_desk.proofs.sight.Sight.pick.Given as goal

abbrev pub invariant-loop-k : goal.invariant-loop-k
invariant-loop-k l =
    let s = sight_state l.self in
    let asks = l.self.queue.now.asks in
    let before = modes_of_asks (take l.k asks) in
    record {
      barred : l.barred ≡ bars before;
      service : next_from l.self.me s (desk_of l.self) before l.k (drop l.k asks) ≡ next_service l.self.me s;
      draw : first_of l.draw (draw_from l.self.me s (desk_of l.self) before l.k (drop l.k asks)) ≡ next_draw l.self.me s;
      within : IfSome l.draw (λ j. j < length asks);
    }
