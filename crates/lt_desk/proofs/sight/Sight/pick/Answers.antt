use Rattle.std.proofs.Common.{◌≡◌, ◌∙◌, ◌+◌, ◌<◌, length, take, drop, sym, ap, refl, slice_index_or, subst, List, ◌==◌, Some, None, Bool, false, if◌then◌else◌}
use Rattle.lt_modes.specs.Modes.{bars, one}
use Rattle.lt_modes.specs.declared.ask.Ask.{Ask}
use Rattle.lt_modes.specs.State.{modes_of_asks, no_ask}
use Rattle.lt_modes.specs.Serving.{next_service}
use Rattle.lt_modes.specs.HandingOver.{may_draw, next_draw, draw_from}
use Rattle.lt_modes.proofs.ModeAlgebra.{bars_of_none}
use Rattle.lt_desk.specs.Picks.{first_of, is_service, IsInQueue}
use Rattle.lt_desk.specs.declared.pick.Pick.TheVariants.{Local, Copy}
use Rattle.lt_desk.specs.Sights.{sight_state, desk_of}
use Rattle.lt_desk.proofs.PlaceLemmas.{turn_found, turn_later, first_later, first_within, service_within, draw_within, is_place, none_left}
use Rattle.lt_desk.proofs.TurnLemmas.{turn_of, turn_service, turn_draw, picked_place, picked_draw}
use Rattle.lt_desk.proofs.BarredLemmas.{AreBarred, modes_further, barred_further, all_barred, none_next, none_drawn}
use Rattle.lt_desk.proofs.sight.Sight.pick.Goals as goal

pub loop-k-init : goal.loop-k-init
loop-k-init c = record {
  barred = c.empty-barred.ensures ∙ sym bars_of_none;
  service = refl;
  draw = refl;
  within = tt;
}

pub returns-then-is_served-clause-next : goal.returns-then-is_served-clause-next
returns-then-is_served-clause-next c =
    let sight = c.args.self.now in
    let s = sight_state sight in
    let d = desk_of sight in
    let asks = sight.queue.now.asks in
    let k = c.loop-k.k in
    let before = modes_of_asks (take k asks) in
    let ask = slice_index_or asks k no_ask in
    let h : k < length asks = is_place k c.len-k-end.result (length asks) c.loop-k-test.true c.len-k-end.ensures.length in
    let is : c.turn-turn.result ≡ turn_of sight.me s d before k ask =
    subst (λ (list : List Ask). c.turn-turn.result ≡ turn_of sight.me s d before k (slice_index_or list k no_ask)) c.asks-asks.ensures
    (c.turn-turn.ensures before c.loop-k.invariant.barred) in
    let found = turn_found sight.me s d before k asks ask c.is_served.result (next_service sight.me s) h refl
    (c.is_served.ensures ∙ turn_service sight.me s d before k ask c.turn-turn.result is) c.if-is_served.true c.loop-k.invariant.service in
    c.service.ensures
    ∙ ap (λ (list : List Ask). if (slice_index_or list k no_ask).node == sight.me then Local k else Copy k) c.asks-asks.ensures
    ∙ picked_place sight.me s k ask refl found

pub loop-k-preserved : goal.loop-k-preserved
loop-k-preserved c =
    let sight = c.args.self.now in
    let s = sight_state sight in
    let d = desk_of sight in
    let asks = sight.queue.now.asks in
    let k = c.loop-k.k in
    let before = modes_of_asks (take k asks) in
    let later = modes_of_asks (take (k + 1) asks) in
    let ask = slice_index_or asks k no_ask in
    let h : k < length asks = is_place k c.len-k-end.result (length asks) c.loop-k-test.true c.len-k-end.ensures.length in
    let seen = modes_further asks k h in
    let is : c.turn-turn.result ≡ turn_of sight.me s d before k ask =
    subst (λ (list : List Ask). c.turn-turn.result ≡ turn_of sight.me s d before k (slice_index_or list k no_ask)) c.asks-asks.ensures
    (c.turn-turn.ensures before c.loop-k.invariant.barred) in
    let more = c.barred_by.ensures ∙ ap (λ (list : List Ask). bars (one (slice_index_or list k no_ask).mode)) c.asks-asks.ensures in
    let fails : is_service c.turn-turn.result ≡ false = sym c.is_served.ensures ∙ c.if-is_served.false in
    let first = c.first_draw-draw.ensures ∙ ap (λ (b : Bool). first_of c.loop-k.draw (if b then Some k else None)) (turn_draw sight.me s d before k ask c.turn-turn.result is fails) in
    record {
      barred = c.union-barred.ensures ∙ barred_further asks k ask c.loop-k.barred c.barred_by.result h refl c.loop-k.invariant.barred more;
      service = turn_later sight.me s d before later k asks ask (is_service c.turn-turn.result) (next_service sight.me s)
          h refl seen (turn_service sight.me s d before k ask c.turn-turn.result is) fails c.loop-k.invariant.service;
      draw = first_later sight.me s d before later k asks ask c.loop-k.draw c.first_draw-draw.result (next_draw sight.me s)
          h refl seen first c.loop-k.invariant.draw;
      within = first_within c.loop-k.draw c.first_draw-draw.result (may_draw sight.me s d before k ask) k (length asks)
          h first c.loop-k.invariant.within;
    }

pub returns-then-none_later-clause-next : goal.returns-then-none_later-clause-next
returns-then-none_later-clause-next c =
    let sight = c.args.self.now in
    let s = sight_state sight in
    let d = desk_of sight in
    let asks = sight.queue.now.asks in
    let k = c.loop-k.k in
    let before = modes_of_asks (take k asks) in
    let later = modes_of_asks (take (k + 1) asks) in
    let ask = slice_index_or asks k no_ask in
    let h : k < length asks = is_place k c.len-k-end.result (length asks) c.loop-k-test.true c.len-k-end.ensures.length in
    let seen = modes_further asks k h in
    let is : c.turn-turn.result ≡ turn_of sight.me s d before k ask =
    subst (λ (list : List Ask). c.turn-turn.result ≡ turn_of sight.me s d before k (slice_index_or list k no_ask)) c.asks-asks.ensures
    (c.turn-turn.ensures before c.loop-k.invariant.barred) in
    let more = c.barred_by.ensures ∙ ap (λ (list : List Ask). bars (one (slice_index_or list k no_ask).mode)) c.asks-asks.ensures in
    let fails : is_service c.turn-turn.result ≡ false = sym c.is_served.ensures ∙ c.if-is_served.false in
    let first = c.first_draw-draw.ensures ∙ ap (λ (b : Bool). first_of c.loop-k.draw (if b then Some k else None)) (turn_draw sight.me s d before k ask c.turn-turn.result is fails) in
    let barred : c.union-barred.result ≡ bars later =
    c.union-barred.ensures ∙ barred_further asks k ask c.loop-k.barred c.barred_by.result h refl c.loop-k.invariant.barred more in
    let rest : AreBarred (bars later) (drop (k + 1) asks) =
    subst (λ b. AreBarred b (drop (k + 1) asks)) barred
    (all_barred asks c.modes-wanted.result c.union-barred.result (k + 1) c.modes-wanted.ensures (c.none_later.ensures.within c.if-none_later.true)) in
    let served = turn_later sight.me s d before later k asks ask (is_service c.turn-turn.result) (next_service sight.me s)
    h refl seen (turn_service sight.me s d before k ask c.turn-turn.result is) fails c.loop-k.invariant.service in
    let drawn = first_later sight.me s d before later k asks ask c.loop-k.draw c.first_draw-draw.result (next_draw sight.me s)
    h refl seen first c.loop-k.invariant.draw in
    c.draw_at.ensures
    ∙ picked_draw sight.me s c.first_draw-draw.result (draw_from sight.me s d later (k + 1) (drop (k + 1) asks))
    (sym served ∙ none_next sight.me s d later (k + 1) (drop (k + 1) asks) (c.none_later.ensures.alone c.if-none_later.true) rest) (none_drawn sight.me s d later (k + 1) (drop (k + 1) asks) rest) drawn

pub turn-turn-requires : goal.turn-turn-requires
turn-turn-requires c = c.own_part-own.ensures

pub returns-then-is_empty-clause-within : goal.returns-then-is_empty-clause-within
returns-then-is_empty-clause-within c = tt

pub returns-then-is_served-clause-within : goal.returns-then-is_served-clause-within
returns-then-is_served-clause-within c =
    let n = length c.args.self.now.queue.now.asks in
    subst (IsInQueue n) (sym c.service.ensures) (service_within n c.loop-k.k _ (is_place c.loop-k.k c.len-k-end.result n c.loop-k-test.true c.len-k-end.ensures.length))

pub returns-then-none_later-clause-within : goal.returns-then-none_later-clause-within
returns-then-none_later-clause-within c =
    let sight = c.args.self.now in
    let asks = sight.queue.now.asks in
    let k = c.loop-k.k in
    let before = modes_of_asks (take k asks) in
    let ask = slice_index_or asks k no_ask in
    let h : k < length asks = is_place k c.len-k-end.result (length asks) c.loop-k-test.true c.len-k-end.ensures.length in
    let is : c.turn-turn.result ≡ turn_of sight.me (sight_state sight) (desk_of sight) before k ask =
    subst (λ (list : List Ask). c.turn-turn.result ≡ turn_of sight.me (sight_state sight) (desk_of sight) before k (slice_index_or list k no_ask)) c.asks-asks.ensures
    (c.turn-turn.ensures before c.loop-k.invariant.barred) in
    let fails : is_service c.turn-turn.result ≡ false = sym c.is_served.ensures ∙ c.if-is_served.false in
    let first = c.first_draw-draw.ensures
    ∙ ap (λ (b : Bool). first_of c.loop-k.draw (if b then Some k else None)) (turn_draw sight.me (sight_state sight) (desk_of sight) before k ask c.turn-turn.result is fails) in
    subst (IsInQueue (length asks)) (sym c.draw_at.ensures)
    (draw_within (length asks) c.first_draw-draw.result
    (first_within c.loop-k.draw c.first_draw-draw.result (may_draw sight.me (sight_state sight) (desk_of sight) before k ask) k (length asks) h first c.loop-k.invariant.within))

pub returns-clause-next : goal.returns-clause-next
returns-clause-next c =
    let sight = c.args.self.now in
    let s = sight_state sight in
    let asks = sight.queue.now.asks in
    let left = none_left sight.me s (desk_of sight) (modes_of_asks (take c.loop-k.k asks)) c.loop-k.k c.len-k-end.result asks (next_service sight.me s) c.loop-k.draw (next_draw sight.me s)
    c.len-k-end.ensures.length c.loop-k-test.false c.loop-k.invariant.service c.loop-k.invariant.draw in
    c.draw_at-2.ensures ∙ picked_draw sight.me s c.loop-k.draw None left.0 refl left.1

pub returns-clause-within : goal.returns-clause-within
returns-clause-within c =
    let n = length c.args.self.now.queue.now.asks in
    subst (IsInQueue n) (sym c.draw_at-2.ensures) (draw_within n c.loop-k.draw c.loop-k.invariant.within)
