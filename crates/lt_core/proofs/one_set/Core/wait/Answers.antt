use Rattle.std.proofs.Common.{◌≡◌, ◌<◌, ◌++◌, [], ◌∷◌, List, false, length, subst, sym}
use Rattle.lt_modes.specs.State.{SetState, ParkedAsk}
use Rattle.lt_modes.specs.SetMove.{ask_of, asked}
use Rattle.lt_modes.specs.Routing.{route}
use Rattle.lt_modes.specs.declared.ask.Ask.{Ask}
use Rattle.lt_desk.specs.DeskData.{FitsOut}
use Rattle.lt_core.specs.CoreData.{CoreData, Does, HasRoom}
use Rattle.lt_core.proofs.NoticeLemmas.{room_less}
use Rattle.lt_core.proofs.CommandLemmas.{room_for_wait, asked_does, asked_fits}
use Rattle.lt_core.proofs.StateSeen.{core_of, state_of}
use Rattle.lt_core.proofs.one_set.Core.wait.Goals as goal

pub push-requires : goal.push-requires
push-requires c = subst (λ (k : CoreData). length k.state.pending < 16) (sym c.self.view_is) c.requires.pending

pub push_event-requires : goal.push_event-requires
push_event-requires c =
    let core = c.args.self.now in
    room_for_wait core.set c.args.stamp (ask_of c.args.stamp c.args.client c.args.mode c.args.gives_up core.state) core.state c.args.out.now c.requires.fits

pub route-requires-clause-node : goal.route-requires-clause-node
route-requires-clause-node c = subst (λ (k : CoreData). c.args.stamp.node ≡ k.node) (sym c.self.view_is) c.requires.node

pub route-requires-clause-rows : goal.route-requires-clause-rows
route-requires-clause-rows c = (room_less 1 c.args.stamp.clock _ (subst (HasRoom 2 c.args.stamp.clock) (sym c.self.view_is) c.requires.room)).rows

pub route-requires-clause-parked : goal.route-requires-clause-parked
route-requires-clause-parked c = (room_less 1 c.args.stamp.clock _ (subst (HasRoom 2 c.args.stamp.clock) (sym c.self.view_is) c.requires.room)).parked

pub route-requires-clause-fits : goal.route-requires-clause-fits
route-requires-clause-fits c =
    let before = c.self.inside in
    let stamp = c.args.stamp in
    let s : SetState = state_of before in
    let seen : CoreData = core_of before in
    let mine = ask_of stamp c.args.client c.args.mode c.args.gives_up s in
    let ask : Ask = record mine { holder = c.is_holder.result } in
    let is : ask ≡ mine = λ i. record mine { holder = c.is_holder.ensures i } in
    let fits = asked_fits seen stamp mine c.args.out.now c.push_event.new.self c.push_event.ensures
    (subst (λ (k : CoreData). FitsOut (asked k.set stamp (ask_of stamp c.args.client c.args.mode c.args.gives_up k.state) k.state) c.args.out.now) (sym c.self.view_is) c.requires.fits) in
    subst (λ (pending : List Ask). FitsOut (route before.set stamp false (ParkedAsk ask) (record s { pending = pending })) c.push_event.new.self) (sym c.push.ensures)
    (subst (λ (a : Ask). FitsOut (route before.set stamp false (ParkedAsk a) (record s { pending = s.pending ++ a ∷ [] })) c.push_event.new.self) (sym is) fits)

pub returns-clause-does : goal.returns-clause-does
returns-clause-does c =
    let before = c.self.inside in
    let stamp = c.args.stamp in
    let s : SetState = state_of before in
    let seen : CoreData = core_of before in
    let mine = ask_of stamp c.args.client c.args.mode c.args.gives_up s in
    let ask : Ask = record mine { holder = c.is_holder.result } in
    let is : ask ≡ mine = λ i. record mine { holder = c.is_holder.ensures i } in
    let second : Does (route before.set stamp false (ParkedAsk ask) (record s { pending = s.pending ++ ask ∷ [] })) (record seen { state = record s { pending = s.pending ++ ask ∷ [] } }) c.push_event.new.self c.route.new.self c.route.new.out =
    subst (λ (pending : List Ask). Does (route before.set stamp false (ParkedAsk ask) (record s { pending = pending })) (record seen { state = record s { pending = pending } }) c.push_event.new.self c.route.new.self c.route.new.out)
    c.push.ensures c.route.ensures.does in
    subst (λ (k : CoreData). Does (asked k.set stamp (ask_of stamp c.args.client c.args.mode c.args.gives_up k.state) k.state) k c.args.out.now c.route.new.self c.route.new.out) c.self.view_is
    (subst (λ (a : Ask). Does (asked seen.set stamp a s) seen c.args.out.now c.route.new.self c.route.new.out) is
    (asked_does seen c.route.new.self stamp ask c.args.out.now c.push_event.new.self c.route.new.out c.push_event.ensures second))

pub returns-clause-room : goal.returns-clause-room
returns-clause-room c =
    let room = subst (HasRoom 2 c.args.stamp.clock) (sym c.self.view_is) c.requires.room in
    c.route.ensures.room 1 c.args.stamp.clock (record { rows = room.rows; parked = room.parked; locks = room.locks; epoch = room.epoch; number = room.number; tells = room.tells })
