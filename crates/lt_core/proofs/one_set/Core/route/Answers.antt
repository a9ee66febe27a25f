use Rattle.std.proofs.Common.{◌≡◌, ◌∙◌, ◌+◌, ◌≤◌, [], ◌∷◌, ◌++◌, map, ap, arith, refl, subst, sym, Some}
use Rattle.std.proofs.lemmas.List.{map-append}
use Rattle.lt_modes.specs.State.{SetState, Made}
use Rattle.lt_modes.specs.Routing.{dealt, route, route_by}
use Rattle.lt_desk.specs.DeskData.{out_after}
use Rattle.lt_desk.specs.LetterSeen.{parked_seen}
use Rattle.lt_core.specs.CoreData.{CoreData, HasRoom, desk_seen, waiting_here}
use Rattle.lt_core.proofs.NoticeLemmas.{room_less, room_parked, out_silent}
use Rattle.lt_core.proofs.StepLemmas.{place_left, room_dealt}
use Rattle.lt_core.proofs.StateSeen.{core_of, state_of}
use Rattle.lt_core.proofs.one_set.Core.route.Goals as goal

pub deal-requires : goal.deal-requires
deal-requires c =
    let before = c.self.inside in
    record {
      room = place_left before.desk c.in-Some.desk before.held.spare (map parked_seen before.parked.items) (parked_seen c.args.item) c.in-Some.is
          (subst (λ (k : CoreData). waiting_here k.state + 1 ≤ k.room) (sym c.self.view_is) c.requires.rows);
    }

pub returns-in-Some-clause-does : goal.returns-in-Some-clause-does
returns-in-Some-clause-does c =
    let before = c.self.inside in
    let item = parked_seen c.args.item in
    let out = c.args.out.now in
    let s : SetState = state_of before in
    let here : s.desk ≡ Some c.in-Some.desk.desk = ap desk_seen c.in-Some.is in
    let after = record s { desk = Some (dealt c.in-Some.desk.desk item) } in
    let whole = λ (k : CoreData). route k.set c.args.stamp c.args.by_hoped item k.state in
    let same = sym (ap (route_by before.set c.args.stamp c.args.by_hoped item s) here) in
    record {
      node = ap (λ (k : CoreData). k.node) c.self.view_is;
      set = ap (λ (k : CoreData). k.set) c.self.view_is;
      state = (λ i. record s { desk = Some (c.deal.ensures.desk i) }) ∙ ap (λ (made : Made). made.state) same ∙ ap (λ (k : CoreData). (whole k).state) c.self.view_is;
      sent = sym (out_silent after out) ∙ ap (λ (made : Made). out_after made out) same ∙ ap (λ (k : CoreData). out_after (whole k) out) c.self.view_is;
    }

pub returns-in-Some-clause-room : goal.returns-in-Some-clause-room
returns-in-Some-clause-room c = λ k clock room.
    let before = c.self.inside in
    let left = c.deal.ensures in
    let seen : CoreData = core_of before in
    room_dealt k clock seen before.desk c.in-Some.desk c.deal.new.desk before.held.spare (parked_seen c.args.item) (subst (HasRoom (k + 1) clock) (sym c.self.view_is) room)
    c.in-Some.is left.queue left.numbers left.room left.spare

pub returns-in-Park-clause-room : goal.returns-in-Park-clause-room
returns-in-Park-clause-room c =
    let before = c.self.inside in
    let pushed = c.push_back_reserved.ensures in
    let parked : map parked_seen c.push_back_reserved.new.self.items ≡ map parked_seen before.parked.items ++ parked_seen c.args.item ∷ [] =
    ap (map parked_seen) pushed.items ∙ map-append parked_seen before.parked.items (c.args.item ∷ []) in
    let state : SetState = state_of before in
    rw (← c.self.view_is)
    (λ k clock room. room_parked _ _ (parked_seen c.args.item) k clock (λ i. record state { parked = parked i }) refl (omega (arith, pushed.len, pushed.capacity)) (omega arith) room)

pub returns-in-Firm-clause-room : goal.returns-in-Firm-clause-room
returns-in-Firm-clause-room c = rw (← c.self.view_is) (λ k clock room. c.send_on.ensures.room k clock (room_less k clock _ room))

pub returns-in-Hoped-clause-room : goal.returns-in-Hoped-clause-room
returns-in-Hoped-clause-room c = rw (← c.self.view_is) (λ k clock room. c.send_on-in-Hoped.ensures.room k clock (room_less k clock _ room))
