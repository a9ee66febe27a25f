use Rattle.std.proofs.Common.{IsOk, arith, refl, subst}
use Rattle.std.proofs.lemmas.Bool.{false≢true}
use Rattle.lt_node.proofs.NodeLemmas.{node_same, same_node}
use Rattle.lt_node.proofs.AdvanceLemmas.{next_at}
use Rattle.lt_node.proofs.NodeSets.{sets_same}
use Rattle.lt_node.proofs.RoomLemmas.{IsNextHere, next_here, had_mark, had_memory, had_to_send, room_made}
use Rattle.lt_node.proofs.node.Node.reserve.Goals as goal

pub upcoming-command-requires : goal.upcoming-command-requires
upcoming-command-requires c =
    (next_at _ c.args.self.now c.self.inside.homes.items c.self.inside.clients.items c.args.client c.from.result c.index.result.now c.self.view_is c.self.invariant.0 refl c.self.invariant.1
    c.from.ensures c.index.ensures c.requires.client c.requires.home c.requires.left).left

here : (c : goal.After-kept) → IsNextHere c.args.self.now c.args.client c.kept.result.now c.upcoming-command.result c.self.inside.sets
here c =
    let next =
    next_at _ c.args.self.now c.self.inside.homes.items c.self.inside.clients.items c.args.client c.from.result c.index.result.now c.self.view_is c.self.invariant.0 refl c.self.invariant.1
    c.from.ensures c.index.ensures c.requires.client c.requires.home c.requires.left in
    next_here _ c.args.self.now c.args.client c.index.result.now c.kept.result.now c.upcoming-command.result c.self.inside.sets c.self.view_is c.self.invariant.0 c.self.invariant.2 refl
    next c.upcoming-command.ensures c.kept.ensures c.requires.within

pub reserve_touched-requires-clause-named : goal.reserve_touched-requires-clause-named
reserve_touched-requires-clause-named c = (here c).named

pub reserve_touched-requires-clause-few : goal.reserve_touched-requires-clause-few
reserve_touched-requires-clause-few c = (here c).few

pub returns-in_err-touched-clause-node : goal.returns-in_err-touched-clause-node
returns-in_err-touched-clause-node c = same_node _ c.args.self.now c.reserve_touched.new.sets.cores c.self.view_is c.reserve_touched.ensures.same.kept

pub returns-in_err-touched-clause-full : goal.returns-in_err-touched-clause-full
returns-in_err-touched-clause-full c = λ room.
    let next =
    next_at _ c.args.self.now c.self.inside.homes.items c.self.inside.clients.items c.args.client c.from.result c.index.result.now c.self.view_is c.self.invariant.0 refl c.self.invariant.1
    c.from.ensures c.index.ensures c.requires.client c.requires.home c.requires.left in
    let here =
    next_here _ c.args.self.now c.args.client c.index.result.now c.kept.result.now c.upcoming-command.result c.self.inside.sets c.self.view_is c.self.invariant.0 c.self.invariant.2 refl
    next c.upcoming-command.ensures c.kept.ensures c.requires.within in
    let memory = had_memory c.args.self.now c.args.client c.kept.result.now c.upcoming-command.result c.self.inside.sets c.args.out.now here room in
    let mark = had_mark c.args.self.now c.args.client c.kept.result.now c.upcoming-command.result c.self.inside.sets c.args.out.now here room in
    absurd (false≢true (subst (λ r. IsOk r) c.in_err-touched.was (c.reserve_touched.ensures.full memory mark)))

pub invariant_of-self : goal.invariant_of-self
invariant_of-self c = (
  node_same _ c.reserve_touched.new.sets.cores c.self.invariant.0 c.reserve_touched.ensures.same.kept,
  c.self.invariant.1,
  sets_same c.self.inside.script.whole c.self.inside.me c.self.inside.sets c.reserve_touched.new.sets c.self.invariant.2 c.reserve_touched.ensures.same,
  c.self.invariant.3,
)

pub invariant_of-self-2 : goal.invariant_of-self-2
invariant_of-self-2 c = (
  node_same _ c.reserve_touched.new.sets.cores c.self.invariant.0 c.reserve_touched.ensures.same.kept,
  c.self.invariant.1,
  sets_same c.self.inside.script.whole c.self.inside.me c.self.inside.sets c.reserve_touched.new.sets c.self.invariant.2 c.reserve_touched.ensures.same,
  c.self.invariant.3,
)

pub returns-clause-node : goal.returns-clause-node
returns-clause-node c = same_node _ c.args.self.now c.reserve_touched.new.sets.cores c.self.view_is c.reserve_touched.ensures.same.kept

pub returns-clause-room : goal.returns-clause-room
returns-clause-room c =
    let next =
    next_at _ c.args.self.now c.self.inside.homes.items c.self.inside.clients.items c.args.client c.from.result c.index.result.now c.self.view_is c.self.invariant.0 refl c.self.invariant.1
    c.from.ensures c.index.ensures c.requires.client c.requires.home c.requires.left in
    let here =
    next_here _ c.args.self.now c.args.client c.index.result.now c.kept.result.now c.upcoming-command.result c.self.inside.sets c.self.view_is c.self.invariant.0 c.self.invariant.2 refl
    next c.upcoming-command.ensures c.kept.ensures c.requires.within in
    let said = c.in_ok-touched.ensures in
    room_made c.reserve.result c.args.self.now _ c.args.client c.in_ok-touched.touched c.kept.result.now c.upcoming-command.result c.reserve_touched.new.sets c.args.out.now c.reserve.new.self
    here.touched here.next said.mark (same_node _ c.args.self.now c.reserve_touched.new.sets.cores c.self.view_is said.same.kept)
    (sets_same c.self.inside.script.whole c.self.inside.me c.self.inside.sets c.reserve_touched.new.sets c.self.invariant.2 said.same) refl said.room said.sent
    c.reserve.ensures.posts c.reserve.ensures.events c.reserve.ensures.post_room c.reserve.ensures.event_room

pub returns-clause-full : goal.returns-clause-full
returns-clause-full c = λ room.
    let next =
    next_at _ c.args.self.now c.self.inside.homes.items c.self.inside.clients.items c.args.client c.from.result c.index.result.now c.self.view_is c.self.invariant.0 refl c.self.invariant.1
    c.from.ensures c.index.ensures c.requires.client c.requires.home c.requires.left in
    let here =
    next_here _ c.args.self.now c.args.client c.index.result.now c.kept.result.now c.upcoming-command.result c.self.inside.sets c.self.view_is c.self.invariant.0 c.self.invariant.2 refl
    next c.upcoming-command.ensures c.kept.ensures c.requires.within in
    let sent = had_to_send c.args.self.now c.args.client c.in_ok-touched.touched c.kept.result.now c.upcoming-command.result c.self.inside.sets c.reserve_touched.new.sets here
    c.in_ok-touched.ensures.same c.in_ok-touched.ensures.sent in
    c.reserve.ensures.full (omega (arith, sent, room.send.posts)) (omega (arith, sent, room.send.events))

pub returns-clause-same : goal.returns-clause-same
returns-clause-same c = λ room.
    let next =
    next_at _ c.args.self.now c.self.inside.homes.items c.self.inside.clients.items c.args.client c.from.result c.index.result.now c.self.view_is c.self.invariant.0 refl c.self.invariant.1
    c.from.ensures c.index.ensures c.requires.client c.requires.home c.requires.left in
    let here =
    next_here _ c.args.self.now c.args.client c.index.result.now c.kept.result.now c.upcoming-command.result c.self.inside.sets c.self.view_is c.self.invariant.0 c.self.invariant.2 refl
    next c.upcoming-command.ensures c.kept.ensures c.requires.within in
    let sent = had_to_send c.args.self.now c.args.client c.in_ok-touched.touched c.kept.result.now c.upcoming-command.result c.self.inside.sets c.reserve_touched.new.sets here
    c.in_ok-touched.ensures.same c.in_ok-touched.ensures.sent in
    c.reserve.ensures.same (omega (arith, sent, room.send.posts)) (omega (arith, sent, room.send.events))
