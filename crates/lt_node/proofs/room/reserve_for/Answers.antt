use Rattle.std.proofs.Common.{◌≡◌, ◌+◌, ◌≤◌, ◌<◌, ◌∙◌, ℕ, length, subst, sym, ap}
use Rattle.lt_node.proofs.StoredLemmas.{same_count}
use Rattle.lt_desk.specs.LetterSeen.{body_seen}
use Rattle.lt_core.specs.Bound.{brought}
use Rattle.lt_node.specs.NodeData.{most_sent}
use Rattle.lt_node.specs.Sets.{core_in}
use Rattle.lt_modes.specs.State.{Letter}
use Rattle.lt_spec.specs.declared.limits.TheConstants.{MAX_CLIENTS}
use Rattle.lt_node.proofs.RoomLemmas.{few_still, same_asks, letter_sent}
use Rattle.lt_node.proofs.TokenLemmas.{room_for}
use Rattle.lt_node.proofs.room.reserve_for.Goals as goal

pub sent_for-sent-requires-clause-set : goal.sent_for-sent-requires-clause-set
sent_for-sent-requires-clause-set c =
    subst (λ (n : ℕ). c.args.letter.now.set < n) (sym (same_count c.args.sets.now c.reserve_for.new.self c.in_ok-reserve_for.ensures.same)) c.requires.set

pub sent_for-sent-requires-clause-few : goal.sent_for-sent-requires-clause-few
sent_for-sent-requires-clause-few c = few_still c.args.sets.now c.reserve_for.new.self c.args.letter.now.set c.in_ok-reserve_for.ensures.same c.requires.few

pub sent_for-sent-requires-clause-asks : goal.sent_for-sent-requires-clause-asks
sent_for-sent-requires-clause-asks c =
    subst (λ (n : ℕ). n ≤ MAX_CLIENTS) (sym (same_asks c.args.letter.now c.reserve_for.new.letter c.in_ok-reserve_for.ensures.letter)) c.requires.asks

pub returns-clause-out : goal.returns-clause-out
returns-clause-out c = (c.reserve.ensures.posts, c.reserve.ensures.events)

pub returns-clause-room : goal.returns-clause-room
returns-clause-room c =
    room_for c.reserve.result c.reserve_for.new.self c.args.letter.now.set c.reserve_for.new.letter c.sent_for-sent.result c.args.out.now c.reserve.new.self
    (ap (λ (l : Letter). l.set) c.in_ok-reserve_for.ensures.letter) c.in_ok-reserve_for.ensures.room c.in_ok-reserve_for.ensures.desk c.sent_for-sent.ensures
    c.reserve.ensures.posts c.reserve.ensures.events c.reserve.ensures.post_room c.reserve.ensures.event_room

-- as much may be sent as before
pub returns-clause-full : goal.returns-clause-full
returns-clause-full c = λ room.
    let sent : c.sent_for-sent.result ≡ most_sent (core_in c.args.sets.now c.args.letter.now.set) + brought (body_seen c.args.letter.now.body) =
    c.sent_for-sent.ensures ∙ letter_sent c.args.sets.now c.reserve_for.new.self c.args.letter.now.set c.args.letter.now c.reserve_for.new.letter c.in_ok-reserve_for.ensures.same c.in_ok-reserve_for.ensures.letter in
    c.reserve.ensures.full
    (subst (λ (n : ℕ). length c.args.out.now.posts + n ≤ c.args.out.now.post_room) (sym sent) room.send.posts)
    (subst (λ (n : ℕ). length c.args.out.now.events + n ≤ c.args.out.now.event_room) (sym sent) room.send.events)

pub returns-clause-same : goal.returns-clause-same
returns-clause-same c = λ room.
    let sent : c.sent_for-sent.result ≡ most_sent (core_in c.args.sets.now c.args.letter.now.set) + brought (body_seen c.args.letter.now.body) =
    c.sent_for-sent.ensures ∙ letter_sent c.args.sets.now c.reserve_for.new.self c.args.letter.now.set c.args.letter.now c.reserve_for.new.letter c.in_ok-reserve_for.ensures.same c.in_ok-reserve_for.ensures.letter in
    c.reserve.ensures.same
    (subst (λ (n : ℕ). length c.args.out.now.posts + n ≤ c.args.out.now.post_room) (sym sent) room.send.posts)
    (subst (λ (n : ℕ). length c.args.out.now.events + n ≤ c.args.out.now.event_room) (sym sent) room.send.events)
