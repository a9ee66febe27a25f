use Rattle.std.proofs.Common.{◌≡◌, ◌<◌, ◌+◌, ◌∙◌, Bool, true, List, ◌∷◌, ℕ, length, arith, sym, ap, subst}
use Rattle.lt_desk.specs.LetterSeen.{letter_seen}
use Rattle.lt_inbox.specs.Mail.{SentData, MailData, put_mark, sent_of}
use Rattle.lt_inbox.specs.Counts.{AreNoted, count_between, put_count}
use Rattle.lt_inbox.proofs.Counts.{noted_front, few_counted}
use Rattle.lt_inbox.proofs.inboxes.Inboxes.put_front.Goals as goal

pub count_sent-requires-clause-receiver : goal.count_sent-requires-clause-receiver
count_sent-requires-clause-receiver c =
    omega (arith, c.requires.inside.1, ap (λ (m : MailData). m.nodes) c.self.view_is, c.self.invariant.nodes)

pub count_sent-requires-clause-sender : goal.count_sent-requires-clause-sender
count_sent-requires-clause-sender c =
    let count = ap (λ (m : MailData). m.nodes) c.self.view_is in
    omega (arith, c.requires.inside.0, count, c.self.invariant.nodes, c.self.invariant.counted.senders c.args.receiver (omega (arith, c.requires.inside.1, count, c.self.invariant.nodes)))

pub count_sent-requires-clause-few : goal.count_sent-requires-clause-few
count_sent-requires-clause-few c =
    let inside = c.self.inside in
    let count = ap (λ (m : MailData). m.nodes) c.self.view_is in
    few_counted inside.pairs inside.counts.items inside.sent.items c.args.sender c.args.receiver inside.sent.cap c.self.invariant
    (omega (arith, c.requires.inside.0, count)) (omega (arith, c.requires.inside.1, count)) (omega (arith, c.requires.room, ap (λ (m : MailData). m.free) c.self.view_is))
    (omega (arith, inside.sent.small))

pub invariant_of-self : goal.invariant_of-self
invariant_of-self c =
    let pairs = c.self.inside.pairs in
    let rows = c.self.inside.counts.items in
    let sent = c.self.inside.sent.items in
    let p = c.args.sender in
    let q = c.args.receiver in
    let letter = letter_seen c.args.letter in
    let now = c.push_front_reserved.new.self.items in
    let count : length pairs ≡ c.args.self.now.nodes = ap (λ (m : MailData). m.nodes) c.self.view_is in
    let sender : p < length pairs = omega (arith, c.requires.inside.0, count) in
    let receiver : q < length pairs = omega (arith, c.requires.inside.1, count) in
    let more : now ≡ sent_of p q letter ∷ sent =
    c.push_front_reserved.ensures.items ∙ ap (λ (one : SentData). one ∷ sent) c.new.ensures in
    subst (λ (bs : List (List Bool)). AreNoted bs c.count_sent.new.rows.items now) (sym c.mark.ensures)
    (subst (λ (rs : List (List ℕ)). AreNoted (put_mark pairs p q true) rs now) (sym c.count_sent.ensures)
    (subst (AreNoted (put_mark pairs p q true) (put_count rows p q (count_between rows p q + 1))) (sym more)
    (noted_front pairs rows sent p q letter c.self.invariant sender receiver)))
