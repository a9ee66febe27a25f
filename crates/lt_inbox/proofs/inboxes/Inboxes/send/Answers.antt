use Rattle.std.proofs.Common.{◌≡◌, ◌<◌, ◌+◌, ◌∙◌, Bool, true, List, [], ◌∷◌, ◌++◌, ℕ, length, arith, sym, ap, subst}
use Rattle.lt_desk.specs.LetterSeen.{letter_seen}
use Rattle.lt_inbox.specs.Mail.{SentData, MailData, put_mark, sent_of}
use Rattle.lt_inbox.specs.Counts.{AreNoted, count_between, put_count}
use Rattle.lt_inbox.proofs.Counts.{noted_back, few_counted}
use Rattle.lt_inbox.proofs.inboxes.Inboxes.send.Goals as goal

pub count_sent-requires-clause-receiver : goal.count_sent-requires-clause-receiver
count_sent-requires-clause-receiver c =
    omega (arith, c.requires.receiver, ap (λ (m : MailData). m.nodes) c.self.view_is, c.self.invariant.nodes)

pub count_sent-requires-clause-sender : goal.count_sent-requires-clause-sender
count_sent-requires-clause-sender c =
    let rows = c.self.inside.counts.items in
    let count = ap (λ (m : MailData). m.nodes) c.self.view_is in
    omega (arith, c.requires.sender, count, c.self.invariant.nodes, c.self.invariant.counted.senders c.args.post.to (omega (arith, c.requires.receiver, count, c.self.invariant.nodes)))

pub count_sent-requires-clause-few : goal.count_sent-requires-clause-few
count_sent-requires-clause-few c =
    let inside = c.self.inside in
    let count = ap (λ (m : MailData). m.nodes) c.self.view_is in
    few_counted inside.pairs inside.counts.items inside.sent.items c.args.sender c.args.post.to inside.sent.cap c.self.invariant
    (omega (arith, c.requires.sender, count)) (omega (arith, c.requires.receiver, count)) (omega (arith, c.requires.room, ap (λ (m : MailData). m.free) c.self.view_is))
    (omega (arith, inside.sent.small))

pub invariant_of-self : goal.invariant_of-self
invariant_of-self c =
    let pairs = c.self.inside.pairs in
    let rows = c.self.inside.counts.items in
    let sent = c.self.inside.sent.items in
    let p = c.args.sender in
    let q = c.args.post.to in
    let letter = letter_seen c.args.post.letter in
    let now = c.push_back_reserved.new.self.items in
    let count : length pairs ≡ c.args.self.now.nodes = ap (λ (m : MailData). m.nodes) c.self.view_is in
    let sender : p < length pairs = omega (arith, c.requires.sender, count) in
    let receiver : q < length pairs = omega (arith, c.requires.receiver, count) in
    let more : now ≡ sent ++ sent_of p q letter ∷ [] =
    c.push_back_reserved.ensures.items ∙ ap (λ (one : SentData). sent ++ one ∷ []) c.new.ensures in
    subst (λ (bs : List (List Bool)). AreNoted bs c.count_sent.new.rows.items now) (sym c.mark.ensures)
    (subst (λ (rs : List (List ℕ)). AreNoted (put_mark pairs p q true) rs now) (sym c.count_sent.ensures)
    (subst (AreNoted (put_mark pairs p q true) (put_count rows p q (count_between rows p q + 1))) (sym more)
    (noted_back pairs rows sent p q letter c.self.invariant sender receiver)))
