use Rattle.std.proofs.Common.{◌≡◌, ◌<◌, Bool, List, ℕ, length, nat_lt, arith, sym, ap, subst}
use Rattle.lt_desk.specs.LetterSeen.{letter_seen}
use Rattle.lt_inbox.specs.Mail.{MailData, put_mark, mail_in}
use Rattle.lt_inbox.specs.Counts.{AreNoted, count_between}
use Rattle.lt_inbox.proofs.Counts.{noted_less, one_counted}
use Rattle.lt_inbox.proofs.inboxes.Inboxes.pop_front.Goals as goal

pub count_taken-more-requires-clause-receiver : goal.count_taken-more-requires-clause-receiver
count_taken-more-requires-clause-receiver c =
    omega (arith, c.requires.inside.1, ap (λ (m : MailData). m.nodes) c.self.view_is, c.self.invariant.nodes)

pub count_taken-more-requires-clause-sender : goal.count_taken-more-requires-clause-sender
count_taken-more-requires-clause-sender c =
    let count = ap (λ (m : MailData). m.nodes) c.self.view_is in
    omega (arith, c.requires.inside.0, count, c.self.invariant.nodes, c.self.invariant.counted.senders c.args.receiver (omega (arith, c.requires.inside.1, count, c.self.invariant.nodes)))

pub count_taken-more-requires-clause-some : goal.count_taken-more-requires-clause-some
count_taken-more-requires-clause-some c =
    let inside = c.self.inside in
    let count = ap (λ (m : MailData). m.nodes) c.self.view_is in
    one_counted inside.pairs inside.counts.items inside.sent.items c.args.sender c.args.receiver c.self.invariant
    (omega (arith, c.requires.inside.0, count)) (omega (arith, c.requires.inside.1, count))
    (omega (arith, c.requires.some, ap (λ (m : MailData). length (mail_in m c.args.sender c.args.receiver)) c.self.view_is))

pub invariant_of-self : goal.invariant_of-self
invariant_of-self c =
    let pairs = c.self.inside.pairs in
    let rows = c.self.inside.counts.items in
    let sent = c.self.inside.sent.items in
    let left = c.take_first-letter.new.sent.items in
    let now = c.count_taken-more.new.rows.items in
    let p = c.args.sender in
    let q = c.args.receiver in
    let count : length pairs ≡ c.args.self.now.nodes = ap (λ (m : MailData). m.nodes) c.self.view_is in
    let sender : p < length pairs = omega (arith, c.requires.inside.0, count) in
    let receiver : q < length pairs = omega (arith, c.requires.inside.1, count) in
    let front = c.take_first-letter.ensures.front in
    let others = c.take_first-letter.ensures.others in
    subst (λ (bs : List (List Bool)). AreNoted bs now left) (sym c.set.ensures)
    (subst (λ (t : Bool). AreNoted (put_mark pairs p q t) now left) (sym c.count_taken-more.ensures.more)
    (subst (λ (rs : List (List ℕ)). AreNoted (put_mark pairs p q (nat_lt 1 (count_between rows p q))) rs left) (sym c.count_taken-more.ensures.counts)
    (noted_less pairs rows sent left p q (letter_seen c.take_first-letter.result) c.self.invariant sender receiver front others)))
