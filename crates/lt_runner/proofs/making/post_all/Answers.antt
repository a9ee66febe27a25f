-- The next letter is put into its outbox.
use Rattle.lt_desk.specs.LetterSeen.{post_seen}
use Rattle.lt_runner.proofs.MoveLemmas.{next_post, one_posted}
use Rattle.lt_runner.proofs.making.post_all.Goals as goal

pub put-requires-clause-peer : goal.put-requires-clause-peer
put-requires-clause-peer c =
    (next_post c.args._nodes c.args._me c.args.mail.now c.loop-post.mail c.args.out.now c.loop-post.out c.next_letter.new.self
    (post_seen c.in-Some.post) c.loop-post.invariant c.in-Some.ensures.first).0

pub loop-post-preserved : goal.loop-post-preserved
loop-post-preserved c =
    one_posted c.args._nodes c.args._me c.args.mail.now c.loop-post.mail c.put.new.self c.args.out.now c.loop-post.out c.next_letter.new.self
    (post_seen c.in-Some.post) c.loop-post.invariant c.in-Some.ensures.first c.next_letter.ensures.rest c.put.ensures.sent c.put.ensures.rings c.put.ensures.room
    c.put.ensures.ins c.put.ensures.ends
