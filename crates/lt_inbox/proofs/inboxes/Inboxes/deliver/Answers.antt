use Rattle.std.proofs.Common.{◌≡◌, ◌∙◌, ℕ, List, [], ◌∷◌, arith, sym, ap, subst}
use Rattle.lt_modes.specs.State.{Post}
use Rattle.lt_desk.specs.DeskData.{OutData}
use Rattle.lt_desk.specs.LetterSeen.{post_seen}
use Rattle.lt_inbox.specs.Mail.{MailData}
use Rattle.lt_inbox.proofs.Marks.{LeftToDeliver, delivered_one}
use Rattle.lt_inbox.proofs.inboxes.Inboxes.deliver.Goals as goal

-- the letter in hand is the next one
next : (p : ℕ) (posts left : List Post) (old now : MailData) (post : Post) (rest : List Post) → left ≡ post ∷ rest
    → LeftToDeliver p posts old left now → LeftToDeliver p posts old (post ∷ rest) now
next p posts left old now post rest e h = subst (λ (ps : List Post). LeftToDeliver p posts old ps now) e h

pub send-requires-clause-receiver : goal.send-requires-clause-receiver
send-requires-clause-receiver c =
    let left = next c.args.sender c.args.out.now.posts _ c.args.self.now c.loop-post.self _ _ c.in-Some.ensures.first c.loop-post.invariant.left in
    left.targets 0 (post_seen c.in-Some.post) (omega arith)

pub send-requires-clause-room : goal.send-requires-clause-room
send-requires-clause-room c =
    let left = next c.args.sender c.args.out.now.posts _ c.args.self.now c.loop-post.self _ _ c.in-Some.ensures.first c.loop-post.invariant.left in
    omega (arith, left.room)

pub loop-post-preserved : goal.loop-post-preserved
loop-post-preserved c =
    let left = next c.args.sender c.args.out.now.posts _ c.args.self.now c.loop-post.self _ _ c.in-Some.ensures.first c.loop-post.invariant.left in
    record {
      left = subst (LeftToDeliver c.args.sender c.args.out.now.posts c.args.self.now c.next_letter.new.self.posts) (sym c.send.ensures)
          (delivered_one c.args.sender c.args.out.now.posts c.args.self.now c.loop-post.self (post_seen c.in-Some.post) c.next_letter.new.self.posts left);
      out = ap (λ (o : OutData). record o { posts = [] }) c.in-Some.ensures.rest ∙ c.loop-post.invariant.out;
    }
