use Rattle.std.proofs.Common.{◌≡◌, [], length}
use Rattle.lt_inbox.proofs.Marks.{LeftToDeliver}
use Rattle.lt_inbox.proofs.inboxes.Inboxes.deliver.Given as goal

abbrev pub invariant-loop-post : goal.invariant-loop-post
invariant-loop-post l = record {
  left : LeftToDeliver l.sender l.initial.out.posts l.initial.self l.out.posts l.self;
  out : record l.out { posts = [] } ≡ record l.initial.out { posts = [] };
}

abbrev pub decreases-loop-post : goal.decreases-loop-post
decreases-loop-post l = length l.out.posts
