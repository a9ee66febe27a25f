-- A move of the node, its log entry and its letters are a move of the runner.
use Rattle.std.proofs.Common.{◌≡◌, ◌≢◌, ℕ, ◌+◌, ◌<◌, List, [], ◌∷◌, ◌++◌, Option, Some, None, false, length, refl, sym, ap, subst, ◌∙◌, arith, append_assoc, ◌==◌, IsTrue, All, Bool, true, append-nil, lt-ltb, ne_eqb}
use Rattle.std.proofs.lemmas.List.Elements.{All-head, All-rest}
use Rattle.lt_modes.specs.declared.moves.Step.TheVariants.{Act, Take}
use Rattle.lt_modes.specs.State.{Letter, Post}
use Rattle.lt_spec.specs.NodeMove.{NodeMade, node_act, node_take, act_stamp, take_stamp}
use Rattle.lt_spec.specs.Plays.{Cause, OfClient, OfLetter, can_make_move, made_of, letters_for, logged_of, used_by}
use Rattle.lt_law_own_lines.specs.WaitingLaws.{IsForPeer, ReachesPeers}
use Rattle.lt_law_own_lines.proofs.Moves.{acts_reach_peers, takes_reach_peers}
use Rattle.lt_desk.specs.DeskData.{OutData}
use Rattle.lt_desk.specs.LetterSeen.{letter_seen}
use Rattle.lt_node.specs.NodeData.{NodeData, NodeDoes, state_of}
use Rattle.lt_mail.specs.Words.{on_in, sent_to, taken, in_at, end_at, outs_count, HasRoomFor, if_to, SameEnds}
use Rattle.lt_mail.specs.declared.lane.InLane.{InLane}
use Rattle.lt_mail.specs.declared.mail.Mail.{Mail}
use Rattle.lt_mail.proofs.LookLemmas.{ends_join, ends_same, fewer_letters}
use Rattle.lt_runner.specs.declared.parts.Hand.{Hand}
use Rattle.lt_runner.specs.declared.parts.Parts.{Parts}
use Rattle.lt_runner.specs.declared.choice.Choice.TheVariants as choices
use Rattle.lt_runner.specs.Choices.{next_choice}
use Rattle.lt_runner.specs.Kept.{in_hand, IsFromPeer, RunnerInvariant}
use Rattle.lt_runner.specs.Posting.{Finished, CanPost, Posted, Posting}
use Rattle.lt_runner.specs.Ready.{FitsNow}
use Rattle.lt_runner.proofs.ChoiceLemmas.{ChoseAct, chose_act, IsRunnable, is_runnable}
use Rattle.lt_runner.proofs.KeptLemmas.{Moves}

-- what is in the outgoing letters after the node's move
posts_made : (made : NodeMade) (old new : NodeData) (had out : OutData) → had.posts ≡ [] → NodeDoes made old had new out → out.posts ≡ made.posts
posts_made made old new had out none d = ap (λ (o : OutData). o.posts) d.sent ∙ ap (λ (posts : List Post). posts ++ made.posts) none

events_made : (made : NodeMade) (old new : NodeData) (had out : OutData) → had.events ≡ [] → NodeDoes made old had new out → out.events ≡ made.events
events_made made old new had out none d = ap (λ (o : OutData). o.events) d.sent ∙ ap (λ events. events ++ made.events) none

-- the parts once the node made the move
abbrev pub moved_node : Parts → NodeData → OutData → Option Hand → Parts
moved_node a node out hand = record a { node = node; out = out; hand = hand; idle = false }

-- the runner made the move with this cause
pub finished : (a f : Parts) (node : NodeData) (out : OutData) (hand : Option Hand) (cause : Cause)
    → RunnerInvariant a → IsTrue (can_make_move a.node.script a.node.me (state_of a.node) cause)
    → ReachesPeers a.node.script.nodes a.node.me (made_of a.node.script a.node.me (state_of a.node) cause)
    → NodeDoes (made_of a.node.script a.node.me (state_of a.node) cause) a.node a.out node out
    → Finished (logged_of a.node.script a.node.me (state_of a.node) cause).made (moved_node a node out hand) f
    → ((k : ℕ) → in_hand k a.hand ≡ used_by cause k ++ in_hand k hand) → IsFromPeer a.node.script.nodes a.node.me hand → length a.log.entries < a.limit → f.idle ≡ false → Moves a f cause
finished a f node out hand cause h can reaches d e hands peer place idle = record {
  same = record {
    script = ap (λ (n : NodeData). n.script) e.node ∙ d.script;
    me = ap (λ (n : NodeData). n.me) e.node ∙ d.me;
    limit = e.limit;
    gone = e.gone;
    commands_gone = ap (λ (n : NodeData). n.gone) e.node ∙ d.gone;
    ends = e.mail.ends;
  };
  can = can;
  state = ap (λ (n : NodeData). state_of n) e.node ∙ d.state;
  log = e.log ∙ ap (λ events. a.log.entries ++ record { made = (logged_of a.node.script a.node.me (state_of a.node) cause).made; events = events } ∷ [])
      (events_made (made_of a.node.script a.node.me (state_of a.node) cause) a.node node a.out out h.events d);
  sent = λ k. e.mail.sent k ∙ ap (λ (posts : List Post). sent_to a.mail k ++ letters_for k posts)
      (posts_made (made_of a.node.script a.node.me (state_of a.node) cause) a.node node a.out out h.posts d);
  taken = λ k. ap (λ (o : Option InLane). on_in taken o) (e.mail.ins k);
  hands = λ k. hands k ∙ ap (λ (o : Option Hand). used_by cause k ++ in_hand k o) (sym e.hand);
  from = subst (λ (o : Option Hand). IsFromPeer a.node.script.nodes a.node.me o) (sym e.hand) peer;
  names = reaches.node;
  place = place;
  posts = e.posts;
  events = e.events;
  idle = idle;
}

-- where the node is that of the script, its letters go to other nodes
pub posts_for_peers : (a : Parts) (node : NodeData) (out : OutData) (made : NodeMade) → a.out.posts ≡ []
    → ReachesPeers a.node.script.nodes a.node.me made → NodeDoes made a.node a.out node out → All (IsForPeer node.script.nodes node.me) out.posts
posts_for_peers a node out made none reaches d =
    subst (λ (posts : List Post). All (IsForPeer node.script.nodes node.me) posts) (sym (posts_made made a.node node a.out out none d))
    (subst (λ script. All (IsForPeer script.nodes node.me) made.posts) (sym d.script)
    (subst (λ (me : ℕ). All (IsForPeer a.node.script.nodes me) made.posts) (sym d.me) reaches.posts))

-- a letter of another node of the script can be taken
pub can_take : (a : Parts) (hand : Hand) → a.node.me < a.node.script.nodes → (hand.from < a.node.script.nodes) × (hand.from ≢ a.node.me)
    → IsTrue (can_make_move a.node.script a.node.me (state_of a.node) (OfLetter hand.from (letter_seen hand.letter)))
can_take a hand below from =
    rw (lt-ltb hand.from a.node.script.nodes from.0) (rw (lt-ltb a.node.me a.node.script.nodes below) (rw (ne_eqb hand.from a.node.me from.1) refl))

-- the command of the client
pub record ActsNow (a : Parts) (client : ℕ) : Type 0 where
  pub runs : IsRunnable a.node.script a.node.me (state_of a.node) client
  pub chosen : ChoseAct a.node.script a.node.me (state_of a.node) client
  pub reaches : ReachesPeers a.node.script.nodes a.node.me (node_act a.node.script a.node.me client (state_of a.node))

pub acts_now : (a : Parts) (client : ℕ) → RunnerInvariant a → next_choice a ≡ choices.Act client → ActsNow a client
acts_now a client h e =
    let chosen = chose_act a client e in
    record {
      runs = is_runnable a.node.script a.node.me (state_of a.node) client chosen.can;
      chosen = chosen;
      reaches = acts_reach_peers a.node.script a.node.me client (state_of a.node) h.below h.names;
    }

-- the command was made
pub acted : (a f : Parts) (node : NodeData) (out : OutData) (client : ℕ) → RunnerInvariant a → next_choice a ≡ choices.Act client
    → NodeDoes (node_act a.node.script a.node.me client (state_of a.node)) a.node a.out node out
    → Finished (record { stamp = act_stamp a.node.me (state_of a.node); step = Act client }) (moved_node a node out a.hand) f
    → length a.log.entries < a.limit → f.idle ≡ false → Moves a f (OfClient client)
acted a f node out client h e d fin place idle =
    finished a f node out a.hand (OfClient client) h (acts_now a client h e).chosen.can (acts_now a client h e).reaches d fin
    (λ k. refl) h.hand place idle

-- what the letter that was in hand sends goes to other nodes
pub take_reaches : (a : Parts) (hand : Hand) → RunnerInvariant a → FitsNow a.node.script a.node.me (state_of a.node) hand
    → ReachesPeers a.node.script.nodes a.node.me (node_take a.node.me (letter_seen hand.letter) (state_of a.node))
take_reaches a hand h fit =
    takes_reach_peers a.node.script a.node.me (state_of a.node).clock (letter_seen hand.letter) (state_of a.node) h.below h.names fit.fits

-- the letter was taken
pub took : (a f : Parts) (node : NodeData) (out : OutData) (hand : Hand) (left : Option Hand) → RunnerInvariant a → a.hand ≡ Some hand → left ≡ None
    → FitsNow a.node.script a.node.me (state_of a.node) hand
    → NodeDoes (node_take a.node.me (letter_seen hand.letter) (state_of a.node)) a.node a.out node out
    → Finished (record { stamp = take_stamp a.node.me (state_of a.node) (letter_seen hand.letter); step = Take hand.from }) (moved_node a node out left) f
    → length a.log.entries < a.limit → f.idle ≡ false → Moves a f (OfLetter hand.from (letter_seen hand.letter))
took a f node out hand left h there none fit d fin place idle =
    finished a f node out left (OfLetter hand.from (letter_seen hand.letter)) h
    (can_take a hand h.below (subst (λ (o : Option Hand). IsFromPeer a.node.script.nodes a.node.me o) there h.hand))
    (take_reaches a hand h fit) d fin hands (subst (λ (o : Option Hand). IsFromPeer a.node.script.nodes a.node.me o) (sym none) tt) place idle
  where
    hands : (k : ℕ) → in_hand k a.hand ≡ used_by (OfLetter hand.from (letter_seen hand.letter)) k ++ in_hand k left
    hands k =
        ap (λ (o : Option Hand). in_hand k o) there
        ∙ (sym (append-nil (in_hand k (Some hand))) ∙ ap (λ (o : Option Hand). in_hand k (Some hand) ++ in_hand k o) (sym none))

-- Letters that are put into outboxes one after the other.

-- a post is the letters to its node, and then the others
pub one_more : (node : ℕ) (post : Post) (rest : List Post) → letters_for node (post ∷ rest) ≡ if_to post.to post.letter node ++ letters_for node rest
one_more node post rest = by_test (post.to == node) refl
  where
    by_test : (b : Bool) → (post.to == node) ≡ b → letters_for node (post ∷ rest) ≡ if_to post.to post.letter node ++ letters_for node rest
    by_test true e = rw e refl
    by_test false e = rw e refl

-- the first one can be put
pub next_post : (nodes me : ℕ) (a b : Mail) (all left rest : OutData) (post : Post) → Posting nodes me a b all left → left.posts ≡ post ∷ rest.posts
    → (post.to < outs_count b) × HasRoomFor b 1
next_post nodes me a b all left rest post h first = (
  rw h.can.count (All-head (IsForPeer nodes me) post rest.posts (subst (λ (posts : List Post). All (IsForPeer nodes me) posts) first h.can.peers)).node,
  fewer_letters b (length left.posts) 1 (omega (arith, ap length first)) h.can.room,
)

-- nothing is put yet
pub none_posted : (nodes me : ℕ) (m : Mail) (out : OutData) → CanPost nodes me m out.posts → Posting nodes me m m out out
none_posted nodes me m out can = record { ends = ends_same m; sent = λ node. refl; rings = λ node. refl; ins = λ node. refl; can = can; out = refl }

-- the first of the letters that are left is put into its outbox
pub one_posted : (nodes me : ℕ) (a b c : Mail) (all left rest : OutData) (post : Post) → Posting nodes me a b all left
    → left.posts ≡ post ∷ rest.posts → rest ≡ record left { posts = rest.posts }
    → ((node : ℕ) → sent_to c node ≡ sent_to b node ++ if_to post.to post.letter node)
    → ((node : ℕ) → end_at c node ≡ end_at b node)
    → ((letters : ℕ) → HasRoomFor b (letters + 1) → HasRoomFor c letters)
    → ((node : ℕ) → in_at c node ≡ in_at b node) → SameEnds b c → Posting nodes me a c all rest
one_posted nodes me a b c all left rest post h first others sent rings room ins ends = record {
  ends = ends_join a b c h.ends ends;
  sent = λ node. ap (λ (letters : List Letter). letters ++ letters_for node rest.posts) (sent node)
      ∙ (append_assoc (sent_to b node) (if_to post.to post.letter node) (letters_for node rest.posts)
      ∙ (ap (λ (letters : List Letter). sent_to b node ++ letters) (sym (one_more node post rest.posts) ∙ ap (λ (posts : List Post). letters_for node posts) (sym first))
      ∙ h.sent node));
  rings = λ node. rings node ∙ h.rings node;
  ins = λ node. ins node ∙ h.ins node;
  can = record {
    count = ends.counts.0 ∙ h.can.count;
    peers = All-rest (IsForPeer nodes me) post rest.posts left.posts first h.can.peers;
    room = room (length rest.posts) (fewer_letters b (length left.posts) (length rest.posts + 1) (omega (arith, ap length first)) h.can.room);
  };
  out = others ∙ ap (λ (o : OutData). record o { posts = rest.posts }) h.out;
}

-- all are put
pub all_posted : (nodes me : ℕ) (a b : Mail) (all left : OutData) → Posting nodes me a b all left → left.posts ≡ []
    → Posted all.posts a b × (left ≡ record all { posts = [] })
all_posted nodes me a b all left h none = (
  record {
    ends = h.ends;
    sent = λ node. sym (append-nil (sent_to b node)) ∙ (ap (λ (posts : List Post). sent_to b node ++ letters_for node posts) (sym none) ∙ h.sent node);
    rings = h.rings;
    ins = h.ins;
  },
  h.out ∙ ap (λ (posts : List Post). record all { posts = posts }) none,
)
