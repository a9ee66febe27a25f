-- What is done with the letters and the event lines of a move.
use Rattle.std.specs.Prelude.{◌≡◌, ℕ, List, [], ◌∷◌, ◌++◌, length, All}
use Rattle.lt_modes.specs.declared.moves.Move.{Move}
use Rattle.lt_modes.specs.State.{Post}
use Rattle.lt_desk.specs.DeskData.{OutData}
use Rattle.lt_law_own_lines.specs.WaitingLaws.{IsForPeer}
use Rattle.lt_spec.specs.Plays.{letters_for}
use Rattle.lt_mail.specs.declared.mail.Mail.{Mail}
use Rattle.lt_mail.specs.Words.{in_at, end_at, outs_count, HasRoomFor, sent_to, SameEnds}
use Rattle.lt_runner.specs.declared.parts.Parts.{Parts}

-- the letters are for other nodes, and there is room for them
pub record CanPost (nodes me : ℕ) (m : Mail) (posts : List Post) : Type 0 where
  pub count : outs_count m ≡ nodes
  pub peers : All (IsForPeer nodes me) posts
  pub room : HasRoomFor m (length posts)

-- the letters are put into the outboxes to their nodes
pub record Posted (posts : List Post) (a b : Mail) : Type 0 where
  pub ends : SameEnds a b
  pub sent : (node : ℕ) → sent_to b node ≡ sent_to a node ++ letters_for node posts
  pub rings : (node : ℕ) → end_at b node ≡ end_at a node
  pub ins : (node : ℕ) → in_at b node ≡ in_at a node

-- some letters are put there, and the others are left
pub record Posting (nodes me : ℕ) (a b : Mail) (all left : OutData) : Type 0 where
  pub ends : SameEnds a b
  pub sent : (node : ℕ) → sent_to b node ++ letters_for node left.posts ≡ sent_to a node ++ letters_for node all.posts
  pub rings : (node : ℕ) → end_at b node ≡ end_at a node
  pub ins : (node : ℕ) → in_at b node ≡ in_at a node
  pub can : CanPost nodes me b left.posts
  pub out : left ≡ record all { posts = left.posts }

-- the move is in the log and its letters are in the mail
pub record Finished (made : Move) (a b : Parts) : Type 0 where
  pub node : b.node ≡ a.node
  pub hand : b.hand ≡ a.hand
  pub limit : b.limit ≡ a.limit
  pub log : b.log.entries ≡ a.log.entries ++ record { made = made; events = a.out.events } ∷ []
  pub gone : b.log.gone ≡ a.log.gone
  pub mail : Posted a.out.posts a.mail b.mail
  pub posts : b.out.posts ≡ []
  pub events : b.out.events ≡ []
