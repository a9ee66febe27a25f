-- What polling the rings does.
use Rattle.std.specs.Prelude.{◌≡◌, ◌≢◌, ◌<◌, ℕ, [], ◌++◌, Option, None, length}
use Rattle.lt_mail.specs.declared.mail.Mail.{Mail}
use Rattle.lt_mail.specs.Words.{out_at, taken_from, known_from, SameEnds}
use Rattle.lt_runner.specs.declared.parts.Hand.{Hand}
use Rattle.lt_runner.specs.Kept.{in_hand, IsFromPeer}

-- a letter of another node was taken; or none was, and then none is known of the first of the other nodes
pub record Polled (nodes me first : ℕ) (a b : Mail) (hand : Option Hand) : Type 0 where
  pub ends : SameEnds a b
  pub outs : (node : ℕ) → out_at b node ≡ out_at a node
  pub taken : (node : ℕ) → taken_from b node ≡ taken_from a node ++ in_hand node hand
  pub from : IsFromPeer nodes me hand
  pub none : hand ≡ None → (node : ℕ) → node < first → node ≢ me → known_from b node ≡ []

-- nothing was taken, and a letter of this node, another one, is known
pub record Finds (nodes me : ℕ) (a b : Mail) (from : ℕ) : Type 0 where
  pub ends : SameEnds a b
  pub outs : (node : ℕ) → out_at b node ≡ out_at a node
  pub taken : (node : ℕ) → taken_from b node ≡ taken_from a node
  pub below : from < nodes
  pub apart : from ≢ me
  pub known : 0 < length (known_from b from)
