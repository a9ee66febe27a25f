-- The mail of one node, and the far ends of its rings.
use Rattle.std.specs.Prelude.{◌≡◌, ◌<◌, ℕ, List, [], ◌∷◌, Some}
use Rattle.rtrb.specs.Ring.{producer_capacity}
use Rattle.lt_mail.specs.declared.lane.OutEnd.{OutEnd}
use Rattle.lt_mail.specs.declared.lane.InLane.{InLane}
use Rattle.lt_mail.specs.declared.mail.Mail.{Mail}
use Rattle.lt_mail.specs.Opening.{IsFresh, GainsOut, GainsIn, IsNewLink}
use Rattle.lt_mail.specs.Words.{OutLane, out_at, outs_count, AreLinkedAt}

-- the second mail has the far end of each ring of the first, at the place of the node at that end
pub record AreFarEnds (mail far : Mail) : Type 0 where
  pub out : (node : ℕ) → node < outs_count mail → AreLinkedAt node node mail far
  pub into : (node : ℕ) → node < outs_count mail → AreLinkedAt node node far mail

-- a fresh mail of the node, and one with the far ends of its rings, which have these places
pub record IsStar (nodes me capacity : ℕ) (mail far : Mail) : Type 0 where
  pub fresh : IsFresh nodes me mail
  pub far_fresh : IsFresh nodes me far
  pub places : (node : ℕ) (lane : OutLane) → out_at far node ≡ Some lane → producer_capacity lane.end.ring ≡ capacity
  pub ends : AreFarEnds mail far

-- each has the other end of the new ring at its place
abbrev pub AreNewLinks : ℕ → List OutEnd → List InLane → Type 0
AreNewLinks capacity [] [] = Unit {0}
AreNewLinks capacity [] (lane ∷ lanes) = ⊥
AreNewLinks capacity (end ∷ ends) [] = ⊥
AreNewLinks capacity (end ∷ ends) (lane ∷ lanes) = IsNewLink capacity end lane × AreNewLinks capacity ends lanes

-- a ring from the one to the other is there more
pub record GainsRing (capacity : ℕ) (out into out_now into_now : Mail) : Type 0 where
  pub end : OutEnd
  pub lane : InLane
  pub outs : GainsOut end out out_now
  pub ins : GainsIn lane into into_now
  pub new : IsNewLink capacity end lane

-- the rings between the two mails of a node for so many nodes
pub record StarGrows (me capacity nodes : ℕ) (mail far : Mail) : Type 0 where
  pub node : (mail.me ≡ me) × (far.me ≡ me)
  pub waiting : (mail.waiting.items ≡ []) × (far.waiting.items ≡ [])
  pub count : (outs_count mail ≡ nodes) × (outs_count far ≡ nodes)
  pub out : AreNewLinks capacity mail.outs.items far.ins
  pub into : AreNewLinks capacity far.outs.items mail.ins
