-- Letters that went to rings in a turn.
use Rattle.std.proofs.Common.{◌≡◌, ℕ, inl, inr, List, [], ◌++◌, ◌⊎◌, sym, ap, subst, ◌∙◌, append-nil}
use mathlib.Core.List.{IsPrefix}
use Rattle.lt_modes.specs.State.{Letter}
use Rattle.lt_spec.specs.World.{Logged}
use Rattle.lt_mail.specs.Words.{out_at, sent_to, given_to, waiting_to, IsFullTo}
use Rattle.lt_mail.proofs.RingLemmas.{given_all, given_stays}
use Rattle.lt_mail.proofs.TellingLemmas.{outs_given}
use Rattle.lt_runner.specs.declared.parts.Parts.{Parts}
use Rattle.lt_runner.specs.Kept.{AsSeen, SendsOn, IsFlushed, HasPassedOn, KeepsRings, KeepsGiven, MovedOne}

pub seen_sends : (a b : Parts) → AsSeen a b → SendsOn a b
seen_sends a b h node = ([], append-nil (sent_to a.mail node) ∙ sym (h.sent node))

pub sends_later : (a b c : Parts) → AsSeen a b → SendsOn b c → SendsOn a c
sends_later a b c h k node = subst (λ (letters : List Letter). IsPrefix letters (sent_to c.mail node)) (h.sent node) (k node)

pub rings_given : (a b c : Parts) → ((node : ℕ) → out_at b.mail node ≡ out_at a.mail node) → KeepsRings b c → KeepsGiven a c
rings_given a b c outs rings node = given_stays b.mail c.mail node (rings node) ∙ outs_given a.mail b.mail outs node

-- what was sent before the outboxes were flushed is passed on
pub passed_flushed : (a b c : Parts) → SendsOn a b → AsSeen b c → IsFlushed c → HasPassedOn a c
passed_flushed a b c sends seen flushed node = by_end (flushed node)
  where
    by_end : (waiting_to c.mail node ≡ []) ⊎ IsFullTo c.mail node → IsPrefix (sent_to a.mail node) (given_to c.mail node) ⊎ IsFullTo c.mail node
    by_end (inl none) = inl
        (subst (λ (letters : List Letter). IsPrefix (sent_to a.mail node) letters) (sym (seen.sent node) ∙ given_all c.mail node none) (sends node))
    by_end (inr full) = inr full

-- a look after a move
pub moved_seen : (a b c : Parts) → MovedOne a b → AsSeen b c → MovedOne a c
moved_seen a b c m k = (m.0, k.log ∙ m.1)
