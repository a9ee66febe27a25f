-- A ring that is looked at from both of its ends.
use Rattle.std.proofs.Common.{◌≡◌, refl, ap, ℕ, ◌<◌, ◌≤◌, inl, inr, List, [], ◌++◌, length, Option, Some, None, sym, subst, arith, ◌∙◌, append_assoc, length-append, ◌⊎◌, slice_get}
use Rattle.std.proofs.lemmas.Option.{slice_get_within}
use Rattle.rtrb.specs.Ring.{known_free, producer_capacity}
use Rattle.lt_desk.specs.declared.letter.Letter.{Letter}
use Rattle.lt_mail.specs.declared.lane.OutEnd.{OutEnd}
use Rattle.lt_mail.specs.declared.lane.InLane.{InLane}
use Rattle.lt_mail.specs.declared.mail.Mail.{Mail}
use Rattle.lt_mail.specs.Words.{OutLane, letters_to, lane_of, ring_given, outbox_letters, taken, known, out_at, in_at, outs_count, ins_count, Both, IsOpenLink, AreLinkedAt, SameOut, SameIn, IsMet, LaneGives, Sees, LooksAgain, KnowsPlaces, KnowsLetters}
use Rattle.lt_mail.specs.Passing.{OutChanges, InChanges, Flushes}

-- both ends of the ring are there
pub linked_ends : (out into : Mail) (to from : ℕ) → AreLinkedAt to from out into → (to < outs_count out) × (from < ins_count into)
linked_ends out into to from h = by_ends (slice_get out.outs.items to) (slice_get into.ins from) refl refl h
  where
    by_ends : (o : Option OutEnd) (i : Option InLane) → slice_get out.outs.items to ≡ o → slice_get into.ins from ≡ i
        → Both IsOpenLink (lane_of (letters_to to out.waiting.items) o) i → (to < outs_count out) × (from < ins_count into)
    by_ends None i eo ei l = absurd l
    by_ends (Some o) None eo ei l = absurd l
    by_ends (Some o) (Some i) eo ei l = (slice_get_within out.outs.items to o eo, slice_get_within into.ins from i ei)

still_linked : (R : OutLane → OutLane → Type 0) (S : InLane → InLane → Type 0) → ((x y : OutLane) → R x y → SameOut x y) → ((x y : InLane) → S x y → SameIn x y)
    → (o p : Option OutLane) (i j : Option InLane) → Both R o p → Both S i j → Both IsOpenLink o i → Both IsOpenLink p j
still_linked R S r s None p i j u v e = absurd e
still_linked R S r s (Some o) p None j u v e = absurd e
still_linked R S r s (Some o) None (Some i) j u v e = absurd u
still_linked R S r s (Some o) (Some p) (Some i) None u v e = absurd v
still_linked R S r s (Some o) (Some p) (Some i) (Some j) u v e =
    let a = r o p u in
    let b = s i j v in
    ((b.0.0 ∙ e.0.0 ∙ sym a.0.0, b.0.1 ∙ e.0.1 ∙ sym a.0.1, b.0.2 ∙ e.0.2 ∙ sym a.0.2, b.0.3 ∙ e.0.3 ∙ sym a.0.3), subst (λ (n : ℕ). 0 < n) (sym a.1) e.1)

-- they are linked when the one looked, and flushed then
pub linked_still : (out mid last into seen : Mail) (to from : ℕ) → AreLinkedAt to from out into → OutChanges LooksAgain out mid to
    → InChanges Sees into seen from → OutChanges Flushes mid last to → AreLinkedAt to from last seen
linked_still out mid last into seen to from link looks sees flushes =
    still_linked Flushes (λ (i j : InLane). SameIn i j) (λ x y h. h.ring) (λ x y h. h) (out_at mid to) (out_at last to) (in_at seen from) (in_at seen from)
    flushes.lane (itself (in_at seen from) first) first
  where
    first : Both IsOpenLink (out_at mid to) (in_at seen from)
    first = still_linked LooksAgain Sees (λ x y h. h.ring) (λ x y h. h.ring) (out_at out to) (out_at mid to) (in_at into from) (in_at seen from)
        looks.lane sees.lane link

    itself : (i : Option InLane) → Both IsOpenLink (out_at mid to) i → Both (λ (x y : InLane). SameIn x y) i i
    itself None l = absurd (no_end (out_at mid to) l)
      where
        no_end : (o : Option OutLane) → Both IsOpenLink o None → ⊥
        no_end None l = l
        no_end (Some o) l = l
    itself (Some i) l = ((refl, refl, refl, refl), refl)

-- what was sent stays, and the ring has more of it
gives : (a b c d : Option OutLane) → Both LooksAgain a b → Both Flushes b c → Both LooksAgain c d → Both LaneGives a d
gives None b c d x y z = absurd x
gives (Some a) None c d x y z = absurd x
gives (Some a) (Some b) None d x y z = absurd y
gives (Some a) (Some b) (Some c) None x y z = absurd z
gives (Some a) (Some b) (Some c) (Some d) x y z = record {
  ring = (
    (z.ring.0.0 ∙ y.ring.0.0 ∙ x.ring.0.0, z.ring.0.1 ∙ y.ring.0.1 ∙ x.ring.0.1, z.ring.0.2 ∙ y.ring.0.2 ∙ x.ring.0.2, z.ring.0.3 ∙ y.ring.0.3 ∙ x.ring.0.3),
    z.ring.1 ∙ y.ring.1 ∙ x.ring.1,
  );
  sent = ap (λ (letters : List Letter). letters ++ outbox_letters d) z.ring_given ∙ (ap (λ (letters : List Letter). ring_given c ++ letters) z.outbox
      ∙ (y.sent ∙ (ap (λ (letters : List Letter). letters ++ outbox_letters b) x.ring_given ∙ ap (λ (letters : List Letter). ring_given a ++ letters) x.outbox)));
  grew = (y.grew.0, ap (λ (letters : List Letter). letters ++ y.grew.0) (sym x.ring_given) ∙ (y.grew.1 ∙ sym z.ring_given));
}

pub out_met : (a b c d : Mail) (to : ℕ) → OutChanges LooksAgain a b to → OutChanges Flushes b c to → OutChanges LooksAgain c d to → OutChanges LaneGives a d to
out_met a b c d to x y z = record {
  me = z.me ∙ (y.me ∙ x.me);
  counts = (z.counts.0 ∙ (y.counts.0 ∙ x.counts.0), z.counts.1 ∙ (y.counts.1 ∙ x.counts.1));
  ins = λ node. z.ins node ∙ (y.ins node ∙ x.ins node);
  lane = gives (out_at a to) (out_at b to) (out_at c to) (out_at d to) x.lane y.lane z.lane;
  others = λ node apart. z.others node apart ∙ (y.others node apart ∙ x.others node apart);
}

sees_join : (i j k : Option InLane) → Both Sees i j → Both Sees j k → Both Sees i k
sees_join None j k x y = absurd x
sees_join (Some i) None k x y = absurd x
sees_join (Some i) (Some j) None x y = absurd y
sees_join (Some i) (Some j) (Some k) x y = record {
  ring = ((y.ring.0.0 ∙ x.ring.0.0, y.ring.0.1 ∙ x.ring.0.1, y.ring.0.2 ∙ x.ring.0.2, y.ring.0.3 ∙ x.ring.0.3), y.ring.1 ∙ x.ring.1);
  taken = y.taken ∙ x.taken;
  learnt = (
    x.learnt.0 ++ y.learnt.0,
    sym (append_assoc (known i) x.learnt.0 y.learnt.0)
        ∙ (ap (λ (letters : List Letter). letters ++ y.learnt.0) x.learnt.1 ∙ y.learnt.1),
  );
}

pub in_met : (a b c : Mail) (from : ℕ) → InChanges Sees a b from → InChanges Sees b c from → InChanges Sees a c from
in_met a b c from x y = record {
  me = y.me ∙ x.me;
  counts = (y.counts.0 ∙ x.counts.0, y.counts.1 ∙ x.counts.1);
  outs = λ node. y.outs node ∙ x.outs node;
  lane = sees_join (in_at a from) (in_at b from) (in_at c from) x.lane y.lane;
  others = λ node apart. y.others node apart ∙ x.others node apart;
}

-- the taking end knows all letters in the ring, and has one where the outbox does
pub both_met : (b c d : Option OutLane) (i j : Option InLane) → Both KnowsPlaces b i → Both Flushes b c → Both LooksAgain c d → Both Sees i j
    → Both KnowsLetters d j → Both IsMet d j
both_met b c None i j p f l s k = absurd k
both_met b c (Some d) i None p f l s k = absurd k
both_met b None (Some d) i (Some j) p f l s k = absurd l
both_met None (Some c) (Some d) i (Some j) p f l s k = absurd f
both_met (Some b) (Some c) (Some d) None (Some j) p f l s k = absurd s
both_met (Some b) (Some c) (Some d) (Some i) (Some j) p f l s k = record {
  whole = k;
  moves = by_stop f.stops;
  stops = by_places f.stops;
  first = λ few. l.outbox ∙ f.first (omega (arith, few, l.ring.1, ap (λ (letters : List Letter). length letters) l.ring_given));
}
  where
    by_places : (outbox_letters c ≡ []) ⊎ (known_free c.end.ring ≡ 0) → (outbox_letters d ≡ []) ⊎ (producer_capacity d.end.ring ≤ length (known j))
    by_places (inl none) = inl (l.outbox ∙ none)
    by_places (inr full) = inr (omega (
      arith,
      full,
      f.places,
      f.ring.1,
      l.ring.1,
      p.1,
      length-append (taken j) (known j),
      ap (λ (letters : List Letter). length letters) k,
      ap (λ (letters : List Letter). length letters) l.ring_given,
      ap (λ (letters : List Letter). length letters) s.taken,
    ))

    by_stop : (outbox_letters c ≡ []) ⊎ (known_free c.end.ring ≡ 0) → (outbox_letters d ≡ []) ⊎ (0 < length (known j))
    by_stop (inl none) = inl (l.outbox ∙ none)
    by_stop (inr full) = inr (omega (
      arith,
      full,
      f.places,
      p.0,
      p.1,
      length-append (taken j) (known j),
      ap (λ (letters : List Letter). length letters) k,
      ap (λ (letters : List Letter). length letters) l.ring_given,
      ap (λ (letters : List Letter). length letters) s.taken,
    ))

-- all that was done to the two mails
pub all_met : (out mid last end into seen knowing : Mail) (to from : ℕ) → OutChanges LooksAgain out mid to → InChanges Sees into seen from
    → Both KnowsPlaces (out_at mid to) (in_at seen from) → OutChanges Flushes mid last to
    → OutChanges LooksAgain last end to → InChanges Sees seen knowing from → Both KnowsLetters (out_at end to) (in_at knowing from)
    → Both IsMet (out_at end to) (in_at knowing from) × OutChanges LaneGives out end to × InChanges Sees into knowing from
all_met out mid last end into seen knowing to from looks sees places flushes late more letters = (
  both_met (out_at mid to) (out_at last to) (out_at end to) (in_at seen from) (in_at knowing from) places flushes.lane late.lane more.lane letters,
  out_met out mid last end to looks flushes late,
  in_met into seen knowing from sees more,
)
