-- Runners that look at the rings between them.
use Rattle.std.proofs.Common.{◌≡◌, ◌<◌, ℕ, inl, inr, List, ◌++◌, Option, None, refl, sym, ap, subst, ◌∙◌, Some, ◌≢◌, [], append_assoc, append-nil, slice_index_or, remove, length}
use Rattle.std.proofs.lemmas.Option.{slice_get_cases}
use Rattle.lt_modes.specs.State.{Letter}
use Rattle.lt_modes.specs.Script.{ScriptData}
use Rattle.lt_modes.specs.State as rules
use Rattle.lt_mail.specs.declared.mail.Mail.{Mail}
use Rattle.lt_mail.specs.Words.{sent_to, sent_by, known, out_at, in_at, on_out, on_in, taken_from, known_from, Both, IsOpenLink, AreLinked, OutLane, Alike, SameOut, ins_count, SameEnds}
use Rattle.lt_mail.proofs.LookLemmas.{ends_same, ends_join}
use Rattle.lt_mail.specs.declared.lane.InLane.{InLane}
use Rattle.lt_mail.specs.Opening.{IsFresh, Opened}
use Rattle.lt_mail.proofs.FlushLemmas.{both_linked}
use Rattle.lt_runner.specs.declared.parts.Hand.{Hand}
use Rattle.lt_runner.specs.declared.parts.Parts.{Parts}
use Rattle.lt_runner.specs.Kept.{AsSeen, in_hand, IsFromPeer, HandStays, RunnerInvariant, AreBeside, Knows, NoneKnown, Fetches, HasFetched, Grew}
use Rattle.lt_runner.specs.Ready.{StartsWith}
use Rattle.lt_runner.specs.Polled.{Polled, Finds}
use Rattle.lt_runner.proofs.KeptLemmas.{kept_still, holds_same}

-- what node p knows after the look is what the runner then has
abbrev pub KnowsOf : Parts → Mail → Option Hand → Type 0
KnowsOf a m hand = Knows a.node.script.nodes a.mail.me a.node.script.nodes a.mail m hand

-- no letter is known, and the hand stays empty
pub knows_nothing : (nodes me : ℕ) (m : Mail) (hand : Option Hand) → hand ≡ None → NoneKnown nodes me m → Knows nodes me nodes m m hand
knows_nothing nodes me m hand e h = subst (λ (o : Option Hand). Knows nodes me nodes m m o) (sym e) (record {
  ends = ends_same m;
  outs = λ node. refl;
  taken = λ node. sym (append-nil (taken_from m node));
  known = λ node. refl;
  from = tt;
  none = λ none. h;
})

pub fetched : (a b : Parts) (m : Mail) (hand : Option Hand) → a.hand ≡ None → KnowsOf a m hand → b ≡ record a { mail = m; hand = hand } → Fetches a b
fetched a b m hand empty k e = subst (λ (p : Parts). Fetches a p) (sym e) (record {
  seen = record {
    same = record { script = refl; me = refl; limit = refl; gone = refl; commands_gone = refl; ends = k.ends };
    state = refl;
    log = refl;
    sent = λ node. ap (on_out sent_by) (k.outs node);
    used = λ node letters h.
        k.taken node ∙ ap (λ (all : List Letter). all ++ in_hand node hand) (h ∙ ap (λ (o : Option Hand). letters ++ in_hand node o) empty ∙ append-nil letters);
    hand = subst (λ (o : Option Hand). HandStays o hand) (sym empty) tt;
  };
  outs = k.outs;
  whole = λ node.
      ap (λ (all : List Letter). all ++ known_from m node) (k.taken node)
      ∙ append_assoc (taken_from a.mail node) (in_hand node hand) (known_from m node)
      ∙ ap (λ (all : List Letter). taken_from a.mail node ++ all) (sym (k.known node));
  none = λ none node. sym (k.known node ∙ ap (λ (o : Option Hand). in_hand node o ++ known_from m node) none);
})

-- the runner is one still
pub fetched_kept : (a : Parts) (m : Mail) (hand : Option Hand) → RunnerInvariant a → a.hand ≡ None → KnowsOf a m hand
    → RunnerInvariant (record a { mail = m; hand = hand })
fetched_kept a m hand kept empty k =
    kept_still a (record a { mail = m; hand = hand }) kept (fetched a (record a { mail = m; hand = hand }) m hand empty k refl).seen
    (subst (λ (me : ℕ). IsFromPeer a.node.script.nodes me hand) kept.me k.from) kept.posts kept.events refl

-- nothing was looked for
pub fetches_nothing : (p : Parts) → Fetches p p
fetches_nothing p = record {
  seen = record {
    same = record { script = refl; me = refl; limit = refl; gone = refl; commands_gone = refl; ends = ends_same p.mail };
    state = refl;
    log = refl;
    sent = λ node. refl;
    used = λ node letters e. e;
    hand = holds_same p.hand;
  };
  outs = λ node. refl;
  whole = λ node. refl;
  none = λ none node. refl;
}

pub has_fetched : (a b : Parts) (m : Mail) (hand : Option Hand) → RunnerInvariant a → KnowsOf a m hand → b ≡ record a { mail = m; hand = hand } → HasFetched b
has_fetched a b m hand kept k e =
    subst (λ (p : Parts). HasFetched p) (sym e) (λ none node other. elim (slice_get_cases m.ins node).1 [
      | inl there ↦ k.none none node
          (subst (λ (n : ℕ). node < n) (k.ends.counts.1 ∙ kept.ins) there.1)
          (λ same. absurd (other (same ∙ kept.me)))
      | inr past ↦ ap (on_in known) past.1
    ])

-- a runner whose mail sent and took the same is one still
pub kept_met : (a : Parts) (m : Mail) → RunnerInvariant a → SameEnds a.mail m → ((node : ℕ) → sent_to m node ≡ sent_to a.mail node)
    → ((node : ℕ) → taken_from m node ≡ taken_from a.mail node) → RunnerInvariant (record a { mail = m })
kept_met a m kept ends sent taken = kept_still a (record a { mail = m }) kept seen kept.hand kept.posts kept.events refl
  where
    seen : AsSeen a (record a { mail = m })
    seen = record {
      same = record { script = refl; me = refl; limit = refl; gone = refl; commands_gone = refl; ends = ends };
      state = refl;
      log = refl;
      sent = sent;
      used = λ node letters e. taken node ∙ e;
      hand = holds_same a.hand;
    }

pub linked : (x y : Parts) → RunnerInvariant x → RunnerInvariant y → AreBeside x y → AreLinked x.mail y.mail
linked x y k l h = subst (λ (m : ℕ). Both IsOpenLink (out_at x.mail m) (in_at y.mail x.mail.me)) (sym l.me)
    (subst (λ (m : ℕ). Both IsOpenLink (out_at x.mail y.node.me) (in_at y.mail m)) (sym k.me) h)

-- The runners of nodes 0 and 1.

pub two_beside : (nodes capacity limit : ℕ) (script : ScriptData) (ms rest : List Mail) (x y : Mail) (p q : Parts) → Opened nodes capacity ms → 1 < nodes
    → x ≡ slice_index_or ms 0 x → rest ≡ remove ms 0 → y ≡ slice_index_or rest 0 y → StartsWith script 0 x limit p → StartsWith script 1 y limit q
    → IsFresh nodes 0 x → IsFresh nodes 1 y → AreBeside q p
two_beside nodes capacity limit script ms rest x y p q opened two ex r ey first second fresh also =
    subst (λ (k : ℕ). Both IsOpenLink (out_at q.mail k) (in_at p.mail q.node.me)) (sym first.me)
    (subst (λ (k : ℕ). Both IsOpenLink (out_at q.mail 0) (in_at p.mail k)) (sym second.me)
    (subst (λ (m : Mail). Both IsOpenLink (out_at m 0) (in_at p.mail 1)) (sym second.mail_is)
    (subst (λ (m : Mail). Both IsOpenLink (out_at y 0) (in_at m 1)) (sym first.mail_is)
    (subst (λ (k : ℕ). Both IsOpenLink (out_at y k) (in_at x 1)) fresh.me
    (subst (λ (k : ℕ). Both IsOpenLink (out_at y x.me) (in_at x k)) also.me (both_linked nodes capacity ms rest x y opened two ex r ey).1)))))

still_open : (o u : Option OutLane) (i : Option InLane) → Alike SameOut o u → Both IsOpenLink o i → Both IsOpenLink u i
still_open None u i same link = absurd link
still_open (Some o) u None same link = absurd link
still_open (Some o) None (Some i) same link = absurd same
still_open (Some o) (Some u) (Some i) same link =
    ((link.0.0 ∙ sym same.0.0, link.0.1 ∙ sym same.0.1, link.0.2 ∙ sym same.0.2, link.0.3 ∙ sym same.0.3), subst (λ (n : ℕ). 0 < n) (sym same.1) link.1)

-- a runner that has moved stands beside the other still
pub beside_later : (x u y : Parts) → Grew x u → AreBeside x y → AreBeside u y
beside_later x u y grew link = subst (λ (k : ℕ). Both IsOpenLink (out_at u.mail y.node.me) (in_at y.mail k)) (sym grew.same.me)
    (still_open (out_at x.mail y.node.me) (out_at u.mail y.node.me) (in_at y.mail x.node.me) (grew.same.ends.outs y.node.me) link)

-- The rings that are polled one after the other.

-- no ring has a letter
pub poll_none : (nodes me : ℕ) (a b : Mail) → a.me ≡ me → SameEnds a b → ((node : ℕ) → out_at b node ≡ out_at a node)
    → ((node : ℕ) → taken_from b node ≡ taken_from a node) → ((node : ℕ) → node ≢ b.me → known_from b node ≡ [])
    → Polled nodes me nodes a b None
poll_none nodes me a b own ends outs taken empty = record {
  ends = ends;
  outs = outs;
  taken = λ node. taken node ∙ sym (append-nil (taken_from a node));
  from = tt;
  none = λ e node below apart. empty node (λ same. apart (same ∙ (ends.me ∙ own)));
}

-- one has a letter
pub poll_finds : (nodes me from : ℕ) (a b : Mail) → a.me ≡ me → ins_count a ≡ nodes → SameEnds a b → ((node : ℕ) → out_at b node ≡ out_at a node)
    → ((node : ℕ) → taken_from b node ≡ taken_from a node) → (from < ins_count b) × (from ≢ b.me) × (0 < length (known_from b from))
    → Finds nodes me a b from
poll_finds nodes me from a b own count ends outs taken found = record {
  ends = ends;
  outs = outs;
  taken = taken;
  below = subst (λ (n : ℕ). from < n) (ends.counts.1 ∙ count) found.0;
  apart = λ same. found.1 (same ∙ sym (ends.me ∙ own));
  known = found.2;
}

-- that letter was taken
pub poll_ends : (nodes me from : ℕ) (a b c : Mail) (hand : Option Hand) → Finds nodes me a b from → Knows nodes me nodes b c hand
    → Polled nodes me nodes a c hand
poll_ends nodes me from a b c hand h k = record {
  ends = ends_join a b c h.ends k.ends;
  outs = λ node. k.outs node ∙ h.outs node;
  taken = λ node. k.taken node ∙ ap (λ (letters : List rules.Letter). letters ++ in_hand node hand) (h.taken node);
  from = k.from;
  none = k.none;
}

-- no ring had a letter, and the hand stays empty
pub poll_empty : (nodes me : ℕ) (a b : Mail) (hand : Option Hand) → hand ≡ None → Polled nodes me nodes a b None → Polled nodes me nodes a b hand
poll_empty nodes me a b hand e h = subst (λ (o : Option Hand). Polled nodes me nodes a b o) (sym e) h
