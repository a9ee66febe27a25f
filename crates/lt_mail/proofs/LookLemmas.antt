-- What a change of one lane says of the letters that it has.
use Rattle.std.proofs.Common.{◌≡◌, ◌<◌, ℕ, inl, inr, List, [], ◌∷◌, Option, Some, None, Bool, true, false, refl, sym, ap, subst, ◌∙◌, ◌≤◌, arith, ◌≢◌, ◌+◌, ◌++◌, append-nil, append_assoc, ◌⊎◌, length, MatchBool, slice_get}
use Rattle.std.proofs.lemmas.List.{map-append, length-map}
use Rattle.std.proofs.lemmas.Bool.{cases_eq}
use Rattle.std.proofs.lemmas.Option.{slice_get_cases}
use mathlib.Core.List.{IsPrefix}
use Rattle.rtrb.specs.Ring.{known_free}
use Rattle.lt_desk.specs.declared.letter.Letter.{Letter}
use Rattle.lt_desk.specs.LetterSeen.{letter_seen}
use Rattle.lt_desk.specs.declared.letter.Post.{Post}
use Rattle.lt_mail.specs.declared.lane.InLane.{InLane}
use Rattle.lt_mail.specs.declared.mail.Mail.{Mail}
use Rattle.lt_mail.specs.Words.{OutLane, ring_given, outbox_letters, known, seen, out_at, in_at, on_out, on_in, given_to, waiting_to, known_from, IsFullTo, Both, LaneGives, Sees, sent_by, letters_to, lane_of, IsOpenLink, AreLinked, HasRoomFor, Alike, SameOut, SameIn, SameEnds, taken, ins_count}
use Rattle.lt_mail.specs.Passing.{OutChanges, InChanges, Flushes, Takes, Saw, KeepsSent, LooksAt, LooksAtSome, SawNone, Looked}
use Rattle.lt_mail.specs.declared.lane.OutEnd.{OutEnd}

pub prefix_seen : (xs ys : List Letter) → IsPrefix xs ys → IsPrefix (seen xs) (seen ys)
prefix_seen xs ys h = (seen h.0, sym (map-append letter_seen xs h.0) ∙ ap seen h.1)

pub flushes_given : (a b : Mail) (to : ℕ) → OutChanges Flushes a b to → IsPrefix (given_to a to) (given_to b to)
flushes_given a b to h = here (out_at a to) (out_at b to) h.lane
  where
    here : (x y : Option OutLane) → Both Flushes x y → IsPrefix (on_out ring_given x) (on_out ring_given y)
    here None y q = absurd q
    here (Some x) None q = absurd q
    here (Some x) (Some y) q = prefix_seen (ring_given x) (ring_given y) q.grew

pub flushes_stop : (a b : Mail) (to : ℕ) → OutChanges Flushes a b to → (waiting_to b to ≡ []) ⊎ IsFullTo b to
flushes_stop a b to h = here (out_at a to) (out_at b to) refl h.lane
  where
    full : (y : OutLane) → out_at b to ≡ Some y → (outbox_letters y ≡ []) ⊎ (known_free y.end.ring ≡ 0) → (seen (outbox_letters y) ≡ []) ⊎ IsFullTo b to
    full y now (inl e) = inl (ap seen e)
    full y now (inr none) = inr (y, now, none)

    here : (x y : Option OutLane) → out_at b to ≡ y → Both Flushes x y → (on_out outbox_letters y ≡ []) ⊎ IsFullTo b to
    here None y now q = absurd q
    here (Some x) None now q = absurd q
    here (Some x) (Some y) now q = full y now q.stops

pub takes_known : (letter : Letter) (a b : Mail) (from : ℕ) → InChanges (Takes letter) a b from → IsPrefix (known_from a from) (letter_seen letter ∷ known_from b from)
takes_known letter a b from h = here (in_at a from) (in_at b from) h.lane
  where
    here : (x y : Option InLane) → Both (Takes letter) x y → IsPrefix (on_in known x) (letter_seen letter ∷ on_in known y)
    here None y q = absurd q
    here (Some x) None q = absurd q
    here (Some x) (Some y) q = prefix_seen (known x) (letter ∷ known y) q.next

pub gives_given : (a b : Mail) (to : ℕ) → OutChanges LaneGives a b to → IsPrefix (given_to a to) (given_to b to)
gives_given a b to h = here (out_at a to) (out_at b to) h.lane
  where
    here : (x y : Option OutLane) → Both LaneGives x y → IsPrefix (on_out ring_given x) (on_out ring_given y)
    here None y q = absurd q
    here (Some x) None q = absurd q
    here (Some x) (Some y) q = prefix_seen (ring_given x) (ring_given y) q.grew

pub sees_known : (a b : Mail) (from : ℕ) → InChanges Sees a b from → IsPrefix (known_from a from) (known_from b from)
sees_known a b from h = here (in_at a from) (in_at b from) h.lane
  where
    here : (x y : Option InLane) → Both Sees x y → IsPrefix (on_in known x) (on_in known y)
    here None y q = absurd q
    here (Some x) None q = absurd q
    here (Some x) (Some y) q = prefix_seen (known x) (known y) q.learnt

pub saw_letter : (b : Mail) (from : ℕ) (answer : Bool) → Saw answer (in_at b from)
    → MatchBool answer (0 < length (known_from b from)) (known_from b from ≡ [])
saw_letter b from answer h = here (in_at b from) answer h
  where
    here : (y : Option InLane) (answer : Bool) → Saw answer y → MatchBool answer (0 < length (on_in known y)) (on_in known y ≡ [])
    here None answer q = absurd q
    here (Some y) true q = subst (λ (n : ℕ). 0 < n) (sym (length-map (known y) letter_seen)) q
    here (Some y) false q = ap seen q

-- Mails one after the other: the same ends and the same letters.

alike_out : (a b c : Option OutLane) → Alike SameOut a b → Alike SameOut b c → Alike SameOut a c
alike_out None None None h k = tt
alike_out None None (Some z) h k = k
alike_out None (Some y) c h k = absurd h
alike_out (Some x) None c h k = absurd h
alike_out (Some x) (Some y) None h k = k
alike_out (Some x) (Some y) (Some z) h k =
    ((k.0.0 ∙ h.0.0, k.0.1 ∙ h.0.1, k.0.2 ∙ h.0.2, k.0.3 ∙ h.0.3), k.1 ∙ h.1)

alike_in : (a b c : Option InLane) → Alike SameIn a b → Alike SameIn b c → Alike SameIn a c
alike_in None None None h k = tt
alike_in None None (Some z) h k = k
alike_in None (Some y) c h k = absurd h
alike_in (Some x) None c h k = absurd h
alike_in (Some x) (Some y) None h k = k
alike_in (Some x) (Some y) (Some z) h k =
    ((k.0.0 ∙ h.0.0, k.0.1 ∙ h.0.1, k.0.2 ∙ h.0.2, k.0.3 ∙ h.0.3), k.1 ∙ h.1)

pub ends_join : (a b c : Mail) → SameEnds a b → SameEnds b c → SameEnds a c
ends_join a b c h k = record {
  me = k.me ∙ h.me;
  counts = (k.counts.0 ∙ h.counts.0, k.counts.1 ∙ h.counts.1);
  outs = λ node. alike_out (out_at a node) (out_at b node) (out_at c node) (h.outs node) (k.outs node);
  ins = λ node. alike_in (in_at a node) (in_at b node) (in_at c node) (h.ins node) (k.ins node);
}

pub kept_join : (a b c : Mail) → KeepsSent a b → KeepsSent b c → KeepsSent a c
kept_join a b c h k = record {
  sent = λ node. k.sent node ∙ h.sent node;
  ins = λ node. k.ins node ∙ h.ins node;
  ends = ends_join a b c h.ends k.ends;
}

-- ends that are linked stay so
pub links_last : (a b x y : Mail) → SameEnds a b → SameEnds x y → AreLinked a x → AreLinked b y
links_last a b x y h k l =
    rw h.me (rw k.me (linked (out_at a x.me) (in_at x a.me) (out_at b x.me) (in_at y a.me) (h.outs x.me) (k.ins a.me) l))
  where
    linked : (o : Option OutLane) (i : Option InLane) (p : Option OutLane) (j : Option InLane) → Alike SameOut o p → Alike SameIn i j
        → Both IsOpenLink o i → Both IsOpenLink p j
    linked None i p j u v e = absurd e
    linked (Some o) None p j u v e = absurd e
    linked (Some o) (Some i) None j u v e = absurd u
    linked (Some o) (Some i) (Some p) None u v e = absurd v
    linked (Some o) (Some i) (Some p) (Some j) u v e =
        ((v.0.0 ∙ e.0.0 ∙ sym u.0.0, v.0.1 ∙ e.0.1 ∙ sym u.0.1, v.0.2 ∙ e.0.2 ∙ sym u.0.2, v.0.3 ∙ e.0.3 ∙ sym u.0.3), subst (λ (n : ℕ). 0 < n) (sym u.1) e.1)

pub same_ends_out : (o : Option OutLane) → Alike SameOut o o
same_ends_out None = tt
same_ends_out (Some lane) = ((refl, refl, refl, refl), refl)

pub same_ends_in : (o : Option InLane) → Alike SameIn o o
same_ends_in None = tt
same_ends_in (Some lane) = ((refl, refl, refl, refl), refl)

pub ends_same : (m : Mail) → SameEnds m m
ends_same m = record { me = refl; counts = (refl, refl); outs = λ node. same_ends_out (out_at m node); ins = λ node. same_ends_in (in_at m node) }

-- with room for more letters there is room for fewer
pub fewer_letters : (m : Mail) (more fewer : ℕ) → fewer ≤ more → HasRoomFor m more → HasRoomFor m fewer
fewer_letters m more fewer less h = omega (arith, h, less)

-- the mail with the same ends and the same letters that wait
pub same_mail : (a b : Mail) → b.me ≡ a.me → b.outs.items ≡ a.outs.items → b.ins ≡ a.ins → b.waiting.items ≡ a.waiting.items
    → KeepsSent a b × ((node : ℕ) → given_to b node ≡ given_to a node) × ((node : ℕ) → out_at b node ≡ out_at a node)
same_mail a b me outs ins waiting = (
  record {
    sent = λ node. ap (on_out sent_by) (same_out node);
    ins = same_in;
    ends = record {
      me = me;
      counts = (ap (λ (ends : List OutEnd). length ends) outs, ap (λ (lanes : List InLane). length lanes) ins);
      outs = λ node. subst (λ (o : Option OutLane). Alike SameOut (out_at a node) o) (sym (same_out node)) (same_ends_out (out_at a node));
      ins = λ node. subst (λ (o : Option InLane). Alike SameIn (in_at a node) o) (sym (same_in node)) (same_ends_in (in_at a node));
    };
  },
  λ node. ap (on_out ring_given) (same_out node),
  same_out,
)
  where
    same_out : (node : ℕ) → out_at b node ≡ out_at a node
    same_out node =
        ap (λ (o : Option OutEnd). lane_of (letters_to node b.waiting.items) o) (ap (λ (ends : List OutEnd). slice_get ends node) outs)
        ∙ ap (λ (posts : List Post). lane_of (letters_to node posts) (slice_get a.outs.items node)) waiting

    same_in : (node : ℕ) → in_at b node ≡ in_at a node
    same_in node = ap (λ (lanes : List InLane). slice_get lanes node) ins

-- Rings that are looked at one after the other.

prefix_self : (xs : List Letter) → IsPrefix xs xs
prefix_self xs = ([], append-nil xs)

prefix_join : (xs ys zs : List Letter) → IsPrefix xs ys → IsPrefix ys zs → IsPrefix xs zs
prefix_join xs ys zs h k = (h.0 ++ k.0, sym (append_assoc xs h.0 k.0) ∙ (ap (λ (l : List Letter). l ++ k.0) h.1 ∙ k.1))

sees_self : (o : Option InLane) → Alike Sees o o
sees_self None = tt
sees_self (Some x) = record { ring = ((refl, refl, refl, refl), refl); taken = refl; learnt = prefix_self (known x) }

sees_join : (a b c : Option InLane) → Alike Sees a b → Alike Sees b c → Alike Sees a c
sees_join None None None h k = tt
sees_join None None (Some z) h k = k
sees_join None (Some y) c h k = absurd h
sees_join (Some x) None c h k = absurd h
sees_join (Some x) (Some y) None h k = k
sees_join (Some x) (Some y) (Some z) h k = record {
  ring = ((k.ring.0.0 ∙ h.ring.0.0, k.ring.0.1 ∙ h.ring.0.1, k.ring.0.2 ∙ h.ring.0.2, k.ring.0.3 ∙ h.ring.0.3), k.ring.1 ∙ h.ring.1);
  taken = k.taken ∙ h.taken;
  learnt = prefix_join (known x) (known y) (known z) h.learnt k.learnt;
}

sees_alike : (a b : Option InLane) → Both Sees a b → Alike Sees a b
sees_alike None b h = absurd h
sees_alike (Some x) None h = absurd h
sees_alike (Some x) (Some y) h = h

-- no ring was looked at
pub look_starts : (xs : List InLane) → LooksAtSome xs xs
look_starts xs = record { count = refl; lanes = λ node. sees_self (slice_get xs node) }

pub none_starts : (me : ℕ) (xs : List InLane) → SawNone 0 me xs
none_starts me xs node below apart = absurd (omega (arith, below))

-- one more was
pub look_joins : (xs ys zs : List InLane) (from : ℕ) → LooksAtSome xs ys → LooksAt ys zs from → LooksAtSome xs zs
look_joins xs ys zs from h k = record {
  count = k.count ∙ h.count;
  lanes = λ node. sees_join (slice_get xs node) (slice_get ys node) (slice_get zs node) (h.lanes node) (step node);
}
  where
    step : (node : ℕ) → Alike Sees (slice_get ys node) (slice_get zs node)
    step node = elim (cases_eq node from) [
      | inl here ↦ subst (λ (n : ℕ). Alike Sees (slice_get ys n) (slice_get zs n)) (sym here) (sees_alike (slice_get ys from) (slice_get zs from) k.here)
      | inr apart ↦ subst (λ (o : Option InLane). Alike Sees (slice_get ys node) o) (sym (k.others node apart)) (sees_self (slice_get ys node))
    ]

-- some rings were looked at, and then some
pub looks_join : (xs ys zs : List InLane) → LooksAtSome xs ys → LooksAtSome ys zs → LooksAtSome xs zs
looks_join xs ys zs h k = record {
  count = k.count ∙ h.count;
  lanes = λ node. sees_join (slice_get xs node) (slice_get ys node) (slice_get zs node) (h.lanes node) (k.lanes node);
}

-- the rings before it stay as they were seen
pub none_stays : (from me : ℕ) (ys zs : List InLane) → LooksAt ys zs from → SawNone from me ys → SawNone from me zs
none_stays from me ys zs k h node below apart =
    subst (λ (o : Option InLane). Saw false o) (sym (k.others node (λ e. omega (arith, below, e)))) (h node below apart)

-- it is the node's own
pub none_skips : (from me : ℕ) (ys zs : List InLane) → from ≡ me → LooksAt ys zs from → SawNone from me ys → SawNone (from + 1) me zs
none_skips from me ys zs own k h node below apart =
    subst (λ (o : Option InLane). Saw false o) (sym (k.others node (λ e. apart (e ∙ own)))) (h node (omega (arith, below, own, apart)) apart)

-- or there is no letter in it
pub none_goes_on : (from me : ℕ) (ys zs : List InLane) → Saw false (slice_get zs from) → LooksAt ys zs from → SawNone from me ys → SawNone (from + 1) me zs
none_goes_on from me ys zs none k h node below apart = elim (cases_eq node from) [
  | inl here ↦ subst (λ (n : ℕ). Saw false (slice_get zs n)) (sym here) none
  | inr other ↦ subst (λ (o : Option InLane). Saw false o) (sym (k.others node other)) (h node (omega (arith, below, other)) apart)
]

-- what that means for a mail
pub all_looked : (a b : Mail) → b.me ≡ a.me → b.outs.items ≡ a.outs.items → b.waiting.items ≡ a.waiting.items → LooksAtSome a.ins b.ins → Looked a b
all_looked a b me outs waiting h = record {
  ends = record {
    me = me;
    counts = (ap (λ (ends : List OutEnd). length ends) outs, h.count);
    outs = λ node. subst (λ (o : Option OutLane). Alike SameOut (out_at a node) o) (sym (same_out node)) (same_ends_out (out_at a node));
    ins = λ node. same_in (in_at a node) (in_at b node) (h.lanes node);
  };
  outs = same_out;
  taken = λ node. same_taken (in_at a node) (in_at b node) (h.lanes node);
  known = λ node. more_known (in_at a node) (in_at b node) (h.lanes node);
}
  where
    same_out : (node : ℕ) → out_at b node ≡ out_at a node
    same_out node =
        ap (λ (o : Option OutEnd). lane_of (letters_to node b.waiting.items) o) (ap (λ (ends : List OutEnd). slice_get ends node) outs)
        ∙ ap (λ (posts : List Post). lane_of (letters_to node posts) (slice_get a.outs.items node)) waiting

    same_in : (x y : Option InLane) → Alike Sees x y → Alike SameIn x y
    same_in None None p = tt
    same_in None (Some y) p = p
    same_in (Some x) None p = p
    same_in (Some x) (Some y) p = p.ring

    same_taken : (x y : Option InLane) → Alike Sees x y → on_in taken y ≡ on_in taken x
    same_taken None None p = refl
    same_taken None (Some y) p = absurd p
    same_taken (Some x) None p = absurd p
    same_taken (Some x) (Some y) p = ap seen p.taken

    more_known : (x y : Option InLane) → Alike Sees x y → IsPrefix (on_in known x) (on_in known y)
    more_known None None p = ([], refl)
    more_known None (Some y) p = absurd p
    more_known (Some x) None p = absurd p
    more_known (Some x) (Some y) p = prefix_seen (known x) (known y) p.learnt

-- no letter of the first of the other nodes is known
pub none_before : (first : ℕ) (b : Mail) → SawNone first b.me b.ins → (node : ℕ) → node < first → node ≢ b.me → known_from b node ≡ []
none_before first b h node below apart = told (in_at b node) (h node below apart)
  where
    told : (y : Option InLane) → Saw false y → on_in known y ≡ []
    told None q = absurd q
    told (Some y) q = ap seen q

-- no letter of another node is known
pub none_known : (b : Mail) → SawNone (ins_count b) b.me b.ins → (node : ℕ) → node ≢ b.me → known_from b node ≡ []
none_known b h node apart = elim (slice_get_cases b.ins node).1 [
  | inl there ↦ none_before (ins_count b) b h node there.1 apart
  | inr past ↦ ap (on_in known) past.1
]
