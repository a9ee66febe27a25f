-- The first two of the mails that were opened.
use Rattle.std.proofs.Common.{◌≡◌, ℕ, ◌<◌, List, [], ◌∷◌, Some, length, sym, ap, arith, ◌∙◌, refl, Bool, true, false, inl, inr, ◌++◌, Option, None, subst, append_assoc, append-nil, ◌≤◌, slice_get, slice_index_or, remove, ◌⊎◌, replicate, eq-eqb, ne_eqb}
use Rattle.std.proofs.lemmas.Option.{slice_get_cases, slice_get_within}
use mathlib.Core.List.{IsPrefix}
use Rattle.rtrb.specs.Ring.{known_free, sent, producer_capacity}
use Rattle.lt_desk.specs.declared.letter.Letter.{Letter}
use Rattle.lt_desk.specs.declared.letter.Post.{Post}
use Rattle.lt_mail.specs.declared.mail.Mail.{Mail}
use Rattle.lt_mail.specs.Words.{AreLinked, OutLane, letters_to, lane_of, sent_by, outbox_letters, seen, Alike, Both, SameOut, SameIn, out_at, in_at, outs_count, on_out, given_to, places_to, waiting_to, IsFullTo, lane_in, taken, known, end_at, on_in, ins_count, IsOpenLink}
use Rattle.lt_mail.specs.Opening.{IsFresh, Opened, Opening}
use Rattle.lt_mail.specs.declared.lane.OutEnd.{OutEnd}
use Rattle.lt_mail.specs.declared.lane.InLane.{InLane}
use Rattle.lt_mail.specs.Passing.{OutChanges, KeepsSent, Puts, Flushes, is_tried, Passes, Passed, is_held, LaneGoes, LaneAt, Passing}
use Rattle.lt_mail.proofs.LookLemmas.{same_ends_in}
use Rattle.lt_mail.proofs.RingLemmas.{passed_given, passed_first}
use Rattle.lt_mail.proofs.PassLemmas.{last_here, last_other, first_passed}
use Rattle.lt_mail.proofs.OpeningLemmas.{some_same, none_is_some}

at_first : (ms : List Mail) (x : Mail) → 0 < length ms → x ≡ slice_index_or ms 0 x → slice_get ms 0 ≡ Some x
at_first [] x some e = absurd (omega (arith, some))
at_first (m ∷ ms) x some e = ap Some (sym e)

at_second : (ms rest : List Mail) (y : Mail) → 1 < length ms → rest ≡ remove ms 0 → y ≡ slice_index_or rest 0 y → slice_get ms 1 ≡ Some y
at_second [] rest y two r e = absurd (omega (arith, two))
at_second (m ∷ []) rest y two r e = absurd (omega (arith, two))
at_second (m ∷ n ∷ ms) rest y two r e = ap Some (sym (e ∙ ap (λ (l : List Mail). slice_index_or l 0 y) r))

pub first_fresh : (nodes capacity : ℕ) (ms : List Mail) (x : Mail) → Opened nodes capacity ms → 0 < nodes → x ≡ slice_index_or ms 0 x
    → IsFresh nodes 0 x
first_fresh nodes capacity ms x opened some e = opened.fresh 0 x (at_first ms x (omega (arith, some, opened.count)) e)

pub second_fresh : (nodes capacity : ℕ) (ms rest : List Mail) (y : Mail) → Opened nodes capacity ms → 1 < nodes → rest ≡ remove ms 0
    → y ≡ slice_index_or rest 0 y → IsFresh nodes 1 y
second_fresh nodes capacity ms rest y opened two r e = opened.fresh 1 y (at_second ms rest y (omega (arith, two, opened.count)) r e)

pub both_linked : (nodes capacity : ℕ) (ms rest : List Mail) (x y : Mail) → Opened nodes capacity ms → 1 < nodes → x ≡ slice_index_or ms 0 x
    → rest ≡ remove ms 0 → y ≡ slice_index_or rest 0 y → AreLinked x y × AreLinked y x
both_linked nodes capacity ms rest x y opened two ex r ey =
    let one = at_first ms x (omega (arith, two, opened.count)) ex in
    let other = at_second ms rest y (omega (arith, two, opened.count)) r ey in
    (opened.links 0 1 x y one other, opened.links 1 0 y x other one)

-- Mails whose letters went into the rings.

lane_sent : (t : Bool) (x y : Option OutLane) → Alike (Passes t) x y → on_out sent_by y ≡ on_out sent_by x
lane_sent t None None h = refl
lane_sent t None (Some y) h = absurd h
lane_sent t (Some x) None h = absurd h
lane_sent true (Some x) (Some y) h = ap seen h.sent
lane_sent false (Some x) (Some y) h = ap (λ (lane : OutLane). seen (sent_by lane)) h

lane_same : (t : Bool) (x y : Option OutLane) → Alike (Passes t) x y → Alike SameOut x y
lane_same t None None h = tt
lane_same t None (Some y) h = h
lane_same t (Some x) None h = h
lane_same true (Some x) (Some y) h = h.ring
lane_same false (Some x) (Some y) h = subst (λ (lane : OutLane). SameOut x lane) (sym h) ((refl, refl, refl, refl), refl)

pub passed_kept : (only : Option ℕ) (a b : Mail) → b.me ≡ a.me → b.ins ≡ a.ins
    → Passed only a.outs.items a.waiting.items b.outs.items b.waiting.items → KeepsSent a b
passed_kept only a b me ins h = record {
  sent = λ node. lane_sent (is_tried only node) (out_at a node) (out_at b node) (h.lanes node);
  ins = same_in;
  ends = record {
    me = me;
    counts = (h.count, ap (λ (lanes : List InLane). length lanes) ins);
    outs = λ node. lane_same (is_tried only node) (out_at a node) (out_at b node) (h.lanes node);
    ins = λ node. subst (λ (o : Option InLane). Alike SameIn (in_at a node) o) (sym (same_in node)) (same_ends_in (in_at a node));
  };
}
  where
    same_in : (node : ℕ) → in_at b node ≡ in_at a node
    same_in node = ap (λ (lanes : List InLane). slice_get lanes node) ins

-- each outbox is empty or its ring is full
pub all_flushed : (a b : Mail) → Passed None a.outs.items a.waiting.items b.outs.items b.waiting.items
    → (node : ℕ) → (waiting_to b node ≡ []) ⊎ IsFullTo b node
all_flushed a b h node = by_lane (out_at a node) (out_at b node) refl (h.lanes node)
  where
    full : (y : OutLane) → out_at b node ≡ Some y → (outbox_letters y ≡ []) ⊎ (known_free y.end.ring ≡ 0) → (seen (outbox_letters y) ≡ []) ⊎ IsFullTo b node
    full y now (inl e) = inl (ap seen e)
    full y now (inr none) = inr (y, now, none)

    by_lane : (x y : Option OutLane) → out_at b node ≡ y → Alike (Passes true) x y → (on_out outbox_letters y ≡ []) ⊎ IsFullTo b node
    by_lane None None now p = inl refl
    by_lane None (Some y) now p = absurd p
    by_lane (Some x) None now p = absurd p
    by_lane (Some x) (Some y) now p = full y now p.stops

-- each ring was given more, and the first letters find their places
pub all_given : (a b : Mail) → Passed None a.outs.items a.waiting.items b.outs.items b.waiting.items
    → (node : ℕ) → IsPrefix (given_to a node) (given_to b node)
all_given a b h node = passed_given (out_at a node) (out_at b node) (h.lanes node)

pub all_first : (a b : Mail) → Passed None a.outs.items a.waiting.items b.outs.items b.waiting.items
    → (node : ℕ) → length (given_to b node) < places_to b node → waiting_to b node ≡ []
all_first a b h node = passed_first (out_at a node) (out_at b node) (h.lanes node)

both_there : (R : OutLane → OutLane → Type 0) (x y : Option OutLane) (lane : OutLane) → x ≡ Some lane → Alike R x y → Both R x y
both_there R None y lane there h = absurd (cc)
both_there R (Some x) None lane there h = h
both_there R (Some x) (Some y) lane there h = h

end_there : (a : Mail) (to : ℕ) → to < outs_count a → (end : OutEnd) × (slice_get a.outs.items to ≡ Some end)
end_there a to below = elim (slice_get_cases a.outs.items to).1 [
  | inl there ↦ (there.0, there.2)
  | inr past ↦ absurd (omega (arith, past.0, below))
]

lane_there : (a : Mail) (to : ℕ) → to < outs_count a → (lane : OutLane) × (out_at a to ≡ Some lane)
lane_there a to below =
    let there = end_there a to below in
    (record { end = there.0; outbox = letters_to to a.waiting.items }, ap (λ (o : Option OutEnd). lane_of (letters_to to a.waiting.items) o) there.1)

-- one outbox was flushed, and the others are as they were
pub one_flushed : (a b : Mail) (to node : ℕ) → to < outs_count a → node ≡ to → b.me ≡ a.me → b.ins ≡ a.ins
    → Passed (Some node) a.outs.items a.waiting.items b.outs.items b.waiting.items → OutChanges Flushes a b to
one_flushed a b to node below at me ins h = record {
  me = me;
  counts = (h.count, ap (λ (lanes : List InLane). length lanes) ins);
  ins = λ other. ap (λ (lanes : List InLane). slice_get lanes other) ins;
  lane = both_there Flushes (out_at a to) (out_at b to) there.0 there.1
      (subst (λ (t : Bool). Alike (Passes t) (out_at a to) (out_at b to)) (eq-eqb node to at) (h.lanes to));
  others = λ other apart. same (out_at a other) (out_at b other)
      (subst (λ (t : Bool). Alike (Passes t) (out_at a other) (out_at b other)) (ne_eqb node other (λ e. apart (sym e ∙ at))) (h.lanes other));
}
  where
    there : (lane : OutLane) × (out_at a to ≡ Some lane)
    there = lane_there a to below

    same : (x y : Option OutLane) → Alike (Passes false) x y → y ≡ x
    same None None p = refl
    same None (Some y) p = absurd p
    same (Some x) None p = absurd p
    same (Some x) (Some y) p = ap Some p

-- a letter more waits, at the end
pub put_changes : (a b : Mail) (post : Post) → post.to < outs_count a → b.me ≡ a.me → b.outs.items ≡ a.outs.items → b.ins ≡ a.ins
    → b.waiting.items ≡ a.waiting.items ++ post ∷ [] → OutChanges (Puts post.letter) a b post.to
put_changes a b post below me outs ins waiting = record {
  me = me;
  counts = (ap (λ (ends : List OutEnd). length ends) outs, ap (λ (lanes : List InLane). length lanes) ins);
  ins = λ other. ap (λ (lanes : List InLane). slice_get lanes other) ins;
  lane = subst (λ (o : Option OutLane). Both (Puts post.letter) (out_at a post.to) o) (sym (lane_now post.to _ (last_here post.to a.waiting.items post refl)))
      (by_end (slice_get a.outs.items post.to) there.0 there.1);
  others = λ other apart. lane_now other _ (last_other other a.waiting.items post (λ e. apart (sym e)));
}
  where
    there : (end : OutEnd) × (slice_get a.outs.items post.to ≡ Some end)
    there = end_there a post.to below

    lane_now : (node : ℕ) (letters : List Letter) → letters_to node (a.waiting.items ++ post ∷ []) ≡ letters → out_at b node ≡ lane_of letters (slice_get a.outs.items node)
    lane_now node letters e =
        ap (λ (ends : List OutEnd). lane_of (letters_to node b.waiting.items) (slice_get ends node)) outs
        ∙ ap (λ (l : List Letter). lane_of l (slice_get a.outs.items node)) (ap (λ (posts : List Post). letters_to node posts) waiting ∙ e)

    grown : (end : OutEnd) → Puts post.letter (record { end = end; outbox = letters_to post.to a.waiting.items })
        (record { end = end; outbox = letters_to post.to a.waiting.items ++ post.letter ∷ [] })
    grown end = record {
      ring = ((refl, refl, refl, refl), refl);
      sent = sym (append_assoc (sent end.ring) (letters_to post.to a.waiting.items) (post.letter ∷ []));
      ring_given = refl;
    }

    by_end : (o : Option OutEnd) (end : OutEnd) → o ≡ Some end
        → Both (Puts post.letter) (lane_of (letters_to post.to a.waiting.items) o) (lane_of (letters_to post.to a.waiting.items ++ post.letter ∷ []) o)
    by_end None end there = absurd (cc)
    by_end (Some end) other there = grown end

-- What holds of the rings once all letters that wait were looked at.

abbrev with_outbox : OutEnd → List Letter → OutLane
with_outbox end letters = record { end = end; outbox = letters }

lane_ends : (t b : Bool) (k : List Letter) (x : Option OutLane) (y : Option OutEnd) → LaneAt (LaneGoes t b [] k) x y → Alike (Passes t) x (lane_of k y)
lane_ends t b k None None h = tt
lane_ends t b k None (Some y) h = absurd h
lane_ends t b k (Some x) None h = absurd h
lane_ends true b k (Some x) (Some y) h = record {
  ring = h.ring;
  sent = ap (λ (letters : List Letter). sent y.ring ++ letters) (sym (append-nil k)) ∙ h.all;
  grew = h.grew;
  places = h.places;
  first = λ few. elim stops [
    | inl none ↦ none
    | inr full ↦ absurd (omega (arith, few, full, y.roomy))
  ];
  stops = stops;
}
  where
    by_mark : (c : Bool) → b ≡ c → (k ≡ []) ⊎ (known_free y.ring ≡ 0)
    by_mark true e = inr (h.full e)
    by_mark false e = inl (h.free refl e)

    stops : (k ≡ []) ⊎ (known_free y.ring ≡ 0)
    stops = by_mark b refl
lane_ends false b k (Some x) (Some y) h =
    ap (λ (end : OutEnd). with_outbox end k) (h.same refl).0 ∙ ap (λ (letters : List Letter). with_outbox x.end letters) (sym (append-nil k) ∙ (h.same refl).1)

-- all letters were looked at
pub all_passed : (only : Option ℕ) (outs : List OutEnd) (waiting : List Post) (ys : List OutEnd) (now : List Post) (held : List Bool) (left : ℕ)
    → Passing only outs waiting ys now held left → left ≡ 0 → Passed only outs waiting ys now
all_passed only outs waiting ys now held left h none = record {
  count = h.count;
  lanes = λ node. subst (λ (posts : List Post). Alike (Passes (is_tried only node)) (lane_in outs waiting node) (lane_of (letters_to node posts) (slice_get ys node)))
      (sym (h.items ∙ ap (λ (posts : List Post). posts ++ h.kept) no_rest))
      (lane_ends (is_tried only node) (is_held held node) (letters_to node h.kept) (lane_in outs waiting node) (slice_get ys node)
      (subst (λ (posts : List Post). LaneAt (LaneGoes (is_tried only node) (is_held held node) (letters_to node posts) (letters_to node h.kept))
      (lane_in outs waiting node) (slice_get ys node)) no_rest (h.lanes node)));
}
  where
    is_none : (posts : List Post) → length posts ≡ 0 → posts ≡ []
    is_none [] e = refl
    is_none (post ∷ posts) e = absurd (omega (arith, e))

    no_rest : h.rest ≡ []
    no_rest = is_none h.rest (h.rest_len ∙ none)

-- no letter waits
pub none_waits : (only : Option ℕ) (outs : List OutEnd) (waiting : List Post) → waiting ≡ [] → Passed only outs waiting outs waiting
none_waits only outs waiting none =
    all_passed only outs waiting outs waiting (replicate 256 false) 0
    (first_passed only outs waiting (replicate 256 false) 0 refl (ap (λ (posts : List Post). length posts) none)) refl

-- The mails when all rings are made.

-- the mail of a node when all rings are made
fresh : (nodes capacity : ℕ) (ms : List Mail) → Opening nodes capacity nodes 0 ms → (k : ℕ) (m : Mail) → slice_get ms k ≡ Some m → IsFresh nodes k m
fresh nodes capacity ms h k m there = record {
  me = h.me k m there;
  outs = h.outs_before k m there (omega (arith, slice_get_within ms k m there, h.count));
  ins = h.ins_after k m there (omega arith);
  sent = λ other. nothing_out other (end_at m other) refl;
  taken = λ other. nothing_taken other (in_at m other) refl;
  known = λ other. nothing_known other (in_at m other) refl;
}
  where
    nothing_out : (j : ℕ) (o : Option OutEnd) → end_at m j ≡ o → on_out sent_by (lane_of (letters_to j m.waiting.items) o) ≡ []
    nothing_out j None e = refl
    nothing_out j (Some end) e =
        ap seen (ap (λ (letters : List Letter). letters ++ letters_to j m.waiting.items) (h.new_out k j m end there e).unused
        ∙ ap (λ (posts : List Post). letters_to j posts) (h.waiting k m there))

    nothing_taken : (j : ℕ) (o : Option InLane) → in_at m j ≡ o → on_in taken o ≡ []
    nothing_taken j None e = refl
    nothing_taken j (Some lane) e = ap seen (h.new_in k j m lane there e).taken

    nothing_known : (j : ℕ) (o : Option InLane) → in_at m j ≡ o → on_in known o ≡ []
    nothing_known j None e = refl
    nothing_known j (Some lane) e = ap seen (h.new_in k j m lane there e).known

all_opened : (nodes capacity : ℕ) (ms : List Mail) → 0 < capacity → Opening nodes capacity nodes 0 ms → Opened nodes capacity ms
all_opened nodes capacity ms some h = record {
  count = h.count;
  fresh = fresh nodes capacity ms h;
  places = λ k j m lane there e. places_at k j m lane there (end_at m j) refl e;
  links = linked;
}
  where
    places_at : (k j : ℕ) (m : Mail) (lane : OutLane) → slice_get ms k ≡ Some m → (o : Option OutEnd) → end_at m j ≡ o
        → lane_of (letters_to j m.waiting.items) o ≡ Some lane → producer_capacity lane.end.ring ≡ capacity
    places_at k j m lane there None none e = absurd (none_is_some lane e)
    places_at k j m lane there (Some end) here e =
        subst (λ (l : OutLane). producer_capacity l.end.ring ≡ capacity) (some_same _ lane e) (h.new_out k j m end there here).places

    linked : (a b : ℕ) (x y : Mail) → slice_get ms a ≡ Some x → slice_get ms b ≡ Some y → AreLinked x y
    linked a b x y x_at y_at =
        rw (h.me a x x_at) (rw (h.me b y y_at) (ends (slice_get_cases x.outs.items b).1 (slice_get_cases y.ins a).1))
      where
        all_outs : outs_count x ≡ nodes
        all_outs = (fresh nodes capacity ms h a x x_at).outs

        all_ins : ins_count y ≡ nodes
        all_ins = (fresh nodes capacity ms h b y y_at).ins

        a_below : a < nodes
        a_below = omega (arith, slice_get_within ms a x x_at, h.count)

        b_below : b < nodes
        b_below = omega (arith, slice_get_within ms b y y_at, h.count)

        ends : ((o : OutEnd) × (b < outs_count x) × (end_at x b ≡ Some o) × (slice_index_or x.outs.items b o ≡ o)) ⊎ ((outs_count x ≤ b) × (end_at x b ≡ None))
            → ((i : InLane) × (a < ins_count y) × (in_at y a ≡ Some i) × (slice_index_or y.ins a i ≡ i)) ⊎ ((ins_count y ≤ a) × (in_at y a ≡ None))
            → Both IsOpenLink (out_at x b) (in_at y a)
        ends (inr o) i = absurd (omega (arith, o.0, all_outs, b_below))
        ends (inl o) (inr i) = absurd (omega (arith, i.0, all_ins, a_below))
        ends (inl o) (inl i) = rw o.2 (rw i.2 (h.links a b x y o.0 i.0 x_at y_at o.2 i.2, omega (arith, some, (h.new_out a b x o.0 x_at o.2).places)))

pub rows_end : (nodes capacity a : ℕ) (ms : List Mail) → a ≡ nodes → 0 < capacity → Opening nodes capacity a 0 ms → Opened nodes capacity ms
rows_end nodes capacity a ms all some h = all_opened nodes capacity ms some (subst (λ (n : ℕ). Opening nodes capacity n 0 ms) all h)
