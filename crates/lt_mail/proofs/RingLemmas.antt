-- What is given to a ring, and when it is full.
use Rattle.std.proofs.Common.{◌≡◌, ◌<◌, ◌≤◌, ℕ, inl, inr, List, [], ◌∷◌, ◌++◌, Option, Some, None, Bool, ◌||◌, ◌==◌, MatchBool, refl, sym, ap, subst, arith, ◌∙◌, append-nil, ◌⊎◌, length, eq-eqb, ne_eqb}
use Rattle.std.specs.List.{list_any}
use Rattle.std.proofs.lemmas.Bool.{cases_eq}
use Rattle.std.proofs.lemmas.List.{map-append, length-map}
use Rattle.std.proofs.lemmas.Option.{slice_get_cases}
use mathlib.Core.List.{IsPrefix}
use Rattle.rtrb.specs.Ring.{known_free, producer_capacity}
use Rattle.lt_modes.specs.State as rules
use Rattle.lt_desk.specs.declared.letter.Letter.{Letter}
use Rattle.lt_desk.specs.LetterSeen.{letter_seen}
use Rattle.lt_desk.specs.declared.letter.Post.{Post}
use Rattle.lt_mail.specs.declared.lane.InLane.{InLane}
use Rattle.lt_mail.specs.declared.lane.OutEnd.{OutEnd}
use Rattle.lt_mail.specs.declared.mail.Mail.{Mail}
use Rattle.lt_mail.specs.Words.{OutLane, ring_given, outbox_letters, sent_by, known, seen, letters_to, lane_of, end_at, outs_count, out_at, in_at, on_out, on_in, sent_to, given_to, waiting_to, known_from, places_of, places_to, IsFullTo, Both, Alike, IsMet}
use Rattle.lt_mail.specs.Passing.{Flushes, IsFirst}
use Rattle.lt_mail.proofs.LookLemmas.{prefix_seen}
use Rattle.lt_mail.proofs.PassLemmas.{first_here, first_other}

-- What both ends of a ring say of the mails that have them.

-- the outbox is empty, or a letter is known at each place of the ring
pub met_stops : (a b : Mail) (to from : ℕ) → Both IsMet (out_at a to) (in_at b from)
    → (waiting_to a to ≡ []) ⊎ (places_to a to ≤ length (known_from b from))
met_stops a b to from h = here (out_at a to) (in_at b from) h
  where
    full : (o : OutLane) (i : InLane) → (outbox_letters o ≡ []) ⊎ (producer_capacity o.end.ring ≤ length (known i))
        → (seen (outbox_letters o) ≡ []) ⊎ (producer_capacity o.end.ring ≤ length (seen (known i)))
    full o i (inl none) = inl (ap seen none)
    full o i (inr all) = inr (subst (λ (n : ℕ). producer_capacity o.end.ring ≤ n) (sym (length-map (known i) letter_seen)) all)

    here : (o : Option OutLane) (i : Option InLane) → Both IsMet o i → (on_out outbox_letters o ≡ []) ⊎ (places_of o ≤ length (on_in known i))
    here None i q = absurd q
    here (Some o) None q = absurd q
    here (Some o) (Some i) q = full o i q.stops

-- no letter waits while the ring was given fewer than it has places
few_given : (o : OutLane) → (length (ring_given o) < producer_capacity o.end.ring → outbox_letters o ≡ [])
    → length (seen (ring_given o)) < producer_capacity o.end.ring → seen (outbox_letters o) ≡ []
few_given o first few = ap seen (first (subst (λ (n : ℕ). n < producer_capacity o.end.ring) (length-map (ring_given o) letter_seen) few))

pub met_first : (a b : Mail) (to from : ℕ) → Both IsMet (out_at a to) (in_at b from) → length (given_to a to) < places_to a to → waiting_to a to ≡ []
met_first a b to from h = here (out_at a to) (in_at b from) h
  where
    here : (o : Option OutLane) (i : Option InLane) → Both IsMet o i → length (on_out ring_given o) < places_of o → on_out outbox_letters o ≡ []
    here None i q few = absurd q
    here (Some o) None q few = absurd q
    here (Some o) (Some i) q few = few_given o q.first few

-- What stays where no letter goes to a ring.

-- where none waits, the ring was given all that was sent
pub given_all : (m : Mail) (node : ℕ) → waiting_to m node ≡ [] → sent_to m node ≡ given_to m node
given_all m node none = here (out_at m node) none
  where
    here : (o : Option OutLane) → on_out outbox_letters o ≡ [] → on_out sent_by o ≡ on_out ring_given o
    here None e = refl
    here (Some lane) e = map-append letter_seen (ring_given lane) (outbox_letters lane)
        ∙ (ap (λ letters. seen (ring_given lane) ++ letters) e ∙ append-nil (seen (ring_given lane)))

-- the ring of the same end was given the same
pub given_stays : (a b : Mail) (node : ℕ) → end_at b node ≡ end_at a node → given_to b node ≡ given_to a node
given_stays a b node same = here (end_at b node) ∙ (ap given_by same ∙ sym (as_given (end_at a node) (letters_to node a.waiting.items)))
  where
    given_by : Option OutEnd → List rules.Letter
    given_by o = on_out ring_given (lane_of [] o)

    as_given : (o : Option OutEnd) (letters : List Letter) → on_out ring_given (lane_of letters o) ≡ given_by o
    as_given None letters = refl
    as_given (Some end) letters = refl

    here : (o : Option OutEnd) → on_out ring_given (lane_of (letters_to node b.waiting.items) o) ≡ given_by o
    here o = as_given o (letters_to node b.waiting.items)

lane_end : (lane : OutLane) (end : OutEnd) (letters : List Letter) → lane_of letters (Some end) ≡ Some lane → lane.end ≡ end
lane_end lane end letters e = sym (ap (λ (l : OutLane). l.end) (some_is (record { end = end; outbox = letters }) lane e))
  where
    some_is : (x y : OutLane) → Some x ≡ Some y → x ≡ y
    some_is x y e = cc

-- and is known to be full where it was
pub full_stays : (a b : Mail) (node : ℕ) → end_at b node ≡ end_at a node → IsFullTo a node → IsFullTo b node
full_stays a b node same full = by_end (end_at a node) refl full.1
  where
    by_end : (o : Option OutEnd) → end_at a node ≡ o → lane_of (letters_to node a.waiting.items) o ≡ Some full.0 → IsFullTo b node
    by_end None there e = absurd (cc)
    by_end (Some end) there e = (
      record { end = end; outbox = letters_to node b.waiting.items },
      ap (λ (o : Option OutEnd). lane_of (letters_to node b.waiting.items) o) (same ∙ there),
      subst (λ (x : OutEnd). known_free x.ring ≡ 0) (lane_end full.0 end (letters_to node a.waiting.items) e) full.2,
    )

-- What a flush of all outboxes says of each.

pub passed_given : (x y : Option OutLane) → Alike Flushes x y → IsPrefix (on_out ring_given x) (on_out ring_given y)
passed_given None None h = ([], refl)
passed_given None (Some y) h = absurd h
passed_given (Some x) None h = absurd h
passed_given (Some x) (Some y) h = prefix_seen (ring_given x) (ring_given y) h.grew

pub passed_first : (x y : Option OutLane) → Alike Flushes x y → length (on_out ring_given y) < places_of y → on_out outbox_letters y ≡ []
passed_first None None h few = refl
passed_first None (Some y) h few = absurd h
passed_first (Some x) None h few = absurd h
passed_first (Some x) (Some y) h few = few_given y h.first few

-- a letter waits for its place where one of those that wait is for the node
pub some_waits : (m : Mail) (to : ℕ) (answer : Bool) → to < outs_count m → answer ≡ list_any (λ (post : Post). post.to == to) m.waiting.items
    → MatchBool answer (0 < length (waiting_to m to)) (waiting_to m to ≡ [])
some_waits m to answer below e = elim (slice_get_cases m.outs.items to).1 [
  | inl there ↦ subst (λ (o : Option OutEnd). MatchBool answer (0 < length (on_out outbox_letters (lane_of (letters_to to m.waiting.items) o)))
      (on_out outbox_letters (lane_of (letters_to to m.waiting.items) o) ≡ [])) (sym there.2)
      (subst (λ (b : Bool). MatchBool b (0 < length (seen (letters_to to m.waiting.items))) (seen (letters_to to m.waiting.items) ≡ [])) (sym e)
      (by_posts m.waiting.items))
  | inr past ↦ absurd (omega (arith, past.0, below))
]
  where
    Waits : Bool → List Letter → Type 0
    Waits t letters = MatchBool t (0 < length (seen letters)) (seen letters ≡ [])

    by_posts : (posts : List Post) → Waits (list_any (λ (post : Post). post.to == to) posts) (letters_to to posts)
    by_posts [] = refl
    by_posts (post ∷ posts) = elim (cases_eq post.to to) [
      | inl same ↦ subst (λ (letters : List Letter). Waits (list_any (λ (p : Post). p.to == to) (post ∷ posts)) letters) (sym (first_here to post posts same))
          (subst (λ (t : Bool). Waits (t || list_any (λ (p : Post). p.to == to) posts) (post.letter ∷ letters_to to posts)) (sym (eq-eqb post.to to same)) (omega arith))
      | inr apart ↦ subst (λ (letters : List Letter). Waits (list_any (λ (p : Post). p.to == to) (post ∷ posts)) letters) (sym (first_other to post posts apart))
          (subst (λ (t : Bool). Waits (t || list_any (λ (p : Post). p.to == to) posts) (letters_to to posts)) (sym (ne_eqb post.to to apart)) (by_posts posts))
    ]

-- the first known letter of a node
pub first_seen : (m : Mail) (from : ℕ) (letter : Letter) → IsFirst letter (in_at m from) → IsPrefix (letter_seen letter ∷ []) (known_from m from)
first_seen m from letter h = here (in_at m from) h
  where
    here : (o : Option InLane) → IsFirst letter o → IsPrefix (letter_seen letter ∷ []) (on_in known o)
    here None q = absurd q
    here (Some lane) q = prefix_seen (letter ∷ []) (known lane) q
