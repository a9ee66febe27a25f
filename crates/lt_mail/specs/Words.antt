-- What went through the ends of a ring, and what waits for a place in it.
use Rattle.std.specs.Prelude.{ℕ, ◌==◌, List, ◌++◌, Option, Some, None, if◌then◌else◌, slice_get, ◌≡◌, ◌+◌, ◌≤◌, ◌<◌, [], ◌∷◌, length, map, ◌⊎◌, filter_map}
use Rattle.std.specs.VecDeque.{deque_len, deque_capacity}
use Rattle.rtrb.specs.Ring.{sent, received, known_items, IsPair, known_free, producer_capacity, SameProducer, SameConsumer}
use mathlib.Core.List.{IsPrefix}
use Rattle.lt_modes.specs.State as rules
use Rattle.lt_desk.specs.declared.letter.Letter.{Letter}
use Rattle.lt_desk.specs.declared.letter.Post.{Post}
use Rattle.lt_desk.specs.LetterSeen.{letter_seen}
use Rattle.lt_mail.specs.declared.lane.OutEnd.{OutEnd}
use Rattle.lt_mail.specs.declared.lane.InLane.{InLane}
use Rattle.lt_mail.specs.declared.mail.Mail.{Mail}

-- the sending end of a ring, and the letters that wait for a place in it: the outbox
pub record OutLane : Type 0 where
  pub end : OutEnd
  pub outbox : List Letter

-- the letter, where it is for the node
abbrev pub letter_to : ℕ → Post → Option Letter
letter_to node post = if post.to == node then Some post.letter else None

-- the letters for the node, in order
abbrev pub letters_to : ℕ → List Post → List Letter
letters_to node posts = filter_map (letter_to node) posts

abbrev pub lane_of : List Letter → Option OutEnd → Option OutLane
lane_of letters None = None
lane_of letters (Some end) = Some (record { end = end; outbox = letters })

-- the end of the ring to the node, and of all letters that wait those for the node
abbrev pub lane_in : List OutEnd → List Post → ℕ → Option OutLane
lane_in outs waiting node = lane_of (letters_to node waiting) (slice_get outs node)

-- the letters that the ring was given
abbrev pub ring_given : OutLane → List Letter
ring_given lane = sent lane.end.ring

-- the letters in the outbox
abbrev pub outbox_letters : OutLane → List Letter
outbox_letters lane = lane.outbox

-- the letters that were sent by this end
abbrev pub sent_by : OutLane → List Letter
sent_by lane = ring_given lane ++ outbox_letters lane

abbrev pub taken : InLane → List Letter
taken lane = received lane.ring

-- letters that this end knows to be in the ring: the next ones
abbrev pub known : InLane → List Letter
known lane = known_items lane.ring

-- the two ends of one ring
abbrev pub AreRingEnds : OutEnd → InLane → Type 0
AreRingEnds out into = IsPair out.ring into.ring

-- What a node sent and took, by the number of the other node.

abbrev pub seen : List Letter → List rules.Letter
seen letters = map letter_seen letters

abbrev pub end_at : Mail → ℕ → Option OutEnd
end_at m node = slice_get m.outs.items node

-- the end of the ring to the node, with the letters that wait for a place in it
abbrev pub out_at : Mail → ℕ → Option OutLane
out_at m node = lane_in m.outs.items m.waiting.items node

abbrev pub in_at : Mail → ℕ → Option InLane
in_at m node = slice_get m.ins node

-- to so many nodes it can send, and from so many it can take, its own included
abbrev pub outs_count : Mail → ℕ
outs_count m = length m.outs.items

abbrev pub ins_count : Mail → ℕ
ins_count m = length m.ins

abbrev pub on_out : (OutLane → List Letter) → Option OutLane → List rules.Letter
on_out letters None = []
on_out letters (Some lane) = seen (letters lane)

abbrev pub on_in : (InLane → List Letter) → Option InLane → List rules.Letter
on_in letters None = []
on_in letters (Some lane) = seen (letters lane)

-- the letters that were sent to the node: those that its ring was given, and then those in its outbox
abbrev pub sent_to : Mail → ℕ → List rules.Letter
sent_to m node = on_out sent_by (out_at m node)

-- the letters to the node that its ring was given
abbrev pub given_to : Mail → ℕ → List rules.Letter
given_to m node = on_out ring_given (out_at m node)

-- the letters to the node that are in its outbox
abbrev pub waiting_to : Mail → ℕ → List rules.Letter
waiting_to m node = on_out outbox_letters (out_at m node)

-- the letters of the node that were taken
abbrev pub taken_from : Mail → ℕ → List rules.Letter
taken_from m node = on_in taken (in_at m node)

-- the letters of the node that are known to be in its ring: the next ones
abbrev pub known_from : Mail → ℕ → List rules.Letter
known_from m node = on_in known (in_at m node)

-- the letter, where it was sent to this node
abbrev pub if_to : ℕ → rules.Letter → ℕ → List rules.Letter
if_to to letter node = if to == node then letter ∷ [] else []

-- the letter, where it came from this node
abbrev pub if_from : ℕ → rules.Letter → ℕ → List rules.Letter
if_from from letter node = if node == from then letter ∷ [] else []

abbrev pub places_of : Option OutLane → ℕ
places_of None = 0
places_of (Some lane) = producer_capacity lane.end.ring

-- how many letters the ring to the node has places for
abbrev pub places_to : Mail → ℕ → ℕ
places_to m node = places_of (out_at m node)

-- what this end knows of the ring to the node: it has no free place
abbrev pub IsFullTo : Mail → ℕ → Type 0
IsFullTo m node = (lane : OutLane) × (out_at m node ≡ Some lane) × (known_free lane.end.ring ≡ 0)

-- both are there and go together, or neither is there
abbrev pub Alike : {X : Type 0} → (X → X → Type 0) → Option X → Option X → Type 0
Alike R None None = Unit {0}
Alike R None (Some y) = ⊥
Alike R (Some x) None = ⊥
Alike R (Some x) (Some y) = R x y

-- both are there and go together
abbrev pub Both : {X Y : Type 0} → (X → Y → Type 0) → Option X → Option Y → Type 0
Both R None y = ⊥
Both R (Some x) None = ⊥
Both R (Some x) (Some y) = R x y

abbrev pub SameOut : OutLane → OutLane → Type 0
SameOut x y = SameProducer x.end.ring y.end.ring

abbrev pub SameIn : InLane → InLane → Type 0
SameIn x y = SameConsumer x.ring y.ring

-- the mail of the same node, with the same ends of the same rings
pub record SameEnds (a b : Mail) : Type 0 where
  pub me : b.me ≡ a.me
  pub counts : (outs_count b ≡ outs_count a) × (ins_count b ≡ ins_count a)
  pub outs : (node : ℕ) → Alike SameOut (out_at a node) (out_at b node)
  pub ins : (node : ℕ) → Alike SameIn (in_at a node) (in_at b node)

-- there is room for so many further letters that wait
abbrev pub HasRoomFor : Mail → ℕ → Type 0
HasRoomFor m letters = deque_len m.waiting + letters ≤ deque_capacity m.waiting

-- the two ends of one ring, which has places
abbrev pub IsOpenLink : OutLane → InLane → Type 0
IsOpenLink out into = AreRingEnds out.end into × (0 < producer_capacity out.end.ring)

-- they have the two ends of one ring: the one its sending end at place `to`, the other its taking end at place `from`
abbrev pub AreLinkedAt : ℕ → ℕ → Mail → Mail → Type 0
AreLinkedAt to from out into = Both IsOpenLink (out_at out to) (in_at into from)

-- the one sends to the other
abbrev pub AreLinked : Mail → Mail → Type 0
AreLinked out into = AreLinkedAt into.me out.me out into

-- What two mails did that looked at a ring from both ends.

-- letters may have gone from the outbox to the ring
pub record LaneGives (x y : OutLane) : Type 0 where
  pub ring : SameOut x y
  pub sent : sent_by y ≡ sent_by x
  pub grew : IsPrefix (ring_given x) (ring_given y)

-- more letters may be known
pub record Sees (x y : InLane) : Type 0 where
  pub ring : SameIn x y
  pub taken : taken y ≡ taken x
  pub learnt : IsPrefix (known x) (known y)

-- all letters in the ring are known, and it has one where the outbox does, and one at each place
pub record IsMet (out : OutLane) (into : InLane) : Type 0 where
  pub whole : taken into ++ known into ≡ ring_given out
  pub moves : (outbox_letters out ≡ []) ⊎ (0 < length (known into))
  pub stops : (outbox_letters out ≡ []) ⊎ (producer_capacity out.end.ring ≤ length (known into))
  pub first : length (ring_given out) < producer_capacity out.end.ring → outbox_letters out ≡ []

-- the sending end may know more places to be free
pub record LooksAgain (x y : OutLane) : Type 0 where
  pub ring : SameOut x y
  pub ring_given : ring_given y ≡ ring_given x
  pub outbox : outbox_letters y ≡ outbox_letters x

-- all free places of the ring, which has some, are known
abbrev pub KnowsPlaces : OutLane → InLane → Type 0
KnowsPlaces out into =
    (0 < producer_capacity out.end.ring) × (known_free out.end.ring + length (ring_given out) ≡ producer_capacity out.end.ring + length (taken into))

-- all letters in the ring are known
abbrev pub KnowsLetters : OutLane → InLane → Type 0
KnowsLetters out into = taken into ++ known into ≡ ring_given out
