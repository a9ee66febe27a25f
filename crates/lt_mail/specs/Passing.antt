-- What one lane of a mail did, and that no other did anything.
use Rattle.std.specs.Prelude.{◌≡◌, ◌≢◌, ◌+◌, ◌≤◌, ◌<◌, ◌⊎◌, Bool, ℕ, [], ◌∷◌, ◌++◌, Option, Some, None, MatchBool, length, false, List, slice_get, ◌==◌, true, slice_index_or}
use mathlib.Core.List.{IsPrefix}
use Rattle.rtrb.specs.Ring.{producer_capacity, known_free, sent, SameProducer, ProducerLooked}
use Rattle.lt_desk.specs.declared.letter.Letter.{Letter}
use Rattle.lt_desk.specs.declared.letter.Post.{Post}
use Rattle.lt_mail.specs.declared.lane.InLane.{InLane}
use Rattle.lt_mail.specs.declared.mail.Mail.{Mail}
use Rattle.lt_mail.specs.Words.{OutLane, ring_given, outbox_letters, sent_by, taken, known, sent_to, SameEnds, out_at, in_at, outs_count, ins_count, Both, SameOut, SameIn, taken_from, known_from, Alike, Sees, letters_to, lane_in}
use Rattle.lt_mail.specs.declared.lane.OutEnd.{OutEnd}

-- one lane that sends went from the one to the other in this way
pub record OutChanges (R : OutLane → OutLane → Type 0) (a b : Mail) (to : ℕ) : Type 0 where
  pub me : b.me ≡ a.me
  pub counts : (outs_count b ≡ outs_count a) × (ins_count b ≡ ins_count a)
  pub ins : (node : ℕ) → in_at b node ≡ in_at a node
  pub lane : Both R (out_at a to) (out_at b to)
  pub others : (node : ℕ) → node ≢ to → out_at b node ≡ out_at a node

-- one lane that takes did
pub record InChanges (R : InLane → InLane → Type 0) (a b : Mail) (from : ℕ) : Type 0 where
  pub me : b.me ≡ a.me
  pub counts : (outs_count b ≡ outs_count a) × (ins_count b ≡ ins_count a)
  pub outs : (node : ℕ) → out_at b node ≡ out_at a node
  pub lane : Both R (in_at a from) (in_at b from)
  pub others : (node : ℕ) → node ≢ from → in_at b node ≡ in_at a node

-- the outbox has one letter more
pub record Puts (letter : Letter) (x y : OutLane) : Type 0 where
  pub ring : SameOut x y
  pub sent : sent_by y ≡ sent_by x ++ letter ∷ []
  pub ring_given : ring_given y ≡ ring_given x

-- letters went from the outbox to the ring
pub record Flushes (x y : OutLane) : Type 0 where
  pub ring : SameOut x y
  pub sent : sent_by y ≡ sent_by x
  pub grew : IsPrefix (ring_given x) (ring_given y)
  pub places : known_free x.end.ring + length (ring_given x) ≤ known_free y.end.ring + length (ring_given y)
  pub first : length (ring_given y) < producer_capacity y.end.ring → outbox_letters y ≡ []
  pub stops : (outbox_letters y ≡ []) ⊎ (known_free y.end.ring ≡ 0)

-- the letter was taken
pub record Takes (letter : Letter) (x y : InLane) : Type 0 where
  pub ring : SameIn x y
  pub taken : taken y ≡ taken x ++ letter ∷ []
  pub next : IsPrefix (known x) (letter ∷ known y)

-- the letter was taken, and was the first known one
pub record TakesKnown (letter : Letter) (x y : InLane) : Type 0 where
  pub ring : SameIn x y
  pub taken : taken y ≡ taken x ++ letter ∷ []
  pub known : known x ≡ letter ∷ known y

-- no letter was known
pub record TakesNone (x y : InLane) : Type 0 where
  pub ring : SameIn x y
  pub taken : taken y ≡ taken x
  pub before : known x ≡ []
  pub now : known y ≡ []

-- no letter was known, and nothing happened
pub record FindsNoLetter (x y : InLane) : Type 0 where
  pub same : y ≡ x
  pub empty : known x ≡ []

-- the answer to whether a letter is in the ring
abbrev pub Saw : Bool → Option InLane → Type 0
Saw answer None = ⊥
Saw answer (Some lane) = MatchBool answer (0 < length (known lane)) (known lane ≡ [])

-- the letter is the first one that is known to be in the ring
abbrev pub IsFirst : Letter → Option InLane → Type 0
IsFirst letter None = ⊥
IsFirst letter (Some lane) = IsPrefix (letter ∷ []) (known lane)

-- a letter is in the ring of this node, another one
abbrev pub IsSender : ℕ → List InLane → ℕ → Type 0
IsSender me lanes from = (from < length lanes) × (from ≢ me) × Saw true (slice_get lanes from)

-- what was sent stays, and so does all that is taken
pub record KeepsSent (a b : Mail) : Type 0 where
  pub sent : (node : ℕ) → sent_to b node ≡ sent_to a node
  pub ins : (node : ℕ) → in_at b node ≡ in_at a node
  pub ends : SameEnds a b

-- What looking at the rings that letters come by does.

-- one ring was looked at
pub record LooksAt (xs ys : List InLane) (from : ℕ) : Type 0 where
  pub count : length ys ≡ length xs
  pub here : Both Sees (slice_get xs from) (slice_get ys from)
  pub others : (node : ℕ) → node ≢ from → slice_get ys node ≡ slice_get xs node

-- one ring went from the one to the other in this way
pub record LaneChanges (R : InLane → InLane → Type 0) (xs ys : List InLane) (from : ℕ) : Type 0 where
  pub count : length ys ≡ length xs
  pub here : Both R (slice_get xs from) (slice_get ys from)
  pub others : (node : ℕ) → node ≢ from → slice_get ys node ≡ slice_get xs node

-- some rings were
pub record LooksAtSome (xs ys : List InLane) : Type 0 where
  pub count : length ys ≡ length xs
  pub lanes : (node : ℕ) → Alike Sees (slice_get xs node) (slice_get ys node)

-- no letter of the first of the other nodes is in its ring
abbrev pub SawNone : ℕ → ℕ → List InLane → Type 0
SawNone first me ys = (node : ℕ) → node < first → node ≢ me → Saw false (slice_get ys node)

-- the mail whose rings were looked at: nothing was taken, and more letters may be known
pub record Looked (a b : Mail) : Type 0 where
  pub ends : SameEnds a b
  pub outs : (node : ℕ) → out_at b node ≡ out_at a node
  pub taken : (node : ℕ) → taken_from b node ≡ taken_from a node
  pub known : (node : ℕ) → IsPrefix (known_from a node) (known_from b node)

-- Letters on their way from the list of those that wait into the rings.

-- letters to this node are given to its ring
abbrev pub is_tried : Option ℕ → ℕ → Bool
is_tried None node = true
is_tried (Some to) node = to == node

-- no more letters to this node are given to its ring
abbrev pub is_held : List Bool → ℕ → Bool
is_held held node = slice_index_or held node false

-- one end of a ring went from the one to the other in this way
pub record EndChanges (R : OutEnd → OutEnd → Type 0) (xs ys : List OutEnd) (to : ℕ) : Type 0 where
  pub count : length ys ≡ length xs
  pub here : Alike R (slice_get xs to) (slice_get ys to)
  pub others : (node : ℕ) → node ≢ to → slice_get ys node ≡ slice_get xs node

abbrev pub Looks : OutEnd → OutEnd → Type 0
Looks x y = ProducerLooked x.ring y.ring

abbrev pub GivesOne : Letter → OutEnd → OutEnd → Type 0
GivesOne letter x y = SameProducer x.ring y.ring × (sent y.ring ≡ sent x.ring ++ letter ∷ []) × (known_free x.ring ≡ known_free y.ring + 1)

abbrev pub EndHasPlace : Option OutEnd → Type 0
EndHasPlace None = ⊥
EndHasPlace (Some end) = 0 < known_free end.ring

-- the ring to the node is known to have a place
abbrev pub HasPlace : List OutEnd → ℕ → Type 0
HasPlace outs to = EndHasPlace (slice_get outs to)

abbrev pub EndIsFull : Option OutEnd → Type 0
EndIsFull None = Unit {0}
EndIsFull (Some end) = known_free end.ring ≡ 0

-- it is known to have none, if it is there
abbrev pub IsFullEnd : List OutEnd → ℕ → Type 0
IsFullEnd outs to = EndIsFull (slice_get outs to)

-- what was done with the letters to a node: those that were kept come before those that weren't looked at yet
pub record LaneGoes (tried held : Bool) (rest kept : List Letter) (x : OutLane) (y : OutEnd) : Type 0 where
  pub ring : SameProducer x.end.ring y.ring
  pub all : sent y.ring ++ (kept ++ rest) ≡ sent_by x
  pub grew : IsPrefix (sent x.end.ring) (sent y.ring)
  pub places : known_free x.end.ring + length (sent x.end.ring) ≤ known_free y.ring + length (sent y.ring)
  pub free : tried ≡ true → held ≡ false → kept ≡ []
  pub full : held ≡ true → known_free y.ring ≡ 0
  pub same : tried ≡ false → (y ≡ x.end) × (kept ++ rest ≡ x.outbox)

abbrev pub LaneAt : (OutLane → OutEnd → Type 0) → Option OutLane → Option OutEnd → Type 0
LaneAt R None None = Unit {0}
LaneAt R None (Some y) = ⊥
LaneAt R (Some x) None = ⊥
LaneAt R (Some x) (Some y) = R x y

-- so many letters are left to be looked at
pub record Passing (only : Option ℕ) (outs : List OutEnd) (waiting : List Post) (outs_now : List OutEnd) (waiting_now : List Post)
    (held : List Bool) (left : ℕ) : Type 0 where
  pub rest : List Post
  pub kept : List Post
  pub items : waiting_now ≡ rest ++ kept
  pub rest_len : length rest ≡ left
  pub count : length outs_now ≡ length outs
  pub marks : length held ≡ 256
  pub lanes : (node : ℕ) → LaneAt (LaneGoes (is_tried only node) (is_held held node) (letters_to node rest) (letters_to node kept))
      (lane_in outs waiting node) (slice_get outs_now node)

abbrev pub Passes : Bool → OutLane → OutLane → Type 0
Passes true x y = Flushes x y
Passes false x y = y ≡ x

-- the outboxes to the nodes that were tried were flushed, and the others are as they were
pub record Passed (only : Option ℕ) (outs : List OutEnd) (waiting : List Post) (outs_now : List OutEnd) (waiting_now : List Post) : Type 0 where
  pub count : length outs_now ≡ length outs
  pub lanes : (node : ℕ) → Alike (Passes (is_tried only node)) (lane_in outs waiting node) (lane_in outs_now waiting_now node)
