-- New mails, one for each node, with a ring for each ordered pair of nodes.
use Rattle.std.specs.Prelude.{◌≡◌, ◌≢◌, ◌+◌, ◌<◌, ◌≤◌, ℕ, List, [], ◌∷◌, ◌++◌, Some, length, slice_get}
use Rattle.rtrb.specs.Ring.{sent, producer_capacity}
use Rattle.lt_mail.specs.declared.lane.OutEnd.{OutEnd}
use Rattle.lt_mail.specs.declared.lane.InLane.{InLane}
use Rattle.lt_mail.specs.declared.mail.Mail.{Mail}
use Rattle.lt_mail.specs.Words.{OutLane, taken, known, AreRingEnds, out_at, end_at, in_at, outs_count, ins_count, sent_to, taken_from, known_from, Both, AreLinked}

-- the mail of a node of a script with so many nodes, in which no letter was sent, taken or seen
pub record IsFresh (nodes node : ℕ) (m : Mail) : Type 0 where
  pub me : m.me ≡ node
  pub outs : outs_count m ≡ nodes
  pub ins : ins_count m ≡ nodes
  pub sent : (other : ℕ) → sent_to m other ≡ []
  pub taken : (other : ℕ) → taken_from m other ≡ []
  pub known : (other : ℕ) → known_from m other ≡ []

-- a fresh mail for each node, in order, and each two have the ends of a ring with these places
pub record Opened (nodes capacity : ℕ) (ms : List Mail) : Type 0 where
  pub count : length ms ≡ nodes
  pub fresh : (node : ℕ) (m : Mail) → slice_get ms node ≡ Some m → IsFresh nodes node m
  pub places : (node other : ℕ) (m : Mail) (lane : OutLane) → slice_get ms node ≡ Some m → out_at m other ≡ Some lane
      → producer_capacity lane.end.ring ≡ capacity
  pub links : (a b : ℕ) (x y : Mail) → slice_get ms a ≡ Some x → slice_get ms b ≡ Some y → AreLinked x y

-- no letter was sent by it
pub record IsNewOut (capacity : ℕ) (lane : OutEnd) : Type 0 where
  pub unused : sent lane.ring ≡ []
  pub places : producer_capacity lane.ring ≡ capacity

-- no letter was taken or seen by it
pub record IsNewIn (lane : InLane) : Type 0 where
  pub taken : taken lane ≡ []
  pub known : known lane ≡ []

-- the two ends of a new ring
pub record IsNewLink (capacity : ℕ) (out : OutEnd) (into : InLane) : Type 0 where
  pub link : AreRingEnds out into
  pub new_out : IsNewOut capacity out
  pub new_in : IsNewIn into

-- at one place the one goes to the other, and the others stay
pub record AtOne (R : Mail → Mail → Type 0) (place : ℕ) (ms ns : List Mail) : Type 0 where
  pub count : length ns ≡ length ms
  pub here : Both R (slice_get ms place) (slice_get ns place)
  pub others : (k : ℕ) → k ≢ place → slice_get ns k ≡ slice_get ms k

abbrev pub GainsOut : OutEnd → Mail → Mail → Type 0
GainsOut lane m n = (n.me ≡ m.me) × (n.outs.items ≡ m.outs.items ++ lane ∷ []) × (n.ins ≡ m.ins) × (n.waiting.items ≡ m.waiting.items)

abbrev pub GainsIn : InLane → Mail → Mail → Type 0
GainsIn lane m n = (n.me ≡ m.me) × (n.outs.items ≡ m.outs.items) × (n.ins ≡ m.ins ++ lane ∷ []) × (n.waiting.items ≡ m.waiting.items)

-- the mail at a has one new end of a ring more, and that at b the other end
pub record GainsLink (capacity a b : ℕ) (ms ns : List Mail) : Type 0 where
  pub out : OutEnd
  pub into : InLane
  pub mid : List Mail
  pub outs : AtOne (GainsOut out) a ms mid
  pub ins : AtOne (GainsIn into) b mid ns
  pub new : IsNewLink capacity out into

-- all rings of the nodes before a are made, and those of a to the nodes before b
pub record Opening (nodes capacity a b : ℕ) (ms : List Mail) : Type 0 where
  pub count : length ms ≡ nodes
  pub me : (k : ℕ) (m : Mail) → slice_get ms k ≡ Some m → m.me ≡ k
  pub waiting : (k : ℕ) (m : Mail) → slice_get ms k ≡ Some m → m.waiting.items ≡ []
  pub outs_before : (k : ℕ) (m : Mail) → slice_get ms k ≡ Some m → k < a → outs_count m ≡ nodes
  pub outs_at : (m : Mail) → slice_get ms a ≡ Some m → outs_count m ≡ b
  pub outs_after : (k : ℕ) (m : Mail) → slice_get ms k ≡ Some m → a < k → outs_count m ≡ 0
  pub ins_before : (k : ℕ) (m : Mail) → slice_get ms k ≡ Some m → k < b → ins_count m ≡ a + 1
  pub ins_after : (k : ℕ) (m : Mail) → slice_get ms k ≡ Some m → b ≤ k → ins_count m ≡ a
  pub new_out : (k j : ℕ) (m : Mail) (lane : OutEnd) → slice_get ms k ≡ Some m → end_at m j ≡ Some lane → IsNewOut capacity lane
  pub new_in : (k j : ℕ) (m : Mail) (lane : InLane) → slice_get ms k ≡ Some m → in_at m j ≡ Some lane → IsNewIn lane
  pub links : (k j : ℕ) (x y : Mail) (out : OutEnd) (into : InLane) → slice_get ms k ≡ Some x → slice_get ms j ≡ Some y
      → end_at x j ≡ Some out → in_at y k ≡ Some into → AreRingEnds out into

-- the node's mail with no ring
abbrev pub IsEmpty : ℕ → Mail → Type 0
IsEmpty node m = (m.me ≡ node) × (m.outs.items ≡ []) × (m.ins ≡ []) × (m.waiting.items ≡ [])

-- a mail with no ring for each node
pub record AreEmpty (nodes : ℕ) (ms : List Mail) : Type 0 where
  pub count : length ms ≡ nodes
  pub each : (k : ℕ) (m : Mail) → slice_get ms k ≡ Some m → IsEmpty k m
