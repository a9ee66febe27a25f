-- What a node keeps for one lock set, and what it sends, as plain data; the order of the queue; records of the desk.
use Rattle.std.specs.Prelude.{List, [], ◌∷◌, ℕ, ◌==◌, Bool, Option, Some, None, if◌then◌else◌, replicate, ◌++◌, true, false, ◌+◌, ◌&&◌, not, fold, insert, remove, position, length, count_by, zero, suc, filter, slice_index_or}
use Rattle.std.specs.List.{list_any}
use Rattle.lt_modes.specs.declared.stamp.Stamp.{Stamp}
use Rattle.lt_modes.specs.declared.ask.Ask.{Ask}
use Rattle.lt_modes.specs.declared.parts.Row.{Row}
use Rattle.lt_modes.specs.declared.parts.Link.{Link}
use Rattle.lt_modes.specs.declared.parts.Hoped.{Hoped}
use Rattle.lt_modes.specs.declared.parts.Owed.{Owed}
use Rattle.lt_modes.specs.Modes.{Modes, no_modes, with_mode, same_mode, union, held_modes}
use Rattle.lt_modes.specs.declared.event.Event.{Event}
use Rattle.lt_modes.specs.declared.mode.Mode.TheVariants.{IntentionRead}
use Rattle.lt_modes.specs.declared.mode.Mode.{Mode}

-- what the desk knows of a node
pub record Entry : Type 0 where
  pub reported : Modes
  pub owed : List Owed
  pub told_at : Stamp
  pub pending : List Stamp
  pub frozen_told : Modes

-- what the token carries: the asks in order, and an entry for each node
pub record Desk : Type 0 where
  pub epoch : ℕ
  pub number : ℕ
  pub queue : List Ask
  pub entries : List Entry

-- what a node tells the desk: its held modes and its unanswered asks at a move
pub record Tell : Type 0 where
  pub node : ℕ
  pub modes : Modes
  pub pending : List Stamp
  pub stamp : Stamp

-- what a letter says; an ask is marked where it came by a hoped link
pub data Body : Type 0 where
  AskBody : Ask → Bool → Body
  TellBody : Tell → Body
  CopyBody : Ask → Body
  TokenBody : Desk → Body
  FreezeBody : ℕ → Modes → Body

-- a letter from one node to another, with its sender's firm link
pub record Letter : Type 0 where
  pub stamp : Stamp
  pub set : ℕ
  pub link : Link
  pub body : Body

-- a letter that waits for the token
pub data Parked : Type 0 where
  ParkedAsk : Ask → Parked
  ParkedTell : Tell → Parked

-- what a node keeps for one set; `gone` are the clients whose unanswered ask here was given up
pub record SetState : Type 0 where
  pub held : List Row
  pub charge : Modes
  pub frozen : Modes
  pub number : ℕ
  pub firm : Link
  pub hoped : Option Hoped
  pub pending : List Ask
  pub parked : List Parked
  pub desk : Option Desk
  pub gone : List ℕ

-- the desk knows nothing of a node yet
abbrev pub first_entry : Entry
first_entry = record { reported = no_modes; owed = []; told_at = record { clock = 0; node = 0 }; pending = []; frozen_told = no_modes }

-- a set in which no link, copy, freeze or letter is: the rows, the unanswered asks, and the desk with this queue
abbrev pub lone_state : List Row → List Ask → List Ask → SetState
lone_state held pending queue = record {
  held = held;
  charge = no_modes;
  frozen = no_modes;
  number = 0;
  firm = record { node = 0; epoch = 0 };
  hoped = None;
  pending = pending;
  parked = [];
  desk = Some (record { epoch = 0; number = 0; queue = queue; entries = first_entry ∷ [] });
  gone = [];
}

-- the desk of a set in which nothing was asked, with an entry for each of so many nodes
abbrev pub first_desk : ℕ → Desk
first_desk nodes = record { epoch = 0; number = 0; queue = []; entries = replicate nodes first_entry }

-- what node q of so many nodes keeps for a set at the start: node 0 has the desk
abbrev pub first_state : ℕ → ℕ → SetState
first_state nodes q = record {
  held = [];
  charge = no_modes;
  frozen = no_modes;
  number = 0;
  firm = record { node = 0; epoch = 0 };
  hoped = None;
  pending = [];
  parked = [];
  desk = if q == 0 then Some (first_desk nodes) else None;
  gone = [];
}

-- What a rule makes of one set at one node: the new state, letters and event lines.

-- a letter, and the node that it goes to
pub record Post : Type 0 where
  pub to : ℕ
  pub letter : Letter

-- the new state, and the letters and the event lines in order
pub record Made : Type 0 where
  pub state : SetState
  pub posts : List Post
  pub events : List Event

-- this state, and neither a letter nor a line
abbrev pub silent : SetState → Made
silent s = record { state = s; posts = []; events = [] }

-- what the second made comes after what the first made
abbrev pub joined : Made → Made → Made
joined first second = record {
  state = second.state;
  posts = first.posts ++ second.posts;
  events = first.events ++ second.events;
}

-- first the one thing, then the rule on the state that it left
abbrev pub then_do : Made → (SetState → Made) → Made
then_do made rule = joined made (rule made.state)

-- a letter of a move with this stamp; it carries the firm link as it is now
abbrev pub post_of : ℕ → Stamp → SetState → ℕ → Body → Post
post_of set stamp s to body =
    record { to = to; letter = record { stamp = stamp; set = set; link = s.firm; body = body } }

-- The desk's queue: asks in the order in which they are served.

-- the place after the last holder's ask: `found` where the rest, which begins at place k, has none
abbrev pub after_holders_from : ℕ → ℕ → List Ask → ℕ
after_holders_from k found [] = found
after_holders_from k found (ask ∷ rest) = after_holders_from (k + 1) (if ask.holder then k + 1 else found) rest

-- where a new ask stands: a holder's directly after the last holder's ask, or first; any other last
abbrev pub place : List Ask → Bool → ℕ
place queue holder = if holder then after_holders_from 0 0 queue else length queue

-- the queue with a new ask
abbrev pub entered : List Ask → Ask → List Ask
entered queue ask = insert queue (place queue ask.holder) ask

-- the modes that these asks want
abbrev pub modes_of_asks : List Ask → Modes
modes_of_asks asks = fold (λ modes ask. with_mode modes ask.mode) no_modes asks

abbrev pub no_ask : Ask
no_ask = record { client = 0; node = 0; mode = IntentionRead; gives_up = None; holder = false; stamp = record { clock = 0; node = 0 } }

abbrev pub has_stamp : Stamp → Ask → Bool
has_stamp stamp ask = ask.stamp.clock == stamp.clock && ask.stamp.node == stamp.node

abbrev pub without_at : List Ask → Option ℕ → List Ask
without_at asks None = asks
without_at asks (Some k) = remove asks k

-- the asks without the one that has this stamp
abbrev pub without : List Ask → Stamp → List Ask
without asks stamp = without_at asks (position (has_stamp stamp) asks)

abbrev pub same_choice : Option Mode → Option Mode → Bool
same_choice None None = true
same_choice (Some a) (Some b) = same_mode a b
same_choice a b = false

abbrev pub same_flag : Bool → Bool → Bool
same_flag true b = b
same_flag false b = not b

-- the asks are equal in all fields
abbrev pub same_ask : Ask → Ask → Bool
same_ask a b =
    has_stamp a.stamp b
    && (a.client == b.client
    && (a.node == b.node
    && (same_mode a.mode b.mode && (same_choice a.gives_up b.gives_up && same_flag a.holder b.holder))))

abbrev pub times_in : Ask → List Ask → ℕ
times_in ask asks = count_by (same_ask ask) asks

-- What the desk knows of the modes at each node.

-- the entry of node x
abbrev pub entry_of : Desk → ℕ → Entry
entry_of desk x = slice_index_or desk.entries x first_entry

-- the modes of owed asks
abbrev pub modes_of_owed : List Owed → Modes
modes_of_owed owed = fold (λ modes (copy : Owed). with_mode modes copy.mode) no_modes owed

-- the record of a node: the modes that it reported, and those of the asks that it was sent copies for
abbrev pub record_of : Entry → Modes
record_of entry = union entry.reported (modes_of_owed entry.owed)

-- the ask with this stamp is unanswered
abbrev pub is_unanswered : List Ask → Stamp → Bool
is_unanswered pending stamp = list_any (has_stamp stamp) pending

-- the owed asks that are unanswered
abbrev pub still_owed : List Ask → List Owed → List Owed
still_owed pending owed = filter (λ (copy : Owed). is_unanswered pending copy.stamp) owed

-- the modes that the desk's own node was sent copies for and hasn't taken yet
abbrev pub own_owed : ℕ → SetState → Desk → Modes
own_owed me s desk = modes_of_owed (still_owed s.pending (entry_of desk me).owed)

-- the own part: what the desk's node holds, and what it is still owed
abbrev pub own_part : ℕ → SetState → Desk → Modes
own_part me s desk = union (held_modes s.held) (own_owed me s desk)

-- what counts of node x: its record, and for the desk's node its own part
abbrev pub modes_at : ℕ → SetState → Desk → ℕ → Modes
modes_at me s desk x = if x == me then own_part me s desk else record_of (entry_of desk x)

-- what counts of the nodes below n, without node v
abbrev pub others_below : ℕ → ℕ → SetState → Desk → ℕ → Modes
others_below zero me s desk v = no_modes
others_below (suc n) me s desk v =
    union (others_below n me s desk v) (if n == v then no_modes else modes_at me s desk n)

-- what counts of all nodes but v
abbrev pub others : ℕ → SetState → Desk → ℕ → Modes
others me s desk v = others_below (length desk.entries) me s desk v
