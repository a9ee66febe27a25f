-- The way of a set's token, and the links that lead to it.
use Rattle.std.specs.Prelude.{◌≡◌, ◌≢◌, ◌⊎◌, ◌≤◌, ◌<◌, ℕ, ◌+◌, List, Option, Some, None, length, slice_index, IfSome, All, ◌&&◌, ◌==◌, false, count_by, is_none, ◌↔◌, [], IsTrue, Contains, AllPairs, Bool, not}
use Rattle.lt_modes.specs.declared.ask.Ask.{Ask}
use Rattle.lt_modes.specs.declared.parts.Link.{Link}
use Rattle.lt_modes.specs.declared.parts.Hoped.{Hoped}
use Rattle.lt_modes.specs.Script.{ScriptData}
use Rattle.lt_modes.specs.State.{SetState, Desk, Body, AskBody, TellBody, CopyBody, TokenBody, FreezeBody, Letter, Parked, ParkedAsk, ParkedTell, times_in}
use Rattle.lt_modes.specs.Modes.{locks_of, excludes_itself, count_of}
use Rattle.lt_modes.specs.Fits.{numbers_of}
use Rattle.lt_modes.specs.Sound.{SoundSet}
use Rattle.lt_modes.specs.declared.mode.Mode.{Mode}
use Rattle.lt_modes.specs.declared.event.Event.{Event}
use Rattle.lt_modes.specs.Serving.{next_service, is_gone}
use Rattle.lt_modes.specs.Telling.{is_newer}
use Rattle.lt_modes.specs.HandingOver.{next_draw}
use Rattle.lt_lists.specs.Below.{sum_below}
use Rattle.lt_spec.specs.World.{World}
use Rattle.lt_spec.specs.Facts.{state_at, token_count, OnWay, place_count, Comes, DeskIs}
use Rattle.lt_spec.specs.NodeMove.{NodeState, home}
use Rattle.lt_spec.specs.Holdings.{Holding, holding, holdings, wanted, times_held, WaitsFor}
use Rattle.lt_law_accounts.specs.Account.{AreClear, AccountKept, counted}
use Rattle.lt_law_accounts.specs.News.{NewsKept}
use Rattle.lt_model.specs.OnWay.{Moment, Between, is_moving, is_unfrozen, IsCopyTo, account_of, news_of}

-- the token went to the link's node with the link's epoch
pub record IsTrueLink (went : List ℕ) (link : Link) : Type 0 where
  pub epoch : link.epoch < length went
  pub node : slice_index went link.epoch ≡ link.node

-- the ask is of a node of the script
abbrev pub IsNamed : ℕ → Ask → Type 0
IsNamed nodes ask = ask.node < nodes

abbrev pub IsParkedNamed : ℕ → Parked → Type 0
IsParkedNamed nodes (ParkedAsk ask) = IsNamed nodes ask
IsParkedNamed nodes (ParkedTell tell) = Unit {0}

-- a desk that is at node t or on its way there has the epoch of the last token move, which was to t;
-- it has an entry for each node, and its asks are of nodes of the script
pub record DeskOnPath (nodes : ℕ) (went : List ℕ) (t : ℕ) (desk : Desk) : Type 0 where
  pub epoch : desk.epoch + 1 ≡ length went
  pub node : slice_index went desk.epoch ≡ t
  pub entries : length desk.entries ≡ nodes
  pub queue : All (IsNamed nodes) desk.queue

-- node x knows of a token move after each one that was to it, but for the last one, with which the token is on its way
abbrev pub KnowsLater : List ℕ → ℕ → Link → Type 0
KnowsLater went x firm = (epoch : ℕ) → epoch < length went → slice_index went epoch ≡ x
    → (epoch < firm.epoch) ⊎ (epoch + 1 ≡ length went)

-- the firm link of the desk's node is the desk's; any other node knows of later token moves
abbrev pub HasWay : ℕ → List ℕ → ℕ → Link → Option Desk → Type 0
HasWay nodes went x firm None = KnowsLater went x firm
HasWay nodes went x firm (Some desk) =
    DeskOnPath nodes went x desk × (firm.node ≡ x) × (firm.epoch ≡ desk.epoch)

-- what node x keeps leads to the token: its firm link is true, its hoped link names another node of the script
pub record StateOnPath (nodes : ℕ) (went : List ℕ) (x : ℕ) (s : SetState) : Type 0 where
  pub link : IsTrueLink went s.firm
  pub way : HasWay nodes went x s.firm s.desk
  pub hoped : IfSome s.hoped (λ (link : Hoped). (link.node < nodes) × (link.node ≢ x))
  pub parked : All (IsParkedNamed nodes) s.parked

abbrev pub BodyOnPath : ℕ → List ℕ → ℕ → Body → Type 0
BodyOnPath nodes went q (AskBody ask marked) = IsNamed nodes ask
BodyOnPath nodes went q (TokenBody desk) = DeskOnPath nodes went q desk
BodyOnPath nodes went q (TellBody tell) = Unit {0}
BodyOnPath nodes went q (CopyBody ask) = Unit {0}
BodyOnPath nodes went q (FreezeBody number modes) = Unit {0}

-- a letter from p to q goes to another node of the script, and its link is true
pub record LetterOnPath (nodes : ℕ) (went : List ℕ) (p q : ℕ) (letter : Letter) : Type 0 where
  pub to : q < nodes
  pub other : q ≢ p
  pub link : IsTrueLink went letter.link
  pub body : BodyOnPath nodes went q letter.body

-- there is one token of the set, it went from node to node of the script, and each link is true
pub record Paths (script : ScriptData) (w : World) (s : ℕ) : Type 0 where
  pub went : All (λ x. x < script.nodes) (w.went s)
  pub some : 1 ≤ length (w.went s)
  pub states : (x : ℕ) → x < script.nodes → StateOnPath script.nodes (w.went s) x (state_at w s x)
  pub beyond : (x : ℕ) → script.nodes ≤ x → (state_at w s x).desk ≡ None
  pub letters : (p q : ℕ) (letter : Letter) → p < script.nodes → OnWay w s p q letter
      → LetterOnPath script.nodes (w.went s) p q letter
  pub one_token : token_count script w s ≡ 1

-- What holds of a node and of the world's numbers.

-- the ask is one of the client, and wasn't given up
abbrev pub is_live : SetState → ℕ → Ask → Bool
is_live s client ask = not (is_gone s client) && ask.client == client

-- how many asks of the client are unanswered and weren't given up, over all sets
abbrev pub unanswered_asks : ScriptData → NodeState → ℕ → ℕ
unanswered_asks script n client =
    sum_below (length script.sets) (λ s. count_by (is_live (n.set s) client) (n.set s).pending)

-- how many of them give up no mode
abbrev pub new_asks_of : ScriptData → NodeState → ℕ → ℕ
new_asks_of script n client =
    sum_below (length script.sets)
    (λ s. count_by (λ (ask : Ask). is_live (n.set s) client ask && is_none ask.gives_up) (n.set s).pending)

-- how many locks the client holds, over all sets
abbrev pub locks_in_all : ScriptData → NodeState → ℕ → ℕ
locks_in_all script n client = sum_below (length script.sets) (λ s. locks_of (n.set s).held client)

-- a client waits for at most one ask that wasn't given up, and each of its locks and of its asks for one more came by a command of its own
pub record ClientsKept (script : ScriptData) (n : NodeState) : Type 0 where
  pub one_ask : (client : ℕ) → unanswered_asks script n client ≤ 1
  pub counts : (client : ℕ) → locks_in_all script n client + new_asks_of script n client ≤ n.made client

-- between moves each set is sound, and so is what the clients hold and wait for
pub record SoundNode (script : ScriptData) (q : ℕ) (n : NodeState) : Type 0 where
  pub sets : (s : ℕ) → s < length script.sets → SoundSet (numbers_of script) q false false n.clock (n.set s)
  pub clients : ClientsKept script n

-- What is to hold of every world of a run: the world invariant.

-- what the letter says is not younger than the letter, and a tell is of a node of the script
abbrev pub BodyKept : ScriptData → ℕ → Body → Type 0
BodyKept script clock (AskBody ask marked) = Unit {0}
BodyKept script clock (CopyBody ask) = Unit {0}
BodyKept script clock (TellBody tell) = (tell.stamp.clock ≤ clock) × (tell.node < script.nodes)
BodyKept script clock (FreezeBody number modes) = number ≤ clock
BodyKept script clock (TokenBody desk) = (desk.epoch ≤ clock) × (desk.number ≤ clock)

-- a letter on its way from p
pub record LetterKept (script : ScriptData) (w : World) (p : ℕ) (letter : Letter) : Type 0 where
  pub clock : letter.stamp.clock ≤ (w.node p).clock
  pub sender : letter.stamp.node ≡ p
  pub epoch : letter.link.epoch ≤ letter.stamp.clock
  pub body : BodyKept script letter.stamp.clock letter.body

-- each unanswered ask stands in one place, nothing else stands anywhere, and a copy goes to its ask's node
pub record PlacesKept (script : ScriptData) (w : World) (s : ℕ) : Type 0 where
  pub once : (ask : Ask)
      → place_count script w s ask ≡ sum_below script.nodes (λ x. times_in ask (state_at w s x).pending)
  pub home : (x : ℕ) (ask : Ask) → x < script.nodes → IsCopyTo script w s x ask → ask.node ≡ x

-- what is parked at x waits for the token that is on its way there, or is an ask behind an older taking ask of x
abbrev pub IsParkedFor : ScriptData → World → ℕ → ℕ → Parked → Type 0
IsParkedFor script w s x (ParkedTell tell) = (desk : Desk) × Comes script w s x (TokenBody desk)
IsParkedFor script w s x (ParkedAsk ask) =
    ((desk : Desk) × Comes script w s x (TokenBody desk))
    ⊎ ((older : Ask) × Contains (state_at w s x).pending older × IsTrue (excludes_itself older.mode)
    × IsTrue (is_newer ask.stamp older.stamp))

-- with the desk at this place each node's account and news are kept, and what counts of different nodes is clear of each other
pub record DeskKept (script : ScriptData) (moment : Moment) (w : World) (s : ℕ) (place : Option ℕ) (desk : Desk) : Type 0 where
  pub accounts : (x : ℕ) → x < script.nodes → AccountKept (account_of script moment w s place desk x)
  pub clear : (x y : ℕ) → x < script.nodes → y < script.nodes → x ≢ y
      → AreClear (counted (account_of script moment w s place desk x)) (counted (account_of script moment w s place desk y))
  pub news : (x : ℕ) → x < script.nodes → NewsKept (news_of script moment w s place desk x)

-- where the desk is at a node, no ask can be served there and none can draw the desk away
abbrev pub IsServed : ScriptData → World → ℕ → Type 0
IsServed script w s = (t : ℕ) (desk : Desk) → DeskIs script w s (Some t) desk
    → (next_service t (state_at w s t) ≡ None) × (next_draw t (state_at w s t) ≡ None)

-- the same, unless the desk's node is in the middle of its move
abbrev pub IsServedBut : ScriptData → Moment → World → ℕ → Type 0
IsServedBut script moment w s = (t : ℕ) (desk : Desk) → is_moving moment t ≡ false → DeskIs script w s (Some t) desk
    → (next_service t (state_at w s t) ≡ None) × (next_draw t (state_at w s t) ≡ None)

-- what holds of one set at a moment. In the middle of a move, what its node keeps and has said (but for an ask that it made in
-- this move) is before its clock, its charge may bar more than what it holds, and where the desk is there services may be left;
-- until it has frozen, its freeze number is before its clock too, and nodes may not yet have been told what the queue freezes
pub record SetKept (script : ScriptData) (moment : Moment) (w : World) (s : ℕ) : Type 0 where
  pub paths : Paths script w s
  pub letters : (p q : ℕ) (letter : Letter) → p < script.nodes → q < script.nodes → OnWay w s p q letter
      → LetterKept script w p letter
  pub states : (x : ℕ) → x < script.nodes → SoundSet (numbers_of script) x (is_moving moment x) (is_unfrozen moment x) (w.node x).clock (state_at w s x)
  pub places : PlacesKept script w s
  pub parked : (x : ℕ) → x < script.nodes → All (IsParkedFor script w s x) (state_at w s x).parked
  pub known : (place : Option ℕ) (desk : Desk) → DeskIs script w s place desk → DeskKept script moment w s place desk
  pub served : IsServedBut script moment w s

-- the world invariant, between moves: clients wait for one ask at most, letters go to other nodes and are of
-- sets of the script, and each set is kept
pub record WorldInvariant (script : ScriptData) (w : World) : Type 0 where
  pub clients : (q : ℕ) → q < script.nodes → ClientsKept script (w.node q)
  pub letters : (p q : ℕ) → p < script.nodes → q < script.nodes
      → All (λ (letter : Letter). letter.set < length script.sets) (w.mail p q)
  pub none_to_itself : (q : ℕ) → q < script.nodes → w.mail q q ≡ []
  pub sets : (s : ℕ) → s < length script.sets → SetKept script Between w s

-- the lines so far tell what is held and who waits: after them clients of the script hold locks in sets of it, each as many as
-- its node keeps for it, and each waits exactly for what an unanswered ask of it wants
pub record LinesKept (script : ScriptData) (lines : List Event) (w : World) : Type 0 where
  pub named : (lock : Holding) → Contains (holdings script lines) lock → (lock.client < length script.clients) × (lock.set < length script.sets)
  pub held : (client s : ℕ) (mode : Mode) → client < length script.clients → s < length script.sets
      → times_held (holdings script lines) (holding client s mode) ≡ count_of (state_at w s (home script client)).held client mode
  pub waits : (client s : ℕ) (mode : Mode) → client < length script.clients → s < length script.sets
      → (wanted client lines ≡ Some (holding client s mode)) ↔ WaitsFor script w client s mode

-- Where the asks of a set stand, and whose they are.

-- the ask was made by this node, no later than this clock
abbrev pub IsMadeBy : ℕ → ℕ → Ask → Type 0
IsMadeBy node clock ask = (ask.node ≡ node) × (ask.stamp.clock ≤ clock)

-- each unanswered ask stands in one place; unanswered at a node are its own asks, with different stamps
pub record AsksStand (script : ScriptData) (w : World) (s : ℕ) : Type 0 where
  pub places : PlacesKept script w s
  pub own : (x : ℕ) → x < script.nodes → All (IsMadeBy x (w.node x).clock) (state_at w s x).pending
  pub apart : (x : ℕ) → x < script.nodes → AllPairs (λ (a b : Ask). a.stamp ≢ b.stamp) (state_at w s x).pending

-- No node keeps an epoch or a freeze number, and no letter says an epoch, a freeze number or a tell, that is younger than its
-- clock.

-- neither an epoch nor a freeze number that is kept for a set is above the clock
pub record StateTimed (clock : ℕ) (s : SetState) : Type 0 where
  pub epoch : s.firm.epoch ≤ clock
  pub number : s.number ≤ clock
  pub desk : IfSome s.desk (λ (desk : Desk). (desk.epoch ≤ clock) × (desk.number ≤ clock))

-- at no node, and in no letter of the set
pub record Timed (script : ScriptData) (w : World) (s : ℕ) : Type 0 where
  pub states : (x : ℕ) → x < script.nodes → StateTimed (w.node x).clock (state_at w s x)
  pub letters : (p q : ℕ) (letter : Letter) → p < script.nodes → OnWay w s p q letter → LetterKept script w p letter
