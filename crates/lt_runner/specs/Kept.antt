-- A runner whose client has a command more.
use Rattle.std.specs.Prelude.{ℕ, false, ◌≡◌, ◌≢◌, ◌==◌, ◌<◌, List, [], ◌∷◌, Option, Some, None, if◌then◌else◌, ◌≤◌, ◌⊎◌, ◌++◌, IsTrue, length, Bool, true, refl}
use mathlib.Core.List.{IsPrefix, append-nil}
use Rattle.lt_modes.specs.declared.command.Command.{Command}
use Rattle.lt_modes.specs.State as rules
use Rattle.lt_modes.specs.State.{Letter}
use Rattle.lt_spec.specs.NodeMove.{appended}
use Rattle.lt_spec.specs.World.{Logged, start}
use Rattle.lt_spec.specs.Plays.{Plays}
use Rattle.lt_law_own_lines.specs.WaitingLaws.{NodeNames}
use Rattle.lt_desk.specs.LetterSeen.{letter_seen}
use Rattle.lt_node.specs.NodeData.{state_of}
use Rattle.lt_mail.specs.Words.{outs_count, ins_count, sent_to, waiting_to, taken_from, known_from, IsFullTo, SameEnds, out_at, in_at, end_at, given_to, places_to, Both, IsOpenLink}
use Rattle.lt_mail.specs.declared.mail.Mail.{Mail}
use Rattle.lt_mail.proofs.LookLemmas.{ends_same}
use Rattle.lt_runner.specs.declared.parts.Parts.{Parts}
use Rattle.lt_runner.specs.declared.parts.Hand.{Hand}
use Rattle.lt_runner.specs.declared.choice.Choice.TheVariants as choices
use Rattle.lt_runner.specs.declared.turning.Found.{Found}
use Rattle.lt_runner.specs.declared.turning.Found.TheVariants as found
use Rattle.lt_runner.specs.declared.turning.Turned.{Turned}
use Rattle.lt_runner.specs.declared.turning.Turned.TheVariants.{Moved, Quiet, Full, NoMemory}
use Rattle.lt_runner.specs.declared.turning.Worked.{Worked}
use Rattle.lt_runner.specs.declared.turning.Worked.TheVariants as worked
use Rattle.lt_runner.specs.Choices.{act_choice, next_choice}
use Rattle.lt_runner.specs.declared.choice.Choice.{Choice}
use Rattle.lt_runner.specs.declared.choice.Choice.TheVariants.{Nothing, Act, Take}

-- the same, but for a command that was appended for the client, which may be able to act now
abbrev pub with_appended : Parts → ℕ → Command → Parts
with_appended p client command = record p { node = record p.node { script = appended p.node.script client command }; idle = false }

-- The letter in hand.

-- the letter in hand, where it came from this node
abbrev pub in_hand : ℕ → Option Hand → List rules.Letter
in_hand node None = []
in_hand node (Some hand) = if node == hand.from then letter_seen hand.letter ∷ [] else []

-- it came from another node of the script
abbrev pub IsFromPeer : ℕ → ℕ → Option Hand → Type 0
IsFromPeer nodes me None = Unit {0}
IsFromPeer nodes me (Some hand) = (hand.from < nodes) × (hand.from ≢ me)

-- a letter that was in hand is in hand
abbrev pub HandStays : Option Hand → Option Hand → Type 0
HandStays None after = Unit {0}
HandStays (Some hand) None = ⊥
HandStays (Some hand) (Some after) = (after.from ≡ hand.from) × (letter_seen after.letter ≡ letter_seen hand.letter)

-- What a runner keeps, and how a turn ends.

-- the node's state and the letters that it sent are what the rules make of its log with the letters that it used, which
-- are those that it took but the one in hand
pub record RunnerInvariant (p : Parts) : Type 0 where
  pub used : ℕ → List Letter
  pub me : p.mail.me ≡ p.node.me
  pub below : p.node.me < p.node.script.nodes
  pub outs : outs_count p.mail ≡ p.node.script.nodes
  pub ins : ins_count p.mail ≡ p.node.script.nodes
  pub plays : Plays p.node.script p.node.me ((start p.node.script).node p.node.me) p.log.entries used (sent_to p.mail) (state_of p.node)
  pub taken : (node : ℕ) → taken_from p.mail node ≡ used node ++ in_hand node p.hand
  pub hand : IsFromPeer p.node.script.nodes p.node.me p.hand
  pub names : NodeNames p.node.script.nodes p.node.me (state_of p.node)
  pub bounded : length p.log.entries ≤ p.limit
  pub posts : p.out.posts ≡ []
  pub events : p.out.events ≡ []
  pub idle : IsTrue p.idle → act_choice p.node.script p.node.me (state_of p.node) ≡ choices.Nothing

-- it has forgotten none of its moves, and none of the commands
abbrev pub HasAll : Parts → Type 0
HasAll p = (p.log.gone ≡ 0) × (p.node.gone ≡ 0)

-- the runner of the same node, with the same ends of rings and the same limit; it forgot no further moves or commands
pub record SameRunner (a b : Parts) : Type 0 where
  pub script : b.node.script ≡ a.node.script
  pub me : b.node.me ≡ a.node.me
  pub limit : b.limit ≡ a.limit
  pub gone : b.log.gone ≡ a.log.gone
  pub commands_gone : b.node.gone ≡ a.node.gone
  pub ends : SameEnds a.mail b.mail

-- nothing happened but that letters may have gone from an outbox to its ring, and one from a ring to the hand
pub record AsSeen (a b : Parts) : Type 0 where
  pub same : SameRunner a b
  pub state : state_of b.node ≡ state_of a.node
  pub log : b.log.entries ≡ a.log.entries
  pub sent : (node : ℕ) → sent_to b.mail node ≡ sent_to a.mail node
  pub used : (node : ℕ) (letters : List Letter) → taken_from a.mail node ≡ letters ++ in_hand node a.hand → taken_from b.mail node ≡ letters ++ in_hand node b.hand
  pub hand : HandStays a.hand b.hand

-- where no letter is in hand, none is known in a ring
abbrev pub KnowsNoLetter : Parts → Type 0
KnowsNoLetter p = p.hand ≡ None → (node : ℕ) → node < p.node.script.nodes → node ≢ p.node.me → known_from p.mail node ≡ []

-- no move is there to be made
pub record RunnerIsQuiet (p : Parts) : Type 0 where
  pub choice : next_choice p ≡ choices.Nothing
  pub rings : KnowsNoLetter p

-- the log is full, and a move more is there to be made
pub record IsFull (p : Parts) : Type 0 where
  pub log : length p.log.entries ≡ p.limit
  pub choice : next_choice p ≢ choices.Nothing

-- a move is there to be made, and the log has a place left for it
pub record CouldMove (p : Parts) : Type 0 where
  pub place : length p.log.entries < p.limit
  pub choice : next_choice p ≢ choices.Nothing

-- how a look for a move ends
abbrev pub FindEnds : Found → Parts → Type 0
FindEnds (found.Move choice) p = (next_choice p ≡ choice) × CouldMove p
FindEnds found.Quiet p = RunnerIsQuiet p
FindEnds found.Full p = IsFull p

-- each outbox is empty, or its ring is full
abbrev pub IsFlushed : Parts → Type 0
IsFlushed p = (node : ℕ) → (waiting_to p.mail node ≡ []) ⊎ IsFullTo p.mail node

-- each letter that was sent before is in its ring, or that ring is full
abbrev pub HasPassedOn : Parts → Parts → Type 0
HasPassedOn a b = (node : ℕ) → IsPrefix (sent_to a.mail node) (given_to b.mail node) ⊎ IsFullTo b.mail node

-- what was sent before is sent, and maybe more
abbrev pub SendsOn : Parts → Parts → Type 0
SendsOn a b = (node : ℕ) → IsPrefix (sent_to a.mail node) (sent_to b.mail node)

-- no letter went to a ring
abbrev pub KeepsRings : Parts → Parts → Type 0
KeepsRings a b = (node : ℕ) → end_at b.mail node ≡ end_at a.mail node

-- the rings were given no letters
abbrev pub KeepsGiven : Parts → Parts → Type 0
KeepsGiven a b = (node : ℕ) → given_to b.mail node ≡ given_to a.mail node

-- one move was made
abbrev pub MovedOne : Parts → Parts → Type 0
MovedOne a b = (entry : Logged) × (b.log.entries ≡ a.log.entries ++ entry ∷ [])

-- how a turn ends
abbrev pub TurnEnds : Turned → Parts → Parts → Type 0
TurnEnds Moved a b = MovedOne a b × (length a.log.entries < a.limit)
TurnEnds Quiet a b = AsSeen a b × RunnerIsQuiet b
TurnEnds Full a b = AsSeen a b × IsFull b
TurnEnds NoMemory a b = AsSeen a b × CouldMove b

-- the runner is the same, and its log goes on from what it was
pub record Grew (a b : Parts) : Type 0 where
  pub same : SameRunner a b
  pub log : IsPrefix a.log.entries b.log.entries

-- how work ends with this patience
abbrev pub WorkEnds : Worked → ℕ → Parts → Type 0
WorkEnds worked.Idle patience p = 0 < patience → RunnerIsQuiet p
WorkEnds worked.Full patience p = IsFull p
WorkEnds worked.NoMemory patience p = CouldMove p

-- What runners see of each other while none of them is at work.

-- the choice is a move
abbrev pub is_move : Choice → Bool
is_move Nothing = false
is_move (Act client) = true
is_move Take = true

-- the one has an end of the ring to the other, which has its other end
abbrev pub AreBeside : Parts → Parts → Type 0
AreBeside x y = Both IsOpenLink (out_at x.mail y.node.me) (in_at y.mail x.node.me)

-- what node b took of node a, and what it knows to come, is what the ring was given; where it has no letter in hand and
-- nothing is known to come, nothing waits to be sent
pub record HasMet (a b : ℕ) (x y : Parts) : Type 0 where
  pub whole : taken_from y.mail a ++ known_from y.mail a ≡ given_to x.mail b
  pub moves : y.hand ≡ None → known_from y.mail a ≡ [] → waiting_to x.mail b ≡ []

-- whatever node b has in hand: nothing waits to be sent where nothing is known to come, nor where the ring was given
-- fewer letters than it has places; and else a letter is known at each place
pub record FlushesTo (a b : ℕ) (x y : Parts) : Type 0 where
  pub moves : known_from y.mail a ≡ [] → waiting_to x.mail b ≡ []
  pub first : length (given_to x.mail b) < places_to x.mail b → waiting_to x.mail b ≡ []
  pub stops : (waiting_to x.mail b ≡ []) ⊎ (places_to x.mail b ≤ length (known_from y.mail a))

-- where no letter is in hand, none is known to come
abbrev pub HasFetched : Parts → Type 0
HasFetched p = p.hand ≡ None → (node : ℕ) → node ≢ p.node.me → known_from p.mail node ≡ []

-- nothing happened but that letters may have gone from the outbox to the node to its ring
pub record LooksTo (to : ℕ) (a b : Parts) : Type 0 where
  pub seen : AsSeen a b
  pub hand : b.hand ≡ a.hand
  pub outs : (node : ℕ) → node ≢ to → out_at b.mail node ≡ out_at a.mail node
  pub ins : (node : ℕ) → in_at b.mail node ≡ in_at a.mail node

-- nothing happened but that more letters of the node may be known
pub record LooksFrom (from : ℕ) (a b : Parts) : Type 0 where
  pub seen : AsSeen a b
  pub hand : b.hand ≡ a.hand
  pub outs : (node : ℕ) → out_at b.mail node ≡ out_at a.mail node
  pub ins : (node : ℕ) → node ≢ from → in_at b.mail node ≡ in_at a.mail node

-- nothing happened but that a letter that was known to come may be in hand
pub record Fetches (a b : Parts) : Type 0 where
  pub seen : AsSeen a b
  pub outs : (node : ℕ) → out_at b.mail node ≡ out_at a.mail node
  pub whole : (node : ℕ) → taken_from b.mail node ++ known_from b.mail node ≡ taken_from a.mail node ++ known_from a.mail node
  pub none : b.hand ≡ None → (node : ℕ) → known_from b.mail node ≡ known_from a.mail node

-- a letter that was known to come was taken; or none was, and then none was known of the first of the other nodes
pub record Knows (nodes me first : ℕ) (a b : Mail) (hand : Option Hand) : Type 0 where
  pub ends : SameEnds a b
  pub outs : (node : ℕ) → out_at b node ≡ out_at a node
  pub taken : (node : ℕ) → taken_from b node ≡ taken_from a node ++ in_hand node hand
  pub known : (node : ℕ) → known_from a node ≡ in_hand node hand ++ known_from b node
  pub from : IsFromPeer nodes me hand
  pub none : hand ≡ None → (node : ℕ) → node < first → node ≢ me → known_from b node ≡ []

-- no letter of the first of the other nodes is known
abbrev pub NoneKnown : ℕ → ℕ → Mail → Type 0
NoneKnown first me m = (node : ℕ) → node < first → node ≢ me → known_from m node ≡ []

-- A runner goes on from itself.

pub grew_itself : (p : Parts) → Grew p p
grew_itself p = record {
  same = record { script = refl; me = refl; limit = refl; gone = refl; commands_gone = refl; ends = ends_same p.mail };
  log = ([], append-nil p.log.entries);
}
