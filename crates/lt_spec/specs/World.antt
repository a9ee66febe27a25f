-- The world, its enabled moves and its runs; how a run ends, and which of its lines are whose.
use Rattle.std.specs.Prelude.{List, ◌≡◌, Bool, true, false, ◌&&◌, ◌==◌, not, nat_lt, ℕ, [], ◌∷◌, ◌++◌, Option, Some, None, if◌then◌else◌, length, drop, IsTrue, ◌||◌, count_by, filter, filter_map}
use Rattle.std.specs.List.{AllByRecursion}
use Rattle.lt_modes.specs.declared.moves.Move.{Move}
use Rattle.lt_modes.specs.declared.event.Event.{Event}
use Rattle.lt_modes.specs.declared.stamp.Stamp.{Stamp}
use Rattle.lt_modes.specs.declared.moves.Step.{Step}
use Rattle.lt_modes.specs.declared.moves.Step.TheVariants.{Act, Take}
use Rattle.lt_modes.specs.Script.{ScriptData}
use Rattle.lt_modes.specs.State.{Letter, Body, AskBody, TellBody, CopyBody, TokenBody, FreezeBody, first_state, Post}
use Rattle.lt_modes.specs.declared.event.Event.TheVariants.{Grant, Wait, Try, Unlock, NotHeld, Change, DropAll, Busy, Withdraw, Withdrawn, Void, Withheld, Copy, Freeze, Token}
use Rattle.lt_lists.specs.Below.{any_below, put, first_below}
use Rattle.lt_spec.specs.NodeMove.{home, NodeState, NodeMade, no_move, has_command, node_waits, node_act, node_take, act_stamp, take_stamp, is_free_at}
use Rattle.lt_spec.specs.declared.ending.Ending.{Ending}
use Rattle.lt_spec.specs.declared.ending.Ending.TheVariants.{Done, Stuck, Cut}

-- Logs: moves with their events, in order.

-- a move that was made, and its events in order
pub record Logged : Type 0 where
  pub made : Move
  pub events : List Event

-- The world: the nodes and the letters on their way, its enabled moves, and runs.

-- the nodes; the letters on their way from one node to another, the oldest first;
-- and for each set the nodes that had its token, node 0 first
pub record World : Type 0 where
  pub node : ℕ → NodeState
  pub mail : ℕ → ℕ → List Letter
  pub went : ℕ → List ℕ

-- nobody holds a lock, nothing is on its way, and node 0 has the desk of each set
abbrev pub start : ScriptData → World
start script = record {
  node = λ q. record { clock = 0; made = λ c. 0; set = λ s. first_state script.nodes q };
  mail = λ p q. [];
  went = λ s. 0 ∷ [];
}

-- how many commands the client has made
abbrev pub made_by : ScriptData → World → ℕ → ℕ
made_by script w client = (w.node (home script client)).made client

-- an ask of the client is unanswered, in some set, and wasn't given up
abbrev pub is_waiting : ScriptData → World → ℕ → Bool
is_waiting script w client = node_waits script (w.node (home script client)) client

-- the client doesn't wait, or its next command gives up what it waits for
abbrev pub is_free_to_act : ScriptData → World → ℕ → Bool
is_free_to_act script w client = is_free_at script (w.node (home script client)) client

-- so it is, and the client has a command left
abbrev pub is_runnable : ScriptData → World → ℕ → Bool
is_runnable script w client =
    is_free_to_act script w client && has_command script (w.node (home script client)) client

abbrev pub is_some_letter : List Letter → Bool
is_some_letter [] = false
is_some_letter (letter ∷ rest) = true

-- a letter is on its way from p to q
abbrev pub has_mail : ScriptData → World → ℕ → ℕ → Bool
has_mail script w p q =
    nat_lt p script.nodes && (nat_lt q script.nodes && (not (p == q) && is_some_letter (w.mail p q)))

-- node q can make the move
abbrev pub is_enabled : ScriptData → World → ℕ → Step → Bool
is_enabled script w q (Act client) =
    nat_lt client (length script.clients) && (home script client == q && is_runnable script w client)
is_enabled script w q (Take p) = has_mail script w p q

-- no client is runnable, and no letter is on its way
abbrev pub is_at_rest : ScriptData → World → Bool
is_at_rest script w =
    not (any_below (length script.clients) (is_runnable script w))
    && not (any_below script.nodes (λ p. any_below script.nodes (has_mail script w p)))

-- some client waits
abbrev pub anyone_waits : ScriptData → World → Bool
anyone_waits script w = any_below (length script.clients) (is_waiting script w)

-- no set at any node has the mark of an ask that was given up
abbrev pub IsUnmarked : World → Type 0
IsUnmarked w = (q s : ℕ) → ((w.node q).set s).gone ≡ []

-- the stamp of the take of the front letter of this list
abbrev pub front_stamp : ℕ → NodeState → List Letter → Stamp
front_stamp q n [] = act_stamp q n
front_stamp q n (letter ∷ rest) = take_stamp q n letter

-- the stamp of the move
abbrev pub move_stamp : World → ℕ → Step → Stamp
move_stamp w q (Act client) = act_stamp q (w.node q)
move_stamp w q (Take p) = front_stamp q (w.node q) (w.mail p q)

-- what node q makes of the front letter of this list
abbrev pub take_front : ℕ → NodeState → List Letter → NodeMade
take_front q n [] = no_move n
take_front q n (letter ∷ rest) = node_take q letter n

-- what node q makes of the step
abbrev pub node_move : ScriptData → World → ℕ → Step → NodeMade
node_move script w q (Act client) = node_act script q client (w.node q)
node_move script w q (Take p) = take_front q (w.node q) (w.mail p q)

-- the entry that the move has in a run
abbrev pub logged : ScriptData → World → ℕ → Step → Logged
logged script w q step = record {
  made = record { stamp = move_stamp w q step; step = step };
  events = (node_move script w q step).events;
}

-- the letters with this list from p to q
abbrev pub put_mail : (ℕ → ℕ → List Letter) → ℕ → ℕ → List Letter → ℕ → ℕ → List Letter
put_mail mail p q letters a b = if a == p && b == q then letters else mail a b

-- the world as the step finds it: the letter that is taken is on its way no more
abbrev pub opened : World → ℕ → Step → World
opened w q (Act client) = w
opened w q (Take p) = record w { mail = put_mail w.mail p q (drop 1 (w.mail p q)) }

abbrev pub letter_for : ℕ → Post → Option Letter
letter_for q post = if post.to == q then Some post.letter else None

-- the letters after node p has sent these
abbrev pub sent : ℕ → List Post → (ℕ → ℕ → List Letter) → ℕ → ℕ → List Letter
sent p posts mail a b = mail a b ++ (if a == p then filter_map (letter_for b) posts else [])

abbrev pub token_by : Body → ℕ → Option ℕ
token_by (TokenBody desk) to = Some to
token_by (AskBody ask marked) to = None
token_by (TellBody tell) to = None
token_by (CopyBody ask) to = None
token_by (FreezeBody number modes) to = None

-- the node to which the letter brings the token of this set, where it does
abbrev pub token_to : ℕ → Post → Option ℕ
token_to s post = if post.letter.set == s then token_by post.letter.body post.to else None

-- the world once node q has made this
abbrev pub after_made : ℕ → NodeMade → World → World
after_made q made w = record {
  node = put w.node q made.node;
  mail = sent q made.posts w.mail;
  went = λ s. w.went s ++ filter_map (token_to s) made.posts;
}

-- the world after the move
abbrev pub after : ScriptData → World → ℕ → Step → World
after script w q step = after_made q (node_move script w q step) (opened w q step)

-- the world after the moves of a run that began in w
abbrev pub after_run : ScriptData → World → List Logged → World
after_run script w [] = w
after_run script w (entry ∷ rest) = after_run script (after script w entry.made.stamp.node entry.made.step) rest

-- the world after the moves of a run from the start
abbrev pub world_after : ScriptData → List Logged → World
world_after script run = after_run script (start script) run

-- the entry is an enabled move, with its stamp and its events
pub record IsMove (script : ScriptData) (w : World) (entry : Logged) : Type 0 where
  pub enabled : IsTrue (is_enabled script w entry.made.stamp.node entry.made.step)
  pub made : entry ≡ logged script w entry.made.stamp.node entry.made.step

abbrev pub IsRunFrom : ScriptData → World → List Logged → Type 0
IsRunFrom script w [] = Unit {0}
IsRunFrom script w (entry ∷ rest) =
    IsMove script w entry × IsRunFrom script (after script w entry.made.stamp.node entry.made.step) rest

-- each move is enabled in its turn, from the start on
abbrev pub IsRun : ScriptData → List Logged → Type 0
IsRun script run = IsRunFrom script (start script) run

abbrev pub is_of_node : ℕ → Logged → Bool
is_of_node q entry = entry.made.stamp.node == q

-- Where a run is cut: at a node that has made as many moves as it may, and has a further one.

-- how many moves of the run are of node q
abbrev pub moves_of : ℕ → List Logged → ℕ
moves_of q run = count_by (is_of_node q) run

-- node q can make a move
abbrev pub can_move : ScriptData → World → ℕ → Bool
can_move script w q =
    any_below script.nodes (λ p. is_enabled script w q (Take p))
    || any_below (length script.clients) (λ client. is_enabled script w q (Act client))

-- node q has made as many moves as it may, and could make another
abbrev pub is_full : ScriptData → ℕ → List Logged → ℕ → Bool
is_full script limit run q = moves_of q run == limit && can_move script (world_after script run) q

-- the least such node
abbrev pub full_node : ScriptData → ℕ → List Logged → Option ℕ
full_node script limit run = first_below script.nodes (is_full script limit run) nat_lt

-- How a run of a script ends, where a node makes up to so many moves.

-- at rest with nobody waiting, at rest with somebody waiting, or where this node, the least such one, has made as many moves
-- as it may and has a further one
abbrev pub EndsBy : ℕ → Ending → ScriptData → List Logged → Type 0
EndsBy limit Done script run =
    (is_at_rest script (world_after script run) ≡ true) × (anyone_waits script (world_after script run) ≡ false)
EndsBy limit Stuck script run =
    (is_at_rest script (world_after script run) ≡ true) × (anyone_waits script (world_after script run) ≡ true)
EndsBy limit (Cut node) script run = full_node script limit run ≡ Some node

-- The lines of a client: those that name it as the one that acts or is answered.

-- the client that acts or is answered by the line; lines of copies, freezes and tokens have none
abbrev pub line_client : Event → Option ℕ
line_client (Grant client s mode) = Some client
line_client (Wait client s mode) = Some client
line_client (Try client s mode got) = Some client
line_client (Unlock client s mode) = Some client
line_client (NotHeld client s mode) = Some client
line_client (Change client s gives_up mode) = Some client
line_client (DropAll client other s count) = Some client
line_client (Busy client other s) = Some client
line_client (Withdraw client other s got) = Some client
line_client (Withdrawn client s mode) = Some client
line_client (Void client s mode) = Some client
line_client (Withheld client s mode) = Some client
line_client (Copy s to client mode) = None
line_client (Freeze s to number modes) = None
line_client (Token s to epoch) = None

abbrev pub IsOfNode : ScriptData → ℕ → Option ℕ → Type 0
IsOfNode script q (Some client) = home script client ≡ q
IsOfNode script q None = Unit {0}

-- the line's client, where it has one, is of node q
abbrev pub IsOwnLine : ScriptData → ℕ → Event → Type 0
IsOwnLine script q line = IsOfNode script q (line_client line)

-- all lines of the entry are of clients of the node that moved
abbrev pub HasOwnLines : ScriptData → Logged → Type 0
HasOwnLines script entry = AllByRecursion (IsOwnLine script entry.made.stamp.node) entry.events

-- the line is a reply to the client: an answer to one of its commands
abbrev pub is_reply_to : ℕ → Event → Bool
is_reply_to client (Grant c s mode) = c == client
is_reply_to client (Wait c s mode) = false
is_reply_to client (Try c s mode got) = c == client
is_reply_to client (Unlock c s mode) = c == client
is_reply_to client (NotHeld c s mode) = c == client
is_reply_to client (Change c s gives_up mode) = c == client
is_reply_to client (DropAll c other s count) = c == client
is_reply_to client (Busy c other s) = c == client
is_reply_to client (Withdraw c other s got) = c == client
is_reply_to client (Withdrawn c s mode) = c == client
is_reply_to client (Void c s mode) = false
is_reply_to client (Withheld c s mode) = c == client
is_reply_to client (Copy s to c mode) = false
is_reply_to client (Freeze s to number modes) = false
is_reply_to client (Token s to epoch) = false

-- the replies to the client among these lines, in order
abbrev pub replies_of : ℕ → List Event → List Event
replies_of client lines = filter (is_reply_to client) lines
