-- That the replies to a client answer its commands, one each and in order, as laws.
use Rattle.std.specs.Prelude.{◌≡◌, ◌⊎◌, ◌<◌, ◌+◌, ℕ, List, length, take, filter, Contains, Bool, true, false, codes, [], ◌∷◌}
use Rattle.lt_modes.specs.declared.ask.Ask.{Ask}
use Rattle.lt_modes.specs.Script.{ScriptData}
use Rattle.lt_modes.specs.Serving.{answer_event, is_gone}
use Rattle.lt_modes.specs.declared.mode.Mode.TheVariants.{Read, Upgrade, IntentionWrite, Write}
use Rattle.lt_modes.specs.declared.command.Command.TheVariants.{Lock, Change, Withdraw}
use Rattle.lt_modes.specs.declared.event.Event.{Event}
use Rattle.lt_modes.specs.declared.event.Event.TheVariants.{Grant, Wait, Try as Tried, Unlock as Unlocked, NotHeld, Change as Changed, DropAll as Dropped, Busy, Withdraw as WithdrawLine, Withdrawn, Withheld, Void}
use Rattle.lt_lists.specs.Below.{one_if}
use Rattle.lt_spec.specs.NodeMove.{home, commands_of, IsWhole}
use Rattle.lt_spec.specs.Holdings.{lines_of}
use Rattle.lt_spec.specs.World.{Logged, made_by, is_waiting, is_of_node, world_after, IsRun, replies_of}
use Rattle.lt_spec.specs.Facts.{state_at}
use Rattle.lt_spec.specs.Script.{AnswersAt, AnswersInTurn, unanswered_commands, AnswersCommand}
use Rattle.lt_law_examples.specs.Worked.{Worked, IsWholeRun, declared_set, declared_client, act, holds, owner}
use Rattle.lt_law_examples.specs.WorkedOneNode.{never_held, drop_in_family}
use Rattle.lt_law_examples.specs.WorkedNodes.{try_at_home, change_after_reader}
use Rattle.lt_law_examples.specs.WorldBusy.{busy_in_another_set}

-- after each prefix of each run each reply to a client answers the command at its place
abbrev pub RepliesInTurn : Type 0
RepliesInTurn = (script : ScriptData) (run : List Logged) → IsWhole script → IsRun script run → (k client : ℕ)
    → AnswersInTurn client (commands_of script client) (replies_of client (lines_of (take k run)))

-- and so it is of the replies in a log that has the entries of the client's node
abbrev pub LogInTurn : Type 0
LogInTurn = (script : ScriptData) (run log : List Logged) → IsWhole script → IsRun script run → (client : ℕ)
    → filter (is_of_node (home script client)) run ≡ log
    → AnswersInTurn client (commands_of script client) (replies_of client (lines_of log))

-- each command that a client has made has its reply, but for the last one of a client that waits
abbrev pub OneReplyEach : Type 0
OneReplyEach = (script : ScriptData) (run : List Logged) → IsWhole script → IsRun script run → (k client : ℕ)
    → length (replies_of client (lines_of (take k run)))
    + one_if (is_waiting script (world_after script (take k run)) client)
    ≡ made_by script (world_after script (take k run)) client

-- so one command is unanswered where the client waits, and none where it doesn't
abbrev pub UnansweredWait : Type 0
UnansweredWait = (script : ScriptData) (run : List Logged) → IsWhole script → IsRun script run → (k client : ℕ)
    → unanswered_commands script (take k run) client
    ≡ one_if (is_waiting script (world_after script (take k run)) client)

-- the line ends the ask for its client: with the answer, or since what it waited for was given up
abbrev pub EndsAsk : ℕ → Ask → Event → Type 0
EndsAsk s ask line = (line ≡ answer_event s ask) ⊎ (line ≡ Withdrawn ask.client s ask.mode)

-- and each line that may end an unanswered ask that the client didn't give up is an answer to that command, the next one
abbrev pub AsksAnswerNext : Type 0
AsksAnswerNext = (script : ScriptData) (run : List Logged) → IsWhole script → IsRun script run
    → (k client s : ℕ) (ask : Ask) → s < length script.sets
    → Contains (state_at (world_after script (take k run)) s (home script client)).pending ask
    → ask.client ≡ client
    → is_gone (state_at (world_after script (take k run)) s (home script client)) client ≡ false
    → (line : Event) → EndsAsk s ask line
    → AnswersAt client (commands_of script client) (length (replies_of client (lines_of (take k run)))) line

-- Lines that answer commands, and the replies in worked runs, as literals.

-- a `change` is answered by its own line, by `not_held` of the mode that it gives up, or by `withdrawn` or `withheld`; a `wait` and a
-- `void` answer nothing, and a `withdraw` has an answer of its own
abbrev pub AnswersToOne : Type 0
AnswersToOne =
    AnswersCommand 3 (Change 1 Read Write) (Changed 3 1 Read Write)
    × AnswersCommand 3 (Change 1 Read Write) (NotHeld 3 1 Read)
    × AnswersCommand 3 (Change 1 Read Write) (Withdrawn 3 1 Write)
    × AnswersCommand 3 (Change 1 Read Write) (Withheld 3 1 Write)
    × AnswersCommand 3 (Lock 1 Write) (Withdrawn 3 1 Write)
    × AnswersCommand 3 (Withdraw 2 1) (WithdrawLine 3 2 1 true)
    × (AnswersCommand 3 (Change 1 Read Write) (NotHeld 3 1 Write) → ⊥)
    × (AnswersCommand 3 (Change 1 Read Write) (Wait 3 1 Write) → ⊥)
    × (AnswersCommand 3 (Change 1 Read Write) (Withdrawn 3 1 Read) → ⊥)
    × (AnswersCommand 3 (Lock 1 Write) (Void 3 1 Write) → ⊥)
    × ((got : Bool) → AnswersCommand 3 (Lock 1 Write) (WithdrawLine 3 3 1 got) → ⊥)

-- after the run these are the replies to the client, and so many of its commands are unanswered
pub record Replied (row : Worked) (client : ℕ) (replies : List Event) (open_count : ℕ) : Type 0 where
  pub lines : replies_of client (lines_of row.run) ≡ replies
  pub unanswered : unanswered_commands row.script row.run client ≡ open_count

-- Commands of a client that holds nothing.
abbrev pub NothingHeld : Type 0
NothingHeld = Replied never_held 0 (NotHeld 0 0 Read ∷ NotHeld 0 0 Read ∷ []) 0

-- The client that drops gets `busy`, then `drop`; the grant in the second of these moves is for another client.
abbrev pub DropsReplied : Type 0
DropsReplied =
    Replied drop_in_family 2 (Busy 2 1 0 ∷ Dropped 2 0 0 2 ∷ []) 0
    × Replied drop_in_family 1 (Grant 1 0 Read ∷ []) 0

-- A client that tries gets each answer at once; another one waits, and has one reply less than it made commands.
abbrev pub TriesReplied : Type 0
TriesReplied =
    Replied try_at_home 0
    (Tried 0 0 Read false ∷ Tried 0 0 Read true ∷ Unlocked 0 0 Read ∷ Tried 0 0 Read false ∷ [])
    0
    × Replied try_at_home 3 (Tried 3 0 Write false ∷ []) 1

-- A change is answered when it is made.
abbrev pub ChangeReplied : Type 0
ChangeReplied = Replied change_after_reader 0 (Grant 0 0 Upgrade ∷ Changed 0 0 Upgrade Write ∷ []) 0

-- A client of many commands, the last of which waits.
abbrev pub LastUnanswered : Type 0
LastUnanswered = Replied busy_in_another_set 4
    (Grant 4 0 Upgrade ∷ Dropped 4 4 1 0 ∷ Unlocked 4 0 Upgrade ∷
    Grant 4 0 IntentionWrite ∷ Unlocked 4 0 IntentionWrite ∷ [])
    1

-- A client that waits is given up by another one, and later gives up itself: the one behind it goes on in the first of these moves.
abbrev pub given_up_twice : Worked
given_up_twice = record {
  script = record {
    version = 3;
    nodes = 1;
    sets = declared_set (codes "s") 0 ∷ [];
    clients =
        declared_client (codes "a") 0 ∷
        declared_client (codes "b") 0 ∷
        declared_client (codes "c") 0 ∷
        declared_client (codes "d") 0 ∷
        [];
    commands =
        (0, Lock 0 Read) ∷
        (1, Lock 0 Write) ∷
        (2, Lock 0 Read) ∷
        (3, Withdraw 1 0) ∷
        (1, Lock 0 Write) ∷
        (1, Withdraw 1 0) ∷
        (1, Withdraw 1 0) ∷
        [];
  };
  run =
      act 1 0 0 (Grant 0 0 Read ∷ []) ∷
      act 2 0 1 (Wait 1 0 Write ∷ []) ∷
      act 3 0 2 (Wait 2 0 Read ∷ []) ∷
      act 4 0 3 (Withdrawn 1 0 Write ∷ WithdrawLine 3 1 0 true ∷ Void 1 0 Write ∷ Grant 2 0 Read ∷ []) ∷
      act 5 0 1 (Wait 1 0 Write ∷ []) ∷
      act 6 0 1 (Withdrawn 1 0 Write ∷ WithdrawLine 1 1 0 true ∷ Void 1 0 Write ∷ []) ∷
      act 7 0 1 (WithdrawLine 1 1 0 false ∷ []) ∷
      [];
  held = holds 0 0 Read 1 ∷ holds 2 0 Read 1 ∷ [];
  waiting = [];
  owners = owner 0 0 ∷ [];
}

-- Who gives up itself gets two replies in one move: that to the command that waited, then that to the `withdraw`.
abbrev pub GivenUpReplied : Type 0
GivenUpReplied =
    IsWholeRun given_up_twice
    × Replied given_up_twice 1
    (Withdrawn 1 0 Write ∷ Withdrawn 1 0 Write ∷ WithdrawLine 1 1 0 true ∷ WithdrawLine 1 1 0 false ∷ [])
    0
    × Replied given_up_twice 2 (Grant 2 0 Read ∷ []) 0
    × Replied given_up_twice 3 (WithdrawLine 3 1 0 true ∷ []) 0
