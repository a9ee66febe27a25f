-- Sessions in different processes, as laws.
use Rattle.std.specs.Prelude.{◌≡◌, ◌≢◌, ◌≤◌, ℕ, List, Some, false, length, slice_get}
use Rattle.lt_modes.specs.Script.{ScriptData}
use Rattle.lt_modes.specs.declared.command.Command.{Command}
use Rattle.lt_modes.specs.declared.mode.Mode.{Mode}
use Rattle.lt_modes.specs.Modes.{conflicts}
use Rattle.lt_spec.specs.Holdings.{Holding, holding, holdings, lines_of, times_held}
use Rattle.lt_spec.specs.NodeMove.{with_commands, commands_of, home}
use Rattle.lt_spec.specs.declared.limits.TheConstants.{MAX_COMMANDS_OF_SERVICE}
use Rattle.lt_law_apart.specs.Apart.{NodeNow, AreAllApart, commands_apart, script_apart, run_apart}
use Rattle.lt_live.specs.declared.ends.Session.{Session}
use Rattle.lt_live.specs.declared.reply.Reply.{Reply}
use Rattle.lt_live.specs.Words.{submitted, polled}
use Rattle.lt_live.specs.Seats.{IsServedSession}
use Rattle.lt_live.specs.Live.{IsServedRun, IsReplyTo}
use Rattle.lt_law_sessions.specs.SessionLaws.{StillHolds}

-- all nodes of the script, and a session of each client, in order, each in the process of its client's node, which
-- served it
pub record AreServedApart (first : ScriptData) (nodes : List NodeNow) (sessions : List Session) : Type 0 where
  pub apart : AreAllApart first nodes
  pub few : length (commands_apart nodes) ≤ MAX_COMMANDS_OF_SERVICE
  pub count : length sessions ≡ length first.clients
  pub each : (client : ℕ) (s : Session) (n : NodeNow)
      → slice_get sessions client ≡ Some s → slice_get nodes (home first client) ≡ Some n
      → IsServedSession (commands_of (with_commands first n.commands) client) (lines_of n.part.log) client s

-- there is one run in which all were served
abbrev pub ServedApart : Type 0
ServedApart = (first : ScriptData) (nodes : List NodeNow) (sessions : List Session)
    → AreServedApart first nodes sessions
    → IsServedRun first sessions (script_apart first nodes) (run_apart first nodes)

-- each reply that was polled answers the command at its place
abbrev pub ApartInTurn : Type 0
ApartInTurn = (first : ScriptData) (nodes : List NodeNow) (sessions : List Session)
    → AreServedApart first nodes sessions
    → (client : ℕ) (s : Session) → slice_get sessions client ≡ Some s
    → (k : ℕ) (reply : Reply) → slice_get (polled s) k ≡ Some reply
    → (command : Command) × (slice_get (submitted s) k ≡ Some command) × IsReplyTo client command reply

-- what a client holds still by its session, it holds after that run
abbrev pub HeldApart : Type 0
HeldApart = (first : ScriptData) (nodes : List NodeNow) (sessions : List Session)
    → AreServedApart first nodes sessions
    → (client : ℕ) (s : Session) (lock : Holding) → slice_get sessions client ≡ Some s
    → StillHolds first sessions client s lock
    → 1 ≤ times_held (holdings (script_apart first nodes) (lines_of (run_apart first nodes))) lock

-- locks of one set that two clients hold still, whichever processes they are in, don't conflict
abbrev pub ApartExclude : Type 0
ApartExclude = (first : ScriptData) (nodes : List NodeNow) (sessions : List Session)
    → AreServedApart first nodes sessions
    → (a b : ℕ) (s t : Session) → a ≢ b → slice_get sessions a ≡ Some s → slice_get sessions b ≡ Some t
    → (set : ℕ) (m n : Mode) → StillHolds first sessions a s (holding a set m)
    → StillHolds first sessions b t (holding b set n)
    → conflicts m n ≡ false
