-- What a service served so far, while it goes on.
use Rattle.std.specs.Prelude.{◌≡◌, ◌≤◌, ◌/◌, ◌⊎◌, ◌==◌, ◌&&◌, ℕ, Bool, true, false, List, Option, Some, None, ⊤, length, slice_get, sum_by}
use Rattle.lt_live.specs.declared.ends.Session.{Session}
use Rattle.lt_live.specs.Live.{LiveScript, EachStation, EachSession, SaysSame}
use Rattle.lt_live.specs.Served.{AreServed, StayLive, MakesNoMove}
use Rattle.lt_spec.specs.declared.limits.TheConstants.{MAX_COMMANDS_OF_SERVICE}
use Rattle.lt_live.specs.Stations.{StationData}
use Rattle.lt_live.specs.Words.{submitted, polled}
use Rattle.lt_live_c.specs.declared.code.TheConstants.{NOTHING, WRONG_HANDLE}
use Rattle.lt_live_c.specs.declared.content.Content.{Content}
use Rattle.lt_live_c.specs.declared.content.Content.TheVariants as contents
use Rattle.lt_live_c.specs.declared.service.Service.{Service}
use Rattle.lt_live_c.specs.declared.serving.Totals.{Totals}
use Rattle.lt_live_c.specs.Taking.{BothStand, WrongOr, stands_for_service}

-- so many stations and sessions are all of the script that this first station has; none are all if there is no station
abbrev pub are_all : Option StationData → ℕ → ℕ → Bool
are_all None stations sessions = false
are_all (Some first) stations sessions =
    stations == first.runner.node.script.nodes && sessions == length first.runner.node.script.clients

-- the service has a station for each node and a session for each client
abbrev pub has_all : Service → Bool
has_all s = are_all (slice_get s.stations.items 0) (length s.stations.items) (length s.sessions.items)

-- a service that has as many as all has all of one `open`, in order
abbrev pub IsWholeIfAll : Content → Type 0
IsWholeIfAll (contents.Service s) = has_all s ≡ true → LiveScript s.stations.items s.sessions.items
IsWholeIfAll other = ⊤

abbrev pub IsWholeHandleIfAll : Option Content → Type 0
IsWholeHandleIfAll None = ⊤
IsWholeHandleIfAll (Some content) = IsWholeIfAll content

-- how many commands were submitted at these sessions, and how many replies were polled
pub record AreTotals (sessions : List Session) (totals : Totals) : Type 0 where
  pub submitted_is : totals.submitted ≡ sum_by (λ (s : Session). length (submitted s)) sessions
  pub polled_is : totals.polled ≡ sum_by (λ (s : Session). length (polled s)) sessions

-- there is a run of the script in which the sessions were served so far, and they and the stations are those of the
-- script still; no station made a move, at no session something more was submitted or polled; and it is counted
pub record ServedSoFar (totals : Totals) (s t : Service) : Type 0 where
  pub all : has_all s ≡ true
  pub served : AreServed s.stations.items s.sessions.items t.sessions.items
  pub live : StayLive s.stations.items s.sessions.items t.stations.items t.sessions.items
  pub stations : EachStation MakesNoMove s.stations.items t.stations.items
  pub sessions : EachSession SaysSame s.sessions.items t.sessions.items
  pub totals_are : AreTotals t.sessions.items totals

abbrev pub TellsServed : Totals → Content → Content → Type 0
TellsServed totals (contents.Service s) (contents.Service t) = ServedSoFar totals s t
TellsServed totals a b = ⊥

abbrev pub HandleTellsServed : ℕ → ℕ → Option Content → Option Content → Type 0
HandleTellsServed submits polls a b = BothStand (TellsServed (record { submitted = submits; polled = polls })) a b

-- a service some of whose stations or sessions are still out
abbrev pub LacksSome : Content → Type 0
LacksSome (contents.Service s) = has_all s ≡ false
LacksSome other = ⊥

-- why it isn't told
pub record NotTold (code : ℕ) (a : Content) : Type 0 where
  pub nothing : code ≡ NOTHING → LacksSome a
  pub wrong : code ≡ WRONG_HANDLE → stands_for_service a ≡ false
  pub only : (code ≡ NOTHING) ⊎ (code ≡ WRONG_HANDLE)

abbrev pub ServedRefused : ℕ → Content → Content → Type 0
ServedRefused code a b = NotTold code a × (b ≡ a)

abbrev pub ServedRefusedBy : ℕ → Service → Service → Type 0
ServedRefusedBy code s t = NotTold code (contents.Service s) × (t ≡ s)

abbrev pub HandleNotTold : ℕ → Option Content → Type 0
HandleNotTold code a = WrongOr code (NotTold code) a

-- one of n sessions: not more commands were submitted than its share of those of a service, nor more replies polled
pub record IsCountable (n : ℕ) (s : Session) : Type 0 where
  pub few : length (submitted s) ≤ MAX_COMMANDS_OF_SERVICE / n
  pub no_more : length (polled s) ≤ length (submitted s)
