-- What C is told where a handle stands for nothing, in literals: nothing is done, and the code says so, or 0 is told.
use Rattle.std.specs.Prelude.{◌≡◌, [], ℕ, List, Option, Some, None}
use Rattle.lt_modes.specs.declared.command.Command.TheVariants.{Lock}
use Rattle.lt_modes.specs.declared.mode.Mode.TheVariants.{Write}
use Rattle.lt_modes.specs.Script.{ScriptData}
use Rattle.lt_live.specs.Live.{AreLive}
use Rattle.lt_live_c.specs.declared.content.Content.{Content}
use Rattle.lt_live_c.specs.declared.content.Content.TheVariants as contents
use Rattle.lt_live_c.specs.declared.service.Service.{Service}
use Rattle.lt_live_c.specs.Calls.{TurnsStation, Submits, Polls, left_at, client_in, home_in, HandleTellsSet}
use Rattle.lt_live_c.specs.Forgetting.{ForgetsStation}
use Rattle.lt_live_c.specs.Journals.{HandleFinishes, HandleNotFinished, HandleTellsEnd, text_of_content, script_at}
use Rattle.lt_live_c.specs.NodeCalls.{AtNode, HandleFinishesNode, HandleNotFinishedNode}
use Rattle.lt_live_c.specs.Nodes.{SendsFrames, Receives, TellsPending}
use Rattle.lt_live_c.specs.Serving.{HandleTellsServed, HandleNotTold, IsWholeHandleIfAll}
use Rattle.lt_live_c.specs.Taking.{HandleGoesOn, AtStation, AtSession, IsWholeIfAny, IsNoService, HandleTakesStation, HandleTakesSession, HandleHasNoStation, HandleHasNoSession, HandleGives, HandleKeeps, HandleGiveRefused}

-- with a handle that stands for nothing the call has this code, and the handle stands for nothing still
abbrev pub IsIdle : (ℕ → Option Content → Option Content → Type 0) → Type 0
IsIdle Calls = (code : ℕ) (new : Option Content) → Calls code None new → (code ≡ 2) × (new ≡ None)

-- what calls do with a handle that stands for nothing
pub record EmptyTold : Type 0 where
  pub turn : IsIdle (λ code old new. AtStation code (TurnsStation code) old new)
  pub forget : IsIdle (λ code old new. AtStation code (ForgetsStation code) old new)
  pub submit : IsIdle (λ code old new. AtSession code (Submits code (Some (Lock 7 Write))) old new)
  pub poll : (was count : ℕ) → IsIdle (λ code old new. AtSession code (Polls code was count) old new)
  pub goes_on : (new : Option Content) → HandleGoesOn None new → new ≡ None
  pub send : (to was now : ℕ) (buffer after : List ℕ)
      → IsIdle (λ code old new. AtNode code to (SendsFrames code to was now buffer after) old new)
  pub receive : (from was now : ℕ) (bytes : List ℕ)
      → IsIdle (λ code old new. AtNode code from (Receives code from was now bytes) old new)
  pub pending : (to : ℕ) → IsIdle (λ code old new. AtNode code to (TellsPending code to) old new)
  pub set : (name : List ℕ) (code was set : ℕ) → HandleTellsSet None name code was set → (code ≡ 2) × (set ≡ was)
  pub left : left_at None ≡ 0
  pub client : client_in None ≡ 0
  pub home : home_in None ≡ 0
  -- nothing is taken from it, and nothing given to it
  pub never_station : (taken new : Option Content) → HandleTakesStation taken None new → ⊥
  pub never_session : (taken new : Option Content) → HandleTakesSession taken None new → ⊥
  pub no_station : (code : ℕ) → HandleHasNoStation code None → code ≡ 2
  pub no_session : (code : ℕ) → HandleHasNoSession code None → code ≡ 2
  pub never_given : (to new : Option Content) → HandleGives None to new → ⊥
  pub never_given_to : (given new : Option Content) → HandleGives given None new → ⊥
  pub not_given : (code : ℕ) (to : Option Content) → HandleGiveRefused code None to → code ≡ 2
  pub not_given_to : (code : ℕ) (given : Option Content) → HandleGiveRefused code given None → code ≡ 2
  pub keeps : (new : Option Content) → HandleKeeps None new → new ≡ None
  -- nothing is told of it, and nothing is finished
  pub may_be_served : IsWholeHandleIfAll None
  pub never_served : (submits polls : ℕ) (new : Option Content) → HandleTellsServed submits polls None new → ⊥
  pub not_served : (code : ℕ) → HandleNotTold code None → code ≡ 2
  pub may_be_finished : IsWholeIfAny None
  pub whole_finished : (first : ScriptData) (s : Service) → AreLive first s.stations.items s.sessions.items
      → IsWholeIfAny (Some (contents.Service s))
  pub no_service : IsNoService None
  pub never_finished : (new : Option Content) → HandleFinishes None new → ⊥
  pub not_finished : (code : ℕ) → HandleNotFinished code None → code ≡ 2
  pub never_finished_node : (new : Option Content) → HandleFinishesNode None new → ⊥
  pub not_finished_node : (code : ℕ) → HandleNotFinishedNode code None → code ≡ 2
  pub text : text_of_content None ≡ []
  pub script : script_at None ≡ []
  pub ends : (code was held waited waiting : ℕ) → HandleTellsEnd None code was held waited waiting
      → (code ≡ 2) × (held ≡ was) × (waiting ≡ waited)
