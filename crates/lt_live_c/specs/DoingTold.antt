-- What C is told of a command that is submitted and served in one call, in literals.
use Rattle.std.specs.Prelude.{◌≡◌, ◌≢◌, ◌≤◌, ◌⊎◌, ◌++◌, ◌∷◌, [], ℕ, zero, suc, List, Option, Some, None, IsSomeAnd, length}
use Rattle.lt_modes.specs.declared.command.Command.{Command}
use Rattle.lt_modes.specs.declared.command.Command.TheVariants.{Lock}
use Rattle.lt_modes.specs.declared.mode.Mode.TheVariants.{Write}
use Rattle.lt_live.specs.declared.ends.Session.{Session}
use Rattle.lt_runner.specs.declared.turning.Turned.{Turned}
use Rattle.lt_live.specs.declared.obeying.Obeyed.TheVariants as ends
use Rattle.lt_live.specs.declared.reply.Reply.{Reply}
use Rattle.lt_live.specs.declared.reply.Reply.TheVariants as replies
use Rattle.lt_live.specs.Stations.{StationData, StationTurns}
use Rattle.lt_live.specs.Words.{submitted, polled, known_replies}
use Rattle.lt_live_c.specs.Calls.{number_of_reply}
use Rattle.lt_live_c.specs.declared.content.Content.{Content}
use Rattle.lt_live_c.specs.Doing.{number_of_obeyed, count_of_obeyed, DoTells, MayNotDo, AtBoth}

-- the station made so many turns, one after the other
abbrev pub MadeTurns : ℕ → StationData → StationData → Type 0
MadeTurns zero a b = b ≡ a
MadeTurns (suc n) a c = (b : StationData) × MadeTurns n a b
    × ((turned : Turned) × StationTurns turned b.runner b.seats c.runner c.seats)

-- this is so of each command that is served in one call with this code, by the station and the session before and after
-- it
abbrev pub AfterDoing : ℕ → (Option Command → StationData → StationData → Session → Session → Type 0) → Type 0
AfterDoing code Says =
    (command : Option Command) (was count sent : ℕ) (told : List ℕ) (a b : StationData) (s t : Session)
    → DoTells code command was count sent told a b s t → Says command a b s t

-- by which number C is told how it ended, and what stands in the count where 9 stood there; handles that stand for
-- nothing
pub record DoingTold : Type 0 where
  pub refused : number_of_obeyed ends.Refused ≡ 7
  pub granted : number_of_obeyed (ends.Told replies.Granted) ≡ 16
  pub waits : number_of_obeyed ends.Waits ≡ 1
  pub full : number_of_obeyed ends.Full ≡ 8
  pub no_memory : number_of_obeyed ends.NoMemory ≡ 3
  pub dropped : count_of_obeyed (ends.Told (replies.Dropped 3)) 9 ≡ 3
  pub count_stays : count_of_obeyed ends.Waits 9 ≡ 9
  -- a reply that is told is the session's next one
  pub next_reply : (code : ℕ) → 16 ≤ code → AfterDoing code (λ command a b s t.
      (reply : Reply) × (code ≡ number_of_reply reply) × (polled t ≡ polled s ++ reply ∷ []))
  -- what is waited for was submitted, and no reply is known
  pub was_submitted : (code : ℕ) → code ≢ 4 → code ≢ 6 → code ≢ 7 → AfterDoing code (λ command a b s t.
      IsSomeAnd command (λ given. submitted t ≡ submitted s ++ given ∷ []))
  pub no_reply : AfterDoing 1 (λ command a b s t. (polled t ≡ polled s) × (known_replies t ≡ []))
  -- nothing happens where it was not submitted
  pub not_submitted : (code : ℕ) → (code ≡ 4) ⊎ ((code ≡ 6) ⊎ (code ≡ 7)) → AfterDoing code (λ command a b s t.
      (submitted t ≡ submitted s) × ((polled t ≡ polled s) × (b ≡ a)))
  pub few_turns : (code : ℕ) → AfterDoing code (λ command a b s t. (n : ℕ) × (n ≤ 64) × MadeTurns n a b)
  -- what names no command, or what isn't there, is told so whatever else is wrong
  pub bad_mode : (code : ℕ) (s : Session) → MayNotDo code None s → code ≡ 4
  pub bad_set : (code : ℕ) (s : Session) → length s.script.sets ≤ 7 → MayNotDo code (Some (Lock 7 Write)) s → code ≡ 4
  pub no_station : (code was count sent : ℕ) (told : List ℕ) (command : Option Command) (b c d : Option Content)
      → AtBoth code (DoTells code command was count sent told) None b c d
      → (code ≡ 2) × ((b ≡ None) × (d ≡ c))
  pub no_session : (code was count sent : ℕ) (told : List ℕ) (command : Option Command) (a b : Content)
      (d : Option Content) → AtBoth code (DoTells code command was count sent told) (Some a) (Some b) None d
      → (code ≡ 2) × ((Some b ≡ Some a) × (d ≡ None))
