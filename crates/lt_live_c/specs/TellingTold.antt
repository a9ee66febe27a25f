-- What C is told by a turn of whom it reached, in literals.
use Rattle.std.specs.Prelude.{◌≡◌, ◌<◌, ◌⊎◌, ◌∷◌, [], ℕ, List, Bool, true, false, Option, Some, None, length, slice_get}
use Rattle.lt_mail.specs.Telling.{has_number}
use Rattle.lt_mail.specs.Words.{given_to}
use Rattle.lt_runner.specs.declared.turning.Turned.TheVariants as turns
use Rattle.lt_live.specs.declared.ends.Seat.{Seat}
use Rattle.lt_live.specs.Stations.{StationData, StationTurns, AreOthers}
use Rattle.lt_live.specs.Told.{word_has}
use Rattle.lt_live.specs.Words.{told_to}
use Rattle.lt_live_c.specs.declared.content.Content.{Content}
use Rattle.lt_live_c.specs.declared.content.Content.TheVariants as contents
use Rattle.lt_live_c.specs.Taking.{AtStation}
use Rattle.lt_live_c.specs.Telling.{TurnsTelling}
use Rattle.lt_live_c.specs.Told.{OfStation, IsOfStations}
use Rattle.lt_live_c.specs.EmptyTold.{IsIdle}

-- this is so of each such turn with this code, by what is told and by the station before and after it
abbrev pub AfterTelling : ℕ → (ℕ → List ℕ → StationData → StationData → Type 0) → Type 0
AfterTelling code Told =
    (a : StationData) (sent : ℕ) (told : List ℕ) (new : Option Content)
    → AtStation code (TurnsTelling code sent told) (Some (contents.Station a)) new → OfStation new (Told sent told a)

-- this is so of each seat before and after it
abbrev pub AtSeats : (Seat → Seat → Type 0) → StationData → StationData → Type 0
AtSeats Holds a b =
    (k : ℕ) (x y : Seat) → slice_get a.seats k ≡ Some x → slice_get b.seats k ≡ Some y → Holds x y

-- how the turn ended, of which nodes and clients the bits are set, and of which not
pub record TellingTold : Type 0 where
  pub moved : AfterTelling 0 (λ sent told a b. StationTurns turns.Moved a.runner a.seats b.runner b.seats)
  pub quiet : AfterTelling 1 (λ sent told a b. StationTurns turns.Quiet a.runner a.seats b.runner b.seats)
  pub full : AfterTelling 8 (λ sent told a b. StationTurns turns.Full a.runner a.seats b.runner b.seats)
  pub no_memory : AfterTelling 3 (λ sent told a b. StationTurns turns.NoMemory a.runner a.seats b.runner b.seats)
  pub only : (code : ℕ)
      → AfterTelling code (λ sent told a b. (code ≡ 0) ⊎ ((code ≡ 1) ⊎ ((code ≡ 8) ⊎ (code ≡ 3))))
  pub sent : (code node : ℕ) → AfterTelling code (λ sent told a b. has_number sent node ≡ true
      → length (given_to a.runner.mail node) < length (given_to b.runner.mail node))
  pub not_sent : (code node : ℕ) → AfterTelling code (λ sent told a b. has_number sent node ≡ false
      → given_to b.runner.mail node ≡ given_to a.runner.mail node)
  pub told : (code : ℕ) → AfterTelling code (λ sent told a b. AtSeats (λ x y. word_has told x.client ≡ true
      → length (told_to x) < length (told_to y)) a b)
  pub not_told : (code : ℕ) → AfterTelling code (λ sent told a b. AtSeats (λ x y. word_has told x.client ≡ false
      → told_to y ≡ told_to x) a b)
  pub no_others : (code client : ℕ)
      → AfterTelling code (λ sent told a b. AreOthers client a.seats → word_has told client ≡ false)
  pub others : (sent : ℕ) (told : List ℕ)
      → IsOfStations (λ code old new. AtStation code (TurnsTelling code sent told) old new)
  pub nothing : (sent : ℕ) (told : List ℕ)
      → IsIdle (λ code old new. AtStation code (TurnsTelling code sent told) old new)
  -- bits
  pub node_two : has_number 4 2 ≡ true
  pub no_node : has_number 4 1 ≡ false
  pub client_last : word_has (0 ∷ 2 ∷ []) 65 ≡ true
  pub no_client : word_has (0 ∷ 2 ∷ []) 64 ≡ false
