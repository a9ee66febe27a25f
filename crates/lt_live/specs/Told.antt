-- Which clients' rings were given replies.
use Rattle.std.specs.Prelude.{◌≡◌, ◌≢◌, ◌<◌, ◌/◌, ◌%◌, ◌==◌, ◌||◌, ℕ, Bool, true, false, List, Some, slice_get, slice_index_or}
use Rattle.std.specs.Int.{bit_at}
use Rattle.lt_mail.specs.Telling.{GrewIf}
use Rattle.lt_spec.specs.declared.limits.TheConstants.{MAX_CLIENTS}
use Rattle.lt_spec.specs.World.{Logged}
use Rattle.lt_live.specs.declared.clients.Clients.{Clients}
use Rattle.lt_live.specs.declared.ends.Seat.{Seat}
use Rattle.lt_live.specs.Seats.{TellsSeat}
use Rattle.lt_live.specs.Stations.{EachSeat, AreOthers}
use Rattle.lt_live.specs.Words.{told_to}

-- whether the number has its bit
abbrev pub word_has : List ℕ → ℕ → Bool
word_has words k = bit_at (slice_index_or words (k / 64) 0) (k % 64) == 1

-- only this number's bit may be another one
abbrev pub OtherBitsStay : ℕ → List ℕ → List ℕ → Type 0
OtherBitsStay k old new = (i : ℕ) → i ≢ k → word_has new i ≡ word_has old i

-- whether the client is among these
abbrev pub has_mark : Clients → ℕ → Bool
has_mark clients client = word_has clients.words client

-- the seat of the same client, whose ring was given replies where it is among these, and else none
pub record RingGrew (told : Clients) (a b : Seat) : Type 0 where
  pub client : b.client ≡ a.client
  pub grew : GrewIf (has_mark told a.client) (told_to a) (told_to b)

-- the clients of the seats whose rings were given replies are among these, and no others
pub record TellsClients (told : Clients) (old new : List Seat) : Type 0 where
  pub each : EachSeat (RingGrew told) old new
  pub others : (client : ℕ) → AreOthers client old → has_mark told client ≡ false

-- the seat of the same client, which is among these where it was before, or where its ring was given replies
pub record RingAdds (before now : Clients) (a b : Seat) : Type 0 where
  pub client : b.client ≡ a.client
  pub told : Bool
  pub grew : GrewIf told (told_to a) (told_to b)
  pub mark : has_mark now a.client ≡ (has_mark before a.client || told)

-- the clients of the seats whose rings were given replies are among these, with those that were before, and no others
pub record AddsClients (before now : Clients) (old new : List Seat) : Type 0 where
  pub each : EachSeat (RingAdds before now) old new
  pub others : (client : ℕ) → AreOthers client old → has_mark now client ≡ has_mark before client

-- each seat's client has a bit, and no two seats are of one client
pub record HaveOwnBits (seats : List Seat) : Type 0 where
  pub few : (k : ℕ) (seat : Seat) → slice_get seats k ≡ Some seat → seat.client < MAX_CLIENTS
  pub apart : (j k : ℕ) (x y : Seat) → slice_get seats j ≡ Some x → slice_get seats k ≡ Some y → x.client ≡ y.client → j ≡ k

-- one seat told its client, which is marked where its ring was given replies
pub record AnswersSeat (log : List Logged) (before now : Clients) (a b : Seat) : Type 0 where
  pub tells : TellsSeat log a b
  pub own : RingAdds before now a b
  pub others : (client : ℕ) → client ≢ a.client → has_mark now client ≡ has_mark before client
