-- What a turn tells C: to which nodes it sent letters, and which clients it told replies.
use Rattle.std.specs.Prelude.{ℕ, List}
use Rattle.lt_mail.specs.Telling.{TellsGiven}
use Rattle.lt_live.specs.Stations.{StationData}
use Rattle.lt_live.specs.Told.{TellsClients}
use Rattle.lt_live_c.specs.Calls.{TurnsStation}

-- a turn of the station, which ended as the code says: of each node the bit says whether letters for it went into their
-- ring, and of each client whether replies went into its ring
pub record TurnsTelling (code sent : ℕ) (told : List ℕ) (a b : StationData) : Type 0 where
  pub turns : TurnsStation code a b
  pub sent_to : TellsGiven sent a.runner.mail b.runner.mail
  pub told_to : TellsClients (record { words = told }) a.seats b.seats
