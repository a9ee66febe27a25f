-- Taking: what a letter does at the node that takes it.
use Rattle.std.specs.Prelude.{false, nat_lt, ℕ, [], ◌∷◌, Some, None, if◌then◌else◌, is_some, fold}
use Rattle.lt_modes.specs.declared.stamp.Stamp.{Stamp}
use Rattle.lt_modes.specs.declared.ask.Ask.{Ask}
use Rattle.lt_modes.specs.Modes.{Modes, with_mode}
use Rattle.lt_modes.specs.State.{SetState, Desk, Body, AskBody, TellBody, ParkedAsk, ParkedTell, Made, silent, then_do, CopyBody, TokenBody, FreezeBody, Letter, without}
use Rattle.lt_modes.specs.Serving.{rows_after, end_event, without_gone}
use Rattle.lt_modes.specs.Routing.{learn, dealt, route}
use Rattle.lt_modes.specs.SetMove.{finish}

-- the charge after a copy of this mode: it grows where the desk isn't here
abbrev pub charged : SetState → Ask → Modes
charged s ask = if is_some s.desk then s.charge else with_mode s.charge ask.mode

-- a copy answers its ask; where that was given up, nothing but the charge is gained, and the end of the move tells the desk
abbrev pub take_copy : ℕ → Ask → SetState → Made
take_copy set ask s = record {
  state = record s {
    held = rows_after s ask;
    pending = without s.pending ask.stamp;
    gone = without_gone s.gone ask.client;
    charge = charged s ask;
  };
  posts = [];
  events = end_event set s ask ∷ [];
}

-- a freeze is kept where its number is greater
abbrev pub take_freeze : ℕ → Modes → SetState → SetState
take_freeze number frozen s = if nat_lt s.number number then record s { frozen = frozen; number = number } else s

-- the desk is here from now on, and deals with the parked letters in order
abbrev pub take_token : ℕ → Desk → SetState → SetState
take_token me desk s = record s {
  firm = record { node = me; epoch = desk.epoch };
  hoped = None;
  parked = [];
  desk = Some (fold dealt desk s.parked);
}

-- what the letter says is done
abbrev pub take_body : ℕ → Stamp → Body → SetState → Made
take_body set stamp (AskBody ask marked) s = route set stamp marked (ParkedAsk ask) s
take_body set stamp (TellBody tell) s = route set stamp false (ParkedTell tell) s
take_body set stamp (CopyBody ask) s = take_copy set ask s
take_body set stamp (TokenBody desk) s = silent (take_token stamp.node desk s)
take_body set stamp (FreezeBody number frozen) s = silent (take_freeze number frozen s)

-- the node learns the letter's link, and then does what it says
abbrev pub arrive : Stamp → Letter → SetState → Made
arrive stamp letter s = take_body letter.set stamp letter.body (learn letter.link s)

-- a letter is taken
abbrev pub take : Stamp → Letter → SetState → Made
take stamp letter s = then_do (arrive stamp letter s) (finish letter.set stamp)
