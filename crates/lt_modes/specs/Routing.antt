-- Routing: the way of asks and tells to the desk.
use Rattle.std.specs.Prelude.{Bool, true, false, ◌&&◌, ◌==◌, not, nat_lt, ℕ, List, [], ◌∷◌, ◌++◌, Option, Some, None, if◌then◌else◌}
use Rattle.std.specs.List.{list_any}
use Rattle.lt_modes.specs.declared.stamp.Stamp.{Stamp}
use Rattle.lt_modes.specs.declared.ask.Ask.{Ask}
use Rattle.lt_modes.specs.declared.parts.Link.{Link}
use Rattle.lt_modes.specs.declared.parts.Hoped.{Hoped}
use Rattle.lt_modes.specs.Modes.{excludes_itself}
use Rattle.lt_modes.specs.State.{SetState, Desk, Body, AskBody, TellBody, Parked, ParkedAsk, ParkedTell, entered, Made, silent, post_of}
use Rattle.lt_modes.specs.Telling.{is_newer, tell_applied}

-- a link with a greater epoch becomes firm, and then nothing is hoped
abbrev pub learn : Link → SetState → SetState
learn link s = if nat_lt s.firm.epoch link.epoch then record s { firm = link; hoped = None } else s

-- the desk deals with it: an ask enters the queue, a tell is applied
abbrev pub dealt : Desk → Parked → Desk
dealt desk (ParkedAsk ask) = record desk { queue = entered desk.queue ask }
dealt desk (ParkedTell tell) = tell_applied tell desk

-- where a node without the desk sends an ask or a tell: nowhere, since the token is on its way or an older ask
-- of its own brings it; or to a node, with the mark that it went by a hoped link, or without
pub data Way : Type 0 where
  Parks : Way
  Goes : ℕ → Bool → Way

-- a taking ask among these is older
abbrev pub is_behind : List Ask → Ask → Bool
is_behind pending ask = list_any (λ (own : Ask). excludes_itself own.mode && is_newer ask.stamp own.stamp) pending

-- an unmarked ask goes by the hoped link where that is older, and else by the firm link
abbrev pub hoped_way : Option Hoped → ℕ → Ask → Way
hoped_way None firm ask = Goes firm false
hoped_way (Some hoped) firm ask = if is_newer ask.stamp hoped.stamp then Goes hoped.node true else Goes firm false

-- the way of an ask, marked or not, from a node whose firm link names another
abbrev pub ask_way : Bool → Ask → SetState → Way
ask_way true ask s = if is_behind s.pending ask then Parks else Goes s.firm.node false
ask_way false ask s = hoped_way s.hoped s.firm.node ask

abbrev pub way_onward : Bool → Parked → SetState → Way
way_onward marked (ParkedAsk ask) s = ask_way marked ask s
way_onward marked (ParkedTell tell) s = Goes s.firm.node false

-- the way of an ask or a tell from node `me`, which hasn't the desk
abbrev pub way : ℕ → Bool → Parked → SetState → Way
way me marked item s = if s.firm.node == me then Parks else way_onward marked item s

abbrev pub body_of : Parked → Bool → Body
body_of (ParkedAsk ask) marked = AskBody ask marked
body_of (ParkedTell tell) marked = TellBody tell

-- path reversal: a taking ask of another node that was sent on becomes the hoped link
abbrev pub reversed : ℕ → Parked → SetState → SetState
reversed me (ParkedAsk ask) s =
    if excludes_itself ask.mode && not (ask.node == me)
    then record s { hoped = Some (record { node = ask.node; stamp = ask.stamp }) }
    else s
reversed me (ParkedTell tell) s = s

abbrev pub sent_on : ℕ → Stamp → Parked → SetState → Way → Made
sent_on set stamp item s Parks = silent (record s { parked = s.parked ++ item ∷ [] })
sent_on set stamp item s (Goes to marked) = record {
  state = reversed stamp.node item s;
  posts = post_of set stamp s to (body_of item marked) ∷ [];
  events = [];
}

abbrev pub route_by : ℕ → Stamp → Bool → Parked → SetState → Option Desk → Made
route_by set stamp marked item s (Some desk) = silent (record s { desk = Some (dealt desk item) })
route_by set stamp marked item s None = sent_on set stamp item s (way stamp.node marked item s)

-- an ask or a tell, marked or not, is dealt with, parked or sent on
abbrev pub route : ℕ → Stamp → Bool → Parked → SetState → Made
route set stamp marked item s = route_by set stamp marked item s s.desk
