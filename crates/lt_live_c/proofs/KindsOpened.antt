-- What calls do with handles of each kind.
use Rattle.std.proofs.Common.{◌≡◌, ◌≢◌, ℕ, Option, Some, None, refl, ap}
use Rattle.lt_modes.specs.declared.command.Command.TheVariants.{Lock}
use Rattle.lt_modes.specs.declared.mode.Mode.TheVariants.{Write}
use Rattle.lt_live.specs.declared.ends.Session.{Session}
use Rattle.lt_live.specs.Live.{StationGoesOn}
use Rattle.lt_live.specs.Stations.{StationData}
use Rattle.lt_live.specs.Words.{SameSession}
use Rattle.lt_live_c.specs.declared.content.Content.{Content}
use Rattle.lt_live_c.specs.declared.content.Content.TheVariants as contents
use Rattle.lt_live_c.specs.declared.journal.Journal.{Journal}
use Rattle.lt_live_c.specs.declared.service.Service.{Service}
use Rattle.lt_live_c.specs.Calls.{TurnsStation, Submits, Polls, left_at, client_in, home_in}
use Rattle.lt_live_c.specs.Taking.{HandleGoesOn, AtStation, AtSession}
use Rattle.lt_live_c.specs.Forgetting.{ForgetsStation}
use Rattle.lt_live_c.specs.Told.{OfStation, OfSession, kind_of, IsOfKind, IsOfStations, KindsTold, AsksTold}

both : (code : ℕ) (content b : Content) → (code ≡ 2) × (b ≡ content) → (code ≡ 2) × (Some b ≡ Some content)
both code content b h = (h.0, ap (λ (c : Content). Some c) h.1)

pub at_station : (Turns : ℕ → StationData → StationData → Type 0)
    → IsOfStations (λ code old new. AtStation code (Turns code) old new)
at_station Turns (contents.Service s) other neither code None h = absurd h
at_station Turns (contents.Service s) other neither code (Some b) h = both code (contents.Service s) b h
at_station Turns (contents.Station x) other neither code new h = absurd (other refl)
at_station Turns (contents.Session s) other neither code None h = absurd h
at_station Turns (contents.Session s) other neither code (Some b) h = both code (contents.Session s) b h
at_station Turns (contents.Journal journal) other neither code None h = absurd h
at_station Turns (contents.Node node) other neither code new h = absurd (neither refl)
at_station Turns (contents.Journal journal) other neither code (Some b) h = both code (contents.Journal journal) b h

at_session : (Calls : ℕ → Session → Session → Type 0)
    → IsOfKind 2 (λ code old new. AtSession code (Calls code) old new)
at_session Calls (contents.Service s) other code None h = absurd h
at_session Calls (contents.Service s) other code (Some b) h = both code (contents.Service s) b h
at_session Calls (contents.Station x) other code None h = absurd h
at_session Calls (contents.Station x) other code (Some b) h = both code (contents.Station x) b h
at_session Calls (contents.Session s) other code new h = absurd (other refl)
at_session Calls (contents.Journal journal) other code None h = absurd h
at_session Calls (contents.Node node) other code None h = absurd h
at_session Calls (contents.Journal journal) other code (Some b) h = both code (contents.Journal journal) b h
at_session Calls (contents.Node node) other code (Some b) h = both code (contents.Node node) b h

station_stays : (a : StationData) (new : Option Content) → HandleGoesOn (Some (contents.Station a)) new
    → OfStation new (λ b. StationGoesOn a b)
station_stays a None h = absurd h
station_stays a (Some (contents.Service s)) h = absurd h
station_stays a (Some (contents.Station b)) h = h
station_stays a (Some (contents.Session s)) h = absurd h
station_stays a (Some (contents.Journal journal)) h = absurd h
station_stays a (Some (contents.Node node)) h = absurd h

session_stays : (s : Session) (new : Option Content) → HandleGoesOn (Some (contents.Session s)) new
    → OfSession new (λ t. SameSession s t)
session_stays s None h = absurd h
session_stays s (Some (contents.Service other)) h = absurd h
session_stays s (Some (contents.Station x)) h = absurd h
session_stays s (Some (contents.Session t)) h = h
session_stays s (Some (contents.Journal journal)) h = absurd h
session_stays s (Some (contents.Node node)) h = absurd h

service_stays : (s : Service) (new : Option Content) → HandleGoesOn (Some (contents.Service s)) new
    → new ≡ Some (contents.Service s)
service_stays s None h = absurd h
service_stays s (Some b) h = ap (λ (c : Content). Some c) h

journal_stays : (journal : Journal) (new : Option Content) → HandleGoesOn (Some (contents.Journal journal)) new
    → new ≡ Some (contents.Journal journal)
journal_stays journal None h = absurd h
journal_stays journal (Some b) h = ap (λ (c : Content). Some c) h

pub kinds_told : KindsTold
kinds_told = record {
  turn = at_station (λ code. TurnsStation code);
  forget = at_station (λ code. ForgetsStation code);
  submit = at_session (λ code. Submits code (Some (Lock 7 Write)));
  poll = λ was count. at_session (λ code. Polls code was count);
  station = station_stays;
  session = session_stays;
  service = service_stays;
  journal = journal_stays;
}

no_left : (content : Content) → kind_of content ≢ 2 → left_at (Some content) ≡ 0
no_left (contents.Service s) other = refl
no_left (contents.Station x) other = refl
no_left (contents.Session s) other = absurd (other refl)
no_left (contents.Journal journal) other = refl
no_left (contents.Node node) other = refl

no_client : (content : Content) → kind_of content ≢ 2 → client_in (Some content) ≡ 0
no_client (contents.Service s) other = refl
no_client (contents.Station x) other = refl
no_client (contents.Session s) other = absurd (other refl)
no_client (contents.Journal journal) other = refl
no_client (contents.Node node) other = refl

no_home : (content : Content) → kind_of content ≢ 2 → home_in (Some content) ≡ 0
no_home (contents.Service s) other = refl
no_home (contents.Station x) other = refl
no_home (contents.Session s) other = absurd (other refl)
no_home (contents.Journal journal) other = refl
no_home (contents.Node node) other = refl

pub asks_told : AsksTold
asks_told = record {
  left = λ s. refl;
  client = λ s. refl;
  home = λ s. refl;
  no_left = no_left;
  no_client = no_client;
  no_home = no_home;
}
