-- What follows where a station or a session is taken from a service or given to it, and where it is not.
use Rattle.std.proofs.Common.{◌≡◌, ◌≢◌, ◌++◌, ◌∷◌, [], inl, inr, List, Option, Some, None, Vec, slice_get, refl, sym, ap, subst, drop, ◌∙◌}
use Rattle.std.specs.Global.{Global}
use Rattle.std.proofs.lemmas.Bool.{false≢true}
use Rattle.lt_live.specs.declared.ends.Session.{Session}
use Rattle.lt_live.specs.Stations.{StationData}
use Rattle.lt_live_c.specs.declared.content.Content.{Content}
use Rattle.lt_live_c.specs.declared.content.Content.TheVariants as contents
use Rattle.lt_live_c.specs.declared.service.Service.{Service}
use Rattle.lt_live_c.specs.Taking.{HandleTakesStation, HandleTakesSession, TakesFirstStation, TakesFirstSession, HandleHasNoStation, HandleHasNoSession, HandleGives, GivesTo, HandleKeeps, SameService, HandleGiveRefused}
use Rattle.lt_live_c.specs.Told.{kind_of}
use Rattle.lt_live_c.specs.ServicesTold.{OfService, HasThem, AfterTakingStation, AfterTakingSession, TakesTold, AfterGiving, GivesTold}

-- the handle stands for a service of which this is so
of_service : (handle : Option Content) (Told : Service → Type 0) (Goal : Option Content → Type 0) → OfService handle Told
    → ((s : Service) → Told s → Goal (Some (contents.Service s))) → Goal handle
of_service None Told Goal h says = absurd h
of_service (Some (contents.Service s)) Told Goal h says = says s h
of_service (Some (contents.Station x)) Told Goal h says = absurd h
of_service (Some (contents.Session s)) Told Goal h says = absurd h
of_service (Some (contents.Journal journal)) Told Goal h says = absurd h
of_service (Some (contents.Node node)) Told Goal h says = absurd h

-- a service that has these stations and sessions
abbrev Has : List StationData → List Session → Service → Type 0
Has stations sessions s = (s.stations.items ≡ stations) × (s.sessions.items ≡ sessions)

-- What is taken.

-- a station was taken from this service
pub record StationTaken (s : Service) (taken new : Option Content) : Type 0 where
  pub station : StationData
  pub later : Service
  pub taken_is : taken ≡ Some (contents.Station station)
  pub new_is : new ≡ Some (contents.Service later)
  pub takes : TakesFirstStation station s later

station_taken : (s : Service) (taken new : Option Content) → HandleTakesStation taken (Some (contents.Service s)) new
    → StationTaken s taken new
station_taken s None new h = absurd h
station_taken s (Some (contents.Service other)) new h = absurd h
station_taken s (Some (contents.Station x)) None h = absurd h
station_taken s (Some (contents.Station x)) (Some (contents.Service t)) h =
    record { station = x; later = t; taken_is = refl; new_is = refl; takes = h }
station_taken s (Some (contents.Station x)) (Some (contents.Station other)) h = absurd h
station_taken s (Some (contents.Station x)) (Some (contents.Session other)) h = absurd h
station_taken s (Some (contents.Station x)) (Some (contents.Journal other)) h = absurd h
station_taken s (Some (contents.Station x)) (Some (contents.Node other)) h = absurd h
station_taken s (Some (contents.Session other)) new h = absurd h
station_taken s (Some (contents.Journal other)) new h = absurd h
station_taken s (Some (contents.Node other)) new h = absurd h

pub record SessionTaken (s : Service) (taken new : Option Content) : Type 0 where
  pub session : Session
  pub later : Service
  pub taken_is : taken ≡ Some (contents.Session session)
  pub new_is : new ≡ Some (contents.Service later)
  pub takes : TakesFirstSession session s later

session_taken : (s : Service) (taken new : Option Content) → HandleTakesSession taken (Some (contents.Service s)) new
    → SessionTaken s taken new
session_taken s None new h = absurd h
session_taken s (Some (contents.Service other)) new h = absurd h
session_taken s (Some (contents.Session x)) None h = absurd h
session_taken s (Some (contents.Session x)) (Some (contents.Service t)) h =
    record { session = x; later = t; taken_is = refl; new_is = refl; takes = h }
session_taken s (Some (contents.Session x)) (Some (contents.Station other)) h = absurd h
session_taken s (Some (contents.Session x)) (Some (contents.Session other)) h = absurd h
session_taken s (Some (contents.Session x)) (Some (contents.Journal other)) h = absurd h
session_taken s (Some (contents.Session x)) (Some (contents.Node other)) h = absurd h
session_taken s (Some (contents.Station other)) new h = absurd h
session_taken s (Some (contents.Journal other)) new h = absurd h
session_taken s (Some (contents.Node other)) new h = absurd h

same_item : {X : Type 0} (x y : X) (place : Option X) → place ≡ Some y → place ≡ Some x → y ≡ x
same_item x y place got same = cc

-- the first item of a list is this one
first_is : {X : Type 0} (x y : X) (rest items : List X) → slice_get items 0 ≡ Some y → items ≡ x ∷ rest → y ≡ x
first_is {X = X} x y rest items got same =
    same_item x y (slice_get items 0) got (ap (λ (xs : List X). slice_get xs 0) same)

first_station : (x y : StationData) (sessions : List Session)
    → AfterTakingStation (x ∷ y ∷ []) sessions (λ taken new. (taken ≡ Some (contents.Station x)) × HasThem (y ∷ []) sessions new)
first_station x y sessions old new taken has =
    of_service old (Has (x ∷ y ∷ []) sessions)
    (λ handle. HandleTakesStation taken handle new → (taken ≡ Some (contents.Station x)) × HasThem (y ∷ []) sessions new)
    has
    (λ s same h.
    let took = station_taken s taken new h in (
      took.taken_is ∙ ap (λ (z : StationData). Some (contents.Station z)) (first_is x took.station (y ∷ []) s.stations.items took.takes.0 same.0),
      subst (λ (handle : Option Content). HasThem (y ∷ []) sessions handle) (sym took.new_is) (
        took.takes.1 ∙ ap (λ (xs : List StationData). drop 1 xs) same.0,
        ap (λ (v : Vec Session Global). v.items) took.takes.2 ∙ same.1,
      ),
    ))

first_session : (x y : Session) (stations : List StationData)
    → AfterTakingSession stations (x ∷ y ∷ []) (λ taken new. (taken ≡ Some (contents.Session x)) × HasThem stations (y ∷ []) new)
first_session x y stations old new taken has =
    of_service old (Has stations (x ∷ y ∷ []))
    (λ handle. HandleTakesSession taken handle new → (taken ≡ Some (contents.Session x)) × HasThem stations (y ∷ []) new)
    has
    (λ s same h.
    let took = session_taken s taken new h in (
      took.taken_is ∙ ap (λ (z : Session). Some (contents.Session z)) (first_is x took.session (y ∷ []) s.sessions.items took.takes.0 same.1),
      subst (λ (handle : Option Content). HasThem stations (y ∷ []) handle) (sym took.new_is) (
        ap (λ (v : Vec StationData Global). v.items) took.takes.2 ∙ same.0,
        took.takes.1 ∙ ap (λ (xs : List Session). drop 1 xs) same.1,
      ),
    ))

no_station : (content : Content) (taken new : Option Content) → kind_of content ≢ 0
    → HandleTakesStation taken (Some content) new → ⊥
no_station content None new other h = h
no_station content (Some (contents.Service s)) new other h = h
no_station content (Some (contents.Session s)) new other h = h
no_station content (Some (contents.Journal journal)) new other h = h
no_station content (Some (contents.Node node)) new other h = h
no_station content (Some (contents.Station x)) None other h = h
no_station (contents.Service s) (Some (contents.Station x)) (Some b) other h = other refl
no_station (contents.Station y) (Some (contents.Station x)) (Some b) other h = h
no_station (contents.Session s) (Some (contents.Station x)) (Some b) other h = h
no_station (contents.Journal journal) (Some (contents.Station x)) (Some b) other h = h
no_station (contents.Node node) (Some (contents.Station x)) (Some b) other h = h

no_session : (content : Content) (taken new : Option Content) → kind_of content ≢ 0 → kind_of content ≢ 4
    → HandleTakesSession taken (Some content) new → ⊥
no_session content None new other neither h = h
no_session content (Some (contents.Service s)) new other neither h = h
no_session content (Some (contents.Station x)) new other neither h = h
no_session content (Some (contents.Journal journal)) new other neither h = h
no_session content (Some (contents.Node node)) new other neither h = h
no_session content (Some (contents.Session t)) None other neither h = h
no_session (contents.Service s) (Some (contents.Session t)) (Some b) other neither h = other refl
no_session (contents.Station x) (Some (contents.Session t)) (Some b) other neither h = h
no_session (contents.Session s) (Some (contents.Session t)) (Some b) other neither h = h
no_session (contents.Journal journal) (Some (contents.Session t)) (Some b) other neither h = h
no_session (contents.Node node) (Some (contents.Session t)) (Some b) other neither h = neither refl

some_left : {X : Type 0} (x : X) (rest items : List X) → items ≡ x ∷ rest → items ≡ [] → ⊥
some_left x rest items same none = cc

nothing_so : (content : Content) → kind_of content ≢ 0 → HandleHasNoStation 1 (Some content) → ⊥
nothing_so (contents.Service s) other h = other refl
nothing_so (contents.Station x) other h = h.nothing refl
nothing_so (contents.Session s) other h = h.nothing refl
nothing_so (contents.Journal journal) other h = h.nothing refl
nothing_so (contents.Node node) other h = h.nothing refl

no_sessions_so : (content : Content) → kind_of content ≢ 0 → kind_of content ≢ 4 → HandleHasNoSession 1 (Some content) → ⊥
no_sessions_so (contents.Service s) other neither h = other refl
no_sessions_so (contents.Station x) other neither h = h.nothing refl
no_sessions_so (contents.Session s) other neither h = h.nothing refl
no_sessions_so (contents.Journal journal) other neither h = h.nothing refl
no_sessions_so (contents.Node node) other neither h = neither refl

no_memory_so : (content : Content) → kind_of content ≢ 0 → HandleHasNoStation 3 (Some content) → ⊥
no_memory_so (contents.Service s) other h = other refl
no_memory_so (contents.Station x) other h = h.memory refl
no_memory_so (contents.Session s) other h = h.memory refl
no_memory_so (contents.Journal journal) other h = h.memory refl
no_memory_so (contents.Node node) other h = h.memory refl

no_memory_for : (content : Content) → kind_of content ≢ 0 → kind_of content ≢ 4 → HandleHasNoSession 3 (Some content) → ⊥
no_memory_for (contents.Service s) other neither h = other refl
no_memory_for (contents.Station x) other neither h = h.memory refl
no_memory_for (contents.Session s) other neither h = h.memory refl
no_memory_for (contents.Journal journal) other neither h = h.memory refl
no_memory_for (contents.Node node) other neither h = neither refl

pub takes_told : TakesTold
takes_told = record {
  station = λ x y sessions old new taken has h. (first_station x y sessions old new taken has h).0;
  stations_left = λ x y sessions old new taken has h. (first_station x y sessions old new taken has h).1;
  session = λ x y stations old new taken has h. (first_session x y stations old new taken has h).0;
  sessions_left = λ x y stations old new taken has h. (first_session x y stations old new taken has h).1;
  no_station_of_others = no_station;
  no_session_of_others = no_session;
  a_station_left = λ x rest sessions old has.
      of_service old (Has (x ∷ rest) sessions) (λ handle. HandleHasNoStation 1 handle → ⊥) has
      (λ s same h. some_left x rest s.stations.items same.0 (h.nothing refl));
  a_session_left = λ x rest stations old has.
      of_service old (Has stations (x ∷ rest)) (λ handle. HandleHasNoSession 1 handle → ⊥) has
      (λ s same h. some_left x rest s.sessions.items same.1 (h.nothing refl));
  nothing_of_others = nothing_so;
  no_sessions_of_others = no_sessions_so;
  wrong_for_station = λ s h. false≢true (sym (h.wrong refl));
  wrong_for_session = λ s h. false≢true (sym (h.wrong refl));
  memory_for_station = λ s none h. h.memory refl none;
  memory_for_session = λ s none h. h.memory refl none;
  no_memory_of_others = no_memory_so;
  no_memory_for_session = no_memory_for;
  station_codes = λ code content h. h.only;
  session_codes = λ code content h. h.only;
}

-- What is given.

given_to : (given : Content) (s : Service) (new : Option Content) → HandleGives (Some given) (Some (contents.Service s)) new
    → OfService new (λ t. GivesTo given s t)
given_to given s None h = absurd h
given_to given s (Some (contents.Service t)) h = h
given_to given s (Some (contents.Station other)) h = absurd h
given_to given s (Some (contents.Session other)) h = absurd h
given_to given s (Some (contents.Journal other)) h = absurd h
given_to given s (Some (contents.Node other)) h = absurd h

station_given : (x y : StationData) (sessions : List Session)
    → AfterGiving (contents.Station y) (x ∷ []) sessions (λ new. HasThem (x ∷ y ∷ []) sessions new)
station_given x y sessions old new has =
    of_service old (Has (x ∷ []) sessions)
    (λ handle. HandleGives (Some (contents.Station y)) handle new → HasThem (x ∷ y ∷ []) sessions new)
    has
    (λ s same h.
    of_service new (λ t. GivesTo (contents.Station y) s t) (λ handle. HasThem (x ∷ y ∷ []) sessions handle)
    (given_to (contents.Station y) s new h)
    (λ t gives. (
      gives.0 ∙ ap (λ (xs : List StationData). xs ++ y ∷ []) same.0,
      ap (λ (v : Vec Session Global). v.items) gives.1 ∙ same.1,
    )))

session_given : (x y : Session) (stations : List StationData)
    → AfterGiving (contents.Session y) stations (x ∷ []) (λ new. HasThem stations (x ∷ y ∷ []) new)
session_given x y stations old new has =
    of_service old (Has stations (x ∷ []))
    (λ handle. HandleGives (Some (contents.Session y)) handle new → HasThem stations (x ∷ y ∷ []) new)
    has
    (λ s same h.
    of_service new (λ t. GivesTo (contents.Session y) s t) (λ handle. HasThem stations (x ∷ y ∷ []) handle)
    (given_to (contents.Session y) s new h)
    (λ t gives. (
      ap (λ (v : Vec StationData Global). v.items) gives.1 ∙ same.0,
      gives.0 ∙ ap (λ (xs : List Session). xs ++ y ∷ []) same.1,
    )))

keeps_all : (s : Service) (new : Option Content) → HandleKeeps (Some (contents.Service s)) new
    → OfService new (λ t. SameService s t)
keeps_all s None h = absurd h
keeps_all s (Some (contents.Service t)) h = h
keeps_all s (Some (contents.Station other)) h = absurd h
keeps_all s (Some (contents.Session other)) h = absurd h
keeps_all s (Some (contents.Journal other)) h = absurd h
keeps_all s (Some (contents.Node other)) h = absurd h

never_given : (given content : Content) (new : Option Content) → kind_of content ≢ 0
    → HandleGives (Some given) (Some content) new → ⊥
never_given given content None other h = h
never_given given (contents.Service s) (Some b) other h = other refl
never_given given (contents.Station x) (Some b) other h = h
never_given given (contents.Session s) (Some b) other h = h
never_given given (contents.Journal journal) (Some b) other h = h
never_given given (contents.Node node) (Some b) other h = h

all_kept : (stations : List StationData) (sessions : List Session) (old new : Option Content)
    → HasThem stations sessions old → HandleKeeps old new → HasThem stations sessions new
all_kept stations sessions old new has =
    of_service old (Has stations sessions) (λ handle. HandleKeeps handle new → HasThem stations sessions new) has
    (λ s same h.
    of_service new (λ t. SameService s t) (λ handle. HasThem stations sessions handle) (keeps_all s new h)
    (λ t keeps. (keeps.0 ∙ same.0, keeps.1 ∙ same.1)))

others_kept : (content : Content) (new : Option Content) → kind_of content ≢ 0 → HandleKeeps (Some content) new
    → new ≡ Some content
others_kept (contents.Service s) new other h = absurd (other refl)
others_kept (contents.Station x) None other h = absurd h
others_kept (contents.Station x) (Some b) other h = ap (λ (c : Content). Some c) h
others_kept (contents.Session s) None other h = absurd h
others_kept (contents.Session s) (Some b) other h = ap (λ (c : Content). Some c) h
others_kept (contents.Journal journal) None other h = absurd h
others_kept (contents.Node node) None other h = absurd h
others_kept (contents.Journal journal) (Some b) other h = ap (λ (c : Content). Some c) h
others_kept (contents.Node node) (Some b) other h = ap (λ (c : Content). Some c) h

to_others : (given content : Content) → kind_of content ≢ 0 → HandleGiveRefused 3 (Some given) (Some content) → ⊥
to_others given (contents.Service s) other h = other refl
to_others given (contents.Station x) other h = false≢true ((h.memory refl).1)
to_others given (contents.Session s) other h = false≢true ((h.memory refl).1)
to_others given (contents.Journal journal) other h = false≢true ((h.memory refl).1)
to_others given (contents.Node node) other h = false≢true ((h.memory refl).1)

of_others : (given content : Content) → kind_of given ≢ 1 → kind_of given ≢ 2
    → HandleGiveRefused 3 (Some given) (Some content) → ⊥
of_others (contents.Service s) content other neither h = false≢true ((h.memory refl).0)
of_others (contents.Station x) content other neither h = other refl
of_others (contents.Session s) content other neither h = neither refl
of_others (contents.Journal journal) content other neither h = false≢true ((h.memory refl).0)
of_others (contents.Node node) content other neither h = false≢true ((h.memory refl).0)

pub gives_told : GivesTold
gives_told = record {
  station = station_given;
  session = session_given;
  never_service = λ given s new h.
      of_service new (λ t. GivesTo (contents.Service given) s t) (λ handle. ⊥)
      (given_to (contents.Service given) s new h) (λ t gives. gives);
  never_journal = λ given s new h.
      of_service new (λ t. GivesTo (contents.Journal given) s t) (λ handle. ⊥)
      (given_to (contents.Journal given) s new h) (λ t gives. gives);
  never_to_others = never_given;
  keeps = all_kept;
  keeps_others = others_kept;
  wrong_station = λ x s h. elim (h.wrong refl) [
    | inl other ↦ false≢true (sym other)
    | inr other ↦ false≢true (sym other)
  ];
  wrong_session = λ t s h. elim (h.wrong refl) [
    | inl other ↦ false≢true (sym other)
    | inr other ↦ false≢true (sym other)
  ];
  memory_to_others = to_others;
  memory_of_others = of_others;
  give_codes = λ code given to h. h.only;
}
