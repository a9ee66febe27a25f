-- What is behind a handle, and what calls do with it.
use Rattle.std.specs.Prelude.{◌≡◌, ◌≢◌, ℕ, Bool, true, false, Option, Some, None, ⊤, ◌++◌, ◌∷◌, [], ◌⊎◌, drop, slice_get}
use Rattle.lt_live.specs.declared.ends.Session.{Session}
use Rattle.lt_live.specs.Stations.{StationData}
use Rattle.lt_live.specs.Words.{SameSession}
use Rattle.lt_live.specs.Live.{LiveScript, StationGoesOn}
use Rattle.lt_live_c.specs.declared.code.TheConstants.{WRONG_HANDLE, NOTHING, NO_MEMORY}
use Rattle.lt_live_c.specs.declared.content.Content.{Content}
use Rattle.lt_live_c.specs.declared.content.Content.TheVariants as contents
use Rattle.lt_live_c.specs.declared.service.Service.{Service}
use Rattle.lt_live_c.specs.Nodes.{NodeGoesOn, KeepsLetters, TakesOwnSession}

abbrev pub stands_for_service : Content → Bool
stands_for_service (contents.Service s) = true
stands_for_service other = false

-- a service, or a node in a process of its own
abbrev pub has_sessions : Content → Bool
has_sessions (contents.Service s) = true
has_sessions (contents.Node n) = true
has_sessions other = false

-- the handle stands for nothing, or for something which is no service
abbrev pub IsNoService : Option Content → Type 0
IsNoService None = ⊤
IsNoService (Some content) = stands_for_service content ≡ false

-- a service has all the stations and all the sessions of one `open`, in order
abbrev pub IsWholeService : Content → Type 0
IsWholeService (contents.Service s) = LiveScript s.stations.items s.sessions.items
IsWholeService other = ⊤

abbrev pub IsWholeHandle : Option Content → Type 0
IsWholeHandle None = ⊥
IsWholeHandle (Some content) = IsWholeService content

-- the same where the handle may stand for nothing
abbrev pub IsWholeIfAny : Option Content → Type 0
IsWholeIfAny None = ⊤
IsWholeIfAny (Some content) = IsWholeService content

-- a station stays one of the same node, where sessions keep their other ends, a session stays that of the same
-- client, and anything else stays as it is
abbrev pub ContentGoesOn : Content → Content → Type 0
ContentGoesOn (contents.Service s) b = b ≡ contents.Service s
ContentGoesOn (contents.Station s) (contents.Station t) = StationGoesOn s t
ContentGoesOn (contents.Station s) other = ⊥
ContentGoesOn (contents.Session s) (contents.Session t) = SameSession s t
ContentGoesOn (contents.Session s) other = ⊥
ContentGoesOn (contents.Journal j) b = b ≡ contents.Journal j
ContentGoesOn (contents.Node n) (contents.Node m) = NodeGoesOn n m
ContentGoesOn (contents.Node n) other = ⊥

-- both handles stand for something, and so does the one from the other
abbrev pub BothStand : (Content → Content → Type 0) → Option Content → Option Content → Type 0
BothStand R (Some a) (Some b) = R a b
BothStand R (Some a) None = ⊥
BothStand R None o = ⊥

-- the same, or both stand for nothing
abbrev pub BothIfAny : (Content → Content → Type 0) → Option Content → Option Content → Type 0
BothIfAny R (Some a) b = BothStand R (Some a) b
BothIfAny R None b = b ≡ None

-- what a call does with what a handle stands for: with one that stands for nothing it does nothing, and the code says
-- so
abbrev pub AtHandle : ℕ → (Content → Content → Type 0) → Option Content → Option Content → Type 0
AtHandle code R (Some a) b = BothStand R (Some a) b
AtHandle code R None b = (code ≡ WRONG_HANDLE) × (b ≡ None)

-- why a call did nothing: the handle stands for nothing, or else for this reason
abbrev pub WrongOr : ℕ → (Content → Type 0) → Option Content → Type 0
WrongOr code Why None = code ≡ WRONG_HANDLE
WrongOr code Why (Some a) = Why a

abbrev pub HandleGoesOn : Option Content → Option Content → Type 0
HandleGoesOn a b = BothIfAny ContentGoesOn a b

-- what a call on a station does, or on that of a node in a process of its own, of which nothing else changes: with
-- anything else it does nothing, and the code says so
abbrev pub OnStation : ℕ → (StationData → StationData → Type 0) → Content → Content → Type 0
OnStation code R (contents.Station s) (contents.Station t) = R s t
OnStation code R (contents.Station s) other = ⊥
OnStation code R (contents.Node n) (contents.Node m) = R n.remote.station m.remote.station × KeepsLetters n m
OnStation code R (contents.Node n) other = ⊥
OnStation code R other b = (code ≡ WRONG_HANDLE) × (b ≡ other)

abbrev pub AtStation : ℕ → (StationData → StationData → Type 0) → Option Content → Option Content → Type 0
AtStation code R a b = AtHandle code (OnStation code R) a b

-- the same of a session
abbrev pub OnSession : ℕ → (Session → Session → Type 0) → Content → Content → Type 0
OnSession code R (contents.Session s) (contents.Session t) = R s t
OnSession code R (contents.Session s) other = ⊥
OnSession code R other b = (code ≡ WRONG_HANDLE) × (b ≡ other)

abbrev pub AtSession : ℕ → (Session → Session → Type 0) → Option Content → Option Content → Type 0
AtSession code R a b = AtHandle code (OnSession code R) a b

-- Which station or session is taken from a service, or given to it.

-- it is the first station of the service, which has the others left
abbrev pub TakesFirstStation : StationData → Service → Service → Type 0
TakesFirstStation x s t = (slice_get s.stations.items 0 ≡ Some x) × (t.stations.items ≡ drop 1 s.stations.items)
    × (t.sessions ≡ s.sessions)

abbrev pub TakesStation : StationData → Content → Content → Type 0
TakesStation x (contents.Service s) (contents.Service t) = TakesFirstStation x s t
TakesStation x a b = ⊥

abbrev pub HandleTakesStation : Option Content → Option Content → Option Content → Type 0
HandleTakesStation (Some (contents.Station x)) a b = BothStand (TakesStation x) a b
HandleTakesStation other a b = ⊥

-- the same of the first session
abbrev pub TakesFirstSession : Session → Service → Service → Type 0
TakesFirstSession x s t = (slice_get s.sessions.items 0 ≡ Some x) × (t.sessions.items ≡ drop 1 s.sessions.items)
    × (t.stations ≡ s.stations)

abbrev pub TakesSession : Session → Content → Content → Type 0
TakesSession x (contents.Service s) (contents.Service t) = TakesFirstSession x s t
TakesSession x (contents.Node n) (contents.Node m) = TakesOwnSession x n m
TakesSession x a b = ⊥

abbrev pub HandleTakesSession : Option Content → Option Content → Option Content → Type 0
HandleTakesSession (Some (contents.Session x)) a b = BothStand (TakesSession x) a b
HandleTakesSession other a b = ⊥

-- a service that has no station, or no session, left
abbrev pub HasNoStation : Content → Type 0
HasNoStation (contents.Service s) = s.stations.items ≡ []
HasNoStation other = ⊥

abbrev pub HasNoSession : Content → Type 0
HasNoSession (contents.Service s) = s.sessions.items ≡ []
HasNoSession (contents.Node n) = n.sessions ≡ []
HasNoSession other = ⊥

-- a service that has one
abbrev pub HasStation : Content → Type 0
HasStation (contents.Service s) = s.stations.items ≢ []
HasStation other = ⊥

abbrev pub HasSession : Content → Type 0
HasSession (contents.Service s) = s.sessions.items ≢ []
HasSession (contents.Node n) = n.sessions ≢ []
HasSession other = ⊥

-- why none was taken: memory is wanted only where there is one
pub record NoStation (code : ℕ) (a : Content) : Type 0 where
  pub nothing : code ≡ NOTHING → HasNoStation a
  pub memory : code ≡ NO_MEMORY → HasStation a
  pub wrong : code ≡ WRONG_HANDLE → stands_for_service a ≡ false
  pub only : (code ≡ NOTHING) ⊎ ((code ≡ WRONG_HANDLE) ⊎ (code ≡ NO_MEMORY))

pub record NoSession (code : ℕ) (a : Content) : Type 0 where
  pub nothing : code ≡ NOTHING → HasNoSession a
  pub memory : code ≡ NO_MEMORY → HasSession a
  pub wrong : code ≡ WRONG_HANDLE → has_sessions a ≡ false
  pub only : (code ≡ NOTHING) ⊎ ((code ≡ WRONG_HANDLE) ⊎ (code ≡ NO_MEMORY))

-- the code of what has none
abbrev pub IsNoStation : ℕ → Content → Type 0
IsNoStation code a =
    ((code ≡ NOTHING) × HasNoStation a) ⊎ ((code ≡ WRONG_HANDLE) × (stands_for_service a ≡ false))

abbrev pub IsNoSession : ℕ → Content → Type 0
IsNoSession code a =
    ((code ≡ NOTHING) × HasNoSession a) ⊎ ((code ≡ WRONG_HANDLE) × (has_sessions a ≡ false))

abbrev pub HandleHasNoStation : ℕ → Option Content → Type 0
HandleHasNoStation code a = WrongOr code (NoStation code) a

abbrev pub HandleHasNoSession : ℕ → Option Content → Type 0
HandleHasNoSession code a = WrongOr code (NoSession code) a

-- it is behind all other stations, or sessions, of the service
abbrev pub GivesTo : Content → Service → Service → Type 0
GivesTo (contents.Station x) s t = (t.stations.items ≡ s.stations.items ++ x ∷ []) × (t.sessions ≡ s.sessions)
GivesTo (contents.Session x) s t = (t.sessions.items ≡ s.sessions.items ++ x ∷ []) × (t.stations ≡ s.stations)
GivesTo other s t = ⊥

abbrev pub GivesTheOther : Content → Content → Content → Type 0
GivesTheOther x (contents.Service s) (contents.Service t) = GivesTo x s t
GivesTheOther x a b = ⊥

abbrev pub HandleGives : Option Content → Option Content → Option Content → Type 0
HandleGives (Some x) a b = BothStand (GivesTheOther x) a b
HandleGives None a b = ⊥

-- a station or a session
abbrev pub is_end : Content → Bool
is_end (contents.Station x) = true
is_end (contents.Session x) = true
is_end other = false

-- the service has the stations and sessions that it had
abbrev pub SameService : Service → Service → Type 0
SameService s t = (t.stations.items ≡ s.stations.items) × (t.sessions.items ≡ s.sessions.items)

abbrev pub KeepsAll : Content → Content → Type 0
KeepsAll (contents.Service s) (contents.Service t) = SameService s t
KeepsAll (contents.Service s) other = ⊥
KeepsAll other b = b ≡ other

abbrev pub HandleKeeps : Option Content → Option Content → Type 0
HandleKeeps a b = BothIfAny KeepsAll a b

-- it is no station and no session, or goes to what is no service
abbrev pub IsNoGift : Content → Content → Type 0
IsNoGift x a = (is_end x ≡ false) ⊎ (stands_for_service a ≡ false)

-- why it was not given: memory is wanted only for a station or a session that goes to a service
pub record NotGiven (code : ℕ) (x a : Content) : Type 0 where
  pub wrong : code ≡ WRONG_HANDLE → IsNoGift x a
  pub memory : code ≡ NO_MEMORY → (is_end x ≡ true) × (stands_for_service a ≡ true)
  pub only : (code ≡ WRONG_HANDLE) ⊎ (code ≡ NO_MEMORY)

abbrev pub GiveRefused : ℕ → Content → Content → Content → Type 0
GiveRefused code x a b = NotGiven code x a × KeepsAll a b

abbrev pub GiveRefusedBy : ℕ → Content → Service → Service → Type 0
GiveRefusedBy code x s t = NotGiven code x (contents.Service s) × SameService s t

abbrev pub HandleGiveRefused : ℕ → Option Content → Option Content → Type 0
HandleGiveRefused code (Some x) a = WrongOr code (NotGiven code x) a
HandleGiveRefused code None a = code ≡ WRONG_HANDLE
