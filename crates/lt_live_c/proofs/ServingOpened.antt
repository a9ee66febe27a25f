-- What follows where a service is told what it served, and where it is not.
use Rattle.std.proofs.Common.{◌≡◌, ◌≢◌, ◌==◌, ◌+◌, ◌∷◌, [], inl, inr, ℕ, List, Option, Some, None, true, refl, sym, ap, subst, arith, eqb-true, length, slice_get, sum_by, ◌∙◌}
use Rattle.std.proofs.lemmas.Bool.{and_parts, false≢true}
use Rattle.lt_modes.specs.Script.{ScriptData}
use Rattle.lt_live.specs.declared.ends.Session.{Session}
use Rattle.lt_live.specs.Live.{AreLive}
use Rattle.lt_live.specs.Stations.{StationData}
use Rattle.lt_live.specs.Words.{submitted, polled}
use Rattle.lt_live_c.specs.declared.content.Content.{Content}
use Rattle.lt_live_c.specs.declared.content.Content.TheVariants as contents
use Rattle.lt_live_c.specs.declared.service.Service.{Service}
use Rattle.lt_live_c.specs.Serving.{ServedSoFar, HandleTellsServed, HandleNotTold, are_all}
use Rattle.lt_live_c.specs.Told.{kind_of}
use Rattle.lt_live_c.specs.ServicesTold.{OfService, HasThem, client_script, AfterServed, CountedAtTwo, NeverTold, ServedTold}
use Rattle.lt_live_c.proofs.Countable.{live_has_all}

-- the service went on so
served_on : (s : Service) (submits polls : ℕ) (new : Option Content)
    → HandleTellsServed submits polls (Some (contents.Service s)) new
    → OfService new (λ t. ServedSoFar (record { submitted = submits; polled = polls }) s t)
served_on s submits polls None h = absurd h
served_on s submits polls (Some (contents.Service t)) h = h
served_on s submits polls (Some (contents.Station other)) h = absurd h
served_on s submits polls (Some (contents.Session other)) h = absurd h
served_on s submits polls (Some (contents.Journal other)) h = absurd h
served_on s submits polls (Some (contents.Node other)) h = absurd h

-- what is so of it follows from what it went on by
so_of : (new : Option Content) (Told Says : Service → Type 0) → ((t : Service) → Told t → Says t)
    → OfService new Told → OfService new Says
so_of None Told Says follows h = h
so_of (Some (contents.Service t)) Told Says follows h = follows t h
so_of (Some (contents.Station other)) Told Says follows h = h
so_of (Some (contents.Session other)) Told Says follows h = h
so_of (Some (contents.Journal other)) Told Says follows h = h
so_of (Some (contents.Node other)) Told Says follows h = h

after : (first : ScriptData) (Told : Service → Service → Type 0)
    → ((s t : Service) (submits polls : ℕ) → AreLive first s.stations.items s.sessions.items
    → ServedSoFar (record { submitted = submits; polled = polls }) s t → Told s t)
    → AfterServed first Told
after first Told follows s submits polls new live h =
    so_of new _ (λ t. Told s t) (λ t on. follows s t submits polls live on) (served_on s submits polls new h)

sum_two : (f : Session → ℕ) (x y : Session) (xs : List Session) → xs ≡ x ∷ y ∷ [] → sum_by f xs ≡ f x + f y
sum_two f x y xs same = ap (λ (ys : List Session). sum_by f ys) same ∙ omega arith

counted : (Told : Session → Session → ℕ → ℕ → Type 0)
    → ((x y : Session) (s t : Service) (submits polls : ℕ) → ServedSoFar (record { submitted = submits; polled = polls }) s t
    → t.sessions.items ≡ x ∷ y ∷ [] → Told x y submits polls)
    → CountedAtTwo Told
counted Told follows x y stations s submits polls None h has = absurd h
counted Told follows x y stations s submits polls (Some (contents.Service t)) h has = follows x y s t submits polls h has.1
counted Told follows x y stations s submits polls (Some (contents.Station other)) h has = absurd h
counted Told follows x y stations s submits polls (Some (contents.Session other)) h has = absurd h
counted Told follows x y stations s submits polls (Some (contents.Journal other)) h has = absurd h
counted Told follows x y stations s submits polls (Some (contents.Node other)) h has = absurd h

-- Where some are out.

all_of : (submits polls : ℕ) (stations : List StationData) (sessions : List Session) (old new : Option Content)
    → HasThem stations sessions old → HandleTellsServed submits polls old new
    → are_all (slice_get stations 0) (length stations) (length sessions) ≡ true
all_of submits polls stations sessions None new has h = absurd has
all_of submits polls stations sessions (Some (contents.Service s)) None has h = absurd h
all_of submits polls stations sessions (Some (contents.Service s)) (Some (contents.Service t)) has h =
    subst (λ (xs : List StationData). are_all (slice_get xs 0) (length xs) (length sessions) ≡ true) has.0
    (subst (λ (ys : List Session). are_all (slice_get s.stations.items 0) (length s.stations.items) (length ys) ≡ true) has.1 h.all)
all_of submits polls stations sessions (Some (contents.Service s)) (Some (contents.Station other)) has h = absurd h
all_of submits polls stations sessions (Some (contents.Service s)) (Some (contents.Session other)) has h = absurd h
all_of submits polls stations sessions (Some (contents.Service s)) (Some (contents.Journal other)) has h = absurd h
all_of submits polls stations sessions (Some (contents.Service s)) (Some (contents.Node other)) has h = absurd h
all_of submits polls stations sessions (Some (contents.Station other)) new has h = absurd has
all_of submits polls stations sessions (Some (contents.Session other)) new has h = absurd has
all_of submits polls stations sessions (Some (contents.Journal other)) new has h = absurd has
all_of submits polls stations sessions (Some (contents.Node other)) new has h = absurd has

station_out : (x : StationData) (sessions : List Session) → x.runner.node.script.nodes ≡ 2 → NeverTold (x ∷ []) sessions
station_out x sessions two submits polls old new has h =
    let nodes = x.runner.node.script.nodes in
    let all = all_of submits polls (x ∷ []) sessions old new has h in
    let one = eqb-true 1 nodes (and_parts (1 == nodes) (length sessions == length x.runner.node.script.clients) all).0 in
    omega (arith, one, two)

session_out : (x : StationData) → x.runner.node.script ≡ client_script → NeverTold (x ∷ []) []
session_out x is submits polls old new has h =
    let clients = length x.runner.node.script.clients in
    let all = all_of submits polls (x ∷ []) [] old new has h in
    let none = eqb-true 0 clients (and_parts (1 == x.runner.node.script.nodes) (0 == clients) all).1 in
    omega (arith, none, ap (λ (script : ScriptData). length script.clients) is)

never_served : (content : Content) (submits polls : ℕ) (new : Option Content) → kind_of content ≢ 0
    → HandleTellsServed submits polls (Some content) new → ⊥
never_served (contents.Service s) submits polls new other h = other refl
never_served (contents.Station x) submits polls None other h = h
never_served (contents.Station x) submits polls (Some b) other h = h
never_served (contents.Session s) submits polls None other h = h
never_served (contents.Session s) submits polls (Some b) other h = h
never_served (contents.Journal journal) submits polls None other h = h
never_served (contents.Node node) submits polls None other h = h
never_served (contents.Journal journal) submits polls (Some b) other h = h
never_served (contents.Node node) submits polls (Some b) other h = h

all_told : (first : ScriptData) (s : Service) (code : ℕ) → AreLive first s.stations.items s.sessions.items
    → HandleNotTold code (Some (contents.Service s)) → ⊥
all_told first s code live h = elim h.only [
  | inl nothing ↦ false≢true (sym (h.nothing nothing) ∙ live_has_all first s live)
  | inr wrong ↦ false≢true (sym (h.wrong wrong))
]

nothing_so : (content : Content) → kind_of content ≢ 0 → HandleNotTold 1 (Some content) → ⊥
nothing_so (contents.Service s) other h = other refl
nothing_so (contents.Station x) other h = h.nothing refl
nothing_so (contents.Session s) other h = h.nothing refl
nothing_so (contents.Journal journal) other h = h.nothing refl
nothing_so (contents.Node node) other h = h.nothing refl

pub served_told : ServedTold
served_told = record {
  served = λ first. after first _ (λ s t submits polls live h. h.served first live);
  live = λ first. after first _ (λ s t submits polls live h. h.live first live);
  stations = λ first. after first _ (λ s t submits polls live h. h.stations);
  sessions = λ first. after first _ (λ s t submits polls live h. h.sessions);
  submitted_are = counted _ (λ x y s t submits polls h two.
      h.totals_are.submitted_is ∙ sum_two (λ (z : Session). length (submitted z)) x y t.sessions.items two);
  polled_are = counted _ (λ x y s t submits polls h two.
      h.totals_are.polled_is ∙ sum_two (λ (z : Session). length (polled z)) x y t.sessions.items two);
  no_station = λ sessions submits polls old new has h. false≢true (all_of submits polls [] sessions old new has h);
  a_station_out = station_out;
  a_session_out = session_out;
  never_of_others = never_served;
  all_back = all_told;
  nothing_of_others = nothing_so;
  wrong = λ s h. false≢true (sym (h.wrong refl));
  served_codes = λ code content h. h.only;
  whole = λ first s live all. (first, live);
  may_lack = λ s none all. absurd (false≢true (
      subst (λ (xs : List StationData). are_all (slice_get xs 0) (length xs) (length s.sessions.items) ≡ true) none all
      ));
}
