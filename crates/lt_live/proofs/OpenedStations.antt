-- What is known of the runners as stations are opened.
use Rattle.std.proofs.Common.{◌≡◌, ◌<◌, ℕ, List, [], length, filter_map, Some, sym, ap, subst, ◌∙◌, ◌+◌, ◌∷◌, ◌++◌, map, arith, inl, inr, get_or, refl, slice_get, ◌⊎◌, slice_set, slice_index_or, option_map, length-append}
use Rattle.std.proofs.lemmas.Bool.{cases_eq}
use Rattle.std.proofs.lemmas.List.{length-map, map-append}
use Rattle.std.proofs.lemmas.Option.{same_Some, slice_get-get_or, slice_get-map, slice_get_within}
use Rattle.std.proofs.Math.Seq.{map-set_same}
use Rattle.rtrb.specs.Ring.{producer_capacity}
use Rattle.lt_modes.specs.declared.command.Command.{Command}
use Rattle.lt_modes.specs.Script.{ScriptData}
use Rattle.lt_spec.specs.NodeMove.{commands_of, command_if, home, AreAt}
use Rattle.lt_spec.specs.World.{Logged}
use Rattle.lt_runner.specs.declared.parts.Parts.{Parts}
use Rattle.lt_threads.specs.Pushes.{IsFirstCrew}
use Rattle.lt_live.specs.declared.ends.Seat.{Seat}
use Rattle.lt_live.specs.Seats.{IsSeat, KnowAll, LooksBeside, HasToldAll, IsFullOfReplies}
use Rattle.lt_live.specs.Stations.{IsSeatOf, StationData, AreOthers, IsNewSession, HasSeat, runner_of, SeatsBefore, Opens, AreSeatless, HaveNoCommands, IsStation, IsSeated, SeatLooks}
use Rattle.lt_live.specs.declared.ends.Session.{Session}
use Rattle.lt_live.specs.declared.limits.TheConstants.{LETTER_PLACES}
use Rattle.lt_live.specs.Words.{known_commands, outbox_replies, AreTwoEnds, command_held, known_replies}
use Rattle.lt_live.proofs.SeatLists.{set_here, set_other, pushed, last_here, stays_here, none_here}
use Rattle.lt_live.proofs.KeptStations.{seat_of, Stays, station_from}

-- the runner of each node has the script
script_at : (script : ScriptData) (letters limit place : ℕ) (rs : List Parts) (p : Parts) → IsFirstCrew script letters limit rs → slice_get rs place ≡ Some p → p.node.script ≡ script
script_at script letters limit place rs p first here = first.scripts place p here

-- a new seat is one of the runner of its client's node
pub first_seat : (script : ScriptData) (letters limit capacity place client : ℕ) (rs : List Parts) (p : Parts) (seat : Seat) → IsFirstCrew script letters limit rs
    → script.commands ≡ [] → slice_get rs place ≡ Some p → place ≡ home script client → client < length script.clients → IsSeat [] [] client seat
    → producer_capacity seat.replies ≡ capacity → 0 < capacity → IsSeatOf p seat
first_seat script letters limit capacity place client rs p seat first empty here at inside kept is some = record {
  client = subst (λ (s : ScriptData). seat.client < length s.clients) (sym same) (subst (λ (c : ℕ). c < length script.clients) (sym kept.client_is) inside);
  home = ap (λ (s : ScriptData). home s seat.client) same ∙ ap (home script) kept.client_is ∙ sym at ∙ sym (first.crew.each place p here).me;
  kept = subst (λ (list : List Command). IsSeat list p.log.entries seat.client seat) (sym none)
      (subst (λ (log : List Logged). IsSeat [] log seat.client seat) (sym (first.logs place p here))
      (subst (λ (c : ℕ). IsSeat [] [] c seat) (sym kept.client_is) kept));
  places = subst (λ (n : ℕ). 0 < n) (sym is) some;
  gone = omega (arith, first.have_all place p here);
}
  where
    same : p.node.script ≡ script
    same = script_at script letters limit place rs p first here

    none : commands_of p.node.script seat.client ≡ []
    none = ap (λ (s : ScriptData). commands_of s seat.client) same ∙ ap (λ (requests : List (ℕ × Command)). filter_map (command_if seat.client) requests) empty

-- the runners of a script without commands have none
pub first_commands : (script : ScriptData) (letters limit : ℕ) (rs : List Parts) → IsFirstCrew script letters limit rs → script.commands ≡ []
    → (k : ℕ) (p : Parts) → slice_get rs k ≡ Some p → p.node.script.commands ≡ []
first_commands script letters limit rs first empty k p here = ap (λ (s : ScriptData). s.commands) (script_at script letters limit k rs p first here) ∙ empty

-- One session more, with its seat.

-- the new session, its seat, and the station that it is put to
pub record Adds (script : ScriptData) (capacity share n place : ℕ) (x y : StationData) (s : Session) (seat : Seat) : Type 0 where
  pub at_home : place ≡ home script n
  pub runner : y.runner ≡ x.runner
  pub seats : y.seats ≡ x.seats ++ seat ∷ []
  pub new : IsNewSession script capacity share n s
  pub place_is : s.place ≡ length x.seats
  pub link : AreTwoEnds s seat
  pub places : producer_capacity seat.replies ≡ capacity
  pub commands : known_commands seat ≡ []
  pub waits : outbox_replies seat ≡ []

module _ (script : ScriptData) (limit capacity share n place : ℕ) (stations : List StationData) (sessions : List Session) (d y : StationData) (s : Session) (seat : Seat)
    (h : Opens script limit capacity share n stations sessions) (inside : place < length stations)
    (adds : Adds script capacity share n place (slice_index_or stations place d) y s seat) where
  abbrev x : StationData
  x = slice_index_or stations place d

  was : slice_get stations place ≡ Some x
  was = slice_get-get_or stations place d inside

  old_seat : (t : Session) → HasSeat script capacity stations t → HasSeat script capacity (slice_set stations place y) t
  old_seat t old = elim (cases_eq (home script t.client) place) [
    | inl here ↦
        let same : old.station ≡ x = same_Some old.station x (sym old.here ∙ ap (slice_get stations) here ∙ was) in
        let there : slice_get x.seats t.place ≡ Some old.seated.seat = subst (λ (z : StationData). slice_get z.seats t.place ≡ Some old.seated.seat) same old.seated.here in
        record {
          station = y;
          here = ap (slice_get (slice_set stations place y)) here ∙ set_here stations place y inside;
          seated = record {
            seat = old.seated.seat;
            here = ap (λ (seats : List Seat). slice_get seats t.place) adds.seats ∙ stays_here x.seats seat old.seated.seat t.place there;
            link = old.seated.link;
          };
          places = old.places;
          commands = old.commands;
          waits = old.waits;
        }
    | inr apart ↦
        record {
          station = old.station;
          here = set_other stations place y (home script t.client) apart ∙ old.here;
          seated = old.seated;
          places = old.places;
          commands = old.commands;
          waits = old.waits;
        }
  ]

  new_seat : HasSeat script capacity (slice_set stations place y) s
  new_seat = record {
    station = y;
    here = ap (slice_get (slice_set stations place y)) (ap (home script) adds.new.client_is ∙ sym adds.at_home) ∙ set_here stations place y inside;
    seated = record {
      seat = seat;
      here = ap (λ (seats : List Seat). slice_get seats s.place) adds.seats
          ∙ ap (slice_get (x.seats ++ seat ∷ [])) adds.place_is
          ∙ last_here x.seats seat;
      link = adds.link;
    };
    places = adds.places;
    commands = adds.commands;
    waits = adds.waits;
  }

  each_session : (client : ℕ) (t : Session) → (slice_get sessions client ≡ Some t) ⊎ ((client ≡ length sessions) × (s ≡ t))
      → IsNewSession script capacity share client t × HasSeat script capacity (slice_set stations place y) t
  each_session client t (inl old) = let both = h.each client t old in (both.0, old_seat t both.1)
  each_session client t (inr new) =
      let at : n ≡ client = sym (new.0 ∙ h.count) in
      subst (λ (u : Session). IsNewSession script capacity share client u × HasSeat script capacity (slice_set stations place y) u) new.1
      (subst (λ (k : ℕ). IsNewSession script capacity share k s) at adds.new, new_seat)

  seats_before : SeatsBefore (n + 1) (slice_set stations place y)
  seats_before q station e k z f = elim (cases_eq q place) [
    | inl here ↦
        let same : y ≡ station = same_Some y station (sym (set_here stations place y inside) ∙ ap (slice_get (slice_set stations place y)) (sym here) ∙ e) in
        let there : slice_get (x.seats ++ seat ∷ []) k ≡ Some z =
        ap (λ (seats : List Seat). slice_get seats k) (sym adds.seats) ∙ ap (λ (u : StationData). slice_get u.seats k) same ∙ f in
        by_place (pushed x.seats seat k z there)
    | inr apart ↦ let earlier = h.before q station (sym (set_other stations place y q apart) ∙ e) k z f in omega (arith, earlier)
  ]
    where
      by_place : (slice_get x.seats k ≡ Some z) ⊎ ((k ≡ length x.seats) × (seat ≡ z)) → z.client < n + 1
      by_place (inl old) = let earlier = h.before place x was k z old in omega (arith, earlier)
      by_place (inr new) =
          let client : z.client ≡ n = ap (λ (u : Seat). u.client) (sym new.1) ∙ (adds.link.0 ∙ adds.new.client_is) in
          omega (arith, client)

  pub opening_more : Opens script limit capacity share (n + 1) (slice_set stations place y) (sessions ++ s ∷ [])
  opening_more = record {
    runners = subst (λ (rs : List Parts). IsFirstCrew script LETTER_PLACES limit rs) (sym (map-set_same runner_of stations place y d adds.runner)) h.runners;
    count = omega (arith, length-append sessions (s ∷ []), h.count);
    each = λ client t e. each_session client t (pushed sessions s client t e);
    before = seats_before;
    few = h.few;
  }

-- the station that is found at a place of one
found_here : (stations : List StationData) (place : ℕ) (d : StationData) → place < length stations → d ≡ slice_index_or stations place d → slice_get stations place ≡ Some d
found_here stations place d inside is = slice_get-get_or stations place d inside ∙ ap Some (sym is)

-- two that are found there are one
pub found_once : (stations : List StationData) (place : ℕ) (d e : StationData) → place < length stations → d ≡ slice_index_or stations place d
    → e ≡ slice_index_or stations place e → d ≡ e
found_once stations place d e inside one two = same_Some d e (sym (found_here stations place d inside one) ∙ found_here stations place e inside two)

-- no seat there is of the next client
pub others_there : (script : ScriptData) (limit capacity share n place client : ℕ) (stations : List StationData) (sessions : List Session) (d : StationData)
    → Opens script limit capacity share n stations sessions → place < length stations → d ≡ slice_index_or stations place d → client ≡ n → AreOthers client d.seats
others_there script limit capacity share n place client stations sessions d h inside is at k seat here same =
    let earlier = h.before place d (found_here stations place d inside is) k seat here in
    absurd (omega (arith, earlier, same, at))

-- the new seat is one of the runner there
pub seat_there : (script : ScriptData) (limit capacity share n place : ℕ) (stations : List StationData) (sessions : List Session) (d : StationData) (seat : Seat)
    → Opens script limit capacity share n stations sessions → place < length stations → d ≡ slice_index_or stations place d → script.commands ≡ []
    → place ≡ home script n → n < length script.clients → IsSeat [] [] n seat → producer_capacity seat.replies ≡ capacity → 0 < capacity → IsSeatOf d.runner seat
seat_there script limit capacity share n place stations sessions d seat h inside is empty at known kept places some =
    first_seat script LETTER_PLACES limit capacity place n (map runner_of stations) d.runner seat h.runners empty
    (slice_get-map runner_of stations place ∙ ap (option_map runner_of) (found_here stations place d inside is)) at known kept places some

-- the station of each node is there
pub station_there : (script : ScriptData) (limit capacity share n place : ℕ) (stations : List StationData) (sessions : List Session)
    → Opens script limit capacity share n stations sessions → n < length script.clients → place ≡ home script n → place < length stations
station_there script limit capacity share n place stations sessions h known at =
    let below = h.runners.crew.is_script.homes n known in
    omega (arith, at, below, h.runners.crew.count, length-map stations runner_of)

-- A station for each runner.

-- before the first runner
pub no_station : AreSeatless [] []
no_station = record { same = refl; none = λ q station e. none_here q station e }

-- one runner more
pub one_more_station : (runners : List Parts) (stations : List StationData) (p : Parts) (new : StationData) → AreSeatless runners stations
    → new ≡ record { runner = p; seats = [] } → AreSeatless (runners ++ p ∷ []) (stations ++ new ∷ [])
one_more_station runners stations p new h is = record {
  same = map-append runner_of stations (new ∷ [])
      ∙ ap (λ (rs : List Parts). rs ++ new.runner ∷ []) h.same
      ∙ ap (λ (s : StationData). runners ++ s.runner ∷ []) is;
  none = λ q station e. by_place q station (pushed stations new q station e);
}
  where
    by_place : (q : ℕ) (station : StationData) → (slice_get stations q ≡ Some station) ⊎ ((q ≡ length stations) × (new ≡ station)) → station.seats ≡ []
    by_place q station (inl old) = h.none q station old
    by_place q station (inr added) = ap (λ (s : StationData). s.seats) (sym added.1 ∙ is)

-- a runner at its place has no commands, so that they are all of its node
pub no_commands : (runners : List Parts) (k : ℕ) (p : Parts) → HaveNoCommands runners → k < length runners → p ≡ get_or runners k p
    → AreAt p.node.script p.node.me p.node.script.commands
no_commands runners k p none inside here =
    let empty = none k p (slice_get-get_or runners k p inside ∙ ap Some (sym here)) in
    subst (λ (commands : List (ℕ × Command)). AreAt p.node.script p.node.me commands) (sym empty) tt

-- A seat that looked at its rings stays one of its runner's.

seat_of_looked : (p : Parts) (s t : Session) (a b : Seat) → IsSeatOf p a → LooksBeside p.log.entries s t a b → IsSeatOf p b
seat_of_looked p s t a b h looks =
    seat_of p a b h looks.seat.client looks.seat.replies.1 looks.moves
    (record {
      client_is = looks.seat.client;
      taken = looks.taken.0 ∙ (h.kept.taken ∙ ap (λ hand. commands_of p.node.script a.client ++ command_held hand) (sym looks.taken.1));
      due = looks.due h.kept.due;
      cursor = looks.cursor;
    })

-- the seat at this place is another one of the same client
station_set : (p : Parts) (seats : List Seat) (place : ℕ) (x y : Seat) → IsStation p seats → slice_get seats place ≡ Some x → y.client ≡ x.client → IsSeatOf p y
    → IsStation p (slice_set seats place y)
station_set p seats place x y h here client now = station_from p p seats (slice_set seats place y) h h.own (λ k seat e. by_place k seat e)
  where
    by_place : (k : ℕ) (seat : Seat) → slice_get (slice_set seats place y) k ≡ Some seat → Stays p p seats k seat
    by_place k seat e = elim (cases_eq k place) [
      | inl at ↦
          let is : y ≡ seat =
          same_Some y seat (sym (set_here seats place y (slice_get_within seats place x here)) ∙ ap (slice_get (slice_set seats place y)) (sym at) ∙ e) in
          record {
            was = x;
            here = ap (slice_get seats) at ∙ here;
            client = ap (λ (s : Seat). s.client) (sym is) ∙ client;
            now = subst (λ (s : Seat). IsSeatOf p s) is now;
          }
      | inr other ↦
          let was : slice_get seats k ≡ Some seat = sym (set_other seats place y k other) ∙ e in
          record { was = seat; here = was; client = refl; now = h.each k seat was }
    ]

-- what is found at the place of the session
pub seat_found : (seats : List Seat) (place : ℕ) (d : Seat) (s : Session) (seated : IsSeated s seats) → place ≡ s.place → d ≡ slice_index_or seats place d
    → (slice_get seats s.place ≡ Some d) × AreTwoEnds s d
seat_found seats place d s seated at found =
    let inside : place < length seats = subst (λ (k : ℕ). k < length seats) (sym at) (slice_get_within seats s.place seated.seat seated.here) in
    let there : slice_get seats s.place ≡ Some d = ap (slice_get seats) (sym at) ∙ slice_get-get_or seats place d inside ∙ ap Some (sym found) in
    (there, subst (λ (x : Seat). AreTwoEnds s x) (same_Some seated.seat d (sym seated.here ∙ there)) seated.link)

pub seat_inside : (seats : List Seat) (place : ℕ) (s : Session) → IsSeated s seats → place ≡ s.place → place < length seats
seat_inside seats place s seated at = subst (λ (k : ℕ). k < length seats) (sym at) (slice_get_within seats s.place seated.seat seated.here)

pub station_looked : (p : Parts) (seats : List Seat) (place : ℕ) (s t : Session) (d y : Seat) → IsStation p seats → place ≡ s.place → slice_get seats s.place ≡ Some d
    → LooksBeside p.log.entries s t d y → IsStation p (slice_set seats place y)
station_looked p seats place s t d y h at here looks =
    let there : slice_get seats place ≡ Some d = ap (slice_get seats) at ∙ here in
    station_set p seats place d y h there looks.seat.client (seat_of_looked p s t d y (h.each place d there) looks)

pub seat_looked : (log : List Logged) (seats : List Seat) (place : ℕ) (s t : Session) (d y : Seat) → place ≡ s.place → slice_get seats s.place ≡ Some d
    → AreTwoEnds t y → KnowAll t y → LooksBeside log s t d y → HasToldAll log y ⊎ IsFullOfReplies t y → HasToldAll log y ⊎ (0 < length (known_replies t))
    → SeatLooks log s t seats (slice_set seats place y)
seat_looked log seats place s t d y at here link beside looks stops moves = record {
  x = d;
  y = y;
  before = here;
  now = ap (slice_get (slice_set seats place y)) (sym at)
      ∙ set_here seats place y (slice_get_within seats place d (ap (slice_get seats) at ∙ here));
  link = link;
  beside = beside;
  looks = looks;
  stops = stops;
  moves = moves;
  others = λ k apart. set_other seats place y k (λ e. apart (e ∙ at));
}
