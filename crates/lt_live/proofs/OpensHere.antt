-- The sessions of one node's clients, as they are opened and as they are served.
use Rattle.std.proofs.Common.{◌≡◌, ◌≢◌, ◌<◌, ◌+◌, ◌⊎◌, ℕ, List, [], ◌∷◌, ◌++◌, length, Some, inl, inr, refl, sym, ap, subst, ◌∙◌, arith, filter_map, slice_get, slice_set, slice_index_or}
use Rattle.std.proofs.lemmas.Bool.{cases_eq}
use Rattle.std.proofs.lemmas.Option.{same_Some, slice_get-get_or, slice_get_within}
use Rattle.rtrb.specs.Ring.{producer_capacity}
use Rattle.lt_modes.specs.declared.command.Command.{Command}
use Rattle.lt_modes.specs.Script.{ScriptData}
use Rattle.lt_spec.specs.NodeMove.{commands_of, command_if, home}
use Rattle.lt_spec.specs.World.{Logged}
use Rattle.lt_runner.specs.declared.parts.Parts.{Parts}
use Rattle.lt_live.specs.declared.ends.Seat.{Seat}
use Rattle.lt_live.specs.declared.ends.Session.{Session}
use Rattle.lt_live.specs.Words.{known_commands, outbox_replies, AreTwoEnds}
use Rattle.lt_live.specs.Seats.{IsSeat}
use Rattle.lt_live.specs.Stations.{IsSeatOf, StationData, AreOthers, IsNewSession, IsSeated, StaySeated, SeatLooks}
use Rattle.lt_live.specs.Live.{SaysSame, ServedBy}
use Rattle.lt_live.specs.OneNode.{AreSeated, IsUnused, IsNewHere, HasSessionOf, OpensHere, SettlesHere, SettlingHere}
use Rattle.lt_live.proofs.SeatLists.{pushed, last_here, stays_here, none_here, alike_self, alike_set, alike_join, set_here, set_other}
use Rattle.lt_live.proofs.Settling.{says_itself, says_join, says_looked}

-- no client yet
pub none_opened : (script : ScriptData) (capacity share : ℕ) (station : StationData) → station.seats ≡ [] → OpensHere script capacity share 0 station []
none_opened script capacity share station empty = record {
  each = λ k s e. none_here k s e;
  before = λ k s e. none_here k s e;
  rising = λ j k s t e f less. none_here j s e;
  all = λ client below. absurd (omega (arith, below));
  seats = λ k seat e. none_here k seat (ap (λ (seats : List Seat). slice_get seats k) (sym empty) ∙ e);
}

-- the next client is one of another node
pub one_skipped : (script : ScriptData) (capacity share n : ℕ) (station : StationData) (sessions : List Session) → OpensHere script capacity share n station sessions
    → home script n ≢ station.runner.node.me → OpensHere script capacity share (n + 1) station sessions
one_skipped script capacity share n station sessions h apart = record {
  each = h.each;
  before = λ k s e. omega (arith, h.before k s e);
  rising = h.rising;
  all = λ client below at. elim (cases_eq client n) [
    | inl same ↦ absurd (apart (ap (home script) (sym same) ∙ at))
    | inr other ↦ h.all client (omega (arith, below, other)) at
  ];
  seats = λ k seat e. omega (arith, h.seats k seat e);
}

-- the new session and its seat
pub record AddsHere (script : ScriptData) (capacity share n : ℕ) (x y : StationData) (s : Session) (seat : Seat) : Type 0 where
  pub at_home : home script n ≡ x.runner.node.me
  pub inside : n < length script.clients
  pub runner : y.runner ≡ x.runner
  pub seats : y.seats ≡ x.seats ++ seat ∷ []
  pub new : IsNewSession script capacity share n s
  pub place_is : s.place ≡ length x.seats
  pub link : AreTwoEnds s seat
  pub places : producer_capacity seat.replies ≡ capacity
  pub commands : known_commands seat ≡ []
  pub waits : outbox_replies seat ≡ []

-- one session more
module _ (script : ScriptData) (capacity share n : ℕ) (x y : StationData) (sessions : List Session) (s : Session) (seat : Seat)
    (h : OpensHere script capacity share n x sessions) (adds : AddsHere script capacity share n x y s seat) where
  same_node : y.runner.node.me ≡ x.runner.node.me
  same_node = ap (λ (p : Parts). p.node.me) adds.runner

  old_one : (t : Session) → IsNewHere script capacity share x t → IsNewHere script capacity share y t
  old_one t old = record {
    new = old.new;
    inside = old.inside;
    home = old.home ∙ sym same_node;
    seated = record {
      seat = old.seated.seat;
      here = ap (λ (seats : List Seat). slice_get seats t.place) adds.seats ∙ stays_here x.seats seat old.seated.seat t.place old.seated.here;
      link = old.seated.link;
    };
    places = old.places;
    commands = old.commands;
    waits = old.waits;
  }

  new_one : IsNewHere script capacity share y s
  new_one = record {
    new = subst (λ (client : ℕ). IsNewSession script capacity share client s) (sym adds.new.client_is) adds.new;
    inside = subst (λ (client : ℕ). client < length script.clients) (sym adds.new.client_is) adds.inside;
    home = ap (home script) adds.new.client_is ∙ (adds.at_home ∙ sym same_node);
    seated = record {
      seat = seat;
      here = ap (λ (seats : List Seat). slice_get seats s.place) adds.seats
          ∙ (ap (slice_get (x.seats ++ seat ∷ [])) adds.place_is ∙ last_here x.seats seat);
      link = adds.link;
    };
    places = adds.places;
    commands = adds.commands;
    waits = adds.waits;
  }

  each_one : (k : ℕ) (t : Session) → (slice_get sessions k ≡ Some t) ⊎ ((k ≡ length sessions) × (s ≡ t)) → IsNewHere script capacity share y t
  each_one k t (inl old) = old_one t (h.each k t old)
  each_one k t (inr new) = subst (λ (u : Session). IsNewHere script capacity share y u) new.1 new_one

  client_of_new : (t : Session) → s ≡ t → t.client ≡ n
  client_of_new t same = ap (λ (u : Session). u.client) (sym same) ∙ adds.new.client_is

  rising : (j k : ℕ) (t u : Session) → j < k → (slice_get sessions j ≡ Some t) ⊎ ((j ≡ length sessions) × (s ≡ t))
      → (slice_get sessions k ≡ Some u) ⊎ ((k ≡ length sessions) × (s ≡ u)) → t.client < u.client
  rising j k t u less (inl a) (inl b) = h.rising j k t u a b less
  rising j k t u less (inl a) (inr b) = omega (arith, h.before j t a, client_of_new u b.1)
  rising j k t u less (inr a) (inl b) = absurd (omega (arith, less, a.0, slice_get_within sessions k u b))
  rising j k t u less (inr a) (inr b) = absurd (omega (arith, less, a.0, b.0))

  later : (client : ℕ) → HasSessionOf client sessions → HasSessionOf client (sessions ++ s ∷ [])
  later client old = record {
    place = old.place;
    session = old.session;
    here = stays_here sessions s old.session old.place old.here;
    client_is = old.client_is;
  }

  seat_before : (k : ℕ) (z : Seat) → (slice_get x.seats k ≡ Some z) ⊎ ((k ≡ length x.seats) × (seat ≡ z)) → z.client < n + 1
  seat_before k z (inl old) = omega (arith, h.seats k z old)
  seat_before k z (inr new) =
      let client : z.client ≡ n = ap (λ (u : Seat). u.client) (sym new.1) ∙ (adds.link.0 ∙ adds.new.client_is) in
      omega (arith, client)

  pub one_opened : OpensHere script capacity share (n + 1) y (sessions ++ s ∷ [])
  one_opened = record {
    each = λ k t e. each_one k t (pushed sessions s k t e);
    before = λ k t e. elim (pushed sessions s k t e) [
      | inl old ↦ omega (arith, h.before k t old)
      | inr new ↦ omega (arith, client_of_new t new.1)
    ];
    rising = λ j k t u e f less. rising j k t u less (pushed sessions s j t e) (pushed sessions s k u f);
    all = λ client below at. elim (cases_eq client n) [
      | inl same ↦ record { place = length sessions; session = s; here = last_here sessions s; client_is = adds.new.client_is ∙ sym same }
      | inr other ↦ later client (h.all client (omega (arith, below, other)) (at ∙ same_node))
    ];
    seats = λ k z e. seat_before k z (pushed x.seats seat k z (ap (λ (seats : List Seat). slice_get seats k) (sym adds.seats) ∙ e));
  }

-- its seat is one of the runner, and the only one of the client
pub seat_here : (script : ScriptData) (capacity client : ℕ) (p : Parts) (seat : Seat) → IsUnused script p → script.commands ≡ [] → home script client ≡ p.node.me
    → client < length script.clients → IsSeat [] [] client seat → producer_capacity seat.replies ≡ capacity → 0 < capacity → IsSeatOf p seat
seat_here script capacity client p seat unused empty at inside kept is some = record {
  client = subst (λ (s : ScriptData). seat.client < length s.clients) (sym unused.same)
      (subst (λ (c : ℕ). c < length script.clients) (sym kept.client_is) inside);
  home = ap (λ (s : ScriptData). home s seat.client) unused.same ∙ (ap (home script) kept.client_is ∙ at);
  kept = subst (λ (list : List Command). IsSeat list p.log.entries seat.client seat) (sym none)
      (subst (λ (log : List Logged). IsSeat [] log seat.client seat) (sym unused.log)
      (subst (λ (c : ℕ). IsSeat [] [] c seat) (sym kept.client_is) kept));
  places = subst (λ (n : ℕ). 0 < n) (sym is) some;
  gone = omega (arith, unused.gone);
}
  where
    none : commands_of p.node.script seat.client ≡ []
    none = ap (λ (s : ScriptData). commands_of s seat.client) unused.same
        ∙ ap (λ (requests : List (ℕ × Command)). filter_map (command_if seat.client) requests) empty

pub others_here : (script : ScriptData) (capacity share n client : ℕ) (station : StationData) (sessions : List Session)
    → OpensHere script capacity share n station sessions → client ≡ n → AreOthers client station.seats
others_here script capacity share n client station sessions h at k seat here same =
    absurd (omega (arith, h.seats k seat here, same, at))

-- Sessions that look at their rings, one after the other.

pub none_settled : (station : StationData) (sessions : List Session) → AreSeated sessions station.seats → SettlingHere 0 station sessions station sessions
none_settled station sessions seated = record {
  runner = refl;
  stay = λ s here. here;
  seated = seated;
  each = alike_self SaysSame says_itself sessions;
  served = λ k s below. absurd (omega (arith, below));
}

pub next_settled : (n : ℕ) (station mid later : StationData) (sessions between after : List Session) → SettlingHere n station sessions mid between
    → SettlesHere n mid between later after → SettlingHere (n + 1) station sessions later after
next_settled n station mid later sessions between after h at = record {
  runner = at.runner ∙ h.runner;
  stay = λ s here. at.stay s (h.stay s here);
  seated = at.seated;
  each = alike_join SaysSame says_join sessions between after h.each at.each;
  served = λ k s below e. elim (cases_eq k n) [
    | inl same ↦ subst (λ (p : Parts). ServedBy p s.client s) h.runner (at.served s (ap (slice_get after) (sym same) ∙ e))
    | inr apart ↦ h.served k s (omega (arith, below, apart)) (sym (at.others k apart) ∙ e)
  ];
}

-- the session that is found there looked at its rings
settles_here : (place : ℕ) (station later : StationData) (sessions : List Session) (s t : Session) → slice_get sessions place ≡ Some s
    → AreSeated sessions station.seats → SeatLooks station.runner.log.entries s t station.seats later.seats → IsSeated t later.seats
    → StaySeated station.seats later.seats → ServedBy station.runner s.client t → later.runner ≡ station.runner
    → SettlesHere place station sessions later (slice_set sessions place t)
settles_here place station later sessions s t here seated looks now stay served runner = record {
  runner = runner;
  stay = stay;
  seated = λ k u e. elim (cases_eq k place) [
    | inl at ↦ subst (λ (v : Session). IsSeated v later.seats) (is_new k u e at) now
    | inr apart ↦ stay u (seated k u (sym (set_other sessions place t k apart) ∙ e))
  ];
  each = alike_set SaysSame says_itself sessions place s t here says;
  others = λ k apart. set_other sessions place t k apart;
  served = λ u e. subst (λ (v : Session). ServedBy station.runner v.client v) (is_new place u e refl)
      (subst (λ (client : ℕ). ServedBy station.runner client t) (sym says.same.client) served);
}
  where
    says : SaysSame s t
    says = says_looked station.runner.log.entries s t station.seats later.seats looks

    is_new : (k : ℕ) (u : Session) → slice_get (slice_set sessions place t) k ≡ Some u → k ≡ place → t ≡ u
    is_new k u e at = same_Some t u (sym (set_here sessions place t (slice_get_within sessions place s here)) ∙ (ap (slice_get (slice_set sessions place t)) (sym at) ∙ e))

-- so does the one that is found there, where it is inside
pub seated_found : (place : ℕ) (sessions : List Session) (d : Session) (seats : List Seat) → place < length sessions → AreSeated sessions seats
    → IsSeated (slice_index_or sessions place d) seats
seated_found place sessions d seats inside seated =
    seated place (slice_index_or sessions place d) (slice_get-get_or sessions place d inside)

pub settles_found : (place : ℕ) (station later : StationData) (sessions : List Session) (d t : Session) → place < length sessions
    → AreSeated sessions station.seats → SeatLooks station.runner.log.entries (slice_index_or sessions place d) t station.seats later.seats
    → IsSeated t later.seats → StaySeated station.seats later.seats → ServedBy station.runner (slice_index_or sessions place d).client t
    → later.runner ≡ station.runner → SettlesHere place station sessions later (slice_set sessions place t)
settles_found place station later sessions d t inside seated looks now stay served runner =
    settles_here place station later sessions (slice_index_or sessions place d) t (slice_get-get_or sessions place d inside) seated looks now stay served runner
