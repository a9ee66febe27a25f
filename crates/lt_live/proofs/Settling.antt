-- Stations and sessions stay those of one script.
use Rattle.std.proofs.Common.{◌≡◌, ℕ, List, map, Option, Some, None, refl, sym, ap, subst, ◌∙◌, rules, ◌<◌, ◌≤◌, ◌+◌, length, arith, inl, inr, slice_get, slice_set, slice_index_or, option_map}
use Rattle.std.proofs.lemmas.Option.{slice_get-map, same_Some, slice_get-get_or, slice_get_within}
use Rattle.std.proofs.lemmas.Bool.{cases_eq}
use Rattle.std.proofs.Math.Seq.{map-set_same}
use Rattle.lt_modes.specs.Script.{ScriptData}
use Rattle.lt_spec.specs.NodeMove.{home, with_commands, AreAt, commands_of}
use Rattle.lt_spec.specs.Holdings.{lines_of}
use Rattle.lt_spec.specs.World.{Logged}
use Rattle.lt_pool.specs.Rule.{ContinuesAt}
use Rattle.lt_mail.specs.Words.{Alike, SameEnds}
use Rattle.lt_runner.specs.declared.parts.Parts.{Parts}
use Rattle.lt_runner.specs.Kept.{HasAll}
use Rattle.lt_runner.specs.declared.turning.Turned.{Turned}
use Rattle.lt_threads.specs.Meeting.{EachIs}
use Rattle.lt_live.specs.declared.ends.Session.{Session}
use Rattle.lt_live.specs.declared.ends.Seat.{Seat}
use Rattle.lt_live.specs.declared.limits.TheConstants.{LETTER_PLACES}
use Rattle.lt_live.specs.Words.{SameSession, AreTwoEnds}
use Rattle.lt_live.specs.Stations.{StationData, IsStation, StationTurns, StaySeated, runner_of, IsSeated, SeatLooks}
use Rattle.lt_live.specs.Live.{GoesOn, StationGoesOn, EachStation, OpenedAreLive, LiveLasts, OneStationLasts, OneSessionLasts, AreLive, ServedBy, SaysSame, ServedAt, SettlesAt, Settling, Settled}
use Rattle.lt_live.proofs.Telling.{session_stays, link_seat, is_settled}
use Rattle.lt_live.proofs.SeatLists.{alike_before, alike_after, alike_len, alike_self, alike_set, set_here, set_other, alike_join}
use Rattle.lt_live.proofs.LiveShares.{goes_itself, goes_join, first_shares, shares_last}
use Rattle.lt_live.specs.Seats.{IsServedSession}

pub opened_are_live : OpenedAreLive
opened_are_live script limit capacity share stations sessions empty opened = record {
  runners = first_shares script LETTER_PLACES limit (map runner_of stations) opened.runners empty;
  count = opened.count;
  each = λ client s e.
      let both = opened.each client s e in
      record {
        script_is = both.0.script_is;
        client_is = both.0.client_is;
        share = omega (arith, both.0.share.0, opened.few);
        station = both.1.station;
        here = ap (λ (c : ℕ). slice_get stations (home script c)) (sym both.0.client_is) ∙ both.1.here;
        seated = both.1.seated;
      };
}

runners_go : (stations later : List StationData) → EachStation StationGoesOn stations later → EachIs GoesOn (map runner_of stations) (map runner_of later)
runners_go stations later goes k =
    subst (λ (o : Option Parts). Alike GoesOn o (slice_get (map runner_of later) k)) (sym (slice_get-map runner_of stations k))
    (subst (λ (o : Option Parts). Alike GoesOn (option_map runner_of (slice_get stations k)) o) (sym (slice_get-map runner_of later k))
    (here (slice_get stations k) (slice_get later k) (goes k)))
  where
    here : (x y : Option StationData) → Alike StationGoesOn x y → Alike GoesOn (option_map runner_of x) (option_map runner_of y)
    here None None p = tt
    here None (Some y) p = absurd p
    here (Some x) None p = absurd p
    here (Some x) (Some y) p = p.runner

pub live_lasts : LiveLasts
live_lasts script stations later sessions after h goes same = record {
  runners = shares_last script (map runner_of stations) (map runner_of later) (runners_go stations later goes) h.runners;
  count = alike_len SameSession sessions after same ∙ h.count;
  each = λ client t e.
      let was = alike_before SameSession sessions after same client t e in
      let is : SameSession was.0 t = was.2 in
      let old = h.each client was.0 was.1 in
      let now = alike_after StationGoesOn stations later goes (home script client) old.station old.here in
      let on : StationGoesOn old.station now.0 = now.2 in
      record {
        script_is = is.script ∙ old.script_is;
        client_is = is.client ∙ old.client_is;
        share = omega (arith, is.share, old.share);
        station = now.0;
        here = now.1;
        seated = session_stays was.0 t now.0.seats is (on.seated was.0 old.seated);
      };
}

pub station_itself : (a : StationData) → StationGoesOn a a
station_itself a = record { runner = goes_itself a.runner; seated = λ s seated. seated }

-- a station whose runner stays
pub station_same : (x y : StationData) → y.runner ≡ x.runner → StaySeated x.seats y.seats → StationGoesOn x y
station_same x y same stay = record { runner = subst (λ (p : Parts). GoesOn x.runner p) (sym same) (goes_itself x.runner); seated = stay }

pub session_itself : (s : Session) → SameSession s s
session_itself s = record { script = refl; client = refl; place = refl; share = refl; commands = ((refl, refl, refl, refl), refl); replies = ((refl, refl, refl, refl), refl) }

pub one_station_lasts : OneStationLasts
one_station_lasts script stations sessions place x y h here on =
    live_lasts script stations (slice_set stations place y) sessions sessions h (alike_set StationGoesOn station_itself stations place x y here on)
    (alike_self SameSession session_itself sessions)

pub one_session_lasts : OneSessionLasts
one_session_lasts script stations sessions place s t h here same =
    live_lasts script stations stations sessions (slice_set sessions place t) h (alike_self StationGoesOn station_itself stations)
    (alike_set SameSession session_itself sessions place s t here same)

-- a turn of a station
pub turn_goes_on : (turned : Turned) (a : Parts) (seats : List Seat) (b : Parts) (later : List Seat) → StationTurns turned a seats b later → IsStation b later → GoesOn a b
turn_goes_on turned a seats b later h station =
    let mid = h.appends.runner in
    let same = h.grew.same in
    let me : b.node.me ≡ a.node.me = same.me ∙ ap (λ (p : Parts). p.node.me) mid in
    let script : b.node.script ≡ with_commands a.node.script b.node.script.commands =
    ap (λ (s : ScriptData). with_commands s b.node.script.commands) (same.script ∙ ap (λ (p : Parts). p.node.script) mid) in
    record {
      script = script;
      own = λ before.
          subst (λ (q : ℕ). AreAt a.node.script q b.node.script.commands) me
          (subst (λ (s : ScriptData). AreAt s b.node.me b.node.script.commands) script station.own);
      me = me;
      limit = same.limit ∙ ap (λ (p : Parts). p.limit) mid;
      ends = subst (λ (p : Parts). SameEnds p.mail b.mail) mid same.ends;
    }

-- a turn forgets nothing
pub turn_has_all : (turned : Turned) (a : Parts) (seats : List Seat) (b : Parts) (later : List Seat) → StationTurns turned a seats b later → HasAll a → HasAll b
turn_has_all turned a seats b later turns had =
    let same = turns.grew.same in (
      same.gone ∙ (ap (λ (p : Parts). p.log.gone) turns.appends.runner ∙ had.0),
      same.commands_gone ∙ (ap (λ (p : Parts). p.node.gone) turns.appends.runner ∙ had.1),
    )

-- a station in a pool, after a turn
pub turns_on : (firsts : List StationData) (node : ℕ) (a b : StationData) → ContinuesAt StationGoesOn firsts node a → GoesOn a.runner b.runner → StaySeated a.seats b.seats
    → ContinuesAt StationGoesOn firsts node b
turns_on firsts node a b h goes stay = (
  h.0,
  h.1,
  record {
    runner = goes_join h.0.runner a.runner b.runner h.2.runner goes;
    seated = λ s seated. stay s (h.2.seated s seated);
  },
)

-- Session after session looks at its rings.

-- a look at the rings of one session leaves all sessions their ends
pub look_stays : (log : List Logged) (s t : Session) (old new : List Seat) → SeatLooks log s t old new → StaySeated old new
look_stays log s t old new h u seated = elim (cases_eq u.place s.place) [
  | inl at ↦
      let is : seated.seat ≡ h.x = same_Some seated.seat h.x (sym seated.here ∙ ap (slice_get old) at ∙ h.before) in
      record {
        seat = h.y;
        here = ap (slice_get new) at ∙ h.now;
        link = link_seat u h.x h.y h.looks.seat (subst (λ (z : Seat). AreTwoEnds u z) is seated.link);
      }
  | inr apart ↦ record { seat = seated.seat; here = h.others u.place apart ∙ seated.here; link = seated.link }
]

-- and the session is served
pub look_serves : (p : Parts) (s t : Session) (old new : List Seat) → IsStation p old → IsSeated s old → SeatLooks p.log.entries s t old new → ServedBy p s.client t
look_serves p s t old new station seated h =
    let client : h.x.client ≡ s.client = ap (λ (z : Seat). z.client) (same_Some h.x seated.seat (sym h.before ∙ seated.here)) ∙ seated.link.0 in
    subst (λ (c : ℕ). IsServedSession (commands_of p.node.script c) (lines_of p.log.entries) c t) client
    (is_settled (commands_of p.node.script h.x.client) p.log.entries s t h.x h.y (station.each s.place h.x h.before).kept h.looks h.beside).served

pub says_itself : (s : Session) → SaysSame s s
says_itself s = record { same = session_itself s; submitted = refl; polled = refl }

pub same_sessions : (a b c : Session) → SameSession a b → SameSession b c → SameSession a c
same_sessions a b c first second = record {
  script = second.script ∙ first.script;
  client = second.client ∙ first.client;
  place = second.place ∙ first.place;
  share = second.share ∙ first.share;
  commands = search rules;
  replies = search rules;
}

pub says_join : (a b c : Session) → SaysSame a b → SaysSame b c → SaysSame a c
says_join a b c first second = record {
  same = same_sessions a b c first.same second.same;
  submitted = second.submitted ∙ first.submitted;
  polled = second.polled ∙ first.polled;
}

-- the stations and sessions at the two places are others
module _ (script : ScriptData) (client place : ℕ) (stations : List StationData) (sessions : List Session) (x y : StationData) (s t : Session)
    (h : AreLive script stations sessions) (session : slice_get sessions client ≡ Some s) (at : place ≡ home script client) (station : slice_get stations place ≡ Some x)
    (runner : y.runner ≡ x.runner) (stay : StaySeated x.seats y.seats) (says : SaysSame s t) (served : ServedBy x.runner s.client t) where
  was : slice_index_or stations place x ≡ x
  was = same_Some (slice_index_or stations place x) x (sym (slice_get-get_or stations place x (slice_get_within stations place x station)) ∙ station)

  now : (u : Session) → slice_get (slice_set sessions client t) client ≡ Some u → t ≡ u
  now u e = same_Some t u (sym (set_here sessions client t (slice_get_within sessions client s session)) ∙ e)

  of_client : ServedBy x.runner client t
  of_client = subst (λ (c : ℕ). ServedBy x.runner c t) (h.each client s session).client_is served

  pub settles_at : SettlesAt script client stations sessions (slice_set stations place y) (slice_set sessions client t)
  settles_at = record {
    live = one_session_lasts script (slice_set stations place y) sessions client s t (one_station_lasts script stations sessions place x y h station (station_same x y runner stay)) session says.same;
    runners = map-set_same runner_of stations place y x (runner ∙ sym (ap runner_of was));
    each = alike_set SaysSame says_itself sessions client s t session says;
    others = λ k apart. set_other sessions client t k apart;
    served = λ u e p there.
        let here : slice_get (map runner_of stations) (home script client) ≡ Some x.runner =
        slice_get-map runner_of stations (home script client) ∙ ap (option_map runner_of) (ap (slice_get stations) (sym at) ∙ station) in
        subst (λ (v : Session). ServedBy p client v) (now u e)
        (subst (λ (q : Parts). ServedBy q client t) (same_Some x.runner p (sym here ∙ there)) of_client);
  }

pub none_settled : (script : ScriptData) (stations : List StationData) (sessions : List Session) → AreLive script stations sessions
    → Settling script 0 stations sessions stations sessions
none_settled script stations sessions h = record {
  live = h;
  runners = refl;
  each = alike_self SaysSame says_itself sessions;
  served = λ client t below. absurd (omega (arith, below));
}

pub next_settled : (script : ScriptData) (n : ℕ) (stations mid later : List StationData) (sessions between after : List Session)
    → Settling script n stations sessions mid between → SettlesAt script n mid between later after → Settling script (n + 1) stations sessions later after
next_settled script n stations mid later sessions between after h at = record {
  live = at.live;
  runners = at.runners ∙ h.runners;
  each = alike_join SaysSame says_join sessions between after h.each at.each;
  served = λ client t below e. elim (cases_eq client n) [
    | inl here ↦
        subst (λ (k : ℕ). ServedAt script (map runner_of stations) k t) (sym here)
        (subst (λ (rs : List Parts). ServedAt script rs n t) h.runners (at.served t (ap (slice_get after) (sym here) ∙ e)))
    | inr apart ↦ h.served client t (omega (arith, below, apart)) (sym (at.others client apart) ∙ e)
  ];
}

pub all_settled : (script : ScriptData) (n : ℕ) (stations later : List StationData) (sessions after : List Session) → length sessions ≤ n
    → Settling script n stations sessions later after → Settled script stations sessions later after
all_settled script n stations later sessions after long h = record {
  live = h.live;
  runners = h.runners;
  each = h.each;
  served = λ client t below e. h.served client t (omega (arith, below, long)) e;
}

-- what is found at the places of the session and of its station

pub session_found : (sessions : List Session) (client : ℕ) (d : Session) → client < length sessions → d ≡ slice_index_or sessions client d → slice_get sessions client ≡ Some d
session_found sessions client d inside is = slice_get-get_or sessions client d inside ∙ ap Some (sym is)

pub home_found : (script : ScriptData) (stations : List StationData) (sessions : List Session) (client h : ℕ) (s : Session) → AreLive script stations sessions
    → slice_get sessions client ≡ Some s → h ≡ home s.script s.client → h ≡ home script client
home_found script stations sessions client h s live here at =
    let known = live.each client s here in
    at ∙ ap (λ (x : ScriptData). home x s.client) known.script_is ∙ ap (home script) known.client_is

pub home_inside : (script : ScriptData) (stations : List StationData) (sessions : List Session) (client h : ℕ) (s : Session) → AreLive script stations sessions
    → slice_get sessions client ≡ Some s → h ≡ home script client → h < length stations
home_inside script stations sessions client h s live here at =
    let known = live.each client s here in
    subst (λ (k : ℕ). k < length stations) (sym at) (slice_get_within stations (home script client) known.station known.here)

pub station_found : (stations : List StationData) (h : ℕ) (d : StationData) → h < length stations → d ≡ slice_index_or stations h d → slice_get stations h ≡ Some d
station_found stations h d inside is = slice_get-get_or stations h d inside ∙ ap Some (sym is)

pub seated_there : (script : ScriptData) (stations : List StationData) (sessions : List Session) (client h : ℕ) (s : Session) (d : StationData)
    → AreLive script stations sessions → slice_get sessions client ≡ Some s → h ≡ home script client → slice_get stations h ≡ Some d → IsSeated s d.seats
seated_there script stations sessions client h s d live here at there =
    let known = live.each client s here in
    subst (λ (x : StationData). IsSeated s x.seats) (same_Some known.station d (sym known.here ∙ ap (slice_get stations) (sym at) ∙ there)) known.seated

pub says_looked : (log : List Logged) (s t : Session) (old new : List Seat) → SeatLooks log s t old new → SaysSame s t
says_looked log s t old new h = record { same = h.looks.session; submitted = h.looks.submitted.0; polled = h.looks.polled }
