-- No client before has too many commands.
use Rattle.std.proofs.Common.{◌≡◌, ◌≤◌, ◌+◌, ℕ, false, length, subst, arith, inl, inr, sym, ◌<◌, ◌++◌, zero, suc, List, [], ◌∷◌, map, take, get_or, Some, refl, ap, ◌∙◌, append-nil, take_all, slice_get, slice_set, slice_index_or, option_map, append_assoc}
use Rattle.std.proofs.lemmas.Bool.{cases_eq}
use Rattle.std.proofs.Math.Seq.{map-set_same}
use Rattle.std.proofs.lemmas.List.{length-map, map-append, take_more}
use Rattle.std.proofs.lemmas.Option.{same_Some, slice_get-get_or, slice_get-map, slice_get_within}
use Rattle.lt_modes.specs.Script.{ScriptData}
use Rattle.lt_modes.specs.declared.event.Event.{Event}
use Rattle.lt_lists.specs.Below.{gather_below}
use Rattle.lt_spec.specs.NodeMove.{home, with_commands}
use Rattle.lt_spec.specs.Holdings.{lines_of}
use Rattle.lt_spec.specs.World.{Logged}
use Rattle.lt_runner.specs.declared.parts.Parts.{Parts}
use Rattle.lt_live.specs.declared.ends.Seat.{Seat}
use Rattle.lt_live.specs.declared.ends.Session.{Session}
use Rattle.lt_live.specs.declared.reply.Reply.{Reply}
use Rattle.lt_live.specs.Seats.{lines_up_to, lines_at, replies_in, HasToldAll}
use Rattle.lt_live.specs.Live.{ServedBy}
use Rattle.lt_live.specs.Stations.{runner_of, StationData, IsStation, IsSeated, SeatLooks}
use Rattle.lt_live.specs.Words.{polled, known_replies, told_to}
use Rattle.lt_live.proofs.SeatLists.{alike_set, set_here, set_other}
use Rattle.lt_live.proofs.Finished.{first_few}
use Rattle.lt_live.proofs.Settling.{home_found, home_inside, station_found, seated_there}
use Rattle.lt_live_serve.specs.Serves.{is_over, NoneIsOver}
use Rattle.lt_live_serve.specs.declared.callers.Caller.{Caller}
use Rattle.lt_live_serve.specs.Completing.{Calls, session_of, ServesOn, AreServing, HasHeardAll, HaveHeard, Hears, TellsAt, marked, marked_by, heard_at}
use Rattle.lt_live_serve.proofs.Lasting.{serving_lasts, serves_itself, serves_same, calls_itself, calls_join}

pub next_over : (script : ScriptData) (n : ℕ) → NoneIsOver script n → is_over script n ≡ false → NoneIsOver script (n + 1)
next_over script n before here k below = elim (cases_eq k n) [
  | inl e ↦ subst (λ (j : ℕ). is_over script j ≡ false) (sym e) here
  | inr apart ↦ before k (omega (arith, below, apart))
]

pub all_over : (script : ScriptData) (n : ℕ) → length script.clients ≤ n → NoneIsOver script n → NoneIsOver script (length script.clients)
all_over script n long h k below = h k (omega (arith, below, long))

-- Callers poll all replies.

past_end : (log : List Logged) → lines_at log (length log) ≡ []
past_end [] = refl
past_end (entry ∷ rest) = past_end rest

none_taken : {X : Type 0} (n : ℕ) → ◌≡◌ {A = List X} (take n []) []
none_taken zero = refl
none_taken (suc n) = refl

-- all lines of the log
all_before : (log : List Logged) (lines : ℕ) → lines_up_to log (length log) lines ≡ lines_of log
all_before log lines =
    ap (λ (entries : List Logged). lines_of entries ++ take lines (lines_at log (length log))) (take_all (length log) log (omega arith))
    ∙ ap (λ (rest : List Event). lines_of log ++ take lines rest) (past_end log)
    ∙ ap (λ (rest : List Event). lines_of log ++ rest) (none_taken lines)
    ∙ append-nil (lines_of log)

-- a session that looked at its rings and knows no reply has polled all
pub heard_all : (p : Parts) (s t : Session) (old new : List Seat) → IsStation p old → IsSeated s old → SeatLooks p.log.entries s t old new → known_replies t ≡ []
    → polled t ≡ replies_in s.client (lines_of p.log.entries)
heard_all p s t old new station seated h none =
    sym (append-nil (polled t))
    ∙ ap (λ (replies : List Reply). polled t ++ replies) (sym none)
    ∙ h.beside.replies
    ∙ told
    ∙ ap (λ (k : ℕ). replies_in h.x.client (lines_up_to p.log.entries k h.y.lines)) moves
    ∙ ap (replies_in h.x.client) (all_before p.log.entries h.y.lines)
    ∙ ap (λ (k : ℕ). replies_in k (lines_of p.log.entries)) client
  where
    client : h.x.client ≡ s.client
    client = ap (λ (z : Seat). z.client) (same_Some h.x seated.seat (sym h.before ∙ seated.here)) ∙ seated.link.0

    has_told : HasToldAll p.log.entries h.y
    has_told = elim h.moves [
      | inl e ↦ e
      | inr some ↦ absurd (omega (arith, some, ap (λ (replies : List Reply). length replies) none))
    ]

    told : told_to h.y ≡ replies_in h.x.client (lines_up_to p.log.entries h.y.moves h.y.lines)
    told =
        sym (append-nil (told_to h.y))
        ∙ ap (λ (replies : List Reply). told_to h.y ++ replies) (sym has_told.0)
        ∙ h.looks.due (station.each s.place h.x h.before).kept.due

    moves : h.y.moves ≡ length p.log.entries
    moves = has_told.1

-- what was polled are first replies of the client
pub heard_few : (p q : Parts) (own client : ℕ) (s : Session) (heard : List Reply) → ServedBy p own s → p ≡ q → own ≡ client → polled s ≡ heard
    → length heard ≤ length (replies_in client (lines_of q.log.entries))
heard_few p q own client s heard served runner is hears =
    subst (λ (r : Parts). length heard ≤ length (replies_in client (lines_of r.log.entries))) runner
    (subst (λ (k : ℕ). length heard ≤ length (replies_in k (lines_of p.log.entries))) is
    (subst (λ (list : List Reply). length list ≤ length (replies_in own (lines_of p.log.entries))) hears
    (first_few (polled s) (replies_in own (lines_of p.log.entries)) served.replies)))

-- what a caller and its station do

pub hears_itself : (a : StationData) (c : Caller) → IsSeated c.session a.seats → Hears a c a c
hears_itself a c seated = record { runner = refl; stay = λ s h. h; waits = λ none. none; seated = seated; calls = calls_itself c }

pub hears_join : (a b d : StationData) (c e f : Caller) → Hears a c b e → Hears b e d f → Hears a c d f
hears_join a b d c e f first second = record {
  runner = second.runner ∙ first.runner;
  stay = λ s h. second.stay s (first.stay s h);
  waits = λ none. second.waits (first.waits none);
  seated = second.seated;
  calls = calls_join c e f first.calls second.calls;
}

-- one caller was told

caller_found : (callers : List Caller) (client : ℕ) (d : Caller) → client < length callers → d ≡ slice_index_or callers client d → slice_get callers client ≡ Some d
caller_found callers client d inside is = slice_get-get_or callers client d inside ∙ ap Some (sym is)

pub session_there : (callers : List Caller) (client : ℕ) (c : Caller) → slice_get callers client ≡ Some c → slice_get (map session_of callers) client ≡ Some c.session
session_there callers client c here = slice_get-map session_of callers client ∙ ap (option_map session_of) here

-- the caller of this client, and the station of the client's node
pub record AtHome (script : ScriptData) (stations : List StationData) (callers : List Caller) (client place : ℕ) (c : Caller) (x : StationData) : Type 0 where
  pub found : slice_get callers client ≡ Some c
  pub at : place ≡ home script client
  pub there : slice_get stations place ≡ Some x
  pub seated : IsSeated c.session x.seats

-- what is found by the node that the caller tells
module _ (script : ScriptData) (stations : List StationData) (callers : List Caller) (client place : ℕ) (c : Caller) (serving : AreServing script stations callers)
    (inside : client < length callers) (is : c ≡ slice_index_or callers client c) (told : place ≡ home c.session.script c.session.client) where
  session_here : slice_get (map session_of callers) client ≡ Some c.session
  session_here = session_there callers client c (caller_found callers client c inside is)

  home_at : place ≡ home (with_commands script []) client
  home_at = home_found (with_commands script []) stations (map session_of callers) client place c.session serving.live session_here told

  pub home_within : place < length stations
  home_within = home_inside (with_commands script []) stations (map session_of callers) client place c.session serving.live session_here home_at

  pub at_home : (d : Caller) (x : StationData) → d ≡ slice_index_or callers client d → x ≡ slice_index_or stations place x → AtHome script stations callers client place d x
  at_home d x again is_station =
      let found = caller_found callers client d inside again in
      let there = station_found stations place x home_within is_station in
      record {
        found = found;
        at = home_at;
        there = there;
        seated = seated_there (with_commands script []) stations (map session_of callers) client place d.session x serving.live (session_there callers client d found) home_at there;
      }

module _ (script : ScriptData) (client place : ℕ) (stations : List StationData) (callers : List Caller) (x y : StationData) (c d : Caller)
    (h : AreServing script stations callers) (here : slice_get callers client ≡ Some c) (at : place ≡ home script client) (station : slice_get stations place ≡ Some x)
    (hears : Hears x c y d) (all : d.heard.items ≡ replies_in c.session.client (lines_of x.runner.log.entries)) where
  same_runners : map runner_of (slice_set stations place y) ≡ map runner_of stations
  same_runners = map-set_same runner_of stations place y x (hears.runner ∙ sym (ap runner_of was))
    where
      was : slice_index_or stations place x ≡ x
      was = same_Some (slice_index_or stations place x) x (sym (slice_get-get_or stations place x (slice_get_within stations place x station)) ∙ station)

  pub tells_at : TellsAt script client stations callers (slice_set stations place y) (slice_set callers client d)
  tells_at = record {
    serving = serving_lasts script stations (slice_set stations place y) callers (slice_set callers client d) h
        (alike_set ServesOn serves_itself stations place x y station (serves_same x y hears.runner hears.stay hears.waits))
        (alike_set Calls calls_itself callers client c d here hears.calls);
    runners = same_runners;
    others = λ k apart. set_other callers client d k apart;
    heard = λ e there p runner.
        let is : d ≡ e = same_Some d e (sym (set_here callers client d (slice_get_within callers client c here)) ∙ there) in
        let first : slice_get (map runner_of stations) (home script client) ≡ Some x.runner =
        slice_get-map runner_of stations (home script client) ∙ ap (option_map runner_of) (ap (slice_get stations) (sym at) ∙ station) in
        let same : x.runner ≡ p =
        same_Some x.runner p (sym first ∙ (ap (λ (rs : List Parts). slice_get rs (home script client)) (sym same_runners) ∙ runner)) in
        let own : c.session.client ≡ client = (h.live.each client c.session (session_there callers client c here)).client_is in
        sym (ap (λ (v : Caller). v.heard.items) is)
        ∙ all
        ∙ ap (λ (k : ℕ). replies_in k (lines_of x.runner.log.entries)) own
        ∙ ap (λ (r : Parts). replies_in client (lines_of r.log.entries)) same;
  }

-- one caller after the other

pub record ToldTo (script : ScriptData) (n : ℕ) (stations : List StationData) (later : List StationData) (after : List Caller) : Type 0 where
  pub serving : AreServing script later after
  pub runners : map runner_of later ≡ map runner_of stations
  pub heard : HaveHeard script n (map runner_of later) after

pub same_number : (script : ScriptData) (stations later : List StationData) (callers after : List Caller) → AreServing script stations callers
    → AreServing script later after → length after ≡ length callers
same_number script stations later callers after h g =
    sym (length-map after session_of) ∙ g.live.count ∙ sym h.live.count ∙ length-map callers session_of

pub none_told : (script : ScriptData) (stations : List StationData) (callers : List Caller) → AreServing script stations callers → ToldTo script 0 stations stations callers
none_told script stations callers h = record { serving = h; runners = refl; heard = λ client c below. absurd (omega (arith, below)) }

pub next_told : (script : ScriptData) (n : ℕ) (stations mid later : List StationData) (between after : List Caller) → ToldTo script n stations mid between
    → TellsAt script n mid between later after → ToldTo script (n + 1) stations later after
next_told script n stations mid later between after h at = record {
  serving = at.serving;
  runners = at.runners ∙ h.runners;
  heard = λ client c below e. elim (cases_eq client n) [
    | inl here ↦
        subst (λ (k : ℕ). HasHeardAll script (map runner_of later) k c) (sym here) (at.heard c (ap (slice_get after) (sym here) ∙ e))
    | inr apart ↦
        subst (λ (rs : List Parts). HasHeardAll script rs client c) (sym at.runners)
        (h.heard client c (omega (arith, below, apart)) (sym (at.others client apart) ∙ e))
  ];
}

pub all_told : (script : ScriptData) (n : ℕ) (stations later : List StationData) (after : List Caller) → length after ≤ n → ToldTo script n stations later after
    → HaveHeard script (length after) (map runner_of later) after
all_told script n stations later after long h client c below e = h.heard client c (omega (arith, below, long)) e

-- what all polled

gather_next : (callers : List Caller) (k : ℕ) (d : Caller) → k < length callers
    → gather_below (k + 1) (heard_at callers) ≡ gather_below k (heard_at callers) ++ marked (get_or callers k d)
gather_next callers k d inside =
    let on : k + 1 ≡ suc k = omega arith in
    ap (λ n. gather_below n (heard_at callers)) on
    ∙ ap (λ (list : List (ℕ × Reply)). gather_below k (heard_at callers) ++ list) (ap marked_by (slice_get-get_or callers k d inside))

pub gather_one : (callers : List Caller) (k : ℕ) (c : Caller) (old new : List (ℕ × Reply)) → k < length callers → c ≡ get_or callers k c
    → old ≡ gather_below k (heard_at callers) → new ≡ old ++ marked c → new ≡ gather_below (k + 1) (heard_at callers)
gather_one callers k c old new inside is before added =
    added
    ∙ ap (λ (list : List (ℕ × Reply)). list ++ marked c) before
    ∙ ap (λ (d : Caller). gather_below k (heard_at callers) ++ marked d) is
    ∙ sym (gather_next callers k c inside)

pub gather_all : (callers : List Caller) (k : ℕ) → k ≤ length callers → length callers ≤ k → gather_below k (heard_at callers) ≡ gather_below (length callers) (heard_at callers)
gather_all callers k few long = let is : k ≡ length callers = omega (arith, few, long) in ap (λ n. gather_below n (heard_at callers)) is

-- the first k replies that the caller polled
abbrev pub marked_to : Caller → ℕ → List (ℕ × Reply)
marked_to c k = map (λ (reply : Reply). (c.session.client, reply)) (take k c.heard.items)

pub first_marked : (c : Caller) (xs : List (ℕ × Reply)) → xs ≡ xs ++ marked_to c 0
first_marked c xs = sym (append-nil xs)

next_marked : (c : Caller) (xs ys : List (ℕ × Reply)) (k : ℕ) (d : Reply) → k < length c.heard.items → ys ≡ xs ++ marked_to c k
    → ys ++ (c.session.client, get_or c.heard.items k d) ∷ [] ≡ xs ++ marked_to c (k + 1)
next_marked c xs ys k d inside so_far =
    ap (λ (list : List (ℕ × Reply)). list ++ (c.session.client, get_or c.heard.items k d) ∷ []) so_far
    ∙ append_assoc xs (marked_to c k) ((c.session.client, get_or c.heard.items k d) ∷ [])
    ∙ ap (λ (list : List (ℕ × Reply)). xs ++ list)
    (sym (ap (map (λ (reply : Reply). (c.session.client, reply))) (take_more c.heard.items k d inside)
    ∙ map-append (λ (reply : Reply). (c.session.client, reply)) (take k c.heard.items) (get_or c.heard.items k d ∷ [])))

-- the next one was pushed
pub pushed_marked : (c : Caller) (xs ys zs : List (ℕ × Reply)) (k client : ℕ) (reply : Reply) → k < length c.heard.items → client ≡ c.session.client
    → reply ≡ slice_index_or c.heard.items k reply → ys ≡ xs ++ marked_to c k → zs ≡ ys ++ (client, reply) ∷ [] → zs ≡ xs ++ marked_to c (k + 1)
pushed_marked c xs ys zs k client reply inside own is so_far added =
    added
    ∙ ap (λ (n : ℕ). ys ++ (n, reply) ∷ []) own
    ∙ ap (λ (r : Reply). ys ++ (c.session.client, r) ∷ []) is
    ∙ next_marked c xs ys k reply inside so_far

pub all_marked : (c : Caller) (xs : List (ℕ × Reply)) (k : ℕ) → length c.heard.items ≤ k → xs ++ marked_to c k ≡ xs ++ marked c
all_marked c xs k long = ap (λ (list : List Reply). xs ++ map (λ (reply : Reply). (c.session.client, reply)) list) (take_all k c.heard.items long)
