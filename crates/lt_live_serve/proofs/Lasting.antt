-- Stations and callers stay those of the script.
use Rattle.std.proofs.Common.{◌≡◌, ◌<◌, ◌≤◌, ◌+◌, ℕ, zero, suc, List, [], ◌∷◌, length, map, Option, Some, None, refl, sym, ap, subst, arith, ◌∙◌, inl, inr, slice_get, slice_set, slice_index_or, option_map}
use Rattle.std.proofs.lemmas.Bool.{cases_eq}
use Rattle.std.proofs.lemmas.List.Sums.{sum_by-cons}
use Rattle.std.proofs.lemmas.Option.{same_Some, slice_get-get_or, slice_get-map, slice_get_within}
use Rattle.lt_modes.specs.Script.{ScriptData}
use Rattle.lt_live_serve.specs.declared.limits.TheConstants.{MOVES}
use Rattle.lt_spec.specs.NodeMove.{with_commands}
use Rattle.lt_mail.specs.Words.{Alike}
use Rattle.lt_runner.specs.declared.parts.Parts.{Parts}
use Rattle.lt_runner.specs.declared.turning.Turned.{Turned}
use Rattle.lt_runner.specs.Kept.{HasAll}
use Rattle.lt_threads.specs.Meeting.{HaveAll}
use Rattle.lt_threads.specs.Pushes.{HasLimit}
use Rattle.lt_live.specs.declared.ends.Session.{Session}
use Rattle.lt_live.specs.Live.{GoesOn, StationGoesOn, EachStation, EachSession}
use Rattle.lt_live.specs.Stations.{runner_of, StationData, StaySeated, StationTurns}
use Rattle.lt_live.specs.Words.{SameSession}
use Rattle.lt_live.proofs.SeatLists.{alike_self, alike_before, alike_join, alike_set, alike_weaker, set_here, set_other}
use Rattle.lt_live.proofs.Settling.{live_lasts, session_itself, station_itself, station_same, same_sessions, turn_has_all}
use Rattle.lt_live.proofs.LiveShares.{goes_join}
use Rattle.lt_live_serve.specs.declared.callers.Caller.{Caller}
use Rattle.lt_live_serve.specs.Completing.{Calls, EachCaller, AllSubmitted, session_of, left_of, all_left, NoReplyWaits, ServesOn, AreServing}
use Rattle.lt_live_serve.proofs.Outboxes.{waits_turned}

-- what is mapped to what stands at this place
pub mapped_at : {X Y : Type 0} (f : X → Y) (xs : List X) (k : ℕ) (y : Y) → slice_get (map f xs) k ≡ Some y → (x : X) × (slice_get xs k ≡ Some x) × (f x ≡ y)
mapped_at f [] k y e = absurd (cc)
mapped_at f (x ∷ xs) zero y e = (x, refl, same_Some (f x) y e)
mapped_at f (x ∷ xs) (suc k) y e = mapped_at f xs k y e

-- going on, one step after the other

station_join : (a b c : StationData) → StationGoesOn a b → StationGoesOn b c → StationGoesOn a c
station_join a b c first second = record {
  runner = goes_join a.runner b.runner c.runner first.runner second.runner;
  seated = λ s seated. second.seated s (first.seated s seated);
}

pub serves_itself : (a : StationData) → ServesOn a a
serves_itself a = record { goes = station_itself a; has_all = λ had. had; waits = λ none. none }

serves_join : (a b c : StationData) → ServesOn a b → ServesOn b c → ServesOn a c
serves_join a b c first second = record {
  goes = station_join a b c first.goes second.goes;
  has_all = λ had. second.has_all (first.has_all had);
  waits = λ none. second.waits (first.waits none);
}

pub serves_turned : (turned : Turned) (a b : StationData) → StationTurns turned a.runner a.seats b.runner b.seats → StationGoesOn a b → ServesOn a b
serves_turned turned a b turns goes = record {
  goes = goes;
  has_all = turn_has_all turned a.runner a.seats b.runner b.seats turns;
  waits = waits_turned b.runner.log.entries a.seats b.seats turns.each;
}

-- a station whose runner stays
pub serves_same : (a b : StationData) → b.runner ≡ a.runner → StaySeated a.seats b.seats → (NoReplyWaits a.seats → NoReplyWaits b.seats) → ServesOn a b
serves_same a b same stay waits = record {
  goes = station_same a b same stay;
  has_all = λ had. subst HasAll (sym same) had;
  waits = waits;
}

pub station_turned : (turned : Turned) (a b c : StationData) → ServesOn a b → StationTurns turned b.runner b.seats c.runner c.seats → GoesOn b.runner c.runner
    → StaySeated b.seats c.seats → ServesOn a c
station_turned turned a b c first turns goes seated = serves_join a b c first (serves_turned turned b c turns (record { runner = goes; seated = seated }))

pub calls_itself : (c : Caller) → Calls c c
calls_itself c = record { session = session_itself c.session; commands = refl; left = omega arith }

pub calls_join : (a b c : Caller) → Calls a b → Calls b c → Calls a c
calls_join a b c first second = record {
  session = same_sessions a.session b.session c.session first.session second.session;
  commands = second.commands ∙ first.commands;
  left = let x = first.left in let y = second.left in omega (arith, x, y);
}

-- the callers' sessions go together

sessions_same : (callers after : List Caller) → EachCaller Calls callers after → EachSession SameSession (map session_of callers) (map session_of after)
sessions_same callers after calls k =
    subst (λ (o : Option Session). Alike SameSession o (slice_get (map session_of after) k)) (sym (slice_get-map session_of callers k))
    (subst (λ (o : Option Session). Alike SameSession (option_map session_of (slice_get callers k)) o) (sym (slice_get-map session_of after k))
    (here (slice_get callers k) (slice_get after k) (calls k)))
  where
    here : (x y : Option Caller) → Alike Calls x y → Alike SameSession (option_map session_of x) (option_map session_of y)
    here None None p = tt
    here None (Some y) p = absurd p
    here (Some x) None p = absurd p
    here (Some x) (Some y) p = p.session

limits_last : (stations later : List StationData) → EachStation StationGoesOn stations later → HasLimit MOVES (map runner_of stations)
    → HasLimit MOVES (map runner_of later)
limits_last stations later goes h k p e =
    let (y, there, is) = mapped_at runner_of later k p e in
    let (x, here, on) = alike_before StationGoesOn stations later goes k y there in
    let old : slice_get (map runner_of stations) k ≡ Some x.runner = slice_get-map runner_of stations k ∙ ap (option_map runner_of) here in
    sym (ap (λ (r : Parts). r.limit) is) ∙ on.runner.limit ∙ h k x.runner old

all_last : (stations later : List StationData) → EachStation ServesOn stations later → HaveAll (map runner_of stations) → HaveAll (map runner_of later)
all_last stations later serves all k p e =
    let (y, there, is) = mapped_at runner_of later k p e in
    let (x, here, on) = alike_before ServesOn stations later serves k y there in
    let old : slice_get (map runner_of stations) k ≡ Some x.runner = slice_get-map runner_of stations k ∙ ap (option_map runner_of) here in
    subst HasAll is (on.has_all (all k x.runner old))

-- what stations and callers do
pub serving_lasts : (script : ScriptData) (stations later : List StationData) (callers after : List Caller) → AreServing script stations callers
    → EachStation ServesOn stations later → EachCaller Calls callers after → AreServing script later after
serving_lasts script stations later callers after h serves calls = record {
  live = live_lasts (with_commands script []) stations later (map session_of callers) (map session_of after) h.live goes (sessions_same callers after calls);
  limits = limits_last stations later goes h.limits;
  have_all = all_last stations later serves h.have_all;
  waits = λ q y there.
      let (x, here, on) = alike_before ServesOn stations later serves q y there in
      on.waits (h.waits q x here);
  lists = λ client c e.
      let (d, here, calls_at) = alike_before Calls callers after calls client c e in
      calls_at.commands ∙ h.lists client d here;
}
  where
    goes : EachStation StationGoesOn stations later
    goes = alike_weaker ServesOn StationGoesOn (λ x y on. on.goes) stations later serves

pub same_stations : (stations : List StationData) → EachStation ServesOn stations stations
same_stations stations = alike_self ServesOn serves_itself stations

pub same_callers : (callers : List Caller) → EachCaller Calls callers callers
same_callers callers = alike_self Calls calls_itself callers

pub stations_join : (stations mid later : List StationData) → EachStation ServesOn stations mid → EachStation ServesOn mid later
    → EachStation ServesOn stations later
stations_join stations mid later first second = alike_join ServesOn serves_join stations mid later first second

pub callers_join : (callers mid after : List Caller) → EachCaller Calls callers mid → EachCaller Calls mid after → EachCaller Calls callers after
callers_join callers mid after first second = alike_join Calls calls_join callers mid after first second

-- how many commands are left

pub less_left : (callers after : List Caller) → EachCaller Calls callers after → all_left after ≤ all_left callers
less_left [] [] h = omega arith
less_left [] (c ∷ cs) h = absurd (h 0)
less_left (c ∷ cs) [] h = absurd (h 0)
less_left (c ∷ cs) (d ∷ ds) h =
    let one : Calls c d = h 0 in
    let here = one.left in
    omega (arith, sum_by-cons left_of c cs, sum_by-cons left_of d ds, here, less_left cs ds (λ k. h (suc k)))

-- one caller did something

pub one_called : (k : ℕ) (callers : List Caller) (d y : Caller) → k < length callers → Calls (slice_index_or callers k d) y
    → EachCaller Calls callers (slice_set callers k y)
one_called k callers d y inside calls =
    alike_set Calls calls_itself callers k (slice_index_or callers k d) y (slice_get-get_or callers k d inside) calls

pub one_less : (k : ℕ) (callers : List Caller) (d y : Caller) → k < length callers → left_of y < left_of (slice_index_or callers k d)
    → all_left (slice_set callers k y) < all_left callers
one_less k [] d y inside less = absurd (omega (arith, inside))
one_less zero (c ∷ cs) d y inside less = omega (arith, less, sum_by-cons left_of c cs, sum_by-cons left_of y cs)
one_less (suc k) (c ∷ cs) d y inside less =
    omega (arith, one_less k cs d y (omega (arith, inside)) less, sum_by-cons left_of c cs, sum_by-cons left_of c (slice_set cs k y))

-- the first n callers have submitted all
abbrev pub SubmittedTo : ℕ → List Caller → Type 0
SubmittedTo n callers = (k : ℕ) (c : Caller) → k < n → slice_get callers k ≡ Some c → left_of c ≡ 0

pub next_submitted : (n : ℕ) (callers : List Caller) (y : Caller) → n < length callers → SubmittedTo n callers → left_of y ≡ 0 → SubmittedTo (n + 1) (slice_set callers n y)
next_submitted n callers y inside before none k c below e = elim (cases_eq k n) [
  | inl at ↦
      let is : y ≡ c = same_Some y c (sym (set_here callers n y inside) ∙ ap (slice_get (slice_set callers n y)) (sym at) ∙ e) in
      subst (λ (x : Caller). left_of x ≡ 0) is none
  | inr apart ↦ before k c (omega (arith, below, apart)) (sym (set_other callers n y k apart) ∙ e)
]

pub all_submitted : (n : ℕ) (callers : List Caller) → length callers ≤ n → SubmittedTo n callers → AllSubmitted callers
all_submitted n callers long h k c e = h k c (omega (arith, slice_get_within callers k c e, long)) e
