-- Stations and desks that go on stay those of one script.
use Rattle.std.proofs.Common.{◌≡◌, ◌≤◌, ◌+◌, ℕ, List, [], ◌∷◌, ◌++◌, map, Option, Some, None, refl, sym, ap, subst, ◌∙◌, arith, slice_get, option_map, length-append}
use Rattle.std.proofs.lemmas.Option.{slice_get-map}
use Rattle.lt_modes.specs.declared.command.Command.{Command}
use Rattle.lt_modes.specs.Script.{ScriptData}
use Rattle.lt_spec.specs.NodeMove.{home}
use Rattle.lt_mail.specs.Words.{Alike}
use Rattle.lt_runner.specs.declared.parts.Parts.{Parts}
use Rattle.lt_runner.specs.declared.turning.Turned.{Turned}
use Rattle.lt_runner.specs.Kept.{HasAll}
use Rattle.lt_threads.specs.Meeting.{HaveAll}
use Rattle.lt_threads.specs.Pushes.{HasLimit}
use Rattle.lt_live.specs.declared.reply.Reply.{Reply}
use Rattle.lt_live.specs.declared.ends.Session.{Session}
use Rattle.lt_live.specs.Words.{SameSession}
use Rattle.lt_live.specs.Stations.{StationData, StationTurns, StaySeated, runner_of}
use Rattle.lt_live.specs.Live.{GoesOn, StationGoesOn, EachStation, EachSession, LiveLasts}
use Rattle.lt_live.proofs.SeatLists.{alike_before, alike_self, alike_weaker}
use Rattle.lt_live.proofs.LiveShares.{goes_join}
use Rattle.lt_live.proofs.Settling.{station_itself, turn_has_all}
use Rattle.lt_live_callers.specs.declared.desk.Desk.{Desk}
use Rattle.lt_live_callers.specs.Desks.{session_of, DeskGoesOn, DesksGoOn, WentByTurns, MakesTurns, StationsGoOn}
use Rattle.lt_live_callers.specs.Served.{AreServing}
use Rattle.lt_live_callers.specs.Taking.{NoneWaitsAt, IsAsking, AreAsking}
use Rattle.lt_live_callers.proofs.Outboxes.{waits_turned}
use Rattle.lt_live_callers.proofs.Places.{each_then, mapped_at}
use Rattle.lt_live_callers.proofs.Steps.{desk_itself, desk_join, calls_go_on}

-- StationTakesTurn of stations.

station_join : (a b c : StationData) → StationGoesOn a b → StationGoesOn b c → StationGoesOn a c
station_join a b c first second = record {
  runner = goes_join a.runner b.runner c.runner first.runner second.runner;
  seated = λ s seated. second.seated s (first.seated s seated);
}

passed_goes : (a b : StationData) (left : List StationData) → WentByTurns a left b → StationGoesOn a b
passed_goes a b [] p = subst (λ (s : StationData). StationGoesOn a s) (sym p) (station_itself a)
passed_goes a b (s ∷ rest) p = station_join a s b p.0.goes (passed_goes s b rest p.1)

pub turns_go : (n : ℕ) (a b : StationData) → MakesTurns n a b → StationGoesOn a b
turns_go n a b h = passed_goes a b h.left h.passed

passed_on : (a b c : StationData) (xs ys : List StationData) → WentByTurns a xs b → WentByTurns b ys c → WentByTurns a (xs ++ ys) c
passed_on a b c [] ys first second = subst (λ (s : StationData). WentByTurns s ys c) first second
passed_on a b c (x ∷ xs) ys first second = (first.0, passed_on x b c xs ys first.1 second)

pub no_turns : (a : StationData) → MakesTurns 0 a a
no_turns a = record { left = []; passed = refl; many = omega arith }

pub one_turn : (turned : Turned) (a b : StationData) → StationTurns turned a.runner a.seats b.runner b.seats → GoesOn a.runner b.runner → StaySeated a.seats b.seats
    → MakesTurns 1 a b
one_turn turned a b turns goes stay = record {
  left = b ∷ [];
  passed = (record { turned = turned; turns = turns; goes = record { runner = goes; seated = stay } }, refl);
  many = omega arith;
}

pub turns_join : (n m k : ℕ) (a b c : StationData) → k ≤ n + m → MakesTurns n a b → MakesTurns m b c → MakesTurns k a c
turns_join n m k a b c sum first second = record {
  left = first.left ++ second.left;
  passed = passed_on a b c first.left second.left first.passed second.passed;
  many = omega (arith, sum, first.many, second.many, length-append first.left second.left);
}

pub stations_itself : (stations : List StationData) → StationsGoOn 0 stations stations
stations_itself stations = alike_self (MakesTurns 0) no_turns stations

pub stations_join : (n m k : ℕ) (a b c : List StationData) → k ≤ n + m → StationsGoOn n a b → StationsGoOn m b c → StationsGoOn k a c
stations_join n m k a b c sum first second =
    each_then (MakesTurns n) (MakesTurns m) (MakesTurns k) (λ x y z f g. turns_join n m k x y z sum f g) a b c first second

pub stations_go : (n : ℕ) (stations later : List StationData) → StationsGoOn n stations later → EachStation StationGoesOn stations later
stations_go n stations later h = alike_weaker (MakesTurns n) StationGoesOn (turns_go n) stations later h

pub limits_last : (limit : ℕ) (stations later : List StationData) → EachStation StationGoesOn stations later → HasLimit limit (map runner_of stations) → HasLimit limit (map runner_of later)
limits_last limit stations later on h k p here =
    let (s, there, now) = mapped_at runner_of later k p here in
    let (old, was, goes) = alike_before StationGoesOn stations later on k s there in
    ap (λ (q : Parts). q.limit) (sym now) ∙ goes.runner.limit ∙ h k old.runner (slice_get-map runner_of stations k ∙ ap (option_map runner_of) was)

-- a station that makes turns forgets nothing
passed_has_all : (a b : StationData) (left : List StationData) → WentByTurns a left b → HasAll a.runner → HasAll b.runner
passed_has_all a b [] p had = subst (λ (s : StationData). HasAll s.runner) (sym p) had
passed_has_all a b (s ∷ rest) p had = passed_has_all s b rest p.1 (turn_has_all p.0.turned a.runner a.seats s.runner s.seats p.0.turns had)

-- and no reply comes to wait
passed_waits : (place : ℕ) (a b : StationData) (left : List StationData) → WentByTurns a left b → NoneWaitsAt place a.seats → NoneWaitsAt place b.seats
passed_waits place a b [] p none = subst (λ (s : StationData). NoneWaitsAt place s.seats) (sym p) none
passed_waits place a b (s ∷ rest) p none = passed_waits place s b rest p.1 (waits_turned s.runner.log.entries a.seats s.seats p.0.turns.each place none)

all_last : (n : ℕ) (stations later : List StationData) → StationsGoOn n stations later → HaveAll (map runner_of stations) → HaveAll (map runner_of later)
all_last n stations later on had k p here =
    let (s, there, now) = mapped_at runner_of later k p here in
    let (old, was, turns) = alike_before (MakesTurns n) stations later on k s there in
    subst HasAll now (passed_has_all old s turns.left turns.passed (had k old.runner (slice_get-map runner_of stations k ∙ ap (option_map runner_of) was)))

module _ {C : Type 0} (goes : C → Option Reply → Option Command → C → Type 0) where
  pub desks_itself : (desks : List (Desk C)) → DesksGoOn goes 0 desks desks
  desks_itself desks = alike_self (DeskGoesOn goes 0) (desk_itself goes) desks

  pub desks_join : (n m k : ℕ) (a b c : List (Desk C)) → k ≡ n + m → DesksGoOn goes n a b → DesksGoOn goes m b c → DesksGoOn goes k a c
  desks_join n m k a b c sum first second =
      each_then (DeskGoesOn goes n) (DeskGoesOn goes m) (DeskGoesOn goes k) (λ x y z f g. desk_join goes n m k x y z sum f g) a b c first second

  sessions_same : (n : ℕ) (desks after : List (Desk C)) → DesksGoOn goes n desks after → EachSession SameSession (map session_of desks) (map session_of after)
  sessions_same n desks after on k =
      subst (λ (o : Option Session). Alike SameSession o (slice_get (map session_of after) k)) (sym (slice_get-map session_of desks k))
      (subst (λ (o : Option Session). Alike SameSession (option_map session_of (slice_get desks k)) o) (sym (slice_get-map session_of after k))
      (here (slice_get desks k) (slice_get after k) (on k)))
    where
      here : (x y : Option (Desk C)) → Alike (DeskGoesOn goes n) x y → Alike SameSession (option_map session_of x) (option_map session_of y)
      here None None p = tt
      here None (Some y) p = absurd p
      here (Some x) None p = absurd p
      here (Some x) (Some y) p = p.same

  -- whatever stations and desks do
  pub serving_lasts : LiveLasts → (n turns : ℕ) (script : ScriptData) (limit : ℕ) (callers : List C) (stations later : List StationData) (desks after : List (Desk C))
      → AreServing goes 0 script limit callers stations desks → StationsGoOn turns stations later → DesksGoOn goes n desks after → AreServing goes n script limit callers later after
  serving_lasts lasts n turns script limit callers stations later desks after h on go = record {
    live = lasts script stations later (map session_of desks) (map session_of after) h.live (stations_go turns stations later on) (sessions_same n desks after go);
    limits = limits_last limit stations later (stations_go turns stations later on) h.limits;
    all = all_last turns stations later on h.all;
    each = λ client d here.
        let (old, was, went) = alike_before (DeskGoesOn goes n) desks after go client d here in
        calls_go_on goes 0 n n (slice_get callers client) old d (omega arith) (h.each client old was) went;
    shares = λ client d here.
        let (old, was, went) = alike_before (DeskGoesOn goes n) desks after go client d here in
        went.same.share ∙ h.shares client old was;
    roomy = λ client d here.
        let (old, was, went) = alike_before (DeskGoesOn goes n) desks after go client d here in
        let same = went.same in
        omega (arith, h.roomy client old was, same.share, same.commands.1);
    barred = λ client d here.
        let (old, was, went) = alike_before (DeskGoesOn goes n) desks after go client d here in
        went.barred (h.barred client old was);
    names = λ client d here.
        let (old, was, went) = alike_before (DeskGoesOn goes n) desks after go client d here in
        went.names (h.names client old was);
    hears = λ client d here station there.
        let (old, was, went) = alike_before (DeskGoesOn goes n) desks after go client d here in
        let (x, at, turned) = alike_before (MakesTurns turns) stations later on (home script client) station there in
        subst (λ (place : ℕ). NoneWaitsAt place station.seats) (sym went.same.place)
        (passed_waits old.session.place x station turned.left turned.passed (h.hears client old was x at));
  }

  -- the sessions of the desks ask
  pub are_asking : (n : ℕ) (script : ScriptData) (limit : ℕ) (callers : List C) (stations : List StationData) (desks : List (Desk C))
      → AreServing goes n script limit callers stations desks → AreAsking script stations (map session_of desks)
  are_asking n script limit callers stations desks h = record {
    live = h.live;
    each = λ client s here.
        let (d, there, is) = mapped_at session_of desks client s here in
        subst (λ (t : Session). IsAsking script stations client t) is
        (record {
          share = let share = h.shares client d there in omega (arith, share);
          names = h.names client d there;
          hears = h.hears client d there;
        });
  }
