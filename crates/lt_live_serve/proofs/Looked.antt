-- Callers and their seats look at their rings.
use Rattle.std.proofs.Common.{◌≡◌, ◌≢◌, ◌≤◌, ◌+◌, ℕ, List, length, Option, Some, refl, sym, ap, subst, arith, ◌∙◌, inl, inr, slice_get, slice_set}
use Rattle.std.proofs.lemmas.Bool.{cases_eq}
use Rattle.std.proofs.lemmas.Option.{same_Some, slice_get_within}
use Rattle.lt_modes.specs.Script.{ScriptData}
use Rattle.lt_spec.specs.NodeMove.{home}
use Rattle.lt_spec.specs.World.{Logged}
use Rattle.lt_mail.specs.Words.{Alike}
use Rattle.lt_live.specs.declared.ends.Seat.{Seat}
use Rattle.lt_live.specs.declared.ends.Session.{Session}
use Rattle.lt_live.specs.Stations.{StationData, IsSeated, StaySeated, SeatLooks, EachSeat}
use Rattle.lt_live.proofs.SeatLists.{alike_self, alike_set, alike_join, set_here, set_other}
use Rattle.lt_live_serve.specs.declared.callers.Caller.{Caller}
use Rattle.lt_live_serve.specs.Completing.{Calls, IsBeside, SameHand, OnlyLooks, CallersLook, CallerLooks, ServesOn, AreServing}
use Rattle.lt_live_serve.proofs.Lasting.{serving_lasts, serves_itself, serves_same, calls_itself, calls_join}
use Rattle.lt_live_serve.proofs.Outboxes.{waits_looked}
use Rattle.lt_live_serve.proofs.Told.{session_there}

same_hand : (s : Seat) → SameHand s s
same_hand s = record { client = refl; hand = refl; taken = refl }

hand_join : (a b c : Seat) → SameHand a b → SameHand b c → SameHand a c
hand_join a b c first second = record { client = second.client ∙ first.client; hand = second.hand ∙ first.hand; taken = second.taken ∙ first.taken }

only_itself : (a : StationData) → OnlyLooks a a
only_itself a = record { runner = refl; stay = λ s h. h; hands = alike_self SameHand same_hand a.seats }

only_join : (a b c : StationData) → OnlyLooks a b → OnlyLooks b c → OnlyLooks a c
only_join a b c first second = record {
  runner = second.runner ∙ first.runner;
  stay = λ s h. second.stay s (first.stay s h);
  hands = alike_join SameHand hand_join a.seats b.seats c.seats first.hands second.hands;
}

hands_looked : (log : List Logged) (s t : Session) (old new : List Seat) → SeatLooks log s t old new → EachSeat SameHand old new
hands_looked log s t old new h k = elim (cases_eq k s.place) [
  | inl at ↦
      subst (λ (j : ℕ). Alike SameHand (slice_get old j) (slice_get new j)) (sym at)
      (subst (λ (o : Option Seat). Alike SameHand o (slice_get new s.place)) (sym h.before)
      (subst (λ (o : Option Seat). Alike SameHand (Some h.x) o) (sym h.now)
      (record { client = h.looks.seat.client; hand = h.looks.taken.1; taken = h.looks.taken.0 })))
  | inr apart ↦ subst (λ (o : Option Seat). Alike SameHand (slice_get old k) o) (sym (h.others k apart)) (alike_self SameHand same_hand old k)
]

module _ (script : ScriptData) (client place : ℕ) (stations : List StationData) (callers : List Caller) (x y : StationData) (c d : Caller)
    (h : AreServing script stations callers) (here : slice_get callers client ≡ Some c) (at : place ≡ home script client) (station : slice_get stations place ≡ Some x)
    (runner : y.runner ≡ x.runner) (stay : StaySeated x.seats y.seats) (seated : IsSeated c.session x.seats)
    (looks : SeatLooks x.runner.log.entries c.session d.session x.seats y.seats) (calls : Calls c d) where
  only : OnlyLooks x y
  only = record { runner = runner; stay = stay; hands = hands_looked x.runner.log.entries c.session d.session x.seats y.seats looks }

  there : slice_get (slice_set stations place y) place ≡ Some y
  there = set_here stations place y (slice_get_within stations place x station)

  client_of : (k : ℕ) (e : Caller) → slice_get callers k ≡ Some e → e.session.client ≡ k
  client_of k e found = (h.live.each k e.session (session_there callers k e found)).client_is

  one : (e : Caller) → slice_get (slice_set callers client d) client ≡ Some e → IsBeside script (slice_set stations place y) client e
  one e found =
      let is : d ≡ e = same_Some d e (sym (set_here callers client d (slice_get_within callers client c here)) ∙ found) in
      subst (λ (v : Caller). IsBeside script (slice_set stations place y) client v) is
      (record {
        station = y;
        here = ap (slice_get (slice_set stations place y)) (sym at) ∙ there;
        seat = looks.y;
        at = ap (slice_get y.seats) looks.looks.session.place ∙ looks.now;
        link = looks.link;
        beside = looks.beside;
      })

  -- the seat of another caller is another one
  stays : (k : ℕ) (e : Caller) → k ≢ client → slice_get callers k ≡ Some e → IsBeside script stations k e → IsBeside script (slice_set stations place y) k e
  stays k e other found b = elim (cases_eq (home script k) place) [
    | inr apart ↦ record {
      station = b.station;
      here = set_other stations place y (home script k) apart ∙ b.here;
      seat = b.seat;
      at = b.at;
      link = b.link;
      beside = b.beside;
    }
    | inl same ↦
        let is : b.station ≡ x = same_Some b.station x (sym b.here ∙ ap (slice_get stations) same ∙ station) in
        let in_x : slice_get x.seats e.session.place ≡ Some b.seat = ap (λ (s : StationData). slice_get s.seats e.session.place) (sym is) ∙ b.at in
        record {
          station = y;
          here = ap (slice_get (slice_set stations place y)) same ∙ there;
          seat = b.seat;
          at = looks.others e.session.place (λ clash.
              let one_seat : b.seat ≡ seated.seat = same_Some b.seat seated.seat (sym in_x ∙ ap (slice_get x.seats) clash ∙ seated.here) in
              other (sym (client_of k e found)
              ∙ sym b.link.0
              ∙ ap (λ (z : Seat). z.client) one_seat
              ∙ seated.link.0
              ∙ client_of client c here))
              ∙ in_x;
          link = b.link;
          beside = b.beside;
        }
  ]

  pub looks_at : CallerLooks script client stations callers (slice_set stations place y) (slice_set callers client d)
  looks_at = record {
    serving = serving_lasts script stations (slice_set stations place y) callers (slice_set callers client d) h
        (alike_set ServesOn serves_itself stations place x y station
        (serves_same x y runner stay (waits_looked x.runner.log.entries c.session d.session x.seats y.seats looks)))
        (alike_set Calls calls_itself callers client c d here calls);
    looks = alike_set OnlyLooks only_itself stations place x y station only;
    calls = alike_set Calls calls_itself callers client c d here calls;
    one = one;
    others = λ k e apart found.
        let old : slice_get callers k ≡ Some e = sym (set_other callers client d k apart) ∙ found in
        (old, stays k e apart old);
  }

-- one caller after the other

pub none_look : (script : ScriptData) (stations : List StationData) (callers : List Caller) → AreServing script stations callers
    → CallersLook script 0 stations callers stations callers
none_look script stations callers h = record {
  serving = h;
  looks = alike_self OnlyLooks only_itself stations;
  calls = alike_self Calls calls_itself callers;
  beside = λ client c below. absurd (omega (arith, below));
}

pub next_look : (script : ScriptData) (n : ℕ) (stations mid later : List StationData) (callers between after : List Caller)
    → CallersLook script n stations callers mid between → CallerLooks script n mid between later after → CallersLook script (n + 1) stations callers later after
next_look script n stations mid later callers between after h at = record {
  serving = at.serving;
  looks = alike_join OnlyLooks only_join stations mid later h.looks at.looks;
  calls = alike_join Calls calls_join callers between after h.calls at.calls;
  beside = λ client c below e. elim (cases_eq client n) [
    | inl here ↦
        subst (λ (k : ℕ). IsBeside script later k c) (sym here) (at.one c (ap (slice_get after) (sym here) ∙ e))
    | inr apart ↦
        let (old, stays) = at.others client c apart e in
        stays (h.beside client c (omega (arith, below, apart)) old)
  ];
}

pub all_look : (script : ScriptData) (n : ℕ) (stations later : List StationData) (callers after : List Caller) → length after ≤ n
    → CallersLook script n stations callers later after → CallersLook script (length after) stations callers later after
all_look script n stations later callers after long h = record {
  serving = h.serving;
  looks = h.looks;
  calls = h.calls;
  beside = λ client c below e. h.beside client c (omega (arith, below, long)) e;
}
