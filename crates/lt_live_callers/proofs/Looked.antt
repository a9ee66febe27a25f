-- Sessions and their seats look at their rings.
use Rattle.std.proofs.Common.{◌≡◌, ◌≢◌, ◌≤◌, ◌+◌, ℕ, List, length, Option, Some, refl, sym, ap, subst, arith, ◌∙◌, inl, inr, slice_get, slice_set}
use Rattle.std.proofs.lemmas.Bool.{cases_eq}
use Rattle.std.proofs.lemmas.Option.{same_Some, slice_get_within}
use Rattle.lt_modes.specs.Script.{ScriptData}
use Rattle.lt_spec.specs.NodeMove.{home}
use Rattle.lt_spec.specs.World.{Logged}
use Rattle.lt_mail.specs.Words.{Alike}
use Rattle.lt_live.specs.declared.ends.Seat.{Seat}
use Rattle.lt_live.specs.declared.ends.Session.{Session}
use Rattle.lt_live.specs.Live.{SaysSame}
use Rattle.lt_live.specs.Stations.{StationData, IsSeated, StaySeated, SeatLooks, EachSeat}
use Rattle.lt_live.proofs.SeatLists.{alike_self, alike_set, alike_join, set_here, set_other}
use Rattle.lt_live.proofs.Settling.{says_looked}
use Rattle.lt_live_callers.specs.Taking.{StationTakesOn, AreAsking, OnlyTakes, SessionIsBeside, SeatKeepsHand, StationOnlyLooks, SessionsLook, SessionLooks}
use Rattle.lt_live_callers.proofs.Lasting.{serves_itself, serves_same, says_itself, asking_lasts, takes_none, takes_join}
use Rattle.lt_live_callers.proofs.Outboxes.{waits_looked}

same_hand : (s : Seat) → SeatKeepsHand s s
same_hand s = record { client = refl; hand = refl; taken = refl }

hand_join : (a b c : Seat) → SeatKeepsHand a b → SeatKeepsHand b c → SeatKeepsHand a c
hand_join a b c first second = record { client = second.client ∙ first.client; hand = second.hand ∙ first.hand; taken = second.taken ∙ first.taken }

only_itself : (a : StationData) → StationOnlyLooks a a
only_itself a = record { runner = refl; stay = λ s h. h; hands = alike_self SeatKeepsHand same_hand a.seats }

only_join : (a b c : StationData) → StationOnlyLooks a b → StationOnlyLooks b c → StationOnlyLooks a c
only_join a b c first second = record {
  runner = second.runner ∙ first.runner;
  stay = λ s h. second.stay s (first.stay s h);
  hands = alike_join SeatKeepsHand hand_join a.seats b.seats c.seats first.hands second.hands;
}

hands_looked : (log : List Logged) (s t : Session) (old new : List Seat) → SeatLooks log s t old new → EachSeat SeatKeepsHand old new
hands_looked log s t old new h k = elim (cases_eq k s.place) [
  | inl at ↦
      subst (λ (j : ℕ). Alike SeatKeepsHand (slice_get old j) (slice_get new j)) (sym at)
      (subst (λ (o : Option Seat). Alike SeatKeepsHand o (slice_get new s.place)) (sym h.before)
      (subst (λ (o : Option Seat). Alike SeatKeepsHand (Some h.x) o) (sym h.now)
      (record { client = h.looks.seat.client; hand = h.looks.taken.1; taken = h.looks.taken.0 })))
  | inr apart ↦ subst (λ (o : Option Seat). Alike SeatKeepsHand (slice_get old k) o) (sym (h.others k apart)) (alike_self SeatKeepsHand same_hand old k)
]

module _ (script : ScriptData) (client place : ℕ) (stations : List StationData) (sessions : List Session) (x y : StationData) (s t : Session)
    (h : AreAsking script stations sessions) (here : slice_get sessions client ≡ Some s) (at : place ≡ home script client) (station : slice_get stations place ≡ Some x)
    (runner : y.runner ≡ x.runner) (stay : StaySeated x.seats y.seats) (seated : IsSeated s x.seats)
    (looks : SeatLooks x.runner.log.entries s t x.seats y.seats) where
  says : SaysSame s t
  says = says_looked x.runner.log.entries s t x.seats y.seats looks

  there : slice_get (slice_set stations place y) place ≡ Some y
  there = set_here stations place y (slice_get_within stations place x station)

  client_of : (k : ℕ) (u : Session) → slice_get sessions k ≡ Some u → u.client ≡ k
  client_of k u found = (h.live.each k u found).client_is

  one : (u : Session) → slice_get (slice_set sessions client t) client ≡ Some u → SessionIsBeside script (slice_set stations place y) client u
  one u found =
      let is : t ≡ u = same_Some t u (sym (set_here sessions client t (slice_get_within sessions client s here)) ∙ found) in
      subst (λ (v : Session). SessionIsBeside script (slice_set stations place y) client v) is
      (record {
        station = y;
        here = ap (slice_get (slice_set stations place y)) (sym at) ∙ there;
        seat = looks.y;
        at = ap (slice_get y.seats) looks.looks.session.place ∙ looks.now;
        link = looks.link;
        beside = looks.beside;
      })

  -- the seat of another session is another one
  stays : (k : ℕ) (u : Session) → k ≢ client → slice_get sessions k ≡ Some u → SessionIsBeside script stations k u → SessionIsBeside script (slice_set stations place y) k u
  stays k u other found b = elim (cases_eq (home script k) place) [
    | inr apart ↦ record {
      station = b.station;
      here = set_other stations place y (home script k) apart ∙ b.here;
      seat = b.seat;
      at = b.at;
      link = b.link;
      beside = b.beside;
    }
    | inl same ↦
        let is : b.station ≡ x = same_Some b.station x (sym b.here ∙ ap (slice_get stations) same ∙ station) in
        let in_x : slice_get x.seats u.place ≡ Some b.seat = ap (λ (v : StationData). slice_get v.seats u.place) (sym is) ∙ b.at in
        record {
          station = y;
          here = ap (slice_get (slice_set stations place y)) same ∙ there;
          seat = b.seat;
          at = looks.others u.place (λ clash.
              let one_seat : b.seat ≡ seated.seat = same_Some b.seat seated.seat (sym in_x ∙ ap (slice_get x.seats) clash ∙ seated.here) in
              other (sym (client_of k u found)
              ∙ sym b.link.0
              ∙ ap (λ (z : Seat). z.client) one_seat
              ∙ seated.link.0
              ∙ client_of client s here))
              ∙ in_x;
          link = b.link;
          beside = b.beside;
        }
  ]

  takes : OnlyTakes script stations sessions (slice_set stations place y) (slice_set sessions client t)
  takes =
      let serves = alike_set StationTakesOn serves_itself stations place x y station
      (serves_same x y runner stay (waits_looked x.runner.log.entries s t x.seats y.seats looks)) in
      let all_say = alike_set SaysSame says_itself sessions client s t here says in
      record {
        asking = asking_lasts script stations (slice_set stations place y) sessions (slice_set sessions client t) h serves all_say;
        serves = serves;
        says = all_say;
      }

  pub looks_at : SessionLooks script client stations sessions (slice_set stations place y) (slice_set sessions client t)
  looks_at = record {
    all = takes;
    looks = alike_set StationOnlyLooks only_itself stations place x y station
        (record { runner = runner; stay = stay; hands = hands_looked x.runner.log.entries s t x.seats y.seats looks });
    one = one;
    others = λ k u apart found.
        let old : slice_get sessions k ≡ Some u = sym (set_other sessions client t k apart) ∙ found in
        (old, stays k u apart old);
  }

-- one session after the other

pub none_look : (script : ScriptData) (stations : List StationData) (sessions : List Session) → AreAsking script stations sessions
    → SessionsLook script 0 stations sessions stations sessions
none_look script stations sessions h = record {
  all = takes_none script stations sessions h;
  looks = alike_self StationOnlyLooks only_itself stations;
  beside = λ client s below. absurd (omega (arith, below));
}

pub next_look : (script : ScriptData) (n : ℕ) (stations mid later : List StationData) (sessions between after : List Session)
    → SessionsLook script n stations sessions mid between → SessionLooks script n mid between later after → SessionsLook script (n + 1) stations sessions later after
next_look script n stations mid later sessions between after h at = record {
  all = takes_join script stations mid later sessions between after h.all at.all;
  looks = alike_join StationOnlyLooks only_join stations mid later h.looks at.looks;
  beside = λ client s below e. elim (cases_eq client n) [
    | inl here ↦
        subst (λ (k : ℕ). SessionIsBeside script later k s) (sym here) (at.one s (ap (slice_get after) (sym here) ∙ e))
    | inr apart ↦
        let (old, stays) = at.others client s apart e in
        stays (h.beside client s (omega (arith, below, apart)) old)
  ];
}

pub all_look : (script : ScriptData) (n : ℕ) (stations later : List StationData) (sessions after : List Session) → length after ≤ n
    → SessionsLook script n stations sessions later after → SessionsLook script (length after) stations sessions later after
all_look script n stations later sessions after long h = record {
  all = h.all;
  looks = h.looks;
  beside = λ client s below e. h.beside client s (omega (arith, below, long)) e;
}
