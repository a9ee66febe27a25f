-- At no seat a reply comes to wait.
use Rattle.std.proofs.Common.{◌≡◌, ◌≤◌, ℕ, List, [], ◌∷◌, length, map, Some, refl, sym, ap, subst, arith, ◌∙◌, inl, inr, slice_get, option_map}
use Rattle.std.proofs.lemmas.Bool.{cases_eq}
use Rattle.std.proofs.lemmas.Option.{same_Some, slice_get-map}
use Rattle.lt_modes.specs.Script.{ScriptData}
use Rattle.lt_script.proofs.NameLemmas.{element_at}
use Rattle.lt_spec.specs.NodeMove.{home}
use Rattle.lt_spec.specs.World.{Logged}
use Rattle.lt_threads.specs.Meeting.{AreShares}
use Rattle.lt_live.specs.declared.ends.Seat.{Seat}
use Rattle.lt_live.specs.declared.ends.Session.{Session}
use Rattle.lt_live.specs.declared.reply.Reply.{Reply}
use Rattle.lt_live.specs.Stations.{runner_of, StationData, HandMayGo, SeatTurns, EachSeat, SeatLooks, IsOpen}
use Rattle.lt_live.specs.Words.{outbox_replies}
use Rattle.lt_live.proofs.SeatLists.{each_before}
use Rattle.lt_live_serve.specs.Completing.{NoReplyWaits, AreStationsKept}

none_more : (old new : List Reply) → length new ≤ length old → old ≡ [] → new ≡ []
none_more old [] fewer none = refl
none_more old (reply ∷ rest) fewer none = let count = ap (λ (replies : List Reply). length replies) none in absurd (omega (arith, fewer, count))

-- a turn

gone_replies : (s t : Seat) → HandMayGo s t → outbox_replies t ≡ outbox_replies s
gone_replies s t (inl gone) = ap outbox_replies gone
gone_replies s t (inr still) = ap outbox_replies still

seat_turned : (log : List Logged) (s t : Seat) → SeatTurns log s t → outbox_replies s ≡ [] → outbox_replies t ≡ []
seat_turned log s t h none =
    none_more (outbox_replies h.left) (outbox_replies t) h.tells.on.rest.fewer (gone_replies h.held h.left h.hand ∙ h.takes.told.1 ∙ none)

pub waits_turned : (log : List Logged) (old new : List Seat) → EachSeat (SeatTurns log) old new → NoReplyWaits old → NoReplyWaits new
waits_turned log old new each none k seat e =
    let (was, here, turn) = each_before (SeatTurns log) old new each k seat e in
    seat_turned log was seat turn (none k was here)

-- a look of a session and its seat
pub waits_looked : (log : List Logged) (s t : Session) (old new : List Seat) → SeatLooks log s t old new → NoReplyWaits old → NoReplyWaits new
waits_looked log s t old new h none k seat e = elim (cases_eq k s.place) [
  | inl at ↦
      let is : h.y ≡ seat = same_Some h.y seat (sym h.now ∙ ap (slice_get new) (sym at) ∙ e) in
      subst (λ (v : Seat). outbox_replies v ≡ []) is (none_more (outbox_replies h.x) (outbox_replies h.y) h.looks.fewer (none s.place h.x h.before))
  | inr apart ↦ none k seat (sym (h.others k apart) ∙ e)
]

-- each seat of a station that was opened is the one of a session
pub first_waits : (script : ScriptData) (limit capacity share : ℕ) (stations : List StationData) (sessions : List Session) → AreShares script (map runner_of stations)
    → IsOpen script limit capacity share stations sessions → AreStationsKept stations
    → (q : ℕ) (station : StationData) → slice_get stations q ≡ Some station → NoReplyWaits station.seats
first_waits script limit capacity share stations sessions shares opened kept q station here k seat e =
    let node = shares.each q station.runner (slice_get-map runner_of stations q ∙ ap (option_map runner_of) here) in
    let is_station = (kept q station here).is_station in
    let of = is_station.each k seat e in
    let below = opened.before q station here k seat e in
    let (s, found) = element_at sessions seat.client (omega (arith, below, opened.count)) in
    let (new, has) = opened.each seat.client s found in
    let own : home script seat.client ≡ q = sym (ap (λ (v : ScriptData). home v seat.client) node.script_is) ∙ of.home ∙ node.me in
    let at : home script s.client ≡ q = ap (home script) new.client_is ∙ own in
    let is : has.station ≡ station = same_Some has.station station (sym has.here ∙ ap (slice_get stations) at ∙ here) in
    let there : slice_get station.seats s.place ≡ Some has.seated.seat = ap (λ (v : StationData). slice_get v.seats s.place) (sym is) ∙ has.seated.here in
    let place : k ≡ s.place = is_station.apart k s.place seat has.seated.seat e there (sym (has.seated.link.0 ∙ new.client_is)) in
    let same : has.seated.seat ≡ seat = same_Some has.seated.seat seat (sym there ∙ ap (slice_get station.seats) (sym place) ∙ e) in
    subst (λ (v : Seat). outbox_replies v ≡ []) same has.waits
