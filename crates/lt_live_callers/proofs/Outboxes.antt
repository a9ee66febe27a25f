-- At no seat of these a reply comes to wait.
use Rattle.std.proofs.Common.{◌≡◌, ◌≤◌, ℕ, List, [], ◌∷◌, length, Some, refl, sym, ap, subst, arith, ◌∙◌, inl, inr, slice_get}
use Rattle.std.proofs.lemmas.Bool.{cases_eq}
use Rattle.std.proofs.lemmas.Option.{same_Some}
use Rattle.lt_spec.specs.World.{Logged}
use Rattle.lt_live.specs.declared.ends.Seat.{Seat}
use Rattle.lt_live.specs.declared.ends.Session.{Session}
use Rattle.lt_live.specs.declared.reply.Reply.{Reply}
use Rattle.lt_live.specs.Stations.{HandMayGo, SeatTurns, EachSeat, SeatLooks}
use Rattle.lt_live.specs.Words.{outbox_replies}
use Rattle.lt_live.proofs.SeatLists.{each_before}
use Rattle.lt_live_callers.specs.Taking.{NoneWaitsAt}

none_more : (old new : List Reply) → length new ≤ length old → old ≡ [] → new ≡ []
none_more old [] fewer none = refl
none_more old (reply ∷ rest) fewer none = let count = ap (λ (replies : List Reply). length replies) none in absurd (omega (arith, fewer, count))

gone_replies : (s t : Seat) → HandMayGo s t → outbox_replies t ≡ outbox_replies s
gone_replies s t (inl gone) = ap outbox_replies gone
gone_replies s t (inr still) = ap outbox_replies still

seat_turned : (log : List Logged) (s t : Seat) → SeatTurns log s t → outbox_replies s ≡ [] → outbox_replies t ≡ []
seat_turned log s t h none =
    none_more (outbox_replies h.left) (outbox_replies t) h.tells.on.rest.fewer (gone_replies h.held h.left h.hand ∙ h.takes.told.1 ∙ none)

-- a turn
pub waits_turned : (log : List Logged) (old new : List Seat) → EachSeat (SeatTurns log) old new → (place : ℕ) → NoneWaitsAt place old → NoneWaitsAt place new
waits_turned log old new each place none seat e =
    let (was, here, turn) = each_before (SeatTurns log) old new each place seat e in
    seat_turned log was seat turn (none was here)

-- a look of a session and its seat
pub waits_looked : (log : List Logged) (s t : Session) (old new : List Seat) → SeatLooks log s t old new → (place : ℕ) → NoneWaitsAt place old → NoneWaitsAt place new
waits_looked log s t old new h place none seat e = elim (cases_eq place s.place) [
  | inl at ↦
      let is : h.y ≡ seat = same_Some h.y seat (sym h.now ∙ ap (slice_get new) (sym at) ∙ e) in
      let was : slice_get old place ≡ Some h.x = ap (slice_get old) at ∙ h.before in
      subst (λ (v : Seat). outbox_replies v ≡ []) is (none_more (outbox_replies h.x) (outbox_replies h.y) h.looks.fewer (none h.x was))
  | inr apart ↦ none seat (sym (h.others place apart) ∙ e)
]
