-- Stations whose runners look at the rings between them.
use Rattle.std.proofs.Common.{◌≡◌, ◌<◌, ◌≤◌, ◌+◌, ℕ, List, [], ◌∷◌, ◌++◌, get_or, take, drop, map, length, refl, sym, ap, subst, arith, ◌∙◌, slice_get, slice_set, inl, inr, take_at}
use Rattle.std.proofs.lemmas.Bool.{cases_eq}
use Rattle.std.proofs.lemmas.List.{map-append, length-map, map-set}
use Rattle.std.proofs.Math.ListN.{get_or-map}
use Rattle.std.proofs.Math.Seq.{map-set_same}
use Rattle.std.proofs.lemmas.Option.{same_Some, slice_get-get_or}
use Rattle.lt_modes.specs.Script.{ScriptData}
use Rattle.lt_spec.specs.NodeMove.{home, AreAt, commands_of}
use Rattle.lt_spec.specs.World.{Logged}
use Rattle.lt_runner.specs.declared.parts.Parts.{Parts}
use Rattle.lt_runner.specs.Kept.{AsSeen, AreBeside}
use Rattle.lt_threads.specs.Meeting.{EachIs, AreMet, AnyTwo, RunnersLinked, BothLook, PairMeets, Meeting}
use Rattle.lt_threads.proofs.Each.{linked_rest, linked_after}
use Rattle.lt_threads.proofs.Pairs.{beside_across, beside_back, pair_meets, next_pair, last_starts, met_last, HaveMet}
use Rattle.lt_live.specs.declared.ends.Seat.{Seat}
use Rattle.lt_live.specs.Seats.{IsSeat}
use Rattle.lt_live.specs.Stations.{StationData, IsSeatOf, IsStation, runner_of}
use Rattle.lt_live.specs.Served.{station_seats, StationsPair, StationsMeeting, StationsMet, HasKeptRunner, HaveKeptRunners}

-- a seat of a runner that looked stays one of it
seat_seen : (p q : Parts) (seat : Seat) → AsSeen p q → IsSeatOf p seat → IsSeatOf q seat
seat_seen p q seat seen h = record {
  client = subst (λ (s : ScriptData). seat.client < length s.clients) (sym seen.same.script) h.client;
  home = ap (λ (s : ScriptData). home s seat.client) seen.same.script ∙ h.home ∙ sym seen.same.me;
  kept = subst (λ (s : ScriptData). IsSeat (commands_of s seat.client) q.log.entries seat.client seat) (sym seen.same.script)
      (subst (λ (log : List Logged). IsSeat (commands_of p.node.script seat.client) log seat.client seat) (sym seen.log) h.kept);
  places = h.places;
  gone = subst (λ (n : ℕ). n ≤ seat.moves) (sym seen.same.gone) h.gone;
}

pub station_seen : (p q : Parts) (seats : List Seat) → AsSeen p q → IsStation p seats → IsStation q seats
station_seen p q seats seen h = record {
  each = λ k seat e. seat_seen p q seat seen (h.each k seat e);
  apart = h.apart;
  own = subst (λ (me : ℕ). AreAt q.node.script me q.node.script.commands) (sym seen.same.me)
      (subst (λ (s : ScriptData). AreAt s p.node.me s.commands) (sym seen.same.script) h.own);
}

-- The last station and those before it.

runners_push : (xs : List StationData) (x : StationData) → map runner_of (xs ++ x ∷ []) ≡ map runner_of xs ++ x.runner ∷ []
runners_push xs x = map-append runner_of xs (x ∷ [])

seats_push : (xs : List StationData) (x : StationData) → map station_seats (xs ++ x ∷ []) ≡ map station_seats xs ++ x.seats ∷ []
seats_push xs x = map-append station_seats xs (x ∷ [])

linked_push : (xs : List StationData) (x : StationData) → RunnersLinked (map runner_of (xs ++ x ∷ [])) → RunnersLinked (map runner_of xs ++ x.runner ∷ [])
linked_push xs x h = subst (λ (rs : List Parts). RunnersLinked rs) (runners_push xs x) h

pub station_across : (stations : List StationData) (m : ℕ) (d last : StationData) → m < length stations → RunnersLinked (map runner_of (stations ++ last ∷ []))
    → AreBeside (get_or stations m d).runner last.runner
station_across stations m d last inside linked =
    subst (λ (p : Parts). AreBeside p last.runner) (get_or-map runner_of stations m d)
    (beside_across (map runner_of stations) (last.runner ∷ []) m d.runner last.runner (omega (arith, inside, length-map stations runner_of)) (omega arith)
    (linked_push stations last linked))

pub station_back : (stations : List StationData) (m : ℕ) (d last : StationData) → m < length stations → RunnersLinked (map runner_of (stations ++ last ∷ []))
    → AreBeside last.runner (get_or stations m d).runner
station_back stations m d last inside linked =
    subst (λ (p : Parts). AreBeside last.runner p) (get_or-map runner_of stations m d)
    (beside_back (map runner_of stations) (last.runner ∷ []) m d.runner last.runner (omega (arith, inside, length-map stations runner_of)) (omega arith)
    (linked_push stations last linked))

pub station_pair : (stations : List StationData) (m : ℕ) (d x last y : StationData) → m < length stations → RunnersLinked (map runner_of (stations ++ last ∷ []))
    → BothLook (get_or stations m d).runner.node.me last.runner.node.me (get_or stations m d).runner last.runner x.runner y.runner
    → x.seats ≡ (get_or stations m d).seats → y.seats ≡ last.seats
    → StationsPair m (length stations) (stations ++ last ∷ []) (slice_set stations m x ++ y ∷ [])
station_pair stations m d x last y inside linked look first second = record {
  runners =
      subst (λ (rs : List Parts). PairMeets m (length stations) rs (map runner_of (slice_set stations m x ++ y ∷ []))) (sym (runners_push stations last))
      (subst (λ (rs : List Parts). PairMeets m (length stations) (map runner_of stations ++ last.runner ∷ []) rs)
      (sym (runners_push (slice_set stations m x) y ∙ ap (λ (rs : List Parts). rs ++ y.runner ∷ []) (map-set runner_of stations m x)))
      (subst (λ (n : ℕ). PairMeets m n (map runner_of stations ++ last.runner ∷ []) (slice_set (map runner_of stations) m x.runner ++ y.runner ∷ []))
      (length-map stations runner_of)
      (pair_meets (map runner_of stations) (last.runner ∷ []) m d.runner last.runner x.runner y.runner (omega (arith, inside, length-map stations runner_of)) (omega arith)
      (linked_push stations last linked)
      (subst (λ (p : Parts). BothLook p.node.me last.runner.node.me p last.runner x.runner y.runner) (sym (get_or-map runner_of stations m d)) look))));
  seats = seats_push (slice_set stations m x) y
      ∙ ap (λ (seats : List (List Seat)). seats ++ y.seats ∷ []) (map-set_same station_seats stations m x d first)
      ∙ ap (λ (seat : List Seat). map station_seats stations ++ seat ∷ []) second
      ∙ sym (seats_push stations last);
}

pub meeting_starts : (stations : List StationData) (last : StationData) → RunnersLinked (map runner_of (stations ++ last ∷ [])) → AreMet AnyTwo (map runner_of stations)
    → StationsMeeting (length stations) 0 (stations ++ last ∷ []) (stations ++ last ∷ [])
meeting_starts stations last linked met = record {
  runners =
      subst (λ (rs : List Parts). Meeting (length stations) 0 rs rs) (sym (runners_push stations last))
      (subst (λ (n : ℕ). Meeting n 0 (map runner_of stations ++ last.runner ∷ []) (map runner_of stations ++ last.runner ∷ [])) (length-map stations runner_of)
      (last_starts (map runner_of stations) last.runner (linked_push stations last linked) met));
  seats = refl;
}

pub meeting_next : (m n : ℕ) (old now new : List StationData) → m < n → StationsMeeting n m old now → StationsPair m n now new → StationsMeeting n (m + 1) old new
meeting_next m n old now new order s h = record {
  runners = next_pair m n (map runner_of old) (map runner_of now) (map runner_of new) order s.runners h.runners;
  seats = h.seats ∙ s.seats;
}

-- the others of those that are linked are so
pub linked_before : (rest : List StationData) (last : StationData) → RunnersLinked (map runner_of (rest ++ last ∷ [])) → RunnersLinked (map runner_of rest)
linked_before rest last h = linked_rest (map runner_of rest) last.runner (linked_push rest last h)

-- and stay linked with the last one once they met
pub linked_met : (rest after : List StationData) (last : StationData) → RunnersLinked (map runner_of (rest ++ last ∷ [])) → StationsMet rest after
    → RunnersLinked (map runner_of (after ++ last ∷ []))
linked_met rest after last h met =
    subst (λ (rs : List Parts). RunnersLinked rs) (sym (runners_push after last))
    (linked_after (map runner_of rest) (map runner_of after) last.runner (linked_push rest last h) met.seen)

-- the last one met all others, which have met before
last_met : (rest after final : List StationData) (last last_after : StationData) → StationsMet rest after
    → StationsMeeting (length after) (length after) (after ++ last ∷ []) (final ++ last_after ∷ []) → StationsMet (rest ++ last ∷ []) (final ++ last_after ∷ [])
last_met rest after final last last_after met s =
    let long = length-map after runner_of in
    let whole : HaveMet (map runner_of rest ++ last.runner ∷ []) (map runner_of final ++ last_after.runner ∷ []) =
    met_last (map runner_of rest) (map runner_of after) (map runner_of final) last.runner last_after.runner met.seen
    (subst (λ (n : ℕ). Meeting n n (map runner_of after ++ last.runner ∷ []) (map runner_of final ++ last_after.runner ∷ [])) (sym long)
    (subst (λ (rs : List Parts). Meeting (length after) (length after) rs (map runner_of final ++ last_after.runner ∷ [])) (runners_push after last)
    (subst (λ (rs : List Parts). Meeting (length after) (length after) (map runner_of (after ++ last ∷ [])) rs) (runners_push final last_after) s.runners))) in
    record {
      seen = subst (λ (rs : List Parts). EachIs AsSeen rs (map runner_of (final ++ last_after ∷ []))) (sym (runners_push rest last))
          (subst (λ (rs : List Parts). EachIs AsSeen (map runner_of rest ++ last.runner ∷ []) rs) (sym (runners_push final last_after)) whole.seen);
      met = subst (λ (rs : List Parts). AreMet AnyTwo rs) (sym (runners_push final last_after)) whole.met;
      seats = s.seats ∙ seats_push after last ∙ ap (λ (seats : List (List Seat)). seats ++ last.seats ∷ []) met.seats ∙ sym (seats_push rest last);
    }

pub all_met : (old rest after mid final new : List StationData) (last last_after : StationData) (n : ℕ) → old ≡ rest ++ last ∷ [] → mid ≡ after → n ≡ length mid
    → length final ≡ length mid → new ≡ take n (final ++ drop (length final) after) ++ last_after ∷ [] → StationsMet rest after
    → StationsMeeting (length mid) (length mid) (mid ++ last ∷ []) (final ++ last_after ∷ []) → StationsMet old new
all_met old rest after mid final new last last_after n was same len long is met s =
    let whole : take n (final ++ drop (length final) after) ≡ final = take_at final (drop (length final) after) n (omega (arith, len, long)) in
    subst (λ (xs : List StationData). StationsMet xs new) (sym was)
    (subst (λ (xs : List StationData). StationsMet (rest ++ last ∷ []) xs) (sym (is ∙ ap (λ (xs : List StationData). xs ++ last_after ∷ []) whole))
    (last_met rest after final last last_after met
    (subst (λ (xs : List StationData). StationsMeeting (length xs) (length xs) (xs ++ last ∷ []) (final ++ last_after ∷ [])) same s)))

-- What each runner keeps.

pub next_kept : (n : ℕ) (stations : List StationData) (d : StationData) → n < length stations → HaveKeptRunners n stations → HasKeptRunner (get_or stations n d)
    → HaveKeptRunners (n + 1) stations
next_kept n stations d inside before here k x below e = elim (cases_eq k n) [
  | inl at ↦ subst (λ (y : StationData). HasKeptRunner y)
      (same_Some (get_or stations n d) x (sym (slice_get-get_or stations n d inside) ∙ ap (slice_get stations) (sym at) ∙ e)) here
  | inr apart ↦ before k x (omega (arith, below, apart)) e
]

pub kept_to : (n : ℕ) (stations : List StationData) → length stations ≤ n → HaveKeptRunners n stations → HaveKeptRunners (length stations) stations
kept_to n stations long h k x below e = h k x (omega (arith, below, long)) e
