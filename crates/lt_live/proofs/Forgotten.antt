-- Seats read a log to its end, and then its moves are forgotten.
use Rattle.std.proofs.Common.{◌≡◌, ◌≤◌, ◌<◌, ◌+◌, ◌++◌, ℕ, List, length, Some, refl, sym, ap, subst, ◌∙◌, arith, inl, inr, slice_get}
use Rattle.std.proofs.lemmas.Option.{slice_get_within}
use Rattle.std.proofs.lemmas.Bool.{cases_eq}
use Rattle.lt_spec.specs.NodeMove.{commands_of}
use Rattle.lt_spec.specs.World.{Logged}
use Rattle.lt_mail.proofs.LookLemmas.{ends_same}
use Rattle.lt_runner.specs.declared.parts.Parts.{Parts}
use Rattle.lt_live.specs.declared.ends.Seat.{Seat}
use Rattle.lt_live.specs.Words.{taken, command_held, SameSeat}
use Rattle.lt_live.specs.Seats.{IsSeat, HasReadOn}
use Rattle.lt_live.specs.Stations.{IsSeatOf, IsStation, EachSeat, SeatAt, HaveRead, StaySeated}
use Rattle.lt_live.specs.Live.{GoesOn, StationGoesOn}
use Rattle.lt_live.proofs.SeatLists.{each_before, each_after}
use Rattle.lt_live.proofs.KeptStations.{seat_of, station_from}
use Rattle.lt_live.proofs.Telling.{link_seat}

pub reads_itself : (log : List Logged) (seat : Seat) → HasReadOn log seat seat
reads_itself log seat = record { seat = refl; moves = omega arith; due = λ due. due; cursor = λ cursor. cursor }

-- the first n seats have read all moves
abbrev pub FirstHaveRead : ℕ → List Logged → List Seat → Type 0
FirstHaveRead n log seats = (k : ℕ) (seat : Seat) → k < n → slice_get seats k ≡ Some seat → seat.moves ≡ length log

pub none_read : (log : List Logged) (seats : List Seat) → FirstHaveRead 0 log seats
none_read log seats k seat below e = absurd (omega (arith, below))

pub next_read : (n : ℕ) (log : List Logged) (old new : List Seat) → SeatAt (HasReadOn log) n old new → FirstHaveRead n log old
    → ((seat : Seat) → slice_get new n ≡ Some seat → seat.moves ≡ length log) → FirstHaveRead (n + 1) log new
next_read n log old new at before here k seat below e = elim (cases_eq k n) [
  | inl same ↦ here seat (ap (slice_get new) (sym same) ∙ e)
  | inr apart ↦ before k seat (omega (arith, below, apart)) (sym (at.others k apart) ∙ e)
]

pub all_read : (n : ℕ) (log : List Logged) (seats : List Seat) → length seats ≤ n → FirstHaveRead n log seats → HaveRead log seats
all_read n log seats long h k seat e = let inside = slice_get_within seats k seat e in h k seat (omega (arith, inside, long)) e

-- A station whose seats have read stays one.

seat_of_read : (p : Parts) (s t : Seat) → IsSeatOf p s → HasReadOn p.log.entries s t → IsSeatOf p t
seat_of_read p s t h reads =
    let client : t.client ≡ s.client = ap (λ (x : Seat). x.client) reads.seat in
    seat_of p s t h client (ap (λ (x : Seat). x.replies.capacity) reads.seat) reads.moves
    (record {
      client_is = client;
      taken = ap taken reads.seat
          ∙ h.kept.taken
          ∙ ap (λ hand. commands_of p.node.script s.client ++ command_held hand) (sym (ap (λ (x : Seat). x.hand) reads.seat));
      due = reads.due h.kept.due;
      cursor = reads.cursor h.kept.cursor;
    })

pub station_read : (p : Parts) (old new : List Seat) → IsStation p old → EachSeat (HasReadOn p.log.entries) old new → IsStation p new
station_read p old new h each = station_from p p old new h h.own (λ k seat e.
    let (was, here, reads) = each_before (HasReadOn p.log.entries) old new each k seat e in
    record { was = was; here = here; client = ap (λ (x : Seat). x.client) reads.seat; now = seat_of_read p was seat (h.each k was here) reads })

same_read : (log : List Logged) (x y : Seat) → HasReadOn log x y → SameSeat x y
same_read log x y reads =
    subst (λ (seat : Seat). SameSeat x seat) (sym reads.seat)
    (record { client = refl; commands = ((refl, refl, refl, refl), refl); replies = ((refl, refl, refl, refl), refl) })

-- and sessions keep their other ends
pub read_stays : (log : List Logged) (old new : List Seat) → EachSeat (HasReadOn log) old new → StaySeated old new
read_stays log old new each s seated =
    let (y, here, reads) = each_after (HasReadOn log) old new each s.place seated.seat seated.here in
    record { seat = y; here = here; link = link_seat s seated.seat y (same_read log seated.seat y reads) seated.link }

-- Its runner forgets moves that its seats have read.

pub station_forgot : (a b : Parts) (seats : List Seat) → b ≡ record a { log = b.log } → b.log.entries ≡ a.log.entries → b.log.gone ≡ length a.log.entries
    → HaveRead a.log.entries seats → IsStation a seats → IsStation b seats
station_forgot a b seats is entries gone read h =
    subst (λ (p : Parts). IsStation p seats) (sym is)
    (record { each = λ k seat e. each k seat e (h.each k seat e); apart = h.apart; own = h.own })
  where
    each : (k : ℕ) (seat : Seat) → slice_get seats k ≡ Some seat → IsSeatOf a seat → IsSeatOf (record a { log = b.log }) seat
    each k seat e of = record {
      client = of.client;
      home = of.home;
      kept = subst (λ (log : List Logged). IsSeat (commands_of a.node.script seat.client) log seat.client seat) (sym entries) of.kept;
      places = of.places;
      gone = omega (arith, gone, read k seat e);
    }

pub forgets_on : (a b : Parts) → b ≡ record a { log = b.log } → GoesOn a b
forgets_on a b is =
    subst (λ (p : Parts). GoesOn a p) (sym is) (record { script = refl; own = λ own. own; me = refl; limit = refl; ends = ends_same a.mail })

-- So does one that forgot commands, and it stays a station.

pub station_without : (p : Parts) (gone : ℕ) (seats : List Seat) → IsStation p seats → IsStation (record p { node = record p.node { gone = gone } }) seats
station_without p gone seats h = record {
  each = λ k seat e. let of = h.each k seat e in record { client = of.client; home = of.home; kept = of.kept; places = of.places; gone = of.gone };
  apart = h.apart;
  own = h.own;
}

pub goes_without : (p : Parts) (gone : ℕ) (seats : List Seat)
    → StationGoesOn (record { runner = p; seats = seats }) (record { runner = record p { node = record p.node { gone = gone } }; seats = seats })
goes_without p gone seats = record {
  runner = record { script = refl; own = λ own. own; me = refl; limit = refl; ends = ends_same p.mail };
  seated = λ session seated. seated;
}
