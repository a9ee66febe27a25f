-- What follows where a turn tells whom it reached.
use Rattle.std.proofs.Common.{◌≡◌, ◌<◌, ◌⊎◌, ℕ, List, Bool, true, false, Option, Some, None, refl, sym, ap, subst, ◌∙◌, length, slice_get}
use Rattle.std.proofs.lemmas.Bool.{false≢true}
use Rattle.lt_mail.specs.Telling.{GrewIf}
use Rattle.lt_runner.specs.declared.turning.Turned.TheVariants as turns
use Rattle.lt_live.specs.declared.ends.Seat.{Seat}
use Rattle.lt_live.specs.declared.clients.Clients.{Clients}
use Rattle.lt_live.specs.declared.reply.Reply.{Reply}
use Rattle.lt_mail.specs.Words.{Alike}
use Rattle.lt_live.specs.Stations.{StationData, StationTurns, EachSeat}
use Rattle.lt_live.specs.Told.{TellsClients, RingGrew, word_has}
use Rattle.lt_live.specs.Words.{told_to}
use Rattle.lt_live_c.specs.declared.content.Content.{Content}
use Rattle.lt_live_c.specs.declared.content.Content.TheVariants as contents
use Rattle.lt_live_c.specs.Telling.{TurnsTelling}
use Rattle.lt_live_c.specs.TellingTold.{AfterTelling, AtSeats, TellingTold}
use Rattle.lt_live_c.proofs.KindsOpened.{at_station}
use Rattle.lt_live_c.proofs.ToldOpened.{moved_so, quiet_so, full_so, no_memory_so, turn_code, turned_so}

after : (code : ℕ) (Told : ℕ → List ℕ → StationData → StationData → Type 0)
    → ((sent : ℕ) (told : List ℕ) (a b : StationData) → TurnsTelling code sent told a b → Told sent told a b) → AfterTelling code Told
after code Told says a sent told None h = absurd h
after code Told says a sent told (Some (contents.Service s)) h = absurd h
after code Told says a sent told (Some (contents.Station b)) h = says sent told a b h
after code Told says a sent told (Some (contents.Session s)) h = absurd h
after code Told says a sent told (Some (contents.Journal journal)) h = absurd h
after code Told says a sent told (Some (contents.Node node)) h = absurd h

grew : {X : Type 0} (b : Bool) (xs ys : List X) → GrewIf b xs ys → b ≡ true → length xs < length ys
grew true xs ys h e = h
grew false xs ys h e = absurd (false≢true e)

stayed : {X : Type 0} (b : Bool) (xs ys : List X) → GrewIf b xs ys → b ≡ false → ys ≡ xs
stayed true xs ys h e = absurd (false≢true (sym e))
stayed false xs ys h e = h

at_seats : (R : Seat → Seat → Type 0) (a b : StationData) → EachSeat R a.seats b.seats → AtSeats R a b
at_seats R a b each k x y here there = alike (slice_get a.seats k) (slice_get b.seats k) (each k) here there
  where
    alike : (o p : Option Seat) → Alike R o p → o ≡ Some x → p ≡ Some y → R x y
    alike o p h e f = subst (λ (q : Option Seat). Alike R (Some x) q) f (subst (λ (q : Option Seat). Alike R q p) e h)

abbrev clients_of : List ℕ → Clients
clients_of told = record { words = told }

told_so : (code sent : ℕ) (told : List ℕ) (a b : StationData) → TurnsTelling code sent told a b
    → AtSeats (λ x y. word_has told x.client ≡ true → length (told_to x) < length (told_to y)) a b
told_so code sent told a b h k x y here there =
    grew (word_has told x.client) (told_to x) (told_to y) (at_seats (RingGrew (clients_of told)) a b h.told_to.each k x y here there).grew

not_told_so : (code sent : ℕ) (told : List ℕ) (a b : StationData) → TurnsTelling code sent told a b
    → AtSeats (λ x y. word_has told x.client ≡ false → told_to y ≡ told_to x) a b
not_told_so code sent told a b h k x y here there =
    stayed (word_has told x.client) (told_to x) (told_to y) (at_seats (RingGrew (clients_of told)) a b h.told_to.each k x y here there).grew

pub telling_told : TellingTold
telling_told = record {
  moved = after 0 _ (λ sent told a b h. turned_so a b h.turns.0 turns.Moved (moved_so h.turns.0 h.turns.1) h.turns.2);
  quiet = after 1 _ (λ sent told a b h. turned_so a b h.turns.0 turns.Quiet (quiet_so h.turns.0 h.turns.1) h.turns.2);
  full = after 8 _ (λ sent told a b h. turned_so a b h.turns.0 turns.Full (full_so h.turns.0 h.turns.1) h.turns.2);
  no_memory = after 3 _ (λ sent told a b h. turned_so a b h.turns.0 turns.NoMemory (no_memory_so h.turns.0 h.turns.1) h.turns.2);
  only = λ code. after code _ (λ sent told a b h. turn_code h.turns.0 code h.turns.1);
  sent = λ code node. after code _ (λ sent told a b h. grew _ _ _ (h.sent_to node));
  not_sent = λ code node. after code _ (λ sent told a b h. stayed _ _ _ (h.sent_to node));
  told = λ code. after code _ (told_so code);
  not_told = λ code. after code _ (not_told_so code);
  no_others = λ code client. after code _ (λ sent told a b h. h.told_to.others client);
  others = λ sent told. at_station (λ code. TurnsTelling code sent told);
  nothing = λ sent told code new h. h;
  node_two = refl;
  no_node = refl;
  client_last = refl;
  no_client = refl;
}
