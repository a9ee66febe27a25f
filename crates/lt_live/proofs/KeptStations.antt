-- A station gets its seats.
use Rattle.std.proofs.Common.{◌≡◌, ℕ, List, [], ◌∷◌, ◌++◌, length, Some, sym, ap, subst, ◌∙◌, inl, inr, ◌<◌, ◌≤◌, zero, suc, take, refl, arith, ◌≢◌, None, Bool, if◌then◌else◌, ◌⊎◌, slice_get, slice_set, append_assoc, append-nil, eq-eqb, ne_eqb}
use Rattle.std.proofs.lemmas.Bool.{cases_eq}
use Rattle.std.proofs.lemmas.Option.{same_Some, slice_get_within}
use mathlib.Core.List.{IsPrefix}
use Rattle.lt_modes.specs.declared.command.Command.{Command}
use Rattle.lt_modes.specs.declared.event.Event.{Event}
use Rattle.lt_modes.specs.Script.{ScriptData}
use Rattle.lt_lists.proofs.AllLemmas.{all_append}
use Rattle.lt_spec.specs.NodeMove.{AreAt, commands_of, home, appended}
use Rattle.lt_spec.specs.Holdings.{lines_of}
use Rattle.lt_spec.specs.World.{Logged}
use Rattle.lt_law_plays.proofs.Appending.{appended_commands}
use Rattle.lt_runner.specs.declared.parts.Parts.{Parts}
use Rattle.lt_runner.specs.Kept.{Grew, with_appended}
use Rattle.lt_live.specs.declared.ends.Seat.{Seat}
use Rattle.lt_live.specs.Stations.{IsSeatOf, IsStation, AreOthers, EachSeat, MayHandOver, HandMayGo}
use Rattle.lt_live.proofs.SeatLists.{pushed, none_here, set_here, set_other, each_before}
use Rattle.lt_live.specs.Seats.{replies_in, lines_at, lines_up_to, IsCursor, TakesIn, TellsSeat, IsSeat}
use Rattle.lt_live.specs.Words.{told_to, outbox_replies, command_held}
use Rattle.lt_live.specs.declared.reply.Reply.{Reply}

-- before the first seat
pub station_first : (p : Parts) → AreAt p.node.script p.node.me p.node.script.commands → IsStation p []
station_first p own = record {
  each = λ k seat e. none_here k seat e;
  apart = λ j k x y e f same. none_here j x e;
  own = own;
}

-- one seat more
pub station_more : (p : Parts) (seats : List Seat) (seat : Seat) → IsStation p seats → IsSeatOf p seat → AreOthers seat.client seats → IsStation p (seats ++ seat ∷ [])
station_more p seats seat h here others = record {
  each = λ k x e. each k x (pushed seats seat k x e);
  apart = λ j k x y e f same. apart j k x y (pushed seats seat j x e) (pushed seats seat k y f) same;
  own = h.own;
}
  where
    each : (k : ℕ) (x : Seat) → (slice_get seats k ≡ Some x) ⊎ ((k ≡ length seats) × (seat ≡ x)) → IsSeatOf p x
    each k x (inl old) = h.each k x old
    each k x (inr new) = subst (λ (s : Seat). IsSeatOf p s) new.1 here

    apart : (j k : ℕ) (x y : Seat) → (slice_get seats j ≡ Some x) ⊎ ((j ≡ length seats) × (seat ≡ x))
        → (slice_get seats k ≡ Some y) ⊎ ((k ≡ length seats) × (seat ≡ y)) → x.client ≡ y.client → j ≡ k
    apart j k x y (inl e) (inl f) same = h.apart j k x y e f same
    apart j k x y (inl e) (inr f) same = absurd (others j x e (same ∙ ap (λ (s : Seat). s.client) (sym f.1)))
    apart j k x y (inr e) (inl f) same = absurd (others k y f (sym same ∙ ap (λ (s : Seat). s.client) (sym e.1)))
    apart j k x y (inr e) (inr f) same = e.0 ∙ sym f.0

-- A seat stays one of its runner's.

-- what a client was told of a log is what it was told of a longer one
pub more_lines : (log more : List Logged) (moves lines : ℕ) → IsCursor log moves lines
    → (lines_up_to (log ++ more) moves lines ≡ lines_up_to log moves lines) × IsCursor (log ++ more) moves lines
more_lines [] more zero zero h = (refl, record { inside = omega arith; within = omega arith })
more_lines [] more zero (suc lines) h = let within = h.within in absurd (omega (arith, within))
more_lines [] more (suc moves) lines h = let inside = h.inside in absurd (omega (arith, inside))
more_lines (entry ∷ rest) more zero lines h = (refl, record { inside = omega arith; within = h.within })
more_lines (entry ∷ rest) more (suc moves) lines h =
    let inside = h.inside in
    let (same, cursor) = more_lines rest more moves lines (record { inside = omega (arith, inside); within = h.within }) in
    let inside_too = cursor.inside in (
      append_assoc entry.events (lines_of (take moves (rest ++ more))) (take lines (lines_at (rest ++ more) moves))
          ∙ ap (λ (list : List Event). entry.events ++ list) same
          ∙ sym (append_assoc entry.events (lines_of (take moves rest)) (take lines (lines_at rest moves))),
      record { inside = omega (arith, inside_too); within = cursor.within },
    )

pub seat_grew : (list : List Command) (log later : List Logged) (client : ℕ) (seat : Seat) → IsPrefix log later → IsSeat list log client seat → IsSeat list later client seat
seat_grew list log later client seat goes h =
    let (same, cursor) = more_lines log goes.0 seat.moves seat.lines h.cursor in
    subst (λ (entries : List Logged). IsSeat list entries client seat) goes.1
    (record { client_is = h.client_is; taken = h.taken; due = h.due ∙ ap (replies_in client) (sym same); cursor = cursor })

pub seat_of_grew : (a b : Parts) (seat : Seat) → b.node.script ≡ a.node.script → b.node.me ≡ a.node.me → b.log.gone ≡ a.log.gone → IsPrefix a.log.entries b.log.entries
    → IsSeatOf a seat → IsSeatOf b seat
seat_of_grew a b seat same me gone goes h = record {
  client = subst (λ (s : ScriptData). seat.client < length s.clients) (sym same) h.client;
  home = ap (λ (s : ScriptData). home s seat.client) same ∙ h.home ∙ sym me;
  kept = subst (λ (s : ScriptData). IsSeat (commands_of s seat.client) b.log.entries seat.client seat) (sym same)
      (seat_grew (commands_of a.node.script seat.client) a.log.entries b.log.entries seat.client seat goes h.kept);
  places = h.places;
  gone = subst (λ (n : ℕ). n ≤ seat.moves) (sym gone) h.gone;
}

-- the seat of the same client, with the same rings
pub seat_of : (p : Parts) (s t : Seat) → IsSeatOf p s → t.client ≡ s.client → t.replies.capacity ≡ s.replies.capacity → s.moves ≤ t.moves
    → IsSeat (commands_of p.node.script s.client) p.log.entries s.client t → IsSeatOf p t
seat_of p s t h client capacity moves kept = record {
  client = subst (λ (c : ℕ). c < length p.node.script.clients) (sym client) h.client;
  home = ap (home p.node.script) client ∙ h.home;
  kept = subst (λ (c : ℕ). IsSeat (commands_of p.node.script c) p.log.entries c t) (sym client) kept;
  places = subst (λ (n : ℕ). 0 < n) (sym capacity) h.places;
  gone = omega (arith, h.gone, moves);
}

pub seat_of_taken : (p : Parts) (s t : Seat) → IsSeatOf p s → TakesIn s t → IsSeatOf p t
seat_of_taken p s t h takes =
    seat_of p s t h takes.same.client takes.same.replies.1 (omega (arith, takes.cursor.0))
    (record {
      client_is = takes.same.client;
      taken = takes.taken (commands_of p.node.script s.client) h.kept.taken;
      due = ap (λ (replies : List Reply). replies ++ outbox_replies t) takes.told.0
          ∙ ap (λ (replies : List Reply). told_to s ++ replies) takes.told.1
          ∙ h.kept.due
          ∙ sym (ap (λ (k : ℕ). replies_in s.client (lines_up_to p.log.entries k t.lines)) takes.cursor.0
          ∙ ap (λ (k : ℕ). replies_in s.client (lines_up_to p.log.entries s.moves k)) takes.cursor.1);
      cursor = subst (λ (k : ℕ). IsCursor p.log.entries k t.lines) (sym takes.cursor.0)
          (subst (λ (k : ℕ). IsCursor p.log.entries s.moves k) (sym takes.cursor.1) h.kept.cursor);
    })

pub seat_of_told : (p : Parts) (s t : Seat) → IsSeatOf p s → TellsSeat p.log.entries s t → IsSeatOf p t
seat_of_told p s t h tells =
    let rest = tells.on.rest in
    seat_of p s t h rest.same.client rest.same.replies.1 tells.on.moves
    (record {
      client_is = rest.same.client;
      taken = rest.taken ∙ (h.kept.taken ∙ ap (λ hand. commands_of p.node.script s.client ++ command_held hand) (sym rest.hand));
      due = tells.on.due h.kept.due;
      cursor = tells.on.cursor;
    })

-- A station stays one.

-- the seat at this place was one of the runner's, and is one of a runner's
pub record Stays (a b : Parts) (old : List Seat) (k : ℕ) (seat : Seat) : Type 0 where
  pub was : Seat
  pub here : slice_get old k ≡ Some was
  pub client : seat.client ≡ was.client
  pub now : IsSeatOf b seat

pub station_from : (a b : Parts) (old new : List Seat) → IsStation a old → AreAt b.node.script b.node.me b.node.script.commands
    → ((k : ℕ) (seat : Seat) → slice_get new k ≡ Some seat → Stays a b old k seat) → IsStation b new
station_from a b old new h own each = record {
  each = λ k seat e. (each k seat e).now;
  apart = λ j k x y e f same.
      let one = each j x e in
      let two = each k y f in
      h.apart j k one.was two.was one.here two.here (sym one.client ∙ same ∙ two.client);
  own = own;
}

pub station_taken : (p : Parts) (old new : List Seat) → IsStation p old → EachSeat TakesIn old new → IsStation p new
station_taken p old new h each = station_from p p old new h h.own (λ k seat e.
    let (was, here, takes) = each_before TakesIn old new each k seat e in
    record { was = was; here = here; client = takes.same.client; now = seat_of_taken p was seat (h.each k was here) takes })

pub station_told : (p : Parts) (old new : List Seat) → IsStation p old → EachSeat (TellsSeat p.log.entries) old new → IsStation p new
station_told p old new h each = station_from p p old new h h.own (λ k seat e.
    let (was, here, tells) = each_before (TellsSeat p.log.entries) old new each k seat e in
    record { was = was; here = here; client = tells.on.rest.same.client; now = seat_of_told p was seat (h.each k was here) tells })

pub station_grew : (a b : Parts) (seats : List Seat) → IsStation a seats → Grew a b → IsStation b seats
station_grew a b seats h grew = station_from a b seats seats h own (λ k seat e.
    record { was = seat; here = e; client = refl; now = seat_of_grew a b seat grew.same.script grew.same.me grew.same.gone grew.log (h.each k seat e) })
  where
    own : AreAt b.node.script b.node.me b.node.script.commands
    own =
        subst (λ (s : ScriptData). AreAt s b.node.me s.commands) (sym grew.same.script)
        (subst (λ (me : ℕ). AreAt a.node.script me a.node.script.commands) (sym grew.same.me) h.own)

-- the list of the client whose command was appended
own_list : (script : ScriptData) (client : ℕ) (command : Command) → commands_of (appended script client command) client ≡ commands_of script client ++ command ∷ []
own_list script client command =
    appended_commands script client client command
    ∙ ap (λ (t : Bool). commands_of script client ++ (if t then command ∷ [] else [])) (eq-eqb client client refl)

-- and that of any other one
other_list : (script : ScriptData) (client other : ℕ) (command : Command) → client ≢ other → commands_of (appended script client command) other ≡ commands_of script other
other_list script client other command apart =
    appended_commands script client other command
    ∙ ap (λ (t : Bool). commands_of script other ++ (if t then command ∷ [] else [])) (ne_eqb client other apart)
    ∙ append-nil (commands_of script other)

-- the seat whose command was appended
own_handed : (a : Parts) (x : Seat) (command : Command) → IsSeatOf a x → x.hand ≡ Some command
    → IsSeatOf (with_appended a x.client command) (record x { hand = None })
own_handed a x command h hand = record {
  client = h.client;
  home = h.home;
  kept = record {
    client_is = h.kept.client_is;
    taken = h.kept.taken
        ∙ ap (λ held. commands_of a.node.script x.client ++ command_held held) hand
        ∙ sym (own_list a.node.script x.client command)
        ∙ sym (append-nil (commands_of (appended a.node.script x.client command) x.client));
    due = h.kept.due;
    cursor = h.kept.cursor;
  };
  places = h.places;
  gone = h.gone;
}

-- and any other one
other_handed : (a : Parts) (client : ℕ) (z : Seat) (command : Command) → client ≢ z.client → IsSeatOf a z → IsSeatOf (with_appended a client command) z
other_handed a client z command apart h = record {
  client = h.client;
  home = h.home;
  kept = record {
    client_is = h.kept.client_is;
    taken = h.kept.taken ∙ ap (λ (list : List Command). list ++ command_held z.hand) (sym (other_list a.node.script client z.client command apart));
    due = h.kept.due;
    cursor = h.kept.cursor;
  };
  places = h.places;
  gone = h.gone;
}

handed : (a : Parts) (seats : List Seat) (place : ℕ) (x : Seat) (command : Command) → IsStation a seats → slice_get seats place ≡ Some x → x.hand ≡ Some command
    → IsStation (with_appended a x.client command) (slice_set seats place (record x { hand = None }))
handed a seats place x command h here hand =
    station_from a (with_appended a x.client command) seats (slice_set seats place (record x { hand = None })) h own (λ k seat e. by_place k seat e)
  where
    inside : place < length seats
    inside = slice_get_within seats place x here

    own : AreAt (appended a.node.script x.client command) a.node.me (a.node.script.commands ++ (x.client, command) ∷ [])
    own =
        all_append (λ (request : ℕ × Command). home a.node.script request.0 ≡ a.node.me) a.node.script.commands ((x.client, command) ∷ []) h.own
        ((h.each place x here).home, tt)

    by_place : (k : ℕ) (seat : Seat) → slice_get (slice_set seats place (record x { hand = None })) k ≡ Some seat
        → Stays a (with_appended a x.client command) seats k seat
    by_place k seat e = elim (cases_eq k place) [
      | inl at ↦
          let is : record x { hand = None } ≡ seat =
          same_Some (record x { hand = None }) seat
          (sym (set_here seats place (record x { hand = None }) inside) ∙ ap (slice_get (slice_set seats place (record x { hand = None }))) (sym at) ∙ e) in
          record {
            was = x;
            here = ap (slice_get seats) at ∙ here;
            client = ap (λ (s : Seat). s.client) (sym is);
            now = subst (λ (s : Seat). IsSeatOf (with_appended a x.client command) s) is (own_handed a x command (h.each place x here) hand);
          }
      | inr other ↦
          let was : slice_get seats k ≡ Some seat = sym (set_other seats place (record x { hand = None }) k other) ∙ e in
          record {
            was = seat;
            here = was;
            client = refl;
            now = other_handed a x.client seat command (λ same. other (sym (h.apart place k x seat here was same))) (h.each k seat was);
          }
    ]

-- nothing is written
set_same : (seats : List Seat) (place : ℕ) (x : Seat) → slice_get seats place ≡ Some x → (k : ℕ) → slice_get (slice_set seats place x) k ≡ slice_get seats k
set_same seats place x here k = elim (cases_eq k place) [
  | inl at ↦
      ap (slice_get (slice_set seats place x)) at
      ∙ set_here seats place x (slice_get_within seats place x here)
      ∙ sym (ap (slice_get seats) at ∙ here)
  | inr other ↦ set_other seats place x k other
]

unhanded : (a : Parts) (seats : List Seat) (place : ℕ) (x : Seat) → IsStation a seats → slice_get seats place ≡ Some x → IsStation a (slice_set seats place x)
unhanded a seats place x h here = station_from a a seats (slice_set seats place x) h h.own (λ k seat e.
    let was : slice_get seats k ≡ Some seat = sym (set_same seats place x here k) ∙ e in
    record { was = seat; here = was; client = refl; now = h.each k seat was })

-- the seat at this place may have handed its command over
pub station_handed : (a b : Parts) (seats : List Seat) (place : ℕ) (x y : Seat) → IsStation a seats → slice_get seats place ≡ Some x → MayHandOver x a y b
    → IsStation b (slice_set seats place y)
station_handed a b seats place x y h here (inl over) =
    subst (λ (p : Parts). IsStation p (slice_set seats place y)) (sym over.runner)
    (subst (λ (s : Seat). IsStation (with_appended a x.client over.command) (slice_set seats place s)) (sym over.seat)
    (handed a seats place x over.command h here over.hand))
station_handed a b seats place x y h here (inr still) =
    subst (λ (p : Parts). IsStation p (slice_set seats place y)) (sym still.1)
    (subst (λ (s : Seat). IsStation a (slice_set seats place s)) (sym still.0) (unhanded a seats place x h here))

pub hand_goes : (a b : Parts) (x y : Seat) → MayHandOver x a y b → HandMayGo x y
hand_goes a b x y (inl over) = inl over.seat
hand_goes a b x y (inr still) = inr still.0
