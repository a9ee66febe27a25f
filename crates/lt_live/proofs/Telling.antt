-- What a session polled answers what was submitted there.
use Rattle.std.proofs.Common.{◌≡◌, ◌<◌, ◌≤◌, ℕ, suc, List, [], ◌∷◌, length, Option, Some, None, refl, sym, ap, subst, true, ◌∙◌, arith, zero, ◌++◌, take, drop, ◌+◌, rules, slice_index_or, inl, inr, slice_get, option_and_then, option_map, append_assoc, take-append-drop, append-nil, take_all}
use Rattle.std.proofs.Math.Seq.{take-length}
use Rattle.std.proofs.lemmas.Option.{slice_get_within}
use Rattle.std.proofs.lemmas.List.{take_more}
use Rattle.std.proofs.lemmas.List.Elements.{filter_map-append}
use mathlib.Core.List.{IsPrefix}
use Rattle.lt_modes.specs.declared.command.Command.{Command}
use Rattle.lt_modes.specs.declared.event.Event.{Event}
use Rattle.lt_spec.specs.NodeMove.{commands_of}
use Rattle.lt_spec.specs.Holdings.{lines_of}
use Rattle.lt_spec.specs.World.{Logged, replies_of}
use Rattle.lt_spec.specs.Script.{AnswersInTurn}
use Rattle.lt_script.proofs.RoundTrips.{get_in_front}
use Rattle.lt_merge.specs.Merging.{events_at}
use Rattle.lt_law_invariant.proofs.FewAsks.{whole}
use Rattle.lt_law_replies.proofs.ReplyRuns.{replies_in_turn}
use Rattle.lt_runner.specs.declared.parts.Parts.{Parts}
use Rattle.lt_runner.specs.declared.turning.Turned.{Turned}
use Rattle.lt_live.specs.declared.reply.Reply.{Reply}
use Rattle.lt_live.specs.Seats.{reply_to, replies_in, lines_at, lines_up_to, IsSeat, KnowAll, LooksBeside, IsSettledSeat, lines_if, OnlyTells, TellsMove, TellsOn, TellsOutbox, TellsSeat, IsCursor}
use Rattle.lt_live.specs.Words.{submitted, polled, known_commands, known_replies, command_held, told_to, outbox_replies, due_to, SameSeat, AreTwoEnds, SameSession}
use Rattle.lt_live.specs.Live.{IsReplyTo, PolledInTurn, NoMoreThanSubmitted}
use Rattle.lt_live.proofs.Finished.{replies_of_lines}
use Rattle.lt_live.specs.declared.ends.Session.{Session}
use Rattle.lt_live.specs.declared.ends.Seat.{Seat}
use Rattle.lt_live.specs.Stations.{HandMayGo, SeatTurns, StationTurns, IsSeated, StaySeated, SeatLooks}
use Rattle.lt_live.proofs.SeatLists.{each_after}

in_prefix : {X : Type 0} (xs ys : List X) → IsPrefix xs ys → (k : ℕ) (x : X) → slice_get xs k ≡ Some x → slice_get ys k ≡ Some x
in_prefix xs ys h k x at =
    ap (λ list. slice_get list k) (sym h.1) ∙ get_in_front xs h.0 k (slice_get_within xs k x at) ∙ at

-- a reply is told by a line at its place
module _ (client : ℕ) (commands given : List Command) (lines : List Event) (k : ℕ) (reply : Reply)
    (in_turn : AnswersInTurn client commands (replies_of client lines)) (made : IsPrefix commands given) where
  by_line : (found : Option Event) → slice_get (replies_of client lines) k ≡ found → option_and_then (reply_to client) found ≡ Some reply
      → (command : Command) × (slice_get given k ≡ Some command) × IsReplyTo client command reply
  by_line None at said = absurd (cc)
  by_line (Some line) at said =
      let answers = in_turn k line at in
      (answers.0, in_prefix commands given made k answers.0 answers.1, (line, answers.2, said))

pub polled_in_turn : PolledInTurn
polled_in_turn first script sessions run served client s here k reply at =
    let one = served.each client s here in
    let turn : AnswersInTurn client (commands_of script client) (replies_of client (lines_of run)) =
    subst (λ (list : List Logged). AnswersInTurn client (commands_of script client) (replies_of client (lines_of list))) (take-length run)
    (replies_in_turn script run (whole script served.is_script) served.is_run (length run) client) in
    let told : slice_get (replies_in client (lines_of run)) k ≡ Some reply = in_prefix (polled s) (replies_in client (lines_of run)) one.replies k reply at in
    by_line client (commands_of script client) (submitted s) (lines_of run) k reply turn one.commands
    (slice_get (replies_of client (lines_of run)) k) refl (sym (replies_of_lines client (lines_of run) k) ∙ told)

-- a list that is no longer than another has at each of its places something of the other
no_longer : {X Y : Type 0} (xs : List X) (ys : List Y) → ((k : ℕ) (x : X) → slice_get xs k ≡ Some x → k < length ys) → length xs ≤ length ys
no_longer [] ys h = omega arith
no_longer (x ∷ xs) [] h = let none = h 0 x refl in omega (arith, none)
no_longer (x ∷ xs) (y ∷ ys) h =
    let less = no_longer xs ys (λ k z at. let below = h (suc k) z at in omega (arith, below)) in omega (arith, less)

pub no_more_than_submitted : NoMoreThanSubmitted
no_more_than_submitted first script sessions run served client s here =
    no_longer (polled s) (submitted s) (λ k reply at.
    let answered = polled_in_turn first script sessions run served client s here k reply at in
    slice_get_within (submitted s) k answered.0 answered.1)

-- What the two ends of a session say of commands and replies.

-- the lines so far are the first ones of the log
pub first_lines : (log : List Logged) (moves lines : ℕ) → IsPrefix (lines_up_to log moves lines) (lines_of log)
first_lines [] zero lines = (drop lines [], take-append-drop lines [])
first_lines [] (suc moves) lines = (drop lines [], take-append-drop lines [])
first_lines (entry ∷ rest) zero lines = (
  drop lines entry.events ++ lines_of rest,
  sym (append_assoc (take lines entry.events) (drop lines entry.events) (lines_of rest))
      ∙ ap (λ (list : List Event). list ++ lines_of rest) (take-append-drop lines entry.events),
)
first_lines (entry ∷ rest) (suc moves) lines =
    let more = first_lines rest moves lines in
    let first = lines_of (take moves rest) in
    let next = take lines (lines_at rest moves) in (
      more.0,
      ap (λ (list : List Event). list ++ more.0) (append_assoc entry.events first next)
          ∙ append_assoc entry.events (first ++ next) more.0
          ∙ ap (λ (list : List Event). entry.events ++ list) more.1,
    )

-- what was told are the first ones of the client's replies in the log
told_first : (client : ℕ) (log : List Logged) (moves lines : ℕ) → IsPrefix (replies_in client (lines_up_to log moves lines)) (replies_in client (lines_of log))
told_first client log moves lines =
    let first = first_lines log moves lines in
    (replies_in client first.0, sym (filter_map-append (reply_to client) (lines_up_to log moves lines) first.0) ∙ ap (replies_in client) first.1)

pub is_settled : (list : List Command) (log : List Logged) (s t : Session) (a b : Seat) → IsSeat list log a.client a → LooksBeside log s t a b → KnowAll t b
    → IsSettledSeat list (lines_of log) a.client s t b
is_settled list log s t a b kept looks beside =
    let all : submitted t ≡ (list ++ command_held b.hand) ++ known_commands b =
    sym beside.commands
    ∙ ap (λ (commands : List Command). commands ++ known_commands b) (looks.taken.0 ∙ (kept.taken ∙ ap (λ hand. list ++ command_held hand) (sym looks.taken.1))) in
    let told = told_first a.client log b.moves b.lines in
    record {
      served = record {
        commands = (command_held b.hand ++ known_commands b, sym (append_assoc list (command_held b.hand) (known_commands b)) ∙ sym all);
        replies = (
          known_replies t ++ (outbox_replies b ++ told.0),
          sym (append_assoc (polled t) (known_replies t) (outbox_replies b ++ told.0))
              ∙ ap (λ (replies : List Reply). replies ++ (outbox_replies b ++ told.0)) beside.replies
              ∙ sym (append_assoc (told_to b) (outbox_replies b) told.0)
              ∙ (ap (λ (replies : List Reply). replies ++ told.0) (looks.due kept.due) ∙ told.1),
        );
      };
      all = all;
      same = looks.submitted.0;
    }

-- Replies go into a ring line by line.

pub same_seats : (a b d : Seat) → SameSeat a b → SameSeat b d → SameSeat a d
same_seats a b d first second = record {
  client = second.client ∙ first.client;
  commands = search rules;
  replies = search rules;
}

pub only_tells_itself : (a : Seat) → SameSeat a a → OnlyTells a a
only_tells_itself a same = record { same = same; taken = refl; hand = refl; known = refl; places = omega arith; fewer = omega arith }

pub only_tells_join : (a b d : Seat) → OnlyTells a b → OnlyTells b d → OnlyTells a d
only_tells_join a b d h k = record {
  same = same_seats a b d h.same k.same;
  taken = k.taken ∙ h.taken;
  hand = k.hand ∙ h.hand;
  known = k.known ∙ h.known;
  places = omega (arith, h.places, k.places);
  fewer = omega (arith, h.fewer, k.fewer);
}

-- where nothing waits, what is told is all
none_waits : (seat : Seat) → outbox_replies seat ≡ [] → due_to seat ≡ told_to seat
none_waits seat none = ap (λ (replies : List Reply). told_to seat ++ replies) none ∙ append-nil (told_to seat)

-- the first lines and the next one say what the first ones say, and then what the next says
pub told_next : (client mine : ℕ) (lines : List Event) (k j : ℕ) (line : Event) (before now then : List Reply) → k < length lines → line ≡ slice_index_or lines k line → j ≡ k + 1 → mine ≡ client
    → now ≡ before ++ replies_in client (take k lines) → then ≡ now ++ replies_in mine (line ∷ [])
    → then ≡ before ++ replies_in client (take j lines)
told_next client mine lines k j line before now then inside at next own so is =
    let more : take j lines ≡ take k lines ++ line ∷ [] =
    ap (λ (n : ℕ). take n lines) next ∙ take_more lines k line inside ∙ ap (λ (x : Event). take k lines ++ x ∷ []) (sym at) in
    is ∙ ap (λ (c : ℕ). now ++ replies_in c (line ∷ [])) own
    ∙ ap (λ (list : List Reply). list ++ replies_in client (line ∷ [])) so
    ∙ append_assoc before (replies_in client (take k lines)) (replies_in client (line ∷ []))
    ∙ ap (λ (list : List Reply). before ++ list)
    (sym (filter_map-append (reply_to client) (take k lines) (line ∷ [])) ∙ ap (λ (list : List Event). replies_in client list) (sym more))

same_lines : (o : Option Logged) (lines : List Event) → option_map (λ (entry : Logged). entry.events) o ≡ Some lines → lines_if o ≡ lines
same_lines None lines e = absurd (cc)
same_lines (Some entry) lines e = cc

-- the lines of the move that the log has at this place
pub lines_are : (log : List Logged) (k : ℕ) (lines : List Event) → events_at log k ≡ Some lines → lines_at log k ≡ lines
lines_are log k lines e = same_lines (slice_get log k) lines e

lines_more : (log : List Logged) (k : ℕ) (lines : List Event) → events_at log k ≡ Some lines → lines_of (take (suc k) log) ≡ lines_of (take k log) ++ lines
lines_more [] k lines e = absurd (cc)
lines_more (entry ∷ rest) zero lines e = append-nil entry.events ∙ same_lines (Some entry) lines e
lines_more (entry ∷ rest) (suc k) lines e =
    ap (λ (list : List Event). entry.events ++ list) (lines_more rest k lines e) ∙ sym (append_assoc entry.events (lines_of (take k rest)) lines)

-- what the lines so far say is what the first moves say, and then what so many lines of the next one say
pub split : (client : ℕ) (log : List Logged) (k : ℕ) (lines : List Event) (n : ℕ) → events_at log k ≡ Some lines
    → replies_in client (lines_up_to log k n) ≡ replies_in client (lines_of (take k log)) ++ replies_in client (take n lines)
split client log k lines n e =
    filter_map-append (reply_to client) (lines_of (take k log)) (take n (lines_at log k))
    ∙ ap (λ (list : List Event). replies_in client (lines_of (take k log)) ++ replies_in client (take n list)) (lines_are log k lines e)

-- replies of a move went into the ring
pub tells_move : (log : List Logged) (lines : List Event) (all : _) (a b d : Seat) → TellsOn log a b → outbox_replies b ≡ [] → b.moves < length log → events_at log b.moves ≡ Some lines
    → TellsMove all lines b d → TellsOn log a d
tells_move log lines all a b d on empty inside e moved = record {
  rest = only_tells_join a b d on.rest moved.rest;
  moves = omega (arith, on.moves, moved.moves);
  due = λ before. rw moved.moves
      (none_waits d (moved.waits ∙ empty)
      ∙ moved.told (replies_in b.client (lines_of (take b.moves log)))
      (sym (none_waits b empty) ∙ on.due before ∙ ap (λ (c : ℕ). replies_in c (lines_up_to log b.moves b.lines)) (sym on.rest.same.client) ∙ split b.client log b.moves lines b.lines e)
      ∙ sym (split b.client log b.moves lines d.lines e)
      ∙ ap (λ (c : ℕ). replies_in c (lines_up_to log b.moves d.lines)) on.rest.same.client);
  cursor = record {
    inside = omega (arith, moved.moves, inside);
    within = omega (arith, moved.within, ap (λ (list : List Event). length list) (ap (λ (k : ℕ). lines_at log k) moved.moves ∙ lines_are log b.moves lines e));
  };
}

-- the lines of all a move's lines are those before the next move
pub next_lines : (log : List Logged) (lines : List Event) (moves n : ℕ) → events_at log moves ≡ Some lines → n ≡ length lines → lines_up_to log moves n ≡ lines_up_to log (moves + 1) 0
next_lines log lines moves n e done =
    let next : suc moves ≡ moves + 1 = omega arith in
    ap (λ (list : List Event). lines_of (take moves log) ++ take n list) (lines_are log moves lines e)
    ∙ ap (λ (list : List Event). lines_of (take moves log) ++ list) (take_all n lines (omega (arith, done)))
    ∙ sym (lines_more log moves lines e)
    ∙ sym (append-nil (lines_of (take (suc moves) log)))
    ∙ ap (λ (k : ℕ). lines_of (take k log) ++ []) next

-- and of all its lines, so that the next move is the next to be told of
pub tells_next : (log : List Logged) (lines : List Event) (a d : Seat) → TellsOn log a d → d.moves < length log → events_at log d.moves ≡ Some lines → d.lines ≡ length lines
    → TellsOn log a (record d { moves = d.moves + 1; lines = 0 })
tells_next log lines a d on inside e done = record {
  rest = record { same = record { client = on.rest.same.client; commands = on.rest.same.commands; replies = on.rest.same.replies }; taken = on.rest.taken; hand = on.rest.hand; known = on.rest.known; places = on.rest.places; fewer = on.rest.fewer };
  moves = omega (arith, on.moves);
  due = λ before. on.due before ∙ ap (λ (list : List Event). replies_in a.client list) (next_lines log lines d.moves d.lines e done);
  cursor = record { inside = omega (arith, inside); within = omega arith };
}

-- what waits went into the ring
pub tells_waiting : (log : List Logged) (all : _) (a b : Seat) → IsCursor log a.moves a.lines → TellsOutbox all a b → TellsOn log a b
tells_waiting log all a b cursor told = record {
  rest = told.rest;
  moves = omega (arith, told.moves);
  due = λ before. told.due ∙ before
      ∙ sym (ap (λ (k : ℕ). replies_in a.client (lines_up_to log k b.lines)) told.moves
      ∙ ap (λ (k : ℕ). replies_in a.client (lines_up_to log a.moves k)) told.lines);
  cursor = subst (λ (k : ℕ). IsCursor log k b.lines) (sym told.moves) (subst (λ (k : ℕ). IsCursor log a.moves k) (sym told.lines) cursor);
}

-- and then further replies
pub tells_further : (log : List Logged) (a b d : Seat) → IsCursor log a.moves a.lines → TellsOutbox true a b → TellsSeat log b d → TellsSeat log a d
tells_further log a b d cursor told further =
    let on = tells_waiting log true a b cursor told in
    record {
      on = record {
        rest = only_tells_join a b d on.rest further.on.rest;
        moves = omega (arith, on.moves, further.on.moves);
        due = λ before.
            further.on.due (on.due before ∙ ap (λ (c : ℕ). replies_in c (lines_up_to log b.moves b.lines)) (sym on.rest.same.client))
            ∙ ap (λ (c : ℕ). replies_in c (lines_up_to log d.moves d.lines)) on.rest.same.client;
        cursor = further.on.cursor;
      };
      stops = further.stops;
    }

-- The two ends of a session stay the ends of one.

pub link_seat : (s : Session) (x y : Seat) → SameSeat x y → AreTwoEnds s x → AreTwoEnds s y
link_seat s x y same link = (same.client ∙ link.0, search rules, search rules)

link_session : (s t : Session) (x : Seat) → SameSession s t → AreTwoEnds s x → AreTwoEnds t x
link_session s t x same link = (link.0 ∙ sym same.client, search rules, search rules)

same_gone : (x y : Seat) → HandMayGo x y → SameSeat x y
same_gone x y (inl gone) =
    subst (λ (seat : Seat). SameSeat x seat) (sym gone)
    (record { client = refl; commands = ((refl, refl, refl, refl), refl); replies = ((refl, refl, refl, refl), refl) })
same_gone x y (inr still) =
    subst (λ (seat : Seat). SameSeat x seat) (sym still)
    (record { client = refl; commands = ((refl, refl, refl, refl), refl); replies = ((refl, refl, refl, refl), refl) })

same_turned : (log : List Logged) (x y : Seat) → SeatTurns log x y → SameSeat x y
same_turned log x y h = same_seats x h.held y h.takes.same (same_seats h.held h.left y (same_gone h.held h.left h.hand) h.tells.on.rest.same)

-- a turn leaves them so
pub seats_stay : (turned : Turned) (a : Parts) (seats : List Seat) (b : Parts) (later : List Seat) → StationTurns turned a seats b later → StaySeated seats later
seats_stay turned a seats b later h s seated =
    let (y, here, one) = each_after (SeatTurns b.log.entries) seats later h.each s.place seated.seat seated.here in
    record { seat = y; here = here; link = link_seat s seated.seat y (same_turned b.log.entries seated.seat y one) seated.link }

-- and so does what its caller does
pub session_stays : (s t : Session) (seats : List Seat) → SameSession s t → IsSeated s seats → IsSeated t seats
session_stays s t seats same seated = record {
  seat = seated.seat;
  here = ap (slice_get seats) same.place ∙ seated.here;
  link = link_session s t seated.seat same seated.link;
}

-- and a look at both
pub looked_stays : (log : List Logged) (s t : Session) (old new : List Seat) → SeatLooks log s t old new → IsSeated t new
looked_stays log s t old new h = record {
  seat = h.y;
  here = ap (slice_get new) h.looks.session.place ∙ h.now;
  link = h.link;
}
