-- What follows from each code of a call on a station or a session.
use Rattle.std.proofs.Common.{◌≡◌, ◌<◌, ◌≤◌, ◌==◌, ne_eqb, false, ◌⊎◌, inl, inr, ℕ, Option, Some, None, refl, subst, arith}
use Rattle.lt_runner.specs.declared.turning.Turned.{Turned}
use Rattle.lt_runner.specs.declared.turning.Turned.TheVariants as turns
use Rattle.lt_live.specs.declared.ends.Session.{Session}
use Rattle.lt_live.specs.declared.reply.Reply.{Reply}
use Rattle.lt_live.specs.declared.reply.Reply.TheVariants as replies
use Rattle.lt_live.specs.Stations.{StationData, StationTurns}
use Rattle.lt_live.specs.Words.{polled}
use Rattle.lt_live_c.specs.declared.content.Content.{Content}
use Rattle.lt_live_c.specs.declared.content.Content.TheVariants as contents
use Rattle.lt_live_c.specs.Calls.{number_of_turn, mode_numbered, command_numbered, TurnsStation, Submits, Polls}
use Rattle.lt_live_c.proofs.RepliesOpened.{nothing_so, granted_so, dropped_so, withdrawn_of, withheld_of, told_of, poll_code}
use Rattle.lt_live_c.specs.Taking.{AtSession}
use Rattle.lt_live_c.specs.Told.{CallCodesAre, ReplyNumbersAre, ModeNumbersAre, CommandNumbersAre, OfSession, AfterTurn, TurnsTold, AfterSubmit, SubmitsTold, AfterPoll, PollsTold}

pub call_codes_are : CallCodesAre
call_codes_are = record {
  ok = refl;
  nothing = refl;
  wrong_handle = refl;
  no_memory = refl;
  bad_argument = refl;
  bad_script = refl;
  spent = refl;
  full = refl;
  log_full = refl;
  forgotten = refl;
  too_many = refl;
  bad_set = refl;
  other_version = refl;
  other_service = refl;
  other_node = refl;
  missing = refl;
  again = refl;
  too_long = refl;
  bad_seal = refl;
  no_letter = refl;
  misfit = refl;
  bytes = refl;
}

pub reply_numbers_are : ReplyNumbersAre
reply_numbers_are = record {
  granted = (refl, refl);
  is_true = (refl, refl);
  is_false = (refl, refl);
  unlocked = (refl, refl);
  not_held = (refl, refl);
  changed = (refl, refl);
  dropped = (refl, refl);
  busy = (refl, refl);
  withdrawn = (refl, refl);
  withheld = (refl, refl);
}

-- the number is above all of these, and so none of them
above : (n k most : ℕ) → k ≤ most → most < n → (n == k) ≡ false
above n k most few more = ne_eqb n k (λ e. omega (arith, few, more, e))

no_mode : (n : ℕ) → 5 < n → mode_numbered n ≡ None
no_mode n more =
    rw (above n 0 5 (omega arith) more, above n 1 5 (omega arith) more, above n 2 5 (omega arith) more, above n 3 5 (omega arith) more, above n 4 5 (omega arith) more, above n 5 5 (omega arith) more) refl

pub mode_numbers_are : ModeNumbersAre
mode_numbers_are = record {
  intention_read = refl;
  read = refl;
  upgrade = refl;
  intention_write = refl;
  read_intention_write = refl;
  write = refl;
  none = no_mode;
}

no_kind : (kind set first second : ℕ) → 5 < kind → command_numbered kind set first second ≡ None
no_kind kind set first second more =
    rw (above kind 0 5 (omega arith) more, above kind 1 5 (omega arith) more, above kind 2 5 (omega arith) more, above kind 3 5 (omega arith) more, above kind 4 5 (omega arith) more, above kind 5 5 (omega arith) more) refl

pub command_numbers_are : CommandNumbersAre
command_numbers_are = record {
  lock = refl;
  tries = refl;
  unlock = refl;
  change = refl;
  drops = refl;
  withdraws = refl;
  no_lock = refl;
  no_try = refl;
  no_unlock = refl;
  no_change_from = refl;
  no_change_to = refl;
  no_drop = refl;
  no_withdraw = refl;
  no_kind = no_kind;
}

-- Turns.

after_turn : (code : ℕ) (Told : StationData → StationData → Type 0)
    → ((a b : StationData) → TurnsStation code a b → Told a b) → AfterTurn code Told
after_turn code Told says a None h = absurd h
after_turn code Told says a (Some (contents.Service s)) h = absurd h
after_turn code Told says a (Some (contents.Station b)) h = says a b h
after_turn code Told says a (Some (contents.Session s)) h = absurd h
after_turn code Told says a (Some (contents.Journal journal)) h = absurd h
after_turn code Told says a (Some (contents.Node node)) h = absurd h

pub moved_so : (turned : Turned) → 0 ≡ number_of_turn turned → turned ≡ turns.Moved
moved_so turns.Moved e = refl
moved_so turns.Quiet e = absurd (omega (arith, e))
moved_so turns.Full e = absurd (omega (arith, e))
moved_so turns.NoMemory e = absurd (omega (arith, e))

pub quiet_so : (turned : Turned) → 1 ≡ number_of_turn turned → turned ≡ turns.Quiet
quiet_so turns.Moved e = absurd (omega (arith, e))
quiet_so turns.Quiet e = refl
quiet_so turns.Full e = absurd (omega (arith, e))
quiet_so turns.NoMemory e = absurd (omega (arith, e))

pub full_so : (turned : Turned) → 8 ≡ number_of_turn turned → turned ≡ turns.Full
full_so turns.Moved e = absurd (omega (arith, e))
full_so turns.Quiet e = absurd (omega (arith, e))
full_so turns.Full e = refl
full_so turns.NoMemory e = absurd (omega (arith, e))

pub no_memory_so : (turned : Turned) → 3 ≡ number_of_turn turned → turned ≡ turns.NoMemory
no_memory_so turns.Moved e = absurd (omega (arith, e))
no_memory_so turns.Quiet e = absurd (omega (arith, e))
no_memory_so turns.Full e = absurd (omega (arith, e))
no_memory_so turns.NoMemory e = refl

pub turn_code : (turned : Turned) (code : ℕ) → code ≡ number_of_turn turned
    → (code ≡ 0) ⊎ ((code ≡ 1) ⊎ ((code ≡ 8) ⊎ (code ≡ 3)))
turn_code turns.Moved code e = inl e
turn_code turns.Quiet code e = inr (inl e)
turn_code turns.Full code e = inr (inr (inl e))
turn_code turns.NoMemory code e = inr (inr (inr e))

-- a turn that ended so
pub turned_so : (a b : StationData) (turned other : Turned) → turned ≡ other
    → StationTurns turned a.runner a.seats b.runner b.seats
    → StationTurns other a.runner a.seats b.runner b.seats
turned_so a b turned other e h =
    subst (λ (way : Turned). StationTurns way a.runner a.seats b.runner b.seats) e h

pub turns_told : TurnsTold
turns_told = record {
  moved = after_turn 0 (λ a b. StationTurns turns.Moved a.runner a.seats b.runner b.seats)
      (λ a b h. turned_so a b h.0 turns.Moved (moved_so h.0 h.1) h.2);
  quiet = after_turn 1 (λ a b. StationTurns turns.Quiet a.runner a.seats b.runner b.seats)
      (λ a b h. turned_so a b h.0 turns.Quiet (quiet_so h.0 h.1) h.2);
  full = after_turn 8 (λ a b. StationTurns turns.Full a.runner a.seats b.runner b.seats)
      (λ a b h. turned_so a b h.0 turns.Full (full_so h.0 h.1) h.2);
  no_memory = after_turn 3 (λ a b. StationTurns turns.NoMemory a.runner a.seats b.runner b.seats)
      (λ a b h. turned_so a b h.0 turns.NoMemory (no_memory_so h.0 h.1) h.2);
  only = λ code. after_turn code (λ a b. (code ≡ 0) ⊎ ((code ≡ 1) ⊎ ((code ≡ 8) ⊎ (code ≡ 3))))
      (λ a b h. turn_code h.0 code h.1);
}

-- Commands.

after_session : (code : ℕ) (Calls Told : Session → Session → Type 0)
    → ((s t : Session) → Calls s t → Told s t)
    → (s : Session) (new : Option Content) → AtSession code Calls (Some (contents.Session s)) new
    → OfSession new (Told s)
after_session code Calls Told says s None h = absurd h
after_session code Calls Told says s (Some (contents.Service other)) h = absurd h
after_session code Calls Told says s (Some (contents.Station other)) h = absurd h
after_session code Calls Told says s (Some (contents.Session t)) h = says s t h
after_session code Calls Told says s (Some (contents.Journal other)) h = absurd h
after_session code Calls Told says s (Some (contents.Node other)) h = absurd h

after_submit : (code kind first : ℕ) (Told : Session → Session → Type 0)
    → ((s t : Session) → Submits code (command_numbered kind 7 first 9) s t → Told s t)
    → AfterSubmit code kind first Told
after_submit code kind first Told says =
    after_session code (Submits code (command_numbered kind 7 first 9)) Told says

pub submits_told : SubmitsTold
submits_told = record {
  next = after_submit 0 0 5 _ (λ s t h. (h.ok refl).next);
  one_less = after_submit 0 0 5 _ (λ s t h. (h.ok refl).left);
  set = after_submit 0 0 5 _ (λ s t h. (h.ok refl).may.0);
  mode = after_submit 0 0 4 _ (λ s t h. (h.ok refl).may.1);
  client = after_submit 0 4 3 _ (λ s t h. (h.ok refl).may.0.1);
  neighbour = after_submit 0 4 3 _ (λ s t h. (h.ok refl).may.0.2);
  withdraw = after_submit 0 5 3 _ (λ s t h. (h.ok refl).next);
  version = after_submit 0 5 3 _ (λ s t h. (h.ok refl).may.1);
  withdraw_client = after_submit 0 5 3 _ (λ s t h. (h.ok refl).may.0.1);
  withdraw_neighbour = after_submit 0 5 3 _ (λ s t h. (h.ok refl).may.0.2);
  no_command = after_submit 0 0 6 _ (λ s t h. h.ok refl);
  named = after_submit 4 1 1 _ (λ s t h set mode. h.bad_argument refl (set, mode));
  bad_mode = λ code. after_submit code 0 6 _ (λ s t h. h.barred tt);
  bad_set = λ code. after_submit code 0 5 _ (λ s t h few. h.barred (λ may. omega (arith, may.0, few)));
  spent = after_submit 6 0 5 _ (λ s t h. h.spent refl);
  used_up = after_submit 7 0 5 _ (λ s t h. (h.full refl).0);
  no_place = after_submit 7 0 5 _ (λ s t h. (h.full refl).1);
  place = after_submit 7 0 5 _ (λ s t h free. h.place free refl);
  stays = λ code other. after_submit code 0 5 _ (λ s t h. h.none other);
  only = λ code. after_submit code 0 5 _ (λ s t h. h.only);
  polled_stays = λ code. after_submit code 0 5 _ (λ s t h. h.replies.0);
  known_stays = λ code. after_submit code 0 5 _ (λ s t h. h.replies.1);
}

-- Replies.

after_poll : (code : ℕ) (Told : ℕ → ℕ → Session → Session → Type 0)
    → ((was count : ℕ) (s t : Session) → Polls code was count s t → Told was count s t)
    → AfterPoll code Told
after_poll code Told says s was count new h =
    after_session code (Polls code was count) (Told was count) (says was count) s new h

pub polls_told : PollsTold
polls_told = record {
  nothing = after_poll 1 _ (λ was count s t h. (nothing_so was count s t h).known.0);
  still_nothing = after_poll 1 _ (λ was count s t h. (nothing_so was count s t h).known.1);
  no_reply = after_poll 1 _ (λ was count s t h. (nothing_so was count s t h).polled);
  count_stays = after_poll 1 _ (λ was count s t h. (nothing_so was count s t h).stays);
  granted = after_poll 16 _ (λ was count s t h. (granted_so was count s t h).polled);
  granted_known = after_poll 16 _ (λ was count s t h. (granted_so was count s t h).known);
  granted_count = after_poll 16 _ (λ was count s t h. (granted_so was count s t h).tells);
  dropped = after_poll 22 _ dropped_so;
  withdrawn = after_poll 24 _ (told_of 24 replies.Withdrawn withdrawn_of (λ e. omega (arith, e)));
  withheld = after_poll 25 _ (told_of 25 replies.Withheld withheld_of (λ e. omega (arith, e)));
  only = λ code. after_poll code _ (λ was count s t h. poll_code code was count s t h.ends);
  submitted_stays = λ code. after_poll code _ (λ was count s t h. h.commands.0);
  left_stays = λ code. after_poll code _ (λ was count s t h. h.commands.1);
}
