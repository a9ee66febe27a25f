-- A seat goes past a move that says nothing to its client.
use Rattle.std.proofs.Common.{◌≡◌, ◌≢◌, ◌∙◌, ◌<◌, ◌+◌, ◌++◌, ◌∷◌, [], ℕ, List, Some, None, ap, arith, length, ne_eqb, refl, rules, subst, sym, take, inl, true}
use Rattle.lt_modes.specs.declared.event.Event.{Event}
use Rattle.lt_modes.specs.declared.event.Event.TheVariants as lines
use Rattle.lt_merge.specs.Merging.{events_at}
use Rattle.lt_spec.specs.World.{Logged, line_client}
use Rattle.lt_live.specs.declared.reply.Reply.{Reply}
use Rattle.lt_live.specs.declared.ends.Seat.{Seat}
use Rattle.lt_live.specs.Seats.{IsCursor, IsLastLine, TellsMove, TellsOn, TellsSeat, reply_to, replies_in, told_if}
use Rattle.lt_live.specs.Words.{outbox_replies, SameSeat}
use Rattle.lt_live.proofs.Telling.{only_tells_itself, tells_move, tells_next}

told_none : (client other : ℕ) (reply : Reply) → Some other ≢ Some client → told_if client other reply ≡ None
told_none client other reply apart = rw (ne_eqb other client (λ same. apart (ap Some same))) refl

-- a line is no reply to another client than its own
pub to_others : (client : ℕ) (line : Event) → line_client line ≢ Some client → reply_to client line ≡ None
to_others client (lines.Grant other s mode) apart = told_none client other _ apart
to_others client (lines.Wait other s mode) apart = refl
to_others client (lines.Try other s mode got) apart = told_none client other _ apart
to_others client (lines.Unlock other s mode) apart = told_none client other _ apart
to_others client (lines.NotHeld other s mode) apart = told_none client other _ apart
to_others client (lines.Change other s gives_up mode) apart = told_none client other _ apart
to_others client (lines.DropAll other whose s count) apart = told_none client other _ apart
to_others client (lines.Busy other whose s) apart = told_none client other _ apart
to_others client (lines.Withdraw other whose s got) apart = told_none client other _ apart
to_others client (lines.Withdrawn other s mode) apart = told_none client other _ apart
to_others client (lines.Void other s mode) apart = refl
to_others client (lines.Withheld other s mode) apart = told_none client other _ apart
to_others client (lines.Copy s to other mode) apart = refl
to_others client (lines.Freeze s to number modes) apart = refl
to_others client (lines.Token s to epoch) apart = refl

said_nothing : (client : ℕ) (line : Event) → reply_to client line ≡ None → replies_in client (line ∷ []) ≡ []
said_nothing client line none = rw none refl

itself : (seat : Seat) → SameSeat seat seat
itself seat = record { client = refl; commands = search rules; replies = search rules }

-- its one line is read, and nothing told
read_silent : (line : Event) (a : Seat) → a.lines ≡ 0 → reply_to a.client line ≡ None → TellsMove true (line ∷ []) a (record a { lines = 1 })
read_silent line a first none = record {
  rest = record { same = record { client = refl; commands = search rules; replies = search rules }; taken = refl; hand = refl; known = refl; places = omega arith; fewer = omega arith };
  moves = refl;
  told = λ before so. so
      ∙ ap (λ (n : ℕ). before ++ replies_in a.client (take n (line ∷ []))) first
      ∙ ap (λ (list : List Reply). before ++ list) (sym (said_nothing a.client line none));
  waits = refl;
  within = omega arith;
  ends = refl;
}

passes_one : (log : List Logged) (line : Event) (a : Seat) → IsCursor log a.moves a.lines → IsLastLine log line → outbox_replies a ≡ [] → a.moves + 1 ≡ length log → a.lines ≡ 0
    → reply_to a.client line ≡ None → TellsSeat log a (record a { moves = a.moves + 1; lines = 0 })
passes_one log line a cursor last empty here first none =
    let at : last.move ≡ a.moves = omega (arith, last.last, here) in
    let alone : events_at log a.moves ≡ Some (line ∷ []) = sym (ap (events_at log) at) ∙ last.alone in
    let inside : a.moves < length log = omega (arith, here) in
    let start : TellsOn log a a = record { rest = only_tells_itself a (itself a); moves = omega arith; due = λ before. before; cursor = cursor } in
    let read = tells_move log (line ∷ []) true a a (record a { lines = 1 }) start empty inside alone (read_silent line a first none) in
    record {
      on = tells_next log (line ∷ []) a (record a { lines = 1 }) read inside alone refl;
      stops = inl (empty, here);
    }

pub passes_on : (log : List Logged) (line : Event) (a : Seat) (n : ℕ) → IsCursor log a.moves a.lines → IsLastLine log line → outbox_replies a ≡ [] → a.moves + 1 ≡ length log → a.lines ≡ 0
    → reply_to a.client line ≡ None → n ≡ length log → TellsSeat log a (record a { moves = n; lines = 0 })
passes_on log line a n cursor last empty here first none whole =
    subst (λ (k : ℕ). TellsSeat log a (record a { moves = k; lines = 0 })) (here ∙ sym whole)
    (passes_one log line a cursor last empty here first none)
