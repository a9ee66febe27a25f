-- Replies are put behind the outbox line by line.
use Rattle.std.proofs.Common.{◌≡◌, ◌<◌, ◌≤◌, ◌+◌, ℕ, zero, suc, List, [], ◌∷◌, ◌++◌, length, take, Some, sym, ap, ◌∙◌, arith, refl, slice_index_or, append_assoc}
use Rattle.lt_modes.specs.declared.event.Event.{Event}
use Rattle.lt_spec.specs.Holdings.{lines_of}
use Rattle.lt_spec.specs.World.{Logged}
use Rattle.lt_merge.specs.Merging.{events_at}
use Rattle.lt_live.specs.declared.ends.Seat.{Seat}
use Rattle.lt_live.specs.declared.reply.Reply.{Reply}
use Rattle.lt_live.specs.Seats.{replies_in, lines_at, lines_up_to, IsCursor, HasReadLine, ReadsMove, HasReadOn, ReadsAll}
use Rattle.lt_live.specs.Words.{told_to, outbox_replies, due_to}
use Rattle.lt_live.proofs.Telling.{told_next, lines_are, split, next_lines}

-- the reply of one line more
pub reads_line : (lines : List Event) (line : Event) (a b d : Seat) → ReadsMove lines a b → b.lines < length lines → line ≡ slice_index_or lines b.lines line → HasReadLine line b d
    → ReadsMove lines a d
reads_line lines line a b d h inside at read = record {
  seat = read.seat
      ∙ ap (λ (s : Seat). record s { waiting = d.waiting; lines = b.lines + 1 }) h.seat
      ∙ ap (λ (k : ℕ). record a { waiting = d.waiting; lines = k }) (sym count);
  due = λ before so.
      told_next a.client b.client lines b.lines d.lines line before (due_to b) (due_to d) inside at count (ap (λ (s : Seat). s.client) h.seat) (h.due before so) due;
  within = omega (arith, count, inside);
}
  where
    count : d.lines ≡ b.lines + 1
    count = ap (λ (s : Seat). s.lines) read.seat

    due : due_to d ≡ due_to b ++ replies_in b.client (line ∷ [])
    due =
        ap (λ (s : Seat). told_to s ++ outbox_replies d) read.seat
        ∙ ap (λ (replies : List Reply). told_to b ++ replies) read.waits
        ∙ sym (append_assoc (told_to b) (outbox_replies b) (replies_in b.client (line ∷ [])))

-- those of a move
pub reads_move : (log : List Logged) (lines : List Event) (a b d : Seat) → HasReadOn log a b → b.moves < length log → events_at log b.moves ≡ Some lines → ReadsMove lines b d
    → HasReadOn log a d
reads_move log lines a b d on inside e moved = record {
  seat = moved.seat
      ∙ ap (λ (s : Seat). record s { waiting = d.waiting; lines = d.lines }) on.seat
      ∙ ap (λ (k : ℕ). record a { waiting = d.waiting; moves = k; lines = d.lines }) (sym moves);
  moves = omega (arith, on.moves, moves);
  due = λ before.
      moved.due (replies_in b.client (lines_of (take b.moves log)))
      (on.due before ∙ ap (λ (c : ℕ). replies_in c (lines_up_to log b.moves b.lines)) (sym client) ∙ split b.client log b.moves lines b.lines e)
      ∙ sym (split b.client log b.moves lines d.lines e)
      ∙ ap (λ (c : ℕ). replies_in c (lines_up_to log b.moves d.lines)) client
      ∙ ap (λ (k : ℕ). replies_in a.client (lines_up_to log k d.lines)) (sym moves);
  cursor = λ before. record {
    inside = omega (arith, moves, inside);
    within = omega (arith, moved.within, ap (λ (list : List Event). length list) (ap (λ (k : ℕ). lines_at log k) moves ∙ lines_are log b.moves lines e));
  };
}
  where
    client : b.client ≡ a.client
    client = ap (λ (s : Seat). s.client) on.seat

    moves : d.moves ≡ b.moves
    moves = ap (λ (s : Seat). s.moves) moved.seat

-- and of all its lines, so that the next move is the next to be read
pub reads_next : (log : List Logged) (lines : List Event) (a d : Seat) → HasReadOn log a d → d.moves < length log → events_at log d.moves ≡ Some lines → d.lines ≡ length lines
    → HasReadOn log a (record d { moves = d.moves + 1; lines = 0 })
reads_next log lines a d on inside e done = record {
  seat = ap (λ (s : Seat). record s { moves = d.moves + 1; lines = 0 }) on.seat;
  moves = omega (arith, on.moves);
  due = λ before. on.due before ∙ ap (λ (list : List Event). replies_in a.client list) (next_lines log lines d.moves d.lines e done);
  cursor = λ before. record { inside = omega (arith, inside); within = omega arith };
}

none_taken : (n : ℕ) → ◌≡◌ {A = List Event} (take n []) []
none_taken zero = refl
none_taken (suc n) = refl

-- where all moves were read, so were all lines
pub all_lines : (log : List Logged) (moves lines : ℕ) → length log ≤ moves → lines_up_to log moves lines ≡ lines_of log
all_lines [] zero lines past = none_taken lines
all_lines [] (suc moves) lines past = none_taken lines
all_lines (entry ∷ rest) zero lines past = absurd (omega (arith, past))
all_lines (entry ∷ rest) (suc moves) lines past =
    append_assoc entry.events (lines_of (take moves rest)) (take lines (lines_at rest moves))
    ∙ ap (λ (list : List Event). entry.events ++ list) (all_lines rest moves lines (omega (arith, past)))

pub reads_all : (log : List Logged) (a b : Seat) → IsCursor log a.moves a.lines → HasReadOn log a b → length log ≤ b.moves → ReadsAll log a b
reads_all log a b cursor on past =
    let inside = (on.cursor cursor).inside in
    record {
      due = λ before. on.due before ∙ ap (replies_in a.client) (all_lines log b.moves b.lines past);
      moves = omega (arith, inside, past);
    }
