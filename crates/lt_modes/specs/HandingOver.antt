-- Handing over: which ask draws the desk to its node, and how the desk goes there, in a letter.
use Rattle.std.specs.Prelude.{Bool, ◌||◌, ◌&&◌, ◌==◌, ℕ, List, if◌then◌else◌, not, ◌+◌, [], ◌∷◌, Option, Some, None}
use Rattle.lt_modes.specs.declared.stamp.Stamp.{Stamp}
use Rattle.lt_modes.specs.State.{Desk, Entry, entry_of, SetState, Made, silent, post_of, TokenBody, still_owed}
use Rattle.lt_modes.specs.declared.ask.Ask.{Ask}
use Rattle.lt_modes.specs.declared.event.Event.TheVariants.{Token}
use Rattle.lt_modes.specs.Modes.{Modes, no_modes, with_mode, held_modes}
use Rattle.lt_modes.specs.Telling.{put_entry, stamps_of}
use Rattle.lt_modes.specs.Serving.{is_free, is_clear_at_home, ask_at}

-- the ask is of another node, free, and first in the queue or without conflict at its own node
abbrev pub may_draw : ℕ → SetState → Desk → Modes → ℕ → Ask → Bool
may_draw me s desk before k ask =
    not (ask.node == me) && (is_free me s desk before ask && (k == 0 || is_clear_at_home me s desk ask))

-- the first ask that may draw the desk to its node, of those from place k on
abbrev pub draw_from : ℕ → SetState → Desk → Modes → ℕ → List Ask → Option ℕ
draw_from me s desk before k [] = None
draw_from me s desk before k (ask ∷ rest) =
    if may_draw me s desk before k ask then Some k else draw_from me s desk (with_mode before ask.mode) (k + 1) rest

abbrev pub move_at : ℕ → SetState → Option Desk → Option ℕ
move_at me s None = None
move_at me s (Some desk) = draw_from me s desk no_modes 0 desk.queue

-- the place of the ask to whose node the desk moves, where no service is left
abbrev pub next_draw : ℕ → SetState → Option ℕ
next_draw me s = move_at me s s.desk

-- What is handed over, and what stays.

-- the entry of the node that hands over: what it holds, and what it still waits for
abbrev pub settled : Stamp → SetState → Entry → Entry
settled stamp s entry = record entry {
  reported = held_modes s.held;
  owed = still_owed s.pending entry.owed;
  told_at = stamp;
  pending = stamps_of s.pending;
}

-- the desk as it leaves
abbrev pub leaving : Stamp → SetState → Desk → Desk
leaving stamp s desk =
    record (put_entry desk stamp.node (settled stamp s (entry_of desk stamp.node))) { epoch = desk.epoch + 1 }

-- the node without the desk, which went to node v with this epoch
abbrev pub without_desk : SetState → ℕ → ℕ → SetState
without_desk s v epoch = record s {
  charge = held_modes s.held;
  firm = record { node = v; epoch = epoch };
  hoped = None;
  desk = None;
}

-- the token goes to node v; its letter carries the new link
abbrev pub hand_over_to : ℕ → Stamp → SetState → ℕ → Option Desk → Made
hand_over_to set stamp s v None = silent s
hand_over_to set stamp s v (Some desk) = record {
  state = without_desk s v (desk.epoch + 1);
  posts = post_of set stamp (without_desk s v (desk.epoch + 1)) v (TokenBody (leaving stamp s desk)) ∷ [];
  events = Token set v (desk.epoch + 1) ∷ [];
}

abbrev pub hand_over_for : ℕ → Stamp → SetState → Option ℕ → Made
hand_over_for set stamp s None = silent s
hand_over_for set stamp s (Some k) = hand_over_to set stamp s (ask_at s k).node s.desk

-- the desk goes to the node of the ask that draws it, where there is one
abbrev pub hand_over : ℕ → Stamp → SetState → Made
hand_over set stamp s = hand_over_for set stamp s (next_draw stamp.node s)
