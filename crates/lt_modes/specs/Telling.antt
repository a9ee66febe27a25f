-- Telling: what a node tells the desk, and what a tell changes in the entry of its node.
use Rattle.std.specs.Prelude.{Bool, ◌||◌, ◌&&◌, ◌==◌, nat_lt, ℕ, List, if◌then◌else◌, filter, slice_set, map}
use Rattle.std.specs.List.{list_any}
use Rattle.lt_modes.specs.declared.stamp.Stamp.{Stamp}
use Rattle.lt_modes.specs.declared.parts.Owed.{Owed}
use Rattle.lt_modes.specs.State.{Desk, Entry, Tell, entry_of, SetState}
use Rattle.lt_modes.specs.declared.ask.Ask.{Ask}
use Rattle.lt_modes.specs.Modes.{held_modes}

-- the stamps of asks
abbrev pub stamps_of : List Ask → List Stamp
stamps_of asks = map (λ (ask : Ask). ask.stamp) asks

-- what the node tells: its held modes and its unanswered asks
abbrev pub tell_of : Stamp → SetState → Tell
tell_of stamp s =
    record { node = stamp.node; modes = held_modes s.held; pending = stamps_of s.pending; stamp = stamp }

-- Which stamp is newer, and which asks may still be unanswered after a tell.

-- the first stamp is greater: by clock, then by node
abbrev pub is_newer : Stamp → Stamp → Bool
is_newer a b = nat_lt b.clock a.clock || (a.clock == b.clock && nat_lt b.node a.node)

abbrev pub same_stamp : Stamp → Stamp → Bool
same_stamp a b = a.clock == b.clock && a.node == b.node

abbrev pub is_listed : List Stamp → Stamp → Bool
is_listed stamps stamp = list_any (same_stamp stamp) stamps

-- the ask with this stamp may still be unanswered: it is in the list, or it was made later
abbrev pub is_open : List Stamp → Stamp → Stamp → Bool
is_open listed told_at stamp = is_listed listed stamp || is_newer stamp told_at

-- the owed asks that may still be unanswered after the tell
abbrev pub left_owed : Tell → List Owed → List Owed
left_owed tell owed = filter (λ (copy : Owed). is_open tell.pending tell.stamp copy.stamp) owed

-- What a tell changes.

-- the entry after a tell of its node; one that isn't newer changes nothing
abbrev pub told : Tell → Entry → Entry
told tell entry =
    if is_newer tell.stamp entry.told_at
    then record entry {
      reported = tell.modes;
      owed = left_owed tell entry.owed;
      told_at = tell.stamp;
      pending = tell.pending;
    }
    else entry

-- the desk with this entry for node x
abbrev pub put_entry : Desk → ℕ → Entry → Desk
put_entry desk x entry = record desk { entries = slice_set desk.entries x entry }

-- the desk after a tell
abbrev pub tell_applied : Tell → Desk → Desk
tell_applied tell desk = put_entry desk tell.node (told tell (entry_of desk tell.node))
