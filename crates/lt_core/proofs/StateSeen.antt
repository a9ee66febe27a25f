-- The core and the state of its set, as contracts see them, in terms of what the core keeps.
use Rattle.std.proofs.Common.{◌-◌, map, deque_len, deque_capacity}
use Rattle.lt_modes.specs.State.{SetState}
use Rattle.lt_desk.specs.LetterSeen.{parked_seen}
use Rattle.lt_core.specs.CoreData.{CoreData, desk_seen, room_by, tells_by}
use Rattle.lt_core.specs.declared.one_set.Core.TheInside.{Inside}

-- the state of the set
abbrev pub state_of : Inside → SetState
state_of core = record {
  held = core.held.rows;
  charge = core.charge;
  frozen = core.frozen;
  number = core.number;
  firm = core.links.firm;
  hoped = core.links.hoped;
  pending = core.pending;
  parked = map parked_seen core.parked.items;
  desk = desk_seen core.desk;
  gone = core.marks.clients;
}

-- the whole core
abbrev pub core_of : Inside → CoreData
core_of core = record {
  node = core.links.me;
  set = core.set;
  state = state_of core;
  room = room_by core.desk core.held.spare;
  row_room = core.held.spare;
  parked_room = deque_capacity core.parked - deque_len core.parked;
  tell_room = tells_by core.spare;
  mark_room = core.marks.room;
}
