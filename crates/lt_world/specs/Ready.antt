-- A world with room for one move.
use Rattle.std.specs.Prelude.{◌≡◌, ◌<◌}
use Rattle.lt_spec.specs.World.{moves_of}
use Rattle.lt_world.specs.declared.choice.Choice.{Choice}
use Rattle.lt_world.specs.declared.reserved.Reserved.{Reserved}
use Rattle.lt_world.specs.declared.world.ready.Parts.{Parts}
use Rattle.lt_world.specs.Fields.{WorldData, AreCounted, AreAtMost, AreTurns, Stands, world_in, IsReserved, step_of}

-- the world, and the move for which there is room
pub record ReadyData : Type 0 where
  pub world : WorldData
  pub choice : Choice

-- what contracts see of the world that these parts make
abbrev pub world_with : Parts → WorldData
world_with p = record { script = p.script; limit = p.limit; run = p.network.run.entries }

-- they make a world, between two moves
abbrev pub AreWorldParts : Parts → Type 0
AreWorldParts p = Stands p.script p.limit p.most p.network.nodes.items p.network.inboxes p.moves.items p.turns p.network.out p.network.run.entries

-- there is room in them for the move
pub record HasRoomToMove (p : Parts) (choice : Choice) (reserved : Reserved) : Type 0 where
  pub reserved_for : IsReserved p.script p.network choice.node reserved
  pub step_is : step_of reserved ≡ choice.step
  pub below : moves_of choice.node p.network.run.entries < p.limit
  pub counted : AreCounted p.script p.limit p.moves.items p.network.run.entries
  pub at_most : AreAtMost p.script p.most p.network.run.entries
  pub acts : AreTurns p.script p.turns (world_in p.script p.network)
