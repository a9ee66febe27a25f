use Rattle.std.proofs.Common.{◌≡◌, drop}
use Rattle.std.specs.List.{list_any}
use Rattle.lt_modes.specs.declared.mode.TheConstants.{MODES}
use Rattle.lt_spec.specs.Holdings.{holds_against}
use Rattle.lt_world.specs.Fields.{world_of, bars_by_lock}
use Rattle.lt_world.proofs.world.World.holds_against.Given as goal

abbrev pub invariant-loop-own : goal.invariant-loop-own
invariant-loop-own l =
    list_any (bars_by_lock l.self l.set l.mode l.client) (drop l.own-index MODES)
    ≡ holds_against l.self.script (world_of l.self) l.set l.mode l.client
