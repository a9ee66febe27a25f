use Rattle.std.proofs.Common.{◌≡◌}
use Rattle.lt_spec.specs.World.{start}
use Rattle.lt_threads.specs.Threads.{StaysWithin}
use Rattle.lt_serve.specs.Endings.{StopsInTime}
use Rattle.lt_serve.specs.Schedules.{AreInOrder}
use Rattle.lt_serve.proofs.Ordered.{schedule_after}
use Rattle.lt_serve.proofs.Rooms.{room_left}
use Rattle.lt_serve.proofs.simulation.make_moves.Given as goal

abbrev pub invariant-loop-schedule : goal.invariant-loop-schedule
invariant-loop-schedule l = record {
  script : l.world.script ≡ l.initial.world.script;
  limit : l.world.limit ≡ l.initial.world.limit;
  within : StaysWithin l.world.limit l.world.script l.world.run;
  in_time : StopsInTime l.world.limit l.world.script l.world.run;
  in_order : AreInOrder l.initial.schedule l.world.script l.world.run;
  schedule : l.schedule ≡ schedule_after l.world.script (start l.world.script) l.initial.schedule l.world.run;
}

abbrev pub decreases-loop-schedule : goal.decreases-loop-schedule
decreases-loop-schedule l = room_left l.world.script l.world.limit l.world.run
