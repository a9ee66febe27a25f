-- The sessions of the first clients are settled, and have all that they submitted.
use Rattle.lt_modes.specs.Script.{ScriptData}
use Rattle.lt_live.specs.Live.{AreLive, Settling, HaveOwnCommands}
use Rattle.lt_live.proofs.finishing.settle_all.Given as goal

abbrev pub invariant-loop-client : goal.invariant-loop-client
invariant-loop-client l = record {
  settling : (script : ScriptData) → AreLive script l.initial.stations.items l.initial.sessions.items
      → Settling script l.client l.initial.stations.items l.initial.sessions.items l.stations.items l.sessions.items;
  own : (script : ScriptData) → AreLive script l.initial.stations.items l.initial.sessions.items
      → HaveOwnCommands script l.client l.initial.stations.items l.initial.sessions.items l.stations.items;
}
