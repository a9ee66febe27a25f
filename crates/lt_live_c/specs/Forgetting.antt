-- What a call that lets a station forget does.
use Rattle.std.specs.Prelude.{◌≡◌, ◌⊎◌, ℕ, length}
use Rattle.lt_runner.specs.declared.parts.Parts.{Parts}
use Rattle.lt_live.specs.Stations.{StationData}
use Rattle.lt_live_c.specs.declared.code.TheConstants.{OK, NO_MEMORY}

-- the runner is the same, with the same moves and the same script, but that more of these may be forgotten
pub record RunnerForgets (a b : Parts) : Type 0 where
  pub rest : b ≡ record a { log = b.log; node = record a.node { gone = b.node.gone } }
  pub moves : b.log.entries ≡ a.log.entries

-- all moves and all commands are forgotten; without memory no command is
pub record ForgetsStation (code : ℕ) (a b : StationData) : Type 0 where
  pub runner : RunnerForgets a.runner b.runner
  pub moves : code ≡ OK → b.runner.log.gone ≡ length a.runner.log.entries
  pub commands : code ≡ OK → b.runner.node.gone ≡ length a.runner.node.script.commands
  pub kept : code ≡ NO_MEMORY → b.runner.node.gone ≡ a.runner.node.gone
  pub only : (code ≡ OK) ⊎ (code ≡ NO_MEMORY)
