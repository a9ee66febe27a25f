use Rattle.std.proofs.Common.{◌≡◌, ◌==◌, ◌&&◌, drop}
use Rattle.std.specs.List.{list_any}
use Rattle.lt_modes.specs.Modes.{excludes_itself}
use Rattle.lt_modes.specs.Telling.{is_newer}
use Rattle.lt_modes.specs.declared.ask.Ask.{Ask}
use Rattle.lt_core.proofs.one_set.Core.has_older.Given as goal

abbrev pub invariant-loop-k : goal.invariant-loop-k
invariant-loop-k l =
    list_any (λ (older : Ask). older.client == l.other && (excludes_itself older.mode && is_newer l.ask.stamp older.stamp)) (drop l.k l.asks)
    ≡ list_any (λ (older : Ask). older.client == l.other && (excludes_itself older.mode && is_newer l.ask.stamp older.stamp)) l.asks
