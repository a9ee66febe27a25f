use Rattle.std.proofs.Common.{◌≡◌, ◌++◌, take, codes, flat_map}
use Rattle.lt_modes.specs.Modes.{word_of}
use Rattle.lt_waits.proofs.edge_lines.push_further_modes.Given as goal

abbrev pub invariant-loop-mode : goal.invariant-loop-mode
invariant-loop-mode l = l.out.items ≡ l.fn.out.items ++ flat_map (λ mode. codes " and " ++ word_of mode) (take l.mode-index l.modes)
