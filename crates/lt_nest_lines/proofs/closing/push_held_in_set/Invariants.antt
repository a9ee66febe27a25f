use Rattle.std.proofs.Common.{◌≡◌, ◌++◌, take, flat_map}
use Rattle.lt_nest_lines.specs.Written.{held_text_in_mode}
use Rattle.lt_modes.specs.declared.mode.TheConstants.{MODES}
use Rattle.lt_nest_lines.proofs.closing.push_held_in_set.Given as goal

abbrev pub invariant-loop-mode : goal.invariant-loop-mode
invariant-loop-mode l = l.out.items ≡ l.fn.out.items ++ flat_map (held_text_in_mode l.input l.play l.transaction l.set) (take l.mode-index MODES)
