use Rattle.std.proofs.Common.{◌≡◌, ◌++◌, take, flat_map}
use Rattle.lt_script.specs.Printing.{ended_line, set_words}
use Rattle.lt_script.proofs.printing.push_sets.Given as goal

-- the sets so far are written
abbrev pub invariant-loop-set : goal.invariant-loop-set
invariant-loop-set l = l.out.items ≡ l.fn.out.items ++ flat_map (λ x. ended_line (set_words l.script.sets x)) (take l.set-index l.script.sets)
