use Rattle.std.proofs.Common.{◌≡◌, ◌≤◌, ◌++◌, take, vec_capacity}
use Rattle.std.specs.List.{flat_map}
use Rattle.lt_letters.specs.Spelling.{ask_bytes}
use Rattle.lt_letters.proofs.writing.put_each_ask.Given as goal

abbrev pub invariant-loop-ask : goal.invariant-loop-ask
invariant-loop-ask l = (l.out.items ≡ l.fn.out.items ++ flat_map ask_bytes (take l.ask-index l.asks)) × (vec_capacity l.fn.out ≤ vec_capacity l.out)
