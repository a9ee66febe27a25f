use Rattle.std.proofs.Common.{◌≡◌, ◌++◌, take, flat_map}
use Rattle.lt_script.specs.Printing.{ended_line, client_words}
use Rattle.lt_script.proofs.printing.push_clients.Given as goal

-- the clients so far are written
abbrev pub invariant-loop-client : goal.invariant-loop-client
invariant-loop-client l = l.out.items ≡ l.fn.out.items ++ flat_map (λ x. ended_line (client_words x)) (take l.client-index l.script.clients)
