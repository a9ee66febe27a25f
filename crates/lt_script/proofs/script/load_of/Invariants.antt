use Rattle.std.proofs.Common.{◌≡◌, ◌≤◌, take}
use Rattle.lt_spec.specs.Script.{load_of}
use Rattle.lt_script.proofs.script.load_of.Given as goal

-- the clients so far are counted
abbrev pub invariant-loop-client : goal.invariant-loop-client
invariant-loop-client l = record {
  load : l.load ≡ load_of (take l.client-index l.clients) l.node;
  few : l.load ≤ l.client-index;
}
