use Rattle.std.proofs.Common.{◌≡◌, ◌++◌, [], length}
use Rattle.lt_nest.specs.Calls.{NestState}
use Rattle.lt_nest_lines.specs.Play.{grants_text}
use Rattle.lt_nest_lines.proofs.play.push_grants.Given as goal

abbrev pub without_grants : NestState → NestState
without_grants st = record st { grants = [] }

abbrev pub invariant-loop-x : goal.invariant-loop-x
invariant-loop-x l = record {
  nest : without_grants l.nest ≡ without_grants l.fn.nest;
  text : l.out.items ++ grants_text l.input l.numbers l.nest.grants ≡ l.fn.out.items ++ grants_text l.input l.numbers l.fn.nest.grants;
}

abbrev pub decreases-loop-x : goal.decreases-loop-x
decreases-loop-x l = length l.nest.grants
