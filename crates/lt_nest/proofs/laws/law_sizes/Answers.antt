use Rattle.lt_nest.proofs.NestStays.{asked_sets, commit_sizes, abort_sizes}
use Rattle.lt_nest.proofs.laws.law_sizes.Goals as goal

pub returns : goal.returns
returns c = record {
  asks = asked_sets;
  commits = commit_sizes;
  aborts = abort_sizes;
}
