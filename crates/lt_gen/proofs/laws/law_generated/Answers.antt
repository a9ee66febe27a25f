use Rattle.lt_gen.proofs.MadeScript.{is_script, is_short, has_sizes}
use Rattle.lt_gen.specs.Generator.{script_of}
use Rattle.lt_gen.proofs.laws.law_generated.Goals as goal

pub returns-clause-script : goal.returns-clause-script
returns-clause-script c = is_script

pub returns-clause-short : goal.returns-clause-short
returns-clause-short c = is_short

pub returns-clause-sizes : goal.returns-clause-sizes
returns-clause-sizes c = has_sizes

pub returns-clause-read_back : goal.returns-clause-read_back
returns-clause-read_back c = λ version nodes clients commands seed can. c.law_print.ensures (script_of version nodes clients commands seed) (is_script version nodes clients commands seed can) (is_short version nodes clients commands seed can)
