use Rattle.lt_script.proofs.LineLemmas.{verb_found, verb_fault}
use Rattle.lt_script.proofs.line.request_with.Goals as goal

pub returns-in-Ok : goal.returns-in-Ok
returns-in-Ok c =
    verb_found c.args.script.now c.args._name.now c.args.set.now c.args.mode.now c.args.verb c.args.client c.in-Ok.set c.in-Ok.mode c.command_of.result c.requires.client c.requires.inside c.in-Ok.ensures
    c.command_of.ensures

pub returns-in-Err : goal.returns-in-Err
returns-in-Err c = verb_fault c.args.script.now c.args._name.now c.args.set.now c.args.mode.now c.args.verb c.args.client c.in-Err.fault c.requires.client c.in-Err.ensures
