use Rattle.std.proofs.Common.{refl, codes}
use Rattle.lt_script.specs.declared.one_mode.Verb.TheVariants.{Lock, Try, Unlock}
use Rattle.lt_script.proofs.OneModeLemmas.{verb_cut}
use Rattle.lt_script.proofs.one_mode.first_verb.Goals as goal

pub returns-in-Some : goal.returns-in-Some
returns-in-Some c = let cut = c.in-Some.ensures.cases in verb_cut Lock (codes "lock ") c.args.line.now c.in-Some.rest.now refl cut.0 cut.1

pub returns-in-Some-strip_prefix : goal.returns-in-Some-strip_prefix
returns-in-Some-strip_prefix c =
    let cut = c.in-Some-strip_prefix.ensures.cases in verb_cut Unlock (codes "unlock ") c.args.line.now c.in-Some-strip_prefix.rest.now refl cut.0 cut.1

pub returns-in-Some-strip_prefix-2 : goal.returns-in-Some-strip_prefix-2
returns-in-Some-strip_prefix-2 c =
    let cut = c.in-Some-strip_prefix-2.ensures.cases in verb_cut Try (codes "try ") c.args.line.now c.in-Some-strip_prefix-2.rest.now refl cut.0 cut.1
