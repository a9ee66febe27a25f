use Rattle.lt_script.proofs.OneModeLemmas.{one_mode_asked}
use Rattle.lt_script.proofs.one_mode.one_mode.Goals as goal

pub returns : goal.returns
returns c =
    one_mode_asked c.in-Some.verb c.in-Some-next_word.set.now c.in-Some-from_word.mode c.args.line.now c.in-Some.rest.now c.in-Some-next_word.mode.now
    c.in-Some.ensures c.in-Some-next_word.ensures.words c.in-Some-from_word.ensures.found
