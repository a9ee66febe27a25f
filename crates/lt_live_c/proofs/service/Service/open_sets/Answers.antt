-- What was opened of the text's script with further sets, or why nothing was.
use Rattle.std.proofs.Common.{map, sym, ◌∙◌}
use Rattle.lt_live_c.specs.NewSets.{words_of_set}
use Rattle.lt_live_c.specs.declared.code.TheConstants.{BAD_ARGUMENT}
use Rattle.lt_live_c.proofs.Fitting.{limit_fits, places_fit, length_fits}
use Rattle.lt_live_c.proofs.Unopened.{opened_with, not_opened_with, unfit, without_sets}
use Rattle.lt_live_c.proofs.service.Service.open_sets.Goals as goal

pub returns-then-not-fits-clause-refused : goal.returns-then-not-fits-clause-refused
returns-then-not-fits-clause-refused c =
    without_sets c.args.text.now c.args.limit c.args.places (map words_of_set c.args.sets.now) BAD_ARGUMENT
    (unfit c.args.text.now c.args.limit c.args.places (sym c.fits.ensures ∙ c.if-not-fits.true))

pub script_of-requires : goal.script_of-requires
script_of-requires c = length_fits c.args.text.now c.args.limit c.args.places (sym c.fits.ensures ∙ c.if-not-fits.false)

pub start-requires-clause-limit : goal.start-requires-clause-limit
start-requires-clause-limit c =
    limit_fits c.args.text.now c.args.limit c.args.places (sym c.fits.ensures ∙ c.if-not-fits.false)

pub start-requires-clause-places : goal.start-requires-clause-places
start-requires-clause-places c =
    places_fit c.args.text.now c.args.limit c.args.places (sym c.fits.ensures ∙ c.if-not-fits.false)

pub returns-clause-opened : goal.returns-clause-opened
returns-clause-opened c =
    opened_with c.args.text.now c.args.limit c.args.places (map words_of_set c.args.sets.now) _ _ c.start.result
    c.in_ok-script.ensures.read c.in_ok-whole.ensures.sets c.start.ensures.opened

pub returns-clause-refused : goal.returns-clause-refused
returns-clause-refused c =
    not_opened_with c.args.text.now c.args.limit c.args.places (map words_of_set c.args.sets.now) c.start.result
    (sym c.fits.ensures ∙ c.if-not-fits.false) c.start.ensures.refused
