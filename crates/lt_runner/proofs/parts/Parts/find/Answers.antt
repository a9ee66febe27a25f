-- A look, and then what is shown.
use Rattle.std.proofs.Common.{◌∙◌, sym, arith}
use Rattle.lt_runner.proofs.KeptLemmas.{kept_resting, seen_resting}
use Rattle.lt_runner.proofs.TurnLemmas.{choice_lasts, full_found, move_found}
use Rattle.lt_runner.proofs.parts.Parts.find.Goals as goal

pub look-requires : goal.look-requires
look-requires c = c.requires

pub choose-requires : goal.choose-requires
choose-requires c = c.look.ensures.kept

pub returns-in-Nothing-clause-kept : goal.returns-in-Nothing-clause-kept
returns-in-Nothing-clause-kept c = kept_resting c.look.new.self c.look.ensures.kept (sym c.choose.ensures ∙ c.in-Nothing.is)

pub returns-in-Nothing-clause-seen : goal.returns-in-Nothing-clause-seen
returns-in-Nothing-clause-seen c = seen_resting c.args.self.now c.look.new.self c.look.ensures.seen

pub returns-in-Nothing-clause-flushed : goal.returns-in-Nothing-clause-flushed
returns-in-Nothing-clause-flushed c = c.look.ensures.flushed

pub returns-in-Nothing-clause-ends : goal.returns-in-Nothing-clause-ends
returns-in-Nothing-clause-ends c = record { choice = sym c.choose.ensures ∙ c.in-Nothing.is; rings = c.look.ensures.rings }

pub returns-in-Nothing-clause-shown : goal.returns-in-Nothing-clause-shown
returns-in-Nothing-clause-shown c = λ some same.
    choice_lasts c.args.self.now c.look.new.self c.look.ensures.seen some (sym c.choose.ensures ∙ c.in-Nothing.is)

pub returns-in_default : goal.returns-in_default
returns-in_default c = record {
  kept = c.look.ensures.kept;
  seen = c.look.ensures.seen;
  flushed = c.look.ensures.flushed;
  ends = record { log = omega (arith, c.look.ensures.kept.bounded); choice = λ none. c.in_default.not-Nothing (c.choose.ensures ∙ none) };
  shown = λ some. full_found;
}

pub returns-in_default-2 : goal.returns-in_default-2
returns-in_default-2 c = record {
  kept = c.look.ensures.kept;
  seen = c.look.ensures.seen;
  flushed = c.look.ensures.flushed;
  ends = (sym c.choose.ensures, record { place = omega arith; choice = λ none. c.in_default-2.not-Nothing (c.choose.ensures ∙ none) });
  shown = λ some. move_found c.choose.result;
}
