-- A look, and then what is shown.
use Rattle.std.proofs.Common.{◌∙◌, sym, arith}
use Rattle.lt_runner.proofs.KeptLemmas.{kept_resting, seen_resting}
use Rattle.lt_runner.proofs.TurnLemmas.{choice_lasts, full_found, move_found}
use Rattle.lt_runner.proofs.parts.Parts.find_telling.Goals as goal

pub look_telling-sent-requires : goal.look_telling-sent-requires
look_telling-sent-requires c = c.requires

pub choose-requires : goal.choose-requires
choose-requires c = c.look_telling-sent.ensures.kept

pub returns-in-Nothing-clause-kept : goal.returns-in-Nothing-clause-kept
returns-in-Nothing-clause-kept c = kept_resting c.look_telling-sent.new.self c.look_telling-sent.ensures.kept (sym c.choose.ensures ∙ c.in-Nothing.is)

pub returns-in-Nothing-clause-seen : goal.returns-in-Nothing-clause-seen
returns-in-Nothing-clause-seen c = seen_resting c.args.self.now c.look_telling-sent.new.self c.look_telling-sent.ensures.seen

pub returns-in-Nothing-clause-flushed : goal.returns-in-Nothing-clause-flushed
returns-in-Nothing-clause-flushed c = c.look_telling-sent.ensures.flushed

pub returns-in-Nothing-clause-ends : goal.returns-in-Nothing-clause-ends
returns-in-Nothing-clause-ends c = record { choice = sym c.choose.ensures ∙ c.in-Nothing.is; rings = c.look_telling-sent.ensures.rings }

pub returns-in-Nothing-clause-shown : goal.returns-in-Nothing-clause-shown
returns-in-Nothing-clause-shown c = λ some same.
    choice_lasts c.args.self.now c.look_telling-sent.new.self c.look_telling-sent.ensures.seen some (sym c.choose.ensures ∙ c.in-Nothing.is)

pub returns-in_default : goal.returns-in_default
returns-in_default c = record {
  kept = c.look_telling-sent.ensures.kept;
  seen = c.look_telling-sent.ensures.seen;
  flushed = c.look_telling-sent.ensures.flushed;
  ends = record { log = omega (arith, c.look_telling-sent.ensures.kept.bounded); choice = λ none. c.in_default.not-Nothing (c.choose.ensures ∙ none) };
  shown = λ some. full_found;
  sent = c.look_telling-sent.ensures.sent;
}

pub returns-in_default-2 : goal.returns-in_default-2
returns-in_default-2 c = record {
  kept = c.look_telling-sent.ensures.kept;
  seen = c.look_telling-sent.ensures.seen;
  flushed = c.look_telling-sent.ensures.flushed;
  ends = (sym c.choose.ensures, record { place = omega arith; choice = λ none. c.in_default-2.not-Nothing (c.choose.ensures ∙ none) });
  shown = λ some. move_found c.choose.result;
  sent = c.look_telling-sent.ensures.sent;
}

pub returns-in-Nothing-clause-sent : goal.returns-in-Nothing-clause-sent
returns-in-Nothing-clause-sent c = c.look_telling-sent.ensures.sent
