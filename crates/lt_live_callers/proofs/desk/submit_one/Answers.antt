-- The command was submitted, or came back since the ring had no place.
use Rattle.std.proofs.Common.{List, [], ◌∷◌, ◌++◌, Some, length, sym, ap, ◌∙◌, arith, append-nil}
use Rattle.lt_modes.specs.declared.command.Command.{Command}
use Rattle.lt_live.specs.Words.{submitted}
use Rattle.lt_live_callers.proofs.Steps.{names_same, names_more}
use Rattle.lt_live_callers.proofs.desk.submit_one.Goals as goal

pub returns-in-Ok : goal.returns-in-Ok
returns-in-Ok c =
    let made = c.in-Ok.ensures in
    record {
      same = made.same;
      replies = made.replies;
      submitted = append-nil (submitted c.submit.new.self) ∙ made.ok.0;
      names = names_more c.args.session.now c.submit.new.self c.args.command made.same made.ok.0
          (c.may_submit.ensures.targets c.if-may_submit.true) (c.may_submit.ensures.modes c.if-may_submit.true);
      back = λ held is. absurd (cc);
      barred = λ held is. absurd (cc);
    }

pub returns-in-Err : goal.returns-in-Err
returns-in-Err c =
    let made = c.in-Err.ensures in
    let capacity = made.same.commands.1 in
    let count = ap (λ (list : List Command). length list) made.back.1 in
    let full = made.full in
    record {
      same = made.same;
      replies = made.replies;
      submitted = ap (λ (list : List Command). list ++ c.in-Err.back ∷ []) made.back.1
          ∙ ap (λ (command : Command). submitted c.args.session.now ++ command ∷ []) made.back.0;
      names = names_same c.args.session.now c.submit.new.self made.same made.back.1;
      back = λ held is. ap Some (sym made.back.0) ∙ is;
      barred = λ held is can. let place = can.place in absurd (omega (arith, full, place, capacity, count));
    }
