-- What was done from both ends, one after the other.
use Rattle.lt_mail.proofs.BothLemmas.{all_met}
use Rattle.lt_mail.proofs.both_ends.meet.Goals as goal

pub returns-clause-met : goal.returns-clause-met
returns-clause-met c =
    (all_met c.args.out.now c.see_places.new.out c.flush_on.new.self c.see_letters.new.out c.args.into.now c.see_places.new.into
    c.see_letters.new.into c.args.to c.args.from c.see_places.ensures.out c.see_places.ensures.into c.see_places.ensures.places
    c.flush_on.ensures.lane c.see_letters.ensures.out c.see_letters.ensures.into c.see_letters.ensures.letters).0

pub returns-clause-out : goal.returns-clause-out
returns-clause-out c =
    (all_met c.args.out.now c.see_places.new.out c.flush_on.new.self c.see_letters.new.out c.args.into.now c.see_places.new.into
    c.see_letters.new.into c.args.to c.args.from c.see_places.ensures.out c.see_places.ensures.into c.see_places.ensures.places
    c.flush_on.ensures.lane c.see_letters.ensures.out c.see_letters.ensures.into c.see_letters.ensures.letters).1

pub returns-clause-into : goal.returns-clause-into
returns-clause-into c =
    (all_met c.args.out.now c.see_places.new.out c.flush_on.new.self c.see_letters.new.out c.args.into.now c.see_places.new.into
    c.see_letters.new.into c.args.to c.args.from c.see_places.ensures.out c.see_places.ensures.into c.see_places.ensures.places
    c.flush_on.ensures.lane c.see_letters.ensures.out c.see_letters.ensures.into c.see_letters.ensures.letters).2
