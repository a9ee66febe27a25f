use Rattle.lt_live.proofs.Telling.{is_settled}
use Rattle.lt_live.proofs.both_ends.settle.Goals as goal

pub returns : goal.returns
returns c = λ list kept.
    is_settled list c.args.log.now.entries c.args.session.now c.beside.new.session c.args.seat.now c.beside.new.seat kept c.beside.ensures.looks c.beside.ensures.beside
