-- The two rings of one node.
use Rattle.lt_apart.proofs.Looking.{LookedTo, LookedFrom, looks_at_one, linked_from}
use Rattle.lt_apart.proofs.telling.look_at_ring.Goals as goal

pub meet_taker-requires : goal.meet_taker-requires
meet_taker-requires c = c.requires.ends.out c.args.node c.requires.below

pub meet_sender-requires : goal.meet_sender-requires
meet_sender-requires c =
    let to : LookedTo c.args.node c.args.station.now c.meet_taker.new.self c.args.far.now c.meet_taker.new.far = record {
      looks = c.meet_taker.ensures.looks;
      seats = c.meet_taker.ensures.seats;
      ends = c.meet_taker.ensures.far_ends;
      outs = c.meet_taker.ensures.far_outs;
      given_stays = c.meet_taker.ensures.far_taken;
      others = c.meet_taker.ensures.far_others;
      whole = c.meet_taker.ensures.whole;
    } in
    linked_from c.args.node c.args.station.now c.meet_taker.new.self c.args.far.now c.meet_taker.new.far to c.requires.ends c.requires.below

pub returns : goal.returns
returns c =
    let to : LookedTo c.args.node c.args.station.now c.meet_taker.new.self c.args.far.now c.meet_taker.new.far = record {
      looks = c.meet_taker.ensures.looks;
      seats = c.meet_taker.ensures.seats;
      ends = c.meet_taker.ensures.far_ends;
      outs = c.meet_taker.ensures.far_outs;
      given_stays = c.meet_taker.ensures.far_taken;
      others = c.meet_taker.ensures.far_others;
      whole = c.meet_taker.ensures.whole;
    } in
    let from : LookedFrom c.args.node c.meet_taker.new.self c.meet_sender.new.self c.meet_taker.new.far c.meet_sender.new.far = record {
      looks = c.meet_sender.ensures.looks;
      seats = c.meet_sender.ensures.seats;
      ends = c.meet_sender.ensures.far_ends;
      ins = c.meet_sender.ensures.far_ins;
      brought_stays = c.meet_sender.ensures.far_sent;
      others = c.meet_sender.ensures.far_others;
      whole = c.meet_sender.ensures.whole;
    } in
    looks_at_one c.args.node c.args.station.now c.meet_taker.new.self c.meet_sender.new.self c.args.far.now c.meet_taker.new.far
    c.meet_sender.new.far to from
