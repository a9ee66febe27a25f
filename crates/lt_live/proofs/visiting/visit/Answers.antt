-- The station that is given back is the one that was claimed, after its turn.
use Rattle.lt_live.proofs.Settling.{turns_on}
use Rattle.lt_live.proofs.visiting.visit.Goals as goal

pub give-requires-clause-item : goal.give-requires-clause-item
give-requires-clause-item g c =
    turns_on c.args.pool.now.firsts c.args.node c.in-Ok.station c.turn-turned.new.self c.in-Ok.ensures.item c.turn-turned.ensures.goes_on c.turn-turned.ensures.seated

pub returns-clause-turned : goal.returns-clause-turned
returns-clause-turned g c = record {
  before = c.in-Ok.station;
  after = c.turn-turned.new.self;
  claimed = c.in-Ok.ensures.item;
  turns = c.turn-turned.ensures.turns;
  given = turns_on c.args.pool.now.firsts c.args.node c.in-Ok.station c.turn-turned.new.self c.in-Ok.ensures.item c.turn-turned.ensures.goes_on
      c.turn-turned.ensures.seated;
}
