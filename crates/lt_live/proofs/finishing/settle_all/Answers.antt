-- One session after the other.
use Rattle.std.proofs.Common.{arith}
use Rattle.lt_live.specs.Live.{SaysSame}
use Rattle.lt_live.proofs.OwnCommands.{none_own, next_own, all_own}
use Rattle.lt_live.proofs.SeatLists.{alike_len}
use Rattle.lt_live.proofs.Settling.{none_settled, next_settled, all_settled}
use Rattle.lt_live.proofs.finishing.settle_all.Goals as goal

pub loop-client-init : goal.loop-client-init
loop-client-init c = record {
  settling = λ script live. none_settled script c.args.stations.now.items c.args.sessions.now.items live;
  own = λ script live. none_own script c.args.stations.now.items c.args.sessions.now.items;
}

pub settle_at-requires-clause-live : goal.settle_at-requires-clause-live
settle_at-requires-clause-live c = (c.requires.0, (c.loop-client.invariant.settling c.requires.0 c.requires.1).live)

pub loop-client-preserved : goal.loop-client-preserved
loop-client-preserved c = record {
  settling = λ script live.
      let before = c.loop-client.invariant.settling script live in
      next_settled script c.loop-client.client c.args.stations.now.items c.loop-client.stations.items c.settle_at.new.stations.items
      c.args.sessions.now.items c.loop-client.sessions.items c.settle_at.new.sessions.items before (c.settle_at.ensures.settles script before.live);
  own = λ script live.
      let before = c.loop-client.invariant.settling script live in
      next_own script c.loop-client.client c.args.stations.now.items c.loop-client.stations.items c.settle_at.new.stations.items
      c.args.sessions.now.items c.loop-client.sessions.items before (c.loop-client.invariant.own script live) (c.settle_at.ensures.own script before.live);
}

pub returns-clause-settled : goal.returns-clause-settled
returns-clause-settled c = λ script live.
    let before = c.loop-client.invariant.settling script live in
    all_settled script c.loop-client.client c.args.stations.now.items c.loop-client.stations.items c.args.sessions.now.items c.loop-client.sessions.items
    (omega (arith, c.loop-client-test.false, alike_len SaysSame c.args.sessions.now.items c.loop-client.sessions.items before.each)) before

pub returns-clause-own : goal.returns-clause-own
returns-clause-own c = λ script live.
    let before = c.loop-client.invariant.settling script live in
    all_own script c.loop-client.client c.args.stations.now.items c.loop-client.stations.items c.args.sessions.now.items
    (omega (arith, c.loop-client-test.false, alike_len SaysSame c.args.sessions.now.items c.loop-client.sessions.items before.each)) (c.loop-client.invariant.own script live)
