use Rattle.std.proofs.Common.{arith, ◌<◌, length, ap, ◌∙◌}
use Rattle.lt_merge.specs.Merging.{events_at}
use Rattle.lt_live.specs.declared.ends.Seat.{Seat}
use Rattle.lt_live.proofs.ReadLemmas.{reads_move, reads_next, reads_all}
use Rattle.lt_live.proofs.ends.Seat.read_on.Goals as goal

pub returns-in_err-read_move-clause-on : goal.returns-in_err-read_move-clause-on
returns-in_err-read_move-clause-on c =
    let inside : c.loop-self.self.moves < length c.args.log.now.entries = omega (arith, c.loop-self-test.true, c.len.ensures) in
    reads_move c.args.log.now.entries c.events.result.now c.args.self.now c.loop-self.self c.read_move.new.self c.loop-self.invariant inside c.events.ensures
    c.read_move.ensures.reads

pub loop-self-preserved : goal.loop-self-preserved
loop-self-preserved c =
    let log = c.args.log.now.entries in
    let inside : c.loop-self.self.moves < length log = omega (arith, c.loop-self-test.true, c.len.ensures) in
    let on = reads_move log c.events.result.now c.args.self.now c.loop-self.self c.read_move.new.self c.loop-self.invariant inside c.events.ensures c.read_move.ensures.reads in
    let same = ap (λ (s : Seat). s.moves) c.read_move.ensures.reads.seat in
    reads_next log c.events.result.now c.args.self.now c.read_move.new.self on (omega (arith, inside, same)) (ap (events_at log) same ∙ c.events.ensures) c.in_ok-read_move.ensures.all

pub returns-clause-all : goal.returns-clause-all
returns-clause-all c =
    reads_all c.args.log.now.entries c.args.self.now c.loop-self.self c.requires.0 c.loop-self.invariant (omega (arith, c.loop-self-test.false, c.len.ensures))
