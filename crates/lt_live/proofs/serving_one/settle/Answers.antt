-- One session after the other.
use Rattle.std.proofs.Common.{◌<◌, arith, sym, subst}
use Rattle.std.proofs.lemmas.Option.{slice_get_within}
use Rattle.lt_runner.specs.declared.parts.Parts.{Parts}
use Rattle.lt_live.specs.Live.{SaysSame, ServedBy}
use Rattle.lt_live.proofs.SeatLists.{alike_len}
use Rattle.lt_live.proofs.OpensHere.{next_settled}
use Rattle.lt_live.proofs.serving_one.settle.Goals as goal

pub settle_one-requires-clause-inside : goal.settle_one-requires-clause-inside
settle_one-requires-clause-inside c =
    omega (arith, c.loop-place-test.true, alike_len SaysSame c.args.sessions.now c.loop-place.sessions c.loop-place.invariant.each)

pub loop-place-preserved : goal.loop-place-preserved
loop-place-preserved c =
    next_settled c.loop-place.place c.args.station.now c.loop-place.station c.settle_one.new.station c.args.sessions.now c.loop-place.sessions
    c.settle_one.new.sessions c.loop-place.invariant c.settle_one.ensures

pub returns-clause-served : goal.returns-clause-served
returns-clause-served c = λ k s e.
    let h = c.loop-place.invariant in
    let below : k < c.loop-place.place = omega (
      arith,
      slice_get_within c.loop-place.sessions k s e,
      c.loop-place-test.false,
      alike_len SaysSame c.args.sessions.now c.loop-place.sessions h.each,
    ) in
    subst (λ (p : Parts). ServedBy p s.client s) (sym h.runner) (h.served k s below e)
