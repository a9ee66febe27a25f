-- The next letter went out, or why none did.
use Rattle.std.proofs.Common.{◌≡◌, ◌<◌, ◌+◌, ℕ, Err, inr, length, subst, sym, ap, arith, rules, slice_set}
use Rattle.lt_modes.specs.Script.{ScriptData}
use Rattle.lt_desk.specs.LetterSeen.{letter_seen}
use Rattle.lt_frames.specs.declared.fault.WriteError.{WriteError}
use Rattle.lt_frames.specs.declared.fault.WriteError.TheVariants as errors
use Rattle.lt_mail.specs.Words.{taken_from, known_from}
use Rattle.lt_apart.specs.Remote.{HasFarEnds}
use Rattle.lt_apart.proofs.GivenOut.{met_far, taken_far, next_number, no_number, too_long, same_error, first_is, gave_one}
use Rattle.lt_apart.proofs.giving.give_next.Goals as goal

pub returns-then-number-clause-far : goal.returns-then-number-clause-far
returns-then-number-clause-far c =
    met_far c.args.wire.to c.args.station.now.runner c.meet_taker.new.self.runner c.args.ends.now.far c.meet_taker.new.far
    c.args.ends.now.given.items c.args.ends.now.brought.items c.requires.far c.meet_taker.ensures.looks c.meet_taker.ensures.far_ends
    c.meet_taker.ensures.far_outs c.meet_taker.ensures.far_taken

pub returns-then-number-clause-none : goal.returns-then-number-clause-none
returns-then-number-clause-none c = λ _.
    let to = c.args.wire.to in
    let f = c.meet_taker.new.far in
    let number = c.index-number.result.now in
    let n = c.args.station.now.runner.node.script.nodes in
    let is : number ≡ length (taken_from f to) =
    next_number n c.args.ends.now.given.items c.args.ends.now.far f to c.from.result number c.requires.far.given_counts c.requires.peer
    c.from.ensures c.index-number.ensures (c.meet_taker.ensures.far_taken to) in
    let last : number ≡ 18446744073709551615 = search rules in
    inr (no_number (taken_from f to) number is last)

pub returns-in-None-clause-far : goal.returns-in-None-clause-far
returns-in-None-clause-far c =
    met_far c.args.wire.to c.args.station.now.runner c.meet_taker.new.self.runner c.args.ends.now.far c.meet_taker.new.far
    c.args.ends.now.given.items c.args.ends.now.brought.items c.requires.far c.meet_taker.ensures.looks c.meet_taker.ensures.far_ends
    c.meet_taker.ensures.far_outs c.meet_taker.ensures.far_taken

pub returns-in-Err-clause-far : goal.returns-in-Err-clause-far
returns-in-Err-clause-far c =
    met_far c.args.wire.to c.args.station.now.runner c.meet_taker.new.self.runner c.args.ends.now.far c.meet_taker.new.far
    c.args.ends.now.given.items c.args.ends.now.brought.items c.requires.far c.meet_taker.ensures.looks c.meet_taker.ensures.far_ends
    c.meet_taker.ensures.far_outs c.meet_taker.ensures.far_taken

pub returns-in-Err-clause-long : goal.returns-in-Err-clause-long
returns-in-Err-clause-long c = λ e.
    let same : c.in-Err.error ≡ errors.TooLong = same_error c.in-Err.error errors.TooLong e in
    too_long c.args.wire.to c.meet_taker.new.self.runner c.meet_taker.new.far (letter_seen c.in-Some.letter.now) c.meet_taker.ensures.whole
    c.in-Some.ensures.some (c.in-Err.ensures.long (ap (λ (x : WriteError). Err x) same))

pub returns-clause-far : goal.returns-clause-far
returns-clause-far c =
    let to = c.args.wire.to in
    let f = c.meet_taker.new.far in
    let number = c.index-number.result.now in
    let given = c.args.ends.now.given.items in
    let brought = c.args.ends.now.brought.items in
    let p = c.meet_taker.new.self.runner in
    let n = c.args.station.now.runner.node.script.nodes in
    let is : number ≡ length (taken_from f to) =
    next_number n c.args.ends.now.given.items c.args.ends.now.far f to c.from.result number c.requires.far.given_counts c.requires.peer
    c.from.ensures c.index-number.ensures (c.meet_taker.ensures.far_taken to) in
    let below : to < p.node.script.nodes = omega (arith, c.requires.peer, ap (λ (s : ScriptData). s.nodes) c.meet_taker.ensures.looks.seen.same.script) in
    let met : HasFarEnds p f given brought =
    met_far to c.args.station.now.runner p c.args.ends.now.far f given brought c.requires.far c.meet_taker.ensures.looks
    c.meet_taker.ensures.far_ends c.meet_taker.ensures.far_outs c.meet_taker.ensures.far_taken in
    subst (λ (place : ℕ). HasFarEnds p c.take_next.new.self (slice_set given place (number + 1)) brought) (sym c.from-2.ensures)
    (taken_far to number p f c.take_next.new.self given brought (letter_seen c.take_next.result) met below is c.take_next.ensures.ends
    c.take_next.ensures.outs c.take_next.ensures.taken)

pub returns-clause-gives : goal.returns-clause-gives
returns-clause-gives c =
    let to = c.args.wire.to in
    let f = c.meet_taker.new.far in
    let number = c.index-number.result.now in
    let n = c.args.station.now.runner.node.script.nodes in
    let is : number ≡ length (taken_from f to) =
    next_number n c.args.ends.now.given.items c.args.ends.now.far f to c.from.result number c.requires.far.given_counts c.requires.peer
    c.from.ensures c.index-number.ensures (c.meet_taker.ensures.far_taken to) in
    let first = letter_seen c.in-Some.letter.now in
    let letter = letter_seen c.take_next.result in
    gave_one c.args.key.now c.args.wire c.args.ends.now.far f c.take_next.new.self c.args.out.now.items c.write_frame.new.out.items number first
    letter (c.meet_taker.ensures.far_taken to) c.take_next.ensures.taken is
    (first_is (known_from f to) (known_from c.take_next.new.self to) first letter c.in-Some.ensures.some c.take_next.ensures.known)
    c.in-Ok.ensures.written
