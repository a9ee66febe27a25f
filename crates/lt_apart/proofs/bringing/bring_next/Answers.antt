-- The letter of the frame went into its ring.
use Rattle.std.proofs.Common.{◌≡◌, ◌+◌, ◌++◌, ℕ, [], length, subst, sym, ◌∙◌, slice_set}
use Rattle.lt_desk.specs.LetterSeen.{letter_seen}
use Rattle.lt_mail.specs.Words.{outs_count, sent_to, if_to, SameEnds}
use Rattle.lt_apart.specs.Remote.{AreCounts}
use Rattle.lt_apart.proofs.BroughtIn.{found_is, memory_cause, number_at, all_put, all_ends, counts_put, sent_here, brings_frame}
use Rattle.lt_apart.proofs.bringing.bring_next.Goals as goal

pub returns-then-is_err-clause-cause : goal.returns-then-is_err-clause-cause
returns-then-is_err-clause-cause c =
    let found = found_is c.args.key.now c.args.wire c.args.bytes.now c.index-number.result.now c.in-Ok-Some.field-0 c.in-Ok-Some.frame
    c.in-Ok-Some.field-0-is c.in-Ok-Some.ensures.found in
    memory_cause c.args.key.now c.args.wire c.args.bytes.now c.in-Ok-Some.frame [] found.0

pub returns-clause-counts : goal.returns-clause-counts
returns-clause-counts c =
    let f = c.args.ends.now.far in
    let k = c.flush-2.new.self in
    let from = c.args.wire.from in
    let brought = c.args.ends.now.brought.items in
    let number = c.index-number.result.now in
    let letter = letter_seen c.in-Ok-Some.frame.letter in
    let is : number ≡ length (sent_to f from) = number_at f brought from c.from.result number c.requires.counts c.requires.peer c.from.ensures c.index-number.ensures in
    let sent : (node : ℕ) → sent_to k node ≡ sent_to f node ++ if_to from letter node =
    all_put from f c.flush.new.self c.reserve.new.self c.put.new.self k letter c.flush.ensures.sent c.reserve.ensures.sent c.put.ensures.sent c.flush-2.ensures.sent in
    let ends : SameEnds f k = all_ends f c.flush.new.self c.reserve.new.self c.put.new.self k c.flush.ensures.ends c.reserve.ensures.ends c.put.ensures.ends c.flush-2.ensures.ends in
    subst (λ (place : ℕ). AreCounts (outs_count k) (slice_set brought place (number + 1)) (sent_to k)) (sym c.from-2.ensures)
    (counts_put from number f k brought letter c.requires.counts c.requires.peer is ends sent)

pub returns-clause-brings : goal.returns-clause-brings
returns-clause-brings c =
    let f = c.args.ends.now.far in
    let k = c.flush-2.new.self in
    let from = c.args.wire.from in
    let number = c.index-number.result.now in
    let letter = letter_seen c.in-Ok-Some.frame.letter in
    let is : number ≡ length (sent_to f from) = number_at f c.args.ends.now.brought.items from c.from.result number c.requires.counts c.requires.peer c.from.ensures c.index-number.ensures in
    let sent : (node : ℕ) → sent_to k node ≡ sent_to f node ++ if_to from letter node =
    all_put from f c.flush.new.self c.reserve.new.self c.put.new.self k letter c.flush.ensures.sent c.reserve.ensures.sent c.put.ensures.sent c.flush-2.ensures.sent in
    let found = found_is c.args.key.now c.args.wire c.args.bytes.now number c.in-Ok-Some.field-0 c.in-Ok-Some.frame c.in-Ok-Some.field-0-is
    c.in-Ok-Some.ensures.found in
    brings_frame c.args.key.now c.args.wire c.in-Ok-Some.frame (sent_to f from) (sent_to k from) c.args.bytes.now found.0 (found.1 ∙ is) (sent_here from f k letter sent)
