use Rattle.std.proofs.Common.{arith}
use Rattle.lt_desk.specs.LetterSeen.{letter_seen}
use Rattle.lt_letters.specs.declared.fault.Fault.TheVariants.{Short, Unknown, TooMany, Trailing}
use Rattle.lt_letters.proofs.Found.{is_found, is_again, has_cause, of_letter}
use Rattle.lt_letters.proofs.reading.read_letter.Goals as goal

pub returns-clause-found : goal.returns-clause-found
returns-clause-found c = is_found letter_seen c.args.bytes.now c.letter_in.result (λ i. omega (arith, c.type_inv.bytes i)) c.letter_in.ensures.exact

pub returns-clause-again : goal.returns-clause-again
returns-clause-again c = λ letter fits is. is_again letter_seen c.args.bytes.now c.letter_in.result letter c.letter_in.ensures.exact fits is

pub returns-clause-memory : goal.returns-clause-memory
returns-clause-memory c = λ e. of_letter c.args.bytes.now (λ i. omega (arith, c.type_inv.bytes i)) (c.letter_in.ensures.memory e)

pub returns-clause-short : goal.returns-clause-short
returns-clause-short c = λ e. has_cause letter_seen c.args.bytes.now c.letter_in.result Short (λ i. omega (arith, c.type_inv.bytes i)) c.letter_in.ensures.exact e

pub returns-clause-unknown : goal.returns-clause-unknown
returns-clause-unknown c = λ e. has_cause letter_seen c.args.bytes.now c.letter_in.result Unknown (λ i. omega (arith, c.type_inv.bytes i)) c.letter_in.ensures.exact e

pub returns-clause-many : goal.returns-clause-many
returns-clause-many c = λ e. has_cause letter_seen c.args.bytes.now c.letter_in.result TooMany (λ i. omega (arith, c.type_inv.bytes i)) c.letter_in.ensures.exact e

pub returns-clause-trailing : goal.returns-clause-trailing
returns-clause-trailing c = λ e. has_cause letter_seen c.args.bytes.now c.letter_in.result Trailing (λ i. omega (arith, c.type_inv.bytes i)) c.letter_in.ensures.exact e
