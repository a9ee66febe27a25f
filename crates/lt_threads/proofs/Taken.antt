-- Letters that a visit takes, and how it ends.
use Rattle.std.proofs.Common.{ℕ, ◌≡◌, ◌<◌, ◌-◌, List, length, ap, arith}
use Rattle.std.proofs.lemmas.List.{length_push}
use Rattle.lt_spec.specs.World.{Logged}
use Rattle.lt_runner.specs.declared.parts.Parts.{Parts}
use Rattle.lt_runner.specs.declared.turning.Turned.{Turned}
use Rattle.lt_runner.specs.declared.turning.Turned.TheVariants.{Moved, Quiet, Full, NoMemory}
use Rattle.lt_runner.specs.declared.turning.Worked.{Worked}
use Rattle.lt_runner.specs.declared.turning.Worked.TheVariants as worked
use Rattle.lt_runner.specs.Kept.{SameRunner, AsSeen, CouldMove, MovedOne, Grew, WorkEnds}
use Rattle.lt_runner.proofs.TurnLemmas.{choice_lasts, could_later}
use Rattle.lt_threads.specs.Taking.{MovedWithin, TakeEnds}
use Rattle.lt_threads.proofs.Pushing.{seen_grew, grew_join, moved_grew}

-- one move was made of which the log had a place
pub moved_within : (a b c : Parts) → AsSeen a b → CouldMove a → SameRunner b c → MovedOne b c → MovedWithin a c
moved_within a b c seen could same moved =
    let was : length b.log.entries ≡ length a.log.entries = ap (λ (log : List Logged). length log) seen.log in
    let one = ap (λ (log : List Logged). length log) moved.1 in
    record {
      more = omega (arith, was, one, length_push b.log.entries moved.0);
      within = omega (arith, was, one, length_push b.log.entries moved.0, could.place, seen.same.limit, same.limit);
    }

-- a look before it or after it changes nothing of that
pub take_later : (turned : Turned) (a b c : Parts) → AsSeen a b → TakeEnds turned b c → TakeEnds turned a c
take_later Moved a b c seen h = record { more = omega (arith, h.more, ap (λ (log : List Logged). length log) seen.log); within = h.within }
take_later Quiet a b c seen h = h
take_later Full a b c seen h = h
take_later NoMemory a b c seen h = h

-- fewer moves are left
pub less_room : (a b : Parts) → Grew a b → MovedWithin a b → b.limit - length b.log.entries < a.limit - length a.log.entries
less_room a b grew h = omega (arith, h.more, h.within, grew.same.limit)

-- a look after work
pub ends_later : (ended : Worked) (a b : Parts) → WorkEnds ended 0 a → AsSeen a b → WorkEnds ended 0 b
ends_later worked.Idle a b h seen = λ some. absurd (omega arith)
ends_later worked.Full a b h seen = record {
  log = omega (arith, h.log, ap (λ (log : List Logged). length log) seen.log, seen.same.limit);
  choice = choice_lasts a b seen h.choice;
}
ends_later worked.NoMemory a b h seen = could_later a b seen h.place h.choice

-- a look before work and one after it count no moves
pub moves_seen : (moves : ℕ) (a b c d : Parts) → AsSeen a b → moves ≡ length c.log.entries - length b.log.entries → AsSeen c d
    → moves ≡ length d.log.entries - length a.log.entries
moves_seen moves a b c d before e after = omega (
  arith,
  e,
  ap (λ (log : List Logged). length log) before.log,
  ap (λ (log : List Logged). length log) after.log,
)

-- what is known of one letter that is taken, or of none
pub ruleset taking = (seen_grew, grew_join, moved_grew, moved_within, take_later)
