use Rattle.std.proofs.Common.{◌≡◌, ◌-◌, take, drop}
use Rattle.lt_counts.specs.Counting.{AddsMoves, and_more, letters_taken}
use Rattle.lt_counts.proofs.counting.count_on.Given as goal

abbrev pub invariant-loop-place : goal.invariant-loop-place
invariant-loop-place l =
    AddsMoves (take (l.place - l.from) (drop l.from l.log.entries)) l.initial.counts l.counts
    × (l.taken ≡ and_more l.initial.taken (letters_taken (take (l.place - l.from) (drop l.from l.log.entries))))
