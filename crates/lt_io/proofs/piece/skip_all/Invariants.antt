-- Some bytes were read, and so many may still come.
use Rattle.std.proofs.Common.{◌≡◌, ℕ, ◌+◌, List, length}
use Rattle.lt_io.specs.Streams.{ReadsOn}
use Rattle.lt_io.proofs.piece.skip_all.Given as goal

abbrev pub invariant-loop-count : goal.invariant-loop-count
invariant-loop-count g l =
    (bytes : List ℕ) × (length bytes + l.room ≡ l.limit) × ReadsOn bytes (g.S.Source.state l.initial.source) (g.S.Source.state l.source)

abbrev pub decreases-loop-count : goal.decreases-loop-count
decreases-loop-count g l = l.room
