-- Some bytes were read and fed, and so many may still come.
use Rattle.std.proofs.Common.{◌≡◌, ℕ, ◌+◌, List, length}
use Rattle.lt_io.specs.Streams.{ReadsOn}
use Rattle.lt_checker.specs.Heads.{IsFed}
use Rattle.lt_checker.proofs.rest.feed_all.Given as goal

abbrev pub invariant-loop-count : goal.invariant-loop-count
invariant-loop-count g l =
    (bytes : List ℕ) × IsFed bytes l.initial.checker l.checker × (length bytes + l.room ≡ l.limit) × ReadsOn bytes (g.S.Source.state l.initial.source) (g.S.Source.state l.source)

abbrev pub decreases-loop-count : goal.decreases-loop-count
decreases-loop-count g l = l.room
