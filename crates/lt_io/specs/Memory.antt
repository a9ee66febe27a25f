-- What the source and the sink in memory tell of themselves.
use Rattle.std.specs.Prelude.{◌≡◌, ◌<◌, ◌⊎◌, ◌+◌, ℕ, Option, Some, Contains, min, drop, vec_len, vec_capacity}
use Rattle.lt_io.specs.declared.memory.MemorySource.{MemorySource}
use Rattle.lt_io.specs.declared.memory.MemorySink.{MemorySink}
use Rattle.lt_io.specs.Streams.{SourceState, Pace}

-- what a source in memory tells of itself
abbrev pub source_state : MemorySource → SourceState
source_state s = record { left = Some (drop s.at s.bytes.items); given = s.given; faults = s.faults; ends = s.ends }

-- how a sink in memory takes pieces
abbrev pub pace_of : MemorySink → Option Pace
pace_of s = Some (record { per_write = s.per_write; calls = s.calls })

-- a sink in memory fails at this call, or takes nothing of any piece while this one has bytes
abbrev pub StopsWrite : MemorySink → ℕ → ℕ → Type 0
StopsWrite s call size = Contains s.fails.items call ⊎ ((s.per_write ≡ 0) × (0 < size))

-- or there is no room for what it would take
abbrev pub RefusesWrite : MemorySink → ℕ → ℕ → Type 0
RefusesWrite s call size = StopsWrite s call size ⊎ (vec_capacity s.bytes < vec_len s.bytes + min s.per_write size)
