-- All that a call says of its answer: what was written, why the answer comes, and what it says of the source and the sink.
use Rattle.std.specs.Prelude.{◌≡◌, ◌≢◌, ◌<◌, ◌+◌, ℕ, List, Option, length}
use Rattle.std.specs.Io.KnownBytes.{Appends}
use Rattle.lt_io.specs.Streams.{Rose, RoseBy, SourceState, AppendsPart, Pace, WritesByFewest, StopsByFewest}
use Rattle.lt_call.specs.declared.outcome.Outcome.{Outcome}
use Rattle.lt_call.specs.declared.outcome.Outcome.TheVariants.{Done, Usage, WriteFault, NoMemory}
use Rattle.lt_call.specs.Outcomes.{IsRefused, WritesNothing, SaysOfSource, SaysOfSink}

-- the source failed at no read and gave no more than an input may have, and nothing that it had left is refused
pub record IsGood {A : Type 0} (outcome : A → Outcome) (refuses : Option (List ℕ) → A → Type 0) (limit : ℕ) (before after : SourceState) : Type 0 where
  pub no_read_fault : Rose before.faults after.faults → ⊥
  pub not_too_long : RoseBy (limit + 1) before.given after.given → ⊥
  pub none_refused : (answer : A) → IsRefused (outcome answer) → refuses before.left answer → ⊥

-- the answer to so many words of a program that takes none, whose input may have so many bytes, where this is what may
-- be made of it, these answers refuse it, and memory may be wanting so; and the source and the sink before and after,
-- with what they tell of themselves
pub record Serves {A S K : Type 0} (outcome : A → Outcome) (makes : Option (List ℕ) → List ℕ → Type 0) (refuses : Option (List ℕ) → A → Type 0) (wants : SourceState → SourceState → Type 0) (limit : ℕ) (state : S → SourceState) (held : K → Option (List ℕ)) (write_faults : K → ℕ) (pace : K → Option Pace) (words : ℕ) (answer : A) (source_before source_after : S) (sink_before sink_after : K) : Type 0 where
  -- what is written, and of what a part is; each write was given all of it that was not written yet
  pub done : outcome answer ≡ Done → (text : List ℕ) × makes (state source_before).left text × Appends (held sink_before) (held sink_after) text
      × WritesByFewest (pace sink_before) (pace sink_after) (length text)
  pub write_fault : outcome answer ≡ WriteFault → (text : List ℕ) × makes (state source_before).left text × AppendsPart (held sink_before) (held sink_after) text
      × StopsByFewest (pace sink_before) (pace sink_after) (held sink_before) (held sink_after) text
  pub unwritten : WritesNothing (outcome answer) → sink_after ≡ sink_before
  -- there is a word
  pub usage : outcome answer ≡ Usage → 0 < words
  pub no_words : 0 < words → outcome answer ≡ Usage
  pub unread : outcome answer ≡ Usage → source_after ≡ source_before
  -- what was read is refused
  pub refused : IsRefused (outcome answer) → refuses (state source_before).left answer
  -- memory was wanting, and only where it may be
  pub memory : outcome answer ≡ NoMemory → wants (state source_before) (state source_after)
  -- what the answer says of the source, and of the sink
  pub reading : outcome answer ≢ Usage → SaysOfSource limit (outcome answer) (state source_before) (state source_after)
  pub writing : SaysOfSink (outcome answer) (write_faults sink_before) (write_faults sink_after)
  -- what it is where nothing goes wrong
  pub complete : words ≡ 0 → IsGood outcome refuses limit (state source_before) (state source_after)
      → (Rose (write_faults sink_before) (write_faults sink_after) → ⊥) → outcome answer ≢ NoMemory → outcome answer ≡ Done
