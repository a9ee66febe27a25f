-- What C is told of counted lines, in literals: what follows from each code of the call, and what each line counts as.
use Rattle.std.specs.Prelude.{◌≡◌, ◌≢◌, ◌<◌, ◌⊎◌, ℕ, List, Option, Some, None, length, take, drop, slice_index_or, true, false}
use Rattle.lt_modes.specs.declared.event.Event.{Event}
use Rattle.lt_modes.specs.declared.event.Event.TheVariants.{Grant, Wait, Try, Change, Withdrawn, Copy, Freeze, Token}
use Rattle.lt_modes.specs.declared.mode.Mode.TheVariants.{Read, Write}
use Rattle.lt_modes.specs.declared.mode_set.ModeSet.{ModeSet}
use Rattle.lt_log.specs.LogData.{LogData}
use Rattle.lt_counts.specs.declared.counted.Counted.{Counted}
use Rattle.lt_counts.specs.declared.counted.Counted.TheVariants.{Grants, Changes, Refusals, Waits, Withdrawals, Copies, Freezes, Tokens}
use Rattle.lt_counts.specs.Counting.{counted_as, letters_taken, and_more, count_of_moves}
use Rattle.lt_counts.specs.CountLaws.{AreCountsOf}
use Rattle.lt_live_c.specs.declared.content.Content.{Content}
use Rattle.lt_live_c.specs.Counting.{log_behind, CountedInC, TellsCounts}

-- on what has no log, and with {0}, the code says so
abbrev pub HasNoLog : Option Content → Type 0
HasNoLog content = log_behind content ≡ None

-- this is so of each call with this code, by the log, and by what was counted before and after it
abbrev pub AfterCount : ℕ → (LogData → CountedInC → CountedInC → Type 0) → Type 0
AfterCount code Told = (log : LogData) (old new : CountedInC) → TellsCounts (Some log) code old new → Told log old new

-- where there is a number at this place, it is greater by the lines of set 7 that count so
abbrev pub AddsAt : ℕ → Counted → LogData → CountedInC → CountedInC → Type 0
AddsAt place kind log old new = place < length old.counts
    → slice_index_or new.counts place 0
    ≡ and_more (slice_index_or old.counts place 0) (count_of_moves 7 kind (drop old.read log.entries))

pub record CountsTold : Type 0 where
  pub read : AfterCount 0 (λ log old new. new.read ≡ length log.entries)
  pub letters : AfterCount 0 (λ log old new. new.taken ≡ and_more old.taken (letters_taken (drop old.read log.entries)))
  pub places : AfterCount 0 (λ log old new. length new.counts ≡ length old.counts)
  pub grants : AfterCount 0 (AddsAt 56 Grants)
  pub changes : AfterCount 0 (AddsAt 57 Changes)
  pub refusals : AfterCount 0 (AddsAt 58 Refusals)
  pub waits : AfterCount 0 (AddsAt 59 Waits)
  pub withdrawals : AfterCount 0 (AddsAt 60 Withdrawals)
  pub copies : AfterCount 0 (AddsAt 61 Copies)
  pub freezes : AfterCount 0 (AddsAt 62 Freezes)
  pub tokens : AfterCount 0 (AddsAt 63 Tokens)
  -- who has the numbers of the first moves has those of all then
  pub all : AfterCount 0 (λ log old new. AreCountsOf (take old.read log.entries) old.counts → AreCountsOf log.entries new.counts)
  pub forgotten : AfterCount 9 (λ log old new. old.read < log.gone)
  pub beyond : AfterCount 4 (λ log old new. length log.entries < old.read)
  pub stays : (code : ℕ) → code ≢ 0 → AfterCount code (λ log old new. new ≡ old)
  pub only : (code : ℕ) → AfterCount code (λ log old new. (code ≡ 0) ⊎ ((code ≡ 9) ⊎ (code ≡ 4)))
  pub wrong : (content : Option Content) → HasNoLog content → (code : ℕ) (old new : CountedInC)
      → TellsCounts (log_behind content) code old new → (code ≡ 2) × (new ≡ old)
  -- what lines of client 2 and set 7 count as
  pub granted : counted_as (Grant 2 7 Write) ≡ Some (7, Grants)
  pub got : counted_as (Try 2 7 Write true) ≡ Some (7, Grants)
  pub refused : counted_as (Try 2 7 Write false) ≡ Some (7, Refusals)
  pub changed : counted_as (Change 2 7 Read Write) ≡ Some (7, Changes)
  pub waited : counted_as (Wait 2 7 Write) ≡ Some (7, Waits)
  pub withdrawn : counted_as (Withdrawn 2 7 Write) ≡ Some (7, Withdrawals)
  pub copied : counted_as (Copy 7 1 2 Read) ≡ Some (7, Copies)
  pub moved : counted_as (Token 7 1 3) ≡ Some (7, Tokens)
