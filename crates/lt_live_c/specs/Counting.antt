-- What C is told of the lines that are counted.
use Rattle.std.specs.Prelude.{◌≡◌, ◌≢◌, ℕ, List, Option, Some, None, if◌then◌else◌, nat_lt, length, drop}
use Rattle.lt_log.specs.LogData.{LogData}
use Rattle.lt_counts.specs.Counting.{AddsMoves, letters_taken, and_more}
use Rattle.lt_live_c.specs.declared.code.TheConstants.{OK, WRONG_HANDLE, BAD_ARGUMENT, FORGOTTEN}
use Rattle.lt_live_c.specs.declared.content.Content.{Content}
use Rattle.lt_live_c.specs.declared.content.Content.TheVariants as contents

-- the log of a station, or of the node that lies in a process of its own
abbrev pub log_seen : Content → Option LogData
log_seen (contents.Station s) = Some s.runner.log
log_seen (contents.Node n) = Some n.remote.station.runner.log
log_seen other = None

abbrev pub log_behind : Option Content → Option LogData
log_behind None = None
log_behind (Some content) = log_seen content

-- what C has counted: how many moves were read, the letters that they took, and the numbers of the sets
pub record CountedInC : Type 0 where
  pub read : ℕ
  pub taken : ℕ
  pub counts : List ℕ

abbrev pub as_counted : ℕ → ℕ → List ℕ → CountedInC
as_counted read taken counts = record { read = read; taken = taken; counts = counts }

-- all further moves were counted
pub record CountsFurther (log : LogData) (old new : CountedInC) : Type 0 where
  pub read : new.read ≡ length log.entries
  pub taken : new.taken ≡ and_more old.taken (letters_taken (drop old.read log.entries))
  pub counts : AddsMoves (drop old.read log.entries) old.counts new.counts

-- some moves that weren't read are forgotten; more were read than were made; or nothing stands in the way
abbrev pub code_of_count : LogData → ℕ → ℕ
code_of_count log read =
    if nat_lt read log.gone then FORGOTTEN
    else (if nat_lt (length log.entries) read then BAD_ARGUMENT else OK)

pub record CountsAsCode (log : LogData) (code : ℕ) (old new : CountedInC) : Type 0 where
  pub told : code ≡ code_of_count log old.read
  pub counts : code ≡ OK → CountsFurther log old new
  pub keeps : code ≢ OK → new ≡ old

-- C is told of it
abbrev pub TellsCounts : Option LogData → ℕ → CountedInC → CountedInC → Type 0
TellsCounts None code old new = (code ≡ WRONG_HANDLE) × (new ≡ old)
TellsCounts (Some log) code old new = CountsAsCode log code old new
