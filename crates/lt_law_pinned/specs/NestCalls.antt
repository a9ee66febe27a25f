-- What an answer of the program on nested transactions says, for small inputs, and its exit statuses and texts.
use Rattle.std.specs.Prelude.{◌≡◌, ◌++◌, [], ℕ, List, codes}
use Rattle.lt_io.specs.Streams.{SourceState}
use Rattle.lt_call.specs.Outcomes.{exit_code}
use Rattle.lt_nest_lines.specs.declared.answer.Answer.{Answer}
use Rattle.lt_nest_lines.specs.declared.answer.Answer.TheVariants.{Done, Usage, Refused, TooLong, ReadFault, WriteFault, NoMemory}
use Rattle.lt_nest_lines.specs.declared.limits.TheConstants.{MAX_SETS, MAX_TRANSACTIONS, MAX_LINES, MAX_INPUT}
use Rattle.lt_nest_lines.specs.Answers.{outcome_of, status_line}
use Rattle.lt_nest_lines.specs.Serves.{ServesLines}
use Rattle.lt_law_pinned.specs.PlainCalls.{SinkTells, PlainCall, AnswersSo, SinkHolds, IsPartWritten}

pub record NestCodesAre : Type 0 where
  pub done : exit_code (outcome_of Done) ≡ 0
  pub usage : exit_code (outcome_of Usage) ≡ 1
  pub refused : exit_code (outcome_of (Refused 7)) ≡ 2
  pub too_long : exit_code (outcome_of TooLong) ≡ 2
  pub read_fault : exit_code (outcome_of ReadFault) ≡ 4
  pub write_fault : exit_code (outcome_of WriteFault) ≡ 5
  pub no_memory : exit_code (outcome_of NoMemory) ≡ 6
  pub sets : MAX_SETS ≡ 8
  pub transactions : MAX_TRANSACTIONS ≡ 256
  pub lines : MAX_LINES ≡ 65535
  pub input : MAX_INPUT ≡ 1048576

pub record NestTextsAre : Type 0 where
  pub done : status_line Done ≡ []
  pub usage : status_line Usage ≡ codes "locknest: usage: locknest"
  pub refused : status_line (Refused 7) ≡ codes "locknest: line 7"
  pub too_long : status_line TooLong ≡ codes "locknest: input too long"
  pub read_fault : status_line ReadFault ≡ codes "locknest: read fault"
  pub write_fault : status_line WriteFault ≡ codes "locknest: write fault"
  pub no_memory : status_line NoMemory ≡ codes "locknest: no memory"

-- the top call gives it
abbrev pub IsNestCall : PlainCall Answer → Type 0
IsNestCall c =
    ServesLines (λ (s : SourceState). s) (λ (k : SinkTells). k.held) (λ (k : SinkTells). k.faults)
    (λ (k : SinkTells). k.pace) c.words c.answer c.source c.source_after c.sink c.sink_after

-- it answers so where the input is these bytes
abbrev pub NestAnswered : List ℕ → Answer → PlainCall Answer → Type 0
NestAnswered = AnswersSo IsNestCall outcome_of

-- what is written of this input, where all is done, is this
abbrev pub WritesNest : List ℕ → List ℕ → Type 0
WritesNest input text =
    (c : PlainCall Answer) (old new : List ℕ) → NestAnswered input Done c → SinkHolds old new c → new ≡ old ++ text

-- of this input this line is refused, and it is not done
pub record RefusesNest (input : List ℕ) (line : ℕ) : Type 0 where
  pub first : (c : PlainCall Answer) (k : ℕ) → NestAnswered input (Refused k) c → k ≡ line
  pub never_done : (c : PlainCall Answer) → NestAnswered input Done c → ⊥

-- an input whose answers have each word but `waiting`
abbrev pub each_word : List ℕ
each_word =
    codes "set s\np begin\nc begin in p\nd begin\nc lock s write\nc try s read\nd try s read\n"
    ++ codes "d lock s read\nd lock s read\np commit\nc commit\ne begin in c\np try s write\np abort\n"

abbrev pub each_word_text : List ℕ
each_word_text =
    codes "begin p\nbegin c\nbegin d\ngrant c s write\ntry c s read true\ntry d s read false\nwait d s read\nbusy d\n"
    ++ codes "children p\ncommit c\nnot_open c\ntry p s write false\nabort p\n"
    ++ codes "grant d s read\nheld d s read 1\nend 14\n"

-- a transaction waits at the end
abbrev pub one_waits : List ℕ
one_waits = codes "set s\np begin\np lock s write\nd begin\nd try s read\nd lock s read\n"

abbrev pub one_waits_text : List ℕ
one_waits_text =
    codes "begin p\ngrant p s write\nbegin d\ntry d s read false\nwait d s read\n"
    ++ codes "held p s write 1\nwaiting d s read\nend 6\n"

-- its fourth line asks for a lock in a set that isn't declared
abbrev pub no_such_set : List ℕ
no_such_set = codes "set s\n# p\np begin\np lock t read\n"

-- its first line is refused
abbrev pub refused_first : List ℕ
refused_first = codes "p lock s read\nset s\n"

pub record NestsTold : Type 0 where
  pub nothing_text : WritesNest [] (codes "end 0\n")
  pub each_text : WritesNest each_word each_word_text
  pub waits_text : WritesNest one_waits one_waits_text
  pub part : (c : PlainCall Answer) (old new : List ℕ) → NestAnswered one_waits WriteFault c → SinkHolds old new c
      → IsPartWritten one_waits_text old new
  -- the first line that is refused
  pub unknown_set : RefusesNest no_such_set 4
  pub begun_twice : RefusesNest (codes "set s\np begin\np begin\n") 3
  pub never_refused : (c : PlainCall Answer) (line : ℕ) → NestAnswered one_waits (Refused line) c → ⊥
  -- where the source was found at its end, that is no want of memory
  pub no_memory : (c : PlainCall Answer) → NestAnswered refused_first NoMemory c
      → c.source.ends ≡ 0 → c.source_after.ends ≡ 1 → ⊥
