-- Worked rows, byte for byte.
use Rattle.std.specs.Prelude.{◌≡◌, ◌⊎◌, ℕ, List, Result, Ok, Err, IsOk, codes, Option, Some, None, IfSome}
use Rattle.lt_io.specs.Streams.{SourceState, Pace, IsReadWhole}
use Rattle.lt_text.specs.Text.{lines}
use Rattle.lt_call.specs.Calls.{Serves}
use Rattle.lt_call.specs.Outcomes.{CameInPart}
use Rattle.lt_nest_lines.specs.Input.{BeginsWell, InputData, input_of}
use Rattle.lt_nest_lines.specs.Written.{report_text}
use Rattle.lt_nest_lines.specs.declared.limits.TheConstants.{MAX_INPUT}
use Rattle.lt_nest_lines.specs.declared.answer.Answer.{Answer}
use Rattle.lt_nest_lines.specs.declared.answer.Answer.TheVariants.{Refused, NoMemory}
use Rattle.lt_nest_lines.specs.Answers.{outcome_of}

-- what is written of the bytes, or the first line that is refused
abbrev pub written_of : Result InputData ℕ → Result (List ℕ) ℕ
written_of (Ok d) = Ok (report_text d)
written_of (Err line) = Err line

-- a child locks beside its parent; another transaction waits for both
abbrev pub ChildBesideParentText : Type 0
ChildBesideParentText =
    written_of (input_of (codes "set s\np begin\nc begin in p\nd begin\np lock s write\nc lock s read\nd lock s read\nc commit\np commit\n"))
    ≡ Ok (codes "begin p\nbegin c\nbegin d\ngrant p s write\ngrant c s read\nwait d s read\ncommit c\ncommit p\ngrant d s read\nheld d s read 1\nend 9\n")

-- siblings stand against each other; a parent with open children doesn't commit
abbrev pub SiblingsWaitText : Type 0
SiblingsWaitText =
    written_of (input_of (codes "set s\np begin\nc begin in p\ne begin in p\nc lock s write\ne lock s read\np commit\nc abort\ne abort\n"))
    ≡ Ok (codes "begin p\nbegin c\nbegin e\ngrant c s write\nwait e s read\nchildren p\nabort c\ngrant e s read\nabort e\nend 9\n")

-- nothing is told of no line
abbrev pub EmptyInput : Type 0
EmptyInput = written_of (input_of (codes "")) ≡ Ok (codes "end 0\n")

-- a holder's further ask waits behind those that wait for it: each waits for the other
abbrev pub HolderWaitsBehindOutsiderText : Type 0
HolderWaitsBehindOutsiderText =
    written_of (input_of (codes "set s\np begin\nq begin\np lock s read\nq lock s write\np lock s read\np commit\n"))
    ≡ Ok (codes "begin p\nbegin q\ngrant p s read\nwait q s write\nwait p s read\nbusy p\nheld p s read 1\nwaiting p s read\nwaiting q s write\nend 7\n")

-- a parent holds what its child committed, and works beside its children; one that isn't open begins none
abbrev pub ParentHolds : Type 0
ParentHolds =
    written_of (input_of (codes "set s\np begin\nc begin in p\nc lock s write\np lock s read\nc try s read\nc commit\nd begin in c\nd try s read\np try s write\n"))
    ≡ Ok (codes "begin p\nbegin c\ngrant c s write\nwait p s read\ntry c s read true\ncommit c\ngrant p s read\nnot_open c\nnot_open d\ntry p s write true\nheld p s read 2\nheld p s write 2\nend 10\n")

-- a set that wasn't declared before
abbrev pub UnknownSet : Type 0
UnknownSet = written_of (input_of (codes "set s\n# p\np begin\np lock t read\n")) ≡ Err 4

-- a name that was declared before
abbrev pub Repeated : Type 0
Repeated = written_of (input_of (codes "set s\ns begin\n")) ≡ Err 2

-- `begin` is no name
abbrev pub BeginIsNoName : Type 0
BeginIsNoName = written_of (input_of (codes "begin begin\n")) ≡ Err 1

-- All that the top call says of an answer: what was written, why the answer comes, and what it says of the source and
-- the sink.

-- no line of the bytes is refused, and this is what is written of them
abbrev pub IsTextOf : List ℕ → List ℕ → Type 0
IsTextOf bytes text = (d : InputData) × (input_of bytes ≡ Ok d) × (text ≡ report_text d)

-- where the bytes that were left are told, this is what is written of them
abbrev pub IsWritten : Option (List ℕ) → List ℕ → Type 0
IsWritten None text = Unit {0}
IsWritten (Some left) text = IsTextOf left text

-- where they are told, this line is the first that is refused
abbrev pub IsRefusedAt : Option (List ℕ) → ℕ → Type 0
IsRefusedAt None line = Unit {0}
IsRefusedAt (Some left) line = input_of left ≡ Err line

-- the line that the answer names is the first that is refused
abbrev pub IsUnfit : Option (List ℕ) → Answer → Type 0
IsUnfit left (Refused line) = IsRefusedAt left line
IsUnfit left other = ⊥

-- no line of the bytes is refused, or a line before it is good and isn't skipped: so memory may be wanting
abbrev pub LinesMayWantMemory : List ℕ → Type 0
LinesMayWantMemory bytes = IsOk (input_of bytes) ⊎ BeginsWell (lines bytes)

-- this line of the bytes is the first that is refused, or memory was wanting
abbrev pub IsInputFault : List ℕ → Answer → Type 0
IsInputFault bytes (Refused line) = input_of bytes ≡ Err line
IsInputFault bytes NoMemory = LinesMayWantMemory bytes
IsInputFault bytes other = ⊥

-- where memory may be wanting: bytes came, but the end was not found; or all was read, and if it is known, its first
-- line that isn't skipped is not refused
abbrev pub LinesWantMemory : SourceState → SourceState → Type 0
LinesWantMemory before after =
    CameInPart before after ⊎ (IsReadWhole MAX_INPUT before after × IfSome before.left LinesMayWantMemory)

-- the answer to so many words; and the source and the sink before and after, with what they tell of themselves
abbrev pub ServesLines : {S K : Type 0} → (S → SourceState) → (K → Option (List ℕ)) → (K → ℕ) → (K → Option Pace)
    → ℕ → Answer → S → S → K → K → Type 0
ServesLines state held write_faults pace words answer before after sink sink_after =
    Serves outcome_of IsWritten IsUnfit LinesWantMemory MAX_INPUT state held write_faults pace words answer
    before after sink sink_after
