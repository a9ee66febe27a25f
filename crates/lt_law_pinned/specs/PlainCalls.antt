-- What the answer says of the words, the source and the sink, of a program that takes no words.
use Rattle.std.specs.Prelude.{◌≡◌, ◌≢◌, ◌<◌, ◌≤◌, ◌⊎◌, ◌+◌, ◌++◌, ℕ, List, Option, Some, length, take}
use Rattle.lt_io.specs.Streams.{SourceState, Pace}
use Rattle.lt_call.specs.declared.outcome.Outcome.{Outcome}
use Rattle.lt_call.specs.declared.outcome.Outcome.TheVariants.{Done, Usage, Refused, TooLong, ReadFault, WriteFault, NoMemory, BadJournal}

-- a first part of the text, and not all of it, was appended
pub record IsPartWritten (text old new : List ℕ) : Type 0 where
  pub size : ℕ
  pub less : size < length text
  pub part : new ≡ old ++ take size text

-- what a sink tells: the bytes that it holds, if they are known, its count of failed writes, and how it takes pieces,
-- if that is known
pub record SinkTells : Type 0 where
  pub held : Option (List ℕ)
  pub faults : ℕ
  pub pace : Option Pace

-- an answer to so many words, with what the source and the sink tell before and after it
pub record PlainCall (A : Type 0) : Type 0 where
  pub words : ℕ
  pub answer : A
  pub source : SourceState
  pub source_after : SourceState
  pub sink : SinkTells
  pub sink_after : SinkTells

-- the sink is known to have held `old` before, and to hold `new` after it
abbrev pub SinkHolds : {A : Type 0} → List ℕ → List ℕ → PlainCall A → Type 0
SinkHolds old new c = (c.sink.held ≡ Some old) × (c.sink_after.held ≡ Some new)

module _ {A : Type 0} (is_call : PlainCall A → Type 0) (outcome : A → Outcome) where
  -- the program answers so without words, where all counts begin at 0
  pub record EndsPlainly (end : Outcome) (c : PlainCall A) : Type 0 where
    pub serves : is_call c
    pub no_words : c.words ≡ 0
    pub end_is : outcome c.answer ≡ end
    pub counts : (c.source.given ≡ 0) × (c.source.faults ≡ 0) × (c.source.ends ≡ 0)
    pub writes : c.sink.faults ≡ 0

  -- it answers without words, where the input is these bytes
  pub record ReadsPlain (bytes : List ℕ) (c : PlainCall A) : Type 0 where
    pub serves : is_call c
    pub no_words : c.words ≡ 0
    pub input : c.source.left ≡ Some bytes

  -- it answers so where the input is these bytes
  abbrev pub AnswersSo : List ℕ → A → PlainCall A → Type 0
  AnswersSo bytes answer c = ReadsPlain bytes c × (c.answer ≡ answer)

  -- with this answer the source was read to its end
  abbrev pub EndsWhole : Outcome → Type 0
  EndsWhole end = (c : PlainCall A) → EndsPlainly end c → c.source_after.ends ≡ 1

  -- with this answer nothing was written
  abbrev pub EndsUnwritten : Outcome → Type 0
  EndsUnwritten end = (c : PlainCall A) → EndsPlainly end c → c.sink_after ≡ c.sink

  -- no read or write failed, the input has no more than so many bytes, and memory wasn't wanting
  pub record IsPlainlyUntroubled (limit : ℕ) (c : PlainCall A) : Type 0 where
    pub counts : (c.source.given ≡ 0) × (c.source.faults ≡ 0)
    pub given : c.source_after.given ≤ limit
    pub read : c.source_after.faults ≡ 0
    pub written : (c.sink.faults ≡ 0) × (c.sink_after.faults ≡ 0)
    pub memory : outcome c.answer ≢ NoMemory

  -- each field but what is written and what is refused, where an input may have so many bytes and these are a good one
  pub record PlainlyTold (limit : ℕ) (good : List ℕ) : Type 0 where
    -- with a word nothing is read and nothing is done, and this is so with a word alone
    pub usage : (c : PlainCall A) → is_call c → c.words ≡ 1 → outcome c.answer ≡ Usage
    pub unread : (c : PlainCall A) → is_call c → c.words ≡ 1 → c.source_after ≡ c.source
    pub unwritten : (c : PlainCall A) → is_call c → c.words ≡ 1 → c.sink_after ≡ c.sink
    pub no_usage : (c : PlainCall A) → is_call c → c.words ≡ 0 → outcome c.answer ≢ Usage
    -- what is counted
    pub too_long : (c : PlainCall A) → EndsPlainly TooLong c → c.source_after.given ≡ limit + 1
    pub not_too_long : (c : PlainCall A) → EndsPlainly NoMemory c → c.source_after.given ≤ limit
    -- memory was wanting once bytes came, or once the source was found at its end
    pub memory : (c : PlainCall A) → EndsPlainly NoMemory c → (0 < c.source_after.given) ⊎ (c.source_after.ends ≡ 1)
    pub read_fault : (c : PlainCall A) → EndsPlainly ReadFault c → c.source_after.faults ≡ 1
    pub no_read_fault : (c : PlainCall A) → EndsPlainly NoMemory c → c.source_after.faults ≡ 0
    pub write_fault : (c : PlainCall A) → EndsPlainly WriteFault c → c.sink_after.faults ≡ 1
    pub no_write_fault : (c : PlainCall A) → EndsPlainly Done c → c.sink_after.faults ≡ 0
    pub whole_done : EndsWhole Done
    pub whole_write : EndsWhole WriteFault
    pub whole_refused : EndsWhole Refused
    pub whole_journal : EndsWhole BadJournal
    -- what is left unwritten
    pub none_refused : EndsUnwritten Refused
    pub none_journal : EndsUnwritten BadJournal
    pub none_too_long : EndsUnwritten TooLong
    pub none_read : EndsUnwritten ReadFault
    pub none_memory : EndsUnwritten NoMemory
    -- where nothing goes wrong all is done
    pub complete : (c : PlainCall A) → ReadsPlain good c → IsPlainlyUntroubled limit c → outcome c.answer ≡ Done
