-- What an answer to the word `why` says of small inputs, and which ring of clients it may name.
use Rattle.std.specs.Prelude.{◌≡◌, ◌≢◌, ◌⊎◌, ◌==◌, ◌&&◌, ◌||◌, ◌++◌, ◌∷◌, [], ℕ, List, true, false, Option, Some, None, IsTrue, codes, length}
use Rattle.lt_io.specs.Streams.{SourceState}
use Rattle.lt_modes.specs.declared.mode.Mode.TheVariants.{Read, Write}
use Rattle.lt_modes.specs.declared.command.Command.TheVariants.{Lock}
use Rattle.lt_modes.specs.declared.event.Event.TheVariants.{Grant, Wait}
use Rattle.lt_modes.specs.Script.{ScriptData}
use Rattle.lt_spec.specs.Holdings.{waits_for}
use Rattle.lt_spec.specs.Promised.{WaitInRing}
use Rattle.lt_spec.specs.Rings.{Graph}
use Rattle.lt_spec.specs.World.{Logged, world_after, is_at_rest, IsRun}
use Rattle.lt_script.specs.declared.fault.ScriptFault.{ScriptFault}
use Rattle.lt_waits.specs.declared.answer.Answer.{Answer}
use Rattle.lt_waits.specs.declared.answer.Answer.TheVariants.{Done, Refused, WriteFault, BadJournal}
use Rattle.lt_waits.specs.Answers.{outcome_of}
use Rattle.lt_waits.specs.Reasons.{waits_by_lock}
use Rattle.lt_waits.specs.Serves.{ServesWhy}
use Rattle.lt_waits.specs.Shortest.{IsRingNamed}
use Rattle.lt_waits.specs.Why.{void_text, why_text}
use Rattle.lt_waits.specs.Words.{asks_why}
use Rattle.lt_law_examples.specs.Worked.{declared_set, declared_client, act}
use Rattle.lt_law_pinned.specs.PlainCalls.{SinkTells, PlainCall, AnswersSo, SinkHolds, IsPartWritten}
use Rattle.lt_law_pinned.specs.Reports.{no_nodes_fault, writers_apart, both_change, void_script, void_moves, wrong_grant}

-- the word `why` alone asks why
pub record WhyWordsAre : Type 0 where
  pub why : asks_why (codes "why" ∷ []) ≡ true
  pub nothing : asks_why [] ≡ false
  pub other : asks_why (codes "who" ∷ []) ≡ false
  pub twice : asks_why (codes "why" ∷ codes "why" ∷ []) ≡ false

-- the first two of three clients wait for each other, and all three wait in a ring
abbrev pub two_rings : Graph
two_rings c d = ((c == 0) && (d == 1)) || ((c == 1) && ((d == 0) || (d == 2))) || ((c == 2) && (d == 0))

-- all three wait in a ring
abbrev pub long_ring : Graph
long_ring c d = ((c == 0) && (d == 1)) || ((c == 1) && (d == 2)) || ((c == 2) && (d == 0))

-- nobody waits
abbrev pub nobody_waits : Graph
nobody_waits c d = false

-- which ring isn't named, of those who wait by locks and of all who wait
pub record WhyRingsAre : Type 0 where
  -- one that is longer than another
  pub longer : IsRingNamed 3 nobody_waits two_rings (0 ∷ 1 ∷ 2 ∷ []) → ⊥
  pub longer_by_locks : IsRingNamed 3 two_rings two_rings (0 ∷ 1 ∷ 2 ∷ []) → ⊥
  -- one that isn't by locks, where another one is
  pub in_queue : IsRingNamed 3 long_ring two_rings (0 ∷ 1 ∷ []) → ⊥
  -- clients of which one waits for no other of them, or isn't of the script, and none at all
  pub no_ring : IsRingNamed 3 nobody_waits two_rings (0 ∷ 2 ∷ []) → ⊥
  pub beyond : IsRingNamed 1 nobody_waits two_rings (0 ∷ 1 ∷ []) → ⊥
  pub nobody : IsRingNamed 3 nobody_waits two_rings [] → ⊥

-- the top call gives it to the word `why`
abbrev pub IsWhyCall : PlainCall Answer → Type 0
IsWhyCall c =
    (c.words ≡ 0)
    × ServesWhy (λ (s : SourceState). s) (λ (k : SinkTells). k.held) (λ (k : SinkTells). k.faults)
    (λ (k : SinkTells). k.pace) c.answer c.source c.source_after c.sink c.sink_after

-- it answers so where the input is these bytes
abbrev pub WhyAnswered : List ℕ → Answer → PlainCall Answer → Type 0
WhyAnswered = AnswersSo IsWhyCall outcome_of

-- why the second writer waits
abbrev pub writer_why : List ℕ
writer_why = codes "no ring\nb wants s write, which a holds by write\n"

-- why each of the two waits that change to write, the one or the other first
abbrev pub first_why : List ℕ
first_why = codes "ring\na wants s write, which b holds by read\nb wants s write, which a holds by read\n"

abbrev pub second_why : List ℕ
second_why = codes "ring\nb wants s write, which a holds by read\na wants s write, which b holds by read\n"

-- each of two clients holds what the other one wants, and two more clients wait behind them: both behind the first in
-- the queue, and one of them for a lock of the second, too
abbrev pub four_script : ScriptData
four_script = record {
  version = 1;
  nodes = 1;
  sets = declared_set (codes "s") 0 ∷ declared_set (codes "t") 0 ∷ [];
  clients =
      declared_client (codes "a") 0 ∷ declared_client (codes "b") 0 ∷
      declared_client (codes "c") 0 ∷ declared_client (codes "d") 0 ∷ [];
  commands =
      (0, Lock 1 Write) ∷ (1, Lock 0 Read) ∷ (0, Lock 0 Write) ∷
      (1, Lock 1 Write) ∷ (2, Lock 0 Write) ∷ (3, Lock 0 Read) ∷ [];
}

abbrev pub four_wait : List Logged
four_wait =
    act 1 0 0 (Grant 0 1 Write ∷ []) ∷
    act 2 0 1 (Grant 1 0 Read ∷ []) ∷
    act 3 0 0 (Wait 0 0 Write ∷ []) ∷
    act 4 0 1 (Wait 1 1 Write ∷ []) ∷
    act 5 0 2 (Wait 2 0 Write ∷ []) ∷
    act 6 0 3 (Wait 3 0 Read ∷ []) ∷
    []

abbrev pub behind_why : List ℕ
behind_why =
    codes "ring\na wants s write, which b holds by read\nb wants t write, which a holds by write\n"
    ++ codes "behind the ring\nc wants s write, which b holds by read\nd wants s read, behind a in the queue\n"

-- what the text says of the ring that is named at the end of a run of some script
pub record WhyRun (script : ScriptData) (run : List Logged) (old new : List ℕ) : Type 0 where
  pub is_run : IsRun script run
  pub at_rest : IsTrue (is_at_rest script (world_after script run))
  pub ring : Option (List ℕ)
  pub none : ring ≡ None → WaitInRing script (world_after script run) → ⊥
  pub some : (clients : List ℕ) → ring ≡ Some clients
      → IsRingNamed (length script.clients) (waits_by_lock script run)
      (waits_for script (world_after script run)) clients
  pub told : new ≡ old ++ why_text script run ring
  pub no_void : script.version ≢ 3 → void_text script run ≡ []

pub record WhyTold : Type 0 where
  pub no_ring : (c : PlainCall Answer) (old new : List ℕ) → WhyAnswered writers_apart Done c → SinkHolds old new c
      → new ≡ old ++ writer_why
  pub ring : (c : PlainCall Answer) (old new : List ℕ) → WhyAnswered both_change Done c → SinkHolds old new c
      → (new ≡ old ++ first_why) ⊎ (new ≡ old ++ second_why)
  pub behind : why_text four_script four_wait (Some (0 ∷ 1 ∷ [])) ≡ behind_why
  pub void : why_text void_script void_moves None
      ≡ codes "no ring\nc wants s read, behind an ask that b gave up\n"
  pub part : (c : PlainCall Answer) (old new : List ℕ) → WhyAnswered writers_apart WriteFault c → SinkHolds old new c
      → IsPartWritten writer_why old new
  -- why nothing is said
  pub bad : (c : PlainCall Answer) (line : ℕ) → WhyAnswered wrong_grant (BadJournal line) c → line ≡ 9
  pub never_bad : (c : PlainCall Answer) (line : ℕ) → WhyAnswered writers_apart (BadJournal line) c → ⊥
  pub never_done : (c : PlainCall Answer) → WhyAnswered wrong_grant Done c → ⊥
  pub fault : (c : PlainCall Answer) (fault : ScriptFault) → WhyAnswered [] (Refused fault) c → fault ≡ no_nodes_fault
  pub never_refused : (c : PlainCall Answer) (fault : ScriptFault) → WhyAnswered writers_apart (Refused fault) c → ⊥
  -- where the input isn't known, the run is one of some script
  pub unknown : (c : PlainCall Answer) (old new : List ℕ) → IsWhyCall c → c.answer ≡ Done → SinkHolds old new c
      → (script : ScriptData) × (run : List Logged) × WhyRun script run old new
