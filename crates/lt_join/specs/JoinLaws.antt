-- What is joined of the texts of the nodes of a run, as statements.
use Rattle.std.specs.Prelude.{◌≡◌, ◌≢◌, ◌<◌, ℕ, false, List, [], length, map, Some, None, Result, Ok, Err, slice_get, Contains, IsTrue, take, bytes_eq}
use Rattle.std.specs.List.{AllByRecursion}
use Rattle.lt_modes.specs.Script.{ScriptData}
use Rattle.lt_spec.specs.NodeMove.{with_commands}
use Rattle.lt_spec.specs.Script.{IsShort}
use Rattle.lt_spec.specs.World.{Logged, world_after, is_at_rest}
use Rattle.lt_text.specs.Text.{lines}
use Rattle.lt_script.specs.Printing.{print_of}
use Rattle.lt_script.specs.Reading.{read_of}
use Rattle.lt_journal.specs.RunLines.{text_of}
use Rattle.lt_journal.specs.Split.{input_parts}
use Rattle.lt_law_journals.specs.Checking.{checked_input}
use Rattle.lt_law_apart.specs.Apart.{NodeNow, AreAllApart, script_apart, run_apart}
use Rattle.lt_checker.specs.declared.error.InputError.{InputError}
use Rattle.lt_checker.specs.declared.error.InputError.TheVariants.{NoMemory}
use Rattle.lt_checker.specs.declared.input.EndedRun.{EndedRun}
use Rattle.lt_checker.specs.Heads.{AnswersInput}
use Rattle.lt_live.specs.OneNode.{IsNodeOfScript}
use Rattle.lt_apart.specs.declared.journal.NodeJournal.{NodeJournal}
use Rattle.lt_apart.specs.Remote.{RemoteData, me, fact_of, IsJournalOfNode}
use Rattle.lt_join.specs.Parts.{RunText, NodeSaid, text_of_node, said_in, shown_entry, joined_text, joined_input}

-- the two texts with which a node ends
abbrev pub texts_of : NodeJournal → RunText
texts_of journal = record { script = journal.script.items; moves = journal.moves.items }

-- those with which a node of the script ends are what it writes
abbrev pub PartsAreWritten : Type 0
PartsAreWritten = (script : ScriptData) (r : RemoteData) (journal : NodeJournal)
    → IsNodeOfScript script (me r) r.station.runner → IsJournalOfNode r journal
    → texts_of journal ≡ text_of_node script (me r) (fact_of r)

-- the nodes of the script are all, each in a process of its own, and all together have no more commands than a text may
-- have
pub record AreShortApart (first : ScriptData) (nodes : List NodeNow) : Type 0 where
  pub apart : AreAllApart first nodes
  pub short : IsShort (script_apart first nodes)

-- what a node writes is read as its script, its number and its moves, these as a journal shows them
abbrev pub PartsAreRead : Type 0
PartsAreRead = (first : ScriptData) (nodes : List NodeNow) (x : ℕ) (n : NodeNow) → AreShortApart first nodes
    → slice_get nodes x ≡ Some n
    → said_in (text_of_node first x n) ≡ Some (record {
      script = with_commands first n.commands;
      node = x;
      log = map (shown_entry first.version) n.part.log;
    })

-- the text is that of one of the nodes
pub record IsTextOfOne (first : ScriptData) (nodes : List NodeNow) (text : RunText) : Type 0 where
  pub place : ℕ
  pub node : NodeNow
  pub here : slice_get nodes place ≡ Some node
  pub text_is : text ≡ text_of_node first place node

-- the texts are those that the nodes wrote, one of each, in any order
pub record AreTextsOfAll (first : ScriptData) (nodes : List NodeNow) (texts : List RunText) : Type 0 where
  pub count : length texts ≡ length nodes
  pub each : AllByRecursion (IsTextOfOne first nodes) texts
  pub all : (x : ℕ) (n : NodeNow) → slice_get nodes x ≡ Some n → Contains texts (text_of_node first x n)

-- the text of the run that all nodes made together: the script with the commands of all, and the run's journal
abbrev pub text_apart : ScriptData → List NodeNow → RunText
text_apart first nodes = record {
  script = print_of (script_apart first nodes);
  moves = text_of (script_apart first nodes) (run_apart first nodes) None;
}

-- that is what their texts are joined to
abbrev pub JoinsToRun : Type 0
JoinsToRun = (first : ScriptData) (nodes : List NodeNow) (texts : List RunText) → AreShortApart first nodes
    → AreTextsOfAll first nodes texts → joined_text texts ≡ Some (text_apart first nodes)

-- a checker that answers an input so took it as the run of the script, or had no memory
abbrev pub IsTakenAs : ScriptData → List Logged → Result EndedRun InputError → Type 0
IsTakenAs script run (Ok ended) = (ended.script ≡ script) × (ended.world.run ≡ run)
IsTakenAs script run (Err NoMemory) = Unit {0}
IsTakenAs script run (Err other) = ⊥

-- the input is that script and the journal of this run of it, and a checker takes it as such
pub record IsAccepted (script : ScriptData) (run : List Logged) (bytes : List ℕ) : Type 0 where
  pub denoted : read_of (take (input_parts bytes).script bytes) ≡ Ok script
  pub checked : checked_input script (lines bytes) ≡ Ok run
  pub taken : (answer : Result EndedRun InputError) → AnswersInput bytes answer → IsTakenAs script run answer

-- the text of the run is accepted, where the run is at rest
abbrev pub JoinedIsAccepted : Type 0
JoinedIsAccepted = (first : ScriptData) (nodes : List NodeNow) → AreShortApart first nodes
    → IsTrue (is_at_rest (script_apart first nodes) (world_after (script_apart first nodes) (run_apart first nodes)))
    → IsAccepted (script_apart first nodes) (run_apart first nodes) (joined_input (text_apart first nodes))

-- the text is one of these, and says this
abbrev pub IsSaid : List RunText → RunText → NodeSaid → Type 0
IsSaid texts text said = Contains texts text × (said_in text ≡ Some said)

-- what nothing is joined of
pub record JoinRefuses : Type 0 where
  -- no text
  pub none : joined_text [] ≡ None
  -- a text that says nothing of one node
  pub unread : (texts : List RunText) (text : RunText) → Contains texts text → said_in text ≡ None
      → joined_text texts ≡ None
  -- no text of some node
  pub missing : (texts : List RunText) (x : ℕ)
      → ((text : RunText) (said : NodeSaid) → IsSaid texts text said → (x < said.script.nodes) × (said.node ≢ x))
      → joined_text texts ≡ None
  -- of the texts of a run's nodes those without one
  pub left_out : (first : ScriptData) (nodes : List NodeNow) (texts : List RunText) (x : ℕ) → AreShortApart first nodes
      → x < first.nodes
      → AllByRecursion (λ (text : RunText). (one : IsTextOfOne first nodes text) × (one.place ≢ x)) texts
      → joined_text texts ≡ None
  -- more texts than nodes, or fewer
  pub counted : (texts : List RunText)
      → ((text : RunText) (said : NodeSaid) → IsSaid texts text said → length texts ≢ said.script.nodes)
      → joined_text texts ≡ None
  -- a text of another script
  pub other : (texts : List RunText) (text second : RunText) (said told : NodeSaid) → IsSaid texts text said
      → IsSaid texts second told
      → bytes_eq (print_of (with_commands said.script [])) (print_of (with_commands told.script [])) ≡ false
      → joined_text texts ≡ None
