-- The laws of merging, as statements.
use Rattle.std.specs.Prelude.{◌≡◌, ◌<◌, ◌≤◌, ◌+◌, ◌^◌, ℕ, List, [], ◌∷◌, length, take, slice_index, filter, IsTrue, Contains}
use Rattle.lt_modes.specs.declared.moves.Step.TheVariants.{Act, Take}
use Rattle.lt_modes.specs.Script.{ScriptData}
use Rattle.lt_modes.specs.State.{Letter, Desk, TokenBody}
use Rattle.lt_modes.specs.Fits.{head_fits, numbers_of}
use Rattle.lt_spec.specs.NodeMove.{IsWhole}
use Rattle.lt_spec.specs.World.{Logged, World, start, is_enabled, is_of_node, world_after, IsRun}
use Rattle.lt_lists.specs.Below.{sum_below}
use Rattle.lt_spec.specs.Plays.{OfLetter, can_act, can_make_move}
use Rattle.lt_law_plays.specs.Merged.{Logs, ArePlays, merged, token_goes}
use Rattle.lt_merge.specs.Merging.{IsMerged}

-- plays of all nodes, merged by stamps, are a run
abbrev pub MergedIsRun : Type 0
MergedIsRun = (script : ScriptData) (l : Logs) (run : List Logged) → ArePlays script l → IsMerged l.log run → IsRun script run

-- the world of the plays in this order: the last states, the letters that are left, and where the tokens went, first to node 0
abbrev pub joined_world : ScriptData → Logs → List Logged → World
joined_world script l run = record {
  node = l.last;
  mail = l.rest;
  went = λ s. 0 ∷ token_goes script s (start script).node l.used run;
}

-- and the world after that run is the world of the plays
abbrev pub MergedEnds : Type 0
MergedEnds = (script : ScriptData) (l : Logs) (run : List Logged) → ArePlays script l → IsMerged l.log run
    → world_after script run ≡ joined_world script l run

-- there is such a list
abbrev pub MergedExists : Type 0
MergedExists = (script : ScriptData) (l : Logs) → ArePlays script l → IsMerged l.log (merged script.nodes l.log)

-- it is as long as the logs together
abbrev pub MergedHasAll : Type 0
MergedHasAll = (script : ScriptData) (l : Logs) (run : List Logged) → ArePlays script l → IsMerged l.log run
    → length run ≡ sum_below script.nodes (λ x. length (l.log x))

-- and there is no other
abbrev pub MergedIsOne : Type 0
MergedIsOne = (log : ℕ → List Logged) (run other : List Logged) → IsMerged log run → IsMerged log other → run ≡ other

-- the first letter that is left, which may be in the hand of its receiver, is in front in the world after the run
abbrev pub HandIsFront : Type 0
HandIsFront = (script : ScriptData) (l : Logs) (run : List Logged) → ArePlays script l → IsMerged l.log run
    → (p q : ℕ) (letter : Letter) (others : List Letter) → l.rest p q ≡ letter ∷ others → (world_after script run).mail p q ≡ letter ∷ others

-- each letter that was sent was on its way after some of the moves: what the laws say of letters on their way is so of it
abbrev pub SentWereOnWay : Type 0
SentWereOnWay = (script : ScriptData) (l : Logs) (run : List Logged) → ArePlays script l → IsMerged l.log run
    → (p q : ℕ) (letter : Letter) → Contains (l.sent p q) letter → (k : ℕ) × Contains ((world_after script (take k run)).mail p q) letter

-- and each letter that was on its way after some of the moves was sent
abbrev pub OnWayWereSent : Type 0
OnWayWereSent = (script : ScriptData) (l : Logs) (run : List Logged) → ArePlays script l → IsMerged l.log run
    → (k p q : ℕ) (letter : Letter) → Contains ((world_after script (take k run)).mail p q) letter → Contains (l.sent p q) letter

-- the letter carries the token of the set, with this epoch
abbrev pub CarriesToken : ℕ → ℕ → Letter → Type 0
CarriesToken s epoch letter = (letter.set ≡ s) × (desk : Desk) × (letter.body ≡ TokenBody desk) × (desk.epoch ≡ epoch)

-- the token history has q at the epoch of each letter to q that carried the token
abbrev pub TokenStands : Type 0
TokenStands = (script : ScriptData) (l : Logs) (run : List Logged) → 0 < script.nodes → ArePlays script l → IsMerged l.log run
    → (p q s epoch : ℕ) (letter : Letter) → p < script.nodes → Contains (l.sent p q) letter → CarriesToken s epoch letter
    → slice_index ((world_after script run).went s) epoch ≡ q

-- and at each of its places but the first stands a node to which such a letter was sent with this epoch
abbrev pub TokenCame : Type 0
TokenCame = (script : ScriptData) (l : Logs) (run : List Logged) → 0 < script.nodes → ArePlays script l → IsMerged l.log run
    → (s epoch : ℕ) → 1 ≤ epoch → epoch < length ((world_after script run).went s)
    → (p : ℕ) × (letter : Letter) × (p < script.nodes) × Contains (l.sent p (slice_index ((world_after script run).went s) epoch)) letter
    × CarriesToken s epoch letter

-- what a node can do in the world after the run is what can be told from its last state and from the letters that are left
abbrev pub EnabledIsSeen : Type 0
EnabledIsSeen = (script : ScriptData) (l : Logs) (run : List Logged) → ArePlays script l → IsMerged l.log run
    → ((q client : ℕ) → is_enabled script (world_after script run) q (Act client) ≡ can_act script q (l.last q) client)
    × ((p q : ℕ) (letter : Letter) (others : List Letter) → l.rest p q ≡ letter ∷ others
    → is_enabled script (world_after script run) q (Take p) ≡ can_make_move script q (l.last q) (OfLetter p letter))

-- no clock is above the number of entries in all logs
abbrev pub ClocksAreCounted : Type 0
ClocksAreCounted = (script : ScriptData) (l : Logs) → ArePlays script l
    → (x : ℕ) → (l.last x).clock ≤ sum_below script.nodes (λ y. length (l.log y))

-- and neither is that of a letter that was sent
abbrev pub LettersAreCounted : Type 0
LettersAreCounted = (script : ScriptData) (l : Logs) → ArePlays script l
    → (p q : ℕ) (letter : Letter) → Contains (l.sent p q) letter → letter.stamp.clock ≤ sum_below script.nodes (λ y. length (l.log y))

-- so where all nodes together make fewer than 2^62 - 1 moves, what each node tests first of a letter holds of every letter that was
-- sent to it: its set, its link and the clocks
abbrev pub HeadsFit : Type 0
HeadsFit = (script : ScriptData) (l : Logs) → IsWhole script → ArePlays script l → sum_below script.nodes (λ y. length (l.log y)) + 1 < 2 ^ 62
    → (p q : ℕ) (letter : Letter) → p < script.nodes → Contains (l.sent p q) letter → IsTrue (head_fits (numbers_of script) (l.last q).clock letter)

-- what nodes log in a run, where they use and send these letters
abbrev pub logs_of : ScriptData → List Logged → (ℕ → ℕ → List Letter) → (ℕ → ℕ → List Letter) → Logs
logs_of script run used sent = record {
  log = λ x. filter (is_of_node x) run;
  last = (world_after script run).node;
  used = used;
  sent = sent;
  rest = (world_after script run).mail;
}

-- the part of each node in a run is a play: of these letters used and sent, with the node's last state, and with the letters left
-- that are on their way
abbrev pub RunsArePlays : Type 0
RunsArePlays = (script : ScriptData) (run : List Logged) → IsRun script run → ((x : ℕ) → script.nodes ≤ x → filter (is_of_node x) run ≡ [])
    → (used sent : ℕ → ℕ → List Letter) × ArePlays script (logs_of script run used sent)
