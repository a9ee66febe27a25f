-- A node in a process of its own, and what the calls of C on it do.
use Rattle.std.specs.Prelude.{◌≡◌, ◌≢◌, ◌<◌, ◌≤◌, ◌++◌, ◌⊎◌, ℕ, false, List, [], Option, Some, None, Ok, Err, Vec, length, take, drop, slice_get, IsSome, All}
use Rattle.std.specs.Global.{Global}
use Rattle.lt_modes.specs.Script.{ScriptData}
use Rattle.lt_modes.specs.State.{Letter}
use Rattle.lt_mail.specs.Words.{sent_to}
use Rattle.lt_script.specs.declared.fault.ScriptFault.{ScriptFault}
use Rattle.lt_script.specs.Reading.{read_of}
use Rattle.lt_frames.specs.Sealing.{service_number}
use Rattle.lt_frames.specs.declared.fault.WriteError.{WriteError}
use Rattle.lt_frames.specs.declared.fault.WriteError.TheVariants as writing
use Rattle.lt_runner.specs.Choices.{misfit}
use Rattle.lt_live.specs.declared.ends.Session.{Session}
use Rattle.lt_live.specs.Live.{StationGoesOn}
use Rattle.lt_live.specs.Stations.{most_share}
use Rattle.lt_apart.specs.declared.fault.WireFault.{WireFault}
use Rattle.lt_apart.specs.declared.fault.WireFault.TheVariants as faults
use Rattle.lt_apart.specs.Remote.{RemoteData, IsOpenRemote, CarriesNone, brought, given, me, nodes}
use Rattle.lt_apart.specs.Carrying.{wire_from, wire_to, GivesOut, OnlyGives, HasGivenAll, NextIsTooLong, BringsIn, OnlyBrings, WaitsForMore}
use Rattle.lt_apart.specs.Faults.{IsWireCause}
use Rattle.lt_live_c.specs.declared.code.TheConstants.{OK, NOTHING, NO_MEMORY, BAD_ARGUMENT, BAD_SCRIPT, FULL, OTHER_VERSION, OTHER_SERVICE, OTHER_NODE, MISSING, AGAIN, TOO_LONG, BAD_SEAL, NO_LETTER, MISFIT}
use Rattle.lt_live_c.specs.OwnNode.{OwnNode}
use Rattle.lt_live_c.specs.Opening.{fits_for_c}

-- the bytes of an item, or none
abbrev pub bytes_of : Option (Vec ℕ Global) → List ℕ
bytes_of None = []
bytes_of (Some bytes) = bytes.items

-- the bytes of the frame for the node that found no room
abbrev pub unsent : OwnNode → ℕ → List ℕ
unsent n to = bytes_of (slice_get n.ready to)

-- another node of the script
abbrev pub IsPeer : OwnNode → ℕ → Type 0
IsPeer n node = (node < nodes n.remote) × (node ≢ me n.remote)

-- no letter went out or came in, and all else but the station stays
pub record KeepsLetters (a b : OwnNode) : Type 0 where
  pub carried : CarriesNone a.remote b.remote
  pub sessions : b.sessions ≡ a.sessions
  pub ready : b.ready ≡ a.ready

-- its station goes on, and all else stays
abbrev pub NodeGoesOn : OwnNode → OwnNode → Type 0
NodeGoesOn a b = StationGoesOn a.remote.station b.remote.station × KeepsLetters a b

-- no frame waits for room
abbrev pub NoFrameWaits : List (Vec ℕ Global) → Type 0
NoFrameWaits ready = All (λ (bytes : Vec ℕ Global). bytes.items ≡ []) ready

-- Opening.

-- the node of the script that the text denotes, without its commands, at its start
pub record IsOpenedNode (text : List ℕ) (node : ℕ) (key : List ℕ) (start limit places : ℕ) (n : OwnNode) : Type 0 where
  pub script : ScriptData
  pub read : read_of text ≡ Ok script
  pub inside : node < script.nodes
  pub opened : IsOpenRemote (record script { commands = [] }) node (service_number text start) key limit places
      (most_share script) n.remote n.sessions
  pub unsent_none : NoFrameWaits n.ready

-- a number is out of range, the text is too long, or its script has no such node
abbrev pub IsOutOfRange : List ℕ → ℕ → ℕ → ℕ → Type 0
IsOutOfRange text node limit places =
    (fits_for_c text limit places ≡ false) ⊎ ((script : ScriptData) × ((read_of text ≡ Ok script)
    × (script.nodes ≤ node)))

-- why no node was opened
pub record NodeOpenRefused (code : ℕ) (text : List ℕ) (node limit places : ℕ) : Type 0 where
  pub bad_argument : code ≡ BAD_ARGUMENT → IsOutOfRange text node limit places
  pub unfit : fits_for_c text limit places ≡ false → code ≡ BAD_ARGUMENT
  pub bad_script : code ≡ BAD_SCRIPT → (fault : ScriptFault) × (read_of text ≡ Err fault)
  pub only : (code ≡ BAD_ARGUMENT) ⊎ ((code ≡ BAD_SCRIPT) ⊎ (code ≡ NO_MEMORY))

-- Letters that go out.

-- the number by which C is told why no frame was written
abbrev pub number_of_error : WriteError → ℕ
number_of_error writing.Memory = NO_MEMORY
number_of_error writing.TooLong = TOO_LONG

-- what was unsent, or else the frame of the next letter, is these bytes and what is unsent then; nothing else
-- happened
pub record PassesOn (to : ℕ) (sent : List ℕ) (a b : OwnNode) : Type 0 where
  pub count : ℕ
  pub frames : GivesOut a.remote.key (wire_to a.remote to) count (given a.remote to) (given b.remote to)
      (unsent a to) (sent ++ unsent b to)
  pub one : count ≤ 1
  pub in_order : unsent a to ≢ [] → count ≡ 0
  pub others : (node : ℕ) → node ≢ to → unsent b node ≡ unsent a node
  pub only : OnlyGives to a.remote.station b.remote.station a.remote.far b.remote.far
  pub same : (b.remote.service ≡ a.remote.service) × (b.remote.key ≡ a.remote.key)
  pub sessions : b.sessions ≡ a.sessions

-- so many bytes stand at the front of the buffer, and those behind them stay
pub record SendsBytes (code to length_now : ℕ) (buffer buffer_now : List ℕ) (a b : OwnNode) : Type 0 where
  pub code_is : code ≡ OK
  pub within : length_now ≤ length buffer
  pub same_size : length buffer_now ≡ length buffer
  pub some : 0 < length_now
  pub passes : PassesOn to (take length_now buffer_now) a b
  pub unsent_none : unsent b to ≡ []
  pub rest : drop length_now buffer_now ≡ drop length_now buffer

-- why no letter was given out
abbrev pub HasNoFrame : ℕ → ℕ → RemoteData → Type 0
HasNoFrame code to b =
    ((code ≡ NOTHING) × HasGivenAll to b.station.runner b.far)
    ⊎ ((code ≡ NO_MEMORY) ⊎ ((code ≡ TOO_LONG) × NextIsTooLong to b.station.runner b.far))

-- nothing is unsent, and why no letter was given out
pub record SendsNone (code to length_was length_now : ℕ) (buffer buffer_now : List ℕ) (a b : OwnNode) : Type 0 where
  pub passes : PassesOn to [] a b
  pub unsent_none : unsent b to ≡ []
  pub why : HasNoFrame code to b.remote
  pub stays : (length_now ≡ length_was) × (buffer_now ≡ buffer)

-- what is unsent finds no room in the buffer, and C is told how much it wants
pub record SendsLater (code to length_now : ℕ) (buffer buffer_now : List ℕ) (a b : OwnNode) : Type 0 where
  pub code_is : code ≡ FULL
  pub passes : PassesOn to [] a b
  pub wants : length_now ≡ length (unsent b to)
  pub no_room : length buffer < length_now
  pub stays : buffer_now ≡ buffer

abbrev pub SendsFrames : ℕ → ℕ → ℕ → ℕ → List ℕ → List ℕ → OwnNode → OwnNode → Type 0
SendsFrames code to length_was length_now buffer buffer_now a b =
    SendsBytes code to length_now buffer buffer_now a b
    ⊎ (SendsNone code to length_was length_now buffer buffer_now a b ⊎ SendsLater code to length_now buffer
    buffer_now a b)

-- what was unsent, or else the frame of the next letter, is these bytes; nothing else happened
pub record GivesFrame (to : ℕ) (unsent_was unsent_now : List ℕ) (a b : RemoteData) : Type 0 where
  pub count : ℕ
  pub frames : GivesOut a.key (wire_to a to) count (given a to) (given b to) unsent_was unsent_now
  pub one : count ≤ 1
  pub in_order : unsent_was ≢ [] → count ≡ 0
  pub only : OnlyGives to a.station b.station a.far b.far
  pub same : (b.service ≡ a.service) × (b.key ≡ a.key)

-- the frame stands at the front of the buffer, and is gone
pub record IsInBuffer (code length_now : ℕ) (frame frame_now buffer buffer_now : List ℕ) : Type 0 where
  pub code_is : code ≡ OK
  pub size : length_now ≡ length frame
  pub room : length frame ≤ length buffer
  pub gone : frame_now ≡ []
  pub stands : buffer_now ≡ frame ++ drop (length frame) buffer

-- the frame finds no room in the buffer, and stays
pub record FindsNoRoom (code length_now : ℕ) (frame frame_now buffer buffer_now : List ℕ) : Type 0 where
  pub code_is : code ≡ FULL
  pub wants : length_now ≡ length frame
  pub no_room : length buffer < length frame
  pub stays : (frame_now ≡ frame) × (buffer_now ≡ buffer)

-- it went into the buffer, or finds no room
abbrev pub GoesToBuffer : ℕ → ℕ → List ℕ → List ℕ → List ℕ → List ℕ → Type 0
GoesToBuffer code length_now frame frame_now buffer buffer_now =
    IsInBuffer code length_now frame frame_now buffer buffer_now
    ⊎ FindsNoRoom code length_now frame frame_now buffer buffer_now

-- Letters that come in.

-- the number by which C is told why a frame was not received
abbrev pub number_of_fault : WireFault → ℕ
number_of_fault faults.Memory = NO_MEMORY
number_of_fault faults.TooLong = TOO_LONG
number_of_fault faults.Version = OTHER_VERSION
number_of_fault faults.Service = OTHER_SERVICE
number_of_fault faults.Sender = OTHER_NODE
number_of_fault faults.Receiver = OTHER_NODE
number_of_fault faults.Seal = BAD_SEAL
number_of_fault (faults.Letter fault) = NO_LETTER
number_of_fault faults.Again = AGAIN
number_of_fault faults.Missing = MISSING

-- no letter that came before was one that fits no node; the letters of the frames that these bytes begin with came in,
-- and nothing else happened
pub record ReceivesLetters (from used : ℕ) (bytes : List ℕ) (a b : OwnNode) : Type 0 where
  pub brings : BringsIn a.remote.key (wire_from a.remote from) used (brought a.remote from)
      (brought b.remote from) bytes
  pub fits : misfit a.remote.station.runner ≡ None
  pub only : OnlyBrings from a.remote.far b.remote.far
  pub same : (b.remote.service ≡ a.remote.service) × (b.remote.key ≡ a.remote.key)
      × (b.remote.station ≡ a.remote.station)
  pub sessions : b.sessions ≡ a.sessions
  pub ready : b.ready ≡ a.ready

-- no whole frame is left, or there is no place for it
pub record ReceivesAll (code from used : ℕ) (bytes : List ℕ) (a b : OwnNode) : Type 0 where
  pub code_is : code ≡ OK
  pub rest : WaitsForMore (wire_from a.remote from) b.remote.far (drop used bytes)

-- so it is; or why a frame was refused
abbrev pub ReceiveEnds : ℕ → ℕ → ℕ → List ℕ → OwnNode → OwnNode → Type 0
ReceiveEnds code from used bytes a b =
    ReceivesAll code from used bytes a b
    ⊎ ((fault : WireFault) × ((code ≡ number_of_fault fault)
    × IsWireCause a.remote.key (wire_from a.remote from) (brought b.remote from) fault (drop used bytes)))

-- a letter that came before fits no node of this script, and nothing happened
pub record HasMisfit (code used_was used : ℕ) (a b : OwnNode) : Type 0 where
  pub code_is : code ≡ MISFIT
  pub misfits : IsSome (misfit a.remote.station.runner)
  pub stays : (b ≡ a) × (used ≡ used_was)

abbrev pub Receives : ℕ → ℕ → ℕ → ℕ → List ℕ → OwnNode → OwnNode → Type 0
Receives code from used_was used bytes a b =
    HasMisfit code used_was used a b ⊎ (ReceivesLetters from used bytes a b × ReceiveEnds code from used bytes a b)

-- What waits.

-- the letters that the node sent to another one
abbrev pub sent_by : OwnNode → ℕ → List Letter
sent_by n to = sent_to n.remote.station.runner.mail to

-- no letter went out or came in, and all else stays, but that letters may have gone on to their rings
pub record LooksForLetters (to : ℕ) (a b : OwnNode) : Type 0 where
  pub keeps : KeepsLetters a b
  pub only : OnlyGives to a.remote.station b.remote.station a.remote.far b.remote.far

-- something waits to be sent to the node, or all was sent
abbrev pub IsPending : ℕ → ℕ → OwnNode → Type 0
IsPending code to b =
    ((code ≡ OK) × ((unsent b to ≢ []) ⊎ (length (given b.remote to) < length (sent_by b to))))
    ⊎ ((code ≡ NOTHING) × ((unsent b to ≡ []) × (sent_by b to ≡ given b.remote to)))

pub record TellsPending (code to : ℕ) (a b : OwnNode) : Type 0 where
  pub looks : LooksForLetters to a b
  pub tells : IsPending code to b

-- Parts of the above.

-- the node of this script at its start, without the script's commands
pub record IsNodeStart (script : ScriptData) (node service : ℕ) (key : List ℕ) (limit places : ℕ)
    (n : OwnNode) : Type 0 where
  pub opened : IsOpenRemote (record script { commands = [] }) node service key limit places
      (most_share script) n.remote n.sessions
  pub empty : NoFrameWaits n.ready

-- it is the first session that wasn't taken, and the others are left
pub record TakesOwnSession (session : Session) (a b : OwnNode) : Type 0 where
  pub first : slice_get a.sessions 0 ≡ Some session
  pub rest : b.sessions ≡ drop 1 a.sessions
  pub remote : b.remote ≡ a.remote
  pub ready : b.ready ≡ a.ready
