-- Letters that go out and come in as bytes.
use Rattle.std.specs.Prelude.{◌≡◌, ◌≢◌, ◌<◌, ◌≤◌, ◌+◌, ◌^◌, ◌⊎◌, ℕ, Bool, true, false, List, ◌∷◌, ◌++◌, Result, Ok, Err, Option, Some, None, length, take, drop}
use Rattle.std.specs.List.{flat_map}
use Rattle.lt_modes.specs.State.{Letter}
use Rattle.lt_letters.specs.Spelling.{letter_bytes}
use Rattle.lt_mail.specs.declared.mail.Mail.{Mail}
use Rattle.lt_mail.specs.Words.{sent_to, taken_from, IsFullTo}
use Rattle.lt_frames.specs.declared.frame.TheConstants.{MAX_LETTER}
use Rattle.lt_frames.specs.declared.frame.Wire.{Wire}
use Rattle.lt_frames.specs.Causes.{IsUnfinished}
use Rattle.lt_frames.specs.Frames.{frame_bytes}
use Rattle.lt_frames.specs.Laws.{numbered}
use Rattle.lt_runner.specs.declared.parts.Parts.{Parts}
use Rattle.lt_runner.specs.Kept.{AsSeen}
use Rattle.lt_live.specs.Stations.{StationData}
use Rattle.lt_apart.specs.declared.fault.Refused.{Refused}
use Rattle.lt_apart.specs.declared.fault.WireFault.{WireFault}
use Rattle.lt_apart.specs.Faults.{IsWireCause}
use Rattle.lt_apart.specs.Remote.{RemoteData, me}

-- how letters of the other node come, and how those for it go
abbrev pub wire_from : RemoteData → ℕ → Wire
wire_from r from = record { service = r.service; from = from; to = me r }

abbrev pub wire_to : RemoteData → ℕ → Wire
wire_to r to = record { service = r.service; from = me r; to = to }

-- the frames of these letters, numbered from this one on
abbrev pub frames : List ℕ → Wire → ℕ → List Letter → List ℕ
frames key wire number letters = flat_map (frame_bytes key) (numbered wire number letters)

-- there is no number left for a further letter
abbrev pub HaveNoNumber : List Letter → Type 0
HaveNoNumber letters = 2 ^ 64 ≤ length letters + 1

-- so many letters more went by the wire, and their frames, numbered on, stand at the end of the bytes
pub record GivesOut (key : List ℕ) (wire : Wire) (count : ℕ) (before after : List Letter)
    (out out_now : List ℕ) : Type 0 where
  pub letters : List Letter
  pub count_is : length letters ≡ count
  pub goes_on : after ≡ before ++ letters
  pub bytes : out_now ≡ out ++ frames key wire (length before) letters

-- the first bytes are the frames of the letters that came by the wire, numbered on
pub record BringsIn (key : List ℕ) (wire : Wire) (used : ℕ) (before after : List Letter) (bytes : List ℕ) : Type 0 where
  pub letters : List Letter
  pub goes_on : after ≡ before ++ letters
  pub within : used ≤ length bytes
  pub bytes_are : take used bytes ≡ frames key wire (length before) letters

-- nothing happened to the station but that letters may have gone on to their rings, and what went by the others stays
pub record OnlyGives (to : ℕ) (a b : StationData) (far far_now : Mail) : Type 0 where
  pub runner : AsSeen a.runner b.runner
  pub seats : b.seats ≡ a.seats
  pub brought_stays : (node : ℕ) → sent_to far_now node ≡ sent_to far node
  pub others : (node : ℕ) → node ≢ to → taken_from far_now node ≡ taken_from far node

-- the frame at the front was taken in, and has some bytes; or nothing was
abbrev pub BringsNext : List ℕ → Wire → Result (Option ℕ) WireFault → List Letter → List Letter → List ℕ → Type 0
BringsNext key wire (Ok (Some size)) before after bytes = BringsIn key wire size before after bytes × (0 < size)
BringsNext key wire (Ok None) before after bytes = after ≡ before
BringsNext key wire (Err fault) before after bytes = after ≡ before

-- what went out and what came from others stays
pub record OnlyBrings (from : ℕ) (far far_now : Mail) : Type 0 where
  pub given_stays : (node : ℕ) → taken_from far_now node ≡ taken_from far node
  pub others : (node : ℕ) → node ≢ from → sent_to far_now node ≡ sent_to far node

-- all letters that the node sent to the other one were given out, or there is no number for the next one
abbrev pub HasGivenAll : ℕ → Parts → Mail → Type 0
HasGivenAll to p far = (sent_to p.mail to ≡ taken_from far to) ⊎ HaveNoNumber (taken_from far to)

-- the next letter to the other node has more bytes than a letter may have
abbrev pub NextIsTooLong : ℕ → Parts → Mail → Type 0
NextIsTooLong to p far = (letter : Letter) × ((rest : List Letter)
    × ((sent_to p.mail to ≡ taken_from far to ++ letter ∷ rest) × (MAX_LETTER < length (letter_bytes letter))))

-- no whole frame is there yet, or the ring has no place, or there is no number for a further letter
abbrev pub WaitsForMore : Wire → Mail → List ℕ → Type 0
WaitsForMore wire far rest = IsUnfinished wire rest ⊎ (IsFullTo far wire.from ⊎ HaveNoNumber (sent_to far wire.from))

-- how many bytes were used
abbrev pub letters_used : Result ℕ Refused → ℕ
letters_used (Ok used) = used
letters_used (Err refused) = refused.used

-- how many letters went in the frame, if one went out
abbrev pub gave : Bool → ℕ
gave true = 1
gave false = 0

-- why no more were
abbrev pub StopsBringing : List ℕ → Wire → Mail → List ℕ → Result ℕ Refused → Type 0
StopsBringing key wire far bytes (Ok used) = WaitsForMore wire far (drop used bytes)
StopsBringing key wire far bytes (Err refused) =
    IsWireCause key wire (sent_to far wire.from) refused.fault (drop refused.used bytes)
