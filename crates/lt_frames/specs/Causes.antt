-- Why bytes are no frame.
use Rattle.std.specs.Prelude.{◌≡◌, ◌≢◌, ◌<◌, ◌≤◌, ◌+◌, ◌⊎◌, ℕ, List, ◌++◌, length}
use Rattle.lt_letters.specs.Causes.{IsCause}
use Rattle.lt_frames.specs.Sealing.{seal_of}
use Rattle.lt_frames.specs.Frames.{Numbered, head_bytes, frame_bytes, FrameFits}
use Rattle.lt_frames.specs.declared.frame.TheConstants.{HEAD, SEAL, VERSION, MAX_LETTER}
use Rattle.lt_frames.specs.declared.frame.Wire.{Wire}
use Rattle.lt_frames.specs.declared.head.Head.{Head}
use Rattle.lt_frames.specs.declared.fault.FrameFault.{FrameFault}
use Rattle.lt_frames.specs.declared.fault.FrameFault.TheVariants.{TooLong, Version, Service, Sender, Receiver, Seal, Letter}

-- the bytes begin with a head of which this holds
abbrev pub BeginWithHead : (Head → Type 0) → List ℕ → Type 0
BeginWithHead P bytes = (h : Head) × ((rest : List ℕ) × ((bytes ≡ head_bytes h ++ rest) × P h))

-- a head of this version and wire, of a letter that is not too long
abbrev pub IsHeadOf : Wire → Head → Type 0
IsHeadOf wire h = (h.length ≤ MAX_LETTER) × ((h.version ≡ VERSION) × (h.wire ≡ wire))

-- not all of a frame is there: less than a head, or less than the length in a head of this wire says
abbrev pub IsUnfinished : Wire → List ℕ → Type 0
IsUnfinished wire bytes = (length bytes < HEAD)
    ⊎ BeginWithHead (λ h. IsHeadOf wire h × (length bytes < HEAD + h.length + SEAL)) bytes

-- a head of this wire, as many bytes as its length says, and as many as a seal has, of which this holds
abbrev pub BeginWithSealed : Wire → (Head → List ℕ → List ℕ → Type 0) → List ℕ → Type 0
BeginWithSealed wire P bytes = (h : Head) × ((text : List ℕ) × ((seal : List ℕ) × ((rest : List ℕ)
    × ((bytes ≡ head_bytes h ++ (text ++ (seal ++ rest)))
    × (IsHeadOf wire h × ((length text ≡ h.length) × ((length seal ≡ SEAL) × P h text seal)))))))

-- why this is the fault for one who has this key and reads frames of this wire
abbrev pub IsFrameCause : List ℕ → Wire → FrameFault → List ℕ → Type 0
IsFrameCause key wire TooLong bytes = BeginWithHead (λ h. MAX_LETTER < h.length) bytes
IsFrameCause key wire Version bytes = BeginWithHead (λ h. h.version ≢ VERSION) bytes
IsFrameCause key wire Service bytes = BeginWithHead (λ h. h.wire.service ≢ wire.service) bytes
IsFrameCause key wire Sender bytes = BeginWithHead (λ h. h.wire.from ≢ wire.from) bytes
IsFrameCause key wire Receiver bytes = BeginWithHead (λ h. h.wire.to ≢ wire.to) bytes
IsFrameCause key wire Seal bytes =
    BeginWithSealed wire (λ h text seal. seal ≢ seal_of key (head_bytes h ++ text)) bytes
IsFrameCause key wire (Letter fault) bytes =
    BeginWithSealed wire (λ h text seal. (seal ≡ seal_of key (head_bytes h ++ text)) × IsCause fault text) bytes

-- a frame of this wire, and what follows it
abbrev pub BeginWithFrame : List ℕ → Wire → List ℕ → Type 0
BeginWithFrame key wire bytes = (f : Numbered) × ((rest : List ℕ)
    × ((f.wire ≡ wire) × ((bytes ≡ frame_bytes key f ++ rest) × FrameFits f)))
