-- Why a frame was not taken in.
use Rattle.std.specs.Prelude.{◌≡◌, ◌<◌, ℕ, List, ◌++◌, Option, Some, None, if◌then◌else◌, nat_lt, length}
use Rattle.lt_modes.specs.State.{Letter}
use Rattle.lt_frames.specs.declared.fault.FrameFault.{FrameFault}
use Rattle.lt_frames.specs.declared.fault.FrameFault.TheVariants as frames
use Rattle.lt_frames.specs.declared.frame.Wire.{Wire}
use Rattle.lt_frames.specs.Causes.{IsFrameCause, BeginWithFrame}
use Rattle.lt_frames.specs.Frames.{Numbered, frame_bytes, FrameFits}
use Rattle.lt_apart.specs.declared.fault.WireFault.{WireFault}
use Rattle.lt_apart.specs.declared.fault.WireFault.TheVariants.{Memory, TooLong, Version, Service, Sender, Receiver, Seal, Letter as NoLetter, Again, Missing}

-- a fault of a frame, as one who takes letters in says it
abbrev pub wire_fault : FrameFault → WireFault
wire_fault frames.TooLong = TooLong
wire_fault frames.Version = Version
wire_fault frames.Service = Service
wire_fault frames.Sender = Sender
wire_fault frames.Receiver = Receiver
wire_fault frames.Seal = Seal
wire_fault (frames.Letter fault) = NoLetter fault

-- what is wrong with a frame of this number, where that is the next one
abbrev pub number_fault : ℕ → ℕ → Option WireFault
number_fault number next = if nat_lt number next then Some Again else if nat_lt next number then Some Missing else None

-- the bytes begin with a frame of this wire, of which this holds
abbrev pub BeginWithOne : List ℕ → Wire → (Numbered → Type 0) → List ℕ → Type 0
BeginWithOne key wire P bytes = (f : Numbered) × ((rest : List ℕ)
    × ((f.wire ≡ wire) × ((bytes ≡ frame_bytes key f ++ rest) × (FrameFits f × P f))))

-- why this is the fault of bytes that came by the wire after these letters
abbrev pub IsWireCause : List ℕ → Wire → List Letter → WireFault → List ℕ → Type 0
IsWireCause key wire letters Memory bytes = BeginWithFrame key wire bytes
IsWireCause key wire letters TooLong bytes = IsFrameCause key wire frames.TooLong bytes
IsWireCause key wire letters Version bytes = IsFrameCause key wire frames.Version bytes
IsWireCause key wire letters Service bytes = IsFrameCause key wire frames.Service bytes
IsWireCause key wire letters Sender bytes = IsFrameCause key wire frames.Sender bytes
IsWireCause key wire letters Receiver bytes = IsFrameCause key wire frames.Receiver bytes
IsWireCause key wire letters Seal bytes = IsFrameCause key wire frames.Seal bytes
IsWireCause key wire letters (NoLetter fault) bytes = IsFrameCause key wire (frames.Letter fault) bytes
IsWireCause key wire letters Again bytes = BeginWithOne key wire (λ f. f.number < length letters) bytes
IsWireCause key wire letters Missing bytes = BeginWithOne key wire (λ f. length letters < f.number) bytes
