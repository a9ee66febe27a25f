-- Frames and their bytes, as laws.
use Rattle.std.specs.Prelude.{◌≡◌, ℕ, ◌+◌, List, [], ◌∷◌, ◌++◌, Some, Ok, Err, slice_get}
use Rattle.std.specs.List.{flat_map, AllByRecursion}
use mathlib.Core.List.{IsPrefix}
use Rattle.lt_modes.specs.State.{Letter}
use Rattle.lt_letters.specs.Laws.{IsBytes}
use Rattle.lt_frames.specs.Frames.{Numbered, frame_bytes, frame_seal, FrameFits}
use Rattle.lt_frames.specs.Reading.{Found, frame_from}
use Rattle.lt_frames.specs.Seen.{on_wire, found_of}
use Rattle.lt_frames.specs.Causes.{IsFrameCause}
use Rattle.lt_frames.specs.declared.frame.Wire.{Wire}
use Rattle.lt_frames.specs.declared.fault.FrameFault.{FrameFault}

-- what was written is read again under the same key, whatever follows
abbrev pub FramesAreRead : Type 0
FramesAreRead = (key : List ℕ) (f : Numbered) (rest : List ℕ) → FrameFits f
    → frame_from key f.wire (frame_bytes key f ++ rest) ≡ Ok (Some (found_of key f))

-- and what is read was written so, and fits
abbrev pub ReadFramesAreWritten : Type 0
ReadFramesAreWritten = (key : List ℕ) (wire : Wire) (bytes : List ℕ) (found : Found) → IsBytes bytes
    → frame_from key wire bytes ≡ Ok (Some found)
    → (rest : List ℕ) × ((bytes ≡ frame_bytes key (on_wire wire found) ++ rest)
    × (FrameFits (on_wire wire found) × (found ≡ found_of key (on_wire wire found))))

-- a fault has its cause in the bytes alone
abbrev pub FrameFaultsHaveCauses : Type 0
FrameFaultsHaveCauses = (key : List ℕ) (wire : Wire) (bytes : List ℕ) (fault : FrameFault) → IsBytes bytes
    → frame_from key wire bytes ≡ Err fault → IsFrameCause key wire fault bytes

-- where the bytes of some frames are first bytes of those of others, the frames are first ones of those
abbrev pub FramesArePrefix : Type 0
FramesArePrefix = (key : List ℕ) (brought given : List Numbered)
    → AllByRecursion FrameFits brought → AllByRecursion FrameFits given
    → IsPrefix (flat_map (frame_bytes key) brought) (flat_map (frame_bytes key) given) → IsPrefix brought given

-- the letters of a wire, numbered from this one on
abbrev pub numbered : Wire → ℕ → List Letter → List Numbered
numbered wire k [] = []
numbered wire k (letter ∷ letters) =
    record { wire = wire; number = k; letter = letter } ∷ numbered wire (k + 1) letters

-- this frame is among those that went by its wire, whose letters are these
abbrev pub IsOneOf : (Wire → List Letter) → Numbered → Type 0
IsOneOf letters f = (k : ℕ) × (slice_get (numbered f.wire 0 (letters f.wire)) k ≡ Some f)

-- each frame that was taken in has the seal of one that was given out by a wire
abbrev pub BearSealsOf : List ℕ → (Wire → List Letter) → (Wire → List Letter) → Type 0
BearSealsOf key given taken = (f : Numbered) → IsOneOf taken f
    → (g : Numbered) × (IsOneOf given g × (frame_seal key g ≡ frame_seal key f))

-- and no other frame with the seal of one that was given out was taken in
abbrev pub HaveNoDouble : List ℕ → (Wire → List Letter) → (Wire → List Letter) → Type 0
HaveNoDouble key given taken = (f g : Numbered) → IsOneOf taken f → IsOneOf given g
    → frame_seal key g ≡ frame_seal key f → g ≡ f

-- of frames that were taken in with the numbers from 0 on, whatever was lost, came again or came in another order, and
-- by whatever wire it came: the letters that were taken in by a wire are first ones of those that were given out by it
abbrev pub SealedArePrefix : Type 0
SealedArePrefix = (key : List ℕ) (given taken : Wire → List Letter)
    → BearSealsOf key given taken → HaveNoDouble key given taken
    → (wire : Wire) → IsPrefix (taken wire) (given wire)
