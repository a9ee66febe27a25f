-- The bytes of a frame.
use Rattle.std.specs.Prelude.{ℕ, ◌<◌, ◌≤◌, ◌^◌, List, ◌++◌, length}
use Rattle.lt_modes.specs.State.{Letter}
use Rattle.lt_letters.specs.Spelling.{byte, number32, number64, letter_bytes, LetterFits}
use Rattle.lt_frames.specs.Sealing.{seal_of}
use Rattle.lt_frames.specs.declared.frame.TheConstants.{VERSION, MAX_LETTER}
use Rattle.lt_frames.specs.declared.frame.Wire.{Wire}
use Rattle.lt_frames.specs.declared.head.Head.{Head}

-- a letter on its way: by which wire it goes, and its number among those of this wire
pub record Numbered : Type 0 where
  pub wire : Wire
  pub number : ℕ
  pub letter : Letter

abbrev pub head_bytes : Head → List ℕ
head_bytes h =
    number32 h.length ++ (byte h.version ++ (number64 h.wire.service
    ++ (byte h.wire.from ++ (byte h.wire.to ++ number64 h.number))))

-- what stands before the letter
abbrev pub head_of : Numbered → Head
head_of f = record {
  length = length (letter_bytes f.letter);
  version = VERSION;
  wire = f.wire;
  number = f.number;
}

-- what is sealed: the head and the letter
abbrev pub sealed_bytes : Numbered → List ℕ
sealed_bytes f = head_bytes (head_of f) ++ letter_bytes f.letter

-- the seal of a frame
abbrev pub frame_seal : List ℕ → Numbered → List ℕ
frame_seal key f = seal_of key (sealed_bytes f)

abbrev pub frame_bytes : List ℕ → Numbered → List ℕ
frame_bytes key f = sealed_bytes f ++ frame_seal key f

-- numbers of the sizes that the code has
abbrev pub WireFits : Wire → Type 0
WireFits w = (w.service < 2 ^ 64) × ((w.from < 256) × (w.to < 256))

-- what has a frame: a letter that is not too long
abbrev pub FrameFits : Numbered → Type 0
FrameFits f =
    WireFits f.wire × ((f.number < 2 ^ 64) × (LetterFits f.letter × (length (letter_bytes f.letter) ≤ MAX_LETTER)))
