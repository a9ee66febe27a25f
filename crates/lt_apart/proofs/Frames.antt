-- Frames of further letters.
use Rattle.std.proofs.Common.{◌≡◌, ◌+◌, ℕ, List, [], ◌∷◌, ◌++◌, length, take, drop, refl, sym, ap, ◌∙◌, arith, append-nil, append_assoc, length-append}
use Rattle.std.proofs.Math.Seq.{take-add}
use Rattle.std.proofs.lemmas.List.{length-drop}
use Rattle.lt_modes.specs.State.{Letter}
use Rattle.lt_frames.specs.declared.frame.Wire.{Wire}
use Rattle.lt_frames.specs.Frames.{frame_bytes}
use Rattle.lt_apart.specs.Carrying.{frames, GivesOut, BringsIn}

frames_more : (key : List ℕ) (wire : Wire) (number : ℕ) (xs ys : List Letter)
    → frames key wire number (xs ++ ys) ≡ frames key wire number xs ++ frames key wire (number + length xs) ys
frames_more key wire number [] ys = ap (λ (n : ℕ). frames key wire n ys) (omega arith)
frames_more key wire number (x ∷ xs) ys =
    let first = frame_bytes key (record { wire = wire; number = number; letter = x }) in
    ap (λ (bytes : List ℕ). first ++ bytes) (frames_more key wire (number + 1) xs ys)
    ∙ (ap (λ (n : ℕ). first ++ (frames key wire (number + 1) xs ++ frames key wire n ys)) (omega arith)
    ∙ sym (append_assoc first (frames key wire (number + 1) xs) (frames key wire (number + length (x ∷ xs)) ys)))

-- nothing was given out
pub gives_none : (key : List ℕ) (wire : Wire) (before after : List Letter) (out out_now : List ℕ) → after ≡ before → out_now ≡ out
    → GivesOut key wire 0 before after out out_now
gives_none key wire before after out out_now same bytes = record {
  letters = [];
  count_is = refl;
  goes_on = same ∙ sym (append-nil before);
  bytes = bytes ∙ sym (append-nil out);
}

-- one letter
pub gives_one : (key : List ℕ) (wire : Wire) (before after : List Letter) (out out_now : List ℕ) (letter : Letter) → after ≡ before ++ letter ∷ []
    → out_now ≡ out ++ frame_bytes key (record { wire = wire; number = length before; letter = letter }) → GivesOut key wire 1 before after out out_now
gives_one key wire before after out out_now letter more bytes = record {
  letters = letter ∷ [];
  count_is = refl;
  goes_on = more;
  bytes = bytes ∙ ap (λ (frame : List ℕ). out ++ frame) (sym (append-nil _));
}

-- more letters
pub gives_more : (key : List ℕ) (wire : Wire) (m n : ℕ) (one two three : List Letter) (out mid last : List ℕ) → GivesOut key wire m one two out mid
    → GivesOut key wire n two three mid last → GivesOut key wire (m + n) one three out last
gives_more key wire m n one two three out mid last h k = record {
  letters = h.letters ++ k.letters;
  count_is = omega (arith, length-append h.letters k.letters, h.count_is, k.count_is);
  goes_on = k.goes_on ∙ (ap (λ (letters : List Letter). letters ++ k.letters) h.goes_on ∙ append_assoc one h.letters k.letters);
  bytes = k.bytes ∙ (ap (λ (bytes : List ℕ). bytes ++ frames key wire (length two) k.letters) h.bytes
      ∙ (append_assoc out (frames key wire (length one) h.letters) (frames key wire (length two) k.letters)
      ∙ ap (λ (bytes : List ℕ). out ++ bytes) (sym all)));
}
  where
    later : length one + length h.letters ≡ length two
    later = sym (ap (λ (letters : List Letter). length letters) h.goes_on ∙ length-append one h.letters)

    all : frames key wire (length one) (h.letters ++ k.letters) ≡ frames key wire (length one) h.letters ++ frames key wire (length two) k.letters
    all = frames_more key wire (length one) h.letters k.letters
        ∙ ap (λ (n : ℕ). frames key wire (length one) h.letters ++ frames key wire n k.letters) later

-- and then nothing more
pub gives_same : (key : List ℕ) (wire : Wire) (n : ℕ) (one two three : List Letter) (out mid last : List ℕ) → GivesOut key wire n one two out mid
    → three ≡ two → last ≡ mid → GivesOut key wire n one three out last
gives_same key wire n one two three out mid last h same bytes = record {
  letters = h.letters;
  count_is = h.count_is;
  goes_on = same ∙ h.goes_on;
  bytes = bytes ∙ h.bytes;
}

-- nothing was brought in
pub brings_none : (key : List ℕ) (wire : Wire) (before after : List Letter) (bytes : List ℕ) → after ≡ before → BringsIn key wire 0 before after bytes
brings_none key wire before after bytes same = record {
  letters = [];
  goes_on = same ∙ sym (append-nil before);
  within = omega arith;
  bytes_are = refl;
}

-- more letters
pub brings_more : (key : List ℕ) (wire : Wire) (used size : ℕ) (one two three : List Letter) (bytes : List ℕ) → BringsIn key wire used one two bytes
    → BringsIn key wire size two three (drop used bytes) → BringsIn key wire (used + size) one three bytes
brings_more key wire used size one two three bytes h k = record {
  letters = h.letters ++ k.letters;
  goes_on = k.goes_on ∙ (ap (λ (letters : List Letter). letters ++ k.letters) h.goes_on ∙ append_assoc one h.letters k.letters);
  within = omega (arith, h.within, k.within, length-drop used bytes);
  bytes_are = take-add used size bytes
      ∙ (ap (λ (first : List ℕ). first ++ take size (drop used bytes)) h.bytes_are
      ∙ (ap (λ (rest : List ℕ). frames key wire (length one) h.letters ++ rest) k.bytes_are ∙ sym all));
}
  where
    later : length one + length h.letters ≡ length two
    later = sym (ap (λ (letters : List Letter). length letters) h.goes_on ∙ length-append one h.letters)

    all : frames key wire (length one) (h.letters ++ k.letters) ≡ frames key wire (length one) h.letters ++ frames key wire (length two) k.letters
    all = frames_more key wire (length one) h.letters k.letters
        ∙ ap (λ (n : ℕ). frames key wire (length one) h.letters ++ frames key wire n k.letters) later

-- and then nothing more
pub brings_same : (key : List ℕ) (wire : Wire) (used : ℕ) (one two three : List Letter) (bytes : List ℕ) → BringsIn key wire used one two bytes
    → three ≡ two → BringsIn key wire used one three bytes
brings_same key wire used one two three bytes h same = record {
  letters = h.letters;
  goes_on = same ∙ h.goes_on;
  within = h.within;
  bytes_are = h.bytes_are;
}
