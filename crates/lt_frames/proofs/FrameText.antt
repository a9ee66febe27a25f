-- What stands at the end of a vector once a frame was written.
use Rattle.std.proofs.Common.{◌≡◌, ◌≤◌, ◌<◌, ◌+◌, ◌-◌, ℕ, List, ◌++◌, refl, ap, ◌∙◌, append_assoc, arith, length, take, drop}
use Rattle.std.specs.Prelude.{replicate}
use Rattle.std.proofs.lemmas.List.{length-append, length-replicate, length-take-le, take_at, drop_at}
use Rattle.lt_letters.specs.Spelling.{letter_bytes}
use Rattle.lt_frames.specs.Sealing.{seal_of}
use Rattle.lt_frames.specs.Frames.{Numbered, head_bytes, head_of, sealed_bytes, frame_bytes}
use Rattle.lt_frames.proofs.Parts.{seal_size, frame_size}

-- a vector whose bytes from the start on were put in place of others
pub over : (items new : List ℕ) (start n : ℕ) → start ≤ length items → length items ≡ n → length new ≡ length items - start
    → take n (take start items ++ new ++ drop (length (take start items ++ new)) items) ≡ take start items ++ new
over items new start n within size same =
    take_at (take start items ++ new) (drop (length (take start items ++ new)) items) n
    (omega (arith, within, size, same, length-append (take start items) new, length-take-le start items within))

-- what stands behind the bytes for a head is the letter
behind : (out text : List ℕ) → drop 23 (drop (length out) (out ++ (replicate 23 0 ++ text))) ≡ text
behind out text =
    ap (drop 23) (drop_at out (replicate 23 0 ++ text) (length out) refl) ∙ drop_at (replicate 23 0) text 23 (length-replicate {A = ℕ} 23 0)

-- the vector with the letter has as many bytes more as the letter and a head
pub letter_size : (out text two : List ℕ) → two ≡ out ++ (replicate 23 0 ++ text) → length two ≡ length out + (23 + length text)
letter_size out text two is =
    ap (λ (list : List ℕ). length list) is
    ∙ omega (arith, length-append out (replicate 23 0 ++ text), length-append (replicate 23 0) text, length-replicate {A = ℕ} 23 0)

-- with a head over the bytes that were kept for it
text_is : (out two three head text : List ℕ) → two ≡ out ++ (replicate 23 0 ++ text)
    → three ≡ take (length out) two ++ (head ++ drop 23 (drop (length out) two)) → three ≡ out ++ (head ++ text)
text_is out two three head text is over_is =
    over_is
    ∙ (ap (λ (list : List ℕ). take (length out) list ++ (head ++ drop 23 (drop (length out) list))) is
    ∙ (ap (λ (list : List ℕ). list ++ (head ++ drop 23 (drop (length out) (out ++ (replicate 23 0 ++ text)))))
    (take_at out (replicate 23 0 ++ text) (length out) refl)
    ∙ ap (λ (list : List ℕ). out ++ (head ++ list)) (behind out text)))

-- and with its seal, the letter is a frame
pub frame_text : (key : List ℕ) (f : Numbered) (out two three four head : List ℕ)
    → two ≡ out ++ (replicate 23 0 ++ letter_bytes f.letter) → head ≡ head_bytes (head_of f)
    → three ≡ take (length out) two ++ (head ++ drop 23 (drop (length out) two))
    → four ≡ three ++ seal_of key (drop (length out) three)
    → four ≡ out ++ frame_bytes key f
frame_text key f out two three four head is same over_is there =
    there
    ∙ (ap (λ (list : List ℕ). list ++ seal_of key (drop (length out) list)) text
    ∙ (ap (λ (list : List ℕ). (out ++ sealed_bytes f) ++ seal_of key list) (drop_at out (sealed_bytes f) (length out) refl)
    ∙ append_assoc out (sealed_bytes f) (seal_of key (sealed_bytes f))))
  where
    text : three ≡ out ++ sealed_bytes f
    text =
        text_is out two three head (letter_bytes f.letter) is over_is
        ∙ ap (λ (list : List ℕ). out ++ (list ++ letter_bytes f.letter)) same

-- where there was no room for the seal, there was none for the frame
pub no_room : (key : List ℕ) (f : Numbered) (out two three head : List ℕ) (before between after : ℕ)
    → two ≡ out ++ (replicate 23 0 ++ letter_bytes f.letter) → length head ≡ 23
    → three ≡ take (length out) two ++ (head ++ drop 23 (drop (length out) two))
    → before ≤ between → after ≡ between → after < length three + length (seal_of key (drop (length out) three))
    → before < length out + length (frame_bytes key f)
no_room key f out two three head before between after is size over_is room same full =
    omega (
      arith,
      room,
      same,
      full,
      size,
      seal_size key (drop (length out) three),
      frame_size key f,
      ap (λ (list : List ℕ). length list) (text_is out two three head (letter_bytes f.letter) is over_is),
      length-append out (head ++ letter_bytes f.letter),
      length-append head (letter_bytes f.letter),
    )
