-- The parts of the bytes of a frame.
use Rattle.std.proofs.Common.{◌≡◌, ◌≤◌, ◌+◌, ℕ, zero, suc, Bool, false, cond, nat_lt, List, [], ◌∷◌, ◌++◌, Option, None, Result, Ok, Err, sym, ap, ◌∙◌, append_assoc, arith, length, take, drop}
use Rattle.std.proofs.lemmas.Bool.{le-ltb}
use Rattle.std.proofs.lemmas.List.{length-append, length-take-le, length-drop, take_at, drop_at, take-append-drop}
use Rattle.lt_letters.specs.Laws.{IsBytes}
use Rattle.lt_letters.specs.Reading.{whole_from}
use Rattle.lt_frames.specs.declared.head.Head.{Head}
use Rattle.lt_frames.specs.declared.frame.TheConstants.{HEAD, SEAL}
use Rattle.lt_frames.specs.declared.fault.FrameFault.{FrameFault}
use Rattle.lt_frames.specs.declared.fault.FrameFault.TheVariants.{Seal}
use Rattle.lt_frames.specs.Sealing.{seal_of, same_bytes}
use Rattle.sha2.specs.Sha256.{sha256}
use Rattle.sha2.proofs.Facts256.{length-sha256}
use Rattle.lt_letters.specs.Spelling.{letter_bytes}
use Rattle.lt_frames.specs.Frames.{Numbered, head_bytes, head_of, sealed_bytes, frame_seal, frame_bytes}
use Rattle.lt_frames.specs.Reading.{Found, is_sealed, letter_in, rest_from}
use Rattle.lt_frames.proofs.HeadForm.{head_size}

-- what is found where the seal and the text are these
abbrev pub judged : List ℕ → Head → List ℕ → List ℕ → Result (Option Found) FrameFault
judged key h text seal =
    cond (same_bytes (seal_of key (head_bytes h ++ text)) seal) (letter_in h (whole_from text)) (Err Seal)

pub all_of : (h : Head) (text seal rest : List ℕ) → length (head_bytes h ++ (text ++ (seal ++ rest))) ≡ HEAD + length text + length seal + length rest
all_of h text seal rest =
    omega (arith, head_size h, length-append (head_bytes h) (text ++ (seal ++ rest)), length-append text (seal ++ rest), length-append seal rest)

pub rest_is : (key : List ℕ) (h : Head) (text seal rest : List ℕ) → length text ≡ h.length → length seal ≡ SEAL
    → rest_from key (head_bytes h ++ (text ++ (seal ++ rest))) h ≡ judged key h text seal
rest_is key h text seal rest size seal_size =
    ap (λ (t : Bool). cond t (Ok None) (cond (is_sealed key bytes (HEAD + h.length)) (letter_in h (whole_from (take h.length (drop HEAD bytes)))) (Err Seal))) enough
    ∙ (ap (λ (t : Bool). cond t (letter_in h (whole_from (take h.length (drop HEAD bytes)))) (Err Seal)) sealed
    ∙ ap (λ (letter : List ℕ). cond (same_bytes (seal_of key (head_bytes h ++ text)) seal) (letter_in h (whole_from letter)) (Err Seal)) inner)
  where
    bytes : List ℕ
    bytes = head_bytes h ++ (text ++ (seal ++ rest))

    front : bytes ≡ (head_bytes h ++ text) ++ (seal ++ rest)
    front = sym (append_assoc (head_bytes h) text (seal ++ rest))

    before : length (head_bytes h ++ text) ≡ HEAD + h.length
    before = omega (arith, length-append (head_bytes h) text, head_size h, size)

    enough : nat_lt (length bytes) (HEAD + h.length + SEAL) ≡ false
    enough = le-ltb (length bytes) (HEAD + h.length + SEAL) (omega (arith, all_of h text seal rest, size, seal_size))

    inner : take h.length (drop HEAD bytes) ≡ text
    inner = ap (take h.length) (drop_at (head_bytes h) (text ++ (seal ++ rest)) HEAD (head_size h)) ∙ take_at text (seal ++ rest) h.length size

    own : take (HEAD + h.length) bytes ≡ head_bytes h ++ text
    own = ap (take (HEAD + h.length)) front ∙ take_at (head_bytes h ++ text) (seal ++ rest) (HEAD + h.length) before

    its_seal : take SEAL (drop (HEAD + h.length) bytes) ≡ seal
    its_seal =
        ap (λ (list : List ℕ). take SEAL (drop (HEAD + h.length) list)) front
        ∙ (ap (take SEAL) (drop_at (head_bytes h ++ text) (seal ++ rest) (HEAD + h.length) before) ∙ take_at seal rest SEAL seal_size)

    sealed : is_sealed key bytes (HEAD + h.length) ≡ same_bytes (seal_of key (head_bytes h ++ text)) seal
    sealed =
        ap (λ (list : List ℕ). same_bytes (seal_of key list) (take SEAL (drop (HEAD + h.length) bytes))) own
        ∙ ap (λ (list : List ℕ). same_bytes (seal_of key (head_bytes h ++ text)) list) its_seal

-- what stands after a head, where it is enough
pub record IsSplit (rest : List ℕ) (size : ℕ) : Type 0 where
  pub text : List ℕ
  pub seal : List ℕ
  pub more : List ℕ
  pub parts : rest ≡ text ++ (seal ++ more)
  pub text_size : length text ≡ size
  pub seal_size : length seal ≡ SEAL

pub split : (rest : List ℕ) (size : ℕ) → size + SEAL ≤ length rest → IsSplit rest size
split rest size enough = record {
  text = take size rest;
  seal = take SEAL (drop size rest);
  more = drop SEAL (drop size rest);
  parts = sym (ap (λ (list : List ℕ). take size rest ++ list) (take-append-drop SEAL (drop size rest)) ∙ take-append-drop size rest);
  text_size = length-take-le size rest (omega (arith, enough));
  seal_size = length-take-le SEAL (drop size rest) (omega (arith, enough, length-drop size rest));
}

pub bytes_in_front : (a b : List ℕ) → IsBytes (a ++ b) → IsBytes a
bytes_in_front [] b fits i = omega arith
bytes_in_front (x ∷ a) b fits zero = fits 0
bytes_in_front (x ∷ a) b fits (suc i) = bytes_in_front a b (λ j. fits (suc j)) i

-- The bytes of a frame, by their parts.

pub frame_parts : (key : List ℕ) (f : Numbered) (rest : List ℕ)
    → frame_bytes key f ++ rest ≡ head_bytes (head_of f) ++ (letter_bytes f.letter ++ (frame_seal key f ++ rest))
frame_parts key f rest =
    append_assoc (sealed_bytes f) (frame_seal key f) rest ∙ append_assoc (head_bytes (head_of f)) (letter_bytes f.letter) (frame_seal key f ++ rest)

pub seal_size : (key sealed : List ℕ) → length (seal_of key sealed) ≡ SEAL
seal_size key sealed = length-take-le SEAL (sha256 (key ++ sealed)) (omega (arith, length-sha256 (key ++ sealed)))

pub frame_size : (key : List ℕ) (f : Numbered) → length (frame_bytes key f) ≡ HEAD + length (letter_bytes f.letter) + SEAL
frame_size key f =
    omega (arith, head_size (head_of f), length-append (sealed_bytes f) (frame_seal key f), length-append (head_bytes (head_of f)) (letter_bytes f.letter), seal_size key (sealed_bytes f))
