-- What a reader of the code returned.
use Rattle.std.proofs.Common.{◌≡◌, ◌+◌, ◌++◌, ℕ, List, Option, Some, None, Result, Ok, Err, refl, sym, ap, subst, ◌∙◌, inl, inr}
use Rattle.std.specs.Prelude.{IfOk, IfSome}
use Rattle.lt_letters.specs.Laws.{IsBytes}
use Rattle.lt_frames.specs.declared.frame.Frame.{Frame}
use Rattle.lt_frames.specs.declared.frame.Wire.{Wire}
use Rattle.lt_frames.specs.declared.fault.FrameFault.{FrameFault}
use Rattle.lt_frames.specs.declared.fault.FrameError.{FrameError}
use Rattle.lt_frames.specs.declared.fault.FrameError.TheVariants as errors
use Rattle.lt_frames.specs.Frames.{Numbered, frame_bytes, FrameFits}
use Rattle.lt_letters.specs.Causes.{AreOfLetter}
use Rattle.lt_letters.specs.Reading.{whole_from}
use Rattle.lt_letters.proofs.Found.{whole_again}
use Rattle.lt_frames.specs.declared.head.Head.{Head}
use Rattle.lt_frames.specs.declared.frame.TheConstants.{HEAD, SEAL}
use Rattle.lt_frames.specs.Reading.{Found, letter_in, frame_from}
use Rattle.lt_frames.specs.Causes.{IsUnfinished, IsFrameCause, BeginWithFrame}
use Rattle.lt_frames.specs.Seen.{frame_seen, on_wire, found_of, IsFrameAt, IsFound, FindsFrame}
use Rattle.lt_frames.proofs.Frames.{nothing_yet, one_found, has_fault, frames_are_read, read_frames_are_written, frame_faults_have_causes}
use Rattle.lt_frames.proofs.Outcomes.{outcome}

abbrev Returned : Type 0
Returned = Result (Option Frame) FrameError

pub is_frame : (key : List ℕ) (wire : Wire) (bytes : List ℕ) (r : Returned) → IsBytes bytes → FindsFrame r (frame_from key wire bytes)
    → IfOk r (λ read. IfSome read (λ frame. IsFrameAt key wire bytes frame))
is_frame key wire bytes (Err e) fits given = tt
is_frame key wire bytes (Ok None) fits given = tt
is_frame key wire bytes (Ok (Some frame)) fits given =
    let w = read_frames_are_written key wire bytes (frame_seen frame) fits given in
    (w.0, (w.1.0, (w.1.1.0, ap (λ (x : Found). x.size) w.1.1.1)))

pub is_again : (key : List ℕ) (wire : Wire) (bytes : List ℕ) (r : Returned) (f : Numbered) (rest : List ℕ) → FindsFrame r (frame_from key wire bytes)
    → f.wire ≡ wire → FrameFits f → bytes ≡ frame_bytes key f ++ rest → FindsFrame r (Ok (Some (found_of key f)))
is_again key wire bytes r f rest given by fits is =
    let read : frame_from key wire bytes ≡ Ok (Some (found_of key f)) =
    ap (frame_from key wire) is ∙ (ap (λ (w : Wire). frame_from key w (frame_bytes key f ++ rest)) (sym by) ∙ frames_are_read key f rest fits) in
    subst (λ (x : Result (Option Found) FrameFault). FindsFrame r x) read given

pub is_unfinished : (key : List ℕ) (wire : Wire) (bytes : List ℕ) (r : Returned) → IsBytes bytes → FindsFrame r (frame_from key wire bytes)
    → r ≡ Ok None → IsUnfinished wire bytes
is_unfinished key wire bytes r fits given e =
    let none : frame_from key wire bytes ≡ Ok None = subst (λ (q : Returned). FindsFrame q (frame_from key wire bytes)) e given in
    elim (outcome key wire bytes fits) [
      | inl own ↦ own.1
      | inr (inl fault) ↦ absurd (never fault.0 (sym fault.1.0 ∙ none))
      | inr (inr taken) ↦ absurd (neither (found_of key taken.0) (sym taken.1.1.1.1.1 ∙ none))
    ]
  where
    never : (fault : FrameFault) → has_fault fault ≡ nothing_yet → ⊥
    never fault e = cc

    neither : (found : Found) → one_found found ≡ nothing_yet → ⊥
    neither found e = cc

pub has_frame : (key : List ℕ) (wire : Wire) (bytes : List ℕ) (r : Returned) → IsBytes bytes → FindsFrame r (frame_from key wire bytes)
    → r ≡ Err errors.Memory → BeginWithFrame key wire bytes
has_frame key wire bytes r fits given e =
    let found : IsFound (frame_from key wire bytes) = subst (λ (q : Returned). FindsFrame q (frame_from key wire bytes)) e given in
    let w = read_frames_are_written key wire bytes found.0 fits found.1 in
    (on_wire wire found.0, (w.0, (refl, (w.1.0, w.1.1.0))))

pub has_cause : (key : List ℕ) (wire : Wire) (bytes : List ℕ) (r : Returned) (f : FrameFault) → IsBytes bytes → FindsFrame r (frame_from key wire bytes)
    → r ≡ Err (errors.Fault f) → IsFrameCause key wire f bytes
has_cause key wire bytes r f fits given e =
    frame_faults_have_causes key wire bytes f fits (subst (λ (q : Returned). FindsFrame q (frame_from key wire bytes)) e given)

-- where there was no memory for a letter, there is one
pub letter_found : (h : Head) (text : List ℕ) → AreOfLetter text → IsFound (letter_in h (whole_from text))
letter_found h text of_letter =
    (record { number = h.number; letter = of_letter.0; size = HEAD + h.length + SEAL }, ap (letter_in h) (whole_again text of_letter.0 of_letter.1.1 of_letter.1.0))
