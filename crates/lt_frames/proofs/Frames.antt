-- Frames are read again, and nothing else is read.
use Rattle.std.proofs.Common.{◌≡◌, ℕ, Bool, cond, List, [], ◌∷◌, ◌++◌, Option, Some, None, Result, Ok, Err, refl, sym, ap, subst, ◌∙◌, append_assoc, arith, inl, inr, length, eq-eqb}
use Rattle.std.proofs.lemmas.Bool.{le-ltb}
use Rattle.std.proofs.lemmas.List.{append_cancel_left, length-append}
use Rattle.std.specs.List.{flat_map}
use Rattle.std.proofs.lemmas.List.Concat.{flat_map-cons}
use Rattle.lt_letters.specs.Spelling.{letter_bytes}
use Rattle.lt_letters.specs.Reading.{whole_from}
use Rattle.lt_letters.proofs.Forms.{ok_is}
use Rattle.lt_letters.proofs.Found.{whole_again}
use Rattle.lt_frames.specs.declared.head.Head.{Head}
use Rattle.lt_frames.specs.declared.frame.Wire.{Wire}
use Rattle.lt_frames.specs.declared.frame.TheConstants.{MAX_LETTER}
use Rattle.lt_frames.specs.declared.fault.FrameFault.{FrameFault}
use Rattle.lt_frames.specs.declared.fault.FrameFault.TheVariants.{Seal}
use Rattle.lt_frames.specs.Frames.{Numbered, head_of, frame_bytes, frame_seal, FrameFits}
use Rattle.lt_frames.specs.Reading.{Found, head_from, head_fault, letter_in, rest_from, unless_fault, after_head, frame_from}
use Rattle.lt_frames.specs.Causes.{IsFrameCause}
use Rattle.lt_frames.specs.Seen.{on_wire, found_of}
use Rattle.lt_frames.specs.Laws.{FramesAreRead, ReadFramesAreWritten, FrameFaultsHaveCauses, FramesArePrefix}
use Rattle.lt_frames.proofs.HeadForm.{HeadFits, head_form}
use Rattle.lt_frames.proofs.Same.{same_itself}
use Rattle.lt_frames.proofs.Parts.{rest_is, frame_parts, seal_size, frame_size}
use Rattle.lt_frames.proofs.Outcomes.{IsTaken, outcome}

-- the head of a frame fits
head_fits : (f : Numbered) → FrameFits f → HeadFits (head_of f)
head_fits f fits = (omega (arith, fits.1.1.1), (omega arith, (fits.0.0, (fits.0.1.0, (fits.0.1.1, fits.1.0)))))

no_fault : (f : Numbered) → FrameFits f → head_fault f.wire (head_of f) ≡ None
no_fault f fits =
    rw (
      le-ltb MAX_LETTER (length (letter_bytes f.letter)) fits.1.1.1,
      eq-eqb f.wire.service f.wire.service refl,
      eq-eqb f.wire.from f.wire.from refl,
      eq-eqb f.wire.to f.wire.to refl,
    ) refl

head_again : (key : List ℕ) (f : Numbered) (rest : List ℕ) → FrameFits f
    → head_from (frame_bytes key f ++ rest) ≡ Ok (head_of f, letter_bytes f.letter ++ (frame_seal key f ++ rest))
head_again key f rest fits =
    ap head_from (frame_parts key f rest) ∙ head_form.again (head_of f) (letter_bytes f.letter ++ (frame_seal key f ++ rest)) (head_fits f fits)

pub frames_are_read : FramesAreRead
unfolding frame_from
frames_are_read key f rest fits =
    ap (after_head key f.wire bytes) (head_again key f rest fits)
    ∙ (ap (λ (o : Option FrameFault). unless_fault o (rest_from key bytes (head_of f))) (no_fault f fits)
    ∙ (ap (λ (list : List ℕ). rest_from key list (head_of f)) (frame_parts key f rest)
    ∙ (rest_is key (head_of f) (letter_bytes f.letter) (frame_seal key f) rest refl (seal_size key _)
    ∙ (ap (λ (t : Bool). cond t (letter_in (head_of f) (whole_from (letter_bytes f.letter))) (Err Seal)) (same_itself (frame_seal key f))
    ∙ (ap (letter_in (head_of f)) (whole_again (letter_bytes f.letter) f.letter fits.1.1.0 refl)
    ∙ ap (λ (n : ℕ). Ok (Some (record { number = f.number; letter = f.letter; size = n }))) (sym (frame_size key f)))))))
  where
    bytes : List ℕ
    bytes = frame_bytes key f ++ rest

-- what was read, of what is known to be read
abbrev pub nothing_yet : Result (Option Found) FrameFault
nothing_yet = Ok None

abbrev pub one_found : Found → Result (Option Found) FrameFault
one_found found = Ok (Some found)

abbrev pub has_fault : FrameFault → Result (Option Found) FrameFault
has_fault fault = Err fault

some_is : (x y : Found) → one_found x ≡ one_found y → x ≡ y
some_is x y e = cc

fault_is : (c d : FrameFault) → has_fault c ≡ has_fault d → c ≡ d
fault_is c d e = cc

pub read_frames_are_written : ReadFramesAreWritten
read_frames_are_written key wire bytes found fits e = elim (outcome key wire bytes fits) [
  | inl none ↦ absurd (neither (sym none.0 ∙ e))
  | inr (inl fault) ↦ absurd (never fault.0 (sym fault.1.0 ∙ e))
  | inr (inr taken) ↦ of_taken taken
]
  where
    neither : nothing_yet ≡ one_found found → ⊥
    neither e = cc

    never : (fault : FrameFault) → has_fault fault ≡ one_found found → ⊥
    never fault e = cc

    of_taken : IsTaken key wire bytes (frame_from key wire bytes)
        → (rest : List ℕ) × ((bytes ≡ frame_bytes key (on_wire wire found) ++ rest)
        × (FrameFits (on_wire wire found) × (found ≡ found_of key (on_wire wire found))))
    of_taken (f, (rest, (by, (is, (fit, read))))) =
        let same : found ≡ found_of key f = some_is found (found_of key f) (sym e ∙ read) in
        let all : f ≡ on_wire wire found =
        ap (λ (w : Wire). record { wire = w; number = f.number; letter = f.letter }) by ∙ ap (λ (x : Found). on_wire wire x) (sym same) in (
          rest,
          (
            subst (λ (g : Numbered). bytes ≡ frame_bytes key g ++ rest) all is,
            (subst FrameFits all fit, subst (λ (g : Numbered). found ≡ found_of key g) all same),
          ),
        )

pub frame_faults_have_causes : FrameFaultsHaveCauses
frame_faults_have_causes key wire bytes fault fits e = elim (outcome key wire bytes fits) [
  | inl none ↦ absurd (neither (sym none.0 ∙ e))
  | inr (inl found) ↦ subst (λ (f : FrameFault). IsFrameCause key wire f bytes) (fault_is found.0 fault (sym found.1.0 ∙ e)) found.1.1
  | inr (inr taken) ↦ absurd (never (found_of key taken.0) (sym taken.1.1.1.1.1 ∙ e))
]
  where
    neither : nothing_yet ≡ has_fault fault → ⊥
    neither e = cc

    never : (found : Found) → one_found found ≡ has_fault fault → ⊥
    never found e = cc

-- Frames one after the other.

after_first : (key : List ℕ) (f : Numbered) (frames : List Numbered) (rest : List ℕ)
    → flat_map (frame_bytes key) (f ∷ frames) ++ rest ≡ frame_bytes key f ++ (flat_map (frame_bytes key) frames ++ rest)
after_first key f frames rest =
    ap (λ (text : List ℕ). text ++ rest) (flat_map-cons (frame_bytes key) f frames)
    ∙ append_assoc (frame_bytes key f) (flat_map (frame_bytes key) frames) rest

-- two frames at the front of the same bytes are one
one_frame : (key : List ℕ) (f g : Numbered) (a b : List ℕ) → FrameFits f → FrameFits g → frame_bytes key f ++ a ≡ frame_bytes key g ++ b → f ≡ g
one_frame key f g a b fit also is =
    ap (λ (w : Wire). record { wire = w; number = f.number; letter = f.letter }) wires ∙ ap (λ (x : Found). on_wire g.wire x) found
  where
    heads : head_of f ≡ head_of g
    heads =
        let x : Head × List ℕ = (head_of f, letter_bytes f.letter ++ (frame_seal key f ++ a)) in
        let y : Head × List ℕ = (head_of g, letter_bytes g.letter ++ (frame_seal key g ++ b)) in
        ap (λ (p : Head × List ℕ). p.0) (ok_is x y (sym (head_again key f a fit) ∙ (ap head_from is ∙ head_again key g b also)))

    wires : f.wire ≡ g.wire
    wires = ap (λ (h : Head). h.wire) heads

    found : found_of key f ≡ found_of key g
    found = some_is (found_of key f) (found_of key g) (sym (frames_are_read key f a fit)
        ∙ (ap (frame_from key f.wire) is ∙ (ap (λ (w : Wire). frame_from key w (frame_bytes key g ++ b)) wires ∙ frames_are_read key g b also)))

pub frames_are_prefix : FramesArePrefix
frames_are_prefix key [] given fit also h = (given, refl)
frames_are_prefix key (f ∷ fs) [] fit also h = absurd (none (ap (λ (t : List ℕ). length t) (sym (after_first key f fs h.0) ∙ h.1)))
  where
    none : length (frame_bytes key f ++ (flat_map (frame_bytes key) fs ++ h.0)) ≡ 0 → ⊥
    none e = omega (arith, e, frame_size key f, length-append (frame_bytes key f) (flat_map (frame_bytes key) fs ++ h.0))
frames_are_prefix key (f ∷ fs) (g ∷ gs) fit also h =
    let whole : frame_bytes key f ++ (flat_map (frame_bytes key) fs ++ h.0) ≡ frame_bytes key g ++ flat_map (frame_bytes key) gs =
    sym (after_first key f fs h.0) ∙ (h.1 ∙ flat_map-cons (frame_bytes key) g gs) in
    let same = one_frame key f g _ _ fit.0 also.0 whole in
    let left : frame_bytes key g ++ (flat_map (frame_bytes key) fs ++ h.0) ≡ frame_bytes key g ++ flat_map (frame_bytes key) gs =
    subst (λ (x : Numbered). frame_bytes key x ++ (flat_map (frame_bytes key) fs ++ h.0) ≡ frame_bytes key g ++ flat_map (frame_bytes key) gs) same whole in
    let rest = frames_are_prefix key fs gs fit.1 also.1 (h.0, append_cancel_left (frame_bytes key g) _ _ left) in
    (rest.0, ap (λ (frames : List Numbered). f ∷ frames) rest.1 ∙ ap (λ (x : Numbered). x ∷ gs) same)
