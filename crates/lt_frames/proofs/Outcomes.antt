-- What one who reads finds: nothing yet, a fault with its cause, or a frame.
use Rattle.std.proofs.Common.{◌≡◌, ◌+◌, ◌==◌, ℕ, Bool, true, false, cond, nat_lt, List, ◌++◌, Option, Some, None, Result, Ok, Err, refl, sym, ap, subst, ◌∙◌, arith, inl, inr, ◌⊎◌, length, eqb-true}
use Rattle.std.proofs.lemmas.List.{length-append}
use Rattle.std.proofs.lemmas.Bool.{eqb-false, ltb-true, ltb-false}
use Rattle.lt_modes.specs.State.{Letter}
use Rattle.lt_letters.specs.declared.fault.Fault.{Fault}
use Rattle.lt_letters.specs.Laws.{IsBytes}
use Rattle.lt_letters.specs.Spelling.{letter_bytes, LetterFits}
use Rattle.lt_letters.specs.Reading.{whole_from}
use Rattle.lt_letters.proofs.Letters.{faults_have_causes}
use Rattle.lt_letters.proofs.Found.{whole_is}
use Rattle.lt_frames.specs.declared.head.Head.{Head}
use Rattle.lt_frames.specs.declared.frame.Wire.{Wire}
use Rattle.lt_frames.specs.declared.frame.TheConstants.{HEAD, SEAL, VERSION, MAX_LETTER}
use Rattle.lt_frames.specs.declared.fault.FrameFault.{FrameFault}
use Rattle.lt_frames.specs.declared.fault.FrameFault.TheVariants.{TooLong, Version, Service, Sender, Receiver, Seal, Letter as NoLetter}
use Rattle.lt_frames.specs.Sealing.{seal_of, same_bytes}
use Rattle.lt_frames.specs.Frames.{Numbered, head_bytes, head_of, frame_bytes, WireFits, FrameFits}
use Rattle.lt_frames.specs.Reading.{Found, head_from, head_fault, letter_in, rest_from, unless_fault, after_head, frame_from}
use Rattle.lt_frames.specs.Causes.{IsHeadOf, IsUnfinished, IsFrameCause}
use Rattle.lt_frames.specs.Seen.{found_of}
use Rattle.lt_frames.proofs.HeadForm.{HeadFits, head_form, head_size, less_than_head}
use Rattle.lt_frames.proofs.Same.{same_is, not_same}
use Rattle.lt_frames.proofs.Parts.{judged, rest_is, IsSplit, split, bytes_in_front, frame_parts, frame_size}

abbrev Read : Type 0
Read = Result (Option Found) FrameFault

-- a frame stands at the front of the bytes, and this is what is read of it
abbrev pub IsTaken : List ℕ → Wire → List ℕ → Read → Type 0
IsTaken key wire bytes read = (f : Numbered) × ((rest : List ℕ)
    × ((f.wire ≡ wire) × ((bytes ≡ frame_bytes key f ++ rest) × (FrameFits f × (read ≡ Ok (Some (found_of key f)))))))

abbrev pub Outcome : List ℕ → Wire → List ℕ → Read → Type 0
Outcome key wire bytes read =
    ((read ≡ Ok None) × IsUnfinished wire bytes)
    ⊎ (((fault : FrameFault) × ((read ≡ Err fault) × IsFrameCause key wire fault bytes))
    ⊎ IsTaken key wire bytes read)

-- a head has a fault, or is of this wire
abbrev Judgement : Wire → Head → Type 0
Judgement wire h =
    ((fault : FrameFault) × ((head_fault wire h ≡ Some fault)
    × ((key bytes rest : List ℕ) → bytes ≡ head_bytes h ++ rest → IsFrameCause key wire fault bytes)))
    ⊎ ((head_fault wire h ≡ None) × IsHeadOf wire h)

judge : (wire : Wire) (h : Head) → Judgement wire h
judge wire h = by_length (nat_lt MAX_LETTER h.length) refl
  where
    after_service : Bool → Bool → Option FrameFault
    after_service from to = cond from (cond to None (Some Receiver)) (Some Sender)

    rest : Bool → Bool → Bool → Bool → Option FrameFault
    rest version service from to = cond version (cond service (after_service from to) (Some Service)) (Some Version)

    by_to : (t : Bool) → (h.wire.to == wire.to) ≡ t → nat_lt MAX_LETTER h.length ≡ false → (h.version == VERSION) ≡ true → (h.wire.service == wire.service) ≡ true
        → (h.wire.from == wire.from) ≡ true → Judgement wire h
    by_to false to long version service from =
        inl (
          Receiver,
          (
            rw (long, version, service, from, to) refl,
            λ key bytes rest is. (h, (rest, (is, eqb-false h.wire.to wire.to to))),
          ),
        )
    by_to true to long version service from =
        inr (
          rw (long, version, service, from, to) refl,
          (ltb-false MAX_LETTER h.length long, (eqb-true h.version VERSION version, same)),
        )
      where
        same : h.wire ≡ wire
        same =
            ap (λ (n : ℕ). record { service = n; from = h.wire.from; to = h.wire.to }) (eqb-true h.wire.service wire.service service)
            ∙ (ap (λ (n : ℕ). record { service = wire.service; from = n; to = h.wire.to }) (eqb-true h.wire.from wire.from from)
            ∙ ap (λ (n : ℕ). record { service = wire.service; from = wire.from; to = n }) (eqb-true h.wire.to wire.to to))

    by_from : (t : Bool) → (h.wire.from == wire.from) ≡ t → nat_lt MAX_LETTER h.length ≡ false → (h.version == VERSION) ≡ true → (h.wire.service == wire.service) ≡ true
        → Judgement wire h
    by_from true from long version service = by_to (h.wire.to == wire.to) refl long version service from
    by_from false from long version service =
        inl (
          Sender,
          (
            rw (long, version, service, from) refl,
            λ key bytes rest is. (h, (rest, (is, eqb-false h.wire.from wire.from from))),
          ),
        )

    by_service : (t : Bool) → (h.wire.service == wire.service) ≡ t → nat_lt MAX_LETTER h.length ≡ false → (h.version == VERSION) ≡ true → Judgement wire h
    by_service true service long version = by_from (h.wire.from == wire.from) refl long version service
    by_service false service long version =
        inl (
          Service,
          (
            rw (long, version, service) refl,
            λ key bytes rest is. (h, (rest, (is, eqb-false h.wire.service wire.service service))),
          ),
        )

    by_version : (t : Bool) → (h.version == VERSION) ≡ t → nat_lt MAX_LETTER h.length ≡ false → Judgement wire h
    by_version true version long = by_service (h.wire.service == wire.service) refl long version
    by_version false version long =
        inl (
          Version,
          (
            rw (long, version) refl,
            λ key bytes rest is. (h, (rest, (is, eqb-false h.version VERSION version))),
          ),
        )

    by_length : (t : Bool) → nat_lt MAX_LETTER h.length ≡ t → Judgement wire h
    by_length true long = inl (TooLong, (rw long refl, λ key bytes rest is. (h, (rest, (is, ltb-true MAX_LETTER h.length long)))))
    by_length false long = by_version (h.version == VERSION) refl long

module _ (key : List ℕ) (wire : Wire) (bytes : List ℕ) (fits : IsBytes bytes) where
  -- what a head of this wire is followed by
  module _ (h : Head) (rest : List ℕ) (parts : bytes ≡ head_bytes h ++ rest) (more_fits : IsBytes rest) (head_fits : HeadFits h) (own : IsHeadOf wire h) where
    -- and by as many bytes as it says
    module _ (s : IsSplit rest h.length) where
      all_parts : bytes ≡ head_bytes h ++ (s.text ++ (s.seal ++ s.more))
      all_parts = parts ∙ ap (λ (list : List ℕ). head_bytes h ++ list) s.parts

      text_fits : IsBytes s.text
      text_fits = bytes_in_front s.text (s.seal ++ s.more) (subst IsBytes s.parts more_fits)

      abbrev right : List ℕ
      right = seal_of key (head_bytes h ++ s.text)

      taken : (letter : Letter) → s.seal ≡ right → s.text ≡ letter_bytes letter → LetterFits letter
          → IsTaken key wire bytes (letter_in h (Ok letter))
      taken letter sealed spelled letter_fits =
          (f, (s.more, (refl, (whole, ((wire_fits, (head_fits.1.1.1.1.1, (letter_fits, omega (arith, own.0, length_is)))), read)))))
        where
          f : Numbered
          f = record { wire = wire; number = h.number; letter = letter }

          length_is : h.length ≡ length (letter_bytes letter)
          length_is = sym s.text_size ∙ ap (λ (t : List ℕ). length t) spelled

          same : h ≡ head_of f
          same =
              ap (λ (n : ℕ). record { length = n; version = h.version; wire = h.wire; number = h.number }) length_is
              ∙ (ap (λ (n : ℕ). record { length = length (letter_bytes letter); version = n; wire = h.wire; number = h.number }) own.1.0
              ∙ ap (λ (w : Wire). record { length = length (letter_bytes letter); version = VERSION; wire = w; number = h.number }) own.1.1)

          whole : bytes ≡ frame_bytes key f ++ s.more
          whole =
              all_parts
              ∙ (ap (λ (seal : List ℕ). head_bytes h ++ (s.text ++ (seal ++ s.more))) sealed
              ∙ (ap (λ (g : Head). head_bytes g ++ (s.text ++ (seal_of key (head_bytes g ++ s.text) ++ s.more))) same
              ∙ (ap (λ (t : List ℕ). head_bytes (head_of f) ++ (t ++ (seal_of key (head_bytes (head_of f) ++ t) ++ s.more))) spelled
              ∙ sym (frame_parts key f s.more))))

          wire_fits : WireFits wire
          wire_fits = subst WireFits own.1.1 (head_fits.1.1.0, (head_fits.1.1.1.0, head_fits.1.1.1.1.0))

          size_is : HEAD + h.length + SEAL ≡ length (frame_bytes key f)
          size_is = omega (arith, frame_size key f, length_is)

          read : letter_in h (Ok letter) ≡ Ok (Some (found_of key f))
          read = ap (λ (n : ℕ). Ok (Some (record { number = h.number; letter = letter; size = n }))) size_is

      by_letter : s.seal ≡ right → (r : Result Letter Fault) → whole_from s.text ≡ r → Outcome key wire bytes (letter_in h r)
      by_letter sealed (Ok letter) e =
          let w = whole_is s.text letter text_fits e in
          inr (inr (taken letter sealed w.0 w.1))
      by_letter sealed (Err fault) e =
          inr (inl (NoLetter fault, (refl, (h, (s.text, (s.seal, (s.more, (all_parts, (own, (s.text_size, (s.seal_size, (sealed, faults_have_causes s.text fault text_fits e))))))))))))

      by_seal : (t : Bool) → same_bytes right s.seal ≡ t → Outcome key wire bytes (cond t (letter_in h (whole_from s.text)) (Err Seal))
      by_seal true is = by_letter (sym (same_is right s.seal is)) (whole_from s.text) refl
      by_seal false is =
          inr (inl (Seal, (refl, (h, (s.text, (s.seal, (s.more, (all_parts, (own, (s.text_size, (s.seal_size, λ e. not_same right s.seal is (sym e))))))))))))

      split_outcome : Outcome key wire bytes (rest_from key bytes h)
      split_outcome =
          let read : rest_from key bytes h ≡ judged key h s.text s.seal =
          ap (λ (list : List ℕ). rest_from key list h) all_parts ∙ rest_is key h s.text s.seal s.more s.text_size s.seal_size in
          subst (λ (r : Read). Outcome key wire bytes r) (sym read) (by_seal (same_bytes right s.seal) refl)

    by_size : (t : Bool) → nat_lt (length bytes) (HEAD + h.length + SEAL) ≡ t → Outcome key wire bytes (rest_from key bytes h)
    by_size true few =
        inl (rw few refl, inr (h, (rest, (parts, (own, ltb-true (length bytes) (HEAD + h.length + SEAL) few)))))
    by_size false enough =
        split_outcome (split rest h.length (omega (
          arith,
          ltb-false (length bytes) (HEAD + h.length + SEAL) enough,
          ap (λ (t : List ℕ). length t) parts,
          length-append (head_bytes h) rest,
          head_size h,
        )))

  by_judgement : (h : Head) (rest : List ℕ) → bytes ≡ head_bytes h ++ rest → IsBytes rest → HeadFits h → Judgement wire h
      → Outcome key wire bytes (unless_fault (head_fault wire h) (rest_from key bytes h))
  by_judgement h rest parts more_fits head_fits (inl fault) =
      inr (inl (fault.0, (ap (λ (o : Option FrameFault). unless_fault o (rest_from key bytes h)) fault.1.0, fault.1.1 key bytes rest parts)))
  by_judgement h rest parts more_fits head_fits (inr none) =
      subst (λ (o : Option FrameFault). Outcome key wire bytes (unless_fault o (rest_from key bytes h))) (sym none.0)
      (by_size h rest parts more_fits head_fits none.1 (nat_lt (length bytes) (HEAD + h.length + SEAL)) refl)

  by_head : (r : Result (Head × List ℕ) Fault) → head_from bytes ≡ r → Outcome key wire bytes (after_head key wire bytes r)
  by_head (Err d) e = inl (refl, inl (less_than_head bytes d fits e))
  by_head (Ok h) e =
      let t = head_form.takes bytes h fits e in
      by_judgement h.0 h.1 t.0.parts t.0.rest_fits t.1 (judge wire h.0)

  pub outcome : Outcome key wire bytes (frame_from key wire bytes)
  unfolding frame_from
  outcome = by_head (head_from bytes) refl
