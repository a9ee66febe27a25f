-- Frames that are given to C.
use Rattle.std.proofs.Common.{◌≡◌, ◌≢◌, ◌<◌, ◌+◌, ℕ, List, [], ◌∷◌, ◌++◌, Option, Vec, length, take, drop, refl, sym, ap, ◌∙◌, arith, inl, inr, slice_get, slice_set, slice_index_or, length-append, append-nil}
use Rattle.std.specs.Global.{Global}
use Rattle.std.proofs.lemmas.Option.{slice_get-get_or}
use Rattle.std.proofs.lemmas.List.{length-drop}
use Rattle.std.proofs.Math.Seq.{take-append_seam, drop-append_seam}
use Rattle.lt_modes.specs.State.{Letter}
use Rattle.lt_frames.specs.declared.frame.Wire.{Wire}
use Rattle.lt_frames.specs.Frames.{Numbered, frame_bytes}
use Rattle.lt_frames.proofs.Parts.{frame_size}
use Rattle.lt_live.proofs.SeatLists.{set_here, set_other}
use Rattle.lt_apart.specs.Remote.{RemoteData, given}
use Rattle.lt_apart.specs.Carrying.{frames, GivesOut, wire_to}
use Rattle.lt_apart.proofs.Frames.{gives_none}
use Rattle.lt_apart.proofs.GivenOut.{only_itself}
use Rattle.lt_live_c.specs.OwnNode.{OwnNode}
use Rattle.lt_live_c.specs.Nodes.{bytes_of, unsent, PassesOn, GivesFrame, GoesToBuffer, HasNoFrame, SendsFrames}

-- letters that go out have bytes
pub some_bytes : (key : List ℕ) (wire : Wire) (count : ℕ) (before after : List Letter) (out out_now : List ℕ)
    → GivesOut key wire count before after out out_now → count ≢ 0 → 0 < length out_now
some_bytes key wire count before after out out_now h some = by_letters h.letters h.count_is h.bytes
  where
    by_letters : (letters : List Letter) → length letters ≡ count → out_now ≡ out ++ frames key wire (length before) letters → 0 < length out_now
    by_letters [] e bytes = absurd (some (sym e))
    by_letters (letter ∷ rest) e bytes =
        let first : Numbered = record { wire = wire; number = length before; letter = letter } in
        omega (
          arith,
          ap (λ (xs : List ℕ). length xs) bytes,
          length-append out (frames key wire (length before) (letter ∷ rest)),
          length-append (frame_bytes key first) (frames key wire (length before + 1) rest),
          frame_size key first,
        )

-- the frame that found no room stays the next one
pub gives_old : (to : ℕ) (frame : List ℕ) (a : RemoteData) → GivesFrame to frame frame a a
gives_old to frame a = record {
  count = 0;
  frames = gives_none a.key (wire_to a to) (given a to) (given a to) frame frame refl refl;
  one = omega arith;
  in_order = λ some. refl;
  only = only_itself to a.station a.far;
  same = (refl, refl);
}

-- what is unsent before and after, by the frame at the node's place
pub unsent_was : (ready : List (Vec ℕ Global)) (place to : ℕ) (d : Vec ℕ Global) → to < length ready → place ≡ to
    → d ≡ slice_index_or ready place d → bytes_of (slice_get ready to) ≡ d.items
unsent_was ready place to d below at is =
    ap (λ (o : Option (Vec ℕ Global)). bytes_of o) (slice_get-get_or ready to d below)
    ∙ ap (λ (bytes : Vec ℕ Global). bytes.items) (sym (is ∙ ap (λ (k : ℕ). slice_index_or ready k d) at))

unsent_now : (ready : List (Vec ℕ Global)) (place to : ℕ) (d : Vec ℕ Global) → to < length ready → place ≡ to
    → bytes_of (slice_get (slice_set ready place d) to) ≡ d.items
unsent_now ready place to d below at =
    ap (λ (k : ℕ). bytes_of (slice_get (slice_set ready k d) to)) at
    ∙ ap (λ (o : Option (Vec ℕ Global)). bytes_of o) (set_here ready to d below)

unsent_others : (ready : List (Vec ℕ Global)) (place to : ℕ) (d : Vec ℕ Global) → place ≡ to → (node : ℕ) → node ≢ to
    → bytes_of (slice_get (slice_set ready place d) node) ≡ bytes_of (slice_get ready node)
unsent_others ready place to d at node apart =
    ap (λ (o : Option (Vec ℕ Global)). bytes_of o) (set_other ready place d node (λ e. apart (e ∙ at)))

same_bytes : (key : List ℕ) (wire : Wire) (count : ℕ) (before after : List Letter) (out out_now was now : List ℕ)
    → GivesOut key wire count before after out out_now → was ≡ out → now ≡ out_now → GivesOut key wire count before after was now
same_bytes key wire count before after out out_now was now h same last = record {
  letters = h.letters;
  count_is = h.count_is;
  goes_on = h.goes_on;
  bytes = last ∙ (h.bytes ∙ ap (λ (bytes : List ℕ). bytes ++ frames key wire (length before) h.letters) (sym same));
}

-- the node's frame before, the one that went out or waits, and what is left of it
pub record FrameAt (place to : ℕ) (was now : Vec ℕ Global) (a b : OwnNode) : Type 0 where
  pub below : to < length a.ready
  pub at : place ≡ to
  pub was_is : was ≡ slice_index_or a.ready place was
  pub now_is : b.ready ≡ slice_set a.ready place now
  pub sessions : b.sessions ≡ a.sessions

left : (place to : ℕ) (was now : Vec ℕ Global) (a b : OwnNode) → FrameAt place to was now a b → unsent b to ≡ now.items
left place to was now a b h =
    ap (λ (ready : List (Vec ℕ Global)). bytes_of (slice_get ready to)) h.now_is ∙ unsent_now a.ready place to now h.below h.at

passes : (place to : ℕ) (sent frame : List ℕ) (was now : Vec ℕ Global) (a b : OwnNode) → FrameAt place to was now a b
    → GivesFrame to was.items frame a.remote b.remote → sent ++ now.items ≡ frame → PassesOn to sent a b
passes place to sent frame was now a b h gives whole = record {
  count = gives.count;
  frames = same_bytes a.remote.key (wire_to a.remote to) gives.count (given a.remote to) (given b.remote to) was.items frame (unsent a to)
      (sent ++ unsent b to) gives.frames (unsent_was a.ready place to was h.below h.at h.was_is)
      (ap (λ (bytes : List ℕ). sent ++ bytes) (left place to was now a b h) ∙ whole);
  one = gives.one;
  in_order = λ some. gives.in_order (λ e. some (unsent_was a.ready place to was h.below h.at h.was_is ∙ e));
  others = λ node apart. ap (λ (ready : List (Vec ℕ Global)). bytes_of (slice_get ready node)) h.now_is
      ∙ unsent_others a.ready place to now h.at node apart;
  only = gives.only;
  same = gives.same;
  sessions = h.sessions;
}

-- no frame waits
pub sends_none : (code place to length_now : ℕ) (buffer : List ℕ) (was now : Vec ℕ Global) (a b : OwnNode) → FrameAt place to was now a b
    → GivesFrame to was.items now.items a.remote b.remote → now.items ≡ [] → HasNoFrame code to b.remote
    → SendsFrames code to length_now length_now buffer buffer a b
sends_none code place to length_now buffer was now a b h gives none why = inr (inl (record {
  passes = passes place to [] now.items was now a b h gives refl;
  unsent_none = left place to was now a b h ∙ none;
  why = why;
  stays = (refl, refl);
}))

-- the frame went out, or found no room
pub sends_frame : (code place to length_was length_now : ℕ) (frame buffer buffer_now : List ℕ) (was now : Vec ℕ Global) (a b : OwnNode)
    → FrameAt place to was now a b → GivesFrame to was.items frame a.remote b.remote → 0 < length frame
    → GoesToBuffer code length_now frame now.items buffer buffer_now → SendsFrames code to length_was length_now buffer buffer_now a b
sends_frame code place to length_was length_now frame buffer buffer_now was now a b h gives some (inl out) = inl (record {
  code_is = out.code_is;
  within = omega (arith, out.size, out.room);
  same_size = omega (arith, ap (λ (bytes : List ℕ). length bytes) out.stands, length-append frame (drop (length frame) buffer), length-drop (length frame) buffer, out.room);
  some = omega (arith, out.size, some);
  passes = passes place to (take length_now buffer_now) frame was now a b h gives
      (ap (λ (bytes : List ℕ). take length_now buffer_now ++ bytes) out.gone ∙ (append-nil (take length_now buffer_now) ∙ front));
  unsent_none = left place to was now a b h ∙ out.gone;
  rest = behind;
})
  where
    front : take length_now buffer_now ≡ frame
    front = ap (λ (k : ℕ). take k buffer_now) out.size ∙ (ap (λ (bytes : List ℕ). take (length frame) bytes) out.stands ∙ take-append_seam frame (drop (length frame) buffer))

    behind : drop length_now buffer_now ≡ drop length_now buffer
    behind = ap (λ (k : ℕ). drop k buffer_now) out.size
        ∙ (ap (λ (bytes : List ℕ). drop (length frame) bytes) out.stands
        ∙ (drop-append_seam frame (drop (length frame) buffer)
        ∙ ap (λ (k : ℕ). drop k buffer) (sym out.size)))
sends_frame code place to length_was length_now frame buffer buffer_now was now a b h gives some (inr later) = inr (inr (record {
  code_is = later.code_is;
  passes = passes place to [] frame was now a b h gives later.stays.0;
  wants = later.wants ∙ ap (λ (bytes : List ℕ). length bytes) (sym (left place to was now a b h ∙ later.stays.0));
  no_room = omega (arith, later.wants, later.no_room);
  stays = later.stays.1;
}))
