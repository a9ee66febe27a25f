-- What follows from each code where a node gives out a letter.
use Rattle.std.proofs.Common.{◌≡◌, ◌≢◌, ◌<◌, ◌+◌, ◌⊎◌, inl, inr, ℕ, List, [], ◌∷◌, ◌++◌, length, take, refl, sym, ap, subst, arith, ◌∙◌, append-nil, length-append}
use Rattle.std.proofs.lemmas.List.{length-take-le}
use Rattle.lt_modes.specs.State.{Letter}
use Rattle.lt_frames.specs.Frames.{Numbered, frame_bytes}
use Rattle.lt_frames.proofs.Parts.{frame_size}
use Rattle.lt_frames.specs.declared.frame.Wire.{Wire}
use Rattle.lt_apart.specs.Remote.{given}
use Rattle.lt_apart.specs.Carrying.{wire_to, frames}
use Rattle.lt_live_c.specs.OwnNode.{OwnNode}
use Rattle.lt_live_c.specs.Nodes.{unsent, PassesOn, SendsBytes, SendsNone, SendsLater, SendsFrames}
use Rattle.lt_live_c.specs.NodeCalls.{WithPeer}
use Rattle.lt_live_c.specs.LettersTold.{SendCall, AfterSend, IsNextFrame, SendsTold}
use Rattle.lt_live_c.proofs.NodesOpened.{of_node, done, at_node}

-- the frames of some letters have bytes
pub frames_empty : (key : List ℕ) (wire : Wire) (number : ℕ) (letters : List Letter) → length (frames key wire number letters) ≡ 0 → letters ≡ []
frames_empty key wire number [] none = refl
frames_empty key wire number (letter ∷ rest) none =
    let first : Numbered = record { wire = wire; number = number; letter = letter } in
    absurd (omega (
      arith,
      none,
      length-append (frame_bytes key first) (frames key wire (number + 1) rest),
      frame_size key first,
    ))

-- What passes on.

module _ (to : ℕ) (sent : List ℕ) (a b : OwnNode) (h : PassesOn to sent a b) where
  -- what went out and what waits
  abbrev passed : List ℕ
  passed = sent ++ unsent b to

  -- the next frame, where none waited
  pub next_frame : unsent a to ≡ [] → 0 < length passed → IsNextFrame to passed a b
  next_frame none some = by_letters h.frames.letters h.frames.goes_on h.frames.count_is (h.frames.bytes ∙ ap (λ (bytes : List ℕ). bytes ++ frames a.remote.key (wire_to a.remote to) (length (given a.remote to)) h.frames.letters) none)
    where
      by_letters : (letters : List Letter) → given b.remote to ≡ given a.remote to ++ letters → length letters ≡ h.count
          → passed ≡ frames a.remote.key (wire_to a.remote to) (length (given a.remote to)) letters → IsNextFrame to passed a b
      by_letters [] more count bytes = absurd (omega (arith, some, ap (λ (xs : List ℕ). length xs) bytes))
      by_letters (letter ∷ []) more count bytes = (letter, more, bytes ∙ append-nil _)
      by_letters (letter ∷ other ∷ rest) more count bytes = absurd (omega (arith, count, h.one))

  -- where one waited, it goes out or waits, and no further letter is given out
  no_letters : unsent a to ≢ [] → h.frames.letters ≡ []
  no_letters some = by_length h.frames.letters (h.frames.count_is ∙ h.in_order some)
    where
      by_length : (letters : List Letter) → length letters ≡ 0 → letters ≡ []
      by_length [] e = refl
      by_length (letter ∷ rest) e = absurd (omega (arith, e))

  pub waited : unsent a to ≢ [] → passed ≡ unsent a to
  waited some =
      h.frames.bytes
      ∙ ap (λ (letters : List Letter). unsent a to ++ frames a.remote.key (wire_to a.remote to) (length (given a.remote to)) letters) (no_letters some)
      ∙ append-nil (unsent a to)

  given_same : h.frames.letters ≡ [] → given b.remote to ≡ given a.remote to
  given_same none = h.frames.goes_on ∙ ap (λ (letters : List Letter). given a.remote to ++ letters) none ∙ append-nil (given a.remote to)

  pub none_more : unsent a to ≢ [] → given b.remote to ≡ given a.remote to
  none_more some = given_same (no_letters some)

  -- where nothing passed, no letter was given out
  pub none_given : passed ≡ [] → given b.remote to ≡ given a.remote to
  none_given none =
      let letters = h.frames.letters in
      let number = length (given a.remote to) in
      let empty : length (frames a.remote.key (wire_to a.remote to) number letters) ≡ 0 =
      omega (
        arith,
        ap (λ (xs : List ℕ). length xs) (sym none ∙ h.frames.bytes),
        length-append (unsent a to) (frames a.remote.key (wire_to a.remote to) number letters),
      ) in
      given_same (frames_empty a.remote.key (wire_to a.remote to) number letters empty)

-- What a call that sends does, by its code.

abbrev Sends : ℕ → SendCall → OwnNode → OwnNode → Type 0
Sends code call a b = SendsFrames code call.to call.was call.size call.buffer call.buffer_now a b

abbrev SendsOk : SendCall → OwnNode → OwnNode → Type 0
SendsOk call a b = SendsBytes 0 call.to call.size call.buffer call.buffer_now a b

abbrev SendsFull : SendCall → OwnNode → OwnNode → Type 0
SendsFull call a b = SendsLater 7 call.to call.size call.buffer call.buffer_now a b

abbrev SendsNothing : ℕ → SendCall → OwnNode → OwnNode → Type 0
SendsNothing code call a b = SendsNone code call.to call.was call.size call.buffer call.buffer_now a b

send_as : (code : ℕ) (Told : SendCall → OwnNode → OwnNode → Type 0)
    → ((call : SendCall) (a b : OwnNode) → WithPeer code call.to (Sends code call) a b → Told call a b) → AfterSend code Told
send_as code Told told call a new h = of_node code call.to (Sends code call) (Told call a) a new h (told call a)

in_bytes : (call : SendCall) (a b : OwnNode) → WithPeer 0 call.to (Sends 0 call) a b → SendsOk call a b
in_bytes call a b h = elim (done 0 call.to (Sends 0 call) a b (λ e. omega (arith, e)) h) [
  | inl bytes ↦ bytes
  | inr (inl none) ↦ absurd (elim none.why [
    | inl nothing ↦ omega (arith, nothing.0)
    | inr (inl memory) ↦ omega (arith, memory)
    | inr (inr long) ↦ omega (arith, long.0)
  ])
  | inr (inr later) ↦ absurd (omega (arith, later.code_is))
]

in_full : (call : SendCall) (a b : OwnNode) → WithPeer 7 call.to (Sends 7 call) a b → SendsFull call a b
in_full call a b h = elim (done 7 call.to (Sends 7 call) a b (λ e. omega (arith, e)) h) [
  | inl bytes ↦ absurd (omega (arith, bytes.code_is))
  | inr (inl none) ↦ absurd (elim none.why [
    | inl nothing ↦ omega (arith, nothing.0)
    | inr (inl memory) ↦ omega (arith, memory)
    | inr (inr long) ↦ omega (arith, long.0)
  ])
  | inr (inr later) ↦ later
]

in_nothing : (code : ℕ) (call : SendCall) (a b : OwnNode) → code ≢ 0 → code ≢ 4 → code ≢ 7 → WithPeer code call.to (Sends code call) a b
    → SendsNothing code call a b
in_nothing code call a b some peer full h = elim (done code call.to (Sends code call) a b peer h) [
  | inl bytes ↦ absurd (some bytes.code_is)
  | inr (inl none) ↦ none
  | inr (inr later) ↦ absurd (full later.code_is)
]

nothing_as : (call : SendCall) (a b : OwnNode) → WithPeer 1 call.to (Sends 1 call) a b → SendsNothing 1 call a b
nothing_as call a b h = in_nothing 1 call a b (λ e. omega (arith, e)) (λ e. omega (arith, e)) (λ e. omega (arith, e)) h

memory_as : (call : SendCall) (a b : OwnNode) → WithPeer 3 call.to (Sends 3 call) a b → SendsNothing 3 call a b
memory_as call a b h = in_nothing 3 call a b (λ e. omega (arith, e)) (λ e. omega (arith, e)) (λ e. omega (arith, e)) h

long_as : (call : SendCall) (a b : OwnNode) → WithPeer 45 call.to (Sends 45 call) a b → SendsNothing 45 call a b
long_as call a b h = in_nothing 45 call a b (λ e. omega (arith, e)) (λ e. omega (arith, e)) (λ e. omega (arith, e)) h

-- no letter was given out where none has a frame
nothing_given : (code : ℕ) (call : SendCall) (a b : OwnNode) → SendsNothing code call a b → given b.remote call.to ≡ given a.remote call.to
nothing_given code call a b h = none_given call.to [] a b h.passes h.unsent_none

-- whatever the code, something passes on, or nothing happened
passes_in : (code : ℕ) (call : SendCall) (a b : OwnNode) → Sends code call a b → (sent : List ℕ) × PassesOn call.to sent a b
passes_in code call a b (inl bytes) = (take call.size call.buffer_now, bytes.passes)
passes_in code call a b (inr (inl none)) = ([], none.passes)
passes_in code call a b (inr (inr later)) = ([], later.passes)

send_any : (code : ℕ) (Told : SendCall → OwnNode → OwnNode → Type 0)
    → ((call : SendCall) (sent : List ℕ) (a b : OwnNode) → PassesOn call.to sent a b → Told call a b)
    → ((call : SendCall) (a : OwnNode) → Told call a a) → AfterSend code Told
send_any code Told told same = send_as code Told by_case
  where
    by_case : (call : SendCall) (a b : OwnNode) → WithPeer code call.to (Sends code call) a b → Told call a b
    by_case call a b (inl does) = let found = passes_in code call a b does.1 in told call found.0 a b found.1
    by_case call a b (inr none) = subst (λ (n : OwnNode). Told call a n) (sym none.1.1) (same call a)

-- the codes of a send
sent_code : (code : ℕ) (call : SendCall) (a b : OwnNode) → Sends code call a b
    → (code ≡ 0) ⊎ ((code ≡ 1) ⊎ ((code ≡ 3) ⊎ ((code ≡ 7) ⊎ (code ≡ 45))))
sent_code code call a b (inl bytes) = inl bytes.code_is
sent_code code call a b (inr (inl none)) = elim none.why [
  | inl nothing ↦ inr (inl nothing.0)
  | inr (inl memory) ↦ inr (inr (inl memory))
  | inr (inr long) ↦ inr (inr (inr (inr long.0)))
]
sent_code code call a b (inr (inr later)) = inr (inr (inr (inl later.code_is)))

-- 4 is the code of a number that is no other node's
no_peer_code : (call : SendCall) (a b : OwnNode) → Sends 4 call a b → ⊥
no_peer_code call a b h = elim (sent_code 4 call a b h) [
  | inl e ↦ omega (arith, e)
  | inr (inl e) ↦ omega (arith, e)
  | inr (inr (inl e)) ↦ omega (arith, e)
  | inr (inr (inr (inl e))) ↦ omega (arith, e)
  | inr (inr (inr (inr e))) ↦ omega (arith, e)
]

-- of a frame that stands in the buffer nothing waits
in_buffer : (call : SendCall) (a b : OwnNode) → SendsOk call a b → take call.size call.buffer_now ++ unsent b call.to ≡ take call.size call.buffer_now
in_buffer call a b h =
    ap (λ (bytes : List ℕ). take call.size call.buffer_now ++ bytes) h.unsent_none ∙ append-nil (take call.size call.buffer_now)

frame_in_buffer : (call : SendCall) (a b : OwnNode) → SendsOk call a b → unsent a call.to ≡ []
    → IsNextFrame call.to (take call.size call.buffer_now) a b
frame_in_buffer call a b h none =
    subst (λ (bytes : List ℕ). IsNextFrame call.to bytes a b) (in_buffer call a b h)
    (next_frame call.to (take call.size call.buffer_now) a b h.passes none
    (omega (
      arith,
      length-append (take call.size call.buffer_now) (unsent b call.to),
      length-take-le call.size call.buffer_now (omega (arith, h.within, h.same_size)),
      h.some,
    )))

pub sends_told : SendsTold
sends_told = record {
  some = send_as 0 _ (λ call a b h. (in_bytes call a b h).some);
  within = send_as 0 _ (λ call a b h. (in_bytes call a b h).within);
  frame = send_as 0 _ (λ call a b h none. frame_in_buffer call a b (in_bytes call a b h) none);
  waited = send_as 0 _ (λ call a b h some.
      let bytes = in_bytes call a b h in
      sym (in_buffer call a b bytes) ∙ waited call.to (take call.size call.buffer_now) a b bytes.passes some);
  once = send_as 0 _ (λ call a b h. (in_bytes call a b h).unsent_none);
  none_more = send_as 0 _ (λ call a b h some.
      none_more call.to (take call.size call.buffer_now) a b (in_bytes call a b h).passes some);
  behind = send_as 0 _ (λ call a b h. (in_bytes call a b h).rest);
  wants = send_as 7 _ (λ call a b h. (in_full call a b h).wants);
  no_room = send_as 7 _ (λ call a b h. (in_full call a b h).no_room);
  kept = send_as 7 _ (λ call a b h none.
      let later = in_full call a b h in
      next_frame call.to [] a b later.passes none (omega (arith, later.wants, later.no_room)));
  still_kept = send_as 7 _ (λ call a b h some. waited call.to [] a b (in_full call a b h).passes some);
  full_buffer = send_as 7 _ (λ call a b h. (in_full call a b h).stays);
  all_given = send_as 1 _ (λ call a b h. elim ((nothing_as call a b h).why) [
    | inl nothing ↦ nothing.1
    | inr (inl memory) ↦ absurd (omega (arith, memory))
    | inr (inr long) ↦ absurd (omega (arith, long.0))
  ]);
  nothing_unsent = send_as 1 _ (λ call a b h. (nothing_as call a b h).unsent_none);
  nothing_given = send_as 1 _ (λ call a b h. nothing_given 1 call a b (nothing_as call a b h));
  length_stays = send_as 1 _ (λ call a b h. (nothing_as call a b h).stays.0);
  buffer_stays = send_as 1 _ (λ call a b h. (nothing_as call a b h).stays.1);
  long = send_as 45 _ (λ call a b h. elim ((long_as call a b h).why) [
    | inl nothing ↦ absurd (omega (arith, nothing.0))
    | inr (inl memory) ↦ absurd (omega (arith, memory))
    | inr (inr long) ↦ long.1
  ]);
  long_given = send_as 45 _ (λ call a b h. nothing_given 45 call a b (long_as call a b h));
  memory_given = send_as 3 _ (λ call a b h. nothing_given 3 call a b (memory_as call a b h));
  memory_buffer = send_as 3 _ (λ call a b h. (memory_as call a b h).stays.1);
  no_peer = send_as 4 _ (λ call a b h. elim h [
    | inl does ↦ absurd (no_peer_code call a b does.1)
    | inr none ↦ λ below apart. none.1.0 (below, apart)
  ]);
  same = send_as 4 _ (λ call a b h. elim h [
    | inl does ↦ absurd (no_peer_code call a b does.1)
    | inr none ↦ none.1.1
  ]);
  others_given = λ code. send_any code _ (λ call sent a b h. h.only.others) (λ call a node apart. refl);
  others_unsent = λ code. send_any code _ (λ call sent a b h. h.others) (λ call a node apart. refl);
  brought_stays = λ code. send_any code _ (λ call sent a b h. h.only.brought_stays) (λ call a node. refl);
  log_stays = λ code. send_any code _ (λ call sent a b h. h.only.runner.log) (λ call a. refl);
  sessions_stay = λ code. send_any code _ (λ call sent a b h. h.sessions) (λ call a. refl);
  others = λ call. at_node call.to (λ code. Sends code call);
  only = λ code. send_as code _ (λ call a b h. elim h [
    | inl does ↦ elim (sent_code code call a b does.1) [
      | inl e ↦ inl e
      | inr (inl e) ↦ inr (inl e)
      | inr (inr (inl e)) ↦ inr (inr (inl e))
      | inr (inr (inr (inl e))) ↦ inr (inr (inr (inr (inl e))))
      | inr (inr (inr (inr e))) ↦ inr (inr (inr (inr (inr e))))
    ]
    | inr none ↦ inr (inr (inr (inl none.0)))
  ]);
}
