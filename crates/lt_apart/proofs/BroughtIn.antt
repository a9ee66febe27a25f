-- Letters that come in.
use Rattle.std.proofs.Common.{◌≡◌, ◌≢◌, ◌<◌, ◌+◌, ◌⊎◌, ℕ, List, [], ◌∷◌, ◌++◌, Option, Some, None, IfSome, Ok, Bool, if◌then◌else◌, nat_lt, length, take, refl, sym, ap, subst, ◌∙◌, arith, inl, inr, slice_set, slice_index_or, append-nil, eq-eqb, ne_eqb, length-append}
use Rattle.std.proofs.lemmas.Bool.{cases_lt, lt-ltb, le-ltb}
use Rattle.std.proofs.lemmas.List.{take_at}
use Rattle.std.proofs.lemmas.Option.{slice_get-get_or}
use Rattle.lt_modes.specs.State.{Letter}
use Rattle.lt_modes.specs.State as rules
use Rattle.lt_letters.specs.declared.fault.Fault.{Fault}
use Rattle.lt_desk.specs.LetterSeen.{letter_seen}
use Rattle.lt_mail.specs.declared.mail.Mail.{Mail}
use Rattle.lt_mail.specs.Words.{taken, on_in, in_at, outs_count, sent_to, waiting_to, taken_from, if_to, IsFullTo, SameEnds}
use Rattle.lt_mail.proofs.LookLemmas.{ends_same, ends_join}
use Rattle.lt_frames.specs.declared.fault.FrameFault.{FrameFault}
use Rattle.lt_frames.specs.declared.fault.FrameFault.TheVariants as causes
use Rattle.lt_frames.specs.declared.frame.Frame.{Frame}
use Rattle.lt_frames.specs.Causes.{IsFrameCause}
use Rattle.lt_frames.specs.declared.frame.Wire.{Wire}
use Rattle.lt_frames.specs.Frames.{frame_bytes}
use Rattle.lt_frames.specs.Seen.{IsFrameAt, frame_seen, on_wire}
use Rattle.lt_frames.proofs.Parts.{frame_size}
use Rattle.lt_apart.specs.Remote.{AreCounts, HasFarEnds}
use Rattle.lt_apart.specs.declared.fault.WireFault.{WireFault}
use Rattle.lt_apart.specs.declared.fault.WireFault.TheVariants.{Memory, Again, Missing}
use Rattle.lt_apart.specs.Faults.{wire_fault, IsWireCause, number_fault}
use Rattle.lt_apart.specs.Carrying.{BringsIn, BringsNext, OnlyBrings}
use Rattle.lt_apart.proofs.FarEnds.{counts_more, counts_stay, far_ends_last}
use Rattle.lt_runner.specs.declared.parts.Parts.{Parts}

pub only_join : (from : ℕ) (f g h : Mail) → OnlyBrings from f g → OnlyBrings from g h → OnlyBrings from f h
only_join from f g h one two = record {
  given_stays = λ node. two.given_stays node ∙ one.given_stays node;
  others = λ node apart. two.others node apart ∙ one.others node apart;
}

pub only_itself : (from : ℕ) (f : Mail) → OnlyBrings from f f
only_itself from f = record { given_stays = λ node. refl; others = λ node apart. refl }

-- no letter came
pub only_sent : (from : ℕ) (f g : Mail) → ((node : ℕ) → sent_to g node ≡ sent_to f node) → ((node : ℕ) → in_at g node ≡ in_at f node) → OnlyBrings from f g
only_sent from f g sent ins = record { given_stays = λ node. ap (on_in taken) (ins node); others = λ node apart. sent node }

to_here : (from : ℕ) (letter : Letter) → if_to from letter from ≡ letter ∷ []
to_here from letter = rw (eq-eqb from from refl) refl

to_other : (from node : ℕ) (letter : Letter) → node ≢ from → if_to from letter node ≡ []
to_other from node letter apart = rw (ne_eqb from node (λ e. apart (sym e))) refl

-- one letter came
pub sent_here : (from : ℕ) (f g : Mail) (letter : Letter) → ((node : ℕ) → sent_to g node ≡ sent_to f node ++ if_to from letter node)
    → sent_to g from ≡ sent_to f from ++ letter ∷ []
sent_here from f g letter sent = sent from ∙ ap (λ (more : List Letter). sent_to f from ++ more) (to_here from letter)

sent_other : (from : ℕ) (f g : Mail) (letter : Letter) → ((node : ℕ) → sent_to g node ≡ sent_to f node ++ if_to from letter node)
    → (node : ℕ) → node ≢ from → sent_to g node ≡ sent_to f node
sent_other from f g letter sent node apart =
    sent node ∙ (ap (λ (more : List Letter). sent_to f node ++ more) (to_other from node letter apart) ∙ append-nil (sent_to f node))

pub only_put : (from : ℕ) (f g : Mail) (letter : Letter) → ((node : ℕ) → sent_to g node ≡ sent_to f node ++ if_to from letter node)
    → ((node : ℕ) → in_at g node ≡ in_at f node) → OnlyBrings from f g
only_put from f g letter sent ins = record {
  given_stays = λ node. ap (on_in taken) (ins node);
  others = λ node apart. sent_other from f g letter sent node apart;
}

pub counts_put : (from number : ℕ) (f g : Mail) (brought : List ℕ) (letter : Letter) → AreCounts (outs_count f) brought (sent_to f) → from < outs_count f
    → number ≡ length (sent_to f from) → SameEnds f g → ((node : ℕ) → sent_to g node ≡ sent_to f node ++ if_to from letter node)
    → AreCounts (outs_count g) (slice_set brought from (number + 1)) (sent_to g)
counts_put from number f g brought letter h below is ends sent =
    subst (λ (n : ℕ). AreCounts n (slice_set brought from (number + 1)) (sent_to g)) (sym ends.counts.0)
    (counts_more (outs_count f) brought (sent_to f) (sent_to g) from number letter h below is (sent_here from f g letter sent) (sent_other from f g letter sent))

pub counts_same : (f g : Mail) (brought : List ℕ) → AreCounts (outs_count f) brought (sent_to f) → SameEnds f g
    → ((node : ℕ) → sent_to g node ≡ sent_to f node) → AreCounts (outs_count g) brought (sent_to g)
counts_same f g brought h ends sent = counts_stay (outs_count f) (outs_count g) brought (sent_to f) (sent_to g) ends.counts.0 sent h

-- its frame stands at the front of the bytes
pub brings_frame : (key : List ℕ) (wire : Wire) (frame : Frame) (before after : List Letter) (bytes : List ℕ) → IsFrameAt key wire bytes frame
    → frame.number ≡ length before → after ≡ before ++ letter_seen frame.letter ∷ [] → BringsIn key wire frame.size before after bytes × (0 < frame.size)
brings_frame key wire frame before after bytes at number more = (
  record {
    letters = letter_seen frame.letter ∷ [];
    goes_on = more;
    within = omega (arith, at.1.1.1, ap (λ (list : List ℕ). length list) at.1.0, length-append its at.0);
    bytes_are = ap (λ (n : ℕ). take n bytes) at.1.1.1
        ∙ (ap (take (length its)) at.1.0
        ∙ (take_at its at.0 (length its) refl
        ∙ (ap (λ (n : ℕ). frame_bytes key (record { wire = wire; number = n; letter = letter_seen frame.letter })) number
        ∙ sym (append-nil _))));
  },
  omega (arith, at.1.1.1, frame_size key (on_wire wire (frame_seen frame))),
)
  where
    its : List ℕ
    its = frame_bytes key (on_wire wire (frame_seen frame))

-- the far ends of the node still, with other numbers of letters that came
pub far_ends_brought : (p : Parts) (f g : Mail) (given brought later : List ℕ) (from : ℕ) → HasFarEnds p f given brought → SameEnds f g
    → OnlyBrings from f g → AreCounts (outs_count g) later (sent_to g) → HasFarEnds p g given later
far_ends_brought p f g given brought later from h ends only counts = record {
  outs = ends.counts.0 ∙ h.outs;
  ins = ends.counts.1 ∙ h.ins;
  near = h.near;
  ends = far_ends_last p.mail p.mail f g h.ends (ends_same p.mail) ends;
  given_counts = counts_stay p.node.script.nodes p.node.script.nodes given (taken_from f) (taken_from g) refl only.given_stays h.given_counts;
  brought_counts = subst (λ (n : ℕ). AreCounts n later (sent_to g)) (ends.counts.0 ∙ h.outs) counts;
}

-- Why nothing was taken in.

-- the number at a place
pub count_at : (n : ℕ) (numbers : List ℕ) (letters : ℕ → List Letter) (place d number : ℕ) → AreCounts n numbers letters → place < n
    → number ≡ slice_index_or numbers place d → number ≡ length (letters place)
count_at n numbers letters place d number h below is =
    is ∙ h.each place (slice_index_or numbers place d) (slice_get-get_or numbers place d (omega (arith, below, h.count)))

-- where a letter waits after a flush, the ring is full
pub is_full : (m : Mail) (to : ℕ) → (waiting_to m to ≡ []) ⊎ IsFullTo m to → 0 < length (waiting_to m to) → IsFullTo m to
is_full m to (inl none) some = absurd (omega (arith, some, ap (λ (letters : List rules.Letter). length letters) none))
is_full m to (inr full) some = full

pub again_cause : (key : List ℕ) (wire : Wire) (bytes : List ℕ) (frame : Frame) (letters : List Letter) → IsFrameAt key wire bytes frame
    → frame.number < length letters → IsWireCause key wire letters Again bytes
again_cause key wire bytes frame letters at less = (on_wire wire (frame_seen frame), (at.0, (refl, (at.1.0, (at.1.1.0, less)))))

pub missing_cause : (key : List ℕ) (wire : Wire) (bytes : List ℕ) (frame : Frame) (letters : List Letter) → IsFrameAt key wire bytes frame
    → length letters < frame.number → IsWireCause key wire letters Missing bytes
missing_cause key wire bytes frame letters at less = (on_wire wire (frame_seen frame), (at.0, (refl, (at.1.0, (at.1.1.0, less)))))

-- its number is the next one, or it is refused for it
pub number_is : (number next : ℕ) → number_fault number next ≡ None → number ≡ next
number_is number next none = elim (cases_lt number next) [
  | inl less ↦ absurd (some_is_none (subst (λ (t : Bool). (if t then Some Again else if nat_lt next number then Some Missing else None) ≡ None) (lt-ltb number next less) none))
  | inr past ↦ elim (cases_lt next number) [
    | inl more ↦ absurd (some_is_none (subst (λ (t : Bool). (if t then Some Missing else None) ≡ None) (lt-ltb next number more)
        (subst (λ (t : Bool). (if t then Some Again else if nat_lt next number then Some Missing else None) ≡ None) (le-ltb number next past) none)))
    | inr least ↦ omega (arith, past, least)
  ]
]
  where
    some_is_none : {fault : WireFault} → Some fault ≡ None → ⊥
    some_is_none e = absurd (cc)

pub number_cause : (key : List ℕ) (wire : Wire) (bytes : List ℕ) (frame : Frame) (letters : List Letter) (next : ℕ) (fault : WireFault)
    → IsFrameAt key wire bytes frame → length letters ≡ next → number_fault frame.number next ≡ Some fault → IsWireCause key wire letters fault bytes
number_cause key wire bytes frame letters next fault at is refused = elim (cases_lt frame.number next) [
  | inl less ↦ subst (λ (f : WireFault). IsWireCause key wire letters f bytes)
      (the_fault (subst (λ (t : Bool). (if t then Some Again else if nat_lt next frame.number then Some Missing else None) ≡ Some fault) (lt-ltb frame.number next less) refused))
      (again_cause key wire bytes frame letters at (omega (arith, less, is)))
  | inr past ↦ later (subst (λ (t : Bool). (if t then Some Again else if nat_lt next frame.number then Some Missing else None) ≡ Some fault) (le-ltb frame.number next past) refused)
]
  where
    the_fault : {a b : WireFault} → Some a ≡ Some b → a ≡ b
    the_fault e = cc

    none_is_some : {a : WireFault} → None ≡ Some a → ⊥
    none_is_some e = absurd (cc)

    later : (if nat_lt next frame.number then Some Missing else None) ≡ Some fault → IsWireCause key wire letters fault bytes
    later e = elim (cases_lt next frame.number) [
      | inl more ↦ subst (λ (f : WireFault). IsWireCause key wire letters f bytes)
          (the_fault (subst (λ (t : Bool). (if t then Some Missing else None) ≡ Some fault) (lt-ltb next frame.number more) e))
          (missing_cause key wire bytes frame letters at (omega (arith, more, is)))
      | inr least ↦ absurd (none_is_some (subst (λ (t : Bool). (if t then Some Missing else None) ≡ Some fault) (le-ltb next frame.number least) e))
    ]

-- the frame finds no memory
pub memory_cause : (key : List ℕ) (wire : Wire) (bytes : List ℕ) (frame : Frame) (letters : List Letter) → IsFrameAt key wire bytes frame
    → IsWireCause key wire letters Memory bytes
memory_cause key wire bytes frame letters at = (on_wire wire (frame_seen frame), (at.0, (refl, (at.1.0, at.1.1.0))))

pub frame_cause : (key : List ℕ) (wire : Wire) (bytes : List ℕ) (letters : List Letter) (fault : FrameFault) → IsFrameCause key wire fault bytes
    → IsWireCause key wire letters (wire_fault fault) bytes
frame_cause key wire bytes letters causes.TooLong h = h
frame_cause key wire bytes letters causes.Version h = h
frame_cause key wire bytes letters causes.Service h = h
frame_cause key wire bytes letters causes.Sender h = h
frame_cause key wire bytes letters causes.Receiver h = h
frame_cause key wire bytes letters causes.Seal h = h
frame_cause key wire bytes letters (causes.Letter fault) h = h

-- what holds of each fault holds of all
pub by_fault : (P : FrameFault → Type 0) → P causes.TooLong → P causes.Version → P causes.Service → P causes.Sender → P causes.Receiver → P causes.Seal
    → ((fault : Fault) → P (causes.Letter fault)) → (fault : FrameFault) → P fault
by_fault P long version service sender receiver seal letter causes.TooLong = long
by_fault P long version service sender receiver seal letter causes.Version = version
by_fault P long version service sender receiver seal letter causes.Service = service
by_fault P long version service sender receiver seal letter causes.Sender = sender
by_fault P long version service sender receiver seal letter causes.Receiver = receiver
by_fault P long version service sender receiver seal letter causes.Seal = seal
by_fault P long version service sender receiver seal letter (causes.Letter fault) = letter fault

-- The letter of a frame, on its way into its ring.

pub number_at : (f : Mail) (brought : List ℕ) (from place d : ℕ) → AreCounts (outs_count f) brought (sent_to f) → from < outs_count f → place ≡ from
    → d ≡ slice_index_or brought place d → d ≡ length (sent_to f from)
number_at f brought from place d h below at is =
    count_at (outs_count f) brought (sent_to f) place d d h (omega (arith, below, at)) is ∙ ap (λ (k : ℕ). length (sent_to f k)) at

pub all_put : (from : ℕ) (f g r h k : Mail) (letter : Letter) → ((node : ℕ) → sent_to g node ≡ sent_to f node) → ((node : ℕ) → sent_to r node ≡ sent_to g node)
    → ((node : ℕ) → sent_to h node ≡ sent_to r node ++ if_to from letter node) → ((node : ℕ) → sent_to k node ≡ sent_to h node)
    → (node : ℕ) → sent_to k node ≡ sent_to f node ++ if_to from letter node
all_put from f g r h k letter flushed reserved put flushed_again node =
    flushed_again node ∙ (put node ∙ ap (λ (letters : List Letter). letters ++ if_to from letter node) (reserved node ∙ flushed node))

pub all_ends : (f g r h k : Mail) → SameEnds f g → SameEnds g r → SameEnds r h → SameEnds h k → SameEnds f k
all_ends f g r h k a b c d = ends_join f h k (ends_join f r h (ends_join f g r a b) c) d

pub found_is : (key : List ℕ) (wire : Wire) (bytes : List ℕ) (number : ℕ) (read : Option Frame) (frame : Frame) → read ≡ Some frame
    → IfSome read (λ (f : Frame). IsFrameAt key wire bytes f × (f.number ≡ number)) → IsFrameAt key wire bytes frame × (frame.number ≡ number)
found_is key wire bytes number read frame is found =
    subst (λ (o : Option Frame). IfSome o (λ (f : Frame). IsFrameAt key wire bytes f × (f.number ≡ number))) is found

pub brought_is : (key : List ℕ) (wire : Wire) (read : Option ℕ) (size : ℕ) (before after : List Letter) (bytes : List ℕ) → read ≡ Some size
    → BringsNext key wire (Ok read) before after bytes → BringsIn key wire size before after bytes × (0 < size)
brought_is key wire read size before after bytes is h = subst (λ (o : Option ℕ). BringsNext key wire (Ok o) before after bytes) is h
