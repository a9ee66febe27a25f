-- Letters that go out.
use Rattle.std.proofs.Common.{◌≡◌, ◌≢◌, ◌<◌, ◌+◌, ℕ, List, [], ◌∷◌, ◌++◌, Result, Err, Bool, true, false, length, refl, sym, ap, subst, ◌∙◌, arith, slice_set, slice_index_or, MatchBool, length-append, append-nil, append_assoc, eq-eqb, ne_eqb}
use mathlib.Core.List.{IsPrefix}
use Rattle.lt_modes.specs.State.{Letter}
use Rattle.lt_modes.specs.Script.{ScriptData}
use Rattle.lt_letters.specs.Spelling.{letter_bytes}
use Rattle.lt_frames.specs.declared.frame.TheConstants.{MAX_LETTER}
use Rattle.lt_frames.specs.declared.fault.WriteError.{WriteError}
use Rattle.lt_frames.specs.declared.frame.Wire.{Wire}
use Rattle.lt_frames.specs.Frames.{frame_bytes}
use Rattle.lt_frames.specs.Seen.{frame_of}
use Rattle.lt_mail.specs.declared.mail.Mail.{Mail}
use Rattle.lt_mail.specs.Words.{sent_by, on_out, out_at, sent_to, given_to, waiting_to, taken_from, known_from, if_from, SameEnds}
use Rattle.lt_mail.proofs.LookLemmas.{ends_same}
use Rattle.lt_runner.specs.declared.parts.Parts.{Parts}
use Rattle.lt_runner.specs.Kept.{LooksTo}
use Rattle.lt_runner.proofs.KeptLemmas.{seen_join}
use Rattle.lt_threads.proofs.Each.{seen_self}
use Rattle.lt_live.specs.Stations.{StationData}
use Rattle.lt_apart.specs.Remote.{AreCounts, HasFarEnds}
use Rattle.lt_apart.specs.Carrying.{frames, gave, GivesOut, OnlyGives, HaveNoNumber, NextIsTooLong}
use Rattle.lt_apart.proofs.BroughtIn.{count_at}
use Rattle.lt_apart.proofs.Frames.{gives_one}
use Rattle.lt_apart.proofs.FarEnds.{counts_more, counts_stay, far_ends_last, far_ends_stay}
use Rattle.lt_apart.proofs.NodeFacts.{sent_is}

-- one after the other
pub only_join : (to : ℕ) (a b c : StationData) (f g h : Mail) → OnlyGives to a b f g → OnlyGives to b c g h → OnlyGives to a c f h
only_join to a b c f g h one two = record {
  runner = seen_join a.runner b.runner c.runner one.runner two.runner;
  seats = two.seats ∙ one.seats;
  brought_stays = λ node. two.brought_stays node ∙ one.brought_stays node;
  others = λ node apart. two.others node apart ∙ one.others node apart;
}

pub only_itself : (to : ℕ) (a : StationData) (f : Mail) → OnlyGives to a a f f
only_itself to a f = record { runner = seen_self a.runner; seats = refl; brought_stays = λ node. refl; others = λ node apart. refl }

-- nothing was given out
pub gave_nothing : (key : List ℕ) (wire : Wire) (before after : List Letter) (out out_now : List ℕ) → GivesOut key wire 0 before after out out_now
    → (after ≡ before) × (out_now ≡ out)
gave_nothing key wire before after out out_now h = none h.letters h.count_is h.goes_on h.bytes
  where
    none : (letters : List Letter) → length letters ≡ 0 → after ≡ before ++ letters → out_now ≡ out ++ frames key wire (length before) letters
        → (after ≡ before) × (out_now ≡ out)
    none [] e more bytes = (more ∙ append-nil before, bytes ∙ append-nil out)
    none (letter ∷ letters) e more bytes = absurd (omega (arith, e))

-- the ring was looked at from both ends
pub met_far : (to : ℕ) (p q : Parts) (f g : Mail) (given brought : List ℕ) → HasFarEnds p f given brought → LooksTo to p q → SameEnds f g
    → ((node : ℕ) → out_at g node ≡ out_at f node) → ((node : ℕ) → taken_from g node ≡ taken_from f node) → HasFarEnds q g given brought
met_far to p q f g given brought h looks ends outs taken =
    far_ends_stay p q f g given brought h (ap (λ (s : ScriptData). s.nodes) looks.seen.same.script) looks.seen.same.ends ends taken
    (λ node. ap (on_out sent_by) (outs node))

pub met_only : (to : ℕ) (a b : StationData) (f g : Mail) → LooksTo to a.runner b.runner → b.seats ≡ a.seats
    → ((node : ℕ) → out_at g node ≡ out_at f node) → ((node : ℕ) → taken_from g node ≡ taken_from f node) → OnlyGives to a b f g
met_only to a b f g looks seats outs taken = record {
  runner = looks.seen;
  seats = seats;
  brought_stays = λ node. ap (on_out sent_by) (outs node);
  others = λ node apart. taken node;
}

-- where none is known then, all letters were given out
pub all_given : (to : ℕ) (p : Parts) (f : Mail) → taken_from f to ++ known_from f to ≡ given_to p.mail to
    → (known_from f to ≡ [] → waiting_to p.mail to ≡ []) → known_from f to ≡ [] → sent_to p.mail to ≡ taken_from f to
all_given to p f whole moves none =
    sent_is p.mail to
    ∙ (ap (λ (letters : List Letter). given_to p.mail to ++ letters) (moves none)
    ∙ (append-nil (given_to p.mail to)
    ∙ (sym whole
    ∙ (ap (λ (letters : List Letter). taken_from f to ++ letters) none
    ∙ append-nil (taken_from f to)))))

-- and where one is, it is the next one
pub next_is : (to : ℕ) (p : Parts) (f : Mail) (letter : Letter) → taken_from f to ++ known_from f to ≡ given_to p.mail to
    → IsPrefix (letter ∷ []) (known_from f to) → (rest : List Letter) × (sent_to p.mail to ≡ taken_from f to ++ letter ∷ rest)
next_is to p f letter whole first = (
  first.0 ++ waiting_to p.mail to,
  sent_is p.mail to
      ∙ (ap (λ (letters : List Letter). letters ++ waiting_to p.mail to) (sym whole ∙ ap (λ (letters : List Letter). taken_from f to ++ letters) (sym first.1))
      ∙ append_assoc (taken_from f to) (letter ∷ first.0) (waiting_to p.mail to)),
)

pub too_long : (to : ℕ) (p : Parts) (f : Mail) (letter : Letter) → taken_from f to ++ known_from f to ≡ given_to p.mail to
    → IsPrefix (letter ∷ []) (known_from f to) → MAX_LETTER < length (letter_bytes letter) → NextIsTooLong to p f
too_long to p f letter whole first long =
    let next = next_is to p f letter whole first in
    (letter, (next.0, (next.1, long)))

-- the first known letter is the one that is taken
pub first_is : (letters rest : List Letter) (a b : Letter) → IsPrefix (a ∷ []) letters → letters ≡ b ∷ rest → a ≡ b
first_is letters rest a b first is = heads (a ∷ first.0) a refl (first.1 ∙ is)
  where
    heads : (xs : List Letter) (x : Letter) → xs ≡ x ∷ first.0 → xs ≡ b ∷ rest → x ≡ b
    heads xs x e f = cc

if_here : (to : ℕ) (letter : Letter) → if_from to letter to ≡ letter ∷ []
if_here to letter = rw (eq-eqb to to refl) refl

if_other : (to node : ℕ) (letter : Letter) → node ≢ to → if_from to letter node ≡ []
if_other to node letter apart = rw (ne_eqb node to apart) refl

-- one letter more was taken from the far end
pub taken_far : (to number : ℕ) (p : Parts) (f g : Mail) (given brought : List ℕ) (letter : Letter) → HasFarEnds p f given brought
    → to < p.node.script.nodes → number ≡ length (taken_from f to) → SameEnds f g → ((node : ℕ) → out_at g node ≡ out_at f node)
    → ((node : ℕ) → taken_from g node ≡ taken_from f node ++ if_from to letter node) → HasFarEnds p g (slice_set given to (number + 1)) brought
taken_far to number p f g given brought letter h below is ends outs taken = record {
  outs = ends.counts.0 ∙ h.outs;
  ins = ends.counts.1 ∙ h.ins;
  near = h.near;
  ends = far_ends_last p.mail p.mail f g h.ends (ends_same p.mail) ends;
  given_counts = counts_more p.node.script.nodes given (taken_from f) (taken_from g) to number letter h.given_counts below is here others;
  brought_counts = counts_stay p.node.script.nodes p.node.script.nodes brought (sent_to f) (sent_to g) refl (λ node. ap (on_out sent_by) (outs node)) h.brought_counts;
}
  where
    here : taken_from g to ≡ taken_from f to ++ letter ∷ []
    here = taken to ∙ ap (λ (more : List Letter). taken_from f to ++ more) (if_here to letter)

    others : (node : ℕ) → node ≢ to → taken_from g node ≡ taken_from f node
    others node apart =
        taken node ∙ (ap (λ (more : List Letter). taken_from f node ++ more) (if_other to node letter apart) ∙ append-nil (taken_from f node))

pub taken_only : (to : ℕ) (a : StationData) (f g : Mail) (letter : Letter) → ((node : ℕ) → out_at g node ≡ out_at f node)
    → ((node : ℕ) → taken_from g node ≡ taken_from f node ++ if_from to letter node) → OnlyGives to a a f g
taken_only to a f g letter outs taken = record {
  runner = seen_self a.runner;
  seats = refl;
  brought_stays = λ node. ap (on_out sent_by) (outs node);
  others = λ node apart.
      taken node ∙ (ap (λ (more : List Letter). taken_from f node ++ more) (if_other to node letter apart) ∙ append-nil (taken_from f node));
}

-- the number of the next letter
pub next_number : (n : ℕ) (given : List ℕ) (f g : Mail) (to place d : ℕ) → AreCounts n given (taken_from f) → to < n → place ≡ to
    → d ≡ slice_index_or given place d → taken_from g to ≡ taken_from f to → d ≡ length (taken_from g to)
next_number n given f g to place d h below at is same =
    count_at n given (taken_from f) place d d h (omega (arith, below, at)) is
    ∙ (ap (λ (k : ℕ). length (taken_from f k)) at ∙ ap (λ (letters : List Letter). length letters) (sym same))

-- the last number was given
pub no_number : (letters : List Letter) (number : ℕ) → number ≡ length letters → number ≡ 18446744073709551615 → HaveNoNumber letters
no_number letters number is last = omega (arith, is, last)

-- one letter went out, with its frame
pub gave_one : (key : List ℕ) (wire : Wire) (f g h : Mail) (out out_now : List ℕ) (number : ℕ) (first letter : Letter)
    → taken_from g wire.to ≡ taken_from f wire.to → ((node : ℕ) → taken_from h node ≡ taken_from g node ++ if_from wire.to letter node)
    → number ≡ length (taken_from g wire.to) → first ≡ letter → out_now ≡ out ++ frame_bytes key (frame_of wire number first)
    → GivesOut key wire 1 (taken_from f wire.to) (taken_from h wire.to) out out_now
gave_one key wire f g h out out_now number first letter same taken is same_letter bytes =
    gives_one key wire (taken_from f wire.to) (taken_from h wire.to) out out_now letter more
    (bytes ∙ (ap (λ (n : ℕ). out ++ frame_bytes key (frame_of wire n first)) (is ∙ ap (λ (letters : List Letter). length letters) same)
    ∙ ap (λ (l : Letter). out ++ frame_bytes key (frame_of wire (length (taken_from f wire.to)) l)) same_letter))
  where
    more : taken_from h wire.to ≡ taken_from f wire.to ++ letter ∷ []
    more = taken wire.to ∙ (ap (λ (x : List Letter). taken_from g wire.to ++ x) (if_here wire.to letter) ∙ ap (λ (x : List Letter). x ++ letter ∷ []) same)

-- whether a letter waits
pub pending_is : (to : ℕ) (p : Parts) (f : Mail) (answer : Bool) → taken_from f to ++ known_from f to ≡ given_to p.mail to
    → (known_from f to ≡ [] → waiting_to p.mail to ≡ []) → MatchBool answer (0 < length (known_from f to)) (known_from f to ≡ [])
    → MatchBool answer (length (taken_from f to) < length (sent_to p.mail to)) (sent_to p.mail to ≡ taken_from f to)
pending_is to p f true whole moves some =
    omega (
      arith,
      some,
      ap (λ (letters : List Letter). length letters) (sent_is p.mail to),
      length-append (given_to p.mail to) (waiting_to p.mail to),
      ap (λ (letters : List Letter). length letters) whole,
      length-append (taken_from f to) (known_from f to),
    )
pending_is to p f false whole moves none = all_given to p f whole moves none

-- an answer that says that one went out
pub gave_is : (key : List ℕ) (wire : Wire) (answer : Bool) (before after : List Letter) (out out_now : List ℕ) → answer ≡ true
    → GivesOut key wire (gave answer) before after out out_now → GivesOut key wire 1 before after out out_now
gave_is key wire answer before after out out_now is h = subst (λ (b : Bool). GivesOut key wire (gave b) before after out out_now) is h

pub same_error : (a b : WriteError) → ◌≡◌ {A = Result Bool WriteError} (Err a) (Err b) → a ≡ b
same_error a b e = cc
