-- The far ends of a node's rings, and how many letters went through them.
use Rattle.std.proofs.Common.{◌≡◌, ◌≢◌, ◌<◌, ◌+◌, ℕ, List, [], ◌∷◌, ◌++◌, Option, Some, None, length, refl, sym, ap, subst, ◌∙◌, arith, inl, inr, slice_get, slice_set, length-append, length-set}
use Rattle.std.proofs.lemmas.Bool.{cases_eq}
use Rattle.std.proofs.lemmas.Option.{same_Some}
use Rattle.lt_modes.specs.State.{Letter}
use Rattle.lt_modes.specs.Script.{ScriptData}
use Rattle.lt_mail.specs.declared.mail.Mail.{Mail}
use Rattle.lt_mail.specs.declared.lane.InLane.{InLane}
use Rattle.lt_mail.specs.Star.{AreFarEnds, IsStar}
use Rattle.lt_mail.specs.Words.{OutLane, out_at, in_at, outs_count, sent_to, taken_from, Both, Alike, SameOut, SameIn, SameEnds, IsOpenLink}
use Rattle.lt_runner.specs.declared.parts.Parts.{Parts}
use Rattle.lt_live.specs.Live.{GoesOn}
use Rattle.lt_live.proofs.SeatLists.{set_here, set_other, pushed, none_here}
use Rattle.lt_live.specs.Stations.{StationData}
use Rattle.lt_apart.specs.Remote.{AreCounts, HasFarEnds}
use Rattle.lt_apart.specs.Telling.{OnlyRingsLooked}

linked : (o : Option OutLane) (i : Option InLane) (p : Option OutLane) (j : Option InLane) → Alike SameOut o p → Alike SameIn i j
    → Both IsOpenLink o i → Both IsOpenLink p j
linked None i p j u v e = absurd e
linked (Some o) None p j u v e = absurd e
linked (Some o) (Some i) None j u v e = absurd u
linked (Some o) (Some i) (Some p) None u v e = absurd v
linked (Some o) (Some i) (Some p) (Some j) u v e =
    ((v.0.0 ∙ e.0.0 ∙ sym u.0.0, v.0.1 ∙ e.0.1 ∙ sym u.0.1, v.0.2 ∙ e.0.2 ∙ sym u.0.2, v.0.3 ∙ e.0.3 ∙ sym u.0.3), subst (λ (n : ℕ). 0 < n) (sym u.1) e.1)

-- far ends stay those of the same rings
pub far_ends_last : (mail now far later : Mail) → AreFarEnds mail far → SameEnds mail now → SameEnds far later → AreFarEnds now later
far_ends_last mail now far later h near away = record {
  out = λ node below.
      linked (out_at mail node) (in_at far node) (out_at now node) (in_at later node) (near.outs node) (away.ins node)
      (h.out node (omega (arith, below, near.counts.0)));
  into = λ node below.
      linked (out_at far node) (in_at mail node) (out_at later node) (in_at now node) (away.outs node) (near.ins node)
      (h.into node (omega (arith, below, near.counts.0)));
}

-- How many letters went through each.

pub counts_stay : (n m : ℕ) (numbers : List ℕ) (a b : ℕ → List Letter) → m ≡ n → ((node : ℕ) → b node ≡ a node) → AreCounts n numbers a → AreCounts m numbers b
counts_stay n m numbers a b same stays h = record {
  count = h.count ∙ sym same;
  each = λ node number here. h.each node number here ∙ sym (ap (λ (letters : List Letter). length letters) (stays node));
}

length_more : (before after : List Letter) (letter : Letter) → after ≡ before ++ letter ∷ [] → length after ≡ length before + 1
length_more before after letter e =
    ap (λ (letters : List Letter). length letters) e ∙ length-append before (letter ∷ [])

-- one letter more by one of them
pub counts_more : (n : ℕ) (numbers : List ℕ) (a b : ℕ → List Letter) (place number : ℕ) (letter : Letter) → AreCounts n numbers a → place < n
    → number ≡ length (a place) → b place ≡ a place ++ letter ∷ [] → ((node : ℕ) → node ≢ place → b node ≡ a node)
    → AreCounts n (slice_set numbers place (number + 1)) b
counts_more n numbers a b place number letter h below is here others = record {
  count = length-set numbers place (number + 1) ∙ h.count;
  each = λ node other e. elim (cases_eq node place) [
    | inl same ↦
        let now : number + 1 ≡ other =
        same_Some (number + 1) other (sym (set_here numbers place (number + 1) (omega (arith, below, h.count))) ∙ (ap (slice_get (slice_set numbers place (number + 1))) (sym same) ∙ e)) in
        omega (arith, now, is, length_more (a place) (b place) letter here, ap (λ (k : ℕ). length (b k)) same)
    | inr apart ↦
        h.each node other (sym (set_other numbers place (number + 1) node apart) ∙ e)
        ∙ sym (ap (λ (letters : List Letter). length letters) (others node apart))
  ];
}

pub far_ends_stay : (p q : Parts) (far later : Mail) (given brought : List ℕ) → HasFarEnds p far given brought → q.node.script.nodes ≡ p.node.script.nodes
    → SameEnds p.mail q.mail → SameEnds far later → ((node : ℕ) → taken_from later node ≡ taken_from far node)
    → ((node : ℕ) → sent_to later node ≡ sent_to far node) → HasFarEnds q later given brought
far_ends_stay p q far later given brought h nodes near away taken sent = record {
  outs = away.counts.0 ∙ (h.outs ∙ sym nodes);
  ins = away.counts.1 ∙ (h.ins ∙ sym nodes);
  near = near.counts.0 ∙ (h.near ∙ sym nodes);
  ends = far_ends_last p.mail q.mail far later h.ends near away;
  given_counts = counts_stay p.node.script.nodes q.node.script.nodes given (taken_from far) (taken_from later) nodes taken h.given_counts;
  brought_counts = counts_stay p.node.script.nodes q.node.script.nodes brought (sent_to far) (sent_to later) nodes sent h.brought_counts;
}

-- the runner goes on, and nothing went by them
pub far_ends_go_on : (p q : Parts) (far later : Mail) (given brought : List ℕ) → HasFarEnds p far given brought → GoesOn p q
    → SameEnds far later → ((node : ℕ) → taken_from later node ≡ taken_from far node) → ((node : ℕ) → sent_to later node ≡ sent_to far node)
    → HasFarEnds q later given brought
far_ends_go_on p q far later given brought h goes away taken sent =
    far_ends_stay p q far later given brought h (ap (λ (s : ScriptData). s.nodes) goes.script) goes.ends away taken sent

-- it looked at its rings
pub far_ends_looked : (a b : StationData) (far later : Mail) (given brought : List ℕ) → HasFarEnds a.runner far given brought → OnlyRingsLooked a b far later
    → HasFarEnds b.runner later given brought
far_ends_looked a b far later given brought h looks =
    far_ends_stay a.runner b.runner far later given brought h (ap (λ (s : ScriptData). s.nodes) looks.runner.same.script) looks.runner.same.ends looks.ends
    looks.given_stays looks.brought_stays

-- None yet.

abbrev no_letters : ℕ → List Letter
no_letters node = []

pub no_zero : AreCounts 0 [] no_letters
no_zero = record { count = refl; each = λ node number e. none_here node number e }

pub zero_more : (n : ℕ) (numbers : List ℕ) → AreCounts n numbers no_letters → AreCounts (n + 1) (numbers ++ 0 ∷ []) no_letters
zero_more n numbers h = record {
  count = omega (arith, length-append numbers (0 ∷ []), h.count);
  each = λ node number e. elim (pushed numbers 0 node number e) [
    | inl old ↦ h.each node number old
    | inr new ↦ sym new.1
  ];
}

-- the far ends of a runner that starts
pub first_far_ends : (nodes me capacity : ℕ) (p : Parts) (mail far : Mail) (given brought : List ℕ) → IsStar nodes me capacity mail far → p.mail ≡ mail
    → p.node.script.nodes ≡ nodes → AreCounts nodes given no_letters → AreCounts nodes brought no_letters → HasFarEnds p far given brought
first_far_ends nodes me capacity p mail far given brought star is count given_none brought_none = record {
  outs = star.far_fresh.outs ∙ sym count;
  ins = star.far_fresh.ins ∙ sym count;
  near = ap outs_count is ∙ (star.fresh.outs ∙ sym count);
  ends = subst (λ (m : Mail). AreFarEnds m far) (sym is) star.ends;
  given_counts = counts_stay nodes p.node.script.nodes given no_letters (taken_from far) count star.far_fresh.taken given_none;
  brought_counts = counts_stay nodes p.node.script.nodes brought no_letters (sent_to far) count star.far_fresh.sent brought_none;
}
