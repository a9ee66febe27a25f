-- A node that looks at all its rings from both ends.
use Rattle.std.proofs.Common.{◌≡◌, ◌≢◌, ◌<◌, ◌+◌, ℕ, List, ◌++◌, refl, sym, ap, subst, ◌∙◌, arith, inl, inr}
use Rattle.std.proofs.lemmas.Bool.{cases_eq}
use Rattle.lt_modes.specs.State.{Letter}
use Rattle.lt_mail.specs.declared.mail.Mail.{Mail}
use Rattle.lt_mail.specs.Star.{AreFarEnds}
use Rattle.lt_mail.specs.Words.{ring_given, sent_by, taken, known, out_at, in_at, on_out, on_in, sent_to, given_to, taken_from, known_from, outs_count, SameEnds, AreLinkedAt}
use Rattle.lt_mail.proofs.LookLemmas.{ends_same, ends_join}
use Rattle.lt_runner.specs.Kept.{LooksTo, LooksFrom}
use Rattle.lt_runner.proofs.KeptLemmas.{seen_join}
use Rattle.lt_threads.proofs.Each.{seen_self}
use Rattle.lt_live.specs.Stations.{StationData}
use Rattle.lt_apart.specs.Telling.{OnlyRingsLooked, KnowsRings, LooksAtOne, HaveEndsLooked}
use Rattle.lt_apart.proofs.FarEnds.{far_ends_last}

-- what looking at the ring to one node did, and at that from it
pub record LookedTo (node : ℕ) (a b : StationData) (far far_now : Mail) : Type 0 where
  pub looks : LooksTo node a.runner b.runner
  pub seats : b.seats ≡ a.seats
  pub ends : SameEnds far far_now
  pub outs : (other : ℕ) → out_at far_now other ≡ out_at far other
  pub given_stays : (other : ℕ) → taken_from far_now other ≡ taken_from far other
  pub others : (other : ℕ) → other ≢ node → in_at far_now other ≡ in_at far other
  pub whole : taken_from far_now node ++ known_from far_now node ≡ given_to b.runner.mail node

pub record LookedFrom (node : ℕ) (a b : StationData) (far far_now : Mail) : Type 0 where
  pub looks : LooksFrom node a.runner b.runner
  pub seats : b.seats ≡ a.seats
  pub ends : SameEnds far far_now
  pub ins : (other : ℕ) → in_at far_now other ≡ in_at far other
  pub brought_stays : (other : ℕ) → sent_to far_now other ≡ sent_to far other
  pub others : (other : ℕ) → other ≢ node → out_at far_now other ≡ out_at far other
  pub whole : taken_from b.runner.mail node ++ known_from b.runner.mail node ≡ given_to far_now node

-- all of a ring at the taking end
abbrev all_in : Mail → ℕ → List Letter
all_in m node = taken_from m node ++ known_from m node

same_in : (a b : Mail) (node : ℕ) → in_at b node ≡ in_at a node → all_in b node ≡ all_in a node
same_in a b node e = ap (λ o. on_in taken o ++ on_in known o) e

same_given : (a b : Mail) (node : ℕ) → out_at b node ≡ out_at a node → given_to b node ≡ given_to a node
same_given a b node e = ap (on_out ring_given) e

-- both rings of one node
pub looks_at_one : (n : ℕ) (a b c : StationData) (f g h : Mail) → LookedTo n a b f g → LookedFrom n b c g h → LooksAtOne n a c f h
looks_at_one n a b c f g h to from = record {
  only = record {
    runner = seen_join a.runner b.runner c.runner to.looks.seen from.looks.seen;
    seats = from.seats ∙ to.seats;
    ends = ends_join f g h to.ends from.ends;
    given_stays = λ node. ap (on_in taken) (from.ins node) ∙ to.given_stays node;
    brought_stays = λ node. from.brought_stays node ∙ ap (on_out sent_by) (to.outs node);
  };
  here = record {
    came = from.whole;
    went = same_in g h n (from.ins n) ∙ (to.whole ∙ sym (same_given b.runner.mail c.runner.mail n (from.looks.outs n)));
  };
  others = λ node apart was. record {
    came = same_in b.runner.mail c.runner.mail node (from.looks.ins node apart)
        ∙ (same_in a.runner.mail b.runner.mail node (to.looks.ins node)
        ∙ (was.came ∙ sym (same_given g h node (from.others node apart) ∙ same_given f g node (to.outs node))));
    went = same_in g h node (from.ins node)
        ∙ (same_in f g node (to.others node apart)
        ∙ (was.went ∙ sym (same_given b.runner.mail c.runner.mail node (from.looks.outs node) ∙ same_given a.runner.mail b.runner.mail node (to.looks.outs node apart))));
  };
}

-- one node more
pub looked_next : (n : ℕ) (a b c : StationData) (far f g : Mail) → HaveEndsLooked n a b far f → LooksAtOne n b c f g → HaveEndsLooked (n + 1) a c far g
looked_next n a b c far f g before at = record {
  only = record {
    runner = seen_join a.runner b.runner c.runner before.only.runner at.only.runner;
    seats = at.only.seats ∙ before.only.seats;
    ends = ends_join far f g before.only.ends at.only.ends;
    given_stays = λ node. at.only.given_stays node ∙ before.only.given_stays node;
    brought_stays = λ node. at.only.brought_stays node ∙ before.only.brought_stays node;
  };
  rings = λ node below. elim (cases_eq node n) [
    | inl same ↦ subst (λ (k : ℕ). KnowsRings k c g) (sym same) at.here
    | inr apart ↦ at.others node apart (before.rings node (omega (arith, below, apart)))
  ];
}

pub looked_none : (a : StationData) (far : Mail) → HaveEndsLooked 0 a a far far
looked_none a far = record {
  only = record { runner = seen_self a.runner; seats = refl; ends = ends_same far; given_stays = λ node. refl; brought_stays = λ node. refl };
  rings = λ node below. absurd (omega (arith, below));
}

-- far ends stay those of the runner that looked
pub ends_looked : (a b : StationData) (far far_now : Mail) → OnlyRingsLooked a b far far_now → AreFarEnds a.runner.mail far → AreFarEnds b.runner.mail far_now
ends_looked a b far far_now h ends = far_ends_last a.runner.mail b.runner.mail far far_now ends h.runner.same.ends h.ends

-- and then the ring from the node has its two ends there still
pub linked_from : (node : ℕ) (a b : StationData) (far far_now : Mail) → LookedTo node a b far far_now → AreFarEnds a.runner.mail far
    → node < outs_count a.runner.mail → AreLinkedAt node node far_now b.runner.mail
linked_from node a b far far_now h ends below =
    (far_ends_last a.runner.mail b.runner.mail far far_now ends h.looks.seen.same.ends h.ends).into node
    (omega (arith, below, h.looks.seen.same.ends.counts.0))
