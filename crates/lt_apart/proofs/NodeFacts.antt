-- What a runner whose rings were looked at says of its node.
use Rattle.std.proofs.Common.{◌≡◌, ◌<◌, ◌≤◌, ℕ, List, [], ◌++◌, Option, Some, None, refl, sym, ap, subst, ◌∙◌, append_assoc, arith, inl, inr}
use Rattle.std.proofs.Math.Path.{fun_ext}
use Rattle.std.proofs.lemmas.Bool.{cases_lt}
use Rattle.std.proofs.lemmas.List.{map-append}
use Rattle.std.proofs.lemmas.Option.{slice_get_cases}
use mathlib.Core.List.{IsPrefix}
use Rattle.lt_modes.specs.Script.{ScriptData}
use Rattle.lt_modes.specs.State.{Letter}
use Rattle.lt_spec.specs.NodeMove.{with_commands, AreAt}
use Rattle.lt_spec.specs.Script.{IsScript}
use Rattle.lt_spec.specs.World.{start}
use Rattle.lt_spec.specs.Plays.{Plays}
use Rattle.lt_desk.specs.LetterSeen.{letter_seen}
use Rattle.lt_node.specs.NodeData.{state_of}
use Rattle.lt_mail.specs.declared.lane.OutEnd.{OutEnd}
use Rattle.lt_mail.specs.declared.lane.InLane.{InLane}
use Rattle.lt_mail.specs.declared.mail.Mail.{Mail}
use Rattle.lt_mail.specs.Words.{OutLane, ring_given, outbox_letters, sent_by, taken, known, letters_to, lane_of, on_out, on_in, out_at, outs_count, ins_count, sent_to, given_to, waiting_to, taken_from, known_from}
use Rattle.lt_runner.specs.declared.parts.Parts.{Parts}
use Rattle.lt_runner.specs.Kept.{in_hand, RunnerInvariant}
use Rattle.lt_threads.specs.Meeting.{part_of, used_of}
use Rattle.lt_threads.proofs.Joined.{used_is}
use Rattle.lt_law_apart.specs.Apart.{NodeNow, IsNodeNow}
use Rattle.lt_live.specs.OneNode.{IsNodeOfScript}
use Rattle.lt_live.specs.Served.{HasKeptRunner}
use Rattle.lt_live.specs.Stations.{StationData, IsStation}
use Rattle.lt_apart.specs.Remote.{HasFarEnds}
use Rattle.lt_apart.specs.Telling.{KnowsRings, HaveEndsLooked}
use Rattle.lt_apart.proofs.Standing.{script_lasts, seen_goes}

-- what was sent is what the ring was given, and then what waits
pub sent_is : (m : Mail) (node : ℕ) → sent_to m node ≡ given_to m node ++ waiting_to m node
sent_is m node = by_lane (out_at m node)
  where
    by_lane : (lane : Option OutLane) → on_out sent_by lane ≡ on_out ring_given lane ++ on_out outbox_letters lane
    by_lane None = refl
    by_lane (Some lane) = map-append letter_seen (ring_given lane) (outbox_letters lane)

-- no letter goes to a node that there is no ring to, and none comes from one that there is no ring from
none_given : (m : Mail) (node : ℕ) → outs_count m ≤ node → given_to m node ≡ []
none_given m node past = elim (slice_get_cases m.outs.items node).1 [
  | inl there ↦ absurd (omega (arith, past, there.1))
  | inr none ↦ ap (λ (o : Option OutEnd). on_out ring_given (lane_of (letters_to node m.waiting.items) o)) none.1
]

none_taken : (m : Mail) (node : ℕ) → ins_count m ≤ node → taken_from m node ++ known_from m node ≡ []
none_taken m node past = elim (slice_get_cases m.ins node).1 [
  | inl there ↦ absurd (omega (arith, past, there.1))
  | inr none ↦ ap (λ (o : Option InLane). on_in taken o ++ on_in known o) none.1
]

-- of each ring between a runner and its far ends, which are in this mail, all letters in it are known
pub record AllLooked (n : ℕ) (station : StationData) (far : Mail) : Type 0 where
  pub counts : (outs_count far ≡ n) × (ins_count far ≡ n) × (outs_count station.runner.mail ≡ n) × (ins_count station.runner.mail ≡ n)
  pub rings : (node : ℕ) → node < n → KnowsRings node station far

all_came : (n : ℕ) (s : StationData) (far : Mail) → AllLooked n s far → (node : ℕ) → taken_from s.runner.mail node ++ known_from s.runner.mail node ≡ given_to far node
all_came n s far h node = elim (cases_lt node n) [
  | inl below ↦ (h.rings node below).came
  | inr past ↦ none_taken s.runner.mail node (omega (arith, past, h.counts.3)) ∙ sym (none_given far node (omega (arith, past, h.counts.0)))
]

all_went : (n : ℕ) (s : StationData) (far : Mail) → AllLooked n s far → (node : ℕ) → taken_from far node ++ known_from far node ≡ given_to s.runner.mail node
all_went n s far h node = elim (cases_lt node n) [
  | inl below ↦ (h.rings node below).went
  | inr past ↦ none_taken far node (omega (arith, past, h.counts.1)) ∙ sym (none_given s.runner.mail node (omega (arith, past, h.counts.2)))
]

abbrev now_by : Parts → Mail → NodeNow
now_by p far = record {
  commands = p.node.script.commands;
  part = part_of p;
  brought = sent_to far;
  given = taken_from far;
}

-- so the node is one of those whose letters are carried
pub node_is_now : (first : ScriptData) (x n : ℕ) (s : StationData) (far : Mail) → IsScript s.runner.node.script → IsNodeOfScript first x s.runner
    → AreAt s.runner.node.script s.runner.node.me s.runner.node.script.commands → RunnerInvariant s.runner → AllLooked n s far
    → IsNodeNow first x (now_by s.runner far)
node_is_now first x n s far is_script of own kept looked = record {
  is_script = subst (λ (t : ScriptData). IsScript t) of.same is_script;
  own = subst (λ (q : ℕ). AreAt first q s.runner.node.script.commands) of.me
      (subst (λ (t : ScriptData). AreAt t s.runner.node.me s.runner.node.script.commands) of.same own);
  plays = plays;
  used = λ q apart. used q;
  given = λ q apart. given q;
}
  where
    used_all : used_of s.runner ≡ kept.used
    used_all = fun_ext (λ node. used_is s.runner kept node)

    at_x : Plays s.runner.node.script x ((start s.runner.node.script).node x) s.runner.log.entries kept.used (sent_to s.runner.mail) (state_of s.runner.node)
    at_x = subst (λ (k : ℕ). Plays s.runner.node.script k ((start s.runner.node.script).node k) s.runner.log.entries kept.used (sent_to s.runner.mail) (state_of s.runner.node)) of.me kept.plays

    seen : Plays s.runner.node.script x ((start s.runner.node.script).node x) s.runner.log.entries (used_of s.runner) (sent_to s.runner.mail) (state_of s.runner.node)
    seen = subst (λ (u : ℕ → List Letter). Plays s.runner.node.script x ((start s.runner.node.script).node x) s.runner.log.entries u (sent_to s.runner.mail) (state_of s.runner.node)) (sym used_all) at_x

    plays : Plays (with_commands first s.runner.node.script.commands) x ((start first).node x) s.runner.log.entries (used_of s.runner) (sent_to s.runner.mail) (state_of s.runner.node)
    plays = subst (λ (t : ScriptData). Plays t x ((start t).node x) s.runner.log.entries (used_of s.runner) (sent_to s.runner.mail) (state_of s.runner.node)) of.same seen

    used : (q : ℕ) → IsPrefix (used_of s.runner q) (sent_to far q)
    used q =
        let hand = in_hand q s.runner.hand in
        let known_now = known_from s.runner.mail q in
        let rest = waiting_to far q in
        let took : taken_from s.runner.mail q ≡ used_of s.runner q ++ hand = kept.taken q ∙ ap (λ (letters : List Letter). letters ++ hand) (sym (used_is s.runner kept q)) in
        let all : sent_to far q ≡ ((used_of s.runner q ++ hand) ++ known_now) ++ rest =
        sent_is far q ∙ (ap (λ (letters : List Letter). letters ++ rest) (sym (all_came n s far looked q)) ∙ ap (λ (letters : List Letter). (letters ++ known_now) ++ rest) took) in (
          hand ++ (known_now ++ rest),
          sym (all ∙ (append_assoc (used_of s.runner q ++ hand) known_now rest ∙ append_assoc (used_of s.runner q) hand (known_now ++ rest))),
        )

    given : (q : ℕ) → IsPrefix (taken_from far q) (sent_to s.runner.mail q)
    given q =
        let known_now = known_from far q in
        let rest = waiting_to s.runner.mail q in (
          known_now ++ rest,
          sym (sent_is s.runner.mail q ∙ (ap (λ (letters : List Letter). letters ++ rest) (sym (all_went n s far looked q)) ∙ append_assoc (taken_from far q) known_now rest)),
        )

-- a node that looked at all its rings
pub told_now : (first : ScriptData) (x : ℕ) (a b : StationData) (far far_now : Mail) (given brought : List ℕ) → HasFarEnds b.runner far_now given brought
    → HaveEndsLooked a.runner.node.script.nodes a b far far_now → IsStation b.runner b.seats → HasKeptRunner b → IsNodeOfScript first x a.runner
    → IsNodeNow first x (now_by b.runner far_now)
told_now first x a b far far_now given brought h looked station kept of =
    node_is_now first x b.runner.node.script.nodes b far_now kept.is_script (script_lasts first x a.runner b.runner of (seen_goes a.runner b.runner looked.only.runner)) station.own kept.kept (record {
      counts = (h.outs, h.ins, h.near, kept.kept.ins);
      rings = λ node below. looked.rings node (omega (arith, below, ap (λ (s : ScriptData). s.nodes) looked.only.runner.same.script));
    })
