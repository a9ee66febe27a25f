-- Runners that have met are plays that join.
use Rattle.std.proofs.Common.{◌≡◌, ℕ, ◌-◌, List, ◌++◌, length, map, Option, Some, None, refl, sym, ap, subst, arith, ◌∙◌, take, slice_get, append_assoc, length-append, option_map}
use Rattle.std.proofs.Math.Path.{fun_ext}
use Rattle.std.proofs.Math.Seq.{take-append_seam}
use Rattle.std.proofs.lemmas.List.{map-append, length-map}
use Rattle.std.proofs.lemmas.Option.{slice_get-map}
use Rattle.lt_lists.proofs.Members.{some_equal}
use Rattle.lt_desk.specs.LetterSeen.{letter_seen}
use Rattle.lt_modes.specs.Script.{ScriptData}
use Rattle.lt_modes.specs.State.{Letter}
use Rattle.lt_spec.specs.NodeMove.{NodeState}
use Rattle.lt_spec.specs.World.{start}
use Rattle.lt_spec.specs.Plays.{Plays}
use Rattle.lt_law_plays.specs.Merged.{Part, Joined}
use Rattle.lt_law_plays.proofs.Appending.{plays_same_at}
use Rattle.lt_node.specs.NodeData.{state_of}
use Rattle.lt_mail.specs.Words.{OutLane, ring_given, outbox_letters, sent_by, on_out, out_at, sent_to, given_to, waiting_to, taken_from, known_from}
use Rattle.lt_runner.specs.declared.parts.Parts.{Parts}
use Rattle.lt_runner.specs.Kept.{in_hand, RunnerInvariant, HasMet}
use Rattle.lt_threads.specs.Meeting.{used_of, part_of, IsCrew, AreKept, AreMet, AnyTwo}

-- what stands before the last letters
front : {X : Type 0} (xs ys : List X) → take (length (xs ++ ys) - length ys) (xs ++ ys) ≡ xs
front xs ys =
    let same : length (xs ++ ys) - length ys ≡ length xs = omega (arith, length-append xs ys) in
    rw same (take-append_seam xs ys)

pub used_is : (p : Parts) (kept : RunnerInvariant p) (node : ℕ) → used_of p node ≡ kept.used node
used_is p kept node =
    let all = kept.taken node in
    ap (λ (letters : List Letter). take (length letters - length (in_hand node p.hand)) letters) all ∙ front (kept.used node) (in_hand node p.hand)

-- what was sent is what the ring was ring_given, and then what waits
pub sent_is : (p : Parts) (node : ℕ) → sent_to p.mail node ≡ given_to p.mail node ++ waiting_to p.mail node
sent_is p node = by_lane (out_at p.mail node)
  where
    by_lane : (lane : Option OutLane) → on_out sent_by lane ≡ on_out ring_given lane ++ on_out outbox_letters lane
    by_lane None = refl
    by_lane (Some lane) = map-append letter_seen (ring_given lane) (outbox_letters lane)

-- the letters of node a for the runner that were not used
abbrev pub left_for : ℕ → ℕ → Parts → Parts → List Letter
left_for a b x y = in_hand a y.hand ++ (known_from y.mail a ++ waiting_to x.mail b)

pub left_is : (a b : ℕ) (x y : Parts) (kept : RunnerInvariant y) → HasMet a b x y → sent_to x.mail b ≡ used_of y a ++ left_for a b x y
left_is a b x y kept met =
    let used = used_of y a in
    let hand = in_hand a y.hand in
    let known = known_from y.mail a in
    let outbox_letters = waiting_to x.mail b in
    let taken : taken_from y.mail a ≡ used ++ hand = kept.taken a ∙ ap (λ (letters : List Letter). letters ++ hand) (sym (used_is y kept a)) in
    let ring_given : given_to x.mail b ≡ (used ++ hand) ++ known = sym met.whole ∙ ap (λ (letters : List Letter). letters ++ known) taken in
    sent_is x b ∙ (ap (λ (letters : List Letter). letters ++ outbox_letters) ring_given
    ∙ (append_assoc (used ++ hand) known outbox_letters ∙ append_assoc used hand (known ++ outbox_letters)))

pub part_from : (rs : List Parts) (k : ℕ) (part : Part) → slice_get (map part_of rs) k ≡ Some part → (p : Parts) × (slice_get rs k ≡ Some p) × (part_of p ≡ part)
part_from rs k part e = by_place (slice_get rs k) refl (sym (slice_get-map part_of rs k) ∙ e)
  where
    by_place : (o : Option Parts) → slice_get rs k ≡ o → option_map part_of o ≡ Some part → (p : Parts) × (slice_get rs k ≡ Some p) × (part_of p ≡ part)
    by_place None f g = cc
    by_place (Some p) f g = (p, f, some_equal (part_of p) part g)

pub joined : (script : ScriptData) (rs : List Parts) → IsCrew script rs → AreKept rs → AreMet AnyTwo rs → Joined script (map part_of rs)
joined script rs crew kept met = record {
  count = length-map rs part_of ∙ crew.count;
  plays = λ k part e. let (p, here, same) = part_from rs k part e in subst (IsPlay k) same (play k p here);
  letters = λ a b first second e f apart.
      let (x, here, same) = part_from rs a first e in
      let (y, there, also) = part_from rs b second f in
      subst (λ (part : Part). (rest : List Letter) × (part.sent b ≡ second.used a ++ rest)) same
      (subst (λ (part : Part). (rest : List Letter) × (sent_to x.mail b ≡ part.used a ++ rest)) also
      (left_for a b x y, left_is a b x y (kept b y there) (met a b x y tt apart here there)));
}
  where
    IsPlay : ℕ → Part → Type 0
    IsPlay k part = Plays script k ((start script).node k) part.log part.used part.sent part.last

    play : (k : ℕ) (p : Parts) → slice_get rs k ≡ Some p → IsPlay k (part_of p)
    play k p here =
        let known = kept k p here in
        let in_crew = crew.each k p here in
        let used : used_of p ≡ known.used = fun_ext (λ node. used_is p known node) in
        let own = p.node.script in
        let plays : Plays own k ((start own).node k) p.log.entries known.used (sent_to p.mail) (state_of p.node) =
        subst (λ (x : ℕ). Plays own x ((start own).node x) p.log.entries known.used (sent_to p.mail) (state_of p.node)) in_crew.me known.plays in
        let shared : Plays script k ((start own).node k) p.log.entries known.used (sent_to p.mail) (state_of p.node) =
        plays_same_at k own script in_crew.script_is p.log.entries ((start own).node k) (state_of p.node) known.used (sent_to p.mail) plays in
        subst (λ (letters : ℕ → List Letter). Plays script k ((start script).node k) p.log.entries letters (sent_to p.mail) (state_of p.node)) (sym used)
        (subst (λ (n : NodeState). Plays script k n p.log.entries known.used (sent_to p.mail) (state_of p.node))
        (sym (ap (λ (s : ScriptData). (start s).node k) in_crew.script_is.rest)) shared)
