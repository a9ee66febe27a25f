-- What a command of a client does to the weight of its node, and to the number of commands left.
use Rattle.std.proofs.Common.{◌≡◌, inl, inr, ℕ, ◌+◌, ◌<◌, ◌≤◌, List, [], ◌∷◌, length, Option, Some, None, Bool, true, false, refl, sym, ap, subst, arith, ◌∙◌, ◌==◌, ◌&&◌, not, nat_lt, if◌then◌else◌, IsTrue, sum_by, eq-eqb, ne_eqb, ltb-true}
use Rattle.std.specs.List.{AllByRecursion}
use Rattle.std.proofs.lemmas.Bool.{cases_eq, and_parts}
use Rattle.std.proofs.lemmas.List.Sums.{sum_by-append, sum_by-cons}
use Rattle.lt_modes.specs.declared.stamp.Stamp.{Stamp}
use Rattle.lt_modes.specs.declared.command.Command.{Command}
use Rattle.lt_modes.specs.declared.command.Command.TheVariants.{Lock, Unlock, Try, Change, DropAll, Withdraw}
use Rattle.lt_modes.specs.declared.moves.Step.TheVariants.{Act}
use Rattle.lt_modes.specs.Script.{ScriptData, SetData}
use Rattle.lt_modes.specs.State.{SetState, Letter, Made, Post}
use Rattle.lt_modes.specs.Freezing.{cons_if, places_from}
use Rattle.lt_modes.specs.SetMove.{finish, drop}
use Rattle.lt_lists.specs.Below.{put}
use Rattle.lt_lists.proofs.Puts.{put-same, put-other}
use Rattle.lt_lists.proofs.Sums.{sum_below-change}
use Rattle.lt_spec.specs.NodeMove.{commands_of, home, family, related, NodeState, NodeMade, node_waits, has_command, next_command, touched, each_touched, drop_all, obey, act_stamp, at_clock, one_made, node_act, HasTargetsAt}
use Rattle.lt_spec.specs.World.{World, made_by, is_waiting, is_runnable, is_enabled, after_made, after, is_free_to_act}
use Rattle.lt_model.specs.PathEffects.{posts_weight}
use Rattle.lt_model.proofs.HomesMove.{related_below}
use Rattle.lt_law_ends.specs.Weights.{tell_weight, ask_weight, letter_weight, state_weight, command_cost, node_weight}
use Rattle.lt_law_ends.proofs.StateWeights.{drop_weighs, finish_weighs, weighs_moves, weighs_within}
use Rattle.lt_law_ends.proofs.EffectWeights.{IsFit, Weighs}

-- each set of the script is fit at the node
abbrev pub AllFit : ScriptData → ℕ → NodeState → Type 0
AllFit script most n = (s : ℕ) → s < length script.sets → IsFit script.nodes most (n.set s)

-- what a node makes is fit, and weighs at most so much more than the node did
pub record MoveWeighs (script : ScriptData) (most more : ℕ) (n : NodeState) (made : NodeMade) : Type 0 where
  pub fit : AllFit script most made.node
  pub weight : node_weight script most made.node + posts_weight (letter_weight script.nodes most) made.posts ≤ node_weight script most n + more

pub touched_weighs : (script : ScriptData) (most more set : ℕ) (n : NodeState) (m : Made) → set < length script.sets → AllFit script most n
    → Weighs script.nodes most more (n.set set) m → MoveWeighs script most more n (touched n set m)
touched_weighs script most more set n m in_sets fits h = record {
  fit = λ s below. elim (cases_eq s set) [
    | inl e ↦ subst (IsFit script.nodes most) (sym (ap (put n.set set m.state) e ∙ put-same n.set set m.state)) h.fit
    | inr d ↦ subst (IsFit script.nodes most) (sym (put-other n.set set m.state s d)) (fits s below)
  ];
  weight = omega (
    arith,
    sum_below-change (length script.sets) set (λ s. state_weight script.nodes most (put n.set set m.state s)) (λ s. state_weight script.nodes most (n.set s)) in_sets
        (λ s below d. ap (state_weight script.nodes most) (put-other n.set set m.state s d)),
    ap (state_weight script.nodes most) (put-same n.set set m.state),
    h.weight,
  );
}

-- a rule on each of these sets
each_weighs : (script : ScriptData) (most more : ℕ) (rule : ℕ → SetState → Made)
    → ((set : ℕ) (t : SetState) → IsFit script.nodes most t → Weighs script.nodes most more t (rule set t))
    → (sets : List ℕ) → AllByRecursion (λ set. set < length script.sets) sets → (n : NodeState) → AllFit script most n
    → MoveWeighs script most (sum_by (λ (s : ℕ). more) sets) n (each_touched rule sets n)
each_weighs script most more rule each [] in_sets n fits = record { fit = fits; weight = omega arith }
each_weighs script most more rule each (set ∷ rest) in_sets n fits =
    let m = rule set (n.set set) in
    let first = touched_weighs script most more set n m in_sets.0 fits (each set (n.set set) (fits set in_sets.0)) in
    let next = (touched n set m).node in
    let others = each_touched rule rest next in
    let later = each_weighs script most more rule each rest in_sets.1 next first.fit in
    record {
      fit = later.fit;
      weight = omega (
        arith,
        first.weight,
        later.weight,
        sum_by-cons (λ (s : ℕ). more) set rest,
        sum_by-append (λ (post : Post). letter_weight script.nodes most post.letter) m.posts others.posts,
      );
    }

-- the sets of a family are some of all
family_weight : (test : ℕ → SetData → Bool) (more k : ℕ) (sets : List SetData)
    → sum_by (λ (s : ℕ). more) (places_from test k sets) ≤ sum_by (λ (set : SetData). more) sets
family_weight test more k [] = omega arith
family_weight test more k (set ∷ rest) = by_test (test k set) (family_weight test more (k + 1) rest)
  where
    by_test : (wanted : Bool) → sum_by (λ (s : ℕ). more) (places_from test (k + 1) rest) ≤ sum_by (λ (x : SetData). more) rest
        → sum_by (λ (s : ℕ). more) (cons_if wanted k (places_from test (k + 1) rest)) ≤ sum_by (λ (x : SetData). more) (set ∷ rest)
    by_test true h =
        omega (arith, h, sum_by-cons (λ (s : ℕ). more) k (places_from test (k + 1) rest), sum_by-cons (λ (x : SetData). more) set rest)
    by_test false h = omega (arith, h, sum_by-cons (λ (x : SetData). more) set rest)

drop_all_weighs : (script : ScriptData) (most : ℕ) (stamp : Stamp) (client other s : ℕ) (n : NodeState) (waiting : Bool) → AllFit script most n
    → MoveWeighs script most (sum_by (λ (set : SetData). tell_weight most) script.sets) n (drop_all waiting stamp client other s (related script s) n)
drop_all_weighs script most stamp client other s n waiting fits = by_test waiting
  where
    few : sum_by (λ (k : ℕ). tell_weight most) (related script s) ≤ sum_by (λ (set : SetData). tell_weight most) script.sets
    few = family_weight (λ k (set : SetData). set.family == family script s) (tell_weight most) 0 script.sets

    by_test : (b : Bool)
        → MoveWeighs script most (sum_by (λ (set : SetData). tell_weight most) script.sets) n (drop_all b stamp client other s (related script s) n)
    by_test true =
        let h = each_weighs script most (tell_weight most) (λ k. finish k stamp) (λ k t fit. finish_weighs script.nodes most k stamp t fit)
        (related script s) (related_below script s) n fits in
        record { fit = h.fit; weight = omega (arith, h.weight, few) }
    by_test false =
        let h = each_weighs script most (tell_weight most) (λ k. drop k stamp other) (λ k t fit. drop_weighs script.nodes most k stamp other t fit)
        (related script s) (related_below script s) n fits in
        record { fit = h.fit; weight = omega (arith, h.weight, few) }

pub obey_weighs : (script : ScriptData) (most : ℕ) (stamp : Stamp) (client : ℕ) (command : Command) (n : NodeState)
    → HasTargetsAt script client command → AllFit script most n
    → MoveWeighs script most (command_cost script most command) n (obey script stamp client (Some command) n)
obey_weighs script most stamp client (Lock s mode) n targets fits =
    let more = ask_weight script.nodes most in
    touched_weighs script most more s n _ targets fits
    (weighs_within script.nodes most more (n.set s) _
    ((weighs_moves script.nodes most (state_weight script.nodes most (n.set s) + more) s stamp).locks client mode (n.set s) [] (fits s targets, omega arith)))
obey_weighs script most stamp client (Try s mode) n targets fits =
    let more = ask_weight script.nodes most in
    touched_weighs script most more s n _ targets fits
    (weighs_within script.nodes most more (n.set s) _
    ((weighs_moves script.nodes most (state_weight script.nodes most (n.set s) + more) s stamp).tries client mode (n.set s) [] (fits s targets, omega arith)))
obey_weighs script most stamp client (Unlock s mode) n targets fits =
    let more = ask_weight script.nodes most in
    touched_weighs script most more s n _ targets fits
    (weighs_within script.nodes most more (n.set s) _
    ((weighs_moves script.nodes most (state_weight script.nodes most (n.set s) + more) s stamp).unlocks client mode (n.set s) [] (fits s targets, omega arith)))
obey_weighs script most stamp client (Change s gives_up mode) n targets fits =
    let more = ask_weight script.nodes most in
    touched_weighs script most more s n _ targets fits
    (weighs_within script.nodes most more (n.set s) _
    ((weighs_moves script.nodes most (state_weight script.nodes most (n.set s) + more) s stamp).changes client gives_up mode (n.set s) [] (fits s targets, omega arith)))
obey_weighs script most stamp client (Withdraw other s) n targets fits =
    let more = ask_weight script.nodes most in
    touched_weighs script most more s n _ targets.0 fits
    (weighs_within script.nodes most more (n.set s) _
    ((weighs_moves script.nodes most (state_weight script.nodes most (n.set s) + more) s stamp).withdraws client other (n.set s) [] (fits s targets.0, omega arith)))
obey_weighs script most stamp client (DropAll other s) n targets fits =
    drop_all_weighs script most stamp client other s n (node_waits script n other) fits

-- how many commands clients have made

pub made_at : (script : ScriptData) (w : World) (q c : ℕ) (made : NodeMade) (mail : ℕ → ℕ → List Letter)
    → made.node.made c ≡ (w.node q).made c → made_by script (after_made q made (record w { mail = mail })) c ≡ made_by script w c
made_at script w q c made mail same = elim (cases_eq (home script c) q) [
  | inl e ↦ ap (λ (n : NodeState). n.made c) (ap (put w.node q made.node) e ∙ put-same w.node q made.node) ∙ same
      ∙ ap (λ (x : ℕ). (w.node x).made c) (sym e)
  | inr d ↦ ap (λ (n : NodeState). n.made c) (put-other w.node q made.node (home script c) d)
]

each-made : (rule : ℕ → SetState → Made) (sets : List ℕ) (n : NodeState) (c : ℕ) → (each_touched rule sets n).node.made c ≡ n.made c
each-made rule [] n c = refl
each-made rule (s ∷ rest) n c = each-made rule rest (touched n s (rule s (n.set s))).node c

drop-made : (waiting : Bool) (stamp : Stamp) (client other s : ℕ) (sets : List ℕ) (n : NodeState) (c : ℕ)
    → (drop_all waiting stamp client other s sets n).node.made c ≡ n.made c
drop-made true stamp client other s sets n c = each-made (λ k. finish k stamp) sets n c
drop-made false stamp client other s sets n c = each-made (λ k. drop k stamp other) sets n c

pub obey-made : (script : ScriptData) (stamp : Stamp) (client : ℕ) (command : Option Command) (n : NodeState) (c : ℕ)
    → (obey script stamp client command n).node.made c ≡ n.made c
obey-made script stamp client None n c = refl
obey-made script stamp client (Some (Lock s mode)) n c = refl
obey-made script stamp client (Some (Try s mode)) n c = refl
obey-made script stamp client (Some (Unlock s mode)) n c = refl
obey-made script stamp client (Some (Change s gives_up mode)) n c = refl
obey-made script stamp client (Some (Withdraw other s)) n c = refl
obey-made script stamp client (Some (DropAll other s)) n c = drop-made (node_waits script n other) stamp client other s (related script s) n c

-- a client that can act has a command left
pub commands_inside : (script : ScriptData) (w : World) (q client : ℕ) → IsTrue (is_enabled script w q (Act client))
    → made_by script w client < length (commands_of script client)
commands_inside script w q client enabled =
    let parts = and_parts (home script client == q) (is_runnable script w client) (and_parts (nat_lt client (length script.clients)) (home script client == q && is_runnable script w client) enabled).1 in
    ltb-true _ _ (and_parts (is_free_to_act script w client) (has_command script (w.node (home script client)) client) parts.1).1

-- it makes one more, and the others none
pub act_made : (script : ScriptData) (w : World) (q client c : ℕ) → home script client ≡ q
    → made_by script (after script w q (Act client)) c ≡ (if c == client then made_by script w client + 1 else made_by script w c)
act_made script w q client c own = elim (cases_eq c client) [
  | inl e ↦
      let one : made_by script (after script w q (Act client)) client ≡ made_by script w client + 1 =
      ap (λ (m : NodeState). m.made client) (ap (put w.node q made.node) own ∙ put-same w.node q made.node)
      ∙ made_here client ∙ put-same n.made client (n.made client + 1) ∙ ap (λ (x : ℕ). (w.node x).made client + 1) (sym own) in
      ap (made_by script (after script w q (Act client))) e ∙ one ∙ sym (ap (λ (b : Bool). if b then made_by script w client + 1 else made_by script w c) (eq-eqb c client e))
  | inr d ↦
      made_at script w q c made w.mail (made_here c ∙ put-other n.made client (n.made client + 1) c d)
      ∙ sym (ap (λ (b : Bool). if b then made_by script w client + 1 else made_by script w c) (ne_eqb c client d))
]
  where
    n : NodeState
    n = w.node q

    made : NodeMade
    made = node_act script q client n

    made_here : (k : ℕ) → made.node.made k ≡ put n.made client (n.made client + 1) k
    made_here k = obey-made script (act_stamp q n) client (next_command script n client) (one_made client (at_clock (n.clock + 1) n)) k
