-- What holds of all that a node makes in a move, whatever its sets are like.
use Rattle.std.proofs.Common.{◌≡◌, ◌≢◌, ℕ, List, [], ◌∷◌, Option, Some, None, Bool, true, false, refl, sym, ◌∙◌, ◌+◌, ◌≤◌, inl, inr, ◌++◌, ap, subst, arith, ◌⊎◌, ◌==◌, append_assoc}
use Rattle.std.specs.List.{AllByRecursion}
use Rattle.std.proofs.lemmas.Bool.{cases_eq}
use Rattle.lt_modes.specs.declared.stamp.Stamp.{Stamp}
use Rattle.lt_modes.specs.declared.command.Command.{Command}
use Rattle.lt_modes.specs.declared.command.Command.TheVariants.{Lock, Unlock, Try, Change, DropAll, Withdraw}
use Rattle.lt_modes.specs.declared.moves.Step.{Step}
use Rattle.lt_modes.specs.declared.moves.Step.TheVariants.{Act, Take}
use Rattle.lt_modes.specs.Script.{ScriptData, SetData}
use Rattle.lt_modes.specs.State.{SetState, Made, Post}
use Rattle.lt_modes.specs.SetMove.{finish, drop, lock, try, unlock, change, withdraw}
use Rattle.lt_modes.specs.Freezing.{cons_if, places_from}
use Rattle.lt_lists.specs.Below.{put}
use Rattle.lt_lists.proofs.AllLemmas.{all_append, all_weaker}
use Rattle.lt_lists.proofs.Puts.{put-other, put-same}
use Rattle.lt_spec.specs.NodeMove.{related, NodeState, NodeMade, node_waits, touched, each_touched, drop_all, obey, family}
use Rattle.lt_spec.specs.World.{World, node_move, after}
use Rattle.lt_spec.specs.Promised.{sets_of_command}
use Rattle.lt_model.proofs.SentInMove.{AreSentIn, finish-sent, lock-sent, try-sent, unlock-sent, change-sent, drop-sent, withdraw-sent}
use Rattle.lt_model.proofs.Effects.{Fact, both, HoldsOf, ByEffects}

-- the node's clock stays, and its letters have this stamp
pub record IsStamped (stamp : Stamp) (n : NodeState) (made : NodeMade) : Type 0 where
  pub clock : made.node.clock ≡ n.clock
  pub stamps : AllByRecursion (λ (post : Post). post.letter.stamp ≡ stamp) made.posts

touched-stamped : (set : ℕ) (stamp : Stamp) (n : NodeState) (m : Made) → AreSentIn set stamp m → IsStamped stamp n (touched n set m)
touched-stamped set stamp n m from = record { clock = refl; stamps = all_weaker _ _ (λ post sent. sent.1) m.posts from }

each-stamped : (stamp : Stamp) (rule : ℕ → SetState → Made) → ((set : ℕ) (t : SetState) → AreSentIn set stamp (rule set t))
    → (sets : List ℕ) (n : NodeState) → IsStamped stamp n (each_touched rule sets n)
each-stamped stamp rule from [] n = record { clock = refl; stamps = tt }
each-stamped stamp rule from (set ∷ rest) n =
    let m = rule set (n.set set) in
    let first = touched-stamped set stamp n m (from set (n.set set)) in
    let later = each-stamped stamp rule from rest (touched n set m).node in
    record {
      clock = later.clock;
      stamps = all_append _ m.posts (each_touched rule rest (touched n set m).node).posts first.stamps later.stamps;
    }

pub obey-stamped : (script : ScriptData) (stamp : Stamp) (client : ℕ) (command : Option Command) (n : NodeState)
    → IsStamped stamp n (obey script stamp client command n)
obey-stamped script stamp client None n = record { clock = refl; stamps = tt }
obey-stamped script stamp client (Some (Lock set mode)) n = touched-stamped set stamp n _ (lock-sent set stamp client mode (n.set set))
obey-stamped script stamp client (Some (Try set mode)) n = touched-stamped set stamp n _ (try-sent set stamp client mode (n.set set))
obey-stamped script stamp client (Some (Unlock set mode)) n = touched-stamped set stamp n _ (unlock-sent set stamp client mode (n.set set))
obey-stamped script stamp client (Some (Change set gives_up mode)) n =
    touched-stamped set stamp n _ (change-sent set stamp client gives_up mode (n.set set))
obey-stamped script stamp client (Some (Withdraw other set)) n = touched-stamped set stamp n _ (withdraw-sent set stamp client other (n.set set))
obey-stamped script stamp client (Some (DropAll other set)) n = by_test (node_waits script n other)
  where
    by_test : (waiting : Bool) → IsStamped stamp n (drop_all waiting stamp client other set (related script set) n)
    by_test true =
        let h = each-stamped stamp (λ k. finish k stamp) (λ k t. finish-sent k stamp t) (related script set) n in
        record { clock = h.clock; stamps = h.stamps }
    by_test false =
        let h = each-stamped stamp (λ k. drop k stamp other) (λ k t. drop-sent k stamp other t) (related script set) n in
        record { clock = h.clock; stamps = h.stamps }

-- the set stays, and no letter is of it
pub record IsBeside (s : ℕ) (n : NodeState) (made : NodeMade) : Type 0 where
  pub state : made.node.set s ≡ n.set s
  pub posts : AllByRecursion (λ (post : Post). post.letter.set ≢ s) made.posts

pub touched-beside : (s set : ℕ) (stamp : Stamp) (n : NodeState) (m : Made) → AreSentIn set stamp m → set ≢ s → IsBeside s n (touched n set m)
touched-beside s set stamp n m from d = record {
  state = put-other n.set set m.state s (λ e. d (sym e));
  posts = all_weaker _ _ (λ (post : Post) sent. λ e. d (sym sent.0 ∙ e)) m.posts from;
}

pub each-beside : (s : ℕ) (stamp : Stamp) (rule : ℕ → SetState → Made) → ((set : ℕ) (t : SetState) → AreSentIn set stamp (rule set t))
    → (sets : List ℕ) → AllByRecursion (λ set. set ≢ s) sets → (n : NodeState) → IsBeside s n (each_touched rule sets n)
each-beside s stamp rule from [] aside n = record { state = refl; posts = tt }
each-beside s stamp rule from (set ∷ rest) aside n =
    let m = rule set (n.set set) in
    let first = touched-beside s set stamp n m (from set (n.set set)) aside.0 in
    let later = each-beside s stamp rule from rest aside.1 (touched n set m).node in
    record {
      state = later.state ∙ first.state;
      posts = all_append _ m.posts (each_touched rule rest (touched n set m).node).posts first.posts later.posts;
    }

pub obey-beside : (script : ScriptData) (s : ℕ) (stamp : Stamp) (client : ℕ) (command : Option Command) (n : NodeState)
    → AllByRecursion (λ set. set ≢ s) (sets_of_command script command) → IsBeside s n (obey script stamp client command n)
obey-beside script s stamp client None n aside = record { state = refl; posts = tt }
obey-beside script s stamp client (Some (Lock set mode)) n aside =
    touched-beside s set stamp n _ (lock-sent set stamp client mode (n.set set)) aside.0
obey-beside script s stamp client (Some (Try set mode)) n aside =
    touched-beside s set stamp n _ (try-sent set stamp client mode (n.set set)) aside.0
obey-beside script s stamp client (Some (Unlock set mode)) n aside =
    touched-beside s set stamp n _ (unlock-sent set stamp client mode (n.set set)) aside.0
obey-beside script s stamp client (Some (Change set gives_up mode)) n aside =
    touched-beside s set stamp n _ (change-sent set stamp client gives_up mode (n.set set)) aside.0
obey-beside script s stamp client (Some (Withdraw other set)) n aside =
    touched-beside s set stamp n _ (withdraw-sent set stamp client other (n.set set)) aside.0
obey-beside script s stamp client (Some (DropAll other set)) n aside = by_test (node_waits script n other)
  where
    by_test : (waiting : Bool) → IsBeside s n (drop_all waiting stamp client other set (related script set) n)
    by_test true =
        let h = each-beside s stamp (λ k. finish k stamp) (λ k t. finish-sent k stamp t) (related script set) aside n in
        record { state = h.state; posts = h.posts }
    by_test false =
        let h = each-beside s stamp (λ k. drop k stamp other) (λ k t. drop-sent k stamp other t) (related script set) aside n in
        record { state = h.state; posts = h.posts }

-- the nodes after a move
pub after_node : (script : ScriptData) (w : World) (q : ℕ) (step : Step) (x : ℕ) → (after script w q step).node x ≡ put w.node q (node_move script w q step).node x
after_node script w q (Act client) x = refl
after_node script w q (Take p) x = refl

-- A node's command as the effects on one of its sets, among what it does on the others.

-- letters of other sets don't matter to the fact
abbrev pub IsOfSet : ℕ → Fact → Type 0
IsOfSet s fact = (t : SetState) (posts more : List Post) → AllByRecursion (λ (post : Post). post.letter.set ≢ s) more → fact t posts → fact t (posts ++ more)

pub both_of_set : (s : ℕ) (f g : Fact) → IsOfSet s f → IsOfSet s g → IsOfSet s (both f g)
both_of_set s f g hf hg t posts more others h = (hf t posts more others h.0, hg t posts more others h.1)

-- the set is one of these, once
abbrev pub IsOnce : ℕ → List ℕ → Type 0
IsOnce s [] = ⊥
IsOnce s (set ∷ rest) = ((set ≡ s) × AllByRecursion (λ k. k ≢ s) rest) ⊎ ((set ≢ s) × IsOnce s rest)

places_above : {X : Type 0} (test : ℕ → X → Bool) (k : ℕ) (xs : List X) → AllByRecursion (λ i. k ≤ i) (places_from test k xs)
places_above test k [] = tt
places_above test k (x ∷ xs) = by_test (all_weaker _ _ (λ i h. omega (arith, h)) (places_from test (k + 1) xs) (places_above test (k + 1) xs)) (test k x)
  where
    by_test : AllByRecursion (λ i. k ≤ i) (places_from test (k + 1) xs) → (wanted : Bool)
        → AllByRecursion (λ i. k ≤ i) (cons_if wanted k (places_from test (k + 1) xs))
    by_test later true = (omega arith, later)
    by_test later false = later

places_once : {X : Type 0} (test : ℕ → X → Bool) (s k : ℕ) (xs : List X)
    → IsOnce s (places_from test k xs) ⊎ AllByRecursion (λ i. i ≢ s) (places_from test k xs)
places_once test s k [] = inr tt
places_once test s k (x ∷ xs) = by_test (places_once test s (k + 1) xs) (test k x)
  where
    by_test : IsOnce s (places_from test (k + 1) xs) ⊎ AllByRecursion (λ i. i ≢ s) (places_from test (k + 1) xs) → (wanted : Bool)
        → IsOnce s (cons_if wanted k (places_from test (k + 1) xs)) ⊎ AllByRecursion (λ i. i ≢ s) (cons_if wanted k (places_from test (k + 1) xs))
    by_test rest false = rest
    by_test rest true = elim (cases_eq k s) [
      | inl e ↦ inl (inl (e, all_weaker _ _ (λ i h. λ same. omega (arith, h, same, e)) (places_from test (k + 1) xs) (places_above test (k + 1) xs)))
      | inr d ↦ elim rest [
        | inl once ↦ inl (inr (d, once))
        | inr aside ↦ inr (d, aside)
      ]
    ]

one_set : (set s : ℕ) → IsOnce s (set ∷ []) ⊎ AllByRecursion (λ k. k ≢ s) (set ∷ [])
one_set set s = elim (cases_eq set s) [
  | inl e ↦ inl (inl (e, tt))
  | inr d ↦ inr (d, tt)
]

-- a command touches a set once or not at all
pub once_or_aside : (script : ScriptData) (s : ℕ) (command : Option Command)
    → IsOnce s (sets_of_command script command) ⊎ AllByRecursion (λ k. k ≢ s) (sets_of_command script command)
once_or_aside script s None = inr tt
once_or_aside script s (Some (Lock set mode)) = one_set set s
once_or_aside script s (Some (Try set mode)) = one_set set s
once_or_aside script s (Some (Unlock set mode)) = one_set set s
once_or_aside script s (Some (Change set gives_up mode)) = one_set set s
once_or_aside script s (Some (Withdraw other set)) = one_set set s
once_or_aside script s (Some (DropAll other set)) = places_once (λ k (data_of : SetData). data_of.family == family script set) s 0 script.sets

-- the rule on one set of the node, where it is this set
pub touched_own : (s set : ℕ) (n : NodeState) (ended : Fact) (posts : List Post) (rule : ℕ → SetState → Made) → set ≡ s
    → HoldsOf ended posts (rule s (n.set s)) → ended ((touched n set (rule set (n.set set))).node.set s) (posts ++ (rule set (n.set set)).posts)
touched_own s set n ended posts rule e h =
    let m = rule set (n.set set) in
    let here = subst (λ (k : ℕ). HoldsOf ended posts (rule k (n.set k))) (sym e) h in
    subst (λ (t : SetState). ended t (posts ++ m.posts)) (sym (ap (λ (k : ℕ). (touched n set m).node.set k) (sym e) ∙ put-same n.set set m.state)) here

-- the rule on several sets, this one among them
pub each_by_effects : (s : ℕ) (stamp : Stamp) (begun ended : Fact) → IsOfSet s begun → IsOfSet s ended
    → (rule : ℕ → SetState → Made) → ((set : ℕ) (t : SetState) → AreSentIn set stamp (rule set t))
    → ((t : SetState) (posts : List Post) → begun t posts → HoldsOf ended posts (rule s t))
    → (sets : List ℕ) → IsOnce s sets → (n : NodeState) (posts : List Post) → begun (n.set s) posts
    → ended ((each_touched rule sets n).node.set s) (posts ++ (each_touched rule sets n).posts)
each_by_effects s stamp begun ended begun_of ended_of rule from leads [] once n posts h = absurd once
each_by_effects s stamp begun ended begun_of ended_of rule from leads (set ∷ rest) (inl own) n posts h =
    let m = rule set (n.set set) in
    let next = (touched n set m).node in
    let here = touched_own s set n ended posts rule own.0 (leads (n.set s) posts h) in
    let beside = each-beside s stamp rule from rest own.1 next in
    subst (ended ((each_touched rule rest next).node.set s)) (append_assoc posts m.posts (each_touched rule rest next).posts)
    (ended_of _ (posts ++ m.posts) (each_touched rule rest next).posts beside.posts
    (subst (λ (t : SetState). ended t (posts ++ m.posts)) (sym beside.state) here))
each_by_effects s stamp begun ended begun_of ended_of rule from leads (set ∷ rest) (inr later) n posts h =
    let m = rule set (n.set set) in
    let next = (touched n set m).node in
    let beside = touched-beside s set stamp n m (from set (n.set set)) later.0 in
    let still = begun_of (next.set s) posts m.posts beside.posts (subst (λ (t : SetState). begun t posts) (sym beside.state) h) in
    subst (ended ((each_touched rule rest next).node.set s)) (append_assoc posts m.posts (each_touched rule rest next).posts)
    (each_by_effects s stamp begun ended begun_of ended_of rule from leads rest later.1 next (posts ++ m.posts) still)

pub none_once : {A : Type 0} (set s : ℕ) → set ≢ s → IsOnce s (set ∷ []) → A
none_once set s d (inl own) = absurd (d own.0)
none_once set s d (inr later) = absurd later.1

-- a command that touches the set
pub obey_by_effects : (script : ScriptData) (s client : ℕ) (stamp : Stamp) (begun ended : Fact) → IsOfSet s begun → IsOfSet s ended
    → ByEffects s stamp begun ended → (command : Option Command) (n : NodeState) → IsOnce s (sets_of_command script command) → begun (n.set s) []
    → ended ((obey script stamp client command n).node.set s) (obey script stamp client command n).posts
obey_by_effects script s client stamp begun ended begun_of ended_of by None n once h = absurd once
obey_by_effects script s client stamp begun ended begun_of ended_of by (Some (Lock set mode)) n once h = elim (cases_eq set s) [
  | inl e ↦ touched_own s set n ended [] (λ k t. lock k stamp client mode t) e (by.locks client mode (n.set s) [] h)
  | inr d ↦ none_once set s d once
]
obey_by_effects script s client stamp begun ended begun_of ended_of by (Some (Try set mode)) n once h = elim (cases_eq set s) [
  | inl e ↦ touched_own s set n ended [] (λ k t. try k stamp client mode t) e (by.tries client mode (n.set s) [] h)
  | inr d ↦ none_once set s d once
]
obey_by_effects script s client stamp begun ended begun_of ended_of by (Some (Unlock set mode)) n once h = elim (cases_eq set s) [
  | inl e ↦ touched_own s set n ended [] (λ k t. unlock k stamp client mode t) e (by.unlocks client mode (n.set s) [] h)
  | inr d ↦ none_once set s d once
]
obey_by_effects script s client stamp begun ended begun_of ended_of by (Some (Change set gives_up mode)) n once h = elim (cases_eq set s) [
  | inl e ↦ touched_own s set n ended [] (λ k t. change k stamp client gives_up mode t) e (by.changes client gives_up mode (n.set s) [] h)
  | inr d ↦ none_once set s d once
]
obey_by_effects script s client stamp begun ended begun_of ended_of by (Some (Withdraw other set)) n once h = elim (cases_eq set s) [
  | inl e ↦ touched_own s set n ended [] (λ k t. withdraw k stamp client other t) e (by.withdraws client other (n.set s) [] h)
  | inr d ↦ none_once set s d once
]
obey_by_effects script s client stamp begun ended begun_of ended_of by (Some (DropAll other set)) n once h = by_test (node_waits script n other)
  where
    by_test : (waiting : Bool) → ended ((drop_all waiting stamp client other set (related script set) n).node.set s)
        (drop_all waiting stamp client other set (related script set) n).posts
    by_test true = each_by_effects s stamp begun ended begun_of ended_of (λ k t. finish k stamp t) (λ k t. finish-sent k stamp t)
        (λ t posts b. by.finishes t posts b) (related script set) once n [] h
    by_test false = each_by_effects s stamp begun ended begun_of ended_of (λ k t. drop k stamp other t) (λ k t. drop-sent k stamp other t)
        (λ t posts b. by.drops other t posts b) (related script set) once n [] h
