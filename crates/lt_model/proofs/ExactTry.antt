-- A `try` tells exactly whether the node can grant the mode, and nothing else tells a `try` line.
use Rattle.std.proofs.Common.{◌≡◌, ℕ, zero, suc, ◌+◌, List, [], ◌∷◌, Option, Some, None, Bool, true, false, refl, sym, ap, subst, take as take_first, drop as drop_front, ◌≢◌, inl, inr, ◌++◌, arith, ◌∙◌, slice_get, All, IsTrue, ◌==◌, ◌&&◌, if◌then◌else◌, sum_by, ne_eqb, eqb-true, append-nil}
use Rattle.std.specs.List.{AllByRecursion}
use Rattle.std.proofs.lemmas.List.Elements.{All-from_recursion, filter-append, recursion_from_All}
use Rattle.std.proofs.lemmas.Bool.{cases_eq, and_parts}
use Rattle.std.proofs.lemmas.List.Sums.{sum_by-cons}
use Rattle.lt_modes.specs.declared.stamp.Stamp.{Stamp}
use Rattle.lt_modes.specs.declared.command.Command.{Command}
use Rattle.lt_modes.specs.declared.command.Command.TheVariants.{Lock, Unlock, Try as TryCommand, Change, DropAll, Withdraw}
use Rattle.lt_modes.specs.declared.event.Event.{Event}
use Rattle.lt_modes.specs.declared.event.Event.TheVariants.{Grant, Wait, Try, Unlock as UnlockLine, NotHeld, Change as ChangeLine, DropAll as Dropped, Busy, Copy, Freeze, Token, Withdraw as WithdrawLine, Withdrawn, Void, Withheld}
use Rattle.lt_modes.specs.declared.moves.Step.{Step}
use Rattle.lt_modes.specs.declared.moves.Step.TheVariants.{Act, Take}
use Rattle.lt_modes.specs.Script.{ScriptData}
use Rattle.lt_modes.specs.State.{SetState, Letter, Made, Body, Post}
use Rattle.lt_modes.specs.Granting.{can_grant}
use Rattle.lt_modes.specs.SetMove.{finish, drop}
use Rattle.lt_modes.specs.Taking.{take}
use Rattle.lt_lists.proofs.AllLemmas.{all_append, all_weaker}
use Rattle.lt_lists.proofs.Members.{some_equal}
use Rattle.lt_lists.proofs.Sums.{sum_below-same}
use Rattle.lt_lists.proofs.Puts.{put-same, put-other}
use Rattle.lt_spec.specs.NodeMove.{related, NodeState, node_waits, next_command, touched, each_touched, drop_all, act_stamp, take_stamp, at_clock, one_made, obey, NodeMade, node_act}
use Rattle.lt_spec.specs.World.{Logged, World, start, is_enabled, take_front, node_move, after, after_run, IsMove, IsRunFrom, put_mail, sent, after_made}
use Rattle.lt_spec.specs.Facts.{state_at}
use Rattle.lt_spec.specs.Promised.{IsNoTry, IsExactTry, IsOwnAnswer, of_set, sets_of_front, SameSet}
use Rattle.lt_model.specs.Laws.{TryIsExact, TriesAreExact, TriesInRuns, OthersStay}
use Rattle.lt_model.proofs.TryEffects.{AreNoTries, finish_none, lock_none, try_none, unlock_none, change_none, drop_none, take_none, withdraw_none}
use Rattle.lt_model.proofs.HomesMove.{maker}
use Rattle.lt_model.proofs.Letters.{letters_to, letters_to-same, letters_to-other}
use Rattle.lt_model.proofs.SentInMove.{take-sent}
use Rattle.lt_model.proofs.PathsWorld.{no_token_of_other, none_go}
use Rattle.lt_model.proofs.NodeEffects.{IsBeside, touched-beside, obey-beside}

-- only the first line for a command may be a `try` line, which answers it
abbrev IsAnswered : ℕ → NodeState → ℕ → Option Command → List Event → Type 0
IsAnswered q n client (Some (TryCommand s mode)) lines =
    (rest : List Event) × (lines ≡ Try client s mode (can_grant q (n.set s) client mode) ∷ rest) × AreNoTries rest
IsAnswered q n client command lines = AreNoTries lines

each_none : (rule : ℕ → SetState → Made) → ((set : ℕ) (t : SetState) → AreNoTries (rule set t).events) → (sets : List ℕ) (n : NodeState)
    → AreNoTries (each_touched rule sets n).events
each_none rule each [] n = tt
each_none rule each (set ∷ rest) n =
    let m = rule set (n.set set) in
    let next = (touched n set m).node in
    all_append IsNoTry m.events (each_touched rule rest next).events (each set (n.set set)) (each_none rule each rest next)

drop_all_none : (waiting : Bool) (stamp : Stamp) (client other s : ℕ) (sets : List ℕ) (n : NodeState)
    → AreNoTries (drop_all waiting stamp client other s sets n).events
drop_all_none true stamp client other s sets n = (tt, each_none (λ k. finish k stamp) (λ k t. finish_none k stamp t) sets n)
drop_all_none false stamp client other s sets n = (tt, each_none (λ k. drop k stamp other) (λ k t. drop_none k stamp other t) sets n)

obey_answered : (script : ScriptData) (stamp : Stamp) (client : ℕ) (command : Option Command) (n : NodeState)
    → IsAnswered stamp.node n client command (obey script stamp client command n).events
obey_answered script stamp client None n = tt
obey_answered script stamp client (Some (Lock s mode)) n = lock_none s stamp client mode (n.set s)
obey_answered script stamp client (Some (TryCommand s mode)) n = try_none s stamp client mode (n.set s)
obey_answered script stamp client (Some (Unlock s mode)) n = unlock_none s stamp client mode (n.set s)
obey_answered script stamp client (Some (Change s gives_up mode)) n = change_none s stamp client gives_up mode (n.set s)
obey_answered script stamp client (Some (DropAll other s)) n = drop_all_none (node_waits script n other) stamp client other s (related script s) n
obey_answered script stamp client (Some (Withdraw other s)) n = withdraw_none s stamp client other (n.set s)

pub try_is_exact : TryIsExact
try_is_exact script w q client s mode e =
    let n : NodeState = one_made client (at_clock ((w.node q).clock + 1) (w.node q)) in
    let answered = subst (λ (command : Option Command). IsAnswered q n client command (obey script (act_stamp q (w.node q)) client (next_command script (w.node q) client) n).events)
    e (obey_answered script (act_stamp q (w.node q)) client (next_command script (w.node q) client) n) in
    (answered.0, answered.1)

-- a line that is no `try` line need not answer one
any_exact : (script : ScriptData) (w : World) (q : ℕ) (step : Step) (line : Event) → IsNoTry line → IsExactTry script w q step line
any_exact script w q step (Try client s mode got) none = absurd none
any_exact script w q step (Grant client s mode) none = tt
any_exact script w q step (Wait client s mode) none = tt
any_exact script w q step (UnlockLine client s mode) none = tt
any_exact script w q step (NotHeld client s mode) none = tt
any_exact script w q step (ChangeLine client s gives_up mode) none = tt
any_exact script w q step (Dropped client other s count) none = tt
any_exact script w q step (Busy client other s) none = tt
any_exact script w q step (WithdrawLine client other s got) none = tt
any_exact script w q step (Withdrawn client s mode) none = tt
any_exact script w q step (Void client s mode) none = tt
any_exact script w q step (Withheld client s mode) none = tt
any_exact script w q step (Copy s to client mode) none = tt
any_exact script w q step (Freeze s to number modes) none = tt
any_exact script w q step (Token s to epoch) none = tt

-- lines by recursion, of which only the first may be a `try` line
record ExactTries (script : ScriptData) (w : World) (q : ℕ) (step : Step) (lines : List Event) : Type 0 where
  first : AllByRecursion (IsExactTry script w q step) lines
  later : AreNoTries (drop_front 1 lines)

none_exact : (script : ScriptData) (w : World) (q : ℕ) (step : Step) (lines : List Event) → AreNoTries lines → ExactTries script w q step lines
none_exact script w q step [] h = record { first = tt; later = tt }
none_exact script w q step (line ∷ rest) h = record { first = all_weaker _ _ (any_exact script w q step) (line ∷ rest) h; later = h.1 }

act_exact : (script : ScriptData) (w : World) (q client : ℕ) → ExactTries script w q (Act client) (node_move script w q (Act client)).events
act_exact script w q client = by_command (next_command script (w.node q) client) refl
  where
    begins : NodeState
    begins = one_made client (at_clock ((w.node q).clock + 1) (w.node q))

    by_command : (command : Option Command) → next_command script (w.node q) client ≡ command
        → ExactTries script w q (Act client) (obey script (act_stamp q (w.node q)) client command begins).events
    by_command None e = record { first = tt; later = tt }
    by_command (Some (Lock s mode)) e = none_exact script w q (Act client) _ (obey_answered script (act_stamp q (w.node q)) client (Some (Lock s mode)) begins)
    by_command (Some (TryCommand s mode)) e =
        let tried = try_none s (act_stamp q (w.node q)) client mode (begins.set s) in
        subst (ExactTries script w q (Act client)) (sym tried.1) (record {
          first = (record { act = refl; command = e; answer = refl }, all_weaker _ _ (any_exact script w q (Act client)) tried.0 tried.2);
          later = tried.2;
        })
    by_command (Some (Unlock s mode)) e = none_exact script w q (Act client) _ (obey_answered script (act_stamp q (w.node q)) client (Some (Unlock s mode)) begins)
    by_command (Some (Change s gives_up mode)) e =
        none_exact script w q (Act client) _ (obey_answered script (act_stamp q (w.node q)) client (Some (Change s gives_up mode)) begins)
    by_command (Some (DropAll other s)) e =
        none_exact script w q (Act client) _ (obey_answered script (act_stamp q (w.node q)) client (Some (DropAll other s)) begins)
    by_command (Some (Withdraw other s)) e =
        none_exact script w q (Act client) _ (obey_answered script (act_stamp q (w.node q)) client (Some (Withdraw other s)) begins)

move_exact : (script : ScriptData) (w : World) (q : ℕ) (step : Step) → ExactTries script w q step (node_move script w q step).events
move_exact script w q (Act client) = act_exact script w q client
move_exact script w q (Take p) = by_letters (w.mail p q)
  where
    by_letters : (letters : List Letter) → ExactTries script w q (Take p) (take_front q (w.node q) letters).events
    by_letters [] = record { first = tt; later = tt }
    by_letters (letter ∷ rest) = none_exact script w q (Take p) _ (take_none (take_stamp q (w.node q) letter) letter ((w.node q).set letter.set))

pub tries_are_exact : TriesAreExact
tries_are_exact script w q step =
    let h = move_exact script w q step in
    record {
      first = All-from_recursion (IsExactTry script w q step) (node_move script w q step).events h.first;
      later = All-from_recursion IsNoTry (drop_front 1 (node_move script w q step).events) h.later;
    }

-- whoever acts is at home
own_answer : (script : ScriptData) (w : World) (q : ℕ) (step : Step) → IsTrue (is_enabled script w q step) → (line : Event)
    → IsExactTry script w q step line → IsOwnAnswer script w line
own_answer script w q step enabled (Try client s mode got) h =
    let own = maker script w q client (subst (λ (x : Step). IsTrue (is_enabled script w q x)) h.act enabled) in
    subst (λ (x : ℕ). got ≡ can_grant x (state_at w s x) client mode) (sym own.own) h.answer
own_answer script w q step enabled (Grant client s mode) h = tt
own_answer script w q step enabled (Wait client s mode) h = tt
own_answer script w q step enabled (UnlockLine client s mode) h = tt
own_answer script w q step enabled (NotHeld client s mode) h = tt
own_answer script w q step enabled (ChangeLine client s gives_up mode) h = tt
own_answer script w q step enabled (Dropped client other s count) h = tt
own_answer script w q step enabled (Busy client other s) h = tt
own_answer script w q step enabled (WithdrawLine client other s got) h = tt
own_answer script w q step enabled (Withdrawn client s mode) h = tt
own_answer script w q step enabled (Void client s mode) h = tt
own_answer script w q step enabled (Withheld client s mode) h = tt
own_answer script w q step enabled (Copy s to client mode) h = tt
own_answer script w q step enabled (Freeze s to number modes) h = tt
own_answer script w q step enabled (Token s to epoch) h = tt

entry_exact : (script : ScriptData) (w : World) (entry : Logged) → IsMove script w entry → All (IsOwnAnswer script w) entry.events
entry_exact script w entry move =
    let q = entry.made.stamp.node in
    let step = entry.made.step in
    subst (λ (lines : List Event). All (IsOwnAnswer script w) lines) (sym (ap (λ (e : Logged). e.events) move.made))
    (All-from_recursion (IsOwnAnswer script w) (node_move script w q step).events
    (all_weaker _ _ (own_answer script w q step move.enabled) (node_move script w q step).events (move_exact script w q step).first))

run_exact : (script : ScriptData) (run : List Logged) (w : World) → IsRunFrom script w run → (k : ℕ) (entry : Logged) → slice_get run k ≡ Some entry
    → All (IsOwnAnswer script (after_run script w (take_first k run))) entry.events
run_exact script [] w is_run k entry e = cc
run_exact script (first ∷ rest) w is_run zero entry e =
    subst (λ (x : Logged). All (IsOwnAnswer script w) x.events) (some_equal first entry e) (entry_exact script w first is_run.0)
run_exact script (first ∷ rest) w is_run (suc k) entry e =
    run_exact script rest (after script w first.made.stamp.node first.made.step) is_run.1 k entry e

pub tries_in_runs : TriesInRuns
tries_in_runs script run is_run k entry e = run_exact script run (start script) is_run k entry e

-- A move leaves the sets as they are that it doesn't touch.

of_set-other : (s : ℕ) (letter : Letter) (rest : List Letter) → letter.set ≢ s → of_set s (letter ∷ rest) ≡ of_set s rest
of_set-other s letter rest d = rw (ne_eqb letter.set s d) refl

none_of_set : (s b : ℕ) (posts : List Post) → AllByRecursion (λ (post : Post). post.letter.set ≢ s) posts → of_set s (letters_to b posts) ≡ []
none_of_set s b [] h = refl
none_of_set s b (post ∷ rest) h = elim (cases_eq post.to b) [
  | inl e ↦ ap (of_set s) (letters_to-same b post rest e) ∙ of_set-other s post.letter (letters_to b rest) h.0 ∙ none_of_set s b rest h.1
  | inr d ↦ ap (of_set s) (letters_to-other b post rest d) ∙ none_of_set s b rest h.1
]

of_set-sent : (s q : ℕ) (posts : List Post) (mail : ℕ → ℕ → List Letter) → AllByRecursion (λ (post : Post). post.letter.set ≢ s) posts
    → (a b : ℕ) → of_set s (sent q posts mail a b) ≡ of_set s (mail a b)
of_set-sent s q posts mail h a b = by_test (a == q)
  where
    by_test : (own : Bool) → of_set s (mail a b ++ (if own then letters_to b posts else [])) ≡ of_set s (mail a b)
    by_test true = filter-append (λ (letter : Letter). letter.set == s) (mail a b) (letters_to b posts)
        ∙ ap (λ (l : List Letter). of_set s (mail a b) ++ l) (none_of_set s b posts h) ∙ append-nil (of_set s (mail a b))
    by_test false = ap (of_set s) (append-nil (mail a b))

-- what the letters of the set weigh is read from them alone
weigh_of_set : (s : ℕ) (of_body : Body → ℕ) (letters : List Letter)
    → sum_by (λ (letter : Letter). if letter.set == s then of_body letter.body else 0) letters
    ≡ sum_by (λ (letter : Letter). of_body letter.body) (of_set s letters)
weigh_of_set s of_body [] = refl
weigh_of_set s of_body (letter ∷ rest) =
    by_test (weigh_of_set s of_body rest) (letter.set == s)
    (sum_by-cons (λ (l : Letter). if l.set == s then of_body l.body else 0) letter rest)
  where
    weighed : List Letter → ℕ
    weighed letters = sum_by (λ (l : Letter). if l.set == s then of_body l.body else 0) letters

    by_test : weighed rest ≡ sum_by (λ (l : Letter). of_body l.body) (of_set s rest) → (own : Bool)
        → weighed (letter ∷ rest) ≡ (if own then of_body letter.body else 0) + weighed rest
        → weighed (letter ∷ rest) ≡ sum_by (λ (l : Letter). of_body l.body) (if own then letter ∷ of_set s rest else of_set s rest)
    by_test again true e = omega (arith, e, again, sum_by-cons (λ (l : Letter). of_body l.body) letter (of_set s rest))
    by_test again false e = omega (arith, e, again)

-- the parts that make a set the same
pub same_set : (script : ScriptData) (w later : World) (s : ℕ) → ((x : ℕ) → state_at later s x ≡ state_at w s x)
    → ((p q : ℕ) → of_set s (later.mail p q) ≡ of_set s (w.mail p q)) → later.went s ≡ w.went s → SameSet script w later s
same_set script w later s states letters went = record {
  states = states;
  letters = letters;
  went = went;
  weights = λ of_state of_body.
      let nodes_same = sum_below-same script.nodes (λ q. of_state (state_at later s q)) (λ q. of_state (state_at w s q)) (λ q below. ap of_state (states q)) in
      let weigh : List Letter → ℕ = λ l. sum_by (λ (letter : Letter). if letter.set == s then of_body letter.body else 0) l in
      let each = λ (p q : ℕ). weigh_of_set s of_body (later.mail p q)
      ∙ ap (λ (l : List Letter). sum_by (λ (letter : Letter). of_body letter.body) l) (letters p q) ∙ sym (weigh_of_set s of_body (w.mail p q)) in
      omega (arith, nodes_same, sum_below-same script.nodes _ _ (λ p below. sum_below-same script.nodes _ _ (λ q under. each p q)));
}

-- a node's move that leaves the set alone
beside_same : (script : ScriptData) (w : World) (s q : ℕ) (mail : ℕ → ℕ → List Letter) (made : NodeMade)
    → ((a b : ℕ) → of_set s (mail a b) ≡ of_set s (w.mail a b)) → IsBeside s (w.node q) made
    → SameSet script w (after_made q made (record w { mail = mail })) s
beside_same script w s q mail made same h = same_set script w (after_made q made (record w { mail = mail })) s
    (λ x. elim (cases_eq x q) [
      | inl e ↦ ap (λ (y : ℕ). (put_node y).set s) e ∙ ap (λ (n : NodeState). n.set s) (put-same w.node q made.node) ∙ h.state ∙ ap (λ (y : ℕ). (w.node y).set s) (sym e)
      | inr d ↦ ap (λ (n : NodeState). n.set s) (put-other w.node q made.node x d)
    ])
    (λ a b. of_set-sent s q made.posts mail h.posts a b ∙ same a b)
    (ap (λ (more : List ℕ). w.went s ++ more)
    (none_go s made.posts (all_weaker _ _ (λ (post : Post) d. no_token_of_other s post d) made.posts h.posts)) ∙ append-nil (w.went s))
  where
    put_node : ℕ → NodeState
    put_node x = (after_made q made (record w { mail = mail })).node x

without_front : (s : ℕ) (letters : List Letter) → AllByRecursion (λ set. set ≢ s) (sets_of_front letters) → of_set s (drop_front 1 letters) ≡ of_set s letters
without_front s [] h = refl
without_front s (letter ∷ rest) h = sym (of_set-other s letter rest h.0)

of_set-taken : (s p q : ℕ) (mail : ℕ → ℕ → List Letter) → AllByRecursion (λ set. set ≢ s) (sets_of_front (mail p q))
    → (a b : ℕ) → of_set s (put_mail mail p q (drop_front 1 (mail p q)) a b) ≡ of_set s (mail a b)
of_set-taken s p q mail h a b = by_test (a == p && b == q) refl
  where
    by_test : (here : Bool) → (a == p && b == q) ≡ here → of_set s (if here then drop_front 1 (mail p q) else mail a b) ≡ of_set s (mail a b)
    by_test true e =
        let parts = and_parts (a == p) (b == q) e in
        without_front s (mail p q) h
        ∙ ap (λ (x : ℕ). of_set s (mail x q)) (sym (eqb-true a p parts.0)) ∙ ap (λ (y : ℕ). of_set s (mail a y)) (sym (eqb-true b q parts.1))
    by_test false e = refl

pub others_stay : OthersStay
others_stay script w s q (Act client) aside =
    let n = w.node q in
    let command = next_command script n client in
    let h = obey-beside script s (act_stamp q n) client command (one_made client (at_clock (n.clock + 1) n))
    (recursion_from_All (λ set. set ≢ s) _ aside) in
    beside_same script w s q w.mail (node_act script q client n) (λ a b. refl) (record { state = h.state; posts = h.posts })
others_stay script w s q (Take p) aside =
    let front = recursion_from_All (λ set. set ≢ s) (sets_of_front (w.mail p q)) aside in
    beside_same script w s q (put_mail w.mail p q (drop_front 1 (w.mail p q))) (take_front q (w.node q) (w.mail p q))
    (of_set-taken s p q w.mail front) (by_letters (w.mail p q) front)
  where
    by_letters : (letters : List Letter) → AllByRecursion (λ set. set ≢ s) (sets_of_front letters) → IsBeside s (w.node q) (take_front q (w.node q) letters)
    by_letters [] front = record { state = refl; posts = tt }
    by_letters (letter ∷ rest) front =
        let n = w.node q in
        let stamp = take_stamp q n letter in
        let h = touched-beside s letter.set stamp (at_clock stamp.clock n) (take stamp letter (n.set letter.set)) (take-sent stamp letter (n.set letter.set)) front.0 in
        record { state = h.state; posts = h.posts }
