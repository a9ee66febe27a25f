-- What the move that a runner shows says of its state.
use Rattle.std.proofs.Common.{◌≡◌, ◌≢◌, ◌<◌, ℕ, inl, inr, arith, zero, suc, Option, Some, None, Bool, true, false, refl, sym, ap, subst, ◌∙◌, ◌&&◌, ◌==◌, nat_lt, if◌then◌else◌, IsTrue, IfSome, length, lt-ltb, ltb-true, eqb-true}
use Rattle.std.proofs.lemmas.Bool.{and_parts, cases_eq}
use Rattle.lt_modes.specs.Script.{ScriptData}
use Rattle.lt_modes.specs.State.{Letter, SetState}
use Rattle.lt_modes.specs.Fits.{Numbers, head_fits, body_fits, fits, numbers_of}
use Rattle.lt_desk.specs.LetterSeen.{letter_seen}
use Rattle.lt_spec.specs.NodeMove.{home, is_free_at, has_command, NodeState}
use Rattle.lt_spec.specs.Plays.{can_act}
use Rattle.lt_node.specs.NodeData.{state_of}
use Rattle.lt_node.specs.Clients.{IsLeast, is_runnable_here}
use Rattle.lt_node.specs.Touched.{leaves_room_to_act, leaves_room_to_take}
use Rattle.lt_runner.specs.declared.choice.Choice.TheVariants.{Nothing, Act, Take}
use Rattle.lt_runner.specs.declared.parts.Hand.{Hand}
use Rattle.lt_runner.specs.declared.parts.Parts.{Parts}
use Rattle.lt_runner.specs.Ready.{FitsNow}
use Rattle.lt_runner.specs.Choices.{or_this, least_below, first_client, has_time, may_act, may_take, act_if, act_choice, choice_by, next_choice}

-- the least number that passes passes
least_passes : (n : ℕ) (test : ℕ → Bool) (least : ℕ) → least_below n test ≡ Some least → IsTrue (test least)
least_passes zero test least e = absurd (cc)
least_passes (suc n) test least e = before (λ was. least_passes n test least was) (least_below n test) refl e
  where
    same : (a b : ℕ) → Some a ≡ Some b → a ≡ b
    same a b e = cc

    here : (b : Bool) → test n ≡ b → (if b then Some n else None) ≡ Some least → IsTrue (test least)
    here true t e = subst (λ (k : ℕ). test k ≡ true) (same n least e) t
    here false t e = absurd (cc)

    before : (least_below n test ≡ Some least → IsTrue (test least)) → (o : Option ℕ) → least_below n test ≡ o → or_this o test n ≡ Some least → IsTrue (test least)
    before again None was e = here (test n) refl e
    before again (Some k) was e = again (was ∙ e)

-- where no number below passes, the number that passes is the least one
least_found : (n k : ℕ) (test : ℕ → Bool) → k < n → least_below k test ≡ None → IsTrue (test k) → least_below n test ≡ Some k
least_found zero k test below none passes = absurd (omega (arith, below))
least_found (suc m) k test below none passes = elim (cases_eq k m) [
  | inl last ↦ subst (λ (i : ℕ). or_this (least_below i test) test i ≡ Some k) last (here none passes)
  | inr other ↦ ap (λ (o : Option ℕ). or_this o test m) (least_found m k test (omega (arith, below, other)) none passes)
]
  where
    here : least_below k test ≡ None → IsTrue (test k) → or_this (least_below k test) test k ≡ Some k
    here e t = ap (λ (o : Option ℕ). or_this o test k) e ∙ ap (λ (b : Bool). if b then Some k else None) t

-- where no number below passes there is no least one
none_below : (n : ℕ) (test : ℕ → Bool) → ((k : ℕ) → k < n → test k ≡ false) → least_below n test ≡ None
none_below zero test none = refl
none_below (suc n) test none =
    ap (λ (o : Option ℕ). or_this o test n) (none_below n test (λ k below. none k (omega (arith, below))))
    ∙ ap (λ (b : Bool). if b then Some n else None) (none n (omega arith))

-- of the script's clients those of the node that can go on can act
acts : (script : ScriptData) (me : ℕ) (n : NodeState) (client : ℕ) → client < length script.clients → can_act script me n client ≡ is_runnable_here script me n client
acts script me n client inside = ap (λ (b : Bool). b && is_runnable_here script me n client) (lt-ltb client (length script.clients) inside)

-- and the first of them is the first that can act
pub least_is : (script : ScriptData) (me : ℕ) (n : NodeState) (o : Option ℕ) → IsLeast (length script.clients) (is_runnable_here script me n) o → o ≡ first_client script me n
least_is script me n None none = sym (none_below (length script.clients) (can_act script me n) (λ k below. acts script me n k below ∙ none k below))
least_is script me n (Some client) least =
    sym (least_found (length script.clients) client (can_act script me n) least.0
    (none_below client (can_act script me n) (λ k below. acts script me n k (omega (arith, below, least.0)) ∙ least.2 k below))
    (acts script me n client least.0 ∙ least.1))

-- that one can act
pub least_can : (script : ScriptData) (me : ℕ) (n : NodeState) (o : Option ℕ) → IsLeast (length script.clients) (is_runnable_here script me n) o
    → IfSome o (λ (client : ℕ). IsTrue (can_act script me n client))
least_can script me n None none = tt
least_can script me n (Some client) least = acts script me n client least.0 ∙ least.1

-- so can the first client that is found
pub first_can : (script : ScriptData) (me : ℕ) (n : NodeState) (client : ℕ) → first_client script me n ≡ Some client → IsTrue (can_act script me n client)
first_can script me n client e = least_passes (length script.clients) (can_act script me n) client e

-- what a client that can act may do
pub record IsRunnable (script : ScriptData) (me : ℕ) (n : NodeState) (client : ℕ) : Type 0 where
  pub known : client < length script.clients
  pub home : home script client ≡ me
  pub runs : IsTrue (is_free_at script n client && has_command script n client)
  pub left : IsTrue (has_command script n client)

pub is_runnable : (script : ScriptData) (me : ℕ) (n : NodeState) (client : ℕ) → IsTrue (can_act script me n client) → IsRunnable script me n client
is_runnable script me n client can =
    let runs = is_free_at script n client && has_command script n client in
    let parts = and_parts (nat_lt client (length script.clients)) (home script client == me && runs) can in
    let more = and_parts (home script client == me) runs parts.1 in
    record {
      known = ltb-true client (length script.clients) parts.0;
      home = eqb-true (home script client) me more.0;
      runs = more.1;
      left = (and_parts (is_free_at script n client) (has_command script n client) more.1).1;
    }

-- a letter that fits is of a set of the script
pub fitting_set : (numbers : Numbers) (me clock : ℕ) (s : SetState) (letter : Letter) → IsTrue (fits numbers me clock s letter) → letter.set < numbers.sets
fitting_set numbers me clock s letter fit =
    let head = and_parts (head_fits numbers clock letter) (body_fits numbers me s letter.stamp.clock letter.body) fit in
    ltb-true letter.set numbers.sets (and_parts (nat_lt letter.set numbers.sets) _ head.0).0

-- the client can act, there is time, and there is room for it
pub record ChoseAct (script : ScriptData) (me : ℕ) (n : NodeState) (client : ℕ) : Type 0 where
  pub can : IsTrue (can_act script me n client)
  pub time : IsTrue (has_time n)
  pub room : IsTrue (leaves_room_to_act script n client)

act_chosen : (script : ScriptData) (me : ℕ) (n : NodeState) (client : ℕ) → act_choice script me n ≡ Act client → ChoseAct script me n client
act_chosen script me n client e = by_client (first_client script me n) refl e
  where
    same : (a b : ℕ) → Act a ≡ Act b → a ≡ b
    same a b e = cc

    by_may : (k : ℕ) → first_client script me n ≡ Some k → (b : Bool) → may_act script n k ≡ b → (if b then Act k else Nothing) ≡ Act client → ChoseAct script me n client
    by_may k was false t e = absurd (cc)
    by_may k was true t e =
        let parts = and_parts (has_time n) (leaves_room_to_act script n k) t in
        subst (λ (i : ℕ). ChoseAct script me n i) (same k client e)
        (record { can = first_can script me n k was; time = parts.0; room = parts.1 })

    by_client : (o : Option ℕ) → first_client script me n ≡ o → act_if script n o ≡ Act client → ChoseAct script me n client
    by_client None was e = absurd (cc)
    by_client (Some k) was e = by_may k was (may_act script n k) refl e

pub act_takes_nothing : (script : ScriptData) (me : ℕ) (n : NodeState) → act_choice script me n ≢ Take
act_takes_nothing script me n e = by_client (first_client script me n) e
  where
    by_may : (k : ℕ) (b : Bool) → (if b then Act k else Nothing) ≢ Take
    by_may k true e = absurd (cc)
    by_may k false e = absurd (cc)

    by_client : (o : Option ℕ) → act_if script n o ≢ Take
    by_client None e = absurd (cc)
    by_client (Some k) e = by_may k (may_act script n k) e

-- where no move is shown no client can act
pub nothing_acts : (p : Parts) → next_choice p ≡ Nothing → act_choice p.node.script p.node.me (state_of p.node) ≡ Nothing
nothing_acts p e = by_hand p.hand e
  where
    by_may : (b : Bool) → (if b then Take else act_choice p.node.script p.node.me (state_of p.node)) ≡ Nothing
        → act_choice p.node.script p.node.me (state_of p.node) ≡ Nothing
    by_may true e = absurd (cc)
    by_may false e = e

    by_hand : (o : Option Hand) → choice_by p.node.script p.node.me (state_of p.node) o ≡ Nothing → act_choice p.node.script p.node.me (state_of p.node) ≡ Nothing
    by_hand None e = e
    by_hand (Some hand) e = by_may (may_take p.node.script p.node.me (state_of p.node) (letter_seen hand.letter)) e

pub chose_act : (p : Parts) (client : ℕ) → next_choice p ≡ Act client → ChoseAct p.node.script p.node.me (state_of p.node) client
chose_act p client e = by_hand p.hand e
  where
    by_hand : (o : Option Hand) → choice_by p.node.script p.node.me (state_of p.node) o ≡ Act client → ChoseAct p.node.script p.node.me (state_of p.node) client
    by_hand None e = act_chosen p.node.script p.node.me (state_of p.node) client e
    by_hand (Some hand) e = by_may (may_take p.node.script p.node.me (state_of p.node) (letter_seen hand.letter)) e
      where
        by_may : (b : Bool) → (if b then Take else act_choice p.node.script p.node.me (state_of p.node)) ≡ Act client
            → ChoseAct p.node.script p.node.me (state_of p.node) client
        by_may true e = absurd (cc)
        by_may false e = act_chosen p.node.script p.node.me (state_of p.node) client e

-- there is a letter in hand, and it is such a letter
pub record ChoseTake (p : Parts) : Type 0 where
  pub letter : Hand
  pub there : p.hand ≡ Some letter
  pub now : FitsNow p.node.script p.node.me (state_of p.node) letter

pub chose_take : (p : Parts) → next_choice p ≡ Take → ChoseTake p
chose_take p e = by_hand p.hand refl e
  where
    by_hand : (o : Option Hand) → p.hand ≡ o → choice_by p.node.script p.node.me (state_of p.node) o ≡ Take → ChoseTake p
    by_hand None was e = absurd (act_takes_nothing p.node.script p.node.me (state_of p.node) e)
    by_hand (Some hand) was e = by_may (may_take p.node.script p.node.me (state_of p.node) (letter_seen hand.letter)) refl e
      where
        by_may : (b : Bool) → may_take p.node.script p.node.me (state_of p.node) (letter_seen hand.letter) ≡ b
            → (if b then Take else act_choice p.node.script p.node.me (state_of p.node)) ≡ Take → ChoseTake p
        by_may false t e = absurd (act_takes_nothing p.node.script p.node.me (state_of p.node) e)
        by_may true t e =
            let n = state_of p.node in
            let letter = letter_seen hand.letter in
            let fit = fits (numbers_of p.node.script) p.node.me n.clock (n.set letter.set) letter in
            let parts = and_parts (has_time n) (fit && leaves_room_to_take n letter) t in
            let more = and_parts fit (leaves_room_to_take n letter) parts.1 in
            record { letter = hand; there = was; now = record { time = parts.0; fits = more.0; room = more.1 } }

-- as many words for the same
pub take_fits : (p : Parts) → next_choice p ≡ Take → IfSome p.hand (FitsNow p.node.script p.node.me (state_of p.node))
take_fits p e = let t = chose_take p e in rw t.there t.now

-- of the letter that is in hand
pub hand_fits : (p : Parts) (hand : Hand) → next_choice p ≡ Take → p.hand ≡ Some hand → FitsNow p.node.script p.node.me (state_of p.node) hand
hand_fits p hand e there =
    subst (λ (o : Option Hand). IfSome o (FitsNow p.node.script p.node.me (state_of p.node))) there (take_fits p e)
