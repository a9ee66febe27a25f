-- Plays that are merged by stamps are a run of the world.
use Rattle.std.proofs.Common.{◌≡◌, ℕ, zero, suc, ◌<◌, ◌≤◌, inl, inr, List, [], ◌∷◌, ◌++◌, Bool, true, false, refl, sym, ap, subst, arith, ◌∙◌, take as take_first, Contains, ◌==◌, if◌then◌else◌, IsTrue, filter, filter_map, drop, eq-eqb, ne_eqb, eqb-true, append-nil, append_assoc}
use Rattle.std.specs.List.{AllByRecursion}
use Rattle.std.proofs.Math.Path.{fun_ext}
use Rattle.std.proofs.lemmas.Bool.{cases_eq}
use Rattle.std.proofs.lemmas.List.{append_cancel_left}
use Rattle.std.proofs.lemmas.List.Elements.{Contains-append_cases, Contains-append_left, Contains-append_right}
use Rattle.lt_modes.specs.declared.stamp.Stamp.{Stamp}
use Rattle.lt_modes.specs.Script.{ScriptData}
use Rattle.lt_modes.specs.State.{Letter, Post}
use Rattle.lt_spec.specs.World.{Logged, World, start, token_to, take_front, after, after_run, world_after, IsRunFrom, is_of_node}
use Rattle.lt_lists.specs.Below.{put}
use Rattle.lt_spec.specs.NodeMove.{NodeState, NodeMade}
use Rattle.lt_modes.proofs.StampOrder.{newer_not_before}
use Rattle.lt_lists.proofs.Puts.{put-same, put-other}
use Rattle.lt_lists.proofs.AllLemmas.{all_weaker, all_append}
use Rattle.lt_lists.proofs.Members.{none_in}
use Rattle.lt_spec.specs.Plays.{Cause, OfClient, OfLetter, can_make_move, made_of, stamp_of, cause_step, logged_of, used_by, letters_for, BeginsPlay, Plays}
use Rattle.lt_merge.specs.Merging.{IsBefore, AreRising, IsMerged}
use Rattle.lt_law_plays.specs.Merged.{Logs, ArePlays, step_made, step_left, token_goes}
use Rattle.lt_law_plays.specs.MergeLaws.{MergedIsRun, MergedEnds, HandIsFront, SentWereOnWay, OnWayWereSent}
use Rattle.lt_law_plays.proofs.PlayLemmas.{plays_same, stamped_move, all_letters_for, from_other}
use Rattle.lt_merge.proofs.MergedLists.{filter_yes, filter_no, all_filter}
use Rattle.lt_law_plays.proofs.MergedLogs.{head_or}
use Rattle.lt_law_plays.proofs.RunParts.{IsFront, gone, added, IsStep, is_step}

-- the letters that are sent in a play have clocks of its entries
late_letters : (script : ScriptData) (c x : ℕ) (log : List Logged) (n last : NodeState) (used sent : ℕ → List Letter) → Plays script x n log used sent last
    → AllByRecursion (λ (entry : Logged). c ≤ entry.made.stamp.clock) log → (b : ℕ) → AllByRecursion (λ (letter : Letter). c ≤ letter.stamp.clock) (sent b)
late_letters script c x [] n last used sent h late b = subst (AllByRecursion (λ (letter : Letter). c ≤ letter.stamp.clock)) (sym (h.1 b)) tt
late_letters script c x (entry ∷ rest) n last used sent h late b =
    let P : Letter → Type 0 = λ letter. c ≤ letter.stamp.clock in
    let made = made_of script x n h.cause in
    let move = stamped_move script x n h.cause in
    subst (AllByRecursion P) (sym (h.sends b)) (all_append P (letters_for b made.posts) (h.later b)
    (all_letters_for P b made.posts (all_weaker _ _ (λ (post : Post) e.
    omega (arith, late.0, ap (λ (z : Logged). z.made.stamp.clock) h.logged, ap (λ (z : Stamp). z.clock) e)) made.posts move.stamps))
    (late_letters script c x rest made.node last h.left h.later h.goes_on late.1 b))

-- one list is split at a place: what is first of it, at one place q
pub put_split : (f : ℕ → ℕ → List Letter) (q : ℕ) (first left : ℕ → List Letter) → ((a : ℕ) → f q a ≡ first a ++ left a)
    → (b a : ℕ) → f b a ≡ (if b == q then first a else []) ++ put f q left b a
put_split f q first left split b a = by_test (b == q) (λ e. ap (λ y. f y a) (eqb-true b q e) ∙ split a)
  where
    by_test : (t : Bool) → (t ≡ true → f b a ≡ first a ++ left a) → f b a ≡ (if t then first a else []) ++ (if t then left else f b) a
    by_test true e = e refl
    by_test false e = refl

balance : (u v mid sent used rest : List Letter) → (u ++ mid) ++ (v ++ sent) ≡ (u ++ used) ++ rest → (mid ++ v) ++ sent ≡ used ++ rest
balance u v mid sent used rest h = append_cancel_left u ((mid ++ v) ++ sent) (used ++ rest)
    (ap (λ letters. u ++ letters) (append_assoc mid v sent) ∙ (sym (append_assoc u mid (v ++ sent)) ∙ (h ∙ append_assoc u used rest)))

-- what is left of the plays can be made in the world: what is on its way and what will be sent is what will be used and what will be left
record Stands (script : ScriptData) (w : World) (run : List Logged) (used sent rest : ℕ → ℕ → List Letter) (last : ℕ → NodeState) : Type 0 where
  plays : (x : ℕ) → Plays script x (w.node x) (filter (is_of_node x) run) (used x) (sent x) (last x)
  letters : (p q : ℕ) → w.mail p q ++ sent p q ≡ used q p ++ rest p q

-- the letter that is taken is in front
in_front : (p q : ℕ) (letter : Letter) (c : ℕ) (mail sent left rest : List Letter) → letter.stamp.clock < c → AllByRecursion (λ (l : Letter). c ≤ l.stamp.clock) sent
    → mail ++ sent ≡ (letter ∷ left) ++ rest → (others : List Letter) × (mail ≡ letter ∷ others)
in_front p q letter c [] sent left rest early late h =
    absurd (omega (arith, early, (subst (AllByRecursion (λ (l : Letter). c ≤ l.stamp.clock)) h late).0))
in_front p q letter c (first ∷ others) sent left rest early late h = (others, ap (λ l. l ∷ others) (ap (head_or letter) h))

-- the other nodes' plays stay, and the node's own goes on
plays_later : (script : ScriptData) (w later : World) (entry : Logged) (run : List Logged) (used sent rest : ℕ → ℕ → List Letter) (last : ℕ → NodeState)
    → Stands script w (entry ∷ run) used sent rest last → (own : BeginsPlay script entry.made.stamp.node (w.node entry.made.stamp.node) entry (used entry.made.stamp.node) (sent entry.made.stamp.node)
    (λ state left next. Plays script entry.made.stamp.node state (filter (is_of_node entry.made.stamp.node) run) left next (last entry.made.stamp.node)))
    → ((x : ℕ) → later.node x ≡ put w.node entry.made.stamp.node (made_of script entry.made.stamp.node (w.node entry.made.stamp.node) own.cause).node x)
    → (x : ℕ) → Plays script x (later.node x) (filter (is_of_node x) run) (put used entry.made.stamp.node own.left x) (put sent entry.made.stamp.node own.later x) (last x)
plays_later script w later entry run used sent rest last h own node x = elim (cases_eq x entry.made.stamp.node) [
  | inl e ↦ subst (λ (y : ℕ). Plays script y (later.node y) (filter (is_of_node y) run) (put used entry.made.stamp.node own.left y) (put sent entry.made.stamp.node own.later y) (last y)) (sym e) at_node
  | inr d ↦
      let same : later.node x ≡ w.node x = node x ∙ put-other w.node entry.made.stamp.node (made_of script entry.made.stamp.node (w.node entry.made.stamp.node) own.cause).node x d in
      let part : filter (is_of_node x) (entry ∷ run) ≡ filter (is_of_node x) run =
      filter_no (is_of_node x) entry run (ne_eqb entry.made.stamp.node x (λ e. d (sym e))) in
      plays_same script x (filter (is_of_node x) run) (later.node x) (last x) (used x) (sent x) _ _
      (λ a. ap (λ (f : ℕ → List Letter). f a) (put-other used entry.made.stamp.node own.left x d))
      (λ b. ap (λ (f : ℕ → List Letter). f b) (put-other sent entry.made.stamp.node own.later x d))
      (subst (λ (n : NodeState). Plays script x n (filter (is_of_node x) run) (used x) (sent x) (last x)) (sym same)
      (subst (λ (log : List Logged). Plays script x (w.node x) log (used x) (sent x) (last x)) part (h.plays x)))
]
  where
    at_node : Plays script entry.made.stamp.node (later.node entry.made.stamp.node) (filter (is_of_node entry.made.stamp.node) run)
        (put used entry.made.stamp.node own.left entry.made.stamp.node) (put sent entry.made.stamp.node own.later entry.made.stamp.node) (last entry.made.stamp.node)
    at_node =
        let q = entry.made.stamp.node in
        let made = (made_of script q (w.node q) own.cause).node in
        plays_same script q (filter (is_of_node q) run) (later.node q) (last q) own.left own.later _ _
        (λ a. ap (λ (f : ℕ → List Letter). f a) (put-same used q own.left))
        (λ b. ap (λ (f : ℕ → List Letter). f b) (put-same sent q own.later))
        (subst (λ (n : NodeState). Plays script q n (filter (is_of_node q) run) own.left own.later (last q)) (sym (node q ∙ put-same w.node q made)) own.goes_on)

-- what is on its way after the move, and what will be sent, is what will be used and what will be left
letters_later : (script : ScriptData) (w later : World) (q : ℕ) (cause : Cause) (left next : ℕ → List Letter) (used sent rest : ℕ → ℕ → List Letter)
    → ((p r : ℕ) → w.mail p r ++ sent p r ≡ used r p ++ rest p r)
    → ((a : ℕ) → used q a ≡ used_by cause a ++ left a) → ((b : ℕ) → sent q b ≡ letters_for b (made_of script q (w.node q) cause).posts ++ next b)
    → ((a b : ℕ) → (mid : List Letter) × (w.mail a b ≡ gone q cause a b ++ mid) × (later.mail a b ≡ mid ++ added q (made_of script q (w.node q) cause).posts a b))
    → (a b : ℕ) → later.mail a b ++ put sent q next a b ≡ put used q left b a ++ rest a b
letters_later script w later q cause left next used sent rest h uses sends mail a b =
    let posts = (made_of script q (w.node q) cause).posts in
    let parts = mail a b in
    let old : (gone q cause a b ++ parts.0) ++ (added q posts a b ++ put sent q next a b) ≡ (gone q cause a b ++ put used q left b a) ++ rest a b =
    ap (λ letters. letters ++ (added q posts a b ++ put sent q next a b)) (sym parts.1)
    ∙ (ap (λ letters. w.mail a b ++ letters) (sym (put_split sent q (λ r. letters_for r posts) next sends a b))
    ∙ (h a b ∙ ap (λ letters. letters ++ rest a b) (put_split used q (used_by cause) left uses b a))) in
    ap (λ letters. letters ++ put sent q next a b) parts.2
    ∙ balance (gone q cause a b) (added q posts a b) parts.0 (put sent q next a b) (put used q left b a) (rest a b) old

-- a letter that a play uses now is in front in the world
is_front : (script : ScriptData) (w : World) (q : ℕ) (cause : Cause) (left : ℕ → List Letter) (used sent rest : ℕ → ℕ → List Letter)
    → IsTrue (can_make_move script q (w.node q) cause) → ((a : ℕ) → used q a ≡ used_by cause a ++ left a)
    → ((p r : ℕ) → w.mail p r ++ sent p r ≡ used r p ++ rest p r)
    → ((p : ℕ) → (p ≡ q → ⊥) → AllByRecursion (λ (l : Letter). (stamp_of q (w.node q) cause).clock ≤ l.stamp.clock) (sent p q))
    → IsFront w q cause
is_front script w q (OfClient client) left used sent rest can uses h late = tt
is_front script w q (OfLetter p letter) left used sent rest can uses h late =
    let c = (stamp_of q (w.node q) (OfLetter p letter)).clock in
    let first : used q p ≡ letter ∷ left p = uses p ∙ ap (λ (t : Bool). (if t then letter ∷ [] else []) ++ left p) (eq-eqb p p refl) in
    in_front p q letter c (w.mail p q) (sent p q) (left p) (rest p q) (omega arith)
    (late p (from_other script p q (w.node q) letter can).differ) (h p q ∙ ap (λ letters. letters ++ rest p q) first)

-- the part of the first entry's node begins with it
pub begins : (script : ScriptData) (entry : Logged) (run : List Logged) (n last : NodeState) (used sent : ℕ → List Letter)
    → Plays script entry.made.stamp.node n (filter (is_of_node entry.made.stamp.node) (entry ∷ run)) used sent last
    → Plays script entry.made.stamp.node n (entry ∷ filter (is_of_node entry.made.stamp.node) run) used sent last
begins script entry run n last used sent h =
    subst (λ (log : List Logged). Plays script entry.made.stamp.node n log used sent last)
    (filter_yes (is_of_node entry.made.stamp.node) entry run (eq-eqb entry.made.stamp.node entry.made.stamp.node refl)) h

-- all that others will send is later than the first entry's clock
others_late : (script : ScriptData) (w : World) (entry : Logged) (run : List Logged) (used sent rest : ℕ → ℕ → List Letter) (last : ℕ → NodeState) (c : ℕ)
    → entry.made.stamp.clock ≡ c → AllByRecursion (IsBefore entry) run → Stands script w (entry ∷ run) used sent rest last
    → (p : ℕ) → (p ≡ entry.made.stamp.node → ⊥) → AllByRecursion (λ (l : Letter). c ≤ l.stamp.clock) (sent p entry.made.stamp.node)
others_late script w entry run used sent rest last c is_clock before h p d =
    let late : AllByRecursion (λ (e : Logged). c ≤ e.made.stamp.clock) run =
    all_weaker (IsBefore entry) (λ (e : Logged). c ≤ e.made.stamp.clock) (λ (e : Logged) b. omega (arith, newer_not_before e.made.stamp entry.made.stamp b, is_clock)) run before in
    late_letters script c p (filter (is_of_node p) (entry ∷ run)) (w.node p) (last p) (used p) (sent p) (h.plays p)
    (subst (AllByRecursion (λ (e : Logged). c ≤ e.made.stamp.clock)) (sym (filter_no (is_of_node p) entry run (ne_eqb entry.made.stamp.node p (λ e. d (sym e)))))
    (all_filter (λ (e : Logged). c ≤ e.made.stamp.clock) (is_of_node p) run late)) entry.made.stamp.node

-- the state of the node and what its play uses agree with the replay
same_made : (script : ScriptData) (x : ℕ) (n : NodeState) (cause : Cause) (used left : ℕ → List Letter) → ((a : ℕ) → used a ≡ used_by cause a ++ left a)
    → step_made script x n (cause_step cause) used ≡ made_of script x n cause
same_made script x n (OfClient client) used left uses = refl
same_made script x n (OfLetter p letter) used left uses =
    let first : used p ≡ letter ∷ left p = uses p ∙ ap (λ (t : Bool). (if t then letter ∷ [] else []) ++ left p) (eq-eqb p p refl) in
    subst (λ letters. take_front x n letters ≡ made_of script x n (OfLetter p letter)) (sym first) refl

same_left : (cause : Cause) (used left : ℕ → List Letter) → ((a : ℕ) → used a ≡ used_by cause a ++ left a) → step_left (cause_step cause) used ≡ left
same_left (OfClient client) used left uses = fun_ext (λ a. uses a)
same_left (OfLetter p letter) used left uses = fun_ext (λ a. at a)
  where
    first : used p ≡ letter ∷ left p
    first = uses p ∙ ap (λ (t : Bool). (if t then letter ∷ [] else []) ++ left p) (eq-eqb p p refl)

    at : (a : ℕ) → put used p (drop 1 (used p)) a ≡ left a
    at a = elim (cases_eq a p) [
      | inl e ↦ subst (λ (y : ℕ). put used p (drop 1 (used p)) y ≡ left y) (sym e) (put-same used p (drop 1 (used p)) ∙ ap (λ letters. drop 1 letters) first)
      | inr d ↦ put-other used p (drop 1 (used p)) a d ∙ (uses a ∙ ap (λ (t : Bool). (if t then letter ∷ [] else []) ++ left a) (ne_eqb a p d))
    ]

-- the entries are a run from this world, and so it ends
record Merges (script : ScriptData) (w : World) (run : List Logged) (used sent rest : ℕ → ℕ → List Letter) (last : ℕ → NodeState) : Type 0 where
  is_run : IsRunFrom script w run
  node : (x : ℕ) → (after_run script w run).node x ≡ last x
  mail : (p q : ℕ) → (after_run script w run).mail p q ≡ rest p q
  went : (s : ℕ) → (after_run script w run).went s ≡ w.went s ++ token_goes script s w.node used run
  on_way : (a b : ℕ) (letter : Letter) → Contains (sent a b) letter → (k : ℕ) × Contains ((after_run script w (take_first k run)).mail a b) letter
  was_sent : (k a b : ℕ) (letter : Letter) → Contains ((after_run script w (take_first k run)).mail a b) letter → Contains (w.mail a b ++ sent a b) letter

-- first this move, and then the others
first_made : (script : ScriptData) (w : World) (q : ℕ) (cause : Cause) (left next : ℕ → List Letter) (run : List Logged) (used sent rest : ℕ → ℕ → List Letter) (last : ℕ → NodeState)
    → ((a : ℕ) → used q a ≡ used_by cause a ++ left a)
    → ((b : ℕ) → sent q b ≡ letters_for b (made_of script q (w.node q) cause).posts ++ next b)
    → IsStep script w q cause (after script w q (cause_step cause)) → Merges script (after script w q (cause_step cause)) run (put used q left) (put sent q next) rest last
    → Merges script w (logged_of script q (w.node q) cause ∷ run) used sent rest last
first_made script w q cause left next run used sent rest last uses sends step more =
    let made = made_of script q (w.node q) cause in
    let made_same = same_made script q (w.node q) cause (used q) left uses in
    record {
      is_run = (record { enabled = step.enabled; made = step.logged }, more.is_run);
      node = more.node;
      mail = more.mail;
      went = λ s. more.went s ∙ goes s made_same;
      on_way = λ a b letter among. elim (Contains-append_cases (added q made.posts a b) (put sent q next a b) letter
          (subst (λ letters. Contains letters letter) (put_split sent q (λ r. letters_for r made.posts) next sends a b) among)) [
            | inl new ↦ (suc zero, subst (λ letters. Contains letters letter) (sym (step.mail a b).2) (Contains-append_right (step.mail a b).0 (added q made.posts a b) letter new))
            | inr old ↦ let found = more.on_way a b letter old in (suc found.0, found.1)
          ];
      was_sent = sent_first;
    }
  where
    later : World
    later = after script w q (cause_step cause)

    sent_first : (k a b : ℕ) (letter : Letter) → Contains ((after_run script w (take_first k (logged_of script q (w.node q) cause ∷ run))).mail a b) letter
        → Contains (w.mail a b ++ sent a b) letter
    sent_first zero a b letter among = Contains-append_left (w.mail a b) (sent a b) letter among
    sent_first (suc k) a b letter among =
        let posts = (made_of script q (w.node q) cause).posts in
        let parts = step.mail a b in
        let new = put_split sent q (λ r. letters_for r posts) next sends a b in
        elim (Contains-append_cases (later.mail a b) (put sent q next a b) letter (more.was_sent k a b letter among)) [
          | inl here ↦ elim (Contains-append_cases parts.0 (added q posts a b) letter (subst (λ letters. Contains letters letter) parts.2 here)) [
            | inl old ↦ Contains-append_left (w.mail a b) (sent a b) letter
                (subst (λ letters. Contains letters letter) (sym parts.1) (Contains-append_right (gone q cause a b) parts.0 letter old))
            | inr fresh ↦ Contains-append_right (w.mail a b) (sent a b) letter
                (subst (λ letters. Contains letters letter) (sym new) (Contains-append_left (added q posts a b) (put sent q next a b) letter fresh))
          ]
          | inr to_come ↦ Contains-append_right (w.mail a b) (sent a b) letter
              (subst (λ letters. Contains letters letter) (sym new) (Contains-append_right (added q posts a b) (put sent q next a b) letter to_come))
        ]

    goes : (s : ℕ) → step_made script q (w.node q) (cause_step cause) (used q) ≡ made_of script q (w.node q) cause
        → later.went s ++ token_goes script s later.node (put used q left) run
        ≡ w.went s ++ (filter_map (token_to s) (step_made script q (w.node q) (cause_step cause) (used q)).posts
        ++ token_goes script s (put w.node q (step_made script q (w.node q) (cause_step cause) (used q)).node) (put used q (step_left (cause_step cause) (used q))) run)
    goes s made_same =
        let made = made_of script q (w.node q) cause in
        ap (λ nodes. nodes ++ token_goes script s later.node (put used q left) run) (step.went s)
        ∙ (append_assoc (w.went s) (filter_map (token_to s) made.posts) (token_goes script s later.node (put used q left) run)
        ∙ (ap (λ (f : ℕ → NodeState). w.went s ++ (filter_map (token_to s) made.posts ++ token_goes script s f (put used q left) run)) (fun_ext step.node)
        ∙ (ap (λ (l : ℕ → List Letter). w.went s ++ (filter_map (token_to s) made.posts ++ token_goes script s (put w.node q made.node) (put used q l) run))
        (sym (same_left cause (used q) left uses))
        ∙ ap (λ (m : NodeMade). w.went s ++ (filter_map (token_to s) m.posts ++ token_goes script s (put w.node q m.node) (put used q (step_left (cause_step cause) (used q))) run))
        (sym made_same))))

run_of_plays : (script : ScriptData) (run : List Logged) (w : World) (used sent rest : ℕ → ℕ → List Letter) (last : ℕ → NodeState)
    → AreRising run → Stands script w run used sent rest last → Merges script w run used sent rest last
run_of_plays script [] w used sent rest last rising h = record {
  is_run = tt;
  node = λ x. (h.plays x).2;
  mail = λ p q. sym (append-nil (w.mail p q))
      ∙ (ap (λ letters. w.mail p q ++ letters) (sym ((h.plays p).1 q)) ∙ (h.letters p q ∙ ap (λ letters. letters ++ rest p q) ((h.plays q).0 p)));
  went = λ s. sym (append-nil (w.went s));
  on_way = λ a b letter among. none_in letter (subst (λ letters. Contains letters letter) ((h.plays a).1 b) among);
  was_sent = none_later;
}
  where
    none_later : (k a b : ℕ) (letter : Letter) → Contains ((after_run script w (take_first k [])).mail a b) letter → Contains (w.mail a b ++ sent a b) letter
    none_later zero a b letter among = Contains-append_left (w.mail a b) (sent a b) letter among
    none_later (suc k) a b letter among = Contains-append_left (w.mail a b) (sent a b) letter among
run_of_plays script (entry ∷ run) w used sent rest last rising h =
    let q = entry.made.stamp.node in
    let own = begins script entry run (w.node q) (last q) (used q) (sent q) (h.plays q) in
    let clock = ap (λ (e : Logged). e.made.stamp.clock) own.logged in
    let step = is_step script w q own.cause own.can (is_front script w q own.cause own.left used sent rest own.can own.uses h.letters
    (λ p d. others_late script w entry run used sent rest last (stamp_of q (w.node q) own.cause).clock clock rising.0 h p d)) in
    let later = after script w q (cause_step own.cause) in
    let made = made_of script q (w.node q) own.cause in
    let more = run_of_plays script run later (put used q own.left) (put sent q own.later) rest last rising.1 (record {
      plays = plays_later script w later entry run used sent rest last h own step.node;
      letters = letters_later script w later q own.cause own.left own.later used sent rest h.letters own.uses own.sends step.mail;
    }) in
    let here : Merges script w (logged_of script q (w.node q) own.cause ∷ run) used sent rest last = first_made script w q own.cause own.left own.later run used sent rest last own.uses own.sends step more in
    subst (λ (e : Logged). Merges script w (e ∷ run) used sent rest last) (sym own.logged) here

all_merges : (script : ScriptData) (l : Logs) (run : List Logged) → ArePlays script l → IsMerged l.log run → Merges script (start script) run l.used l.sent l.rest l.last
all_merges script l run h is_merged =
    run_of_plays script run (start script) l.used l.sent l.rest l.last is_merged.rising (record {
      plays = λ x. subst (λ (log : List Logged). Plays script x ((start script).node x) log (l.used x) (l.sent x) (l.last x)) (sym (is_merged.parts x)) (h.plays x);
      letters = h.letters;
    })

pub merged_is_run : MergedIsRun
merged_is_run script l run h is_merged = (all_merges script l run h is_merged).is_run

pub merged_ends : MergedEnds
merged_ends script l run h is_merged =
    let all = all_merges script l run h is_merged in
    let nodes : (world_after script run).node ≡ l.last = fun_ext (λ x. all.node x) in
    let mail : (world_after script run).mail ≡ l.rest = fun_ext (λ p. fun_ext (λ q. all.mail p q)) in
    let went : (world_after script run).went ≡ (λ s. 0 ∷ token_goes script s (start script).node l.used run) = fun_ext (λ s. all.went s) in
    λ i. record { node = nodes i; mail = mail i; went = went i }

pub hand_is_front : HandIsFront
hand_is_front script l run h is_merged p q letter others front = (all_merges script l run h is_merged).mail p q ∙ front

pub sent_were_on_way : SentWereOnWay
sent_were_on_way script l run h is_merged p q letter among = (all_merges script l run h is_merged).on_way p q letter among

pub on_way_were_sent : OnWayWereSent
on_way_were_sent script l run h is_merged k p q letter among = (all_merges script l run h is_merged).was_sent k p q letter among
