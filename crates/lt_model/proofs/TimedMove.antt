-- Each enabled move keeps that nothing is younger than its clock.
use Rattle.std.proofs.Common.{◌≡◌, ◌≢◌, ℕ, zero, suc, ◌+◌, ◌<◌, ◌≤◌, max, inl, inr, List, [], ◌∷◌, ◌++◌, Option, Some, None, Bool, true, false, refl, sym, ap, subst, arith, ◌∙◌, take as take_first, ◌==◌, if◌then◌else◌, IfSome, Contains, ◌⊎◌, drop as drop_front}
use Rattle.std.specs.List.{AllByRecursion}
use Rattle.std.proofs.lemmas.Bool.{cases_eq, cases_lt}
use Rattle.lt_modes.specs.declared.stamp.Stamp.{Stamp}
use Rattle.lt_modes.specs.declared.moves.Step.TheVariants.{Act, Take}
use Rattle.lt_modes.specs.Script.{ScriptData}
use Rattle.lt_modes.specs.State.{SetState, Desk, Letter, first_desk, Post}
use Rattle.lt_modes.specs.Taking.{take}
use Rattle.lt_lists.specs.Below.{put}
use Rattle.lt_spec.specs.World.{Logged, World, start, is_some_letter, opened, put_mail, take_front, after_made, after, after_run, IsRunFrom}
use Rattle.lt_spec.specs.NodeMove.{NodeState, NodeMade, next_command, act_stamp, take_stamp, at_clock, one_made, node_act, node_take}
use Rattle.lt_model.specs.Invariant.{BodyKept, LetterKept, StateTimed, Timed}
use Rattle.lt_model.specs.Laws.{TimedKept, TimedInRuns}
use Rattle.lt_model.proofs.Letters.{all_sent, before_take}
use Rattle.lt_model.proofs.SentInMove.{take-sent}
use Rattle.lt_lists.proofs.AllLemmas.{all_weaker, all_both, all_any}
use Rattle.lt_lists.proofs.Members.{none_in}
use Rattle.lt_lists.proofs.Puts.{put-same, put-other}
use Rattle.lt_model.proofs.PathsMove.{has_mail_parts}
use Rattle.lt_model.proofs.NodeEffects.{obey-stamped, obey-beside, touched-beside, IsOfSet, once_or_aside, obey_by_effects}
use Rattle.lt_model.proofs.TimedEffects.{IsUpTo, IsTold, AreTold, upto, timed_moves, timed_take}

-- a letter that node p sent by this clock
record IsLetterTimed (script : ScriptData) (clock p : ℕ) (letter : Letter) : Type 0 where
  made : letter.stamp.clock ≤ clock
  sender : letter.stamp.node ≡ p
  epoch : letter.link.epoch ≤ letter.stamp.clock
  body : BodyKept script letter.stamp.clock letter.body

-- what node q made of the set
record IsMadeTimed (script : ScriptData) (s q : ℕ) (made : NodeMade) : Type 0 where
  state : StateTimed made.node.clock (made.node.set s)
  posts : AllByRecursion (λ (post : Post). post.letter.set ≡ s → IsLetterTimed script made.node.clock q post.letter) made.posts

upto_of : (t : SetState) (clock : ℕ) → StateTimed clock t → IsUpTo clock clock t
upto_of t clock h = record { link = h.epoch; kept = h.number; desk = h.desk }

of_upto : (t : SetState) (clock : ℕ) → IsUpTo clock clock t → StateTimed clock t
of_upto t clock h = record { epoch = h.link; number = h.kept; desk = h.desk }

state_later : (t : SetState) (clock later : ℕ) → clock ≤ later → StateTimed clock t → StateTimed later t
state_later t clock later grows h = record { epoch = omega (arith, h.epoch); number = omega (arith, h.number); desk = by_desk t.desk h.desk }
  where
    by_desk : (desk : Option Desk) → IfSome desk (λ (d : Desk). (d.epoch ≤ clock) × (d.number ≤ clock)) → IfSome desk (λ (d : Desk). (d.epoch ≤ later) × (d.number ≤ later))
    by_desk None d = tt
    by_desk (Some desk) d = (omega (arith, d.0), omega (arith, d.1))

upto_of_set : (script : ScriptData) (s : ℕ) (stamp : Stamp) (epoch number : ℕ) → IsOfSet s (upto script s stamp epoch number)
upto_of_set script s stamp epoch number t posts more other h = (h.0, told_with posts h.1)
  where
    told_with : (early : List Post) → AreTold script s stamp early → AreTold script s stamp (early ++ more)
    told_with [] told = all_weaker _ _ (λ (post : Post) d. λ e. absurd (d e)) more other
    told_with (post ∷ rest) told = (told.0, told_with rest told.1)

-- letters with the move's stamp that were told in it
letters_timed : (script : ScriptData) (s q : ℕ) (stamp : Stamp) (made : NodeMade) → stamp.node ≡ q → made.node.clock ≡ stamp.clock
    → AllByRecursion (λ (post : Post). post.letter.stamp ≡ stamp) made.posts → AreTold script s stamp made.posts
    → AllByRecursion (λ (post : Post). post.letter.set ≡ s → IsLetterTimed script made.node.clock q post.letter) made.posts
letters_timed script s q stamp made me clock stamps told =
    all_weaker _ _ (λ (post : Post) h. λ e. timed post h.0 (h.1 e)) made.posts (all_both _ _ made.posts stamps told)
  where
    timed : (post : Post) → post.letter.stamp ≡ stamp → IsTold script stamp post → IsLetterTimed script made.node.clock q post.letter
    timed post is_stamp h = record {
      made = omega (arith, ap (λ (z : Stamp). z.clock) is_stamp, clock);
      sender = ap (λ (z : Stamp). z.node) is_stamp ∙ me;
      epoch = omega (arith, ap (λ (z : Stamp). z.clock) is_stamp, h.link);
      body = subst (λ (z : Stamp). BodyKept script z.clock post.letter.body) (sym is_stamp) h.body;
    }

beside_timed : (script : ScriptData) (s q clock : ℕ) (t : SetState) (made : NodeMade) → clock ≤ made.node.clock → StateTimed clock t
    → made.node.set s ≡ t → AllByRecursion (λ (post : Post). post.letter.set ≢ s) made.posts → IsMadeTimed script s q made
beside_timed script s q clock t made grows h same other = record {
  state = subst (StateTimed made.node.clock) (sym same) (state_later t clock made.node.clock grows h);
  posts = all_weaker _ _ (λ (post : Post) d. λ e. absurd (d e)) made.posts other;
}

act_timed : (script : ScriptData) (s q client : ℕ) (n : NodeState) → q < script.nodes → StateTimed n.clock (n.set s) → IsMadeTimed script s q (node_act script q client n)
act_timed script s q client n hq h =
    let stamp = act_stamp q n in
    let begins = one_made client (at_clock (n.clock + 1) n) in
    let stamped = obey-stamped script stamp client (next_command script n client) begins in
    elim (once_or_aside script s (next_command script n client)) [
      | inl once ↦
          let ended = obey_by_effects script s client stamp (upto script s stamp n.clock n.clock) (upto script s stamp stamp.clock stamp.clock)
          (upto_of_set script s stamp n.clock n.clock) (upto_of_set script s stamp stamp.clock stamp.clock)
          (timed_moves script s n.clock stamp refl hq) (next_command script n client) begins once (upto_of (n.set s) n.clock h, tt) in
          record {
            state = subst (λ (c : ℕ). StateTimed c ((node_act script q client n).node.set s)) (sym stamped.clock) (of_upto _ stamp.clock ended.0);
            posts = letters_timed script s q stamp (node_act script q client n) refl stamped.clock stamped.stamps ended.1;
          }
      | inr aside ↦
          let beside = obey-beside script s stamp client (next_command script n client) begins aside in
          beside_timed script s q n.clock (n.set s) (node_act script q client n) (omega (arith, stamped.clock)) h beside.state beside.posts
    ]

take_timed : (script : ScriptData) (s q : ℕ) (letter : Letter) (n : NodeState) → q < script.nodes → StateTimed n.clock (n.set s)
    → (letter.set ≡ s → (letter.link.epoch ≤ letter.stamp.clock) × BodyKept script letter.stamp.clock letter.body)
    → IsMadeTimed script s q (node_take q letter n)
take_timed script s q letter n hq h kept =
    let stamp = take_stamp q n letter in
    let below = max n.clock letter.stamp.clock in
    let m = take stamp letter (n.set letter.set) in
    let sent = take-sent stamp letter (n.set letter.set) in
    elim (cases_eq letter.set s) [
      | inl e ↦
          let on = kept e in
          let before : StateTimed n.clock (n.set letter.set) = subst (λ (k : ℕ). StateTimed n.clock (n.set k)) (sym e) h in
          let ended = timed_take script below stamp letter (n.set letter.set) refl hq (omega arith) on.0 on.1
          (upto_of (n.set letter.set) below (state_later (n.set letter.set) n.clock below (omega arith) before)) in
          let told = subst (λ (k : ℕ). AreTold script k stamp m.posts) e ended.1 in
          let same : (put_set n letter.set m.state).set s ≡ m.state = ap (put_set n letter.set m.state).set (sym e) ∙ put-same n.set letter.set m.state in
          record {
            state = subst (StateTimed stamp.clock) (sym same) (of_upto m.state stamp.clock ended.0);
            posts = letters_timed script s q stamp (node_take q letter n) refl refl (all_weaker _ _ (λ (post : Post) from. from.1) m.posts sent) told;
          }
      | inr d ↦
          let beside = touched-beside s letter.set stamp (at_clock stamp.clock n) m sent d in
          beside_timed script s q n.clock (n.set s) (node_take q letter n) (omega arith) h beside.state beside.posts
    ]
  where
    put_set : NodeState → ℕ → SetState → NodeState
    put_set node k t = record node { set = put node.set k t }

-- what was on its way, and what node q made of it
after_timed : (script : ScriptData) (w : World) (s q : ℕ) (mail : ℕ → ℕ → List Letter) (made : NodeMade)
    → ((a b : ℕ) (letter : Letter) → Contains (mail a b) letter → Contains (w.mail a b) letter) → (w.node q).clock ≤ made.node.clock
    → (q < script.nodes → IsMadeTimed script s q made) → Timed script w s → Timed script (after_made q made (record w { mail = mail })) s
after_timed script w s q mail made older grows made_timed h = record {
  states = λ x below. elim (cases_eq x q) [
    | inl e ↦
        let at_q = (made_timed (subst (λ (y : ℕ). y < script.nodes) e below)).state in
        subst (λ (y : ℕ). StateTimed (later.node y).clock ((later.node y).set s)) (sym e)
        (subst (λ (n : NodeState). StateTimed n.clock (n.set s)) (sym (put-same w.node q made.node)) at_q)
    | inr d ↦ subst (λ (n : NodeState). StateTimed n.clock (n.set s)) (sym (put-other w.node q made.node x d)) (h.states x below)
  ];
  letters = λ p r letter below on. of_timed p letter (
      all_sent (λ a b l. a < script.nodes → l.set ≡ s → IsLetterTimed script (later.node a).clock a l) q made.posts mail
      (λ a b l old under of_set. old_timed a l (h.letters a b l under (record { among = older a b l old; set = of_set })))
      (new_timed (cases_lt q script.nodes)) p r letter on.among below on.set);
}
  where
    later : World
    later = after_made q made (record w { mail = mail })

    here : (later.node q).clock ≡ made.node.clock
    here = ap (λ (n : NodeState). n.clock) (put-same w.node q made.node)

    clock_grows : (a : ℕ) → (w.node a).clock ≤ (later.node a).clock
    clock_grows a = elim (cases_eq a q) [
      | inl e ↦ omega (arith, ap (λ (y : ℕ). (later.node y).clock) e, here, grows, ap (λ (y : ℕ). (w.node y).clock) e)
      | inr d ↦ omega (arith, ap (λ (n : NodeState). n.clock) (put-other w.node q made.node a d))
    ]

    of_timed : (p : ℕ) (letter : Letter) → IsLetterTimed script (later.node p).clock p letter → LetterKept script later p letter
    of_timed p letter t = record { clock = t.made; sender = t.sender; epoch = t.epoch; body = t.body }

    old_timed : (a : ℕ) (letter : Letter) → LetterKept script w a letter → IsLetterTimed script (later.node a).clock a letter
    old_timed a letter t = record { made = omega (arith, t.clock, clock_grows a); sender = t.sender; epoch = t.epoch; body = t.body }

    new_timed : (q < script.nodes) ⊎ (script.nodes ≤ q)
        → AllByRecursion (λ (post : Post). q < script.nodes → post.letter.set ≡ s → IsLetterTimed script (later.node q).clock q post.letter) made.posts
    new_timed (inl below) = all_weaker _ _ (λ (post : Post) t. λ under e. subst (λ (c : ℕ). IsLetterTimed script c q post.letter) (sym here) (t e)) made.posts (made_timed below).posts
    new_timed (inr above) = all_any _ (λ (post : Post). λ under e. absurd (omega (arith, under, above))) made.posts

pub timed_kept : TimedKept
timed_kept script w s h q (Act client) enabled =
    let n = w.node q in
    let stamped = obey-stamped script (act_stamp q n) client (next_command script n client) (one_made client (at_clock (n.clock + 1) n)) in
    after_timed script w s q w.mail (node_act script q client n) (λ a b letter old. old) (omega (arith, stamped.clock))
    (λ hq. act_timed script s q client n hq (h.states q hq)) h
timed_kept script w s h q (Take p) enabled =
    let is_there = has_mail_parts script w p q enabled in
    by_letters (w.mail p q) is_there.letter
    (λ letter on e. h.letters p q letter is_there.sender (record { among = on; set = e }))
  where
    by_letters : (letters : List Letter) → is_some_letter letters ≡ true
        → ((letter : Letter) → Contains letters letter → letter.set ≡ s → LetterKept script w p letter)
        → Timed script (after_made q (take_front q (w.node q) letters) (opened w q (Take p))) s
    by_letters [] e each = cc
    by_letters (letter ∷ rest) e each =
        after_timed script w s q (put_mail w.mail p q (drop_front 1 (w.mail p q))) (node_take q letter (w.node q))
        (λ a b l old. before_take w.mail p q a b l old) (omega arith)
        (λ hq. take_timed script s q letter (w.node q) hq (h.states q hq) (λ of_set.
        let kept = each letter (0, omega arith, refl) of_set in (kept.epoch, kept.body))) h

timed_start : (script : ScriptData) (s : ℕ) → Timed script (start script) s
timed_start script s = record {
  states = λ x below. record { epoch = omega arith; number = omega arith; desk = by_test (x == 0) };
  letters = λ p q letter below on. none_in letter on.among;
}
  where
    by_test : (here : Bool) → IfSome (if here then Some (first_desk script.nodes) else None) (λ (desk : Desk). (desk.epoch ≤ 0) × (desk.number ≤ 0))
    by_test true = (omega arith, omega arith)
    by_test false = tt

run_timed : (script : ScriptData) (s : ℕ) (run : List Logged) (w : World) → Timed script w s → IsRunFrom script w run
    → (k : ℕ) → Timed script (after_run script w (take_first k run)) s
run_timed script s run w h is_run zero = h
run_timed script s [] w h is_run (suc k) = h
run_timed script s (entry ∷ rest) w h is_run (suc k) =
    let q = entry.made.stamp.node in
    run_timed script s rest (after script w q entry.made.step) (timed_kept script w s h q entry.made.step is_run.0.enabled) is_run.1 k

pub timed_in_runs : TimedInRuns
timed_in_runs script run is_run k s = run_timed script s run (start script) (timed_start script s) is_run k
