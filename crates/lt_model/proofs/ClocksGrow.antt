-- Clocks grow with moves, and letters have the clocks of the moves that sent them.
use Rattle.std.proofs.Common.{◌≡◌, ℕ, zero, suc, ◌+◌, ◌<◌, ◌≤◌, inl, inr, List, [], ◌∷◌, true, refl, ap, arith, ◌∙◌, take as take_first, Option, Some, None, false, sym, subst, Contains, ◌==◌}
use Rattle.std.specs.List.{AllByRecursion}
use Rattle.std.proofs.lemmas.Bool.{cases_eq}
use Rattle.lt_modes.specs.declared.stamp.Stamp.{Stamp}
use Rattle.lt_modes.specs.declared.moves.Step.{Step}
use Rattle.lt_modes.specs.declared.moves.Step.TheVariants.{Act, Take}
use Rattle.lt_modes.specs.Script.{ScriptData}
use Rattle.lt_modes.specs.State.{Letter, Post, SetState, Desk, ParkedTell}
use Rattle.lt_modes.specs.Taking.{take}
use Rattle.lt_modes.specs.Telling.{tell_of}
use Rattle.lt_modes.specs.Modes.{held_modes}
use Rattle.lt_modes.specs.Serving.{ask_at, next_service}
use Rattle.lt_modes.specs.HandingOver.{next_draw, hand_over_to}
use Rattle.lt_lists.proofs.AllLemmas.{all_weaker}
use Rattle.lt_lists.proofs.Members.{none_in}
use Rattle.lt_lists.proofs.Puts.{put-same, put-other}
use Rattle.lt_lists.specs.Below.{put}
use Rattle.lt_spec.specs.World.{Logged, World, start, is_some_letter, opened, front_stamp, take_front, node_move, after_made, after, after_run, IsRunFrom}
use Rattle.lt_spec.specs.NodeMove.{NodeState, NodeMade, next_command, act_stamp, take_stamp, at_clock, one_made, node_act, node_take}
use Rattle.lt_spec.specs.Promised.{AreStamped}
use Rattle.lt_spec.specs.Facts.{state_at}
use Rattle.lt_model.specs.Laws.{ClockMoves, OtherClocksStay, StampsKept, ClocksInRuns, ServedKept, ServedInRuns}
use Rattle.lt_model.proofs.Letters.{all_sent, before_take}
use Rattle.lt_model.proofs.SentInMove.{take-sent}
use Rattle.lt_model.proofs.PathsMove.{has_mail_parts}
use Rattle.lt_model.proofs.NodeEffects.{obey-stamped, obey-beside, touched-beside, once_or_aside, obey_by_effects}
use Rattle.lt_model.specs.Invariant.{IsServed}
use Rattle.lt_model.proofs.PathsGoing.{route-idle}
use Rattle.lt_model.proofs.StartKept.{served_if}
use Rattle.lt_model.proofs.Effects.{Fact, EndEffects, ActEffects, acts_by_effects, take_by_effects}
use Rattle.lt_model.proofs.PathsQuiet.{next_service-freeze}

-- the node's clock doesn't fall, and its letters have its stamps up to its new clock
record IsTimed (q : ℕ) (n : NodeState) (made : NodeMade) : Type 0 where
  grows : n.clock ≤ made.node.clock
  stamps : AllByRecursion (λ (post : Post). (post.letter.stamp.node ≡ q) × (post.letter.stamp.clock ≤ made.node.clock)) made.posts

by_stamp : (q : ℕ) (stamp : Stamp) (n : NodeState) (made : NodeMade) → stamp.node ≡ q → n.clock ≤ stamp.clock → made.node.clock ≡ stamp.clock
    → AllByRecursion (λ (post : Post). post.letter.stamp ≡ stamp) made.posts → IsTimed q n made
by_stamp q stamp n made me later clock stamps = record {
  grows = omega (arith, later, clock);
  stamps = all_weaker _ _
      (λ (post : Post) e. (ap (λ (z : Stamp). z.node) e ∙ me, omega (arith, ap (λ (z : Stamp). z.clock) e, clock))) made.posts stamps;
}

act-timed : (script : ScriptData) (q client : ℕ) (n : NodeState) → IsTimed q n (node_act script q client n)
act-timed script q client n =
    let h = obey-stamped script (act_stamp q n) client (next_command script n client) (one_made client (at_clock (n.clock + 1) n)) in
    by_stamp q (act_stamp q n) n (node_act script q client n) refl (omega arith) h.clock h.stamps

take-timed : (q : ℕ) (letter : Letter) (n : NodeState) → IsTimed q n (node_take q letter n)
take-timed q letter n =
    let stamp = take_stamp q n letter in
    by_stamp q stamp n (node_take q letter n) refl (omega arith) refl
    (all_weaker _ _ (λ post from. from.1) (take stamp letter (n.set letter.set)).posts (take-sent stamp letter (n.set letter.set)))

step-timed : (script : ScriptData) (w : World) (q : ℕ) (step : Step) → IsTimed q (w.node q) (node_move script w q step)
step-timed script w q (Act client) = act-timed script q client (w.node q)
step-timed script w q (Take p) = by_letters (w.mail p q)
  where
    by_letters : (letters : List Letter) → IsTimed q (w.node q) (take_front q (w.node q) letters)
    by_letters [] = record { grows = omega arith; stamps = tt }
    by_letters (letter ∷ rest) = take-timed q letter (w.node q)

pub clock_moves : ClockMoves
clock_moves script w q (Act client) enabled =
    let n = w.node q in
    let h = obey-stamped script (act_stamp q n) client (next_command script n client) (one_made client (at_clock (n.clock + 1) n)) in
    (ap (λ (m : NodeState). m.clock) (put-same w.node q (node_act script q client n).node) ∙ h.clock, omega arith)
clock_moves script w q (Take p) enabled = by_letters (w.mail p q) (has_mail_parts script w p q enabled).letter
  where
    by_letters : (letters : List Letter) → is_some_letter letters ≡ true
        → (((after_made q (take_front q (w.node q) letters) (opened w q (Take p))).node q).clock ≡ (front_stamp q (w.node q) letters).clock)
        × ((w.node q).clock < (front_stamp q (w.node q) letters).clock)
    by_letters [] e = cc
    by_letters (letter ∷ rest) e = (ap (λ (m : NodeState). m.clock) (put-same w.node q (node_take q letter (w.node q)).node), omega arith)

pub opened-node : (w : World) (q : ℕ) (step : Step) (x : ℕ) → (opened w q step).node x ≡ w.node x
opened-node w q (Act client) x = refl
opened-node w q (Take p) x = refl

pub other_clocks_stay : OtherClocksStay
other_clocks_stay script w q step x d =
    ap (λ (m : NodeState). m.clock) (put-other (opened w q step).node q (node_move script w q step).node x d ∙ opened-node w q step x)

-- no clock falls
pub clocks_grow : (script : ScriptData) (w : World) (q : ℕ) (step : Step) (x : ℕ) → (w.node x).clock ≤ ((after script w q step).node x).clock
clocks_grow script w q step x = elim (cases_eq x q) [
  | inl e ↦
      let made = node_move script w q step in
      let here = ap (λ (m : NodeState). m.clock) (ap (after script w q step).node e ∙ put-same (opened w q step).node q made.node) in
      omega (arith, here, (step-timed script w q step).grows, ap (λ (y : ℕ). (w.node y).clock) e)
  | inr d ↦ omega (arith, other_clocks_stay script w q step x d)
]

opened-mail : (w : World) (q : ℕ) (step : Step) (a b : ℕ) (letter : Letter) → Contains ((opened w q step).mail a b) letter → Contains (w.mail a b) letter
opened-mail w q (Act client) a b letter h = h
opened-mail w q (Take p) a b letter h = before_take w.mail p q a b letter h

pub stamps_kept : StampsKept
stamps_kept script w q step stamped =
    let made = node_move script w q step in
    let later = after script w q step in
    let here : (later.node q).clock ≡ made.node.clock = ap (λ (m : NodeState). m.clock) (put-same (opened w q step).node q made.node) in
    all_sent (λ a b l. (l.stamp.node ≡ a) × (l.stamp.clock ≤ (later.node a).clock)) q made.posts (opened w q step).mail
    (λ a b l old.
    let before = stamped a b l (opened-mail w q step a b l old) in
    (before.0, omega (arith, before.1, clocks_grow script w q step a)))
    (all_weaker _ _ (λ (post : Post) h. (h.0, omega (arith, h.1, here))) made.posts (step-timed script w q step).stamps)

-- a move of a world with clocks up to c has a clock up to c + 1
move_bound : (script : ScriptData) (w : World) (q c : ℕ) (step : Step) → AreStamped w → ((x : ℕ) → (w.node x).clock ≤ c) → (node_move script w q step).node.clock ≤ c + 1
move_bound script w q c (Act client) stamped bound =
    let n = w.node q in
    let h = obey-stamped script (act_stamp q n) client (next_command script n client) (one_made client (at_clock (n.clock + 1) n)) in
    omega (arith, h.clock, bound q)
move_bound script w q c (Take p) stamped bound = by_letters (w.mail p q) (λ letter h. stamped p q letter h)
  where
    by_letters : (letters : List Letter) → ((letter : Letter) → Contains letters letter → (letter.stamp.node ≡ p) × (letter.stamp.clock ≤ (w.node p).clock))
        → (take_front q (w.node q) letters).node.clock ≤ c + 1
    by_letters [] each = omega (arith, bound q)
    by_letters (letter ∷ rest) each =
        let sent = each letter (0, omega arith, refl) in
        omega (arith, sent.1, bound p, bound q)

run_bound : (script : ScriptData) (run : List Logged) (w : World) (c : ℕ) → AreStamped w → ((x : ℕ) → (w.node x).clock ≤ c) → (k : ℕ)
    → AreStamped (after_run script w (take_first k run)) × ((x : ℕ) → ((after_run script w (take_first k run)).node x).clock ≤ c + k)
run_bound script run w c stamped bound zero = (stamped, λ x. omega (arith, bound x))
run_bound script [] w c stamped bound (suc k) = (stamped, λ x. omega (arith, bound x))
run_bound script (entry ∷ rest) w c stamped bound (suc k) =
    let q = entry.made.stamp.node in
    let step = entry.made.step in
    let later = after script w q step in
    let above : (x : ℕ) → (later.node x).clock ≤ c + 1 = λ x. elim (cases_eq x q) [
      | inl e ↦
          let made = node_move script w q step in
          let here = ap (λ (m : NodeState). m.clock) (ap later.node e ∙ put-same (opened w q step).node q made.node) in
          omega (arith, here, move_bound script w q c step stamped bound)
      | inr d ↦ omega (arith, other_clocks_stay script w q step x d, bound x)
    ] in
    let ends = run_bound script rest later (c + 1) (stamps_kept script w q step stamped) above k in
    (ends.0, λ x. omega (arith, ends.1 x))

pub clocks_in_runs : ClocksInRuns
clocks_in_runs script run is_run k =
    let h = run_bound script run (start script) 0 (λ p q letter none. none_in letter none) (λ x. omega arith) k in
    (h.0, λ x. omega (arith, h.1 x))

-- Each enabled move ends with no service left at the desk.

-- nothing is known yet
abbrev any : Fact
any t posts = Unit {0}

-- no service is left
abbrev none_next : ℕ → Fact
none_next me t posts = next_service me t ≡ None

-- where the desk is here, neither a service nor a move of the desk is left
abbrev served_at : ℕ → Fact
served_at me t posts = (desk : Desk) → t.desk ≡ Some desk → (next_service me t ≡ None) × (next_draw me t ≡ None)

away_served : (me : ℕ) (t : SetState) → t.desk ≡ None → (desk : Desk) → t.desk ≡ Some desk → (next_service me t ≡ None) × (next_draw me t ≡ None)
away_served me t away desk here = let none : Some desk ≡ None = sym here ∙ away in cc

served_ends : (set : ℕ) (stamp : Stamp) → EndEffects set stamp any (none_next stamp.node) (served_at stamp.node)
served_ends set stamp = record {
  serves = λ t posts k e h. tt;
  freezes = λ t posts desk here none h. next_service-freeze set stamp t ∙ none;
  leaves = λ t posts k e h. by_desk t (ask_at t k).node t.desk refl;
  stays = λ t posts e h. λ desk here. (h, e);
  tells = λ t posts away differs h.
      away_served stamp.node _ (route-idle set stamp false (ParkedTell (tell_of stamp t)) (record t { charge = held_modes t.held }) away).away;
  tells_not = λ t posts away same h. away_served stamp.node t away;
}
  where
    by_desk : (t : SetState) (v : ℕ) (desk : Option Desk) → t.desk ≡ desk → (d : Desk) → (hand_over_to set stamp t v desk).state.desk ≡ Some d
        → (next_service stamp.node (hand_over_to set stamp t v desk).state ≡ None) × (next_draw stamp.node (hand_over_to set stamp t v desk).state ≡ None)
    by_desk t v None e d here = away_served stamp.node t e d here
    by_desk t v (Some desk) e d here = cc

served_acts : (set : ℕ) (stamp : Stamp) → ActEffects set stamp any any
served_acts set stamp = record {
  nothing = λ t posts h. tt;
  grants = λ client mode t posts e h. tt;
  changes = λ client gives_up mode t posts holds e h. tt;
  releases = λ client mode t posts e h. tt;
  drops = λ client t posts h. tt;
  withdraws = λ other t posts waiting h. tt;
  retakes = λ ask t posts gone same h. tt;
  asks = λ client mode t posts e free h. tt;
  change_asks = λ client gives_up mode t posts holds e free h. tt;
}

act_served : (script : ScriptData) (s q client : ℕ) (n : NodeState) → served_at q (n.set s) [] → served_at q ((node_act script q client n).node.set s) []
act_served script s q client n h =
    let stamp = act_stamp q n in
    let command = next_command script n client in
    let begins = one_made client (at_clock (n.clock + 1) n) in
    elim (once_or_aside script s command) [
      | inl once ↦ obey_by_effects script s client stamp any (served_at q) (λ t posts more other known. tt) (λ t posts more other known. known)
          (acts_by_effects s stamp any any (none_next q) (served_at q) (served_acts s stamp) (served_ends s stamp)) command begins once tt
      | inr aside ↦ subst (λ (t : SetState). served_at q t []) (sym (obey-beside script s stamp client command begins aside).state) h
    ]

take_served : (s q : ℕ) (letter : Letter) (n : NodeState) → served_at q (n.set s) [] → served_at q ((node_take q letter n).node.set s) []
take_served s q letter n h =
    let stamp = take_stamp q n letter in
    let m = take stamp letter (n.set letter.set) in
    elim (cases_eq letter.set s) [
      | inl e ↦
          let ended : served_at q m.state [] = take_by_effects stamp letter any (none_next q) (served_at q) (served_ends letter.set stamp) (n.set letter.set) [] tt in
          subst (λ (t : SetState). served_at q t []) (sym (ap (put n.set letter.set m.state) (sym e) ∙ put-same n.set letter.set m.state)) ended
      | inr d ↦ subst (λ (t : SetState). served_at q t [])
          (sym (touched-beside s letter.set stamp (at_clock stamp.clock n) m (take-sent stamp letter (n.set letter.set)) d).state) h
    ]

step_served : (script : ScriptData) (w : World) (s q : ℕ) (step : Step) → served_at q (state_at w s q) [] → served_at q ((node_move script w q step).node.set s) []
step_served script w s q (Act client) h = act_served script s q client (w.node q) h
step_served script w s q (Take p) h = by_letters (w.mail p q)
  where
    by_letters : (letters : List Letter) → served_at q ((take_front q (w.node q) letters).node.set s) []
    by_letters [] = h
    by_letters (letter ∷ rest) = take_served s q letter (w.node q) h

pub served_kept : ServedKept
served_kept script w s h q step enabled t desk is_desk = elim (cases_eq t q) [
  | inl e ↦
      let made = node_move script w q step in
      let at_q : (after script w q step).node t ≡ made.node = ap (after script w q step).node e ∙ put-same (opened w q step).node q made.node in
      let below = subst (λ (x : ℕ). x < script.nodes) e is_desk.0 in
      let ended = step_served script w s q step (λ d here. h q d (below, here)) in
      subst (λ (x : ℕ). (next_service x (state_at (after script w q step) s t) ≡ None) × (next_draw x (state_at (after script w q step) s t) ≡ None)) (sym e)
      (subst (λ (n : NodeState). (next_service q (n.set s) ≡ None) × (next_draw q (n.set s) ≡ None)) (sym at_q)
      (ended desk (ap (λ (n : NodeState). (n.set s).desk) (sym at_q) ∙ is_desk.1)))
  | inr d ↦
      let same : (after script w q step).node t ≡ w.node t =
      put-other (opened w q step).node q (node_move script w q step).node t d ∙ opened-node w q step t in
      subst (λ (n : NodeState). (next_service t (n.set s) ≡ None) × (next_draw t (n.set s) ≡ None)) (sym same)
      (h t desk (is_desk.0, ap (λ (n : NodeState). (n.set s).desk) (sym same) ∙ is_desk.1))
]

run_served : (script : ScriptData) (s : ℕ) (run : List Logged) (w : World) → IsServed script w s → IsRunFrom script w run
    → (k : ℕ) → IsServed script (after_run script w (take_first k run)) s
run_served script s run w h is_run zero = h
run_served script s [] w h is_run (suc k) = h
run_served script s (entry ∷ rest) w h is_run (suc k) =
    let q = entry.made.stamp.node in
    run_served script s rest (after script w q entry.made.step) (served_kept script w s h q entry.made.step is_run.0.enabled) is_run.1 k

pub served_in_runs : ServedInRuns
served_in_runs script run is_run k s = run_served script s run (start script) (λ t desk is_desk. served_if script.nodes t (t == 0)) is_run k
