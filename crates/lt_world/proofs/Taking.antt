-- The world and the run after a whole move.
use Rattle.std.proofs.Common.{◌≡◌, ℕ, ◌<◌, List, [], ◌∷◌, ◌++◌, sym, ap, subst, ◌∙◌, arith, ◌+◌, ◌-◌, ◌^◌, length, drop, refl, inl, inr, ◌≤◌, Option, All, slice_set, IsTrue, slice_index_or, eq-eqb, ne_eqb}
use Rattle.std.proofs.lemmas.Bool.{cases_eq}
use Rattle.std.proofs.lemmas.List.{get_or_append_left, get_or_push}
use Rattle.lt_modes.specs.declared.stamp.Stamp.{Stamp}
use Rattle.lt_modes.specs.declared.event.Event.{Event}
use Rattle.lt_modes.specs.declared.moves.Step.{Step}
use Rattle.lt_modes.specs.Script.{ScriptData}
use Rattle.lt_modes.specs.State.{Post, Letter}
use Rattle.lt_modes.specs.declared.moves.Step.TheVariants.{Take}
use Rattle.lt_spec.specs.World.{Logged, World, world_after, node_move, opened, move_stamp, after_made, IsRun, is_enabled, take_front, front_stamp, put_mail, logged, moves_of, start}
use Rattle.lt_spec.specs.NodeMove.{NodeMade, NodeState, node_take, take_stamp}
use Rattle.lt_law_enabled.specs.OrderLaws.{HasLetter}
use Rattle.lt_law_enabled.proofs.Order.{takes_where}
use Rattle.lt_desk.specs.DeskData.{OutData}
use Rattle.lt_node.specs.NodeData.{NodeData, with_sent, NodeDoes, state_of}
use Rattle.lt_inbox.specs.Mail.{MailData, SameLetters, AreDelivered, IsTaken, mail_in, sent_of}
use Rattle.lt_inbox.proofs.Marks.{one_own, one_other}
use Rattle.lt_world.specs.Fields.{IsWorld, IsOpened, Holds, OnlyMemory, run_with, IsNodeOf, node_at, CanTake, AreCounted, AreAtMost, AreTurns, Stands, node_of_none}
use Rattle.lt_world.proofs.Premises.{Did, world_same, world_moved, did, world_put, can_take}
use Rattle.lt_world.proofs.TurnMoves.{moves_inside, counted_moved, at_most_moved}
use Rattle.lt_world.proofs.Runs.{stamp_node, longer_is_run, longer_world, posts_inside}

-- what was sent out from an empty out
pub posts_sent : (made : NodeMade) (had out : OutData) → had.posts ≡ [] → out ≡ with_sent made had → out.posts ≡ made.posts
posts_sent made had out none e = ap (λ (o : OutData). o.posts) e ∙ ap (λ (ps : List Post). ps ++ made.posts) none

events_sent : (made : NodeMade) (had out : OutData) → had.events ≡ [] → out ≡ with_sent made had → out.events ≡ made.events
events_sent made had out none e = ap (λ (o : OutData). o.events) e ∙ ap (λ (es : List Event). es ++ made.events) none

-- memory may change, and nothing else
pub opened_same : (script : ScriptData) (q : ℕ) (step : Step) (nodes nodes' : List NodeData) (boxes boxes' : MailData) (had had' : OutData) (run run' : List Logged)
    → IsOpened script q step nodes boxes had run → OnlyMemory q nodes nodes' → SameLetters boxes boxes'
    → (had'.posts ≡ had.posts) × (had'.events ≡ had.events) → run' ≡ run → IsOpened script q step nodes' boxes' had' run'
opened_same script q step nodes nodes' boxes boxes' had had' run run' h memory letters sent same =
    subst (IsOpened script q step nodes' boxes' had') (sym same) (record {
      is_script = h.is_script;
      is_run = h.is_run;
      enabled = h.enabled;
      few = h.few;
      world = world_same script (opened (world_after script run) q step) q nodes nodes' boxes boxes' h.world
          (moves_inside script (world_after script run) q step h.is_script h.enabled) memory letters;
      no_posts = sent.0 ∙ h.no_posts;
      no_events = sent.1 ∙ h.no_events;
    })

-- the letters of the move go to nodes of the script
pub targets : (script : ScriptData) (q : ℕ) (step : Step) (nodes : List NodeData) (boxes : MailData) (had out : OutData) (run : List Logged) (n : NodeData)
    → IsOpened script q step nodes boxes had run → Did script q (node_move script (world_after script run) q step) had n out
    → All (λ (post : Post). post.to < boxes.nodes) out.posts
targets script q step nodes boxes had out run n h done =
    subst (λ (k : ℕ). All (λ (post : Post). post.to < k) out.posts) (sym h.world.receivers)
    (subst (λ (ps : List Post). All (λ (post : Post). post.to < script.nodes) ps)
    (sym (posts_sent (node_move script (world_after script run) q step) had out h.no_posts done.sent))
    (posts_inside script run q step h.is_script.some_node h.is_run (moves_inside script (world_after script run) q step h.is_script h.enabled) h.enabled))

-- and one of them made it
pub sender : (script : ScriptData) (q : ℕ) (step : Step) (nodes : List NodeData) (boxes : MailData) (had : OutData) (run : List Logged) (stamp : Stamp)
    → IsOpened script q step nodes boxes had run → stamp ≡ move_stamp (world_after script run) q step
    → stamp.node < boxes.nodes
sender script q step nodes boxes had run stamp h at =
    let mover : stamp.node ≡ q = ap (λ (s : Stamp). s.node) at ∙ stamp_node (world_after script run) q step in
    omega (arith, mover, moves_inside script (world_after script run) q step h.is_script h.enabled, h.world.receivers)

-- the entry of the move
pub run_moved : (script : ScriptData) (q : ℕ) (step : Step) (nodes : List NodeData) (boxes : MailData) (had out : OutData) (run run' : List Logged) (n : NodeData) (stamp : Stamp)
    → IsOpened script q step nodes boxes had run → Did script q (node_move script (world_after script run) q step) had n out
    → stamp ≡ move_stamp (world_after script run) q step
    → run' ≡ run ++ record { made = record { stamp = stamp; step = step }; events = out.events } ∷ []
    → run' ≡ run_with script run q step
run_moved script q step nodes boxes had out run run' n stamp h done at entries =
    let w = world_after script run in
    entries
    ∙ (ap (λ (s : Stamp). run ++ record { made = record { stamp = s; step = step }; events = out.events } ∷ []) at
    ∙ ap (λ (es : List Event). run ++ record { made = record { stamp = move_stamp w q step; step = step }; events = es } ∷ [])
    (events_sent (node_move script w q step) had out h.no_events done.sent))

-- what a node did, and the letters that were delivered, are the move
pub holds_moved : (script : ScriptData) (q : ℕ) (step : Step) (nodes nodes' : List NodeData) (boxes boxes' : MailData)
    (had out out' : OutData) (run run' : List Logged) (n : NodeData) (stamp : Stamp)
    → IsOpened script q step nodes boxes had run → Did script q (node_move script (world_after script run) q step) had n out
    → stamp ≡ move_stamp (world_after script run) q step → nodes' ≡ slice_set nodes q n
    → AreDelivered stamp.node out.posts boxes boxes' → run' ≡ run_with script run q step
    → (out'.posts ≡ []) × (out'.events ≡ []) → Holds script nodes' boxes' out' run'
holds_moved script q step nodes nodes' boxes boxes' had out out' run run' n stamp h done at others sent is_longer none = record {
  is_script = h.is_script;
  world = subst (λ (r : List Logged). IsWorld script nodes' boxes' (world_after script r)) (sym is_longer)
      (subst (IsWorld script nodes' boxes') (sym (longer_world script run q step))
      (subst (λ (ns : List NodeData). IsWorld script ns boxes' (after_made q made (opened w q step))) (sym others)
      (world_moved script (opened w q step) q made n nodes boxes boxes' h.world (moves_inside script w q step h.is_script h.enabled) done.node
      (subst (λ (ps : List Post). AreDelivered q ps boxes boxes') (posts_sent made had out h.no_posts done.sent)
      (subst (λ (x : ℕ). AreDelivered x out.posts boxes boxes') mover sent)))));
  no_posts = none.0;
  no_events = none.1;
  is_run = subst (IsRun script) (sym is_longer) (longer_is_run script run q step h.is_run h.enabled);
}
  where
    w : World
    w = world_after script run

    made : NodeMade
    made = node_move script w q step

    mover : stamp.node ≡ q
    mover = ap (λ (s : Stamp). s.node) at ∙ stamp_node w q step

-- A take of a letter, from what its parts do.

-- a take that is enabled, whose letter is in hand
pub record InHand (script : ScriptData) (q p : ℕ) (letter : Letter) (nodes : List NodeData) (boxes boxes' : MailData) (had : OutData) (run : List Logged) : Type 0 where
  pub holds : Holds script nodes boxes had run
  pub enabled : IsTrue (is_enabled script (world_after script run) q (Take p))
  pub few : length run + 1 < 2 ^ 62
  pub taken : IsTaken p q letter boxes boxes'

pub has_letter : (script : ScriptData) (q p : ℕ) (run : List Logged) → IsTrue (is_enabled script (world_after script run) q (Take p)) → HasLetter script (world_after script run) p q
has_letter script q p run enabled = (takes_where script (world_after script run) p q).0 enabled

-- the letter is the front one
pub mail_is : (script : ScriptData) (q p : ℕ) (letter : Letter) (nodes : List NodeData) (boxes boxes' : MailData) (had : OutData) (run : List Logged)
    → InHand script q p letter nodes boxes boxes' had run → (world_after script run).mail p q ≡ letter ∷ mail_in boxes' p q
mail_is script q p letter nodes boxes boxes' had run h =
    let has = has_letter script q p run h.enabled in
    sym (h.holds.world.mail_is p q has.sender has.receiver) ∙ h.taken.front

pub take_opened : (script : ScriptData) (q p : ℕ) (letter : Letter) (nodes : List NodeData) (boxes boxes' : MailData) (had : OutData) (run : List Logged)
    → InHand script q p letter nodes boxes boxes' had run → IsOpened script q (Take p) nodes boxes' had run
take_opened script q p letter nodes boxes boxes' had run h = record {
  is_script = h.holds.is_script;
  is_run = h.holds.is_run;
  enabled = h.enabled;
  few = h.few;
  world = subst (λ (ls : List Letter). IsWorld script nodes boxes' (record w { mail = put_mail w.mail p q ls })) (ap (drop 1) (sym (mail_is script q p letter nodes boxes boxes' had run h)))
      (world_put script w p q (mail_in boxes' p q) nodes boxes boxes' h.holds.world h.taken.receivers refl h.taken.others);
  no_posts = h.holds.no_posts;
  no_events = h.holds.no_events;
}
  where
    w : World
    w = world_after script run

mover : (script : ScriptData) (q p : ℕ) (nodes : List NodeData) (boxes : MailData) (had : OutData) (run : List Logged)
    → IsOpened script q (Take p) nodes boxes had run → IsNodeOf script q ((world_after script run).node q) (node_at nodes q)
mover script q p nodes boxes had run h = h.world.nodes_are q (has_letter script q p run h.enabled).receiver

pub takes_now : (script : ScriptData) (q p : ℕ) (letter : Letter) (nodes : List NodeData) (boxes : MailData) (had : OutData) (run : List Logged)
    → IsOpened script q (Take p) nodes boxes had run → (world_after script run).mail p q ≡ letter ∷ mail_in boxes p q → CanTake (node_at nodes q) letter
takes_now script q p letter nodes boxes had run h front =
    can_take script run q p letter (mail_in boxes p q) (node_at nodes q) h.is_script h.is_run h.enabled h.few front (mover script q p nodes boxes had run h)

-- the letter with other memory is the front one still
pub front_same : (script : ScriptData) (q p : ℕ) (letter again : Letter) (boxes boxes' : MailData) (run run' : List Logged)
    → (world_after script run).mail p q ≡ letter ∷ mail_in boxes p q → SameLetters boxes boxes' → again ≡ letter → run' ≡ run
    → (world_after script run').mail p q ≡ again ∷ mail_in boxes' p q
front_same script q p letter again boxes boxes' run run' front same e longer =
    ap (λ (r : List Logged). (world_after script r).mail p q) longer
    ∙ (front
    ∙ (ap (λ (l : Letter). l ∷ mail_in boxes p q) (sym e)
    ∙ ap (λ (ls : List Letter). again ∷ ls) (sym (same.letters p q))))

-- what the node did is the move
pub took : (script : ScriptData) (q p : ℕ) (letter : Letter) (nodes : List NodeData) (boxes : MailData) (had out : OutData) (run : List Logged) (n : NodeData)
    → IsOpened script q (Take p) nodes boxes had run → (world_after script run).mail p q ≡ letter ∷ mail_in boxes p q
    → NodeDoes (node_take (node_at nodes q).me letter (state_of (node_at nodes q))) (node_at nodes q) had n out
    → Did script q (node_move script (world_after script run) q (Take p)) had n out
took script q p letter nodes boxes had out run n h front does =
    let w = world_after script run in
    subst (λ (m : NodeMade). Did script q m had n out) (ap (take_front q (w.node q)) (sym front))
    (did script q (w.node q) (λ s x state. node_take x letter state) (node_at nodes q) had n out (mover script q p nodes boxes had run h) does)

pub take_stamped : (script : ScriptData) (q p : ℕ) (letter : Letter) (nodes : List NodeData) (boxes : MailData) (had : OutData) (run : List Logged) (stamp : Stamp)
    → IsOpened script q (Take p) nodes boxes had run → (world_after script run).mail p q ≡ letter ∷ mail_in boxes p q
    → stamp ≡ take_stamp (node_at nodes q).me (state_of (node_at nodes q)) letter → stamp ≡ move_stamp (world_after script run) q (Take p)
take_stamped script q p letter nodes boxes had run stamp h front at =
    let w = world_after script run in
    let is = mover script q p nodes boxes had run h in
    at
    ∙ (ap (λ (x : ℕ). take_stamp x (state_of (node_at nodes q)) letter) is.me
    ∙ (ap (λ (s : NodeState). take_stamp q s letter) is.state_is
    ∙ ap (front_stamp q (w.node q)) (sym front)))

put_back : (mail : ℕ → ℕ → List Letter) (p q : ℕ) (some ls : List Letter) (a b : ℕ) → ls ≡ mail p q → put_mail (put_mail mail p q some) p q ls a b ≡ mail a b
put_back mail p q some ls a b e = elim (cases_eq a p) [
  | inr other ↦ rw (ne_eqb a p other) refl
  | inl sender ↦ elim (cases_eq b q) [
    | inr other ↦ rw (eq-eqb a p sender, ne_eqb b q other) refl
    | inl receiver ↦ rw (eq-eqb a p sender, eq-eqb b q receiver) (e ∙ (ap (λ (x : ℕ). mail x q) (sym sender) ∙ ap (mail a) (sym receiver)))
  ]
]

-- where the letter isn't taken, it goes back
pub take_left : (script : ScriptData) (q p : ℕ) (letter : Letter) (nodes : List NodeData) (boxes boxes' : MailData) (had : OutData) (run : List Logged)
    → IsOpened script q (Take p) nodes boxes had run → (world_after script run).mail p q ≡ letter ∷ mail_in boxes p q
    → boxes' ≡ record boxes { sent = sent_of p q letter ∷ boxes.sent; free = boxes.free - 1 }
    → Holds script nodes boxes' had run
take_left script q p letter nodes boxes boxes' had run h front put = record {
  is_script = h.is_script;
  world = subst (λ (bs : MailData). IsWorld script nodes bs w) (sym put) (record {
    node_count = back.node_count;
    nodes_are = back.nodes_are;
    receivers = back.receivers;
    mail_is = λ x y lx ly. back.mail_is x y lx ly ∙ put_back w.mail p q (drop 1 (w.mail p q)) (letter ∷ mail_in boxes p q) x y (sym front);
  });
  no_posts = h.no_posts;
  no_events = h.no_events;
  is_run = h.is_run;
}
  where
    w : World
    w = world_after script run

    back : IsWorld script nodes (record boxes { sent = sent_of p q letter ∷ boxes.sent; free = boxes.free - 1 })
        (record (opened w q (Take p)) { mail = put_mail (opened w q (Take p)).mail p q (letter ∷ mail_in boxes p q) })
    back =
        world_put script (opened w q (Take p)) p q (letter ∷ mail_in boxes p q) nodes boxes (record boxes { sent = sent_of p q letter ∷ boxes.sent; free = boxes.free - 1 }) h.world refl
        (one_own p q letter boxes.sent) (λ a b apart. one_other p q letter boxes.sent a b apart)

-- where memory is refused once the letter is in hand, it goes back
pub take_refused : (script : ScriptData) (q p : ℕ) (letter again : Letter) (nodes nodes' : List NodeData) (boxes popped kept now : MailData) (had had' : OutData)
    (run run' : List Logged) → InHand script q p letter nodes boxes popped had run → OnlyMemory q nodes nodes' → SameLetters popped kept → again ≡ letter
    → (had'.posts ≡ had.posts) × (had'.events ≡ had.events) → run' ≡ run → now ≡ record kept { sent = sent_of p q again ∷ kept.sent; free = kept.free - 1 }
    → Holds script nodes' now had' run'
take_refused script q p letter again nodes nodes' boxes popped kept now had had' run run' hand memory same e sent longer put =
    take_left script q p again nodes' kept now had' run'
    (opened_same script q (Take p) nodes nodes' popped kept had had' run run' (take_opened script q p letter nodes boxes popped had run hand) memory same sent longer)
    (front_same script q p letter again popped kept run run' (mail_is script q p letter nodes boxes popped had run hand) same e longer) put

-- The fields of a world after a whole move.

-- an enabled move of a node below the limit was made and counted
pub record Moved (script : ScriptData) (limit most most' : ℕ) (moves moves' : List ℕ) (run run' : List Logged) (q : ℕ) (step : Step) : Type 0 where
  pub counted : AreCounted script limit moves run
  pub at_most : AreAtMost script most run
  pub below : moves_of q run < limit
  pub enabled : IsTrue (is_enabled script (world_after script run) q step)
  pub counts : moves' ≡ slice_set moves q (slice_index_or moves q 0 + 1)
  pub own : slice_index_or moves q 0 + 1 ≤ most'
  pub more : most ≤ most'
  pub longer : run' ≡ run_with script run q step

pub stands_moved : (script : ScriptData) (limit most most' : ℕ) (nodes : List NodeData) (boxes : MailData) (moves moves' : List ℕ) (turns : List (Option ℕ)) (out : OutData)
    (run run' : List Logged) (q : ℕ) (step : Step)
    → Moved script limit most most' moves moves' run run' q step → Holds script nodes boxes out run' → AreTurns script turns (world_after script run')
    → Stands script limit most' nodes boxes moves' turns out run'
stands_moved script limit most most' nodes boxes moves moves' turns out run run' q step h holds acts = record {
  holds = holds;
  counted = subst (λ (ms : List ℕ). AreCounted script limit ms run') (sym h.counts)
      (subst (AreCounted script limit (slice_set moves q (slice_index_or moves q 0 + 1))) (sym h.longer)
      (counted_moved script limit moves run entry q h.counted inside (stamp_node w q step) h.below));
  at_most = subst (AreAtMost script most') (sym h.longer)
      (at_most_moved script most most' run entry q h.at_most (stamp_node w q step) (omega (arith, h.own, h.counted.moves_are q inside)) h.more);
  acts = acts;
}
  where
    w : World
    w = world_after script run

    entry : Logged
    entry = logged script w q step

    inside : q < script.nodes
    inside = moves_inside script w q step holds.is_script h.enabled

-- The nodes of a script at its start, one more at a time.

-- they are those of the script, and so are they with the next one behind them
pub one_more : (script : ScriptData) (nodes : List NodeData) (made : NodeData) (k : ℕ) → length nodes ≡ k
    → ((q : ℕ) → q < k → IsNodeOf script q ((start script).node q) (node_at nodes q))
    → IsNodeOf script k ((start script).node k) made
    → (q : ℕ) → q < k + 1 → IsNodeOf script q ((start script).node q) (node_at (nodes ++ made ∷ []) q)
one_more script nodes made k count each last q below = elim (cases_eq q k) [
  | inl same ↦ subst (λ (i : ℕ). IsNodeOf script i ((start script).node i) (node_at (nodes ++ made ∷ []) i)) (sym same)
      (subst (IsNodeOf script k ((start script).node k)) (sym (get_or_push nodes made node_of_none k count)) last)
  | inr apart ↦ subst (IsNodeOf script q ((start script).node q)) (sym (get_or_append_left nodes (made ∷ []) node_of_none q (omega (arith, below, apart, count))))
      (each q (omega (arith, below, apart)))
]
