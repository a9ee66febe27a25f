-- Where a move is enabled, its node can make it.
use Rattle.std.proofs.Common.{◌≡◌, ℕ, ◌+◌, ◌<◌, ◌≤◌, ◌^◌, List, ◌∷◌, length, take, refl, sym, subst, arith, ◌≢◌, [], ◌++◌, inl, inr, ap, ◌∙◌, length-set, get_or-set_same, get_or-set_other, map, filter, flat_map, ◌&&◌, ◌==◌, not, nat_lt, nat_le, IsTrue, Contains, if◌then◌else◌, slice_set, eqb-true, ltb-true, eq-eqb, ne_eqb, lt-ltb, filter_map}
use Rattle.std.proofs.lemmas.Bool.{and_parts, cases_eq}
use Rattle.std.specs.List.{range_with_len}
use Rattle.lt_modes.specs.declared.moves.Step.TheVariants.{Act, Take}
use Rattle.lt_modes.specs.Script.{ScriptData}
use Rattle.lt_modes.specs.State.{Letter}
use Rattle.lt_modes.specs.Fits.{Numbers, fits, head_fits, numbers_of}
use Rattle.lt_modes.specs.declared.stamp.Stamp.{Stamp}
use Rattle.lt_lists.specs.Below.{put}
use Rattle.lt_lists.proofs.Puts.{put-same, put-other}
use Rattle.lt_spec.specs.Script.{IsScript}
use Rattle.lt_spec.specs.NodeMove.{home, NodeState, is_free_at, has_command, NodeMade, node_act, act_stamp}
use Rattle.lt_spec.specs.Limits.{leaves_asks}
use Rattle.lt_spec.specs.World.{Logged, World, world_after, is_enabled, is_runnable, IsRun, put_mail, after_made, letter_for, node_move, move_stamp, has_mail, is_some_letter}
use Rattle.lt_spec.specs.FixedOrder.{take_turn, senders, takes}
use Rattle.lt_law_enabled.specs.OrderLaws.{HasLetter}
use Rattle.lt_law_enabled.proofs.Order.{takes_where}
use Rattle.lt_model.proofs.ClocksGrow.{clocks_in_runs}
use Rattle.lt_law_invariant.proofs.SoundStates.{letters_fit_in_runs}
use Rattle.lt_law_invariant.proofs.FewAsks.{nodes_within, drops_within, asks_placed, whole}
use Rattle.lt_desk.specs.DeskData.{OutData}
use Rattle.lt_node.specs.NodeData.{NodeData, state_of, NodeDoes, SameNode, with_sent}
use Rattle.lt_node.specs.Touched.{leaves_room_to_act, leaves_room_to_take}
use Rattle.lt_node.proofs.TouchedLemmas.{room_to_act, room_to_take}
use Rattle.lt_inbox.specs.Mail.{MailData, mail_in, SameLetters, AreDelivered, takes_in}
use Rattle.lt_inbox.proofs.TakeOrder.{filter_same, flat_map_same}
use Rattle.lt_world.specs.Fields.{IsNodeOf, CanAct, CanTake, node_of_none, node_at, IsWorld, OnlyMemory, IsOpened, Holds}
use Rattle.lt_world.proofs.Runs.{whole_run, own_mail}

-- what holds of the node of the world holds of the code's
carried : {script : ScriptData} {q : ℕ} {state : NodeState} {n : NodeData} (P : ScriptData → ℕ → NodeState → Type 0)
    → IsNodeOf script q state n → P script q state → P n.script n.me (state_of n)
carried {script = script} {q = q} {state = state} {n = n} P is h =
    subst (λ (s : NodeState). P n.script n.me s) (sym is.state_is)
    (subst (λ (x : ℕ). P n.script x state) (sym is.me) (subst (λ (s : ScriptData). P s q state) (sym is.script_is) h))

clock_below : (script : ScriptData) (run : List Logged) (q : ℕ) → IsRun script run → ((world_after script run).node q).clock ≤ length run
clock_below script run q is_run =
    subst (λ (r : List Logged). ((world_after script r).node q).clock ≤ length run) (whole_run run) ((clocks_in_runs script run is_run (length run)).1 q)

-- what an enabled act says
pub record IsAct (script : ScriptData) (w : World) (q client : ℕ) : Type 0 where
  pub client_is : client < length script.clients
  pub at_home : home script client ≡ q
  pub runs : IsTrue (is_runnable script w client)

pub act_parts : (script : ScriptData) (w : World) (q client : ℕ) → IsTrue (is_enabled script w q (Act client)) → IsAct script w q client
act_parts script w q client e =
    let parts = and_parts (nat_lt client (length script.clients)) (home script client == q && is_runnable script w client) e in
    let rest = and_parts (home script client == q) (is_runnable script w client) parts.1 in
    record { client_is = ltb-true client (length script.clients) parts.0; at_home = eqb-true (home script client) q rest.0; runs = rest.1 }

pub act_inside : (script : ScriptData) (w : World) (q client : ℕ) → IsScript script → IsTrue (is_enabled script w q (Act client)) → q < script.nodes
act_inside script w q client good e =
    let act = act_parts script w q client e in
    subst (λ (x : ℕ). x < script.nodes) act.at_home (good.homes client act.client_is)

pub can_act : (script : ScriptData) (run : List Logged) (q client : ℕ) (n : NodeData) → IsScript script → IsRun script run
    → IsTrue (is_enabled script (world_after script run) q (Act client)) → length run + 1 < 2 ^ 62
    → IsNodeOf script q ((world_after script run).node q) n → CanAct n client
can_act script run q client n good is_run enabled few is =
    let w = world_after script run in
    let act = act_parts script w q client enabled in
    let below = act_inside script w q client good enabled in
    record {
      client_is = carried (λ s x state. client < length s.clients) is act.client_is;
      at_home = carried (λ s x state. home s client ≡ x) is act.at_home;
      runnable = carried (λ s x state. IsTrue (is_free_at s state client && has_command s state client)) is
          (subst (λ (x : ℕ). IsTrue (is_free_at script (w.node x) client && has_command script (w.node x) client)) act.at_home act.runs);
      within = carried (λ s x state. IsTrue (leaves_room_to_act s state client)) is
          (room_to_act script (w.node q) client good (nodes_within script run good is_run q below)
          (subst (λ (x : ℕ). IsTrue (leaves_asks script (w.node x) client)) act.at_home (asks_placed script run good is_run client act.client_is act.runs))
          (drops_within script run good is_run q below));
      clock = carried (λ s x state. state.clock + 1 < 2 ^ 62) is (omega (arith, few, clock_below script run q is_run));
    }

-- the front letter fits its receiver
pub front_fits : (script : ScriptData) (run : List Logged) (q p : ℕ) (letter : Letter) (rest : List Letter) → IsScript script → IsRun script run
    → IsTrue (is_enabled script (world_after script run) q (Take p)) → length run + 1 < 2 ^ 62
    → (world_after script run).mail p q ≡ letter ∷ rest
    → IsTrue (fits (numbers_of script) q ((world_after script run).node q).clock (((world_after script run).node q).set letter.set) letter)
front_fits script run q p letter rest good is_run enabled few front =
    let w = world_after script run in
    let has : HasLetter script w p q = (takes_where script w p q).0 enabled in
    let on : Contains (w.mail p q) letter = subst (λ (ls : List Letter). Contains ls letter) (sym front) (0, omega arith, refl) in
    let on' : Contains ((world_after script (take (length run) run)).mail p q) letter =
    subst (λ (r : List Logged). Contains ((world_after script r).mail p q) letter) (sym (whole_run run)) on in
    subst (λ (r : List Logged). IsTrue (fits (numbers_of script) q ((world_after script r).node q).clock (((world_after script r).node q).set letter.set) letter)) (whole_run run)
    (letters_fit_in_runs script run (whole script good) is_run (length run) p q letter few has.sender has.receiver on')

-- the letter is for a set of the script, and not of the last clock
record IsHead (numbers : Numbers) (letter : Letter) : Type 0 where
  pub set : letter.set < numbers.sets
  pub stamp : letter.stamp.clock + 1 < 2 ^ 62

pub can_take : (script : ScriptData) (run : List Logged) (q p : ℕ) (letter : Letter) (rest : List Letter) (n : NodeData) → IsScript script → IsRun script run
    → IsTrue (is_enabled script (world_after script run) q (Take p)) → length run + 1 < 2 ^ 62
    → (world_after script run).mail p q ≡ letter ∷ rest
    → IsNodeOf script q ((world_after script run).node q) n → CanTake n letter
can_take script run q p letter rest n good is_run enabled few front is =
    let w = world_after script run in
    let has : HasLetter script w p q = (takes_where script w p q).0 enabled in
    let fitting : IsTrue (fits (numbers_of script) q (w.node q).clock ((w.node q).set letter.set) letter) =
    front_fits script run q p letter rest good is_run enabled few front in
    record {
      fits_here = carried (λ s x state. IsTrue (fits (numbers_of s) x state.clock (state.set letter.set) letter)) is fitting;
      within = carried (λ s x state. IsTrue (leaves_room_to_take state letter)) is
          (room_to_take script (w.node q) letter (nodes_within script run good is_run q has.receiver) (head_of (numbers_of script) (w.node q).clock (and_parts _ _ fitting).0).set);
      clock = carried (λ s x state. state.clock + 1 < 2 ^ 62) is (omega (arith, few, clock_below script run q is_run));
      stamp = (head_of (numbers_of script) (w.node q).clock (and_parts _ _ fitting).0).stamp;
    }
  where
    head_of : (numbers : Numbers) (clock : ℕ) → IsTrue (head_fits numbers clock letter) → IsHead numbers letter
    head_of numbers clock e =
        let a = and_parts (nat_lt letter.set numbers.sets) _ e in
        let b = and_parts (nat_lt letter.link.node numbers.nodes) _ a.1 in
        let d = and_parts (nat_le letter.link.epoch letter.stamp.clock) _ b.1 in
        record {
          set = ltb-true letter.set numbers.sets a.0;
          stamp = ltb-true (letter.stamp.clock + 1) (2 ^ 62) (and_parts (nat_lt (letter.stamp.clock + 1) (2 ^ 62)) (nat_lt (clock + 1) (2 ^ 62)) d.1).0;
        }

-- The code's nodes and letters after a part of a move are those of the world after it.

-- one node of these, with another in its place
pub node_put : (nodes : List NodeData) (q : ℕ) (d : NodeData) → q < length nodes → node_at (slice_set nodes q d) q ≡ d
node_put nodes q d inside = get_or-set_same nodes q d node_of_none inside

nodes_put : (script : ScriptData) (state state' : ℕ → NodeState) (nodes : List NodeData) (q : ℕ) (d : NodeData)
    → length nodes ≡ script.nodes → ((k : ℕ) → k < script.nodes → IsNodeOf script k (state k) (node_at nodes k))
    → q < script.nodes → IsNodeOf script q (state' q) d → ((k : ℕ) → k ≢ q → state' k ≡ state k)
    → (k : ℕ) → k < script.nodes → IsNodeOf script k (state' k) (node_at (slice_set nodes q d) k)
nodes_put script state state' nodes q d count are inside is others k below = elim (cases_eq k q) [
  | inl same ↦
      subst (λ (i : ℕ). IsNodeOf script i (state' i) (node_at (slice_set nodes q d) i)) (sym same)
      (subst (IsNodeOf script q (state' q)) (sym (node_put nodes q d (omega (arith, inside, count)))) is)
  | inr other ↦
      subst (λ (n : NodeState). IsNodeOf script k n (node_at (slice_set nodes q d) k)) (sym (others k other))
      (subst (IsNodeOf script k (state k)) (sym (get_or-set_other nodes q k d node_of_none other)) (are k below))
]

-- a node with other memory is the same node
pub same_node : (script : ScriptData) (q : ℕ) (state : NodeState) (old new : NodeData) → IsNodeOf script q state old → SameNode old new
    → IsNodeOf script q state new
same_node script q state old new is same = record {
  script_is = same.script ∙ is.script_is;
  me = same.me ∙ is.me;
  state_is = same.state ∙ is.state_is;
}

-- nothing but memory changed
pub world_same : (script : ScriptData) (w : World) (q : ℕ) (nodes nodes' : List NodeData) (boxes boxes' : MailData)
    → IsWorld script nodes boxes w → q < script.nodes → OnlyMemory q nodes nodes' → SameLetters boxes boxes' → IsWorld script nodes' boxes' w
world_same script w q nodes nodes' boxes boxes' h inside memory same = record {
  node_count = ap length memory.others ∙ (length-set nodes q _ ∙ h.node_count);
  nodes_are = λ k below. subst (λ (ns : List NodeData). IsNodeOf script k (w.node k) (node_at ns k)) (sym memory.others)
      (nodes_put script w.node w.node nodes q (node_at nodes' q) h.node_count h.nodes_are inside
      (same_node script q (w.node q) (node_at nodes q) (node_at nodes' q) (h.nodes_are q inside) memory.node) (λ k' d. refl) k below);
  receivers = same.receivers ∙ h.receivers;
  mail_is = λ a b la lb. same.letters a b ∙ h.mail_is a b la lb;
}

-- only the letters from p to q changed
pub world_put : (script : ScriptData) (w : World) (p q : ℕ) (ls : List Letter) (nodes : List NodeData) (boxes boxes' : MailData)
    → IsWorld script nodes boxes w → boxes'.nodes ≡ boxes.nodes → mail_in boxes' p q ≡ ls
    → ((a b : ℕ) → (a ≡ p → b ≡ q → ⊥) → mail_in boxes' a b ≡ mail_in boxes a b)
    → IsWorld script nodes boxes' (record w { mail = put_mail w.mail p q ls })
world_put script w p q ls nodes boxes boxes' h same put others = record {
  node_count = h.node_count;
  nodes_are = h.nodes_are;
  receivers = same ∙ h.receivers;
  mail_is = λ a b la lb. elim (cases_eq a p) [
    | inr other ↦ rw (ne_eqb a p other) (others a b (λ e f. other e) ∙ h.mail_is a b la lb)
    | inl sender ↦ elim (cases_eq b q) [
      | inr other ↦ rw (eq-eqb a p sender, ne_eqb b q other) (others a b (λ e f. other f) ∙ h.mail_is a b la lb)
      | inl receiver ↦ rw (eq-eqb a p sender, eq-eqb b q receiver) (ap (λ (x : ℕ). mail_in boxes' x b) sender ∙ (ap (mail_in boxes' p) receiver ∙ put))
    ]
  ];
}

-- a node made its move, and its letters were delivered
pub world_moved : (script : ScriptData) (w : World) (q : ℕ) (made : NodeMade) (d : NodeData) (nodes : List NodeData) (boxes boxes' : MailData)
    → IsWorld script nodes boxes w → q < script.nodes → IsNodeOf script q made.node d → AreDelivered q made.posts boxes boxes'
    → IsWorld script (slice_set nodes q d) boxes' (after_made q made w)
world_moved script w q made d nodes boxes boxes' h inside is sent = record {
  node_count = length-set nodes q d ∙ h.node_count;
  nodes_are = nodes_put script w.node (put w.node q made.node) nodes q d h.node_count h.nodes_are inside
      (subst (λ (n : NodeState). IsNodeOf script q n d) (sym (put-same w.node q made.node)) is) (λ k other. put-other w.node q made.node k other);
  receivers = sent.receivers ∙ h.receivers;
  mail_is = λ a b la lb. sent.letters a b
      ∙ ap (λ (ls : List Letter). ls ++ (if a == q then filter_map (letter_for b) made.posts else [])) (h.mail_is a b la lb);
}

-- the node of the world did what the rule makes
pub record Did (script : ScriptData) (q : ℕ) (made : NodeMade) (had : OutData) (new : NodeData) (out : OutData) : Type 0 where
  pub node : IsNodeOf script q made.node new
  pub sent : out ≡ with_sent made had

pub did : (script : ScriptData) (q : ℕ) (state : NodeState) (rule : ScriptData → ℕ → NodeState → NodeMade) (old : NodeData) (had : OutData) (new : NodeData) (out : OutData)
    → IsNodeOf script q state old → NodeDoes (rule old.script old.me (state_of old)) old had new out → Did script q (rule script q state) had new out
did script q state rule old had new out is does =
    let same : rule old.script old.me (state_of old) ≡ rule script q state =
    ap (λ (s : ScriptData). rule s old.me (state_of old)) is.script_is
    ∙ (ap (λ (x : ℕ). rule script x (state_of old)) is.me ∙ ap (rule script q) is.state_is) in
    record {
      node = record {
        script_is = does.script ∙ is.script_is;
        me = does.me ∙ is.me;
        state_is = does.state ∙ ap (λ (m : NodeMade). m.node) same;
      };
      sent = does.sent ∙ ap (λ (m : NodeMade). with_sent m had) same;
    }

-- A command of a client, from what its parts do.

pub acts_before : (script : ScriptData) (q client : ℕ) (nodes : List NodeData) (boxes : MailData) (had : OutData) (run : List Logged)
    → Holds script nodes boxes had run → IsTrue (is_enabled script (world_after script run) q (Act client)) → length run + 1 < 2 ^ 62 → CanAct (node_at nodes q) client
acts_before script q client nodes boxes had run h enabled few =
    can_act script run q client (node_at nodes q) h.is_script h.is_run enabled few
    (h.world.nodes_are q (act_inside script (world_after script run) q client h.is_script enabled))

pub act_opened : (script : ScriptData) (q client : ℕ) (nodes : List NodeData) (boxes : MailData) (had : OutData) (run : List Logged)
    → Holds script nodes boxes had run → IsTrue (is_enabled script (world_after script run) q (Act client)) → length run + 1 < 2 ^ 62
    → IsOpened script q (Act client) nodes boxes had run
act_opened script q client nodes boxes had run h enabled few = record {
  is_script = h.is_script;
  is_run = h.is_run;
  enabled = enabled;
  few = few;
  world = h.world;
  no_posts = h.no_posts;
  no_events = h.no_events;
}

-- where the command isn't made
pub act_left : (script : ScriptData) (q client : ℕ) (nodes : List NodeData) (boxes : MailData) (had : OutData) (run : List Logged)
    → IsOpened script q (Act client) nodes boxes had run → Holds script nodes boxes had run
act_left script q client nodes boxes had run h = record {
  is_script = h.is_script;
  world = h.world;
  no_posts = h.no_posts;
  no_events = h.no_events;
  is_run = h.is_run;
}

mover : (script : ScriptData) (q client : ℕ) (nodes : List NodeData) (boxes : MailData) (had : OutData) (run : List Logged)
    → IsOpened script q (Act client) nodes boxes had run → IsNodeOf script q ((world_after script run).node q) (node_at nodes q)
mover script q client nodes boxes had run h = h.world.nodes_are q (act_inside script (world_after script run) q client h.is_script h.enabled)

pub acts_now : (script : ScriptData) (q client : ℕ) (nodes : List NodeData) (boxes : MailData) (had : OutData) (run : List Logged)
    → IsOpened script q (Act client) nodes boxes had run → CanAct (node_at nodes q) client
acts_now script q client nodes boxes had run h =
    can_act script run q client (node_at nodes q) h.is_script h.is_run h.enabled h.few (mover script q client nodes boxes had run h)

-- what the node did is the move
pub acted : (script : ScriptData) (q client : ℕ) (nodes : List NodeData) (boxes : MailData) (had out : OutData) (run : List Logged) (n : NodeData)
    → IsOpened script q (Act client) nodes boxes had run
    → NodeDoes (node_act (node_at nodes q).script (node_at nodes q).me client (state_of (node_at nodes q))) (node_at nodes q) had n out
    → Did script q (node_move script (world_after script run) q (Act client)) had n out
acted script q client nodes boxes had out run n h does =
    did script q ((world_after script run).node q) (λ s x state. node_act s x client state) (node_at nodes q) had n out
    (mover script q client nodes boxes had run h) does

pub act_stamped : (script : ScriptData) (q client : ℕ) (nodes : List NodeData) (boxes : MailData) (had : OutData) (run : List Logged) (stamp : Stamp)
    → IsOpened script q (Act client) nodes boxes had run → stamp ≡ act_stamp (node_at nodes q).me (state_of (node_at nodes q))
    → stamp ≡ move_stamp (world_after script run) q (Act client)
act_stamped script q client nodes boxes had run stamp h at =
    let is = mover script q client nodes boxes had run h in
    at ∙ (ap (λ (x : ℕ). act_stamp x (state_of (node_at nodes q))) is.me ∙ ap (act_stamp q) is.state_is)

-- The takes of the code are those of the world.

pub takes_are : (script : ScriptData) (nodes : List NodeData) (inboxes : MailData) (out : OutData) (run : List Logged)
    → Holds script nodes inboxes out run → takes_in inboxes ≡ takes script (world_after script run)
takes_are script nodes inboxes out run h =
    ap (λ (n : ℕ). flat_map (λ q. map (take_turn q) (filter (λ p. is_some_letter (mail_in inboxes p q)) (range_with_len 0 n))) (range_with_len 0 n)) h.world.receivers
    ∙ flat_map_same (λ q. map (take_turn q) (filter (λ p. is_some_letter (mail_in inboxes p q)) (range_with_len 0 script.nodes))) (λ q. map (take_turn q) (senders script w q)) 0 script.nodes
    (λ q below. ap (map (take_turn q)) (senders_are q (omega (arith, below))))
  where
    w : World
    w = world_after script run

    passes : (p q : ℕ) → p < script.nodes → q < script.nodes → is_some_letter (mail_in inboxes p q) ≡ has_mail script w p q
    passes p q hp hq =
        ap is_some_letter (h.world.mail_is p q hp hq)
        ∙ elim (cases_eq p q) [
          | inl same ↦
              let none : w.mail p q ≡ [] = subst (λ (x : ℕ). w.mail p x ≡ []) same (own_mail script run p h.is_script.some_node h.is_run hp) in
              rw (lt-ltb p script.nodes hp, lt-ltb q script.nodes hq, eq-eqb p q same) (ap is_some_letter none)
          | inr apart ↦ rw (lt-ltb p script.nodes hp, lt-ltb q script.nodes hq, ne_eqb p q apart) refl
        ]

    senders_are : (q : ℕ) → q < script.nodes → filter (λ p. is_some_letter (mail_in inboxes p q)) (range_with_len 0 script.nodes) ≡ senders script w q
    senders_are q below =
        filter_same (λ p. is_some_letter (mail_in inboxes p q)) (λ p. has_mail script w p q) 0 script.nodes (λ p inside. passes p q (omega (arith, inside)) below)
