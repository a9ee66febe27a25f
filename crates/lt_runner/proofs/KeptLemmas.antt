-- A command more leaves a runner a runner.
use Rattle.std.proofs.Common.{ℕ, sym, ◌≡◌, ◌+◌, ◌<◌, List, [], ◌∷◌, ◌++◌, Option, Some, None, true, false, length, refl, ap, subst, arith, ◌∙◌, append_assoc, true≢false, IsTrue}
use Rattle.std.proofs.lemmas.List.{length_push}
use Rattle.lt_modes.specs.declared.command.Command.{Command}
use Rattle.lt_modes.specs.Script.{ScriptData}
use Rattle.lt_modes.specs.State.{Letter}
use Rattle.lt_spec.specs.World.{start, Logged}
use Rattle.lt_spec.specs.NodeMove.{NodeState}
use Rattle.lt_spec.specs.Plays.{Cause, can_make_move, made_of, logged_of, used_by, letters_for, Plays}
use Rattle.lt_law_own_lines.specs.WaitingLaws.{NodeNames}
use Rattle.lt_law_own_lines.proofs.Moves.{names_at_start}
use Rattle.lt_law_plays.proofs.Appending.{plays_of_appended}
use Rattle.lt_law_plays.proofs.PlayLemmas.{plays_same, plays_grow}
use Rattle.lt_node.specs.NodeData.{state_of}
use Rattle.lt_mail.specs.Words.{sent_to, outs_count, ins_count, taken_from}
use Rattle.lt_mail.proofs.LookLemmas.{ends_join, ends_same}
use Rattle.lt_mail.specs.Opening.{IsFresh}
use Rattle.lt_runner.specs.declared.parts.Parts.{Parts}
use Rattle.lt_runner.specs.Kept.{RunnerInvariant, with_appended, in_hand, IsFromPeer, HandStays, SameRunner, AsSeen, SendsOn}
use Rattle.lt_runner.specs.declared.parts.Hand.{Hand}
use Rattle.lt_runner.specs.declared.choice.Choice.TheVariants as choices
use Rattle.lt_runner.specs.Choices.{act_choice, next_choice}
use Rattle.lt_runner.proofs.ChoiceLemmas.{nothing_acts}

pub kept_appended : (p : Parts) (client : ℕ) (command : Command) → RunnerInvariant p → RunnerInvariant (with_appended p client command)
kept_appended p client command h = record {
  used = h.used;
  me = h.me;
  below = h.below;
  outs = h.outs;
  ins = h.ins;
  plays = plays_of_appended p.node.script client command p.node.me p.log.entries ((start p.node.script).node p.node.me) (state_of p.node) h.used (sent_to p.mail) h.plays;
  taken = h.taken;
  hand = h.hand;
  names = h.names;
  bounded = h.bounded;
  posts = h.posts;
  events = h.events;
  idle = λ found. absurd (true≢false (sym found));
}

-- What a runner keeps, through a look and through a move.

plays_as : (script new_script : ScriptData) (me new_me : ℕ) (log new_log : List Logged) (used sent new_sent : ℕ → List Letter) (n new_n : NodeState)
    → new_script ≡ script → new_me ≡ me → new_log ≡ log → ((b : ℕ) → new_sent b ≡ sent b) → new_n ≡ n
    → Plays script me ((start script).node me) log used sent n → Plays new_script new_me ((start new_script).node new_me) new_log used new_sent new_n
plays_as script new_script me new_me log new_log used sent new_sent n new_n of_script of_me of_log of_sent of_n h =
    subst (λ (s : ScriptData). Plays s new_me ((start s).node new_me) new_log used new_sent new_n) (sym of_script)
    (subst (λ (x : ℕ). Plays script x ((start script).node x) new_log used new_sent new_n) (sym of_me)
    (subst (λ (l : List Logged). Plays script me ((start script).node me) l used new_sent new_n) (sym of_log)
    (subst (λ (m : NodeState). Plays script me ((start script).node me) log used new_sent m) (sym of_n)
    (plays_same script me log ((start script).node me) n used sent used new_sent (λ a. refl) of_sent h))))

-- what doesn't change in a runner of the same node
same_count : (a b : Parts) (n : ℕ) → SameRunner a b → n ≡ a.node.script.nodes → n ≡ b.node.script.nodes
same_count a b n s e = e ∙ ap (λ (script : ScriptData). script.nodes) (sym s.script)

from_as : (a b : Parts) → SameRunner a b → IsFromPeer a.node.script.nodes a.node.me b.hand → IsFromPeer b.node.script.nodes b.node.me b.hand
from_as a b s h =
    subst (λ (script : ScriptData). IsFromPeer script.nodes b.node.me b.hand) (sym s.script)
    (subst (λ (me : ℕ). IsFromPeer a.node.script.nodes me b.hand) (sym s.me) h)

names_as : (a b : Parts) (n : NodeState) → SameRunner a b → NodeNames a.node.script.nodes a.node.me n → NodeNames b.node.script.nodes b.node.me n
names_as a b n s h =
    subst (λ (script : ScriptData). NodeNames script.nodes b.node.me n) (sym s.script)
    (subst (λ (me : ℕ). NodeNames a.node.script.nodes me n) (sym s.me) h)

below_as : (a b : Parts) → SameRunner a b → a.node.me < a.node.script.nodes → b.node.me < b.node.script.nodes
below_as a b s h = subst (λ (script : ScriptData). b.node.me < script.nodes) (sym s.script) (subst (λ (me : ℕ). me < a.node.script.nodes) (sym s.me) h)

-- the command of the first client that can act is one of script, node and state
act_as : (a b : Parts) → AsSeen a b → act_choice b.node.script b.node.me (state_of b.node) ≡ act_choice a.node.script a.node.me (state_of a.node)
act_as a b h =
    ap (λ (script : ScriptData). act_choice script b.node.me (state_of b.node)) h.same.script
    ∙ (ap (λ (me : ℕ). act_choice a.node.script me (state_of b.node)) h.same.me
    ∙ ap (λ (n : NodeState). act_choice a.node.script a.node.me n) h.state)

-- nothing happened but that letters went on, and one may have come into the hand
pub kept_still : (a b : Parts) → RunnerInvariant a → AsSeen a b → IsFromPeer a.node.script.nodes a.node.me b.hand → b.out.posts ≡ [] → b.out.events ≡ [] → b.idle ≡ a.idle → RunnerInvariant b
kept_still a b h s from posts events same = record {
  used = h.used;
  me = s.same.ends.me ∙ (h.me ∙ sym s.same.me);
  below = below_as a b s.same h.below;
  outs = same_count a b (outs_count b.mail) s.same (s.same.ends.counts.0 ∙ h.outs);
  ins = same_count a b (ins_count b.mail) s.same (s.same.ends.counts.1 ∙ h.ins);
  plays = plays_as a.node.script b.node.script a.node.me b.node.me a.log.entries b.log.entries h.used (sent_to a.mail) (sent_to b.mail)
      (state_of a.node) (state_of b.node) s.same.script s.same.me s.log s.sent s.state h.plays;
  taken = λ node. s.used node (h.used node) (h.taken node);
  hand = from_as a b s.same from;
  names = names_as a b (state_of b.node) s.same (subst (λ (n : NodeState). NodeNames a.node.script.nodes a.node.me n) (sym s.state) h.names);
  bounded = omega (arith, h.bounded, ap (λ (l : List Logged). length l) s.log, s.same.limit);
  posts = posts;
  events = events;
  idle = λ idle. act_as a b s ∙ h.idle (sym same ∙ idle);
}

-- one move was made
pub record Moves (a b : Parts) (cause : Cause) : Type 0 where
  pub same : SameRunner a b
  pub can : IsTrue (can_make_move a.node.script a.node.me (state_of a.node) cause)
  pub state : state_of b.node ≡ (made_of a.node.script a.node.me (state_of a.node) cause).node
  pub log : b.log.entries ≡ a.log.entries ++ logged_of a.node.script a.node.me (state_of a.node) cause ∷ []
  pub sent : (node : ℕ) → sent_to b.mail node ≡ sent_to a.mail node ++ letters_for node (made_of a.node.script a.node.me (state_of a.node) cause).posts
  pub taken : (node : ℕ) → taken_from b.mail node ≡ taken_from a.mail node
  pub hands : (node : ℕ) → in_hand node a.hand ≡ used_by cause node ++ in_hand node b.hand
  pub from : IsFromPeer a.node.script.nodes a.node.me b.hand
  pub names : NodeNames a.node.script.nodes a.node.me (made_of a.node.script a.node.me (state_of a.node) cause).node
  pub place : length a.log.entries < a.limit
  pub posts : b.out.posts ≡ []
  pub events : b.out.events ≡ []
  pub idle : b.idle ≡ false

pub kept_moved : (a b : Parts) (cause : Cause) → RunnerInvariant a → Moves a b cause → RunnerInvariant b
kept_moved a b cause h m = record {
  used = λ node. h.used node ++ used_by cause node;
  me = m.same.ends.me ∙ (h.me ∙ sym m.same.me);
  below = below_as a b m.same h.below;
  outs = same_count a b (outs_count b.mail) m.same (m.same.ends.counts.0 ∙ h.outs);
  ins = same_count a b (ins_count b.mail) m.same (m.same.ends.counts.1 ∙ h.ins);
  plays = plays_as a.node.script b.node.script a.node.me b.node.me _ b.log.entries _ (sent_to b.mail) (sent_to b.mail) _ (state_of b.node)
      m.same.script m.same.me m.log (λ node. refl) m.state grown;
  taken = λ node. m.taken node ∙ (h.taken node ∙ (ap (λ (letters : List Letter). h.used node ++ letters) (m.hands node)
      ∙ sym (append_assoc (h.used node) (used_by cause node) (in_hand node b.hand))));
  hand = from_as a b m.same m.from;
  names = names_as a b (state_of b.node) m.same (subst (λ (n : NodeState). NodeNames a.node.script.nodes a.node.me n) (sym m.state) m.names);
  bounded = omega (arith, m.place, ap (λ (l : List Logged). length l) m.log, m.same.limit, one_longer a.log.entries (logged_of a.node.script a.node.me (state_of a.node) cause));
  posts = m.posts;
  events = m.events;
  idle = λ idle. absurd (true≢false (sym idle ∙ m.idle));
}
  where
    grown : Plays a.node.script a.node.me ((start a.node.script).node a.node.me) (a.log.entries ++ logged_of a.node.script a.node.me (state_of a.node) cause ∷ [])
        (λ node. h.used node ++ used_by cause node) (sent_to b.mail) (made_of a.node.script a.node.me (state_of a.node) cause).node
    grown = plays_grow a.node.script a.node.me a.log.entries ((start a.node.script).node a.node.me) (state_of a.node) cause h.used (sent_to a.mail)
        (λ node. h.used node ++ used_by cause node) (sent_to b.mail) h.plays m.can (λ node. refl) m.sent

    one_longer : (log : List Logged) (entry : Logged) → length (log ++ entry ∷ []) ≡ length log + 1
    one_longer log entry = length_push log entry

-- the letters that were sent before stay sent
pub moves_send : (a b : Parts) (cause : Cause) → Moves a b cause → SendsOn a b
moves_send a b cause m node = (letters_for node (made_of a.node.script a.node.me (state_of a.node) cause).posts, sym (m.sent node))

pub same_join : (a b c : Parts) → SameRunner a b → SameRunner b c → SameRunner a c
same_join a b c h k = record {
  script = k.script ∙ h.script;
  me = k.me ∙ h.me;
  limit = k.limit ∙ h.limit;
  gone = k.gone ∙ h.gone;
  commands_gone = k.commands_gone ∙ h.commands_gone;
  ends = ends_join a.mail b.mail c.mail h.ends k.ends;
}

holds_join : (a b c : Option Hand) → HandStays a b → HandStays b c → HandStays a c
holds_join None b c h k = tt
holds_join (Some x) None c h k = absurd h
holds_join (Some x) (Some y) None h k = absurd k
holds_join (Some x) (Some y) (Some z) h k = (k.0 ∙ h.0, k.1 ∙ h.1)

pub seen_join : (a b c : Parts) → AsSeen a b → AsSeen b c → AsSeen a c
seen_join a b c h k = record {
  same = same_join a b c h.same k.same;
  state = k.state ∙ h.state;
  log = k.log ∙ h.log;
  sent = λ node. k.sent node ∙ h.sent node;
  used = λ node letters e. k.used node letters (h.used node letters e);
  hand = holds_join a.hand b.hand c.hand h.hand k.hand;
}

-- nothing happened but that it was asked which nodes letters went to
abbrev pub asked : Parts → Parts
asked p = record p { reached = 0 }

pub kept_asked : (p : Parts) → RunnerInvariant p → RunnerInvariant (asked p)
kept_asked p h = record {
  used = h.used;
  me = h.me;
  below = h.below;
  outs = h.outs;
  ins = h.ins;
  plays = h.plays;
  taken = h.taken;
  hand = h.hand;
  names = h.names;
  bounded = h.bounded;
  posts = h.posts;
  events = h.events;
  idle = h.idle;
}

-- nothing happened but that letters of these nodes are looked for from now on
abbrev pub aimed : ℕ → Parts → Parts
aimed senders p = record p { senders = senders }

pub kept_aimed : (senders : ℕ) (p : Parts) → RunnerInvariant p → RunnerInvariant (aimed senders p)
kept_aimed senders p h = record {
  used = h.used;
  me = h.me;
  below = h.below;
  outs = h.outs;
  ins = h.ins;
  plays = h.plays;
  taken = h.taken;
  hand = h.hand;
  names = h.names;
  bounded = h.bounded;
  posts = h.posts;
  events = h.events;
  idle = h.idle;
}

pub holds_same : (x : Option Hand) → HandStays x x
holds_same None = tt
holds_same (Some x) = (refl, refl)

pub seen_asked : (p : Parts) → AsSeen p (asked p)
seen_asked p = record {
  same = record { script = refl; me = refl; limit = refl; gone = refl; commands_gone = refl; ends = ends_same p.mail };
  state = refl;
  log = refl;
  sent = λ node. refl;
  used = λ node letters e. e;
  hand = holds_same p.hand;
}

pub seen_aimed : (senders : ℕ) (p : Parts) → AsSeen p (aimed senders p)
seen_aimed senders p = record {
  same = record { script = refl; me = refl; limit = refl; gone = refl; commands_gone = refl; ends = ends_same p.mail };
  state = refl;
  log = refl;
  sent = λ node. refl;
  used = λ node letters e. e;
  hand = holds_same p.hand;
}

-- nothing happened but that no client was found that can act
abbrev pub resting : Parts → Parts
resting p = record p { idle = true }

pub kept_resting : (p : Parts) → RunnerInvariant p → next_choice p ≡ choices.Nothing → RunnerInvariant (resting p)
kept_resting p h e = record {
  used = h.used;
  me = h.me;
  below = h.below;
  outs = h.outs;
  ins = h.ins;
  plays = h.plays;
  taken = h.taken;
  hand = h.hand;
  names = h.names;
  bounded = h.bounded;
  posts = h.posts;
  events = h.events;
  idle = λ idle. nothing_acts p e;
}

pub seen_resting : (a p : Parts) → AsSeen a p → AsSeen a (resting p)
seen_resting a p h = record {
  same = record { script = h.same.script; me = h.same.me; limit = h.same.limit; gone = h.same.gone; commands_gone = h.same.commands_gone; ends = h.same.ends };
  state = h.state;
  log = h.log;
  sent = h.sent;
  used = h.used;
  hand = h.hand;
}

-- What a runner keeps at its start.

pub kept_at_start : (p : Parts) (script : ScriptData) (node : ℕ) → p.node.script ≡ script → p.node.me ≡ node
    → state_of p.node ≡ (start script).node node → node < script.nodes → IsFresh script.nodes node p.mail → p.log.entries ≡ [] → p.hand ≡ None
    → p.out.posts ≡ [] → p.out.events ≡ [] → p.idle ≡ false → RunnerInvariant p
kept_at_start p script node is me state below fresh log hand posts events idle = record {
  used = λ a. [];
  me = fresh.me ∙ sym me;
  below = subst (λ (s : ScriptData). p.node.me < s.nodes) (sym is) (subst (λ (x : ℕ). x < script.nodes) (sym me) below);
  outs = fresh.outs ∙ ap (λ (s : ScriptData). s.nodes) (sym is);
  ins = fresh.ins ∙ ap (λ (s : ScriptData). s.nodes) (sym is);
  plays = subst (λ (l : List Logged). Plays p.node.script p.node.me ((start p.node.script).node p.node.me) l (λ a. []) (sent_to p.mail) (state_of p.node)) (sym log)
      ((λ a. refl), fresh.sent, begins);
  taken = λ a. fresh.taken a ∙ sym (ap (λ (o : Option Hand). in_hand a o) hand);
  hand = subst (λ (o : Option Hand). IsFromPeer p.node.script.nodes p.node.me o) (sym hand) tt;
  names = subst (λ (s : ScriptData). NodeNames s.nodes p.node.me (state_of p.node)) (sym is)
      (subst (λ (x : ℕ). NodeNames script.nodes x (state_of p.node)) (sym me)
      (subst (λ (n : NodeState). NodeNames script.nodes node n) (sym state) (names_at_start script node below)));
  bounded = omega (arith, ap (λ (l : List Logged). length l) log);
  posts = posts;
  events = events;
  idle = λ found. absurd (true≢false (sym found ∙ idle));
}
  where
    begins : (start p.node.script).node p.node.me ≡ state_of p.node
    begins = ap (λ (s : ScriptData). (start s).node p.node.me) is ∙ (ap (λ (x : ℕ). (start script).node x) me ∙ sym state)
