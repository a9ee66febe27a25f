-- A move of a node reads and changes the sets of the script alone.
use Rattle.std.proofs.Common.{◌≡◌, ℕ, ◌+◌, ◌<◌, List, [], ◌∷◌, ◌++◌, length, Option, Some, None, Bool, true, false, refl, ap, subst, ◌≤◌, inl, inr, sym, arith, ◌∙◌, ◌==◌, if◌then◌else◌, nat_lt, Contains, IsTrue, slice_index, slice_index_or, lt-ltb, ltb-true, eqb-true, eq-eqb}
use Rattle.std.specs.List.{AllByRecursion}
use Rattle.std.proofs.lemmas.Bool.{cases_eq, and_parts}
use Rattle.std.proofs.lemmas.List.{length-map}
use Rattle.std.proofs.lemmas.List.Elements.{All-contains, All-nil, All-weaker}
use Rattle.std.proofs.lemmas.List.Sums.{get_or-le-sum_by}
use Rattle.lt_modes.specs.declared.command.Command.{Command}
use Rattle.lt_modes.specs.declared.command.Command.TheVariants.{Lock, Unlock, Try, Change, DropAll, Withdraw}
use Rattle.lt_modes.specs.declared.stamp.Stamp.{Stamp}
use Rattle.lt_modes.specs.Script.{ScriptData, ClientData}
use Rattle.lt_modes.specs.State.{SetState, Letter, first_state, Made, Body, AskBody, TellBody, CopyBody, TokenBody, FreezeBody, Parked, ParkedAsk, ParkedTell, Post, same_ask}
use Rattle.lt_modes.specs.Serving.{queue_of}
use Rattle.lt_modes.specs.Waiting.{waits}
use Rattle.lt_modes.specs.SetMove.{finish, lock, try, unlock, change, drop, withdraw}
use Rattle.lt_modes.specs.Taking.{take}
use Rattle.lt_modes.specs.declared.ask.Ask.{Ask}
use Rattle.lt_modes.specs.declared.parts.Row.{Row}
use Rattle.lt_modes.specs.declared.moves.Step.{Step}
use Rattle.lt_modes.specs.declared.moves.Step.TheVariants.{Act, Take}
use Rattle.lt_modes.specs.Sound.{SoundRow, SoundPending, SoundParked}
use Rattle.lt_modes.specs.Fits.{numbers_of}
use Rattle.lt_lists.proofs.Searches.{any_below_same}
use Rattle.lt_lists.specs.Below.{one_if}
use Rattle.lt_lists.proofs.Puts.{put-same, put-other}
use Rattle.lt_lists.proofs.AllLemmas.{all_both, all_weaker}
use Rattle.lt_lists.proofs.Sums.{sum_below-at}
use Rattle.lt_lists.proofs.Members.{all_of}
use Rattle.lt_spec.specs.NodeMove.{related, IsWhole, HasTargetsAt, NodeState, NodeMade, node_waits, next_command, act_stamp, take_stamp, at_clock, one_made, touched, each_touched, drop_all, obey, node_act, node_take}
use Rattle.lt_spec.specs.World.{World, is_enabled, is_some_letter, opened, take_front, node_move, after}
use Rattle.lt_spec.specs.Facts.{state_at, times_parked, places_in_state, places_in_body, place_count, OnWay}
use Rattle.lt_law_accounts.proofs.Asks.{times_in-some, same_ask-itself}
use Rattle.lt_model.proofs.HomesMove.{related_below, next_targets, IsMoveAtHome, drop_count, act_home, letter_home, maker}
use Rattle.lt_model.specs.Homes.{IsRowAtHome, IsAskAtHome, IsAskOf, IsParkedAtHome, IsBodyAtHome, IsStateAtHome, IsLetterAtHome}
use Rattle.lt_model.specs.OnWay.{Between}
use Rattle.lt_model.specs.Invariant.{BodyKept, SetKept, WorldInvariant}
use Rattle.lt_model.proofs.HomesSound.{home_among}
use Rattle.lt_model.proofs.Letters.{all_sent, before_take, mail_weight-at}
use Rattle.lt_model.proofs.PathsMove.{has_mail_parts, kept_stands}
use Rattle.lt_model.proofs.SentInMove.{places_weight}
use Rattle.lt_model.proofs.Runs.{stands_once}

-- the nodes keep the same for each set of the script
abbrev pub AreAlike : ScriptData → NodeState → NodeState → Type 0
AreAlike script n m = (s : ℕ) → s < length script.sets → n.set s ≡ m.set s

-- what two nodes made is the same for each set of the script, with the same letters
pub record MadeAlike (script : ScriptData) (a b : NodeMade) : Type 0 where
  pub node : AreAlike script a.node b.node
  pub posts : a.posts ≡ b.posts

-- the node with nothing in the sets that the script doesn't have
abbrev pub clipped : ScriptData → NodeState → NodeState
clipped script n = record n { set = λ s. if nat_lt s (length script.sets) then n.set s else first_state 0 1 }

pub clipped_alike : (script : ScriptData) (n : NodeState) → AreAlike script (clipped script n) n
clipped_alike script n s below = ap (λ (b : Bool). if b then n.set s else first_state 0 1) (lt-ltb s (length script.sets) below)

touched_alike : (script : ScriptData) (n m : NodeState) (set : ℕ) (rule : ℕ → SetState → Made) → set < length script.sets → AreAlike script n m
    → MadeAlike script (touched n set (rule set (n.set set))) (touched m set (rule set (m.set set)))
touched_alike script n m set rule in_sets alike = record {
  node = λ s below. by_test s below (s == set);
  posts = ap (λ (t : SetState). (rule set t).posts) (alike set in_sets);
}
  where
    by_test : (s : ℕ) → s < length script.sets → (own : Bool)
        → (if own then (rule set (n.set set)).state else n.set s) ≡ (if own then (rule set (m.set set)).state else m.set s)
    by_test s below true = ap (λ (t : SetState). (rule set t).state) (alike set in_sets)
    by_test s below false = alike s below

each_alike : (script : ScriptData) (rule : ℕ → SetState → Made) (sets : List ℕ) → AllByRecursion (λ set. set < length script.sets) sets
    → (n m : NodeState) → AreAlike script n m → MadeAlike script (each_touched rule sets n) (each_touched rule sets m)
each_alike script rule [] in_sets n m alike = record { node = alike; posts = refl }
each_alike script rule (set ∷ rest) in_sets n m alike =
    let first = touched_alike script n m set rule in_sets.0 alike in
    let later = each_alike script rule rest in_sets.1 (touched n set (rule set (n.set set))).node (touched m set (rule set (m.set set))).node first.node in
    record { node = later.node; posts = λ i. first.posts i ++ later.posts i }

obey_alike : (script : ScriptData) (stamp : Stamp) (client : ℕ) (command : Command) (n m : NodeState) → HasTargetsAt script client command → AreAlike script n m
    → MadeAlike script (obey script stamp client (Some command) n) (obey script stamp client (Some command) m)
obey_alike script stamp client (Lock s mode) n m targets alike = touched_alike script n m s (λ k t. lock k stamp client mode t) targets alike
obey_alike script stamp client (Try s mode) n m targets alike = touched_alike script n m s (λ k t. try k stamp client mode t) targets alike
obey_alike script stamp client (Unlock s mode) n m targets alike = touched_alike script n m s (λ k t. unlock k stamp client mode t) targets alike
obey_alike script stamp client (Change s gives_up mode) n m targets alike = touched_alike script n m s (λ k t. change k stamp client gives_up mode t) targets alike
obey_alike script stamp client (Withdraw other s) n m targets alike = touched_alike script n m s (λ k t. withdraw k stamp client other t) targets.0 alike
obey_alike script stamp client (DropAll other s) n m targets alike =
    subst (λ (b : Bool). MadeAlike script (drop_all (node_waits script n other) stamp client other s (related script s) n)
    (drop_all b stamp client other s (related script s) m))
    (any_below_same (length script.sets) (λ k. waits (n.set k) other) (λ k. waits (m.set k) other) (λ k below. ap (λ (t : SetState). waits t other) (alike k below)))
    (by_waits (node_waits script n other))
  where
    by_waits : (waiting : Bool)
        → MadeAlike script (drop_all waiting stamp client other s (related script s) n) (drop_all waiting stamp client other s (related script s) m)
    by_waits true =
        let made = each_alike script (λ k. finish k stamp) (related script s) (related_below script s) n m alike in record { node = made.node; posts = made.posts }
    by_waits false =
        let made = each_alike script (λ k. drop k stamp other) (related script s) (related_below script s) n m alike in record { node = made.node; posts = made.posts }

-- so it is in a client's move
pub act_alike : (script : ScriptData) (q client : ℕ) (n : NodeState) → IsWhole script
    → MadeAlike script (node_act script q client (clipped script n)) (node_act script q client n)
act_alike script q client n whole = by_command (next_command script n client) refl
  where
    begins : NodeState → NodeState
    begins m = one_made client (at_clock (n.clock + 1) m)

    by_command : (command : Option Command) → next_command script n client ≡ command
        → MadeAlike script (obey script (act_stamp q n) client command (begins (clipped script n))) (obey script (act_stamp q n) client command (begins n))
    by_command None e = record { node = clipped_alike script n; posts = refl }
    by_command (Some command) e =
        obey_alike script (act_stamp q n) client command (begins (clipped script n)) (begins n) (next_targets script n client command whole e) (clipped_alike script n)

-- and in the take of a letter of a set of the script
pub take_alike : (script : ScriptData) (q : ℕ) (letter : Letter) (n : NodeState) → letter.set < length script.sets
    → MadeAlike script (node_take q letter (clipped script n)) (node_take q letter n)
take_alike script q letter n in_sets =
    let stamp = take_stamp q n letter in
    touched_alike script (at_clock stamp.clock (clipped script n)) (at_clock stamp.clock n) letter.set (λ k t. take stamp letter t) in_sets (clipped_alike script n)

-- In a world that is kept rows, asks and letters are at home; and so it is after an enabled move.

-- at each node and in each letter of the script, for its sets, what there is is at home
pub record HomesWithin (script : ScriptData) (w : World) : Type 0 where
  pub states : (x s : ℕ) → x < script.nodes → s < length script.sets → IsStateAtHome script x (state_at w s x)
  pub letters : (p q : ℕ) (letter : Letter) → p < script.nodes → q < script.nodes → Contains (w.mail p q) letter → IsLetterAtHome script q letter

row_at_home : (script : ScriptData) (q : ℕ) (row : Row) → SoundRow (numbers_of script) q row → IsRowAtHome script q row
row_at_home script q row h =
    let known : row.client < length script.clients = omega (arith, h.client, length-map script.clients (λ (client : ClientData). client.node)) in
    record { client = known; home = sym (home_among script.clients row.client known) ∙ h.home; count = h.count }

own_at_home : (script : ScriptData) (q : ℕ) (u : SetState) (ask : Ask) → SoundPending (numbers_of script) q u ask → IsAskOf script q ask
own_at_home script q u ask h =
    let parts = and_parts (nat_lt ask.node script.nodes) _ h.home in
    let more = and_parts (nat_lt ask.client (length (numbers_of script).homes)) (slice_index (numbers_of script).homes ask.client == ask.node) parts.1 in
    let known : ask.client < length script.clients =
    omega (arith, ltb-true ask.client (length (numbers_of script).homes) more.0, length-map script.clients (λ (client : ClientData). client.node)) in (
      record {
        client = known;
        home = sym (home_among script.clients ask.client known) ∙ eqb-true (slice_index (numbers_of script).homes ask.client) ask.node more.1;
        maker = h.maker ∙ sym h.node;
      },
      h.node,
    )

-- an ask that stands anywhere is at home
standing_at_home : (script : ScriptData) (w : World) (s : ℕ) (ask : Ask) → SetKept script Between w s → 1 ≤ place_count script w s ask → IsAskAtHome script ask
standing_at_home script w s ask h some =
    let found = stands_once script w s ask (kept_stands script w s h) some in
    (own_at_home script ask.node (state_at w s ask.node) ask
    (All-contains (SoundPending (numbers_of script) ask.node (state_at w s ask.node)) (state_at w s ask.node).pending ask
    (h.states ask.node found.0).pending found.1)).0

here_at_home : (script : ScriptData) (w : World) (s x : ℕ) (ask : Ask) → SetKept script Between w s → x < script.nodes
    → 1 ≤ places_in_state ask (state_at w s x) → IsAskAtHome script ask
here_at_home script w s x ask h below some =
    standing_at_home script w s ask h (omega (arith, some, sum_below-at script.nodes x (λ y. places_in_state ask (state_at w s y)) below))

said_at_home : (script : ScriptData) (w : World) (p q : ℕ) (letter : Letter) (ask : Ask) → SetKept script Between w letter.set → p < script.nodes → q < script.nodes
    → Contains (w.mail p q) letter → 1 ≤ places_in_body ask letter.body → IsAskAtHome script ask
said_at_home script w p q letter ask h hp hq among some =
    let weighs : places_weight letter.set ask letter ≡ places_in_body ask letter.body = rw (eq-eqb letter.set letter.set refl) refl in
    standing_at_home script w letter.set ask h
    (omega (arith, some, weighs, mail_weight-at script.nodes p q (places_weight letter.set ask) w.mail letter hp hq among))

state_at_home : (script : ScriptData) (w : World) (s x : ℕ) → SetKept script Between w s → x < script.nodes → IsStateAtHome script x (state_at w s x)
state_at_home script w s x h below = record {
  rows = All-weaker (SoundRow (numbers_of script) x) (IsRowAtHome script x) (row_at_home script x) t.held (h.states x below).rows;
  pending = All-weaker (SoundPending (numbers_of script) x t) (IsAskOf script x) (own_at_home script x t) t.pending (h.states x below).pending;
  parked = all_of (IsParkedAtHome script) t.parked by_item;
  queue = all_of (IsAskAtHome script) (queue_of t) (λ ask there. here_at_home script w s x ask h below (omega (arith, times_in-some ask (queue_of t) there)));
}
  where
    t : SetState
    t = state_at w s x

    by_item : (item : Parked) → Contains t.parked item → IsParkedAtHome script item
    by_item (ParkedTell tell) there = All-contains (SoundParked (numbers_of script)) t.parked (ParkedTell tell) (h.states x below).parked there
    by_item (ParkedAsk ask) there =
        let part = get_or-le-sum_by (times_parked ask) t.parked there.0 (ParkedAsk ask) there.1 in
        let one : times_parked ask (slice_index_or t.parked there.0 (ParkedAsk ask)) ≡ 1 = ap (times_parked ask) there.2 ∙ ap one_if (same_ask-itself ask) in
        here_at_home script w s x ask h below (omega (arith, part, one))

letter_at_home : (script : ScriptData) (w : World) (p q : ℕ) (letter : Letter) → SetKept script Between w letter.set → letter.set < length script.sets
    → p < script.nodes → q < script.nodes → Contains (w.mail p q) letter → IsLetterAtHome script q letter
letter_at_home script w p q letter h in_sets hp hq among = record { set = in_sets; body = by_body letter.body refl }
  where
    on : OnWay w letter.set p q letter
    on = record { among = among; set = refl }

    alone : (body : Body) → letter.body ≡ body → (ask : Ask) → 1 ≤ places_in_body ask body → IsAskAtHome script ask
    alone body says ask some = said_at_home script w p q letter ask h hp hq among (subst (λ (b : Body). 1 ≤ places_in_body ask b) (sym says) some)

    one_ask : (ask : Ask) → 1 ≤ one_if (same_ask ask ask)
    one_ask ask = omega (arith, ap one_if (same_ask-itself ask))

    by_body : (body : Body) → letter.body ≡ body → IsBodyAtHome script q body
    by_body (AskBody ask marked) says = alone (AskBody ask marked) says ask (one_ask ask)
    by_body (TellBody tell) says = (subst (BodyKept script letter.stamp.clock) says (h.letters p q letter hp hq on).body).1
    by_body (CopyBody ask) says = (alone (CopyBody ask) says ask (one_ask ask), h.places.home q ask hq (p, letter, hp, on, says))
    by_body (TokenBody desk) says = all_of (IsAskAtHome script) desk.queue (λ ask there. alone (TokenBody desk) says ask (times_in-some ask desk.queue there))
    by_body (FreezeBody number modes) says = tt

pub kept_homes : (script : ScriptData) (w : World) → WorldInvariant script w → HomesWithin script w
kept_homes script w h = record {
  states = λ x s below under. state_at_home script w s x (h.sets s under) below;
  letters = λ p q letter hp hq among.
      let in_sets = All-contains (λ (l : Letter). l.set < length script.sets) (w.mail p q) letter (h.letters p q hp hq) among in
      letter_at_home script w p q letter (h.sets letter.set in_sets) in_sets hp hq among;
}

-- what a node made of the sets of the script is at home
record IsMadeWithin (script : ScriptData) (q : ℕ) (made : NodeMade) : Type 0 where
  node : (s : ℕ) → s < length script.sets → IsStateAtHome script q (made.node.set s)
  posts : AllByRecursion (λ (post : Post). IsLetterAtHome script post.to post.letter) made.posts

made_within : (script : ScriptData) (bound q : ℕ) (a b : NodeMade) → MadeAlike script a b → IsMoveAtHome script bound q a → IsMadeWithin script q b
made_within script bound q a b alike h = record {
  node = λ s below. subst (IsStateAtHome script q) (alike.node s below) (h.node s);
  posts = subst (AllByRecursion (λ (post : Post). IsLetterAtHome script post.to post.letter)) alike.posts
      (all_weaker _ _ (λ (post : Post) both. record { set = both.0; body = both.1 }) a.posts (all_both _ _ a.posts h.sets h.said.bodies));
}

clipped_home : (script : ScriptData) (q : ℕ) (n : NodeState) → ((s : ℕ) → s < length script.sets → IsStateAtHome script q (n.set s))
    → (s : ℕ) → IsStateAtHome script q ((clipped script n).set s)
clipped_home script q n h s = by_test (nat_lt s (length script.sets)) refl
  where
    by_test : (own : Bool) → nat_lt s (length script.sets) ≡ own → IsStateAtHome script q (if own then n.set s else first_state 0 1)
    by_test true e = h s (ltb-true s (length script.sets) e)
    by_test false e = record { rows = All-nil _; pending = All-nil _; parked = All-nil _; queue = All-nil _ }

move_within : (script : ScriptData) (w : World) (q : ℕ) (step : Step) → IsWhole script → HomesWithin script w → IsTrue (is_enabled script w q step)
    → IsMadeWithin script q (node_move script w q step)
move_within script w q (Act client) whole h enabled =
    let own = maker script w q client enabled in
    let below = subst (λ (x : ℕ). x < script.nodes) own.own (whole.homes client own.known) in
    let n = clipped script (w.node q) in
    let bound = drop_count script n (next_command script n client) in
    made_within script bound q (node_act script q client n) (node_act script q client (w.node q)) (act_alike script q client (w.node q) whole)
    (act_home script bound q client n whole own.known own.own (clipped_home script q (w.node q) (λ s under. h.states q s below under)) (omega arith))
move_within script w q (Take p) whole h enabled =
    let is_there = has_mail_parts script w p q enabled in
    by_letters (w.mail p q) is_there.letter is_there.receiver (λ letter there. h.letters p q letter is_there.sender is_there.receiver there)
  where
    by_letters : (letters : List Letter) → is_some_letter letters ≡ true → q < script.nodes
        → ((letter : Letter) → Contains letters letter → IsLetterAtHome script q letter)
        → IsMadeWithin script q (take_front q (w.node q) letters)
    by_letters [] e below each = cc
    by_letters (letter ∷ rest) e below each =
        let own = each letter (0, omega arith, refl) in
        made_within script 0 q (node_take q letter (clipped script (w.node q))) (node_take q letter (w.node q)) (take_alike script q letter (w.node q) own.set)
        (letter_home script 0 q letter (clipped script (w.node q)) below own (clipped_home script q (w.node q) (λ s under. h.states q s below under)))

-- each enabled move leaves them at home
pub homes_within_kept : (script : ScriptData) (w : World) (q : ℕ) (step : Step) → IsWhole script → HomesWithin script w → IsTrue (is_enabled script w q step)
    → HomesWithin script (after script w q step)
homes_within_kept script w q step whole h enabled = record {
  states = λ x s below under. elim (cases_eq x q) [
    | inl e ↦ subst (λ (y : ℕ). IsStateAtHome script y ((later.node y).set s)) (sym e)
        (subst (λ (n : NodeState). IsStateAtHome script q (n.set s)) (sym (put-same (opened w q step).node q (node_move script w q step).node)) (made.node s under))
    | inr d ↦ subst (λ (n : NodeState). IsStateAtHome script x (n.set s))
        (sym (put-other (opened w q step).node q (node_move script w q step).node x d ∙ same_node step)) (h.states x s below under)
  ];
  letters =
      λ a b letter ha hb there. all_sent (λ c d l. c < script.nodes → d < script.nodes → IsLetterAtHome script d l) q (node_move script w q step).posts
      (opened w q step).mail
      (λ c d l old hc hd. h.letters c d l hc hd (before step c d l old))
      (all_weaker (λ (post : Post). IsLetterAtHome script post.to post.letter)
      (λ (post : Post). q < script.nodes → post.to < script.nodes → IsLetterAtHome script post.to post.letter)
      (λ (post : Post) own. λ hc hd. own) (node_move script w q step).posts made.posts) a b letter there ha hb;
}
  where
    later : World
    later = after script w q step

    made : IsMadeWithin script q (node_move script w q step)
    made = move_within script w q step whole h enabled

    same_node : (step : Step) → {x : ℕ} → (opened w q step).node x ≡ w.node x
    same_node (Act client) = refl
    same_node (Take p) = refl

    before : (step : Step) (a b : ℕ) (letter : Letter) → Contains ((opened w q step).mail a b) letter → Contains (w.mail a b) letter
    before (Act client) a b letter there = there
    before (Take p) a b letter there = before_take w.mail p q a b letter there
