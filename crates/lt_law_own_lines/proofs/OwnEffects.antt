-- The effects of a move show lines of clients of the node that moves.
use Rattle.lt_model.proofs.Voids.{withdraws_ways}
use Rattle.std.proofs.Common.{◌≡◌, ℕ, ◌<◌, List, [], ◌∷◌, ◌++◌, length, map, Option, Some, None, Bool, true, false, refl, ◌∙◌, ◌+◌, inl, inr, sym, subst, arith, ◌==◌, not, if◌then◌else◌, Contains, eqb-true}
use Rattle.std.specs.List.{AllByRecursion}
use Rattle.std.proofs.lemmas.Bool.{cases_eq}
use Rattle.std.proofs.lemmas.List.Elements.{All-filter}
use Rattle.lt_modes.specs.declared.mode.Mode.{Mode}
use Rattle.lt_modes.specs.declared.stamp.Stamp.{Stamp}
use Rattle.lt_modes.specs.declared.ask.Ask.{Ask}
use Rattle.lt_modes.specs.declared.event.Event.{Event}
use Rattle.lt_modes.specs.declared.event.Event.TheVariants.{Freeze, Void}
use Rattle.lt_modes.specs.Modes.{Modes, is_of, held_modes}
use Rattle.lt_modes.specs.Script.{ScriptData}
use Rattle.lt_modes.specs.State.{SetState, Desk, Body, AskBody, TellBody, CopyBody, TokenBody, FreezeBody, Letter, Parked, ParkedAsk, ParkedTell, Made, then_do, no_ask}
use Rattle.lt_modes.specs.Serving.{queue_of, answer_event, answer_by, ask_at, serve_one, serve_local, serve_copy, is_gone}
use Rattle.lt_modes.specs.HandingOver.{hand_over_to}
use Rattle.lt_modes.specs.Freezing.{freeze, freeze_at, frozen_by, targets}
use Rattle.lt_modes.specs.SetMove.{finish, ask_of, dropped, drop, withdrawn, withdraw}
use Rattle.lt_modes.specs.Routing.{Way, Parks, Goes, learn, sent_on, route}
use Rattle.lt_modes.specs.Telling.{tell_of}
use Rattle.lt_modes.specs.Taking.{take_body, arrive, take}
use Rattle.lt_modes.specs.declared.command.Command.{Command}
use Rattle.lt_modes.specs.declared.command.Command.TheVariants.{Lock, Unlock, Try, Change, DropAll, Withdraw}
use Rattle.lt_modes.specs.declared.moves.Step.TheVariants.{Act, Take}
use Rattle.lt_lists.proofs.AllLemmas.{all_append}
use Rattle.lt_lists.specs.Below.{put}
use Rattle.lt_lists.proofs.Puts.{put-same, put-other}
use Rattle.lt_spec.specs.NodeMove.{home, related, NodeState, node_waits, next_command, touched, each_touched, drop_all, act_stamp, take_stamp, at_clock, one_made, obey, node_act, HasTargetsAt, IsWhole}
use Rattle.lt_spec.specs.World.{IsOwnLine, is_some_letter, take_front}
use Rattle.lt_model.specs.Homes.{IsRowAtHome, IsAskAtHome, IsBodyAtHome, IsStateAtHome, IsLetterAtHome}
use Rattle.lt_model.proofs.Effects.{route_ways}
use Rattle.lt_model.proofs.TryEffects.{Between, EndRules, ActRules, finish_rule, take_rule, command_rules}
use Rattle.lt_model.proofs.HomesEffects.{home_ends, home_acts, arrives_home}
use Rattle.lt_model.proofs.PathsMove.{has_mail_parts}
use Rattle.lt_model.proofs.HomesMove.{IsNodeAtHome, related_below, next_targets, maker}
use Rattle.lt_law_own_lines.specs.OwnLaws.{OwnLinesOfMoves}

abbrev pub AreOwnLines : ScriptData → ℕ → List Event → Type 0
AreOwnLines script q lines = AllByRecursion (IsOwnLine script q) lines

-- what is at home stays so, and the lines are of clients of node q
abbrev pub own_lines : ScriptData → ℕ → Between
own_lines script q t m = IsStateAtHome script q t → IsStateAtHome script q m.state × AreOwnLines script q m.events

joined_own : (script : ScriptData) (q : ℕ) (t : SetState) (m : Made) (rule : SetState → Made) → own_lines script q t m
    → own_lines script q m.state (rule m.state) → own_lines script q t (then_do m rule)
joined_own script q t m rule first second h =
    let one = first h in
    let two = second one.0 in
    (two.0, all_append (IsOwnLine script q) m.events (rule m.state).events one.1 two.1)

-- the answer to an ask of a client of the node
answer_own : (script : ScriptData) (q set : ℕ) (ask : Ask) → home script ask.client ≡ q → IsOwnLine script q (answer_event set ask)
answer_own script q set ask own = by_choice ask.gives_up
  where
    by_choice : (gives_up : Option Mode) → IsOwnLine script q (answer_by set ask gives_up)
    by_choice None = own
    by_choice (Some mode) = own

end_own : (script : ScriptData) (q set : ℕ) (ask : Ask) (gone : Bool) → home script ask.client ≡ q
    → IsOwnLine script q (if gone then Void ask.client set ask.mode else answer_event set ask)
end_own script q set ask true own = own
end_own script q set ask false own = answer_own script q set ask own

-- asks and tells go their way without a line
route_own : (script : ScriptData) (q set : ℕ) (stamp : Stamp) (marked : Bool) (item : Parked) (t : SetState)
    → AreOwnLines script q (route set stamp marked item t).events
route_own script q set stamp marked item t =
    route_ways (λ m. AreOwnLines script q m.events) set stamp marked item t (λ desk e. tt) (λ away w e. goes w)
  where
    goes : (w : Way) → AreOwnLines script q (sent_on set stamp item t w).events
    goes Parks = tt
    goes (Goes to mark) = tt

serves_own : (script : ScriptData) (set : ℕ) (stamp : Stamp) (t : SetState) (k : ℕ) → k < length (queue_of t) → IsStateAtHome script stamp.node t
    → AreOwnLines script stamp.node (serve_one set stamp k t).events
serves_own script set stamp t k within h = by_test ((ask_at t k).node == stamp.node) refl
  where
    own : IsAskAtHome script (ask_at t k)
    own = h.queue k no_ask within

    by_test : (here : Bool) → ((ask_at t k).node == stamp.node) ≡ here
        → AreOwnLines script stamp.node (if here then serve_local set k t else serve_copy set stamp k (ask_at t k) t).events
    by_test true e = (end_own script stamp.node set (ask_at t k) (is_gone t (ask_at t k).client) (own.home ∙ eqb-true (ask_at t k).node stamp.node e), tt)
    by_test false e = (tt, tt)

freezes_own : (script : ScriptData) (q set : ℕ) (stamp : Stamp) (t : SetState) → AreOwnLines script q (freeze set stamp t).events
freezes_own script q set stamp t = by_desk t.desk
  where
    told_own : (number : ℕ) (modes : Modes) (told : List ℕ) → AreOwnLines script q (map (λ x. Freeze set x number modes) told)
    told_own number modes [] = tt
    told_own number modes (x ∷ rest) = (tt, told_own number modes rest)

    by_desk : (desk : Option Desk) → AreOwnLines script q (freeze_at set stamp t desk).events
    by_desk None = tt
    by_desk (Some desk) = told_own _ _ (targets stamp.node (frozen_by desk.queue) desk)

leaves_own : (script : ScriptData) (q set : ℕ) (stamp : Stamp) (t : SetState) (v : ℕ) → AreOwnLines script q (hand_over_to set stamp t v t.desk).events
leaves_own script q set stamp t v = by_desk t.desk
  where
    by_desk : (desk : Option Desk) → AreOwnLines script q (hand_over_to set stamp t v desk).events
    by_desk None = tt
    by_desk (Some desk) = (tt, tt)

own_ends : (script : ScriptData) (set : ℕ) (stamp : Stamp) → set < length script.sets → stamp.node < script.nodes
    → EndRules set stamp (own_lines script stamp.node)
own_ends script set stamp in_sets in_nodes =
    let homes = home_ends script 0 set stamp in_sets in_nodes in
    record {
      silent = λ t h. (h, tt);
      joined = joined_own script stamp.node;
      serves = λ t k within h. ((homes.serves t k within h).state, serves_own script set stamp t k within h);
      freezes = λ t h. ((homes.freezes t h).state, freezes_own script stamp.node set stamp t);
      leaves = λ t v h. ((homes.leaves t v h).state, leaves_own script stamp.node set stamp t v);
      tells = λ t h. ((homes.tells t h).state, route_own script stamp.node set stamp false (ParkedTell (tell_of stamp t)) (record t { charge = held_modes t.held }));
    }

pub own_acts : (script : ScriptData) (set : ℕ) (stamp : Stamp) (client : ℕ) → set < length script.sets → client < length script.clients
    → home script client ≡ stamp.node → stamp.node < script.nodes → ActRules set stamp client (own_lines script stamp.node)
own_acts script set stamp client in_sets known own in_nodes =
    let homes = home_acts script 0 set stamp client in_sets known own in_nodes in
    record {
      tries_not = λ mode t h. ((homes.tries_not mode t h).state, (own, tt));
      holds_not = λ mode t h. ((homes.holds_not mode t h).state, (own, tt));
      grants = λ mode t h. ((homes.grants mode t h).state, (own, tt));
      tries = λ mode t h. ((homes.tries mode t h).state, (own, tt));
      changes = λ gives_up mode t h. ((homes.changes gives_up mode t h).state, (own, tt));
      releases = λ mode t h. ((homes.releases mode t h).state, (own, tt));
      asks = λ mode gives_up t h.
          let ask = ask_of stamp client mode gives_up t in
          ((homes.asks mode gives_up t h).state, (own, route_own script stamp.node set stamp false (ParkedAsk ask) (record t { pending = t.pending ++ ask ∷ [] })));
      retakes = λ mode t h. ((homes.retakes mode t h).state, (own, tt));
      withheld = λ mode t h. ((homes.withheld mode t h).state, (own, tt));
      ended = λ t m a. joined_own script stamp.node t m (finish set stamp) a
          (finish_rule set stamp (own_lines script stamp.node) (own_ends script set stamp in_sets in_nodes) m.state);
    }

pub finish_own : (script : ScriptData) (set : ℕ) (stamp : Stamp) → set < length script.sets → stamp.node < script.nodes → (t : SetState)
    → own_lines script stamp.node t (finish set stamp t)
finish_own script set stamp in_sets in_nodes t = finish_rule set stamp (own_lines script stamp.node) (own_ends script set stamp in_sets in_nodes) t

arrives_own : (script : ScriptData) (stamp : Stamp) (letter : Letter) → letter.set < length script.sets
    → IsBodyAtHome script stamp.node letter.body → (t : SetState) → own_lines script stamp.node t (arrive stamp letter t)
arrives_own script stamp letter in_sets own t h =
    ((arrives_home script 0 stamp letter in_sets own t h).state, by_body letter.body own (learn letter.link t))
  where
    by_body : (body : Body) → IsBodyAtHome script stamp.node body → (u : SetState) → AreOwnLines script stamp.node (take_body letter.set stamp body u).events
    by_body (AskBody ask marked) at u = route_own script stamp.node letter.set stamp marked (ParkedAsk ask) u
    by_body (TellBody tell) at u = route_own script stamp.node letter.set stamp false (ParkedTell tell) u
    by_body (CopyBody ask) at u = (end_own script stamp.node letter.set ask (is_gone u ask.client) (at.0.home ∙ at.1), tt)
    by_body (TokenBody desk) at u = tt
    by_body (FreezeBody number modes) at u = tt

pub take_own : (script : ScriptData) (stamp : Stamp) (letter : Letter) → letter.set < length script.sets
    → IsBodyAtHome script stamp.node letter.body → stamp.node < script.nodes → (t : SetState) → own_lines script stamp.node t (take stamp letter t)
take_own script stamp letter in_sets own in_nodes t =
    take_rule stamp letter (own_lines script stamp.node) (own_lines script stamp.node)
    (λ u m. joined_own script stamp.node u m (finish letter.set stamp)) (own_ends script letter.set stamp in_sets in_nodes) t
    (arrives_own script stamp letter in_sets own t)

pub withdraw_own : (script : ScriptData) (set : ℕ) (stamp : Stamp) (client other : ℕ) → set < length script.sets → stamp.node < script.nodes
    → home script client ≡ stamp.node → home script other ≡ stamp.node → (t : SetState) → own_lines script stamp.node t (withdraw set stamp client other t)
withdraw_own script set stamp client other in_sets in_nodes own named t =
    joined_own script stamp.node t (withdrawn set client other t) (finish set stamp)
    (λ h. withdraws_ways (λ (m : Made). IsStateAtHome script stamp.node m.state × AreOwnLines script stamp.node m.events) set client other t
    (λ waiting. (record { rows = h.rows; pending = h.pending; parked = h.parked; queue = h.queue }, (named, (own, tt)))) (λ idle. (h, (own, tt))))
    (finish_own script set stamp in_sets in_nodes (withdrawn set client other t).state)

pub drop_own : (script : ScriptData) (set : ℕ) (stamp : Stamp) (other : ℕ) → set < length script.sets → stamp.node < script.nodes
    → (t : SetState) → own_lines script stamp.node t (drop set stamp other t)
drop_own script set stamp other in_sets in_nodes t h =
    finish_own script set stamp in_sets in_nodes (dropped other t) (record {
      rows = All-filter (λ row. not (is_of other row)) (IsRowAtHome script stamp.node) t.held h.rows;
      pending = h.pending;
      parked = h.parked;
      queue = h.queue;
    })

-- Each enabled move shows lines of clients of the node that moves.

touched_home : (script : ScriptData) (q set : ℕ) (n : NodeState) (m : Made) → IsNodeAtHome script q n → IsStateAtHome script q m.state
    → IsNodeAtHome script q (touched n set m).node
touched_home script q set n m h made s = elim (cases_eq s set) [
  | inl e ↦ subst (λ (k : ℕ). IsStateAtHome script q (put n.set set m.state k)) (sym e)
      (subst (IsStateAtHome script q) (sym (put-same n.set set m.state)) made)
  | inr d ↦ subst (IsStateAtHome script q) (sym (put-other n.set set m.state s d)) (h s)
]

-- the rule on each of these sets
each_own : (script : ScriptData) (q : ℕ) (rule : ℕ → SetState → Made) → ((set : ℕ) → set < length script.sets → (t : SetState) → own_lines script q t (rule set t))
    → (sets : List ℕ) → AllByRecursion (λ set. set < length script.sets) sets → (n : NodeState) → IsNodeAtHome script q n
    → AreOwnLines script q (each_touched rule sets n).events
each_own script q rule leads [] in_sets n h = tt
each_own script q rule leads (set ∷ rest) in_sets n h =
    let m = rule set (n.set set) in
    let first = leads set in_sets.0 (n.set set) (h set) in
    let next = (touched n set m).node in
    all_append (IsOwnLine script q) m.events (each_touched rule rest next).events first.1
    (each_own script q rule leads rest in_sets.1 next (touched_home script q set n m h first.0))

drop_all_own : (script : ScriptData) (stamp : Stamp) (client other s : ℕ) (n : NodeState) (waiting : Bool)
    → home script client ≡ stamp.node → stamp.node < script.nodes → IsNodeAtHome script stamp.node n
    → AreOwnLines script stamp.node (drop_all waiting stamp client other s (related script s) n).events
drop_all_own script stamp client other s n true own in_nodes h =
    (own, each_own script stamp.node (λ k. finish k stamp) (λ k in_script t. finish_own script k stamp in_script in_nodes t) (related script s) (related_below script s) n h)
drop_all_own script stamp client other s n false own in_nodes h =
    (own, each_own script stamp.node (λ k. drop k stamp other) (λ k in_script t. drop_own script k stamp other in_script in_nodes t) (related script s) (related_below script s) n h)

obey_own : (script : ScriptData) (stamp : Stamp) (client : ℕ) (command : Command) (n : NodeState) → client < length script.clients
    → home script client ≡ stamp.node → stamp.node < script.nodes → HasTargetsAt script client command → IsNodeAtHome script stamp.node n
    → AreOwnLines script stamp.node (obey script stamp client (Some command) n).events
obey_own script stamp client (Lock s mode) n known own in_nodes targets h =
    ((command_rules s stamp client _ (own_acts script s stamp client targets known own in_nodes)).locks mode (n.set s) (h s)).1
obey_own script stamp client (Try s mode) n known own in_nodes targets h =
    ((command_rules s stamp client _ (own_acts script s stamp client targets known own in_nodes)).tries mode (n.set s) (h s)).1
obey_own script stamp client (Unlock s mode) n known own in_nodes targets h =
    ((command_rules s stamp client _ (own_acts script s stamp client targets known own in_nodes)).unlocks mode (n.set s) (h s)).1
obey_own script stamp client (Change s gives_up mode) n known own in_nodes targets h =
    ((command_rules s stamp client _ (own_acts script s stamp client targets known own in_nodes)).changes gives_up mode (n.set s) (h s)).1
obey_own script stamp client (Withdraw other s) n known own in_nodes targets h =
    (withdraw_own script s stamp client other targets.0 in_nodes own (targets.2 ∙ own) (n.set s) (h s)).1
obey_own script stamp client (DropAll other s) n known own in_nodes targets h =
    drop_all_own script stamp client other s n (node_waits script n other) own in_nodes h

act_own : (script : ScriptData) (q client : ℕ) (n : NodeState) → IsWhole script → client < length script.clients → home script client ≡ q
    → IsNodeAtHome script q n → AreOwnLines script q (node_act script q client n).events
act_own script q client n whole known own h = by_command (next_command script n client) refl
  where
    by_command : (command : Option Command) → next_command script n client ≡ command
        → AreOwnLines script q (obey script (act_stamp q n) client command (one_made client (at_clock (n.clock + 1) n))).events
    by_command None e = tt
    by_command (Some command) e =
        obey_own script (act_stamp q n) client command (one_made client (at_clock (n.clock + 1) n)) known own
        (subst (λ (x : ℕ). x < script.nodes) own (whole.homes client known)) (next_targets script n client command whole e) h

pub own_lines_of_moves : OwnLinesOfMoves
own_lines_of_moves script w whole h q (Act client) enabled =
    let own = maker script w q client enabled in
    act_own script q client (w.node q) whole own.known own.own (h.states q)
own_lines_of_moves script w whole h q (Take p) enabled =
    let is_there = has_mail_parts script w p q enabled in
    by_letters (w.mail p q) is_there.letter is_there.receiver (λ letter on. h.letters p q letter on)
  where
    by_letters : (letters : List Letter) → is_some_letter letters ≡ true → q < script.nodes
        → ((letter : Letter) → Contains letters letter → IsLetterAtHome script q letter) → AreOwnLines script q (take_front q (w.node q) letters).events
    by_letters [] e below each = cc
    by_letters (letter ∷ rest) e below each =
        let own = each letter (0, omega arith, refl) in
        (take_own script (take_stamp q (w.node q) letter) letter own.set own.body below ((w.node q).set letter.set) (h.states q letter.set)).1
