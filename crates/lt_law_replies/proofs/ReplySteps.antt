-- Each enabled move of a world that is kept answers the commands of the mover's clients in turn.
use Rattle.std.proofs.Common.{◌≡◌, ◌≢◌, ℕ, zero, suc, ◌+◌, ◌<◌, inl, inr, List, [], ◌∷◌, ◌++◌, length, Option, Some, None, Bool, true, false, refl, sym, ap, subst, arith, ◌∙◌, ◌==◌, not, nat_lt, if◌then◌else◌, Contains, AllPairs, IsTrue, ◌||◌, slice_get, drop as drop_front, ltb-true, lt-ltb}
use Rattle.std.specs.List.{list_any}
use Rattle.std.proofs.lemmas.Bool.{and_parts, cases_eq}
use Rattle.std.proofs.lemmas.List.Elements.{All-contains}
use Rattle.lt_modes.specs.declared.stamp.Stamp.{Stamp}
use Rattle.lt_modes.specs.declared.ask.Ask.{Ask}
use Rattle.lt_modes.specs.declared.command.Command.{Command}
use Rattle.lt_modes.specs.declared.command.Command.TheVariants.{Lock, Unlock, Try, Change, DropAll, Withdraw}
use Rattle.lt_modes.specs.declared.event.Event.{Event}
use Rattle.lt_modes.specs.declared.moves.Step.{Step}
use Rattle.lt_modes.specs.declared.moves.Step.TheVariants.{Act, Take}
use Rattle.lt_modes.specs.Script.{ScriptData}
use Rattle.lt_modes.specs.State.{SetState, Body, AskBody, TellBody, CopyBody, TokenBody, FreezeBody, Letter, ParkedAsk, ParkedTell, Made, silent, without}
use Rattle.lt_modes.specs.Serving.{without_gone as left_gone}
use Rattle.lt_modes.specs.SetMove.{finish, drop}
use Rattle.lt_modes.specs.Routing.{learn}
use Rattle.lt_modes.specs.Taking.{arrive, take_body, take as take_letter}
use Rattle.lt_lists.proofs.Puts.{put-same, put-other}
use Rattle.lt_spec.specs.NodeMove.{home, related, commands_of, NodeState, NodeMade, node_waits, has_command, next_command, act_stamp, take_stamp, at_clock, one_made, node_act, node_take, touched, each_touched, drop_all, obey, withdraws_itself, IsWhole}
use Rattle.lt_spec.specs.World.{World, is_enabled, is_waiting, is_free_to_act, is_some_letter, put_mail, take_front, node_move, replies_of}
use Rattle.lt_model.specs.Invariant.{WorldInvariant, AsksStand}
use Rattle.lt_model.proofs.StandingBegins.{copies_are_on_way, stands_arrived, elsewhere, unanswered, only_here}
use Rattle.lt_model.proofs.HomesMove.{IsMaker, maker, next_targets}
use Rattle.lt_model.proofs.PathsMove.{kept_stands, has_mail_parts, desk_somewhere}
use Rattle.lt_law_invariant.proofs.OwnSteps.{route_same}
use Rattle.lt_law_invariant.proofs.ClientEffects.{Clients, route_gone}
use Rattle.lt_law_invariant.proofs.ClientMoves.{at_first}
use Rattle.lt_law_invariant.proofs.ClientsKept.{sound_clients, clients_arrived}
use Rattle.lt_law_lines.proofs.LineRules.{route_says}
use Rattle.lt_law_replies.proofs.ReplyRules.{AllReplies, then_all, no_lines, answer_replies, finish_replies}
use Rattle.lt_law_replies.proofs.ReplyCommands.{ActTurns, act_turns}
use Rattle.lt_law_replies.proofs.ReplyMoves.{InTurn, put_follows}

-- the replies of a letter as it arrives
arrive_replies : (stamp : Stamp) (letter : Letter) (t : SetState) → Clients (λ c. 0) t t → ((ask : Ask) → letter.body ≡ CopyBody ask → Contains t.pending ask)
    → AllPairs (λ (x y : Ask). x.stamp ≢ y.stamp) t.pending → AllReplies letter.set t (arrive stamp letter t)
arrive_replies stamp letter t h waits apart = by_body letter.body refl
  where
    u : SetState
    u = learn letter.link t

    learnt : (newer : Bool) → ((if newer then record t { firm = letter.link; hoped = None } else t).pending ≡ t.pending)
        × ((if newer then record t { firm = letter.link; hoped = None } else t).gone ≡ t.gone)
    learnt true = (refl, refl)
    learnt false = (refl, refl)

    same : u.pending ≡ t.pending
    same = (learnt (nat_lt t.firm.epoch letter.link.epoch)).0

    marks : u.gone ≡ t.gone
    marks = (learnt (nat_lt t.firm.epoch letter.link.epoch)).1

    by_body : (body : Body) → letter.body ≡ body → AllReplies letter.set t (take_body letter.set stamp body u)
    by_body (AskBody ask marked) says = no_lines letter.set t _ (route_says letter.set stamp marked (ParkedAsk ask) u).0
        ((route_same letter.set stamp marked (ParkedAsk ask) u).1.pending ∙ same) (route_gone letter.set stamp marked (ParkedAsk ask) u ∙ marks)
    by_body (TellBody tell) says = no_lines letter.set t _ (route_says letter.set stamp false (ParkedTell tell) u).0
        ((route_same letter.set stamp false (ParkedTell tell) u).1.pending ∙ same) (route_gone letter.set stamp false (ParkedTell tell) u ∙ marks)
    by_body (CopyBody ask) says = answer_replies letter.set t u (take_body letter.set stamp (CopyBody ask) u) ask refl
        (ap (λ (g : List ℕ). list_any (λ other. other == ask.client) g) marks) (ap (λ (l : List Ask). without l ask.stamp) same)
        (ap (λ (g : List ℕ). left_gone g ask.client) marks) (waits ask says) (h.one ask.client) apart
    by_body (TokenBody desk) says = no_lines letter.set t (take_body letter.set stamp (TokenBody desk) u) refl same marks
    by_body (FreezeBody number modes) says = by_test (nat_lt u.number number)
      where
        by_test : (newer : Bool) → AllReplies letter.set t (silent (if newer then record u { frozen = modes; number = number } else u))
        by_test true = no_lines letter.set t (silent (record u { frozen = modes; number = number })) refl same marks
        by_test false = no_lines letter.set t (silent u) refl same marks

-- with the replies of a move at node q, the commands of each client stay in turn there
abbrev pub StaysInTurn : ScriptData → NodeState → NodeMade → Type 0
StaysInTurn script n made = (c : ℕ) (replies : List Event)
    → InTurn (length script.sets) n.set c (commands_of script c) (n.made c) replies
    → InTurn (length script.sets) made.node.set c (commands_of script c) (made.node.made c) (replies ++ replies_of c made.events)

-- what is done on sets counts no command
each_made : (rule : ℕ → SetState → Made) (sets : List ℕ) (n : NodeState) (c : ℕ) → (each_touched rule sets n).node.made c ≡ n.made c
each_made rule [] n c = refl
each_made rule (s ∷ rest) n c = each_made rule rest (touched n s (rule s (n.set s))).node c

obey_made : (script : ScriptData) (stamp : Stamp) (client : ℕ) (command : Command) (n : NodeState) (c : ℕ)
    → (obey script stamp client (Some command) n).node.made c ≡ n.made c
obey_made script stamp client (Lock s mode) n c = refl
obey_made script stamp client (Try s mode) n c = refl
obey_made script stamp client (Unlock s mode) n c = refl
obey_made script stamp client (Change s gives_up mode) n c = refl
obey_made script stamp client (Withdraw other s) n c = refl
obey_made script stamp client (DropAll other s) n c = by_waits (node_waits script n other)
  where
    by_waits : (waiting : Bool) → (drop_all waiting stamp client other s (related script s) n).node.made c ≡ n.made c
    by_waits true = each_made (λ k. finish k stamp) (related script s) n c
    by_waits false = each_made (λ k. drop k stamp other) (related script s) n c

-- a command that is left is there
not_none : (commands : List Command) (k : ℕ) → nat_lt k (length commands) ≡ true → slice_get commands k ≡ None → ⊥
not_none [] k h e = omega (arith, ltb-true k 0 h)
not_none (command ∷ rest) zero h e = cc
not_none (command ∷ rest) (suc k) h e = not_none rest k (lt-ltb k (length rest) (omega (arith, ltb-true (suc k) (suc (length rest)) h))) e

act_stays : (script : ScriptData) (w : World) (q client : ℕ) → IsWhole script → WorldInvariant script w → IsTrue (is_enabled script w q (Act client))
    → StaysInTurn script (w.node q) (node_act script q client (w.node q))
act_stays script w q client whole h enabled = by_command (next_command script n client) refl
  where
    n : NodeState
    n = w.node q

    own : IsMaker script q client
    own = maker script w q client enabled

    below : q < script.nodes
    below = subst (λ (x : ℕ). x < script.nodes) own.own (whole.homes client own.known)

    not_true : (t : Bool) → not t ≡ true → t ≡ false
    not_true true e = cc
    not_true false e = refl

    alone : (first second : Bool) → second ≡ false → (first || second) ≡ true → first ≡ true
    alone true second e f = refl
    alone false true e f = cc
    alone false false e f = cc

    ready : (withdraws_itself n client (next_command script n client) ≡ false → node_waits script n client ≡ false)
        × (has_command script n client ≡ true)
    ready =
        let first = and_parts (nat_lt client (length script.clients)) _ enabled in
        let second = and_parts (home script client == q) _ first.1 in
        let third = and_parts (is_free_to_act script w client) _ second.1 in (
          λ other.
              let here : withdraws_itself (w.node (home script client)) client (next_command script (w.node (home script client)) client) ≡ false =
              ap (λ (x : ℕ). withdraws_itself (w.node x) client (next_command script (w.node x) client)) own.own ∙ other in
              ap (λ (x : ℕ). node_waits script (w.node x) client) (sym own.own)
              ∙ not_true (is_waiting script w client) (alone (not (is_waiting script w client)) _ here third.0),
          ap (λ (x : ℕ). has_command script (w.node x) client) (sym own.own) ∙ third.1,
        )

    begins : NodeState
    begins = one_made client (at_clock (n.clock + 1) n)

    by_command : (command : Option Command) → next_command script n client ≡ command → StaysInTurn script n (obey script (act_stamp q n) client command begins)
    by_command None e = absurd (not_none (commands_of script client) (n.made client) ready.1 e)
    by_command (Some command) e = λ c replies before. elim (cases_eq c client) [
      | inl same ↦ subst (λ (x : ℕ). Goal x replies) (sym same) (mine replies (subst (λ (x : ℕ). InTurn (length script.sets) n.set x (commands_of script x) (n.made x) replies) same before))
      | inr d ↦ subst (λ (k : ℕ). InTurn (length script.sets) made.node.set c (commands_of script c) k (replies ++ replies_of c made.events))
          (sym (obey_made script (act_stamp q n) client command begins c ∙ put-other n.made client (n.made client + 1) c d))
          (acts.others c d (commands_of script c) (n.made c) replies before)
    ]
      where
        made : NodeMade
        made = obey script (act_stamp q n) client (Some command) begins

        Goal : ℕ → List Event → Type 0
        Goal c replies = InTurn (length script.sets) made.node.set c (commands_of script c) (made.node.made c) (replies ++ replies_of c made.events)

        acts : ActTurns script n client command made
        acts = act_turns script w q client command (λ s under. kept_stands script w s (h.sets s under)) below (sound_clients script w q h below)
            (λ other. ready.0 (ap (withdraws_itself n client) e ∙ other))
            (next_targets script n client command whole e)

        mine : (replies : List Event) → InTurn (length script.sets) n.set client (commands_of script client) (n.made client) replies → Goal client replies
        mine replies before =
            subst (λ (k : ℕ). InTurn (length script.sets) made.node.set client (commands_of script client) k (replies ++ replies_of client made.events))
            (sym (obey_made script (act_stamp q n) client command begins client ∙ put-same n.made client (n.made client + 1)))
            (acts.own (commands_of script client) (n.made client) replies e before)

take_stays : (script : ScriptData) (w : World) (p q : ℕ) (letter : Letter) (rest : List Letter) → WorldInvariant script w → w.mail p q ≡ letter ∷ rest
    → p < script.nodes → q < script.nodes → StaysInTurn script (w.node q) (node_take q letter (w.node q))
take_stays script w p q letter rest h front from below c = put_follows (length script.sets) n.set letter.set m c in_sets (replies c) (commands_of script c) (n.made c)
  where
    n : NodeState
    n = w.node q

    stamp : Stamp
    stamp = take_stamp q n letter

    t : SetState
    t = n.set letter.set

    m : Made
    m = take_letter stamp letter t

    left : ℕ → ℕ → List Letter
    left = put_mail w.mail p q (drop_front 1 (w.mail p q))

    among : Contains (w.mail p q) letter
    among = subst (λ (l : List Letter). Contains l letter) (sym front) (0, omega arith, refl)

    in_sets : letter.set < length script.sets
    in_sets = All-contains (λ (l : Letter). l.set < length script.sets) (w.mail p q) letter (h.letters p q from below) among

    stood : AsksStand script w letter.set
    stood = kept_stands script w letter.set (h.sets letter.set in_sets)

    first : Clients (λ c. 0) t t
    first = at_first script n (sound_clients script w q h below) letter.set in_sets

    waits : (ask : Ask) → letter.body ≡ CopyBody ask → Contains t.pending ask
    waits ask says =
        let found = desk_somewhere script w letter.set (h.sets letter.set in_sets).paths in
        (((h.sets letter.set in_sets).known found.0 found.1 found.2).accounts q below).owed.waits ask
        ((copies_are_on_way script w letter.set q ask).1 (p, letter, from, record { among = among; set = refl }, says))

    replies : AllReplies letter.set t m
    replies = then_all letter.set t (arrive stamp letter t) (finish letter.set stamp) (arrive_replies stamp letter t first waits (stood.apart q below))
        (finish_replies letter.set stamp (elsewhere script w letter.set q left) (unanswered script w letter.set q) (λ c. 0) t (only_here script w letter.set q stood below)
        (arrive stamp letter t).state ([] ++ (arrive stamp letter t).posts) (
          stands_arrived script w letter.set p q letter rest (h.sets letter.set in_sets).paths stood from below front refl,
          clients_arrived stamp letter t first (stood.apart q below) waits,
        ))

pub move_stays : (script : ScriptData) (w : World) (q : ℕ) (step : Step) → IsWhole script → WorldInvariant script w → IsTrue (is_enabled script w q step)
    → StaysInTurn script (w.node q) (node_move script w q step)
move_stays script w q (Act client) whole h enabled = act_stays script w q client whole h enabled
move_stays script w q (Take p) whole h enabled =
    let is_there = has_mail_parts script w p q enabled in
    by_letters (w.mail p q) refl is_there.letter is_there.sender is_there.receiver
  where
    by_letters : (letters : List Letter) → w.mail p q ≡ letters → is_some_letter letters ≡ true → p < script.nodes → q < script.nodes
        → StaysInTurn script (w.node q) (take_front q (w.node q) letters)
    by_letters [] e none from below = cc
    by_letters (letter ∷ rest) e there from below = take_stays script w p q letter rest h e from below
