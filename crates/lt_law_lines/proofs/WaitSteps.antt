-- The lines of each enabled move of a world that is kept tell who waits at the mover.
use Rattle.std.specs.List.{list_any}
use Rattle.lt_modes.specs.Serving.{is_gone, without_gone as left_gone}
use Rattle.std.proofs.Common.{◌≡◌, ◌≢◌, ℕ, ◌+◌, ◌<◌, inl, inr, List, [], ◌∷◌, ◌++◌, length, Option, Some, None, Bool, true, false, refl, sym, ap, subst, arith, ◌∙◌, ◌==◌, not, nat_lt, if◌then◌else◌, Contains, AllPairs, IsTrue, fold, drop as drop_front, ◌||◌}
use Rattle.std.proofs.lemmas.Bool.{and_parts, cases_eq, false≢true}
use Rattle.std.proofs.lemmas.List.Elements.{All-contains}
use Rattle.lt_modes.specs.declared.stamp.Stamp.{Stamp}
use Rattle.lt_modes.specs.declared.ask.Ask.{Ask}
use Rattle.lt_modes.specs.declared.command.Command.{Command}
use Rattle.lt_modes.specs.declared.command.Command.TheVariants.{Lock, Unlock, Try, Change, DropAll, Withdraw}
use Rattle.lt_modes.specs.declared.moves.Step.{Step}
use Rattle.lt_modes.specs.declared.moves.Step.TheVariants.{Act, Take}
use Rattle.lt_modes.specs.Script.{ScriptData}
use Rattle.lt_modes.specs.State.{SetState, Body, AskBody, TellBody, CopyBody, TokenBody, FreezeBody, Letter, ParkedAsk, ParkedTell, Made, silent, without}
use Rattle.lt_modes.specs.SetMove.{finish, locked, tried, unlocked, changed, dropped, drop, withdrawn, withdraw}
use Rattle.lt_modes.specs.Routing.{learn}
use Rattle.lt_modes.specs.Taking.{arrive, take_body, take as take_letter}
use Rattle.lt_spec.specs.NodeMove.{home, related, NodeState, NodeMade, node_waits, next_command, act_stamp, take_stamp, at_clock, one_made, node_act, node_take, touched, drop_all, obey, IsWhole, HasTargetsAt, withdraws_itself}
use Rattle.lt_spec.specs.Holdings.{Holding, wanted_after}
use Rattle.lt_spec.specs.World.{World, is_enabled, is_waiting, is_some_letter, put_mail, take_front, node_move, is_free_to_act}
use Rattle.lt_model.specs.Invariant.{WorldInvariant, AsksStand}
use Rattle.lt_lists.proofs.AllLemmas.{all_weaker}
use Rattle.lt_model.proofs.Effects.{HoldsOf, both}
use Rattle.lt_model.proofs.StandingBegins.{copies_are_on_way, stands_arrived, elsewhere, unanswered, only_here, stands_before, none_in_hand}
use Rattle.lt_model.proofs.HomesMove.{IsMaker, maker, next_targets, related_below}
use Rattle.lt_model.proofs.PathsMove.{kept_stands, has_mail_parts, desk_somewhere}
use Rattle.lt_model.proofs.NodeEffects.{once_or_aside}
use Rattle.lt_model.proofs.StandingEffects.{stands_later}
use Rattle.lt_model.proofs.SentInMove.{Stands, stands}
use Rattle.lt_law_invariant.proofs.OwnSteps.{route_same}
use Rattle.lt_law_invariant.proofs.ClientEffects.{Clients, clients, route_gone}
use Rattle.lt_law_invariant.proofs.ClientCommands.{one_for, idle, no_ask_of, clients_acts, drops_kept, locked_of, tried_of, unlocked_of, changed_of, withdrawn_of}
use Rattle.lt_law_invariant.proofs.ClientMoves.{SoundClients, at_first, idle_in}
use Rattle.lt_law_invariant.proofs.ClientsKept.{sound_clients, clients_arrived}
use Rattle.lt_law_lines.proofs.LineRules.{route_says}
use Rattle.lt_law_lines.proofs.WaitRules.{Answers, then_answers, quiet_answers, routed_answers, answer_answers, finish_answers}
use Rattle.lt_law_lines.proofs.WaitActs.{ActSays, act_ends, locked_says, tried_says, unlocked_says, changed_says, withdrawn_answers}
use Rattle.lt_law_lines.proofs.WaitMoves.{Told, IsFree, Follows, put_follows, put_told, each_follows}

-- the lines of a client's command: of others, and of it, where it waited for nothing
record ActTold (script : ScriptData) (n : NodeState) (client : ℕ) (made : NodeMade) : Type 0 where
  others : (c : ℕ) → c ≢ client → Follows (length script.sets) n.set made.node.set c made.events
  own : (lock : Option Holding) → Told (length script.sets) n.set client lock → Told (length script.sets) made.node.set client (fold (wanted_after client) lock made.events)

act_told : (script : ScriptData) (w : World) (q client : ℕ) (command : Command) → ((s : ℕ) → s < length script.sets → AsksStand script w s) → q < script.nodes
    → SoundClients script (w.node q) → (withdraws_itself (w.node q) client (Some command) ≡ false → node_waits script (w.node q) client ≡ false) → HasTargetsAt script client command
    → ActTold script (w.node q) client (obey script (act_stamp q (w.node q)) client (Some command) (one_made client (at_clock ((w.node q).clock + 1) (w.node q))))
act_told script w q client command stood below h waits_not targets = by_command command waits_not targets
  where
    n : NodeState
    n = w.node q

    stamp : Stamp
    stamp = act_stamp q n

    begins : NodeState
    begins = one_made client (at_clock (n.clock + 1) n)

    standing : (s : ℕ) → s < length script.sets → Stands s q n.clock (elsewhere script w s q w.mail) (unanswered script w s q) (n.set s) []
    standing s under = none_in_hand s q n.clock (elsewhere script w s q w.mail) (unanswered script w s q) (λ a. 0) (n.set s) [] (λ a. refl) (stands_before script w s q w.mail (λ a. 0) (stood s under) below (λ a. omega arith))

    first : (s : ℕ) → s < length script.sets → Clients (λ c. 0) (n.set s) (n.set s)
    first s under = at_first script n h s under

    begun : node_waits script n client ≡ false → (s : ℕ) → s < length script.sets → both (stands s q n.clock (elsewhere script w s q w.mail) (unanswered script w s q)) (idle client (n.set s)) (n.set s) []
    begun none s under = (standing s under, (first s under, idle_in script n client none s under))

    free : node_waits script n client ≡ false → IsFree (length script.sets) n.set client
    free none s under ask live own =
        no_ask_of client (n.set s) (idle_in script n client none s under) ask live.0 (ap (is_gone (n.set s)) own ∙ live.1) own

    -- what the command does to its set, and then the end of the move
    on_set : node_waits script n client ≡ false → (s : ℕ) (m : Made) → s < length script.sets → ActSays client s (n.set s) m
        → HoldsOf (both (stands s q stamp.clock (elsewhere script w s q w.mail) (unanswered script w s q)) (clients (one_for client) (n.set s))) [] m
        → ActTold script n client (touched begins s (record {
          state = (finish s stamp m.state).state;
          posts = m.posts ++ (finish s stamp m.state).posts;
          events = m.events ++ (finish s stamp m.state).events;
        }))
    on_set none s m under says mid =
        let ends = finish_answers s stamp (elsewhere script w s q w.mail) (unanswered script w s q) (one_for client) (n.set s) (only_here script w s q (stood s under) below) m.state m.posts mid in
        let acts = act_ends client s (n.set s) m (finish s stamp) says ends in
        record {
          others = λ c d. put_follows (length script.sets) n.set s _ c under (acts.others c d);
          own = λ lock told. put_told (length script.sets) n.set s _ client under (free none) acts lock told;
        }

    by_command : (command : Command) → (withdraws_itself n client (Some command) ≡ false → node_waits script n client ≡ false) → HasTargetsAt script client command
        → ActTold script n client (obey script stamp client (Some command) begins)
    by_command (Lock s mode) none t = on_set (none refl) s (locked s stamp client mode (n.set s)) t (locked_says client s stamp mode (n.set s) ((first s t).one client))
        (locked_of s stamp client _ _ (clients_acts s n.clock stamp client (elsewhere script w s q w.mail) (unanswered script w s q) (n.set s) refl) mode (n.set s) [] (begun (none refl) s t))
    by_command (Try s mode) none t = on_set (none refl) s (tried s stamp client mode (n.set s)) t (tried_says client s stamp mode (n.set s))
        (tried_of s stamp client _ _ (clients_acts s n.clock stamp client (elsewhere script w s q w.mail) (unanswered script w s q) (n.set s) refl) mode (n.set s) [] (begun (none refl) s t))
    by_command (Unlock s mode) none t = on_set (none refl) s (unlocked s client mode (n.set s)) t (unlocked_says client s mode (n.set s))
        (unlocked_of s stamp client _ _ (clients_acts s n.clock stamp client (elsewhere script w s q w.mail) (unanswered script w s q) (n.set s) refl) mode (n.set s) [] (begun (none refl) s t))
    by_command (Change s gives_up mode) none t = on_set (none refl) s (changed s stamp client gives_up mode (n.set s)) t (changed_says client s stamp gives_up mode (n.set s) ((first s t).one client))
        (changed_of s stamp client _ _ (clients_acts s n.clock stamp client (elsewhere script w s q w.mail) (unanswered script w s q) (n.set s) refl) gives_up mode (n.set s) [] (begun (none refl) s t))
    by_command (Withdraw other s) none t = record {
      others = λ c d. put_follows (length script.sets) n.set s (withdraw s stamp client other (n.set s)) c t.0 (says c);
      own = λ lock told. (put_follows (length script.sets) n.set s (withdraw s stamp client other (n.set s)) client t.0 (says client)).told lock told;
    }
      where
        says : Answers (n.set s) (withdraw s stamp client other (n.set s))
        says = then_answers (n.set s) (withdrawn s client other (n.set s)) (finish s stamp) (withdrawn_answers client other s (n.set s))
            (finish_answers s stamp (elsewhere script w s q w.mail) (unanswered script w s q) (λ c. 0) (n.set s) (only_here script w s q (stood s t.0) below)
            (withdrawn s client other (n.set s)).state ([] ++ (withdrawn s client other (n.set s)).posts)
            (withdrawn_of s n.clock stamp client other (elsewhere script w s q w.mail) (unanswered script w s q) (n.set s) refl (n.set s) [] (standing s t.0, first s t.0)))
    by_command (DropAll other s) none t = by_waits (node_waits script begins other) refl
      where
        later : (k : ℕ) → k < length script.sets → Stands k q stamp.clock (elsewhere script w k q w.mail) (unanswered script w k q) (n.set k) []
        later k under = stands_later k q n.clock stamp.clock (elsewhere script w k q w.mail) (unanswered script w k q) (n.set k) [] (omega arith) (standing k under)

        finishes : (k : ℕ) → k < length script.sets → (u : SetState) → Stands k q stamp.clock (elsewhere script w k q w.mail) (unanswered script w k q) u [] → Clients (λ c. 0) (n.set k) u → Answers u (finish k stamp u)
        finishes k under u stood_now sound = finish_answers k stamp (elsewhere script w k q w.mail) (unanswered script w k q) (λ c. 0) (n.set k) (only_here script w k q (stood k under) below) u [] (stood_now, sound)

        drops : node_waits script begins other ≡ false → (k : ℕ) → k < length script.sets → Answers (n.set k) (drop k stamp other (n.set k))
        drops e k under =
            let u = dropped other (n.set k) in
            let kept = later k under in
            then_answers (n.set k) (silent u) (finish k stamp) (quiet_answers (n.set k) (silent u) (λ c lock. refl) refl refl)
            (finishes k under u (record { once = kept.once; own = kept.own; apart = kept.apart; copies = kept.copies }) (drops_kept other (n.set k) (n.set k) (first k under, idle_in script n other e k under)))

        by_waits : (waiting : Bool) → node_waits script begins other ≡ waiting → ActTold script n client (drop_all waiting stamp client other s (related script s) begins)
        by_waits true e =
            let each = λ (c : ℕ). each_follows (length script.sets) (λ k. finish k stamp) c (related script s) (λ k. once_or_aside script k (Some (DropAll other s))) (related_below script s) begins
            (all_weaker (λ k. k < length script.sets) (λ k. Answers (n.set k) (finish k stamp (n.set k))) (λ k under. finishes k under (n.set k) (later k under) (first k under)) (related script s) (related_below script s)) in
            record { others = λ c d. record { told = (each c).told; free = (each c).free }; own = (each client).told }
        by_waits false e =
            let each = λ (c : ℕ). each_follows (length script.sets) (λ k. drop k stamp other) c (related script s) (λ k. once_or_aside script k (Some (DropAll other s))) (related_below script s) begins
            (all_weaker (λ k. k < length script.sets) (λ k. Answers (n.set k) (drop k stamp other (n.set k))) (drops e) (related script s) (related_below script s)) in
            record { others = λ c d. record { told = (each c).told; free = (each c).free }; own = (each client).told }

-- what a letter says as it arrives
arrive_answers : (stamp : Stamp) (letter : Letter) (t : SetState) → Clients (λ c. 0) t t → ((ask : Ask) → letter.body ≡ CopyBody ask → Contains t.pending ask)
    → AllPairs (λ (x y : Ask). x.stamp ≢ y.stamp) t.pending → Answers t (arrive stamp letter t)
arrive_answers stamp letter t h waits apart = by_body letter.body refl
  where
    u : SetState
    u = learn letter.link t

    learnt : (newer : Bool) → ((if newer then record t { firm = letter.link; hoped = None } else t).pending ≡ t.pending)
        × ((if newer then record t { firm = letter.link; hoped = None } else t).gone ≡ t.gone)
    learnt true = (refl, refl)
    learnt false = (refl, refl)

    same : u.pending ≡ t.pending
    same = (learnt (nat_lt t.firm.epoch letter.link.epoch)).0

    marks : u.gone ≡ t.gone
    marks = (learnt (nat_lt t.firm.epoch letter.link.epoch)).1

    by_body : (body : Body) → letter.body ≡ body → Answers t (take_body letter.set stamp body u)
    by_body (AskBody ask marked) says = routed_answers t _ (route_says letter.set stamp marked (ParkedAsk ask) u).0 ((route_same letter.set stamp marked (ParkedAsk ask) u).1.pending ∙ same) (route_gone letter.set stamp marked (ParkedAsk ask) u ∙ marks)
    by_body (TellBody tell) says = routed_answers t _ (route_says letter.set stamp false (ParkedTell tell) u).0 ((route_same letter.set stamp false (ParkedTell tell) u).1.pending ∙ same) (route_gone letter.set stamp false (ParkedTell tell) u ∙ marks)
    by_body (CopyBody ask) says = answer_answers letter.set t u (take_body letter.set stamp (CopyBody ask) u) ask refl (ap (λ (g : List ℕ). list_any (λ other. other == ask.client) g) marks) (ap (λ (l : List Ask). without l ask.stamp) same)
        (ap (λ (g : List ℕ). left_gone g ask.client) marks) (waits ask says) (h.one ask.client) apart
    by_body (TokenBody desk) says = routed_answers t (take_body letter.set stamp (TokenBody desk) u) refl same marks
    by_body (FreezeBody number modes) says = by_test (nat_lt u.number number)
      where
        by_test : (newer : Bool) → Answers t (silent (if newer then record u { frozen = modes; number = number } else u))
        by_test true = routed_answers t (silent (record u { frozen = modes; number = number })) refl same marks
        by_test false = routed_answers t (silent u) refl same marks

-- the lines of a move tell who waits at the mover, and say nothing of clients of other nodes
pub record MoveTold (script : ScriptData) (q : ℕ) (n : NodeState) (made : NodeMade) : Type 0 where
  pub told : (c : ℕ) (lock : Option Holding) → Told (length script.sets) n.set c lock → Told (length script.sets) made.node.set c (fold (wanted_after c) lock made.events)
  pub aside : (c : ℕ) → home script c ≢ q → IsFree (length script.sets) n.set c → (lock : Option Holding) → fold (wanted_after c) lock made.events ≡ lock

act_moves : (script : ScriptData) (w : World) (q client : ℕ) → IsWhole script → WorldInvariant script w → IsTrue (is_enabled script w q (Act client))
    → MoveTold script q (w.node q) (node_act script q client (w.node q))
act_moves script w q client whole h enabled = by_command (next_command script n client) refl
  where
    n : NodeState
    n = w.node q

    own : IsMaker script q client
    own = maker script w q client enabled

    below : q < script.nodes
    below = subst (λ (x : ℕ). x < script.nodes) own.own (whole.homes client own.known)

    not_true : (t : Bool) → not t ≡ true → t ≡ false
    not_true true e = cc
    not_true false e = refl

    alone : (first second : Bool) → second ≡ false → (first || second) ≡ true → first ≡ true
    alone true second e f = refl
    alone false true e f = cc
    alone false false e f = cc

    waits_not : withdraws_itself n client (next_command script n client) ≡ false → node_waits script n client ≡ false
    waits_not other =
        let first = and_parts (nat_lt client (length script.clients)) _ enabled in
        let second = and_parts (home script client == q) _ first.1 in
        let third = and_parts (is_free_to_act script w client) _ second.1 in
        let here : withdraws_itself (w.node (home script client)) client (next_command script (w.node (home script client)) client) ≡ false =
        ap (λ (x : ℕ). withdraws_itself (w.node x) client (next_command script (w.node x) client)) own.own ∙ other in
        ap (λ (x : ℕ). node_waits script (w.node x) client) (sym own.own)
        ∙ not_true (is_waiting script w client) (alone (not (is_waiting script w client)) _ here third.0)

    by_command : (command : Option Command) → next_command script n client ≡ command
        → MoveTold script q n (obey script (act_stamp q n) client command (one_made client (at_clock (n.clock + 1) n)))
    by_command None e = record { told = λ c lock before. before; aside = λ c away free lock. refl }
    by_command (Some command) e =
        let made = obey script (act_stamp q n) client (Some command) (one_made client (at_clock (n.clock + 1) n)) in
        let acts = act_told script w q client command (λ s under. kept_stands script w s (h.sets s under)) below (sound_clients script w q h below) (λ other. waits_not (ap (withdraws_itself n client) e ∙ other)) (next_targets script n client command whole e) in
        record {
          told = λ c lock before. elim (cases_eq c client) [
            | inl e ↦ subst (λ (x : ℕ). Told (length script.sets) made.node.set x (fold (wanted_after x) lock made.events)) (sym e)
                (acts.own lock (subst (λ (x : ℕ). Told (length script.sets) n.set x lock) e before))
            | inr d ↦ (acts.others c d).told lock before
          ];
          aside = λ c away free lock. ((acts.others c (λ e. away (ap (home script) e ∙ own.own))).free free).1 lock;
        }

take_moves : (script : ScriptData) (w : World) (p q : ℕ) (letter : Letter) (rest : List Letter) → WorldInvariant script w → w.mail p q ≡ letter ∷ rest → p < script.nodes → q < script.nodes
    → MoveTold script q (w.node q) (node_take q letter (w.node q))
take_moves script w p q letter rest h front from below = record {
  told = λ c lock before. (put_follows (length script.sets) n.set letter.set m c in_sets (answers c)).told lock before;
  aside = λ c away free lock. ((put_follows (length script.sets) n.set letter.set m c in_sets (answers c)).free free).1 lock;
}
  where
    n : NodeState
    n = w.node q

    stamp : Stamp
    stamp = take_stamp q n letter

    t : SetState
    t = n.set letter.set

    m : Made
    m = take_letter stamp letter t

    left : ℕ → ℕ → List Letter
    left = put_mail w.mail p q (drop_front 1 (w.mail p q))

    among : Contains (w.mail p q) letter
    among = subst (λ (l : List Letter). Contains l letter) (sym front) (0, omega arith, refl)

    in_sets : letter.set < length script.sets
    in_sets = All-contains (λ (l : Letter). l.set < length script.sets) (w.mail p q) letter (h.letters p q from below) among

    stood : AsksStand script w letter.set
    stood = kept_stands script w letter.set (h.sets letter.set in_sets)

    first : Clients (λ c. 0) t t
    first = at_first script n (sound_clients script w q h below) letter.set in_sets

    waits : (ask : Ask) → letter.body ≡ CopyBody ask → Contains t.pending ask
    waits ask says =
        let found = desk_somewhere script w letter.set (h.sets letter.set in_sets).paths in
        (((h.sets letter.set in_sets).known found.0 found.1 found.2).accounts q below).owed.waits ask
        ((copies_are_on_way script w letter.set q ask).1 (p, letter, from, record { among = among; set = refl }, says))

    answers : Answers t m
    answers = then_answers t (arrive stamp letter t) (finish letter.set stamp) (arrive_answers stamp letter t first waits (stood.apart q below))
        (finish_answers letter.set stamp (elsewhere script w letter.set q left) (unanswered script w letter.set q) (λ c. 0) t (only_here script w letter.set q stood below)
        (arrive stamp letter t).state ([] ++ (arrive stamp letter t).posts) (
          stands_arrived script w letter.set p q letter rest (h.sets letter.set in_sets).paths stood from below front refl,
          clients_arrived stamp letter t first (stood.apart q below) waits,
        ))

front_of : (letters : List Letter) → is_some_letter letters ≡ true → (letter : Letter) × (rest : List Letter) × (letters ≡ letter ∷ rest)
front_of [] none = absurd (false≢true none)
front_of (letter ∷ rest) there = (letter, rest, refl)

front_taken : (q : ℕ) (n : NodeState) (letter : Letter) (rest : List Letter) → take_front q n (letter ∷ rest) ≡ node_take q letter n
front_taken q n letter rest = refl

take_told : (script : ScriptData) (w : World) (p q : ℕ) → WorldInvariant script w → IsTrue (is_enabled script w q (Take p)) → MoveTold script q (w.node q) (take_front q (w.node q) (w.mail p q))
take_told script w p q h enabled =
    let is_there = has_mail_parts script w p q enabled in
    let found = front_of (w.mail p q) is_there.letter in
    subst (λ (made : NodeMade). MoveTold script q (w.node q) made) (sym (ap (λ (l : List Letter). take_front q (w.node q) l) found.2 ∙ front_taken q (w.node q) found.0 found.1))
    (take_moves script w p q found.0 found.1 h found.2 is_there.sender is_there.receiver)

pub move_told : (script : ScriptData) (w : World) (q : ℕ) (step : Step) → IsWhole script → WorldInvariant script w → IsTrue (is_enabled script w q step) → MoveTold script q (w.node q) (node_move script w q step)
move_told script w q (Act client) whole h enabled = act_moves script w q client whole h enabled
move_told script w q (Take p) whole h enabled = take_told script w p q h enabled
