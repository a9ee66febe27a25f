-- A client's command keeps the commands of each client in turn.
use Rattle.std.proofs.Common.{◌≡◌, ◌≢◌, ℕ, ◌+◌, ◌<◌, inl, inr, List, [], ◌∷◌, ◌++◌, length, Some, Bool, true, false, refl, sym, ap, subst, arith, ◌∙◌, ◌==◌, if◌then◌else◌, slice_get, eq-eqb, eqb-true, ne_eqb, append_assoc}
use Rattle.std.proofs.lemmas.Bool.{and_parts}
use Rattle.lt_modes.specs.declared.stamp.Stamp.{Stamp}
use Rattle.lt_modes.specs.declared.ask.Ask.{Ask}
use Rattle.lt_modes.specs.declared.command.Command.{Command}
use Rattle.lt_modes.specs.declared.command.Command.TheVariants.{Lock, Unlock, Try, Change, DropAll, Withdraw}
use Rattle.lt_modes.specs.declared.event.Event.{Event}
use Rattle.lt_modes.specs.declared.event.Event.TheVariants.{DropAll as Dropped, Busy}
use Rattle.lt_modes.specs.Script.{ScriptData}
use Rattle.lt_modes.specs.State.{SetState, Made, silent}
use Rattle.lt_modes.specs.Serving.{is_gone}
use Rattle.lt_modes.specs.Waiting.{waits}
use Rattle.lt_modes.specs.SetMove.{finish, locked, tried, unlocked, changed, dropped, drop, withdrawn}
use Rattle.lt_lists.proofs.AllLemmas.{all_weaker}
use Rattle.lt_spec.specs.NodeMove.{related, NodeState, NodeMade, node_waits, act_stamp, at_clock, one_made, touched, each_touched, locks_in_sets, answered_first, drop_all, obey, withdraws_itself, HasTargetsAt}
use Rattle.lt_spec.specs.World.{World, replies_of}
use Rattle.lt_model.specs.Invariant.{AsksStand}
use Rattle.lt_model.proofs.Effects.{HoldsOf}
use Rattle.lt_model.proofs.HomesMove.{related_below}
use Rattle.lt_model.proofs.NodeEffects.{once_or_aside}
use Rattle.lt_model.proofs.StandingEffects.{stands_later}
use Rattle.lt_model.proofs.SentInMove.{Stands}
use Rattle.lt_model.proofs.StandingBegins.{elsewhere, unanswered, only_here, stands_before, none_in_hand}
use Rattle.lt_law_invariant.proofs.ClientEffects.{Clients}
use Rattle.lt_law_invariant.proofs.ClientCommands.{one_for, idle, no_ask_of, clients_acts, drops_kept, locked_of, tried_of, unlocked_of, changed_of, withdrawn_of}
use Rattle.lt_law_invariant.proofs.ClientMoves.{SoundClients, at_first, idle_in}
use Rattle.lt_law_lines.proofs.WaitMoves.{IsFree}
use Rattle.lt_spec.specs.Script.{AnswersCommand}
use Rattle.lt_law_replies.proofs.ReplyRules.{Replies, AllReplies, stands_so, then_replies, then_all, no_lines, finish_replies}
use Rattle.lt_law_replies.proofs.ReplyActs.{ActReplies, act_ends, locked_replies, tried_replies, unlocked_replies, changed_replies}
use Rattle.lt_law_replies.proofs.ReplyWithdraws.{withdrawn_replies, EndsItself, ends_itself, itself_ends}
use Rattle.lt_law_replies.proofs.ReplyMoves.{InTurn, Follows, put_follows, act_follows, itself_follows, all_answered, one_more, each_follows}

-- the replies of a client's command: others' commands stay in turn, and so do its own with this one more
pub record ActTurns (script : ScriptData) (n : NodeState) (client : ℕ) (command : Command) (made : NodeMade) : Type 0 where
  pub others : (c : ℕ) → c ≢ client → Follows (length script.sets) n.set made.node.set c made.events
  pub own : (commands : List Command) (count : ℕ) (replies : List Event) → slice_get commands count ≡ Some command
      → InTurn (length script.sets) n.set client commands count replies
      → InTurn (length script.sets) made.node.set client commands (count + 1) (replies ++ replies_of client made.events)

-- an answer that stands before what the sets made
first_answer : (script : ScriptData) (n : NodeState) (client : ℕ) (command : Command) (line : Event) (made : NodeMade)
    → ((c : ℕ) (rest : List Event) → replies_of c (line ∷ rest) ≡ (if client == c then line ∷ replies_of c rest else replies_of c rest))
    → AnswersCommand client command line → IsFree (length script.sets) n.set client
    → ((c : ℕ) → Follows (length script.sets) n.set made.node.set c made.events) → ActTurns script n client command (answered_first line made)
first_answer script n client command line made says answers free follows = record {
  others = λ c d commands count replies before.
      subst (InTurn (length script.sets) made.node.set c commands count) (ap (λ (l : List Event). replies ++ l) (sym (aside c d)))
      (follows c commands count replies before);
  own = λ commands count replies next before.
      let all = all_answered (length script.sets) n.set client commands count replies before free in
      subst (InTurn (length script.sets) made.node.set client commands (count + 1))
      (append_assoc replies (line ∷ []) (replies_of client made.events) ∙ ap (λ (l : List Event). replies ++ l) (sym mine))
      (follows client commands (count + 1) (replies ++ line ∷ [])
      (one_more (length script.sets) n.set client commands count replies line before.turn
      (command, ap (slice_get commands) all ∙ next, answers) free all));
}
  where
    aside : (c : ℕ) → c ≢ client → replies_of c (line ∷ made.events) ≡ replies_of c made.events
    aside c d = says c made.events
        ∙ ap (λ (own : Bool). if own then line ∷ replies_of c made.events else replies_of c made.events) (ne_eqb client c (λ e. d (sym e)))

    mine : replies_of client (line ∷ made.events) ≡ line ∷ replies_of client made.events
    mine = says client made.events
        ∙ ap (λ (own : Bool). if own then line ∷ replies_of client made.events else replies_of client made.events) (eq-eqb client client refl)

pub act_turns : (script : ScriptData) (w : World) (q client : ℕ) (command : Command) → ((s : ℕ) → s < length script.sets → AsksStand script w s)
    → q < script.nodes → SoundClients script (w.node q)
    → (withdraws_itself (w.node q) client (Some command) ≡ false → node_waits script (w.node q) client ≡ false) → HasTargetsAt script client command
    → ActTurns script (w.node q) client command
    (obey script (act_stamp q (w.node q)) client (Some command) (one_made client (at_clock ((w.node q).clock + 1) (w.node q))))
act_turns script w q client command stood below h waits_not targets = by_command command waits_not targets
  where
    n : NodeState
    n = w.node q

    stamp : Stamp
    stamp = act_stamp q n

    begins : NodeState
    begins = one_made client (at_clock (n.clock + 1) n)

    others : ℕ → Ask → ℕ
    others s = elsewhere script w s q w.mail

    asked_of : ℕ → Ask → ℕ
    asked_of s = unanswered script w s q

    standing : (s : ℕ) → s < length script.sets → Stands s q n.clock (others s) (asked_of s) (n.set s) []
    standing s under = none_in_hand s q n.clock (others s) (asked_of s) (λ a. 0) (n.set s) [] (λ a. refl)
        (stands_before script w s q w.mail (λ a. 0) (stood s under) below (λ a. omega arith))

    first : (s : ℕ) → s < length script.sets → Clients (λ c. 0) (n.set s) (n.set s)
    first s under = at_first script n h s under

    free : node_waits script n client ≡ false → IsFree (length script.sets) n.set client
    free none s under ask live own =
        no_ask_of client (n.set s) (idle_in script n client none s under) ask live.0 (ap (is_gone (n.set s)) own ∙ live.1) own

    begun : node_waits script n client ≡ false → (s : ℕ) → s < length script.sets
        → Stands s q n.clock (others s) (asked_of s) (n.set s) [] × idle client (n.set s) (n.set s) []
    begun none s under = (standing s under, (first s under, idle_in script n client none s under))

    ends_of : (s : ℕ) → s < length script.sets → (bonus : ℕ → ℕ) (m : Made) → HoldsOf (stands_so s stamp (others s) (asked_of s) bonus (n.set s)) [] m
        → AllReplies s m.state (finish s stamp m.state)
    ends_of s under bonus m mid =
        finish_replies s stamp (others s) (asked_of s) bonus (n.set s) (only_here script w s q (stood s under) below) m.state m.posts mid

    -- what the command does to its set, and then the end of the move
    on_set : node_waits script n client ≡ false → (s : ℕ) (command : Command) (m : Made) → s < length script.sets → ActReplies client s command (n.set s) m
        → AllReplies s m.state (finish s stamp m.state)
        → ActTurns script n client command (touched begins s (record {
          state = (finish s stamp m.state).state;
          posts = m.posts ++ (finish s stamp m.state).posts;
          events = m.events ++ (finish s stamp m.state).events;
        }))
    on_set none s command m under says ends =
        let acts = act_ends client s command (n.set s) m (finish s stamp) says ends in
        record {
          others = λ c d. put_follows (length script.sets) n.set s _ c under (acts.others c d);
          own = λ commands count replies next before. act_follows (length script.sets) n.set s _ client command under (free none) acts commands count replies next before;
        }

    -- the same for a client that gives up what it waits for there
    on_own : (s : ℕ) (command : Command) (m : Made) → s < length script.sets → ((c : ℕ) → c ≢ client → Replies c s (n.set s) m)
        → EndsItself client s command (n.set s) m → AllReplies s m.state (finish s stamp m.state)
        → ActTurns script n client command (touched begins s (record {
          state = (finish s stamp m.state).state;
          posts = m.posts ++ (finish s stamp m.state).posts;
          events = m.events ++ (finish s stamp m.state).events;
        }))
    on_own s command m under says gone ends = record {
      others = λ c d. put_follows (length script.sets) n.set s _ c under (then_replies c s (n.set s) m (finish s stamp) (says c d) (ends c));
      own = λ commands count replies next before. itself_follows (length script.sets) n.set s _ client command under
          (itself_ends client s command (n.set s) m (finish s stamp) gone ends) commands count replies next before;
    }

    by_command : (command : Command) → (withdraws_itself n client (Some command) ≡ false → node_waits script n client ≡ false)
        → HasTargetsAt script client command → ActTurns script n client command (obey script stamp client (Some command) begins)
    by_command (Lock s mode) none t = on_set (none refl) s (Lock s mode) (locked s stamp client mode (n.set s)) t
        (locked_replies client s stamp mode (n.set s) ((first s t).one client)) (ends_of s t (one_for client) (locked s stamp client mode (n.set s))
        (locked_of s stamp client _ _ (clients_acts s n.clock stamp client (others s) (asked_of s) (n.set s) refl) mode (n.set s) [] (begun (none refl) s t)))
    by_command (Try s mode) none t = on_set (none refl) s (Try s mode) (tried s stamp client mode (n.set s)) t
        (tried_replies client s stamp mode (n.set s)) (ends_of s t (one_for client) (tried s stamp client mode (n.set s))
        (tried_of s stamp client _ _ (clients_acts s n.clock stamp client (others s) (asked_of s) (n.set s) refl) mode (n.set s) [] (begun (none refl) s t)))
    by_command (Unlock s mode) none t = on_set (none refl) s (Unlock s mode) (unlocked s client mode (n.set s)) t
        (unlocked_replies client s mode (n.set s)) (ends_of s t (one_for client) (unlocked s client mode (n.set s))
        (unlocked_of s stamp client _ _ (clients_acts s n.clock stamp client (others s) (asked_of s) (n.set s) refl) mode (n.set s) [] (begun (none refl) s t)))
    by_command (Change s gives_up mode) none t = on_set (none refl) s (Change s gives_up mode) (changed s stamp client gives_up mode (n.set s)) t
        (changed_replies client s stamp gives_up mode (n.set s) ((first s t).one client)) (ends_of s t (one_for client) (changed s stamp client gives_up mode (n.set s))
        (changed_of s stamp client _ _ (clients_acts s n.clock stamp client (others s) (asked_of s) (n.set s) refl) gives_up mode (n.set s) [] (begun (none refl) s t)))
    by_command (Withdraw other s) none t = by_own (withdraws_itself n client (Some (Withdraw other s))) refl
      where
        ends : AllReplies s (withdrawn s client other (n.set s)).state (finish s stamp (withdrawn s client other (n.set s)).state)
        ends = ends_of s t.0 (λ c. 0) (withdrawn s client other (n.set s))
            (withdrawn_of s n.clock stamp client other (others s) (asked_of s) (n.set s) refl (n.set s) [] (standing s t.0, first s t.0))

        by_own : (own : Bool) → withdraws_itself n client (Some (Withdraw other s)) ≡ own
            → ActTurns script n client (Withdraw other s) (obey script stamp client (Some (Withdraw other s)) begins)
        by_own false e = on_set (none e) s (Withdraw other s) (withdrawn s client other (n.set s)) t.0 (withdrawn_replies client other s (n.set s)) ends
        by_own true e =
            let parts = and_parts (other == client) (waits (n.set s) client) e in
            on_own s (Withdraw other s) (withdrawn s client other (n.set s)) t.0 (withdrawn_replies client other s (n.set s)).others
            (subst (λ (x : ℕ). EndsItself client s (Withdraw x s) (n.set s) (withdrawn s client x (n.set s))) (sym (eqb-true other client parts.0))
            (ends_itself client s (n.set s) parts.1)) ends
    by_command (DropAll other s) none t = by_waits (node_waits script begins other) refl
      where
        later : (k : ℕ) → k < length script.sets → Stands k q stamp.clock (others k) (asked_of k) (n.set k) []
        later k under = stands_later k q n.clock stamp.clock (others k) (asked_of k) (n.set k) [] (omega arith) (standing k under)

        finishes : (k : ℕ) → k < length script.sets → (u : SetState) → Stands k q stamp.clock (others k) (asked_of k) u [] → Clients (λ c. 0) (n.set k) u
            → AllReplies k u (finish k stamp u)
        finishes k under u stood_now sound =
            finish_replies k stamp (others k) (asked_of k) (λ c. 0) (n.set k) (only_here script w k q (stood k under) below) u [] (stood_now, sound)

        drops : node_waits script begins other ≡ false → (k : ℕ) → k < length script.sets → AllReplies k (n.set k) (drop k stamp other (n.set k))
        drops e k under =
            let u = dropped other (n.set k) in
            let kept = later k under in
            then_all k (n.set k) (silent u) (finish k stamp) (no_lines k (n.set k) (silent u) refl refl refl)
            (finishes k under u (record { once = kept.once; own = kept.own; apart = kept.apart; copies = kept.copies })
            (drops_kept other (n.set k) (n.set k) (first k under, idle_in script n other e k under)))

        each : (rule : ℕ → SetState → Made) → ((k : ℕ) → k < length script.sets → AllReplies k (n.set k) (rule k (n.set k))) → (c : ℕ)
            → Follows (length script.sets) n.set (each_touched rule (related script s) begins).node.set c (each_touched rule (related script s) begins).events
        each rule replies c = each_follows (length script.sets) rule c (related script s) (λ k. once_or_aside script k (Some (DropAll other s)))
            (related_below script s) begins
            (all_weaker (λ k. k < length script.sets) (λ k. AllReplies k (n.set k) (rule k (n.set k))) replies (related script s) (related_below script s))

        by_waits : (waiting : Bool) → node_waits script begins other ≡ waiting
            → ActTurns script n client (DropAll other s) (drop_all waiting stamp client other s (related script s) begins)
        by_waits true e = first_answer script n client (DropAll other s) (Busy client other s) (each_touched (λ k. finish k stamp) (related script s) begins)
            (λ c rest. refl) (inr refl) (free (none refl)) (each (λ k. finish k stamp) (λ k under. finishes k under (n.set k) (later k under) (first k under)))
        by_waits false e =
            let count = locks_in_sets begins other (related script s) in
            first_answer script n client (DropAll other s) (Dropped client other s count) (each_touched (λ k. drop k stamp other) (related script s) begins)
            (λ c rest. refl) (inl (count, refl)) (free (none refl)) (each (λ k. drop k stamp other) (drops e))
