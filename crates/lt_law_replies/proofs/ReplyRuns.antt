-- The replies to each client of a run answer its commands in turn.
use Rattle.std.proofs.Common.{◌≡◌, ◌≢◌, ℕ, zero, suc, ◌+◌, ◌<◌, inl, inr, List, [], ◌++◌, length, Bool, true, false, refl, sym, ap, subst, arith, take, take_all, ◌∙◌, ◌⊎◌, ◌||◌, ◌&&◌, not, ◌==◌, IsTrue, slice_index_or, eq-eqb, eqb-true, append-nil}
use Rattle.std.specs.List.{list_any}
use Rattle.std.proofs.lemmas.Bool.{cases_eq}
use Rattle.std.proofs.lemmas.List.Elements.{Contains-get_or}
use Rattle.std.proofs.lemmas.List.Folds.{list_any_none}
use Rattle.lt_modes.specs.declared.ask.Ask.{Ask}
use Rattle.lt_modes.specs.declared.event.Event.{Event}
use Rattle.lt_modes.specs.declared.moves.Step.{Step}
use Rattle.lt_modes.specs.Script.{ScriptData}
use Rattle.lt_modes.specs.Serving.{is_gone}
use Rattle.lt_modes.specs.Waiting.{waits}
use Rattle.lt_lists.specs.Below.{any_below, one_if}
use Rattle.lt_lists.proofs.Members.{list_any-at}
use Rattle.lt_lists.proofs.Puts.{put-same, put-other}
use Rattle.lt_lists.proofs.Searches.{any_below_at}
use Rattle.lt_spec.specs.NodeMove.{home, commands_of, NodeState, NodeMade, node_waits, IsWhole}
use Rattle.lt_spec.specs.Holdings.{lines_of}
use Rattle.lt_spec.specs.World.{Logged, World, start, is_enabled, node_move, after, world_after, IsRun, replies_of}
use Rattle.lt_model.specs.Homes.{Homes}
use Rattle.lt_model.specs.Invariant.{WorldInvariant}
use Rattle.lt_model.proofs.NodeEffects.{after_node}
use Rattle.lt_law_lines.proofs.OwnerRuns.{along_runs}
use Rattle.lt_law_lines.proofs.WaitRules.{IsLive}
use Rattle.lt_law_lines.proofs.WaitActs.{NoneOf}
use Rattle.lt_law_lines.proofs.WaitMoves.{IsFree}
use Rattle.lt_law_own_lines.proofs.OwnEffects.{own_lines_of_moves}
use Rattle.lt_law_own_lines.proofs.OwnRuns.{replies_append, no_replies, replies_of_log}
use Rattle.lt_spec.specs.Script.{AnswersAt, AnswersInTurn}
use Rattle.lt_law_replies.specs.ReplyLaws.{RepliesInTurn, LogInTurn, OneReplyEach, UnansweredWait, AsksAnswerNext}
use Rattle.lt_law_replies.proofs.ReplyMoves.{IsDone, IsOpen, InTurn}
use Rattle.lt_law_replies.proofs.ReplySteps.{move_stays}

-- at a node the replies of these lines answer the client's commands in turn
abbrev pub InTurnAt : ScriptData → List Event → NodeState → ℕ → Type 0
InTurnAt script replies n c = InTurn (length script.sets) n.set c (commands_of script c) (n.made c) replies

-- and so it is of all clients, each at its node
abbrev pub AllInTurn : ScriptData → List Event → World → Type 0
AllInTurn script lines w = (c : ℕ) → InTurnAt script (replies_of c lines) (w.node (home script c)) c

turns_after : (script : ScriptData) (w : World) (lines : List Event) (q : ℕ) (step : Step) → IsWhole script → WorldInvariant script w → Homes script w
    → IsTrue (is_enabled script w q step) → AllInTurn script lines w → AllInTurn script (lines ++ (node_move script w q step).events) (after script w q step)
turns_after script w lines q step whole kept homes enabled h c =
    subst (λ (l : List Event). InTurnAt script l ((after script w q step).node (home script c)) c) (sym (replies_append c lines made.events))
    (by_home (cases_eq (home script c) q))
  where
    made : NodeMade
    made = node_move script w q step

    by_home : (home script c ≡ q) ⊎ (home script c ≢ q)
        → InTurnAt script (replies_of c lines ++ replies_of c made.events) ((after script w q step).node (home script c)) c
    by_home (inl e) =
        let now : (after script w q step).node (home script c) ≡ made.node =
        ap (after script w q step).node e ∙ after_node script w q step q ∙ put-same w.node q made.node in
        subst (λ (n : NodeState). InTurnAt script (replies_of c lines ++ replies_of c made.events) n c) (sym now)
        (move_stays script w q step whole kept enabled c (replies_of c lines)
        (subst (λ (x : ℕ). InTurnAt script (replies_of c lines) (w.node x) c) e (h c)))
    by_home (inr d) =
        let now : (after script w q step).node (home script c) ≡ w.node (home script c) =
        after_node script w q step (home script c) ∙ put-other w.node q made.node (home script c) d in
        let none = no_replies script q c made.events (own_lines_of_moves script w whole homes q step enabled) d in
        subst (λ (n : NodeState). InTurnAt script (replies_of c lines ++ replies_of c made.events) n c) (sym now)
        (subst (λ (l : List Event). InTurnAt script l (w.node (home script c)) c)
        (sym (ap (λ (l : List Event). replies_of c lines ++ l) none ∙ append-nil (replies_of c lines))) (h c))

first_turns : (script : ScriptData) → AllInTurn script [] (start script)
first_turns script c = record {
  turn = λ k line e. cc;
  rest = inl (record { free = λ s below ask live own. omega (arith, live.0.1); all = refl });
}

in_turn : (script : ScriptData) (run : List Logged) → IsWhole script → IsRun script run → (k : ℕ)
    → AllInTurn script (lines_of (take k run)) (world_after script (take k run))
in_turn script run whole is_run k =
    along_runs script (AllInTurn script) whole (λ w lines q step kept homes enabled h. turns_after script w lines q step whole kept homes enabled h)
    (first_turns script) run is_run k

pub replies_in_turn : RepliesInTurn
replies_in_turn script run whole is_run k client = (in_turn script run whole is_run k client).turn

pub log_in_turn : LogInTurn
log_in_turn script run log whole is_run client own =
    subst (AnswersInTurn client (commands_of script client)) (replies_of_log script run log whole is_run client own)
    (subst (λ (entries : List Logged). AnswersInTurn client (commands_of script client) (replies_of client (lines_of entries)))
    (take_all (length run) run (omega arith)) (replies_in_turn script run whole is_run (length run) client))

-- who has no ask doesn't wait
none_waits : (script : ScriptData) (n : NodeState) (client : ℕ) → IsFree (length script.sets) n.set client → node_waits script n client ≡ false
none_waits script n client free = below (length script.sets) (λ s inside. no_ask s (is_gone (n.set s) client) refl (free s inside))
  where
    below : (count : ℕ) → ((s : ℕ) → s < count → waits (n.set s) client ≡ false) → any_below count (λ s. waits (n.set s) client) ≡ false
    below zero none = refl
    below (suc count) none = λ i. below count (λ s inside. none s (omega (arith, inside))) i || none count (omega arith) i

    no_ask : (s : ℕ) (gone : Bool) → is_gone (n.set s) client ≡ gone → NoneOf client (n.set s)
        → (list_any (λ (ask : Ask). ask.client == client) (n.set s).pending && not gone) ≡ false
    no_ask s true e none = none_of (list_any (λ (ask : Ask). ask.client == client) (n.set s).pending)
      where
        none_of : (some : Bool) → (some && false) ≡ false
        none_of true = refl
        none_of false = refl
    no_ask s false e none = ap (λ (some : Bool). some && true) (list_any_none (λ (ask : Ask). ask.client == client) (n.set s).pending
        (λ i d within. other (slice_index_or (n.set s).pending i d)
        (none (slice_index_or (n.set s).pending i d) (Contains-get_or (n.set s).pending i d within, e))))
      where
        other : (ask : Ask) → ask.client ≢ client → (ask.client == client) ≡ false
        other ask differs = by_test (ask.client == client) refl
          where
            by_test : (same : Bool) → (ask.client == client) ≡ same → same ≡ false
            by_test false e = refl
            by_test true e = absurd (differs (eqb-true ask.client client e))

-- who has one waits
some_waits : (script : ScriptData) (n : NodeState) (client s : ℕ) (ask : Ask) → s < length script.sets → IsLive (n.set s) client ask
    → ask.client ≡ client → node_waits script n client ≡ true
some_waits script n client s ask inside live own =
    any_below_at (length script.sets) s (λ k. waits (n.set k) client) inside
    ((λ i. list_any (λ (a : Ask). a.client == client) (n.set s).pending && not (live.1 i))
    ∙ ap (λ (some : Bool). some && true)
    (list_any-at (λ (a : Ask). a.client == client) (n.set s).pending ask live.0 (eq-eqb ask.client client own)))

-- a client that waits has one reply less than it made commands
counted : (script : ScriptData) (n : NodeState) (client : ℕ) (replies : List Event) → InTurnAt script replies n client
    → length replies + one_if (node_waits script n client) ≡ n.made client
counted script n client replies h = by_rest h.rest
  where
    by_rest : IsDone (length script.sets) n.set client (n.made client) replies
        ⊎ IsOpen (length script.sets) n.set client (commands_of script client) (n.made client) replies
        → length replies + one_if (node_waits script n client) ≡ n.made client
    by_rest (inl done) =
        let none : one_if (node_waits script n client) ≡ 0 = ap one_if (none_waits script n client done.free) in
        omega (arith, done.all, none)
    by_rest (inr open_ask) =
        let one : one_if (node_waits script n client) ≡ 1 =
        ap one_if (some_waits script n client open_ask.at open_ask.ask open_ask.inside open_ask.there open_ask.own) in
        omega (arith, open_ask.all_but_one, one)

pub one_reply_each : OneReplyEach
one_reply_each script run whole is_run k client =
    counted script ((world_after script (take k run)).node (home script client)) client (replies_of client (lines_of (take k run))) (in_turn script run whole is_run k client)

pub unanswered_wait : UnansweredWait
unanswered_wait script run whole is_run k client = omega (arith, one_reply_each script run whole is_run k client)

pub asks_answer_next : AsksAnswerNext
asks_answer_next script run whole is_run k client s ask inside there own live line ends = by_rest (in_turn script run whole is_run k client).rest
  where
    n : NodeState
    n = (world_after script (take k run)).node (home script client)

    by_rest : IsDone (length script.sets) n.set client (n.made client) (replies_of client (lines_of (take k run)))
        ⊎ IsOpen (length script.sets) n.set client (commands_of script client) (n.made client) (replies_of client (lines_of (take k run)))
        → AnswersAt client (commands_of script client) (length (replies_of client (lines_of (take k run)))) line
    by_rest (inl done) = absurd (done.free s inside ask (there, live) own)
    by_rest (inr waits) = (waits.only s inside ask (there, live) own).1 line ends
