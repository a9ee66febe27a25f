-- What clients hold and ask for at a node, through the command of one of them and through a letter.
use Rattle.std.proofs.Common.{◌≡◌, ◌≢◌, ℕ, ◌+◌, ◌<◌, ◌≤◌, inl, inr, List, [], ◌∷◌, ◌++◌, length, Some, Bool, true, false, refl, sym, ap, subst, arith, ◌∙◌, ◌⊎◌, ◌==◌, not, IsTrue, Contains, count_by, drop as drop_front, ne_eqb}
use Rattle.std.specs.List.{AllByRecursion, list_any}
use Rattle.std.proofs.lemmas.Bool.{cases_eq, and_left, and_right, and_parts, and_from, false≢true}
use Rattle.std.proofs.lemmas.List.Elements.{All-contains}
use Rattle.lt_modes.specs.declared.mode.Mode.{Mode}
use Rattle.lt_modes.specs.declared.stamp.Stamp.{Stamp}
use Rattle.lt_modes.specs.declared.ask.Ask.{Ask}
use Rattle.lt_modes.specs.declared.command.Command.{Command}
use Rattle.lt_modes.specs.declared.command.Command.TheVariants.{Lock, Unlock, Try, Change, DropAll, Withdraw}
use Rattle.lt_modes.specs.Script.{ScriptData}
use Rattle.lt_modes.specs.State.{SetState, CopyBody, Letter, Made, then_do}
use Rattle.lt_modes.specs.Serving.{is_gone}
use Rattle.lt_modes.specs.Waiting.{waits}
use Rattle.lt_modes.specs.SetMove.{locked, tried, unlocked, changed, dropped, drop, withdrawn, finish}
use Rattle.lt_modes.specs.Taking.{take as take_letter}
use Rattle.lt_lists.specs.Below.{put}
use Rattle.lt_spec.specs.NodeMove.{related, is_related, NodeState, node_waits, act_stamp, take_stamp, at_clock, one_made, drop_all, obey, node_take, HasTargetsAt, withdraws_itself}
use Rattle.lt_spec.specs.Holdings.{holding}
use Rattle.lt_spec.specs.World.{World, put_mail}
use Rattle.lt_model.specs.Invariant.{WorldInvariant, AsksStand}
use Rattle.lt_lists.proofs.Puts.{put-same, put-other}
use Rattle.lt_lists.proofs.Members.{list_any-which}
use Rattle.lt_lists.proofs.Sums.{counted_some, sum_below-two}
use Rattle.lt_model.proofs.Effects.{Fact, HoldsOf, EndEffects, ends_by_effects, finish_by_effects, take_by_effects, both}
use Rattle.lt_model.proofs.StandingBegins.{copies_are_on_way, stands_arrived, elsewhere, unanswered, only_here, stands_before, none_in_hand, stands_of_set}
use Rattle.lt_model.proofs.PathsMove.{kept_stands, desk_somewhere}
use Rattle.lt_model.proofs.NodeEffects.{IsOfSet, IsOnce, once_or_aside, each_by_effects, both_of_set, each-beside}
use Rattle.lt_model.proofs.SentInMove.{finish-sent, drop-sent, Stands, stands}
use Rattle.lt_model.proofs.StandingEffects.{stands_later}
use Rattle.lt_law_invariant.proofs.ClientEffects.{Clients, clients, is_asks, live_by}
use Rattle.lt_law_invariant.proofs.ClientCommands.{one_for, IsIdle, idle, clients_acts, drops_kept, locked_of, tried_of, unlocked_of, changed_of, withdrawn_of}
use Rattle.lt_law_invariant.proofs.ClientMoves.{SoundClients, at_first, idle_in}
use Rattle.lt_law_invariant.proofs.ClientsKept.{sound_clients, clients_arrived}
use Rattle.lt_law_lines.proofs.LineCounts.{count_after}
use Rattle.lt_law_lines.proofs.HeldMoves.{some_set, related_aside}
use Rattle.lt_spec.specs.Ordered.{best_answer}
use Rattle.lt_law_ordered.specs.OrderedLaws.{is_steady}
use Rattle.lt_law_ordered.proofs.Loans.{Loans, loans, no_more, loans_ends, loans_arrived}
use Rattle.lt_law_ordered.proofs.ActLoans.{ActLoans, act_then, grant_more, locked_loans, tried_loans, withdrawn_loans}
use Rattle.lt_law_ordered.proofs.ChangeLoans.{unlocked_loans, changed_loans, change_aside, dropped_loans, aside_loans, unlock_aside, drop_aside, drop_other}

-- a client that waits in a set waits in no other one
pub idle_aside : (script : ScriptData) (n : NodeState) → SoundClients script n → (client s k : ℕ) → s < length script.sets → k < length script.sets → k ≢ s
    → waits (n.set s) client ≡ true → IsIdle client (n.set k)
idle_aside script n h client s k in_sets under d waiting = omega (
  arith,
  counted_some (live s) (n.set s).pending found.0 found.1 (and_from _ _ parts.1 found.2),
  sum_below-two (length script.sets) s k (λ x. count_by (live x) (n.set x).pending) in_sets under (λ same. d (sym same)),
  h.kept.one_ask client,
)
  where
    live : ℕ → Ask → Bool
    live x ask = live_by (is_gone (n.set x) client) client ask

    parts : (list_any (λ (ask : Ask). ask.client == client) (n.set s).pending ≡ true) × (not (is_gone (n.set s) client) ≡ true)
    parts = and_parts (list_any (λ (ask : Ask). ask.client == client) (n.set s).pending) _ waiting

    found : (ask : Ask) × Contains (n.set s).pending ask × ((ask.client == client) ≡ true)
    found = list_any-which (λ (ask : Ask). ask.client == client) (n.set s).pending parts.0

-- what a command of a client that waits for nothing, or that gives up what it waits for, does to each set of its node
pub act_loans : (script : ScriptData) (w : World) (q client : ℕ) (command : Command)
    → ((s : ℕ) → s < length script.sets → AsksStand script w s) → q < script.nodes → SoundClients script (w.node q)
    → (withdraws_itself (w.node q) client (Some command) ≡ false → node_waits script (w.node q) client ≡ false) → HasTargetsAt script client command → IsTrue (is_steady command) → (s : ℕ) → s < length script.sets
    → ActLoans script client s command ((w.node q).set s)
    ((obey script (act_stamp q (w.node q)) client (Some command) (one_made client (at_clock ((w.node q).clock + 1) (w.node q)))).node.set s)
act_loans script w q client command stood below h waits_not targets steady = by_command command waits_not targets steady
  where
    n : NodeState
    n = w.node q

    stamp : Stamp
    stamp = act_stamp q n

    begins : NodeState
    begins = one_made client (at_clock (n.clock + 1) n)

    in_move : ℕ → Fact
    in_move s = stands s q stamp.clock (elsewhere script w s q w.mail) (unanswered script w s q)

    standing : (s : ℕ) → s < length script.sets → Stands s q n.clock (elsewhere script w s q w.mail) (unanswered script w s q) (n.set s) []
    standing s under =
        none_in_hand s q n.clock (elsewhere script w s q w.mail) (unanswered script w s q) (λ a. 0) (n.set s) [] (λ a. refl)
        (stands_before script w s q w.mail (λ a. 0) (stood s under) below (λ a. omega arith))

    first : (s : ℕ) → s < length script.sets → Clients (λ c. 0) (n.set s) (n.set s)
    first s under = at_first script n h s under

    one_here : (s : ℕ) → s < length script.sets → count_by (is_asks client) (n.set s).pending ≤ 1
    one_here s under = h.one s under client

    idle_here : node_waits script n client ≡ false → (s : ℕ) → s < length script.sets → IsIdle client (n.set s)
    idle_here none s under = idle_in script n client none s under

    begun : node_waits script n client ≡ false → (s : ℕ) → s < length script.sets → both (stands s q n.clock (elsewhere script w s q w.mail) (unanswered script w s q)) (idle client (n.set s)) (n.set s) []
    begun none s under = (standing s under, (first s under, idle_here none s under))

    -- all that the end of a move keeps
    all_of : ℕ → (ℕ → ℕ) → SetState → Fact
    all_of s bonus u = both (both (in_move s) (clients bonus (n.set s))) (loans u)

    ends : (s : ℕ) → s < length script.sets → (bonus : ℕ → ℕ) (u : SetState) → EndEffects s stamp (all_of s bonus u) (all_of s bonus u) (all_of s bonus u)
    ends s under bonus u = loans_ends s stamp (elsewhere script w s q w.mail) (unanswered script w s q) bonus (n.set s) u (only_here script w s q (stood s under) below)

    -- one set is touched by a rule
    on_set : (bonus : ℕ → ℕ) → (set : ℕ) (m : Made) (command : Command) → set < length script.sets → ((s : ℕ) → s < length script.sets → s ≢ set → IsIdle client (n.set s))
        → ActLoans script client set command (n.set set) m.state → HoldsOf (both (in_move set) (clients bonus (n.set set))) [] m
        → ((s : ℕ) → s ≢ set → (mode : Mode) (k : ℕ) → k ≤ count_after script (holding client s mode) k (best_answer client command))
        → (s : ℕ) → s < length script.sets → ActLoans script client s command (n.set s) (put n.set set (then_do m (finish set stamp)).state s)
    on_set bonus set m command in_sets idle_others acts mid elsewhere_less s under = elim (cases_eq s set) [
      | inl e ↦
          let ended = ends_by_effects set stamp _ _ _ (ends set in_sets bonus m.state) m [] (mid, no_more m.state) in
          subst (λ (k : ℕ). ActLoans script client k command (n.set k) (put n.set set (then_do m (finish set stamp)).state k)) (sym e)
          (subst (ActLoans script client set command (n.set set)) (sym (put-same n.set set (then_do m (finish set stamp)).state))
          (act_then script client set command (n.set set) m.state (then_do m (finish set stamp)).state acts ended.1))
      | inr d ↦
          subst (ActLoans script client s command (n.set s)) (sym (put-other n.set set (then_do m (finish set stamp)).state s d))
          (aside_loans script client s command (n.set s) (idle_others s under d) (elsewhere_less s d))
    ]

    by_command : (command : Command) → (withdraws_itself n client (Some command) ≡ false → node_waits script n client ≡ false) → HasTargetsAt script client command
        → IsTrue (is_steady command) → (s : ℕ) → s < length script.sets
        → ActLoans script client s command (n.set s) ((obey script stamp client (Some command) begins).node.set s)
    by_command (Lock set mode) none t steady = on_set (one_for client) set (locked set stamp client mode (n.set set)) (Lock set mode) t (λ s under d. idle_here (none refl) s under) (locked_loans script client set stamp mode (n.set set) (idle_here (none refl) set t) (one_here set t))
        (locked_of set stamp client _ _ (clients_acts set n.clock stamp client (elsewhere script w set q w.mail) (unanswered script w set q) (n.set set) refl) mode (n.set set) [] (begun (none refl) set t))
        (λ s d m k. grant_more script client s set mode m k)
    by_command (Try set mode) none t steady = on_set (one_for client) set (tried set stamp client mode (n.set set)) (Try set mode) t (λ s under d. idle_here (none refl) s under) (tried_loans script client set stamp mode (n.set set) (idle_here (none refl) set t))
        (tried_of set stamp client _ _ (clients_acts set n.clock stamp client (elsewhere script w set q w.mail) (unanswered script w set q) (n.set set) refl) mode (n.set set) [] (begun (none refl) set t))
        (λ s d m k. grant_more script client s set mode m k)
    by_command (Unlock set mode) none t steady = on_set (one_for client) set (unlocked set client mode (n.set set)) (Unlock set mode) t (λ s under d. idle_here (none refl) s under) (unlocked_loans script client set mode (n.set set) (idle_here (none refl) set t) (h.some set t))
        (unlocked_of set stamp client _ _ (clients_acts set n.clock stamp client (elsewhere script w set q w.mail) (unanswered script w set q) (n.set set) refl) mode (n.set set) [] (begun (none refl) set t))
        (λ s d m k. unlock_aside script client s set mode m k d)
    by_command (Change set gives_up mode) none t steady = on_set (one_for client) set (changed set stamp client gives_up mode (n.set set)) (Change set gives_up mode) t (λ s under d. idle_here (none refl) s under)
        (changed_loans script client set stamp gives_up mode (n.set set) (idle_here (none refl) set t) (h.some set t) steady)
        (changed_of set stamp client _ _ (clients_acts set n.clock stamp client (elsewhere script w set q w.mail) (unanswered script w set q) (n.set set) refl) gives_up mode (n.set set) [] (begun (none refl) set t))
        (λ s d m k. change_aside script client s set gives_up mode m k d)
    by_command (DropAll other set) none t steady = λ s under. by_waits s under (node_waits script begins other) refl (once_or_aside script s (Some (DropAll other set)))
      where
        later : (s : ℕ) → s < length script.sets → in_move s (n.set s) []
        later s under = stands_later s q n.clock stamp.clock (elsewhere script w s q w.mail) (unanswered script w s q) (n.set s) [] (omega arith) (standing s under)

        all_of_set : (s : ℕ) (u : SetState) → IsOfSet s (all_of s (λ c. 0) u)
        all_of_set s u = both_of_set s _ _ (both_of_set s _ _ (stands_of_set s q stamp.clock (elsewhere script w s q w.mail) (unanswered script w s q)) (λ t posts more others k. k)) (λ t posts more others k. k)

        -- the set as the drop finds it
        found : ℕ → Fact
        found s = both (both (in_move s) (idle other (n.set s))) (λ t posts. t ≡ n.set s)

        found_of_set : (s : ℕ) → IsOfSet s (found s)
        found_of_set s = both_of_set s _ _ (both_of_set s _ _ (stands_of_set s q stamp.clock (elsewhere script w s q w.mail) (unanswered script w s q)) (λ t posts more others k. k)) (λ t posts more others k. k)

        not_related : (s : ℕ) → s < length script.sets → AllByRecursion (λ k. k ≢ s) (related script set) → is_related script s set ≡ false
        not_related s under aside = related_aside script s set (some_set script.sets s under) under aside

        untouched : (s : ℕ) → s < length script.sets → AllByRecursion (λ k. k ≢ s) (related script set) → ActLoans script client s (DropAll other set) (n.set s) (n.set s)
        untouched s under aside = aside_loans script client s (DropAll other set) (n.set s) (idle_here (none refl) s under) (λ m k. drop_aside script client s other set m k (not_related s under aside))

        by_waits : (s : ℕ) → s < length script.sets → (waiting : Bool) → node_waits script begins other ≡ waiting
            → IsOnce s (related script set) ⊎ AllByRecursion (λ k. k ≢ s) (related script set)
            → ActLoans script client s (DropAll other set) (n.set s) ((drop_all waiting stamp client other set (related script set) begins).node.set s)
        by_waits s under true e (inl once) =
            act_then script client s (DropAll other set) (n.set s) (n.set s) _
            (aside_loans script client s (DropAll other set) (n.set s) (idle_here (none refl) s under)
            (λ m k. drop_other script client s other set m k (λ same. false≢true (sym (none refl) ∙ ap (node_waits script n) same ∙ e))))
            (each_by_effects s stamp (all_of s (λ c. 0) (n.set s)) (all_of s (λ c. 0) (n.set s)) (all_of_set s (n.set s)) (all_of_set s (n.set s))
            (λ k t. finish k stamp t) (λ k t. finish-sent k stamp t) (λ t posts b. finish_by_effects s stamp _ _ _ (ends s under (λ c. 0) (n.set s)) t posts b)
            (related script set) once begins [] ((later s under, first s under), no_more (n.set s))).1
        by_waits s under true e (inr aside) =
            subst (ActLoans script client s (DropAll other set) (n.set s)) (sym (each-beside s stamp (λ k. finish k stamp) (λ k t. finish-sent k stamp t) (related script set) aside begins).state)
            (untouched s under aside)
        by_waits s under false e (inl once) =
            act_then script client s (DropAll other set) (n.set s) (dropped other (n.set s)) _ (dropped_loans script client s other set (n.set s) (idle_here (none refl) s under))
            (each_by_effects s stamp (found s) (all_of s (λ c. 0) (dropped other (n.set s))) (found_of_set s) (all_of_set s (dropped other (n.set s)))
            (λ k t. drop k stamp other t) (λ k t. drop-sent k stamp other t)
            (λ t posts b. finish_by_effects s stamp _ _ _ (ends s under (λ c. 0) (dropped other (n.set s))) (dropped other t) posts (
              (record { once = b.0.0.once; own = b.0.0.own; apart = b.0.0.apart; copies = b.0.0.copies }, drops_kept other (n.set s) t b.0.1),
              subst (λ (x : SetState). Loans (dropped other (n.set s)) (dropped other x)) (sym b.1) (no_more (dropped other (n.set s))),
            ))
            (related script set) once begins [] ((later s under, (first s under, idle_in script n other e s under)), refl)).1
        by_waits s under false e (inr aside) =
            subst (ActLoans script client s (DropAll other set) (n.set s)) (sym (each-beside s stamp (λ k. drop k stamp other) (λ k t. drop-sent k stamp other t) (related script set) aside begins).state)
            (untouched s under aside)
    by_command (Withdraw other set) none t steady = on_set (λ c. 0) set (withdrawn set client other (n.set set)) (Withdraw other set) t.0 idle_others
        (withdrawn_loans script client other set (n.set set) (λ d. idle_here (none (and_left (other == client) _ (ne_eqb other client d))) set t.0))
        (withdrawn_of set n.clock stamp client other (elsewhere script w set q w.mail) (unanswered script w set q) (n.set set) refl (n.set set) [] (standing set t.0, first set t.0))
        (λ s d m k. omega arith)
      where
        idle_others : (s : ℕ) → s < length script.sets → s ≢ set → IsIdle client (n.set s)
        idle_others s under d = by_waits (waits (n.set set) client) refl
          where
            by_waits : (waiting : Bool) → waits (n.set set) client ≡ waiting → IsIdle client (n.set s)
            by_waits true e = idle_aside script n h client set s t.0 under d e
            by_waits false e = idle_here (none (and_right (other == client) _ e)) s under

-- what a letter does to each set of its node
pub take_loans : (script : ScriptData) (w : World) (p q : ℕ) (letter : Letter) (rest : List Letter) → WorldInvariant script w → w.mail p q ≡ letter ∷ rest → p < script.nodes → q < script.nodes
    → (s : ℕ) → s < length script.sets → Loans ((w.node q).set s) ((node_take q letter (w.node q)).node.set s)
take_loans script w p q letter rest h front from below s under = elim (cases_eq s letter.set) [
  | inl e ↦ subst (λ (k : ℕ). Loans (n.set k) (put n.set letter.set m.state k)) (sym e) (subst (Loans t) (sym (put-same n.set letter.set m.state)) ended.1)
  | inr d ↦ subst (Loans (n.set s)) (sym (put-other n.set letter.set m.state s d)) (no_more (n.set s))
]
  where
    n : NodeState
    n = w.node q

    stamp : Stamp
    stamp = take_stamp q n letter

    t : SetState
    t = n.set letter.set

    m : Made
    m = take_letter stamp letter t

    left : ℕ → ℕ → List Letter
    left = put_mail w.mail p q (drop_front 1 (w.mail p q))

    among : Contains (w.mail p q) letter
    among = subst (λ (l : List Letter). Contains l letter) (sym front) (0, omega arith, refl)

    in_sets : letter.set < length script.sets
    in_sets = All-contains (λ (l : Letter). l.set < length script.sets) (w.mail p q) letter (h.letters p q from below) among

    stood : AsksStand script w letter.set
    stood = kept_stands script w letter.set (h.sets letter.set in_sets)

    first : Clients (λ c. 0) t t
    first = at_first script n (sound_clients script w q h below) letter.set in_sets

    waits : (ask : Ask) → letter.body ≡ CopyBody ask → Contains t.pending ask
    waits ask says =
        let found = desk_somewhere script w letter.set (h.sets letter.set in_sets).paths in
        (((h.sets letter.set in_sets).known found.0 found.1 found.2).accounts q below).owed.waits ask
        ((copies_are_on_way script w letter.set q ask).1 (p, letter, from, record { among = among; set = refl }, says))

    ended : both (both (stands letter.set q stamp.clock (elsewhere script w letter.set q left) (unanswered script w letter.set q)) (clients (λ c. 0) t)) (loans t) m.state ([] ++ m.posts)
    ended = take_by_effects stamp letter _ _ _
        (loans_ends letter.set stamp (elsewhere script w letter.set q left) (unanswered script w letter.set q) (λ c. 0) t t (only_here script w letter.set q stood below))
        t [] (
          (
            stands_arrived script w letter.set p q letter rest (h.sets letter.set in_sets).paths stood from below front refl,
            clients_arrived stamp letter t first (stood.apart q below) waits,
          ),
          loans_arrived stamp letter t first.some first.one (stood.apart q below) waits,
        )
