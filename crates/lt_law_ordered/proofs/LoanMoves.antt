-- Each move keeps that clients hold no more than they may.
use Rattle.std.proofs.Common.{◌≡◌, ℕ, zero, suc, ◌+◌, ◌<◌, ◌≤◌, inl, inr, List, [], ◌∷◌, length, Option, Some, None, Bool, true, false, refl, sym, ap, subst, arith, take, ◌∙◌, ◌==◌, ◌||◌, not, nat_lt, IsTrue, slice_get, ltb-true, lt-ltb}
use Rattle.std.proofs.lemmas.Bool.{cases_eq, and_parts}
use Rattle.lt_modes.specs.declared.mode.Mode.{Mode}
use Rattle.lt_modes.specs.declared.stamp.Stamp.{Stamp}
use Rattle.lt_modes.specs.declared.command.Command.{Command}
use Rattle.lt_modes.specs.declared.command.Command.TheVariants.{Lock, Unlock, Try, Change, DropAll, Withdraw}
use Rattle.lt_modes.specs.declared.moves.Step.{Step}
use Rattle.lt_modes.specs.declared.moves.Step.TheVariants.{Act, Take}
use Rattle.lt_modes.specs.State.{Made, SetState, Letter}
use Rattle.lt_modes.specs.Script.{ScriptData}
use Rattle.lt_modes.specs.SetMove.{finish, drop}
use Rattle.lt_lists.proofs.Puts.{put-same, put-other}
use Rattle.lt_spec.specs.NodeMove.{home, commands_of, related, NodeState, node_waits, has_command, next_command, act_stamp, at_clock, one_made, node_act, node_take, touched, each_touched, drop_all, obey, IsWhole, withdraws_itself}
use Rattle.lt_spec.specs.Holdings.{Holding, holding, times_held}
use Rattle.lt_spec.specs.World.{Logged, World, start, is_enabled, is_waiting, is_free_to_act, is_some_letter, take_front, node_move, after, world_after, IsRun}
use Rattle.lt_model.specs.Invariant.{WorldInvariant}
use Rattle.lt_model.proofs.HomesMove.{IsMaker, maker, next_targets}
use Rattle.lt_model.proofs.PathsMove.{kept_stands, has_mail_parts}
use Rattle.lt_model.proofs.NodeEffects.{after_node}
use Rattle.lt_law_accounts.proofs.RowTotals.{total}
use Rattle.lt_law_invariant.proofs.ClientsKept.{sound_clients}
use Rattle.lt_law_lines.proofs.OwnerRuns.{along_runs}
use Rattle.lt_spec.specs.Ordered.{may_hold}
use Rattle.lt_law_ordered.proofs.Loans.{asks_for}
use Rattle.lt_law_ordered.specs.OrderedLaws.{is_steady}
use Rattle.lt_law_ordered.proofs.ActLoans.{ActLoans}
use Rattle.lt_law_ordered.proofs.NodeLoans.{act_loans, take_loans}
use Rattle.lt_law_ordered.proofs.MayHold.{may_hold_more, may_count, count_grows}

-- at its node the client holds and asks for no more than it may hold after the commands that it has made;
-- where it waits, the last of them was a `lock` of that set and mode
pub record KeepsWithin (script : ScriptData) (n : NodeState) (c : ℕ) : Type 0 where
  pub loans : (s : ℕ) (mode : Mode) → s < length script.sets
      → total (n.set s).held c mode + asks_for (n.set s) c mode ≤ times_held (may_hold script c (n.made c)) (holding c s mode)
  pub asked : (s : ℕ) (mode : Mode) → s < length script.sets → 1 ≤ asks_for (n.set s) c mode
      → (k : ℕ) × (n.made c ≡ suc k) × (slice_get (commands_of script c) k ≡ Some (Lock s mode))

abbrev pub AllWithin : ScriptData → World → Type 0
AllWithin script w = (c : ℕ) → c < length script.clients → KeepsWithin script (w.node (home script c)) c

-- no client of the script changes a mode
abbrev pub AreSteady : ScriptData → Type 0
AreSteady script = (c k : ℕ) (command : Command) → c < length script.clients → slice_get (commands_of script c) k ≡ Some command → IsTrue (is_steady command)

-- the client makes no command, and holds and asks for no more
record StaysWithin (script : ScriptData) (n later : NodeState) (c : ℕ) : Type 0 where
  asks : (s : ℕ) (mode : Mode) → s < length script.sets → asks_for (later.set s) c mode ≤ asks_for (n.set s) c mode
  counts : (s : ℕ) (mode : Mode) → s < length script.sets
      → total (later.set s).held c mode + asks_for (later.set s) c mode ≤ total (n.set s).held c mode + asks_for (n.set s) c mode
  made : later.made c ≡ n.made c

-- the client makes this command
record MakesOne (script : ScriptData) (n later : NodeState) (c : ℕ) (command : Command) : Type 0 where
  next : slice_get (commands_of script c) (n.made c) ≡ Some command
  acts : (s : ℕ) → s < length script.sets → ActLoans script c s command (n.set s) (later.set s)
  made : later.made c ≡ suc (n.made c)

stays_within : (script : ScriptData) (n later : NodeState) (c : ℕ) → StaysWithin script n later c → KeepsWithin script n c → KeepsWithin script later c
stays_within script n later c same h = record {
  loans = λ s mode under. omega (arith, same.counts s mode under, h.loans s mode under, ap (λ (k : ℕ). times_held (may_hold script c k) (holding c s mode)) same.made);
  asked = λ s mode under some.
      let last = h.asked s mode under (omega (arith, some, same.asks s mode under)) in
      (last.0, same.made ∙ last.1, last.2);
}

makes_within : (script : ScriptData) (n later : NodeState) (c : ℕ) (command : Command) → IsTrue (is_steady command) → MakesOne script n later c command → KeepsWithin script n c → KeepsWithin script later c
makes_within script n later c command steady makes h = record {
  loans = λ s mode under.
      let key = holding c s mode in
      let locks = may_hold script c (n.made c) in
      omega (
        arith,
        (makes.acts s under).own mode,
        count_grows script c key (total (n.set s).held c mode) (times_held locks key) command steady (omega (arith, h.loans s mode under)),
        may_count script c key locks command,
        ap (λ (l : List Holding). times_held l key) (may_hold_more script c (n.made c) command makes.next),
        ap (λ (k : ℕ). times_held (may_hold script c k) key) makes.made,
      );
  asked = λ s mode under some. (n.made c, makes.made, makes.next ∙ ap Some ((makes.acts s under).asks mode some));
}

-- how many commands clients have made, as one of them makes a command
each_made : (rule : ℕ → SetState → Made) (sets : List ℕ) (n : NodeState) (c : ℕ) → (each_touched rule sets n).node.made c ≡ n.made c
each_made rule [] n c = refl
each_made rule (s ∷ rest) n c = each_made rule rest (touched n s (rule s (n.set s))).node c

obey_made : (script : ScriptData) (stamp : Stamp) (client : ℕ) (command : Command) (n : NodeState) (c : ℕ) → (obey script stamp client (Some command) n).node.made c ≡ n.made c
obey_made script stamp client (Lock s mode) n c = refl
obey_made script stamp client (Try s mode) n c = refl
obey_made script stamp client (Unlock s mode) n c = refl
obey_made script stamp client (Change s gives_up mode) n c = refl
obey_made script stamp client (Withdraw other s) n c = refl
obey_made script stamp client (DropAll other s) n c = by_waits (node_waits script n other)
  where
    by_waits : (waiting : Bool) → (drop_all waiting stamp client other s (related script s) n).node.made c ≡ n.made c
    by_waits true = each_made (λ k. finish k stamp) (related script s) n c
    by_waits false = each_made (λ k. drop k stamp other) (related script s) n c

-- a command that is left is there
not_none : (commands : List Command) (k : ℕ) → nat_lt k (length commands) ≡ true → slice_get commands k ≡ None → ⊥
not_none [] k h e = omega (arith, ltb-true k 0 h)
not_none (command ∷ rest) zero h e = cc
not_none (command ∷ rest) (suc k) h e = not_none rest k (lt-ltb k (length rest) (omega (arith, ltb-true (suc k) (suc (length rest)) h))) e

act_within : (script : ScriptData) (w : World) (q client : ℕ) → IsWhole script → AreSteady script → WorldInvariant script w → IsTrue (is_enabled script w q (Act client))
    → (c : ℕ) → c < length script.clients → KeepsWithin script (w.node q) c → KeepsWithin script (node_act script q client (w.node q)).node c
act_within script w q client whole steady h enabled c known within = by_command (next_command script n client) refl
  where
    n : NodeState
    n = w.node q

    own : IsMaker script q client
    own = maker script w q client enabled

    below : q < script.nodes
    below = subst (λ (x : ℕ). x < script.nodes) own.own (whole.homes client own.known)

    not_true : (t : Bool) → not t ≡ true → t ≡ false
    not_true true e = cc
    not_true false e = refl

    alone : (first second : Bool) → second ≡ false → (first || second) ≡ true → first ≡ true
    alone true second e f = refl
    alone false true e f = cc
    alone false false e f = cc

    -- it waits for nothing, or gives up what it waits for; and it has a command
    ready : (withdraws_itself n client (next_command script n client) ≡ false → node_waits script n client ≡ false) × (has_command script n client ≡ true)
    ready =
        let first = and_parts (nat_lt client (length script.clients)) _ enabled in
        let second = and_parts (home script client == q) _ first.1 in
        let third = and_parts (is_free_to_act script w client) _ second.1 in (
          λ other.
              let here : withdraws_itself (w.node (home script client)) client (next_command script (w.node (home script client)) client) ≡ false =
              ap (λ (x : ℕ). withdraws_itself (w.node x) client (next_command script (w.node x) client)) own.own ∙ other in
              ap (λ (x : ℕ). node_waits script (w.node x) client) (sym own.own) ∙ not_true (is_waiting script w client) (alone (not (is_waiting script w client)) _ here third.0),
          ap (λ (x : ℕ). has_command script (w.node x) client) (sym own.own) ∙ third.1,
        )

    by_command : (command : Option Command) → next_command script n client ≡ command
        → KeepsWithin script (obey script (act_stamp q n) client command (one_made client (at_clock (n.clock + 1) n))).node c
    by_command None e = absurd (not_none (commands_of script client) (n.made client) ready.1 e)
    by_command (Some command) e = elim (cases_eq c client) [
      | inl same ↦ subst (KeepsWithin script later) (sym same)
          (makes_within script n later client command (steady client (n.made client) command own.known e)
          (record { next = e; acts = acts; made = obey_made script (act_stamp q n) client command begins client ∙ put-same n.made client (n.made client + 1) ∙ omega arith })
          (subst (KeepsWithin script n) same within))
      | inr d ↦ stays_within script n later c (record {
        asks = λ s mode under. ((acts s under).others c mode d).0;
        counts = λ s mode under. ((acts s under).others c mode d).1;
        made = obey_made script (act_stamp q n) client command begins c ∙ put-other n.made client (n.made client + 1) c d;
      }) within
    ]
      where
        begins : NodeState
        begins = one_made client (at_clock (n.clock + 1) n)

        later : NodeState
        later = (obey script (act_stamp q n) client (Some command) begins).node

        acts : (s : ℕ) → s < length script.sets → ActLoans script client s command (n.set s) (later.set s)
        acts = act_loans script w q client command (λ s under. kept_stands script w s (h.sets s under)) below (sound_clients script w q h below)
            (λ other. ready.0 (ap (withdraws_itself n client) e ∙ other))
            (next_targets script n client command whole e) (steady client (n.made client) command own.known e)

take_within : (script : ScriptData) (w : World) (p q : ℕ) → WorldInvariant script w → IsTrue (is_enabled script w q (Take p))
    → (c : ℕ) → KeepsWithin script (w.node q) c → KeepsWithin script (take_front q (w.node q) (w.mail p q)).node c
take_within script w p q h enabled c within =
    let is_there = has_mail_parts script w p q enabled in
    by_letters (w.mail p q) refl is_there.letter is_there.sender is_there.receiver
  where
    by_letters : (letters : List Letter) → w.mail p q ≡ letters → is_some_letter letters ≡ true → p < script.nodes → q < script.nodes
        → KeepsWithin script (take_front q (w.node q) letters).node c
    by_letters [] e none from below = cc
    by_letters (letter ∷ rest) e there from below = stays_within script (w.node q) (node_take q letter (w.node q)).node c (record {
      asks = λ s mode under. (take_loans script w p q letter rest h e from below s under).asks c mode;
      counts = λ s mode under. (take_loans script w p q letter rest h e from below s under).counts c mode;
      made = refl;
    }) within

step_within : (script : ScriptData) (w : World) (q : ℕ) (step : Step) → IsWhole script → AreSteady script → WorldInvariant script w → IsTrue (is_enabled script w q step)
    → (c : ℕ) → c < length script.clients → KeepsWithin script (w.node q) c → KeepsWithin script (node_move script w q step).node c
step_within script w q (Act client) whole steady h enabled c known within = act_within script w q client whole steady h enabled c known within
step_within script w q (Take p) whole steady h enabled c known within = take_within script w p q h enabled c within

all_within_after : (script : ScriptData) (w : World) (q : ℕ) (step : Step) → IsWhole script → AreSteady script → WorldInvariant script w → IsTrue (is_enabled script w q step)
    → AllWithin script w → AllWithin script (after script w q step)
all_within_after script w q step whole steady kept enabled h c known = elim (cases_eq (home script c) q) [
  | inl e ↦
      let now : (after script w q step).node (home script c) ≡ (node_move script w q step).node =
      ap (after script w q step).node e ∙ after_node script w q step q ∙ put-same w.node q (node_move script w q step).node in
      subst (λ (n : NodeState). KeepsWithin script n c) (sym now)
      (step_within script w q step whole steady kept enabled c known (subst (λ (x : ℕ). KeepsWithin script (w.node x) c) e (h c known)))
  | inr d ↦
      let now : (after script w q step).node (home script c) ≡ w.node (home script c) =
      after_node script w q step (home script c) ∙ put-other w.node q (node_move script w q step).node (home script c) d in
      subst (λ (n : NodeState). KeepsWithin script n c) (sym now) (h c known)
]

all_within_first : (script : ScriptData) → AllWithin script (start script)
all_within_first script c known = record {
  loans = λ s mode under. omega arith;
  asked = λ s mode under some. absurd (omega (arith, some));
}

pub within_in_runs : (script : ScriptData) (run : List Logged) → IsWhole script → IsRun script run → AreSteady script → (k : ℕ) → AllWithin script (world_after script (take k run))
within_in_runs script run whole is_run steady k =
    along_runs script (λ lines w. AllWithin script w) whole (λ w lines q step kept homes enabled h. all_within_after script w q step whole steady kept enabled h)
    (all_within_first script) run is_run k
