-- Each move of a run of an upgrading script keeps what clients may hold, and what it makes of the desk.
use Rattle.std.proofs.Common.{◌≡◌, ℕ, zero, suc, ◌+◌, ◌<◌, inl, inr, List, [], ◌∷◌, length, Option, Some, None, Bool, true, false, refl, sym, ap, subst, arith, ◌∙◌, ◌⊎◌, ◌==◌, not, nat_lt, if◌then◌else◌, IsTrue, Contains, slice_get, eq-eqb, ltb-true, lt-ltb, ◌||◌, ◌≢◌, ne_eqb}
use Rattle.std.proofs.lemmas.Bool.{cases_eq, and_parts, and_from, false≢true}
use Rattle.lt_modes.specs.declared.mode.Mode.{Mode}
use Rattle.lt_modes.specs.declared.command.Command.{Command}
use Rattle.lt_modes.specs.declared.command.Command.TheVariants.{Lock, Try, Unlock, Change, DropAll, Withdraw}
use Rattle.lt_modes.specs.declared.moves.Step.{Step}
use Rattle.lt_modes.specs.declared.moves.Step.TheVariants.{Act, Take}
use Rattle.lt_modes.specs.State.{Made, SetState, Letter}
use Rattle.lt_modes.specs.Script.{ScriptData}
use Rattle.lt_modes.specs.SetMove.{drop, finish}
use Rattle.lt_lists.proofs.Members.{filter_map-which, contains_first, contains_later, some_equal, list_any-at}
use Rattle.lt_lists.proofs.Puts.{put-same, put-other}
use Rattle.lt_spec.specs.NodeMove.{home, command_if, withdraws_itself, commands_of, related, NodeState, NodeMade, node_waits, has_command, next_command, act_stamp, at_clock, one_made, node_act, node_take, touched, each_touched, drop_all, obey, IsWhole}
use Rattle.lt_spec.specs.World.{World, is_enabled, is_free_to_act, is_waiting, is_some_letter, take_front, node_move}
use Rattle.lt_model.specs.Homes.{Homes}
use Rattle.lt_model.specs.Invariant.{WorldInvariant}
use Rattle.lt_model.proofs.HomesMove.{IsMaker, maker, next_targets}
use Rattle.lt_model.proofs.PathsMove.{kept_stands, has_mail_parts}
use Rattle.lt_law_invariant.proofs.ClientCommands.{IsIdle, no_ask_of}
use Rattle.lt_law_invariant.proofs.ClientEffects.{Clients}
use Rattle.lt_spec.specs.Holdings.{holding, times_held}
use Rattle.lt_modes.specs.Serving.{is_gone}
use Rattle.lt_law_invariant.proofs.ClientMoves.{SoundClients, act_clients, bonus_at, bonus_of, idle_in}
use Rattle.lt_law_invariant.proofs.ClientsKept.{sound_clients}
use Rattle.lt_law_upgrades.specs.UpgradeLaws.{IsUpgrading, may_still_hold, gives_up_wait, has_withdraw}
use Rattle.lt_law_upgrades.proofs.LiveAsks.{idle_gives, locks_and_asks, no_rows, new_at_most}
use Rattle.lt_law_upgrades.proofs.DeskStays.{IsSettled, HasLeft}
use Rattle.lt_law_upgrades.proofs.MayUpgrade.{upgrades_at, still_more, asks_none}
use Rattle.lt_law_upgrades.proofs.UpgradeWithin.{IsWithin, stays_in, makes_command, held_within}
use Rattle.lt_law_upgrades.proofs.UpgradeActs.{Acted, IsNoWithdraw, act_sets}
use Rattle.lt_law_upgrades.proofs.UpgradeWithdraws.{Withdraws, withdraw_sets}
use Rattle.lt_law_upgrades.proofs.UpgradeReady.{Taken, take_sets, IsSteadfast, ready_so}

-- what the move made of its node
pub record Moved (script : ScriptData) (q : ℕ) (made : NodeMade) : Type 0 where
  pub within : (c : ℕ) → c < length script.clients → home script c ≡ q → IsWithin script made.node c
  pub desk : (s : ℕ) → s < length script.sets → IsSettled script.nodes (made.node.set s) ⊎ HasLeft s q made.posts

-- how many commands clients have made, as one of them makes a command
each_made : (rule : ℕ → SetState → Made) (sets : List ℕ) (n : NodeState) (c : ℕ) → (each_touched rule sets n).node.made c ≡ n.made c
each_made rule [] n c = refl
each_made rule (s ∷ rest) n c = each_made rule rest (touched n s (rule s (n.set s))).node c

obey_made : (script : ScriptData) (client : ℕ) (q : ℕ) (clocked : NodeState) (command : Command) (n : NodeState) (c : ℕ)
    → (obey script (act_stamp q clocked) client (Some command) n).node.made c ≡ n.made c
obey_made script client q clocked (Lock s mode) n c = refl
obey_made script client q clocked (Try s mode) n c = refl
obey_made script client q clocked (Unlock s mode) n c = refl
obey_made script client q clocked (Change s gives_up mode) n c = refl
obey_made script client q clocked (Withdraw other s) n c = refl
obey_made script client q clocked (DropAll other s) n c = by_waits (node_waits script n other)
  where
    by_waits : (waiting : Bool) → (drop_all waiting (act_stamp q clocked) client other s (related script s) n).node.made c ≡ n.made c
    by_waits true = each_made (λ k. finish k (act_stamp q clocked)) (related script s) n c
    by_waits false = each_made (λ k. drop k (act_stamp q clocked) other) (related script s) n c

-- a command that is left is there
not_none : (commands : List Command) (k : ℕ) → nat_lt k (length commands) ≡ true → slice_get commands k ≡ None → ⊥
not_none [] k h e = omega (arith, ltb-true k 0 h)
not_none (command ∷ rest) zero h e = cc
not_none (command ∷ rest) (suc k) h e = not_none rest k (lt-ltb k (length rest) (omega (arith, ltb-true (suc k) (suc (length rest)) h))) e

-- who waits for nothing and may hold no lock of a set has none of it
no_locks : (script : ScriptData) (n : NodeState) (client s : ℕ) → IsWithin script n client → s < length script.sets → IsIdle client (n.set s) → SoundClients script n
    → ((mode : Mode) → times_held (may_still_hold script client (n.made client)) (holding client s mode) ≡ 0) → locks_and_asks (n.set s) client ≡ 0
no_locks script n client s within under idle sound none = omega (
  arith,
  no_rows (n.set s).held client (λ mode. omega (arith, none mode, held_within script n client s mode within under (idle_gives client (n.set s) idle mode))),
  new_at_most (is_gone (n.set s) client) client (n.set s).pending,
  idle,
)

-- a `withdraw` that is made is one of the script
get_there : {X : Type 0} (xs : List X) (k : ℕ) (x : X) → slice_get xs k ≡ Some x → Contains xs x
get_there [] k x e = cc
get_there (y ∷ ys) zero x e = contains_first y x ys (some_equal y x e)
get_there (y ∷ ys) (suc k) x e = contains_later y x ys (get_there ys k x e)

is_named : (script : ScriptData) (n : NodeState) (client other set : ℕ) → next_command script n client ≡ Some (Withdraw other set) → has_withdraw script other set ≡ true
is_named script n client other set e =
    let found = filter_map-which (command_if client) script.commands (Withdraw other set) (get_there (commands_of script client) (n.made client) (Withdraw other set) e) in
    list_any-at (λ (request : ℕ × Command). gives_up_wait other set request.1) script.commands found.0 found.1
    (ap (gives_up_wait other set) (by_client (found.0.0 == client) found.2) ∙ both_same)
  where
    by_client : {command : Command} (own : Bool) → (if own then Some command else None) ≡ Some (Withdraw other set) → command ≡ Withdraw other set
    by_client {command = command} true f = some_equal command (Withdraw other set) f
    by_client false f = cc

    both_same : gives_up_wait other set (Withdraw other set) ≡ true
    both_same = and_from _ _ (eq-eqb other other refl) (eq-eqb set set refl)

act_moved : (script : ScriptData) (w : World) (rank : ℕ → ℕ) (q client : ℕ) → IsWhole script → WorldInvariant script w → Homes script w → IsUpgrading script rank → IsSteadfast script w
    → IsTrue (is_enabled script w q (Act client)) → Moved script q (node_act script q client (w.node q))
act_moved script w rank q client whole kept homes upgrading h enabled = by_command (next_command script n client) refl
  where
    n : NodeState
    n = w.node q

    own : IsMaker script q client
    own = maker script w q client enabled

    below : q < script.nodes
    below = subst (λ (x : ℕ). x < script.nodes) own.own (whole.homes client own.known)

    begins : NodeState
    begins = one_made client (at_clock (n.clock + 1) n)

    not_true : (t : Bool) → not t ≡ true → t ≡ false
    not_true true e = cc
    not_true false e = refl

    alone : (first second : Bool) → second ≡ false → (first || second) ≡ true → first ≡ true
    alone true second e f = refl
    alone false true e f = cc
    alone false false e f = cc

    able : (is_free_to_act script w client ≡ true) × (has_command script (w.node (home script client)) client ≡ true)
    able =
        let first = and_parts (nat_lt client (length script.clients)) _ enabled in
        let second = and_parts (home script client == q) _ first.1 in
        and_parts (is_free_to_act script w client) _ second.1

    waits_not : withdraws_itself n client (next_command script n client) ≡ false → node_waits script n client ≡ false
    waits_not other =
        let here : withdraws_itself (w.node (home script client)) client (next_command script (w.node (home script client)) client) ≡ false =
        ap (λ (x : ℕ). withdraws_itself (w.node x) client (next_command script (w.node x) client)) own.own ∙ other in
        ap (λ (x : ℕ). node_waits script (w.node x) client) (sym own.own)
        ∙ not_true (is_waiting script w client) (alone (not (is_waiting script w client)) _ here able.0)

    -- the client's part of what a command leaves
    was_within : (c : ℕ) → c < length script.clients → home script c ≡ q → IsWithin script n c
    was_within c known at_q = subst (λ (x : ℕ). IsWithin script (w.node x) c) at_q (h.within c known)

    made_own : (command : Command) → (obey script (act_stamp q n) client (Some command) begins).node.made client ≡ suc (n.made client)
    made_own command = obey_made script client q n command begins client ∙ put-same n.made client (n.made client + 1) ∙ omega arith

    made_other : (command : Command) (c : ℕ) → c ≢ client → (obey script (act_stamp q n) client (Some command) begins).node.made c ≡ n.made c
    made_other command c d = obey_made script client q n command begins c ∙ put-other n.made client (n.made client + 1) c d

    touches : (command : Command) → next_command script n client ≡ Some command → IsNoWithdraw command → withdraws_itself n client (Some command) ≡ false
        → Moved script q (obey script (act_stamp q n) client (Some command) begins)
    touches command e none_given_up other = record {
      within = λ c known at_q. elim (cases_eq c client) [
        | inl same ↦ subst (IsWithin script later) (sym same)
            (makes_command script n later client command (record {
              next = e;
              acts = λ s under. (acts s under).balance;
              idle = λ s under. no_ask_of client (n.set s) (idle s under);
              gives = λ s under. idle_gives client (n.set s) (idle s under);
              none = λ s mode under which. none_here s mode under which;
              made = made_own command;
            })
            (was_within client own.known own.own))
        | inr d ↦ stays_in script n later c (record {
          loans = λ s mode under. (acts s under).balance.loans c mode d;
          counts = λ s mode under no. (acts s under).balance.others c mode d;
          few = λ s under. omega (arith, (changed s under).counts c, no_bonus (s == each.0) c d);
          marks = λ s under gone. inl ((acts s under).balance.marks c gone);
          may = ap (may_still_hold script c) (made_other command c d);
          asked = λ s ask under there live is. (
            elim ((acts s under).balance.asks ask there live) [ inl old ↦ old | inr new ↦ absurd (d (sym is ∙ new.0)) ],
            made_other command c d,
          );
        }) (was_within c known at_q)
      ];
      desk = λ s under. (acts s under).desk;
    }
      where
        free : node_waits script n client ≡ false
        free = waits_not (ap (withdraws_itself n client) e ∙ other)

        idle : (s : ℕ) → s < length script.sets → IsIdle client (n.set s)
        idle s under = idle_in script n client free s under

        later : NodeState
        later = (obey script (act_stamp q n) client (Some command) begins).node

        acts : (s : ℕ) → s < length script.sets → Acted script client s q command (n.set s) (later.set s) (obey script (act_stamp q n) client (Some command) begins).posts
        acts = act_sets script w q client command (λ s under. kept_stands script w s (kept.sets s under)) below (sound_clients script w q kept below) free
            (next_targets script n client command whole e) none_given_up (ready_so script w rank q client command whole kept homes upgrading h own.known own.own below free e)

        each : (touched : ℕ) × ((s : ℕ) → s < length script.sets → Clients (bonus_at touched (bonus_of client command) s) (n.set s) (later.set s))
        each = act_clients script w q client command whole (λ s under. kept_stands script w s (kept.sets s under)) below (sound_clients script w q kept below) (λ no. free)
            (next_targets script n client command whole e)

        changed : (s : ℕ) → s < length script.sets → Clients (bonus_at each.0 (bonus_of client command) s) (n.set s) (later.set s)
        changed s under = each.1 s under

        -- another client gets nothing more
        nothing : (c : ℕ) → c ≢ client → ◌≡◌ {A = ℕ} (if client == c then 1 else 0) 0
        nothing c d = ap (λ (b : Bool). if b then 1 else 0) (ne_eqb client c (λ same. d (sym same)))

        none_of : (command : Command) (c : ℕ) → c ≢ client → bonus_of client command c ≡ 0
        none_of (Lock s mode) c d = nothing c d
        none_of (Try s mode) c d = nothing c d
        none_of (Unlock s mode) c d = nothing c d
        none_of (Change s gives_up mode) c d = nothing c d
        none_of (DropAll other s) c d = nothing c d
        none_of (Withdraw other s) c d = refl

        no_bonus : (touched : Bool) (c : ℕ) → c ≢ client → (if touched then bonus_of client command c else 0) ≡ 0
        no_bonus true c d = none_of command c d
        no_bonus false c d = refl

        -- where the command asks for a set the client has none of it
        none_here : (s : ℕ) (mode : Mode) → s < length script.sets → (command ≡ Lock s mode) ⊎ (command ≡ Try s mode) → locks_and_asks (n.set s) client ≡ 0
        none_here s mode under which = no_locks script n client s (was_within client own.known own.own) under (idle s under)
            (sound_clients script w q kept below) (asks_none rank client s mode (may_still_hold script client (n.made client)) command which
            (upgrades_at script rank client (n.made client) command (upgrading client own.known) e))

    withdraws : (other set : ℕ) → next_command script n client ≡ Some (Withdraw other set) → Moved script q (obey script (act_stamp q n) client (Some (Withdraw other set)) begins)
    withdraws other set e = record {
      within = λ c known at_q. stays_in script n later c (record {
        loans = λ s mode under. (acts s under).loans c mode;
        counts = λ s mode under no. (acts s under).others c mode (λ same at. false≢true (sym no ∙ (λ i. has_withdraw script (same i) (at i)) ∙ named));
        few = λ s under. (acts s under).few c;
        marks = λ s under gone. elim ((acts s under).marks c gone) [
          | inl old ↦ inl old
          | inr is ↦ inr ((λ i. has_withdraw script (sym is.0 i) (sym is.1 i)) ∙ named)
        ];
        may = by_maker c (cases_eq c client);
        asked = λ s ask under there live is. elim (cases_eq c client) [
          | inl same ↦ absurd (no_ask_of client (later.set s) (acts s under).idle ask there live (is ∙ same))
          | inr d ↦ ((acts s under).asks ask there live, made_other (Withdraw other set) c d)
        ];
      }) (was_within c known at_q);
      desk = λ s under. (acts s under).desk;
    }
      where
        later : NodeState
        later = (obey script (act_stamp q n) client (Some (Withdraw other set)) begins).node

        named : has_withdraw script other set ≡ true
        named = is_named script n client other set e

        acts : (s : ℕ) → s < length script.sets
            → Withdraws script.nodes client other set s q (n.set s) (later.set s) (obey script (act_stamp q n) client (Some (Withdraw other set)) begins).posts
        acts = withdraw_sets script w q client other set (λ s under. kept_stands script w s (kept.sets s under)) below (sound_clients script w q kept below)
            (λ no. waits_not (ap (withdraws_itself n client) e ∙ no)) (next_targets script n client (Withdraw other set) whole e) (λ s under. h.keeps s q under below)

        by_maker : (c : ℕ) → (c ≡ client) ⊎ (c ≢ client) → may_still_hold script c (later.made c) ≡ may_still_hold script c (n.made c)
        by_maker c (inl same) = subst (λ (x : ℕ). may_still_hold script x (later.made x) ≡ may_still_hold script x (n.made x)) (sym same)
            (ap (may_still_hold script client) (made_own (Withdraw other set)) ∙ still_more script client (n.made client) (Withdraw other set) e)
        by_maker c (inr d) = ap (may_still_hold script c) (made_other (Withdraw other set) c d)

    by_command : (command : Option Command) → next_command script n client ≡ command → Moved script q (obey script (act_stamp q n) client command begins)
    by_command None e = absurd (not_none (commands_of script client) (n.made client) (ap (λ (x : ℕ). has_command script (w.node x) client) (sym own.own) ∙ able.1) e)
    by_command (Some (Lock s mode)) e = touches (Lock s mode) e tt refl
    by_command (Some (Try s mode)) e = touches (Try s mode) e tt refl
    by_command (Some (Unlock s mode)) e = touches (Unlock s mode) e tt refl
    by_command (Some (Change s gives_up mode)) e = touches (Change s gives_up mode) e tt refl
    by_command (Some (DropAll other s)) e = touches (DropAll other s) e tt refl
    by_command (Some (Withdraw other set)) e = withdraws other set e

take_moved : (script : ScriptData) (w : World) (p q : ℕ) → WorldInvariant script w → IsSteadfast script w → IsTrue (is_enabled script w q (Take p))
    → Moved script q (take_front q (w.node q) (w.mail p q))
take_moved script w p q kept h enabled =
    let is_there = has_mail_parts script w p q enabled in
    by_letters (w.mail p q) refl is_there.letter is_there.sender is_there.receiver
  where
    by_letters : (letters : List Letter) → w.mail p q ≡ letters → is_some_letter letters ≡ true → p < script.nodes → q < script.nodes → Moved script q (take_front q (w.node q) letters)
    by_letters [] e none from below = cc
    by_letters (letter ∷ rest) e there from below = record {
      within = λ c known at_q. stays_in script (w.node q) (node_take q letter (w.node q)).node c (record {
        loans = λ s mode under. omega (arith, (taken s under).balance.counts c mode, (taken s under).balance.gives c mode);
        counts = λ s mode under no. (taken s under).balance.counts c mode;
        few = λ s under. omega (arith, (taken s under).balance.clients.counts c);
        marks = λ s under gone. inl ((taken s under).balance.marks c gone);
        may = refl;
        asked = λ s ask under found live is. ((taken s under).balance.asks ask found live, refl);
      }) (subst (λ (x : ℕ). IsWithin script (w.node x) c) at_q (h.within c known));
      desk = λ s under. (taken s under).desk;
    }
      where
        taken : (s : ℕ) → s < length script.sets
            → Taken script.nodes s q ((w.node q).set s) ((node_take q letter (w.node q)).node.set s) (node_take q letter (w.node q)).posts
        taken = take_sets script w p q letter rest kept e from below (λ s under. h.keeps s q under below)

pub moved : (script : ScriptData) (w : World) (rank : ℕ → ℕ) (q : ℕ) (step : Step) → IsWhole script → WorldInvariant script w → Homes script w → IsUpgrading script rank → IsSteadfast script w
    → IsTrue (is_enabled script w q step) → Moved script q (node_move script w q step)
moved script w rank q (Act client) whole kept homes upgrading h enabled = act_moved script w rank q client whole kept homes upgrading h enabled
moved script w rank q (Take p) whole kept homes upgrading h enabled = take_moved script w p q kept h enabled
