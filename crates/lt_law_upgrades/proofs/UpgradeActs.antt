-- The command of a client, over all sets of its node.
use Rattle.std.proofs.Common.{◌≡◌, ◌≢◌, ℕ, ◌+◌, ◌<◌, ◌≤◌, inl, inr, List, [], length, Some, Bool, true, false, refl, sym, ap, subst, arith, ◌∙◌, ◌⊎◌, IsTrue, IsFalse, Contains, is_some, if◌then◌else◌, ◌==◌}
use Rattle.std.specs.List.{AllByRecursion}
use Rattle.std.proofs.lemmas.Bool.{cases_eq, false≢true}
use Rattle.std.proofs.lemmas.List.Elements.{Contains-append_left}
use Rattle.lt_modes.specs.declared.mode.Mode.{Mode}
use Rattle.lt_modes.specs.declared.stamp.Stamp.{Stamp}
use Rattle.lt_modes.specs.declared.ask.Ask.{Ask}
use Rattle.lt_modes.specs.declared.command.Command.{Command}
use Rattle.lt_modes.specs.declared.command.Command.TheVariants.{Lock, Unlock, Try, Change, DropAll, Withdraw}
use Rattle.lt_modes.specs.Modes.{excludes_itself, one, covers, without_client}
use Rattle.lt_modes.specs.Script.{ScriptData}
use Rattle.lt_modes.specs.State.{SetState, Made, Post, then_do}
use Rattle.lt_modes.specs.Granting.{is_holder}
use Rattle.lt_modes.specs.Serving.{queue_of}
use Rattle.lt_modes.specs.SetMove.{locked, tried, unlocked, changed, dropped, drop, finish}
use Rattle.lt_lists.specs.Below.{put}
use Rattle.lt_lists.proofs.Puts.{put-same, put-other}
use Rattle.lt_spec.specs.NodeMove.{related, is_related, NodeState, node_waits, act_stamp, at_clock, one_made, drop_all, obey, HasTargetsAt}
use Rattle.lt_spec.specs.Holdings.{Holding, holding, times_held}
use Rattle.lt_spec.specs.World.{World}
use Rattle.lt_model.specs.Invariant.{AsksStand}
use Rattle.lt_model.proofs.Effects.{Fact, HoldsOf, ends_by_effects, finish_by_effects, both}
use Rattle.lt_model.proofs.NodeEffects.{IsOfSet, IsOnce, once_or_aside, each_by_effects, both_of_set, each-beside}
use Rattle.lt_model.proofs.SentInMove.{finish-sent, drop-sent, Stands, stands}
use Rattle.lt_model.proofs.StandingEffects.{stands_later}
use Rattle.lt_model.proofs.StandingBegins.{elsewhere, unanswered, only_here, stands_before, none_in_hand, stands_of_set}
use Rattle.lt_law_accounts.proofs.Rows.{rows_dropped}
use Rattle.lt_law_accounts.proofs.RowTotals.{total}
use Rattle.lt_law_invariant.proofs.ClientEffects.{Clients, clients}
use Rattle.lt_law_invariant.proofs.ClientCommands.{one_for, IsIdle, idle, clients_acts, drops_kept, locked_of, tried_of, unlocked_of, changed_of}
use Rattle.lt_law_invariant.proofs.ClientMoves.{SoundClients, at_first, idle_in}
use Rattle.lt_law_lines.proofs.LineCounts.{count_after}
use Rattle.lt_law_lines.proofs.HeldMoves.{some_set, related_aside}
use Rattle.lt_spec.specs.Ordered.{best_answer}
use Rattle.lt_law_ordered.proofs.ActLoans.{grant_more}
use Rattle.lt_law_ordered.proofs.MayHold.{may_count}
use Rattle.lt_law_upgrades.specs.UpgradeLaws.{may_still_hold_after}
use Rattle.lt_law_ordered.proofs.ChangeLoans.{unlock_aside, drop_aside, drop_other}
use Rattle.lt_law_upgrades.proofs.Balance.{Balance, even, clients_now, with_balance}
use Rattle.lt_law_upgrades.proofs.LiveAsks.{locks_and_asks}
use Rattle.lt_law_upgrades.proofs.ActBalance.{ActBalance, balance_then, locked_balance, tried_balance, unlocked_balance, dropped_balance, aside_balance}
use Rattle.lt_law_upgrades.proofs.ActChanges.{changed_balance}
use Rattle.lt_law_upgrades.proofs.MayUpgrade.{aside_change}
use Rattle.lt_law_upgrades.proofs.DeskStays.{KeepsDesk, IsSettled, HasLeft}
use Rattle.lt_law_upgrades.proofs.DeskGrants.{Begins, fewer_keeps}
use Rattle.lt_law_upgrades.proofs.DeskEffects.{keeps_desk, settled_or_left, desk_ends}
use Rattle.lt_law_upgrades.proofs.DeskAsks.{locked_desk, tried_desk, unlocked_desk, changed_desk}

-- what is so of each set of a node as one of its clients makes the command
pub record Ready (script : ScriptData) (n : NodeState) (client : ℕ) (command : Command) : Type 0 where
  pub begins : (s : ℕ) → s < length script.sets → Begins script.nodes (n.set s)
  pub locks : (s : ℕ) (mode : Mode) → s < length script.sets → command ≡ Lock s mode → is_holder (n.set s) client ≡ false
  pub changes : (s : ℕ) (gives_up mode : Mode) → s < length script.sets → command ≡ Change s gives_up mode → IsFalse (covers (one gives_up) mode) → 1 ≤ total (n.set s).held client gives_up
      → IsTrue (excludes_itself gives_up) × IsTrue (is_some (n.set s).desk) × ((b : Ask) → Contains (queue_of (n.set s)) b → IsFalse b.holder)

-- what the command made of a set of a node
pub record Acted (script : ScriptData) (client s q : ℕ) (command : Command) (t u : SetState) (posts : List Post) : Type 0 where
  pub balance : ActBalance script client s command t u
  pub desk : IsSettled script.nodes u ⊎ HasLeft s q posts

-- the command is no `withdraw`
abbrev pub IsNoWithdraw : Command → Type 0
IsNoWithdraw (Withdraw other s) = ⊥
IsNoWithdraw command = Unit {0}

-- letters of other sets change nothing of it
left_of_set : (s nodes q : ℕ) → IsOfSet s (settled_or_left nodes s q)
left_of_set s nodes q t posts more others (inl keeps) = inl keeps
left_of_set s nodes q t posts more others (inr left) = inr (record {
  post = left.post;
  desk = left.desk;
  among = Contains-append_left posts more left.post left.among;
  set = left.set;
  body = left.body;
  away = left.away;
  own = left.own;
  theirs = left.theirs;
  own_there = left.own_there;
  theirs_there = left.theirs_there;
  conflict = left.conflict;
})

-- one lock or new ask more at most
grows_by_one : (client : ℕ) (t u : SetState) → Clients (one_for client) t u → locks_and_asks u client ≤ locks_and_asks t client + 1
grows_by_one client t u h = omega (arith, h.counts client, by_test (client == client))
  where
    by_test : (own : Bool) → (if own then 1 else 0) ≤ 1
    by_test true = omega arith
    by_test false = omega arith

-- the locks of a set stay where a command doesn't touch it
abbrev StaysAside : ScriptData → ℕ → ℕ → Command → Type 0
StaysAside script client s command = (locks : List Holding) (mode : Mode)
    → times_held locks (holding client s mode) ≤ times_held (may_still_hold_after script client locks command) (holding client s mode)

-- what a command of a client that waits for nothing does to each set of its node, but for a `withdraw`
pub act_sets : (script : ScriptData) (w : World) (q client : ℕ) (command : Command)
    → ((s : ℕ) → s < length script.sets → AsksStand script w s) → q < script.nodes → SoundClients script (w.node q)
    → node_waits script (w.node q) client ≡ false → HasTargetsAt script client command → IsNoWithdraw command → Ready script (w.node q) client command → (s : ℕ) → s < length script.sets
    → Acted script client s q command ((w.node q).set s)
    ((obey script (act_stamp q (w.node q)) client (Some command) (one_made client (at_clock ((w.node q).clock + 1) (w.node q)))).node.set s)
    (obey script (act_stamp q (w.node q)) client (Some command) (one_made client (at_clock ((w.node q).clock + 1) (w.node q)))).posts
act_sets script w q client command stood below h waits_not targets none_given_up ready = by_command command targets none_given_up ready
  where
    n : NodeState
    n = w.node q

    stamp : Stamp
    stamp = act_stamp q n

    begins : NodeState
    begins = one_made client (at_clock (n.clock + 1) n)

    in_move : ℕ → Fact
    in_move s = stands s q stamp.clock (elsewhere script w s q w.mail) (unanswered script w s q)

    standing : (s : ℕ) → s < length script.sets → Stands s q n.clock (elsewhere script w s q w.mail) (unanswered script w s q) (n.set s) []
    standing s under =
        none_in_hand s q n.clock (elsewhere script w s q w.mail) (unanswered script w s q) (λ a. 0) (n.set s) [] (λ a. refl)
        (stands_before script w s q w.mail (λ a. 0) (stood s under) below (λ a. omega arith))

    first : (s : ℕ) → s < length script.sets → Clients (λ c. 0) (n.set s) (n.set s)
    first s under = at_first script n h s under

    idle_here : (s : ℕ) → s < length script.sets → IsIdle client (n.set s)
    idle_here s under = idle_in script n client waits_not s under

    settled_here : ((s : ℕ) → s < length script.sets → Begins script.nodes (n.set s)) → (s : ℕ) → s < length script.sets → IsSettled script.nodes (n.set s)
    settled_here each s under = record { keeps = (each s under).keeps; live = (each s under).live }

    begun : (s : ℕ) → s < length script.sets → both (stands s q n.clock (elsewhere script w s q w.mail) (unanswered script w s q)) (idle client (n.set s)) (n.set s) []
    begun s under = (standing s under, (first s under, idle_here s under))

    -- what the end of a move begins with, and what it leads to
    middle : ℕ → SetState → Fact
    middle s u = both (with_balance s stamp (elsewhere script w s q w.mail) (unanswered script w s q) u) (keeps_desk script.nodes)

    ended : ℕ → SetState → Fact
    ended s u = both (with_balance s stamp (elsewhere script w s q w.mail) (unanswered script w s q) u) (settled_or_left script.nodes s q)

    finished : (s : ℕ) → s < length script.sets → (u t : SetState) (posts : List Post) → middle s u t posts → HoldsOf (ended s u) posts (finish s stamp t)
    finished s under u t posts b =
        finish_by_effects s stamp _ _ _ (desk_ends script.nodes s stamp (elsewhere script w s q w.mail) (unanswered script w s q) u below (only_here script w s q (stood s under) below)) t posts b

    -- one set is touched by a rule
    on_set : (set : ℕ) (m : Made) (command : Command) → set < length script.sets → ((s : ℕ) → s < length script.sets → Begins script.nodes (n.set s))
        → ActBalance script client set command (n.set set) m.state
        → HoldsOf (both (in_move set) (clients (one_for client) (n.set set))) [] m → KeepsDesk script.nodes m.state
        → ((s : ℕ) → s ≢ set → StaysAside script client s command)
        → (s : ℕ) → s < length script.sets → Acted script client s q command (n.set s) (put n.set set (then_do m (finish set stamp)).state s) (then_do m (finish set stamp)).posts
    on_set set m command in_sets each acts mid keeps elsewhere_less s under = elim (cases_eq s set) [
      | inl e ↦
          let done = ends_by_effects set stamp _ _ _
          (desk_ends script.nodes set stamp (elsewhere script w set q w.mail) (unanswered script w set q) m.state below (only_here script w set q (stood set in_sets) below)) m []
          ((mid.0, even m.state (clients_now (one_for client) (n.set set) m.state mid.1)), keeps) in
          subst (λ (k : ℕ). Acted script client k q command (n.set k) (put n.set set (then_do m (finish set stamp)).state k) (then_do m (finish set stamp)).posts) (sym e)
          (subst (λ (t : SetState). Acted script client set q command (n.set set) t (then_do m (finish set stamp)).posts) (sym (put-same n.set set (then_do m (finish set stamp)).state))
          (record { balance = balance_then script client set command (n.set set) m.state (then_do m (finish set stamp)).state acts done.0.1; desk = done.1 }))
      | inr d ↦
          subst (λ (t : SetState). Acted script client s q command (n.set s) t (then_do m (finish set stamp)).posts) (sym (put-other n.set set (then_do m (finish set stamp)).state s d))
          (record { balance = aside_balance script client s command (n.set s) (idle_here s under) (elsewhere_less s d); desk = inl (settled_here each s under) })
    ]

    by_command : (command : Command) → HasTargetsAt script client command → IsNoWithdraw command → Ready script n client command → (s : ℕ) → s < length script.sets
        → Acted script client s q command (n.set s) ((obey script stamp client (Some command) begins).node.set s) (obey script stamp client (Some command) begins).posts
    by_command (Lock set mode) t none_given_up r =
        let mid = locked_of set stamp client _ _ (clients_acts set n.clock stamp client (elsewhere script w set q w.mail) (unanswered script w set q) (n.set set) refl) mode (n.set set) [] (begun set t) in
        on_set set (locked set stamp client mode (n.set set)) (Lock set mode) t r.begins
        (locked_balance script client set stamp mode (n.set set) (idle_here set t) ((first set t).one client) (grows_by_one client (n.set set) (locked set stamp client mode (n.set set)).state mid.1))
        mid
        (locked_desk script.nodes set stamp client mode (n.set set) (r.begins set t) (r.locks set mode t refl))
        (λ s d locks m. omega (arith, may_count script client (holding client s m) locks (Lock set mode), grant_more script client s set mode m (times_held locks (holding client s m))))
    by_command (Try set mode) t none_given_up r =
        let mid = tried_of set stamp client _ _ (clients_acts set n.clock stamp client (elsewhere script w set q w.mail) (unanswered script w set q) (n.set set) refl) mode (n.set set) [] (begun set t) in
        on_set set (tried set stamp client mode (n.set set)) (Try set mode) t r.begins
        (tried_balance script client set stamp mode (n.set set) (idle_here set t) (grows_by_one client (n.set set) (tried set stamp client mode (n.set set)).state mid.1))
        mid
        (tried_desk script.nodes set stamp client mode (n.set set) (r.begins set t))
        (λ s d locks m. omega (arith, may_count script client (holding client s m) locks (Try set mode), grant_more script client s set mode m (times_held locks (holding client s m))))
    by_command (Unlock set mode) t none_given_up r = on_set set (unlocked set client mode (n.set set)) (Unlock set mode) t r.begins (unlocked_balance script client set mode (n.set set) (idle_here set t) (h.some set t))
        (unlocked_of set stamp client _ _ (clients_acts set n.clock stamp client (elsewhere script w set q w.mail) (unanswered script w set q) (n.set set) refl) mode (n.set set) [] (begun set t))
        (unlocked_desk script.nodes set client mode (n.set set) (r.begins set t).keeps)
        (λ s d locks m. omega (arith, may_count script client (holding client s m) locks (Unlock set mode), unlock_aside script client s set mode m (times_held locks (holding client s m)) d))
    by_command (Change set gives_up mode) t none_given_up r = on_set set (changed set stamp client gives_up mode (n.set set)) (Change set gives_up mode) t r.begins
        (changed_balance script client set stamp gives_up mode (n.set set) (idle_here set t) (h.some set t) (r.begins set t).live ((first set t).one client))
        (changed_of set stamp client _ _ (clients_acts set n.clock stamp client (elsewhere script w set q w.mail) (unanswered script w set q) (n.set set) refl) gives_up mode (n.set set) [] (begun set t))
        (changed_desk script.nodes set stamp client gives_up mode (n.set set) (r.begins set t) (r.changes set gives_up mode t refl))
        (λ s d locks m. omega (arith, aside_change script client s set gives_up mode locks m d))
    by_command (Withdraw other set) t none_given_up r = absurd none_given_up
    by_command (DropAll other set) t none_given_up r = λ s under. by_waits s under (node_waits script begins other) refl (once_or_aside script s (Some (DropAll other set)))
      where
        later : (s : ℕ) → s < length script.sets → in_move s (n.set s) []
        later s under = stands_later s q n.clock stamp.clock (elsewhere script w s q w.mail) (unanswered script w s q) (n.set s) [] (omega arith) (standing s under)

        base_of_set : (s : ℕ) (u : SetState) → IsOfSet s (with_balance s stamp (elsewhere script w s q w.mail) (unanswered script w s q) u)
        base_of_set s u = both_of_set s _ _ (stands_of_set s q stamp.clock (elsewhere script w s q w.mail) (unanswered script w s q)) (λ t posts more others k. k)

        middle_of_set : (s : ℕ) (u : SetState) → IsOfSet s (middle s u)
        middle_of_set s u = both_of_set s _ _ (base_of_set s u) (λ t posts more others k. k)

        ended_of_set : (s : ℕ) (u : SetState) → IsOfSet s (ended s u)
        ended_of_set s u = both_of_set s _ _ (base_of_set s u) (left_of_set s script.nodes q)

        -- the set as the drop finds it
        found : ℕ → Fact
        found s = both (both (in_move s) (idle other (n.set s))) (λ t posts. t ≡ n.set s)

        found_of_set : (s : ℕ) → IsOfSet s (found s)
        found_of_set s = both_of_set s _ _ (both_of_set s _ _ (stands_of_set s q stamp.clock (elsewhere script w s q w.mail) (unanswered script w s q)) (λ t posts more others k. k)) (λ t posts more others k. k)

        not_related : (s : ℕ) → s < length script.sets → AllByRecursion (λ k. k ≢ s) (related script set) → is_related script s set ≡ false
        not_related s under aside = related_aside script s set (some_set script.sets s under) under aside

        drop_counts : (s : ℕ) (locks : List Holding) (m : Mode) → ((k : ℕ) → k ≤ count_after script (holding client s m) k (best_answer client (DropAll other set)))
            → times_held locks (holding client s m) ≤ times_held (may_still_hold_after script client locks (DropAll other set)) (holding client s m)
        drop_counts s locks m aside = omega (arith, may_count script client (holding client s m) locks (DropAll other set), aside (times_held locks (holding client s m)))

        untouched : (s : ℕ) (posts : List Post) → s < length script.sets → AllByRecursion (λ k. k ≢ s) (related script set) → Acted script client s q (DropAll other set) (n.set s) (n.set s) posts
        untouched s posts under aside = record {
          balance = aside_balance script client s (DropAll other set) (n.set s) (idle_here s under) (λ locks m. drop_counts s locks m (λ k. drop_aside script client s other set m k (not_related s under aside)));
          desk = inl (settled_here r.begins s under);
        }

        by_waits : (s : ℕ) → s < length script.sets → (waiting : Bool) → node_waits script begins other ≡ waiting
            → IsOnce s (related script set) ⊎ AllByRecursion (λ k. k ≢ s) (related script set)
            → Acted script client s q (DropAll other set) (n.set s) ((drop_all waiting stamp client other set (related script set) begins).node.set s)
            (drop_all waiting stamp client other set (related script set) begins).posts
        by_waits s under true e (inl once) =
            let done = each_by_effects s stamp (middle s (n.set s)) (ended s (n.set s)) (middle_of_set s (n.set s)) (ended_of_set s (n.set s))
            (λ k t. finish k stamp t) (λ k t. finish-sent k stamp t) (λ t posts b. finished s under (n.set s) t posts b)
            (related script set) once begins [] ((later s under, even (n.set s) (first s under)), (r.begins s under).keeps) in
            record {
              balance = balance_then script client s (DropAll other set) (n.set s) (n.set s) _
                  (aside_balance script client s (DropAll other set) (n.set s) (idle_here s under)
                  (λ locks m. drop_counts s locks m (λ k. drop_other script client s other set m k (λ same. false≢true (sym waits_not ∙ ap (node_waits script n) same ∙ e))))) done.0.1;
              desk = done.1;
            }
        by_waits s under true e (inr aside) =
            subst (λ (u : SetState). Acted script client s q (DropAll other set) (n.set s) u (drop_all true stamp client other set (related script set) begins).posts)
            (sym (each-beside s stamp (λ k. finish k stamp) (λ k t. finish-sent k stamp t) (related script set) aside begins).state)
            (untouched s (drop_all true stamp client other set (related script set) begins).posts under aside)
        by_waits s under false e (inl once) =
            let done = each_by_effects s stamp (found s) (ended s (dropped other (n.set s))) (found_of_set s) (ended_of_set s (dropped other (n.set s)))
            (λ k t. drop k stamp other t) (λ k t. drop-sent k stamp other t)
            (λ t posts b. finished s under (dropped other (n.set s)) (dropped other t) posts (
              (
                record { once = b.0.0.once; own = b.0.0.own; apart = b.0.0.apart; copies = b.0.0.copies },
                subst (λ (x : SetState). Balance (dropped other (n.set s)) (dropped other x)) (sym b.1)
                    (even (dropped other (n.set s)) (clients_now (λ c. 0) (n.set s) (dropped other (n.set s)) (drops_kept other (n.set s) (n.set s) (first s under, idle_in script n other e s under)))),
              ),
              subst (λ (x : SetState). KeepsDesk script.nodes (dropped other x)) (sym b.1)
                  (fewer_keeps script.nodes (n.set s) (without_client (n.set s).held other) (rows_dropped (n.set s).held other) (r.begins s under).keeps),
            ))
            (related script set) once begins [] ((later s under, (first s under, idle_in script n other e s under)), refl) in
            record {
              balance = balance_then script client s (DropAll other set) (n.set s) (dropped other (n.set s)) _ (dropped_balance script client s other set (n.set s) (idle_here s under)) done.0.1;
              desk = done.1;
            }
        by_waits s under false e (inr aside) =
            subst (λ (u : SetState). Acted script client s q (DropAll other set) (n.set s) u (drop_all false stamp client other set (related script set) begins).posts)
            (sym (each-beside s stamp (λ k. drop k stamp other) (λ k t. drop-sent k stamp other t) (related script set) aside begins).state)
            (untouched s (drop_all false stamp client other set (related script set) begins).posts under aside)
