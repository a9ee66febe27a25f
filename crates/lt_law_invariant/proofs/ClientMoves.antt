-- What clients hold and wait for, in every run.
use Rattle.std.proofs.Common.{◌≡◌, ◌≢◌, ℕ, ◌+◌, ◌<◌, ◌≤◌, inl, inr, List, [], length, Some, Bool, true, false, refl, sym, subst, arith, ◌∙◌, ◌⊎◌, ◌==◌, if◌then◌else◌, Contains, count_by, slice_index_or, eq-eqb}
use Rattle.std.specs.List.{AllByRecursion, list_any}
use Rattle.std.proofs.lemmas.Bool.{cases_eq, false≢true}
use Rattle.std.proofs.lemmas.List.Elements.{Contains-get_or}
use Rattle.lt_modes.specs.declared.stamp.Stamp.{Stamp}
use Rattle.lt_modes.specs.declared.ask.Ask.{Ask}
use Rattle.lt_modes.specs.declared.command.Command.{Command}
use Rattle.lt_modes.specs.declared.command.Command.TheVariants.{Lock, Unlock, Try, Change, DropAll, Withdraw}
use Rattle.lt_modes.specs.Script.{ScriptData}
use Rattle.lt_modes.specs.State.{SetState, Made}
use Rattle.lt_modes.specs.Modes.{locks_of}
use Rattle.lt_modes.specs.Serving.{is_gone}
use Rattle.lt_modes.specs.Waiting.{waits}
use Rattle.lt_modes.specs.SetMove.{finish, locked, tried, unlocked, changed, dropped, lock, try, unlock, change, drop, withdraw, withdrawn}
use Rattle.lt_lists.specs.Below.{put}
use Rattle.lt_spec.specs.NodeMove.{related, IsWhole, HasTargetsAt, NodeState, node_waits, act_stamp, at_clock, one_made, touched, drop_all, obey, withdraws_itself}
use Rattle.lt_model.specs.Invariant.{unanswered_asks, new_asks_of, locks_in_all, ClientsKept, AsksStand}
use Rattle.lt_spec.specs.World.{World}
use Rattle.lt_lists.proofs.Members.{list_any-at}
use Rattle.lt_model.proofs.Effects.{Fact, HoldsOf, EndEffects, ends_by_effects, finish_by_effects, both}
use Rattle.lt_model.proofs.NodeEffects.{each-beside, IsOfSet, IsOnce, once_or_aside, each_by_effects, both_of_set}
use Rattle.lt_lists.proofs.Puts.{put-same, put-other}
use Rattle.lt_model.proofs.SentInMove.{finish-sent, drop-sent, stands}
use Rattle.lt_model.proofs.StandingEffects.{stands_later}
use Rattle.lt_model.proofs.StandingBegins.{elsewhere, unanswered, only_here, stands_before, none_in_hand, stands_of_set}
use Rattle.lt_lists.proofs.Searches.{any_below_none}
use Rattle.lt_lists.proofs.Sums.{sum_below-add, sum_below-at, sum_below-most, sum_below-one, sum_by-zero}
use Rattle.lt_law_invariant.proofs.ClientCounts.{SomeEach}
use Rattle.lt_law_invariant.proofs.ClientEffects.{is_asks, GivenBy, Clients, clients, clients_ends, live_by, new_by}
use Rattle.lt_law_invariant.proofs.ClientCommands.{one_for, IsIdle, idle, clients_acts, drops_kept, locked_of, tried_of, unlocked_of, changed_of, idle_live, withdrawn_of}

-- what clients of a node hold and wait for is sound
pub record SoundClients (script : ScriptData) (n : NodeState) : Type 0 where
  pub kept : ClientsKept script n
  pub gives : (s : ℕ) → s < length script.sets → (ask : Ask) → Contains (n.set s).pending ask → is_gone (n.set s) ask.client ≡ false
      → GivenBy (n.set s).held ask.client ask.gives_up
  pub one : (s : ℕ) → s < length script.sets → (c : ℕ) → count_by (is_asks c) (n.set s).pending ≤ 1
  pub some : (s : ℕ) → s < length script.sets → SomeEach (n.set s).held

-- what the command may add for each client: one for its own, but nothing where it gives up an ask
abbrev pub bonus_of : ℕ → Command → ℕ → ℕ
bonus_of client (Lock s mode) c = one_for client c
bonus_of client (Try s mode) c = one_for client c
bonus_of client (Unlock s mode) c = one_for client c
bonus_of client (Change s gives_up mode) c = one_for client c
bonus_of client (DropAll other s) c = one_for client c
bonus_of client (Withdraw other s) c = 0

-- the set that the command touched may have one more
abbrev pub bonus_at : ℕ → (ℕ → ℕ) → ℕ → ℕ → ℕ
bonus_at touched bonus s c = if s == touched then bonus c else 0

-- the node after its move
pub node_after : (script : ScriptData) (n later : NodeState) (touched : ℕ) (bonus : ℕ → ℕ) → SoundClients script n
    → ((s : ℕ) → s < length script.sets → Clients (bonus_at touched bonus s) (n.set s) (later.set s))
    → ((c : ℕ) → n.made c + bonus c ≤ later.made c) → ((c : ℕ) → (bonus c ≡ 0) ⊎ ((bonus c ≤ 1) × (unanswered_asks script n c ≡ 0))) → SoundClients script later
node_after script n later touched bonus h each made free = record {
  kept = record {
    one_ask = λ c. elim (free c) [
      | inl none ↦ omega (arith, asks c, h.kept.one_ask c, none)
      | inr one ↦ omega (arith, asks c, one.0, one.1)
    ];
    counts = λ c. omega (arith, counts c, h.kept.counts c, made c);
  };
  gives = λ s below. (each s below).gives;
  one = λ s below. (each s below).one;
  some = λ s below. (each s below).some;
}
  where
    sets : ℕ
    sets = length script.sets

    asks : (c : ℕ) → unanswered_asks script later c ≤ unanswered_asks script n c + bonus c
    asks c = omega (
      arith,
      sum_below-most sets (λ s. count_by (live_by (is_gone (later.set s) c) c) (later.set s).pending) (λ s. count_by (live_by (is_gone (n.set s) c) c) (n.set s).pending + bonus_at touched bonus s c)
          (λ s below. (each s below).asks c),
      sum_below-add sets (λ s. count_by (live_by (is_gone (n.set s) c) c) (n.set s).pending) (λ s. bonus_at touched bonus s c),
      sum_below-one sets touched (bonus c),
    )

    counts : (c : ℕ) → locks_in_all script later c + new_asks_of script later c ≤ locks_in_all script n c + new_asks_of script n c + bonus c
    counts c = omega (
      arith,
      sum_below-most sets (λ s. locks_of (later.set s).held c + count_by (new_by (is_gone (later.set s) c) c) (later.set s).pending)
          (λ s. locks_of (n.set s).held c + count_by (new_by (is_gone (n.set s) c) c) (n.set s).pending + bonus_at touched bonus s c) (λ s below. (each s below).counts c),
      sum_below-add sets (λ s. locks_of (later.set s).held c) (λ s. count_by (new_by (is_gone (later.set s) c) c) (later.set s).pending),
      sum_below-add sets (λ s. locks_of (n.set s).held c + count_by (new_by (is_gone (n.set s) c) c) (n.set s).pending) (λ s. bonus_at touched bonus s c),
      sum_below-add sets (λ s. locks_of (n.set s).held c) (λ s. count_by (new_by (is_gone (n.set s) c) c) (n.set s).pending),
      sum_below-one sets touched (bonus c),
    )

-- a set at the beginning
pub at_first : (script : ScriptData) (n : NodeState) → SoundClients script n → (s : ℕ) → s < length script.sets → Clients (λ c. 0) (n.set s) (n.set s)
at_first script n h s below = record {
  asks = λ c. omega arith;
  counts = λ c. omega arith;
  one = h.one s below;
  gives = h.gives s below;
  some = h.some s below;
}

-- who waits in no set waits in this one neither
pub idle_in : (script : ScriptData) (n : NodeState) (client : ℕ) → node_waits script n client ≡ false → (s : ℕ) → s < length script.sets → IsIdle client (n.set s)
idle_in script n client none s below = idle_live (n.set s) client (any_below_none (length script.sets) (λ k. waits (n.set k) client) none s below)

clients_of_set : (s : ℕ) (bonus : ℕ → ℕ) (first : SetState) → IsOfSet s (clients bonus first)
clients_of_set s bonus first t posts more others h = h

idle_of_set : (s client : ℕ) (first : SetState) → IsOfSet s (idle client first)
idle_of_set s client first t posts more others h = h

-- a command of a client that waits for nothing, or that gives up what it waits for
pub act_clients : (script : ScriptData) (w : World) (q client : ℕ) (command : Command) → IsWhole script
    → ((s : ℕ) → s < length script.sets → AsksStand script w s) → q < script.nodes → SoundClients script (w.node q)
    → (withdraws_itself (w.node q) client (Some command) ≡ false → node_waits script (w.node q) client ≡ false) → HasTargetsAt script client command
    → (touched : ℕ) × ((s : ℕ) → s < length script.sets → Clients (bonus_at touched (bonus_of client command) s) ((w.node q).set s)
    ((obey script (act_stamp q (w.node q)) client (Some command) (one_made client (at_clock ((w.node q).clock + 1) (w.node q)))).node.set s))
act_clients script w q client command whole stood below h waits_not targets = by_command command waits_not targets
  where
    n : NodeState
    n = w.node q

    stamp : Stamp
    stamp = act_stamp q n

    begins : NodeState
    begins = one_made client (at_clock (n.clock + 1) n)

    others : ℕ → Ask → ℕ
    others s = elsewhere script w s q w.mail

    asked_of : ℕ → Ask → ℕ
    asked_of s = unanswered script w s q

    before_move : ℕ → Fact
    before_move s = stands s q n.clock (others s) (asked_of s)

    in_move : ℕ → Fact
    in_move s = stands s q stamp.clock (others s) (asked_of s)

    standing : (s : ℕ) → s < length script.sets → before_move s (n.set s) []
    standing s under =
        none_in_hand s q n.clock (others s) (asked_of s) (λ a. 0) (n.set s) [] (λ a. refl)
        (stands_before script w s q w.mail (λ a. 0) (stood s under) below (λ a. omega arith))

    first : (s : ℕ) → s < length script.sets → Clients (λ c. 0) (n.set s) (n.set s)
    first s under = at_first script n h s under

    -- nothing is allowed more where the bonus is none
    none_more : (touched s : ℕ) (t u : SetState) → Clients (λ c. 0) t u → Clients (bonus_at touched (λ c. 0) s) t u
    none_more touched s t u k = record { asks = λ c. omega (arith, k.asks c); counts = λ c. omega (arith, k.counts c); one = k.one; gives = k.gives; some = k.some }

    weaker : (touched s : ℕ) (t u : SetState) → Clients (λ c. 0) t u → Clients (bonus_at touched (one_for client) s) t u
    weaker touched s t u k = record { asks = λ c. omega (arith, k.asks c); counts = λ c. omega (arith, k.counts c); one = k.one; gives = k.gives; some = k.some }

    own_bonus : (s : ℕ) (t u : SetState) → Clients (one_for client) t u → Clients (bonus_at s (one_for client) s) t u
    own_bonus s t u k = subst (λ (b : Bool). Clients (λ c. if b then one_for client c else 0) t u) (sym (eq-eqb s s refl)) k

    ends : (s : ℕ) → s < length script.sets → (bonus : ℕ → ℕ)
        → EndEffects s stamp (both (in_move s) (clients bonus (n.set s)))
        (both (in_move s) (clients bonus (n.set s)))
        (both (in_move s) (clients bonus (n.set s)))
    ends s under bonus = clients_ends s stamp (others s) (asked_of s) bonus (n.set s) (only_here script w s q (stood s under) below)

    -- one set is touched by a rule
    one_touched : (set : ℕ) (rule : ℕ → SetState → Made) → set < length script.sets
        → HoldsOf (both (in_move set) (clients (one_for client) (n.set set))) [] (rule set (n.set set))
        → (s : ℕ) → s < length script.sets → Clients (bonus_at set (one_for client) s) (n.set s) ((touched begins set (rule set (n.set set))).node.set s)
    one_touched set rule in_sets ended s under = elim (cases_eq s set) [
      | inl e ↦ subst (λ (k : ℕ). Clients (bonus_at set (one_for client) k) (n.set k) ((touched begins set (rule set (n.set set))).node.set k)) (sym e)
          (own_bonus set (n.set set) (put n.set set (rule set (n.set set)).state set)
          (subst (Clients (one_for client) (n.set set)) (sym (put-same n.set set (rule set (n.set set)).state)) ended.1))
      | inr d ↦
          weaker set s (n.set s) (put n.set set (rule set (n.set set)).state s)
          (subst (Clients (λ c. 0) (n.set s)) (sym (put-other n.set set (rule set (n.set set)).state s d)) (first s under))
    ]

    begun : node_waits script n client ≡ false → (s : ℕ) → s < length script.sets → both (before_move s) (idle client (n.set s)) (n.set s) []
    begun free s under = (standing s under, (first s under, idle_in script n client free s under))

    by_command : (command : Command) → (withdraws_itself n client (Some command) ≡ false → node_waits script n client ≡ false) → HasTargetsAt script client command
        → (touched : ℕ) × ((s : ℕ) → s < length script.sets → Clients (bonus_at touched (bonus_of client command) s) (n.set s)
        ((obey script stamp client (Some command) begins).node.set s))
    by_command (Lock set mode) waits_not_of t = (
      set,
      one_touched set (λ k u. lock k stamp client mode u) t
          (ends_by_effects set stamp _ _ _ (ends set t (one_for client)) (locked set stamp client mode (n.set set)) []
          (locked_of set stamp client _ _ (clients_acts set n.clock stamp client (others set) (asked_of set) (n.set set) refl) mode (n.set set) [] (begun (waits_not_of refl) set t))),
    )
    by_command (Try set mode) waits_not_of t = (
      set,
      one_touched set (λ k u. try k stamp client mode u) t
          (ends_by_effects set stamp _ _ _ (ends set t (one_for client)) (tried set stamp client mode (n.set set)) []
          (tried_of set stamp client _ _ (clients_acts set n.clock stamp client (others set) (asked_of set) (n.set set) refl) mode (n.set set) [] (begun (waits_not_of refl) set t))),
    )
    by_command (Unlock set mode) waits_not_of t = (
      set,
      one_touched set (λ k u. unlock k stamp client mode u) t
          (ends_by_effects set stamp _ _ _ (ends set t (one_for client)) (unlocked set client mode (n.set set)) []
          (unlocked_of set stamp client _ _ (clients_acts set n.clock stamp client (others set) (asked_of set) (n.set set) refl) mode (n.set set) [] (begun (waits_not_of refl) set t))),
    )
    by_command (Change set gives_up mode) waits_not_of t = (
      set,
      one_touched set (λ k u. change k stamp client gives_up mode u) t
          (ends_by_effects set stamp _ _ _ (ends set t (one_for client)) (changed set stamp client gives_up mode (n.set set)) []
          (changed_of set stamp client _ _ (clients_acts set n.clock stamp client (others set) (asked_of set) (n.set set) refl) gives_up mode (n.set set) []
          (begun (waits_not_of refl) set t))),
    )
    by_command (DropAll other set) waits_not_of t = (
      0,
      λ s under. weaker 0 s (n.set s) ((drop_all (node_waits script begins other) stamp client other set (related script set) begins).node.set s)
          (by_waits s under (node_waits script begins other) refl (once_or_aside script s (Some (DropAll other set)))),
    )
      where
        later : (s : ℕ) → s < length script.sets → in_move s (n.set s) []
        later s under = stands_later s q n.clock stamp.clock (others s) (asked_of s) (n.set s) [] (omega arith) (standing s under)

        of_set : (s : ℕ) → IsOfSet s (both (in_move s) (clients (λ c. 0) (n.set s)))
        of_set s = both_of_set s _ _ (stands_of_set s q stamp.clock (others s) (asked_of s)) (clients_of_set s (λ c. 0) (n.set s))

        idle_set : (s : ℕ) → IsOfSet s (both (in_move s) (idle other (n.set s)))
        idle_set s = both_of_set s _ _ (stands_of_set s q stamp.clock (others s) (asked_of s)) (idle_of_set s other (n.set s))

        by_waits : (s : ℕ) → s < length script.sets → (waiting : Bool) → node_waits script begins other ≡ waiting
            → IsOnce s (related script set) ⊎ AllByRecursion (λ k. k ≢ s) (related script set)
            → Clients (λ c. 0) (n.set s) ((drop_all waiting stamp client other set (related script set) begins).node.set s)
        by_waits s under true e (inl once) =
            (each_by_effects s stamp (both (in_move s) (clients (λ c. 0) (n.set s)))
            (both (in_move s) (clients (λ c. 0) (n.set s))) (of_set s) (of_set s)
            (λ k t. finish k stamp t) (λ k t. finish-sent k stamp t) (λ t posts b. finish_by_effects s stamp _ _ _ (ends s under (λ c. 0)) t posts b)
            (related script set) once begins [] (later s under, first s under)).1
        by_waits s under true e (inr aside) =
            subst (Clients (λ c. 0) (n.set s)) (sym (each-beside s stamp (λ k. finish k stamp) (λ k t. finish-sent k stamp t)
            (related script set) aside begins).state) (first s under)
        by_waits s under false e (inl once) =
            (each_by_effects s stamp (both (in_move s) (idle other (n.set s)))
            (both (in_move s) (clients (λ c. 0) (n.set s))) (idle_set s) (of_set s)
            (λ k t. drop k stamp other t) (λ k t. drop-sent k stamp other t)
            (λ t posts b. finish_by_effects s stamp _ _ _ (ends s under (λ c. 0)) (dropped other t) posts
            (record { once = b.0.once; own = b.0.own; apart = b.0.apart; copies = b.0.copies }, drops_kept other (n.set s) t b.1))
            (related script set) once begins [] (later s under, (first s under, idle_in script n other e s under))).1
        by_waits s under false e (inr aside) =
            subst (Clients (λ c. 0) (n.set s)) (sym (each-beside s stamp (λ k. drop k stamp other) (λ k t. drop-sent k stamp other t)
            (related script set) aside begins).state) (first s under)
    by_command (Withdraw other set) waits_not_of t = (
      set,
      λ s under. none_more set s (n.set s) ((touched begins set (withdraw set stamp client other (n.set set))).node.set s) (after_it s under),
    )
      where
        ended : Clients (λ c. 0) (n.set set) (withdraw set stamp client other (n.set set)).state
        ended =
            (ends_by_effects set stamp _ _ _ (ends set t.0 (λ c. 0)) (withdrawn set client other (n.set set)) []
            (withdrawn_of set n.clock stamp client other (others set) (asked_of set) (n.set set) refl (n.set set) [] (standing set t.0, first set t.0))).1

        after_it : (s : ℕ) → s < length script.sets → Clients (λ c. 0) (n.set s) (put n.set set (withdraw set stamp client other (n.set set)).state s)
        after_it s under = elim (cases_eq s set) [
          | inl e ↦ subst (λ (k : ℕ). Clients (λ c. 0) (n.set k) (put n.set set (withdraw set stamp client other (n.set set)).state k)) (sym e)
              (subst (Clients (λ c. 0) (n.set set)) (sym (put-same n.set set (withdraw set stamp client other (n.set set)).state)) ended)
          | inr d ↦ subst (Clients (λ c. 0) (n.set s)) (sym (put-other n.set set (withdraw set stamp client other (n.set set)).state s d)) (first s under)
        ]
