-- The `withdraw` of a client, over all sets of its node.
use Rattle.std.proofs.Common.{◌≡◌, ◌≢◌, ℕ, ◌+◌, ◌<◌, ◌≤◌, inl, inr, List, [], ◌∷◌, length, Some, Bool, true, false, refl, sym, ap, subst, arith, ◌∙◌, ◌⊎◌, ◌==◌, ◌||◌, ◌&&◌, Contains, count_by, eq-eqb, ne_eqb, eqb-true}
use Rattle.std.proofs.lemmas.Bool.{cases_eq, or_cases}
use Rattle.lt_modes.specs.declared.mode.Mode.{Mode}
use Rattle.lt_modes.specs.declared.stamp.Stamp.{Stamp}
use Rattle.lt_modes.specs.declared.ask.Ask.{Ask}
use Rattle.lt_modes.specs.declared.command.Command.TheVariants.{Withdraw}
use Rattle.lt_modes.specs.Script.{ScriptData}
use Rattle.lt_modes.specs.State.{SetState, Made, Post, then_do}
use Rattle.lt_modes.specs.Serving.{is_gone}
use Rattle.lt_modes.specs.Waiting.{waits}
use Rattle.lt_modes.specs.SetMove.{finish, withdrawn}
use Rattle.lt_lists.specs.Below.{put}
use Rattle.lt_lists.proofs.Puts.{put-same, put-other}
use Rattle.lt_lists.proofs.Sums.{sum_by-zero}
use Rattle.lt_spec.specs.NodeMove.{NodeState, node_waits, act_stamp, at_clock, one_made, obey, HasTargetsAt, withdraws_itself}
use Rattle.lt_spec.specs.World.{World}
use Rattle.lt_model.specs.Invariant.{AsksStand}
use Rattle.lt_model.proofs.Effects.{HoldsOf, ends_by_effects, both}
use Rattle.lt_model.proofs.SentInMove.{Stands, stands}
use Rattle.lt_model.proofs.StandingBegins.{elsewhere, unanswered, only_here, stands_before, none_in_hand}
use Rattle.lt_model.proofs.Voids.{withdraws_ways}
use Rattle.lt_law_accounts.proofs.RowTotals.{total}
use Rattle.lt_law_invariant.proofs.ClientEffects.{clients, live_by, live_less, new_less}
use Rattle.lt_law_invariant.proofs.ClientCommands.{IsIdle, idle_live, withdrawn_of}
use Rattle.lt_law_invariant.proofs.ClientMoves.{SoundClients, at_first, idle_in}
use Rattle.lt_law_ordered.proofs.Loans.{is_for, asks_for}
use Rattle.lt_law_ordered.proofs.NodeLoans.{idle_aside}
use Rattle.lt_law_upgrades.proofs.LiveAsks.{is_giving, asks_giving, locks_and_asks}
use Rattle.lt_law_upgrades.proofs.Balance.{Balance, even, clients_now}
use Rattle.lt_law_upgrades.proofs.DeskStays.{IsSettled, HasLeft}
use Rattle.lt_law_upgrades.proofs.DeskEffects.{desk_ends}
use Rattle.lt_law_upgrades.proofs.DeskAsks.{withdrawn_desk}

-- what a `withdraw` of the other client's wait does to a set: nothing moves, and that client waits no more
pub record Withdrawal (other : ℕ) (t u : SetState) : Type 0 where
  pub loans : (c : ℕ) (mode : Mode) → total u.held c mode + asks_for u c mode ≤ total t.held c mode + asks_for t c mode
  pub others : (c : ℕ) (mode : Mode) → c ≢ other → total u.held c mode + asks_for u c mode + asks_giving t c mode ≤ total t.held c mode + asks_for t c mode + asks_giving u c mode
  pub few : (c : ℕ) → locks_and_asks u c ≤ locks_and_asks t c
  pub live : (c : ℕ) → count_by (live_by (is_gone u c) c) u.pending ≤ count_by (live_by (is_gone t c) c) t.pending
  pub marks : (c : ℕ) → is_gone u c ≡ true → (is_gone t c ≡ true) ⊎ (other ≡ c)
  pub asks : (ask : Ask) → Contains u.pending ask → is_gone u ask.client ≡ false → Contains t.pending ask × (is_gone t ask.client ≡ false)
  pub none : IsIdle other u

-- and then the end of the move
withdrawal_then : (other : ℕ) (t u v : SetState) → Withdrawal other t u → Balance u v → Withdrawal other t v
withdrawal_then other t u v first later = record {
  loans = λ c mode. omega (arith, first.loans c mode, later.counts c mode, later.gives c mode);
  others = λ c mode d. omega (arith, first.others c mode d, later.counts c mode);
  few = λ c. omega (arith, first.few c, later.clients.counts c);
  live = λ c. omega (arith, first.live c, later.clients.asks c);
  marks = λ c e. first.marks c (later.marks c e);
  asks = λ ask there live. let before = later.asks ask there live in first.asks ask before.0 before.1;
  none = omega (arith, first.none, later.clients.asks other);
}

none_counted : (asks : List Ask) → count_by (λ (ask : Ask). false) asks ≡ 0
none_counted asks = sum_by-zero (λ (ask : Ask). 0) asks (λ i d within. refl)

-- fewer asks count where more are marked
for_less : (more gone : Bool) (c : ℕ) (mode : Mode) (asks : List Ask) → count_by (is_for (more || gone) c mode) asks ≤ count_by (is_for gone c mode) asks
for_less true gone c mode asks = let none : count_by (is_for true c mode) asks ≡ 0 = none_counted asks in omega (arith, none)
for_less false gone c mode asks = let same : count_by (is_for (false || gone) c mode) asks ≡ count_by (is_for gone c mode) asks = refl in omega (arith, same)

withdrawn_is : (client other s : ℕ) (t : SetState) → Withdrawal other t (withdrawn s client other t).state
withdrawn_is client other s t = withdraws_ways (λ (m : Made). Withdrawal other t m.state) s client other t (λ waiting. given) (λ idle. record {
  loans = λ c mode. omega arith;
  others = λ c mode d. omega arith;
  few = λ c. omega arith;
  live = λ c. omega arith;
  marks = λ c e. inl e;
  asks = λ ask there live. (there, live);
  none = idle_live t other idle;
})
  where
    either : (x y : Bool) → (x || y) ≡ false → y ≡ false
    either true y e = cc
    either false y e = e

    marked : is_gone (record t { gone = other ∷ t.gone }) other ≡ true
    marked = ap (λ (b : Bool). b || is_gone t other) (eq-eqb other other refl)

    given : Withdrawal other t (record t { gone = other ∷ t.gone })
    given = record {
      loans = λ c mode. omega (arith, for_less (other == c) (is_gone t c) c mode t.pending);
      others = λ c mode d. omega (
        arith,
        for_less (other == c) (is_gone t c) c mode t.pending,
        ap (λ (b : Bool). count_by (is_giving (b || is_gone t c) c mode) t.pending) (ne_eqb other c (λ e. d (sym e))),
      );
      few = λ c. omega (arith, new_less (other == c) (is_gone t c) c t.pending);
      live = λ c. omega (arith, live_less (other == c) (is_gone t c) c t.pending);
      marks = λ c e. elim (or_cases (other == c) (is_gone t c) e) [ inl own ↦ inr (eqb-true other c own) | inr old ↦ inl old ];
      asks = λ ask there live. (there, either (other == ask.client) (is_gone t ask.client) live);
      none = ap (λ (b : Bool). count_by (live_by b other) t.pending) marked ∙ none_counted t.pending;
    }

-- what it does to each set of its node
pub record Withdraws (nodes client other set s q : ℕ) (t u : SetState) (posts : List Post) : Type 0 where
  pub loans : (c : ℕ) (mode : Mode) → total u.held c mode + asks_for u c mode ≤ total t.held c mode + asks_for t c mode
  pub others : (c : ℕ) (mode : Mode) → (c ≡ other → s ≡ set → ⊥)
      → total u.held c mode + asks_for u c mode + asks_giving t c mode ≤ total t.held c mode + asks_for t c mode + asks_giving u c mode
  pub few : (c : ℕ) → locks_and_asks u c ≤ locks_and_asks t c
  pub marks : (c : ℕ) → is_gone u c ≡ true → (is_gone t c ≡ true) ⊎ ((other ≡ c) × (set ≡ s))
  pub asks : (ask : Ask) → Contains u.pending ask → is_gone u ask.client ≡ false → Contains t.pending ask × (is_gone t ask.client ≡ false)
  pub idle : IsIdle client u
  pub desk : IsSettled nodes u ⊎ HasLeft s q posts

pub withdraw_sets : (script : ScriptData) (w : World) (q client other set : ℕ)
    → ((s : ℕ) → s < length script.sets → AsksStand script w s) → q < script.nodes → SoundClients script (w.node q)
    → (withdraws_itself (w.node q) client (Some (Withdraw other set)) ≡ false → node_waits script (w.node q) client ≡ false) → HasTargetsAt script client (Withdraw other set)
    → ((s : ℕ) → s < length script.sets → IsSettled script.nodes ((w.node q).set s)) → (s : ℕ) → s < length script.sets
    → Withdraws script.nodes client other set s q ((w.node q).set s)
    ((obey script (act_stamp q (w.node q)) client (Some (Withdraw other set)) (one_made client (at_clock ((w.node q).clock + 1) (w.node q)))).node.set s)
    (obey script (act_stamp q (w.node q)) client (Some (Withdraw other set)) (one_made client (at_clock ((w.node q).clock + 1) (w.node q)))).posts
withdraw_sets script w q client other set stood below h waits_not targets settled s under = elim (cases_eq s set) [
  | inl e ↦ subst (λ (k : ℕ). Withdraws script.nodes client other set k q (n.set k) (put n.set set v k) posts) (sym e)
      (subst (λ (t : SetState). Withdraws script.nodes client other set set q (n.set set) t posts) (sym (put-same n.set set v)) (record {
        loans = done.loans;
        others = λ c mode d. done.others c mode (λ same. d same refl);
        few = done.few;
        marks = λ c e. elim (done.marks c e) [ inl old ↦ inl old | inr own ↦ inr (own, refl) ];
        asks = done.asks;
        idle = own_idle (other == client) refl;
        desk = ended.1;
      }))
  | inr d ↦ subst (λ (t : SetState). Withdraws script.nodes client other set s q (n.set s) t posts) (sym (put-other n.set set v s d)) (record {
    loans = λ c mode. omega arith;
    others = λ c mode e. omega arith;
    few = λ c. omega arith;
    marks = λ c e. inl e;
    asks = λ ask there live. (there, live);
    idle = idle_beside d (waits (n.set set) client) refl;
    desk = inl (settled s under);
  })
]
  where
    n : NodeState
    n = w.node q

    stamp : Stamp
    stamp = act_stamp q n

    m : Made
    m = withdrawn set client other (n.set set)

    v : SetState
    v = (then_do m (finish set stamp)).state

    posts : List Post
    posts = (then_do m (finish set stamp)).posts

    standing : Stands set q n.clock (elsewhere script w set q w.mail) (unanswered script w set q) (n.set set) []
    standing =
        none_in_hand set q n.clock (elsewhere script w set q w.mail) (unanswered script w set q) (λ a. 0) (n.set set) [] (λ a. refl)
        (stands_before script w set q w.mail (λ a. 0) (stood set targets.0) below (λ a. omega arith))

    mid : HoldsOf (both (stands set q stamp.clock (elsewhere script w set q w.mail) (unanswered script w set q)) (clients (λ c. 0) (n.set set))) [] m
    mid = withdrawn_of set n.clock stamp client other (elsewhere script w set q w.mail) (unanswered script w set q) (n.set set) refl (n.set set) [] (standing, at_first script n h set targets.0)

    ended : HoldsOf (both (both (stands set q stamp.clock (elsewhere script w set q w.mail) (unanswered script w set q)) (λ t letters. Balance m.state t)) (λ t letters. IsSettled script.nodes t ⊎ HasLeft set q letters))
        [] (then_do m (finish set stamp))
    ended = ends_by_effects set stamp _ _ _
        (desk_ends script.nodes set stamp (elsewhere script w set q w.mail) (unanswered script w set q) m.state below (only_here script w set q (stood set targets.0) below)) m []
        ((mid.0, even m.state (clients_now (λ c. 0) (n.set set) m.state mid.1)), withdrawn_desk script.nodes set client other (n.set set) (settled set targets.0).keeps)

    done : Withdrawal other (n.set set) v
    done = withdrawal_then other (n.set set) m.state v (withdrawn_is client other set (n.set set)) ended.0.1

    -- who makes the command waits for nothing then
    own_idle : (own : Bool) → (other == client) ≡ own → IsIdle client v
    own_idle true e = subst (λ (c : ℕ). IsIdle c v) (eqb-true other client e) done.none
    own_idle false e = omega (arith, done.live client, idle_in script n client (waits_not (ap (λ (b : Bool). b && waits (n.set set) client) e)) set targets.0)

    idle_beside : s ≢ set → (waiting : Bool) → waits (n.set set) client ≡ waiting → IsIdle client (n.set s)
    idle_beside d true e = idle_aside script n h client set s targets.0 under d e
    idle_beside d false e = idle_in script n client (waits_not (and_false (other == client) (waits (n.set set) client) e)) s under
      where
        and_false : (a b : Bool) → b ≡ false → (a && b) ≡ false
        and_false true b f = f
        and_false false b f = refl
