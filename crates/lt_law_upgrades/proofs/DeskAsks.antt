-- Who is first in the queue stays first as asks and tells are routed.
use Rattle.std.proofs.Common.{◌≡◌, ℕ, inl, inr, List, [], ◌∷◌, ◌++◌, Option, Some, None, Bool, true, false, refl, sym, ap, subst, ◌∙◌, ◌≤◌, arith, zero, suc, Contains, IsTrue, IsFalse, is_some, ◌==◌, if◌then◌else◌, eq-eqb, eqb-true, length-set}
use Rattle.std.specs.List.{AllByRecursion}
use Rattle.std.proofs.lemmas.Bool.{false≢true}
use Rattle.std.proofs.lemmas.List.Elements.{Contains-append_left, Contains-append_right, Contains-push_cases}
use Rattle.lt_modes.specs.declared.stamp.Stamp.{Stamp}
use Rattle.lt_modes.specs.declared.ask.Ask.{Ask}
use Rattle.lt_modes.specs.declared.parts.Row.{Row}
use Rattle.lt_modes.specs.Modes.{has, held_modes, excludes_itself, one, covers, is_of, count_of, take_lock}
use Rattle.lt_modes.specs.State.{entered, SetState, Made, Desk, Parked, ParkedAsk, ParkedTell, entry_of}
use Rattle.lt_modes.specs.Serving.{queue_of_desk, queue_of, without_gone}
use Rattle.lt_modes.specs.Telling.{told}
use Rattle.lt_model.proofs.Voids.{asks_ways, withdraws_ways}
use Rattle.lt_modes.specs.SetMove.{ask_of, asked, asked_or_not, answers, given, granted, locked, tried, unlocked, change_held, changed, withdrawn}
use Rattle.lt_modes.specs.Routing.{route}
use Rattle.lt_modes.specs.Granting.{is_holder, can_grant}
use Rattle.lt_modes.specs.declared.mode.Mode.{Mode}
use Rattle.lt_modes.specs.declared.event.Event.TheVariants.{Try as TryLine, Unlock as UnlockLine, NotHeld, Change as ChangeLine}
use Rattle.lt_lists.proofs.Members.{contains_first, list_any-at, list_any-which}
use Rattle.lt_law_accounts.specs.Account.{IsAfterHolders}
use Rattle.lt_law_accounts.proofs.Entering.{holder_enters, other_enters}
use Rattle.lt_law_accounts.proofs.RowTotals.{total}
use Rattle.lt_law_accounts.proofs.Rows.{rows_taken}
use Rattle.lt_law_invariant.proofs.Seen.{SameOwn}
use Rattle.lt_law_invariant.proofs.Ledgers.{with_item, routed_desk}
use Rattle.lt_law_invariant.proofs.OwnSteps.{route_same}
use Rattle.lt_law_invariant.proofs.ClientCommands.{count_within}
use Rattle.lt_law_lines.proofs.KeptLines.{row_of}
use Rattle.lt_law_waiting.proofs.WaitsAtRest.{row_counts}
use Rattle.lt_law_ordered.proofs.ChangeLoans.{weaker_granted}
use Rattle.lt_law_upgrades.proofs.DeskStays.{HasEntries, KeepsDesk}
use Rattle.lt_law_upgrades.proofs.DeskGrants.{Begins, granted_keeps, fewer_keeps}

-- a holder's ask that is first stays first as another one enters
first_stays : (first : Ask) (rest : List Ask) (ask : Ask) → IsTrue first.holder → (later : List Ask) × (entered (first ∷ rest) ask ≡ first ∷ later)
first_stays first rest ask holds = by_holder ask.holder refl
  where
    by_front : (i : IsAfterHolders (first ∷ rest) ask (entered (first ∷ rest) ask)) → (front : List Ask) → i.before ≡ front → (later : List Ask) × (entered (first ∷ rest) ask ≡ first ∷ later)
    by_front i [] e =
        let all : first ∷ rest ≡ i.after = i.was ∙ ap (λ (l : List Ask). l ++ i.after) e in
        absurd (false≢true (sym (subst (AllByRecursion (λ (other : Ask). IsFalse other.holder)) (sym all) i.no_holders).0 ∙ holds))
    by_front i (x ∷ more) e =
        let same : first ≡ x = first_of (i.was ∙ ap (λ (l : List Ask). l ++ i.after) e) in
        (more ++ ask ∷ i.after, i.is ∙ ap (λ (l : List Ask). l ++ ask ∷ i.after) e ∙ ap (λ (y : Ask). y ∷ (more ++ ask ∷ i.after)) (sym same))
      where
        first_of : first ∷ rest ≡ x ∷ (more ++ i.after) → first ≡ x
        first_of f = cc

    by_holder : (b : Bool) → ask.holder ≡ b → (later : List Ask) × (entered (first ∷ rest) ask ≡ first ∷ later)
    by_holder true e = let i = holder_enters (first ∷ rest) ask e in by_front i i.before refl
    by_holder false e = (rest ++ ask ∷ [], other_enters (first ∷ rest) ask e)

-- where no other holder's ask is in the queue a holder's ask enters first
pub enters_first : (queue : List Ask) (ask : Ask) → IsTrue ask.holder → ((b : Ask) → Contains queue b → IsFalse b.holder) → (later : List Ask) × (entered queue ask ≡ ask ∷ later)
enters_first queue ask holds none = elim i.last_holder [
  | inl empty ↦ (i.after, i.is ∙ ap (λ (l : List Ask). l ++ ask ∷ i.after) empty)
  | inr (front, last, e, is_holder) ↦
      let there : Contains i.before last = subst (λ (l : List Ask). Contains l last) (sym e) (Contains-append_right front (last ∷ []) last (contains_first last last [] refl)) in
      absurd (false≢true (sym (none last (subst (λ (l : List Ask). Contains l last) (sym i.was) (Contains-append_left i.before i.after last there))) ∙ is_holder))
]
  where
    i : IsAfterHolders queue ask (entered queue ask)
    i = holder_enters queue ask holds

-- the desk once it dealt with something
pub item_entries : (nodes : ℕ) (o : Option Desk) (item : Parked) → HasEntries nodes o → HasEntries nodes (with_item o item)
item_entries nodes None item h = tt
item_entries nodes (Some desk) (ParkedAsk ask) h = h
item_entries nodes (Some desk) (ParkedTell tell) h = length-set desk.entries tell.node (told tell (entry_of desk tell.node)) ∙ h

pub item_here : (o : Option Desk) (item : Parked) → is_some (with_item o item) ≡ is_some o
item_here None item = refl
item_here (Some desk) item = refl

-- who is first in the queue stays first
item_next : (o : Option Desk) (item : Parked) (first : Ask) (rest : List Ask) → IsTrue first.holder → queue_of_desk o ≡ first ∷ rest → (later : List Ask) × (queue_of_desk (with_item o item) ≡ first ∷ later)
item_next None item first rest holds e = cc
item_next (Some desk) (ParkedAsk ask) first rest holds e =
    let later = first_stays first rest ask holds in
    (later.0, ap (λ (l : List Ask). entered l ask) e ∙ later.1)
item_next (Some desk) (ParkedTell tell) first rest holds e = (rest, e)

-- an ask or a tell is routed
pub routed_keeps : (nodes s : ℕ) (stamp : Stamp) (marked : Bool) (item : Parked) (t : SetState) → KeepsDesk nodes t → KeepsDesk nodes (route s stamp marked item t).state
routed_keeps nodes s stamp marked item t h = record {
  entries = subst (HasEntries nodes) (sym desk) (item_entries nodes t.desk item h.entries);
  desk = λ m there taking. ap is_some desk ∙ item_here t.desk item ∙ h.desk m (subst (λ (r : List Row). IsTrue (has m (held_modes r))) same.held there) taking;
  fresh = λ ask there none. h.fresh ask (subst (λ (l : List Ask). Contains l ask) same.pending there) none;
  next = λ ask g there e.
      let n = h.next ask g (subst (λ (l : List Ask). Contains l ask) same.pending there) e in
      let later = item_next t.desk item ask n.rest n.holder n.queue in
      record { taking = n.taking; higher = n.higher; holder = n.holder; rest = later.0; queue = ap queue_of_desk desk ∙ later.1 };
}
  where
    same : SameOwn t (route s stamp marked item t).state
    same = (route_same s stamp marked item t).1

    desk : (route s stamp marked item t).state.desk ≡ with_item t.desk item
    desk = routed_desk s stamp marked item t

-- The desk stays with a mode that excludes itself as clients ask.

-- a client that holds nothing of the set asks
pub lock_asks_keeps : (nodes s : ℕ) (stamp : Stamp) (client : ℕ) (mode : Mode) (t : SetState) → KeepsDesk nodes t → is_holder t client ≡ false
    → KeepsDesk nodes (asked s stamp (ask_of stamp client mode None t) t).state
lock_asks_keeps nodes s stamp client mode t h holds_not = routed_keeps nodes s stamp false (ParkedAsk ask) (record t { pending = t.pending ++ ask ∷ [] }) (record {
  entries = h.entries;
  desk = h.desk;
  fresh = λ a there none. elim (Contains-push_cases t.pending ask a there) [
    | inl old ↦ h.fresh a old none
    | inr new ↦ subst (λ (x : Ask). IsFalse x.holder) new holds_not
  ];
  next = λ a g there e. elim (Contains-push_cases t.pending ask a there) [
    | inl old ↦ let n = h.next a g old e in record { taking = n.taking; higher = n.higher; holder = n.holder; rest = n.rest; queue = n.queue }
    | inr new ↦ none_given a g (ap (λ (x : Ask). x.gives_up) new) e
  ];
})
  where
    ask : Ask
    ask = ask_of stamp client mode None t

    none_given : {A : Type 0} (a : Ask) (g : Mode) → None ≡ a.gives_up → a.gives_up ≡ Some g → A
    none_given a g e f = let no : None ≡ Some g = e ∙ f in cc

-- a client that holds a mode that excludes itself asks to change it
pub change_asks_keeps : (nodes s : ℕ) (stamp : Stamp) (client : ℕ) (gives_up mode : Mode) (t : SetState) → KeepsDesk nodes t → is_holder t client ≡ true → is_some t.desk ≡ true
    → IsTrue (excludes_itself gives_up) → IsFalse (covers (one gives_up) mode) → ((b : Ask) → Contains (queue_of t) b → IsFalse b.holder)
    → KeepsDesk nodes (asked s stamp (ask_of stamp client mode (Some gives_up) t) t).state
change_asks_keeps nodes s stamp client gives_up mode t h holds here taking higher none = record {
  entries = subst (HasEntries nodes) (sym desk) (item_entries nodes t.desk (ParkedAsk ask) h.entries);
  desk = λ m there takes. ap is_some desk ∙ item_here t.desk (ParkedAsk ask) ∙ here;
  fresh = λ a there fresh. elim (Contains-push_cases t.pending ask a (subst (λ (l : List Ask). Contains l a) same.pending there)) [
    | inl old ↦ h.fresh a old fresh
    | inr new ↦ some_given a (ap (λ (x : Ask). x.gives_up) new) fresh
  ];
  next = λ a g there e. elim (Contains-push_cases t.pending ask a (subst (λ (l : List Ask). Contains l a) same.pending there)) [
    | inl old ↦
        let n = h.next a g old e in
        absurd (false≢true (sym (none a (subst (λ (l : List Ask). Contains l a) (sym n.queue) (contains_first a a n.rest refl))) ∙ n.holder))
    | inr new ↦
        let first = by_desk t.desk refl here in
        let is_given : gives_up ≡ g = given_is (ap (λ (x : Ask). x.gives_up) new ∙ e) in
        record {
          taking = subst (λ (m : Mode). IsTrue (excludes_itself m)) is_given taking;
          higher = (λ i. covers (one (sym is_given i)) (sym (ap (λ (x : Ask). x.mode) new) i)) ∙ higher;
          holder = ap (λ (x : Ask). x.holder) (sym new) ∙ holds;
          rest = first.0;
          queue = ap queue_of_desk desk ∙ first.1 ∙ ap (λ (x : Ask). x ∷ first.0) new;
        }
  ];
}
  where
    ask : Ask
    ask = ask_of stamp client mode (Some gives_up) t

    more : SetState
    more = record t { pending = t.pending ++ ask ∷ [] }

    same : SameOwn more (route s stamp false (ParkedAsk ask) more).state
    same = (route_same s stamp false (ParkedAsk ask) more).1

    desk : (route s stamp false (ParkedAsk ask) more).state.desk ≡ with_item t.desk (ParkedAsk ask)
    desk = routed_desk s stamp false (ParkedAsk ask) more

    given_is : {g : Mode} → Some gives_up ≡ Some g → gives_up ≡ g
    given_is e = cc

    some_given : {A : Type 0} (a : Ask) → Some gives_up ≡ a.gives_up → a.gives_up ≡ None → A
    some_given a e f = let no : Some gives_up ≡ None = e ∙ f in cc

    by_desk : (o : Option Desk) → t.desk ≡ o → is_some o ≡ true → (later : List Ask) × (queue_of_desk (with_item o (ParkedAsk ask)) ≡ ask ∷ later)
    by_desk None e f = cc
    by_desk (Some d) e f = enters_first d.queue ask holds (λ b there. none b (subst (λ (o : Option Desk). Contains (queue_of_desk o) b) (sym e) there))

-- who holds nothing of the set is no holder
pub not_holder : (t : SetState) (client : ℕ) → ((row : Row) → Contains t.held row → 1 ≤ row.count) → ((mode : Mode) → total t.held client mode ≡ 0) → is_holder t client ≡ false
not_holder t client some none = by_test (is_holder t client) refl
  where
    by_test : (b : Bool) → is_holder t client ≡ b → b ≡ false
    by_test false e = refl
    by_test true e =
        let row = list_any-which (is_of client) t.held e in
        let own : row.0.client ≡ client = eqb-true row.0.client client row.2 in
        absurd (omega (arith, row_counts t.held row.0 row.1 (some row.0 row.1), ap (λ (c : ℕ). total t.held c row.0.mode) own, none row.0.mode))

-- and who holds some is one
pub is_one : (t : SetState) (client : ℕ) (mode : Mode) → 1 ≤ total t.held client mode → is_holder t client ≡ true
is_one t client mode some =
    let row = row_of t.held client mode some in
    list_any-at (is_of client) t.held row.0 row.1 (eq-eqb row.0.client client row.2)

-- The desk stays with a mode that excludes itself through each command of a client.

-- marks don't matter
pub marks_keep : (nodes : ℕ) (t : SetState) (marks : List ℕ) → KeepsDesk nodes t → KeepsDesk nodes (record t { gone = marks })
marks_keep nodes t marks h = record {
  entries = h.entries;
  desk = h.desk;
  fresh = h.fresh;
  next = λ ask g there e. let n = h.next ask g there e in record { taking = n.taking; higher = n.higher; holder = n.holder; rest = n.rest; queue = n.queue };
}

-- an ask, or one that is taken up again, or neither
asks_or_not_keeps : (nodes s : ℕ) (stamp : Stamp) (ask : Ask) (t : SetState) → KeepsDesk nodes t → KeepsDesk nodes (asked s stamp ask t).state → KeepsDesk nodes (asked_or_not s stamp ask t).state
asks_or_not_keeps nodes s stamp ask t h asks = asks_ways (λ (m : Made). KeepsDesk nodes m.state) s stamp ask t (λ live. asks)
    (λ gone same. marks_keep nodes t (without_gone t.gone ask.client) h) h

pub locked_desk : (nodes s : ℕ) (stamp : Stamp) (client : ℕ) (mode : Mode) (t : SetState) → Begins nodes t → is_holder t client ≡ false → KeepsDesk nodes (locked s stamp client mode t).state
locked_desk nodes s stamp client mode t h none = by_test (can_grant stamp.node t client mode) refl
  where
    by_test : (can : Bool) → can_grant stamp.node t client mode ≡ can → KeepsDesk nodes (if can then granted s client mode t else asked_or_not s stamp (ask_of stamp client mode None t) t).state
    by_test true e = granted_keeps nodes stamp.node client mode None t h e
    by_test false e = asks_or_not_keeps nodes s stamp (ask_of stamp client mode None t) t h.keeps (lock_asks_keeps nodes s stamp client mode t h.keeps none)

pub tried_desk : (nodes s : ℕ) (stamp : Stamp) (client : ℕ) (mode : Mode) (t : SetState) → Begins nodes t → KeepsDesk nodes (tried s stamp client mode t).state
tried_desk nodes s stamp client mode t h = by_test (can_grant stamp.node t client mode) refl
  where
    by_test : (can : Bool) → can_grant stamp.node t client mode ≡ can
        → KeepsDesk nodes (if can then answers (TryLine client s mode true) (given client mode None t) else answers (TryLine client s mode false) t).state
    by_test true e = granted_keeps nodes stamp.node client mode None t h e
    by_test false e = h.keeps

pub unlocked_desk : (nodes s client : ℕ) (mode : Mode) (t : SetState) → KeepsDesk nodes t → KeepsDesk nodes (unlocked s client mode t).state
unlocked_desk nodes s client mode t h = by_test (count_of t.held client mode == 0)
  where
    by_test : (unheld : Bool)
        → KeepsDesk nodes (if unheld then answers (NotHeld client s mode) t else answers (UnlockLine client s mode) (record t { held = take_lock t.held client mode })).state
    by_test true = h
    by_test false = fewer_keeps nodes t (take_lock t.held client mode) (rows_taken t.held client mode) h

pub changed_desk : (nodes s : ℕ) (stamp : Stamp) (client : ℕ) (gives_up mode : Mode) (t : SetState) → Begins nodes t
    → (IsFalse (covers (one gives_up) mode) → 1 ≤ total t.held client gives_up
    → IsTrue (excludes_itself gives_up) × IsTrue (is_some t.desk) × ((b : Ask) → Contains (queue_of t) b → IsFalse b.holder))
    → KeepsDesk nodes (changed s stamp client gives_up mode t).state
changed_desk nodes s stamp client gives_up mode t h ready = by_count (count_of t.held client gives_up == 0) refl
  where
    some_one : (k : ℕ) → (k == 0) ≡ false → 1 ≤ k
    some_one zero e = cc
    some_one (suc k) e = omega arith

    uncovered : (b : Bool) → covers (one gives_up) mode ≡ b → 1 ≤ count_of t.held client gives_up → can_grant stamp.node t client mode ≡ false → b ≡ false
    uncovered false e some can = refl
    uncovered true e some can = absurd (false≢true (sym can ∙ weaker_granted stamp.node t client gives_up mode e some))

    by_test : 1 ≤ count_of t.held client gives_up → (can : Bool) → can_grant stamp.node t client mode ≡ can
        → KeepsDesk nodes (if can then answers (ChangeLine client s gives_up mode) (given client mode (Some gives_up) t) else asked_or_not s stamp (ask_of stamp client mode (Some gives_up) t) t).state
    by_test some true e = granted_keeps nodes stamp.node client mode (Some gives_up) t h e
    by_test some false e =
        let higher = uncovered (covers (one gives_up) mode) refl some e in
        let held : 1 ≤ total t.held client gives_up = omega (arith, some, count_within t.held client gives_up) in
        let now = ready higher held in
        asks_or_not_keeps nodes s stamp (ask_of stamp client mode (Some gives_up) t) t h.keeps
        (change_asks_keeps nodes s stamp client gives_up mode t h.keeps (is_one t client gives_up held) now.1 now.0 higher now.2)

    by_count : (unheld : Bool) → (count_of t.held client gives_up == 0) ≡ unheld
        → KeepsDesk nodes (if unheld then answers (NotHeld client s gives_up) t else change_held s stamp client gives_up mode t).state
    by_count true e = h.keeps
    by_count false e = by_test (some_one (count_of t.held client gives_up) e) (can_grant stamp.node t client mode) refl

pub withdrawn_desk : (nodes s client other : ℕ) (t : SetState) → KeepsDesk nodes t → KeepsDesk nodes (withdrawn s client other t).state
withdrawn_desk nodes s client other t h = withdraws_ways (λ (m : Made). KeepsDesk nodes m.state) s client other t (λ waiting. marks_keep nodes t (other ∷ t.gone) h) (λ idle. h)
