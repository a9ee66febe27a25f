-- Accounts to which things happen in any order stay kept and clear of each other.
use Rattle.std.proofs.Common.{◌≡◌, ◌≢◌, ℕ, zero, suc, ◌<◌, inl, inr, List, [], ◌∷◌, Bool, true, false, refl, sym, ap, subst, arith, ◌∙◌, ◌⊎◌, ◌==◌, Contains, IsTrue, if◌then◌else◌, eq-eqb, ne_eqb}
use Rattle.std.proofs.lemmas.Bool.{cases_eq, false_from_ne_true}
use Rattle.lt_modes.specs.declared.mode.Mode.{Mode}
use Rattle.lt_modes.specs.declared.parts.Owed.{Owed}
use Rattle.lt_modes.specs.Modes.{Modes, conflicts, has, no_modes, with_mode, held_modes}
use Rattle.lt_modes.specs.State.{modes_of_asks, Tell}
use Rattle.lt_modes.specs.Telling.{is_newer, is_open, left_owed}
use Rattle.lt_modes.proofs.ModeAlgebra.{conflicts-sym, union_bars_both, clear_below, clear_both_ways, none_in_none}
use Rattle.lt_modes.proofs.StampOrder.{newer_in_turn}
use Rattle.lt_modes.specs.declared.ask.Ask.{Ask}
use Rattle.lt_lists.specs.Below.{put}
use Rattle.lt_lists.proofs.Puts.{put-same, put-other}
use Rattle.lt_law_accounts.specs.Account.{Account, AccountKept, Bars, AreClear, counted, owed_and_waiting, OwedAreOnWay, OnWayAreOwed, TellKeepsWaiting, TwiceIsOnce, RecordBoundsHeld}
use Rattle.lt_law_accounts.specs.AccountPlay.{CountsSame, CountsLess, CountsOneMore, AccountStep, Tick, Wait, Grant, Unlock, Drop, Answer, Owe, Deliver, Apply, Say, Settle, Arrive, Rest, Freeze, Reorder, after_step, MayStep, others_counted, after_one, AllClear, AllKept, CountsOn, ClearStays, first_account, FirstAccounts, LocksAgree, AnyOrder, FromTheStart, Void, VoidCopy}
use Rattle.lt_law_accounts.proofs.AccountFacts.{has-with_mode, waiting_is_copy, copy_is_waiting, asks_which, asks_at, left_owed-at, held_below_now, open-cases, open_later}
use Rattle.lt_law_accounts.proofs.AccountTells.{empty_is_kept, stale_kept, tells_kept}
use Rattle.lt_law_accounts.proofs.AccountAsks.{ticks_kept, asks_kept, rests_kept, freezes_kept, reorders_kept}
use Rattle.lt_law_accounts.proofs.Rows.{held-at}
use Rattle.lt_law_accounts.proofs.AccountGrants.{grants_kept, unlocks_kept, drops_kept}
use Rattle.lt_law_accounts.proofs.AccountAnswers.{answers_kept, delivers_kept, voids_kept, voids_copies_kept}
use Rattle.lt_law_accounts.proofs.AccountApplies.{applies_kept, settles_kept, arrives_kept, hold_clear}
use Rattle.lt_law_accounts.proofs.AccountDesk.{owes_kept}
use Rattle.lt_law_accounts.specs.AccountSteps.{HaveSame, reordering, freezing}

pub clear_stays : ClearStays
clear_stays n x counts now clear here on y z hy hz d = by_first (cases_eq y x)
  where
    changed : (v : ℕ) → v < n → v ≢ x → AreClear now (counts v)
    changed v hv dv = elim on [
      | inl less ↦ clear_below conflicts conflicts-sym now (counts x) (counts v) less (clear x v here hv (λ e. dv (sym e)))
      | inr more ↦ clear_below conflicts conflicts-sym now (with_mode (counts x) more.0) (counts v) more.1 (λ mode member bar.
          elim (has-with_mode mode more.0 (counts x) member) [
            | inl before ↦ clear x v here hv (λ e. dv (sym e)) mode before bar
            | inr new ↦ more.2 v hv dv (subst (λ (m : Mode). Bars (counts v) m) (sym new) bar)
          ])
    ]

    by_second : y ≢ x → (z ≡ x) ⊎ (z ≢ x) → AreClear (put counts x now y) (put counts x now z)
    by_second dy (inl same) = rw (ne_eqb y x dy) (rw (eq-eqb z x same) (clear_both_ways conflicts conflicts-sym now (counts y) (changed y hy dy)))
    by_second dy (inr dz) = rw (ne_eqb y x dy) (rw (ne_eqb z x dz) (clear y z hy hz d))

    by_first : (y ≡ x) ⊎ (y ≢ x) → AreClear (put counts x now y) (put counts x now z)
    by_first (inl same) =
        let dz : z ≢ x = λ e. d (same ∙ sym e) in
        rw (eq-eqb y x same) (rw (ne_eqb z x dz) (changed z hz dz))
    by_first (inr dy) = by_second dy (cases_eq z x)

-- what the others count, each of them counts
pub others-which : (n : ℕ) (accounts : ℕ → Account) (v : ℕ) (mode : Mode) → Bars (others_counted n accounts v) mode
    → (y : ℕ) × (y < n) × (y ≢ v) × Bars (counted (accounts y)) mode
others-which zero accounts v mode bar = none_in_none bar.0 bar.2
others-which (suc n) accounts v mode bar =
    elim ((union_bars_both conflicts (others_counted n accounts v) (if n == v then no_modes else counted (accounts n)) mode).0 bar) [
      | inl below ↦
          let found = others-which n accounts v mode below in
          (found.0, omega (arith, found.1), found.2, found.3)
      | inr last ↦ by_same (cases_eq n v) last
    ]
  where
    by_same : (n ≡ v) ⊎ (n ≢ v) → Bars (if n == v then no_modes else counted (accounts n)) mode
        → (y : ℕ) × (y < suc n) × (y ≢ v) × Bars (counted (accounts y)) mode
    by_same (inl same) last =
        let none : Bars no_modes mode = subst (λ (b : Bool). Bars (if b then no_modes else counted (accounts n)) mode) (eq-eqb n v same) last in
        none_in_none none.0 none.2
    by_same (inr d) last = (n, omega arith, d, subst (λ (b : Bool). Bars (if b then no_modes else counted (accounts n)) mode) (ne_eqb n v d) last)

others-at : (n : ℕ) (accounts : ℕ → Account) (v y : ℕ) (mode : Mode) → y < n → y ≢ v → Bars (counted (accounts y)) mode → Bars (others_counted n accounts v) mode
others-at zero accounts v y mode below d bar = absurd (omega (arith, below))
others-at (suc n) accounts v y mode below d bar =
    (union_bars_both conflicts (others_counted n accounts v) (if n == v then no_modes else counted (accounts n)) mode).1
    (elim (cases_eq y n) [
      | inl same ↦ inr (subst (λ (b : Bool). Bars (if b then no_modes else counted (accounts n)) mode) (sym (ne_eqb n v (λ e. d (same ∙ e))))
          (subst (λ (k : ℕ). Bars (counted (accounts k)) mode) same bar))
      | inr other ↦ inl (others-at n accounts v y mode (omega (arith, below, other)) d bar)
    ])

clear_of_others : (n : ℕ) (accounts : ℕ → Account) (x : ℕ) → x < n → AllClear n (λ k. counted (accounts k)) → AreClear (counted (accounts x)) (others_counted n accounts x)
clear_of_others n accounts x here clear mode member bar =
    let found = others-which n accounts x mode bar in
    clear x found.0 here found.1 (λ e. found.2 (sym e)) mode member found.3

-- what a step does to the account and to what counts of it
record Steps (n : ℕ) (accounts : ℕ → Account) (x : ℕ) (now : Account) : Type 0 where
  kept : AccountKept now
  counts : CountsOn n (λ k. counted (accounts k)) x (counted now)

steps_less : (n : ℕ) (accounts : ℕ → Account) (x : ℕ) (now : Account) → AccountKept now × CountsLess (accounts x) now → Steps n accounts x now
steps_less n accounts x now h = record { kept = h.0; counts = inl h.1 }

steps_same : (n : ℕ) (accounts : ℕ → Account) (x : ℕ) (now : Account) → AccountKept now × CountsSame (accounts x) now → Steps n accounts x now
steps_same n accounts x now h = record { kept = h.0; counts = inl h.1.0 }

steps_more : (n : ℕ) (accounts : ℕ → Account) (x : ℕ) (mode : Mode) (now : Account)
    → AccountKept now × CountsOneMore (others_counted n accounts x) mode (accounts x) now → Steps n accounts x now
steps_more n accounts x mode now h = record {
  kept = h.0;
  counts = elim h.1 [
    | inl less ↦ inl less
    | inr more ↦ inr (mode, more.0, λ y below d bar. more.1 (others-at n accounts x y mode below d bar))
  ];
}

one_step : (n : ℕ) (accounts : ℕ → Account) (x : ℕ) → x < n → AllKept n accounts → (step : AccountStep) → MayStep (others_counted n accounts x) step (accounts x)
    → Steps n accounts x (after_step step (accounts x))
one_step n accounts x here h (Tick clock) may = steps_same n accounts x _ (ticks_kept (accounts x) clock (h.kept x here) may)
one_step n accounts x here h (Wait ask) may = steps_same n accounts x _ (asks_kept (accounts x) ask (h.kept x here) may)
one_step n accounts x here h (Grant client mode gives_up) may = steps_more n accounts x mode _
    (grants_kept (accounts x) (others_counted n accounts x) client mode gives_up (h.kept x here) may.0 may.1 (clear_of_others n accounts x here h.clear))
one_step n accounts x here h (Unlock client mode) may = steps_less n accounts x _ (unlocks_kept (accounts x) client mode (h.kept x here) may)
one_step n accounts x here h (Drop client) may = steps_less n accounts x _ (drops_kept (accounts x) client (h.kept x here) may)
one_step n accounts x here h (Answer ask) may = steps_more n accounts x ask.mode _ (answers_kept (accounts x) (others_counted n accounts x) ask (h.kept x here) may)
one_step n accounts x here h (Owe ask copies) may = steps_more n accounts x ask.mode _ (owes_kept (accounts x) (others_counted n accounts x) ask copies (h.kept x here) may)
one_step n accounts x here h (Deliver ask copies) may = steps_less n accounts x _ (delivers_kept (accounts x) ask copies (h.kept x here) may)
one_step n accounts x here h (Void ask) may = steps_less n accounts x _ (voids_kept (accounts x) ask (h.kept x here) may)
one_step n accounts x here h (VoidCopy ask copies) may = steps_less n accounts x _ (voids_copies_kept (accounts x) ask copies (h.kept x here) may)
one_step n accounts x here h (Apply tell tells) may = by_order (is_newer tell.stamp (accounts x).entry.told_at) refl
  where
    by_order : (newer : Bool) → is_newer tell.stamp (accounts x).entry.told_at ≡ newer → Steps n accounts x (after_step (Apply tell tells) (accounts x))
    by_order true e = steps_less n accounts x _ (applies_kept (accounts x) tell tells (h.kept x here) may e)
    by_order false e = steps_same n accounts x _ (stale_kept (accounts x) tell tells (h.kept x here) may e)
one_step n accounts x here h (Say stamp tells) may = steps_same n accounts x _ (tells_kept (accounts x) stamp tells (h.kept x here) may)
one_step n accounts x here h (Settle stamp) may = steps_same n accounts x _ (settles_kept (accounts x) stamp (h.kept x here) may)
one_step n accounts x here h Arrive may = steps_less n accounts x _ (arrives_kept (accounts x) (h.kept x here) may)
one_step n accounts x here h Rest may = steps_same n accounts x _ (rests_kept (accounts x) (h.kept x here) may)
one_step n accounts x here h (Freeze frozen) may = steps_same n accounts x _ (freezes_kept (accounts x) frozen (h.kept x here))
one_step n accounts x here h (Reorder tells copies) may = steps_same n accounts x _ (reorders_kept (accounts x) tells copies (h.kept x here) may)

counted_put : (accounts : ℕ → Account) (x : ℕ) (now : Account) (k : ℕ) → put (λ i. counted (accounts i)) x (counted now) k ≡ counted (put accounts x now k)
counted_put accounts x now k = by_test (k == x)
  where
    by_test : (same : Bool) → (if same then counted now else counted (accounts k)) ≡ counted (if same then now else accounts k)
    by_test true = refl
    by_test false = refl

put_kept : (n : ℕ) (accounts : ℕ → Account) (x : ℕ) (now : Account) → x < n → AllKept n accounts → Steps n accounts x now → AllKept n (put accounts x now)
put_kept n accounts x now here h s = record {
  kept = λ y below. by_test y below (y == x);
  clear = λ y z hy hz d.
      let stays = clear_stays n x (λ i. counted (accounts i)) (counted now) h.clear here s.counts y z hy hz d in
      subst (λ (m : Modes). AreClear m (counted (put accounts x now z))) (counted_put accounts x now y)
      (subst (λ (m : Modes). AreClear (put (λ i. counted (accounts i)) x (counted now) y) m) (counted_put accounts x now z) stays);
}
  where
    by_test : (y : ℕ) → y < n → (same : Bool) → AccountKept (if same then now else accounts y)
    by_test y below true = s.kept
    by_test y below false = h.kept y below

locks_agree : (n : ℕ) (accounts : ℕ → Account) → AllKept n accounts → LocksAgree n accounts
locks_agree n accounts h x y a b hx hy here there differ = elim (cases_eq x y) [
  | inl same ↦ elim differ [
    | inl other ↦ absurd (other same)
    | inr clients ↦ (h.kept x hx).clear.clients a b here (subst (λ (k : ℕ). Contains (accounts k).held b) (sym same) there) clients
  ]
  | inr other ↦ false_from_ne_true (conflicts a.mode b.mode) (λ conflict.
      hold_clear (accounts x) (accounts y) (h.kept x hx) (h.kept y hy) (h.clear x y hx hy other) a.mode (held-at (accounts x).held a here)
      (b.mode, conflict, held-at (accounts y).held b there))
]

pub any_order : AnyOrder
any_order n accounts [] h may = (h, locks_agree n accounts h)
any_order n accounts (first ∷ rest) h may =
    any_order n (after_one accounts first) rest
    (put_kept n accounts first.node (after_step first.step (accounts first.node)) may.0 h (one_step n accounts first.node may.0 h first.step may.1)) may.2

pub first_accounts : FirstAccounts
first_accounts n desk = record {
  kept = λ x below. empty_is_kept 0 (x == desk);
  clear = λ x y hx hy d mode member. by_test (x == desk) mode member;
}
  where
    by_test : {A : Type 0} (here : Bool) (mode : Mode) → IsTrue (has mode (counted (record (first_account desk 0) { here = here }))) → A
    by_test true mode member = none_in_none mode member
    by_test false mode member = none_in_none mode member

pub from_the_start : FromTheStart
from_the_start n desk happenings may = (any_order n (first_account desk) happenings (first_accounts n desk) may).1

pub owed_are_on_way : OwedAreOnWay
owed_are_on_way a mode h m =
    let found = waiting_is_copy a h.owed mode m in
    subst (λ (x : Mode). IsTrue (has x (modes_of_asks a.copies))) found.2 (asks_at a.copies found.0 found.1)

pub on_way_are_owed : OnWayAreOwed
on_way_are_owed a mode h m =
    let found = asks_which a.copies mode m in
    subst (λ (x : Mode). IsTrue (has x (owed_and_waiting a))) found.2 (copy_is_waiting a h.owed found.0 found.1)

pub tell_keeps_waiting : TellKeepsWaiting
tell_keeps_waiting a tell copy ask h t c p same =
    left_owed-at tell a.entry.owed copy c (subst (λ z. IsTrue (is_open tell.pending tell.stamp z)) same (h.known.in_tells ask tell p t))

pub record_bounds_held : RecordBoundsHeld
record_bounds_held a h away mode bar = (h.cover away).record_bound mode
    (elim ((union_bars_both conflicts (held_modes a.held) (modes_of_asks a.copies) mode).0 bar) [
      | inl own ↦ held_below_now a h away mode own
      | inr brought ↦ (union_bars_both conflicts a.charge (modes_of_asks a.copies) mode).1 (inr brought)
    ])

pub twice_is_once : TwiceIsOnce
twice_is_once later older [] newer lists = refl
twice_is_once later older (copy ∷ rest) newer lists =
    by_tests (is_open older.pending older.stamp copy.stamp) (is_open later.pending later.stamp copy.stamp) refl refl (twice_is_once later older rest newer lists)
  where
    by_tests : (o l : Bool) → is_open older.pending older.stamp copy.stamp ≡ o → is_open later.pending later.stamp copy.stamp ≡ l
        → left_owed later (left_owed older rest) ≡ left_owed later rest
        → left_owed later (if o then copy ∷ left_owed older rest else left_owed older rest) ≡ (if l then copy ∷ left_owed later rest else left_owed later rest)
    by_tests true l eo el again = rw el (by_later l again)
      where
        by_later : (l : Bool) → left_owed later (left_owed older rest) ≡ left_owed later rest
            → (if l then copy ∷ left_owed later (left_owed older rest) else left_owed later (left_owed older rest)) ≡ (if l then copy ∷ left_owed later rest else left_owed later rest)
        by_later true again = ap (λ (xs : List Owed). copy ∷ xs) again
        by_later false again = again
    by_tests false true eo el again =
        let open_too : is_open older.pending older.stamp copy.stamp ≡ true = elim (open-cases later.pending later.stamp copy.stamp el) [
          | inl listed ↦ lists copy.stamp listed
          | inr after ↦ open_later older.pending older.stamp copy.stamp (newer_in_turn copy.stamp later.stamp older.stamp after newer)
        ] in
        let no : true ≡ false = sym open_too ∙ eo in cc
    by_tests false false eo el again = again

-- Accounts of several nodes that are all kept, and clear of each other: what changes one of them, or all at once.

-- one thing happens that may
pub one_happens : (n : ℕ) (accounts : ℕ → Account) (x : ℕ) (step : AccountStep) → AllKept n accounts → x < n
    → MayStep (others_counted n accounts x) step (accounts x)
    → AllKept n (after_one accounts (record { node = x; step = step }))
one_happens n accounts x step h below may = (any_order n accounts (record { node = x; step = step } ∷ []) h (below, may, tt)).0

-- the same accounts
pub same_kept : (n : ℕ) (accounts later : ℕ → Account) → AllKept n accounts → ((x : ℕ) → x < n → later x ≡ accounts x) → AllKept n later
same_kept n accounts later h same = record {
  kept = λ x below. subst AccountKept (sym (same x below)) (h.kept x below);
  clear = λ x y hx hy d.
      subst (λ (a : Account). AreClear (counted a) (counted (later y))) (sym (same x hx))
      (subst (λ (a : Account). AreClear (counted (accounts x)) (counted a)) (sym (same y hy)) (h.clear x y hx hy d));
}

-- one account makes a step that it may, and all others are the same
pub one_changes : (n : ℕ) (accounts later : ℕ → Account) (v : ℕ) (step : AccountStep) → AllKept n accounts → v < n
    → MayStep (others_counted n accounts v) step (accounts v)
    → ((x : ℕ) → x < n → x ≢ v → later x ≡ accounts x) → later v ≡ after_step step (accounts v) → AllKept n later
one_changes n accounts later v step h below may others own =
    same_kept n (after_one accounts (record { node = v; step = step })) later (one_happens n accounts v step h below may)
    (λ x under. elim (cases_eq x v) [
      | inl e ↦ ap later e ∙ own ∙ sym (put-same accounts v (after_step step (accounts v))) ∙ ap (after_one accounts (record { node = v; step = step })) (sym e)
      | inr d ↦ others x under d ∙ sym (put-other accounts v (after_step step (accounts v)) x d)
    ])

-- the same tells and copies stand in other lists
pub all_reordered : (n : ℕ) (accounts : ℕ → Account) (tells : ℕ → List Tell) (copies : ℕ → List Ask) → AllKept n accounts
    → ((x : ℕ) → x < n → HaveSame (accounts x).tells (tells x) × HaveSame (accounts x).copies (copies x))
    → AllKept n (λ x. reordering (tells x) (copies x) (accounts x))
all_reordered n accounts tells copies h same = record {
  kept = λ x below. (reorders_kept (accounts x) (tells x) (copies x) (h.kept x below) (record { tells_same = (same x below).0; copies_same = (same x below).1 })).0;
  clear = h.clear;
}

-- some entries say what was told of frozen modes
pub some_frozen : (n : ℕ) (accounts later : ℕ → Account) → AllKept n accounts
    → ((x : ℕ) → x < n → (later x ≡ accounts x) ⊎ ((frozen : Modes) × (later x ≡ freezing frozen (accounts x)))) → AllKept n later
some_frozen n accounts later h same = record {
  kept = λ x below. elim (same x below) [
    | inl e ↦ subst AccountKept (sym e) (h.kept x below)
    | inr e ↦ subst AccountKept (sym e.1) (freezes_kept (accounts x) e.0 (h.kept x below)).0
  ];
  clear = λ x y hx hy d.
      subst (λ (a : Modes). AreClear a (counted (later y))) (sym (counts x hx)) (subst (λ (a : Modes). AreClear (counted (accounts x)) a) (sym (counts y hy)) (h.clear x y hx hy d));
}
  where
    counts : (x : ℕ) → x < n → counted (later x) ≡ counted (accounts x)
    counts x below = elim (same x below) [
      | inl e ↦ ap counted e
      | inr e ↦ ap counted e.1
    ]
