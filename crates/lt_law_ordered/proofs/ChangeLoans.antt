-- A change to a mode that the old one covers never waits.
use Rattle.std.proofs.Common.{◌≡◌, ℕ, ◌≤◌, inl, inr, List, [], ◌∷◌, Bool, true, false, refl, sym, ap, subst, arith, ◌∙◌, ◌≢◌, ◌+◌, ◌-◌, Option, Some, None, zero, suc, ◌||◌, not, Contains, IsTrue, fold, ◌==◌, ◌&&◌, if◌then◌else◌, slice_index_or, eq-eqb, ne_eqb, eqb-true}
use Rattle.std.proofs.lemmas.Bool.{or_left, and_left, and_right, and_parts, false≢true}
use Rattle.std.proofs.lemmas.List.Quantifiers.{position-Some}
use Rattle.lt_modes.specs.declared.mode.Mode.{Mode}
use Rattle.lt_modes.specs.declared.parts.Row.{Row}
use Rattle.lt_modes.specs.Modes.{Modes, conflicts, same_mode, has, every_mode, one, bars, covers, no_modes, is_of, gather, count_of, own_modes, is_row_of, no_row, row_place, count_at, add_lock, take_lock}
use Rattle.lt_modes.specs.ModeLaws.{BarsBy}
use Rattle.lt_modes.specs.Granting.{can_grant}
use Rattle.lt_modes.specs.State.{SetState}
use Rattle.lt_modes.proofs.ModeAlgebra.{has-modes_by, bars_by_table, covers_by_table, same_mode-true}
use Rattle.lt_modes.specs.declared.stamp.Stamp.{Stamp}
use Rattle.lt_modes.specs.declared.command.Command.{Command}
use Rattle.lt_modes.specs.declared.command.Command.TheVariants.{Unlock, Change, DropAll}
use Rattle.lt_modes.specs.declared.event.Event.TheVariants.{Unlock as UnlockLine, NotHeld, Change as ChangeLine}
use Rattle.lt_modes.specs.Script.{ScriptData}
use Rattle.lt_modes.specs.SetMove.{answers, given, ask_of, asked_or_not, unlocked, change_held, changed, dropped}
use Rattle.lt_lists.proofs.Members.{contains_cases}
use Rattle.lt_lists.proofs.Sums.{none_found, sum_by-zero}
use Rattle.lt_spec.specs.NodeMove.{is_related}
use Rattle.lt_spec.specs.Holdings.{holding, same_holding, is_dropped}
use Rattle.lt_spec.specs.Ordered.{best_answer}
use Rattle.lt_law_accounts.proofs.AccountFacts.{has-kept, has-added}
use Rattle.lt_law_accounts.proofs.RowTotals.{row_count, total, is_key, total_added, total_taken, total_dropped}
use Rattle.lt_law_invariant.proofs.ClientCommands.{count_within, IsIdle}
use Rattle.lt_law_invariant.proofs.ClientCounts.{SomeEach, each_some}
use Rattle.lt_law_lines.proofs.KeptLines.{row_of}
use Rattle.lt_law_lines.proofs.LineCounts.{count_after}
use Rattle.lt_law_lines.proofs.LineRules.{key_is}
use Rattle.lt_law_ordered.proofs.Loans.{asks_for}
use Rattle.lt_law_ordered.proofs.ActLoans.{ActLoans, act_stays, idle_asks, not_his}

every_mode-from : (test : Mode → Bool) → ((m : Mode) → test m ≡ true) → every_mode test ≡ true
every_mode-from test h = simp h

-- what one member covers, the set covers
pub cover_more : (modes : Modes) (old new : Mode) → covers (one old) new ≡ true → IsTrue (has old modes) → covers modes new ≡ true
cover_more modes old new covered has_old = every_mode-from (λ m. not (has m (bars (one new))) || has m (bars modes)) (λ m. by_test m (has m (bars (one new))) refl)
  where
    barred : (m : Mode) → BarsBy conflicts (one old) m → has m (bars modes) ≡ true
    barred m (member, conflict, there) =
        let same : old ≡ member = same_mode-true old member (sym (has-modes_by (same_mode old) member) ∙ there) in
        (bars_by_table modes m).1 (member, conflict, subst (λ (x : Mode). has x modes ≡ true) same has_old)

    by_test : (m : Mode) (t : Bool) → has m (bars (one new)) ≡ t → (not t || has m (bars modes)) ≡ true
    by_test m false e = refl
    by_test m true e =
        let found = (bars_by_table (one new) m).0 e in
        let is : new ≡ found.0 = same_mode-true new found.0 (sym (has-modes_by (same_mode new) found.0) ∙ found.2) in
        barred m (covers_by_table (one old) new covered m (subst (λ (x : Mode). conflicts m x ≡ true) (sym is) found.1))

-- the modes of a client's rows
fold_keeps : (client : ℕ) (mode : Mode) (rows : List Row) (from : Modes) → IsTrue (has mode from) → IsTrue (has mode (fold (λ modes row. gather (is_of client row) modes row) from rows))
fold_keeps client mode [] from h = h
fold_keeps client mode (row ∷ rest) from h = fold_keeps client mode rest (gather (is_of client row) from row) (by_test (is_of client row))
  where
    by_test : (own : Bool) → IsTrue (has mode (gather own from row))
    by_test true = has-kept mode row.mode from h
    by_test false = h

fold_has : (client : ℕ) (row : Row) (rows : List Row) (from : Modes) → Contains rows row → row.client ≡ client → IsTrue (has row.mode (fold (λ modes r. gather (is_of client r) modes r) from rows))
fold_has client row [] from there own = absurd (omega (arith, there.1))
fold_has client row (first ∷ rest) from there own = elim (contains_cases first row rest there) [
  | inl same ↦ fold_keeps client row.mode rest (gather (is_of client first) from first)
      (subst (λ (b : Bool). IsTrue (has row.mode (gather b from first))) (sym (ap (is_of client) same ∙ eq-eqb row.client client own))
      (subst (λ (r : Row). IsTrue (has row.mode (gather true from r))) (sym same) (has-added row.mode from)))
  | inr later ↦ fold_has client row rest (gather (is_of client first) from first) later own
]

pub own_has : (rows : List Row) (client : ℕ) (mode : Mode) → 1 ≤ count_of rows client mode → IsTrue (has mode (own_modes rows client))
own_has rows client mode some =
    let found = row_of rows client mode (omega (arith, some, count_within rows client mode)) in
    subst (λ (m : Mode). IsTrue (has m (own_modes rows client))) found.3 (fold_has client found.0 rows no_modes found.1 found.2)

-- so it is granted at once
pub weaker_granted : (me : ℕ) (t : SetState) (client : ℕ) (old new : Mode) → covers (one old) new ≡ true → 1 ≤ count_of t.held client old → can_grant me t client new ≡ true
weaker_granted me t client old new covered some = or_left _ _ (cover_more (own_modes t.held client) old new covered (own_has t.held client old some))

-- The same of an `unlock`, a `change` and a `drop`, and of the sets that a command leaves alone.

-- of a mode that isn't held nothing is counted
none_total : (rows : List Row) (client : ℕ) (mode : Mode) → SomeEach rows → (count_of rows client mode == 0) ≡ true → total rows client mode ≡ 0
none_total rows client mode some none = by_place (row_place rows client mode) refl (eqb-true (count_of rows client mode) 0 none)
  where
    by_place : (o : Option ℕ) → row_place rows client mode ≡ o → count_at rows o ≡ 0 → total rows client mode ≡ 0
    by_place None e zero_here = sum_by-zero (row_count client mode) rows (λ i d within. ap (λ (b : Bool). if b then (slice_index_or rows i d).count else 0) (none_found (is_row_of client mode) rows e i d within))
    by_place (Some k) e zero_here =
        absurd (omega (arith, zero_here, each_some rows some k (position-Some (is_row_of client mode) rows k no_row e).0))

pub unlocked_loans : (script : ScriptData) (client s : ℕ) (mode : Mode) (t : SetState) → IsIdle client t → SomeEach t.held
    → ActLoans script client s (Unlock s mode) t (unlocked s client mode t).state
unlocked_loans script client s mode t none some = by_test (count_of t.held client mode == 0) refl
  where
    counts : (m : Mode) → (same : Bool) → ℕ
    counts m same = if same then total t.held client m - 1 else total t.held client m

    nothing : (m : Mode) → total t.held client mode ≡ 0 → (key : Bool) → is_key client m client mode ≡ key → total t.held client m ≤ counts m key
    nothing m zero_here true e =
        let same = same_mode-true m mode (and_parts (client == client) (same_mode m mode) e).1 in
        omega (arith, zero_here, ap (λ (x : Mode). total t.held client x) same)
    nothing m zero_here false e = omega arith

    by_test : (unheld : Bool) → (count_of t.held client mode == 0) ≡ unheld
        → ActLoans script client s (Unlock s mode) t (if unheld then answers (NotHeld client s mode) t else answers (UnlockLine client s mode) (record t { held = take_lock t.held client mode })).state
    by_test true e = act_stays script client s (Unlock s mode) t t none refl refl refl
        (λ m. omega (arith, nothing m (none_total t.held client mode some e) (is_key client m client mode) refl, ap (counts m) (key_is client client s m mode)))
    by_test false e = record {
      others = λ c m d. (omega arith, omega (arith, rows c m, ap (λ (b : Bool). if b then total t.held c m - 1 else total t.held c m) (not_his c client m mode d)));
      own = λ m. omega (arith, idle_asks client t none m, rows client m, ap (counts m) (key_is client client s m mode));
      asks = λ m any. absurd (omega (arith, any, idle_asks client t none m));
    }
      where
        rows : (c : ℕ) (m : Mode) → total (take_lock t.held client mode) c m ≡ (if is_key c m client mode then total t.held c m - 1 else total t.held c m)
        rows c m = total_taken t.held client c mode m (each_some t.held some)

-- what a change counts
abbrev change_counts : (n : ℕ) (given gone : Bool) → ℕ
change_counts n given gone = if given then (if gone then n - 1 else n) + 1 else (if gone then n - 1 else n)

pub changed_loans : (script : ScriptData) (client s : ℕ) (stamp : Stamp) (gives_up mode : Mode) (t : SetState) → IsIdle client t → SomeEach t.held → IsTrue (covers (one gives_up) mode)
    → ActLoans script client s (Change s gives_up mode) t (changed s stamp client gives_up mode t).state
changed_loans script client s stamp gives_up mode t none some covered = by_count (count_of t.held client gives_up == 0) refl
  where
    keys : (m : Mode) → count_after script (holding client s m) (total t.held client m) (ChangeLine client s gives_up mode)
        ≡ change_counts (total t.held client m) (is_key client m client mode) (is_key client m client gives_up)
    keys m = λ i. change_counts (total t.held client m) (key_is client client s m mode i) (key_is client client s m gives_up i)

    nothing : (m : Mode) → total t.held client gives_up ≡ 0 → (given gone : Bool) → is_key client m client gives_up ≡ gone → total t.held client m ≤ change_counts (total t.held client m) given gone
    nothing m zero_here given true e =
        let same = same_mode-true m gives_up (and_parts (client == client) (same_mode m gives_up) e).1 in
        omega (arith, zero_here, ap (λ (x : Mode). total t.held client x) same)
    nothing m zero_here true false e = omega arith
    nothing m zero_here false false e = omega arith

    by_test : (count_of t.held client gives_up == 0) ≡ false → (can : Bool) → can_grant stamp.node t client mode ≡ can
        → ActLoans script client s (Change s gives_up mode) t
        (if can then answers (ChangeLine client s gives_up mode) (given client mode (Some gives_up) t) else asked_or_not s stamp (ask_of stamp client mode (Some gives_up) t) t).state
    by_test held false e = absurd (false≢true (sym e ∙ weaker_granted stamp.node t client gives_up mode covered (some_one (count_of t.held client gives_up) held)))
      where
        some_one : (n : ℕ) → (n == 0) ≡ false → 1 ≤ n
        some_one zero e = cc
        some_one (suc n) e = omega arith
    by_test held true e = record {
      others = λ c m d. (omega arith, omega (arith, rows c m, other_rows c m d));
      own = λ m. omega (arith, idle_asks client t none m, own_rows m, keys m);
      asks = λ m any. absurd (omega (arith, any, idle_asks client t none m));
    }
      where
        less : List Row
        less = take_lock t.held client gives_up

        rows : (c : ℕ) (m : Mode) → total (add_lock less client mode) c m ≡ (if is_key c m client mode then total less c m + 1 else total less c m)
        rows c m = total_added less client c mode m

        taken : (c : ℕ) (m : Mode) → total less c m ≡ (if is_key c m client gives_up then total t.held c m - 1 else total t.held c m)
        taken c m = total_taken t.held client c gives_up m (each_some t.held some)

        other_rows : (c : ℕ) (m : Mode) → c ≢ client → (if is_key c m client mode then total less c m + 1 else total less c m) ≡ total t.held c m
        other_rows c m d = ap (λ (b : Bool). if b then total less c m + 1 else total less c m) (not_his c client m mode d) ∙ taken c m
            ∙ ap (λ (b : Bool). if b then total t.held c m - 1 else total t.held c m) (not_his c client m gives_up d)

        own_rows : (m : Mode) → total (add_lock less client mode) client m ≡ change_counts (total t.held client m) (is_key client m client mode) (is_key client m client gives_up)
        own_rows m = rows client m ∙ ap (λ (n : ℕ). if is_key client m client mode then n + 1 else n) (taken client m)

    by_count : (unheld : Bool) → (count_of t.held client gives_up == 0) ≡ unheld
        → ActLoans script client s (Change s gives_up mode) t (if unheld then answers (NotHeld client s gives_up) t else change_held s stamp client gives_up mode t).state
    by_count true e = act_stays script client s (Change s gives_up mode) t t none refl refl refl
        (λ m. omega (arith, nothing m (none_total t.held client gives_up some e) (is_key client m client mode) (is_key client m client gives_up) refl, keys m))
    by_count false e = by_test e (can_grant stamp.node t client mode) refl

-- a change counts elsewhere no less
pub change_aside : (script : ScriptData) (client s set : ℕ) (gives_up mode m : Mode) (n : ℕ) → s ≢ set
    → n ≤ count_after script (holding client s m) n (ChangeLine client set gives_up mode)
change_aside script client s set gives_up mode m n d = omega (arith, counts)
  where
    other : (x : Mode) → same_holding (holding client s m) (holding client set x) ≡ false
    other x = and_right (client == client) _ (and_left (s == set) (same_mode m x) (ne_eqb s set d))

    counts : count_after script (holding client s m) n (ChangeLine client set gives_up mode) ≡ n
    counts = λ i. change_counts n (other mode i) (other gives_up i)

-- a drop of all locks of a client, in a set of the family
pub dropped_loans : (script : ScriptData) (client s other set : ℕ) (t : SetState) → IsIdle client t → ActLoans script client s (DropAll other set) t (dropped other t)
dropped_loans script client s other set t none = record {
  others = λ c m d. (omega arith, omega (arith, fewer c m));
  own = λ m. by_own m (client == other) refl (is_related script s set) (rows client m);
  asks = λ m any. absurd (omega (arith, any, idle_asks client t none m));
}
  where
    rows : (c : ℕ) (m : Mode) → total (dropped other t).held c m ≡ (if c == other then 0 else total t.held c m)
    rows c m = total_dropped t.held other c m

    fewer : (c : ℕ) (m : Mode) → total (dropped other t).held c m ≤ total t.held c m
    fewer c m = by_own (c == other) (rows c m)
      where
        by_own : (own : Bool) → total (dropped other t).held c m ≡ (if own then 0 else total t.held c m) → total (dropped other t).held c m ≤ total t.held c m
        by_own true e = omega (arith, e)
        by_own false e = omega (arith, e)

    by_own : (m : Mode) (own : Bool) → (client == other) ≡ own → (family : Bool) → total (dropped other t).held client m ≡ (if client == other then 0 else total t.held client m)
        → total (dropped other t).held client m + asks_for (dropped other t) client m ≤ (if (client == other) && is_related script s set then 0 else total t.held client m)
    by_own m true e family gone = omega (arith, idle_asks client t none m, gone, ap (λ (b : Bool). if b then 0 else total t.held client m) e)
    by_own m false e family gone = omega (arith, idle_asks client t none m, gone, ap (λ (b : Bool). if b then 0 else total t.held client m) e, ap (λ (b : Bool). if b && is_related script s set then 0 else total t.held client m) e)

-- a set that a command doesn't touch
pub aside_loans : (script : ScriptData) (client s : ℕ) (command : Command) (t : SetState) → IsIdle client t
    → ((mode : Mode) (n : ℕ) → n ≤ count_after script (holding client s mode) n (best_answer client command)) → ActLoans script client s command t t
aside_loans script client s command t none counts = act_stays script client s command t t none refl refl refl (λ m. counts m (total t.held client m))

-- what the commands count elsewhere
pub unlock_aside : (script : ScriptData) (client s set : ℕ) (mode m : Mode) (n : ℕ) → s ≢ set → n ≤ (if same_holding (holding client s m) (holding client set mode) then n - 1 else n)
unlock_aside script client s set mode m n d =
    omega (arith, ap (λ (b : Bool). if b then n - 1 else n) (and_right (client == client) _ (and_left (s == set) (same_mode m mode) (ne_eqb s set d))))

pub drop_aside : (script : ScriptData) (client s other set : ℕ) (m : Mode) (n : ℕ) → is_related script s set ≡ false → n ≤ (if is_dropped script other set (holding client s m) then 0 else n)
drop_aside script client s other set m n apart = omega (arith, ap (λ (b : Bool). if b then 0 else n) (and_right (client == other) (is_related script s set) apart))

pub drop_other : (script : ScriptData) (client s other set : ℕ) (m : Mode) (n : ℕ) → client ≢ other → n ≤ (if is_dropped script other set (holding client s m) then 0 else n)
drop_other script client s other set m n d = omega (arith, ap (λ (b : Bool). if b then 0 else n) (and_left (client == other) (is_related script s set) (ne_eqb client other d)))
