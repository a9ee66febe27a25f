-- What the lines of each run tell: what is held, that it is lawful, and who waits.
use Rattle.std.proofs.Common.{◌≡◌, ◌≢◌, ℕ, zero, suc, ◌<◌, ◌≤◌, inl, inr, List, [], ◌∷◌, length, Option, Some, None, Bool, true, false, refl, sym, ap, subst, arith, take, ◌∙◌, ◌⊎◌, ◌==◌, ◌||◌, not, if◌then◌else◌, Contains, slice_index_or, AllPairs, eq-eqb, eqb-true}
use Rattle.std.proofs.lemmas.Bool.{cases_lt, false≢true, and_parts}
use Rattle.std.proofs.lemmas.List.Elements.{All-contains}
use Rattle.std.proofs.lemmas.List.Sums.{sum_by-cons, get_or-le-sum_by}
use Rattle.lt_modes.specs.declared.mode.Mode.{Mode}
use Rattle.lt_modes.specs.declared.parts.Row.{Row}
use Rattle.lt_modes.specs.Modes.{conflicts, same_mode, is_row_of, no_row, row_place, count_at, count_of as count_in}
use Rattle.lt_modes.specs.SetMove.{lock}
use Rattle.lt_spec.specs.NodeMove.{home}
use Rattle.lt_spec.specs.Holdings.{Holding, holding, same_holding, holdings, lines_of, agree, times_held}
use Rattle.lt_model.specs.Homes.{Homes, IsRowAtHome}
use Rattle.lt_spec.specs.World.{World, world_after}
use Rattle.lt_modes.proofs.ModeAlgebra.{same_mode-true}
use Rattle.lt_model.proofs.HomesMove.{homes_in_runs}
use Rattle.lt_law_invariant.proofs.SoundStates.{locks_never_conflict, kept_in_runs, first_waiter_in_runs}
use Rattle.lt_law_accounts.proofs.RowTotals.{row_count, total}
use Rattle.lt_law_lines.proofs.LineCounts.{same_holding-itself}
use Rattle.std.proofs.lemmas.List.Quantifiers.{position-Some}
use Rattle.lt_lists.proofs.Sums.{none_found, sum_by-zero}
use Rattle.lt_spec.specs.Facts.{state_at}
use Rattle.lt_law_invariant.proofs.RowsApart.{barred_by_lines}
use Rattle.lt_law_lines.proofs.OwnerRuns.{LinesHold, held_in_runs, WaitsTold, waits_in_runs}
use Rattle.lt_law_lines.proofs.WaitActs.{open_wait}
use Rattle.lt_law_lines.specs.LineLaws.{LinesKeptInRuns, LinesTellHeld, HoldingsAreLawful, LinesTellWaits, FirstWaiterByLines}

-- a lock that counts is that of a row
pub row_of : (rows : List Row) (client : ℕ) (mode : Mode) → 1 ≤ total rows client mode → (row : Row) × Contains rows row × (row.client ≡ client) × (row.mode ≡ mode)
row_of [] client mode h = absurd (omega (arith, h))
row_of (row ∷ rest) client mode h = by_test (is_row_of client mode row) refl (λ more. row_of rest client mode more)
  where
    by_test : (own : Bool) → is_row_of client mode row ≡ own → (1 ≤ total rest client mode → (r : Row) × Contains rest r × (r.client ≡ client) × (r.mode ≡ mode))
        → (r : Row) × Contains (row ∷ rest) r × (r.client ≡ client) × (r.mode ≡ mode)
    by_test true e again = let parts = and_parts (row.client == client) (same_mode row.mode mode) e in (row, (0, omega arith, refl), eqb-true row.client client parts.0, same_mode-true row.mode mode parts.1)
    by_test false e again =
        let none : row_count client mode row ≡ 0 = ap (λ (b : Bool). if b then row.count else 0) e in
        let found = again (omega (arith, h, none, sum_by-cons (row_count client mode) row rest)) in
        (found.0, (suc found.1.0, omega (arith, found.1.1), found.1.2), found.2, found.3)

counts_itself : (held : List Holding) (i : ℕ) (d : Holding) → i < length held → 1 ≤ times_held held (slice_index_or held i d)
counts_itself held i d within =
    let lock = slice_index_or held i d in
    let part = get_or-le-sum_by (λ (x : Holding). if same_holding lock x then 1 else 0) held i d within in
    let one : ◌≡◌ {A = ℕ} (if same_holding lock lock then 1 else 0) 1 = ap (λ (b : Bool). if b then 1 else 0) (same_holding-itself lock) in
    omega (arith, part, one)

pub holdings_are_lawful : HoldingsAreLawful
holdings_are_lawful script run whole is_run k i j d before within = agreed (slice_index_or held i d) (slice_index_or held j d) (counts_itself held i d (omega (arith, before, within))) (counts_itself held j d within)
  where
    w : World
    w = world_after script (take k run)

    held : List Holding
    held = holdings script (lines_of (take k run))

    hold : LinesHold script (lines_of (take k run)) w
    hold = held_in_runs script run whole is_run k

    homes : Homes script w
    homes = homes_in_runs script run whole is_run k

    agreed : (a b : Holding) → 1 ≤ times_held held a → 1 ≤ times_held held b → agree a b ≡ true
    agreed a b ha hb = by_sets (a.set == b.set) refl
      where
        clear : (a.set == b.set) ≡ true → (a.client == b.client) ≡ false → conflicts a.mode b.mode ≡ false
        clear same differ = elim (cases_lt a.set (length script.sets)) [
          | inr above ↦ absurd (omega (arith, ha, hold.beyond a above))
          | inl below ↦
              let sets = eqb-true a.set b.set same in
              let at_a = row_of ((w.node (home script a.client)).set a.set).held a.client a.mode (omega (arith, ha, hold.own a below)) in
              let at_b = row_of ((w.node (home script b.client)).set b.set).held b.client b.mode (omega (arith, hb, hold.own b (omega (arith, below, sets)))) in
              let row_a = All-contains (IsRowAtHome script (home script a.client)) ((w.node (home script a.client)).set a.set).held at_a.0 (homes.states (home script a.client) a.set).rows at_a.1 in
              let row_b = All-contains (IsRowAtHome script (home script b.client)) ((w.node (home script b.client)).set b.set).held at_b.0 (homes.states (home script b.client) b.set).rows at_b.1 in
              let no_conflict = locks_never_conflict script run whole is_run k a.set below (home script a.client) (home script b.client) at_a.0 at_b.0
              (subst (λ (x : ℕ). x < script.nodes) row_a.home (whole.homes at_a.0.client row_a.client)) (subst (λ (x : ℕ). x < script.nodes) row_b.home (whole.homes at_b.0.client row_b.client))
              at_a.1 (subst (λ (s : ℕ). Contains ((w.node (home script b.client)).set s).held at_b.0) (sym sets) at_b.1)
              (inr (λ e. false≢true (sym differ ∙ eq-eqb a.client b.client (sym at_a.2 ∙ e ∙ at_b.2)))) in
              (λ i. conflicts (sym at_a.3 i) (sym at_b.3 i)) ∙ no_conflict
        ]

        by_clients : (a.set == b.set) ≡ true → (same : Bool) → (a.client == b.client) ≡ same → (same || not (conflicts a.mode b.mode)) ≡ true
        by_clients s true e = refl
        by_clients s false e = ap not (clear s e)

        by_sets : (same : Bool) → (a.set == b.set) ≡ same → (not same || (a.client == b.client || not (conflicts a.mode b.mode))) ≡ true
        by_sets false e = refl
        by_sets true e = by_clients e (a.client == b.client) refl

-- rows of one client and mode are one row, so its count is all that is held
pub counted_all : (rows : List Row) → AllPairs (λ (a b : Row). (a.client ≢ b.client) ⊎ (a.mode ≢ b.mode)) rows → (client : ℕ) (mode : Mode)
    → total rows client mode ≡ count_in rows client mode
counted_all rows apart client mode = by_place (row_place rows client mode) refl
  where
    by_place : (o : Option ℕ) → row_place rows client mode ≡ o → total rows client mode ≡ count_at rows o
    by_place None e = sum_by-zero (row_count client mode) rows (λ i d within. ap (λ (b : Bool). if b then (slice_index_or rows i d).count else 0) (none_found (is_row_of client mode) rows e i d within))
    by_place (Some k) e =
        let found = position-Some (is_row_of client mode) rows k no_row e in
        only_one rows k found.0 found.1 apart
      where
        turned : (a b : Row) → (a.client ≢ b.client) ⊎ (a.mode ≢ b.mode) → (b.client ≢ a.client) ⊎ (b.mode ≢ a.mode)
        turned a b (inl d) = inl (λ e. d (sym e))
        turned a b (inr d) = inr (λ e. d (sym e))

        other : (a b : Row) → is_row_of client mode a ≡ true → (a.client ≢ b.client) ⊎ (a.mode ≢ b.mode) → row_count client mode b ≡ 0
        other a b own differ = by_own (is_row_of client mode b) refl
          where
            by_own : (t : Bool) → is_row_of client mode b ≡ t → ◌≡◌ {A = ℕ} (if t then b.count else 0) 0
            by_own false g = refl
            by_own true g =
                let first = and_parts (a.client == client) (same_mode a.mode mode) own in
                let second = and_parts (b.client == client) (same_mode b.mode mode) g in
                absurd (elim differ [
                  | inl clients ↦ clients (eqb-true a.client client first.0 ∙ sym (eqb-true b.client client second.0))
                  | inr modes ↦ modes (same_mode-true a.mode mode first.1 ∙ sym (same_mode-true b.mode mode second.1))
                ])

        only_one : (rows : List Row) (k : ℕ) → k < length rows → is_row_of client mode (slice_index_or rows k no_row) ≡ true
            → AllPairs (λ (a b : Row). (a.client ≢ b.client) ⊎ (a.mode ≢ b.mode)) rows → total rows client mode ≡ (slice_index_or rows k no_row).count
        only_one [] k within own apart = absurd (omega (arith, within))
        only_one (row ∷ rest) zero within own apart =
            let here : row_count client mode row ≡ row.count = ap (λ (b : Bool). if b then row.count else 0) own in
            let none = sum_by-zero (row_count client mode) rest (λ i d inside. other row (slice_index_or rest i d) own (apart 0 (suc i) d (omega arith) (omega (arith, inside)))) in
            omega (arith, sum_by-cons (row_count client mode) row rest, here, none)
        only_one (row ∷ rest) (suc k) within own apart =
            let none = other (slice_index_or rest k no_row) row own (turned row (slice_index_or rest k no_row) (apart 0 (suc k) no_row (omega arith) within)) in
            let later = only_one rest k (omega (arith, within)) own (λ i j d before inside. apart (suc i) (suc j) d (omega (arith, before)) (omega (arith, inside))) in
            omega (arith, sum_by-cons (row_count client mode) row rest, none, later)

pub lines_tell_held : LinesTellHeld
lines_tell_held script run whole is_run k client s mode known below =
    (held_in_runs script run whole is_run k).own (holding client s mode) below
    ∙ counted_all (state_at (world_after script (take k run)) s (home script client)).held
    (((kept_in_runs script run whole is_run k).sets s below).states (home script client) (whole.homes client known)).rows_apart client mode

pub lines_kept_in_runs : LinesKeptInRuns
lines_kept_in_runs script run whole is_run k = record {
  named = λ lock there. named lock (subst (λ (x : Holding). 1 ≤ times_held held x) there.2 (counts_itself held there.0 lock there.1));
  held = λ client s mode known below. lines_tell_held script run whole is_run k client s mode known below;
  waits = λ client s mode known below. (
    λ e. ((told client known).says (holding client s mode) e).2,
    λ waits. (told client known).told s below waits.0 (waits.1, waits.4) waits.2 ∙ ap (λ (m : Mode). Some (holding client s m)) waits.3,
  );
}
  where
    w : World
    w = world_after script (take k run)

    held : List Holding
    held = holdings script (lines_of (take k run))

    hold : LinesHold script (lines_of (take k run)) w
    hold = held_in_runs script run whole is_run k

    told : WaitsTold script (lines_of (take k run)) w
    told = waits_in_runs script run whole is_run k

    named : (lock : Holding) → 1 ≤ times_held held lock → (lock.client < length script.clients) × (lock.set < length script.sets)
    named lock some = elim (cases_lt lock.set (length script.sets)) [
      | inr above ↦ absurd (omega (arith, some, hold.beyond lock above))
      | inl below ↦
          let rows = (state_at w lock.set (home script lock.client)).held in
          let found = row_of rows lock.client lock.mode (omega (arith, some, hold.own lock below)) in
          let row = All-contains (IsRowAtHome script (home script lock.client)) rows found.0 ((homes_in_runs script run whole is_run k).states (home script lock.client) lock.set).rows found.1 in
          (subst (λ (c : ℕ). c < length script.clients) found.2 row.client, below)
    ]

pub lines_tell_waits : LinesTellWaits
lines_tell_waits script run whole is_run k client s mode known below =
    let kept = (lines_kept_in_runs script run whole is_run k).waits client s mode known below in
    let same = open_wait client s mode (lines_of (take k run)) in
    (λ h. kept.0 (same.1 h), λ waits. same.0 (kept.1 waits))

pub first_waiter_by_lines : FirstWaiterByLines
first_waiter_by_lines script run whole is_run k s ask below rests first =
    barred_by_lines script (lines_of (take k run)) (world_after script (take k run)) s ask ((kept_in_runs script run whole is_run k).sets s below)
    (lines_kept_in_runs script run whole is_run k) below (first_waiter_in_runs script run whole is_run k s ask below rests first)
