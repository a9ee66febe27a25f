-- Locks and asks of a client that weren't given up, as numbers.
use Rattle.std.proofs.Common.{◌≡◌, ◌≢◌, ℕ, zero, suc, ◌+◌, ◌≤◌, List, [], ◌∷◌, Option, Some, None, Bool, true, false, refl, sym, ap, subst, arith, ◌∙◌, ◌==◌, ◌&&◌, not, if◌then◌else◌, Contains, count_by, filter, sum_by, eqb-true, eq-eqb, ne_eqb, is_none, ◌⊎◌, slice_index_or, inl, inr}
use Rattle.std.specs.List.{list_any}
use Rattle.std.proofs.lemmas.Bool.{and_from, and_parts, and_left, and_right, false≢true}
use Rattle.std.proofs.lemmas.List.Sums.{sum_by-cons, sum_by-le-sum_by}
use Rattle.lt_modes.specs.declared.mode.Mode.{Mode}
use Rattle.lt_modes.specs.declared.ask.Ask.{Ask}
use Rattle.lt_modes.specs.declared.parts.Row.{Row}
use Rattle.lt_modes.specs.Modes.{no_row, row_place, count_at, count_of, same_mode, is_of, is_row_of, locks_of}
use Rattle.lt_modes.specs.State.{SetState, same_choice}
use Rattle.lt_modes.specs.Serving.{is_gone, without_gone as left_gone}
use Rattle.lt_modes.specs.SetMove.{same_wish}
use Rattle.lt_modes.specs.Waiting.{pending_ask}
use Rattle.lt_modes.proofs.ModeAlgebra.{has-itself, same_mode-true}
use Rattle.lt_lists.proofs.Members.{contains_filtered, list_any-at, list_any-which}
use Rattle.lt_lists.proofs.Sums.{counted_in, none_found, sum_by-zero}
use Rattle.lt_law_accounts.proofs.RowTotals.{row_count, total}
use Rattle.lt_law_invariant.proofs.ClientCounts.{SomeEach, each_some}
use Rattle.std.proofs.lemmas.List.Quantifiers.{position-Some}
use Rattle.lt_law_invariant.proofs.ClientCommands.{IsIdle, find_is, no_ask_of}
use Rattle.lt_law_invariant.proofs.ClientEffects.{is_asks, live_by, new_by, one_of_client}

abbrev pub gives : Option Mode → Mode → Bool
gives None mode = false
gives (Some given) mode = same_mode mode given

-- the ask of the client gives up the mode, and wasn't given up itself
abbrev pub is_giving : Bool → ℕ → Mode → Ask → Bool
is_giving gone client mode ask = not gone && (client == ask.client && gives ask.gives_up mode)

-- how many such asks are unanswered
abbrev pub asks_giving : SetState → ℕ → Mode → ℕ
asks_giving t client mode = count_by (is_giving (is_gone t client) client mode) t.pending

-- the client's locks, and its asks for one more
abbrev pub locks_and_asks : SetState → ℕ → ℕ
locks_and_asks t client = locks_of t.held client + count_by (new_by (is_gone t client) client) t.pending

not_true : (b : Bool) → not b ≡ true → b ≡ false
not_true true e = cc
not_true false e = refl

-- such an ask is there
pub giving_in : (t : SetState) (client : ℕ) (mode : Mode) → 1 ≤ asks_giving t client mode
    → (ask : Ask) × Contains t.pending ask × (is_gone t ask.client ≡ false) × (ask.client ≡ client) × (gives ask.gives_up mode ≡ true)
giving_in t client mode some =
    let found = counted_in (is_giving (is_gone t client) client mode) t.pending some in
    let parts = and_parts (not (is_gone t client)) _ found.2 in
    let named = and_parts (client == found.0.client) (gives found.0.gives_up mode) parts.1 in
    let own : client ≡ found.0.client = eqb-true client found.0.client named.0 in
    (found.0, found.1, sym (ap (is_gone t) own) ∙ not_true (is_gone t client) parts.0, sym own, named.1)

-- where none is there none is counted
pub none_giving : (t : SetState) (client : ℕ) (mode : Mode)
    → ((ask : Ask) → Contains t.pending ask → is_gone t ask.client ≡ false → ask.client ≡ client → gives ask.gives_up mode ≡ true → ⊥) → asks_giving t client mode ≡ 0
none_giving t client mode none = by_count (asks_giving t client mode) refl
  where
    by_count : (n : ℕ) → asks_giving t client mode ≡ n → n ≡ 0
    by_count zero e = refl
    by_count (suc n) e = let found = giving_in t client mode (omega (arith, e)) in absurd (none found.0 found.1 found.2 found.3 found.4)

-- a client that waits for nothing gives nothing up
pub idle_gives : (client : ℕ) (t : SetState) → IsIdle client t → (mode : Mode) → asks_giving t client mode ≡ 0
idle_gives client t none mode = none_giving t client mode (λ ask there live own g. no_ask_of client t none ask there live own)

-- such asks are asks of the client
pub giving_fewer : (gone : Bool) (c : ℕ) (mode : Mode) (asks : List Ask) → count_by (is_giving gone c mode) asks ≤ count_by (is_asks c) asks
giving_fewer gone c mode asks =
    sum_by-le-sum_by (λ (a : Ask). if is_giving gone c mode a then 1 else 0) (λ (a : Ask). if is_asks c a then 1 else 0) asks
    (λ a. by_own a gone (c == a.client) refl (gives a.gives_up mode))
  where
    by_own : (a : Ask) (x own : Bool) → (c == a.client) ≡ own → (g : Bool) → (if not x && (own && g) then 1 else 0) ≤ (if a.client == c then 1 else 0)
    by_own a true own e g = omega arith
    by_own a false true e true = omega (arith, ap {B = ℕ} (λ (b : Bool). if b then 1 else 0) (eq-eqb a.client c (sym (eqb-true c a.client e))))
    by_own a false true e false = omega arith
    by_own a false false e g = omega arith

-- of another client it is none
pub other_giving : (gone : Bool) (c : ℕ) (mode : Mode) (a : Ask) → c ≢ a.client → ◌≡◌ {A = ℕ} (if is_giving gone c mode a then 1 else 0) 0
other_giving gone c mode a d = ap (λ (b : Bool). if b then 1 else 0) (and_right (not gone) _ (and_left (c == a.client) (gives a.gives_up mode) (ne_eqb c a.client d)))

-- the marks that are left were there
pub gone_fewer : (gone : List ℕ) (client c : ℕ) → list_any (λ other. other == c) (left_gone gone client) ≡ true → list_any (λ other. other == c) gone ≡ true
gone_fewer gone client c e =
    let found = list_any-which (λ other. other == c) (left_gone gone client) e in
    list_any-at (λ other. other == c) gone found.0 (contains_filtered (λ other. not (other == client)) gone found.0 found.1).0 found.2

same_choice-true : (a b : Option Mode) → same_choice a b ≡ true → a ≡ b
same_choice-true None None e = refl
same_choice-true None (Some b) e = cc
same_choice-true (Some a) None e = cc
same_choice-true (Some a) (Some b) e = ap Some (same_mode-true a b e)

-- an ask that is taken up again is the one of its client, and wants the same
pub same_wish-is : (ask : Ask) (t : SetState) → same_wish ask (pending_ask t ask.client) ≡ true → count_by (is_asks ask.client) t.pending ≤ 1
    → (b : Ask) → Contains t.pending b → b.client ≡ ask.client → (ask.mode ≡ b.mode) × (ask.gives_up ≡ b.gives_up)
same_wish-is ask t wish one b there own = by_old (pending_ask t ask.client) refl
  where
    by_old : (o : Option Ask) → pending_ask t ask.client ≡ o → (ask.mode ≡ b.mode) × (ask.gives_up ≡ b.gives_up)
    by_old None e = absurd (false≢true (ap (same_wish ask) (sym e) ∙ wish))
    by_old (Some old) e =
        let found = find_is (λ (x : Ask). x.client == ask.client) t.pending old e in
        let theirs : old.client ≡ ask.client = eqb-true old.client ask.client found.1 in
        let few : count_by (is_asks old.client) t.pending ≤ 1 = subst (λ (c : ℕ). count_by (is_asks c) t.pending ≤ 1) (sym theirs) one in
        let is_b : old ≡ b = one_of_client t.pending old b few found.0 there (own ∙ sym theirs) in
        let parts = and_parts (same_mode ask.mode old.mode) (same_choice ask.gives_up old.gives_up) (ap (same_wish ask) (sym e) ∙ wish) in
        (same_mode-true ask.mode old.mode parts.0 ∙ ap (λ (x : Ask). x.mode) is_b, same_choice-true ask.gives_up old.gives_up parts.1 ∙ ap (λ (x : Ask). x.gives_up) is_b)

-- the ask is there where something is taken up again
pub same_wish-there : (ask : Ask) (t : SetState) → same_wish ask (pending_ask t ask.client) ≡ true → (old : Ask) × Contains t.pending old × (old.client ≡ ask.client)
same_wish-there ask t wish = by_old (pending_ask t ask.client) refl
  where
    by_old : (o : Option Ask) → pending_ask t ask.client ≡ o → (old : Ask) × Contains t.pending old × (old.client ≡ ask.client)
    by_old None e = absurd (false≢true (ap (same_wish ask) (sym e) ∙ wish))
    by_old (Some old) e =
        let found = find_is (λ (x : Ask). x.client == ask.client) t.pending old e in
        (old, found.0, eqb-true old.client ask.client found.1)

-- the locks of two modes are locks of the client
pub two_totals : (rows : List Row) (client : ℕ) (a b : Mode) → a ≢ b → total rows client a + total rows client b ≤ locks_of rows client
two_totals [] client a b d = omega arith
two_totals (row ∷ rest) client a b d = by_own (is_of client row) refl (two_totals rest client a b d)
  where
    parts : total (row ∷ rest) client a + total (row ∷ rest) client b ≡ row_count client a row + row_count client b row + (total rest client a + total rest client b)
    parts = omega (arith, sum_by-cons (row_count client a) row rest, sum_by-cons (row_count client b) row rest)

    key : (m : Mode) → is_of client row ≡ false → row_count client m row ≡ 0
    key m e = ap (λ (x : Bool). if x then row.count else 0) (and_left (row.client == client) (same_mode row.mode m) e)

    both_keys : (x y : Bool) → is_row_of client a row ≡ x → is_row_of client b row ≡ y → (if x then row.count else 0) + (if y then row.count else 0) ≤ row.count
    both_keys true true e f =
        absurd (d (sym (same_mode-true row.mode a (and_parts (row.client == client) (same_mode row.mode a) e).1) ∙ same_mode-true row.mode b (and_parts (row.client == client) (same_mode row.mode b) f).1))
    both_keys true false e f = omega arith
    both_keys false y e f = by_second y
      where
        by_second : (z : Bool) → 0 + (if z then row.count else 0) ≤ row.count
        by_second true = omega arith
        by_second false = omega arith

    by_own : (own : Bool) → is_of client row ≡ own → total rest client a + total rest client b ≤ locks_of rest client
        → total (row ∷ rest) client a + total (row ∷ rest) client b ≤ sum_by (λ (r : Row). r.count) (if own then row ∷ filter (is_of client) rest else filter (is_of client) rest)
    by_own true e again = omega (arith, again, parts, both_keys (is_row_of client a row) (is_row_of client b row) refl refl, sum_by-cons (λ (r : Row). r.count) row (filter (is_of client) rest))
    by_own false e again = omega (arith, again, parts, key a e, key b e)

-- and so are those of one
pub total_within : (rows : List Row) (client : ℕ) (mode : Mode) → total rows client mode ≤ locks_of rows client
total_within [] client mode = omega arith
total_within (row ∷ rest) client mode = by_own (is_of client row) refl (total_within rest client mode)
  where
    by_key : (key : Bool) → (if key then row.count else 0) ≤ row.count
    by_key true = omega arith
    by_key false = omega arith

    by_own : (own : Bool) → is_of client row ≡ own → total rest client mode ≤ locks_of rest client
        → total (row ∷ rest) client mode ≤ sum_by (λ (r : Row). r.count) (if own then row ∷ filter (is_of client) rest else filter (is_of client) rest)
    by_own true e again = omega (arith, again, by_key (is_row_of client mode row), sum_by-cons (row_count client mode) row rest, sum_by-cons (λ (r : Row). r.count) row (filter (is_of client) rest))
    by_own false e again = omega (
      arith,
      again,
      sum_by-cons (row_count client mode) row rest,
      ap (λ (x : Bool). if x then row.count else 0) (and_left (row.client == client) (same_mode row.mode mode) e),
    )

-- who holds no mode has no lock
pub no_rows : (rows : List Row) (client : ℕ) → ((mode : Mode) → total rows client mode ≡ 0) → locks_of rows client ≡ 0
no_rows [] client none = refl
no_rows (row ∷ rest) client none =
    by_own (is_of client row) refl (no_rows rest client (λ mode. omega (arith, none mode, sum_by-cons (row_count client mode) row rest)))
  where
    by_own : (own : Bool) → is_of client row ≡ own → locks_of rest client ≡ 0
        → sum_by (λ (r : Row). r.count) (if own then row ∷ filter (is_of client) rest else filter (is_of client) rest) ≡ 0
    by_own true e again =
        let key : is_row_of client row.mode row ≡ true = and_from _ _ e (has-itself row.mode) in
        omega (
          arith,
          again,
          none row.mode,
          sum_by-cons (row_count client row.mode) row rest,
          ap (λ (x : Bool). if x then row.count else 0) key,
          sum_by-cons (λ (r : Row). r.count) row (filter (is_of client) rest),
        )
    by_own false e again = again

-- asks for one more are live asks
pub new_at_most : (gone : Bool) (c : ℕ) (asks : List Ask) → count_by (new_by gone c) asks ≤ count_by (live_by gone c) asks
new_at_most gone c asks =
    sum_by-le-sum_by (λ (a : Ask). if new_by gone c a then 1 else 0) (λ (a : Ask). if live_by gone c a then 1 else 0) asks (λ a. by_live (live_by gone c a) (is_none a.gives_up))
  where
    by_live : (live new : Bool) → (if live && new then 1 else 0) ≤ (if live then 1 else 0)
    by_live true true = omega arith
    by_live true false = omega arith
    by_live false new = omega arith

-- of a mode that isn't held nothing is counted
pub none_total : (rows : List Row) (client : ℕ) (mode : Mode) → SomeEach rows → (count_of rows client mode == 0) ≡ true → total rows client mode ≡ 0
none_total rows client mode some none = by_place (row_place rows client mode) refl (eqb-true (count_of rows client mode) 0 none)
  where
    by_place : (o : Option ℕ) → row_place rows client mode ≡ o → count_at rows o ≡ 0 → total rows client mode ≡ 0
    by_place None e zero_here = sum_by-zero (row_count client mode) rows (λ i d within. ap (λ (b : Bool). if b then (slice_index_or rows i d).count else 0) (none_found (is_row_of client mode) rows e i d within))
    by_place (Some k) e zero_here =
        absurd (omega (arith, zero_here, each_some rows some k (position-Some (is_row_of client mode) rows k no_row e).0))

-- the locks of a client that holds one at most
pub alone : (rows : List Row) (client : ℕ) (a b : Mode) → locks_of rows client ≤ 1 → 1 ≤ total rows client a → a ≢ b → total rows client b ≡ 0
alone rows client a b few some d = omega (arith, few, some, two_totals rows client a b d)

-- a mode is one or the other
pub same_or_not : (a b : Mode) → (a ≡ b) ⊎ (a ≢ b)
same_or_not a b = by_test (same_mode a b) refl
  where
    by_test : (same : Bool) → same_mode a b ≡ same → (a ≡ b) ⊎ (a ≢ b)
    by_test true e = inl (same_mode-true a b e)
    by_test false e = inr (λ f. false≢true (sym e ∙ ap (same_mode a) (sym f) ∙ has-itself a))
