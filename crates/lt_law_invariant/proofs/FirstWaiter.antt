-- At rest no letter is on its way, and what counts of a node is what it holds.
use Rattle.std.proofs.Common.{◌≡◌, ℕ, ◌<◌, inl, inr, List, [], ◌∷◌, length, Option, Bool, true, false, refl, sym, ap, arith, ◌∙◌, ◌+◌, Some, None, subst, not, if◌then◌else◌, Contains, IsTrue, ◌||◌, ◌&&◌, ◌==◌, nat_lt, slice_index, ◌⊎◌, IsFalse, ne_eqb, lt-ltb, eqb-true}
use Rattle.std.proofs.lemmas.Bool.{and_parts, and_from, false≢true}
use Rattle.std.proofs.lemmas.List.Elements.{All-contains, Contains-append_right}
use Rattle.lt_modes.specs.declared.mode.Mode.{Mode}
use Rattle.lt_modes.specs.declared.ask.Ask.{Ask}
use Rattle.lt_modes.specs.Modes.{conflicts, has, held_modes, Modes, no_modes, union, bars, with_mode, other_modes, has_none}
use Rattle.lt_modes.specs.Script.{ScriptData}
use Rattle.lt_modes.specs.State.{Desk, Tell, Body, TellBody, CopyBody, TokenBody, Letter, ParkedTell, modes_of_asks, record_of, SetState, own_owed, others, FreezeBody, entry_of}
use Rattle.lt_modes.proofs.ModeAlgebra.{union_bars_both, bars_by_table, none_in_none, conflicts-sym, each_barred, every_mode-at}
use Rattle.lt_modes.specs.Serving.{queue_of, queue_of_desk, is_free, is_local, is_copy, is_served, is_clear_at_home, next_service, next_at, next_from, is_void, is_ready}
use Rattle.lt_modes.specs.HandingOver.{may_draw, next_draw, move_at, draw_from}
use Rattle.lt_modes.specs.Fits.{parked_asks, asks_here, numbers_of}
use Rattle.lt_modes.specs.Sound.{SoundRow, SoundHere}
use Rattle.lt_modes.specs.Freezing.{frozen_by}
use Rattle.lt_lists.specs.Below.{any_below}
use Rattle.lt_lists.proofs.Searches.{any_below_none}
use Rattle.lt_lists.proofs.Members.{nothing_in}
use Rattle.lt_spec.specs.World.{World, has_mail, is_some_letter, is_runnable, is_at_rest}
use Rattle.lt_spec.specs.Facts.{state_at, Comes, DeskIs}
use Rattle.lt_law_accounts.specs.Account.{Account, AccountKept, Bars, IsBelow, counted, own_of, owed_and_waiting}
use Rattle.lt_law_accounts.proofs.AccountFacts.{asks_bar-which, waiting_is_copy, below_by_bars, held_below_record}
use Rattle.lt_law_accounts.proofs.AccountPlay.{others-which}
use Rattle.lt_law_accounts.proofs.Rows.{held-which, other-which, held-at}
use Rattle.lt_law_accounts.proofs.NewsLemmas.{frozen_at_rest}
use Rattle.lt_model.specs.OnWay.{Between, is_at, tells_of, account_of, freezes_to, news_of}
use Rattle.lt_model.specs.Invariant.{Paths, IsParkedFor, SetKept, HasWay, DeskKept}
use Rattle.lt_model.proofs.StandingBegins.{tells_are_on_way, copies_are_on_way, freezes_are_on_way}
use Rattle.lt_model.proofs.AccountRules.{rules_count}
use Rattle.lt_model.proofs.PathsMove.{desk_somewhere}
use Rattle.lt_law_invariant.specs.InvariantLaws.{IsBarred, FirstWaiterConflicts, HoldersAreFrozen}

-- nothing is on its way
pub no_letters : (script : ScriptData) (w : World) (s q : ℕ) (body : Body) → Paths script w s → IsTrue (is_at_rest script w) → Comes script w s q body → ⊥
no_letters script w s q body paths rest (p, letter, below, on, says) =
    let on_path = paths.letters p q letter below on in
    let none =
    not_true (any_below script.nodes (λ a. any_below script.nodes (has_mail script w a)))
    (and_parts (not (any_below (length script.clients) (is_runnable script w))) _ rest).1 in
    let row = any_below_none script.nodes (λ a. any_below script.nodes (has_mail script w a)) none p below in
    let here = any_below_none script.nodes (has_mail script w p) row q on_path.to in
    let there : has_mail script w p q ≡ true =
    and_from _ _ (lt-ltb p script.nodes below)
    (and_from _ _ (lt-ltb q script.nodes on_path.to) (and_from _ _ (ap not (ne_eqb p q (λ e. on_path.other (sym e)))) (some (w.mail p q) on.among))) in
    false≢true (sym here ∙ there)
  where
    not_true : (t : Bool) → not t ≡ true → t ≡ false
    not_true true e = cc
    not_true false e = refl

    some : (letters : List Letter) → Contains letters letter → is_some_letter letters ≡ true
    some [] c = absurd (omega (arith, c.1))
    some (first ∷ rest) c = refl

-- so nothing is told
pub no_tells : (script : ScriptData) (w : World) (s x : ℕ) (tell : Tell) → SetKept script Between w s → IsTrue (is_at_rest script w)
    → Contains (tells_of script w s x) tell → ⊥
no_tells script w s x tell h rest c =
    let on = (tells_are_on_way script w s x tell).0 c in
    elim on.3 [
      | inl comes ↦ no_letters script w s on.1 (TellBody tell) h.paths rest comes
      | inr parked ↦
          let comes = All-contains (IsParkedFor script w s on.1) (state_at w s on.1).parked (ParkedTell tell) (h.parked on.1 on.2) parked in
          no_letters script w s on.1 (TokenBody comes.0) h.paths rest comes.1
    ]

-- what counts of a node is what it holds
pub counts_held : (script : ScriptData) (w : World) (s x : ℕ) (place : Option ℕ) (desk : Desk) → SetKept script Between w s → IsTrue (is_at_rest script w)
    → x < script.nodes → DeskIs script w s place desk
    → IsBelow (counted (account_of script Between w s place desk x)) (held_modes (state_at w s x).held)
counts_held script w s x place desk h rest below there mode bar = by_here (is_at place x) refl bar
  where
    a : Account
    a = account_of script Between w s place desk x

    kept : AccountKept a
    kept = (h.known place desk there).accounts x below

    no_copies : (ask : Ask) → Contains a.copies ask → ⊥
    no_copies ask c = no_letters script w s x (CopyBody ask) h.paths rest ((copies_are_on_way script w s x ask).0 c)

    not_owed : (m : Mode) → IsTrue (has m (owed_and_waiting a)) → ⊥
    not_owed m found = let copy = waiting_is_copy a kept.owed m found in no_copies copy.0 copy.1

    by_here : (here : Bool) → is_at place x ≡ here → Bars (if here then own_of a else record_of a.entry) mode → Bars (held_modes (state_at w s x).held) mode
    by_here true e b = elim ((union_bars_both conflicts (held_modes a.held) (owed_and_waiting a) mode).0 b) [
      | inl own ↦ own
      | inr owed ↦ absurd (not_owed owed.0 owed.2)
    ]
    by_here false e b = elim (kept.cover e).exact [
      | inl exact ↦ elim ((union_bars_both conflicts a.charge (modes_of_asks a.copies) mode).0 (exact mode b)) [
        | inl charge ↦ below_by_bars a.charge (held_modes a.held) (sym (kept.charge e)) mode charge
        | inr copy ↦ let found = asks_bar-which a.copies mode copy in absurd (no_copies found.0 found.1)
      ]
      | inr told ↦ absurd (no_tells script w s x told.0 h rest told.1.0)
    ]

-- At rest the first waiter of a set conflicts with a lock of another client.

bars_union-none : (modes : Modes) (mode : Mode) → Bars (union modes no_modes) mode → Bars modes mode
bars_union-none modes mode bar = elim ((union_bars_both conflicts modes no_modes mode).0 bar) [
  | inl own ↦ own
  | inr none ↦ none_in_none none.0 none.2
]

bars_from : (modes : Modes) (mode : Mode) → has mode (bars modes) ≡ true → Bars modes mode
bars_from modes mode e = (bars_by_table modes mode).0 e

not_false : (b : Bool) → not b ≡ false → b ≡ true
not_false true e = refl
not_false false e = cc

second_false : (a b : Bool) → a ≡ true → (a && b) ≡ false → b ≡ false
second_false true b e f = f
second_false false b e f = cc

-- the tests of the ask at place 0
first_none : (me : ℕ) (t : SetState) (desk : Desk) (ask : Ask) (rest : List Ask) → next_from me t desk no_modes 0 (ask ∷ rest) ≡ None
    → draw_from me t desk no_modes 0 (ask ∷ rest) ≡ None
    → (is_ready me t desk no_modes ask ≡ false) × (may_draw me t desk no_modes 0 ask ≡ false)
first_none me t desk ask rest service draw = (second (is_void me t ask) (is_ready me t desk no_modes ask) (by_service (is_served me t desk no_modes ask) refl service), by_draw (may_draw me t desk no_modes 0 ask) refl draw)
  where
    by_service : (b : Bool) → is_served me t desk no_modes ask ≡ b
        → (if b then Some 0 else next_from me t desk (with_mode no_modes ask.mode) (0 + 1) rest) ≡ None → is_served me t desk no_modes ask ≡ false
    by_service true e f = cc
    by_service false e f = e

    second : (first rest : Bool) → (first || rest) ≡ false → rest ≡ false
    second true rest e = cc
    second false rest e = e

    by_draw : (b : Bool) → may_draw me t desk no_modes 0 ask ≡ b
        → (if b then Some 0 else draw_from me t desk (with_mode no_modes ask.mode) (0 + 1) rest) ≡ None → may_draw me t desk no_modes 0 ask ≡ false
    by_draw true e f = cc
    by_draw false e f = e

-- where it is free it is an own ask with which another client here conflicts
free_own : (own other free local copy clear : Bool) → other ≡ not own → ((free && (local || copy)) ≡ false) → ((other && (free && (true || clear))) ≡ false)
    → free ≡ true → (own ≡ true) × (local ≡ false)
free_own own other false local copy clear o s d f = cc
free_own own true true local copy clear o s d f = cc
free_own true false true true copy clear o s d f = cc
free_own true false true false copy clear o s d f = (refl, refl)
free_own false false true local copy clear o s d f = cc

pub first_waiter_conflicts : FirstWaiterConflicts
first_waiter_conflicts script w s ask h rest (q, others_wait, under, queue) = by_desk (state_at w s q).desk refl queue
  where
    t : SetState
    t = state_at w s q

    by_desk : (o : Option Desk) → t.desk ≡ o → queue_of_desk o ≡ ask ∷ others_wait → IsBarred script w s ask
    by_desk None away e = cc
    by_desk (Some desk) here e = by_free (is_free q t desk no_modes ask) refl
      where
        there : DeskIs script w s (Some q) desk
        there = (under, here)

        kept : DeskKept script Between w s (Some q) desk
        kept = h.known (Some q) desk there

        served : (next_service q t ≡ None) × (next_draw q t ≡ None)
        served = h.served q desk refl there

        tests : (is_ready q t desk no_modes ask ≡ false) × (may_draw q t desk no_modes 0 ask ≡ false)
        tests = first_none q t desk ask others_wait
            (ap (next_from q t desk no_modes 0) (sym e) ∙ ap (next_at q t) (sym here) ∙ served.0)
            (ap (draw_from q t desk no_modes 0) (sym e) ∙ ap (move_at q t) (sym here) ∙ served.1)

        home : slice_index (numbers_of script).homes ask.client ≡ ask.node
        home =
            let here_too = All-contains (SoundHere (numbers_of script) q t) (asks_here t) ask (h.states q under).here
            (Contains-append_right (parked_asks t) (queue_of t) ask (subst (λ l. Contains l ask) (sym (ap queue_of_desk here ∙ e)) (0, omega arith, refl))) in
            let parts = and_parts (nat_lt ask.node script.nodes) _ here_too.home in
            let more = and_parts (nat_lt ask.client (length (numbers_of script).homes)) (slice_index (numbers_of script).homes ask.client == ask.node) parts.1 in
            eqb-true (slice_index (numbers_of script).homes ask.client) ask.node more.1

        entries : length desk.entries ≡ script.nodes
        entries = (subst (HasWay script.nodes (w.went s) q t.firm) here (h.paths.states q under).way).0.entries

        -- a row of another node that conflicts
        of_other : Bars (others q t desk ask.node) ask.mode → IsBarred script w s ask
        of_other bar =
            let found =
            others-which script.nodes (account_of script Between w s (Some q) desk) ask.node ask.mode
            (subst (λ (o : Modes). Bars o ask.mode) (rules_count.others script Between w s q ask.node desk entries) bar) in
            let held = counts_held script w s found.0 (Some q) desk h rest found.1 there ask.mode found.3 in
            let row = held-which (state_at w s found.0).held held.0 held.2 in
            let own = All-contains (SoundRow (numbers_of script) found.0) (state_at w s found.0).held row.0 (h.states found.0 found.1).rows row.1 in
            record {
              node = found.0;
              row = row.0;
              within = found.1;
              held = row.1;
              other = λ same. found.2 (sym own.home ∙ ap (λ (c : ℕ). slice_index (numbers_of script).homes c) same ∙ home);
              conflict = subst (λ (m : Mode). IsTrue (conflicts ask.mode m)) (sym row.2) held.1;
            }

        own_row : (ask.node ≡ q) → Bars (union (other_modes t.held ask.client) (own_owed q t desk)) ask.mode → IsBarred script w s ask
        own_row me bar = elim ((union_bars_both conflicts (other_modes t.held ask.client) (own_owed q t desk) ask.mode).0 bar) [
          | inl other ↦
              let row = other-which t.held ask.client other.0 other.2 in
              record {
                node = q;
                row = row.0;
                within = under;
                held = row.1;
                other = row.2;
                conflict = subst (λ (m : Mode). IsTrue (conflicts ask.mode m))
                    (sym row.3) other.1;
              }
          | inr owed ↦
              let copy = waiting_is_copy (account_of script Between w s (Some q) desk q) (kept.accounts q under).owed owed.0 owed.2 in
              absurd (no_letters script w s q (CopyBody copy.0) h.paths rest ((copies_are_on_way script w s q copy.0).0 copy.1))
        ]

        by_free : (free : Bool) → is_free q t desk no_modes ask ≡ free → IsBarred script w s ask
        by_free false f =
            of_other
            (bars_union-none (others q t desk ask.node) ask.mode
            (bars_from (union (others q t desk ask.node) no_modes) ask.mode (not_false (has ask.mode (bars (union (others q t desk ask.node) no_modes))) f)))
        by_free true f =
            let own =
            free_own (ask.node == q) (not (ask.node == q)) (is_free q t desk no_modes ask) (is_local q t desk ask) (is_copy q t desk ask)
            (is_clear_at_home q t desk ask) refl tests.0 tests.1 f in
            let me = eqb-true ask.node q own.0 in
            own_row me (bars_from (union (other_modes t.held ask.client) (own_owed q t desk)) ask.mode
            (not_false (has ask.mode (bars (union (other_modes t.held ask.client) (own_owed q t desk)))) (second_false (ask.node == q) _ own.0 own.1)))

-- At rest each node that holds a lock keeps frozen what the queue freezes.

has_some : (modes : Modes) (mode : Mode) → has mode modes ≡ true → has_none modes ≡ false
has_some modes mode e = by_test (has_none modes) refl
  where
    by_test : (none : Bool) → has_none modes ≡ none → has_none modes ≡ false
    by_test false f = f
    by_test true f = let gone = every_mode-at (λ m. not (has m modes)) mode f in absurd (false≢true (sym (ap not e) ∙ gone))

pub holders_are_frozen : HoldersAreFrozen
holders_are_frozen script w s x row h under rest held = at_desk found.0 found.1 found.2
  where
    found : (place : Option ℕ) × (desk : Desk) × DeskIs script w s place desk
    found = desk_somewhere script w s h.paths

    at_desk : (place : Option ℕ) (desk : Desk) → DeskIs script w s place desk
        → (t : ℕ) × (desk : Desk) × DeskIs script w s (Some t) desk × ((state_at w s x).frozen ≡ frozen_by desk.queue)
    at_desk None desk there = absurd (no_letters script w s there.0 (TokenBody desk) h.paths rest there.2)
    at_desk (Some t) desk there = (
      t,
      desk,
      there,
      frozen_at_rest (news_of script Between w s (Some t) desk x) (kept.news x under) refl
          (nothing_in (freezes_to script w s x) (λ y c. no_letters script w s x (FreezeBody y.number y.modes) h.paths rest
          ((freezes_are_on_way script w s x y).0 c))) (by_here (x == t) refl),
    )
      where
        kept : DeskKept script Between w s (Some t) desk
        kept = h.known (Some t) desk there

        by_here : (here : Bool) → (x == t) ≡ here → ((x == t) ≡ true) ⊎ IsFalse (has_none (record_of (entry_of desk x)))
        by_here true e = inl e
        by_here false e =
            let other = each_barred row.mode in
            let bar = held_below_record (account_of script Between w s (Some t) desk x) (kept.accounts x under) e other.0
            (row.mode, conflicts-sym other.0 row.mode ∙ other.1, held-at (state_at w s x).held row held) in
            inr (has_some (record_of (entry_of desk x)) bar.0 bar.2)
