-- Which ask draws the desk, and which ask can be served where the desk comes.
use Rattle.std.proofs.Common.{◌≡◌, ◌⊎◌, inl, inr, ℕ, zero, suc, ◌+◌, ◌<◌, ◌≤◌, List, [], ◌∷◌, length, Some, Bool, true, false, refl, sym, ap, subst, arith, ◌∙◌, length-set, ◌==◌, ◌&&◌, ◌||◌, not, if◌then◌else◌, IsTrue, slice_index_or, eq-eqb, ne_eqb, eqb-true, get_or-set_same, get_or-set_other}
use Rattle.std.proofs.lemmas.Bool.{cases_eq, and_parts, and_from, or_cases, or_left, or_right, not-true, false≢true}
use Rattle.lt_modes.specs.declared.mode.Mode.{Mode}
use Rattle.lt_modes.specs.declared.stamp.Stamp.{Stamp}
use Rattle.lt_modes.specs.declared.ask.Ask.{Ask}
use Rattle.lt_modes.specs.Modes.{Modes, no_modes, has, union, with_mode, bars, held_modes, other_modes}
use Rattle.lt_modes.specs.State.{SetState, Desk, first_entry, no_ask, record_of, entry_of, own_owed, own_part, modes_at, others_below, others}
use Rattle.lt_modes.specs.Serving.{is_free, is_local, is_copy, is_clear_at_home, is_served, next_from, is_void, is_ready}
use Rattle.lt_modes.specs.HandingOver.{may_draw, draw_from, leaving, settled}
use Rattle.lt_law_accounts.specs.Account.{IsBelow}
use Rattle.lt_law_accounts.proofs.AccountFacts.{bars_not, not_bars, below_by_members, has-union, has-left, has-right}
use Rattle.lt_law_accounts.proofs.Rows.{other-which, held-at}
use Rattle.lt_law_ends.specs.Weights.{records_below, records_without, is_sure_from}

-- records at the desk's node, and in the letter in which the desk leaves

-- what counts of the other nodes at the node itself is their records
others_own : (n v : ℕ) (s : SetState) (desk : Desk) → others_below n v s desk v ≡ records_below n desk v
others_own zero v s desk = refl
others_own (suc n) v s desk =
    ap (λ (m : Modes). union m (if n == v then no_modes else modes_at v s desk n)) (others_own n v s desk)
    ∙ ap (λ (m : Modes). union (records_below n desk v) m) (by_test (n == v))
  where
    by_test : (own : Bool) → (if own then no_modes else (if own then own_part v s desk else record_of (entry_of desk n)))
        ≡ (if own then no_modes else record_of (entry_of desk n))
    by_test true = refl
    by_test false = refl

-- what counts of a node is its record once the desk leaves
leaving_record : (stamp : Stamp) (s : SetState) (desk : Desk) (x : ℕ) → x < length desk.entries
    → modes_at stamp.node s desk x ≡ record_of (entry_of (leaving stamp s desk) x)
leaving_record stamp s desk x within = elim (cases_eq x stamp.node) [
  | inl e ↦
      let here : modes_at stamp.node s desk x ≡ own_part stamp.node s desk =
      ap (λ (b : Bool). if b then own_part stamp.node s desk else record_of (entry_of desk x)) (eq-eqb x stamp.node e) in
      let entry = settled stamp s (entry_of desk stamp.node) in
      let same : entry_of (leaving stamp s desk) stamp.node ≡ entry =
      get_or-set_same desk.entries stamp.node entry first_entry (omega (arith, within, e)) in
      here ∙ sym (ap record_of (ap (entry_of (leaving stamp s desk)) e ∙ same))
  | inr d ↦
      let there : modes_at stamp.node s desk x ≡ record_of (entry_of desk x) =
      ap (λ (b : Bool). if b then own_part stamp.node s desk else record_of (entry_of desk x)) (ne_eqb x stamp.node d) in
      let same : entry_of (leaving stamp s desk) x ≡ entry_of desk x =
      get_or-set_other desk.entries stamp.node x (settled stamp s (entry_of desk stamp.node)) first_entry d in
      there ∙ sym (ap record_of same)
]

leaving_others : (n : ℕ) (stamp : Stamp) (s : SetState) (desk : Desk) (v : ℕ) → n ≤ length desk.entries
    → others_below n stamp.node s desk v ≡ records_below n (leaving stamp s desk) v
leaving_others zero stamp s desk v few = refl
leaving_others (suc n) stamp s desk v few =
    ap (λ (m : Modes). union m (if n == v then no_modes else modes_at stamp.node s desk n)) (leaving_others n stamp s desk v (omega (arith, few)))
    ∙ ap (λ (m : Modes). union (records_below n (leaving stamp s desk) v) (if n == v then no_modes else m))
    (leaving_record stamp s desk n (omega (arith, few)))

-- what counts of the others is their records in the letter
leaving_without : (stamp : Stamp) (s : SetState) (desk : Desk) (v : ℕ) → others stamp.node s desk v ≡ records_without (leaving stamp s desk) v
leaving_without stamp s desk v =
    leaving_others (length desk.entries) stamp s desk v (omega arith)
    ∙ ap (λ (n : ℕ). records_below n (leaving stamp s desk) v)
    (sym (length-set desk.entries stamp.node (settled stamp s (entry_of desk stamp.node))))

-- and of a node that isn't the desk's, wherever it stands
other_record : (stamp : Stamp) (s : SetState) (desk : Desk) (v : ℕ) → (v == stamp.node) ≡ false
    → modes_at stamp.node s desk v ≡ record_of (entry_of (leaving stamp s desk) v)
other_record stamp s desk v d =
    let there : modes_at stamp.node s desk v ≡ record_of (entry_of desk v) =
    ap (λ (b : Bool). if b then own_part stamp.node s desk else record_of (entry_of desk v)) d in
    let same : entry_of (leaving stamp s desk) v ≡ entry_of desk v =
    get_or-set_other desk.entries stamp.node v (settled stamp s (entry_of desk stamp.node)) first_entry (λ e. false≢true (sym d ∙ eq-eqb v stamp.node e)) in
    there ∙ sym (ap record_of same)

-- the ask that draws the desk is sure at its node, or first in the queue

abbrev pub IsDrawn : Stamp → SetState → Desk → Modes → List Ask → ℕ → ℕ → Type 0
IsDrawn stamp s desk before queue j v =
    ((v == stamp.node) ≡ false)
    × ((is_sure_from v (records_without (leaving stamp s desk) v) (record_of (entry_of (leaving stamp s desk) v)) before queue ≡ true) ⊎ (j ≡ 0))

pub draws_from : (stamp : Stamp) (s : SetState) (desk : Desk) (before : Modes) (k : ℕ) (queue : List Ask) (j : ℕ)
    → draw_from stamp.node s desk before k queue ≡ Some j
    → (i : ℕ) × (j ≡ k + i) × IsDrawn stamp s desk before queue j (slice_index_or queue i no_ask).node
draws_from stamp s desk before k [] j e = cc
draws_from stamp s desk before k (ask ∷ rest) j e =
    by_test (may_draw stamp.node s desk before k ask) refl (λ f. draws_from stamp s desk (with_mode before ask.mode) (k + 1) rest j f) e
  where
    me : ℕ
    me = stamp.node

    left : Desk
    left = leaving stamp s desk

    drawn : may_draw me s desk before k ask ≡ true → k ≡ j → IsDrawn stamp s desk before (ask ∷ rest) j ask.node
    drawn f same =
        let parts = and_parts (not (ask.node == me)) (is_free me s desk before ask && (k == 0 || is_clear_at_home me s desk ask)) f in
        let last = and_parts (is_free me s desk before ask) (k == 0 || is_clear_at_home me s desk ask) parts.1 in
        let elsewhere = not-true (ask.node == me) parts.0 in
        let free : not (has ask.mode (bars (union (records_without left ask.node) before))) ≡ true =
        subst (λ (m : Modes). not (has ask.mode (bars (union m before))) ≡ true) (leaving_without stamp s desk ask.node) last.0 in (
          elsewhere,
          elim (or_cases (k == 0) (is_clear_at_home me s desk ask) last.1) [
            | inl first ↦ inr (omega (arith, eqb-true k 0 first, same))
            | inr clear ↦
                let own : not (has ask.mode (bars (record_of (entry_of left ask.node)))) ≡ true =
                subst (λ (m : Modes). not (has ask.mode (bars m)) ≡ true) (other_record stamp s desk ask.node elsewhere) clear in
                inl (or_left _ _ (and_from (ask.node == ask.node) _ (eq-eqb ask.node ask.node refl) (and_from _ _ free own)))
          ],
        )

    by_test : (draws : Bool) → may_draw me s desk before k ask ≡ draws
        → (draw_from me s desk (with_mode before ask.mode) (k + 1) rest ≡ Some j
        → (i : ℕ) × (j ≡ k + 1 + i) × IsDrawn stamp s desk (with_mode before ask.mode) rest j (slice_index_or rest i no_ask).node)
        → (if draws then Some k else draw_from me s desk (with_mode before ask.mode) (k + 1) rest) ≡ Some j
        → (i : ℕ) × (j ≡ k + i) × IsDrawn stamp s desk before (ask ∷ rest) j (slice_index_or (ask ∷ rest) i no_ask).node
    by_test true f again g = let same : k ≡ j = cc in (0, omega (arith, same), drawn f same)
    by_test false f again g =
        let found = again g in (
          suc found.0,
          omega (arith, found.1),
          (
            found.2.0,
            elim found.2.1 [
              | inl sure ↦ inl (or_right _ _ sure)
              | inr first ↦ inr first
            ],
          ),
        )

-- an ask that is sure at the desk's node can be served there

-- what is held and owed at the desk's node bars no more than its record did
abbrev pub IsBound : ℕ → SetState → Desk → Type 0
IsBound v s desk = IsBelow (own_part v s desk) (record_of (entry_of desk v))

pub serves_sure : (v : ℕ) (s : SetState) (desk : Desk) → IsBound v s desk → (before : Modes) (k : ℕ) (queue : List Ask)
    → is_sure_from v (records_without desk v) (record_of (entry_of desk v)) before queue ≡ true
    → (j : ℕ) × (next_from v s desk before k queue ≡ Some j)
serves_sure v s desk bound before k [] sure = cc
serves_sure v s desk bound before k (ask ∷ rest) sure =
    by_test (is_served v s desk before ask) refl (λ later. serves_sure v s desk bound (with_mode before ask.mode) (k + 1) rest later)
  where
    is_here : Bool
    is_here = ask.node == v && (not (has ask.mode (bars (union (records_without desk v) before))) && not (has ask.mode (bars (record_of (entry_of desk v)))))

    is_served_so : (ask.node == v && (not (has ask.mode (bars (union (records_without desk v) before))) && not (has ask.mode (bars (record_of (entry_of desk v)))))) ≡ true
        → is_served v s desk before ask ≡ true
    is_served_so here =
        let parts = and_parts (ask.node == v) _ here in
        let tests = and_parts (not (has ask.mode (bars (union (records_without desk v) before)))) (not (has ask.mode (bars (record_of (entry_of desk v))))) parts.1 in
        let same = eqb-true ask.node v parts.0 in
        let records : records_without desk v ≡ others v s desk ask.node = sym (ap (others v s desk) same ∙ others_own (length desk.entries) v s desk) in
        let free : is_free v s desk before ask ≡ true = subst (λ (m : Modes). not (has ask.mode (bars (union m before))) ≡ true) records tests.0 in
        let own = union (other_modes s.held ask.client) (own_owed v s desk) in
        let within = below_by_members own (own_part v s desk) (λ mode m. elim (has-union mode (other_modes s.held ask.client) (own_owed v s desk) m) [
          | inl held ↦
              let found = other-which s.held ask.client mode held in
              has-left mode (held_modes s.held) (own_owed v s desk) (subst (λ (x : Mode). IsTrue (has x (held_modes s.held))) found.3 (held-at s.held found.0 found.1))
          | inr owed ↦ has-right mode (held_modes s.held) (own_owed v s desk) owed
        ]) in
        let clear : has ask.mode (bars own) ≡ false =
        not_bars own ask.mode (λ bar. bars_not (record_of (entry_of desk v)) ask.mode (not-true _ tests.1) (bound ask.mode (within ask.mode bar))) in
        let local : is_local v s desk ask ≡ true = and_from (ask.node == v) (not (has ask.mode (bars own))) parts.0 (ap not clear) in
        or_right (is_void v s ask) (is_ready v s desk before ask)
        (and_from (is_free v s desk before ask) (is_local v s desk ask || is_copy v s desk ask) free (or_left (is_local v s desk ask) (is_copy v s desk ask) local))

    by_test : (serves : Bool) → is_served v s desk before ask ≡ serves
        → (is_sure_from v (records_without desk v) (record_of (entry_of desk v)) (with_mode before ask.mode) rest ≡ true
        → (j : ℕ) × (next_from v s desk (with_mode before ask.mode) (k + 1) rest ≡ Some j))
        → (j : ℕ) × ((if serves then Some k else next_from v s desk (with_mode before ask.mode) (k + 1) rest) ≡ Some j)
    by_test true e again = (k, refl)
    by_test false e again = elim (or_cases is_here _ sure) [
      | inl here ↦ absurd (false≢true (sym e ∙ is_served_so here))
      | inr later ↦ again later
    ]
