-- A client of an upgrading script holds and asks for no more than it may, and waits for a set above all that it holds, or to
-- change a lock.
use Rattle.std.proofs.Common.{◌≡◌, ◌≢◌, ℕ, suc, ◌+◌, ◌<◌, ◌≤◌, inl, inr, List, [], length, Option, Some, None, Bool, true, false, refl, sym, ap, arith, ◌∙◌, ◌⊎◌, not, if◌then◌else◌, IsTrue, Contains, slice_get, eq-eqb}
use Rattle.std.proofs.lemmas.Bool.{cases_eq, and_parts, and_from, or_cases, false≢true}
use Rattle.lt_modes.specs.declared.mode.Mode.{Mode}
use Rattle.lt_modes.specs.declared.ask.Ask.{Ask}
use Rattle.lt_modes.specs.declared.command.Command.{Command}
use Rattle.lt_modes.specs.declared.command.Command.TheVariants.{Lock, Try, Change}
use Rattle.lt_modes.specs.Modes.{excludes_itself, covers}
use Rattle.lt_modes.specs.Modes.{one as only}
use Rattle.lt_modes.specs.Script.{ScriptData}
use Rattle.lt_modes.specs.Serving.{is_gone}
use Rattle.lt_modes.proofs.ModeAlgebra.{has-itself}
use Rattle.lt_lists.proofs.Sums.{counted_some}
use Rattle.lt_spec.specs.NodeMove.{commands_of, NodeState}
use Rattle.lt_spec.specs.Holdings.{Holding, holding, same_holding, times_held}
use Rattle.lt_law_accounts.proofs.RowTotals.{total}
use Rattle.lt_law_lines.proofs.LineCounts.{same_holding-true}
use Rattle.lt_law_ordered.proofs.Loans.{is_for, asks_for}
use Rattle.lt_law_ordered.proofs.MayHold.{ranked_lock, may_count}
use Rattle.lt_law_upgrades.specs.UpgradeLaws.{has_withdraw, may_still_hold, may_still_hold_after, is_upgrading_from, are_beside_or_below}
use Rattle.lt_law_upgrades.proofs.LiveAsks.{gives, asks_giving, locks_and_asks, none_giving}
use Rattle.lt_law_upgrades.proofs.ActBalance.{command_by, command_of, giving_for_sure, ActBalance}
use Rattle.lt_law_upgrades.proofs.DeskStays.{KeepsDesk}
use Rattle.lt_law_upgrades.proofs.MayUpgrade.{aside_change, upgrades_at, still_more, beside_lock}

-- at its node the client holds and asks for no more than it may hold after the commands that it has made, and what its ask
-- gives up, and for one lock of a set at most; the ask is that of the last of them; and an ask of it that was given up is named
-- by a `withdraw` of the script
pub record IsWithin (script : ScriptData) (n : NodeState) (c : ℕ) : Type 0 where
  pub counts : (s : ℕ) (mode : Mode) → s < length script.sets
      → total (n.set s).held c mode + asks_for (n.set s) c mode ≤ times_held (may_still_hold script c (n.made c)) (holding c s mode) + giving_for_sure script c s (n.set s) mode
  pub few : (s : ℕ) → s < length script.sets → locks_and_asks (n.set s) c ≤ 1
  pub asked : (s : ℕ) (ask : Ask) → s < length script.sets → Contains (n.set s).pending ask → is_gone (n.set s) ask.client ≡ false → ask.client ≡ c
      → (k : ℕ) × (n.made c ≡ suc k) × (slice_get (commands_of script c) k ≡ Some (command_of s ask))
  pub marks : (s : ℕ) → s < length script.sets → is_gone (n.set s) c ≡ true → has_withdraw script c s ≡ true

-- a move in which the client makes no command, or a `withdraw`
pub record StaysIn (script : ScriptData) (n later : NodeState) (c : ℕ) : Type 0 where
  pub loans : (s : ℕ) (mode : Mode) → s < length script.sets
      → total (later.set s).held c mode + asks_for (later.set s) c mode ≤ total (n.set s).held c mode + asks_for (n.set s) c mode
  pub counts : (s : ℕ) (mode : Mode) → s < length script.sets → has_withdraw script c s ≡ false
      → total (later.set s).held c mode + asks_for (later.set s) c mode + asks_giving (n.set s) c mode ≤ total (n.set s).held c mode + asks_for (n.set s) c mode + asks_giving (later.set s) c mode
  pub few : (s : ℕ) → s < length script.sets → locks_and_asks (later.set s) c ≤ locks_and_asks (n.set s) c
  pub marks : (s : ℕ) → s < length script.sets → is_gone (later.set s) c ≡ true → (is_gone (n.set s) c ≡ true) ⊎ (has_withdraw script c s ≡ true)
  pub may : may_still_hold script c (later.made c) ≡ may_still_hold script c (n.made c)
  pub asked : (s : ℕ) (ask : Ask) → s < length script.sets → Contains (later.set s).pending ask → is_gone (later.set s) ask.client ≡ false → ask.client ≡ c
      → (Contains (n.set s).pending ask × (is_gone (n.set s) ask.client ≡ false)) × (later.made c ≡ n.made c)

pub stays_in : (script : ScriptData) (n later : NodeState) (c : ℕ) → StaysIn script n later c → IsWithin script n c → IsWithin script later c
stays_in script n later c same h = record {
  counts = λ s mode under. omega (
    arith,
    h.counts s mode under,
    by_withdraw s mode under (has_withdraw script c s) refl,
    ap (λ (l : List Holding). times_held l (holding c s mode)) same.may,
  );
  few = λ s under. omega (arith, same.few s under, h.few s under);
  asked = λ s ask under there live own.
      let before = same.asked s ask under there live own in
      let last = h.asked s ask under before.0.0 before.0.1 own in
      (last.0, before.1 ∙ last.1, last.2);
  marks = λ s under gone. elim (same.marks s under gone) [ inl old ↦ h.marks s under old | inr named ↦ named ];
}
  where
    by_withdraw : (s : ℕ) (mode : Mode) → s < length script.sets → (may : Bool) → has_withdraw script c s ≡ may
        → total (later.set s).held c mode + asks_for (later.set s) c mode + (if may then 0 else asks_giving (n.set s) c mode)
        ≤ total (n.set s).held c mode + asks_for (n.set s) c mode + (if may then 0 else asks_giving (later.set s) c mode)
    by_withdraw s mode under true e = omega (arith, same.loans s mode under)
    by_withdraw s mode under false e = same.counts s mode under e

pub record MakesCommand (script : ScriptData) (n later : NodeState) (c : ℕ) (command : Command) : Type 0 where
  pub next : slice_get (commands_of script c) (n.made c) ≡ Some command
  pub acts : (s : ℕ) → s < length script.sets → ActBalance script c s command (n.set s) (later.set s)
  pub idle : (s : ℕ) → s < length script.sets → (ask : Ask) → Contains (n.set s).pending ask → is_gone (n.set s) ask.client ≡ false → ask.client ≢ c
  pub gives : (s : ℕ) → s < length script.sets → (mode : Mode) → asks_giving (n.set s) c mode ≡ 0
  pub none : (s : ℕ) (mode : Mode) → s < length script.sets → (command ≡ Lock s mode) ⊎ (command ≡ Try s mode) → locks_and_asks (n.set s) c ≡ 0
  pub made : later.made c ≡ suc (n.made c)

-- who gives nothing up holds what it may
pub held_within : (script : ScriptData) (n : NodeState) (c s : ℕ) (mode : Mode) → IsWithin script n c → s < length script.sets → asks_giving (n.set s) c mode ≡ 0
    → total (n.set s).held c mode + asks_for (n.set s) c mode ≤ times_held (may_still_hold script c (n.made c)) (holding c s mode)
held_within script n c s mode h under none = omega (arith, h.counts s mode under, by_withdraw (has_withdraw script c s))
  where
    by_withdraw : (may : Bool) → (if may then 0 else asks_giving (n.set s) c mode) ≡ 0
    by_withdraw true = refl
    by_withdraw false = none

pub makes_command : (script : ScriptData) (n later : NodeState) (c : ℕ) (command : Command) → MakesCommand script n later c command → IsWithin script n c → IsWithin script later c
makes_command script n later c command makes h = record {
  counts = λ s mode under. omega (
    arith,
    (makes.acts s under).own locks (λ m. omega (arith, held_within script n c s m h under (makes.gives s under m))) (h.few s under) (h.marks s under) mode,
    ap (λ (l : List Holding). times_held l (holding c s mode)) (still_more script c (n.made c) command makes.next),
    ap (λ (k : ℕ). times_held (may_still_hold script c k) (holding c s mode)) makes.made,
  );
  few = λ s under. (makes.acts s under).few (h.few s under) (λ mode which. makes.none s mode under which);
  asked = λ s ask under there live own. elim ((makes.acts s under).asks ask there live) [
    | inl old ↦ absurd (makes.idle s under ask old.0 old.1 own)
    | inr new ↦ (n.made c, makes.made, makes.next ∙ ap Some new.1)
  ];
  marks = λ s under gone. h.marks s under ((makes.acts s under).marks c gone);
}
  where
    locks : List Holding
    locks = may_still_hold script c (n.made c)

-- the last command, twice
last_twice : (commands : List Command) (k j : ℕ) (a b : Command) → suc k ≡ suc j → slice_get commands k ≡ Some a → slice_get commands j ≡ Some b → a ≡ b
last_twice commands k j a b e f g = some_one a b (sym f ∙ ap (slice_get commands) (omega (arith, e)) ∙ g)
  where
    some_one : (x y : Command) → Some x ≡ Some y → x ≡ y
    some_one x y e = cc

-- what a waiting client has of a set is of a smaller rank than the one for which it waits, or of the same set, whose lock it changes
abbrev pub WaitsAbove : (rank : ℕ → ℕ) (t s : ℕ) (ask : Ask) → Type 0
WaitsAbove rank t s ask = (rank t < rank s) ⊎ ((t ≡ s) × (g : Mode) × (ask.gives_up ≡ Some g))

pub waits_above : (script : ScriptData) (rank : ℕ → ℕ) (n : NodeState) (c s t : ℕ) (ask : Ask) (other : Mode) → IsTrue (is_upgrading_from script rank c [] (commands_of script c)) → IsWithin script n c
    → KeepsDesk script.nodes (n.set s) → s < length script.sets → t < length script.sets → Contains (n.set s).pending ask → is_gone (n.set s) ask.client ≡ false → ask.client ≡ c
    → 1 ≤ total (n.set t).held c other → WaitsAbove rank t s ask
waits_above script rank n c s t ask other in_order within keeps in_sets also there live own holds = by_choice ask.gives_up refl
  where
    key : Holding
    key = holding c t other

    last : (k : ℕ) × (n.made c ≡ suc k) × (slice_get (commands_of script c) k ≡ Some (command_of s ask))
    last = within.asked s ask in_sets there live own

    locks : List Holding
    locks = may_still_hold script c last.0

    -- another unanswered ask of the client is that of the same command
    same_command : (a : Ask) → Contains (n.set t).pending a → is_gone (n.set t) a.client ≡ false → a.client ≡ c → command_of t a ≡ command_of s ask
    same_command a found lives his =
        let more = within.asked t a also found lives his in
        last_twice (commands_of script c) more.0 last.0 (command_of t a) (command_of s ask) (sym more.1 ∙ last.1) more.2 last.2

    gives_none : ((a : Ask) (g : Mode) → a.gives_up ≡ Some g → Change t g a.mode ≡ command_of s ask → ⊥) → asks_giving (n.set t) c other ≡ 0
    gives_none unlike = none_giving (n.set t) c other (λ a found lives his. by_gives a found lives his a.gives_up refl)
      where
        by_gives : (a : Ask) → Contains (n.set t).pending a → is_gone (n.set t) a.client ≡ false → a.client ≡ c → (o : Option Mode) → a.gives_up ≡ o → gives o other ≡ true → ⊥
        by_gives a found lives his None e f = false≢true f
        by_gives a found lives his (Some g) e f = unlike a g e (ap (command_by t a.mode) (sym e) ∙ same_command a found lives his)

    -- so it may hold and ask for no more
    counted : asks_giving (n.set t) c other ≡ 0 → total (n.set t).held c other + asks_for (n.set t) c other ≤ times_held (may_still_hold_after script c locks (command_of s ask)) key
    counted none = omega (
      arith,
      held_within script n c t other within also none,
      ap (λ (k : ℕ). times_held (may_still_hold script c k) key) last.1,
      ap (λ (l : List Holding). times_held l key) (still_more script c last.0 (command_of s ask) last.2),
    )

    by_choice : (o : Option Mode) → ask.gives_up ≡ o → WaitsAbove rank t s ask
    by_choice None e = inl (ranked_lock rank s locks key (upgrades_at script rank c last.0 (Lock s ask.mode) in_order (last.2 ∙ ap Some is_lock)) (by_same (same_holding key (holding c s ask.mode)) refl))
      where
        is_lock : command_of s ask ≡ Lock s ask.mode
        is_lock = ap (command_by s ask.mode) e

        none : asks_giving (n.set t) c other ≡ 0
        none = gives_none (λ a g f same. lock_change (same ∙ is_lock))
          where
            lock_change : {g m : Mode} → Change t g m ≡ Lock s ask.mode → ⊥
            lock_change f = cc

        now : total (n.set t).held c other + asks_for (n.set t) c other ≤ (if same_holding key (holding c s ask.mode) then times_held locks key + 1 else times_held locks key)
        now = omega (arith, counted none, ap (λ (x : Command). times_held (may_still_hold_after script c locks x) key) is_lock, may_count script c key locks (Lock s ask.mode))

        some : 1 ≤ asks_for (n.set s) c ask.mode
        some = counted_some (is_for (is_gone (n.set s) c) c ask.mode) (n.set s).pending ask there
            (and_from _ _ (ap not (ap (is_gone (n.set s)) (sym own) ∙ live)) (and_from _ _ (eq-eqb c ask.client (sym own)) (has-itself ask.mode)))

        by_same : (same : Bool) → same_holding key (holding c s ask.mode) ≡ same → 1 ≤ times_held locks key
        by_same true f =
            let is : key ≡ holding c s ask.mode = same_holding-true key (holding c s ask.mode) f in
            let asks_here : asks_for (n.set t) c other ≡ asks_for (n.set s) c ask.mode = ap (λ (k : Holding). asks_for (n.set k.set) c k.mode) is in
            omega (arith, holds, some, asks_here, now, ap (λ (b : Bool). if b then times_held locks key + 1 else times_held locks key) f)
        by_same false f = omega (arith, holds, now, ap (λ (b : Bool). if b then times_held locks key + 1 else times_held locks key) f)
    by_choice (Some g) e = elim (cases_eq t s) [
      | inl same ↦ inr (same, g, e)
      | inr differ ↦ inl (beside_lock rank s locks key beside (left differ) differ)
    ]
      where
        is_change : command_of s ask ≡ Change s g ask.mode
        is_change = ap (command_by s ask.mode) e

        none : t ≢ s → asks_giving (n.set t) c other ≡ 0
        none d = gives_none (λ a h f same. d (same_set (same ∙ is_change)))
          where
            same_set : {h m : Mode} → Change t h m ≡ Change s g ask.mode → t ≡ s
            same_set f = cc

        left : t ≢ s → 1 ≤ times_held locks key
        left d = omega (
          arith,
          holds,
          counted (none d),
          ap (λ (x : Command). times_held (may_still_hold_after script c locks x) key) is_change,
          aside_change script c t s g ask.mode locks other d,
        )

        beside : are_beside_or_below rank s locks ≡ true
        beside = elim (or_cases (covers (only g) ask.mode) _ (upgrades_at script rank c last.0 (Change s g ask.mode) in_order (last.2 ∙ ap Some is_change))) [
          | inl covered ↦ absurd (false≢true (sym (keeps.next ask g there e).higher ∙ covered))
          | inr below_it ↦ (and_parts (excludes_itself g) _ below_it).1
        ]
