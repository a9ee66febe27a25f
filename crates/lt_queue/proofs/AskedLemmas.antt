-- How many asks want a mode: after one came or went, and whether any does.
use Rattle.std.proofs.Common.{◌≡◌, ◌∙◌, ℕ, ◌+◌, ◌<◌, ◌≤◌, ◌^◌, Bool, true, false, List, [], ◌∷◌, length, sym, arith, refl, ap, ◌||◌, if◌then◌else◌, nat_lt, slice_index_or, insert, remove, fold}
use Rattle.std.proofs.lemmas.Bool.Decides.{nat_tests}
use Rattle.std.proofs.lemmas.List.Sums.{sum_by-insert, sum_by-remove, sum_by-cons, get_or-le-sum_by, count_by-le-length}
use Rattle.lt_modes.specs.declared.mode.Mode.{Mode}
use Rattle.lt_modes.specs.declared.ask.Ask.{Ask}
use Rattle.lt_modes.specs.Modes.{Modes, has, one, no_modes, with_mode, same_mode}
use Rattle.lt_modes.specs.State.{modes_of_asks}
use Rattle.lt_modes.proofs.ModeAlgebra.{has-modes_by, same_members, has-no_modes}
use Rattle.lt_modes.specs.FiveModes.{mode_count, count_if, CanShift, IsShifted, modes_beyond}
use Rattle.lt_queue.specs.QueueData.{asks_for, AreAskCounts}

-- whether the ask wants the mode, as a number
abbrev weight : Mode → Ask → ℕ
weight mode ask = if same_mode ask.mode mode then 1 else 0

weighs : (mode : Mode) (ask : Ask) → count_if (has mode (one ask.mode)) ≡ weight mode ask
weighs mode ask = ap count_if (has-modes_by (same_mode ask.mode) mode)

weighs_none : (mode : Mode) → count_if (has mode no_modes) ≡ 0
weighs_none mode = ap count_if (has-no_modes mode)

pub may_come : (asks : List Ask) (counts : List ℕ) (ask : Ask) (none of_ask : Modes) → AreAskCounts asks counts → length asks + 1 < 2 ^ 32
    → none ≡ no_modes → of_ask ≡ one ask.mode → (mode : Mode) → CanShift counts none of_ask mode
may_come asks counts ask none of_ask are few is_none is_one mode =
    let nothing : count_if (has mode none) ≡ 0 = ap (λ (m : Modes). count_if (has mode m)) is_none ∙ weighs_none mode in
    let own : count_if (has mode of_ask) ≡ weight mode ask = ap (λ (m : Modes). count_if (has mode m)) is_one ∙ weighs mode ask in
    record {
      there = omega (arith, nothing);
      within = omega (arith, nothing, own, most_one (same_mode ask.mode mode), are mode, count_by-le-length (λ (a : Ask). same_mode a.mode mode) asks, few);
    }
  where
    most_one : (b : Bool) → count_if b ≤ 1
    most_one true = omega arith
    most_one false = omega arith

pub one_came : (asks : List Ask) (counts made : List ℕ) (k : ℕ) (ask : Ask) (none of_ask : Modes) → AreAskCounts asks counts
    → none ≡ no_modes → of_ask ≡ one ask.mode
    → ((mode : Mode) → IsShifted counts none of_ask mode (mode_count mode made)) → AreAskCounts (insert asks k ask) made
one_came asks counts made k ask none of_ask are is_none is_one shifted mode =
    let nothing : count_if (has mode none) ≡ 0 = ap (λ (m : Modes). count_if (has mode m)) is_none ∙ weighs_none mode in
    let own : count_if (has mode of_ask) ≡ weight mode ask = ap (λ (m : Modes). count_if (has mode m)) is_one ∙ weighs mode ask in
    omega (arith, are mode, shifted mode, nothing, own, sum_by-insert (weight mode) asks k ask)

pub may_go : (asks : List Ask) (counts : List ℕ) (k : ℕ) (ask : Ask) (of_ask none : Modes) → AreAskCounts asks counts → length asks < 2 ^ 32 → k < length asks
    → ask ≡ slice_index_or asks k ask → of_ask ≡ one ask.mode → none ≡ no_modes → (mode : Mode) → CanShift counts of_ask none mode
may_go asks counts k ask of_ask none are few h there is_one is_none mode =
    let nothing : count_if (has mode none) ≡ 0 = ap (λ (m : Modes). count_if (has mode m)) is_none ∙ weighs_none mode in
    let own : count_if (has mode of_ask) ≡ weight mode ask = ap (λ (m : Modes). count_if (has mode m)) is_one ∙ weighs mode ask in
    record {
      there = omega (arith, own, are mode, ap (weight mode) there, get_or-le-sum_by (weight mode) asks k ask h);
      within = omega (arith, nothing, are mode, count_by-le-length (λ (a : Ask). same_mode a.mode mode) asks, few);
    }

pub one_went : (asks : List Ask) (counts made : List ℕ) (k : ℕ) (ask : Ask) (of_ask none : Modes) → AreAskCounts asks counts → k < length asks
    → ask ≡ slice_index_or asks k ask → of_ask ≡ one ask.mode → none ≡ no_modes
    → ((mode : Mode) → IsShifted counts of_ask none mode (mode_count mode made)) → AreAskCounts (remove asks k) made
one_went asks counts made k ask of_ask none are h there is_one is_none shifted mode =
    let nothing : count_if (has mode none) ≡ 0 = ap (λ (m : Modes). count_if (has mode m)) is_none ∙ weighs_none mode in
    let own : count_if (has mode of_ask) ≡ weight mode ask = ap (λ (m : Modes). count_if (has mode m)) is_one ∙ weighs mode ask in
    omega (arith, are mode, shifted mode, nothing, own, ap (weight mode) there, sum_by-remove (weight mode) asks k ask h)

or_more : (a b : Bool) (n : ℕ) → ((a || b) || nat_lt 0 n) ≡ (a || nat_lt 0 ((if b then 1 else 0) + n))
or_more true b n = refl
or_more false true n = grind (arith, nat_tests)
or_more false false n = ap (λ (k : ℕ). nat_lt 0 k) (omega arith)

wanted : (mode : Mode) (first : Modes) (asks : List Ask)
    → has mode (fold (λ modes (ask : Ask). with_mode modes ask.mode) first asks) ≡ (has mode first || nat_lt 0 (asks_for mode asks))
wanted mode first [] = or_false (has mode first)
  where
    or_false : (b : Bool) → b ≡ (b || false)
    or_false true = refl
    or_false false = refl
wanted mode first (ask ∷ asks) =
    wanted mode (with_mode first ask.mode) asks
    ∙ (ap (λ (b : Bool). b || nat_lt 0 (asks_for mode asks))
    (has-modes_by (λ m. has m first || has m (one ask.mode)) mode ∙ ap (λ (b : Bool). has mode first || b) (has-modes_by (same_mode ask.mode) mode))
    ∙ (or_more (has mode first) (same_mode ask.mode mode) (asks_for mode asks)
    ∙ ap (λ (n : ℕ). has mode first || nat_lt 0 n) (sym (sum_by-cons (weight mode) ask asks))))

-- the modes that are asked for are those of the asks
pub modes_are : (asks : List Ask) (counts : List ℕ) (a b : Modes) → AreAskCounts asks counts → a ≡ no_modes → b ≡ no_modes
    → modes_beyond counts a b ≡ modes_of_asks asks
modes_are asks counts a b are is_a is_b = same_members _ _ (λ mode.
    let no_a : count_if (has mode a) ≡ 0 = ap (λ (m : Modes). count_if (has mode m)) is_a ∙ weighs_none mode in
    let no_b : count_if (has mode b) ≡ 0 = ap (λ (m : Modes). count_if (has mode m)) is_b ∙ weighs_none mode in
    has-modes_by (λ m. nat_lt (count_if (has m a) + count_if (has m b)) (mode_count m counts)) mode
    ∙ (rw (no_a, no_b, are mode) refl
    ∙ sym (wanted mode no_modes asks ∙ ap (λ (b : Bool). b || nat_lt 0 (asks_for mode asks)) (has-no_modes mode))))
