-- Which set is found among some, one after the other.
use Rattle.std.proofs.Common.{◌≡◌, ◌∙◌, ◌≤◌, ◌<◌, ◌+◌, ◌-◌, ℕ, zero, suc, Bool, true, false, Option, Some, None, inl, inr, refl, sym, ap, ap₂, arith, length, if◌then◌else◌, IsTrue, IsFalse, nat_lt}
use Rattle.std.specs.Option.{option_or}
use Rattle.std.proofs.lemmas.Bool.{cases_eq, lt-ltb}
use Rattle.lt_modes.specs.declared.mode.Mode.{Mode}
use Rattle.lt_modes.specs.Modes.{count_of}
use Rattle.lt_modes.proofs.ModeAlgebra.{any_mode-at}
use Rattle.lt_spec.specs.NodeMove.{NodeState}
use Rattle.lt_view.specs.View.{holds_in, held_at, held_among}
use Rattle.lt_view.specs.ViewLaws.{FindsHeld, FindsNoneHeld, HoldsByLocks}

-- what is found among the first sets stays
pub among_stays : (n : NodeState) (client from k count found : ℕ) → k ≤ count → held_among n client from k ≡ Some found → held_among n client from count ≡ Some found
among_stays n client from zero zero found h e = e
among_stays n client from (suc k) zero found h e = absurd (omega (arith, h))
among_stays n client from k (suc count) found h e = elim (cases_eq k (suc count)) [
  | inl same ↦ ap (held_among n client from) (sym same) ∙ e
  | inr less ↦ ap (λ (o : Option ℕ). option_or o (held_at n client (from + count))) (among_stays n client from k count found (omega (arith, h, less)) e)
]

-- one set more, in which no lock is held, or one
pub among_step : (n : NodeState) (client from set : ℕ) (b : Bool) → from ≤ set → held_among n client from (set - from) ≡ None
    → holds_in n client set ≡ b → held_among n client from (set + 1 - from) ≡ (if b then Some set else None)
among_step n client from set b order none here =
    let count : set + 1 - from ≡ suc (set - from) = omega (arith, order) in
    let last : from + (set - from) ≡ set = omega (arith, order) in
    ap (held_among n client from) count
    ∙ ap₂ (λ (o p : Option ℕ). option_or o p) none
    (ap (held_at n client) last ∙ ap (λ (h : Bool). if h then Some set else None) here)

-- where none is found, no lock is held in any of these sets
pub none_among : (n : NodeState) (client from count : ℕ) → held_among n client from count ≡ None
    → (k : ℕ) → from ≤ k → k < from + count → IsFalse (holds_in n client k)
none_among n client from zero e k low high = absurd (omega (arith, low, high))
none_among n client from (suc count) e k low high =
    by_first (held_among n client from count) refl (holds_in n client (from + count)) refl e
    (λ before less. none_among n client from count before k low less)
  where
    by_first : (o : Option ℕ) → held_among n client from count ≡ o
        → (b : Bool) → holds_in n client (from + count) ≡ b
        → option_or o (if b then Some (from + count) else None) ≡ None
        → (held_among n client from count ≡ None → k < from + count → IsFalse (holds_in n client k))
        → IsFalse (holds_in n client k)
    by_first (Some found) before b here none again = cc
    by_first None before true here none again = cc
    by_first None before false here none again = elim (cases_eq k (from + count)) [
      | inl same ↦ ap (holds_in n client) same ∙ here
      | inr less ↦ again before (omega (arith, high, less))
    ]

-- what is said of a set that is found among so many
record IsFirstAmong (n : NodeState) (client from count set : ℕ) : Type 0 where
  later : from ≤ set
  inside : set < from + count
  held : IsTrue (holds_in n client set)
  none_between : (k : ℕ) → from ≤ k → k < set → IsFalse (holds_in n client k)

some_among : (n : NodeState) (client from count set : ℕ) → held_among n client from count ≡ Some set → IsFirstAmong n client from count set
some_among n client from zero set e = cc
some_among n client from (suc count) set e =
    by_first (held_among n client from count) refl (holds_in n client (from + count)) refl e
    (λ before. some_among n client from count set before)
  where
    by_first : (o : Option ℕ) → held_among n client from count ≡ o
        → (b : Bool) → holds_in n client (from + count) ≡ b
        → option_or o (if b then Some (from + count) else None) ≡ Some set
        → (held_among n client from count ≡ Some set → IsFirstAmong n client from count set)
        → IsFirstAmong n client from (suc count) set
    by_first (Some found) before b here is again =
        let first = again (before ∙ is) in
        record {
          later = first.later;
          inside = omega (arith, first.inside);
          held = first.held;
          none_between = first.none_between;
        }
    by_first None before true here is again =
        let same : from + count ≡ set = cc in
        record {
          later = omega (arith, same);
          inside = omega (arith, same);
          held = ap (holds_in n client) (sym same) ∙ here;
          none_between = λ k low high. none_among n client from count before k low (omega (arith, high, same));
        }
    by_first None before false here is again = cc

pub finds_held : FindsHeld
finds_held script n client from set e =
    let first = some_among n client from (length script.sets - from) set e in
    record {
      later = first.later;
      inside = omega (arith, first.later, first.inside);
      held = first.held;
      none_between = first.none_between;
    }

pub finds_none_held : FindsNoneHeld
finds_none_held script n client from e k low high =
    none_among n client from (length script.sets - from) e k low (omega (arith, low, high))

some_held : (n : NodeState) (client set : ℕ) (mode : Mode) → 0 < count_of (n.set set).held client mode → IsTrue (holds_in n client set)
some_held n client set mode more =
    any_mode-at (λ (m : Mode). nat_lt 0 (count_of (n.set set).held client m)) mode (lt-ltb 0 (count_of (n.set set).held client mode) more)

pub holds_by_locks : HoldsByLocks
holds_by_locks script n client set = record {
  some = λ mode more. by_inside mode (nat_lt set (length script.sets)) more;
  none = λ never mode. by_none mode (nat_lt set (length script.sets)) never;
}
  where
    by_inside : (mode : Mode) (b : Bool) → 0 < (if b then count_of (n.set set).held client mode else 0) → IsTrue (holds_in n client set)
    by_inside mode true more = some_held n client set mode more
    by_inside mode false more = absurd (omega (arith, more))

    by_count : (mode : Mode) (count : ℕ) → count_of (n.set set).held client mode ≡ count → IsFalse (holds_in n client set) → count ≡ 0
    by_count mode zero is never = refl
    by_count mode (suc k) is never =
        let held : IsTrue (holds_in n client set) = some_held n client set mode (omega (arith, is)) in
        cc

    by_none : (mode : Mode) (b : Bool) → IsFalse (holds_in n client set) → (if b then count_of (n.set set).held client mode else 0) ≡ 0
    by_none mode true never = by_count mode (count_of (n.set set).held client mode) refl never
    by_none mode false never = refl
