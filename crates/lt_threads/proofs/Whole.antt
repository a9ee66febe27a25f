-- Runners that have forgotten nothing.
use Rattle.std.proofs.Common.{◌≡◌, ℕ, ◌+◌, ◌<◌, ◌≤◌, inl, inr, List, [], ◌∷◌, Some, length, sym, ap, subst, arith, ◌∙◌, get_or, slice_get, remove, suc}
use Rattle.std.proofs.lemmas.Bool.{cases_eq}
use Rattle.std.proofs.lemmas.Option.{slice_get-get_or, slice_get_within}
use Rattle.lt_lists.proofs.Members.{some_equal}
use Rattle.lt_runner.specs.declared.parts.Parts.{Parts}
use Rattle.lt_runner.specs.Kept.{SameRunner, AsSeen, Grew, HasAll}
use Rattle.lt_threads.specs.Meeting.{EachIs, HaveAll}
use Rattle.lt_threads.proofs.Each.{each_before, each_weaker}

-- the same runners have all
pub all_last : (old new : List Parts) → EachIs SameRunner old new → HaveAll old → HaveAll new
all_last old new same all k p e =
    let was = each_before SameRunner old new same k p e in
    let is : SameRunner was.0 p = was.2 in
    let had = all k was.0 was.1 in
    (is.gone ∙ had.0, is.commands_gone ∙ had.1)

pub all_seen : (old new : List Parts) → EachIs AsSeen old new → HaveAll old → HaveAll new
all_seen old new seen = all_last old new (each_weaker AsSeen SameRunner (λ a b h. h.same) old new seen)

pub all_grew : (old new : List Parts) → EachIs Grew old new → HaveAll old → HaveAll new
all_grew old new grew = all_last old new (each_weaker Grew SameRunner (λ a b h. h.same) old new grew)

-- the first of them, and the others
pub first_has : (rs : List Parts) (d : Parts) → HaveAll rs → 0 < length rs → HasAll (get_or rs 0 d)
first_has rs d all some = all 0 (get_or rs 0 d) (slice_get-get_or rs 0 d some)

pub rest_have : (rs : List Parts) → HaveAll rs → HaveAll (remove rs 0)
rest_have [] all = all
rest_have (q ∷ rs) all = λ k p e. all (suc k) p e

-- the first n have all
abbrev pub HaveAllTo : ℕ → List Parts → Type 0
HaveAllTo n rs = (k : ℕ) (p : Parts) → k < n → slice_get rs k ≡ Some p → HasAll p

pub next_has : (n : ℕ) (rs : List Parts) (d : Parts) → n < length rs → HaveAllTo n rs → HasAll (get_or rs n d) → HaveAllTo (n + 1) rs
next_has n rs d inside before here k p below e = elim (cases_eq k n) [
  | inl at ↦ subst HasAll (some_equal (get_or rs n d) p (sym (slice_get-get_or rs n d inside) ∙ ap (slice_get rs) (sym at) ∙ e)) here
  | inr apart ↦ before k p (omega (arith, below, apart)) e
]

pub one_has : (n : ℕ) (rs : List Parts) (d : Parts) → n < length rs → HaveAll rs → HasAll (get_or rs n d)
one_has n rs d inside all = all n (get_or rs n d) (slice_get-get_or rs n d inside)

pub all_have : (n : ℕ) (rs : List Parts) → length rs ≤ n → HaveAllTo n rs → HaveAll rs
all_have n rs long has k p e = let inside = slice_get_within rs k p e in has k p (omega (arith, inside, long)) e

-- where not all lack it, each has all
pub all_or_not : (rs : List Parts) → ¬ (¬ HaveAll rs) → HaveAll rs
all_or_not rs some k p e = elim (cases_eq p.log.gone 0) [
  | inl moves ↦ elim (cases_eq p.node.gone 0) [
    | inl commands ↦ (moves, commands)
    | inr not ↦ absurd (some (λ all. not (all k p e).1))
  ]
  | inr not ↦ absurd (some (λ all. not (all k p e).0))
]
