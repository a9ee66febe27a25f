use Rattle.std.proofs.Common.{◌≡◌, ◌<◌, ◌∙◌, ℕ, List, Option, Some, length, sym, ap, subst, arith, vec_len}
use Rattle.std.proofs.lemmas.Bool.{eqb-false}
use Rattle.std.proofs.lemmas.List.{get_or_default}
use Rattle.lt_turns.specs.Turns.{IsFirst, player_of, rank_at}
use Rattle.lt_turns.proofs.TreeLemmas.{IsNearFirst, is_first}
use Rattle.lt_turns.proofs.turns.Turns.first.Goals as goal

pub returns-in-Some : goal.returns-in-Some
returns-in-Some c =
    let s = c.self.inside in
    let some : 0 < length s.numbers.items = omega (arith, eqb-false (vec_len s.numbers) 0 (sym c.is_empty.ensures ∙ c.if-is_empty.false), s.numbers.ok.0) in
    let root : player_of (rank_at s.ranks.items 1) ≡ Some c.in-Some.player =
    ap player_of (sym (c.index.ensures ∙ get_or_default s.ranks.items 1 c.index.result.now 0 (omega (arith, some, c.self.invariant.nodes)))) ∙ sym c.in-Some.ensures in
    subst (λ (xs : List (Option ℕ)). IsFirst xs (Some c.in-Some.player)) c.self.view_is
    (subst (IsNearFirst s.numbers.items) root (is_first s.numbers.items s.ranks.items s.count c.self.invariant some))
