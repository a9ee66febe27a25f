use Rattle.std.proofs.Common.{◌≡◌, ◌<◌, ◌∙◌, ◌+◌, ℕ, List, Option, Some, length, sym, ap, subst, arith, slice_index_or}
use Rattle.std.proofs.lemmas.List.{get_or_default}
use Rattle.lt_turns.specs.Turns.{IsNext, IsFirstAfter, rank_at, player_of}
use Rattle.lt_turns.proofs.TreeLemmas.{IsNearNext, is_next}
use Rattle.lt_turns.proofs.turns.Turns.after.Goals as goal

pub returns-in-Some : goal.returns-in-Some
returns-in-Some c =
    let s = c.self.inside in
    let n = length s.numbers.items in
    let inside : c.args.player < n = omega (arith, c.requires, ap length c.self.view_is) in
    let here : c.index-here.result.now ≡ rank_at s.ranks.items (n + c.args.player) =
    c.index-here.ensures
    ∙ (ap (λ (k : ℕ). slice_index_or s.ranks.items k c.index-here.result.now) (omega (arith, c.len.ensures, c.from.ensures))
    ∙ get_or_default s.ranks.items (n + c.args.player) c.index-here.result.now 0 (omega (arith, inside, c.self.invariant.nodes))) in
    let first : IsFirstAfter s.ranks.items (rank_at s.ranks.items (n + c.args.player)) (length s.ranks.items) c.first_after.result =
    subst (λ (rank : ℕ). IsFirstAfter s.ranks.items rank (length s.ranks.items) c.first_after.result) here
    (subst (λ (ranks : List ℕ). IsFirstAfter ranks c.index-here.result.now (length ranks) c.first_after.result) c.deref-2.ensures.value c.first_after.ensures) in
    subst (λ (xs : List (Option ℕ)). IsNext xs c.args.player (Some c.in-Some.next)) c.self.view_is
    (subst (IsNearNext s.numbers.items c.args.player) (sym c.in-Some.ensures)
    (is_next s.numbers.items s.ranks.items s.count c.args.player c.first_after.result c.self.invariant inside first))
