use Rattle.std.proofs.Common.{◌≡◌, ◌<◌, ◌+◌, ◌∙◌, ℕ, Option, None, length, arith, sym, ap, subst}
use Rattle.std.proofs.lemmas.List.{get_or_default}
use Rattle.lt_turns.specs.Turns.{IsNext, IsLeastFrom, number_at, turn_place}
use Rattle.lt_turns.proofs.PlaceLemmas.{next_by_place}
use Rattle.lt_turns.proofs.places.first_after_turn.Goals as goal

pub returns : goal.returns
returns c =
    let numbers = c.args.numbers.now in
    let player = c.args.player in
    let first = c.least_from.result in
    let inside : c.from.result < length numbers = omega (arith, c.requires.inside, c.from.ensures) in
    let here : c.turn_place-here.result ≡ turn_place (number_at numbers player) player =
    c.turn_place-here.ensures ∙ ap (λ (o : Option ℕ). turn_place o player) (get_or_default numbers c.from.result _ None inside ∙ ap (number_at numbers) c.from.ensures) in
    let least : IsLeastFrom numbers (turn_place (number_at numbers player) player + 1) (length numbers) first =
    subst (λ (h : ℕ). IsLeastFrom numbers (h + 1) (length numbers) first) here c.least_from.ensures in
    subst (IsNext numbers player) (sym c.player_at_place.ensures) (next_by_place numbers player first c.requires.few c.requires.small c.requires.inside least)
