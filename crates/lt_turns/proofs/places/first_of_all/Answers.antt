use Rattle.std.proofs.Common.{sym, subst}
use Rattle.lt_turns.specs.Turns.{IsFirst}
use Rattle.lt_turns.proofs.PlaceLemmas.{first_by_place}
use Rattle.lt_turns.proofs.places.first_of_all.Goals as goal

pub returns : goal.returns
returns c =
    let numbers = c.args.numbers.now in
    subst (IsFirst numbers) (sym c.player_at_place.ensures) (first_by_place numbers c.least_from.result c.requires.few c.requires.small c.least_from.ensures)
