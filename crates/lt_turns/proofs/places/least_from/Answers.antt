use Rattle.std.proofs.Common.{◌≡◌, ◌<◌, ◌∙◌, ℕ, Option, None, arith, ap, length}
use Rattle.std.proofs.lemmas.List.{get_or_default}
use Rattle.lt_turns.specs.Turns.{turn_place, nearer_place}
use Rattle.lt_turns.proofs.PlaceLemmas.{place_more}
use Rattle.lt_turns.proofs.places.least_from.Goals as goal

pub loop-player-preserved : goal.loop-player-preserved
loop-player-preserved c =
    let numbers = c.args.numbers.now in
    let player = c.loop-player.player in
    let first = c.loop-player.first in
    let next = c.nearer_place-first.ensures ∙ ap (nearer_place c.args.from first)
    (c.turn_place.ensures ∙ ap (λ (o : Option ℕ). turn_place o player) (get_or_default numbers player _ None c.loop-player-test.true)) in
    place_more numbers c.args.from player first c.nearer_place-first.result c.loop-player.invariant c.requires.small (omega (arith, c.loop-player-test.true, c.requires.few)) next
