use Rattle.std.proofs.Common.{◌≡◌, ◌≢◌, ◌<◌, ℕ, List, Option, None, length, slice_index_or, sym, subst}
use Rattle.lt_modes.specs.declared.moves.Step.{Step}
use Rattle.lt_modes.specs.declared.moves.Step.TheVariants.{Act}
use Rattle.lt_spec.specs.World.{World}
use Rattle.lt_world.specs.Fields.{AreTurns, turn_of, world_in}
use Rattle.lt_world.proofs.TurnOrder.{actor_noted}
use Rattle.lt_world.proofs.world.turns.note_turns.Goals as goal

pub returns-in-Act : goal.returns-in-Act
returns-in-Act c =
    let script = c.args.script.now in
    let w : World = world_in script c.args.network.now in
    let noted = c.note_named.new.turns in
    subst (λ (turns : List (Option ℕ)). AreTurns script turns w) (sym c.note_turn.ensures)
    (actor_noted script w c.in-Act.client noted c.note_named.ensures.count
    (subst (λ (step : Step). (client : ℕ) → client < length script.clients → step ≢ Act client → slice_index_or noted client None ≡ turn_of script w client) c.in-Act.is c.note_named.ensures.others))
