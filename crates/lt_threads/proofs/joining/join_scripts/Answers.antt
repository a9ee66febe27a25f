-- All commands are joined, or they are too many.
use Rattle.lt_threads.proofs.Shares.{joined_all, too_many}
use Rattle.lt_threads.proofs.joining.join_scripts.Goals as goal

pub returns-then-not-have_room-clause-many : goal.returns-then-not-have_room-clause-many
returns-then-not-have_room-clause-many c =
    λ told. too_many c.args.runners.now c.are_scripts.ensures (c.have_room.ensures.many c.if-not-have_room.true)

pub returns-clause-joined : goal.returns-clause-joined
returns-clause-joined c =
    joined_all c.args.runners.now c.in_ok-script.script c.requires c.nodes.ensures.kept (c.have_room.ensures.room c.if-not-have_room.false)
    c.in_ok-script.ensures
