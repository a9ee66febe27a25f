-- Before and after the turn all callers and their seats looked.
use Rattle.std.proofs.Common.{subst}
use Rattle.lt_live_serve.specs.Completing.{AreStationsKept}
use Rattle.lt_live_serve.proofs.Stepped.{serving_turned, all_after, complete, fewer}
use Rattle.lt_live_serve.proofs.completing.take_more.Goals as goal

pub look_all-requires-2 : goal.look_all-requires-2
look_all-requires-2 g c =
    serving_turned c.args.script.now c.in_ok-more.more c.look_all.new.stations.items c.turn_all.new.stations.items c.look_all.new.callers.items
    c.look_all.ensures.serving c.in_ok-more.ensures

pub returns-clause-submitted : goal.returns-clause-submitted
returns-clause-submitted g c =
    all_after c.args.script.now c.in_ok-more.more c.args.stations.now.items c.look_all.new.stations.items c.turn_all.new.stations.items
    c.look_all-2.new.stations.items c.args.callers.now.items c.look_all.new.callers.items c.look_all-2.new.callers.items c.requires.kept
    c.requires.submitted c.look_all.ensures (subst AreStationsKept c.deref.ensures.value c.are_kept.ensures) c.in_ok-more.ensures c.look_all-2.ensures
    (subst AreStationsKept c.deref-2.ensures.value c.are_kept-2.ensures)

pub returns-clause-more : goal.returns-clause-more
returns-clause-more g c =
    fewer c.args.script.now c.in_ok-more.more c.args.stations.now.items c.look_all.new.stations.items c.turn_all.new.stations.items
    c.look_all-2.new.stations.items c.args.callers.now.items c.look_all.new.callers.items c.look_all-2.new.callers.items c.requires.kept
    c.requires.submitted c.look_all.ensures (subst AreStationsKept c.deref.ensures.value c.are_kept.ensures) c.in_ok-more.ensures c.look_all-2.ensures
    (subst AreStationsKept c.deref-2.ensures.value c.are_kept-2.ensures)

pub returns-clause-none : goal.returns-clause-none
returns-clause-none g c =
    complete c.args.script.now c.in_ok-more.more c.args.stations.now.items c.look_all.new.stations.items c.turn_all.new.stations.items
    c.look_all-2.new.stations.items c.args.callers.now.items c.look_all.new.callers.items c.look_all-2.new.callers.items c.requires.kept
    c.requires.submitted c.look_all.ensures (subst AreStationsKept c.deref.ensures.value c.are_kept.ensures) c.in_ok-more.ensures c.look_all-2.ensures
    (subst AreStationsKept c.deref-2.ensures.value c.are_kept-2.ensures)
