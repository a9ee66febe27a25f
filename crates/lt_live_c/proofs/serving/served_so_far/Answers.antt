-- What was served can be counted at each session.
use Rattle.std.proofs.Common.{List, All, length, sym, subst}
use Rattle.lt_live.specs.declared.ends.Session.{Session}
use Rattle.lt_live_c.specs.Serving.{IsCountable}
use Rattle.lt_live_c.proofs.Countable.{are_countable}
use Rattle.lt_live_c.proofs.serving.served_so_far.Goals as goal

pub totals_of-requires : goal.totals_of-requires
totals_of-requires c =
    subst (λ (xs : List Session). All (IsCountable (length xs)) xs) (sym c.deref.ensures.value) (
    are_countable c.args.service.now.stations.items c.served.new.stations.items c.args.service.now.sessions.items
    c.served.new.sessions.items c.requires.whole c.served.ensures.served c.served.ensures.live
    c.law_polled_in_turn.ensures.no_more
    )
