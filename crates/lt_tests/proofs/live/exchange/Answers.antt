-- Stations and sessions stay those of their script.
use Rattle.std.proofs.Common.{rules, ◌<◌, ℕ, subst, sym}
use Rattle.lt_live.specs.Live.{StationGoesOn}
use Rattle.lt_live.specs.Words.{SameSession}
use Rattle.lt_live.proofs.SeatLists.{alike_self, alike_join, alike_len}
use Rattle.lt_live.proofs.Settling.{live_lasts, station_itself, same_sessions}
use Rattle.lt_tests.proofs.live.exchange.Goals as goal

pub poll_first-requires : goal.poll_first-requires
poll_first-requires g c =
    subst (λ (n : ℕ). 0 < n) (sym (alike_len SameSession c.args.sessions.now.items c.submit_first.new.sessions.items c.submit_first.ensures))
    (search rules)

pub returns : goal.returns
returns g c = (
  c.requires.0,
  live_lasts c.requires.0 c.args.stations.now.items c.turn_first.new.stations.items c.args.sessions.now.items c.poll_first.new.sessions.items c.requires.1
      c.turn_first.ensures
      (alike_join SameSession same_sessions c.args.sessions.now.items c.submit_first.new.sessions.items c.poll_first.new.sessions.items
      c.submit_first.ensures c.poll_first.ensures),
)
