-- All that are served stay of one script.
use Rattle.lt_tests.proofs.live.exchange_served.Goals as goal

pub returns : goal.returns
returns g c = (c.exchange.ensures.0, c.served.ensures.live c.exchange.ensures.0 c.exchange.ensures.1)
