-- What was opened is of one script.
use Rattle.lt_live_c.proofs.service.Service.of.Goals as goal

pub returns-clause-whole : goal.returns-clause-whole
returns-clause-whole c = (
  c.args.script.now,
  c.law_live_lasts.ensures.opened c.args.script.now c.args.limit c.args.places c.most_share.result c.in_ok-stations.stations.items c.in_ok-stations.sessions.items
      c.requires.commands c.in_ok-stations.ensures,
)
