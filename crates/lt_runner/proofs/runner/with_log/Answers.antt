-- A runner at its start.
use Rattle.std.proofs.Common.{refl}
use Rattle.lt_runner.proofs.KeptLemmas.{kept_at_start}
use Rattle.lt_runner.proofs.runner.with_log.Goals as goal

pub returns-clause-kept : goal.returns-clause-kept
returns-clause-kept c =
    kept_at_start _ c.args.node.script c.args.node.me refl refl c.requires.state c.requires.node c.requires.mail c.requires.log.0 refl (cc) (cc) refl

pub returns-clause-starts : goal.returns-clause-starts
returns-clause-starts c = record {
  script_is = refl;
  me = refl;
  state = c.requires.state;
  mail_is = refl;
  limit_is = refl;
  log = c.requires.log.0;
  gone = c.requires.log.1;
  hand = refl;
}

pub returns-clause-commands_gone : goal.returns-clause-commands_gone
returns-clause-commands_gone c = refl
