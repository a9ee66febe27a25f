-- A station that forgets moves and then commands goes on.
use Rattle.lt_live_c.proofs.Forgetting.{goes_on_join}
use Rattle.lt_live_c.proofs.calls.forget_at.Goals as goal

pub returns-in-Ok-forget_commands-clause-goes_on : goal.returns-in-Ok-forget_commands-clause-goes_on
returns-in-Ok-forget_commands-clause-goes_on c =
    goes_on_join c.args.remote.now.station c.forget_moves.new.self.station c.forget_commands.new.self.station
    (record { runner = c.forget_moves.ensures.goes_on; seated = c.forget_moves.ensures.seated })
    (record { runner = c.forget_commands.ensures.goes_on; seated = c.forget_commands.ensures.seated })

pub returns-in-Err-clause-goes_on : goal.returns-in-Err-clause-goes_on
returns-in-Err-clause-goes_on c =
    goes_on_join c.args.remote.now.station c.forget_moves.new.self.station c.forget_commands.new.self.station
    (record { runner = c.forget_moves.ensures.goes_on; seated = c.forget_moves.ensures.seated })
    (record { runner = c.forget_commands.ensures.goes_on; seated = c.forget_commands.ensures.seated })
